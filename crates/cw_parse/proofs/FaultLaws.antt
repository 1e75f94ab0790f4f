-- Tokens with a fault have no tree, and the fault has one line.
use Rattle.std.proofs.Common.{◌≡◌, ℕ, List, [], ◌∷◌, ◌++◌, refl, sym, subst, ◌∙◌, append_assoc}
use Rattle.cw_model.specs.declared.token.Token.{Token}
use Rattle.cw_model.specs.Syntax.{Program}
use Rattle.cw_model.specs.Grammar.{Derives, CanBegin, first_line}
use Rattle.cw_parse.specs.Parsed.{FaultsAreOne}

module _ (text : List ℕ) where
  -- if tokens can be completed to a source, so can each of their prefixes
  shorter_begins : (front : List Token) (t : Token) (more : List Token) → CanBegin text (front ++ t ∷ more) → CanBegin text (front ++ t ∷ [])
  shorter_begins front t more g =
      (more ++ g.0, g.1, subst (λ w. Derives text w g.1) (append_assoc front (t ∷ more) g.0 ∙ sym (append_assoc front (t ∷ []) (more ++ g.0))) g.2)

  no_tree : (ts : List Token) (p : Program) (front rest : List Token) → ts ≡ front ++ rest → ((t : Token) (us : List Token) → rest ≡ t ∷ us → CanBegin text (front ++ t ∷ []) → ⊥)
      → (rest ≡ [] → Derives text ts p → ⊥) → Derives text ts p → ⊥
  no_tree ts p front [] parts further end d = end refl d
  no_tree ts p front (t ∷ us) parts further end d = further t us refl (us, p, subst (λ w. Derives text w p) (parts ∙ sym (append_assoc front (t ∷ []) us)) d)

  -- two prefixes of the same tokens: one is a prefix of the other
  pub data Compared : List Token → List Token → List Token → List Token → Type 0 where
    same : {front rest : List Token} → Compared front rest front rest
    less : {front rest : List Token} (t : Token) (more : List Token) → Compared front (t ∷ (more ++ rest)) (front ++ t ∷ more) rest
    greater : {front rest : List Token} (t : Token) (more : List Token) → Compared (front ++ t ∷ more) rest front (t ∷ (more ++ rest))

  under : (x : Token) {front rest front' rest' : List Token} → Compared front rest front' rest' → Compared (x ∷ front) rest (x ∷ front') rest'
  under x same = same
  under x (less {front = front} t more) = less {front = x ∷ front} t more
  under x (greater {front = front} t more) = greater {front = x ∷ front} t more

  compare : (front rest front' rest' : List Token) → front ++ rest ≡ front' ++ rest' → Compared front rest front' rest'
  compare [] rest [] rest' e = rw e same
  compare [] rest (t ∷ front') rest' e = rw e (less {front = []} {rest = rest'} t front')
  compare (t ∷ front) rest [] rest' e = rw (sym e) (greater {front = []} {rest = rest} t front)
  compare (t ∷ front) rest (u ∷ front') rest' e =
      let head : t ≡ u = cc in
      let tail : front ++ rest ≡ front' ++ rest' = cc in
      subst (λ u. Compared (t ∷ front) rest (u ∷ front') rest') head (under t (compare front rest front' rest' tail))

  meet : {front rest front' rest' : List Token} → Compared front rest front' rest'
      → CanBegin text front → CanBegin text front'
      → ((t : Token) (us : List Token) → rest ≡ t ∷ us → CanBegin text (front ++ t ∷ []) → ⊥)
      → ((t : Token) (us : List Token) → rest' ≡ t ∷ us → CanBegin text (front' ++ t ∷ []) → ⊥) → first_line text rest ≡ first_line text rest'
  meet same g g' d d' = refl
  meet (less {front = front} {rest = rest} t more) g g' d d' = absurd (d t (more ++ rest) refl (shorter_begins front t more g'))
  meet (greater {front = front} {rest = rest} t more) g g' d d' = absurd (d' t (more ++ rest) refl (shorter_begins front t more g))

  pub faults_are_one : (ts : List Token) → FaultsAreOne text ts
  faults_are_one ts = record {
    no_tree = λ line p f d. no_tree ts p f.before f.rest f.parts f.no_further (λ none d. f.no_end none p d) d;
    one_line = λ line other f g. f.same_line ∙ meet (compare f.before f.rest g.before g.rest (sym f.parts ∙ g.parts)) f.goes_on g.goes_on f.no_further g.no_further ∙ sym g.same_line;
  }
