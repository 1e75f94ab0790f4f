-- The tokens that end an expression of a level.
use Rattle.std.proofs.Common.{◌≡◌, ℕ, suc, ◌<◌, Bool, true, false, cond, eqb, ltb, List, [], ◌∷◌, Option, Some, None, refl, sym, ap, ◌∙◌, arith}
use Rattle.std.proofs.lemmas.Bool.{ltb-true, ltb-false, lt-ltb, eqb-true, eq-eqb}
use Rattle.cw_model.specs.declared.token.Token.{Token}
use Rattle.cw_model.specs.declared.token.Kind.{Kind}
use Rattle.cw_model.specs.declared.token.Kind.TheVariants as kind
use Rattle.cw_model.specs.declared.syntax.Operator.{Operator}
use Rattle.cw_model.specs.declared.syntax.Operator.TheVariants as operator
use Rattle.cw_model.specs.Grammar.{infix_of}
use Rattle.cw_parse.specs.Parts.{at_level, operator_at}
use Rattle.cw_parse.proofs.Reader.{Stops}

-- the level of an operator; 0 for a bracket, which continues a name; 5 for any other token
abbrev pub rank : Kind → ℕ
rank kind.LeftBracket = 0
rank kind.Star = 1
rank kind.Slash = 1
rank kind.Percent = 1
rank kind.Plus = 2
rank kind.Minus = 2
rank kind.Less = 3
rank kind.LessEqual = 3
rank kind.Greater = 3
rank kind.GreaterEqual = 3
rank kind.Equal = 4
rank kind.NotEqual = 4
rank _ = 5

-- a token of this kind ends an expression of level `k`
abbrev pub stops : ℕ → Kind → Bool
stops k x = ltb k (rank x)

abbrev level_in : Option (ℕ × Operator) → ℕ → ℕ
level_in None d = d
level_in (Some x) d = x.0

rank_of : (x : Kind) (j : ℕ) (o : Operator) → infix_of x ≡ Some (j, o) → rank x ≡ j
rank_of kind.Star j o e = ap (λ v. level_in v 0) e
rank_of kind.Slash j o e = ap (λ v. level_in v 0) e
rank_of kind.Percent j o e = ap (λ v. level_in v 0) e
rank_of kind.Plus j o e = ap (λ v. level_in v 0) e
rank_of kind.Minus j o e = ap (λ v. level_in v 0) e
rank_of kind.Less j o e = ap (λ v. level_in v 0) e
rank_of kind.LessEqual j o e = ap (λ v. level_in v 0) e
rank_of kind.Greater j o e = ap (λ v. level_in v 0) e
rank_of kind.GreaterEqual j o e = ap (λ v. level_in v 0) e
rank_of kind.Equal j o e = ap (λ v. level_in v 0) e
rank_of kind.NotEqual j o e = ap (λ v. level_in v 0) e
rank_of _ j o e = absurd cc

has_level : (x : Kind) → 0 < rank x → rank x < 5 → (o : Operator) × (infix_of x ≡ Some (rank x, o))
has_level kind.LeftBracket a b = absurd (omega arith)
has_level kind.Star a b = (operator.Times, refl)
has_level kind.Slash a b = (operator.Divide, refl)
has_level kind.Percent a b = (operator.Modulo, refl)
has_level kind.Plus a b = (operator.Plus, refl)
has_level kind.Minus a b = (operator.Minus, refl)
has_level kind.Less a b = (operator.Less, refl)
has_level kind.LessEqual a b = (operator.AtMost, refl)
has_level kind.Greater a b = (operator.Greater, refl)
has_level kind.GreaterEqual a b = (operator.AtLeast, refl)
has_level kind.Equal a b = (operator.Equal, refl)
has_level kind.NotEqual a b = (operator.Unequal, refl)
has_level _ a b = absurd (omega arith)

-- a token that ends a level ends the levels below
pub stops_below : (k : ℕ) (ts : List Token) → Stops (stops (suc k)) ts → Stops (stops k) ts
stops_below k [] h = tt
stops_below k (t ∷ ts) h = lt-ltb k (rank t.kind) (let b = ltb-true (suc k) (rank t.kind) h in omega arith)

pub operator_stops : (k : ℕ) (t : Token) (o : Operator) → infix_of t.kind ≡ Some (suc k, o) → stops k t.kind ≡ true
operator_stops k t o e = lt-ltb k (rank t.kind) (let r = rank_of t.kind (suc k) o e in omega arith)

-- an operator of a level does not end the level
pub operator_on : (k : ℕ) (t : Token) (o : Operator) → infix_of t.kind ≡ Some (k, o) → stops k t.kind ≡ true → ⊥
operator_on k t o e h = let r = rank_of t.kind k o e in let l = ltb-true k (rank t.kind) h in omega arith

pub level_of : (k : ℕ) (v : Option (ℕ × Operator)) (o : Operator) → at_level k v ≡ Some o → v ≡ Some (k, o)
level_of k None o e = absurd cc
level_of k (Some (j, p)) o e = go (eqb j k) refl e
  where
    go : (b : Bool) → eqb j k ≡ b → cond {A = Option Operator} b (Some p) None ≡ Some o → ◌≡◌ {A = Option (ℕ × Operator)} (Some (j, p)) (Some (k, o))
    go true f h =
        let s = eqb-true j k f in
        let q : p ≡ o = cc in
        ap (λ v. Some (v, p)) s ∙ ap (λ v. Some (k, v)) q
    go false f h = absurd cc

pub is_level : (k : ℕ) (v : Option (ℕ × Operator)) (o : Operator) → v ≡ Some (k, o) → at_level k v ≡ Some o
is_level k v o e = rw e (ap (λ b. cond {A = Option Operator} b (Some o) None) (eq-eqb k k refl))

pub at_operator : (k : ℕ) (t : Token) (ts : List Token) (o : Operator) → infix_of t.kind ≡ Some (k, o) → operator_at k (t ∷ ts) ≡ Some (o, ts)
at_operator k t ts o e = rw (is_level k (infix_of t.kind) o e) refl

-- the tokens begin with an operator of level `k`
pub data Operated (k : ℕ) : List Token → Operator → List Token → Type 0 where
  operated : {t : Token} {ts : List Token} {o : Operator} → infix_of t.kind ≡ Some (k, o) → Operated k (t ∷ ts) o ts

some_is : (x y : Operator × List Token) → Some x ≡ Some y → x ≡ y
some_is x y e = cc

pub operator_ok : (k : ℕ) (ts : List Token) (o : Operator) (us : List Token) → operator_at k ts ≡ Some (o, us) → Operated k ts o us
operator_ok k [] o us e = absurd cc
operator_ok k (t ∷ ts) o us e = go (at_level k (infix_of t.kind)) refl
  where
    go : (v : Option Operator) → at_level k (infix_of t.kind) ≡ v → Operated k (t ∷ ts) o us
    go None h = absurd (let q : operator_at k (t ∷ ts) ≡ None = rw h refl in cc)
    go (Some p) h =
        let q : operator_at k (t ∷ ts) ≡ Some (p, ts) = rw h refl in
        let same = some_is (p, ts) (o, us) (sym q ∙ e) in
        let op : p ≡ o = ap (λ (z : Operator × List Token). z.0) same in
        let tail : ts ≡ us = ap (λ (z : Operator × List Token). z.1) same in
        rw (sym tail) (operated (level_of k (infix_of t.kind) o (h ∙ ap (λ v. Some v) op)))

-- if the level below ends and no operator of the level follows, the level ends
pub stops_above : (k : ℕ) (ts : List Token) → k < 4 → Stops (stops k) ts → operator_at (suc k) ts ≡ None → Stops (stops (suc k)) ts
stops_above k [] small h e = tt
stops_above k (t ∷ ts) small h e = go (stops (suc k) t.kind) refl
  where
    go : (b : Bool) → stops (suc k) t.kind ≡ b → b ≡ true
    go true f = refl
    go false f =
        let low = ltb-true k (rank t.kind) h in
        let high = ltb-false (suc k) (rank t.kind) f in
        let is : rank t.kind ≡ suc k = omega arith in
        let o = has_level t.kind (omega arith) (omega arith) in
        let here = at_operator (suc k) t ts o.0 (o.1 ∙ ap (λ j. Some (j, o.0)) is) in
        absurd cc
