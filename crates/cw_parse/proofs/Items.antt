-- Reducers, functions and whole sources.
use Rattle.std.proofs.Common.{◌≡◌, ◌≢◌, ℕ, zero, suc, ◌<◌, ◌≤◌, Bool, true, false, List, [], ◌∷◌, ◌++◌, length as len, take, drop}
use Rattle.std.proofs.Common.{◌-◌, Ok, Err, Some, refl, sym, ap, subst, ◌∙◌, append_assoc, arith, inl, inr}
use Rattle.std.proofs.lemmas.List.{append-nil, length-append, take-append-drop}
use Rattle.cw_model.specs.declared.token.Token.{Token}
use Rattle.cw_model.specs.declared.token.Kind.{Kind}
use Rattle.cw_model.specs.declared.token.Kind.TheVariants as kind
use Rattle.cw_model.specs.declared.syntax.Reduction.{Reduction}
use Rattle.cw_model.specs.declared.syntax.Reduction.TheVariants.{Sum, Max}
use Rattle.cw_model.specs.Syntax.{Block, Param, Reducer, Function, Program}
use Rattle.cw_model.specs.Grammar as grammar
use Rattle.cw_model.specs.Grammar.{name_of, gives_int_of, reduction_of, ReadsParams, ReadsFunction, ReadsItems, CanBegin, Derives, HasSyntaxFault, first_line}
use Rattle.cw_parse.specs.declared.marks.Mark.TheVariants as mark
use Rattle.cw_parse.specs.Reading.{Read, Reader, by_first}
use Rattle.cw_parse.specs.Parsed.{HasOneTree, IsRejectedAt}
use Rattle.cw_parse.specs.Parts.{list, param, lines, reduction, reducer, function, Item, Total, Code, item, Items, put_item, items, whole}
use Rattle.cw_parse.proofs.Reader.{Front, Stuck, IsUnique, SomeText, Done, tok, done, bind_ok, bind_err, ok_is}
use Rattle.cw_parse.proofs.Exact.{Exact, Branch, First, any, any_stops, mark as token_of, same_exact, fewer_exact, first_exact, at_first, done_exact}
use Rattle.cw_parse.proofs.Pieces.{Piece, ◌>>>◌, expect, give}
use Rattle.cw_parse.proofs.Lists.{params_exact}
use Rattle.cw_parse.proofs.Blocks.{Lines, lines_exact}

module _ (text : List ℕ) where
  -- ---- one item

  abbrev params_piece : {U : Type 0} {n : ℕ} → Piece U n any (List Param)
  params_piece {U} {n} = record { rel = ReadsParams text; read = list (param text) n; exact = params_exact text U n }

  abbrev body_piece : {U : Type 0} {n : ℕ} → ℕ → Piece U n any (Block × ℕ)
  body_piece {U} {n} site = record { rel = Lines text site; read = lines text n site; exact = lines_exact text U n site }

  abbrev made : Token → Bool → List Param → Block → Function
  made f gives ps b = record { name = name_of text f; line = f.line; gives_int = gives; params = ps; body = b }

  abbrev summed : Token → Token → Reduction → Reducer
  summed t s how = record { name = name_of text s; how = how; line = t.line }

  abbrev function_piece : {U : Type 0} {n : ℕ} → Bool → ℕ → Piece U n any (Function × ℕ)
  function_piece gives site =
      expect mark.Name >>> λ f. expect mark.LeftParen >>> λ _. params_piece >>> λ ps. expect mark.LeftBrace >>> λ _. body_piece site >>> λ b. give (made f gives ps b.0, b.1)

  abbrev code_piece : {U : Type 0} {n : ℕ} → Bool → ℕ → Piece U n any (Item × ℕ)
  code_piece gives site = function_piece gives site >>> λ f. give (Code f.0, f.1)

  abbrev WordBy : Token → Kind → List Token → Reduction → List Token → Type 0
  WordBy u kind.Sum = Done Sum
  WordBy u kind.Max = Done Max
  WordBy u _ = λ ts how rest. ⊥

  word_branch : (U : Type 0) (n : ℕ) (u : Token) (k : Kind) → Branch U n (WordBy u k) any u (reduction u k)
  word_branch U n u kind.Sum = inl (done_exact U n Sum)
  word_branch U n u kind.Max = inl (done_exact U n Max)
  word_branch U n u _ = inr (record { stops = λ ts. refl; never = λ ts a rest d. d })

  some_word : SomeText (First WordBy)
  some_word = record { text = token_of kind.Sum ∷ []; value = Sum; reads = λ after. at_first WordBy (token_of kind.Sum) kind.Sum refl after Sum after done }

  pub word_exact : (U : Type 0) (n : ℕ) → Exact U n (First WordBy) any (by_first reduction)
  word_exact U n = fewer_exact U n (suc n) (First WordBy) any (by_first reduction) (omega arith) (first_exact U n WordBy any reduction some_word (word_branch U n))

  abbrev word_piece : {U : Type 0} {n : ℕ} → Piece U n any Reduction
  word_piece {U} {n} = record { rel = First WordBy; read = by_first reduction; exact = word_exact U n }

  word_into : (u : Token) (k : Kind) → u.kind ≡ k → (ts : List Token) (how : Reduction) (rest : List Token) → WordBy u k ts how rest → (reduction_of u.kind ≡ Some how) × (ts ≡ rest)
  word_into u kind.Sum is ts how rest done = (ap reduction_of is, refl)
  word_into u kind.Max is ts how rest done = (ap reduction_of is, refl)
  word_into u _ is ts how rest d = absurd d

  word_out : (u : Token) (k : Kind) → u.kind ≡ k → (ts : List Token) (how : Reduction) → reduction_of k ≡ Some how → First WordBy (u ∷ ts) how ts
  word_out u kind.Sum is ts Sum e = at_first WordBy u kind.Sum is ts Sum ts done
  word_out u kind.Sum is ts Max e = absurd cc
  word_out u kind.Max is ts Max e = at_first WordBy u kind.Max is ts Max ts done
  word_out u kind.Max is ts Sum e = absurd cc
  word_out u _ is ts how e = absurd cc

  abbrev reducer_piece : {U : Type 0} {n : ℕ} → Token → Piece U n any Reducer
  reducer_piece t = word_piece >>> λ how. expect mark.Name >>> λ s. expect mark.Semicolon >>> λ _. give (summed t s how)

  abbrev total_piece : {U : Type 0} {n : ℕ} → Token → ℕ → Piece U n any (Item × ℕ)
  total_piece t site = reducer_piece t >>> λ r. give (Total r, site)

  abbrev ItemBy : ℕ → Token → Kind → List Token → Item × ℕ → List Token → Type 0
  ItemBy site t kind.Reducer = (total_piece {U = Unit {0}} {n = 0} t site).rel
  ItemBy site t kind.Int = (code_piece {U = Unit {0}} {n = 0} true site).rel
  ItemBy site t kind.Void = (code_piece {U = Unit {0}} {n = 0} false site).rel
  ItemBy site t _ = λ ts y rest. ⊥

  item_branch : (U : Type 0) (n : ℕ) (site : ℕ) (t : Token) (k : Kind) → Branch U n (ItemBy site t k) any t (item text n site t k)
  unfolding item reducer function
  item_branch U n site t kind.Reducer = inl (total_piece {U = U} {n = n} t site).exact
  item_branch U n site t kind.Int = inl (code_piece {U = U} {n = n} true site).exact
  item_branch U n site t kind.Void = inl (code_piece {U = U} {n = n} false site).exact
  item_branch U n site t _ = inr (record { stops = λ ts. refl; never = λ ts a rest d. d })

  -- one item, as a relation
  pub data One (site : ℕ) : List Token → Item × ℕ → List Token → Type 0 where
    total : {t u s v : Token} {how : Reduction} {ts : List Token} → t.kind ≡ kind.Reducer → reduction_of u.kind ≡ Some how → s.kind ≡ kind.Name → v.kind ≡ kind.Semicolon →
        One site (t ∷ u ∷ s ∷ v ∷ ts) (Total (summed t s how), site) ts
    code : {m : ℕ} {ts rest : List Token} {f : Function} → ReadsFunction text site ts f m rest → One site ts (Code f, m) rest

  code_into : {site : ℕ} {t : Token} (gives : Bool) → gives_int_of t.kind ≡ Some gives → {us : List Token} {y : Item × ℕ} {rest : List Token}
      → (code_piece {U = Unit {0}} {n = 0} gives site).rel us y rest → One site (t ∷ us) y rest
  code_into gives g (f, us, (x, vs, tok i, (u, ws, tok i', (ps, xs, r, (o, zs, tok i'', (b, cs, q, done))))), done) = code (grammar.function g i i' r (grammar.braces i'' q))

  total_into : {site : ℕ} {t u s v : Token} {how : Reduction} {us zs ts : List Token} → t.kind ≡ kind.Reducer → us ≡ u ∷ zs →
      (reduction_of u.kind ≡ Some how) × (zs ≡ s ∷ v ∷ ts) → s.kind ≡ kind.Name → v.kind ≡ kind.Semicolon →
      {r : Reducer} {vs : List Token} → Done (summed t s how) ts r vs → {y : Item × ℕ} {rest : List Token} → Done (Total r, site) vs y rest → One site (t ∷ us) y rest
  total_into is parts (word, after) i i' done done = rw (parts, after) (total is word i i')

  item_into : (site : ℕ) (t : Token) (k : Kind) → t.kind ≡ k → (us : List Token) (y : Item × ℕ) (rest : List Token) → ItemBy site t k us y rest → One site (t ∷ us) y rest
  item_into site t kind.Reducer is us y rest (r, vs, (how, ws, (u, zs, parts, d), (s, xs, tok i', (v, as', tok i'', e))), e') =
      total_into is parts (word_into u u.kind refl zs how ws d) i' i'' e e'
  item_into site t kind.Int is us y rest d = code_into true (ap gives_int_of is) d
  item_into site t kind.Void is us y rest d = code_into false (ap gives_int_of is) d
  item_into site t _ is us y rest d = absurd d

  code_out : (site : ℕ) (t : Token) (k : Kind) → t.kind ≡ k → (gives : Bool) → gives_int_of k ≡ Some gives → (us : List Token) (y : Item × ℕ) (rest : List Token)
      → (code_piece {U = Unit {0}} {n = 0} gives site).rel us y rest → First (ItemBy site) (t ∷ us) y rest
  code_out site t kind.Int is true e us y rest d = at_first (ItemBy site) t kind.Int is us y rest d
  code_out site t kind.Int is false e us y rest d = absurd cc
  code_out site t kind.Void is false e us y rest d = at_first (ItemBy site) t kind.Void is us y rest d
  code_out site t kind.Void is true e us y rest d = absurd cc
  code_out site t _ is gives e us y rest d = absurd cc

  item_out : {site : ℕ} {ts : List Token} {y : Item × ℕ} {rest : List Token} → One site ts y rest → First (ItemBy site) ts y rest
  item_out {site} (total {t = t} {u = u} {s = s} {v = v} {how = how} {ts = ts} is i i' i'') =
      at_first (ItemBy site) t kind.Reducer is (u ∷ s ∷ v ∷ ts) (Total (summed t s how), site) ts
      (summed t s how, ts, (how, s ∷ v ∷ ts, word_out u u.kind refl (s ∷ v ∷ ts) how i, (s, v ∷ ts, tok i', (v, ts, tok i'', done))), done)
  item_out {site} (code {m = m} {rest = rest} (grammar.function {t = t} {f = f} {u = u} {ts = ts} {us = us} {gives = gives} {ps = ps} {b = b} g i i' r (grammar.braces {t = o} {ts = vs} i'' q))) =
      code_out site t t.kind refl gives g (f ∷ u ∷ ts) (Code (made f gives ps b), m) rest
      ((made f gives ps b, m), rest, (f, u ∷ ts, tok i, (u, ts, tok i', (ps, o ∷ vs, r, (o, vs, tok i'', ((b, m), rest, q, done))))), done)

  some_item : (site : ℕ) → SomeText (First (ItemBy site))
  some_item site =
      let x = (total_piece {U = Unit {0}} {n = 0} (token_of kind.Reducer) site).exact.some in
      record {
        text = token_of kind.Reducer ∷ x.text;
        value = x.value;
        reads = λ after. at_first (ItemBy site) (token_of kind.Reducer) kind.Reducer refl (x.text ++ after) x.value after (x.reads after);
      }

  pub one_exact : (U : Type 0) (n : ℕ) (site : ℕ) → Exact U n (One site) any (by_first (item text n site))
  one_exact U n site =
      same_exact U n (First (ItemBy site)) (One site) any (by_first (item text n site)) (λ ts y rest d. rw d.2 (item_into site d.0 d.0.kind refl d.1 y rest d.3)) (λ ts y rest r. item_out r)
      (fewer_exact U n (suc n) (First (ItemBy site)) any (by_first (item text n site)) (omega arith) (first_exact U n (ItemBy site) any (item text n site) (some_item site) (item_branch U n site)))

  -- ---- items up to the end

  abbrev pub Its : ℕ → List Token → Items → Type 0
  Its site ts xs = ReadsItems text site ts xs.0 xs.1

  pub data Split (site : ℕ) : List Token → Items → Type 0 where
    nothing : Split site [] ([], [])
    one_more : {ts : List Token} {xs : Items} (y : Item × ℕ) (us : List Token) → One site ts y us → Its y.1 us xs → Split site ts (put_item y.0 xs)

  split : {site : ℕ} {ts : List Token} {rs : List Reducer} {fs : List Function} → ReadsItems text site ts rs fs → Split site ts (rs, fs)
  split grammar.no_item = nothing
  split {site} (grammar.one_reducer {t = t} {s = s} {how = how} {ts = ts} {rs = rs} {fs = fs} i i' i'' i''' q) = one_more {xs = (rs, fs)} (Total (summed t s how), site) ts (total i i' i'' i''') q
  split (grammar.one_function {m = m} {us = us} {f = f} {rs = rs} {fs = fs} r q) = one_more {xs = (rs, fs)} (Code f, m) us (code r) q

  join : {site : ℕ} {ts : List Token} {y : Item × ℕ} {us : List Token} (xs : Items) → One site ts y us → Its y.1 us xs → Its site ts (put_item y.0 xs)
  join xs (total i i' i'' i''') q = grammar.one_reducer i i' i'' i''' q
  join xs (code r) q = grammar.one_function r q

  one_unique : (site : ℕ) → IsUnique (One site) any
  one_unique site = (one_exact (Unit {0}) 0 site).unique tt

  one_front : (site : ℕ) (ts : List Token) (y : Item × ℕ) (us : List Token) → One site ts y us → Front (One site) ts y us
  one_front site ts y us r = (one_exact (Unit {0}) (len ts) site).stable ts y us (omega arith) r

  none_of_none : {site : ℕ} {ts : List Token} {y : Item × ℕ} {us : List Token} → One site ts y us → ts ≡ [] → ⊥
  none_of_none (total i i' i'' i''') e = cc
  none_of_none (code (grammar.function g i i' r q)) e = cc

  one_eats : (site : ℕ) (ts : List Token) (y : Item × ℕ) (us : List Token) → One site ts y us → len us < len ts
  one_eats site ts y us r = go (one_front site ts y us r)
    where
      go : Front (One site) ts y us → len us < len ts
      go x = more x.front x.parts (x.again [])
        where
          more : (front : List Token) → ts ≡ front ++ us → One site (front ++ []) y [] → len us < len ts
          more [] e d = absurd (none_of_none d refl)
          more (t ∷ front) e d = let l = ap len e ∙ length-append (t ∷ front) us in omega arith

  -- ---- the reader is sound and complete for items

  module _ (m : ℕ) where
    abbrev next : ℕ → Reader (Item × ℕ)
    next site = by_first (item text m site)

    items_sound : (n site : ℕ) (ts : List Token) (xs : Items) (rest : List Token) → items next n site ts ≡ Ok (xs, rest) → Its site ts xs × (rest ≡ [])
    unfolding items
    items_sound zero site [] xs rest e = let q = ok_is (([], []), []) (xs, rest) e in
        (subst (λ xs. Its site [] xs) (ap (λ (x : Items × List Token). x.0) q) grammar.no_item, sym (ap (λ (x : Items × List Token). x.1) q))
    items_sound (suc n) site [] xs rest e = let q = ok_is (([], []), []) (xs, rest) e in
        (subst (λ xs. Its site [] xs) (ap (λ (x : Items × List Token). x.0) q) grammar.no_item, sym (ap (λ (x : Items × List Token). x.1) q))
    items_sound zero site (t ∷ ts) xs rest e = absurd cc
    items_sound (suc n) site (t ∷ ts) xs rest e =
        let x = bind_ok (next site (t ∷ ts)) _ (xs, rest) e in
        let y = bind_ok (items next n x.0.0.1 x.0.1) _ (xs, rest) x.2 in
        let q = ok_is (put_item x.0.0.0 y.0.0, y.0.1) (xs, rest) y.2 in
        let ih = items_sound n x.0.0.1 x.0.1 y.0.0 y.0.1 y.1 in
        let r = (one_exact (Unit {0}) m site).sound (t ∷ ts) x.0.0 x.0.1 x.1 in (
          subst (λ xs. Its site (t ∷ ts) xs) (ap (λ (x : Items × List Token). x.0) q) (join y.0.0 r ih.0),
          sym (ap (λ (x : Items × List Token). x.1) q) ∙ ih.1,
        )

    items_complete : (n site : ℕ) (ts : List Token) (xs : Items) → len ts ≤ n → len ts ≤ m → Split site ts xs → items next n site ts ≡ Ok (xs, [])
    unfolding items
    items_complete zero site ts xs le few nothing = refl
    items_complete (suc n) site ts xs le few nothing = refl
    items_complete n site [] xs le few (one_more y us r q) = absurd (none_of_none r refl)
    items_complete zero site (t ∷ ts) xs le few (one_more y us r q) = absurd (omega arith)
    items_complete (suc n) site (t ∷ ts) xs le few (one_more {xs = zs} y us r q) =
        let fewer = one_eats site (t ∷ ts) y us r in
        rw ((one_exact (Unit {0}) m site).complete (t ∷ ts) y us few r (any_stops us), items_complete n y.1 us zs (omega arith) (omega arith) (split q)) refl

    -- ---- the token where reading stops

    pub record StuckItems (site : ℕ) (ts : List Token) (e : ℕ) : Type 0 where
      pub front : List Token
      pub rest : List Token
      pub parts : ts ≡ front ++ rest
      pub left : e ≡ len rest
      pub more : List Token
      pub value : Items
      pub some : front ++ more ≢ []
      pub completes : Its site (front ++ more) value
      pub dead : (t : Token) (us : List Token) → rest ≡ t ∷ us → (vs : List Token) (xs : Items) → Its site (front ++ t ∷ vs) xs → ⊥

    not_empty : (front : List Token) (t : Token) (vs : List Token) → front ++ t ∷ vs ≡ [] → ⊥
    not_empty [] t vs e = cc
    not_empty (x ∷ front) t vs e = cc

    first_stuck : (site : ℕ) (ts : List Token) (e : ℕ) → Stuck (One site) any ts e → StuckItems site ts e
    first_stuck site ts e d = record {
      front = d.front;
      rest = d.rest;
      parts = d.parts;
      left = d.left;
      more = d.more;
      value = put_item d.value.0 ([], []);
      some = λ none. none_of_none one none;
      completes = join ([], []) one grammar.no_item;
      dead = λ t us is vs xs r. dead t us is vs (d.front ++ t ∷ vs) refl xs (split r);
    }
      where
        one : One site (d.front ++ d.more) d.value []
        one = subst (λ w. One site (d.front ++ w) d.value []) (append-nil d.more) (d.completes [])

        dead : (t : Token) (us : List Token) → d.rest ≡ t ∷ us → (vs ws : List Token) → d.front ++ t ∷ vs ≡ ws → (xs : Items) → Split site ws xs → ⊥
        dead t us is vs ws e xs nothing = not_empty d.front t vs e
        dead t us is vs ws e xs (one_more y zs r q) = d.dead t us is vs y zs (subst (λ w. One site w y zs) (sym e) r) (any_stops zs)

    then_stuck : (site : ℕ) (ts : List Token) (y : Item × ℕ) (us : List Token) (e : ℕ) → One site ts y us → StuckItems y.1 us e → StuckItems site ts e
    then_stuck site ts y us e r d = record {
      front = x.front ++ d.front;
      rest = d.rest;
      parts = x.parts ∙ ap (λ w. x.front ++ w) d.parts ∙ sym (append_assoc x.front d.front d.rest);
      left = d.left;
      more = d.more;
      value = put_item y.0 d.value;
      some = λ none. none_of_none one none;
      completes = join d.value one d.completes;
      dead = λ t us is vs xs r. dead t us is vs ((x.front ++ d.front) ++ t ∷ vs) refl xs (split r);
    }
      where
        x : Front (One site) ts y us
        x = one_front site ts y us r

        one : One site ((x.front ++ d.front) ++ d.more) y (d.front ++ d.more)
        one = rw (append_assoc x.front d.front d.more) (x.again (d.front ++ d.more))

        dead : (t : Token) (ws : List Token) → d.rest ≡ t ∷ ws → (vs zs : List Token) → (x.front ++ d.front) ++ t ∷ vs ≡ zs → (xs : Items) → Split site zs xs → ⊥
        dead t ws is vs zs e xs nothing = not_empty (x.front ++ d.front) t vs e
        dead t ws is vs zs e xs (one_more {xs = cs} z bs q p) =
            let q' : One site (x.front ++ (d.front ++ t ∷ vs)) z bs = subst (λ w. One site w z bs) (sym e ∙ append_assoc x.front d.front (t ∷ vs)) q in
            let same = one_unique site (x.front ++ (d.front ++ t ∷ vs)) z y bs (d.front ++ t ∷ vs) q' (any_stops bs) (x.again (d.front ++ t ∷ vs)) (any_stops (d.front ++ t ∷ vs)) in
            d.dead t ws is vs cs (subst (λ w. Its y.1 w cs) same.1 (subst (λ (w : Item × ℕ). Its w.1 bs cs) same.0 p))

    items_stuck : (n site : ℕ) (ts : List Token) (e : ℕ) → len ts ≤ n → len ts ≤ m → items next n site ts ≡ Err e → StuckItems site ts e
    unfolding items
    items_stuck zero site [] e le few h = absurd cc
    items_stuck (suc n) site [] e le few h = absurd cc
    items_stuck zero site (t ∷ ts) e le few h = absurd (omega arith)
    items_stuck (suc n) site (t ∷ ts) e le few h = elim (bind_err (next site (t ∷ ts)) _ e h) [
      | inl w ↦ first_stuck site (t ∷ ts) e ((one_exact (Unit {0}) m site).stuck tt (t ∷ ts) e few w)
      | inr (x, w, w') ↦
          let r = (one_exact (Unit {0}) m site).sound (t ∷ ts) x.0 x.1 w in
          let fewer = one_eats site (t ∷ ts) x.0 x.1 r in
          elim (bind_err (items next n x.0.1 x.1) _ e w') [
            | inl v ↦ then_stuck site (t ∷ ts) x.0 x.1 e r (items_stuck n x.0.1 x.1 e (omega arith) (omega arith) v)
            | inr (y, v, v') ↦ absurd cc
          ]
    ]

  -- ---- whole sources

  abbrev pub program : Items → Program
  program xs = record { reducers = xs.0; functions = xs.1 }

  read_of : (ts : List Token) (p : Program) → Derives text ts p → items (next (len ts)) (len ts) 1 ts ≡ Ok ((p.reducers, p.functions), [])
  read_of ts p d = items_complete (len ts) (len ts) 1 ts (p.reducers, p.functions) (omega arith) (omega arith) (split d.items)

  pub one_tree : (ts : List Token) → HasOneTree text ts
  one_tree ts p q d e =
      let same = ok_is ((p.reducers, p.functions), []) ((q.reducers, q.functions), []) (sym (read_of ts p d) ∙ read_of ts q e) in
      ap (λ (x : Items × List Token). program x.0) same

  drop_front : (front rest : List Token) → drop (len front) (front ++ rest) ≡ rest
  drop_front [] rest = refl
  drop_front (t ∷ front) rest = drop_front front rest

  rest_is : (ts front rest : List Token) (e : ℕ) → ts ≡ front ++ rest → e ≡ len rest → drop (len ts - e) ts ≡ rest
  rest_is ts front rest e parts left =
      let all = ap len parts ∙ length-append front rest in
      let n : len ts - e ≡ len front = omega arith in
      rw n (ap (drop (len front)) parts ∙ drop_front front rest)

  take_front : (front rest : List Token) → take (len front) (front ++ rest) ≡ front
  take_front [] rest = refl
  take_front (t ∷ front) rest = ap (λ l. t ∷ l) (take_front front rest)

  front_is : (ts front rest : List Token) (e : ℕ) → ts ≡ front ++ rest → e ≡ len rest → take (len ts - e) ts ≡ front
  front_is ts front rest e parts left =
      let all = ap len parts ∙ length-append front rest in
      let n : len ts - e ≡ len front = omega arith in
      rw n (ap (take (len front)) parts ∙ take_front front rest)

  -- the consequence of the result of reading a whole source
  abbrev pub Answer : List Token → Read Items → Type 0
  Answer ts (Ok x) = Derives text ts (program x.0)
  Answer ts (Err e) = IsRejectedAt text ts (len ts - e)

  -- if tokens are rejected at a place, their fault is in the line of that place
  pub fault_there : (ts : List Token) (place : ℕ) → IsRejectedAt text ts place → HasSyntaxFault text ts (first_line text (drop place ts))
  fault_there ts place r = record {
    before = take place ts;
    rest = drop place ts;
    parts = sym (take-append-drop place ts);
    goes_on = r.goes_on;
    no_further = r.no_further;
    no_end = r.no_end;
    same_line = refl;
  }

  fault : (m : ℕ) (ts : List Token) (e : ℕ) → ((p : Program) → Derives text ts p → ⊥) → StuckItems m 1 ts e → Answer ts (Err e)
  fault m ts e none d = record {
    within = omega arith;
    goes_on = subst (λ w. CanBegin text w) (sym front) (d.more, program d.value, record { some = d.some; items = d.completes });
    no_further = λ t us is g. begun t us (sym rest ∙ is) (subst (λ w. CanBegin text (w ++ t ∷ [])) front g);
    no_end = λ _ p r. none p r;
  }
    where
      front : take (len ts - e) ts ≡ d.front
      front = front_is ts d.front d.rest e d.parts d.left

      rest : drop (len ts - e) ts ≡ d.rest
      rest = rest_is ts d.front d.rest e d.parts d.left

      further : (t : Token) (us : List Token) → d.rest ≡ t ∷ us → (more : List Token) (p : Program) → Derives text ((d.front ++ t ∷ []) ++ more) p → ⊥
      further t us is more p r = d.dead t us is more (p.reducers, p.functions) (subst (λ w. Its 1 w (p.reducers, p.functions)) (append_assoc d.front (t ∷ []) more) r.items)

      begun : (t : Token) (us : List Token) → d.rest ≡ t ∷ us → CanBegin text (d.front ++ t ∷ []) → ⊥
      begun t us is g = further t us is g.0 g.1 g.2

  none_at_all : Answer [] (Err 0)
  none_at_all =
      let x = (one_exact (Unit {0}) 0 1).some in
      let one = subst (λ w. One 1 w x.value []) (append-nil x.text) (x.reads []) in
      record {
        within = omega arith;
        goes_on = (x.text, program (put_item x.value.0 ([], [])), record { some = λ none. none_of_none one none; items = join ([], []) one grammar.no_item });
        no_further = λ t us is g. absurd cc;
        no_end = λ none p d. d.some refl;
      }

  pub whole_answers : (ts : List Token) → Answer ts (whole text (len ts) ts)
  unfolding whole
  whole_answers [] = none_at_all
  whole_answers (t ∷ ts) = go (items (next (len (t ∷ ts))) (len (t ∷ ts)) 1 (t ∷ ts)) refl
    where
      n : ℕ
      n = len (t ∷ ts)

      some : t ∷ ts ≢ []
      some e = cc

      go : (r : Read Items) → items (next (len (t ∷ ts))) (len (t ∷ ts)) 1 (t ∷ ts) ≡ r → Answer (t ∷ ts) r
      go (Ok x) e = record { some = some; items = (items_sound n n 1 (t ∷ ts) x.0 x.1 e).0 }
      go (Err d) e = fault n (t ∷ ts) d never (items_stuck n n 1 (t ∷ ts) d (omega arith) (omega arith) e)
        where
          never : (p : Program) → Derives text (t ∷ ts) p → ⊥
          never p r = let ok = read_of (t ∷ ts) p r in let clash = sym e ∙ ok in cc
