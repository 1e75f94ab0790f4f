-- The iterations of the loop over the items of a source.
use Rattle.std.proofs.Common.{◌≡◌, ℕ, zero, suc, ◌+◌, ◌-◌, ◌<◌, ◌≤◌, true, false, List, [], ◌∷◌, ◌++◌, length, Ok, Err, refl, sym, ap, ◌∙◌, append_assoc, arith}
use Rattle.std.proofs.lemmas.List.{append-nil}
use Rattle.std.proofs.lemmas.Bool.{eqb-true, eq-eqb}
use Rattle.std.specs.Prelude.{◌==◌}
use Rattle.cw_model.specs.declared.token.Token.{Token}
use Rattle.cw_model.specs.Syntax.{Reducer, Function}
use Rattle.cw_parse.specs.declared.stop.Stop.{Stop}
use Rattle.cw_parse.specs.declared.stop.Stop.TheVariants as stop
use Rattle.cw_parse.specs.Reading.{Read, Reader, ◌>>=◌, Fails, by_first}
use Rattle.cw_parse.specs.Parts.{Item, Total, Code, Items, put_item, push_item, item, items, whole}

-- the concatenation of items
abbrev pub together : Items → Items → Items
together xs ys = (xs.0 ++ ys.0, xs.1 ++ ys.1)

-- adds items that were read before to the result of reading the others
abbrev pub with_items : Items → Read Items → Read Items
with_items xs read = read >>= λ y. Ok (together xs y.0, y.1)

item_push : (xs : Items) (x : Item) (ys : Items) → together (push_item xs x) ys ≡ together xs (put_item x ys)
item_push xs (Total r) ys = ap (λ rs. (rs, xs.1 ++ ys.1)) (append_assoc xs.0 (r ∷ []) ys.0)
item_push xs (Code f) ys = ap (λ fs. (xs.0 ++ ys.0, fs)) (append_assoc xs.1 (f ∷ []) ys.1)

regroup : (xs : Items) (x : Item) (read : Read Items) → with_items xs (read >>= λ y. Ok (put_item x y.0, y.1)) ≡ with_items (push_item xs x) read
regroup xs x (Ok y) = ap (λ (b : Items). Ok (b, y.1)) (sym (item_push xs x y.0))
regroup xs x (Err m) = refl

-- no items were read before
with_none : (read : Read Items) → with_items ([], []) read ≡ read
with_none (Ok y) = refl
with_none (Err m) = refl

whole_some : (text : List ℕ) (n : ℕ) (ts : List Token) → (ts ≡ [] → ⊥) → whole text n ts ≡ items (λ s. by_first (item text n s)) n 1 ts
unfolding whole
whole_some text n [] h = absurd (h refl)
whole_some text n (t ∷ ts) h = refl

-- the state before the first iteration
pub first_turn : (text : List ℕ) (n : ℕ) (ts : List Token) → (ts ≡ [] → ⊥) → with_items ([], []) (items (λ s. by_first (item text n s)) (n - 0) 1 ts) ≡ whole text n ts
first_turn text n ts h = let e : n - 0 ≡ n = omega arith in rw e (with_none (items (λ s. by_first (item text n s)) n 1 ts) ∙ sym (whole_some text n ts h))

pub whole_none : (text : List ℕ) (n : ℕ) (ts : List Token) → ts ≡ [] → whole text n ts ≡ Err 0
unfolding whole
whole_none text n ts e = rw e refl

module _ (next : ℕ → Reader (Item × ℕ)) (n i : ℕ) (xs : Items) (s : ℕ) (ts : List Token) (total : Read Items) (so_far : with_items xs (items next (n - i) s ts) ≡ total) where
  at_none : (k : ℕ) → items next k s [] ≡ Ok (([], []), [])
  unfolding items
  at_none zero = refl
  at_none (suc k) = refl

  nothing_behind : (ys : Items) → together ys ([], []) ≡ ys
  nothing_behind (rs, fs) = ap (λ (rs : List Reducer). (rs, fs ++ [])) (append-nil rs) ∙ ap (λ (fs : List Function). (rs, fs)) (append-nil fs)

  pub all_done : ts ≡ [] → total ≡ Ok (xs, [])
  all_done e = sym so_far ∙ ap (with_items xs) (ap (items next (n - i) s) e ∙ at_none (n - i)) ∙ ap (λ (ys : Items). Ok (ys, [])) (nothing_behind xs)

  pub too_long : n ≤ i → (ts ≡ [] → ⊥) → total ≡ Err (length ts)
  unfolding items
  too_long le some = sym so_far ∙ ap (with_items xs) (at_zero (n - i) ts (omega arith) some)
    where
      at_zero : (k : ℕ) (us : List Token) → k ≡ 0 → (us ≡ [] → ⊥) → items next k s us ≡ Err (length us)
      at_zero k [] e h = absurd (h refl)
      at_zero k (u ∷ us) e h = rw e refl

  abbrev onward : List Token → Read Items
  onward us = next s us >>= λ x. items next (n - (i + 1)) x.0.1 x.1 >>= λ y. Ok (put_item x.0.0 y.0, y.1)

  one_item : i < n → (ts ≡ [] → ⊥) → items next (n - i) s ts ≡ onward ts
  unfolding items
  one_item lt some = at_more (n - i) ts (omega arith) some
    where
      at_more : (k : ℕ) (us : List Token) → k ≡ suc (n - (i + 1)) → (us ≡ [] → ⊥) → items next k s us ≡ onward us
      at_more k [] e h = absurd (h refl)
      at_more k (u ∷ us) e h = rw e refl

  then_on : i < n → (ts ≡ [] → ⊥) → with_items xs (onward ts) ≡ total
  then_on lt some = sym (ap (with_items xs) (one_item lt some)) ∙ so_far

  pub item_on : (x : Item) (s' : ℕ) (us : List Token) (after : Items) → i < n → (ts ≡ [] → ⊥) → next s ts ≡ Ok ((x, s'), us) → after ≡ push_item xs x
      → with_items after (items next (n - (i + 1)) s' us) ≡ total
  item_on x s' us after lt some e pushed =
      ap (λ ys. with_items ys (items next (n - (i + 1)) s' us)) pushed ∙ sym (regroup xs x (items next (n - (i + 1)) s' us))
      ∙ sym (ap (λ r. with_items xs (r >>= λ x. items next (n - (i + 1)) x.0.1 x.1 >>= λ y. Ok (put_item x.0.0 y.0, y.1))) e) ∙ then_on lt some

  pub item_fails : (d : Stop) → i < n → (ts ≡ [] → ⊥) → Fails d (next s ts) → Fails d total
  item_fails stop.Memory lt some f = tt
  item_fails (stop.At m) lt some f = sym (then_on lt some) ∙ ap (λ r. with_items xs (r >>= λ x. items next (n - (i + 1)) x.0.1 x.1 >>= λ y. Ok (put_item x.0.0 y.0, y.1))) f

-- the length test decides emptiness
pub empty_is : (ts : List Token) → true ≡ (length ts == 0) → ts ≡ []
empty_is [] e = refl
empty_is (t ∷ ts) e = absurd (let l = eqb-true (length (t ∷ ts)) 0 (sym e) in omega arith)

pub some_is : (ts : List Token) → false ≡ (length ts == 0) → ts ≡ [] → ⊥
some_is ts e none = let clash : false ≡ true = e ∙ eq-eqb (length ts) 0 (ap length none) in cc
