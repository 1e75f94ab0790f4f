-- Each step at the end mark keeps its rule.
use Rattle.std.proofs.Common.{◌≡◌, ◌⊎◌, ◌++◌, ℕ, zero, suc, List, [], ◌∷◌, set, sym, refl, ap, ◌∙◌, subst, inl, inr, ⊎_elim, arith}
use mathlib.Core.Option.{some, some-injective, some-ne-none}
use mathlib.Core.Logic.{dite}
use native.Mathlib.Decide.{ℕ_discrete}
use lib.ListN.{get_elem?}
use Rattle.std.specs.List.{slice_index}
use Rattle.atomic_table.specs.Table.{Me, keeps, Allows, Splits}
use Rattle.atomic_table.proofs.Lists.{at_set, set_else}
use Rattle.cw_yard.specs.declared.mark.MarkView.{MarkView}
use Rattle.cw_yard.specs.declared.mark.MarkView.TheVariants.{Unseen, Seen, Marked}
use Rattle.cw_yard.specs.Marks.{IsSeen, IsMarked, Ends, seeing, Finds}

abbrev Mine : Type 0
Mine = Me (Unit {0}) MarkView

abbrev Unmarked : List MarkView → Type 0
Unmarked views = (id : ℕ) (v : MarkView) → get_elem? views id ≡ some v → v ≡ Unseen

module _ {A : Type 0} where
  set_at : (l : List A) (i : ℕ) (a b : A) → get_elem? l i ≡ some a → get_elem? (set l i b) i ≡ some b
  set_at [] i a b e = absurd (some-ne-none a (sym e))
  set_at (x ∷ xs) zero a b e = refl
  set_at (x ∷ xs) (suc i) a b e = set_at xs i a b e

  snoc_at : (l : List A) (r u : A) (j : ℕ) → get_elem? (l ++ r ∷ []) j ≡ some u → (get_elem? l j ≡ some u) ⊎ (r ≡ u)
  snoc_at [] r u zero e = inr (some-injective r u e)
  snoc_at [] r u (suc j) e = absurd (some-ne-none u (sym e))
  snoc_at (x ∷ xs) r u zero e = inl e
  snoc_at (x ∷ xs) r u (suc j) e = snoc_at xs r u j e

  before_at : (l : List A) (r u : A) (j : ℕ) → get_elem? l j ≡ some u → get_elem? (l ++ r ∷ []) j ≡ some u
  before_at [] r u j e = absurd (some-ne-none u (sym e))
  before_at (x ∷ xs) r u zero e = e
  before_at (x ∷ xs) r u (suc j) e = before_at xs r u j e

-- a watcher that set the mark is still there
still : (views : List MarkView) (id m : ℕ) (v : MarkView) → get_elem? views id ≡ some v → get_elem? views m ≡ some Marked → (k : ℕ) × (get_elem? (set views id (seeing v)) k ≡ some Marked)
still views id m v at there = dite (ℕ_discrete m id)
    (λ e. let is : v ≡ Marked = some-injective v Marked (sym at ∙ (λ i. get_elem? views (sym e i)) ∙ there) in (id, set_at views id v (seeing v) at ∙ ap (λ x. some (seeing x)) is))
    (λ ne. (m, set_else views id m (seeing v) ne ∙ there))

same_marked : (views : List MarkView) (id m : ℕ) (v : MarkView) → get_elem? views id ≡ some v → get_elem? views m ≡ some Marked → (k : ℕ) × (get_elem? (set views id v) k ≡ some Marked)
same_marked views id m v at there = dite (ℕ_discrete m id)
    (λ e. let is : v ≡ Marked = some-injective v Marked (sym at ∙ (λ i. get_elem? views (sym e i)) ∙ there) in (id, set_at views id v v at ∙ ap (λ x. some x) is))
    (λ ne. (m, set_else views id m v ne ∙ there))

same_unseen : (views : List MarkView) (id : ℕ) (v : MarkView) → get_elem? views id ≡ some v → Unmarked views → Unmarked (set views id v)
same_unseen views id v at h k u e = ⊎_elim (λ p. sym p.1 ∙ h id v at) (λ p. h k u p.1) (at_set views id k v u e)

pub sets : (slots id : ℕ) (me : Mine) → Allows Ends slots id me 0 (λ _. 1) (λ _ n. n.0 ≡ Marked)
sets slots id me s h len at _ = (
  Marked,
  keeps,
  tt,
  (1, ap (λ ws. set ws 0 1) h.1, inr (refl, (id, set_at s.views id me.0 Marked at))),
  refl,
)

is_seen : (v : MarkView) → IsSeen (seeing v)
is_seen Unseen = tt
is_seen Seen = tt
is_seen Marked = tt

marked_before : (v : MarkView) → IsMarked (seeing v) → IsMarked v
marked_before Unseen h = h
marked_before Seen h = h
marked_before Marked h = h

pub looks : (slots id : ℕ) (me : Mine) → Allows Ends slots id me 0 (λ n. n) (λ r n. Finds me.0 r n.0)
looks slots id me s h len at _ =
    let found : slice_index s.words 0 ≡ h.0 = ap (λ ws. slice_index ws 0) h.1 in
    let kept : set s.words 0 (slice_index s.words 0) ≡ h.0 ∷ [] = ap (λ ws. set ws 0 (slice_index ws 0)) h.1 in
    ⊎_elim (λ (z : (h.0 ≡ 0) × Unmarked s.views).
    let none : me.0 ≡ Unseen = z.1 id me.0 at in (
      me.0,
      keeps,
      tt,
      (h.0, kept, inl (z.0, same_unseen s.views id me.0 at z.1)),
      ((λ seen. absurd (subst IsSeen none seen)), (λ one. absurd (omega (arith, found, z.0, one))), (λ _. refl), λ m. m),
    ))
    (λ (z : (h.0 ≡ 1) × ((k : ℕ) × (get_elem? s.views k ≡ some Marked))). (
      seeing me.0,
      keeps,
      tt,
      (h.0, kept, inr (z.0, still s.views id z.1.0 me.0 at z.1.1)),
      ((λ _. found ∙ z.0), (λ _. is_seen me.0), (λ ne. absurd (ne (found ∙ z.0))), marked_before me.0),
    ))
    h.2

pub shares : (id : ℕ) (v : MarkView) → Splits Ends id v v Unseen
shares id v s h at = (
  h.0,
  h.1,
  ⊎_elim (λ (z : (h.0 ≡ 0) × Unmarked s.views). inl (z.0, λ k u e. ⊎_elim (λ p. same_unseen s.views id v at z.1 k u p) (λ p. sym p) (snoc_at (set s.views id v) Unseen u k e)))
      (λ (z : (h.0 ≡ 1) × ((k : ℕ) × (get_elem? s.views k ≡ some Marked))).
      let m = same_marked s.views id z.1.0 v at z.1.1 in inr (z.0, (m.0, before_at (set s.views id v) Unseen Marked m.0 m.1)))
      h.2,
)
