-- The computed span is the weight of a heaviest path.
use Rattle.std.proofs.Common.{◌≡◌, ℕ, ◌+◌, ◌≤◌, List, [], ◌∷◌, arith, refl, ap, ⊎_elim}
use Rattle.std.proofs.lemmas.Bool.{cases_lt}
use Rattle.cw_model.specs.declared.burden.Burden.{Burden}
use Rattle.cw_model.specs.Burdens.{at_child, at_rest}
use Rattle.cw_model.specs.Trees.{Mark, Tree, Leaf, Seq, Par, Marked, burdened_span}
use Rattle.cw_model.specs.Dag.{Place, Here, First, Second, weight_at, rests_entered, children_entered, charged, IsWalk, IsPath, walk_weight, path_weight, IsBurdenedSpan}

module _ (burden : Burden) where
  -- a walk through a part of a tree, of this weight
  record Part (part : Tree) (p : Place) (weight : ℕ) : Type 0 where
    qs : List Place
    walks : IsWalk part p qs
    same : walk_weight burden part p qs ≡ weight

  second_part : (a b : Tree) (p : Place) (qs : List Place) → IsWalk (Seq a b) (Second p) qs → Part b p (walk_weight burden (Seq a b) (Second p) qs)
  second_part a b p [] walk = record { qs = []; walks = walk; same = refl }
  second_part a b p (Here ∷ qs) walk = absurd walk.0
  second_part a b p (First q ∷ qs) walk = absurd walk.0
  second_part a b p (Second q ∷ qs) walk =
      let r = second_part a b q qs walk.1 in
      record { qs = q ∷ r.qs; walks = (walk.0, r.walks); same = ap (λ w. weight_at b p + charged burden (rests_entered b p q) (children_entered b p q) + w) r.same }

  child_part : (a b : Tree) (p : Place) (qs : List Place) → IsWalk (Par a b) (First p) qs → Part a p (walk_weight burden (Par a b) (First p) qs)
  child_part a b p [] walk = record { qs = []; walks = walk; same = refl }
  child_part a b p (Here ∷ qs) walk = absurd walk.0
  child_part a b p (Second q ∷ qs) walk = absurd walk.0
  child_part a b p (First q ∷ qs) walk =
      let r = child_part a b q qs walk.1 in
      record { qs = q ∷ r.qs; walks = (walk.0, r.walks); same = ap (λ w. weight_at a p + charged burden (rests_entered a p q) (children_entered a p q) + w) r.same }

  rest_part : (a b : Tree) (p : Place) (qs : List Place) → IsWalk (Par a b) (Second p) qs → Part b p (walk_weight burden (Par a b) (Second p) qs)
  rest_part a b p [] walk = record { qs = []; walks = walk; same = refl }
  rest_part a b p (Here ∷ qs) walk = absurd walk.0
  rest_part a b p (First q ∷ qs) walk = absurd walk.0
  rest_part a b p (Second q ∷ qs) walk =
      let r = rest_part a b q qs walk.1 in
      record { qs = q ∷ r.qs; walks = (walk.0, r.walks); same = ap (λ w. weight_at b p + charged burden (rests_entered b p q) (children_entered b p q) + w) r.same }

  marked_part : (mark : Mark) (t : Tree) (p : Place) (qs : List Place) → IsWalk (Marked mark t) p qs → Part t p (walk_weight burden (Marked mark t) p qs)
  marked_part mark t p [] walk = record { qs = []; walks = walk; same = refl }
  marked_part mark t p (q ∷ qs) walk =
      let r = marked_part mark t q qs walk.1 in
      record { qs = q ∷ r.qs; walks = (walk.0, r.walks); same = ap (λ w. weight_at t p + charged burden (rests_entered t p q) (children_entered t p q) + w) r.same }

  -- a walk through a series is a walk through its first part and a path of its second
  record Both (a b : Tree) (p : Place) (weight : ℕ) : Type 0 where
    first : List Place
    q : Place
    second : List Place
    walks : IsWalk a p first
    path : IsPath b q second
    same : walk_weight burden a p first + path_weight burden b q second ≡ weight

  both_parts : (a b : Tree) (p : Place) (qs : List Place) → IsWalk (Seq a b) (First p) qs → Both a b p (walk_weight burden (Seq a b) (First p) qs)
  both_parts a b p [] walk = absurd walk
  both_parts a b p (Here ∷ qs) walk = absurd walk.0
  both_parts a b p (First q ∷ qs) walk =
      let r = both_parts a b q qs walk.1 in
      record { first = q ∷ r.first; q = r.q; second = r.second; walks = (walk.0, r.walks); path = r.path; same = omega (arith, r.same) }
  both_parts a b p (Second q ∷ qs) walk =
      let r = second_part a b q qs walk.1 in
      record { first = []; q = q; second = r.qs; walks = walk.0.0; path = (walk.0.1, r.walks); same = omega (arith, r.same) }

  pub at_most : (t : Tree) (p : Place) (qs : List Place) → IsPath t p qs → path_weight burden t p qs ≤ burdened_span burden t
  at_most (Leaf k) Here [] path = omega arith
  at_most (Leaf k) Here (q ∷ qs) path = absurd path.1.0
  at_most (Leaf k) (First p) qs path = absurd path.0
  at_most (Leaf k) (Second p) qs path = absurd path.0
  at_most (Seq a b) Here qs path = absurd path.0
  at_most (Seq a b) (Second p) qs path = absurd path.0
  at_most (Seq a b) (First p) qs path =
      let r = both_parts a b p qs path.1 in
      omega (arith, r.same, at_most a p r.first (path.0, r.walks), at_most b r.q r.second r.path)
  at_most (Par child rest) Here qs path = absurd path.0
  at_most (Par child rest) (First p) qs path =
      let r = child_part child rest p qs path.1 in
      omega (arith, r.same, at_most child p r.qs (path.0, r.walks))
  at_most (Par child rest) (Second p) qs path =
      let r = rest_part child rest p qs path.1 in
      omega (arith, r.same, at_most rest p r.qs (path.0, r.walks))
  at_most (Marked mark t) p qs path =
      let r = marked_part mark t p qs path.1 in
      omega (arith, r.same, at_most t p r.qs (path.0, r.walks))

  -- a walk of a part is a walk of the whole
  in_second : (a b : Tree) (p : Place) (qs : List Place) → IsWalk b p qs → Part (Seq a b) (Second p) (walk_weight burden b p qs)
  in_second a b p [] walk = record { qs = []; walks = walk; same = refl }
  in_second a b p (q ∷ qs) walk =
      let r = in_second a b q qs walk.1 in
      record { qs = Second q ∷ r.qs; walks = (walk.0, r.walks); same = ap (λ w. weight_at b p + charged burden (rests_entered b p q) (children_entered b p q) + w) r.same }

  in_child : (a b : Tree) (p : Place) (qs : List Place) → IsWalk a p qs → Part (Par a b) (First p) (walk_weight burden a p qs)
  in_child a b p [] walk = record { qs = []; walks = walk; same = refl }
  in_child a b p (q ∷ qs) walk =
      let r = in_child a b q qs walk.1 in
      record { qs = First q ∷ r.qs; walks = (walk.0, r.walks); same = ap (λ w. weight_at a p + charged burden (rests_entered a p q) (children_entered a p q) + w) r.same }

  in_rest : (a b : Tree) (p : Place) (qs : List Place) → IsWalk b p qs → Part (Par a b) (Second p) (walk_weight burden b p qs)
  in_rest a b p [] walk = record { qs = []; walks = walk; same = refl }
  in_rest a b p (q ∷ qs) walk =
      let r = in_rest a b q qs walk.1 in
      record { qs = Second q ∷ r.qs; walks = (walk.0, r.walks); same = ap (λ w. weight_at b p + charged burden (rests_entered b p q) (children_entered b p q) + w) r.same }

  in_marked : (mark : Mark) (t : Tree) (p : Place) (qs : List Place) → IsWalk t p qs → Part (Marked mark t) p (walk_weight burden t p qs)
  in_marked mark t p [] walk = record { qs = []; walks = walk; same = refl }
  in_marked mark t p (q ∷ qs) walk =
      let r = in_marked mark t q qs walk.1 in
      record { qs = q ∷ r.qs; walks = (walk.0, r.walks); same = ap (λ w. weight_at t p + charged burden (rests_entered t p q) (children_entered t p q) + w) r.same }

  in_both : (a b : Tree) (p : Place) (first : List Place) (q : Place) (second : List Place) → IsWalk a p first → IsPath b q second
      → Part (Seq a b) (First p) (walk_weight burden a p first + path_weight burden b q second)
  in_both a b p [] q second walk path =
      let r = in_second a b q second path.1 in
      record { qs = Second q ∷ r.qs; walks = ((walk, path.0), r.walks); same = omega (arith, r.same) }
  in_both a b p (x ∷ first) q second walk path =
      let r = in_both a b x first q second walk.1 path in
      record { qs = First x ∷ r.qs; walks = (walk.0, r.walks); same = omega (arith, r.same) }

  -- a path of this weight
  record Found (t : Tree) (weight : ℕ) : Type 0 where
    p : Place
    qs : List Place
    path : IsPath t p qs
    same : path_weight burden t p qs ≡ weight

  heavy : (t : Tree) → Found t (burdened_span burden t)
  heavy (Leaf k) = record { p = Here; qs = []; path = (tt, tt); same = omega arith }
  heavy (Seq a b) =
      let f = heavy a in
      let g = heavy b in
      let r = in_both a b f.p f.qs g.p g.qs f.path.1 g.path in
      record { p = First f.p; qs = r.qs; path = (f.path.0, r.walks); same = omega (arith, r.same, f.same, g.same) }
  heavy (Par child rest) =
      let f = heavy child in
      let g = heavy rest in
      ⊎_elim
      (λ lt. let r = in_rest child rest g.p g.qs g.path.1 in record { p = Second g.p; qs = r.qs; path = (g.path.0, r.walks); same = omega (arith, r.same, g.same) })
      (λ le. let r = in_child child rest f.p f.qs f.path.1 in record { p = First f.p; qs = r.qs; path = (f.path.0, r.walks); same = omega (arith, r.same, f.same) })
      (cases_lt (at_child burden + burdened_span burden child) (at_rest burden + burdened_span burden rest))
  heavy (Marked mark t) =
      let f = heavy t in
      let r = in_marked mark t f.p f.qs f.path.1 in
      record { p = f.p; qs = r.qs; path = (f.path.0, r.walks); same = omega (arith, r.same, f.same) }

pub span_holds : (burden : Burden) (t : Tree) → IsBurdenedSpan burden t (burdened_span burden t)
span_holds burden t =
    let f = heavy burden t in
    record { path = (f.p, f.qs, f.path, f.same); heaviest = at_most burden t }
