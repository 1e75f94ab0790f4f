-- A piece that was executed separately joins as if its events had followed.
use Rattle.std.specs.Prelude.{◌≡◌, ℕ, ◌+◌, ◌≤◌, ◌<◌, Bool, true, false, ◌||◌, not, List, [], ◌∷◌, Some, None, refl}
use Rattle.std.proofs.Common.{sym, ◌∙◌, ap, subst, inl, inr, arith}
use Rattle.std.proofs.lemmas.Bool.{cases_lt}
use Rattle.cw_model.specs.Trees.{Event, Work, Series, Fork, Join}
use Rattle.cw_sites.specs.ChosenPaths.{Path, nowhere, plus, heavier, steps_of, chosen}
use Rattle.cw_sites.specs.BlockPaths.{BlockPath, Straight, Split, extended, child_ended, joins as joined, after, after_all, joined_on}
use Rattle.cw_measure.specs.OpenParts.{no_joins}
use Rattle.cw_sites.specs.OpenPaths.{is_split}
use Rattle.cw_sites.specs.lemmas.ChosenPaths.{plus-assoc, plus-nowhere_first, plus-nowhere_last}
use Rattle.cw_sites.specs.lemmas.BlockPaths.{takes_later, keeps_longest}
use Rattle.cw_sites.specs.Laws.{PiecesAreOne}
use Rattle.cw_sites.specs.lemmas.OpenPaths.{after_all-append, split_all}

-- a block extended by two paths, and by the empty path
pub extended_twice : (p c : Path) (L : BlockPath) → extended (plus p c) L ≡ extended c (extended p L)
extended_twice p c (Straight n) = ap Straight (sym (plus-assoc n p c))
extended_twice p c (Split b l n) = ap (Split b l) (sym (plus-assoc n p c))

extended_nowhere : (L : BlockPath) → extended nowhere L ≡ L
extended_nowhere (Straight n) = ap Straight (plus-nowhere_last n)
extended_nowhere (Split b l n) = ap (Split b l) (plus-nowhere_last n)

-- the piece continues
joined_more : (c : Path) (L M : BlockPath) → joined_on L (extended c M) ≡ extended c (joined_on L M)
joined_more c L (Straight m) = extended_twice m c L
joined_more c L (Split b None n) = ap (λ (p : Path). extended p L) (sym (plus-assoc b n c)) ∙ extended_twice (plus b n) c L
joined_more c L (Split b (Some d) n) = extended_twice n c (child_ended d (extended b L))

-- a later child of the piece becomes its longest, or it does not
later_child : (b d n c : Path) (L : BlockPath) → d.weight < n.weight + c.weight → child_ended c (extended (plus b n) L) ≡ child_ended c (extended n (child_ended d (extended b L)))
later_child b d n c (Straight x) h =
    let e : plus x (plus b n) ≡ plus (plus x b) (plus nowhere n) = sym (plus-assoc x b n) ∙ ap (plus (plus x b)) (sym (plus-nowhere_first n)) in
    ap (λ (p : Path). Split p (Some c) nowhere) e ∙ sym (takes_later (plus x b) d (plus nowhere n) c (omega arith))
later_child b d n c (Split x None y) h =
    let e : plus x (plus y (plus b n)) ≡ plus (plus x (plus y b)) (plus nowhere n) =
    ap (plus x) (sym (plus-assoc y b n)) ∙ sym (plus-assoc x (plus y b) n) ∙ ap (plus (plus x (plus y b))) (sym (plus-nowhere_first n)) in
    ap (λ (p : Path). Split p (Some c) nowhere) e ∙ sym (takes_later (plus x (plus y b)) d (plus nowhere n) c (omega arith))
later_child b d n c (Split x (Some l) y) h = elim (cases_lt l.weight ((y.weight + b.weight) + d.weight)) [
  | inl less ↦
      let e : plus x (plus y (plus b n)) ≡ plus (plus x (plus y b)) (plus nowhere n) =
      ap (plus x) (sym (plus-assoc y b n)) ∙ sym (plus-assoc x (plus y b) n) ∙ ap (plus (plus x (plus y b))) (sym (plus-nowhere_first n)) in
      takes_later x l (plus y (plus b n)) c (omega arith)
      ∙ ap (λ (p : Path). Split p (Some c) nowhere) e
      ∙ sym (takes_later (plus x (plus y b)) d (plus nowhere n) c (omega arith))
      ∙ ap (λ (K : BlockPath). child_ended c (extended n K)) (sym (takes_later x l (plus y b) d less))
  | inr more ↦
      ap (λ (p : Path). child_ended c (Split x (Some l) p)) (sym (plus-assoc y b n))
      ∙ ap (λ (K : BlockPath). child_ended c (extended n K)) (sym (keeps_longest x l (plus y b) d more))
]

shorter_child : (b d n c : Path) (L : BlockPath) → n.weight + c.weight ≤ d.weight → extended n (child_ended d (extended b L)) ≡ child_ended c (extended n (child_ended d (extended b L)))
shorter_child b d n c (Straight x) h = sym (keeps_longest (plus x b) d (plus nowhere n) c (omega arith))
shorter_child b d n c (Split x None y) h = sym (keeps_longest (plus x (plus y b)) d (plus nowhere n) c (omega arith))
shorter_child b d n c (Split x (Some l) y) h = elim (cases_lt l.weight ((y.weight + b.weight) + d.weight)) [
  | inl less ↦
      let P : BlockPath → Type 0 = λ K. extended n K ≡ child_ended c (extended n K) in
      subst P (sym (takes_later x l (plus y b) d less)) (sym (keeps_longest (plus x (plus y b)) d (plus nowhere n) c (omega arith)))
  | inr more ↦
      let P : BlockPath → Type 0 = λ K. extended n K ≡ child_ended c (extended n K) in
      subst P (sym (keeps_longest x l (plus y b) d more)) (sym (keeps_longest x l (plus (plus y b) n) c (omega arith)))
]

joined_forked : (c : Path) (L M : BlockPath) → joined_on L (child_ended c M) ≡ child_ended c (joined_on L M)
joined_forked c L (Straight m) = extended_nowhere (child_ended c (extended m L))
joined_forked c L (Split b None n) = extended_nowhere (child_ended c (extended (plus b n) L))
joined_forked c L (Split b (Some d) n) = elim (cases_lt d.weight (n.weight + c.weight)) [
  | inl less ↦ ap (joined_on L) (takes_later b d n c less) ∙ extended_nowhere (child_ended c (extended (plus b n) L)) ∙ later_child b d n c L less
  | inr more ↦ ap (joined_on L) (keeps_longest b d n c more) ∙ shorter_child b d n c L more
]

-- the piece joins, if nothing before it has to be joined
joined_joins : (x : Path) (M : BlockPath) → joined_on (Straight x) (joined M) ≡ joined (joined_on (Straight x) M)
joined_joins x (Straight m) = refl
joined_joins x (Split b None n) = refl
joined_joins x (Split b (Some d) n) =
    ap Straight (sym (plus-assoc x b (heavier d n)) ∙ ap (λ (p : Path). plus (plus x b) (heavier d p)) (sym (plus-nowhere_first n)))

joined_after : (site here : ℕ) (L M : BlockPath) (e : Event) → no_joins (e ∷ []) ≡ true → joined_on L (after site here M e) ≡ after site here (joined_on L M) e
joined_after site here L M (Work k) n = joined_more (steps_of site here k) L M
joined_after site here L M (Series t) n = joined_more (chosen site here t) L M
joined_after site here L M (Fork t) n = joined_forked (chosen site here t) L M
joined_after site here L M Join n = cc

joined_straight : (site here : ℕ) (x : Path) (M : BlockPath) (e : Event) → joined_on (Straight x) (after site here M e) ≡ after site here (joined_on (Straight x) M) e
joined_straight site here x M (Work k) = joined_more (steps_of site here k) (Straight x) M
joined_straight site here x M (Series t) = joined_more (chosen site here t) (Straight x) M
joined_straight site here x M (Fork t) = joined_forked (chosen site here t) (Straight x) M
joined_straight site here x M Join = joined_joins x M

first_only : (e : Event) (es : List Event) → no_joins (e ∷ es) ≡ true → (no_joins (e ∷ []) ≡ true) × (no_joins es ≡ true)
first_only (Work k) es n = (refl, n)
first_only (Series t) es n = (refl, n)
first_only (Fork t) es n = (refl, n)
first_only Join es n = cc

joined_all : (site here : ℕ) (L M : BlockPath) (fs : List Event) → no_joins fs ≡ true → joined_on L (after_all site here M fs) ≡ after_all site here (joined_on L M) fs
joined_all site here L M [] n = refl
joined_all site here L M (e ∷ fs) n =
    let m = first_only e fs n in
    joined_all site here L (after site here M e) fs m.1
    ∙ ap (λ (K : BlockPath). after_all site here K fs) (joined_after site here L M e m.0)

straight_all : (site here : ℕ) (x : Path) (M : BlockPath) (fs : List Event) → joined_on (Straight x) (after_all site here M fs) ≡ after_all site here (joined_on (Straight x) M) fs
straight_all site here x M [] = refl
straight_all site here x M (e ∷ fs) =
    straight_all site here x (after site here M e) fs
    ∙ ap (λ (K : BlockPath). after_all site here K fs) (joined_straight site here x M e)

-- the law of pieces: without joins, or with joins after a block that has spawned nothing
pub piece_joined : (site here : ℕ) (first : Bool) (L : BlockPath) (fs : List Event) → is_split L ≡ not first → (first || no_joins fs) ≡ true
    → joined_on L (after_all site here (Straight nowhere) fs) ≡ after_all site here L fs
piece_joined site here true (Straight x) fs s n = straight_all site here x (Straight nowhere) fs ∙ ap (λ (p : Path). after_all site here (Straight p) fs) (plus-nowhere_last x)
piece_joined site here true (Split b l x) fs s n = cc
piece_joined site here false L fs s n = joined_all site here L (Straight nowhere) fs n ∙ ap (λ (K : BlockPath). after_all site here K fs) (extended_nowhere L)

pub pieces_are_one : PiecesAreOne
pieces_are_one = λ site here first before es fs s n.
    piece_joined site here first (after_all site here (Straight before) es) fs (split_all site here (Straight before) es ∙ s) n
    ∙ sym (after_all-append site here (Straight before) es fs)
