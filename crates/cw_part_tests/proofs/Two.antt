-- The seats of two workers, as they are popped.
use Rattle.std.proofs.Common.{◌≡◌, ◌∙◌, ◌+◌, ◌++◌, ℕ, List, [], ◌∷◌, length, ap, arith, Some}
use Rattle.std.specs.Prelude.{slice_get}
use Rattle.std.proofs.lemmas.List.{length_push}
use Rattle.cw_facts.specs.Lists.{get_last, get_before}
use Rattle.cw_yard.specs.declared.seat.Yard.{Yard}
use Rattle.cw_yard.specs.declared.seat.Seat.{Seat}
use Rattle.cw_yard.specs.Seats.{IsSeatOf, workers_of}
use Rattle.cw_yard.specs.Opened.{IsOpened}

pub two_seats : (y : Yard) (cells : ℕ) (all more none : List Seat) (one other : Seat) → IsOpened 2 cells y all → all ≡ more ++ one ∷ [] → more ≡ none ++ other ∷ []
    → IsSeatOf y one × IsSeatOf y other × (workers_of y ≡ 2)
two_seats y cells all more none one other h e f =
    let a : length all ≡ length more + 1 = ap length e ∙ length_push more one in
    let b : length more ≡ length none + 1 = ap length f ∙ length_push none other in
    let n : length all ≡ 2 = h.1.count ∙ h.0 in
    let two : workers_of y ≡ 2 = h.0 in
    let held : slice_get all (length none) ≡ Some other =
    ap (λ l. slice_get l (length none)) (e ∙ ap (λ l. l ++ one ∷ []) f) ∙ get_before (none ++ other ∷ []) one (length none) other (get_last none other) in (
      (h.1.each (length more) 0 one (ap (λ l. slice_get l (length more)) e ∙ get_last more one) (omega (arith, a, b, n, two))).seat,
      (h.1.each (length none) 1 other held (omega (arith, a, b, n, two))).seat,
      two,
    )
