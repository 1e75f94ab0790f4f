-- The seats of an opened yard, as they are popped one at a time.
use Rattle.std.proofs.Common.{◌≡◌, ◌∙◌, ◌<◌, ◌+◌, ◌-◌, ◌++◌, ℕ, List, [], ◌∷◌, length, ap, subst, arith}
use Rattle.std.proofs.lemmas.Option.{slice_get_within}
use Rattle.std.proofs.lemmas.List.{length_push}
use Rattle.cw_facts.specs.Lists.{each_init, each_of}
use Rattle.cw_yard.specs.declared.seat.Yard.{Yard}
use Rattle.cw_yard.specs.declared.seat.Seat.{Seat}
use Rattle.cw_yard.specs.Ledger.{Each}
use Rattle.cw_yard.specs.Opened.{IsOpened}
use Rattle.cw_yard.specs.Seats.{IsSeatOf, workers_of}
use Rattle.cw_pool.specs.Driven.{AreSeatsFor}

-- all seats are seats of the yard
pub opened : (y : Yard) (workers cells : ℕ) (seats : List Seat) → IsOpened workers cells y seats → AreSeatsFor y workers seats
opened y workers cells seats h = (
  h.1.count ∙ h.0,
  each_of (IsSeatOf y) seats (λ j s e.
      let lt : j < length seats = slice_get_within seats j s e in
      let n : length seats ≡ workers_of y = h.1.count in
      (h.1.each j (workers_of y - (j + 1)) s e (omega (arith, lt, n))).seat),
)

-- the last seat and the others
pub parted : (y : Yard) (bodies : ℕ) (seats others : List Seat) (s : Seat) → seats ≡ others ++ s ∷ [] → AreSeatsFor y (bodies + 1) seats
    → AreSeatsFor y bodies others × IsSeatOf y s
parted y bodies seats others s e h =
    let r = each_init (IsSeatOf y) others s (subst (λ l. Each (IsSeatOf y) l) e h.1) in
    let n : length seats ≡ length others + 1 = ap length e ∙ length_push others s in
    let m : length seats ≡ bodies + 1 = h.0 in
    ((omega (arith, n, m), r.0), r.1)

-- the last seat
pub last : (y : Yard) (bodies : ℕ) (seats others : List Seat) (s : Seat) → seats ≡ others ++ s ∷ [] → AreSeatsFor y bodies seats → IsSeatOf y s
last y bodies seats others s e h = (each_init (IsSeatOf y) others s (subst (λ l. Each (IsSeatOf y) l) e h.1)).1
