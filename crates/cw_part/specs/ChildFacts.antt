-- The part of a child, or of a call, is above a limit if the child or the call is.
use Rattle.std.specs.Prelude.{◌≡◌, ℕ, nat_lt, refl}
use Rattle.std.proofs.Common.{ap, arith}
use Rattle.cw_model.specs.declared.burden.Burden.{Burden}
use Rattle.cw_measure.specs.Counters.{up_to}
use Rattle.cw_measure.specs.Measured.{most}
use Rattle.cw_part.specs.declared.read.Read.{Read}
use Rattle.cw_part.specs.Parts.{Came, Completed, Trapped, Over, Memory, seen, is_above}
use Rattle.cw_part.specs.Read.{readings, child_read, call_read}

no_more : (w : ℕ) → up_to most 0 w ≡ w
no_more w = omega arith

pub child_above : (burden : Burden) (n : ℕ) (x : Came Read)
    → is_above readings n (seen (child_read burden) x) ≡ is_above readings n x
child_above burden n (Completed a) = ap (nat_lt n) (no_more a.measure.work)
child_above burden n (Trapped trap line a) = ap (nat_lt n) (no_more a.measure.work)
child_above burden n Over = refl
child_above burden n Memory = refl

pub call_above : (n : ℕ) (x : Came Read) → is_above readings n (seen call_read x) ≡ is_above readings n x
call_above n (Completed a) = ap (nat_lt n) (no_more a.measure.work)
call_above n (Trapped trap line a) = ap (nat_lt n) (no_more a.measure.work)
call_above n Over = refl
call_above n Memory = refl
