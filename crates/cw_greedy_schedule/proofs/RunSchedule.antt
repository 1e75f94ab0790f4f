-- The schedule of a run that records its strands.
use Rattle.std.proofs.Common.{◌≡◌, ◌≤◌, ◌<◌, ◌+◌, ℕ, ℤ, Bool, true, false, ◌&&◌, Ok, Err, List, ap, refl, ◌∙◌, arith}
use Rattle.std.specs.Prelude.{IsOk, nat_le, nat_eq, length}
use Rattle.cw_facts.specs.Tests.{first_true, second_true, le_of}
use Rattle.cw_model.specs.declared.limits.TheConstants.{MOST_LIMIT, MOST_BURDEN}
use Rattle.cw_model.specs.Burdens.{no_burden}
use Rattle.cw_model.specs.Trees.{Tree}
use Rattle.cw_text.specs.declared.fault.Fault.{Fault}
use Rattle.cw_text.specs.declared.fault.Fault.TheVariants as fault
use Rattle.cw_model.specs.declared.limits.TheConstants.{MOST_STRANDS}
use Rattle.cw_greedy.specs.Recorded.{Recorded, begun, capped}
use Rattle.cw_greedy.specs.Records.{IsRecordOf}
use Rattle.cw_greedy.specs.Blocks.{strand_count}
use Rattle.cw_code.specs.Code.{Code}
use Rattle.cw_code.specs.Fits.{main_params}
use Rattle.cw_machine.specs.Runs.{is_request, IsFailure}
use Rattle.cw_greedy.specs.Recording.{IsKept}
use Rattle.cw_machine.specs.Recorded.{Records}
use Rattle.cw_greedy_schedule.specs.Schedules.{is_counted, is_asked, Ends, HasTooManyStrands, IsNotScheduled}

-- the limit of a valid request is in its range
pub at_most : (code : Code) (args : List ℤ) (n processors k : ℕ) → is_asked code args n processors ≡ true → k ≤ n → k ≤ MOST_LIMIT
at_most code args n processors k asked within =
    let low = nat_le no_burden.charge MOST_BURDEN in
    let request = second_true (is_counted processors) (is_request code args n no_burden) asked in
    let limits = second_true (nat_eq (length args) (main_params code)) (nat_le 1 n && (nat_le n MOST_LIMIT && low)) request in
    let most = first_true (nat_le n MOST_LIMIT) low (second_true (nat_le 1 n) (nat_le n MOST_LIMIT && low) limits) in
    omega (arith, le_of n MOST_LIMIT most, within)

-- the reason why a run has no value is the reason why it has no schedule
pub not_scheduled : (code : Code) (args : List ℤ) (n processors : ℕ) (e : Fault) → is_asked code args n processors ≡ true → IsFailure code args n no_burden e → IsNotScheduled code args n processors e
not_scheduled code args n processors fault.Arguments asked h = ap (λ b. is_counted processors && b) h ∙ none (is_counted processors)
  where
    none : (b : Bool) → (b && false) ≡ false
    none true = cc
    none false = cc
not_scheduled code args n processors fault.OverLimit asked h = (asked, h.1)
not_scheduled code args n processors (fault.Trap trap line output) asked h = (asked, h.1)
not_scheduled code args n processors fault.Memory asked h = asked
not_scheduled code args n processors (fault.Lexical place) asked h = absurd h
not_scheduled code args n processors (fault.Syntax place) asked h = absurd h
not_scheduled code args n processors (fault.Types place) asked h = absurd h
not_scheduled code args n processors (fault.Ownership place) asked h = absurd h
not_scheduled code args n processors (fault.Size place) asked h = absurd h
not_scheduled code args n processors fault.Code asked h = absurd h
not_scheduled code args n processors fault.Write asked h = absurd h
not_scheduled code args n processors (fault.Strands k) asked h = absurd h

pub ends_so : (code : Code) (args : List ℤ) (n : ℕ) (kept : Recorded) (r : Records code args n kept) → Ends code args n r.tree
ends_so code args n kept r = record { value = r.value; lines = r.lines; totals = r.totals; answer = r.answer }

-- the record of a run with few enough strands
pub record_kept : (t : Tree) (kept : Recorded) → IsOk kept → IsKept t kept → (strand_count t ≤ MOST_STRANDS) × IsRecordOf t kept
record_kept t (Err n) some k = cc
record_kept t (Ok codes) some k = k

-- the record of a run with too many strands
many_kept : (t : Tree) (kept : Recorded) → (IsOk kept → ⊥) → IsKept t kept → (MOST_STRANDS < strand_count t) × (capped (1 + begun kept) ≡ capped (strand_count t))
many_kept t (Err n) many k = k
many_kept t (Ok codes) many k = absurd (many refl)

pub too_many : (code : Code) (args : List ℤ) (n processors k : ℕ) (kept : Recorded) → is_asked code args n processors ≡ true → Records code args n kept → (IsOk kept → ⊥)
    → k ≡ capped (1 + begun kept) → HasTooManyStrands code args n processors k
too_many code args n processors k kept asked r many is =
    let m = many_kept r.tree kept many r.is_kept in
    record { asked = asked; tree = r.tree; ends = ends_so code args n kept r; many = m.0; told = is ∙ m.1 }
