-- What is read of a trace, and the part of a run that one strand ran.
use Rattle.std.specs.Prelude.{◌≡◌, ℕ, zero, suc, ℤ, ◌-◌, ◌≤◌, ◌==◌, min, Bool, true, false, if◌then◌else◌, List, [], ◌∷◌, refl}
use Rattle.std.proofs.Common.{sym, ◌∙◌, ap, arith}
use Rattle.cw_facts.specs.Tests.{eq_of, not_lt_of, not_below, suc_same, suc_not, not_suc}
use Rattle.cw_model.specs.declared.burden.Burden.{Burden}
use Rattle.cw_model.specs.Syntax.{Name}
use Rattle.cw_model.specs.declared.limits.TheConstants.{MOST_LIMIT}
use Rattle.cw_model.specs.Outcome.{Trace}
use Rattle.cw_measure.specs.Measured.{most, measure_of}
use Rattle.cw_reduce.specs.ReducerState.{ReducerState, none_held, one_held, held_joined}
use Rattle.cw_reduce.specs.HeldLaws.{held-first}
use Rattle.cw_reduce.specs.PieceResults.{held_of, totals_joined}
use Rattle.cw_part.specs.declared.read.Read.{Read}
use Rattle.cw_part.specs.Parts.{Came, Completed, Trapped, Over, Memory, seen, is_above}
use Rattle.cw_part.specs.Read.{readings}
use Rattle.cw_part.specs.RunParts.{RunPart}
use Rattle.cw_part.specs.Runs.{Run, Numbering, cost, traces, serial, told, RepresentsTrace, RepresentsTrap, RepresentsOutcome, RanAlike, TrappedAlike, OverAlike, Alone}
use Rattle.cw_part.specs.RunsHaveParts.{RunsHaveParts}
use Rattle.cw_part.proofs.RunLaws.{IsNoMemory}
use Rattle.cw_part.proofs.TellingLaws.{held_both}
use Rattle.cw_part.proofs.StandingLaws.{none_met, serial_tested}

-- what is held of updates, one after another
abbrev one_total : ℕ → ReducerState → List ReducerState
one_total zero w = w ∷ []
one_total (suc k) w = none_held ∷ one_total k w

abbrev one_update : Numbering → Name × ℤ → List ReducerState
one_update numbering x = one_total (numbering.number x.0) (one_held (numbering.how (numbering.number x.0)) x.1)

abbrev totals_of : Numbering → List (Name × ℤ) → List ReducerState
totals_of numbering [] = []
totals_of numbering (x ∷ more) = totals_joined (one_update numbering x) (totals_of numbering more)

one_read : (k q : ℕ) (w : ReducerState) → held_of (one_total k w) q ≡ (if k == q then w else none_held)
one_read zero zero w = refl
one_read zero (suc q) w = ap (λ (b : Bool). if b then w else none_held) (sym (not_suc q))
one_read (suc k) zero w = ap (λ (b : Bool). if b then w else none_held) (sym (suc_not k))
one_read (suc k) (suc q) w = one_read k q w ∙ ap (λ (b : Bool). if b then w else none_held) (sym (suc_same k q))

none_read : (q : ℕ) → held_of [] q ≡ none_held
none_read zero = refl
none_read (suc q) = refl

-- an update at its number, by how the reducer that is asked for reduces
update_read : (numbering : Numbering) (x : Name × ℤ) (q : ℕ) → held_of (one_update numbering x) q ≡ (if numbering.number x.0 == q then one_held (numbering.how q) x.1 else none_held)
update_read numbering x q = one_read k q (one_held (numbering.how k) x.1) ∙ by_test (k == q) refl
  where
    k : ℕ
    k = numbering.number x.0

    by_test : (b : Bool) → (k == q) ≡ b → (if b then one_held (numbering.how k) x.1 else none_held) ≡ (if b then one_held (numbering.how q) x.1 else none_held)
    by_test true e = ap (λ (n : ℕ). one_held (numbering.how n) x.1) (eq_of k q e)
    by_test false e = refl

totals_read : (numbering : Numbering) (q : ℕ) (xs : List (Name × ℤ)) → held_of (totals_of numbering xs) q ≡ told numbering q xs
totals_read numbering q [] = none_read q
totals_read numbering q (x ∷ xs) =
    held_both (one_update numbering x) (totals_of numbering xs) q
    ∙ ap (λ (w : ReducerState). held_joined w (held_of (totals_of numbering xs) q)) (update_read numbering x q)
    ∙ ap (held_joined (if numbering.number x.0 == q then one_held (numbering.how q) x.1 else none_held)) (totals_read numbering q xs)
    ∙ by_test (numbering.number x.0 == q)
  where
    by_test : (b : Bool) → held_joined (if b then one_held (numbering.how q) x.1 else none_held) (told numbering q xs)
        ≡ (if b then held_joined (one_held (numbering.how q) x.1) (told numbering q xs) else told numbering q xs)
    by_test true = refl
    by_test false = held-first (told numbering q xs)

-- what is read of a trace
abbrev read_of : (burden : Burden) (numbering : Numbering) → Trace → Read
read_of burden numbering t = record { views = record { totals = totals_of numbering t.updates; lines = t.lines }; measure = measure_of burden t.events }

reads_all : (burden : Burden) (numbering : Numbering) (t : Trace) → RepresentsTrace burden numbering t (read_of burden numbering t)
reads_all burden numbering t = record { lines = refl; totals = λ q. totals_read numbering q t.updates; measure = refl }

reads_trap : (burden : Burden) (numbering : Numbering) (t : Trace) → RepresentsTrap t (read_of burden numbering t)
reads_trap burden numbering t = record { lines = refl; work = refl }

all_told : (burden : Burden) (numbering : Numbering) (x : Came Trace) → IsNoMemory x → RepresentsOutcome burden numbering x (seen (read_of burden numbering) x)
all_told burden numbering (Completed t) h = RanAlike t (read_of burden numbering t) (reads_all burden numbering t)
all_told burden numbering (Trapped trap line t) h = TrappedAlike trap line t (read_of burden numbering t) (reads_trap burden numbering t)
all_told burden numbering Over h = OverAlike
all_told burden numbering Memory h = absurd h

-- it is within the limit where the run is
all_tested : (burden : Burden) (numbering : Numbering) (n left : ℕ) (x : Came Trace) → left ≤ n → is_above traces left x ≡ false → is_above readings n (seen (read_of burden numbering) x) ≡ false
all_tested burden numbering n left (Completed t) l e = let c = not_lt_of left (cost t) e in not_below n (min most (cost t)) (omega arith)
all_tested burden numbering n left (Trapped trap line t) l e = let c = not_lt_of left (cost t) e in not_below n (min most (cost t)) (omega arith)
all_tested burden numbering n left Over l e = refl
all_tested burden numbering n left Memory l e = refl

abbrev part_of_run : (burden : Burden) (numbering : Numbering) (limit left : ℕ) (run : Run) → limit ≤ MOST_LIMIT → left ≤ limit → RunPart
part_of_run burden numbering limit left run g l = record {
  limit = limit;
  came = seen (read_of burden numbering) (serial left run);
  limited = not_below MOST_LIMIT limit g;
  tested = all_tested burden numbering limit left (serial left run) l (serial_tested left run);
}

pub runs_have_parts : RunsHaveParts
runs_have_parts burden numbering limit before run g h =
    let left = limit - before in
    let l : left ≤ limit = omega arith in
    record {
      part = part_of_run burden numbering limit left run g l;
      is_joined = Alone before left run (part_of_run burden numbering limit left run g l) refl l (omega arith) (all_told burden numbering (serial left run) (none_met left run));
    }
