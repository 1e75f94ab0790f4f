-- A continuation came back to a run of a job: the results of the run's own spawns go into their slots, and what
-- waited before the run began still waits.
use Rattle.std.proofs.Common.{◌≡◌, ℕ, zero, suc, ◌+◌, ◌<◌, ℤ, true, Option, Some, None, List, [], ◌∷◌, length}
use Rattle.std.proofs.Common.{refl, sym, ap, ◌∙◌, arith}
use Rattle.std.specs.Prelude.{slice_get}
use Rattle.std.proofs.lemmas.List.{append-nil}
use Rattle.cw_model.specs.Outcome.{quiet}
use Rattle.cw_code.specs.Run.{Slots, Results, Around, Caller, Block, State, is_full}
use Rattle.cw_code.specs.Good.{IsNotAmong, slots_in, ints_round, all_of}
use Rattle.cw_code.specs.lemmas.Slots.{not_in_first, not_in_second}
use Rattle.cw_code.specs.lemmas.Runs.{joined_quiet}
use Rattle.cw_code.specs.Jobs.{JoinFrame}
use Rattle.cw_code.specs.Over.{trace_under, under}
use Rattle.cw_code.specs.Strands.{resumed}
use Rattle.cw_machine.specs.RepresentsState.{cell, Comes}
use Rattle.cw_machine.specs.Gives.{Waits, went_on, ComesBut, RoundComesBut}
use Rattle.cw_machine.specs.Hands.{ComesRound}

abbrev pub waits_at : (b s : State) (around : List Around) → Waits (under b (record s { around = around }))
waits_at b s [] =
    record {
      newest = s.results;
      others = b.results;
      are = refl;
      newest_arrays = s.arrived;
      other_arrays = b.arrived;
      are_arrays = refl;
    }
waits_at b s (a ∷ around) =
    record {
      newest = s.results;
      others = [];
      are = sym (append-nil s.results);
      newest_arrays = s.arrived;
      other_arrays = [];
      are_arrays = sym (append-nil s.arrived);
    }

-- the results that wait in a run on top of the results that waited before it
abbrev pub waits_under : (b s : State) → Waits (under b s)
waits_under b s = waits_at b s s.around

-- a run that continues after a join continues on top of its base state, with what its call reads
pub went_under : (b s : State) (frame : JoinFrame) → frame.readers ≡ s.readers
    → went_on (under b s) frame (waits_under b s) ≡ under b (resumed s frame quiet)
went_under b s frame reads = at s.around ∙ ap (λ r. record (under b (resumed s frame quiet)) { readers = r }) (sym reads)
  where
    at : (around : List Around)
        → went_on (under b (record s { around = around })) frame (waits_at b s around)
        ≡ record (under b (resumed (record s { around = around }) frame quiet)) { readers = s.readers }
    at [] =
        ap (λ t. record (went_on (under b (record s { around = [] })) frame (waits_at b s []))
        { trace = trace_under b [] t }) (sym (joined_quiet s.trace))
    at (a ∷ around) =
        ap (λ t. record (went_on (under b (record s { around = a ∷ around })) frame (waits_at b s (a ∷ around)))
        { trace = trace_under b (a ∷ around) t }) (sym (joined_quiet s.trace))

empty_there : (slots : Slots ℤ) (a : ℕ) → a < length slots → (is_full (slice_get slots a) ≡ true → ⊥)
    → slice_get slots a ≡ Some None
empty_there [] a lt n = absurd (omega (arith, lt))
empty_there (None ∷ slots) zero lt n = refl
empty_there (Some x ∷ slots) zero lt n = absurd (n refl)
empty_there (x ∷ slots) (suc a) lt n = empty_there slots a (omega (arith, lt)) n

-- the results that waited when a continuation was handed out are in its cells when it comes back, if it kept the
-- cells of its empty slots
pub comes_back : (target : Option ℕ) (slots : Slots ℤ) (out back : List ℤ)
    → ((a : ℕ) → slice_get slots a ≡ Some None → cell back a ≡ cell out a)
    → (results : Results ℤ) → ((a : ℕ) → is_full (slice_get slots a) ≡ true → IsNotAmong a (slots_in results))
    → Comes out 0 (length slots) results → ComesBut target back results
comes_back target slots out back kept [] apart h = tt
comes_back target slots out back kept (r ∷ results) apart h =
    let at : 0 + r.0 ≡ r.0 = omega arith in
    let empty = empty_there slots r.0 h.0 (λ full. (apart r.0 full).0 refl) in (
      (λ other. kept r.0 empty ∙ ap (cell out) (sym at) ∙ h.1),
      comes_back target slots out back kept results
          (λ a full. (apart a full).1) h.2,
    )

-- the results for which the enclosing open blocks wait are in the cells when the continuation comes back
pub comes_back_round : (target : Option ℕ) (slots : Slots ℤ) (out back : List ℤ)
    → ((a : ℕ) → slice_get slots a ≡ Some None → cell back a ≡ cell out a)
    → (around : List Around)
    → ((a : ℕ) → is_full (slice_get slots a) ≡ true → IsNotAmong a (all_of (ints_round around)))
    → ComesRound out 0 (length slots) around → RoundComesBut target back around
comes_back_round target slots out back kept [] apart h = tt
comes_back_round target slots out back kept (Caller w ∷ around) apart h = tt
comes_back_round target slots out back kept (Block o ∷ around) apart h = (
  comes_back target slots out back kept o.results
      (λ a full. not_in_first a (slots_in o.results) (all_of (ints_round around)) (apart a full)) h.0,
  comes_back_round target slots out back kept around
      (λ a full. not_in_second a (slots_in o.results) (all_of (ints_round around)) (apart a full)) h.1,
)
