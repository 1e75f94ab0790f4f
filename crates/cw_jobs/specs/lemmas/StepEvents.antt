-- The parts of a run that each instruction begins, ends and joins: a property of these events holds after the step.
use Rattle.std.proofs.Common.{◌≡◌, ℤ, false, Option, Some, None, List, [], ◌∷◌, ◌++◌, refl, ap, subst}
use Rattle.std.specs.Prelude.{slice_get}
use Rattle.cw_model.specs.Syntax.{Name}
use Rattle.cw_model.specs.Trees.{Invocation, Execution, Event, tree_of}
use Rattle.cw_model.specs.Outcome.{Trace}
use Rattle.cw_code.specs.declared.code.BlockKind.{BlockKind}
use Rattle.cw_code.specs.declared.code.BlockKind.TheVariants.{Scope, Region}
use Rattle.cw_code.specs.declared.code.Instr.{Instr}
use Rattle.cw_code.specs.Code.{Code}
use Rattle.cw_code.specs.Run.{Slots, Around, Block, Opened, State, Transition, On, Ends, Stops, Stuck, settled, put_in, back, resumes, uncut_arrays, act}
use Rattle.cw_code.specs.Run as run
use Rattle.cw_measure.specs.OpenParts.{Open}
use Rattle.cw_measure.specs.OpenParts as parts
use Rattle.cw_meter.specs.Meters as meters
use Rattle.cw_meter.specs.Origins.{Origin, Main, Rest}
use Rattle.cw_code.specs.declared.code.Instr.TheVariants as instr
use Rattle.cw_jobs.specs.Opens.{is_spawned, call_mark, block_mark, opens_round, whole}
use Rattle.cw_code.specs.lemmas.Acts.{IsLocal, acts_both, closing, uncutting, returning}
use Rattle.cw_jobs.specs.lemmas.Events.{call_event_is, block_event_is}

-- a property of the open parts and events after a step; at the end of a whole run, of the run's only event
abbrev pub AtEnd : (List Open → List Event → Type 0) → Origin → Trace → Type 0
AtEnd P Main t = P [] (whole t)
AtEnd P (Rest site) t = Unit {0}

abbrev pub After : (List Open → List Event → Type 0) → Origin → Transition → Type 0
After P from (On s) = P (opens_round from s.around) s.trace.events
After P from (Ends v arrays t) = AtEnd P from t
After P from (Stops trap line lines) = Unit {0}
After P from Stuck = Unit {0}

module _ (P : List Open → List Event → Type 0) (from : Origin) where
  -- the end of a block, and the end of a call
  abbrev pub BlockEnds : List Open → List Event → Type 0
  BlockEnds os es = (o : Open) (outer : List Open) → os ≡ o ∷ outer → o.spawned ≡ false → P outer (meters.ticked (parts.closed o es))

  abbrev pub CallEnds : List Open → List Event → Type 0
  CallEnds os es = (o : Open) (outer : List Open) → os ≡ o ∷ outer → P outer (parts.closed o (meters.synced es))

  -- the start of a block
  abbrev pub BlockBegins : Code → BlockKind → List Open → List Event → Type 0
  BlockBegins code Scope os es = P (meters.begun false None es os) []
  BlockBegins code (Region k) os es = (tag : Name) → slice_get code.tags k ≡ Some tag → P (meters.begun false (Some (Execution tag)) es os) []

  abbrev pub Tracks : Code → Instr → List Open → List Event → Type 0
  Tracks code (instr.Call kind c) os es = P (meters.begun (is_spawned kind) (Some (Invocation c.site)) es os) []
  Tracks code (instr.Recur kind c) os es = P (meters.begun (is_spawned kind) None es os) []
  Tracks code (instr.Start c line) os es = P (meters.begun false None es os) []
  Tracks code (instr.Cut h line) os es = P (meters.begun false None es os) []
  Tracks code instr.EndCut os es = BlockEnds os es
  Tracks code instr.Sync os es = P os (meters.synced es)
  Tracks code (instr.Open kind) os es = BlockBegins code kind os es
  Tracks code instr.Close os es = BlockEnds os es
  Tracks code instr.ReturnValue os es = CallEnds os es
  Tracks code instr.Return os es = CallEnds os es
  Tracks code _ os es = P os (meters.ticked es)

  -- a block ends
  resumed : (s : State) (o : Opened) (around : List Around) → s.around ≡ Block o ∷ around → (arrays : Slots (List ℤ))
      → BlockEnds (opens_round from s.around) s.trace.events → After P from (resumes (record (put_in s) { arrays = arrays }) o around)
  resumed s o around same arrays h =
      subst (λ e. P (opens_round from around) (meters.ticked (o.events ++ e ∷ []))) (block_event_is o.tag (tree_of s.trace.events))
      (h (record { spawned = false; mark = block_mark o.tag; outer = o.events }) (opens_round from around) (ap (opens_round from) same) refl)

  -- a call ends
  goes_back : (s : State) (v : Option ℤ) → CallEnds (opens_round from s.around) s.trace.events → After P from (back s.around v (settled s.arrived s.arrays) (run.synced s.trace))
  goes_back s v h = returning (After P from) tt s.around v (settled s.arrived s.arrays) (run.synced s.trace)
      (λ e. at_end from (subst (λ a. CallEnds (opens_round from a) s.trace.events) e h))
      (λ w others e slots homes results arrived.
      subst (λ x. P (opens_round from others) (w.events ++ x ∷ [])) (call_event_is w.kind w.site (tree_of (meters.synced s.trace.events)))
      (h (record { spawned = is_spawned w.kind; mark = call_mark w.site; outer = w.events }) (opens_round from others) (ap (opens_round from) e)))
    where
      at_end : (o : Origin) → CallEnds (opens_round o []) s.trace.events → AtEnd P o (run.synced s.trace)
      at_end Main h = h (record { spawned = false; mark = Some (Invocation 0); outer = [] }) [] refl
      at_end (Rest site) h = tt

  -- an instruction that continues in its block begins and ends nothing
  ticks : (code : Code) (i : Instr) (os : List Open) (es : List Event) → IsLocal i → Tracks code i os es → P os (meters.ticked es)
  ticks code (instr.Call kind c) os es here h = absurd here
  ticks code (instr.Recur kind c) os es here h = absurd here
  ticks code (instr.Start c line) os es here h = absurd here
  ticks code (instr.NewArray a line) os es here h = absurd here
  ticks code (instr.SetElement a line) os es here h = absurd here
  ticks code (instr.Cut c line) os es here h = absurd here
  ticks code instr.EndCut os es here h = absurd here
  ticks code instr.Sync os es here h = absurd here
  ticks code (instr.Open kind) os es here h = absurd here
  ticks code instr.Close os es here h = absurd here
  ticks code instr.ReturnValue os es here h = absurd here
  ticks code instr.Return os es here h = absurd here
  ticks code _ os es here h = h

  abbrev TracksNext : Code → State → Option Instr → Type 0
  TracksNext code s None = Unit {0}
  TracksNext code s (Some i) = Tracks code i (opens_round from s.around) s.trace.events

  told_of : (code : Code) (s : State) (o : Option Instr) → TracksNext code s o → After P from (act code s o)
  told_of code s o = acts_both code s s.results s.arrived s.around s.trace (λ o w w'. TracksNext code s o → After P from w) (record {
    stuck = λ o h. tt;
    stops = λ o trap line h. tt;
    local = λ i place operands slots lines updates here next few h. ticks code i (opens_round from s.around) s.trace.events here h;
    makes = λ a line rest xs h. h;
    sets = λ a line rest xs h. h;
    calls = λ kind c f given lent h. h;
    recurs = λ kind c f given h. h;
    starts = λ c line f given low captured turns h. h;
    scopes = λ h. h;
    regions = λ k tag e h. h tag e;
    cuts = λ c line xs rest at h. h;
    uncuts = uncutting (λ w. BlockEnds (opens_round from s.around) s.trace.events → After P from w) (λ h. tt) s
        (λ b around c left right e q h. resumed s b around e (uncut_arrays c left right (settled s.arrived s.arrays)) h);
    syncs = λ h. h;
    closes = closing (λ w. BlockEnds (opens_round from s.around) s.trace.events → After P from w) (λ h. tt) s
        (λ b around e h. resumed s b around e (settled s.arrived s.arrays) h);
    gives = λ v h. goes_back s (Some v) h;
    returns = λ h. goes_back s None h;
  }) o

  -- each instruction
  pub told : (code : Code) (s : State) (i : Instr) → Tracks code i (opens_round from s.around) s.trace.events → After P from (act code s (Some i))
  told code s i h = told_of code s (Some i) h
