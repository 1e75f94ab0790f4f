-- A block to which a spawned call has returned has spawned: this call is its last event.
use Rattle.std.proofs.Common.{◌≡◌, ℕ, ℤ, Bool, true, false, Option, Some, None, List, [], ◌∷◌, ◌++◌, refl, ap, sym, ◌∙◌, subst}
use Rattle.std.specs.Prelude.{slice_get}
use Rattle.cw_model.specs.declared.syntax.CallKind.{CallKind}
use Rattle.cw_model.specs.declared.syntax.CallKind.TheVariants.{Plain, Spawned}
use Rattle.cw_model.specs.Trees.{Tree, Event, tree_of}
use Rattle.cw_model.specs.Outcome.{Trace}
use Rattle.cw_code.specs.Code.{Code}
use Rattle.cw_code.specs.declared.code.Instr.{Instr}
use Rattle.cw_code.specs.Run.{Slots, Around, State, Transition, On, Ends, Stops, Stuck, settled, synced, Entering, begun, event_of, going_on, rejoined, back, step, act}
use Rattle.cw_code.specs.lemmas.Acts.{returning}
use Rattle.cw_measure.specs.OpenParts.{has_spawned, has_spawned_from}
use Rattle.cw_measure.specs.lemmas.OpenParts.{spawned_append}
use Rattle.cw_code.specs.Strands.{Turn, Goes, HandsOut, ComesBack, turn, turn_back, turn_in, turn_call, turn_of}
use Rattle.cw_code.specs.lemmas.StrandActs.{acts_by}

abbrev pub HasSpawnedWhere : Turn → State → Type 0
HasSpawnedWhere Goes s = Unit {0}
HasSpawnedWhere (HandsOut target taken) s = Unit {0}
HasSpawnedWhere ComesBack s = has_spawned s.trace.events ≡ true

abbrev After : Turn → Transition → Type 0
After turn (On s) = HasSpawnedWhere turn s
After turn (Ends v arrays t) = Unit {0}
After turn (Stops trap line lines) = Unit {0}
After turn Stuck = Unit {0}

enters : (s : State) (e : Entering) → After (turn_call e.kind e.target e.taken) (On (begun s e))
enters s e = cases e.kind
  where
    cases : (kind : CallKind) → After (turn_call kind e.target e.taken) (On (begun s (record e { kind = kind })))
    cases Plain = tt
    cases Spawned = tt

event_spawns : (site : Option ℕ) (t : Tree) (b : Bool) → has_spawned_from b (event_of Spawned site t ∷ []) ≡ true
event_spawns None t b = refl
event_spawns (Some site) t b = refl

comes_back : (kind : CallKind) (site : Option ℕ) (es : List Event) (t : Tree) (s : State) → s.trace.events ≡ es ++ event_of kind site t ∷ [] → HasSpawnedWhere (turn_back kind) s
comes_back Plain site es t s e = tt
comes_back Spawned site es t s e = ap has_spawned e ∙ spawned_append false es (event_of Spawned site t ∷ []) ∙ event_spawns site t (has_spawned es)

goes_back : (around : List Around) (v : Option ℤ) (arrays : Slots (List ℤ)) (t : Trace) → After (turn_in around) (back around v arrays t)
goes_back around v arrays t = returning (After (turn_in around)) tt around v arrays t (λ e. tt)
    (λ w others e slots homes results arrived.
    let s : State = record (going_on w others (rejoined (event_of w.kind w.site) w.events t)) {
      slots = slots;
      arrays = homes;
      results = results;
      arrived = arrived;
    } in
    subst (λ a. HasSpawnedWhere (turn_in a) s) (sym e) (comes_back w.kind w.site w.events (tree_of t.events) s refl))

spawns : (code : Code) (s : State) (o : Option Instr) → After (turn_of code o s.around) (act code s o)
spawns code s o = acts_by code s (λ j turn w. After turn w) (record {
  stuck = λ j turn. tt;
  stops = λ j turn trap line lines. tt;
  local = λ place operands slots arrays lines updates. tt;
  enters = enters s;
  opens = λ operands arrays tag cut. tt;
  syncs = tt;
  leaves = λ arrays o around e. tt;
  returns = λ v. goes_back s.around v (settled s.arrived s.arrays) (synced s.trace);
}) o

pub waiters_have_spawned : (code : Code) (s s' : State) → step code s ≡ On s'
    → HasSpawnedWhere (turn code s) s'
waiters_have_spawned code s s' e = subst (After (turn code s)) e (spawns code s (slice_get code.instrs s.place))
