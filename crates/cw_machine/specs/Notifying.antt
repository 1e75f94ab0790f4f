-- The parts of a run that each instruction begins, ends and joins.
use Rattle.std.specs.Prelude.{◌≡◌, false, List, [], ◌∷◌, Some, None, slice_get}
use Rattle.cw_model.specs.Syntax.{Name}
use Rattle.cw_model.specs.Trees.{Invocation, Execution, Event}
use Rattle.cw_code.specs.declared.code.BlockKind.{BlockKind}
use Rattle.cw_code.specs.declared.code.BlockKind.TheVariants.{Scope, Region}
use Rattle.cw_code.specs.Code.{Code}
use Rattle.cw_code.specs.Run.{Around, Transition, On, Ends, Stops, Stuck}
use Rattle.cw_measure.specs.OpenParts.{Open, closed}
use Rattle.cw_meter.specs.Origins.{Main}
use Rattle.cw_meter.specs.Meters.{ticked, synced, begun}
use Rattle.cw_runnable.specs.declared.op.Op.{Op}
use Rattle.cw_runnable.specs.declared.op.Op.TheVariants as op
use Rattle.cw_jobs.specs.Opens as opens
use Rattle.cw_jobs.specs.Opens.{is_spawned}

-- the parts of a whole run that are open at a state
abbrev pub opens_round : List Around → List Open
opens_round around = opens.opens_round Main around

-- `P` holds for the open parts and the events after a move, or for the events of the whole run if it ends
abbrev pub After : (List Open → List Event → Type 0) → Transition → Type 0
After P (On s) = P (opens_round s.around) s.trace.events
After P (Ends v arrays t) = P [] (opens.whole t)
After P (Stops trap line lines) = Unit {0}
After P Stuck = Unit {0}

-- `P` holds for the open parts and the events of the innermost one after a block has ended, or a call
abbrev pub BlockEnds : (List Open → List Event → Type 0) → List Open → List Event → Type 0
BlockEnds P os es = (o : Open) (outer : List Open) → os ≡ o ∷ outer → o.spawned ≡ false → P outer (ticked (closed o es))

abbrev pub CallEnds : (List Open → List Event → Type 0) → List Open → List Event → Type 0
CallEnds P os es = (o : Open) (outer : List Open) → os ≡ o ∷ outer → P outer (closed o (synced es))

-- `P` holds after a block has begun
abbrev pub BlockBegins : (List Open → List Event → Type 0) → Code → BlockKind → List Open → List Event → Type 0
BlockBegins P code Scope os es = P (begun false None es os) []
BlockBegins P code (Region k) os es =
    (tag : Name) → slice_get code.tags k ≡ Some tag → P (begun false (Some (Execution tag)) es os) []

-- `P` holds after each instruction that does not stop the run
abbrev pub Tracks : (List Open → List Event → Type 0) → Code → Op → List Open → List Event → Type 0
Tracks P code (op.Call d kind c) os es = P (begun (is_spawned kind) (Some (Invocation c.site)) es os) []
Tracks P code (op.Recur d kind c) os es = P (begun (is_spawned kind) None es os) []
Tracks P code (op.Start d c line) os es = P (begun false None es os) []
Tracks P code (op.Cut d h line) os es = P (begun false None es os) []
Tracks P code (op.EndCut h) os es = BlockEnds P os es
Tracks P code op.Sync os es = P os (synced es)
Tracks P code (op.Open kind) os es = BlockBegins P code kind os es
Tracks P code op.Close os es = BlockEnds P os es
Tracks P code (op.ReturnValue d) os es = CallEnds P os es
Tracks P code op.Return os es = CallEnds P os es
Tracks P code _ os es = P os (ticked es)
