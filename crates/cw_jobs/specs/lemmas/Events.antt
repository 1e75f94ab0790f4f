-- A call that ended is one event of its caller, and a sync block that ended is one event of the enclosing block.
use Rattle.std.specs.Prelude.{◌≡◌, ℕ, false, Option, Some, None, refl}
use Rattle.cw_model.specs.declared.syntax.CallKind.{CallKind}
use Rattle.cw_model.specs.declared.syntax.CallKind.TheVariants.{Plain, Spawned}
use Rattle.cw_model.specs.Syntax.{Name}
use Rattle.cw_model.specs.Trees.{Tree}
use Rattle.cw_code.specs.Run.{event_of, block_event}
use Rattle.cw_measure.specs.OpenParts.{marked, part_of}
use Rattle.cw_jobs.specs.Opens.{is_spawned, call_mark, block_mark}

pub call_event_is : (kind : CallKind) (site : Option ℕ) (t : Tree) → part_of (is_spawned kind) (marked (call_mark site) t) ≡ event_of kind site t
call_event_is Plain None t = refl
call_event_is Spawned None t = refl
call_event_is Plain (Some site) t = refl
call_event_is Spawned (Some site) t = refl

pub block_event_is : (tag : Option Name) (t : Tree) → part_of false (marked (block_mark tag) t) ≡ block_event tag t
block_event_is None t = refl
block_event_is (Some tag) t = refl
