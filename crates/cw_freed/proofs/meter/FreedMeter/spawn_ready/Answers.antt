use Rattle.std.proofs.Common.{◌<◌, sym, subst, arith}
use Rattle.std.proofs.Math.Nat.{mod-eq_of_lt}
use Rattle.std.specs.Global.{Vec}
use Rattle.std.specs.Vec.{vec_len, vec_capacity}
use Rattle.cw_freed.specs.declared.meter.Part.{Part}
use Rattle.cw_freed.specs.declared.paths.Paths.{Paths}
use Rattle.cw_freed.specs.Paths.{HaveRoom}
use Rattle.cw_freed.proofs.Moves.{first_child_begins}
use Rattle.cw_freed.proofs.meter.FreedMeter.spawn_ready.Goals as goal

pub spawn_first-requires : goal.spawn_first-requires
spawn_first-requires c = subst (λ (p : Paths). HaveRoom p) (sym c.settle.ensures.paths) c.requires.paths

pub stack_within-requires : goal.stack_within-requires
stack_within-requires c = subst (λ (v : Vec Part). vec_len v < vec_capacity v) (sym c.settle.ensures.parts) c.requires.room

pub returns : goal.returns
returns c = first_child_begins c.late_paths_wait.ensures c.args.self.now c.settle.new.self c.spawn_first.new.self c.stack_within.new.self c.args.count _ c.args.free c.requires.first (λ small. mod-eq_of_lt (omega arith)) c.settle.ensures c.spawn_first.ensures c.stack_within.ensures
