use Rattle.std.proofs.Common.{not, Bool, sym, ap, subst}
use Rattle.cw_measure.specs.StrandWeights.{SpawnsWeight}
use Rattle.cw_sites.specs.Tables.{Spawns}
use Rattle.cw_meter.proofs.TableLaws.{spawned_call_opened}
use Rattle.cw_meter.proofs.tables.Tables.spawn_ready.Goals as goal

pub returns-then-spawn_ready-clause-opens : goal.returns-then-spawn_ready-clause-opens
returns-then-spawn_ready-clause-opens c = λ done.
    let t = c.args.self.now in
    let e = sym (ap not (c.can_spawn.ensures.first c.if-can_spawn.true)) in
    let S : Bool → Type 0 = λ b. Spawns t.sites c.spawn_ready.new.self c.args.next c.args.site b in
    let W : Bool → Type 0 = λ b. SpawnsWeight c.note.new.self c.spawn_within.new.self c.args.next b in
    spawned_call_opened t c.spawn_ready.new.self c.note.new.self c.spawn_within.new.self c.args.next c.args.site (subst S e (c.spawn_ready.ensures.told c.if-spawn_ready.true)) c.note.ensures.late (subst W e c.spawn_within.ensures)
