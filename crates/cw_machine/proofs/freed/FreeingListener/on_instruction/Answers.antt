use Rattle.std.proofs.Common.{◌∙◌, ap, Bool, List}
use Rattle.cw_freed.specs.Freeing.{BeginsCall, BeginsChild, BeginsHalf, BeginsQuiet}
use Rattle.cw_machine.specs.declared.freed.Freeing.{Freeing}
use Rattle.cw_machine.specs.Listening.{IsNotifiedOf}
use Rattle.cw_machine.specs.Freed.{is_freed, Asked, FreesRun}
use Rattle.cw_machine.proofs.RecordRelation.{began, on_ok}
use Rattle.cw_machine.proofs.Freeings.{with_meter, quiet, told_call, told_spawn, told_recur, told_half}
use Rattle.cw_machine.proofs.freed.FreeingListener.on_instruction.Goals as goal

pub returns-in-Plain : goal.returns-in-Plain
returns-in-Plain c =
    let old = c.args.self.now in
    let m = c.call.new.self in
    let at = c.in-Call in
    let free = c.is_free-free.result in
    on_ok c.call.result (BeginsCall old.meter m c.args.count free) ((asked : Asked) → IsNotifiedOf (FreesRun asked) old (with_meter old m) c.args.count c.args.o.now)
    (told_call old m c.args.count c.args.o.now at.field-0 at.kind at.c free at.is c.in-Plain.is (c.is_free-free.ensures ∙ ap (λ (l : List Bool). is_freed l at.c.site) c.as_slice.ensures.value)) c.call.ensures

pub returns-in-Spawned : goal.returns-in-Spawned
returns-in-Spawned c =
    let old = c.args.self.now in
    let m = c.spawn.new.self in
    let at = c.in-Call in
    let free = c.is_free-free.result in
    on_ok c.spawn.result (BeginsChild old.meter m c.args.count free) ((asked : Asked) → IsNotifiedOf (FreesRun asked) old (with_meter old m) c.args.count c.args.o.now)
    (told_spawn old m c.args.count c.args.o.now at.field-0 at.kind at.c free at.is c.in-Spawned.is (c.is_free-free.ensures ∙ ap (λ (l : List Bool). is_freed l at.c.site) c.as_slice.ensures.value)) c.spawn.ensures

pub returns-in-Plain-kind : goal.returns-in-Plain-kind
returns-in-Plain-kind c =
    let old = c.args.self.now in
    let m = c.begin.new.self in
    let at = c.in-Recur in
    on_ok c.begin.result (BeginsQuiet old.meter m c.args.count) ((asked : Asked) → IsNotifiedOf (FreesRun asked) old (with_meter old m) c.args.count c.args.o.now)
    (told_recur old m c.args.count c.args.o.now at.field-0 at.kind at.field-2 at.is c.in-Plain-kind.is) c.begin.ensures

pub returns-in-Spawned-kind : goal.returns-in-Spawned-kind
returns-in-Spawned-kind c =
    let old = c.args.self.now in
    let m = c.spawn_half.new.self in
    let at = c.in-Recur in
    on_ok c.spawn_half.result (BeginsHalf old.meter m c.args.count) ((asked : Asked) → IsNotifiedOf (FreesRun asked) old (with_meter old m) c.args.count c.args.o.now)
    (told_half old m c.args.count c.args.o.now at.field-0 at.kind at.field-2 at.is c.in-Spawned-kind.is) c.spawn_half.ensures

pub returns-in-Start : goal.returns-in-Start
returns-in-Start c =
    let old = c.args.self.now in
    let m = c.begin-in-Start.new.self in
    on_ok c.begin-in-Start.result (BeginsQuiet old.meter m c.args.count) ((asked : Asked) → IsNotifiedOf (FreesRun asked) old (with_meter old m) c.args.count c.args.o.now)
    (λ begins asked. began Freeing (FreesRun asked) old (with_meter old m) c.args.count c.args.o.now c.in-Start.is (quiet asked old m c.args.count begins)) c.begin-in-Start.ensures
