use Rattle.std.proofs.Common.{◌++◌, ◌∙◌}
use Rattle.cw_measure.specs.lemmas.OpenParts.{has_spawned_since}
use Rattle.cw_sites.specs.Tables.{Joins}
use Rattle.cw_meter.proofs.TableLaws.{tables_joined}
use Rattle.cw_meter.proofs.tables.Tables.join.Goals as goal

pub returns-then-record_ready-clause-told : goal.returns-then-record_ready-clause-told
returns-then-record_ready-clause-told c =
    let t = c.args.self.now in
    let notes = c.record_ready.ensures.told c.if-record_ready.true in
    let joins : Joins t.sites c.join_recorded.new.self c.args.count = λ base busy os es fs le n small h.
    c.join_recorded.ensures.told base busy os (es ++ fs) (has_spawned_since es fs _ le.instructions ∙ n) small (notes base busy os es fs le small h) in
    tables_joined t c.join_recorded.new.self c.note.new.self c.join.new.self c.args.count joins c.note.ensures.late c.join.ensures
