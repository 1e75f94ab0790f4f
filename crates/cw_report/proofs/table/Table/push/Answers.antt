use Rattle.std.proofs.Common.{sym, ◌∙◌, ◌≤◌, map, subst}
use Rattle.std.proofs.lemmas.List.{length-map}
use Rattle.cw_report.proofs.Lines.{pushed}
use Rattle.cw_report.proofs.table.Table.push.Goals as goal

pub returns : goal.returns
returns c =
    let wrote = c.write_fields.ensures in
    let good = sym c.is_err.ensures.value ∙ c.if-is_err.false in
    let two = subst (λ n. 2 ≤ n) (sym (length-map c.args.fields.now (λ f. f.now))) c.requires in
    pushed c.args.self.now.writer c.write_fields.new.self (map (λ f. f.now) c.args.fields.now) c.write_fields.result
    good two wrote.bytes wrote.ended wrote.clean wrote.setup
