use Rattle.std.proofs.Common.{rules, ◌≡◌, ◌∙◌, ap}
use Rattle.std.proofs.lemmas.List.{take_all}
use Rattle.std.specs.List.{enumerate_from}
use Rattle.cw_machine.proofs.Keyed.{one_row_more}
use Rattle.cw_machine.proofs.alone.by_number.Goals as goal

pub loop-number-preserved : goal.loop-number-preserved
loop-number-preserved c =
    let n = c.loop-number.number in
    let same : c.in_ok-number.number ≡ n = search rules in
    one_row_more c.loop-number.sites.entries c.insert.new.self.entries n c.in_ok-number.number c.args.rows.now _
    c.loop-number.invariant c.loop-number-test.true same c.in_ok-insert.ensures.entries

pub returns : goal.returns
returns c = c.loop-number.invariant ∙ ap (enumerate_from 0) (take_all c.loop-number.number c.args.rows.now c.loop-number-test.false)
