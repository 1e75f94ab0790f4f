use Rattle.std.proofs.Common.{◌∙◌}
use Rattle.cw_machine.proofs.Trimming.{keeps_all, keeps_taken}
use Rattle.cw_machine.proofs.memory.keep_first.Goals as goal

pub returns : goal.returns
returns c = keeps_taken c.args.first c.args.many c.in-Some.top c.args.cells.now.items c.shrink_to_fit.new.self.items c.in-Some.ensures.1 (c.shrink_to_fit.ensures.items ∙ c.truncate.ensures.items)

pub returns-in_default : goal.returns-in_default
returns-in_default c = keeps_all c.args.first c.args.many c.args.cells.now.items
