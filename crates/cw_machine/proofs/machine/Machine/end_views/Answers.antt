use Rattle.std.proofs.Common.{arith}
use Rattle.cw_machine.proofs.Blocks as blocks
use Rattle.cw_machine.proofs.machine.Machine.end_views.Goals as goal

pub returns-then-len-first_array-clause-views : goal.returns-then-len-first_array-clause-views
returns-then-len-first_array-clause-views c = blocks.take_all c.args.first_array c.args.self.now.views.items (omega (arith, c.if-len-first_array.true, c.len.ensures, c.args.self.now.views.ok.0))

pub returns-then-len-first_array-clause-blocks : goal.returns-then-len-first_array-clause-blocks
returns-then-len-first_array-clause-blocks c = blocks.take_all c.args.first_array c.args.self.now.blocks.items (let le = c.requires in omega (arith, le, c.if-len-first_array.true, c.len.ensures, c.args.self.now.views.ok.0))
