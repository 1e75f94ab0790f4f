use Rattle.cw_machine.proofs.Padding.{begins}
use Rattle.cw_machine.proofs.array_blocks.ArrayBlocks.of.Goals as goal

pub returns : goal.returns
returns c = begins c.none_of.result c.args.made.items c.args.len c.requires c.none_of.ensures
