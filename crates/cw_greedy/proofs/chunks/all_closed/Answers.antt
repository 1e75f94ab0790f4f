use Rattle.std.proofs.Common.{ap, ◌∙◌}
use Rattle.cw_greedy.specs.Entries.{codes_of_chunks, one_chunk}
use Rattle.cw_greedy.proofs.chunks.all_closed.Goals as goal

pub returns : goal.returns
returns c = ap codes_of_chunks c.in_ok-push_back.ensures.items ∙ one_chunk c.args.chunks.items c.args.last
