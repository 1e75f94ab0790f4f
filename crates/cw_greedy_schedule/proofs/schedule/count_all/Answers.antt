use Rattle.std.proofs.Common.{Some, ap, sym, ◌∙◌}
use Rattle.std.specs.Prelude.{slice_set}
use Rattle.cw_greedy.specs.Blocks.{block_of}
use Rattle.cw_greedy_schedule.specs.State.{strand_at}
use Rattle.cw_greedy_schedule.proofs.State.{begun_of}
use Rattle.cw_greedy_schedule.proofs.schedule.count_all.Goals as goal

pub count_steps-steps-requires-clause-begun : goal.count_steps-steps-requires-clause-begun
count_steps-steps-requires-clause-begun c =
    let t = c.requires.tree.0 in (
      block_of t,
      begun_of t c.args.processors c.args.strands.now c.args.flags.now c.put.new.self (c.rounds_preserve_length.ensures c.args.processors c.requires.processors)
          c.requires.tree.1.0 c.requires.flags (c.put.ensures ∙ ap (λ xs. slice_set xs 0 (Some (strand_at c.args.strands.now 0).weight)) c.requires.board) c.requires.tree.1.1,
    )

pub returns : goal.returns
returns c =
    λ t e w. c.count_steps-steps.ensures (block_of t)
    (begun_of t c.args.processors c.args.strands.now c.args.flags.now c.put.new.self (c.rounds_preserve_length.ensures c.args.processors c.requires.processors)
    e c.requires.flags (c.put.ensures ∙ ap (λ xs. slice_set xs 0 (Some (strand_at c.args.strands.now 0).weight)) c.requires.board) w)
    ∙ sym ((c.rounds_preserve_length.ensures c.args.processors c.requires.processors).begins t)
