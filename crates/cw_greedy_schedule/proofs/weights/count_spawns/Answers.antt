use Rattle.std.proofs.Common.{◌∙◌}
use Rattle.cw_greedy.specs.Entries.{codes_of_chunks}
use Rattle.cw_greedy_schedule.proofs.Reading.{record_has_spawns}
use Rattle.cw_greedy_schedule.proofs.State.{record_of}
use Rattle.cw_greedy_schedule.proofs.weights.count_spawns.Goals as goal

pub returns : goal.returns
returns c = λ t h.
    let codes = codes_of_chunks c.chunks.result.now in
    c.count_spawned-count.ensures ∙ record_has_spawns t codes (record_of t c.args.kept.now codes c.chunks.ensures.value h)
