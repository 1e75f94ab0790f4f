use Rattle.std.proofs.Common.{◌≤◌, ◌*◌, arith}
use Rattle.cw_model.specs.declared.limits.TheConstants.{MOST_BURDEN, MOST_STRANDS}
use Rattle.cw_greedy.specs.Blocks.{block_of}
use Rattle.cw_greedy.specs.Counts.{spawns_in}
use Rattle.cw_greedy.specs.Entries.{codes_of_chunks}
use Rattle.cw_greedy_schedule.proofs.Charges.{all_charges, few_charges}
use Rattle.cw_greedy_schedule.proofs.Chunks.{spawned_few}
use Rattle.cw_greedy_schedule.proofs.Reading.{record_has_spawns, record_has_work, record_is_read}
use Rattle.cw_greedy_schedule.proofs.State.{record_of}
use Rattle.cw_greedy_schedule.proofs.Weighing.{path_is_span}
use Rattle.cw_greedy_schedule.proofs.weights.burdened.Goals as goal

pub returns : goal.returns
returns c = λ t h.
    let codes = codes_of_chunks c.chunks.result.now in
    let burden = c.args.burden in
    let given = c.requires.kept.0 in
    let of_given = record_has_work given codes (record_of given c.args.kept.now codes c.chunks.ensures.value c.requires.kept.1.0) in
    let is = record_of t c.args.kept.now codes c.chunks.ensures.value h in
    let path = c.in_ok-weights.ensures.span (block_of t) (record_is_read t codes is) in
    let spawns : spawns_in t ≤ MOST_STRANDS = omega (arith, record_has_spawns t codes is, spawned_few codes, c.chunks.ensures.few) in
    let charges : burden.charge * spawns_in t ≤ MOST_BURDEN * MOST_STRANDS = all_charges burden.charge (spawns_in t) c.requires.low spawns in
    omega (arith, path, path_is_span burden t, few_charges burden t, charges, of_given, record_has_work t codes is, c.requires.kept.1.1)
