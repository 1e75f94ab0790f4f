use Rattle.std.proofs.Common.{arith}
use Rattle.cw_model.specs.Burdens.{no_burden}
use Rattle.cw_greedy.specs.Blocks.{block_of}
use Rattle.cw_model.specs.lemmas.Spans.{span_within}
use Rattle.cw_greedy.specs.Entries.{codes_of_chunks}
use Rattle.cw_greedy_schedule.proofs.Reading.{record_is_read, record_has_work}
use Rattle.cw_greedy_schedule.proofs.State.{record_of}
use Rattle.cw_greedy_schedule.proofs.Weighing.{path_is_span}
use Rattle.cw_greedy_schedule.proofs.weights.weigh.Goals as goal

pub returns-clause-work : goal.returns-clause-work
returns-clause-work c = λ t h.
    let codes = codes_of_chunks c.chunks.result.now in
    let of_given = record_has_work c.requires.0 codes (record_of c.requires.0 c.args.kept.now codes c.chunks.ensures.value c.requires.1.0) in
    let of_tree = record_has_work t codes (record_of t c.args.kept.now codes c.chunks.ensures.value h) in
    omega (arith, c.in_ok-weights.ensures.work, of_given, of_tree, c.requires.1.1)

pub returns-clause-span : goal.returns-clause-span
returns-clause-span c = λ t h.
    let codes = codes_of_chunks c.chunks.result.now in
    let of_given = record_has_work c.requires.0 codes (record_of c.requires.0 c.args.kept.now codes c.chunks.ensures.value c.requires.1.0) in
    let is = record_of t c.args.kept.now codes c.chunks.ensures.value h in
    let path = c.in_ok-weights.ensures.span (block_of t) (record_is_read t codes is) in
    omega (arith, path, path_is_span no_burden t, span_within t, of_given, record_has_work t codes is, c.requires.1.1)
