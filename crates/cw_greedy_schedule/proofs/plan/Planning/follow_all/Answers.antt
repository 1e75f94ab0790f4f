use Rattle.std.proofs.Common.{◌+◌, ◌++◌, ◌<◌, drop, length, arith, subst}
use Rattle.cw_greedy.specs.declared.entry.Cut.TheVariants as cut
use Rattle.cw_greedy.specs.Entries.{codes_of_entries, entry}
use Rattle.cw_greedy_schedule.specs.Planned.{Makes}
use Rattle.cw_greedy_schedule.proofs.Chunks.{next_entry}
use Rattle.cw_greedy_schedule.proofs.plan.Planning.follow_all.Goals as goal

pub follow-requires-clause-makes : goal.follow-requires-clause-makes
follow-requires-clause-makes c =
    let entries = c.args.entries.now in
    let i = c.loop-entry.entry-index in
    let l : i < length entries = omega arith in
    let block = c.requires.makes.0 in
    let later = c.requires.makes.1.0 in (
      block,
      (
        codes_of_entries (drop (i + 1) entries) ++ later,
        subst (λ codes. Makes block codes c.loop-entry.self) (next_entry entries i (entry 0 cut.Nothing) later l) (c.loop-entry.invariant.makes block later c.requires.makes.1.1),
      ),
    )
