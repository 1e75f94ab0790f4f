use Rattle.std.proofs.Common.{◌≡◌, ◌+◌, ◌≤◌, drop}
use Rattle.cw_greedy.specs.Entries.{codes_of_entries}
use Rattle.cw_greedy_schedule.specs.Reading.{spawned}
use Rattle.cw_greedy_schedule.proofs.weights.spawned_in.Given as goal

abbrev pub invariant-loop-entry : goal.invariant-loop-entry
invariant-loop-entry l = (l.count + spawned (codes_of_entries (drop l.entry-index l.entries)) ≡ spawned (codes_of_entries l.entries)) × (l.count ≤ l.entry-index)
