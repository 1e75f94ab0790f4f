use Rattle.std.proofs.Common.{◌≤◌, ◌+◌, ◌++◌, List, drop}
use Rattle.cw_greedy.specs.declared.code.Code.{Code}
use Rattle.cw_greedy.specs.Entries.{codes_of_entries}
use Rattle.cw_greedy.specs.Jumping.{StrandBlock}
use Rattle.cw_greedy_schedule.specs.Planned.{Makes}
use Rattle.cw_greedy_schedule.specs.Reading.{instructions}
use Rattle.cw_greedy_schedule.proofs.plan.Planning.follow_all.Given as goal

abbrev pub invariant-loop-entry : goal.invariant-loop-entry
invariant-loop-entry l = record {
  makes : (block : StrandBlock) (later : List Code) → Makes block (codes_of_entries l.entries ++ later) l.fn.self
      → Makes block (codes_of_entries (drop l.entry-index l.entries) ++ later) l.self;
  fits : l.self.last.weight + instructions (codes_of_entries (drop l.entry-index l.entries))
      ≤ l.fn.self.last.weight + instructions (codes_of_entries l.entries);
}
