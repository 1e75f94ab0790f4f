use Rattle.std.proofs.Common.{◌≡◌, ◌+◌, ◌++◌, List, drop}
use Rattle.cw_greedy.specs.declared.code.Code.{Code}
use Rattle.cw_greedy.specs.Entries.{codes_of_entries}
use Rattle.cw_greedy.specs.Jumping.{StrandBlock}
use Rattle.cw_greedy_schedule.specs.Reading.{instructions}
use Rattle.cw_greedy_schedule.specs.Weighed.{counted, WillWeigh}
use Rattle.cw_greedy_schedule.proofs.weights.Ways.follow_all.Given as goal

abbrev pub invariant-loop-entry : goal.invariant-loop-entry
invariant-loop-entry l = record {
  work : counted (l.self.work + instructions (codes_of_entries (drop l.entry-index l.entries)))
      ≡ counted (l.fn.self.work + instructions (codes_of_entries l.entries));
  weighs : (block : StrandBlock) (later : List Code) → WillWeigh l.burden block (codes_of_entries l.entries ++ later) l.fn.self
      → WillWeigh l.burden block (codes_of_entries (drop l.entry-index l.entries) ++ later) l.self;
}
