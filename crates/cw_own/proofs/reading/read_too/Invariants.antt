use Rattle.std.proofs.Common.{◌≡◌, drop, map}
use Rattle.cw_tree.specs.ResolvedView.{listed_of, argument_of}
use Rattle.cw_own.specs.Sets.{slots_of}
use Rattle.cw_own.specs.Reasons.{why_read_too}
use Rattle.cw_own.proofs.reading.read_too.Given as goal

abbrev pub invariant-loop-e : goal.invariant-loop-e
invariant-loop-e l =
    why_read_too (listed_of l.callee) (slots_of l.given.words) (map argument_of (drop l.e-index l.es)) ≡ why_read_too (listed_of l.callee) (slots_of l.given.words) (map argument_of l.es)
