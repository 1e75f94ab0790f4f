-- The tags so far, the remaining ones, and the rows under them.
use Rattle.cw_machine.proofs.Keyed.{TagsTowards}
use Rattle.cw_machine.proofs.alone.by_tag.Given as goal

abbrev pub invariant-loop-tag : goal.invariant-loop-tag
invariant-loop-tag l = TagsTowards l.regions.entries l.tag-iterator.a.rest.now l.tag-iterator.b.rest.now l.tags l.rows
