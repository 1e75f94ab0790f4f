use Rattle.std.proofs.Common.{refl, inl}
use Rattle.cw_yard.proofs.Moves.{marks, begins}
use Rattle.cw_yard.proofs.deque.new.Goals as goal

pub lifo_as-requires : goal.lifo_as-requires
lifo_as-requires c = inl (inl (refl, refl))

pub push_as-requires-clause-pushes : goal.push_as-requires-clause-pushes
push_as-requires-clause-pushes c = rw c.in_ok-own.ensures.4 (marks _ _ c.args.mark refl)

pub pop_as-requires-clause-lifo : goal.pop_as-requires-clause-lifo
pop_as-requires-clause-lifo c = λ _. rw c.in-Ok.ensures.rule.0 (begins _ _)
