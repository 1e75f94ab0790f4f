use Rattle.std.proofs.Common.{rules, ◌≡◌, ◌+◌, ◌/◌, arith, sym, subst}
use Rattle.cw_greedy.specs.Slots.{nones}
use Rattle.cw_greedy_schedule.specs.MinTrees.{Leasts}
use Rattle.cw_greedy_schedule.proofs.Slots.{replicated}
use Rattle.cw_greedy_schedule.proofs.Groups.{leasts_none}
use Rattle.cw_greedy_schedule.proofs.rows.MinTree.+new.Goals as goal

pub invariant_of-result-2 : goal.invariant_of-result-2
invariant_of-result-2 t c =
    let e = replicated c.args.places in
    let n = c.args.places / 8 + 1 in
    let a : c.resize.new.self.items ≡ nones c.args.places = search rules in
    let b : c.in_ok-above.above.value ≡ nones n = cc (c.in_ok-new.ensures, c.in_ok-above.ensures.ok) in
    subst (λ xs. Leasts xs c.in_ok-above.above.value) (sym a) (subst (Leasts (nones c.args.places)) (sym b) (leasts_none c.args.places n (omega arith) (omega arith)))

pub returns-then-places-le-GROUP : goal.returns-then-places-le-GROUP
returns-then-places-le-GROUP t c = let e = replicated c.args.places in search rules

pub returns : goal.returns
returns t c = let e = replicated c.args.places in search rules
