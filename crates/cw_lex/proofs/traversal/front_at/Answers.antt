use Rattle.std.proofs.Common.{◌≡◌, ◌-◌, length, take, drop, arith, length-drop}
use Rattle.std.proofs.lemmas.List.{take_all, length-take}
use Rattle.cw_lex.proofs.traversal.front_at.Goals as goal

pub front_of-requires : goal.front_of-requires
front_of-requires c = omega (arith, length-take (length c.args.text.now - c.args.at) (drop c.args.at c.args.text.now), length-drop c.args.at c.args.text.now)

pub returns : goal.returns
returns c =
    let text = c.args.text.now in
    let whole : take (length text - c.args.at) (drop c.args.at text) ≡ drop c.args.at text = take_all _ _ (omega (arith, length-drop c.args.at text)) in
    rw whole at c.front_of.ensures
