use Rattle.std.proofs.lemmas.List.{map-set}
use Rattle.cw_gen.proofs.lists.put_list.Goals as goal

pub returns-then-at-len : goal.returns-then-at-len
returns-then-at-len g c = map-set (λ slots. slots.items) c.args.lists.now.items c.args.number c.args.slots
