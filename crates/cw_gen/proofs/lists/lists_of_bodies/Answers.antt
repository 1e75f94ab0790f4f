use Rattle.std.proofs.Common.{length, map, sym, ap, ◌∙◌}
use Rattle.cw_facts.specs.Options.{which_ends}
use Rattle.cw_gen.specs.Emit.{put_lists_of}
use Rattle.cw_gen.proofs.Joins.{no_more}
use Rattle.cw_gen.proofs.lists.lists_of_bodies.Goals as goal

pub returns : goal.returns
returns c =
    let functions = c.loop-f.f-iterator.a.rest.now in
    let bodies = c.loop-f.f-iterator.b.rest.now in
    let none = no_more functions bodies (which_ends (length functions) (length bodies) c.in-None.ensures.steps) in
    sym (ap (λ fs. put_lists_of c.args.first fs (map (λ slots. slots.items) c.loop-f.lists.items)) none) ∙ c.loop-f.invariant
