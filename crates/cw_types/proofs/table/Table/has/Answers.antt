use Rattle.std.proofs.Common.{sym, ap, ◌∙◌, is_some, map, List, ℕ, Bor}
use Rattle.cw_model.specs.Names.{is_among}
use Rattle.cw_types.proofs.Places.{among_has_place}
use Rattle.cw_types.proofs.table.Table.has.Goals as goal

pub returns : goal.returns
returns c =
    let names = map (λ (k : Bor (List ℕ)). k.now) c.self.inside.names.items in
    c.contains_key.ensures
    ∙ ap is_some (c.self.invariant.first c.args.name.now)
    ∙ sym (among_has_place c.args.name.now names)
    ∙ ap (is_among c.args.name.now) c.self.view_is
