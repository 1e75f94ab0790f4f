use Rattle.std.proofs.Common.{sym, ap, ◌∙◌, is_some, []}
use Rattle.cw_model.specs.Names.{is_among}
use Rattle.cw_types.specs.Names.{known_names}
use Rattle.cw_types.specs.Scope.{kinds}
use Rattle.cw_types.specs.Shadows.{known_from}
use Rattle.cw_types.proofs.Newest.{among_has_local}
use Rattle.cw_types.proofs.known.Known.has.Goals as goal

pub returns : goal.returns
returns c =
    c.contains_key.ensures
    ∙ ap is_some (c.self.invariant.newest_right c.args.name.now)
    ∙ sym (among_has_local c.args.name.now (known_from [] c.self.inside.entries.items))
    ∙ ap (λ ks. is_among c.args.name.now (known_names (kinds ks))) c.self.view_is
