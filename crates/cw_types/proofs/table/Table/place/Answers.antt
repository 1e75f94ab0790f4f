use Rattle.std.proofs.Common.{◌≡◌, sym, ap, ◌∙◌, is_some}
use Rattle.cw_types.specs.Places.{place_of}
use Rattle.cw_types.proofs.Places.{among_has_place, found_first}
use Rattle.cw_types.proofs.table.Table.place.Goals as goal

pub returns-clause-there : goal.returns-clause-there
returns-clause-there c =
    let x = c.args.name.now in
    let found : c.copied.result ≡ place_of x c.args.self.now = c.copied.ensures ∙ c.get.ensures.value ∙ c.self.invariant.first x ∙ ap (place_of x) c.self.view_is in
    ap is_some found ∙ sym (among_has_place x c.args.self.now)

pub returns-clause-first : goal.returns-clause-first
returns-clause-first c =
    let x = c.args.name.now in
    let found : c.copied.result ≡ place_of x c.args.self.now = c.copied.ensures ∙ c.get.ensures.value ∙ c.self.invariant.first x ∙ ap (place_of x) c.self.view_is in
    found_first x c.args.self.now c.copied.result found
