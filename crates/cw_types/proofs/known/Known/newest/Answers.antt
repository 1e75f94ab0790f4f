use Rattle.std.proofs.Common.{sym, ap, ◌∙◌, ◌≡◌, is_some}
use Rattle.cw_types.specs.Shadows.{local_of}
use Rattle.cw_types.proofs.Newest.{among_has_local, found_kinds, found_newest}
use Rattle.cw_types.proofs.known.Known.newest.Goals as goal

pub returns-clause-there : goal.returns-clause-there
returns-clause-there c =
    let x = c.args.name.now in
    let found : c.copied.result ≡ local_of x c.args.self.now =
    c.copied.ensures ∙ c.get.ensures.value ∙ c.self.invariant.newest_right x ∙ ap (local_of x) c.self.view_is in
    ap is_some found ∙ sym (among_has_local x c.args.self.now)

pub returns-clause-kinds : goal.returns-clause-kinds
returns-clause-kinds c =
    let x = c.args.name.now in
    let found : c.copied.result ≡ local_of x c.args.self.now =
    c.copied.ensures ∙ c.get.ensures.value ∙ c.self.invariant.newest_right x ∙ ap (local_of x) c.self.view_is in
    found_kinds x c.args.self.now c.copied.result found

pub returns-clause-newest : goal.returns-clause-newest
returns-clause-newest c =
    let x = c.args.name.now in
    let found : c.copied.result ≡ local_of x c.args.self.now =
    c.copied.ensures ∙ c.get.ensures.value ∙ c.self.invariant.newest_right x ∙ ap (local_of x) c.self.view_is in
    found_newest x c.args.self.now c.copied.result found
