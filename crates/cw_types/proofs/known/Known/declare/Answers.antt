use Rattle.std.proofs.Common.{[], sym, ap, ◌∙◌, subst, List}
use Rattle.cw_types.specs.declared.known.Entry.{Entry}
use Rattle.cw_types.specs.Scope.{with_local}
use Rattle.cw_types.specs.Shadows.{AreNewest, known_from}
use Rattle.cw_types.proofs.Newest.{newest_more, known_snoc}
use Rattle.cw_types.proofs.known.Known.declare.Goals as goal

pub invariant_of-self-in-Ok : goal.invariant_of-self-in-Ok
invariant_of-self-in-Ok c =
    let e : Entry = record { name = c.args.name; local = record { kind = c.args.kind; line = c.args.line }; shadowed = c.copied-shadowed.result } in
    subst (λ (es : List Entry). AreNewest c.insert.new.self es) (sym c.in_ok-push.ensures.items)
    (newest_more c.self.inside.newest c.insert.new.self c.self.inside.entries.items e c.self.invariant (c.copied-shadowed.ensures ∙ c.get.ensures.value) c.in-Ok.ensures.updates)

pub returns-in-Ok : goal.returns-in-Ok
returns-in-Ok c =
    let e : Entry = record { name = c.args.name; local = record { kind = c.args.kind; line = c.args.line }; shadowed = c.copied-shadowed.result } in
    ap (known_from []) c.in_ok-push.ensures.items ∙ known_snoc [] c.self.inside.entries.items e
    ∙ ap (with_local c.args.name.now c.args.kind c.args.line) c.self.view_is
