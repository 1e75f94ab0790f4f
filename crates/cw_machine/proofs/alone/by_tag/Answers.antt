use Rattle.std.proofs.Common.{rules, ◌∷◌, length, subst}
use Rattle.cw_facts.specs.Options.{which_ends}
use Rattle.cw_machine.proofs.Keyed.{TagsTowards, one_tag_more, all_tags}
use Rattle.cw_machine.proofs.alone.by_tag.Goals as goal

pub loop-tag-preserved : goal.loop-tag-preserved
loop-tag-preserved c =
    let (tags_step, rows_step) = c.in-Some.ensures.steps in
    let old = c.loop-tag.regions.entries in
    let tags = c.args.tags.now in
    let whole = c.args.rows.now in
    let left = c.next.new.self.a.rest.now in
    let rows = c.next.new.self.b.rest.now in
    let before = subst (λ r. TagsTowards old (c.in-Some.tag.now ∷ left) r tags whole) rows_step
    (subst (λ t. TagsTowards old t c.loop-tag.tag-iterator.b.rest.now tags whole) tags_step c.loop-tag.invariant) in
    one_tag_more old c.insert.new.self.entries c.in-Some.tag.now left c.in-Some.row.now rows tags whole c.in_ok-key.key
    before c.requires (search rules) c.in_ok-insert.ensures.entries

pub returns : goal.returns
returns c =
    let left = c.loop-tag.tag-iterator.a.rest.now in
    let rows = c.loop-tag.tag-iterator.b.rest.now in
    all_tags c.loop-tag.regions.entries left rows c.args.tags.now c.args.rows.now c.loop-tag.invariant
    (which_ends (length left) (length rows) c.in-None.ensures.steps)
