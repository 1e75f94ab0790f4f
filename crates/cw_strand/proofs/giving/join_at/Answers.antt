use Rattle.std.proofs.Common.{ap₂, ◌∙◌}
use Rattle.cw_jobs.specs.Totals.{joined_total}
use Rattle.cw_strand.proofs.Joining.{got, set_joined, none_more}
use Rattle.cw_strand.proofs.giving.join_at.Goals as goal

pub returns-then-k-more : goal.returns-then-k-more
returns-then-k-more c =
    let old = c.args.totals.now.items in
    let more = c.args.more.now in
    let k = c.args.k in
    set_joined old more k c.joined.result c.requires (λ x y e e'.
    c.joined.ensures ∙ ap₂ joined_total (c.index.ensures ∙ got old k c.index.result.now x e) (got more k _ y e'))

pub returns-else-k-more : goal.returns-else-k-more
returns-else-k-more c = none_more c.args.totals.now.items c.args.more.now c.args.k c.if-k-more.false
