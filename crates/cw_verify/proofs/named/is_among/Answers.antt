use Rattle.std.proofs.Common.{sym, ap₂, ◌∙◌}
use Rattle.cw_model.specs.Names.{same_name}
use Rattle.cw_verify.proofs.Naming.{name_at, among_at, among_on}
use Rattle.cw_verify.proofs.named.is_among.Goals as goal

pub returns-then-eq : goal.returns-then-eq
returns-then-eq c =
    let names = c.args.names.now in
    let k = c.loop-k.k in
    let other = c.index-names-k.result in
    let same = ap₂ same_name (sym c.as_bytes.ensures) (sym c.as_bytes-in-loop-k.ensures) ∙ sym c.eq.ensures ∙ c.if-eq.true in
    sym (c.loop-k.invariant ∙ among_at names k other (name_at names k other other c.loop-k-test.true c.index-names-k.is) c.args.name.now same)

pub loop-k-preserved : goal.loop-k-preserved
loop-k-preserved c =
    let names = c.args.names.now in
    let k = c.loop-k.k in
    let other = c.index-names-k.result in
    let differ = ap₂ same_name (sym c.as_bytes.ensures) (sym c.as_bytes-in-loop-k.ensures) ∙ sym c.eq.ensures ∙ c.if-eq.false in
    c.loop-k.invariant ∙ among_on names k other (name_at names k other other c.loop-k-test.true c.index-names-k.is) c.args.name.now differ
