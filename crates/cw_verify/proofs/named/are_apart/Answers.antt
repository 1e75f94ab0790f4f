use Rattle.std.proofs.Common.{sym, ◌∙◌}
use Rattle.cw_verify.proofs.Naming.{name_at, apart_not, apart_on}
use Rattle.cw_verify.proofs.named.are_apart.Goals as goal

pub returns-then-is_among : goal.returns-then-is_among
returns-then-is_among c =
    let names = c.args.names.now in
    let k = c.loop-k.k in
    let name = c.index-names-k.result in
    let among = sym c.is_among.ensures ∙ c.if-is_among.true in
    sym (c.loop-k.invariant ∙ apart_not names k name (name_at names k name name c.loop-k-test.true c.index-names-k.is) among)

pub loop-k-preserved : goal.loop-k-preserved
loop-k-preserved c =
    let names = c.args.names.now in
    let k = c.loop-k.k in
    let name = c.index-names-k.result in
    let apart = sym c.is_among.ensures ∙ c.if-is_among.false in
    c.loop-k.invariant ∙ apart_on names k name (name_at names k name name c.loop-k-test.true c.index-names-k.is) apart
