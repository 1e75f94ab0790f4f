use Rattle.std.proofs.Common.{sym, ap, ap₂, ◌∙◌}
use Rattle.cw_code.specs.declared.code.Reducer.{Reducer}
use Rattle.cw_model.specs.Names.{same_name}
use Rattle.cw_code.specs.Code.{reducer_names}
use Rattle.cw_code.specs.Fits.{is_among}
use Rattle.cw_verify.proofs.Naming.{named_at, none_behind, among_at, among_on}
use Rattle.cw_verify.proofs.named.is_name_of.Goals as goal

pub returns-then-eq : goal.returns-then-eq
returns-then-eq c =
    let reducers = c.args.reducers.now in
    let k = c.loop-k.k in
    let other = c.index-reducers-k.result in
    let same = ap (λ (r : Reducer). same_name c.args.name.now r.name) c.index-reducers-k.is ∙ ap₂ same_name (sym c.as_bytes.ensures) (sym c.as_bytes-in-loop-k.ensures) ∙ sym c.eq.ensures ∙ c.if-eq.true in
    sym (c.loop-k.invariant ∙ among_at (reducer_names reducers) k other.name (named_at reducers k other other c.loop-k-test.true c.index-reducers-k.is) c.args.name.now same)

pub loop-k-preserved : goal.loop-k-preserved
loop-k-preserved c =
    let reducers = c.args.reducers.now in
    let k = c.loop-k.k in
    let other = c.index-reducers-k.result in
    let differ = ap (λ (r : Reducer). same_name c.args.name.now r.name) c.index-reducers-k.is ∙ ap₂ same_name (sym c.as_bytes.ensures) (sym c.as_bytes-in-loop-k.ensures) ∙ sym c.eq.ensures ∙ c.if-eq.false in
    c.loop-k.invariant ∙ among_on (reducer_names reducers) k other.name (named_at reducers k other other c.loop-k-test.true c.index-reducers-k.is) c.args.name.now differ

pub returns : goal.returns
returns c = sym (c.loop-k.invariant ∙ ap (is_among c.args.name.now) (none_behind c.args.reducers.now c.loop-k.k c.loop-k-test.false))
