use Rattle.std.proofs.Common.{◌+◌, sym, ap, ◌∙◌}
use Rattle.std.specs.Prelude.{drop}
use Rattle.cw_code.specs.declared.code.Reducer.{Reducer}
use Rattle.cw_code.specs.Code.{reducer_names}
use Rattle.cw_code.specs.Fits.{is_among, are_apart}
use Rattle.cw_verify.proofs.Naming.{named_at, none_behind, apart_not, apart_on}
use Rattle.cw_verify.proofs.named.are_named_apart.Goals as goal

pub returns-then-is_name_of : goal.returns-then-is_name_of
returns-then-is_name_of c =
    let reducers = c.args.reducers.now in
    let k = c.loop-k.k in
    let r = c.index-reducers-k.result in
    let among = ap (λ (r : Reducer). is_among r.name (drop (k + 1) (reducer_names reducers))) c.index-reducers-k.is ∙ sym c.is_name_of.ensures ∙ c.if-is_name_of.true in
    sym (c.loop-k.invariant ∙ apart_not (reducer_names reducers) k r.name (named_at reducers k r r c.loop-k-test.true c.index-reducers-k.is) among)

pub loop-k-preserved : goal.loop-k-preserved
loop-k-preserved c =
    let reducers = c.args.reducers.now in
    let k = c.loop-k.k in
    let r = c.index-reducers-k.result in
    let apart = ap (λ (r : Reducer). is_among r.name (drop (k + 1) (reducer_names reducers))) c.index-reducers-k.is ∙ sym c.is_name_of.ensures ∙ c.if-is_name_of.false in
    c.loop-k.invariant ∙ apart_on (reducer_names reducers) k r.name (named_at reducers k r r c.loop-k-test.true c.index-reducers-k.is) apart

pub returns : goal.returns
returns c = sym (c.loop-k.invariant ∙ ap are_apart (none_behind c.args.reducers.now c.loop-k.k c.loop-k-test.false))
