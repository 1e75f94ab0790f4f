use Rattle.std.proofs.Common.{[], ap, refl, ◌∙◌, slice_index_or, arith}
use Rattle.cw_facts.specs.Items.{lists_of}
use Rattle.cw_facts.proofs.Reaching.{empty_behind}
use Rattle.cw_facts.proofs.pages.reach.Goals as goal

pub loop-count-init : goal.loop-count-init
loop-count-init g c = record { count_is = let o = c.args.lists.now.ok.0 in omega (arith, c.len-count.ensures); same = λ k. refl }

pub loop-count-preserved : goal.loop-count-preserved
loop-count-preserved g c = record {
  count_is =
      let i = c.loop-count.invariant.count_is in
      let o = c.loop-count.lists.ok.0 in
      let n = c.push.new.self.ok.0 in
      omega (arith, c.in_ok-push.ensures.len);
  same = λ k. ap (λ xs. slice_index_or (lists_of xs) k []) c.in_ok-push.ensures.items ∙ empty_behind c.loop-count.lists.items c.new.result k c.new.ensures.items ∙ c.loop-count.invariant.same k;
}

pub returns-clause-same : goal.returns-clause-same
returns-clause-same g c = c.loop-count.invariant.same

pub returns-clause-within : goal.returns-clause-within
returns-clause-within g c = let n = c.loop-count.invariant.count_is in omega arith
