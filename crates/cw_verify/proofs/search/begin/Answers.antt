use Rattle.std.proofs.Common.{arith, sym, ◌≡◌, ◌-◌, ◌++◌, ◌∷◌, [], Some, None, ap, subst, ◌∙◌}
use Rattle.std.specs.Prelude.{List, Option, replicate}
use Rattle.cw_code.specs.Fits.{first_shape}
use Rattle.cw_verify.specs.declared.found.Found.{Found}
use Rattle.cw_verify.specs.Numbers.{Names, AreNumbered, IsPair}
use Rattle.cw_verify.specs.Table.{IsAddedToWork, pcs_of, shapes_of}
use Rattle.cw_verify.proofs.Numbering.{none_numbered}
use Rattle.cw_verify.proofs.Spreading.{begun}
use Rattle.cw_verify.proofs.search.begin.Goals as goal

pub returns-clause-begins : goal.returns-clause-begins
returns-clause-begins c =
    let f = c.args.f.now in
    let n = c.loop-i._i in
    let first = c.in_ok-first.first in
    let many : n ≡ f.end - f.start - 1 = omega (arith, c.loop-i-test.false, c.loop-i.auto._i-end) in
    let none : List (Option Found) = replicate n None in
    let is : c.loop-i.found.items ≡ Some first ∷ none = c.loop-i.invariant ∙ ap (λ l. l ++ none) (c.in_ok-push.ensures.items ∙ ap (λ l. l ++ Some first ∷ []) c.new-found.ensures.items) in
    record {
      shapes = begun c.loop-i.found.items first n f is c.in_ok-first.ensures ∙ ap (λ k. Some (first_shape f) ∷ replicate k None) many;
      work = subst (λ l. IsAddedToWork 0 l (pcs_of c.push-2.new.self)) c.in_ok-work.ensures c.in_ok-push-3.ensures;
    }

pub returns-clause-known : goal.returns-clause-known
returns-clause-known c =
    let numbers = c.in_ok-numbers.numbers in
    let names : Names = λ _. [] in
    let shapes = shapes_of c.loop-i.found.items in
    let none = c.in_ok-numbers.ensures in (
      names,
      (
        subst (λ l. AreNumbered names shapes l numbers.last) (sym none.places) (none_numbered names shapes (c.args.f.now.end - c.args.f.now.start) numbers.last),
        subst (IsPair names numbers.last) (sym none.pair) tt,
      ),
    )
