use Rattle.std.proofs.Common.{arith, ◌<◌, ◌+◌, sym, subst, ◌∙◌}
use Rattle.cw_facts.specs.Lists.{there_at}
use Rattle.cw_code.specs.Code.{code_view}
use Rattle.cw_verify.specs.Table.{so_far, pcs_of, work_of, visited, left_to_do, IsSearch, HasNone}
use Rattle.cw_verify.proofs.Spreading.{shapes_length, visit_search, fails_from}
use Rattle.cw_verify.proofs.Tables.{visit_goes}
use Rattle.cw_verify.proofs.search.Search.settle.Goals as goal

pub visit-requires-clause-row : goal.visit-requires-clause-row
visit-requires-clause-row c =
    let k = c.in-Some.k in
    omega (arith, c.loop-k.invariant.search.small k c.in-Some.ensures.here, shapes_length c.loop-k.self.found.items)

pub visit-requires-clause-there : goal.visit-requires-clause-there
visit-requires-clause-there c =
    let k = c.in-Some.k in
    let search = c.loop-k.invariant.search in
    omega (arith, search.small k c.in-Some.ensures.here, search.whole, c.requires.there)

pub visit-requires-clause-named : goal.visit-requires-clause-named
visit-requires-clause-named c = λ i is.
    let k = c.in-Some.k in
    let search = c.loop-k.invariant.search in
    let small = search.small k c.in-Some.ensures.here in
    c.requires.named (c.args.f.now.start + k) i (omega arith) (omega (arith, small, search.whole)) is

pub returns-in-Err-clause-settles : goal.returns-in-Err-clause-settles
returns-in-Err-clause-settles c =
    let code = code_view c.args.code.now in
    let f = c.args.f.now in
    let k = c.in-Some.k in
    let old = c.loop-k.self in
    let search = c.loop-k.invariant.search in
    let small = search.small k c.in-Some.ensures.here in
    let t = there_at code.instrs (f.start + k) (omega (arith, small, search.whole, c.requires.there)) in
    let named = c.requires.named (f.start + k) t.0 (omega arith) (omega (arith, small, search.whole)) t.1 in
    fails_from c.in-Err.e (visited code f.start (so_far old) k t.0) _ c.visit.new.self (HasNone code f) (c.in-Err.ensures.visits t.0 t.1)
    (λ none t' table. visit_goes code f (so_far old) k t.0 t.1 named t' table (search.below t' table) search.whole none)

pub returns-then-reached-clause-settles : goal.returns-then-reached-clause-settles
returns-then-reached-clause-settles c =
    let code = code_view c.args.code.now in
    let f = c.args.f.now in
    let k = c.in-Some.k in
    let old = c.loop-k.self in
    let new = c.visit.new.self in
    let search = c.loop-k.invariant.search in
    let small = search.small k c.in-Some.ensures.here in
    let t = there_at code.instrs (f.start + k) (omega (arith, small, search.whole, c.requires.there)) in
    let tells = c.in-Ok.ensures.visits t.0 t.1 in
    record {
      search = visit_search code f (so_far old) (so_far new) (work_of old) (pcs_of c.pop.new.self) (work_of new) k t.0 c.in-Ok.reached c.requires.there c.requires.named search c.in-Some.ensures t.1 tells.0 tells.1;
      reaches = λ e. omega (arith, tells.1.reaches c.if-reached.true, c.loop-k.invariant.fewer);
      ends = λ e. cc;
    }

pub loop-k-smaller : goal.loop-k-smaller
loop-k-smaller c =
    let code = code_view c.args.code.now in
    let f = c.args.f.now in
    let k = c.in-Some.k in
    let old = c.loop-k.self in
    let new = c.visit.new.self in
    let search = c.loop-k.invariant.search in
    let small = search.small k c.in-Some.ensures.here in
    let t = there_at code.instrs (f.start + k) (omega (arith, small, search.whole, c.requires.there)) in
    let tells = c.in-Ok.ensures.visits t.0 t.1 in
    let less : left_to_do (so_far new) (work_of new) < left_to_do (so_far old) (work_of old) = omega (arith, tells.1.shrinks c.if-reached.false, c.in-Some.ensures.longer) in
    less

pub loop-k-preserved : goal.loop-k-preserved
loop-k-preserved c =
    let code = code_view c.args.code.now in
    let f = c.args.f.now in
    let k = c.in-Some.k in
    let old = c.loop-k.self in
    let new = c.visit.new.self in
    let search = c.loop-k.invariant.search in
    let small = search.small k c.in-Some.ensures.here in
    let t = there_at code.instrs (f.start + k) (omega (arith, small, search.whole, c.requires.there)) in
    let tells = c.in-Ok.ensures.visits t.0 t.1 in
    record {
      search = visit_search code f (so_far old) (so_far new) (work_of old) (pcs_of c.pop.new.self) (work_of new) k t.0 c.in-Ok.reached c.requires.there c.requires.named search c.in-Some.ensures t.1 tells.0 tells.1;
      fewer = omega (arith, tells.1.fewer, c.loop-k.invariant.fewer);
      known = c.in-Ok.ensures.known;
    }

pub returns-clause-settles : goal.returns-clause-settles
returns-clause-settles c =
    let code = code_view c.args.code.now in
    let old = c.loop-k.self in
    let none = c.in_default.ensures in
    record {
      search = subst (λ w. IsSearch code c.args.f.now (so_far old) w) (none.0 ∙ sym none.1) c.loop-k.invariant.search;
      reaches = λ e. cc;
      ends = λ e. none.1;
    }
