use Rattle.std.proofs.Common.{arith, subst}
use Rattle.cw_code.specs.Code.{code_view}
use Rattle.cw_verify.specs.Table.{so_far, work_of, IsSearch}
use Rattle.cw_verify.proofs.Spreading.{shapes_length, begins, closed_is_table}
use Rattle.cw_verify.proofs.search.find.Goals as goal

pub loop-e-init : goal.loop-e-init
loop-e-init c =
    let search = c.in_ok-search.search in
    let begun = c.in_ok-search.ensures.begins in
    record {
      search = begins (code_view c.args.code.now) c.args.f.now (so_far search) (work_of search) c.requires.order begun.shapes begun.work;
      known = c.in_ok-search.ensures.known;
    }

pub returns-then-not-reached : goal.returns-then-not-reached
returns-then-not-reached c =
    let code = code_view c.args.code.now in
    let f = c.args.f.now in
    let new = c.settle.new.self in
    let settled = c.in-Ok.ensures.settles in
    let search = subst (λ w. IsSearch code f (so_far new) w) (settled.ends c.if-not-reached.true) settled.search in
    (omega (arith, settled.search.whole, shapes_length new.found.items), closed_is_table code f (so_far new) c.requires.there search)
