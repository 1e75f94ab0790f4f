use Rattle.std.proofs.Common.{◌≡◌, ◌∙◌, arith, length, refl}
use Rattle.cw_machine.proofs.JobBegins.{has_begun, begun_job}
use Rattle.cw_machine.proofs.machine.Machine.begin_job.Goals as goal

pub of-requires : goal.of-requires
of-requires c =
    let n = c.move_in.ensures.made.as_many in
    let views = c.in_ok-machine.ensures.views in
    omega (arith, n, views, c.len-2.ensures, c.in_ok-machine.machine.views.ok.0)

pub returns-clause-begins : goal.returns-clause-begins
returns-clause-begins c =
    let v = c.args.code.now in
    let n = c.move_in.ensures.made.as_many in
    let views = c.in_ok-machine.ensures.views in
    let blocks = c.in_ok-machine.ensures.blocks in
    let many : c.len-2.result ≡ length c.in_ok-machine.machine.blocks.items = omega (arith, views, blocks, c.len-2.ensures, c.in_ok-machine.machine.views.ok.0) in
    begun_job v c.args.rest.now _
    (has_begun v c.args.rest.now v.most_room c.as_slice-reducers.result.now c.in_ok-machine.machine _ v.most c.as_slice-reducers.ensures.value c.in_ok-machine.ensures
    (record {
      lodges = λ a lt. c.of.ensures.first a (omega (arith, lt, n)) ∙ c.move_in.ensures.made.are a lt;
      bare = λ a le. c.of.ensures.bare a (omega (arith, le, n));
    })
    (record {
      place = refl;
      first = refl;
      first_array = refl;
      depth = refl;
      frames = refl;
      lines = refl;
      cuts = refl;
      cells = refl;
      views = refl;
      totals = refl;
      blocks = c.of.ensures.as_many ∙ many;
    }))
