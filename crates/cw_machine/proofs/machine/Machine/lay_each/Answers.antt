use Rattle.std.proofs.Common.{◌≡◌, ◌+◌, ◌-◌, ◌<◌, ◌≤◌, suc, ℕ, length, refl, arith}
use Rattle.cw_code.specs.Fits.{slots_lent}
use Rattle.cw_machine.proofs.Home.{get_here, home_none, home_place, home_more, home_bare, home_all}
use Rattle.cw_machine.proofs.machine.Machine.lay_each.Goals as goal

pub loop-k-init : goal.loop-k-init
loop-k-init c = record { home = home_none c.args.self.now c.args.slots (slots_lent c.args.lent.now) c.args.rest.now.slices.items; cells = refl; place = refl; depth = refl }

pub lay_at-requires : goal.lay_at-requires
lay_at-requires c =
    let home = c.loop-k.invariant.home in
    let n = home.as_many in
    let a : ℕ = c.len-count.result - 1 - c.loop-k.k in
    let at : a + suc c.loop-k.k ≡ length c.args.rest.now.slices.items = omega (arith, c.loop-k-test.true, c.len-count.ensures) in
    let lt : a < length c.loop-k.rest.slices.items = omega (arith, at, n) in
    home_place c.args.self.now c.args.slots (slots_lent c.args.lent.now) c.args.rest.now.slices.items c.loop-k.k c.loop-k.self c.loop-k.rest.slices.items home a at c.is_shared.result c.take-slice.result c.is_shared.ensures c.requires
    (get_here c.loop-k.rest.slices.items a c.index_mut.result.now c.take-slice.result c.take-slice.ensures.value c.index_mut.ensures.value lt)

pub loop-k-preserved : goal.loop-k-preserved
loop-k-preserved c =
    let home = c.loop-k.invariant.home in
    let n = home.as_many in
    let a : ℕ = c.len-count.result - 1 - c.loop-k.k in
    let at : a + suc c.loop-k.k ≡ length c.args.rest.now.slices.items = omega (arith, c.loop-k-test.true, c.len-count.ensures) in
    let lt : a < length c.loop-k.rest.slices.items = omega (arith, at, n) in
    record {
      home = home_more c.args.self.now c.args.slots (slots_lent c.args.lent.now) c.args.rest.now.slices.items c.loop-k.k c.loop-k.self c.loop-k.rest.slices.items home a at c.is_shared.result c.take-slice.result c.take-slice.new.self c.lay_at.new.self c.is_shared.ensures
          (get_here c.loop-k.rest.slices.items a c.index_mut.result.now c.take-slice.result c.take-slice.ensures.value c.index_mut.ensures.value lt) c.take-slice.ensures.left.0 c.lay_at.ensures;
      cells = c.loop-k.invariant.cells;
      place = c.loop-k.invariant.place;
      depth = c.loop-k.invariant.depth;
    }

pub returns-clause-shows : goal.returns-clause-shows
returns-clause-shows c =
    let le : length c.args.rest.now.slices.items ≤ c.loop-k.k = omega (arith, c.loop-k-test.false, c.len-count.ensures) in
    home_all c.args.self.now c.args.slots (slots_lent c.args.lent.now) c.args.rest.now.slices.items c.loop-k.k c.loop-k.self c.loop-k.rest.slices.items c.loop-k.invariant.home le

pub returns-clause-bare : goal.returns-clause-bare
returns-clause-bare c =
    let le : length c.args.rest.now.slices.items ≤ c.loop-k.k = omega (arith, c.loop-k-test.false, c.len-count.ensures) in
    home_bare c.args.self.now c.args.slots (slots_lent c.args.lent.now) c.args.rest.now.slices.items c.loop-k.k c.loop-k.self c.loop-k.rest.slices.items c.loop-k.invariant.home le
