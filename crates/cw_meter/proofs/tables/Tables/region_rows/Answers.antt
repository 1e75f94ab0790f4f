use Rattle.std.proofs.Common.{ℕ, ◌≡◌, subst, arith}
use Rattle.cw_meter.specs.Moves.{ListsRegions}
use Rattle.cw_meter.proofs.ReadingLaws.{region_listed, no_regions}
use Rattle.cw_meter.proofs.tables.Tables.region_rows.Goals as goal

pub loop-tag-init : goal.loop-tag-init
loop-tag-init c = no_regions c.args.self.now c.new-rows.result.items c.new-rows.ensures.items

pub loop-tag-preserved : goal.loop-tag-preserved
loop-tag-preserved c = region_listed c.args.self.now c.loop-tag.tag c.loop-tag.rows.items c.push.new.self.items c.region.result c.loop-tag.invariant c.in_ok-push.ensures.items c.region.ensures

pub returns : goal.returns
returns c =
    let L : ℕ → Type 0 = λ x. ListsRegions c.args.self.now x c.loop-tag.rows.items in
    let past = c.loop-tag-test.false in
    let within = c.loop-tag.auto.tag-end in
    let all = c.in-Ok.ensures.1 in
    let e : c.loop-tag.tag ≡ c.args.count = omega arith in subst L e c.loop-tag.invariant
