use Rattle.std.proofs.Common.{ℕ, ◌≡◌, ◌∙◌, ap, subst, sym, arith}
use Rattle.cw_sites.specs.PathCalls.{ReadsOwn}
use Rattle.cw_sites.specs.StepSums.{sum_at}
use Rattle.cw_meter.specs.Moves.{ListsSites}
use Rattle.cw_meter.proofs.ReadingLaws.{site_listed, no_sites}
use Rattle.cw_meter.proofs.tables.Tables.site_rows.Goals as goal

pub loop-site-init : goal.loop-site-init
loop-site-init c = no_sites c.args.self.now c.new-rows.result.items c.new-rows.ensures.items

pub loop-site-preserved : goal.loop-site-preserved
loop-site-preserved c = site_listed c.args.self.now c.loop-site.site c.loop-site.rows.items c.push.new.self.items c.site_with.result c.loop-site.invariant c.in_ok-push.ensures.items (c.site_with.ensures (subst (λ n. ReadsOwn c.args.self.now.sites.paths c.loop-site.site n) (ap (λ l. sum_at c.loop-site.site l) (sym c.deref.ensures.value) ∙ sym c.sum_of-own.ensures) (c.in_ok-owns.ensures c.loop-site.site)))

pub returns : goal.returns
returns c =
    let L : ℕ → Type 0 = λ x. ListsSites c.args.self.now x c.loop-site.rows.items in
    let past = c.loop-site-test.false in
    let within = c.loop-site.auto.site-end in
    let all = c.in-Ok.ensures.1 in
    let e : c.loop-site.site ≡ c.args.count = omega arith in subst L e c.loop-site.invariant
