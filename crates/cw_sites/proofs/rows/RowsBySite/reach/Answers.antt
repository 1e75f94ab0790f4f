use Rattle.std.proofs.Common.{refl, ◌∙◌, sym, ap, arith}
use Rattle.cw_sites.specs.SiteRows.{none_kept}
use Rattle.cw_facts.specs.Items.{item}
use Rattle.cw_sites.proofs.RowLaws.{kept_pushed}
use Rattle.cw_sites.proofs.rows.RowsBySite.reach.Goals as goal

pub loop-site-init : goal.loop-site-init
loop-site-init c = record { same = λ q. refl; count_is = let o = c.args.self.now.by_site.ok.0 in omega (arith, c.len-site.ensures) }

pub loop-site-preserved : goal.loop-site-preserved
loop-site-preserved c =
    let mid = c.loop-site.self in
    let i = c.loop-site.invariant.count_is in
    let o = mid.by_site.ok.0 in
    let n = c.push.new.self.ok.0 in
    record {
      same = λ q. kept_pushed mid.by_site.items c.push.new.self.items c.get.result mid.further c.in_ok-push.ensures.items (c.get.ensures ∙ ap (item none_kept mid.further) (sym i)) q ∙ c.loop-site.invariant.same q;
      count_is = omega (arith, c.in_ok-push.ensures.len);
    }

pub returns-clause-same : goal.returns-clause-same
returns-clause-same c = c.loop-site.invariant.same
