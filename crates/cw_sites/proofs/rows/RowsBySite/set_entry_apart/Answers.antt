use Rattle.std.proofs.Common.{◌∙◌, ap, ◌==◌, if◌then◌else◌}
use Rattle.cw_sites.specs.declared.rows.SiteEntry.{SiteEntry}
use Rattle.cw_sites.specs.SiteRows.{further_of}
use Rattle.cw_sites.proofs.RowLaws.{kept_in_page, kept_here}
use Rattle.cw_sites.proofs.rows.RowsBySite.set_entry_apart.Goals as goal

pub returns-then-place-self : goal.returns-then-place-self
returns-then-place-self c = λ q.
    let mid = c.reach.new.self in
    kept_here mid.by_site.items c.args.place c.args.kept (further_of mid.further) c.in_ok-reach.ensures.within q ∙ ap (λ (x : SiteEntry). if c.args.place == q then c.args.kept else x) (c.in_ok-reach.ensures.same q)

pub returns : goal.returns
returns c =
    let old = c.args.self.now in
    kept_in_page old.by_site.items old.further c.set.new.self c.args.place c.args.kept c.requires c.in_ok-set.ensures
