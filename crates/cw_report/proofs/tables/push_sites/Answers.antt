use Rattle.std.proofs.Common.{◌≡◌, ◌⊎◌, inl, inr, List, [], ◌∷◌, length, refl, ap₂, subst}
use Rattle.cw_facts.specs.Options.{which_ends}
use Rattle.cw_code.specs.Code.{site_view}
use Rattle.cw_code.specs.declared.code.Site.{Site}
use Rattle.cw_sites.specs.declared.table.SiteRow.{SiteRow}
use Rattle.cw_report.specs.Texts.{row_line, site_lines}
use Rattle.cw_report.proofs.Lines.{Towards, arrived, onward}
use Rattle.cw_report.proofs.tables.push_sites.Goals as goal

-- if either list is at its end, no line is left
no_more : (sites : List Site) (rows : List SiteRow) → (length sites ≡ 0) ⊎ (length rows ≡ 0) → site_lines sites rows ≡ []
no_more [] rows h = refl
no_more (site ∷ sites) [] h = refl
no_more (site ∷ sites) (row ∷ rows) (inl h) = cc
no_more (site ∷ sites) (row ∷ rows) (inr h) = cc

pub loop-site-preserved : goal.loop-site-preserved
loop-site-preserved c =
    let (sites_step, rows_step) = c.in-Some.ensures.steps in
    let whole = site_lines c.args.sites.now c.args.rows.now in
    let before = subst (λ l. Towards c.args.table.now c.loop-site.table l whole) (ap₂ site_lines sites_step rows_step) c.loop-site.invariant in
    onward c.args.table.now c.loop-site.table c.push_site.new.table (row_line (site_view c.in-Some.site.now).told c.in-Some.row.now)
    (site_lines c.next.new.self.a.rest.now c.next.new.self.b.rest.now) whole before c.in_ok-push_site.ensures

pub returns : goal.returns
returns c =
    let sites = c.loop-site.site-iterator.a.rest.now in
    let rows = c.loop-site.site-iterator.b.rest.now in
    let whole = site_lines c.args.sites.now c.args.rows.now in
    let none = no_more sites rows (which_ends (length sites) (length rows) c.in-None.ensures.steps) in
    arrived c.args.table.now c.loop-site.table whole (subst (λ l. Towards c.args.table.now c.loop-site.table l whole) none c.loop-site.invariant)
