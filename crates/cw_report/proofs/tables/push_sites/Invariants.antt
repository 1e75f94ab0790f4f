-- The lines so far, and the lines of the remaining sites.
use Rattle.cw_report.specs.Texts.{site_lines}
use Rattle.cw_report.proofs.Lines.{Towards}
use Rattle.cw_report.proofs.tables.push_sites.Given as goal

abbrev pub invariant-loop-site : goal.invariant-loop-site
invariant-loop-site l =
    Towards l.fn.table l.table (site_lines l.site-iterator.a.rest.now l.site-iterator.b.rest.now) (site_lines l.sites l.rows)
