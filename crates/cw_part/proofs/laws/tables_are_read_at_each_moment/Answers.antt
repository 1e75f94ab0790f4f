use Rattle.cw_part.proofs.MomentLaws as moments
use Rattle.cw_part.proofs.laws.tables_are_read_at_each_moment.Goals as goal

pub returns-clause-sites : goal.returns-clause-sites
returns-clause-sites c = moments.sites_are_read

pub returns-clause-regions : goal.returns-clause-regions
returns-clause-regions c = moments.regions_are_read
