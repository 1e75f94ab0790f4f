use Rattle.cw_sites.specs.PathBounds.{most_steps}
use Rattle.cw_sites.proofs.PathLaws.{extends_after}
use Rattle.cw_sites.proofs.paths.Paths.extend.Goals as goal

pub returns-clause-strand_path : goal.returns-clause-strand_path
returns-clause-strand_path c = extends_after c.args.self.now c.shorten.new.self c.add.new.self c.args.site c.args.count c.in_ok-shorten.ensures.laid c.in_ok-shorten.ensures.same c.in_ok-at.ensures.strand_path

pub returns-clause-bounded : goal.returns-clause-bounded
returns-clause-bounded c = λ room most h b. c.in_ok-at.ensures.bounded (most_steps most) most h (c.in_ok-shorten.ensures.bounded room most b)
