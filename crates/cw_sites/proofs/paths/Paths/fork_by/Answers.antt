use Rattle.cw_sites.specs.StepLists.{part, strand_path}
use Rattle.cw_sites.proofs.AppendLaws.{forks_by}
use Rattle.cw_sites.proofs.paths.Paths.fork_by.Goals as goal

pub returns-clause-path : goal.returns-clause-path
returns-clause-path c = λ order within laid q fits.
    let l1 = c.in_ok-spawn.ensures.laid laid in
    let l2 = c.in_ok-extend_by.ensures.laid l1 in
    forks_by c.args.first (part q c.args.steps.now.items c.args.from c.args.to c.args.weight) (strand_path q c.args.self.now) (strand_path q c.spawn.new.self) (strand_path q c.extend_by.new.self) (strand_path q c.end.new.self)
    (c.in_ok-spawn.ensures.strand_path laid q) (c.in_ok-extend_by.ensures.path order within l1 q) (c.in_ok-end.ensures.strand_path l2 q) fits

pub returns-clause-bounded : goal.returns-clause-bounded
returns-clause-bounded c = λ most a b. c.in_ok-end.ensures.bounded most (c.in_ok-extend_by.ensures.bounded most a (c.in_ok-spawn.ensures.bounded most b))
