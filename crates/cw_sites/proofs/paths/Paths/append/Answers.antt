use Rattle.std.proofs.Common.{◌+◌, arith}
use Rattle.cw_sites.specs.PathBounds.{most_steps}
use Rattle.cw_sites.proofs.AppendLaws.{append_after}
use Rattle.cw_sites.proofs.PathBoundLaws.{looser}
use Rattle.cw_sites.proofs.paths.Paths.append.Goals as goal

pub returns-clause-strand_path : goal.returns-clause-strand_path
returns-clause-strand_path c = append_after c.args.self.now c.shorten.new.self c.append_piece.new.self c.args.piece c.args.first c.in_ok-shorten.ensures.laid c.in_ok-shorten.ensures.same c.in_ok-append_piece.ensures.strand_path

pub returns-clause-bounded : goal.returns-clause-bounded
returns-clause-bounded c = λ room most a b. c.in_ok-append_piece.ensures.bounded most a (looser (most_steps most) (most_steps most + 1) most c.shorten.new.self (omega arith) (c.in_ok-shorten.ensures.bounded room most b))
