use Rattle.std.proofs.Common.{refl}
use Rattle.cw_strand.proofs.Same.{pops}
use Rattle.cw_strand.proofs.strand.Strand.lose.Goals as goal

pub returns : goal.returns
returns c =
    let self = c.args.self.now in
    record {
      of = refl;
      parts = refl;
      count = refl;
      spares = refl;
      mode = refl;
      left = λ x xs are. (pops self.lent.items c.pop.new.self.items self.lent.len c.pop.new.self.len c.pop.result x xs self.lent.ok.0 c.pop.ensures.items c.pop.ensures.cases are).left;
    }
