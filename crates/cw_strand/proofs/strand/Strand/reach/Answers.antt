use Rattle.std.proofs.Common.{refl, subst}
use Rattle.cw_strand.specs.Moves.{EndsAt}
use Rattle.cw_strand.proofs.Advanced.{end_goes}
use Rattle.cw_strand.proofs.strand.Strand.reach.Goals as goal

pub returns-in-Gave-clause-leads : goal.returns-in-Gave-clause-leads
returns-in-Gave-clause-leads c =
    let come = subst (λ e. EndsAt e c.args.self.now) c.in-Gave.is c.requires in (
      (c.call_effect.ensures.means, c.call_effect.ensures.none),
      c.call_effect.ensures.counts,
      come.going,
    )

pub returns-in_default-clause-leads : goal.returns-in_default-clause-leads
returns-in_default-clause-leads c = (end_goes c.args.end c.args.self.now c.requires c.in_default.not-Gave, refl, refl, refl)
