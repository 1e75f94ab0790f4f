use Rattle.std.proofs.Common.{sym, subst}
use Rattle.cw_meter.specs.declared.detail.Detail.TheVariants.{Measures}
use Rattle.cw_runnable.specs.declared.verified.Verified.{Verified}
use Rattle.cw_jobs.specs.Jobs.{IsRoot}
use Rattle.cw_pool.proofs.outcome.ended_by.Goals as goal

pub answer-requires : goal.answer-requires
answer-requires c =
    let end = c.requires in
    record {
      whole = ∣ record {
        args = c.args.args.now;
        limit = c.args.n;
        burden = c.args.burden;
        detail = Measures c.args.burden;
        root = end.root;
        is = subst (λ (v : Verified). IsRoot v c.args.args.now c.args.n c.args.burden end.root.parts.value) (sym c.deref.ensures) end.is;
        means = end.means;
      } ∣₁;
    }
