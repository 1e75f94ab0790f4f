use Rattle.std.proofs.Common.{refl, sym, subst}
use Rattle.std.specs.Prelude.{Err}
use Rattle.std.specs.Coded.{le_prop}
use Rattle.std.proofs.Math.Logic.{∥∥₁_elim}
use Rattle.cw_text.specs.declared.fault.Fault.TheVariants as fault
use Rattle.cw_jobs.specs.declared.effect.Effect.{Effect}
use Rattle.cw_jobs.specs.Means.{IsMeaningOf}
use Rattle.cw_machine.specs.Answering.{TakesOut}
use Rattle.cw_machine.proofs.RootEnds.{comes_to_no_join}
use Rattle.cw_machine.proofs.answering.ended_in.Goals as goal

pub returns-in-Trapped : goal.returns-in-Trapped
returns-in-Trapped c =
    let told = Err (fault.Trap c.in-Trapped.trap c.in-Trapped.line c.into_vec.result) in
    subst (λ (e : Effect). TakesOut e told) (sym c.in-Trapped.is) (c.into_vec.result, refl, c.into_vec.ensures.items)

pub unreachable-requires : goal.unreachable-requires
unreachable-requires c = ∥∥₁_elim c.requires (hlevel le_prop) (λ of.
    let whole = of.1 in
    comes_to_no_join c.the_root_answers_what_the_code_gives.ensures of.0 whole.args whole.limit whole.burden whole.detail whole.root whole.is c.in-Joined.frame c.in-Joined.replaced c.in-Joined.shown
    (subst (λ (e : Effect). IsMeaningOf whole.root e) c.in-Joined.is whole.means))
