use Rattle.std.proofs.Common.{[], refl, sym, subst}
use Rattle.cw_jobs.specs.declared.effect.Effect.TheVariants as effect
use Rattle.cw_strand.specs.Moves.{MayReturnNewest, HasReturnedNewest}
use Rattle.cw_strand.specs.declared.strand.Mode.TheVariants as mode
use Rattle.cw_strand.proofs.Same.{newest_of, others_left}
use Rattle.cw_strand.proofs.Gave.{may_waits, limit_runs, mode_back}
use Rattle.cw_strand.proofs.strand.Strand.give_over.Goals as goal

pub return_newest-requires : goal.return_newest-requires
return_newest-requires c =
    let self = c.args.self.now in
    let given = c.requires.given in
    let newest = newest_of self given.out given.others given.are in
    subst (MayReturnNewest self c.args.back.items) (sym c.new-none.ensures.items)
    (may_waits self given.out given.others newest c.requires.running (effect.OverLimit c.args.back) given.means c.args.back.items [] (refl, refl) c.requires.waiting c.machines_that_stop_remain.ensures.remain)

pub returns-clause-running : goal.returns-clause-running
returns-clause-running c =
    let self = c.args.self.now in
    let given = c.requires.given in
    let newest = newest_of self given.out given.others given.are in
    let popped = c.return_newest.new.self in
    let home = subst (λ r. HasReturnedNewest self c.args.back.items r popped) c.new-none.ensures.items c.return_newest.ensures in
    limit_runs self given.out given.others newest c.requires.running (effect.OverLimit c.args.back) given.means c.args.back.items [] (refl, refl) c.requires.waiting c.machines_that_stop_remain.ensures.remain c.calls_preserve_strand_job.ensures
    (record popped { mode = mode.Over }) (mode_back self c.args.back.items [] popped home) refl tt

pub returns-clause-outs : goal.returns-clause-outs
returns-clause-outs c = λ out others e. others_left c.args.self.now c.return_newest.new.self out others e (λ x xs. c.return_newest.ensures.left x xs)
