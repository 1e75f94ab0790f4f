use Rattle.std.proofs.Common.{◌≡◌, ◌∷◌, refl, sym, ap, ◌∙◌, subst, arith}
use Rattle.std.specs.Prelude.{reverse}
use Rattle.cw_code.specs.Fits.{slots_lent}
use Rattle.cw_jobs.specs.declared.call.Parts.{Parts}
use Rattle.cw_jobs.specs.Jobs.{code_of}
use Rattle.cw_machine.specs.Calls.{loans_of}
use Rattle.cw_machine.specs.Rests.{MayTake, TakesBack}
use Rattle.cw_strand.specs.declared.strand.Lent.{Lent}
use Rattle.cw_strand.specs.Holds.{its_code}
use Rattle.cw_strand.proofs.Same.{newest_of, last_is, lasts, some_there, others_left}
use Rattle.cw_strand.proofs.TakenBack.{may_take, job_code, takes_back_to}
use Rattle.cw_strand.proofs.strand.Strand.take_in.Goals as goal

pub take_back-requires : goal.take_back-requires
take_back-requires c =
    let self = c.args.self.now in
    let newest = newest_of self c.args.job c.requires.out.0 c.requires.out.1 in
    let slots = c.take_last.result.home.lender.slots in
    let last = last_is self.lent.items c.take_last.new.self.items c.take_last.result newest.lent newest.rest c.take_last.ensures.items newest.are in
    let code : c.deref-2.result.now ≡ its_code self = c.deref-2.ensures ∙ ap (λ q. code_of q) c.deref.ensures ∙ c.requires.running.keeps.code in
    let loans : c.loans_named-loans.result.now ≡ loans_of (its_code self) c.take_last.result.home.lent = c.loans_named-loans.ensures ∙ ap (λ v. loans_of v c.take_last.result.home.lent) code in
    subst (λ (q : Parts). ∥ MayTake self.run.machine slots (slots_lent c.loans_named-loans.result.now) q.rest.slices.items ∥₁) (sym c.deref_mut.ensures.value)
    (subst (λ l. ∥ MayTake self.run.machine slots (slots_lent l) c.args.job.parts.value.rest.slices.items ∥₁) (sym loans)
    (subst (λ (x : Lent). ∥ MayTake self.run.machine x.home.lender.slots (slots_lent (loans_of (its_code self) x.home.lent)) c.args.job.parts.value.rest.slices.items ∥₁) (sym last)
    (may_take self c.args.job c.requires.out.0 newest c.requires.running c.requires.waiting)))

pub take_last-requires : goal.take_last-requires
take_last-requires c =
    let self = c.args.self.now in
    let newest = newest_of self c.args.job c.requires.out.0 c.requires.out.1 in
    let some = some_there self.lent.items newest.lent newest.rest newest.are in
    let long = self.lent.ok.0 in
    omega (arith, some, long)

pub spare-requires-clause-code : goal.spare-requires-clause-code
spare-requires-clause-code c =
    let self = c.args.self.now in
    ap (λ q. code_of q) c.deref_mut.ensures.value
    ∙ job_code self c.args.job c.requires.out.0 (newest_of self c.args.job c.requires.out.0 c.requires.out.1) c.requires.running

pub returns-clause-running : goal.returns-clause-running
returns-clause-running c =
    let self = c.args.self.now in
    let others = c.requires.out.0 in
    let newest = newest_of self c.args.job others c.requires.out.1 in
    let slots = c.take_last.result.home.lender.slots in
    let last = last_is self.lent.items c.take_last.new.self.items c.take_last.result newest.lent newest.rest c.take_last.ensures.items newest.are in
    let code : c.deref-2.result.now ≡ its_code self = c.deref-2.ensures ∙ ap (λ q. code_of q) c.deref.ensures ∙ c.requires.running.keeps.code in
    let loans : c.loans_named-loans.result.now ≡ loans_of (its_code self) c.take_last.result.home.lent = c.loans_named-loans.ensures ∙ ap (λ v. loans_of v c.take_last.result.home.lent) code in
    let left = lasts self.lent.items c.take_last.new.self.items c.take_last.result newest.lent newest.rest c.take_last.ensures.items newest.are in
    takes_back_to self c.args.job others newest c.calls_preserve_strand_job.ensures c.requires.running c.requires.waiting c.take_back.new.self
    (subst (λ (x : Lent). TakesBack self.run.machine x.home.lender.slots (slots_lent (loans_of (its_code self) x.home.lent)) c.args.job.parts.value.rest.slices.items c.take_back.new.self) last
    (subst (λ l. TakesBack self.run.machine slots (slots_lent l) c.args.job.parts.value.rest.slices.items c.take_back.new.self) loans
    (subst (λ (q : Parts). TakesBack self.run.machine slots (slots_lent c.loans_named-loans.result.now) q.rest.slices.items c.take_back.new.self) c.deref_mut.ensures.value c.take_back.ensures.shows)))
    c.spare.new.self (ap reverse c.spare.ensures.kept.lent ∙ left) _ refl left c.spare.ensures.kept

pub returns-clause-outs : goal.returns-clause-outs
returns-clause-outs c =
    let self = c.args.self.now in
    let others = c.requires.out.0 in
    ap (λ l. c.args.job ∷ l) (others_left self c.spare.new.self c.args.job others c.requires.out.1 (λ x xs are. ap reverse c.spare.ensures.kept.lent ∙ lasts self.lent.items c.take_last.new.self.items c.take_last.result x xs c.take_last.ensures.items are))
    ∙ sym c.requires.out.1

pub returns-clause-goes : goal.returns-clause-goes
returns-clause-goes c = c.spare.ensures.kept.mode

pub returns-clause-counts : goal.returns-clause-counts
returns-clause-counts c = c.spare.ensures.kept.count
