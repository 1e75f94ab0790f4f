use Rattle.std.proofs.Common.{◌≡◌, ◌∷◌, sym, ap, ◌∙◌, subst}
use Rattle.std.specs.Prelude.{reverse}
use Rattle.cw_jobs.specs.declared.call.Parts.{Parts}
use Rattle.cw_jobs.specs.declared.job.Job.{Job}
use Rattle.cw_jobs.specs.Jobs.{code_of}
use Rattle.cw_strand.specs.Moves.{MayReturnNewest, HasReturnedNewest}
use Rattle.cw_strand.proofs.Same.{newest_of, others_left}
use Rattle.cw_strand.proofs.TakenBack.{job_code}
use Rattle.cw_strand.proofs.Homes.{rest_slices, may_skip, skips}
use Rattle.cw_strand.proofs.strand.Strand.skip.Goals as goal

pub return_newest-requires : goal.return_newest-requires
return_newest-requires c =
    let self = c.args.self.now in
    let others = c.requires.out.0 in
    let newest = newest_of self c.args.job others c.requires.out.1 in
    let back = c.deref_mut.result.now.rest.slices.items in
    let e : back ≡ rest_slices self c.args.job others newest = ap (λ (q : Parts). q.rest.slices.items) c.deref_mut.ensures.value ∙ sym (ap (λ (b : Job). b.parts.value.rest.slices.items) newest.job_is) in
    subst (MayReturnNewest self back) (sym c.new-none.ensures.items) (record {
      newest = newest.lent;
      older = newest.rest;
      are = newest.are;
      code = c.requires.running.keeps.code;
      home = λ known. may_skip self c.args.job others newest c.requires.running c.requires.stopped back e known;
    })

pub spare-requires-clause-code : goal.spare-requires-clause-code
spare-requires-clause-code c =
    let self = c.args.self.now in
    ap (λ q. code_of q) c.deref_mut.ensures.value
    ∙ job_code self c.args.job c.requires.out.0 (newest_of self c.args.job c.requires.out.0 c.requires.out.1) c.requires.running
    ∙ ap (λ o. code_of o.value.parts.value) (sym c.return_newest.ensures.of)

pub returns-clause-running : goal.returns-clause-running
returns-clause-running c =
    let self = c.args.self.now in
    let others = c.requires.out.0 in
    let newest = newest_of self c.args.job others c.requires.out.1 in
    let back = c.deref_mut.result.now.rest.slices.items in
    let e : back ≡ rest_slices self c.args.job others newest = ap (λ (q : Parts). q.rest.slices.items) c.deref_mut.ensures.value ∙ sym (ap (λ (b : Job). b.parts.value.rest.slices.items) newest.job_is) in
    skips self c.args.job others newest c.requires.running c.requires.stopped back e c.return_newest.new.self c.spare.new.self
    (subst (λ r. HasReturnedNewest self back r c.return_newest.new.self) c.new-none.ensures.items c.return_newest.ensures) c.spare.ensures.kept

pub returns-clause-outs : goal.returns-clause-outs
returns-clause-outs c =
    let self = c.args.self.now in
    let others = c.requires.out.0 in
    ap (λ l. c.args.job ∷ l) (others_left self c.spare.new.self c.args.job others c.requires.out.1 (λ x xs are. ap reverse c.spare.ensures.kept.lent ∙ c.return_newest.ensures.left x xs are))
    ∙ sym c.requires.out.1

pub returns-clause-mode : goal.returns-clause-mode
returns-clause-mode c = c.spare.ensures.kept.mode ∙ c.return_newest.ensures.mode

pub returns-clause-counts : goal.returns-clause-counts
returns-clause-counts c = c.spare.ensures.kept.count ∙ c.return_newest.ensures.count
