use Rattle.std.proofs.Common.{◌≡◌, ◌∙◌, ap, subst}
use Rattle.cw_jobs.specs.Jobs.{code_of}
use Rattle.cw_machine.specs.Trims.{Trims}
use Rattle.cw_strand.specs.declared.strand.Strand.{Strand}
use Rattle.cw_strand.specs.Holds.{its_code}
use Rattle.cw_strand.proofs.Trimmed.{trimmed_runs}
use Rattle.cw_strand.proofs.strand.Strand.trim.Goals as goal

pub returns-clause-running : goal.returns-clause-running
returns-clause-running c = λ h.
    let self = c.args.self.now in
    let code : c.deref-2.result.now ≡ its_code self = c.deref-2.ensures ∙ ap (λ q. code_of q) c.deref.ensures ∙ h.keeps.code in
    let new : Strand = record self { run = record { machine = c.trim.new.self; meter = c.trim-2.new.self }; spares = c.new.result } in
    trimmed_runs self new (subst (λ v. Trims v self.run.machine c.trim.new.self) code c.trim.ensures.shows) c.trim.ensures.views c.trim.ensures.blocks c.trim.ensures.lines
    c.trim-2.ensures c.new.ensures.items h
