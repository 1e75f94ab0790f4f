use Rattle.std.proofs.Common.{◌≡◌, sym, ap, subst, ◌∙◌}
use Rattle.cw_jobs.specs.Jobs.{code_of}
use Rattle.cw_machine.specs.Segments.{IsUnderWay, GoesOn}
use Rattle.cw_strand.specs.Holds.{its_code, floor_of}
use Rattle.cw_strand.specs.Moves.{hands_out}
use Rattle.cw_strand.proofs.RunsOn.{run_way, run_came, run_ran}
use Rattle.cw_strand.proofs.strand.Strand.run_on.Goals as goal

pub go_on-stop-requires-clause-running : goal.go_on-stop-requires-clause-running
go_on-stop-requires-clause-running c =
    let self = c.args.self.now in
    let code : c.deref-2.result.now ≡ its_code self = c.deref-2.ensures ∙ ap (λ q. code_of q) c.deref.ensures ∙ c.requires.running.keeps.code in
    subst (λ n. ∥ IsUnderWay c.deref-2.result.now n self.count self.run ∥₁) (sym c.floor-floor.ensures)
    (subst (λ v. ∥ IsUnderWay v (floor_of self) self.count self.run ∥₁) (sym code) (run_way self c.requires.running c.requires.going))

pub returns-clause-comes : goal.returns-clause-comes
returns-clause-comes c =
    let self = c.args.self.now in
    let r = c.go_on-stop.new.self in
    let done = c.go_on-stop.result.1 in
    let to = c.go_on-stop.result.0 in
    let code : c.deref-2.result.now ≡ its_code self = c.deref-2.ensures ∙ ap (λ q. code_of q) c.deref.ensures ∙ c.requires.running.keeps.code in
    run_came c.calls_preserve_strand_job.ensures self r done c.args.limit c.hands_out-stops.result to c.requires.running c.requires.going
    (subst (λ n. GoesOn (its_code self) self.run self.count c.args.limit n c.hands_out-stops.result to done r) c.floor-floor.ensures
    (subst (λ v. GoesOn v self.run self.count c.args.limit c.floor-floor.result c.hands_out-stops.result to done r) code c.go_on-stop.ensures.goes))
    c.go_on-stop.ensures.within c.requires.within

pub returns-clause-ran : goal.returns-clause-ran
returns-clause-ran c =
    let self = c.args.self.now in
    let r = c.go_on-stop.new.self in
    let done = c.go_on-stop.result.1 in
    let to = c.go_on-stop.result.0 in
    let code : c.deref-2.result.now ≡ its_code self = c.deref-2.ensures ∙ ap (λ q. code_of q) c.deref.ensures ∙ c.requires.running.keeps.code in
    run_ran self r done c.args.limit (hands_out c.args.spawns) to c.requires.running c.requires.going
    (subst (λ b. GoesOn (its_code self) self.run self.count c.args.limit (floor_of self) b to done r) c.hands_out-stops.ensures
    (subst (λ n. GoesOn (its_code self) self.run self.count c.args.limit n c.hands_out-stops.result to done r) c.floor-floor.ensures
    (subst (λ v. GoesOn v self.run self.count c.args.limit c.floor-floor.result c.hands_out-stops.result to done r) code c.go_on-stop.ensures.goes)))
    c.go_on-stop.ensures.within
