use Rattle.std.proofs.Common.{ℕ, ◌≡◌, ◌-◌, Ok, refl, arith, ap, ◌∙◌}
use Rattle.cw_greedy.specs.Entries.{codes_of_entry, entry}
use Rattle.cw_greedy.specs.Recorded.{followed}
use Rattle.cw_greedy.proofs.Moves.{noted_entry}
use Rattle.cw_greedy.proofs.recorder.Recorder.cut.Goals as goal

pub returns : goal.returns
returns c =
    let old = c.args.self.now in
    let before : c.saturating_sub.result ≡ c.args.count - old.noted = omega (arith, c.saturating_sub.ensures) in
    let kept = c.in_ok-note.ensures.noted ∙ ap (λ (n : ℕ). followed old.kept (Ok (codes_of_entry (entry n c.args.cut)))) before in
    noted_entry old (record { kept = c.note.new.self; noted = c.args.count; out = old.out; parts = old.parts }) c.args.count c.args.cut refl kept refl refl
