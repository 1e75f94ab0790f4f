use Rattle.std.proofs.Common.{◌≡◌, ℕ, List, drop, map, ◌++◌}
use Rattle.cw_model.specs.Lines.{lowest}
use Rattle.cw_types.proofs.limits.params_beyond.Given as goal

abbrev pub invariant-loop-param : goal.invariant-loop-param
invariant-loop-param l = (more : List ℕ) →
    lowest l.least.line (drop l.left (map (λ _. l.line) (drop l._param-index l.params) ++ more))
    ≡ lowest l.fn.least.line (drop l.room (map (λ _. l.line) l.params ++ more))
