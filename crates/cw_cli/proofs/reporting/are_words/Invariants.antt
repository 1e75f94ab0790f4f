use Rattle.std.proofs.Common.{◌≡◌, true}
use Rattle.std.specs.Prelude.{take}
use Rattle.std.specs.List.{list_all}
use Rattle.cw_model.specs.Ints.{fits}
use Rattle.cw_cli.proofs.reporting.are_words.Given as goal

-- the arguments that were read are words
abbrev pub invariant-loop-arg : goal.invariant-loop-arg
invariant-loop-arg l = list_all fits (take l.arg-index l.args) ≡ true
