use Rattle.std.proofs.Common.{◌≡◌, ◌++◌, drop, take}
use Rattle.cw_explain.specs.Lines.{first_line}
use Rattle.cw_explain.proofs.excerpt.first_line.Given as goal

abbrev pub invariant-loop-i : goal.invariant-loop-i
invariant-loop-i l = first_line l.text ≡ take l.i l.text ++ first_line (drop l.i l.text)
