use Rattle.std.proofs.Common.{◌≡◌, drop}
use Rattle.cw_explain.specs.Lines.{after_line}
use Rattle.cw_explain.proofs.excerpt.after_line.Given as goal

abbrev pub invariant-loop-i : goal.invariant-loop-i
invariant-loop-i l = after_line l.text ≡ after_line (drop l.i l.text)
