-- The arguments so far, and the remaining ones.
use Rattle.std.proofs.Common.{◌≡◌, ◌++◌, ◌∷◌, drop, flat_map}
use Rattle.std.specs.Fmt.{signed_decimal}
use Rattle.cw_report.proofs.page_text.spaced_text.Given as goal

abbrev pub invariant-loop-arg : goal.invariant-loop-arg
invariant-loop-arg l = l.text.items ++ flat_map (λ arg. 32 ∷ signed_decimal arg) (drop l.arg-index l.args) ≡ flat_map (λ arg. 32 ∷ signed_decimal arg) l.args
