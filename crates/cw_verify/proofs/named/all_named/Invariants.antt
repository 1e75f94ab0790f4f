use Rattle.std.proofs.Common.{◌≡◌, ℕ, ◌<◌, ◌≤◌, Some, true}
use Rattle.std.specs.Prelude.{slice_get}
use Rattle.cw_code.specs.declared.code.Instr.{Instr}
use Rattle.cw_code.specs.Code.{code_view}
use Rattle.cw_code.specs.Fits.{names_well}
use Rattle.cw_verify.proofs.named.all_named.Given as goal

abbrev pub invariant-loop-place : goal.invariant-loop-place
invariant-loop-place l = (p : ℕ) (i : Instr) → l.f.start ≤ p → p < l.place → slice_get l.code.instrs.items p ≡ Some i → names_well (code_view l.code) l.f p i ≡ true
