-- The reasons why a program does not keep ownership.
use Rattle.std.specs.Prelude.{◌≡◌, MatchOption, map}
use Rattle.cw_model.specs.Syntax.{Program}
use Rattle.cw_model.specs.Lines.{IsLeastLine}
use Rattle.cw_model.specs.Ownership.{KeepsOwnership, ownership_faults}
use Rattle.cw_text.specs.declared.fault.Fault.{Fault}
use Rattle.cw_text.specs.declared.fault.Fault.TheVariants as fault
use Rattle.cw_tree.specs.declared.resolved.Tree.{Tree}
use Rattle.cw_tree.specs.ResolvedView.{program_of, resolved_of}
use Rattle.cw_text.specs.declared.reasons.At.{At}
use Rattle.cw_text.specs.declared.reasons.Reasons.{Reasons}
use Rattle.cw_text.specs.Rising.{first_of, there}
use Rattle.cw_own.specs.declared.reason.Disowned.{Disowned}
use Rattle.cw_own.specs.Reasons.{IsDisowned, reasons_told}
use Rattle.cw_own.specs.Views.{line_and_reason, reason_of}

-- the condition that the program satisfies if the check returns this fault; out of memory implies nothing
abbrev pub BreaksOwnership : Program → Fault → Type 0
BreaksOwnership program (fault.Ownership p) = IsLeastLine (ownership_faults program) p.line
BreaksOwnership program fault.Memory = Unit {0}
BreaksOwnership program _ = ⊥

-- the line is the least line of the tree that breaks a rule, and it breaks this rule
pub record IsLeastFault (tree : Tree) (at : At Disowned) : Type 0 where
  pub least : IsLeastLine (ownership_faults (program_of tree)) at.line
  pub told : IsDisowned (resolved_of tree) at.line (reason_of at.reason)

-- the first place is empty exactly if the tree keeps ownership; otherwise it has the least line that breaks a rule,
-- with a rule that this line breaks
abbrev pub IsFirstTold : Tree → Reasons Disowned → Type 0
IsFirstTold tree told = MatchOption (first_of told.places) (KeepsOwnership (program_of tree)) (IsLeastFault tree)

-- the recorded lines are the least lines that break a rule, each with the first rule that it breaks
abbrev pub AreLeastFaults : Tree → Reasons Disowned → Type 0
AreLeastFaults tree told = map line_and_reason (there told.places) ≡ reasons_told (resolved_of tree)
