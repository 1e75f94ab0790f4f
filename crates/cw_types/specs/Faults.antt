-- The reasons why a source exceeds a limit or breaks a rule of names and types.
use Rattle.std.specs.Prelude.{◌≡◌, ℕ, List, [], ◌∷◌}
use Rattle.cw_model.specs.Syntax.{Program}
use Rattle.cw_model.specs.Lines.{IsLeastLine}
use Rattle.cw_model.specs.Sizes.{limit_faults}
use Rattle.cw_model.specs.Typing.{type_faults}
use Rattle.cw_tree.specs.declared.resolved.Tree.{Tree}
use Rattle.cw_tree.specs.declared.typed.Typed.{Typed}
use Rattle.cw_tree.specs.ResolvedView.{program_of}
use Rattle.cw_text.specs.declared.fault.Fault.{Fault}
use Rattle.cw_text.specs.declared.fault.Fault.TheVariants as fault
use Rattle.cw_text.specs.declared.reasons.At.{At}
use Rattle.cw_types.specs.Limits.{IsPassedByParts}
use Rattle.cw_types.specs.declared.reason.TooLarge.{TooLarge}

-- no limit is exceeded, and this is the least line that breaks a rule of names and types
pub record IsFirstTypeFault (program : Program) (line : ℕ) : Type 0 where
  pub within : limit_faults program ≡ []
  pub least : IsLeastLine (type_faults program) line

-- the tree represents this program, which exceeds no limit and breaks no rule of names and types
pub record IsTyped (program : Program) (tree : Tree) : Type 0 where
  pub same : program_of tree ≡ program
  pub within : limit_faults program ≡ []
  pub typed : type_faults program ≡ []

-- the check accepts this program with this tree
abbrev pub IsTypedOf : Program → Typed → Type 0
IsTypedOf program found = IsTyped program found.tree

-- no limit is exceeded
abbrev pub IsWithin : Program → Type 0
IsWithin program = limit_faults program ≡ []

-- the least line that exceeds a limit, and a limit that it exceeds
abbrev pub IsPassedAt : Program → At TooLarge → Type 0
IsPassedAt program at = IsLeastLine (limit_faults program) at.line × IsPassedByParts program at.line at.reason

-- the second list if the first is empty, otherwise the empty list
abbrev pub where_none : List ℕ → List ℕ → List ℕ
where_none [] lines = lines
where_none (other ∷ others) lines = []

-- the lines that break a rule of names and types; no lines if a limit is exceeded
abbrev pub refused_lines : Program → List ℕ
refused_lines program = where_none (limit_faults program) (type_faults program)

-- the condition that the program satisfies if the check returns this fault
abbrev pub IsIllTyped : Program → Fault → Type 0
IsIllTyped program (fault.Size p) = IsLeastLine (limit_faults program) p.line
IsIllTyped program (fault.Types p) = IsFirstTypeFault program p.line
IsIllTyped program fault.Memory = Unit {0}
IsIllTyped program _ = ⊥
