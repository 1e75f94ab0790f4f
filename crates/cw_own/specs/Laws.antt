-- Laws of the reported reasons.
use Rattle.std.specs.Prelude.{◌≡◌, ℕ, ◌≤◌, true, []}
use Rattle.cw_model.specs.Lines.{IsLeastLine}
use Rattle.cw_model.specs.Ownership.{ownership_faults}
use Rattle.cw_model.specs.Syntax.{Program}
use Rattle.cw_model.specs.Typing.{type_faults}
use Rattle.cw_tree.specs.Resolved.{Resolved, plain}
use Rattle.cw_tree.specs.Slots.{is_resolved}
use Rattle.cw_own.specs.Reasons.{Reason, IsDisowned}

-- the definition of ownership rejects the program, at this line or before it
pub record IsRejectedBefore (program : Program) (line : ℕ) : Type 0 where
  pub least : ℕ
  pub is : IsLeastLine (ownership_faults program) least
  pub before : least ≤ line

-- the definition rejects every resolved and well-typed tree for which a reason of ownership is true
abbrev pub DisownedAreRefused : Type 0
DisownedAreRefused =
    (tree : Resolved) → is_resolved tree ≡ true → type_faults (plain tree) ≡ [] → (line : ℕ) (r : Reason) →
    IsDisowned tree line r → IsRejectedBefore (plain tree) line
