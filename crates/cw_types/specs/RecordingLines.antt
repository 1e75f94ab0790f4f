-- The recorded reasons of lines that exceed a limit: the least line, with its limit.
use Rattle.std.specs.Prelude.{◌≡◌, ℕ, List, Option, Some, IfSome, option_map}
use Rattle.std.specs.Option.{option_to_list}
use Rattle.cw_model.specs.Lines.{lowest}
use Rattle.cw_types.specs.declared.least_reason.LeastReason.{LeastReason}

-- the least line so far
abbrev pub recorded_line : {R : Type 0} → LeastReason R → Option ℕ
recorded_line told = option_map (λ at. at.line) told.first

-- `after` is `before` with these lines recorded
abbrev pub AreRecorded : {R : Type 0} → List ℕ → (before after : LeastReason R) → Type 0
AreRecorded lines before after = recorded_line after ≡ lowest (recorded_line before) lines

-- the least of these lines is recorded, if there is one
abbrev pub NotesLeast : {R : Type 0} → Option ℕ → (before after : LeastReason R) → Type 0
NotesLeast least before after = AreRecorded (option_to_list least) before after

-- the recorded line and reason, if there are any, satisfy `Such`
abbrev pub IsOf : {R : Type 0} → (ℕ → R → Type 0) → LeastReason R → Type 0
IsOf Such told = IfSome told.first (λ at. Such at.line at.reason)

-- the record is unchanged, or its line and reason satisfy `Such`
pub data AddsOnly {R : Type 0} (Such : ℕ → R → Type 0) (before after : LeastReason R) : Type 0 where
  AsBefore : after.first ≡ before.first → AddsOnly Such before after
  Anew : IsOf Such after → AddsOnly Such before after

-- this is the line, and this is the reason found for it
abbrev pub IsTheOne : {R : Type 0} → ℕ → Option R → (ℕ → R → Type 0)
IsTheOne line found = λ at r. (at ≡ line) × (found ≡ Some r)

-- this is the least line, and this is the reason
abbrev pub IsTheLeast : {R : Type 0} → Option ℕ → R → (ℕ → R → Type 0)
IsTheLeast least reason = λ at r. (least ≡ Some at) × (r ≡ reason)
