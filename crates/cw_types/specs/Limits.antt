-- The meaning of a reason that is recorded for a line that exceeds a limit on the parts of a program.
use Rattle.std.specs.Prelude.{◌≡◌, ◌<◌, ℕ, List, ◌++◌, length, map, Contains}
use Rattle.cw_model.specs.declared.limits.TheConstants.{MOST_DECLARED, MOST_FUNCTIONS, MOST_PARAMETERS}
use Rattle.cw_model.specs.declared.limits.TheConstants.{MOST_REDUCERS, MOST_TAG_BYTES}
use Rattle.cw_model.specs.Sizes.{declaring_lines_in, lines_beyond, regions_of}
use Rattle.cw_model.specs.Syntax.{Name, Function, Program}
use Rattle.cw_types.specs.AreRecorded.{tags_past}
use Rattle.cw_types.specs.declared.reason.TooLarge.{TooLarge}
use Rattle.cw_types.specs.declared.reason.TooLarge.TheVariants as reason

-- the line of each name that a function declares, its parameters first
abbrev pub declared_lines : Function → List ℕ
declared_lines f = map (λ _. f.line) f.params ++ declaring_lines_in f.body

-- the lines of the names past the limit that a function declares
abbrev pub declared_past : Function → List ℕ
declared_past f = lines_beyond MOST_DECLARED (declared_lines f)

-- a function exceeds a limit in this line for this reason
abbrev pub IsPassedByFunction : Function → (line : ℕ) → TooLarge → Type 0
IsPassedByFunction f line (reason.Parameters word count) =
    (word.now ≡ f.name) × (count ≡ length f.params) × (MOST_PARAMETERS < count) × (f.line ≡ line)
IsPassedByFunction f line (reason.Declared word) = (word.now ≡ f.name) × Contains (declared_past f) line
IsPassedByFunction f line _ = ⊥

-- one of these functions exceeds a limit in this line for this reason
pub record IsPassedByOne (functions : List Function) (line : ℕ) (r : TooLarge) : Type 0 where
  pub one : Function
  pub there : Contains functions one
  pub passed : IsPassedByFunction one line r

-- regions exceed a limit in this line for this reason
abbrev pub IsPassedByRegions : List (Name × ℕ) → (line : ℕ) → TooLarge → Type 0
IsPassedByRegions regions line (reason.TagBytes tag) =
    Contains regions (tag.now, line) × (MOST_TAG_BYTES < length tag.now)
IsPassedByRegions regions line reason.Tags = Contains (tags_past regions) line
IsPassedByRegions regions line _ = ⊥

-- in each line in which a region has this tag, the limit is exceeded for this reason
abbrev pub IsLongTag : Name → TooLarge → Type 0
IsLongTag tag r =
    (regions : List (Name × ℕ)) → (line : ℕ) → Contains regions (tag, line) → IsPassedByRegions regions line r

-- there are too many functions or reducers, and one of those past the limit has this line
abbrev pub IsPassedByCount : Program → (line : ℕ) → TooLarge → Type 0
IsPassedByCount program line reason.Functions =
    Contains (lines_beyond MOST_FUNCTIONS (map (λ f. f.line) program.functions)) line
IsPassedByCount program line reason.Reducers =
    Contains (lines_beyond MOST_REDUCERS (map (λ r. r.line) program.reducers)) line
IsPassedByCount program line _ = ⊥

-- the parts of a program exceed a limit in this line for this reason
pub data IsPassedByParts (program : Program) (line : ℕ) (r : TooLarge) : Type 0 where
  ByCount : IsPassedByCount program line r → IsPassedByParts program line r
  ByFunction : IsPassedByOne program.functions line r → IsPassedByParts program line r
  ByRegions : IsPassedByRegions (regions_of program) line r → IsPassedByParts program line r
