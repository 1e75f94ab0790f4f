-- The results of rejecting a program.
use Rattle.std.proofs.Common.{◌≡◌, ℕ, List, [], ◌∷◌, Option, Some, None, IfSome, MatchOption, option_map, refl, sym, ap, subst, ◌∙◌}
use Rattle.cw_model.specs.Lines.{IsLeastLine, lowest}
use Rattle.cw_model.specs.Sizes.{limit_faults}
use Rattle.cw_model.specs.Syntax.{Program}
use Rattle.cw_model.specs.Typing.{type_faults}
use Rattle.cw_model.specs.lemmas.Lowest.{least_line, no_least, no_lines}
use Rattle.cw_text.specs.Rising.{first_of, kept, there}
use Rattle.cw_text.specs.RecordedReasons.{itself, least_lines, line_of, lines_at, lines_of, no_place}
use Rattle.cw_text.specs.declared.reasons.At.{At}
use Rattle.cw_text.specs.declared.reasons.Reasons.{Reasons}
use Rattle.cw_text.specs.lemmas.Kept.{first-lowest, first-map, there-map, there-rising}
use Rattle.cw_types.specs.Faults.{IsPassedAt, IsWithin, refused_lines, where_none}
use Rattle.cw_types.specs.Limits.{IsPassedByParts}
use Rattle.cw_types.specs.Named.{functions_named, reducers_named}
use Rattle.cw_types.specs.RecordingLines.{IsOf, recorded_line}
use Rattle.cw_types.specs.ReasonMeaning.{IsNoMain, IsRepeatedIn, BreaksRule, OfNames, OfProgram}
use Rattle.cw_types.specs.declared.reason.IllTyped.{IllTyped}
use Rattle.cw_types.specs.declared.reason.TooLarge.{TooLarge}
use Rattle.cw_types.specs.declared.least_reason.LeastReason.{LeastReason}
use Rattle.cw_types.proofs.Repeating.{behind, in_front}

-- the recorded limit is exceeded in the least line
pub limit_told : (program : Program) (told : LeastReason TooLarge) → recorded_line told ≡ lowest None (limit_faults program) →
    IsOf (IsPassedByParts program) told → MatchOption told.first (IsWithin program) (IsPassedAt program)
limit_told program told lines holds = by_case told.first lines holds
  where
    by_case : (o : Option (At TooLarge)) → option_map (λ at. at.line) o ≡ lowest None (limit_faults program) →
        IfSome o (λ at. IsPassedByParts program at.line at.reason) → MatchOption o (IsWithin program) (IsPassedAt program)
    by_case None l h = no_lines (limit_faults program) (sym l)
    by_case (Some at) l h = (least_line (limit_faults program) at.line (sym l), h)

-- a limit that is found is exceeded
pub passed_so : (program : Program) (found : Option (At TooLarge)) (at : At TooLarge) → found ≡ Some at →
    MatchOption found (IsWithin program) (IsPassedAt program) → IsPassedAt program at
passed_so program found at is h = subst (λ (o : Option (At TooLarge)). MatchOption o (IsWithin program) (IsPassedAt program)) is h

-- if no limit is found, no limit is exceeded
pub within_so : (program : Program) (found : Option (At TooLarge)) → ((at : At TooLarge) → found ≡ Some at → ⊥) →
    MatchOption found (IsWithin program) (IsPassedAt program) → IsWithin program
within_so program None none h = h
within_so program (Some at) none h = absurd (none at refl)

-- if no line is found, no line breaks a rule
pub typed_so : (lines : List ℕ) (found : Option ℕ) → ((line : ℕ) → found ≡ Some line → ⊥) → found ≡ lowest None lines → lines ≡ []
typed_so lines None none h = no_lines lines (sym h)
typed_so lines (Some line) none h = absurd (none line refl)

-- the line that is found is the least
pub least_so : (lines : List ℕ) (found : Option ℕ) (line : ℕ) → found ≡ Some line → found ≡ lowest None lines → IsLeastLine lines line
least_so lines found line is h = least_line lines line (sym h ∙ is)

-- the first recorded line is the least
pub first_told : (told : Reasons IllTyped) (lines : List ℕ) → lines_at told.places ≡ kept itself no_place lines →
    option_map line_of (first_of told.places) ≡ lowest None lines
first_told told lines h = sym (first-map line_of told.places) ∙ ap first_of h ∙ first-lowest lines

-- the recorded lines are the least
pub lines_told : (told : Reasons IllTyped) (lines : List ℕ) → lines_at told.places ≡ kept itself no_place lines → lines_of told ≡ least_lines lines
lines_told told lines h = sym (there-map line_of told.places) ∙ ap there h ∙ there-rising itself lines

-- if a limit is exceeded, no line that breaks a rule is reported
pub none_past : (program : Program) (at : At TooLarge) → IsPassedAt program at → refused_lines program ≡ []
none_past program at h = none (limit_faults program) h.0
  where
    none : (limits : List ℕ) → IsLeastLine limits at.line → where_none limits (type_faults program) ≡ []
    none [] least = absurd (no_least [] at.line refl least)
    none (l ∷ ls) least = refl

-- if no limit is exceeded, all lines that break a rule are candidates
pub all_within : (program : Program) → IsWithin program → refused_lines program ≡ type_faults program
all_within program h = ap (λ limits. where_none limits (type_faults program)) h

-- there is no function main
pub no_main_true : (program : Program) (found : Option IllTyped) → IfSome found (IsNoMain program) → IfSome found (BreaksRule program 1)
no_main_true program None h = h
no_main_true program (Some r) h = OfProgram refl h

-- repeated names among functions only or among reducers only
pub of_functions : (program : Program) (line : ℕ) (r : IllTyped) → IsRepeatedIn (functions_named program.functions) line r → BreaksRule program line r
of_functions program line r h =
    OfNames (record {
      word = h.word;
      other = h.other;
      is = h.is;
      both = in_front (functions_named program.functions) (reducers_named program.reducers) (h.word.now, h.other) (h.word.now, line) h.both;
    })

pub of_reducers : (program : Program) (line : ℕ) (r : IllTyped) → IsRepeatedIn (reducers_named program.reducers) line r → BreaksRule program line r
of_reducers program line r h =
    OfNames (record {
      word = h.word;
      other = h.other;
      is = h.is;
      both = behind (functions_named program.functions) (reducers_named program.reducers) (h.word.now, h.other) (h.word.now, line) h.both;
    })
