-- The traversal of the tokens records the least line of a token that exceeds a limit, with a limit that it exceeds.
use Rattle.std.proofs.Common.{◌≡◌, ℕ, nat_le, Bool, true, false, if◌then◌else◌, List, [], ◌∷◌, ◌++◌, Option, Some, None, option_map, IfSome, MatchOption, Contains, arith, refl, sym, ap, ◌∙◌, subst}
use Rattle.std.proofs.lemmas.List.Elements.{Contains-append_left, Contains-append_right}
use Rattle.std.proofs.lemmas.Bool.{leb-false}
use Rattle.cw_model.specs.declared.limits.TheConstants.{MOST_OPEN_BRACKETS, MOST_TOKENS_IN_A_ROW}
use Rattle.cw_model.specs.declared.token.Token.{Token}
use Rattle.cw_model.specs.Lines.{lowest, unless}
use Rattle.cw_model.specs.Sizes.{open_after, row_after, token_faults}
use Rattle.cw_model.specs.lemmas.Lowest.{least_line, lowest-append, no_lines}
use Rattle.cw_text.specs.declared.reasons.At.{At}
use Rattle.cw_parse.specs.Nesting.{IsFirstPassed, IsPassedByTokens, IsTooNested, Nesting, first_passed, nestings, noted}
use Rattle.cw_parse.specs.Parsed.{IsShort}
use Rattle.cw_parse.specs.declared.nesting.TooNested.{TooNested}
use Rattle.cw_parse.specs.declared.nesting.TooNested.TheVariants as reason

abbrev line_of : Option (At TooNested) → Option ℕ
line_of first = option_map (λ at. at.line) first

noted_line : (kept : Bool) (r : TooNested) (line : ℕ) (first : Option (At TooNested)) → line_of (noted kept r line first) ≡ lowest (line_of first) (unless kept line)
noted_line true r line first = refl
noted_line false r line None = refl
noted_line false r line (Some at) = by (nat_le at.line line)
  where
    by : (b : Bool) → line_of (if b then Some at else Some (record { line = line; reason = r })) ≡ Some (if b then at.line else line)
    by true = refl
    by false = refl

lines_passed : (first : Option (At TooNested)) (brackets row : ℕ) (ts : List Token) →
    line_of (first_passed first brackets row ts) ≡ lowest (line_of first) (token_faults brackets row ts)
lines_passed first brackets row [] = refl
lines_passed first brackets row (t ∷ ts) =
    lines_passed (noted short reason.Row t.line (noted few reason.Brackets t.line first)) opened next ts
    ∙ ap (λ l. lowest l rest)
    (noted_line short reason.Row t.line (noted few reason.Brackets t.line first) ∙ ap (λ l. lowest l (unless short t.line)) (noted_line few reason.Brackets t.line first))
    ∙ sym (lowest-append (lowest (line_of first) (unless few t.line)) (unless short t.line) rest)
    ∙ sym (lowest-append (line_of first) (unless few t.line) (unless short t.line ++ rest))
  where
    opened : ℕ
    opened = open_after brackets t.kind

    next : ℕ
    next = row_after row t.kind

    few : Bool
    few = nat_le opened MOST_OPEN_BRACKETS

    short : Bool
    short = nat_le next MOST_TOKENS_IN_A_ROW

    rest : List ℕ
    rest = token_faults opened next ts

module _ (tokens : List Token) where
  -- the recorded limit is exceeded in the recorded line
  abbrev Holds : At TooNested → Type 0
  Holds at = IsPassedByTokens tokens at.line at.reason

  noted_holds : (kept : Bool) (r : TooNested) (line : ℕ) (first : Option (At TooNested)) → (kept ≡ false → IsPassedByTokens tokens line r) →
      IfSome first Holds → IfSome (noted kept r line first) Holds
  noted_holds true r line first new old = old
  noted_holds false r line None new old = new refl
  noted_holds false r line (Some at) new old = by (nat_le at.line line)
    where
      by : (b : Bool) → IfSome (if b then Some at else Some (record { line = line; reason = r })) Holds
      by true = old
      by false = new refl

  all_hold : (first : Option (At TooNested)) (brackets row : ℕ) (ts : List Token) →
      ((n : Nesting) → Contains (nestings brackets row ts) n → Contains (nestings 0 0 tokens) n) →
      IfSome first Holds → IfSome (first_passed first brackets row ts) Holds
  all_hold first brackets row [] within h = h
  all_hold first brackets row (t ∷ ts) within h =
      all_hold (noted short reason.Row t.line (noted few reason.Brackets t.line first)) opened next ts
      (λ n found. within n (Contains-append_right (here ∷ []) (nestings opened next ts) n found))
      (noted_holds short reason.Row t.line (noted few reason.Brackets t.line first) (λ e. at_here reason.Row (leb-false next MOST_TOKENS_IN_A_ROW e))
      (noted_holds few reason.Brackets t.line first (λ e. at_here reason.Brackets (leb-false opened MOST_OPEN_BRACKETS e)) h))
    where
      opened : ℕ
      opened = open_after brackets t.kind

      next : ℕ
      next = row_after row t.kind

      few : Bool
      few = nat_le opened MOST_OPEN_BRACKETS

      short : Bool
      short = nat_le next MOST_TOKENS_IN_A_ROW

      here : Nesting
      here = record { line = t.line; brackets = opened; row = next }

      at_here : (r : TooNested) → IsTooNested opened next r → IsPassedByTokens tokens t.line r
      at_here r passed = record {
        nesting = here;
        there = within here (Contains-append_left (here ∷ []) (nestings opened next ts) here (0, omega arith, refl));
        at_line = refl;
        passed = passed;
      }

  -- the recorded line is the least one; without a recorded line no token exceeds a limit
  pub is_first : (found : Option (At TooNested)) → found ≡ first_passed None 0 0 tokens → MatchOption found (IsShort tokens) (IsFirstPassed tokens)
  is_first None e = no_lines (token_faults 0 0 tokens) (sym (lines_passed None 0 0 tokens) ∙ ap line_of (sym e))
  is_first (Some at) e = record {
    least = least_line (token_faults 0 0 tokens) at.line (sym (lines_passed None 0 0 tokens) ∙ ap line_of (sym e));
    holds = subst (λ o. IfSome o Holds) (sym e) (all_hold None 0 0 tokens (λ n c. c) tt);
  }
