-- Concatenated lists of reasons.
use Rattle.std.proofs.Common.{◌≡◌, ℕ, List, [], ◌∷◌, ◌++◌, Option, Some, None, refl, ap}
use Rattle.std.specs.Option.{option_or}
use Rattle.cw_text.specs.Rising.{kept}
use Rattle.cw_text.specs.RecordedReasons.{with_found}
use Rattle.cw_text.specs.lemmas.Kept.{keep-map, kept-append}
use Rattle.cw_text.specs.declared.reasons.At.{At}
use Rattle.cw_own.specs.Reasons.{Reason, line_in, reasons_at}
use Rattle.cw_own.specs.declared.reason.Disowned.{Disowned}
use Rattle.cw_own.specs.Views.{line_and_reason, views_at, view_of_reason}

pub appended : {A : Type 0} → (xs ys zs : List A) → (xs ++ ys) ++ zs ≡ xs ++ (ys ++ zs)
appended [] ys zs = refl
appended (x ∷ xs) ys zs = ap (λ r. x ∷ r) (appended xs ys zs)

-- recording two lists after each other records their concatenation
pub kept_append : (ps : List (Option (ℕ × Reason))) (xs ys : List (ℕ × Reason)) → kept line_in ps (xs ++ ys) ≡ kept line_in (kept line_in ps xs) ys
kept_append = kept-append line_in

-- recording the reason found in a line
pub found_kept : (line : ℕ) (found : Option Disowned) (ps : List (Option (At Disowned))) → views_at (with_found line found ps) ≡ kept line_in (views_at ps) (reasons_at line (view_of_reason found))
found_kept line None ps = refl
found_kept line (Some r) ps = keep-map line_in line_and_reason (record { line = line; reason = r }) ps

-- nothing more is found
pub found_nothing : (a : Option Reason) → option_or a None ≡ a
found_nothing None = refl
found_nothing (Some r) = refl

-- the search for the first reason is associative
pub found_grouped : (a b c : Option Reason) → option_or (option_or a b) c ≡ option_or a (option_or b c)
found_grouped None b c = refl
found_grouped (Some r) b c = refl
