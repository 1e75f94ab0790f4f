-- Digits, in terms of the standard library.
use Rattle.std.proofs.Common.{◌≡◌, ◌+◌, ◌-◌, ◌*◌, ◌<◌, ◌^◌, rules, true, ℕ, List, length, fold, Result, Ok, Err}
use Rattle.std.specs.List.{list_all}
use Rattle.std.specs.Option.{SomeIff}
use Rattle.std.specs.Result.{OkIff, result_ok}
use Rattle.std.proofs.lemmas.Str.Parse.{IsNumeralModel, numerals_by_fold}
use Rattle.cw_model.specs.Pieces.{is_digit, decimal_value}
use Rattle.cw_words.specs.Numbers.{IsNumber}

pub own : IsNumeralModel (λ ds. list_all is_digit ds ≡ true) decimal_value
own = numerals_by_fold _ (search rules) (λ n ds. fold (λ m b. 10 * m + (b - 48)) n ds) (search rules)

-- the result of parsing digits
pub tells : {E : Type 0} (text : List ℕ) (r : Result ℕ E) → list_all is_digit text ≡ true
    → OkIff r ((0 < length text) × (decimal_value text < 2 ^ 64)) (decimal_value text) → SomeIff (result_ok r) (IsNumber text) (decimal_value text)
tells text (Ok x) d h = ((d, h.0.0, h.0.1), h.1)
tells text (Err e) d h = λ n. h (n.1, n.2)
