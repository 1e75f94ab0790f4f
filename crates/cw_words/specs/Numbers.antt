-- Numbers as words.
use Rattle.std.specs.Prelude.{◌≡◌, ℕ, ◌^◌, ◌≤◌, ◌<◌, List, length, true}
use Rattle.std.specs.List.{list_all}
use Rattle.cw_model.specs.Pieces.{is_digit, decimal_value}

-- one or more digits and nothing else, whose value fits in 64 bits
abbrev pub IsNumber : List ℕ → Type 0
IsNumber text = (list_all is_digit text ≡ true) × (0 < length text) × (decimal_value text < 2 ^ 64)

-- a number between two bounds, inclusive
abbrev pub IsNumberWithin : ℕ → ℕ → List ℕ → Type 0
IsNumberWithin least most text = IsNumber text × (least ≤ decimal_value text) × (decimal_value text ≤ most)
