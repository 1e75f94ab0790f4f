-- The maximum of integers, if there are any.
use Rattle.std.specs.Prelude.{ℤ, Option, Some, None}
use Rattle.cw_model.specs.Answers.{or_max}

-- the maximum of two optional integers
abbrev pub greater : Option ℤ → Option ℤ → Option ℤ
greater None b = b
greater (Some v) b = Some (or_max v b)
