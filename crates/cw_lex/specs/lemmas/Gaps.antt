-- A gap ends no earlier than it begins.
use Rattle.std.proofs.Common.{ℕ, ◌≤◌, List, arith}
use Rattle.cw_model.specs.Tokens.{IsGap, none, separator, comment}

pub gap_rises : {text : List ℕ} {at to : ℕ} → IsGap text at to → at ≤ to
gap_rises none = omega arith
gap_rises (separator lt s g) = omega (arith, gap_rises g)
gap_rises (comment len l c g) = omega (arith, gap_rises g)
