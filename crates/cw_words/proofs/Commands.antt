-- The definition of the command line, step by step.
use Rattle.std.proofs.Common.{◌≡◌, ◌∙◌, ap, Option, Some, None}
use Rattle.std.specs.Prelude.{IsSomeAnd}
use Rattle.clap.specs.Words.{Rule}
use Rattle.clap.specs.declared.builder.range.ValueRange.{ValueRange}

-- a rule whose range is set
pub with_range_of : (a b : Rule) (o : Option ValueRange) (v : ValueRange) → IsSomeAnd o (λ r. r ≡ v) → a ≡ b → record a { range = o } ≡ record b { range = Some v }
with_range_of a b None v h e = absurd h
with_range_of a b (Some r) v h e = ap (λ (x : Rule). record x { range = Some r }) e ∙ ap (λ x. record b { range = Some x }) h
