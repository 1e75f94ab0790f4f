-- The observable state of a sink.
use Rattle.std.specs.Prelude.{ℕ, List, Option}

-- the bytes that a sink took so far, if it reveals them, and the number of its failed writes
pub record Seen : Type 0 where
  pub bytes : Option (List ℕ)
  pub failures : ℕ

-- the state with these bytes and this count
abbrev pub seen_as : Option (List ℕ) → ℕ → Seen
seen_as bytes failures = record { bytes = bytes; failures = failures }
