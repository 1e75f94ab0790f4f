-- The change of a value by an operation that may run out of memory.
use Rattle.std.specs.Prelude.{◌≡◌, Result, MatchResult}

-- the value becomes `made`, or it is unchanged because memory ran out
abbrev pub Becomes : {T R E : Type 0} → T → (before after : T) → Result R E → Type 0
Becomes made before after r = MatchResult r (λ _. after ≡ made) (λ _. after ≡ before)
