-- Positions of names, in a map.
use Rattle.std.specs.Prelude.{◌≡◌, ℕ, suc, ◌<◌, ◌^◌, bytes_eq, if◌then◌else◌, List, [], ◌∷◌, length, Option, Some}
use Rattle.std.specs.Prelude.{None, option_map}
use Rattle.std.specs.Borrow.{Bor}
use Rattle.std.specs.HashMap.{HashMap, get_by}
use Rattle.cw_model.specs.Syntax.{Name}
use Rattle.cw_model.specs.Names.{same_name}

-- the first position of a name, if it is found
abbrev pub place_of : Name → List Name → Option ℕ
place_of x [] = None
place_of x (y ∷ names) = if same_name x y then Some 0 else option_map suc (place_of x names)

-- the map has the first position of each name, and the positions fit in 32 bits
pub record ArePlaces {S : Type 0} (places : HashMap (Bor (List ℕ)) ℕ S) (names : List Name) : Type 0 where
  pub fit : length names < 2 ^ 32
  pub first : (x : Name) → get_by (λ k. bytes_eq x k.now) places ≡ place_of x names
