-- Known names in a vector and a map.
use Rattle.std.specs.Prelude.{◌≡◌, ℕ, bytes_eq, if◌then◌else◌, List, [], ◌∷◌, Option, Some, None}
use Rattle.std.specs.Borrow.{Bor}
use Rattle.std.specs.HashMap.{HashMap, get_by}
use Rattle.cw_model.specs.Names.{same_name}
use Rattle.cw_model.specs.Syntax.{Name}
use Rattle.cw_types.specs.Scope.{Declared, with_local}
use Rattle.cw_types.specs.declared.known.Entry.{Entry}
use Rattle.cw_types.specs.declared.known.Local.{Local}

-- the kind and the line of the newest name of this spelling, if there is one
abbrev pub local_of : Name → List Declared → Option Local
local_of x [] = None
local_of x (d ∷ ds) = if same_name x d.name then Some (record { kind = d.kind; line = d.line }) else local_of x ds

-- the names with the name of an entry as the newest
abbrev pub with_entry : Entry → List Declared → List Declared
with_entry e known = with_local e.name.now e.local.kind e.local.line known

-- the known names with the names of these entries, the newest first
abbrev pub known_from : List Declared → List Entry → List Declared
known_from known [] = known
known_from known (e ∷ es) = known_from (with_entry e known) es

-- each entry holds what its name was before it
abbrev pub ShadowsRight : List Declared → List Entry → Type 0
ShadowsRight known [] = Unit {0}
ShadowsRight known (e ∷ es) = (e.shadowed ≡ local_of e.name.now known) × ShadowsRight (with_entry e known) es

-- the map holds the newest local of each name, and the entries hold the locals that they hide
pub record AreNewest {S : Type 0} (newest : HashMap (Bor (List ℕ)) Local S) (entries : List Entry) : Type 0 where
  pub newest_right : (x : Name) → get_by (λ k. bytes_eq x k.now) newest ≡ local_of x (known_from [] entries)
  pub hidden_right : ShadowsRight [] entries
