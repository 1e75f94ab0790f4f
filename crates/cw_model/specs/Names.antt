-- Names, compared by their bytes, and tables by name.
use Rattle.std.specs.Prelude.{bytes_eq, Bool, true, false, if◌then◌else◌, not, ◌&&◌, List, [], ◌∷◌}
use Rattle.cw_model.specs.Syntax.{Name}

-- two names have the same bytes
abbrev pub same_name : Name → Name → Bool
same_name a b = bytes_eq a b

-- a name is in a list
abbrev pub is_among : Name → List Name → Bool
is_among x [] = false
is_among x (y ∷ ys) = if same_name x y then true else is_among x ys

-- no name occurs twice in a list
abbrev pub differ : List Name → Bool
differ [] = true
differ (x ∷ xs) = not (is_among x xs) && differ xs

-- the value of a name in a table without duplicates, or the default
abbrev pub find : {V : Type 0} → V → Name → List (Name × V) → V
find none x [] = none
find none x (entry ∷ table) = if same_name x entry.0 then entry.1 else find none x table

-- the table with a new value for a name; a table without the name is unchanged
abbrev pub put : {V : Type 0} → Name → V → List (Name × V) → List (Name × V)
put x v [] = []
put x v (entry ∷ table) = if same_name x entry.0 then (entry.0, v) ∷ table else entry ∷ put x v table

-- the distinct names of a list that are not known yet, in order of first occurrence
abbrev pub new_names : List Name → List Name → List Name
new_names [] known = []
new_names (x ∷ xs) known = if is_among x known then new_names xs known else x ∷ new_names xs (x ∷ known)
