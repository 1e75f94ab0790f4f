-- Equality of codes up to merging of adjacent instructions, in front of any further codes.
use Rattle.std.specs.Prelude.{◌≡◌, Bool, true, false, List, [], ◌∷◌}
use Rattle.cw_greedy.specs.declared.code.Code.{Code}
use Rattle.cw_greedy.specs.declared.code.Code.TheVariants.{Instructions, Spawned, Ended, Joined, Called}
use Rattle.cw_greedy.specs.Records.{instructions_before}

-- codes before merged codes
abbrev pub onto : List Code → List Code → List Code
onto [] later = later
onto (Instructions n ∷ codes) later = instructions_before n (onto codes later)
onto (Spawned first ∷ codes) later = Spawned first ∷ onto codes later
onto (Ended ∷ codes) later = Ended ∷ onto codes later
onto (Joined ∷ codes) later = Joined ∷ onto codes later
onto (Called ∷ codes) later = Called ∷ onto codes later

-- two lists of codes are equal up to merging
abbrev pub Same : List Code → List Code → Type 0
Same xs ys = (later : List Code) → onto xs later ≡ onto ys later

-- the code of a join that is still to come
abbrev pub to_join : Bool → List Code
to_join true = Joined ∷ []
to_join false = []
