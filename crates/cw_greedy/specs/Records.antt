-- The meaning of the record of a run's strands.
use Rattle.std.specs.Prelude.{ℕ, zero, suc, ◌+◌, ◌≡◌, List, [], ◌∷◌, Ok, Err}
use Rattle.cw_model.specs.Trees.{Tree}
use Rattle.cw_greedy.specs.declared.code.Code.{Code}
use Rattle.cw_greedy.specs.declared.code.Code.TheVariants.{Instructions, Spawned, Ended, Joined, Called}
use Rattle.cw_greedy.specs.Recorded.{Recorded}
use Rattle.cw_greedy.specs.Blocks.{AsChild, codes_of}

-- puts instructions before codes
abbrev pub instructions_before : ℕ → List Code → List Code
instructions_before zero codes = codes
instructions_before (suc n) (Instructions m ∷ codes) = Instructions (suc n + m) ∷ codes
instructions_before (suc n) codes = Instructions (suc n) ∷ codes

-- merges adjacent instructions, and removes empty ones
abbrev pub merged : List Code → List Code
merged [] = []
merged (Instructions n ∷ codes) = instructions_before n (merged codes)
merged (Spawned first ∷ codes) = Spawned first ∷ merged codes
merged (Ended ∷ codes) = Ended ∷ merged codes
merged (Joined ∷ codes) = Joined ∷ merged codes
merged (Called ∷ codes) = Called ∷ merged codes

-- the codes are the record of a run with this strand tree, for every division of instructions into codes
abbrev pub IsRecordOf : Tree → Recorded → Type 0
IsRecordOf t (Err n) = ⊥
IsRecordOf t (Ok codes) = merged codes ≡ merged (codes_of AsChild t)
