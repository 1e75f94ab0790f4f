-- The record of the strands of a tree is a proposition.
use Rattle.std.proofs.Common.{◌≡◌, ℕ, zero, suc, ◌+◌, ◌<◌, ◌≤◌, true, false, Ok, Err, List, [], ◌∷◌, refl, sym, ap, ◌∙◌, subst}
use Rattle.std.specs.Coded.{le_prop}
use native.Mathlib.Nat.{ℕ_set}
use Rattle.cw_model.specs.Trees.{Tree}
use Rattle.cw_greedy.specs.declared.code.Code as greedy
use Rattle.cw_greedy.specs.declared.code.Code.TheVariants as codes
use Rattle.cw_model.specs.declared.limits.TheConstants.{MOST_STRANDS}
use Rattle.cw_greedy.specs.Recorded.{Recorded, capped}
use Rattle.cw_greedy.specs.Records.{merged}
use Rattle.cw_greedy.specs.Blocks.{AsChild, codes_of, strand_count}
use Rattle.cw_greedy.specs.Recording.{IsKept}

-- the number of a code
abbrev pub number_of : greedy.Code → ℕ
number_of codes.Ended = 0
number_of codes.Joined = 1
number_of codes.Called = 2
number_of (codes.Spawned false) = 3
number_of (codes.Spawned true) = 4
number_of (codes.Instructions n) = suc (suc (suc (suc (suc n))))

abbrev code_at : ℕ → greedy.Code
code_at zero = codes.Ended
code_at (suc zero) = codes.Joined
code_at (suc (suc zero)) = codes.Called
code_at (suc (suc (suc zero))) = codes.Spawned false
code_at (suc (suc (suc (suc zero)))) = codes.Spawned true
code_at (suc (suc (suc (suc (suc n))))) = codes.Instructions n

numbered : (c : greedy.Code) → code_at (number_of c) ≡ c
numbered codes.Ended = refl
numbered codes.Joined = refl
numbered codes.Called = refl
numbered (codes.Spawned false) = refl
numbered (codes.Spawned true) = refl
numbered (codes.Instructions n) = refl

-- two lists have the same codes in order
abbrev pub AreSameCodes : (a b : List greedy.Code) → Type 0
AreSameCodes [] [] = Unit {0}
AreSameCodes [] (d ∷ b) = ⊥
AreSameCodes (c ∷ a) [] = ⊥
AreSameCodes (c ∷ a) (d ∷ b) = (number_of c ≡ number_of d) × AreSameCodes a b

same_codes_prop : (a b : List greedy.Code) → IsProp (AreSameCodes a b)
same_codes_prop [] [] = hlevel le_prop
same_codes_prop [] (d ∷ b) = hlevel le_prop
same_codes_prop (c ∷ a) [] = hlevel le_prop
same_codes_prop (c ∷ a) (d ∷ b) = let rest = same_codes_prop a b in hlevel (ℕ_set, rest)

codes_are : (a b : List greedy.Code) → AreSameCodes a b → a ≡ b
codes_are [] [] h = refl
codes_are [] (d ∷ b) h = absurd h
codes_are (c ∷ a) [] h = absurd h
codes_are (c ∷ a) (d ∷ b) h = ap (λ x. x ∷ a) (sym (numbered c) ∙ ap code_at h.0 ∙ numbered d) ∙ ap (λ l. d ∷ l) (codes_are a b h.1)

codes_as : (a b : List greedy.Code) → a ≡ b → AreSameCodes a b
codes_as a b e = subst (AreSameCodes a) e (itself a)
  where
    itself : (a : List greedy.Code) → AreSameCodes a a
    itself [] = tt
    itself (c ∷ a) = (refl, itself a)

-- the record of the strands of a tree
abbrev pub KeepsStrands : Recorded → Tree → Type 0
KeepsStrands (Err n) t = (MOST_STRANDS < strand_count t) × (capped (1 + n) ≡ capped (strand_count t))
KeepsStrands (Ok kept) t = (strand_count t ≤ MOST_STRANDS) × AreSameCodes (merged kept) (merged (codes_of AsChild t))

pub strands_prop : (kept : Recorded) (t : Tree) → IsProp (KeepsStrands kept t)
strands_prop (Err n) t = hlevel (le_prop, ℕ_set)
strands_prop (Ok kept) t = let same = same_codes_prop (merged kept) (merged (codes_of AsChild t)) in hlevel (le_prop, same)

pub kept_is : (kept : Recorded) (t : Tree) → KeepsStrands kept t → IsKept t kept
kept_is (Err n) t h = h
kept_is (Ok kept) t h = (h.0, codes_are (merged kept) (merged (codes_of AsChild t)) h.1)

pub kept_as : (kept : Recorded) (t : Tree) → IsKept t kept → KeepsStrands kept t
kept_as (Err n) t h = h
kept_as (Ok kept) t h = (h.0, codes_as (merged kept) (merged (codes_of AsChild t)) h.1)
