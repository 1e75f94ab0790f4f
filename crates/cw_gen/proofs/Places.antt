-- Positions of instructions in the code.
use Rattle.std.proofs.Common.{◌≡◌, ℕ, ◌+◌, ◌<◌, ◌≤◌, List, [], ◌∷◌, ◌++◌, length, Some, ap, ◌∙◌, subst, arith, append_assoc, length-append}
use Rattle.std.specs.Prelude.{slice_get}
use Rattle.std.proofs.Math.Seq.{get_or-append_seam}
use Rattle.std.proofs.lemmas.Option.{slice_get-get_or, slice_get_within}
use Rattle.cw_code.specs.declared.code.Instr.{Instr}

-- the code contains these instructions at this place
abbrev pub HasAt : List Instr → ℕ → List Instr → Type 0
HasAt code pc [] = Unit {0}
HasAt code pc (i ∷ is) = (slice_get code pc ≡ Some i) × HasAt code (pc + 1) is

pub has_front : (code : List Instr) (pc : ℕ) (a b : List Instr) → HasAt code pc (a ++ b) → HasAt code pc a
has_front code pc [] b h = tt
has_front code pc (i ∷ a) b h = (h.0, has_front code (pc + 1) a b h.1)

pub has_back : (code : List Instr) (pc : ℕ) (a b : List Instr) → HasAt code pc (a ++ b) → HasAt code (pc + length a) b
has_back code pc [] b h = let e : pc ≡ pc + 0 = omega arith in subst (λ n. HasAt code n b) e h
has_back code pc (i ∷ a) b h =
    let e : pc + 1 + length a ≡ pc + length (i ∷ a) = omega arith in
    subst (λ n. HasAt code n b) e (has_back code (pc + 1) a b h.1)

pub has_all : (pre is post : List Instr) → HasAt (pre ++ (is ++ post)) (length pre) is
has_all pre [] post = tt
has_all pre (i ∷ is) post =
    let within : length pre < length (pre ++ i ∷ (is ++ post)) = omega (arith, length-append pre (i ∷ (is ++ post))) in
    let at = slice_get-get_or (pre ++ i ∷ (is ++ post)) (length pre) i within ∙ ap Some (get_or-append_seam pre i (is ++ post) i) in
    let n : length (pre ++ i ∷ []) ≡ length pre + 1 = omega (arith, length-append pre (i ∷ [])) in
    let rest = has_all (pre ++ i ∷ []) is post in
    let rest' = subst (λ l. HasAt l (length (pre ++ i ∷ [])) is) (append_assoc pre (i ∷ []) (is ++ post)) rest in
    (at, subst (λ m. HasAt (pre ++ i ∷ (is ++ post)) m is) n rest')

within_from : (code : List Instr) (pc : ℕ) (is : List Instr) → pc ≤ length code → HasAt code pc is → pc + length is ≤ length code
within_from code pc [] le h = omega (arith, le)
within_from code pc (i ∷ is) le h = omega (arith, within_from code (pc + 1) is (omega (arith, slice_get_within code pc i h.0)) h.1)

-- instructions of the code are not longer than the code
pub length_within : (code : List Instr) (pc : ℕ) (is : List Instr) → HasAt code pc is → length is ≤ length code
length_within code pc [] h = omega arith
length_within code pc (i ∷ is) h = omega (arith, within_from code pc (i ∷ is) (omega (arith, slice_get_within code pc i h.0)) h)
