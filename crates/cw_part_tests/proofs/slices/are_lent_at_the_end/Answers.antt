use Rattle.std.proofs.Common.{◌≡◌, ◌+◌, ℤ, List, [], ◌∷◌, length, slice_get, refl, ap, ap₂, ◌∙◌, subst, arith}
use Rattle.std.proofs.lemmas.List.{nil_from_length}
use Prim.Native.Nat.{suc}
use Rattle.cw_slices.specs.Blocks.{IsIn, ins, outs, patched}
use Rattle.cw_slices.specs.lemmas.Patches.{are_in}
use Rattle.cw_part_tests.proofs.slices.are_lent_at_the_end.Goals as goal

one_of : (xs : List ℤ) → length xs ≡ 1 → (x : ℤ) × (xs ≡ x ∷ [])
one_of [] e = let e' : 0 ≡ 1 = e in absurd (omega (arith, e'))
one_of (x ∷ []) e = (x, refl)
one_of (x ∷ y ∷ xs) e = let e' : suc (suc (length xs)) ≡ 1 = e in absurd (omega (arith, e'))

pub lend-last-requires-clause-there : goal.lend-last-requires-clause-there
lend-last-requires-clause-there c =
    let cells = c.lend-end.ensures.cells ∙ ap (λ l. patched 3 (outs 0) l) c.requires.cells.2 in
    let there : IsIn c.lend-end.new.self.cells 2 = (c.requires.cells.1, ap (λ l. slice_get l 2) cells) in
    are_in c.lend-end.new.self.cells 2 1 (λ k lt. subst (λ j. IsIn c.lend-end.new.self.cells j) (let z : 2 ≡ 2 + k = omega (arith, lt) in z) there)

pub returns-clause-cells : goal.returns-clause-cells
returns-clause-cells c =
    let last = one_of c.lend-last.result.items c.lend-last.ensures.count in let end = nil_from_length c.lend-end.result.items c.lend-end.ensures.count in
    let lent = c.lend-end.ensures.cells ∙ ap (λ l. patched 3 (outs 0) l) c.requires.cells.2 in
    let both = c.lend-last.ensures.cells ∙ ap (λ l. patched 2 (outs 1) l) lent in
    let back = c.give_back.ensures.cells ∙ ap₂ (λ xs l. patched 2 (ins xs) l) last.1 both in
    (c.requires.cells.0, last.0, c.give_back-2.ensures.cells ∙ ap₂ (λ xs l. patched 3 (ins xs) l) end back)
