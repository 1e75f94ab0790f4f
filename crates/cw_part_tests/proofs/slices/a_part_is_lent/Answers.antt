use Rattle.std.proofs.Common.{◌≡◌, ◌+◌, pos, length, replicate, Some, slice_get, slice_set, inr, ap, ◌∙◌, subst, sym, arith}
use Rattle.cw_slices.specs.Blocks.{IsIn, ins, outs, patched}
use Rattle.cw_slices.specs.lemmas.Patches.{are_in, in_ins, in_back, in_beside, length_ins}
use Rattle.cw_part_tests.proofs.slices.a_part_is_lent.Goals as goal

pub lend-part-requires-clause-there : goal.lend-part-requires-clause-there
lend-part-requires-clause-there g c = are_in c.in_ok-block.block.cells 1 2 (λ k lt. subst (λ l. IsIn l (1 + k)) (sym c.in_ok-block.ensures.0) (in_ins (replicate 4 (pos 0)) (1 + k) (omega (arith, lt))))

pub join-part-requires-after_bounds : goal.join-part-requires-after_bounds
join-part-requires-after_bounds g c κs =
    let rights = c.lend-part.ensures.rights ∙ c.in_ok-block.ensures.1 ∙ (λ i. replicate (length (c.in_ok-block.ensures.0 i)) (c.in_ok-block.ensures.2 i)) in (
      (ap (λ s. s.halved) c.lend-part.ensures.place ∙ c.in_ok-block.ensures.2, omega (arith, c.lend-part.ensures.count)),
      ((pos 0, ap (λ l. slice_get l 3) (c.lend-part.ensures.cells ∙ ap (λ l. patched 1 (outs 2) l) c.in_ok-block.ensures.0)), ap (λ l. slice_get l 3) rights),
    )

pub get-requires : goal.get-requires
get-requires g c =
    let lent = c.lend-part.ensures.cells ∙ ap (λ l. patched 1 (outs 2) l) c.in_ok-block.ensures.0 in
    let many : length c.join-part.result.0.items ≡ 2 = c.join-part.ensures.first.1 ∙ c.lend-part.ensures.count in
    let cells = c.join-part.ensures.second.0 ∙ ap (λ l. slice_set l 3 (Some (pos 9))) lent in
    record { there = subst (λ l. IsIn l 1) (sym c.give_back.ensures.cells) (in_back 1 c.join-part.result.0.items c.join-part.result.1.cells 0 (omega (arith, many, ap length cells)) (omega (arith, many))) }

pub get-requires-2 : goal.get-requires-2
get-requires-2 g c =
    let lent = c.lend-part.ensures.cells ∙ ap (λ l. patched 1 (outs 2) l) c.in_ok-block.ensures.0 in
    let many : length c.join-part.result.0.items ≡ 2 = c.join-part.ensures.first.1 ∙ c.lend-part.ensures.count in
    let cells = c.join-part.ensures.second.0 ∙ ap (λ l. slice_set l 3 (Some (pos 9))) lent in
    record { there = subst (λ l. IsIn l 2) (sym c.give_back.ensures.cells) (in_back 1 c.join-part.result.0.items c.join-part.result.1.cells 1 (omega (arith, many, ap length cells)) (omega (arith, many))) }

pub get-requires-3 : goal.get-requires-3
get-requires-3 g c =
    let lent = c.lend-part.ensures.cells ∙ ap (λ l. patched 1 (outs 2) l) c.in_ok-block.ensures.0 in
    let many : length c.join-part.result.0.items ≡ 2 = c.join-part.ensures.first.1 ∙ c.lend-part.ensures.count in
    let cells = c.join-part.ensures.second.0 ∙ ap (λ l. slice_set l 3 (Some (pos 9))) lent in let xs = c.join-part.result.0.items in
    record { there = subst (λ l. IsIn l 3) (sym c.give_back.ensures.cells) (in_beside 1 (ins xs) c.join-part.result.1.cells 3 (omega (arith, many, length_ins xs, ap length cells)) (inr (omega (arith, many, length_ins xs))) (pos 9, ap (λ l. slice_get l 3) cells)) }
