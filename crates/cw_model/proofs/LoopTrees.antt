-- The work of a loop tree, and the depth that is always enough.
use Rattle.std.proofs.Common.{◌≡◌, ℕ, zero, suc, ◌+◌, ◌-◌, ◌*◌, ◌/◌, ◌<◌, Bool, true, false, ℤ, pos, ◌+ℤ◌, List, [], ◌∷◌, length, take, drop, arith, refl, sym, ◌∙◌, ap, length-drop}
use Rattle.std.specs.Prelude.{nat_le, if◌then◌else◌, sum_by}
use mathlib.Core.Path.{fun_ext}
use Rattle.std.proofs.lemmas.Bool.{leb-false}
use Rattle.std.proofs.lemmas.List.{length-take-le, take-append-drop}
use Rattle.std.proofs.lemmas.List.Sums.{sum_by-append, sum_by-cons}
use Rattle.cw_model.specs.Trees.{Tree, Leaf, Seq, Par, work}
use Rattle.cw_model.specs.Frames.{Frame}
use Rattle.cw_model.specs.Outcome.{Piece}
use Rattle.cw_model.specs.Loops.{leaf_start, leaf_end, node_start, node_call, node_end, halves, turns_tree, loop_tree, inner_nodes, loop_cost}
use Rattle.cw_model.specs.lemmas.LoopPieces.{leaf_piece, node_piece}
use Rattle.cw_model.proofs.Halves.{cost_at, nodes_of_leaf, nodes_of_node, cost_of_leaf, costs_of_node}

work-turns_tree : (ts : List Tree) → work (turns_tree ts) ≡ leaf_end + 11 * length ts + sum_by work ts
work-turns_tree [] = refl
work-turns_tree (t ∷ ts) = omega (arith, work-turns_tree ts, sum_by-cons work t ts)

-- the sum of a list is the sum of its two halves
sum_by-halves : (m : ℕ) (ts : List Tree) → sum_by work (take m ts) + sum_by work (drop m ts) ≡ sum_by work ts
sum_by-halves m ts = sym (sum_by-append work (take m ts) (drop m ts)) ∙ ap (λ xs. sum_by work xs) (take-append-drop m ts)

-- the work of an inner node as a sum of numbers
work_of_node : (start call end c1 c2 c s1 s2 s w1 w2 : ℕ) → start + call + end + c1 + c2 ≡ c → s1 + s2 ≡ s → w1 ≡ c1 + s1 → w2 ≡ c2 + s2 →
    start + (w1 + (call + w2) + end) ≡ c + s
work_of_node start call end c1 c2 c s1 s2 s w1 w2 e f g h = omega arith

work-loop_tree : (grain k q : ℕ) → 0 < grain → (depth : ℕ) (ts : List Tree) → length ts < depth →
    work (loop_tree depth grain k q ts) ≡ cost_at depth grain k q (length ts) + sum_by work ts
work-loop_tree grain k q some zero ts deep = absurd (omega arith)
work-loop_tree grain k q some (suc depth) ts deep = by_test (nat_le (length ts) grain) refl (work-loop_tree grain k q some depth)
  where
    by_test : (b : Bool) → nat_le (length ts) grain ≡ b →
        ((ts : List Tree) → length ts < depth → work (loop_tree depth grain k q ts) ≡ cost_at depth grain k q (length ts) + sum_by work ts) →
        work (if b then Seq (Leaf leaf_start) (turns_tree ts)
        else Seq (Leaf (node_start k q))
        (Seq (Par (loop_tree depth grain k q (take (length ts / 2) ts)) (Seq (Leaf (node_call k)) (loop_tree depth grain k q (drop (length ts / 2) ts)))) (Leaf (node_end q))))
        ≡ cost_at (suc depth) grain k q (length ts) + sum_by work ts
    by_test true e more =
        omega (arith, work-turns_tree ts, cost_of_leaf k q (length ts) (inner_nodes (suc depth) grain (length ts)) (nodes_of_leaf depth grain (length ts) e))
    by_test false e more =
        let n : ℕ = length ts in
        let many : grain < n = omega (arith, leb-false n grain e) in
        let front : length (take (n / 2) ts) ≡ n / 2 = length-take-le (n / 2) ts (omega arith) in
        let end : length (drop (n / 2) ts) ≡ n - n / 2 = length-drop (n / 2) ts in
        let first : work (loop_tree depth grain k q (take (n / 2) ts)) ≡ cost_at depth grain k q (n / 2) + sum_by work (take (n / 2) ts) =
        more (take (n / 2) ts) (omega (arith, front)) ∙ ap (λ m. cost_at depth grain k q m + sum_by work (take (n / 2) ts)) front in
        let second : work (loop_tree depth grain k q (drop (n / 2) ts)) ≡ cost_at depth grain k q (n - n / 2) + sum_by work (drop (n / 2) ts) =
        more (drop (n / 2) ts) (omega (arith, end)) ∙ ap (λ m. cost_at depth grain k q m + sum_by work (drop (n / 2) ts)) end in
        work_of_node (node_start k q) (node_call k) (node_end q) (cost_at depth grain k q (n / 2)) (cost_at depth grain k q (n - n / 2)) (cost_at (suc depth) grain k q n)
        (sum_by work (take (n / 2) ts)) (sum_by work (drop (n / 2) ts)) (sum_by work ts)
        (work (loop_tree depth grain k q (take (n / 2) ts))) (work (loop_tree depth grain k q (drop (n / 2) ts)))
        (costs_of_node k q n (inner_nodes depth grain (n / 2)) (inner_nodes depth grain (n - n / 2)) (inner_nodes (suc depth) grain n) (nodes_of_node depth grain n e))
        (sum_by-halves (n / 2) ts) first second

-- two inner nodes with equal halves are equal
same_node : (k q : ℕ) (first first' second second' : Frame → Piece Frame) (frame : Frame) (left : ℕ) →
    ((frame : Frame) (left : ℕ) → first frame left ≡ first' frame left) → ((frame : Frame) (left : ℕ) → second frame left ≡ second' frame left) →
    node_piece k q first second frame left ≡ node_piece k q first' second' frame left
same_node k q first first' second second' frame left f g =
    let e : first ≡ first' = fun_ext (λ frame. fun_ext (f frame)) in
    let h : second ≡ second' = fun_ext (λ frame. fun_ext (g frame)) in
    ap (λ p. node_piece k q p second frame left) e ∙ ap (λ p. node_piece k q first' p frame left) h

-- all depths that are large enough have the same result
same_depth : (grain k q : ℕ) → 0 < grain → (depth depth' n : ℕ) (from : ℤ) (body : ℤ → Frame → Piece Frame) (frame : Frame) (left : ℕ) → n < depth → n < depth' →
    halves depth grain k q n from body frame left ≡ halves depth' grain k q n from body frame left
same_depth grain k q some zero depth' n from body frame left deep deep' = absurd (omega arith)
same_depth grain k q some (suc depth) zero n from body frame left deep deep' = absurd (omega arith)
same_depth grain k q some (suc depth) (suc depth') n from body frame left deep deep' = by_test (nat_le n grain) refl (same_depth grain k q some depth depth')
  where
    by_test : (b : Bool) → nat_le n grain ≡ b →
        ((n : ℕ) (from : ℤ) (body : ℤ → Frame → Piece Frame) (frame : Frame) (left : ℕ) → n < depth → n < depth' →
        halves depth grain k q n from body frame left ≡ halves depth' grain k q n from body frame left) →
        (if b then leaf_piece n from body frame
        else node_piece k q (λ frame. halves depth grain k q (n / 2) from body frame) (λ frame. halves depth grain k q (n - n / 2) (from +ℤ pos (n / 2)) body frame) frame) left
        ≡ (if b then leaf_piece n from body frame
        else node_piece k q (λ frame. halves depth' grain k q (n / 2) from body frame) (λ frame. halves depth' grain k q (n - n / 2) (from +ℤ pos (n / 2)) body frame) frame) left
    by_test true e more = refl
    by_test false e more =
        let many : grain < n = omega (arith, leb-false n grain e) in
        let first : (frame : Frame) (left : ℕ) → halves depth grain k q (n / 2) from body frame left ≡ halves depth' grain k q (n / 2) from body frame left =
        λ frame left. more (n / 2) from body frame left (omega arith) (omega arith) in
        let second : (frame : Frame) (left : ℕ) → halves depth grain k q (n - n / 2) (from +ℤ pos (n / 2)) body frame left ≡ halves depth' grain k q (n - n / 2) (from +ℤ pos (n / 2)) body frame left =
        λ frame left. more (n - n / 2) (from +ℤ pos (n / 2)) body frame left (omega arith) (omega arith) in
        same_node k q (λ frame. halves depth grain k q (n / 2) from body frame) (λ frame. halves depth' grain k q (n / 2) from body frame)
        (λ frame. halves depth grain k q (n - n / 2) (from +ℤ pos (n / 2)) body frame) (λ frame. halves depth' grain k q (n - n / 2) (from +ℤ pos (n / 2)) body frame)
        frame left first second

pub loop_work : (grain k q : ℕ) (ts : List Tree) → 0 < grain → work (loop_tree (suc (length ts)) grain k q ts) ≡ loop_cost grain k q (length ts) + sum_by work ts
loop_work grain k q ts some = work-loop_tree grain k q some (suc (length ts)) ts (omega arith)

pub deep_enough : (grain k q n depth : ℕ) (from : ℤ) (body : ℤ → Frame → Piece Frame) (frame : Frame) (left : ℕ) → 0 < grain → n < depth →
    halves depth grain k q n from body frame left ≡ halves (suc n) grain k q n from body frame left
deep_enough grain k q n depth from body frame left some deep = same_depth grain k q some depth (suc n) n from body frame left deep (omega arith)
