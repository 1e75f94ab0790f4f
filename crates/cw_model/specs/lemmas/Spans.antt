-- The span of a tree is at most its work.
use Rattle.std.proofs.Common.{◌≤◌, arith}
use Rattle.cw_model.specs.Trees.{Tree, Leaf, Seq, Par, Marked, work, span}

pub span_within : (t : Tree) → span t ≤ work t
span_within (Leaf k) = omega arith
span_within (Seq a b) = omega (arith, span_within a, span_within b)
span_within (Par child rest) = omega (arith, span_within child, span_within rest)
span_within (Marked mark t) = span_within t
