-- The codes of a tree divide it into the stated number of strands.
use Rattle.std.proofs.Common.{◌≡◌, ◌+◌, ◌*◌, true, false, [], ◌∷◌, ◌++◌, arith}
use Rattle.cw_model.specs.Trees.{Tree, Leaf, Seq, Par, Marked, Invocation, Execution}
use Rattle.cw_greedy.specs.declared.code.Code.TheVariants.{Ended, Joined, Called}
use Rattle.cw_greedy.specs.Recorded.{cuts}
use Rattle.cw_greedy.specs.RecordLaws.{cuts-append}
use Rattle.cw_greedy.specs.Blocks.{InSeries, AsChild, AsRest, codes_of}
use Rattle.cw_greedy.specs.Counts.{spawns_in, calls_in, joins_in, StrandsAreCounted}

mutual
  in_series : (t : Tree) → cuts (codes_of InSeries t) ≡ 2 * calls_in false t + (2 * spawns_in t + joins_in false t)
  in_series (Leaf k) = omega arith
  in_series (Seq t u) =
      omega (arith, cuts-append (codes_of InSeries t) (codes_of InSeries u), in_series t, in_series u)
  in_series (Par child rest) =
      omega (
        arith,
        cuts-append (codes_of AsChild child) (Ended ∷ (codes_of AsRest rest ++ Joined ∷ [])),
        cuts-append (codes_of AsRest rest) (Joined ∷ []),
        as_child child,
        as_rest rest,
      )
  in_series (Marked (Execution tag) t) = omega (arith, in_series t)
  in_series (Marked (Invocation site) t) = omega (arith, cuts-append (codes_of InSeries t) (Called ∷ []), in_series t)

  as_child : (t : Tree) → cuts (codes_of AsChild t) ≡ 2 * calls_in true t + (2 * spawns_in t + joins_in false t)
  as_child (Leaf k) = omega arith
  as_child (Seq t u) =
      omega (arith, cuts-append (codes_of InSeries t) (codes_of InSeries u), in_series t, in_series u)
  as_child (Par child rest) =
      omega (
        arith,
        cuts-append (codes_of AsChild child) (Ended ∷ (codes_of AsRest rest ++ Joined ∷ [])),
        cuts-append (codes_of AsRest rest) (Joined ∷ []),
        as_child child,
        as_rest rest,
      )
  as_child (Marked mark t) = omega (arith, in_series t)

  as_rest : (t : Tree) → cuts (codes_of AsRest t) ≡ 2 * calls_in false t + (2 * spawns_in t + joins_in true t)
  as_rest (Leaf k) = omega arith
  as_rest (Seq t u) =
      omega (arith, cuts-append (codes_of InSeries t) (codes_of AsRest u), in_series t, as_rest u)
  as_rest (Par child rest) =
      omega (arith, cuts-append (codes_of AsChild child) (Ended ∷ codes_of AsRest rest), as_child child, as_rest rest)
  as_rest (Marked (Execution tag) t) = omega (arith, in_series t)
  as_rest (Marked (Invocation site) t) = omega (arith, cuts-append (codes_of InSeries t) (Called ∷ []), in_series t)

pub strands_are_counted : StrandsAreCounted
strands_are_counted t = omega (arith, as_child t)
