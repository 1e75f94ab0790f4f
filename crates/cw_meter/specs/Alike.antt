-- Runs so far whose trees differ only in their grouping: one may have a part that joined at its end, or a join with
-- nothing to join.
use Rattle.std.specs.Prelude.{◌≡◌, List, [], ◌∷◌, ◌++◌}
use Rattle.cw_model.specs.Trees.{Event, parts_of}
use Rattle.cw_model.specs.TreeLaws.{Regrouped}
use Rattle.cw_measure.specs.OpenParts.{Open, has_spawned, no_joins}

-- the events up to the first join, and the events after it, have trees that differ only in their grouping
abbrev pub SameParts : List Event → List Event → Type 0
SameParts es fs = Regrouped (parts_of es).0 (parts_of fs).0 × Regrouped (parts_of es).1 (parts_of fs).1

-- two lists of events of a block are alike: with any events after them, the parts of their trees differ only in their
-- grouping; both have spawned since their last join, or neither has, and so both have joined or neither has
pub record AreAlike (es fs : List Event) : Type 0 where
  pub parts : (more : List Event) → SameParts (es ++ more) (fs ++ more)
  pub spawned : has_spawned es ≡ has_spawned fs
  pub joins : no_joins es ≡ no_joins fs

-- the same parts are open, each in a block of events that are alike
abbrev pub AreOpenAlike : List Open → List Open → Type 0
AreOpenAlike [] [] = Unit {0}
AreOpenAlike [] (p ∷ ps) = ⊥
AreOpenAlike (o ∷ os) [] = ⊥
AreOpenAlike (o ∷ os) (p ∷ ps) =
    (o.spawned ≡ p.spawned) × (o.mark ≡ p.mark) × AreAlike o.outer p.outer × AreOpenAlike os ps
