-- Events whose codes are unchanged when their tree is brought into normal form.
use Rattle.std.specs.Prelude.{zero, suc, Bool, true, false, List, [], ◌∷◌, ◌++◌}
use Rattle.cw_model.specs.Trees.{Tree, Leaf, Seq, Par, Marked, Event, Work, Series, Join, before, normal}
use Rattle.cw_model.specs.Trees as e
use Rattle.cw_measure.specs.OpenParts.{Open}
use Rattle.cw_greedy.specs.Blocks.{Position, InSeries, AsChild, AsRest, codes_of}
use Rattle.cw_greedy.specs.Origins.{Origin, Main, Rest}
use Rattle.cw_greedy.specs.Merging.{Same}

-- the position of the end of a block, or of the end of a continuation
abbrev pub stands : Bool → Position
stands true = AsRest
stands false = InSeries

-- a tree in normal form that does not merge with a part before it, and that is not a call
abbrev pub IsMore : Tree → Type 0
IsMore (Leaf zero) = ⊥
IsMore (Leaf (suc k)) = Unit {0}
IsMore (Seq t u) = Unit {0}
IsMore (Par child rest) = Unit {0}
IsMore (Marked mark t) = ⊥

-- what may follow a part: in series any tree, in a continuation a tree that does not merge with the part and is no
-- call
abbrev pub Enough : (rest : Bool) → Tree → Type 0
Enough true later = IsMore later
Enough false later = Unit {0}

-- the codes of a part precede the codes of what follows it
abbrev pub Holds : (rest : Bool) → Tree → Tree → Type 0
Holds rest t later =
    Same (codes_of (stands rest) (before t later)) (codes_of InSeries t ++ codes_of (stands rest) later)

-- the codes of a part precede the codes of every tree after it
abbrev pub IsApart : Tree → Type 0
IsApart t = (rest : Bool) (later : Tree) → Holds rest t later

-- the codes of a part precede the codes of every tree that may follow it
abbrev pub IsFollowed : Tree → Type 0
IsFollowed t = (rest : Bool) (later : Tree) → Enough rest later → Holds rest t later

-- a part may precede these events: an instruction follows it, or it needs none
abbrev pub MayPrecede : Tree → List Event → Type 0
MayPrecede t [] = IsApart t
MayPrecede t (Work zero ∷ es) = IsApart t
MayPrecede t (Work (suc k) ∷ es) = IsFollowed t
MayPrecede t (Series u ∷ es) = IsApart t
MayPrecede t (e.Fork u ∷ es) = IsApart t
MayPrecede t (Join ∷ es) = IsApart t

-- a spawned part has the codes of its normal form
abbrev pub IsChild : Tree → Type 0
IsChild t = Same (codes_of AsChild (normal t)) (codes_of AsChild t)

-- each part of these events has its codes in normal form
abbrev pub AreInNormalForm : List Event → Type 0
AreInNormalForm [] = Unit {0}
AreInNormalForm (Work k ∷ es) = AreInNormalForm es
AreInNormalForm (Series t ∷ es) = MayPrecede t es × AreInNormalForm es
AreInNormalForm (e.Fork t ∷ es) = IsChild t × AreInNormalForm es
AreInNormalForm (Join ∷ es) = AreInNormalForm es

-- each part of the events of all enclosing blocks has its codes in normal form
abbrev pub AreOpenApart : List Open → List Event → Type 0
AreOpenApart [] es = AreInNormalForm es
AreOpenApart (o ∷ os) es = AreInNormalForm es × AreOpenApart os o.outer

-- the events of a continuation, or of a run so far, have their codes in normal form; a whole run is one part, with
-- the codes of its normal form
abbrev pub AreApart : Origin → List Open → List Event → Type 0
AreApart Main [] [] = Unit {0}
AreApart Main [] (Series t ∷ es) = IsChild t
AreApart Main [] (Work k ∷ es) = Unit {0}
AreApart Main [] (e.Fork t ∷ es) = Unit {0}
AreApart Main [] (Join ∷ es) = Unit {0}
AreApart Main (o ∷ os) es = AreOpenApart (o ∷ os) es
AreApart (Rest site) os es = AreOpenApart os es
