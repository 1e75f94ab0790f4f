-- Sums over the outermost parts with some mark, over a run so far.
use Rattle.std.specs.Prelude.{◌≡◌, ℕ, zero, suc, ◌+◌, ◌-◌, ◌==◌, Bool, true, false, List, [], ◌∷◌, ◌++◌, Option, Some}
use Rattle.std.specs.Prelude.{None, sum_by}
use Rattle.cw_model.specs.Trees.{Mark, Marked, Tree, Event, Work, Join, tree_of}
use Rattle.cw_model.specs.Rows.{outermost}
use Rattle.cw_measure.specs.OpenParts.{Open, in_series, closed, has_spawned}

-- whether a part is counted
abbrev pub is_counted : (Mark → Bool) → Option Mark → Bool
is_counted picks None = false
is_counted picks (Some m) = picks m

-- 1 for true, 0 for false
abbrev pub one_if : Bool → ℕ
one_if true = 1
one_if false = 0

-- the number of open counted parts; `busy` is their number around the whole run
abbrev pub active_in : (picks : Mark → Bool) → (busy : ℕ) → List Open → ℕ
active_in picks busy [] = busy
active_in picks busy (o ∷ os) = one_if (is_counted picks o.mark) + active_in picks busy os

-- the sum over the outermost counted parts of a tree, if `active` counted parts are open around the tree
abbrev pub outer_sum : (Tree → ℕ) → (Mark → Bool) → (active : ℕ) → Tree → ℕ
outer_sum f picks zero t = sum_by f (outermost picks t)
outer_sum f picks (suc n) t = 0

-- the sum over the counted parts that have ended and are inside no other counted part, ended or open
abbrev pub outer_in : (Tree → ℕ) → (Mark → Bool) → (busy : ℕ) → List Open → List Event → ℕ
outer_in f picks busy [] es = outer_sum f picks busy (tree_of es)
outer_in f picks busy (o ∷ os) es =
    outer_sum f picks (active_in picks busy (o ∷ os)) (tree_of es) + outer_in f picks busy os o.outer

-- a reading: a number that is determined by a run so far
abbrev pub Reading : Type 0
Reading = List Open → List Event → ℕ

-- over a part whose block has joined, the reading grows by the measure of the part's tree
pub record Meters (f : Tree → ℕ) (read : Reading) : Type 0 where
  pub in_mark : (m : Mark) (t : Tree) → f (Marked m t) ≡ f t
  pub at_begin : (mark : Option Mark) (os : List Open) (es : List Event) → read (in_series mark es os) [] ≡ read os es
  pub at_end : (o : Open) (os : List Open) (es : List Event) → has_spawned es ≡ false
      → read (o ∷ os) es ≡ read (o ∷ os) [] + f (tree_of es)

-- `here` if this part is the outermost open counted part, `before` if an enclosing part is
abbrev pub BeganAt : (counted : Bool) → (active : ℕ) → (here before : Type 0) → Type 0
BeganAt true zero here before = here
BeganAt true (suc n) here before = before
BeganAt false n here before = before

-- the reading at the start of the outermost open counted part, over all open parts
abbrev pub Began : Reading → (Mark → Bool) → (busy : ℕ) → List Open → (began : ℕ) → Type 0
Began read picks busy [] began = Unit {0}
Began read picks busy (o ∷ os) began =
    BeganAt (is_counted picks o.mark) (active_in picks busy os) (began ≡ read (o ∷ os) [])
    (Began read picks busy os began)

-- the sum over the parts that ended, the number of open parts, and the reading at the start of the outermost open one
pub record Tally : Type 0 where
  pub sum : ℕ
  pub active : ℕ
  pub began : ℕ

-- a counted part begins at this reading
abbrev pub begun_at : (first : Bool) → (reading : ℕ) → Tally → Tally
begun_at true reading t = record { sum = t.sum; active = t.active + 1; began = reading }
begun_at false reading t = record { sum = t.sum; active = t.active + 1; began = t.began }

-- a counted part begins at this reading; if no other counted part is open, its start is recorded
abbrev pub begun : (reading : ℕ) → Tally → Tally
begun reading t = begun_at (t.active == 0) reading t

-- a counted part ends at this reading; only the outermost one is added to the sum
abbrev pub ended_at : (last : Bool) → (reading : ℕ) → Tally → Tally
ended_at true reading t = record { sum = t.sum + (reading - t.began); active = t.active - 1; began = t.began }
ended_at false reading t = record { sum = t.sum; active = t.active - 1; began = t.began }

-- a counted part ends at this reading; if no other counted part is open, its measure is added to the sum
abbrev pub ended : (reading : ℕ) → Tally → Tally
ended reading t = ended_at (t.active == 1) reading t

-- a tally represents a run so far
pub record Counts (f : Tree → ℕ) (read : Reading) (picks : Mark → Bool) (busy : ℕ) (os : List Open) (es : List Event)
    (t : Tally) : Type 0 where
  pub sum_is : t.sum ≡ outer_in f picks busy os es
  pub active_is : t.active ≡ active_in picks busy os
  pub began_is : Began read picks busy os t.began

-- each step of a run preserves the tally, for every reading and every predicate on marks
pub record TalliesAreOutermost (f : Tree → ℕ) (read : Reading) (picks : Mark → Bool) (busy : ℕ) : Type 0 where
  pub work : (os : List Open) (es : List Event) (t : Tally) (k : ℕ) → Counts f read picks busy os es t
      → Counts f read picks busy os (es ++ Work k ∷ []) t
  pub join : (os : List Open) (es : List Event) (t : Tally) → Counts f read picks busy os es t
      → Counts f read picks busy os (es ++ Join ∷ []) t
  pub other_begins : (o : Open) (os : List Open) (t : Tally) → is_counted picks o.mark ≡ false
      → Counts f read picks busy os o.outer t → Counts f read picks busy (o ∷ os) [] t
  pub other_ends : (o : Open) (os : List Open) (es : List Event) (t : Tally) → is_counted picks o.mark ≡ false
      → Counts f read picks busy (o ∷ os) es t → Counts f read picks busy os (closed o es) t
  pub begins : (o : Open) (os : List Open) (t : Tally) → is_counted picks o.mark ≡ true
      → Counts f read picks busy os o.outer t → Counts f read picks busy (o ∷ os) [] (begun (read (o ∷ os) []) t)
  pub ends : (o : Open) (os : List Open) (es : List Event) (t : Tally) → is_counted picks o.mark ≡ true
      → has_spawned es ≡ false → Counts f read picks busy (o ∷ os) es t
      → Counts f read picks busy os (closed o es) (ended (read (o ∷ os) es) t)
  pub reads : (es : List Event) (t : Tally) → busy ≡ 0 → Counts f read picks busy [] es t
      → t.sum ≡ sum_by f (outermost picks (tree_of es))

-- this number, unless counted parts are open
abbrev pub unless_at : (none : Bool) → ℕ → ℕ
unless_at true more = more
unless_at false more = 0

-- this number if no counted part is open, otherwise 0
abbrev pub unless_open : (active more : ℕ) → ℕ
unless_open active more = unless_at (active == 0) more

-- a tally, and the tally of a piece that was executed separately and has no open counted part; if counted parts are
-- open around the piece, its sum is left out, because its parts are inside them
abbrev pub joined_tally : Tally → Tally → Tally
joined_tally t u = record { sum = t.sum + unless_open t.active u.sum; active = t.active; began = t.began }

-- a piece that was executed separately does not know the parts around it; its tally is then joined as if its events
-- followed in the current block
abbrev pub PiecesTally : Type 0
PiecesTally =
    (f : Tree → ℕ) (read there : Reading) (picks : Mark → Bool) (busy : ℕ) (os : List Open) (es fs : List Event)
    (t u : Tally)
    → Counts f read picks busy os es t → Counts f there picks 0 [] fs u
    → Counts f read picks busy os (es ++ fs) (joined_tally t u)
