-- The measures of a region tag over a run so far.
use Rattle.std.specs.Prelude.{◌≡◌, ℕ, ◌+◌, ◌-◌, ◌^◌, ◌<◌, ◌≤◌, ◌==◌, Bool, true, false, length, if◌then◌else◌}
use Rattle.std.specs.Prelude.{slice_index_or}
use Rattle.cw_regions.specs.declared.rows.Row.{Row}
use Rattle.cw_regions.specs.declared.rows.RowsByTag.{RowsByTag}
use Rattle.cw_measure.specs.Outermost.{unless_open, Tally}

-- the row of a tag that is never executed
abbrev pub zero_row : Row
zero_row = record { work = 0; span = 0; burdened = 0; active = 0; at_work = 0; at_path = 0; at_burdened = 0 }

-- the row of a tag; zeros if there is none
abbrev pub row_of : RowsByTag → ℕ → Row
row_of rows tag = slice_index_or rows.by_tag.items tag zero_row

-- an execution begins, at this work and on a path of this weight
abbrev pub entered_at : (first : Bool) → (count span burdened : ℕ) → Row → Row
entered_at true count span burdened r =
    record {
      work = r.work;
      span = r.span;
      burdened = r.burdened;
      active = r.active + 1;
      at_work = count;
      at_path = span;
      at_burdened = burdened;
    }
entered_at false count span burdened r =
    record {
      work = r.work;
      span = r.span;
      burdened = r.burdened;
      active = r.active + 1;
      at_work = r.at_work;
      at_path = r.at_path;
      at_burdened = r.at_burdened;
    }

-- an execution begins; the first open one sets the start
abbrev pub entered : (count span burdened : ℕ) → Row → Row
entered count span burdened r = entered_at (r.active == 0) count span burdened r

-- an execution ends; only the outermost one is added to the sums
abbrev pub left_at : (last : Bool) → (count span burdened : ℕ) → Row → Row
left_at true count span burdened r =
    record {
      work = r.work + (count - r.at_work);
      span = r.span + (span - r.at_path);
      burdened = r.burdened + (burdened - r.at_burdened);
      active = r.active - 1;
      at_work = r.at_work;
      at_path = r.at_path;
      at_burdened = r.at_burdened;
    }
left_at false count span burdened r =
    record {
      work = r.work;
      span = r.span;
      burdened = r.burdened;
      active = r.active - 1;
      at_work = r.at_work;
      at_path = r.at_path;
      at_burdened = r.at_burdened;
    }

-- an execution ends; if no other execution of its tag is open, its measures are added to the sums
abbrev pub left : (count span burdened : ℕ) → Row → Row
left count span burdened r = left_at (r.active == 1) count span burdened r

-- the tally of the work in a row
abbrev pub work_tally : Row → Tally
work_tally r = record { sum = r.work; active = r.active; began = r.at_work }

-- the tally of the span in a row
abbrev pub span_tally : Row → Tally
span_tally r = record { sum = r.span; active = r.active; began = r.at_path }

-- the tally of the burdened span in a row
abbrev pub burdened_tally : Row → Tally
burdened_tally r = record { sum = r.burdened; active = r.active; began = r.at_burdened }

-- the sums of a row fit their types
pub record FitsRow (r : Row) : Type 0 where
  pub work : r.work < 2 ^ 64
  pub span : r.span < 2 ^ 64
  pub burdened : r.burdened < 2 ^ 128
  pub active : r.active < 2 ^ 64

-- the row is `wanted`, if its sums fit
abbrev pub IsWhereItFits : (wanted row : Row) → Type 0
IsWhereItFits wanted row = FitsRow wanted → row ≡ wanted

-- the sum of a row and the row of a piece that was executed separately and has no open execution; if executions are
-- open around the piece, its executions are inside them
abbrev pub summed : Row → Row → Row
summed a b =
    record {
      work = a.work + unless_open a.active b.work;
      span = a.span + unless_open a.active b.span;
      burdened = a.burdened + unless_open a.active b.burdened;
      active = a.active;
      at_work = a.at_work;
      at_path = a.at_path;
      at_burdened = a.at_burdened;
    }

-- the sum of both rows, with the piece's row as first argument
abbrev pub under : Row → Row → Row
under piece ours = summed ours piece

-- each of the shorter rows is added to the longer ones, and the further ones are unchanged
pub record AddsEach (add : Row → Row → Row) (longer shorter new : RowsByTag) : Type 0 where
  pub within : (q : ℕ) → q < length shorter.by_tag.items → FitsRow (add (row_of longer q) (row_of shorter q))
      → row_of new q ≡ add (row_of longer q) (row_of shorter q)
  pub beyond : (q : ℕ) → length shorter.by_tag.items ≤ q → row_of new q ≡ row_of longer q

-- two rows have equal readings: the same sums, the same number of open executions and, if one is open, the same start
pub record IsReadAs (row other : Row) : Type 0 where
  pub work : row.work ≡ other.work
  pub span : row.span ≡ other.span
  pub burdened : row.burdened ≡ other.burdened
  pub active : row.active ≡ other.active
  pub at_work : 0 < other.active → row.at_work ≡ other.at_work
  pub at_path : 0 < other.active → row.at_path ≡ other.at_path
  pub at_burdened : 0 < other.active → row.at_burdened ≡ other.at_burdened

-- each row whose sums fit has the readings of our row with the piece's sums, if the piece has no open execution
abbrev pub JoinsRows : RowsByTag → (piece : RowsByTag) → RowsByTag → Type 0
JoinsRows old piece new =
    (q : ℕ) → FitsRow (summed (row_of old q) (row_of piece q)) → (row_of piece q).active ≡ 0
    → IsReadAs (row_of new q) (summed (row_of old q) (row_of piece q))

-- the row of one tag becomes this row, if its sums fit
abbrev pub Becomes : (Row → Row) → RowsByTag → RowsByTag → (tag : ℕ) → Type 0
Becomes f old new tag = FitsRow (f (row_of old tag)) → row_of new tag ≡ f (row_of old tag)

-- the rows of other tags are unchanged
abbrev pub OthersStay : RowsByTag → RowsByTag → (tag : ℕ) → Type 0
OthersStay old new tag = (q : ℕ) → (tag == q) ≡ false → row_of new q ≡ row_of old q

-- an execution of a tag begins, at this work and on a path of this weight
abbrev pub TagBegins : RowsByTag → RowsByTag → (tag count span burdened : ℕ) → Type 0
TagBegins old new tag count span burdened = Becomes (entered count span burdened) old new tag

-- an execution of a tag ends, at this work and on a path of this weight
abbrev pub TagEnds : RowsByTag → RowsByTag → (tag count span burdened : ℕ) → Type 0
TagEnds old new tag count span burdened = Becomes (left count span burdened) old new tag

-- the row of one tag is set, and the rows of other tags are unchanged
abbrev pub IsGiven : RowsByTag → RowsByTag → (tag : ℕ) → Row → Type 0
IsGiven old new tag row = (q : ℕ) → row_of new q ≡ (if tag == q then row else row_of old q)

-- the row of each tag is unchanged
abbrev pub SayTheSame : RowsByTag → RowsByTag → Type 0
SayTheSame old new = (q : ℕ) → row_of new q ≡ row_of old q
