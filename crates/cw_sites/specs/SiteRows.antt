-- The measures of a site over a run so far.
use Rattle.std.specs.Prelude.{◌≡◌, ℕ, ◌+◌, ◌-◌, ◌*◌, ◌^◌, ◌<◌, ◌≤◌, ◌==◌, Bool, true, false, List, [], ◌∷◌, length}
use Rattle.std.specs.Prelude.{if◌then◌else◌, max, slice_index_or}
use Rattle.cw_model.specs.Trees.{Tree, Event, tree_of, work, span}
use Rattle.cw_model.specs.Rows.{is_site, leaves, weight_of_site, calls_of}
use Rattle.cw_measure.specs.OpenParts.{Open, work_in}
use Rattle.cw_measure.specs.Outermost.{is_counted, one_if, unless_open, Tally, Counts}
use Rattle.cw_facts.specs.Items.{item}
use Rattle.cw_facts.specs.declared.pages.Pages.{Pages}
use Rattle.cw_sites.specs.declared.rows.Row.{Row}
use Rattle.cw_sites.specs.declared.rows.SiteEntry.{SiteEntry}
use Rattle.cw_sites.specs.declared.rows.RowsBySite.{RowsBySite}
use Rattle.cw_sites.specs.OpenPaths.{here_in, path_in}

-- the row of a site that was not met
abbrev pub zero_row : Row
zero_row = record { calls = 0; own = 0; work = 0; span = 0; active = 0; at_work = 0; at_path = 0 }

-- the entry of a site that was not met
abbrev pub none_kept : SiteEntry
none_kept = record { row = zero_row; place = 0 }

-- the entry of a site in the pages
unfoldable pub further_of : Pages SiteEntry → ℕ → SiteEntry
further_of further site = item none_kept further site

-- the entry of a site; zeros if the site was not met
abbrev pub kept_of : RowsBySite → ℕ → SiteEntry
kept_of rows site = slice_index_or rows.by_site.items site (further_of rows.further site)

-- the row of a site
abbrev pub row_of : RowsBySite → ℕ → Row
row_of rows site = (kept_of rows site).row

-- adds instructions of the site itself
abbrev pub worked : ℕ → Row → Row
worked k r =
    record {
      calls = r.calls;
      own = r.own + k;
      work = r.work;
      span = r.span;
      active = r.active;
      at_work = r.at_work;
      at_path = r.at_path;
    }

-- an invocation begins, at this work and on a path of this weight
abbrev pub entered_at : (first : Bool) → (count path : ℕ) → Row → Row
entered_at true count path r =
    record {
      calls = r.calls + 1;
      own = r.own;
      work = r.work;
      span = r.span;
      active = r.active + 1;
      at_work = count;
      at_path = path;
    }
entered_at false count path r =
    record {
      calls = r.calls + 1;
      own = r.own;
      work = r.work;
      span = r.span;
      active = r.active + 1;
      at_work = r.at_work;
      at_path = r.at_path;
    }

-- an invocation begins; the first open one sets the start
abbrev pub entered : (count path : ℕ) → Row → Row
entered count path r = entered_at (r.active == 0) count path r

-- an invocation ends; only the outermost one is added to the sums
abbrev pub left_at : (last : Bool) → (count path : ℕ) → Row → Row
left_at true count path r =
    record {
      calls = r.calls;
      own = r.own;
      work = r.work + (count - r.at_work);
      span = r.span + (path - r.at_path);
      active = r.active - 1;
      at_work = r.at_work;
      at_path = r.at_path;
    }
left_at false count path r =
    record {
      calls = r.calls;
      own = r.own;
      work = r.work;
      span = r.span;
      active = r.active - 1;
      at_work = r.at_work;
      at_path = r.at_path;
    }

-- an invocation ends; if no other invocation of its site is open, its measures are added to the sums
abbrev pub left : (count path : ℕ) → Row → Row
left count path r = left_at (r.active == 1) count path r

-- the number of invocations of a site in a run so far
abbrev pub calls_in : (site : ℕ) → List Open → List Event → ℕ
calls_in site [] es = calls_of site (tree_of es)
calls_in site (o ∷ os) es =
    calls_of site (tree_of es) + (one_if (is_counted (is_site site) o.mark) + calls_in site os o.outer)

-- the instructions of a site itself in a tree
abbrev pub own_tree : (site here : ℕ) → Tree → ℕ
own_tree site here t = weight_of_site site (leaves here t)

-- the instructions of a site itself in a run so far
abbrev pub own_in : (site base : ℕ) → List Open → List Event → ℕ
own_in site base [] es = own_tree site base (tree_of es)
own_in site base (o ∷ os) es = own_tree site (here_in base (o ∷ os)) (tree_of es) + own_in site base os o.outer

-- the tally of the work in a row
abbrev pub work_tally : Row → Tally
work_tally r = record { sum = r.work; active = r.active; began = r.at_work }

-- the tally of the span in a row
abbrev pub span_tally : Row → Tally
span_tally r = record { sum = r.span; active = r.active; began = r.at_path }

-- a row represents a run so far
pub record CountsSite (site base busy : ℕ) (os : List Open) (es : List Event) (r : Row) : Type 0 where
  pub calls_is : r.calls ≡ calls_in site os es
  pub own_is : r.own ≡ own_in site base os es
  pub work_is : Counts work work_in (is_site site) busy os es (work_tally r)
  pub span_is : Counts span (path_in site base) (is_site site) busy os es (span_tally r)

-- the sums of a row fit 64 bits
pub record FitsRow (r : Row) : Type 0 where
  pub calls : r.calls < 2 ^ 64
  pub own : r.own < 2 ^ 64
  pub work : r.work < 2 ^ 64
  pub span : r.span < 2 ^ 64
  pub active : r.active < 2 ^ 64

-- the row is `wanted`, if its sums fit
abbrev pub IsWhereItFits : (wanted row : Row) → Type 0
IsWhereItFits wanted row = FitsRow wanted → row ≡ wanted

-- the row of one site becomes this row, if its sums fit
abbrev pub Becomes : (Row → Row) → RowsBySite → RowsBySite → (site : ℕ) → Type 0
Becomes f old new site = FitsRow (f (row_of old site)) → row_of new site ≡ f (row_of old site)

-- the rows of other sites are unchanged
abbrev pub OthersStay : RowsBySite → RowsBySite → (site : ℕ) → Type 0
OthersStay old new site = (q : ℕ) → (site == q) ≡ false → row_of new q ≡ row_of old q

-- the entry of each site is unchanged
abbrev pub KeepTheSame : RowsBySite → RowsBySite → Type 0
KeepTheSame old new = (q : ℕ) → kept_of new q ≡ kept_of old q

-- this site has this entry, and the entries of other sites are unchanged
abbrev pub Keeps : RowsBySite → RowsBySite → (site : ℕ) → SiteEntry → Type 0
Keeps old new site kept = (q : ℕ) → kept_of new q ≡ (if site == q then kept else kept_of old q)

-- the sum of a row and the row of a piece that was executed separately and has no open invocation; if invocations are
-- open around the piece, its invocations are inside them
abbrev pub summed : Row → Row → Row
summed a b =
    record {
      calls = a.calls + b.calls;
      own = a.own + b.own;
      work = a.work + unless_open a.active b.work;
      span = a.span + unless_open a.active b.span;
      active = a.active;
      at_work = a.at_work;
      at_path = a.at_path;
    }

-- the sum of both rows, with the piece's row as first argument
abbrev pub under : Row → Row → Row
under piece ours = summed ours piece

-- sites below `end` have our rows with the piece's sums added, if the sums fit; the other sites have our rows
pub record JoinsBelow (piece : RowsBySite) (end : ℕ) (ours new : RowsBySite) : Type 0 where
  pub within : (q : ℕ) → q < end → FitsRow (summed (row_of ours q) (row_of piece q))
      → row_of new q ≡ summed (row_of ours q) (row_of piece q)
  pub beyond : (q : ℕ) → end ≤ q → row_of new q ≡ row_of ours q

-- if the rows of the piece's vector and those below `from` were added, those below `to` are added as well
abbrev pub JoinsOn : (piece : RowsBySite) → (from to : ℕ) → RowsBySite → RowsBySite → Type 0
JoinsOn piece from to old new =
    (ours : RowsBySite) → JoinsBelow piece (max (length piece.by_site.items) from) ours old
    → JoinsBelow piece (max (length piece.by_site.items) to) ours new

-- adds the rows of the piece's vector
abbrev pub JoinsFirsts : (piece : RowsBySite) → RowsBySite → RowsBySite → Type 0
JoinsFirsts piece old new = JoinsBelow piece (length piece.by_site.items) old new

-- adds the rows of the pages of a shelf
abbrev pub JoinsShelf : (piece : RowsBySite) → (shelf : ℕ) → RowsBySite → RowsBySite → Type 0
JoinsShelf piece shelf old new = JoinsOn piece (shelf * 256) (shelf * 256 + 256) old new

-- adds the rows of a page
abbrev pub JoinsPage : (piece : RowsBySite) → (shelf page : ℕ) → RowsBySite → RowsBySite → Type 0
JoinsPage piece shelf page old new = JoinsOn piece (shelf * 256 + page * 8) (shelf * 256 + page * 8 + 8) old new

-- if the rows of the piece's vector were added, all rows are added
abbrev pub JoinsFurther : (piece : RowsBySite) → RowsBySite → RowsBySite → Type 0
JoinsFurther piece old new =
    (ours : RowsBySite) → JoinsBelow piece (length piece.by_site.items) ours old
    → (q : ℕ) → FitsRow (summed (row_of ours q) (row_of piece q))
    → row_of new q ≡ summed (row_of ours q) (row_of piece q)

-- two rows have equal readings: the same sums, the same number of open invocations and, if one is open, the same
-- start
pub record IsReadAs (row other : Row) : Type 0 where
  pub calls : row.calls ≡ other.calls
  pub own : row.own ≡ other.own
  pub work : row.work ≡ other.work
  pub span : row.span ≡ other.span
  pub active : row.active ≡ other.active
  pub at_work : 0 < other.active → row.at_work ≡ other.at_work
  pub at_path : 0 < other.active → row.at_path ≡ other.at_path

-- each row whose sums fit has the readings of our row with the piece's sums, if the piece has no open invocation
abbrev pub JoinsRows : RowsBySite → (piece : RowsBySite) → RowsBySite → Type 0
JoinsRows old piece new =
    (q : ℕ) → FitsRow (summed (row_of old q) (row_of piece q)) → (row_of piece q).active ≡ 0
    → IsReadAs (row_of new q) (summed (row_of old q) (row_of piece q))
