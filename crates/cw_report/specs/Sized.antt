-- The columns of an aligned table with their widths.
use Rattle.std.specs.Prelude.{◌≡◌, ℕ, Bool, true, false, List, ◌∷◌, ◌++◌, map, flat_map, max, length, codes}
use Rattle.std.specs.Borrow.{Bor}
use Rattle.std.specs.Global.{Vec}
use Rattle.cw_report.specs.declared.column.Column.{Column}
use Rattle.cw_report.specs.declared.aligned.SizedColumn.{SizedColumn}
use Rattle.cw_report.specs.Aligned.{cell, title, padded, longest, row_of, table}

-- lines as texts
abbrev pub lines_in : List (Bor (List ℕ)) → List (List ℕ)
lines_in lines = map (λ l. l.now) lines

-- the bytes are the table of these rows, with the names of their fields
abbrev pub IsTable : List Column → (names : List ℕ) → (rows : List (Bor (List ℕ))) → Vec ℕ → Type 0
IsTable columns names rows text = text.items ≡ table columns (names ∷ lines_in rows)

-- a column with its width in a table
abbrev pub sized : (names first : List ℕ) → List (List ℕ) → Column → SizedColumn
sized names first rows c = record { column = c; width = max (length (title c names)) (longest first c rows) }

-- these are the columns with their widths
abbrev pub AreSized : (names first : List ℕ) → (rows : List (Bor (List ℕ))) → List Column → Vec SizedColumn → Type 0
AreSized names first rows columns made = made.items ≡ map (sized names first (lines_in rows)) columns

-- a text as wide as its column
abbrev pub fitted : SizedColumn → List ℕ → List ℕ
fitted s text = padded s.column s.width text

-- the title of a column, or its cell
abbrev pub shown : (titled : Bool) → (first : List ℕ) → Column → (line : List ℕ) → List ℕ
shown true first column line = title column line
shown false first column line = cell first column line

-- the same, as wide as the column
abbrev pub sized_cell : (titled : Bool) → (first line : List ℕ) → SizedColumn → List ℕ
sized_cell titled first line s = fitted s (shown titled first s.column line)

-- the same after another column
abbrev pub further_cell : (titled : Bool) → (first line : List ℕ) → SizedColumn → List ℕ
further_cell titled first line s = codes "  " ++ sized_cell titled first line s

-- the cells of several further columns
abbrev pub further_cells : (titled : Bool) → (first line : List ℕ) → List SizedColumn → List ℕ
further_cells titled first line columns = flat_map (further_cell titled first line) columns

-- the line of titles, or of a row
abbrev pub sized_row : (titled : Bool) → (first line : List ℕ) → List SizedColumn → List ℕ
sized_row titled first line columns = row_of (map (sized_cell titled first line) columns)

-- the lines of rows
abbrev pub sized_rows : (first : List ℕ) → List SizedColumn → List (Bor (List ℕ)) → List ℕ
sized_rows first columns rows = flat_map (λ row. sized_row false first row.now columns) rows
