-- The aligned text of a report, which is made from its CSV text.
use Rattle.std.specs.Prelude.{ℕ, zero, suc, ◌+◌, ◌-◌, ◌/◌, ◌%◌, ◌==◌, nat_le, max, if◌then◌else◌}
use Rattle.std.specs.Prelude.{List, [], ◌∷◌, ◌++◌, length, replicate, map, take, drop, flat_map, codes, decimal}
use Rattle.std.specs.List.{position_or_len}
use Rattle.cw_model.specs.declared.limits.TheConstants.{MOST_LIMIT}
use Rattle.cw_model.specs.Pieces.{decimal_value}
use Rattle.cw_model.specs.Report.{end_of_line}
use Rattle.cw_report.specs.declared.column.Column.{Column}
use Rattle.cw_report.specs.declared.column.Column.TheVariants as column
use Rattle.cw_report.specs.Speedups.{ratio}

-- ---- the fields of a CSV text

-- a line with one more byte at its front; bytes that no LF ends are no line
abbrev pub onto_line : ℕ → List (List ℕ) → List (List ℕ)
onto_line c [] = []
onto_line c (line ∷ lines) = (c ∷ line) ∷ lines

-- the lines of a text, without the LF that ends each
abbrev pub lines_of : List ℕ → List (List ℕ)
lines_of [] = []
lines_of (c ∷ cs) = if c == 10 then [] ∷ lines_of cs else onto_line c (lines_of cs)

-- a field of a CSV line that has no quotes, counted from 0; it is empty if the line has fewer fields
abbrev pub field : ℕ → List ℕ → List ℕ
field n [] = []
field zero (c ∷ cs) = if c == 44 then [] else c ∷ field zero cs
field (suc n) (c ∷ cs) = if c == 44 then field n cs else field (suc n) cs

-- ---- cells

-- a word; the whole run has no name
abbrev pub word : List ℕ → List ℕ
word [] = codes "(program)"
word text = text

-- digits with a comma after each that 3, 6, 9, .. digits follow
abbrev pub separated : List ℕ → List ℕ
separated [] = []
separated (d ∷ []) = d ∷ []
separated (d ∷ e ∷ ds) =
    if length (e ∷ ds) % 3 == 0 then d ∷ 44 ∷ separated (e ∷ ds) else d ∷ separated (e ∷ ds)

-- a number, separated up to its decimal point
abbrev pub number : List ℕ → List ℕ
number [] = codes "-"
number text =
    let point = position_or_len (λ c. c == 46) text in
    separated (take point text) ++ drop point text

-- the value of the digits of a count; no run counts more than its limit
abbrev pub count : List ℕ → ℕ
count digits = if nat_le (decimal_value digits) MOST_LIMIT then decimal_value digits else 0

-- `n` tenths, as a decimal number
abbrev pub tenths : ℕ → List ℕ
tenths n = decimal (n / 10) ++ (codes "." ++ (48 + n % 10) ∷ [])

-- the share of a part in percent, rounded down to tenths
abbrev pub percent : (part whole : ℕ) → List ℕ
percent part whole = tenths (ratio part whole)

-- the share that a count has of another, from their digits
abbrev pub share : (part whole : List ℕ) → List ℕ
share part whole = percent (count part) (count whole)

-- the cell of a column in a row, the line of the row, if `first` is the line of the first row
abbrev pub cell : (first : List ℕ) → Column → (line : List ℕ) → List ℕ
cell first (column.Word n) line = word (field n line)
cell first (column.Label n) line = field n line
cell first (column.Number n) line = number (field n line)
cell first (column.OfWork n whole) line = share (field n line) (field whole first)
cell first (column.OfSpan n whole) line = share (field n line) (field whole first)

-- the title of a column, if this line has the names of the fields
abbrev pub title : Column → (names : List ℕ) → List ℕ
title (column.Word n) names = field n names
title (column.Label n) names = field n names
title (column.Number n) names = field n names
title (column.OfWork n whole) names = codes "% work"
title (column.OfSpan n whole) names = codes "% span"

-- ---- the layout

-- words are flush left and numbers flush right
abbrev pub padded : Column → (width : ℕ) → List ℕ → List ℕ
padded (column.Word n) width text = text ++ replicate (width - length text) 32
padded _ width text = replicate (width - length text) 32 ++ text

-- cells with two spaces between them, and LF
abbrev pub row_of : List (List ℕ) → List ℕ
row_of [] = end_of_line
row_of (first ∷ cells) = first ++ (flat_map (λ c. codes "  " ++ c) cells ++ end_of_line)

-- the line of the first row, if there are rows
abbrev pub first_of : List (List ℕ) → List ℕ
first_of [] = []
first_of (line ∷ lines) = line

-- the length of a column's longest cell
abbrev pub longest : (first : List ℕ) → Column → List (List ℕ) → ℕ
longest first column [] = 0
longest first column (line ∷ lines) = max (length (cell first column line)) (longest first column lines)

-- a table of these rows, with the names of their fields
module _ (names : List ℕ) (rows : List (List ℕ)) where
  -- the width of a column: the length of its title or of its longest cell
  abbrev pub width : Column → ℕ
  width column = max (length (title column names)) (longest (first_of rows) column rows)

  -- the line of titles
  abbrev pub title_line : List Column → List ℕ
  title_line columns = row_of (map (λ c. padded c (width c) (title c names)) columns)

  -- the line of a row
  abbrev pub row_line : List Column → List ℕ → List ℕ
  row_line columns line = row_of (map (λ c. padded c (width c) (cell (first_of rows) c line)) columns)

-- the table of lines, of which the first has the names of the fields; nothing if there are no lines
abbrev pub table : List Column → List (List ℕ) → List ℕ
table columns [] = []
table columns (names ∷ rows) = title_line names rows columns ++ flat_map (row_line names rows columns) rows

-- the aligned text of a CSV text
abbrev pub aligned : List Column → List ℕ → List ℕ
aligned columns csv = table columns (lines_of csv)
