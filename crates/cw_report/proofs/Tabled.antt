-- A table is written row by row.
use Rattle.std.proofs.Common.{◌≡◌, ◌∙◌, ◌++◌, ◌∷◌, [], ℕ, List, Bool, true, false, if◌then◌else◌, Result, Ok, Err, OnOk, map, flat_map, append_assoc, ap, ap₂, refl, sym}
use Rattle.std.specs.Prelude.{codes, is_ok}
use Rattle.std.specs.Borrow.{Bor}
use Rattle.cw_model.specs.Report.{end_of_line}
use Rattle.cw_report.specs.declared.column.Column.{Column}
use Rattle.cw_report.specs.declared.aligned.SizedColumn.{SizedColumn}
use Rattle.cw_report.specs.Aligned.{cell, first_of, padded, row_of, row_line, table, title, title_line, width}
use Rattle.cw_report.specs.Sized.{further_cell, lines_in, sized, sized_cell, sized_row, sized_rows}

-- a row is its first cell, the others and LF
pub row_is : (titled : Bool) (first line : List ℕ) (column : SizedColumn) (columns : List SizedColumn)
    → sized_row titled first line (column ∷ columns)
    ≡ sized_cell titled first line column ++ (flat_map (further_cell titled first line) columns ++ end_of_line)
row_is titled first line column columns =
    ap (λ cells. sized_cell titled first line column ++ (cells ++ end_of_line)) (further columns)
  where
    further : (all : List SizedColumn)
        → flat_map (λ c. codes "  " ++ c) (map (sized_cell titled first line) all) ≡ flat_map (further_cell titled first line) all
    further [] = refl
    further (s ∷ all) = ap (λ l. further_cell titled first line s ++ l) (further all)

-- a cell, further ones and LF
pub three_parts : {E : Type 0} (old between longer new cell cells row : List ℕ) (r : Result (Unit {0}) E)
    → between ≡ old ++ cell → longer ≡ between ++ cells → new ≡ (if is_ok r then longer ++ end_of_line else longer)
    → row ≡ cell ++ (cells ++ end_of_line) → OnOk r (new ≡ old ++ row)
three_parts old between longer new cell cells row (Err e) a b c is = tt
three_parts old between longer new cell cells row (Ok u) a b c is =
    c ∙ ap (λ l. l ++ end_of_line) (b ∙ ap (λ l. l ++ cells) a ∙ append_assoc old cell cells) ∙ append_assoc old (cell ++ cells) end_of_line
    ∙ ap (λ l. old ++ l) (append_assoc cell cells end_of_line ∙ sym is)

-- columns with widths lay out a row as the definition does
module _ (names : List ℕ) (rows : List (List ℕ)) where
  abbrev size : Column → SizedColumn
  size column = sized names (first_of rows) rows column

  titles : (all : List Column)
      → map (sized_cell true (first_of rows) names) (map size all) ≡ map (λ c. padded c (width names rows c) (title c names)) all
  titles [] = refl
  titles (c ∷ all) = ap (λ l. padded c (width names rows c) (title c names) ∷ l) (titles all)

  cells : (line : List ℕ) (all : List Column)
      → map (sized_cell false (first_of rows) line) (map size all) ≡ map (λ c. padded c (width names rows c) (cell (first_of rows) c line)) all
  cells line [] = refl
  cells line (c ∷ all) = ap (λ l. padded c (width names rows c) (cell (first_of rows) c line) ∷ l) (cells line all)

  lines : (columns : List Column) (some : List (Bor (List ℕ)))
      → sized_rows (first_of rows) (map size columns) some ≡ flat_map (row_line names rows columns) (map (λ r. r.now) some)
  lines columns [] = refl
  lines columns (row ∷ some) = ap₂ (λ l more. l ++ more) (ap row_of (cells row.now columns)) (lines columns some)

-- the line of titles and the lines of the rows are the table
pub table_is : (names first : List ℕ) (rows : List (Bor (List ℕ))) (columns : List Column) (wide items : List SizedColumn) (all : List ℕ)
    → first ≡ first_of (lines_in rows) → wide ≡ items → items ≡ map (sized names first (lines_in rows)) columns
    → all ≡ sized_row true first names wide ++ sized_rows first wide rows → all ≡ table columns (names ∷ lines_in rows)
table_is names first rows columns wide items all first_is same wide_is laid =
    let lists = lines_in rows in
    let sizes : wide ≡ map (size names lists) columns = same ∙ wide_is ∙ ap (λ f. map (sized names f lists) columns) first_is in
    let titled : sized_row true first names wide ≡ title_line names lists columns =
    ap (λ f. sized_row true f names wide) first_is ∙ ap (sized_row true (first_of lists) names) sizes ∙ ap row_of (titles names lists columns) in
    laid ∙ ap₂ (λ b f. b ++ sized_rows f wide rows) titled first_is
    ∙ ap (λ w. title_line names lists columns ++ sized_rows (first_of lists) w rows) sizes
    ∙ ap (λ l. title_line names lists columns ++ l) (lines names lists columns rows)
