-- Rows are added to a table: a row of the crate `csv` is a row of the definitions, and lines follow one another.
use Rattle.std.proofs.Common.{◌≡◌, ◌≢◌, ◌∙◌, ◌++◌, ◌≤◌, ◌==◌, ◌||◌, ◌∷◌, [], ℕ, List, Bool, true, false, length, inl, inr}
use Rattle.std.proofs.Common.{Option, Some, None, Result, Ok, Err, OnOk, refl, sym, ap, subst, append_assoc, arith}
use Rattle.std.proofs.lemmas.Bool.{cases_Bool}
use Rattle.std.proofs.lemmas.List.{append-nil}
use Rattle.std.specs.Global.{Vec}
use Rattle.std.specs.Io.KnownBytes.{Appends}
use Rattle.std.specs.List.{list_any}
use Rattle.std.specs.Result.{is_err}
use Rattle.csv.specs.Quoting.{needs_byte}
use Rattle.csv.specs.Writing.{default_writer, escaped, field_text, fields_text, is_blank, row_text}
use Rattle.csv.specs.Writing.{writer_setup, fields_written, has_written, text_written}
use Rattle.csv.specs.declared.writer.QuoteStyle.TheVariants as style
use Rattle.csv.specs.declared.writer.Writer.{Writer}
use Rattle.cw_facts.specs.Tests.{eq_of}
use Rattle.cw_model.specs.Report.{asks_for_quotes, between_quotes, csv_field, csv_line, end_of_line}
use Rattle.cw_report.specs.declared.table.Table.{Table}
use Rattle.cw_report.specs.Tables.{Adds, Holds, contents}

-- ---- one row

regrouped : (a b x y : Bool) → (a || b || (x || y) || false || false) ≡ (a || b || x || y)
regrouped true b x y = refl
regrouped false true x y = refl
regrouped false false true y = refl
regrouped false false false true = refl
regrouped false false false false = refl

asks : (c : ℕ) → needs_byte default_writer c ≡ asks_for_quotes c
asks c = regrouped (c == 44) (c == 34) (c == 13) (c == 10)

some_asks : (field : List ℕ) → list_any (needs_byte default_writer) field ≡ list_any asks_for_quotes field
some_asks [] = refl
some_asks (c ∷ cs) = rw (asks c, some_asks cs) refl

doubled : (field : List ℕ) → escaped default_writer field ≡ between_quotes field
unfolding escaped
doubled [] = refl
doubled (c ∷ cs) = elim (cases_Bool (c == 34)) [
  | inl quote ↦ rw (eq_of c 34 quote, doubled cs) refl
  | inr other ↦ rw (other, doubled cs) refl
]

field_is : (field : List ℕ) → field_text default_writer field ≡ csv_field field
field_is field = rw (some_asks field, doubled field) refl

rest_is : (fields : List (List ℕ)) → (first : List ℕ)
    → csv_line (first ∷ fields) ≡ csv_field first ++ (fields_text default_writer fields ++ end_of_line)
unfolding fields_text
rest_is [] first = refl
rest_is (next ∷ fields) first =
    let regrouped = sym (append_assoc (csv_field next) (fields_text default_writer fields) end_of_line) in
    rw (rest_is fields next, field_is next) (ap (λ l. csv_field first ++ (44 ∷ l)) regrouped)

-- a row of two fields or more
pub row_is : (fields : List (List ℕ)) → 2 ≤ length fields → row_text default_writer fields ≡ csv_line fields
unfolding is_blank
row_is [] two = absurd (omega (arith, two))
row_is (first ∷ []) two = absurd (omega (arith, two))
row_is (first ∷ next ∷ rest) two =
    rw (rest_is (next ∷ rest) first, field_is first)
    (append_assoc (csv_field first) (fields_text default_writer (next ∷ rest)) end_of_line)

-- known bytes to which bytes were appended are known
appended : (new : Option (List ℕ)) (all more : List ℕ) → Appends (Some all) new more → new ≡ Some (all ++ more)
appended None all more h = absurd h
appended (Some y) all more h = ap Some h

-- a row that was written is in the table
pub pushed : {E : Type 0} (old new : Writer (Vec ℕ)) (fields : List (List ℕ)) (r : Result (Unit {0}) E)
    → is_err r ≡ false → 2 ≤ length fields
    → OnOk r ((fields_written old ≡ 0) → (has_written old ≡ false) → ((writer_setup old).style ≢ style.NonNumeric)
    → Appends (text_written contents old) (text_written contents new) (row_text (writer_setup old) fields))
    → OnOk r (fields_written new ≡ 0) → OnOk r (has_written new ≡ false) → OnOk r (writer_setup new ≡ writer_setup old)
    → (all : List ℕ) → Holds (record { writer = old }) all → Holds (record { writer = new }) (all ++ csv_line fields)
pushed old new fields (Err e) bad two bytes ended clean setup = cc
pushed old new fields (Ok u) good two bytes ended clean setup = λ all h.
    let after = text_written contents new in
    let grown = bytes h.fields h.wrote (rw (h.setup) (λ e. cc)) in
    let by_default = subst (λ s. Appends (text_written contents old) after (row_text s fields)) h.setup grown in
    let as_defined = subst (λ l. Appends (text_written contents old) after l) (row_is fields two) by_default in
    record {
      setup = setup ∙ h.setup;
      fields = ended;
      wrote = clean;
      bytes = appended after all (csv_line fields) (subst (λ t. Appends t after (csv_line fields)) h.bytes as_defined);
    }

-- ---- several lines

-- a table whose content was known holds more now, and with what is left it will hold the whole
abbrev pub Towards : (old now : Table) (left whole : List ℕ) → Type 0
Towards old now left whole =
    (all : List ℕ) → Holds old all → (so_far : List ℕ) × Holds now so_far × (so_far ++ left ≡ all ++ whole)

-- one more line
pub onward : (old now new : Table) (line left whole : List ℕ) → Towards old now (line ++ left) whole
    → ((all : List ℕ) → Holds now all → Holds new (all ++ line))
    → Towards old new left whole
onward old now new line left whole so_far adds =
    λ all held. let (text, holds, is) = so_far all held in (text ++ line, adds text holds, append_assoc text line left ∙ is)

-- nothing is left
pub arrived : (old now : Table) (whole : List ℕ) → Towards old now [] whole
    → (all : List ℕ) → Holds old all → Holds now (all ++ whole)
arrived old now whole so_far =
    λ all held. let (text, holds, is) = so_far all held in subst (λ l. Holds now l) (sym (append-nil text) ∙ is) holds

-- a line, and then the text that follows it
pub after : {E : Type 0} (old between new : Table) (line more whole : List ℕ) (r : Result (Unit {0}) E)
    → ((all : List ℕ) → Holds old all → Holds between (all ++ line)) → Adds between new more r
    → line ++ more ≡ whole → Adds old new whole r
after old between new line more whole (Err e) first second is = tt
after old between new line more whole (Ok u) first second is =
    λ all held. subst (λ l. Holds new l) (append_assoc all line more ∙ ap (λ l. all ++ l) is) (second (all ++ line) (first all held))
