-- The contents of a table under construction.
use Rattle.std.specs.Prelude.{◌≡◌, ℕ, List, ◌++◌, false, Option, Some, Result, OnOk}
use Rattle.std.specs.Global.{Vec}
use Rattle.csv.specs.Writing.{default_writer, writer_setup, fields_written, has_written, text_written}
use Rattle.cw_report.specs.declared.table.Table.{Table}

-- the bytes of a text
abbrev pub contents : Vec ℕ → Option (List ℕ)
contents text = Some text.items

-- the table is between two rows, with these bytes so far
pub record Holds (table : Table) (all : List ℕ) : Type 0 where
  pub setup : writer_setup table.writer ≡ default_writer
  pub fields : fields_written table.writer ≡ 0
  pub wrote : has_written table.writer ≡ false
  pub bytes : text_written contents table.writer ≡ Some all

-- these bytes are added to a table, unless memory runs out
abbrev pub Adds : {E : Type 0} → (old new : Table) → List ℕ → Result (Unit {0}) E → Type 0
Adds old new more r = OnOk r ((all : List ℕ) → Holds old all → Holds new (all ++ more))
