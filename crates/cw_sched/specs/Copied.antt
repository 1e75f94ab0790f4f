-- Copies of the answer of a run.
use Rattle.std.specs.Prelude.{◌≡◌, Option, Some, None, Result, Ok, Err}
use Rattle.indexmap.specs.IndexMap.{keys, values}
use Rattle.cw_text.specs.declared.fault.Fault.{Fault}
use Rattle.cw_text.specs.declared.fault.Fault.TheVariants as fault
use Rattle.cw_machine.specs.declared.alone.Ended as alone
use Rattle.cw_machine.specs.Runs.{tags_in}

-- two runs that ended agree: value, printed lines, totals, measures, and the rows under their numbers and tags
pub record IsSameEnd (e c : alone.Ended) : Type 0 where
  pub value : c.value ≡ e.value
  pub lines : c.lines.items ≡ e.lines.items
  pub totals : c.totals.items ≡ e.totals.items
  pub measure : c.measure ≡ e.measure
  pub numbers : keys c.sites ≡ keys e.sites
  pub sites : values c.sites ≡ values e.sites
  pub tags : tags_in c.regions ≡ tags_in e.regions
  pub regions : values c.regions ≡ values e.regions

-- a copy of the error of a run: an equal one; for a trap also memory, if there was none for the printed values
abbrev pub IsFaultCopy : Fault → Fault → Type 0
IsFaultCopy (fault.Trap code line output) (fault.Trap c l o) =
    (c ≡ code) × (l ≡ line) × (o.items ≡ output.items)
IsFaultCopy (fault.Trap code line output) fault.Memory = Unit {0}
IsFaultCopy (fault.Trap code line output) _ = ⊥
IsFaultCopy f g = g ≡ f

-- A COPY OF THE ANSWER OF A RUN: an equal one, or memory, if there was none for the copy
abbrev pub IsCopy : Result alone.Ended Fault → Result alone.Ended Fault → Type 0
IsCopy (Ok e) (Ok c) = IsSameEnd e c
IsCopy (Ok e) (Err g) = g ≡ fault.Memory
IsCopy (Err f) (Ok c) = ⊥
IsCopy (Err f) (Err g) = IsFaultCopy f g

-- there is a copy if and only if there is an answer
abbrev pub IsOptionCopy : (answer copy : Option (Result alone.Ended Fault)) → Type 0
IsOptionCopy None None = Unit {0}
IsOptionCopy (Some a) (Some c) = IsCopy a c
IsOptionCopy _ _ = ⊥
