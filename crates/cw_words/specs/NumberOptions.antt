-- The rows of the table of numbers, from the options of the code.
use Rattle.std.specs.Prelude.{ℕ, List, Option}
use Rattle.clap.specs.Words.{Row}
use Rattle.cw_words.specs.Requests.{IsNumberOf, number_text}
use Rattle.cw_words.specs.Command.{NumberRow}
use Rattle.cw_words.specs.declared.number.NumberOption.{NumberOption}

-- an option of the code as a row of the table
abbrev pub row_of : NumberOption → NumberRow
row_of o = record { name = o.name.now; least = o.least; most = o.most; usual = o.usual.now }

-- the number that the rows of a command give for an option, exactly if it is in range
abbrev pub IsGivenNumber : List Row → NumberOption → Option ℕ → Type 0
IsGivenNumber rows o n = IsNumberOf (number_text rows (row_of o)) (row_of o) n
