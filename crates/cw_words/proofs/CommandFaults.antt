-- The answer to words, determined by the rows of their command.
use Rattle.std.proofs.Common.{◌≡◌, sym, subst, ap, List, [], is_some}
use Rattle.std.specs.List.{All}
use Rattle.clap.specs.Words.{Row, Text, subcommand_of}
use Rattle.cw_text.specs.declared.fault.Fault.{Fault}
use Rattle.cw_text.specs.declared.fault.Fault.TheVariants as fault
use Rattle.cw_words.specs.Command.{command_line, number_rows}
use Rattle.cw_words.specs.Requests.{AreProper, AreWithin, HaveBadWord, HaveCommand, IsArgument, IsFaultUnless, IsSaidOf, NamesEdges, NamesNoCommand, faults}
use Rattle.cw_words.specs.declared.verb.Verb.{Verb}
use Rattle.cw_words.specs.declared.asked.Said.TheVariants as said
use Rattle.cw_words.proofs.Reading.{same_rows}
use Rattle.cw_words.proofs.Taken.{taken}

-- words that are accepted enter a command
pub has_command : (given : List Text) → faults given ≡ [] → NamesNoCommand (subcommand_of command_line given) → ⊥
has_command given none nothing = let t = taken given none in nothing t.0.verb t.1.rows t.1.command.1

-- words whose rows make no request contain a bad word
bad_word : (given : List Text) (m : Verb) (rows : List Row) → HaveCommand given m rows → ¬ (AreProper rows) → HaveBadWord given
bad_word given m rows h bad =
    let t = taken given h.0 in
    let read = t.1 in
    let same = same_rows given t.0.verb m read.rows rows read.command h in
    record {
      words = t.0;
      read = read;
      bad = λ understood. bad (subst AreProper same (
        ap is_some read.file_is,
        (
          subst (λ ts. All IsArgument ts) (sym read.args_are) understood.0.0,
          subst (λ ts. AreWithin number_rows ts) (sym read.numbers_are) understood.0.1,
        ),
        subst NamesEdges (sym read.edges_are) understood.1,
      ));
    }

-- a fault of the rows of a command is a fault of the words
pub fault_by_rows : (given : List Text) (m : Verb) (rows : List Row) (f : Fault) → HaveCommand given m rows → IsFaultUnless (AreProper rows) f → IsSaidOf given (said.Fault f)
fault_by_rows given m rows fault.Arguments h bad = bad_word given m rows h bad
fault_by_rows given m rows fault.Memory h bad = tt
fault_by_rows given m rows _ h bad = absurd bad
