-- The result of writing a text to a sink.
use Rattle.std.specs.Prelude.{◌≡◌, ℕ, List, Result, MatchResult}
use Rattle.cw_text.specs.declared.fault.Fault.{Fault}
use Rattle.cw_text.specs.declared.fault.Fault.TheVariants as fault
use Rattle.cw_report.specs.Seen.{Seen}
use Rattle.cw_report.specs.Sinks.{WritesAll, WritesPart}

module _ {W : Type 0} (seen : W → Seen) (old new : W) (text : List ℕ) where
  -- the outcome of a failure: if memory ran out, the sink is unchanged; if a write failed, the sink took a prefix of
  -- the text
  abbrev pub AnswersLess : Fault → Type 0
  AnswersLess fault.Memory = new ≡ old
  AnswersLess fault.Write = WritesPart (seen old) (seen new) text
  AnswersLess _ = ⊥

  -- the result is `Ok` and the sink took the whole text without a failed write, or the outcome is one of the failures
  abbrev pub AnswersText : Result (Unit {0}) Fault → Type 0
  AnswersText r = MatchResult r (λ _. WritesAll (seen old) (seen new) text) AnswersLess
