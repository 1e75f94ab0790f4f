-- The effect of writes on the observable state of a sink.
use Rattle.std.specs.Prelude.{◌≡◌, ℕ, ◌+◌, List, ◌++◌, Option, Result, MatchResult}
use Rattle.std.specs.Io.KnownBytes.{Appends, WriteAppends}
use Rattle.cw_text.specs.declared.fault.Fault.{Fault}
use Rattle.cw_text.specs.declared.fault.Fault.TheVariants as fault
use Rattle.cw_report.specs.Counters.{CountsWrite}
use Rattle.cw_report.specs.Seen.{Seen}

-- one write of a text: the bytes that it reports to have taken were appended, and it is counted if it failed
pub record Puts {E : Type 0} (old new : Seen) (text : List ℕ) (r : Result ℕ E) : Type 0 where
  pub bytes : WriteAppends old.bytes new.bytes r text
  pub count : CountsWrite old.failures new.failures r

-- known bytes grow by the text without its remaining part `left`
abbrev pub AppendsBefore : List ℕ → Option (List ℕ) → Option (List ℕ) → List ℕ → Type 0
AppendsBefore left old new text = (done : List ℕ) × (text ≡ done ++ left) × Appends old new done

-- known bytes grow by a prefix of the text
abbrev pub AppendsPart : Option (List ℕ) → Option (List ℕ) → List ℕ → Type 0
AppendsPart old new text = (left : List ℕ) × AppendsBefore left old new text

-- the whole text was written, and no write failed
pub record WritesAll (old new : Seen) (text : List ℕ) : Type 0 where
  pub bytes : Appends old.bytes new.bytes text
  pub failed : new.failures ≡ old.failures

-- a prefix of the text was written, and then a write failed
pub record WritesPart (old new : Seen) (text : List ℕ) : Type 0 where
  pub bytes : AppendsPart old.bytes new.bytes text
  pub failed : new.failures ≡ old.failures + 1

-- the text was written, or a prefix of it before a write failed
abbrev pub Writes : {A : Type 0} → (old new : Seen) → List ℕ → Result A Fault → Type 0
Writes old new text r = MatchResult r (λ _. WritesAll old new text) (λ e. (e ≡ fault.Write) × WritesPart old new text)
