-- The answer of the program for a source: an exit status, a line on standard error, and the text on standard output.
use Rattle.std.specs.Prelude.{◌≡◌, ◌≢◌, ◌<◌, ℕ, Bool, true, false, List, [], ◌++◌, ◌⊎◌, codes, string_bytes, Option, Some}
use Rattle.std.specs.Prelude.{None, Result, Ok, Err}
use Rattle.std.specs.declared.io.ErrorKind.{ErrorKind}
use Rattle.std.specs.declared.io.ErrorKind.TheVariants as kind
use Rattle.cw_text.specs.declared.fault.Fault.{Fault}
use Rattle.cw_text.specs.declared.fault.Fault.TheVariants as fault
use Rattle.cw_text.specs.Faults.{fault_status, fault_text}
use Rattle.cw_report.specs.Seen.{Seen}
use Rattle.cw_report.specs.Sinks.{WritesAll, WritesPart}
use Rattle.cw_cli.specs.Analyses.{IsAnalysedBy}
use Rattle.cw_cli.specs.Pages.{source_name}
use Rattle.cw_words.specs.declared.asked.Request.{Request}
use Rattle.cw_words.specs.declared.asked.Said.{Said}
use Rattle.cw_words.specs.declared.asked.Said.TheVariants as said

-- the exit status of a result
abbrev pub status_of : Result (Unit {0}) Fault → ℕ
status_of (Ok done) = 0
status_of (Err f) = fault_status f

-- the line of a fault
abbrev pub fault_line : Fault → List ℕ
fault_line f = fault_text f ++ codes "\n"

-- the line on standard error, if there is one
abbrev pub line_of : Result (Unit {0}) Fault → List ℕ
line_of (Ok done) = []
line_of (Err f) = fault_line f

-- the text was written to a sink, or a prefix of it before a write failed
abbrev pub TriesText : {W : Type 0} → (W → Seen) → (old new : W) → List ℕ → Type 0
TriesText seen old new text = WritesAll (seen old) (seen new) text ⊎ WritesPart (seen old) (seen new) text

-- a text was written to a sink, and after it, if it is asked for, a further one
pub record WritesMessage {E : Type 0} (seen : E → Seen) (old new : E) (explain : Bool) (text : List ℕ) : Type 0 where
  pub between : E
  pub line : TriesText seen old between text
  pub behind : List ℕ
  pub explanation : TriesText seen between new behind
  pub plain : explain ≡ false → new ≡ between

-- the line of a fault was written to standard error, and the status is its status
pub record IsFaultReport {E : Type 0} (seen : E → Seen) (old new : E) (f : Fault) (status : ℕ) : Type 0 where
  pub line : TriesText seen old new (fault_line f)
  pub status_is : status ≡ fault_status f

-- the word for a source that cannot be read was written to standard error, and after it, if it is asked for, a
-- further text
pub record IsFileAnswer {E : Type 0} (seen : E → Seen) (old new : E) (explain : Bool) (status : ℕ) : Type 0 where
  pub told : WritesMessage seen old new explain (codes "file" ++ codes "\n")
  pub status_is : status ≡ 5

-- a source cannot be opened for this reason; out of memory is reported as such
pub record IsUnreadAnswer {E : Type 0} (seen : E → Seen) (old new : E) (asked : Request) (reason : ErrorKind)
    (status : ℕ) : Type 0 where
  pub memory : reason ≡ kind.OutOfMemory → IsFaultReport seen old new fault.Memory status
  pub file : reason ≢ kind.OutOfMemory → IsFileAnswer seen old new asked.explain status

-- these are the bytes of a reader, if it reveals its bytes
abbrev pub IsReadOf : Option (List ℕ) → List ℕ → Type 0
IsReadOf None bytes = Unit {0}
IsReadOf (Some known) bytes = bytes ≡ known

-- there are bytes of the reader for which this property holds
abbrev pub OnItsBytes : Option (List ℕ) → (List ℕ → Type 0) → Type 0
OnItsBytes known P = (bytes : List ℕ) × IsReadOf known bytes × P bytes

-- two sinks, standard output and standard error, go from one state to another
module _ {W E : Type 0} (seen : W → Seen) (old new : W) (seen' : E → Seen) (old' new' : E) where
  module _ (asked : Request) (bodies reads_failed_before reads_failed_after : ℕ) (bytes : List ℕ) where
    -- a read of the source failed, or memory ran out while it was read, and nothing was written to standard output;
    -- or a crew of `bodies` bodies analysed the bytes, and the fault's line, if there is one, was written to standard
    -- error, and after it an explanation if one is asked for
    pub data IsToolAnswer : ℕ → Type 0 where
      unread : {status : ℕ} → reads_failed_before < reads_failed_after → new ≡ old
          → IsFileAnswer seen' old' new' asked.explain status → IsToolAnswer status
      starved : {status : ℕ} → new ≡ old → IsFaultReport seen' old' new' fault.Memory status → IsToolAnswer status
      analysed : (r : Result (Unit {0}) Fault) → IsAnalysedBy seen old new (source_name (string_bytes asked.file)) bytes asked.args.items asked.options bodies r
          → WritesMessage seen' old' new' asked.explain (line_of r) →
          IsToolAnswer (status_of r)

  -- the help was written to standard output; or a prefix of it, and the line of the failed write to standard error
  pub data IsHelpAnswer (text : List ℕ) (status : ℕ) : Type 0 where
    whole : WritesAll (seen old) (seen new) text → new' ≡ old' → status ≡ 0 → IsHelpAnswer text status
    cut_short : WritesPart (seen old) (seen new) text → IsFaultReport seen' old' new' fault.Write status
        → IsHelpAnswer text status

  -- the text about the words was written to standard error
  pub record IsMisuseAnswer (text : List ℕ) (status : ℕ) : Type 0 where
    pub untouched : new ≡ old
    pub text_is : TriesText seen' old' new' text
    pub status_is : status ≡ 5

  -- the line of the fault was written to standard error
  pub record IsFaultAnswer (f : Fault) (status : ℕ) : Type 0 where
    pub untouched : new ≡ old
    pub refusal : IsFaultReport seen' old' new' f status

  -- the answer if there is nothing to run: the help, a text about the words, or the line of a fault
  abbrev pub IsSaidAnswer : Said → ℕ → Type 0
  IsSaidAnswer (said.Help text) = IsHelpAnswer (string_bytes text)
  IsSaidAnswer (said.Misuse text) = IsMisuseAnswer (string_bytes text)
  IsSaidAnswer (said.Fault f) = IsFaultAnswer f

  -- the line of the fault was written to standard error, and after it a further text
  pub record IsFaultTold (f : Fault) (status : ℕ) : Type 0 where
    pub untouched : new ≡ old
    pub told : WritesMessage seen' old' new' true (fault_line f)
    pub status_is : status ≡ fault_status f

  -- the answer is like `IsSaidAnswer`, except that a fault's line is followed by its reason
  abbrev pub IsWhyAnswer : Said → ℕ → Type 0
  IsWhyAnswer (said.Help text) = IsHelpAnswer (string_bytes text)
  IsWhyAnswer (said.Misuse text) = IsMisuseAnswer (string_bytes text)
  IsWhyAnswer (said.Fault f) = IsFaultTold f
