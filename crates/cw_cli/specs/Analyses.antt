-- What an analysis of bytes answers, and what it writes.
use Rattle.std.specs.Prelude.{◌≡◌, ◌≢◌, ◌≤◌, ◌<◌, ℕ, ℤ, Bool, List, length, Result, Err, MatchResult}
use Rattle.cw_model.specs.declared.burden.Burden.{Burden}
use Rattle.cw_model.specs.declared.limits.TheConstants.{MOST_LIMIT, MOST_BURDEN, MOST_TOP, MOST_PROCESSORS}
use Rattle.cw_model.specs.declared.trap.Trap.{Trap}
use Rattle.cw_model.specs.Syntax.{Program}
use Rattle.cw_model.specs.Meaning.{function_named}
use Rattle.cw_model.specs.Answers.{Answer, Ended, TrappedAt, OverLimit, main_name, serial_answer}
use Rattle.cw_model.specs.Report as report
use Rattle.cw_model.specs.Report.{report_text}
use Rattle.cw_text.specs.declared.fault.Fault.{Fault}
use Rattle.cw_text.specs.declared.fault.Fault.TheVariants as fault
use Rattle.cw_pool.specs.declared.run.TheConstants.{MOST_BODIES}
use Rattle.cw_report.specs.Seen.{Seen}
use Rattle.cw_report.specs.Sinks.{WritesAll, WritesPart}
use Rattle.cw_cli.specs.Schedules.{greedy_text, IsScheduledIn, HasTooManyStrands}
use Rattle.cw_cli.specs.Forms.{in_form}
use Rattle.cw_cli.specs.Speedups.{speedup_text}
use Rattle.cw_cli.specs.Pages.{Input, input_of, page_text}
use Rattle.cw_compile.specs.Sources.{Compiles, IsRejected}
use Rattle.cw_words.specs.declared.asked.Mode.{Mode}
use Rattle.cw_words.specs.declared.asked.Mode.TheVariants as mode
use Rattle.cw_words.specs.declared.asked.Options.{Options}

-- the report of an answer, in each mode, of a run of this input
abbrev pub text_in : Input → Mode → Program → (burden : Burden) → Answer → List ℕ
text_in input mode.Check program burden answer = report_text report.Check program burden answer
text_in input mode.Run program burden answer = report_text report.Run program burden answer
text_in input mode.Scale program burden answer = report_text report.Scale program burden answer
text_in input mode.Sites program burden answer = report_text report.Sites program burden answer
text_in input (mode.Gain top) program burden answer = report_text (report.Gain top) program burden answer
text_in input (mode.Greedy processors) program burden answer = greedy_text processors answer
text_in input (mode.Speedup most) program burden answer = speedup_text most burden answer
text_in input (mode.Page top most) program burden answer = page_text input top most program burden answer

-- the same as it is written: CSV, or aligned columns if the options ask for a table
abbrev pub report_in : Input → Mode → (table : Bool) → Program → (burden : Burden) → Answer → List ℕ
report_in input m table program burden answer = in_form m table (text_in input m program burden answer)

-- the numbers of processors and of listed functions that a mode has are in their ranges
abbrev pub IsModeInRange : Mode → Type 0
IsModeInRange (mode.Gain top) = (1 ≤ top) × (top ≤ MOST_TOP)
IsModeInRange (mode.Greedy processors) = (1 ≤ processors) × (processors ≤ MOST_PROCESSORS)
IsModeInRange (mode.Speedup most) = (1 ≤ most) × (most ≤ MOST_PROCESSORS)
IsModeInRange (mode.Page top most) =
    ((1 ≤ top) × (top ≤ MOST_TOP)) × ((1 ≤ most) × (most ≤ MOST_PROCESSORS))
IsModeInRange _ = Unit {0}

-- the limit and the burden are in range, and the number that a mode has
pub record AreInRange (options : Options) : Type 0 where
  pub mode : IsModeInRange options.mode
  pub some_limit : 1 ≤ options.limit
  pub limit : options.limit ≤ MOST_LIMIT
  pub burden : options.burden.charge ≤ MOST_BURDEN

-- the number of arguments is the number of main's parameters, and the options are in range
pub record MayRun (program : Program) (args : List ℤ) (options : Options) : Type 0 where
  pub count : length args ≡ length (function_named main_name program.functions).params
  pub in_range : AreInRange options

-- the bytes are a source of this program, and it may be run so
pub record IsRunOf (bytes : List ℕ) (args : List ℤ) (options : Options) (program : Program) : Type 0 where
  pub compiles : Compiles bytes program
  pub may : MayRun program args options

-- what the serial elision of a program answers within the limit
abbrev pub answer_to : Program → List ℤ → Options → Answer
answer_to program args options = serial_answer program args options.limit

-- the report of a program; the report of a check does not depend on the run, and of a trap only a run
-- writes what it printed before
abbrev pub text_of : (name bytes : List ℕ) → Program → List ℤ → Options → List ℕ
text_of name bytes program args options =
    report_in (input_of name bytes args) options.mode options.table program options.burden (answer_to program args options)

-- the bounds of the schedules that the mode computes
abbrev pub IsScheduleOf : Program → List ℤ → Options → Type 0
IsScheduleOf program args options = IsScheduledIn options.mode (answer_to program args options)

-- the run ended with a value: it neither trapped nor passed its limit
abbrev pub HasEnded : Answer → Type 0
HasEnded (Ended v lines totals tree) = Unit {0}
HasEnded _ = ⊥

-- a sink goes from one state to another
module _ {W : Type 0} (seen : W → Seen) (old new : W) where
  -- it took all of a text
  abbrev pub Took : List ℕ → Type 0
  Took text = WritesAll (seen old) (seen new) text

  -- it took a beginning of a text, and then a write failed
  abbrev pub TookPart : List ℕ → Type 0
  TookPart text = WritesPart (seen old) (seen new) text

  module _ (name bytes : List ℕ) (args : List ℤ) (options : Options) where
    -- the bytes are refused for this reason
    pub record IsRejectedFor (f : Fault) : Type 0 where
      pub refused : IsRejected bytes f
      pub untouched : new ≡ old

    -- the bytes compile, and the sink took the report
    pub record IsChecked : Type 0 where
      pub program : Program
      pub compiles : Compiles bytes program
      pub took : Took (text_of name bytes program args options)

    -- the bytes compile, and a write of the report failed
    pub record IsCheckCutShort : Type 0 where
      pub program : Program
      pub compiles : Compiles bytes program
      pub took : TookPart (text_of name bytes program args options)

    -- what must hold where a check answers this fault: nothing is run, so no fault of a run comes
    abbrev pub IsUnchecked : Fault → Type 0
    IsUnchecked fault.OverLimit = ⊥
    IsUnchecked (fault.Trap trap line printed) = ⊥
    IsUnchecked fault.Memory = new ≡ old
    IsUnchecked fault.Write = IsCheckCutShort
    IsUnchecked fault.Arguments = ⊥
    IsUnchecked f = IsRejectedFor f

    -- the program that the bytes mean ended within its limit, and the sink took its report
    pub record IsReported : Type 0 where
      pub program : Program
      pub run : IsRunOf bytes args options program
      pub ended : HasEnded (answer_to program args options)
      pub scheduled : IsScheduleOf program args options
      pub took : Took (text_of name bytes program args options)

    -- its serial elision costs more than the limit
    pub record IsOverLimit : Type 0 where
      pub program : Program
      pub run : IsRunOf bytes args options program
      pub over : answer_to program args options ≡ OverLimit
      pub untouched : new ≡ old

    -- it trapped, and the sink took the report of that: what it printed before in a run, else nothing
    pub record IsTrapped (trap : Trap) (line : ℕ) (printed : List ℤ) : Type 0 where
      pub program : Program
      pub run : IsRunOf bytes args options program
      pub trapped : answer_to program args options ≡ TrappedAt trap line printed
      pub took : Took (text_of name bytes program args options)

    -- it did not pass its limit, and a write of its report failed
    pub record IsCutShort : Type 0 where
      pub program : Program
      pub run : IsRunOf bytes args options program
      pub within : answer_to program args options ≢ OverLimit
      pub scheduled : IsScheduleOf program args options
      pub took : TookPart (text_of name bytes program args options)

    -- a schedule is asked for, and the run ended with too many strands, of which this number is reported
    pub record HasNoSchedule (told : ℕ) : Type 0 where
      pub program : Program
      pub run : IsRunOf bytes args options program
      pub many : HasTooManyStrands options.mode (answer_to program args options) told
      pub untouched : new ≡ old

    -- its main has another count of parameters, or an option is out of range
    pub record IsMisused : Type 0 where
      pub program : Program
      pub compiles : Compiles bytes program
      pub misused : ¬ (MayRun program args options)
      pub untouched : new ≡ old

    -- what must hold where a mode that runs the program answers this fault
    abbrev pub IsUnreported : Fault → Type 0
    IsUnreported fault.OverLimit = IsOverLimit
    IsUnreported (fault.Trap trap line printed) = IsTrapped trap line printed.items
    IsUnreported fault.Memory = new ≡ old
    IsUnreported fault.Write = IsCutShort
    IsUnreported fault.Arguments = IsMisused
    IsUnreported (fault.Strands told) = HasNoSchedule told
    IsUnreported f = IsRejectedFor f

    -- what a mode that runs the program answers
    abbrev pub IsRun : Result (Unit {0}) Fault → Type 0
    IsRun r = MatchResult r (λ _. IsReported) IsUnreported

    -- what an analysis in this mode answers
    abbrev pub IsAnalysedIn : Mode → Result (Unit {0}) Fault → Type 0
    IsAnalysedIn mode.Check r = MatchResult r (λ _. IsChecked) IsUnchecked
    IsAnalysedIn m r = IsRun r

    -- what an analysis answers
    abbrev pub IsAnalysed : Result (Unit {0}) Fault → Type 0
    IsAnalysed r = IsAnalysedIn options.mode r

    -- the result of an analysis by a crew of this number of bodies, which does not depend on it; a larger crew is rejected
    pub record IsAnalysedBy (bodies : ℕ) (r : Result (Unit {0}) Fault) : Type 0 where
      pub fits : bodies ≤ MOST_BODIES → IsAnalysed r
      pub refused : MOST_BODIES < bodies → r ≡ Err fault.Arguments
      pub untouched : MOST_BODIES < bodies → new ≡ old
