-- The page of a run.
use Rattle.std.specs.Prelude.{◌≡◌, ℕ, ℤ, zero, suc, ◌==◌, ◌&&◌, ◌||◌, nat_eq, nat_le, if◌then◌else◌, Bool, true, false}
use Rattle.std.specs.Prelude.{List, [], drop, codes, get_or, length, Some, Result, MatchResult}
use Rattle.cw_model.specs.declared.burden.Burden.{Burden}
use Rattle.cw_model.specs.declared.limits.TheConstants.{MOST_TOP}
use Rattle.cw_model.specs.Syntax.{Program}
use Rattle.cw_model.specs.Names.{same_name}
use Rattle.cw_model.specs.Answers.{Answer, Ended, TrappedAt, OverLimit}
use Rattle.cw_model.specs.Report as report
use Rattle.cw_model.specs.Report.{report_text}
use Rattle.cw_code.specs.Code.{Code}
use Rattle.cw_code.specs.Run.{code_serial}
use Rattle.cw_code.specs.declared.head.Head.{Head}
use Rattle.cw_machine.specs.Runs.{Runs}
use Rattle.cw_gains.specs.Gains.{Gains}
use Rattle.cw_greedy_schedule.specs.Speedups as speeds
use Rattle.cw_greedy_schedule.specs.Speedups.{SpeedsUp}
use Rattle.cw_text.specs.declared.fault.Fault.{Fault}
use Rattle.cw_text.specs.declared.fault.Fault.TheVariants as fault
use Rattle.cw_report.specs.Pages.{page_with}
use Rattle.cw_report.specs.declared.drawing.Drawn.{Drawn}
use Rattle.cw_cli.specs.Speedups.{speedup_text}
use Rattle.cw_words.specs.declared.release.TheConstants.{RELEASE}

-- the name of a source, the source, and the arguments of main
pub record Input : Type 0 where
  pub name : List ℕ
  pub source : List ℕ
  pub args : List ℤ

abbrev pub input_of : (name source : List ℕ) → List ℤ → Input
input_of name source args = record { name = name; source = source; args = args }

-- the page of a run that ended, with the reports of the same run; of another run nothing
abbrev pub page_text : Input → (top most : ℕ) → Program → Burden → Answer → List ℕ
page_text i top most program burden (Ended v lines totals t) =
    let end = Ended v lines totals t in
    page_with i.name RELEASE.now i.args burden i.source (report_text report.Run program burden end) v
    (report_text report.Scale program burden end) (speedup_text most burden end)
    (report_text (report.Gain top) program burden end) (report_text report.Sites program burden end)
page_text i top most program burden (TrappedAt trap line lines) = []
page_text i top most program burden OverLimit = []

-- where the name after the last slash of the first `n` bytes of a path begins
unfoldable pub name_start : (n : ℕ) → (path : List ℕ) → ℕ
name_start zero path = 0
name_start (suc n) path = if get_or path n 0 == 47 then suc n else name_start n path

-- the name of a file, without its folders
abbrev pub base_name : (path : List ℕ) → List ℕ
base_name path = drop (name_start (length path) path) path

-- the name of a source: the name of its file; standard input has no path, or the path `-`
abbrev pub source_name : (path : List ℕ) → List ℕ
source_name path =
    if nat_eq (length path) 0 || same_name path (codes "-") then codes "<stdin>" else base_name path

-- what a page is asked for: the arguments of main, the limit and the burden of the run, the number of functions in the
-- report of gains, and the processors up to which speedups are reported
pub record Asked : Type 0 where
  pub args : List ℤ
  pub limit : ℕ
  pub burden : Burden
  pub top : ℕ
  pub most : ℕ

abbrev pub asked_for : List ℤ → (limit : ℕ) → Burden → (top most : ℕ) → Asked
asked_for args limit burden top most =
    record { args = args; limit = limit; burden = burden; top = top; most = most }

-- the numbers of a page are in range, and the code may be run so
abbrev pub is_asked : Code → Asked → Bool
is_asked code a =
    nat_le 1 a.top && (nat_le a.top MOST_TOP && speeds.is_asked code a.args a.limit a.burden a.most)

module _ (code : Code) (heads : List Head) (a : Asked) where
  -- all results belong to the requested run
  pub record Draws (d : Drawn) : Type 0 where
    pub asked : is_asked code a ≡ true
    pub runs : Runs code a.args a.limit a.burden d.ended
    pub gains : Gains code heads a.args a.limit a.burden a.top d.gains
    pub speeds_up : SpeedsUp code a.args a.limit a.burden a.most d.speedup

  -- why there is no page
  abbrev pub IsUndrawn : Fault → Type 0
  IsUndrawn fault.Arguments = is_asked code a ≡ false
  IsUndrawn fault.OverLimit = (is_asked code a ≡ true) × (code_serial code a.args a.limit ≡ Some OverLimit)
  IsUndrawn (fault.Trap trap line output) =
      (is_asked code a ≡ true) × (code_serial code a.args a.limit ≡ Some (TrappedAt trap line output.items))
  IsUndrawn fault.Memory = Unit {0}
  IsUndrawn _ = ⊥

  -- the results that the code's meaning gives, or the fault that explains why it gives no result
  abbrev pub DrawsAsCode : Result Drawn Fault → Type 0
  DrawsAsCode r = MatchResult r Draws IsUndrawn
