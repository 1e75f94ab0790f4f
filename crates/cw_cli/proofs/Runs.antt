-- From the result of a run of code to the meaning of its program.
use Rattle.std.proofs.Common.{◌≡◌, ◌≢◌, ℕ, ℤ, Bool, true, ◌&&◌, ◌<◌, ◌≤◌, List, [], ◌∷◌, ◌++◌, length, Some, Result, Ok, Err, IsErrAnd, flat_map, map, refl, sym, ap, ap₂, ◌∙◌, subst, arith}
use Rattle.std.specs.Prelude.{nat_eq, nat_le, codes, decimal, MatchResult}
use Rattle.std.specs.Global.{Vec}
use Rattle.std.specs.List.{list_all}
use Rattle.std.proofs.lemmas.Bool.{and_parts, false≢true}
use Rattle.std.proofs.lemmas.Option.{same_Some}
use Rattle.cw_facts.specs.Tests.{eq_of, le_of, equal, at_most, both_true}
use Rattle.cw_model.specs.Ints.{fits}
use Rattle.cw_model.specs.declared.burden.Burden.{Burden}
use Rattle.cw_model.specs.declared.total.Total.{Total}
use Rattle.cw_model.specs.Burdens.{no_burden}
use Rattle.cw_model.specs.Syntax.{Program, Reducer}
use Rattle.cw_model.specs.declared.limits.TheConstants.{MOST_LIMIT, MOST_BURDEN}
use Rattle.cw_model.specs.Trees.{Tree, work, span}
use Rattle.cw_model.specs.Answers.{Answer, Ended, TrappedAt, OverLimit}
use Rattle.cw_model.specs.declared.trap.Trap.{Trap}
use Rattle.cw_model.specs.Report as report
use Rattle.cw_model.specs.Report.{check_text, csv_line, value_line, reduction_word, total_line, total_lines, report_text}
use Rattle.cw_greedy.specs.Greedy.{greedy_length}
use Rattle.cw_pool.specs.declared.run.TheConstants.{MOST_BODIES}
use Rattle.cw_greedy_schedule.specs.State.{IsWithin}
use Rattle.cw_model.specs.declared.limits.TheConstants.{MOST_PROCESSORS}
use Rattle.cw_greedy_schedule.specs.Schedules.{IsNotScheduled, Schedules, is_asked, is_counted}
use Rattle.cw_greedy_schedule.specs.Speedups as speeds
use Rattle.cw_meter.specs.Whole.{AreReadings}
use Rattle.cw_meter.specs.declared.meter.Readings.{Readings}
use Rattle.cw_code.specs.Code.{Code}
use Rattle.cw_code.specs.Run.{code_serial}
use Rattle.cw_code.specs.Fits.{main_params}
use Rattle.cw_machine.specs.Runs.{Runs, Gives, IsFailure, is_request}
use Rattle.cw_machine.specs.declared.values.Values.{Values}
use Rattle.cw_machine.specs.declared.alone.Ended as run
use Rattle.cw_text.specs.declared.fault.Fault.{Fault}
use Rattle.cw_text.specs.declared.fault.Fault.TheVariants as fault
use Rattle.cw_report.specs.Seen.{Seen}
use Rattle.cw_report.specs.Sinks.{Writes, WritesAll, WritesPart}
use Rattle.cw_report.specs.Answers.{AnswersLess}
use Rattle.cw_report.specs.Texts.{totals_text, handed_text, schedule_header, schedule_report, gain_report}
use Rattle.cw_gen.specs.Emit.{coded_reducers}
use Rattle.cw_gen.specs.Generates.{Generates}
use Rattle.cw_compile.specs.Compiled.{IsCompiled}
use Rattle.cw_compile.specs.Sources.{IsRejected}
use Rattle.cw_cli.specs.Analyses as analyses
use Rattle.cw_cli.specs.Pages.{Input, input_of}
use Rattle.cw_words.specs.declared.asked.Mode.{Mode}
use Rattle.cw_words.specs.declared.asked.Mode.TheVariants as mode
use Rattle.cw_words.specs.declared.asked.Options.{Options}
use Rattle.cw_cli.specs.Analyses.{IsModeInRange}
use Rattle.cw_cli.specs.Schedules.{AreBounded, HasTooManyStrands, IsScheduled, IsScheduledIn}
use Rattle.cw_cli.specs.Speedups.{readings_of}
use Rattle.cw_report.specs.Speedups.{speedup_report}
use Rattle.cw_report.specs.Speedups as texts
use Rattle.cw_cli.specs.Forms.{in_form}
use Rattle.cw_cli.specs.ModeTexts.{HasTables, shown_of, tables_of_mode}
use Rattle.cw_report.specs.Layouts.{gain_columns, shown, speedup_columns}
use Rattle.cw_cli.proofs.Ordered.{are_bounded}
use Rattle.cw_cli.proofs.ReportRows.{scale_is, sites_are, gains_are}
use Rattle.cw_code.specs.Heads.{head_view}
use Rattle.cw_gains.specs.Gains.{Gains, HasNumberedSites}
use Rattle.cw_code.specs.declared.head.Head as counted
use Rattle.cw_gains.specs.declared.gains.Gains as declared
use Rattle.cw_model.specs.SiteLaw.{SitesAreNumbered}
use Rattle.cw_model.specs.Sites.{call_sites, are_numbered, heads_of}

-- reducers in code, which have no line, print the same lines as the reducers of the program
coded_lines : (reducers : List Reducer) (totals : List Total) → totals_text (coded_reducers reducers) totals ≡ total_lines reducers totals
coded_lines [] totals = refl
coded_lines (r ∷ rs) [] = refl
coded_lines (r ∷ rs) (v ∷ vs) = ap (λ lines. reduction_word r.how ++ (r.name ++ (codes " = " ++ (total_line v ++ lines)))) (coded_lines rs vs)

-- the result of an analysis: whether the run ended
abbrev result_of : {V : Type 0} → Result V Fault → Result (Unit {0}) Fault
result_of (Ok e) = Ok tt
result_of (Err f) = Err f

not_over : (a : Answer) → analyses.HasEnded a → a ≡ OverLimit → ⊥
not_over a has over = subst analyses.HasEnded over has

trap_not_over : {trap : Trap} {line : ℕ} {lines : List ℤ} → TrappedAt trap line lines ≡ OverLimit → ⊥
trap_not_over e = cc

-- the report of values, for code that carries what reports show of the program
pub values_are : (program : Program) (code : Code) (burden : Burden) (e : Values) (tree : Tree) → Generates program code
    → handed_text code (Ok e) ≡ report_text report.Run program burden (Ended e.value e.lines.items e.totals.items tree)
values_are program code burden e tree g =
    ap (λ part. flat_map value_line e.lines.items ++ (part ++ (codes "return " ++ value_line e.value)))
    (ap (λ reducers. totals_text reducers e.totals.items) g.reducers ∙ coded_lines program.reducers e.totals.items)

-- the call sites of code that is compiled are numbered
pub sites_numbered : SitesAreNumbered → (bytes : List ℕ) (code : Code) → IsCompiled bytes code → HasNumberedSites code
sites_numbered law bytes code compiled =
    let source = compiled.compiles.accepted.source in
    ap (are_numbered 0) compiled.generates.sites ∙ law bytes source.tokens compiled.program source.parsed.derived

-- the report that is asked for of what is counted
report_is : (i : Input) (m : Mode) (program : Program) (code : Code) (args : List ℤ) (n : ℕ) (burden : Burden) (e : run.Ended) (r : Runs code args n burden e) → HasTables m
    → Generates program code → are_numbered 0 (call_sites program) ≡ true
    → tables_of_mode m code (Ok e) ≡ analyses.text_in i m program burden (Ended e.value e.lines.items e.totals.items r.tree)
report_is i mode.Scale program code args n burden e r has g numbered = scale_is program code burden e r.tree g.tags r.tags r.measure r.regions
report_is i mode.Sites program code args n burden e r has g numbered = sites_are program code e r.tree g.sites g.main_line numbered r.sites
report_is i _ program code args n burden e r has g numbered = absurd has

printed_is : (i : Input) (m : Mode) (program : Program) (code : Code) (burden : Burden) (trap : Trap) (line : ℕ) (lines : Vec ℤ) → HasTables m
    → tables_of_mode m code (Err (fault.Trap trap line lines)) ≡ analyses.text_in i m program burden (TrappedAt trap line lines.items)
printed_is i mode.Scale program code burden trap line lines has = refl
printed_is i mode.Sites program code burden trap line lines has = refl
printed_is i _ program code burden trap line lines has = absurd has

-- the report of a run that has no tables, for another reason than a trap, is empty
over_is : (m : Mode) (code : Code) → tables_of_mode m code (Err fault.OverLimit) ≡ []
over_is mode.Check code = refl
over_is mode.Run code = refl
over_is mode.Scale code = refl
over_is mode.Sites code = refl
over_is (mode.Gain top) code = refl
over_is (mode.Greedy processors) code = refl
over_is (mode.Speedup most) code = refl
over_is (mode.Page top most) code = refl

memory_is : (m : Mode) (code : Code) → tables_of_mode m code (Err fault.Memory) ≡ []
memory_is mode.Check code = refl
memory_is mode.Run code = refl
memory_is mode.Scale code = refl
memory_is mode.Sites code = refl
memory_is (mode.Gain top) code = refl
memory_is (mode.Greedy processors) code = refl
memory_is (mode.Speedup most) code = refl
memory_is (mode.Page top most) code = refl

arguments_are : (m : Mode) (code : Code) → tables_of_mode m code (Err fault.Arguments) ≡ []
arguments_are mode.Check code = refl
arguments_are mode.Run code = refl
arguments_are mode.Scale code = refl
arguments_are mode.Sites code = refl
arguments_are (mode.Gain top) code = refl
arguments_are (mode.Greedy processors) code = refl
arguments_are (mode.Speedup most) code = refl
arguments_are (mode.Page top most) code = refl

strands_are : (m : Mode) (code : Code) (count : ℕ) → tables_of_mode m code (Err (fault.Strands count)) ≡ []
strands_are mode.Check code count = refl
strands_are mode.Run code count = refl
strands_are mode.Scale code count = refl
strands_are mode.Sites code count = refl
strands_are (mode.Gain top) code count = refl
strands_are (mode.Greedy processors) code count = refl
strands_are (mode.Speedup most) code count = refl
strands_are (mode.Page top most) code count = refl

-- no text has no other form
no_text : (m : Mode) (table : Bool) → in_form m table [] ≡ []
no_text mode.Check table = refl
no_text mode.Run table = refl
no_text mode.Scale table = refl
no_text mode.Sites table = refl
no_text (mode.Gain top) table = refl
no_text (mode.Greedy processors) table = refl
no_text (mode.Speedup most) table = refl
no_text (mode.Page top most) table = refl

-- a mode with tables asks for no schedule
tables_in_range : (m : Mode) → HasTables m → IsModeInRange m
tables_in_range mode.Scale has = tt
tables_in_range mode.Sites has = tt
tables_in_range _ has = absurd has

tables_scheduled : (m : Mode) (a : Answer) → HasTables m → IsScheduledIn m a
tables_scheduled mode.Scale a has = tt
tables_scheduled mode.Sites a has = tt
tables_scheduled _ a has = absurd has

-- a run that trapped has no schedule to report
trap_scheduled : (m : Mode) (trap : Trap) (line : ℕ) (lines : List ℤ) → IsScheduledIn m (TrappedAt trap line lines)
trap_scheduled mode.Check trap line lines = tt
trap_scheduled mode.Run trap line lines = tt
trap_scheduled mode.Scale trap line lines = tt
trap_scheduled mode.Sites trap line lines = tt
trap_scheduled (mode.Gain top) trap line lines = tt
trap_scheduled (mode.Greedy processors) trap line lines = tt
trap_scheduled (mode.Speedup most) trap line lines = tt
trap_scheduled (mode.Page top most) trap line lines = tt

-- the row of a schedule
row_is : (p p' work work' span span' steps steps' : ℕ) → p ≡ p' → work ≡ work' → span ≡ span' → steps ≡ steps'
    → csv_line (decimal p ∷ decimal work ∷ decimal span ∷ decimal steps ∷ []) ≡ csv_line (decimal p' ∷ decimal work' ∷ decimal span' ∷ decimal steps' ∷ [])
row_is p p' work work' span span' steps steps' a b c d =
    ap (λ x. csv_line (decimal x ∷ decimal work ∷ decimal span ∷ decimal steps ∷ [])) a
    ∙ ap (λ x. csv_line (decimal p' ∷ decimal x ∷ decimal span ∷ decimal steps ∷ [])) b
    ∙ ap (λ x. csv_line (decimal p' ∷ decimal work' ∷ decimal x ∷ decimal steps ∷ [])) c
    ∙ ap (λ x. csv_line (decimal p' ∷ decimal work' ∷ decimal span' ∷ decimal x ∷ [])) d

-- the measures of a tree
pub readings_are : (burden : Burden) (m : Readings) (t : Tree) → AreReadings burden t m → m ≡ readings_of burden t
readings_are burden m t h =
    ap (λ x. record m { work = x }) h.work ∙ ap (λ x. record m { work = work t; span = x }) h.span
    ∙ ap (λ x. record m { work = work t; span = span t; burdened = x }) h.burdened

-- a sink that is unchanged counts no further failed write
no_part : {W : Type 0} (seen : W → Seen) (old new : W) (text : List ℕ) → new ≡ old → WritesPart (seen old) (seen new) text → ⊥
no_part seen old new text same part = let e : (seen new).failures ≡ (seen old).failures = ap (λ w. (seen w).failures) same in omega (arith, e, part.failed)

module _ (name bytes : List ℕ) (args : List ℤ) (words : list_all fits args ≡ true) (options : Options) (code : Code) (compiled : IsCompiled bytes code) where
  abbrev pub input : Input
  input = input_of name bytes args

  abbrev pub May : Type 0
  May = analyses.MayRun compiled.program args options

  abbrev pub answer : Answer
  answer = analyses.answer_to compiled.program args options

  -- a valid request allows the run
  pub may : (burden : Burden) → IsModeInRange options.mode → options.burden.charge ≤ MOST_BURDEN → is_request code args options.limit burden ≡ true → May
  may burden of_mode low h =
      let n = and_parts (nat_eq (length args) (main_params code)) (nat_le 1 options.limit && (nat_le options.limit MOST_LIMIT && nat_le burden.charge MOST_BURDEN)) h in
      let l = and_parts (nat_le 1 options.limit) (nat_le options.limit MOST_LIMIT && nat_le burden.charge MOST_BURDEN) n.1 in
      let b = and_parts (nat_le options.limit MOST_LIMIT) (nat_le burden.charge MOST_BURDEN) l.1 in
      record {
        count = eq_of (length args) (main_params code) n.0 ∙ compiled.generates.params;
        in_range = record { mode = of_mode; some_limit = le_of 1 options.limit l.0; limit = le_of options.limit MOST_LIMIT b.0; burden = low };
      }

  -- the burden of the options is in range if the request is valid
  burden_of : is_request code args options.limit options.burden ≡ true → options.burden.charge ≤ MOST_BURDEN
  burden_of h =
      let n = and_parts (nat_eq (length args) (main_params code)) (nat_le 1 options.limit && (nat_le options.limit MOST_LIMIT && nat_le options.burden.charge MOST_BURDEN)) h in
      let l = and_parts (nat_le 1 options.limit) (nat_le options.limit MOST_LIMIT && nat_le options.burden.charge MOST_BURDEN) n.1 in
      le_of options.burden.charge MOST_BURDEN (and_parts (nat_le options.limit MOST_LIMIT) (nat_le options.burden.charge MOST_BURDEN) l.1).1

  may_run_so : IsModeInRange options.mode → is_request code args options.limit options.burden ≡ true → May
  may_run_so of_mode h = may options.burden of_mode (burden_of h) h

  pub must : (burden : Burden) → burden.charge ≤ MOST_BURDEN → May → is_request code args options.limit burden ≡ true
  must burden low m =
      both_true (nat_eq (length args) (main_params code)) _ (equal (length args) (main_params code) (m.count ∙ sym compiled.generates.params))
      (both_true (nat_le 1 options.limit) _ (at_most 1 options.limit m.in_range.some_limit)
      (both_true (nat_le options.limit MOST_LIMIT) _ (at_most options.limit MOST_LIMIT m.in_range.limit) (at_most burden.charge MOST_BURDEN low)))

  run_of : May → analyses.IsRunOf bytes args options compiled.program
  run_of m = record { compiles = compiled.compiles; may = m }

  pub answer_is : May → (a : Answer) → code_serial code args options.limit ≡ Some a → answer ≡ a
  answer_is m a e = same_Some _ _ (sym (compiled.generates.serial args words m.count options.limit) ∙ e)

  -- the report of an answer, in the mode that is asked for
  abbrev pub report_of : Answer → List ℕ
  report_of a = analyses.report_in input options.mode options.table compiled.program options.burden a

  -- a run that ended: the meaning of its code, and its report
  pub record EndsAs (text : List ℕ) : Type 0 where
    pub may_run : May
    pub end : Answer
    pub ended : analyses.HasEnded end
    pub is : answer ≡ end
    pub scheduled : IsScheduledIn options.mode end
    pub told : text ≡ report_of end

  -- the reason why a run has no report
  abbrev pub IsUnrun : Fault → Type 0
  IsUnrun fault.OverLimit = May × (answer ≡ OverLimit)
  IsUnrun (fault.Trap trap line lines) = May × (answer ≡ TrappedAt trap line lines.items)
  IsUnrun (fault.Strands count) = May × HasTooManyStrands options.mode answer count
  IsUnrun fault.Arguments = ¬ May
  IsUnrun fault.Memory = Unit {0}
  IsUnrun _ = ⊥

  -- the text for the outcome of a run is its report
  pub record Tells {V : Type 0} (ran : V → Type 0) (failed : Fault → Type 0) (told : Result V Fault → List ℕ) : Type 0 where
    pub ended : (e : V) → ran e → EndsAs (told (Ok e))
    pub unrun : (f : Fault) → failed f → IsUnrun f
    pub printed : (trap : Trap) (line : ℕ) (lines : Vec ℤ) → told (Err (fault.Trap trap line lines)) ≡ report_of (TrappedAt trap line lines.items)
    pub over : told (Err fault.OverLimit) ≡ []
    pub memory : told (Err fault.Memory) ≡ []
    pub arguments : told (Err fault.Arguments) ≡ []
    pub strands : (count : ℕ) → told (Err (fault.Strands count)) ≡ []

  -- a run in a mode other than a schedule
  unrun_of : IsModeInRange options.mode → (f : Fault) → IsFailure code args options.limit options.burden f → IsUnrun f
  unrun_of of_mode fault.OverLimit h = let m = may_run_so of_mode h.0 in (m, answer_is m OverLimit h.1)
  unrun_of of_mode (fault.Trap trap line lines) h = let m = may_run_so of_mode h.0 in (m, answer_is m (TrappedAt trap line lines.items) h.1)
  unrun_of of_mode fault.Arguments h = λ m. false≢true (sym h ∙ must options.burden m.in_range.burden m)
  unrun_of of_mode fault.Memory h = tt
  unrun_of of_mode _ h = absurd h

  -- the values of a run
  pub values_tell : options.mode ≡ mode.Run → Tells (Gives code args options.limit options.burden) (IsFailure code args options.limit options.burden) (handed_text code)
  values_tell is =
      let of_mode : IsModeInRange options.mode = subst IsModeInRange (sym is) tt in
      record {
        ended = λ e r.
            let m = may_run_so of_mode r.asked in
            let end = Ended e.value e.lines.items e.totals.items r.tree in
            record {
              may_run = m;
              end = end;
              ended = tt;
              is = answer_is m end r.answer;
              scheduled = subst (λ k. IsScheduledIn k end) (sym is) tt;
              told = values_are compiled.program code options.burden e r.tree compiled.generates
                  ∙ ap (λ k. analyses.report_in input k options.table compiled.program options.burden end) (sym is);
            };
        unrun = unrun_of of_mode;
        printed = λ trap line lines. ap (λ k. analyses.report_in input k options.table compiled.program options.burden (TrappedAt trap line lines.items)) (sym is);
        over = refl;
        memory = refl;
        arguments = refl;
        strands = λ count. refl;
      }

  -- the measures of a run
  pub tables_tell : HasTables options.mode → SitesAreNumbered → Tells (Runs code args options.limit options.burden) (IsFailure code args options.limit options.burden) (shown_of options.mode options.table code)
  tables_tell has law =
      let source = compiled.compiles.accepted.source in
      let numbered : are_numbered 0 (call_sites compiled.program) ≡ true = law bytes source.tokens compiled.program source.parsed.derived in
      let of_mode = tables_in_range options.mode has in
      let form : List ℕ → List ℕ = in_form options.mode options.table in
      record {
        ended = λ e r.
            let m = may_run_so of_mode r.asked in
            let end = Ended e.value e.lines.items e.totals.items r.tree in
            record {
              may_run = m;
              end = end;
              ended = tt;
              is = answer_is m end r.answer;
              scheduled = tables_scheduled options.mode end has;
              told = ap form (report_is input options.mode compiled.program code args options.limit options.burden e r has compiled.generates numbered);
            };
        unrun = unrun_of of_mode;
        printed = λ trap line lines. ap form (printed_is input options.mode compiled.program code options.burden trap line lines has);
        over = ap form (over_is options.mode code) ∙ no_text options.mode options.table;
        memory = ap form (memory_is options.mode code) ∙ no_text options.mode options.table;
        arguments = ap form (arguments_are options.mode code) ∙ no_text options.mode options.table;
        strands = λ count. ap form (strands_are options.mode code count) ∙ no_text options.mode options.table;
      }

  -- the gains of functions of a run
  pub gains_tell : (heads : List counted.Head) (top : ℕ) → options.mode ≡ mode.Gain top → IsModeInRange options.mode → map head_view heads ≡ heads_of compiled.program
      → Tells (Gains code heads args options.limit options.burden top) (IsFailure code args options.limit options.burden) (λ r. shown gain_columns (gain_report r) options.table)
  gains_tell heads top is of_mode heads_are = record {
    ended = λ g r.
        let m = may_run_so of_mode r.asked in
        let end = Ended r.value r.lines r.totals r.tree in
        record {
          may_run = m;
          end = end;
          ended = tt;
          is = answer_is m end r.answer;
          scheduled = subst (λ k. IsScheduledIn k end) (sym is) tt;
          told = ap (λ csv. shown gain_columns csv options.table)
              (gains_are compiled.program code heads top options.burden g r.tree r.value r.lines r.totals heads_are compiled.generates.sites compiled.generates.main_line r.measure r.functions)
              ∙ ap (λ k. analyses.report_in input k options.table compiled.program options.burden end) (sym is);
        };
    unrun = unrun_of of_mode;
    printed = λ trap line lines. ap (λ k. analyses.report_in input k options.table compiled.program options.burden (TrappedAt trap line lines.items)) (sym is);
    over = refl;
    memory = refl;
    arguments = refl;
    strands = λ count. refl;
  }

  -- the schedule of a run on this number of processors, if the burden is in range
  module _ (p : ℕ) (is : options.mode ≡ mode.Greedy p) (low : options.burden.charge ≤ MOST_BURDEN) where
    asked_may : is_asked code args options.limit p ≡ true → May
    asked_may h =
        let counted = and_parts (is_counted p) (is_request code args options.limit no_burden) h in
        let range = and_parts (nat_le 1 p) (nat_le p MOST_PROCESSORS) counted.0 in
        let of_mode : IsModeInRange options.mode = subst IsModeInRange (sym is) (le_of 1 p range.0, le_of p MOST_PROCESSORS range.1) in
        may no_burden of_mode low counted.1

    must_ask : May → is_asked code args options.limit p ≡ true
    must_ask m =
        let range : IsModeInRange (mode.Greedy p) = subst IsModeInRange is m.in_range.mode in
        both_true (is_counted p) _ (both_true (nat_le 1 p) _ (at_most 1 p range.0) (at_most p MOST_PROCESSORS range.1)) (must no_burden (omega arith) m)

    unscheduled : (f : Fault) → IsNotScheduled code args options.limit p f → IsUnrun f
    unscheduled fault.OverLimit h = let m = asked_may h.0 in (m, answer_is m OverLimit h.1)
    unscheduled (fault.Trap trap line lines) h = let m = asked_may h.0 in (m, answer_is m (TrappedAt trap line lines.items) h.1)
    unscheduled (fault.Strands count) h =
        let m = asked_may h.asked in
        let end = Ended h.ends.value h.ends.lines h.ends.totals h.tree in
        let many : HasTooManyStrands (mode.Greedy p) end count = (h.many, h.told) in
        (m, subst (λ a. HasTooManyStrands options.mode a count) (sym (answer_is m end h.ends.answer)) (subst (λ k. HasTooManyStrands k end count) (sym is) many))
    unscheduled fault.Arguments h = λ m. false≢true (sym h ∙ must_ask m)
    unscheduled fault.Memory h = tt
    unscheduled _ h = absurd h

    pub schedule_tells : Tells (Schedules code args options.limit p) (IsNotScheduled code args options.limit p) schedule_report
    schedule_tells = record {
      ended = λ s r.
          let m = asked_may r.asked in
          let end = Ended r.ends.value r.ends.lines r.ends.totals r.tree in
          let scheduled : IsScheduled p r.tree = record { few = r.fits; bounds = subst (λ n. IsWithin p n r.tree) r.greedy r.bounds } in
          record {
            may_run = m;
            end = end;
            ended = tt;
            is = answer_is m end r.ends.answer;
            scheduled = subst (λ k. IsScheduledIn k end) (sym is) scheduled;
            told = ap (λ row. schedule_header ++ row) (row_is s.processors p s.work _ s.span _ s.greedy (greedy_length p r.tree) r.processors r.work r.span r.greedy)
                ∙ ap (λ k. analyses.report_in input k options.table compiled.program options.burden end) (sym is);
          };
      unrun = unscheduled;
      printed = λ trap line lines. ap (λ k. analyses.report_in input k options.table compiled.program options.burden (TrappedAt trap line lines.items)) (sym is);
      over = refl;
      memory = refl;
      arguments = refl;
      strands = λ count. refl;
    }

  -- speedups up to `most` processors
  module _ (most : ℕ) (is_speedup : options.mode ≡ mode.Speedup most) where
    sped_may : speeds.is_asked code args options.limit options.burden most ≡ true → May
    sped_may h =
        let whole = and_parts (is_asked code args options.limit most) (nat_le options.burden.charge MOST_BURDEN) h in
        let counted = and_parts (is_counted most) (is_request code args options.limit no_burden) whole.0 in
        let range = and_parts (nat_le 1 most) (nat_le most MOST_PROCESSORS) counted.0 in
        let of_mode : IsModeInRange options.mode = subst IsModeInRange (sym is_speedup) (le_of 1 most range.0, le_of most MOST_PROCESSORS range.1) in
        may no_burden of_mode (le_of options.burden.charge MOST_BURDEN whole.1) counted.1

    must_speed : May → speeds.is_asked code args options.limit options.burden most ≡ true
    must_speed m =
        let range : IsModeInRange (mode.Speedup most) = subst IsModeInRange is_speedup m.in_range.mode in
        both_true (is_asked code args options.limit most) _
        (both_true (is_counted most) _ (both_true (nat_le 1 most) _ (at_most 1 most range.0) (at_most most MOST_PROCESSORS range.1)) (must no_burden (omega arith) m))
        (at_most options.burden.charge MOST_BURDEN m.in_range.burden)

    unsped : (f : Fault) → speeds.IsNotSpedUp code args options.limit options.burden most f → IsUnrun f
    unsped fault.OverLimit h = let m = sped_may h.0 in (m, answer_is m OverLimit h.1)
    unsped (fault.Trap trap line lines) h = let m = sped_may h.0 in (m, answer_is m (TrappedAt trap line lines.items) h.1)
    unsped fault.Arguments h = λ m. false≢true (sym h ∙ must_speed m)
    unsped fault.Memory h = tt
    unsped _ h = absurd h

    pub speedups_tell : Tells (speeds.SpeedsUp code args options.limit options.burden most) (speeds.IsNotSpedUp code args options.limit options.burden most) (λ r. shown speedup_columns (speedup_report r) options.table)
    speedups_tell = record {
      ended = λ s r.
          let m = sped_may r.asked in
          let end = Ended r.ends.value r.ends.lines r.ends.totals r.tree in
          let bounded : AreBounded r.tree = are_bounded r.tree r.bounds in
          record {
            may_run = m;
            end = end;
            ended = tt;
            is = answer_is m end r.ends.answer;
            scheduled = subst (λ k. IsScheduledIn k end) (sym is_speedup) bounded;
            told = ap (λ csv. shown speedup_columns csv options.table) (ap₂ texts.speedup_text (readings_are options.burden s.measure r.tree r.measure) r.rows)
                ∙ ap (λ k. analyses.report_in input k options.table compiled.program options.burden end) (sym is_speedup);
          };
      unrun = unsped;
      printed = λ trap line lines. ap (λ k. analyses.report_in input k options.table compiled.program options.burden (TrappedAt trap line lines.items)) (sym is_speedup);
      over = refl;
      memory = refl;
      arguments = refl;
      strands = λ count. refl;
    }

  -- a text that is the report of the answer
  text_is : (a : Answer) (text : List ℕ) → answer ≡ a → text ≡ report_of a → text ≡ analyses.text_of name bytes compiled.program args options
  text_is a text e told = told ∙ sym (ap report_of e)

  module _ {V : Type 0} (ran : V → Type 0) (failed : Fault → Type 0) (told : Result V Fault → List ℕ) (tells : Tells ran failed told) {W : Type 0} (seen : W → Seen) (old new : W) where
    -- a run returns what the meaning of the code defines, or the reason why it does not
    abbrev RanAs : Result V Fault → Type 0
    RanAs r = MatchResult r ran failed

    scheduled_of : (e : V) (r : ran e) → analyses.IsScheduleOf compiled.program args options
    scheduled_of e r = let ends = tells.ended e r in subst (IsScheduledIn options.mode) (sym ends.is) ends.scheduled

    -- a run that ended, and whose report was written
    reported : (e : V) → ran e → WritesAll (seen old) (seen new) (told (Ok e)) → analyses.IsReported seen old new name bytes args options
    reported e r took =
        let ends = tells.ended e r in
        record {
          program = compiled.program;
          run = run_of ends.may_run;
          ended = subst analyses.HasEnded (sym ends.is) ends.ended;
          scheduled = scheduled_of e r;
          took = subst (λ text. WritesAll (seen old) (seen new) text) (text_is ends.end (told (Ok e)) ends.is ends.told) took;
        }

    -- a run that did not end, and whose text was written
    unreported_as : (f : Fault) → IsUnrun f → WritesAll (seen old) (seen new) (told (Err f)) → (told (Err f) ≡ [] → new ≡ old) → analyses.IsUnreported seen old new name bytes args options f
    unreported_as fault.OverLimit h took idle =
        record { program = compiled.program; run = run_of h.0; over = h.1; untouched = idle tells.over }
    unreported_as (fault.Trap trap line lines) h took idle = record {
      program = compiled.program;
      run = run_of h.0;
      trapped = h.1;
      took = subst (λ text. WritesAll (seen old) (seen new) text) (text_is (TrappedAt trap line lines.items) (told (Err (fault.Trap trap line lines))) h.1 (tells.printed trap line lines)) took;
    }
    unreported_as fault.Memory h took idle = idle tells.memory
    unreported_as fault.Arguments h took idle =
        record { program = compiled.program; compiles = compiled.compiles; misused = h; untouched = idle tells.arguments }
    unreported_as (fault.Strands count) h took idle =
        record { program = compiled.program; run = run_of h.0; many = h.1; untouched = idle (tells.strands count) }
    unreported_as _ h took idle = absurd h

    unreported : (f : Fault) → failed f → WritesAll (seen old) (seen new) (told (Err f)) → (told (Err f) ≡ [] → new ≡ old) → analyses.IsUnreported seen old new name bytes args options f
    unreported f h took idle = unreported_as f (tells.unrun f h) took idle

    finished_itself : (ended : Result V Fault) → RanAs ended → WritesAll (seen old) (seen new) (told ended) → (told ended ≡ [] → new ≡ old)
        → analyses.IsRun seen old new name bytes args options (result_of ended)
    finished_itself (Ok e) r took idle = reported e r took
    finished_itself (Err f) h took idle = unreported f h took idle

    -- a run that ended with a value, and whose report was written
    pub finished : (ended : Result V Fault) (e : V) → ended ≡ Ok e → RanAs ended → WritesAll (seen old) (seen new) (told ended)
        → (told ended ≡ [] → new ≡ old) → analyses.IsReported seen old new name bytes args options
    finished ended e same h took idle =
        subst (λ r. analyses.IsRun seen old new name bytes args options (result_of r)) same (finished_itself ended h took idle)

    -- a run that ended without a value
    pub stopped : (ended : Result V Fault) (f : Fault) → ended ≡ Err f → RanAs ended → WritesAll (seen old) (seen new) (told ended)
        → (told ended ≡ [] → new ≡ old) → analyses.IsUnreported seen old new name bytes args options f
    stopped ended f same h took idle =
        subst (λ r. analyses.IsRun seen old new name bytes args options (result_of r)) same (finished_itself ended h took idle)

    -- a write that failed
    cut_short_as : (f : Fault) → IsUnrun f → WritesPart (seen old) (seen new) (told (Err f)) → (told (Err f) ≡ [] → new ≡ old) → analyses.IsCutShort seen old new name bytes args options
    cut_short_as (fault.Trap trap line lines) h part idle = record {
      program = compiled.program;
      run = run_of h.0;
      within = λ over. trap_not_over (sym h.1 ∙ over);
      scheduled = subst (IsScheduledIn options.mode) (sym h.1) (trap_scheduled options.mode trap line lines.items);
      took = subst (λ text. WritesPart (seen old) (seen new) text) (text_is (TrappedAt trap line lines.items) (told (Err (fault.Trap trap line lines))) h.1 (tells.printed trap line lines)) part;
    }
    cut_short_as fault.OverLimit h part idle = absurd (no_part seen old new _ (idle tells.over) part)
    cut_short_as fault.Memory h part idle = absurd (no_part seen old new _ (idle tells.memory) part)
    cut_short_as fault.Arguments h part idle = absurd (no_part seen old new _ (idle tells.arguments) part)
    cut_short_as (fault.Strands count) h part idle = absurd (no_part seen old new _ (idle (tells.strands count)) part)
    cut_short_as _ h part idle = absurd h

    cut_short : (ended : Result V Fault) → RanAs ended → WritesPart (seen old) (seen new) (told ended) → (told ended ≡ [] → new ≡ old) → analyses.IsCutShort seen old new name bytes args options
    cut_short (Ok e) r part idle =
        let ends = tells.ended e r in
        record {
          program = compiled.program;
          run = run_of ends.may_run;
          within = λ over. not_over ends.end ends.ended (sym ends.is ∙ over);
          scheduled = scheduled_of e r;
          took = subst (λ text. WritesPart (seen old) (seen new) text) (text_is ends.end (told (Ok e)) ends.is ends.told) part;
        }
    cut_short (Err f) h part idle = cut_short_as f (tells.unrun f h) part idle

    -- a text that was not written
    pub unwritten : (ended : Result V Fault) → RanAs ended → (told ended ≡ [] → new ≡ old) → (f : Fault) → AnswersLess seen old new (told ended) f
        → analyses.IsUnreported seen old new name bytes args options f
    unwritten ended r idle fault.Memory h = h
    unwritten ended r idle fault.Write h = cut_short ended r h idle
    unwritten ended r idle _ h = absurd h

-- ---- a check

module _ {W : Type 0} (seen : W → Seen) (old new : W) (name bytes : List ℕ) (args : List ℤ) (options : Options) where
  -- the result of an analysis in the mode that is asked for
  in_mode : (m : Mode) → options.mode ≡ m → (r : Result (Unit {0}) Fault) → analyses.IsAnalysedIn seen old new name bytes args options m r → analyses.IsAnalysed seen old new name bytes args options r
  in_mode m is r h = subst (λ k. analyses.IsAnalysedIn seen old new name bytes args options k r) (sym is) h

  check_text_is : (program : Program) → options.mode ≡ mode.Check → check_text ≡ analyses.text_of name bytes program args options
  check_text_is program is = ap (λ m. analyses.report_in (input_of name bytes args) m options.table program options.burden (analyses.answer_to program args options)) (sym is)

  -- bytes that compile, and the text of a check
  pub checked : (code : Code) → IsCompiled bytes code → options.mode ≡ mode.Check → (r : Result (Unit {0}) Fault)
      → Writes (seen old) (seen new) check_text r → analyses.IsAnalysed seen old new name bytes args options r
  checked code compiled is (Ok done) h = in_mode mode.Check is (Ok done) (record {
    program = compiled.program;
    compiles = compiled.compiles;
    took = subst (λ text. WritesAll (seen old) (seen new) text) (check_text_is compiled.program is) h;
  })
  checked code compiled is (Err f) h = in_mode mode.Check is (Err f) (subst (analyses.IsUnchecked seen old new name bytes args options) (sym h.0) (record {
    program = compiled.program;
    compiles = compiled.compiles;
    took = subst (λ text. WritesPart (seen old) (seen new) text) (check_text_is compiled.program is) h.1;
  }))

  in_running_mode : (m : Mode) → m ≢ mode.Check → (r : Result (Unit {0}) Fault) → analyses.IsRun seen old new name bytes args options r → analyses.IsAnalysedIn seen old new name bytes args options m r
  in_running_mode mode.Check runs r h = absurd (runs refl)
  in_running_mode mode.Run runs r h = h
  in_running_mode mode.Scale runs r h = h
  in_running_mode mode.Sites runs r h = h
  in_running_mode (mode.Gain top) runs r h = h
  in_running_mode (mode.Greedy processors) runs r h = h
  in_running_mode (mode.Speedup most) runs r h = h
  in_running_mode (mode.Page top most) runs r h = h

  -- the result of a run, if the mode runs the program
  pub run_is : options.mode ≢ mode.Check → (r : Result (Unit {0}) Fault) → analyses.IsRun seen old new name bytes args options r → analyses.IsAnalysed seen old new name bytes args options r
  run_is runs r h = in_running_mode options.mode runs r h

-- the number in the mode is out of range
pub out_of_range : {W : Type 0} (seen : W → Seen) (old : W) (name bytes : List ℕ) (args : List ℤ) (options : Options) (code : Code) → IsCompiled bytes code → (m : Mode) (f : Fault) → options.mode ≡ m
    → f ≡ fault.Arguments → ¬ (IsModeInRange m) → analyses.IsUnreported seen old old name bytes args options f
out_of_range seen old name bytes args options code compiled m f is same not = subst (analyses.IsUnreported seen old old name bytes args options) (sym same)
    (record { program = compiled.program; compiles = compiled.compiles; misused = λ may. not (subst IsModeInRange is may.in_range.mode); untouched = refl })

-- ---- bytes that are rejected

run_refusal : {W : Type 0} (seen : W → Seen) (old : W) (name bytes : List ℕ) (args : List ℤ) (options : Options) (f : Fault) → IsRejected bytes f → analyses.IsUnreported seen old old name bytes args options f
run_refusal seen old name bytes args options (fault.Lexical p) h = record { refused = h; untouched = refl }
run_refusal seen old name bytes args options (fault.Syntax p) h = record { refused = h; untouched = refl }
run_refusal seen old name bytes args options (fault.Types p) h = record { refused = h; untouched = refl }
run_refusal seen old name bytes args options (fault.Ownership p) h = record { refused = h; untouched = refl }
run_refusal seen old name bytes args options (fault.Size p) h = record { refused = h; untouched = refl }
run_refusal seen old name bytes args options fault.Memory h = refl
run_refusal seen old name bytes args options _ h = absurd h

check_refusal : {W : Type 0} (seen : W → Seen) (old : W) (name bytes : List ℕ) (args : List ℤ) (options : Options) (f : Fault) → IsRejected bytes f → analyses.IsUnchecked seen old old name bytes args options f
check_refusal seen old name bytes args options (fault.Lexical p) h = record { refused = h; untouched = refl }
check_refusal seen old name bytes args options (fault.Syntax p) h = record { refused = h; untouched = refl }
check_refusal seen old name bytes args options (fault.Types p) h = record { refused = h; untouched = refl }
check_refusal seen old name bytes args options (fault.Ownership p) h = record { refused = h; untouched = refl }
check_refusal seen old name bytes args options (fault.Size p) h = record { refused = h; untouched = refl }
check_refusal seen old name bytes args options fault.Memory h = refl
check_refusal seen old name bytes args options _ h = absurd h

refused_in : {W : Type 0} (seen : W → Seen) (old : W) (name bytes : List ℕ) (args : List ℤ) (options : Options) (m : Mode) (f : Fault) → IsRejected bytes f
    → analyses.IsAnalysedIn seen old old name bytes args options m (Err f)
refused_in seen old name bytes args options mode.Check f h = check_refusal seen old name bytes args options f h
refused_in seen old name bytes args options mode.Run f h = run_refusal seen old name bytes args options f h
refused_in seen old name bytes args options mode.Scale f h = run_refusal seen old name bytes args options f h
refused_in seen old name bytes args options mode.Sites f h = run_refusal seen old name bytes args options f h
refused_in seen old name bytes args options (mode.Gain top) f h = run_refusal seen old name bytes args options f h
refused_in seen old name bytes args options (mode.Greedy processors) f h = run_refusal seen old name bytes args options f h
refused_in seen old name bytes args options (mode.Speedup most) f h = run_refusal seen old name bytes args options f h
refused_in seen old name bytes args options (mode.Page top most) f h = run_refusal seen old name bytes args options f h

-- bytes that are rejected, in every mode
pub refusal : {W : Type 0} (seen : W → Seen) (old : W) (name bytes : List ℕ) (args : List ℤ) (options : Options) (f : Fault) → IsRejected bytes f
    → (r : Result (Unit {0}) Fault) → IsErrAnd r (λ x. x ≡ f) → analyses.IsAnalysed seen old old name bytes args options r
refusal seen old name bytes args options f h (Ok done) e = absurd e
refusal seen old name bytes args options f h (Err g) e = refused_in seen old name bytes args options options.mode g (subst (IsRejected bytes) (sym e) h)

-- a crew of at most the maximum size, and a larger one
pub by_crew : {W : Type 0} (seen : W → Seen) (old new : W) (name bytes : List ℕ) (args : List ℤ) (options : Options) (bodies : ℕ) (r : Result (Unit {0}) Fault)
    → bodies ≤ MOST_BODIES → analyses.IsAnalysed seen old new name bytes args options r → analyses.IsAnalysedBy seen old new name bytes args options bodies r
by_crew seen old new name bytes args options bodies r few h = record { fits = λ _. h; refused = λ many. absurd (omega (arith, few, many)); untouched = λ many. absurd (omega (arith, few, many)) }

pub by_crowd : {W : Type 0} (seen : W → Seen) (old : W) (name bytes : List ℕ) (args : List ℤ) (options : Options) (bodies : ℕ)
    → MOST_BODIES < bodies → analyses.IsAnalysedBy seen old old name bytes args options bodies (Err fault.Arguments)
by_crowd seen old name bytes args options bodies many = record { fits = λ few. absurd (omega (arith, few, many)); refused = λ _. refl; untouched = λ _. refl }
