-- From the results of a page to the meaning of its program.
use Rattle.std.proofs.Common.{◌≡◌, ◌∙◌, ℕ, ℤ, true, false, ◌&&◌, List, length, Some, Result, Ok, Err, refl, sym, ap, ap₂, map, subst, arith}
use Rattle.std.specs.Prelude.{nat_eq, nat_le}
use Rattle.std.specs.List.{list_all}
use Rattle.std.specs.Global.{Vec}
use Rattle.std.proofs.lemmas.Bool.{and_parts, false≢true}
use Rattle.std.proofs.lemmas.Option.{same_Some}
use Rattle.cw_facts.specs.Tests.{le_of, at_most, both_true}
use Rattle.cw_model.specs.Ints.{fits}
use Rattle.cw_model.specs.declared.burden.Burden.{Burden}
use Rattle.cw_model.specs.declared.limits.TheConstants.{MOST_BURDEN, MOST_LIMIT, MOST_PROCESSORS, MOST_TOP}
use Rattle.cw_model.specs.declared.trap.Trap.{Trap}
use Rattle.cw_model.specs.Burdens.{no_burden}
use Rattle.cw_model.specs.Answers.{Answer, Ended, TrappedAt, OverLimit}
use Rattle.cw_model.specs.Report as report
use Rattle.cw_model.specs.Report.{report_text, scale_text, sites_text, gain_text}
use Rattle.cw_model.specs.SiteLaw.{SitesAreNumbered}
use Rattle.cw_model.specs.Sites.{call_sites, are_numbered, heads_of}
use Rattle.cw_code.specs.Code.{Code, code_view}
use Rattle.cw_code.specs.Fits.{main_params}
use Rattle.cw_code.specs.Heads.{head_view}
use Rattle.cw_code.specs.declared.head.Head as counted
use Rattle.cw_runnable.specs.declared.verified.Verified.{Verified}
use Rattle.cw_machine.specs.declared.values.Values.{Values}
use Rattle.cw_machine.specs.Runs.{IsFailure, is_request}
use Rattle.cw_greedy_schedule.specs.Schedules.{is_asked, is_counted}
use Rattle.cw_greedy_schedule.specs.Speedups as speeds
use Rattle.cw_compile.specs.Compiled.{IsCompiled}
use Rattle.cw_text.specs.declared.fault.Fault.{Fault}
use Rattle.cw_text.specs.declared.fault.Fault.TheVariants as fault
use Rattle.cw_report.specs.Pages.{drawn_page, output_of, page_report, page_with}
use Rattle.cw_report.specs.Speedups as texts
use Rattle.cw_report.specs.Texts as tables
use Rattle.cw_report.specs.declared.drawing.Drawn.{Drawn}
use Rattle.cw_words.specs.declared.asked.Mode.TheVariants as mode
use Rattle.cw_words.specs.declared.asked.Options.{Options}
use Rattle.cw_words.specs.declared.release.TheConstants.{RELEASE}
use Rattle.cw_cli.specs.Analyses as analyses
use Rattle.cw_cli.specs.Analyses.{IsModeInRange}
use Rattle.cw_cli.specs.Pages as pages
use Rattle.cw_cli.specs.Pages.{Asked, Draws, IsUndrawn, asked_for}
use Rattle.cw_cli.specs.Schedules.{AreBounded, IsScheduledIn}
use Rattle.cw_cli.specs.Speedups.{speedup_text}
use Rattle.cw_cli.proofs.Ordered.{are_bounded}
use Rattle.cw_cli.proofs.ReportRows.{scale_is, sites_are, gains_are}
use Rattle.cw_cli.proofs.Runs.{IsUnrun, May, Tells, answer_is, may, must, readings_are, values_are}

-- a page of the same texts
same_reports : (n v : List ℕ) (a : List ℤ) (b : Burden) (s : List ℕ) (x : ℤ) (o o' sc sc' sp sp' ga ga' si si' : List ℕ)
    → o ≡ o' → sc ≡ sc' → sp ≡ sp' → ga ≡ ga' → si ≡ si'
    → page_with n v a b s o x sc sp ga si ≡ page_with n v a b s o' x sc' sp' ga' si'
same_reports n v a b s x o o' sc sc' sp sp' ga ga' si si' of_o of_sc of_sp of_ga of_si =
    ap (λ t. page_with n v a b s t x sc sp ga si) of_o ∙ ap (λ t. page_with n v a b s o' x t sp ga si) of_sc
    ∙ ap (λ t. page_with n v a b s o' x sc' t ga si) of_sp ∙ ap (λ t. page_with n v a b s o' x sc' sp' t si) of_ga
    ∙ ap (λ t. page_with n v a b s o' x sc' sp' ga' t) of_si

module _ (name bytes : List ℕ) (args : List ℤ) (words : list_all fits args ≡ true) (options : Options) (code : Code) (compiled : IsCompiled bytes code)
    (top most : ℕ) (is : options.mode ≡ mode.Page top most) where
  abbrev given : Asked
  given = asked_for args options.limit options.burden top most

  abbrev MayDraw : Type 0
  MayDraw = May name bytes args words options code compiled

  abbrev unrun : Fault → Type 0
  unrun = IsUnrun name bytes args words options code compiled

  may_draw : pages.is_asked code given ≡ true → MayDraw
  may_draw h =
      let low = and_parts (nat_le 1 top) (nat_le top MOST_TOP && speeds.is_asked code args options.limit options.burden most) h in
      let high = and_parts (nat_le top MOST_TOP) (speeds.is_asked code args options.limit options.burden most) low.1 in
      let whole = and_parts (is_asked code args options.limit most) (nat_le options.burden.charge MOST_BURDEN) high.1 in
      let counted = and_parts (is_counted most) (is_request code args options.limit no_burden) whole.0 in
      let range = and_parts (nat_le 1 most) (nat_le most MOST_PROCESSORS) counted.0 in
      let of_mode : IsModeInRange options.mode =
      subst IsModeInRange (sym is) ((le_of 1 top low.0, le_of top MOST_TOP high.0), (le_of 1 most range.0, le_of most MOST_PROCESSORS range.1)) in
      may name bytes args words options code compiled no_burden of_mode (le_of options.burden.charge MOST_BURDEN whole.1) counted.1

  must_draw : MayDraw → pages.is_asked code given ≡ true
  must_draw m =
      let range : IsModeInRange (mode.Page top most) = subst IsModeInRange is m.in_range.mode in
      both_true (nat_le 1 top) _ (at_most 1 top range.0.0)
      (both_true (nat_le top MOST_TOP) _ (at_most top MOST_TOP range.0.1)
      (both_true (is_asked code args options.limit most) _
      (both_true (is_counted most) _ (both_true (nat_le 1 most) _ (at_most 1 most range.1.0) (at_most most MOST_PROCESSORS range.1.1))
      (must name bytes args words options code compiled no_burden (omega arith) m))
      (at_most options.burden.charge MOST_BURDEN m.in_range.burden)))

  undrawn : (heads : List counted.Head) (f : Fault) → IsUndrawn code heads given f → unrun f
  undrawn heads fault.OverLimit h = let m = may_draw h.0 in (m, answer_is name bytes args words options code compiled m OverLimit h.1)
  undrawn heads (fault.Trap trap line lines) h =
      let m = may_draw h.0 in (m, answer_is name bytes args words options code compiled m (TrappedAt trap line lines.items) h.1)
  undrawn heads fault.Arguments h = λ m. false≢true (sym h ∙ must_draw m)
  undrawn heads fault.Memory h = tt
  undrawn heads _ h = absurd h

  module _ (heads : List counted.Head) (heads_are : map head_view heads ≡ heads_of compiled.program) (law : SitesAreNumbered) where
    -- the page of the answer
    drawn_is : (d : Drawn) (r : Draws code heads given d)
        → drawn_page name RELEASE.now args options.burden bytes code d ≡ pages.page_text (pages.input_of name bytes args) top most compiled.program options.burden
        (Ended d.ended.value d.ended.lines.items d.ended.totals.items r.runs.tree)
    drawn_is d r =
        let program = compiled.program in
        let burden = options.burden in
        let generates = compiled.generates in
        let source = compiled.compiles.accepted.source in
        let numbered : are_numbered 0 (call_sites program) ≡ true = law bytes source.tokens program source.parsed.derived in
        let e = d.ended in
        let end = Ended e.value e.lines.items e.totals.items r.runs.tree in
        let gained : Answer = Ended r.gains.value r.gains.lines r.gains.totals r.gains.tree in
        let sped : Answer = Ended r.speeds_up.ends.value r.speeds_up.ends.lines r.speeds_up.ends.totals r.speeds_up.tree in
        let of_gains : gained ≡ end = same_Some _ _ (sym r.gains.answer ∙ r.runs.answer) in
        let of_speedup : sped ≡ end = same_Some _ _ (sym r.speeds_up.ends.answer ∙ r.runs.answer) in
        let values : Values = record { value = e.value; lines = e.lines; totals = e.totals } in
        same_reports name RELEASE.now args burden bytes e.value _ _ _ _ _ _ _ _ _ _
        (values_are program code burden values r.runs.tree generates)
        (scale_is program code burden e r.runs.tree generates.tags r.runs.tags r.runs.measure r.runs.regions)
        (ap₂ texts.speedup_text (readings_are burden d.speedup.measure r.speeds_up.tree r.speeds_up.measure) r.speeds_up.rows
        ∙ ap (speedup_text most burden) of_speedup)
        (gains_are program code heads top burden d.gains r.gains.tree r.gains.value r.gains.lines r.gains.totals heads_are generates.sites generates.main_line r.gains.measure r.gains.functions
        ∙ ap (gain_text top program burden) of_gains)
        (sites_are program code e r.runs.tree generates.sites generates.main_line numbered r.runs.sites)

    bounded : (d : Drawn) (r : Draws code heads given d) → IsScheduledIn options.mode (Ended d.ended.value d.ended.lines.items d.ended.totals.items r.runs.tree)
    bounded d r =
        let sped : Answer = Ended r.speeds_up.ends.value r.speeds_up.ends.lines r.speeds_up.ends.totals r.speeds_up.tree in
        let of_speedup : sped ≡ Ended d.ended.value d.ended.lines.items d.ended.totals.items r.runs.tree = same_Some _ _ (sym r.speeds_up.ends.answer ∙ r.runs.answer) in
        let bounds : AreBounded r.speeds_up.tree = are_bounded r.speeds_up.tree r.speeds_up.bounds in
        let scheduled : IsScheduledIn (mode.Page top most) sped = bounds in
        subst (λ k. IsScheduledIn k (Ended d.ended.value d.ended.lines.items d.ended.totals.items r.runs.tree)) (sym is)
        (subst (λ a. IsScheduledIn (mode.Page top most) a) of_speedup scheduled)

    -- the page is the report of the run
    pub page_tells : (version : List ℕ) (verified : Verified) → version ≡ RELEASE.now → code_view verified.code ≡ code
        → Tells name bytes args words options code compiled (Draws code heads given) (IsUndrawn code heads given) (page_report name version args options.burden bytes verified)
    page_tells version verified of_version same = record {
      ended = λ d r.
          let m = may_draw r.asked in
          let end = Ended d.ended.value d.ended.lines.items d.ended.totals.items r.runs.tree in
          record {
            may_run = m;
            end = end;
            ended = tt;
            is = answer_is name bytes args words options code compiled m end r.runs.answer;
            scheduled = bounded d r;
            told = ap (λ v. drawn_page name v args options.burden bytes (code_view verified.code) d) of_version
                ∙ ap (λ k. drawn_page name RELEASE.now args options.burden bytes k d) same ∙ drawn_is d r
                ∙ ap (λ k. analyses.report_in (pages.input_of name bytes args) k options.table compiled.program options.burden end) (sym is);
          };
      unrun = undrawn heads;
      printed = λ trap line lines. ap (λ k. analyses.report_in (pages.input_of name bytes args) k options.table compiled.program options.burden (TrappedAt trap line lines.items)) (sym is);
      over = refl;
      memory = refl;
      arguments = refl;
      strands = λ count. refl;
    }

-- ---- one of the runs fails

-- a request in range with no burden is in range with a burden in range
requested : (code : Code) (args : List ℤ) (limit : ℕ) (burden : Burden) → is_request code args limit no_burden ≡ true → nat_le burden.charge MOST_BURDEN ≡ true
    → is_request code args limit burden ≡ true
requested code args limit burden h low =
    let n = and_parts (nat_eq (length args) (main_params code)) (nat_le 1 limit && (nat_le limit MOST_LIMIT && nat_le no_burden.charge MOST_BURDEN)) h in
    let l = and_parts (nat_le 1 limit) (nat_le limit MOST_LIMIT && nat_le no_burden.charge MOST_BURDEN) n.1 in
    let b = and_parts (nat_le limit MOST_LIMIT) (nat_le no_burden.charge MOST_BURDEN) l.1 in
    both_true (nat_eq (length args) (main_params code)) _ n.0 (both_true (nat_le 1 limit) _ l.0 (both_true (nat_le limit MOST_LIMIT) _ b.0 low))

module _ (code : Code) (heads : List counted.Head) (given : Asked) (asked : pages.is_asked code given ≡ true) where
  speeds_asked : speeds.is_asked code given.args given.limit given.burden given.most ≡ true
  speeds_asked =
      let low = and_parts (nat_le 1 given.top) (nat_le given.top MOST_TOP && speeds.is_asked code given.args given.limit given.burden given.most) asked in
      (and_parts (nat_le given.top MOST_TOP) (speeds.is_asked code given.args given.limit given.burden given.most) low.1).1

  run_asked : is_request code given.args given.limit given.burden ≡ true
  run_asked =
      let whole = and_parts (is_asked code given.args given.limit given.most) (nat_le given.burden.charge MOST_BURDEN) speeds_asked in
      let counted = and_parts (is_counted given.most) (is_request code given.args given.limit no_burden) whole.0 in
      requested code given.args given.limit given.burden counted.1 whole.1

  -- the run itself, or a run of the gain table
  pub failed : (f : Fault) → IsFailure code given.args given.limit given.burden f → IsUndrawn code heads given f
  failed fault.OverLimit h = (asked, h.1)
  failed (fault.Trap trap line lines) h = (asked, h.1)
  failed fault.Arguments h = absurd (false≢true (sym h ∙ run_asked))
  failed fault.Memory h = tt
  failed _ h = absurd h

  -- the run that records strands
  pub unsped : (f : Fault) → speeds.IsNotSpedUp code given.args given.limit given.burden given.most f → IsUndrawn code heads given f
  unsped fault.OverLimit h = (asked, h.1)
  unsped (fault.Trap trap line lines) h = (asked, h.1)
  unsped fault.Arguments h = absurd (false≢true (sym h ∙ speeds_asked))
  unsped fault.Memory h = tt
  unsped _ h = absurd h
