use Rattle.std.proofs.Common.{◌≡◌, ◌≤◌, true, sym, subst, ap, map, ◌∙◌}
use Rattle.std.specs.List.{All}
use Rattle.cw_facts.specs.Options.{handed_on}
use Rattle.cw_code.specs.Code.{code_view}
use Rattle.cw_machine.specs.Recorded.{Records, RecordsAsCode}
use Rattle.cw_greedy_schedule.specs.Speedups.{is_asked, row_on}
use Rattle.cw_greedy_schedule.proofs.Counted.{some_processors}
use Rattle.cw_greedy_schedule.proofs.RunFacts.{low_charge, not_measured, not_recorded, small_work, some_processor, sped_up, tree_of_record}
use Rattle.cw_greedy_schedule.proofs.speedups.speedup_of_run.Goals as goal

pub returns-in_err-strands : goal.returns-in_err-strands
returns-in_err-strands g c =
    let code = code_view c.args.code.value.code in
    let asked : is_asked code c.args.args.now c.args.n c.args.burden c.args.most ≡ true =
    subst (λ v. is_asked (code_view v.code) c.args.args.now c.args.n c.args.burden c.args.most ≡ true) c.deref.ensures (sym c.is_asked.ensures ∙ c.if-not-is_asked.false) in
    let fault = c.in_err-strands.field-0.0 in
    handed_on _ _ fault c.from_residual.result
    (not_recorded code c.args.args.now c.args.n c.args.burden c.args.most asked fault (subst (RecordsAsCode code c.args.args.now c.args.n) c.in_err-strands.was c.requires)) c.from_residual.ensures.1

pub returns-in_err-measure : goal.returns-in_err-measure
returns-in_err-measure g c =
    let code = code_view c.args.code.value.code in
    let asked : is_asked code c.args.args.now c.args.n c.args.burden c.args.most ≡ true =
    subst (λ v. is_asked (code_view v.code) c.args.args.now c.args.n c.args.burden c.args.most ≡ true) c.deref.ensures (sym c.is_asked.ensures ∙ c.if-not-is_asked.false) in
    let kept = c.in_ok-strands.strands in
    let ran : Records code c.args.args.now c.args.n kept = subst (RecordsAsCode code c.args.args.now c.args.n) c.in_ok-strands.was c.requires in
    let fault = c.in_err-measure.field-0.0 in
    handed_on _ _ fault c.from_residual-in_err-measure.result
    (not_measured code c.args.args.now c.args.n c.args.burden c.args.most asked fault (c.in_err-measure.ensures ran)) c.from_residual-in_err-measure.ensures.1

pub measure_of-requires-clause-low : goal.measure_of-requires-clause-low
measure_of-requires-clause-low g c =
    let code = code_view c.args.code.value.code in
    let asked : is_asked code c.args.args.now c.args.n c.args.burden c.args.most ≡ true =
    subst (λ v. is_asked (code_view v.code) c.args.args.now c.args.n c.args.burden c.args.most ≡ true) c.deref.ensures (sym c.is_asked.ensures ∙ c.if-not-is_asked.false) in
    low_charge code c.args.args.now c.args.n c.args.burden c.args.most asked

pub measure_of-requires-clause-ran : goal.measure_of-requires-clause-ran
measure_of-requires-clause-ran g c =
    let code = code_view c.args.code.value.code in
    let asked : is_asked code c.args.args.now c.args.n c.args.burden c.args.most ≡ true =
    subst (λ v. is_asked (code_view v.code) c.args.args.now c.args.n c.args.burden c.args.most ≡ true) c.deref.ensures (sym c.is_asked.ensures ∙ c.if-not-is_asked.false) in
    let kept = c.in_ok-strands.strands in
    let ran : Records code c.args.args.now c.args.n kept = subst (RecordsAsCode code c.args.args.now c.args.n) c.in_ok-strands.was c.requires in
    (ran, small_work code c.args.args.now c.args.n c.args.burden c.args.most asked kept ran c.work_is_within_its_limit.ensures)

pub rows-requires-clause-counts : goal.rows-requires-clause-counts
rows-requires-clause-counts g c =
    let code = code_view c.args.code.value.code in
    let asked : is_asked code c.args.args.now c.args.n c.args.burden c.args.most ≡ true =
    subst (λ v. is_asked (code_view v.code) c.args.args.now c.args.n c.args.burden c.args.most ≡ true) c.deref.ensures (sym c.is_asked.ensures ∙ c.if-not-is_asked.false) in
    let some = some_processors c.args.most (some_processor code c.args.args.now c.args.n c.args.burden c.args.most asked) in
    subst (λ counts. All (λ p. 1 ≤ p) counts) (sym (c.as_slice.ensures.value ∙ c.in_ok-counts.ensures)) some

pub rows-requires-clause-kept : goal.rows-requires-clause-kept
rows-requires-clause-kept g c =
    let code = code_view c.args.code.value.code in
    let asked : is_asked code c.args.args.now c.args.n c.args.burden c.args.most ≡ true =
    subst (λ v. is_asked (code_view v.code) c.args.args.now c.args.n c.args.burden c.args.most ≡ true) c.deref.ensures (sym c.is_asked.ensures ∙ c.if-not-is_asked.false) in
    let kept = c.in_ok-strands.strands in
    let ran : Records code c.args.args.now c.args.n kept = subst (RecordsAsCode code c.args.args.now c.args.n) c.in_ok-strands.was c.requires in
    tree_of_record code c.args.args.now c.args.n c.args.burden c.args.most asked kept ran c.work_is_within_its_limit.ensures

pub returns : goal.returns
returns g c =
    let code = code_view c.args.code.value.code in
    let asked : is_asked code c.args.args.now c.args.n c.args.burden c.args.most ≡ true =
    subst (λ v. is_asked (code_view v.code) c.args.args.now c.args.n c.args.burden c.args.most ≡ true) c.deref.ensures (sym c.is_asked.ensures ∙ c.if-not-is_asked.false) in
    let kept = c.in_ok-strands.strands in
    let ran : Records code c.args.args.now c.args.n kept = subst (RecordsAsCode code c.args.args.now c.args.n) c.in_ok-strands.was c.requires in
    sped_up code c.args.args.now c.args.n c.args.burden c.args.most asked kept ran _ (c.in_ok-measure.ensures ran)
    (c.in_ok-rows.ensures ran.tree ran.is_kept ∙ ap (map (row_on ran.tree)) (c.as_slice.ensures.value ∙ c.in_ok-counts.ensures))
    c.greedy_is_bounded.ensures
