use Rattle.std.proofs.Common.{◌≡◌, ℕ, List, ◌++◌, map, flat_map, length, nat_le, Option, None, ap, sym, subst, ◌∙◌}
use Rattle.std.specs.Option.{option_to_list}
use Rattle.cw_model.specs.Syntax.{Name, Function, Reducer}
use Rattle.cw_model.specs.declared.limits.TheConstants.{MOST_FUNCTIONS, MOST_REDUCERS, MOST_TAG_BYTES}
use Rattle.cw_model.specs.Lines.{lowest, unless}
use Rattle.cw_model.specs.Sizes.{function_limits, lines_beyond, regions_in_block}
use Rattle.cw_model.specs.lemmas.Lowest.{lowest-append}
use Rattle.cw_tree.specs.declared.syntax.Function.{Function as CodeFunction}
use Rattle.cw_tree.specs.SyntaxView.{function_of, program_of, reducer_of}
use Rattle.cw_types.specs.Limits.{ByCount, ByFunction, ByRegions, IsPassedByOne, IsPassedByParts, IsPassedByRegions}
use Rattle.cw_types.specs.AreRecorded.{tags_past}
use Rattle.cw_types.specs.Regions.{regions_of}
use Rattle.cw_types.specs.RecordingLines.{AddsOnly, recorded_line}
use Rattle.cw_types.proofs.RecordingLines.{all_true, and_then, least_true, lowest_least, weaken}
use Rattle.cw_types.proofs.limits.limits.Goals as goal

five : (a b c d e : List ℕ) (p q r s t u : Option ℕ) → p ≡ None → q ≡ lowest p a → r ≡ lowest q b → s ≡ lowest r c → t ≡ lowest s d → u ≡ lowest t e →
    u ≡ lowest None (a ++ (b ++ (c ++ (d ++ e))))
five a b c d e p q r s t u none first second third fourth fifth =
    fifth
    ∙ ap (λ o. lowest o e) fourth
    ∙ ap (λ o. lowest (lowest o d) e) third
    ∙ ap (λ o. lowest (lowest (lowest o c) d) e) second
    ∙ ap (λ o. lowest (lowest (lowest (lowest o b) c) d) e) first
    ∙ ap (λ o. lowest (lowest (lowest (lowest (lowest o a) b) c) d) e) none
    ∙ sym (lowest-append (lowest (lowest (lowest None a) b) c) d e)
    ∙ sym (lowest-append (lowest (lowest None a) b) c (d ++ e))
    ∙ sym (lowest-append (lowest None a) b (c ++ (d ++ e)))
    ∙ sym (lowest-append None a (b ++ (c ++ (d ++ e))))

-- recording the least of some lines is the same as recording all of them
once : (p q least : Option ℕ) (lines : List ℕ) → q ≡ lowest p (option_to_list least) → least ≡ lowest None lines → q ≡ lowest p lines
once p q least lines noted is = noted ∙ ap (λ o. lowest p (option_to_list o)) is ∙ lowest_least p lines

pub returns-clause-lines : goal.returns-clause-lines
returns-clause-lines c =
    let fs = map function_of c.args.ast.now.functions.items in
    let rs = map reducer_of c.args.ast.now.reducers.items in
    let marks : List (Name × ℕ) = flat_map (λ (f : Function). regions_in_block f.body) fs in
    let found = c.in_ok-regions.ensures ∙ ap (λ gs. flat_map (λ (f : Function). regions_in_block f.body) (map function_of gs)) c.deref-4.ensures.value in
    let functions = c.functions_beyond.ensures ∙ ap (λ gs. lowest None (lines_beyond MOST_FUNCTIONS (map (λ (f : Function). f.line) (map function_of gs)))) c.deref.ensures.value in
    let reducers = c.reducers_beyond.ensures ∙ ap (λ gs. lowest None (lines_beyond MOST_REDUCERS (map (λ (r : Reducer). r.line) (map reducer_of gs)))) c.deref-2.ensures.value in
    let tags = c.in_ok-tags_beyond.ensures ∙ ap (λ ms. lowest None (tags_past ms)) (ap regions_of c.deref-6.ensures.value ∙ found) in
    five (lines_beyond MOST_FUNCTIONS (map (λ (f : Function). f.line) fs)) (lines_beyond MOST_REDUCERS (map (λ (r : Reducer). r.line) rs)) (flat_map function_limits fs)
    (flat_map (λ (d : Name × ℕ). unless (nat_le (length d.0) MOST_TAG_BYTES) d.1) marks) (tags_past marks)
    (recorded_line c.new-told.result) (recorded_line c.record_least.new.self) (recorded_line c.record_least-2.new.self) (recorded_line c.functions_limits.new.told) (recorded_line c.long_tags.new.told) (recorded_line c.record_least-3.new.self)
    (ap (λ o. recorded_line (record { first = o })) c.new-told.ensures)
    (once (recorded_line c.new-told.result) (recorded_line c.record_least.new.self) c.functions_beyond.result.line (lines_beyond MOST_FUNCTIONS (map (λ (f : Function). f.line) fs)) c.record_least.ensures.lines functions)
    (once (recorded_line c.record_least.new.self) (recorded_line c.record_least-2.new.self) c.reducers_beyond.result.line (lines_beyond MOST_REDUCERS (map (λ (r : Reducer). r.line) rs)) c.record_least-2.ensures.lines reducers)
    (c.functions_limits.ensures.lines ∙ ap (λ gs. lowest (recorded_line c.record_least-2.new.self) (flat_map function_limits (map function_of gs))) c.deref-3.ensures.value)
    (c.long_tags.ensures.lines ∙ ap (λ ms. lowest (recorded_line c.functions_limits.new.told) (flat_map (λ (d : Name × ℕ). unless (nat_le (length d.0) MOST_TAG_BYTES) d.1) ms)) (ap regions_of c.deref-5.ensures.value ∙ found))
    (once (recorded_line c.long_tags.new.told) (recorded_line c.record_least-3.new.self) c.in_ok-tags_beyond.field-0.line (tags_past marks) c.record_least-3.ensures.lines tags)

pub returns-clause-holds : goal.returns-clause-holds
returns-clause-holds c =
    let P = program_of c.args.ast.now in
    let fs = map function_of c.args.ast.now.functions.items in
    let rs = map reducer_of c.args.ast.now.reducers.items in
    let marks : List (Name × ℕ) = flat_map (λ (f : Function). regions_in_block f.body) fs in
    let found = c.in_ok-regions.ensures ∙ ap (λ gs. flat_map (λ (f : Function). regions_in_block f.body) (map function_of gs)) c.deref-4.ensures.value in
    let functions = c.functions_beyond.ensures ∙ ap (λ gs. lowest None (lines_beyond MOST_FUNCTIONS (map (λ (f : Function). f.line) (map function_of gs)))) c.deref.ensures.value in
    let reducers = c.reducers_beyond.ensures ∙ ap (λ gs. lowest None (lines_beyond MOST_REDUCERS (map (λ (r : Reducer). r.line) (map reducer_of gs)))) c.deref-2.ensures.value in
    let tags = c.in_ok-tags_beyond.ensures ∙ ap (λ ms. lowest None (tags_past ms)) (ap regions_of c.deref-6.ensures.value ∙ found) in
    let Such = IsPassedByParts P in
    let one = subst (λ (gs : List CodeFunction). AddsOnly (IsPassedByOne (map function_of gs)) c.record_least-2.new.self c.functions_limits.new.told) c.deref-3.ensures.value c.functions_limits.ensures.told in
    let long = subst (λ (ms : List (Name × ℕ)). AddsOnly (IsPassedByRegions ms) c.functions_limits.new.told c.long_tags.new.told) (ap regions_of c.deref-5.ensures.value ∙ found) c.long_tags.ensures.told in
    all_true Such c.new-told.result c.record_least-3.new.self c.new-told.ensures
    (and_then Such c.new-told.result c.record_least.new.self c.record_least-3.new.self
    (least_true Such c.new-told.result c.record_least.new.self c.functions_beyond.result.line (lines_beyond MOST_FUNCTIONS (map (λ (f : Function). f.line) fs)) _ functions (λ line h. ByCount h) c.record_least.ensures.told)
    (and_then Such c.record_least.new.self c.record_least-2.new.self c.record_least-3.new.self
    (least_true Such c.record_least.new.self c.record_least-2.new.self c.reducers_beyond.result.line (lines_beyond MOST_REDUCERS (map (λ (r : Reducer). r.line) rs)) _ reducers (λ line h. ByCount h) c.record_least-2.ensures.told)
    (and_then Such c.record_least-2.new.self c.functions_limits.new.told c.record_least-3.new.self
    (weaken (IsPassedByOne fs) Such c.record_least-2.new.self c.functions_limits.new.told (λ line r h. ByFunction h) one)
    (and_then Such c.functions_limits.new.told c.long_tags.new.told c.record_least-3.new.self
    (weaken (IsPassedByRegions marks) Such c.functions_limits.new.told c.long_tags.new.told (λ line r h. ByRegions h) long)
    (least_true Such c.long_tags.new.told c.record_least-3.new.self c.in_ok-tags_beyond.field-0.line (tags_past marks) _ tags (λ line h. ByRegions h) c.record_least-3.ensures.told)))))
