use Rattle.std.proofs.Common.{◌≡◌, ℕ, ◌++◌, List, [], map, flat_map, is_some, not, IfSome, Option, ap, sym, subst, ◌∙◌, arith}
use Rattle.std.proofs.lemmas.List.{length-map}
use Rattle.cw_model.specs.Answers.{main_name}
use Rattle.cw_model.specs.Lines.{unless}
use Rattle.cw_text.specs.Rising.{kept}
use Rattle.cw_model.specs.Names.{is_among}
use Rattle.cw_model.specs.Syntax.{Program}
use Rattle.cw_model.specs.Typing.{repeated, of_both_kinds, faults_of}
use Rattle.cw_text.specs.lemmas.Kept.{kept-append}
use Rattle.cw_tree.specs.declared.syntax.Function.{Function as CodeFunction}
use Rattle.cw_tree.specs.declared.syntax.Reducer.{Reducer as CodeReducer}
use Rattle.cw_tree.specs.SyntaxView.{program_of, function_of, reducer_of}
use Rattle.cw_types.specs.Named.{functions_named, reducers_named}
use Rattle.cw_types.specs.Names.{function_names}
use Rattle.cw_text.specs.RecordedReasons.{AddsOnly, itself, lines_at, no_place}
use Rattle.cw_types.specs.ReasonMeaning.{IsNoMain, IsRepeatedIn, BreaksRule, OfNames}
use Rattle.cw_types.specs.Within.{faults_of_all}
use Rattle.cw_tree.specs.lemmas.Few.{functions_few, reducers_few}
use Rattle.cw_types.proofs.Among.{denied}
use Rattle.cw_types.proofs.Refusing.{no_main_true, of_functions, of_reducers}
use Rattle.cw_text.specs.lemmas.RecordingReasons.{all_true, and_then, found_true, weaken}
use Rattle.cw_types.proofs.checking.faults.Goals as goal

pub new-requires-clause-few_functions : goal.new-requires-clause-few_functions
new-requires-clause-few_functions c =
    let few = functions_few (program_of c.args.ast.now) c.requires in
    let same = length-map c.args.ast.now.functions.items function_of in omega (arith, few, same)

pub new-requires-clause-few_reducers : goal.new-requires-clause-few_reducers
new-requires-clause-few_reducers c =
    let few = reducers_few (program_of c.args.ast.now) c.requires in
    let same = length-map c.args.ast.now.reducers.items reducer_of in omega (arith, few, same)

five : (a b c d e : List ℕ) (p q r s t u : List (Option ℕ)) → p ≡ no_place → q ≡ kept itself p a → r ≡ kept itself q b → s ≡ kept itself r c → t ≡ kept itself s d → u ≡ kept itself t e →
    u ≡ kept itself no_place (a ++ ((b ++ (c ++ d)) ++ e))
five a b c d e p q r s t u none first second third fourth fifth =
    fifth
    ∙ ap (λ o. kept itself o e) (fourth ∙ ap (λ o. kept itself o d) (third ∙ ap (λ o. kept itself o c) (second ∙ ap (λ o. kept itself o b) (first ∙ ap (λ o. kept itself o a) none))))
    ∙ ap (λ o. kept itself o e) (sym (kept-append itself (kept itself (kept itself no_place a) b) c d) ∙ sym (kept-append itself (kept itself no_place a) b (c ++ d)))
    ∙ sym (kept-append itself (kept itself no_place a) (b ++ (c ++ d)) e)
    ∙ sym (kept-append itself no_place a ((b ++ (c ++ d)) ++ e))

pub returns-clause-lines : goal.returns-clause-lines
returns-clause-lines c =
    let P = program_of c.args.ast.now in
    let fs = P.functions in
    let rs = P.reducers in
    let same : program_of c.in_ok-globals.globals.ast.now ≡ P = ap program_of c.in_ok-globals.ensures in
    let main = is_among main_name (function_names fs) in
    let start = lines_at c.new-told.result.places in
    let none : is_some c.no_main.result ≡ not main = c.no_main.ensures.decides ∙ ap (λ (p : Program). not (is_among main_name (function_names p.functions))) same in
    five (unless main 1) (repeated (functions_named fs) []) (repeated (reducers_named rs) []) (flat_map (of_both_kinds (functions_named fs)) (reducers_named rs)) (flat_map (faults_of P) fs)
    start (lines_at c.note.new.self.places) (lines_at c.repeated_functions.new.told.places) (lines_at c.repeated_reducers.new.told.places) (lines_at c.shared_names.new.told.places) (lines_at c.functions_faults.new.told.places)
    (ap lines_at c.new-told.ensures)
    (c.note.ensures.lines ∙ ap (λ b. kept itself start (unless b 1)) (denied (is_some c.no_main.result) main none))
    (c.in_ok-repeated_functions.ensures.lines ∙ ap (λ gs. kept itself (lines_at c.note.new.self.places) (repeated (functions_named (map function_of gs)) [])) c.deref.ensures.value)
    (c.in_ok-repeated_reducers.ensures.lines ∙ ap (λ gs. kept itself (lines_at c.repeated_functions.new.told.places) (repeated (reducers_named (map reducer_of gs)) [])) c.deref-2.ensures.value)
    (c.shared_names.ensures.lines
    ∙ ap (λ gs. kept itself (lines_at c.repeated_reducers.new.told.places) (flat_map (of_both_kinds (functions_named (map function_of gs))) (reducers_named (map reducer_of c.deref-4.result.now)))) c.deref-3.ensures.value
    ∙ ap (λ gs. kept itself (lines_at c.repeated_reducers.new.told.places) (flat_map (of_both_kinds (functions_named fs)) (reducers_named (map reducer_of gs)))) c.deref-4.ensures.value)
    (c.in_ok-functions_faults.ensures.lines ∙ ap (λ (p : Program). kept itself (lines_at c.shared_names.new.told.places) (faults_of_all p)) same)

pub returns-clause-holds : goal.returns-clause-holds
returns-clause-holds c =
    let P = program_of c.args.ast.now in
    let fs = functions_named P.functions in
    let rs = reducers_named P.reducers in
    let same : program_of c.in_ok-globals.globals.ast.now ≡ P = ap program_of c.in_ok-globals.ensures in
    let Such = BreaksRule P in
    let start = c.new-told.result in
    let first = subst (λ (gs : List CodeFunction). AddsOnly (IsRepeatedIn (functions_named (map function_of gs))) c.note.new.self c.repeated_functions.new.told) c.deref.ensures.value c.in_ok-repeated_functions.ensures.told in
    let second = subst (λ (gs : List CodeReducer). AddsOnly (IsRepeatedIn (reducers_named (map reducer_of gs))) c.repeated_functions.new.told c.repeated_reducers.new.told) c.deref-2.ensures.value c.in_ok-repeated_reducers.ensures.told in
    let third = subst (λ (gs : List CodeFunction). AddsOnly (IsRepeatedIn (functions_named (map function_of gs) ++ reducers_named (map reducer_of c.deref-4.result.now))) c.repeated_reducers.new.told c.shared_names.new.told) c.deref-3.ensures.value c.shared_names.ensures.told in
    let both = subst (λ (gs : List CodeReducer). AddsOnly (IsRepeatedIn (fs ++ reducers_named (map reducer_of gs))) c.repeated_reducers.new.told c.shared_names.new.told) c.deref-4.ensures.value third in
    let rest = subst (λ (p : Program). AddsOnly (BreaksRule p) c.shared_names.new.told c.functions_faults.new.told) same c.in_ok-functions_faults.ensures.told in
    let main = subst (λ (p : Program). IfSome c.no_main.result (IsNoMain p)) same c.no_main.ensures.holds in
    all_true Such start c.functions_faults.new.told c.new-told.ensures
    (and_then Such start c.note.new.self c.functions_faults.new.told
    (found_true Such start c.note.new.self 1 c.no_main.result (no_main_true P c.no_main.result main) c.note.ensures.told)
    (and_then Such c.note.new.self c.repeated_functions.new.told c.functions_faults.new.told
    (weaken (IsRepeatedIn fs) Such c.note.new.self c.repeated_functions.new.told (of_functions P) first)
    (and_then Such c.repeated_functions.new.told c.repeated_reducers.new.told c.functions_faults.new.told
    (weaken (IsRepeatedIn rs) Such c.repeated_functions.new.told c.repeated_reducers.new.told (of_reducers P) second)
    (and_then Such c.repeated_reducers.new.told c.shared_names.new.told c.functions_faults.new.told
    (weaken (IsRepeatedIn (fs ++ rs)) Such c.repeated_reducers.new.told c.shared_names.new.told (λ line r h. OfNames h) both)
    rest))))
