use Rattle.std.proofs.Common.{true, not, ◌≡◌, ℕ, ◌∷◌, ◌++◌, ◌+◌, Contains, is_some, drop, map, ap, sym, subst, ◌∙◌, arith}
use Rattle.std.proofs.lemmas.Grind.{common_steps}
use Rattle.std.proofs.lemmas.Slice.Eq.{bytes_eq-Decides}
use Rattle.cw_model.specs.Lines.{unless}
use Rattle.cw_text.specs.Rising.{kept}
use Rattle.cw_model.specs.Names.{same_name}
use Rattle.cw_model.specs.Syntax.{Name, Function}
use Rattle.cw_model.specs.Typing.{of_both_kinds}
use Rattle.cw_text.specs.lemmas.Kept.{kept-append}
use Rattle.cw_tree.specs.SyntaxView.{function_of}
use Rattle.cw_types.specs.Named.{functions_named}
use Rattle.cw_text.specs.RecordedReasons.{itself, lines_at}
use Rattle.cw_types.specs.ReasonMeaning.{AreBothIn, IsRepeatedIn}
use Rattle.cw_types.specs.Typing.{earlier_line, later_line}
use Rattle.cw_types.proofs.Repeating.{in_maps, shared_both, shared_true}
use Rattle.cw_text.specs.lemmas.RecordingReasons.{and_then, found_true}
use Rattle.cw_types.proofs.repeated.shared_name.Goals as goal

pub loop-function-preserved : goal.loop-function-preserved
loop-function-preserved c =
    let fs = c.args.functions.now in
    let i = c.loop-function.function-index in
    let f = c.function-item.result in
    let r = c.args.reducer.now in
    let d : Name × ℕ = (r.name, r.line) in
    let rest = functions_named (map function_of (drop (i + 1) fs)) in
    let here : Name × ℕ = (f.name, f.line) in
    let split : functions_named (map function_of (drop i fs)) ≡ here ∷ rest = grind (arith, common_steps) in
    let p = lines_at c.loop-function.told.places in
    let last = c.later.ensures in
    record {
      same =
          ap (λ o. kept itself o (of_both_kinds rest d)) (c.note.ensures.lines ∙ ap (λ b. kept itself p (unless (not b) c.later.result)) c.shared.ensures.decides
          ∙ ap (λ l. kept itself p (unless (not (same_name r.name f.name)) l)) last)
          ∙ sym (kept-append itself p (unless (not (same_name r.name f.name)) (later_line r.line f.line)) (of_both_kinds rest d))
          ∙ ap (λ ds. kept itself p (of_both_kinds ds d)) (sym split)
          ∙ c.loop-function.invariant.same;
      told = λ reducers there.
          let all = functions_named (map function_of fs) ++ reducers in
          let one : Contains (functions_named (map function_of fs)) (f.name, f.line) =
          in_maps function_of (λ (g : Function). (g.name, g.line)) fs i f c.loop-function-test.true c.function-item.is in
          let named : is_some c.shared.result ≡ true → r.name ≡ f.name = λ h. (bytes_eq-Decides r.name f.name).0 (sym c.shared.ensures.decides ∙ h) in
          and_then (IsRepeatedIn all) c.args.told.now c.loop-function.told c.note.new.self (c.loop-function.invariant.told reducers there)
          (found_true (IsRepeatedIn all) c.loop-function.told c.note.new.self c.later.result c.shared.result
          (shared_true all r.name (earlier_line r.line f.line) c.later.result c.shared.result
          (λ h. subst (λ (l : ℕ). AreBothIn all (r.name, earlier_line r.line f.line) (r.name, l)) (sym last)
          (shared_both (functions_named (map function_of fs)) reducers r.name r.line f.line (subst (λ (n : Name). Contains (functions_named (map function_of fs)) (n, f.line)) (sym (named h)) one) there))
          c.shared.ensures.holds)
          c.note.ensures.told);
    }
