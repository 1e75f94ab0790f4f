use Rattle.std.proofs.Common.{◌≡◌, ℕ, ◌∷◌, ◌+◌, List, Contains, is_some, not, drop, map, ap, sym, subst, refl, ◌∙◌, arith}
use Rattle.std.proofs.lemmas.Grind.{common_steps}
use Rattle.cw_model.specs.Lines.{unless}
use Rattle.cw_text.specs.Rising.{kept}
use Rattle.cw_model.specs.Names.{is_among}
use Rattle.cw_model.specs.Syntax.{Name, Function}
use Rattle.cw_model.specs.Typing.{repeated}
use Rattle.cw_model.specs.declared.syntax.NameKind.TheVariants as name_kind
use Rattle.cw_text.specs.lemmas.Kept.{kept-append}
use Rattle.cw_tree.specs.SyntaxView.{function_of}
use Rattle.cw_types.specs.Named.{functions_named}
use Rattle.cw_types.specs.Names.{known_names}
use Rattle.cw_types.specs.Scope.{Declared, kinds, with_local}
use Rattle.cw_text.specs.RecordedReasons.{itself, lines_at}
use Rattle.cw_types.specs.ReasonMeaning.{IsRepeatedIn}
use Rattle.cw_types.proofs.Repeating.{both_mapped, more_earlier, repeated_true}
use Rattle.cw_text.specs.lemmas.RecordingReasons.{and_then, found_true}
use Rattle.cw_types.proofs.repeated.repeated_functions.Goals as goal

pub loop-function-preserved : goal.loop-function-preserved
loop-function-preserved c =
    let xs = c.args.functions.now in
    let i = c.loop-function.function-index in
    let x = c.function-item.result in
    let name = x.name in
    let line = x.line in
    let here : Name × ℕ = (name, line) in
    let rest = functions_named (map function_of (drop (i + 1) xs)) in
    let names = known_names (kinds c.loop-function.earlier) in
    let all = functions_named (map function_of xs) in
    let split : functions_named (map function_of (drop i xs)) ≡ here ∷ rest = grind (arith, common_steps) in
    let p = lines_at c.loop-function.told.places in
    let found : is_some c.repeated.result ≡ is_among name names = c.repeated.ensures.decides in
    let declared = c.in_ok-declare.ensures ∙ ap (λ (n : Name). with_local n name_kind.Integer line c.loop-function.earlier) c.as_bytes.ensures in
    record {
      same =
          ap (λ (ds : List Declared). kept itself (lines_at c.note.new.self.places) (repeated rest (known_names (kinds ds)))) declared
          ∙ ap (λ o. kept itself o (repeated rest (name ∷ names))) (c.note.ensures.lines ∙ ap (λ b. kept itself p (unless (not b) line)) found)
          ∙ sym (kept-append itself p (unless (not (is_among name names)) line) (repeated rest (name ∷ names)))
          ∙ ap (λ ds. kept itself p (repeated ds names)) (sym split)
          ∙ c.loop-function.invariant.same;
      there = λ d h. more_earlier function_of (λ (g : Function). (g.name, g.line)) xs i x here (map (λ (e : Declared). (e.name, e.line)) c.loop-function.earlier) d c.loop-function-test.true c.function-item.is refl
          (c.loop-function.invariant.there d) (subst (λ (ds : List Declared). Contains (map (λ (e : Declared). (e.name, e.line)) ds) d) declared h);
      told =
          and_then (IsRepeatedIn all) c.args.told.now c.loop-function.told c.note.new.self c.loop-function.invariant.told
          (found_true (IsRepeatedIn all) c.loop-function.told c.note.new.self line c.repeated.result
          (repeated_true all c.loop-function.earlier name line c.repeated.result
          (λ other h. both_mapped function_of (λ (g : Function). (g.name, g.line)) xs i x (name, other) c.loop-function-test.true c.function-item.is (c.loop-function.invariant.there (name, other) h))
          c.repeated.ensures.holds)
          c.note.ensures.told);
    }
