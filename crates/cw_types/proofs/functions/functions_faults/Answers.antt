use Rattle.std.proofs.Common.{◌≡◌, ◌∷◌, ◌+◌, List, Contains, drop, map, flat_map, ap, sym, subst, ◌∙◌, arith}
use Rattle.std.proofs.lemmas.Grind.{common_steps}
use Rattle.cw_text.specs.Rising.{kept}
use Rattle.cw_model.specs.Syntax.{Function}
use Rattle.cw_model.specs.Typing.{faults_of}
use Rattle.cw_text.specs.lemmas.Kept.{kept-append}
use Rattle.cw_tree.specs.declared.syntax.Function.{Function as CodeFunction}
use Rattle.cw_tree.specs.SyntaxView.{program_of, function_of}
use Rattle.cw_text.specs.RecordedReasons.{itself, lines_at}
use Rattle.cw_types.specs.ReasonMeaning.{BreaksRule, OfFunction}
use Rattle.cw_types.specs.Within.{IsToldIn}
use Rattle.cw_types.proofs.Repeating.{in_map}
use Rattle.cw_text.specs.lemmas.RecordingReasons.{and_then, weaken}
use Rattle.cw_types.proofs.functions.functions_faults.Goals as goal

pub loop-function-preserved : goal.loop-function-preserved
loop-function-preserved c =
    let G = c.args.globals.now in
    let P = program_of G.ast.now in
    let i = c.loop-function.function-index in
    let items = c.as_slice-function-items.result.now in
    let fs = G.ast.now.functions.items in
    let f = function_of c.function-item.result in
    let rest = map function_of (drop (i + 1) fs) in
    let step : map function_of (drop i items) ≡ f ∷ map function_of (drop (i + 1) items) = grind (arith, common_steps) in
    let same = c.as_slice-function-items.ensures.value in
    let split : map function_of (drop i fs) ≡ f ∷ rest =
    ap (λ xs. map function_of (drop i xs)) (sym same) ∙ step ∙ ap (λ xs. f ∷ map function_of (drop (i + 1) xs)) same in
    let there = subst (λ (gs : List CodeFunction). Contains (map function_of gs) f) same (in_map function_of items i c.function-item.result c.loop-function-test.true c.function-item.is) in
    let p = lines_at c.loop-function.told.places in
    record {
      same =
          ap (λ o. kept itself o (flat_map (faults_of P) rest)) c.in_ok-function_faults.ensures.lines
          ∙ sym (kept-append itself p (faults_of P f) (flat_map (faults_of P) rest))
          ∙ ap (λ (gs : List Function). kept itself p (flat_map (faults_of P) gs)) (sym split)
          ∙ c.loop-function.invariant.same;
      told =
          and_then (BreaksRule P) c.args.told.now c.loop-function.told c.function_faults.new.told c.loop-function.invariant.told
          (weaken (IsToldIn G c.function-item.result) (BreaksRule P) c.loop-function.told c.function_faults.new.told (λ line r h. OfFunction f there h) c.in_ok-function_faults.ensures.told);
    }
