use Rattle.std.proofs.Common.{◌≡◌, ℕ, ◌∷◌, ◌++◌, ◌+◌, List, drop, map, flat_map, ap, sym, ◌∙◌, arith}
use Rattle.std.proofs.lemmas.Grind.{common_steps}
use Rattle.cw_text.specs.Rising.{kept}
use Rattle.cw_model.specs.Syntax.{Name, Reducer}
use Rattle.cw_model.specs.Typing.{of_both_kinds}
use Rattle.cw_text.specs.lemmas.Kept.{kept-append}
use Rattle.cw_tree.specs.SyntaxView.{function_of, reducer_of}
use Rattle.cw_types.specs.Named.{functions_named, reducers_named}
use Rattle.cw_text.specs.RecordedReasons.{itself, lines_at}
use Rattle.cw_types.specs.ReasonMeaning.{IsRepeatedIn}
use Rattle.cw_types.proofs.Repeating.{in_maps}
use Rattle.cw_text.specs.lemmas.RecordingReasons.{and_then}
use Rattle.cw_types.proofs.repeated.shared_names.Goals as goal

pub loop-reducer-preserved : goal.loop-reducer-preserved
loop-reducer-preserved c =
    let names = functions_named (map function_of c.args.functions.now) in
    let rs = c.args.reducers.now in
    let i = c.loop-reducer.reducer-index in
    let both = of_both_kinds names in
    let here : Name × ℕ = (c.reducer-item.result.name, c.reducer-item.result.line) in
    let rest = reducers_named (map reducer_of (drop (i + 1) rs)) in
    let split : reducers_named (map reducer_of (drop i rs)) ≡ here ∷ rest = grind (arith, common_steps) in
    let p = lines_at c.loop-reducer.told.places in
    record {
      same =
          ap (λ o. kept itself o (flat_map both rest)) c.shared_name.ensures.lines
          ∙ sym (kept-append itself p (both here) (flat_map both rest))
          ∙ ap (λ (ds : List (Name × ℕ)). kept itself p (flat_map both ds)) (sym split)
          ∙ c.loop-reducer.invariant.same;
      told =
          and_then (IsRepeatedIn (names ++ reducers_named (map reducer_of rs))) c.args.told.now c.loop-reducer.told c.shared_name.new.told c.loop-reducer.invariant.told
          (c.shared_name.ensures.told (reducers_named (map reducer_of rs))
          (in_maps reducer_of (λ (r : Reducer). (r.name, r.line)) rs i c.reducer-item.result c.loop-reducer-test.true c.reducer-item.is));
    }
