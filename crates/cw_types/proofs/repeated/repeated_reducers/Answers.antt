use Rattle.std.proofs.Common.{◌≡◌, ℕ, ◌∷◌, ◌+◌, List, Contains, is_some, not, drop, map, ap, sym, subst, refl, ◌∙◌, arith}
use Rattle.std.proofs.lemmas.Grind.{common_steps}
use Rattle.cw_model.specs.Lines.{unless}
use Rattle.cw_text.specs.Rising.{kept}
use Rattle.cw_model.specs.Names.{is_among}
use Rattle.cw_model.specs.Syntax.{Name, Reducer}
use Rattle.cw_model.specs.Typing.{repeated}
use Rattle.cw_model.specs.declared.syntax.NameKind.TheVariants as name_kind
use Rattle.cw_text.specs.lemmas.Kept.{kept-append}
use Rattle.cw_tree.specs.SyntaxView.{reducer_of}
use Rattle.cw_types.specs.Named.{reducers_named}
use Rattle.cw_types.specs.Names.{known_names}
use Rattle.cw_types.specs.Scope.{Declared, kinds, with_local}
use Rattle.cw_text.specs.RecordedReasons.{itself, lines_at}
use Rattle.cw_types.specs.ReasonMeaning.{IsRepeatedIn}
use Rattle.cw_types.proofs.Repeating.{both_mapped, more_earlier, repeated_true}
use Rattle.cw_text.specs.lemmas.RecordingReasons.{and_then, found_true}
use Rattle.cw_types.proofs.repeated.repeated_reducers.Goals as goal

pub loop-reducer-preserved : goal.loop-reducer-preserved
loop-reducer-preserved c =
    let xs = c.args.reducers.now in
    let i = c.loop-reducer.reducer-index in
    let x = c.reducer-item.result in
    let name = x.name in
    let line = x.line in
    let here : Name × ℕ = (name, line) in
    let rest = reducers_named (map reducer_of (drop (i + 1) xs)) in
    let names = known_names (kinds c.loop-reducer.earlier) in
    let all = reducers_named (map reducer_of xs) in
    let split : reducers_named (map reducer_of (drop i xs)) ≡ here ∷ rest = grind (arith, common_steps) in
    let p = lines_at c.loop-reducer.told.places in
    let found : is_some c.repeated.result ≡ is_among name names = c.repeated.ensures.decides in
    let declared = c.in_ok-declare.ensures ∙ ap (λ (n : Name). with_local n name_kind.Integer line c.loop-reducer.earlier) c.as_bytes.ensures in
    record {
      same =
          ap (λ (ds : List Declared). kept itself (lines_at c.note.new.self.places) (repeated rest (known_names (kinds ds)))) declared
          ∙ ap (λ o. kept itself o (repeated rest (name ∷ names))) (c.note.ensures.lines ∙ ap (λ b. kept itself p (unless (not b) line)) found)
          ∙ sym (kept-append itself p (unless (not (is_among name names)) line) (repeated rest (name ∷ names)))
          ∙ ap (λ ds. kept itself p (repeated ds names)) (sym split)
          ∙ c.loop-reducer.invariant.same;
      there = λ d h. more_earlier reducer_of (λ (g : Reducer). (g.name, g.line)) xs i x here (map (λ (e : Declared). (e.name, e.line)) c.loop-reducer.earlier) d c.loop-reducer-test.true c.reducer-item.is refl
          (c.loop-reducer.invariant.there d) (subst (λ (ds : List Declared). Contains (map (λ (e : Declared). (e.name, e.line)) ds) d) declared h);
      told =
          and_then (IsRepeatedIn all) c.args.told.now c.loop-reducer.told c.note.new.self c.loop-reducer.invariant.told
          (found_true (IsRepeatedIn all) c.loop-reducer.told c.note.new.self line c.repeated.result
          (repeated_true all c.loop-reducer.earlier name line c.repeated.result
          (λ other h. both_mapped reducer_of (λ (g : Reducer). (g.name, g.line)) xs i x (name, other) c.loop-reducer-test.true c.reducer-item.is (c.loop-reducer.invariant.there (name, other) h))
          c.repeated.ensures.holds)
          c.note.ensures.told);
    }
