-- A program that types and ownership accept can be lowered.
use Rattle.std.proofs.Common.{◌≡◌, Bool, true, false, List, [], ◌∷◌, refl, sym, ◌∙◌, ap}
use Rattle.std.specs.Prelude.{if◌then◌else◌, not, ◌&&◌, ◌||◌, flat_map, map}
use Rattle.std.specs.List.{list_all, list_any}
use Rattle.std.proofs.lemmas.Bool.{and_parts, or_parts}
use Rattle.cw_facts.specs.Tests.{not_true, both_true}
use Rattle.cw_model.specs.Lines.{unless}
use Rattle.cw_model.specs.Syntax.{Name, Param, Function, Program, is_array_param}
use Rattle.cw_model.specs.Names.{same_name, is_among, differ}
use Rattle.cw_model.specs.Meaning.{function_named}
use Rattle.cw_model.specs.Answers.{main_name}
use Rattle.cw_model.specs.Typing.{known_of, is_head, Returns, WithInt, Alone, faults_of, IsWellTyped}
use Rattle.cw_model.specs.Ownership.{NoLoop, Joins, owner_faults_of, KeepsOwnership}
use Rattle.cw_model.specs.lemmas.Kept.{left_none, right_none, kept}
use Rattle.cw_model.specs.lemmas.Names.{turned, names_of}
use Rattle.cw_loops.specs.Lowered.{is_plain}
use Rattle.cw_loops.specs.Lowerable.{nothing_around, integers_of, arrays_of, can_lower_function, is_lowerable}
use Rattle.cw_loops.specs.LoweringLaws.{MainTakesIntegers}
use Rattle.cw_loops.specs.SourceLike.{is_source_block, is_source_function, is_source_like}
use Rattle.cw_loops.specs.lemmas.Heads.{no_kind, others_differ, int_kind, array_kind, parameters_known, head_of, heads_kept}
use Rattle.cw_loops.proofs.Agreeing.{Agree}
use Rattle.cw_loops.proofs.Lowering.{block_can}

arrays_differ : (ps : List Param) → differ (names_of ps) ≡ true → differ (arrays_of ps) ≡ true
arrays_differ [] h = refl
arrays_differ (p ∷ ps) h = let d = others_differ p ps h in go (is_array_param p) (no_kind p.name ps d.0).1 (arrays_differ ps d.1)
  where
    go : (k : Bool) → is_among p.name (arrays_of ps) ≡ false → differ (arrays_of ps) ≡ true → differ (if k then p.name ∷ arrays_of ps else arrays_of ps) ≡ true
    go true alone more = both_true (not (is_among p.name (arrays_of ps))) (differ (arrays_of ps)) (ap not alone) more
    go false alone more = more

-- the invariant holds at the start of a function
pub begins : (fs : List Function) (ps : List Param) (returns : Returns) → differ (names_of ps) ≡ true
    → Agree (nothing_around fs) (integers_of ps) (arrays_of ps) (known_of ps) (names_of ps) NoLoop returns
begins fs ps returns h = record {
  ints_are = int_kind ps h;
  arrays_are = array_kind ps h;
  owners_are = parameters_known ps h;
  outer_is = λ x. refl;
  sliced_known = λ x o. absurd cc;
  over_known = λ x o. absurd cc;
  given_known = λ x plain o. absurd cc;
  indexed = λ a e may o. absurd cc;
  not_indexed = λ a e may o. refl;
  may = λ known e o. refl;
}

module _ (program : Program) where
  function_can : (f : Function) → faults_of program f ≡ [] → owner_faults_of program.functions f ≡ [] → is_source_function f ≡ true → can_lower_function program.functions f ≡ true
  function_can f types owns source =
      let head = head_of program f types in
      let s = and_parts (is_plain f.name) (is_source_block f.body) source in
      both_true (is_plain f.name) _ s.0 (both_true (differ (arrays_of f.params)) _ (arrays_differ f.params head.params)
      (block_can program program.functions refl f.body (nothing_around program.functions) (integers_of f.params) (arrays_of f.params)
      (known_of f.params) (names_of f.params) NoLoop (if f.gives_int then WithInt else Alone) refl
      (begins program.functions f.params (if f.gives_int then WithInt else Alone) head.params) 1 Joins [] [] s.1 (right_none (unless (is_head program f) f.line) _ types) owns (λ x o. well x)))
    where
      well : (x : Name) → (is_among x [] || not (is_among x [])) ≡ true
      well x = refl

  all_can : (gs : List Function) → flat_map (faults_of program) gs ≡ [] → flat_map (owner_faults_of program.functions) gs ≡ []
      → list_all is_source_function gs ≡ true → list_all (can_lower_function program.functions) gs ≡ true
  all_can [] types owns source = refl
  all_can (g ∷ gs) types owns source =
      let s = and_parts (is_source_function g) (list_all is_source_function gs) source in
      both_true (can_lower_function program.functions g) _ (function_can g (left_none _ _ types) (left_none _ _ owns) s.0) (all_can gs (right_none _ _ types) (right_none _ _ owns) s.1)

  pub owned_can : IsWellTyped program → KeepsOwnership program → is_source_like program ≡ true → is_lowerable program ≡ true
  owned_can types owns source = all_can program.functions (heads_kept program types) owns source

  no_array : (ps : List Param) → not (list_any (λ p. is_array_param p) ps) ≡ true → list_all (λ p. not (is_array_param p)) ps ≡ true
  no_array [] h = refl
  no_array (p ∷ ps) h =
      let n = or_parts (is_array_param p) (list_any (λ p. is_array_param p) ps) (not_true _ h) in
      both_true (not (is_array_param p)) _ (ap not n.0) (no_array ps (ap not n.1))

  main_among : (gs : List Function) → flat_map (faults_of program) gs ≡ [] → is_among main_name (map (λ f. f.name) gs) ≡ true
      → list_all (λ p. not (is_array_param p)) (function_named main_name gs).params ≡ true
  main_among [] types there = absurd cc
  main_among (g ∷ gs) types there = go (same_name main_name g.name) refl there (head_of program g (left_none _ _ types)).main (λ o. main_among gs (right_none _ _ types) o)
    where
      here : same_name main_name g.name ≡ true → (not (same_name g.name main_name) || (g.gives_int && not (list_any (λ p. is_array_param p) g.params)))
          ≡ true → list_all (λ p. not (is_array_param p)) g.params ≡ true
      here e h = no_array g.params (and_parts g.gives_int (not (list_any (λ p. is_array_param p) g.params))
          (ap (λ s. not s || (g.gives_int && not (list_any (λ p. is_array_param p) g.params))) (sym (turned g.name main_name ∙ e)) ∙ h)).1

      go : (s : Bool) → same_name main_name g.name ≡ s → (if s then true else is_among main_name (map (λ f. f.name) gs)) ≡ true
          → (not (same_name g.name main_name) || (g.gives_int && not (list_any (λ p. is_array_param p) g.params))) ≡ true →
          (is_among main_name (map (λ f. f.name) gs) ≡ true → list_all (λ p. not (is_array_param p)) (function_named main_name gs).params ≡ true)
          → list_all (λ p. not (is_array_param p)) (if s then g else function_named main_name gs).params ≡ true
      go true e o h more = here e h
      go false e o h more = more o

  pub main_plain : IsWellTyped program → MainTakesIntegers program
  main_plain h = main_among program.functions (heads_kept program h) (kept (is_among main_name (map (λ f. f.name) program.functions)) 1 (left_none _ _ h))
