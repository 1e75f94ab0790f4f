use Rattle.std.proofs.Common.{Bool, refl, ◌≡◌, ◌∷◌, [], ◌++◌, ◌+◌, ◌&&◌, ◌||◌, not, arith, drop, take, map, true, false, sym, ap, ◌∙◌}
use Rattle.std.proofs.lemmas.Grind.{common_steps}
use Rattle.cw_model.specs.Names.{is_among}
use Rattle.cw_model.specs.Syntax as model
use Rattle.cw_model.specs.Typing.{globals, known_of}
use Rattle.cw_tree.specs.SyntaxView.{param_of, program_of}
use Rattle.cw_types.specs.Names.{param_names}
use Rattle.cw_types.specs.Typing.{are_new}
use Rattle.cw_types.specs.ReasonMeaning.{AreAlike, IsGlobal}
use Rattle.cw_types.proofs.Walking.{new_step}
use Rattle.cw_types.proofs.Repeating.{among_there, both_mapped, in_maps, one_more}
use Rattle.cw_types.proofs.functions.of_params.Goals as goal

pub returns-then-is_param-clause-decides : goal.returns-then-is_param-clause-decides
returns-then-is_param-clause-decides c =
    let program = program_of c.args.globals.now.ast.now in
    let ps = c.args.params.now in
    let p = c.index-params-i.result in
    let before = map param_of (take c.loop-i.i ps) in
    let rest = map param_of (drop (c.loop-i.i + 1) ps) in
    let split : map param_of (drop c.loop-i.i ps) ≡ param_of p ∷ rest = grind (arith, common_steps) in
    let step = ap (are_new program (known_of before)) split ∙ new_step program before (param_of p) rest in
    let among : is_among p.name (param_names before) ≡ true = sym c.if-is_param.ensures in
    let none = sym c.loop-i.invariant ∙ step ∙ ap (λ b. not (b || is_among p.name (globals program)) && are_new program (known_of (before ++ param_of p ∷ [])) rest) among in
    ap not (sym none)

pub returns-then-is_param-clause-holds : goal.returns-then-is_param-clause-holds
returns-then-is_param-clause-holds c =
    let ps = c.args.params.now in
    let p = c.index-params-i.result in
    let among : is_among p.name (param_names (map param_of (take c.loop-i.i ps))) ≡ true = sym c.if-is_param.ensures in
    let both = both_mapped param_of (λ (q : model.Param). q.name) ps c.loop-i.i p p.name c.loop-i-test.true c.index-params-i.is
    (among_there p.name (param_names (map param_of (take c.loop-i.i ps))) among) in
    AreAlike both

pub returns-in-Some-clause-decides : goal.returns-in-Some-clause-decides
returns-in-Some-clause-decides c =
    let program = program_of c.args.globals.now.ast.now in
    let ps = c.args.params.now in
    let p = c.index-params-i.result in
    let before = map param_of (take c.loop-i.i ps) in
    let rest = map param_of (drop (c.loop-i.i + 1) ps) in
    let split : map param_of (drop c.loop-i.i ps) ≡ param_of p ∷ rest = grind (arith, common_steps) in
    let step = ap (are_new program (known_of before)) split ∙ new_step program before (param_of p) rest in
    let none = sym c.loop-i.invariant ∙ step ∙ ap (λ b. not (is_among p.name (param_names before) || b) && are_new program (known_of (before ++ param_of p ∷ [])) rest) (sym c.in-Some.ensures.decides) in
    ap not (sym (none ∙ shut (is_among p.name (param_names before)) (are_new program (known_of (before ++ param_of p ∷ [])) rest)))
  where
    shut : (a b : Bool) → (not (a || true) && b) ≡ false
    shut true b = refl
    shut false b = refl

pub returns-in-Some-clause-holds : goal.returns-in-Some-clause-holds
returns-in-Some-clause-holds c =
    let p = c.index-params-i.result in
    IsGlobal (record {
      name = p.name;
      there = in_maps param_of (λ (q : model.Param). q.name) c.args.params.now c.loop-i.i p c.loop-i-test.true c.index-params-i.is;
      not_new = c.in-Some.ensures.holds [];
    })

pub loop-i-preserved : goal.loop-i-preserved
loop-i-preserved c =
    let program = program_of c.args.globals.now.ast.now in
    let ps = c.args.params.now in
    let p = c.index-params-i.result in
    let before = map param_of (take c.loop-i.i ps) in
    let rest = map param_of (drop (c.loop-i.i + 1) ps) in
    let split : map param_of (drop c.loop-i.i ps) ≡ param_of p ∷ rest = grind (arith, common_steps) in
    let step = ap (are_new program (known_of before)) split ∙ new_step program before (param_of p) rest in
    let among : is_among p.name (param_names before) ≡ false = sym c.if-is_param.ensures in
    let longer : map param_of (take (c.loop-i.i + 1) ps) ≡ before ++ param_of p ∷ [] = one_more param_of ps c.loop-i.i p c.loop-i-test.true c.index-params-i.is in
    ap (λ qs. are_new program (known_of qs) rest) longer
    ∙ sym (step ∙ ap (λ b. not (b || is_among p.name (globals program)) && are_new program (known_of (before ++ param_of p ∷ [])) rest) among
    ∙ ap (λ b. not b && are_new program (known_of (before ++ param_of p ∷ [])) rest) (sym c.in_default.ensures.decides))
    ∙ c.loop-i.invariant
