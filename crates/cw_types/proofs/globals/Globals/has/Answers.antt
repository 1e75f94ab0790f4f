use Rattle.std.proofs.Common.{ap, sym, ◌∙◌, ◌||◌}
use Rattle.cw_model.specs.Names.{is_among}
use Rattle.cw_tree.specs.SyntaxView.{program_of}
use Rattle.cw_tree.specs.Resolved.{function_names, reducer_names}
use Rattle.cw_tree.specs.lemmas.Names.{among_append}
use Rattle.cw_types.proofs.globals.Globals.has.Goals as goal

pub returns-then-has : goal.returns-then-has
returns-then-has c =
    let program = program_of c.args.self.now.ast.now in
    let x = c.args.name.now in
    let here = c.has.ensures ∙ ap (is_among x) c.args.self.now.functions_named in
    c.if-has.true
    ∙ sym (among_append x (function_names program.functions) (reducer_names program.reducers)
    ∙ ap (λ b. b || is_among x (reducer_names program.reducers)) (sym here ∙ c.if-has.true))

pub returns-else-has : goal.returns-else-has
returns-else-has c =
    let program = program_of c.args.self.now.ast.now in
    let x = c.args.name.now in
    let here = c.has.ensures ∙ ap (is_among x) c.args.self.now.functions_named in
    c.has-else-has.ensures ∙ ap (is_among x) c.args.self.now.reducers_named
    ∙ sym (among_append x (function_names program.functions) (reducer_names program.reducers)
    ∙ ap (λ b. b || is_among x (reducer_names program.reducers)) (sym here ∙ c.if-has.false))
