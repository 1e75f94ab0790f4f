use Rattle.std.proofs.Common.{◌++◌, length, sym, ap, ◌∙◌}
use Rattle.std.proofs.lemmas.List.{append-nil}
use Rattle.cw_facts.specs.Options.{which_ends}
use Rattle.cw_gen.specs.Emit.{emitted_instrs, emitted_funcs}
use Rattle.cw_gen.proofs.Joins.{no_more}
use Rattle.cw_gen.proofs.functions.functions_with.Goals as goal

pub returns-clause-instrs : goal.returns-clause-instrs
returns-clause-instrs c =
    let functions = c.loop-f.f-iterator.a.rest.now in
    let bodies = c.loop-f.f-iterator.b.rest.now in
    let none = no_more functions bodies (which_ends (length functions) (length bodies) c.in-None.ensures.steps) in
    sym (append-nil c.loop-f.instrs.items) ∙ ap (λ fs. c.loop-f.instrs.items ++ emitted_instrs c.args.first fs) (sym none) ∙ c.loop-f.invariant.instrs

pub returns-clause-funcs : goal.returns-clause-funcs
returns-clause-funcs c =
    let functions = c.loop-f.f-iterator.a.rest.now in
    let bodies = c.loop-f.f-iterator.b.rest.now in
    let none = no_more functions bodies (which_ends (length functions) (length bodies) c.in-None.ensures.steps) in
    sym (append-nil c.loop-f.funcs.items) ∙ ap (λ fs. c.loop-f.funcs.items ++ emitted_funcs c.args.first (length c.loop-f.instrs.items) fs) (sym none) ∙ c.loop-f.invariant.funcs
