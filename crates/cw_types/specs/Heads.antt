-- The parts of a statement outside of its blocks, with each name looked up.
use Rattle.std.specs.Prelude.{map, option_map}
use Rattle.cw_tree.specs.declared.syntax.Call.{Call}
use Rattle.cw_tree.specs.declared.syntax.Head.{Head}
use Rattle.cw_tree.specs.declared.syntax.Cut.{Cut}
use Rattle.cw_tree.specs.SyntaxView.{expr_of, exprs_of}
use Rattle.cw_tree.specs.declared.resolved.Call.{Call as Made}
use Rattle.cw_tree.specs.Resolved as spec
use Rattle.cw_tree.specs.ResolvedView.{use_of, listed_of, argument_of}

-- the resolved call
abbrev pub resolved_call : spec.Lists → spec.Locals → Call → spec.Stmt
resolved_call lists locals c =
    spec.Call c.kind c.site (option_map (spec.use_of locals.ints) c.target) (spec.listed_in lists.functions c.callee)
    (spec.resolved_arguments locals (spec.params_of lists c.callee) (exprs_of c.arguments.items))

-- the resolved head of a loop with this body
abbrev pub resolved_head : spec.Locals → Head → spec.Block → spec.Head
resolved_head locals h body = spec.head_with locals h.variable (expr_of h.from) (expr_of h.to) h.grain h.over.items body

-- the resolved cut
abbrev pub resolved_cut : spec.Locals → Cut → spec.Parts
resolved_cut locals c = spec.parts_of locals c.array (expr_of c.at) c.left c.right

-- the abstraction of a resolved call of the code
abbrev pub call_of : Made → spec.Stmt
call_of c =
    spec.Call c.kind c.site (option_map use_of c.target) (listed_of c.callee) (map argument_of c.arguments.items)
