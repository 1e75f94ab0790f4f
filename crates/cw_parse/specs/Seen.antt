-- The abstraction functions: what the values of the code represent.
use Rattle.std.specs.Prelude.{◌≡◌, map}
use Rattle.cw_model.specs.Grammar.{Head}
use Rattle.cw_model.specs.Syntax as model
use Rattle.cw_model.specs.Syntax.{Name}
use Rattle.cw_tree.specs.declared.syntax.Expr.{Expr}
use Rattle.cw_tree.specs.declared.syntax.Head as code
use Rattle.cw_tree.specs.declared.syntax.Ast.{Ast}
use Rattle.cw_parse.specs.declared.opening.Opening.{Opening}
use Rattle.cw_parse.specs.declared.opening.Opening.TheVariants as opening
use Rattle.cw_parse.specs.declared.item.Item.{Item}
use Rattle.cw_parse.specs.declared.item.Item.TheVariants as item
use Rattle.cw_tree.specs.SyntaxView.{expr_of, function_of, reducer_of}
use Rattle.cw_parse.specs.Parts as part

-- the abstraction of the head of a loop
abbrev pub head_of : code.Head → Head
head_of h =
    record {
      variable = h.variable;
      tested = h.tested;
      stepped = h.stepped;
      from = expr_of h.from;
      to = expr_of h.to;
      grain = h.grain;
      over = h.over.items;
    }

-- the abstraction of the opening of a block
abbrev pub opening_of : Opening → part.Opening
opening_of (opening.If e) = part.If (expr_of e)
opening_of (opening.While e) = part.While (expr_of e)
opening_of (opening.For h) = part.For (head_of h.value)
opening_of opening.Scope = part.Scope
opening_of (opening.Cut c) = part.Cut c.value.array (expr_of c.value.at) c.value.left c.value.right
opening_of (opening.Region tag) = part.Region tag

-- the abstraction of a reducer or a function
abbrev pub item_of : Item → part.Item
item_of (item.Total r) = part.Total (reducer_of r)
item_of (item.Code f) = part.Code (function_of f)

-- the abstraction of a name and an expression
abbrev pub named_expr_of : Name × Expr → Name × model.Expr
named_expr_of x = (x.0, expr_of x.1)

-- the abstraction of the items of a source
abbrev pub items_of : Ast → part.Items
items_of ast = (map reducer_of ast.reducers.items, map function_of ast.functions.items)

-- the items are the items before with this one appended
abbrev pub IsPushed : Ast → Item → Ast → Type 0
IsPushed before found after = items_of after ≡ part.push_item (items_of before) (item_of found)
