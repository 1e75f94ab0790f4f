-- The kind of `return` that a block may contain, in the code.
use Rattle.std.specs.Prelude.{if◌then◌else◌}
use Rattle.cw_model.specs.Syntax.{Function}
use Rattle.cw_model.specs.Typing as rule
use Rattle.cw_types.specs.declared.rules.Returns.{Returns}
use Rattle.cw_types.specs.declared.rules.Returns.TheVariants as returns

-- the abstraction of the kind of `return` that a block may contain
abbrev pub returns_of : Returns → rule.Returns
returns_of returns.Nowhere = rule.Nowhere
returns_of returns.WithInt = rule.WithInt
returns_of returns.Alone = rule.Alone

-- the kind of `return` that the body of a function may contain
abbrev pub returns_in : Function → rule.Returns
returns_in f = if f.gives_int then rule.WithInt else rule.Alone
