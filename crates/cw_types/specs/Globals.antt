-- Values that are looked up in a program.
use Rattle.std.specs.Prelude.{List, [], Option, Some, None, option_map}
use Rattle.std.specs.Borrow.{Bor}
use Rattle.cw_model.specs.Syntax as model
use Rattle.cw_tree.specs.declared.syntax.Function.{Function}
use Rattle.cw_tree.specs.declared.syntax.Reducer.{Reducer}
use Rattle.cw_tree.specs.SyntaxView.{function_of, reducer_of}

-- the function that a lookup found, if there is one
abbrev pub option_function : Option (Bor Function) → Option model.Function
option_function found = option_map (λ f. function_of f.now) found

-- the parameters of the function that a lookup found, or none
abbrev pub params_in : Option model.Function → List model.Param
params_in None = []
params_in (Some f) = f.params

-- the reducer that a lookup found, if there is one
abbrev pub option_reducer : Option (Bor Reducer) → Option model.Reducer
option_reducer found = option_map (λ r. reducer_of r.now) found
