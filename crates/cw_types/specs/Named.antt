-- Functions and reducers by their names and lines.
use Rattle.std.specs.Prelude.{ℕ, List, map, flat_map}
use Rattle.cw_model.specs.Syntax.{Name, Function, Reducer}
use Rattle.cw_model.specs.Typing.{of_both_kinds}
use Rattle.cw_tree.specs.declared.syntax.Function as code_function
use Rattle.cw_tree.specs.declared.syntax.Reducer as code_reducer
use Rattle.cw_tree.specs.SyntaxView.{function_of, reducer_of}

-- the name and the line of each function
abbrev pub functions_named : List Function → List (Name × ℕ)
functions_named fs = map (λ f. (f.name, f.line)) fs

-- the name and the line of each reducer
abbrev pub reducers_named : List Reducer → List (Name × ℕ)
reducers_named rs = map (λ r. (r.name, r.line)) rs

-- the name and the line of each function of the code
abbrev pub listed_functions : List code_function.Function → List (Name × ℕ)
listed_functions fs = functions_named (map function_of fs)

-- the name and the line of each reducer of the code
abbrev pub listed_reducers : List code_reducer.Reducer → List (Name × ℕ)
listed_reducers rs = reducers_named (map reducer_of rs)

-- the later line of each reducer and each function with the same name
abbrev pub shared_lines : List code_function.Function → List code_reducer.Reducer → List ℕ
shared_lines fs rs = flat_map (of_both_kinds (listed_functions fs)) (listed_reducers rs)

-- the later line of this reducer and each function with the same name
abbrev pub lines_shared_by : List code_function.Function → code_reducer.Reducer → List ℕ
lines_shared_by fs r = of_both_kinds (listed_functions fs) (r.name, r.line)
