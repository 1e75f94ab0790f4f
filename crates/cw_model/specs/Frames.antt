-- The state of one call: its integers and its arrays, by name.
use Rattle.std.specs.Prelude.{ℤ, pos, List, [], ◌∷◌, ◌++◌, length, take, Option, Some, None}
use Rattle.cw_model.specs.Syntax.{Name}
use Rattle.cw_model.specs.Names.{find, put}

-- integers and arrays in the order of their declaration, and the arrays of the enclosing loops
pub record Frame : Type 0 where
  pub ints : List (Name × ℤ)
  pub arrays : List (Name × List ℤ)
  pub sliced : List Name

-- the frame without names
abbrev pub no_frame : Frame
no_frame = record { ints = []; arrays = []; sliced = [] }

-- the value of an integer
abbrev pub int_of : Frame → Name → ℤ
int_of frame x = find (pos 0) x frame.ints

-- the elements of an array
abbrev pub array_of : Frame → Name → List ℤ
array_of frame a = find [] a frame.arrays

-- assigns a value to an integer
abbrev pub set_int : Name → ℤ → Frame → Frame
set_int x v frame = record { ints = put x v frame.ints; arrays = frame.arrays; sliced = frame.sliced }

-- assigns elements to an array
abbrev pub set_array : Name → List ℤ → Frame → Frame
set_array a xs frame = record { ints = frame.ints; arrays = put a xs frame.arrays; sliced = frame.sliced }

-- declares an integer
abbrev pub new_int : Name → ℤ → Frame → Frame
new_int x v frame = record { ints = frame.ints ++ (x, v) ∷ []; arrays = frame.arrays; sliced = frame.sliced }

-- declares an array
abbrev pub new_array : Name → List ℤ → Frame → Frame
new_array a xs frame = record { ints = frame.ints; arrays = frame.arrays ++ (a, xs) ∷ []; sliced = frame.sliced }

-- enters a loop over these arrays
abbrev pub inside_loop : List Name → Frame → Frame
inside_loop over frame = record { ints = frame.ints; arrays = frame.arrays; sliced = over ++ frame.sliced }

-- the entries that existed before, with their current values
abbrev pub oldest : {V : Type 0} → List (Name × V) → List (Name × V) → List (Name × V)
oldest before now = take (length before) now

-- leaves a block: removes the names that it declared
abbrev pub leave : Frame → Frame → Frame
leave before frame =
    record { ints = oldest before.ints frame.ints; arrays = oldest before.arrays frame.arrays; sliced = before.sliced }

-- assigns the result of a call to its target, if it has one
abbrev pub set_result : Option Name → Option ℤ → Frame → Frame
set_result (Some x) (Some v) frame = set_int x v frame
set_result (Some x) None frame = frame
set_result None v frame = frame
