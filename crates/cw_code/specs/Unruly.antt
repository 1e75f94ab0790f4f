-- Codes that are not well-formed, each for one reason.
use Rattle.std.specs.Prelude.{ℕ, ◌+◌, pos, true, if◌then◌else◌, nat_eq, List, [], ◌∷◌, None}
use Rattle.cw_model.specs.declared.syntax.CallKind.{CallKind}
use Rattle.cw_model.specs.declared.syntax.CallKind.TheVariants.{Plain, Spawned}
use Rattle.cw_model.specs.Sites.{Of}
use Rattle.cw_code.specs.declared.code.Callee.{Callee}
use Rattle.cw_code.specs.declared.code.Func.{Func}
use Rattle.cw_code.specs.declared.code.Instr.{Instr}
use Rattle.cw_code.specs.declared.code.Instr.TheVariants.{Push, Call, SetElement, Sync, ReturnValue}
use Rattle.cw_code.specs.declared.code.Loan.TheVariants.{Array}
use Rattle.cw_code.specs.Code.{CodeSite, Code}

-- a function that returns a value and has no parameters and no slots
abbrev pub nameless : (start end : ℕ) → Func
nameless start end =
    record
    { start = start; end = end; gives_int = true; params = 0; slots = 0; array_params = 0; arrays = 0; readers = 0 }

-- a call of function 1, at site 1
abbrev pub call_it : Callee
call_it = record { function = 1; site = 1; line = 1; target = None; passed = 0; lent = 0 }

-- site 1, of this kind
abbrev pub its_site : CallKind → CodeSite
its_site kind = record { told = record { number = 1; kind = Of kind; line = 1; callee = [] }; function = 1 }

-- `main` up to this place, then a function of two instructions, and a call site of this kind
abbrev pub two_functions : (end : ℕ) → CallKind → List Instr → Code
two_functions end kind instrs = record {
  instrs = instrs;
  funcs = nameless 0 end ∷ nameless end (end + 2) ∷ [];
  main = 0;
  main_line = 1;
  sites = its_site kind ∷ [];
  reducers = [];
  tags = [];
  passed = [];
  lent = [];
}

-- `main` has one instruction, a join, and falls through into the next function
abbrev pub falling : Code
falling = two_functions 1 Plain (Sync ∷ Push (pos 1) ∷ ReturnValue ∷ [])

-- `main` spawns with an operand that is not an argument
abbrev pub crowded : Code
crowded =
    two_functions 5 Spawned
    (Push (pos 7) ∷ Call Spawned call_it ∷ Sync ∷ Push (pos 0) ∷ ReturnValue ∷ Push (pos 1) ∷ ReturnValue ∷ [])

-- `main` lends its array to its callee, which reads one array and takes `taken` arrays
abbrev pub lending : (end taken : ℕ) → CallKind → List Instr → Code
lending end taken kind instrs =
    record (two_functions end kind instrs) {
      funcs =
          record (nameless 0 end) { arrays = 1 }
          ∷ record (nameless end (end + 2)) { array_params = taken; arrays = taken; readers = 1 } ∷ [];
      passed = (if nat_eq taken 0 then [] else 0 ∷ []) ∷ [];
      lent = (Array 0 ∷ []) ∷ [];
    }

-- `main` spawns a call that reads its array, and writes the array before the join
abbrev pub overwritten : Code
overwritten =
    lending 7 0 Spawned
    (Call Spawned call_it ∷ Push (pos 0) ∷ Push (pos 1) ∷ SetElement 0 1 ∷ Sync ∷ Push (pos 0) ∷ ReturnValue
    ∷ Push (pos 1) ∷ ReturnValue ∷ [])

-- a call takes the array that it is lent
abbrev pub overlent : Code
overlent = lending 2 1 Plain (Call Plain call_it ∷ ReturnValue ∷ Push (pos 1) ∷ ReturnValue ∷ [])

-- `main` joins with an operand
abbrev pub littered : Code
littered = two_functions 3 Plain (Push (pos 7) ∷ Sync ∷ ReturnValue ∷ Push (pos 1) ∷ ReturnValue ∷ [])

-- `main` spawns at the site of a plain call
abbrev pub mistaken : Code
mistaken =
    two_functions 4 Plain (Call Spawned call_it ∷ Sync ∷ Push (pos 0) ∷ ReturnValue ∷ Push (pos 1) ∷ ReturnValue ∷ [])
