-- The representations of a fault: its number, its exit status and its line of text.
use Rattle.std.specs.Prelude.{ℕ, List, ◌++◌, codes, decimal}
use Rattle.cw_text.specs.declared.fault.Place.{Place}
use Rattle.cw_model.specs.Ints.{trap_number}
use Rattle.cw_text.specs.declared.fault.Fault.{Fault}
use Rattle.cw_text.specs.declared.fault.Fault.TheVariants as fault

-- the number of a fault; no two kinds have the same number
abbrev pub fault_number : Fault → ℕ
fault_number (fault.Lexical p) = 1
fault_number (fault.Syntax p) = 2
fault_number (fault.Types p) = 3
fault_number (fault.Ownership p) = 4
fault_number (fault.Size p) = 5
fault_number fault.Code = 6
fault_number fault.OverLimit = 7
fault_number (fault.Trap c l o) = 8
fault_number fault.Memory = 9
fault_number fault.Write = 10
fault_number fault.Arguments = 11
fault_number (fault.Strands n) = 12

-- the exit status of a program that ends with this fault
abbrev pub fault_status : Fault → ℕ
fault_status (fault.Lexical p) = 2
fault_status (fault.Syntax p) = 2
fault_status (fault.Types p) = 2
fault_status (fault.Ownership p) = 2
fault_status (fault.Size p) = 2
fault_status fault.Code = 2
fault_status (fault.Trap c l o) = 3
fault_status fault.OverLimit = 4
fault_status fault.Arguments = 5
fault_status fault.Memory = 6
fault_status fault.Write = 7
fault_status (fault.Strands n) = 4

-- the text of a place
abbrev pub place_text : Place → List ℕ
place_text p = codes "line " ++ decimal p.line

-- the line that standard error gets for a fault, without its LF
abbrev pub fault_text : Fault → List ℕ
fault_text (fault.Lexical p) = codes "refused 1 " ++ place_text p
fault_text (fault.Syntax p) = codes "refused 2 " ++ place_text p
fault_text (fault.Types p) = codes "refused 3 " ++ place_text p
fault_text (fault.Ownership p) = codes "refused 4 " ++ place_text p
fault_text (fault.Size p) = codes "refused 5 " ++ place_text p
fault_text fault.Code = codes "refused 6"
fault_text fault.OverLimit = codes "over limit"
fault_text (fault.Trap c l o) =
    codes "trap " ++ decimal (trap_number c) ++ codes " " ++ place_text (record { line = l })
fault_text fault.Memory = codes "memory"
fault_text fault.Write = codes "write failed"
fault_text fault.Arguments = codes "arguments"
fault_text (fault.Strands n) = codes "too many strands"
