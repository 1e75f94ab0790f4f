use Rattle.std.proofs.Common.{rules, ◌≡◌, ◌++◌, List, ℕ, codes, decimal, append_assoc, sym, ap, ◌∙◌}
use Rattle.cw_model.specs.Ints.{trap_number}
use Rattle.cw_report.proofs.writing.write_fault.Goals as goal

pub returns-in-Lexical : goal.returns-in-Lexical
returns-in-Lexical g c = rw (c.in-Lexical.is) c.write_line.ensures

pub returns-in-Syntax : goal.returns-in-Syntax
returns-in-Syntax g c = rw (c.in-Syntax.is) c.write_line-in-Syntax.ensures

pub returns-in-Types : goal.returns-in-Types
returns-in-Types g c = rw (c.in-Types.is) c.write_line-in-Types.ensures

pub returns-in-Ownership : goal.returns-in-Ownership
returns-in-Ownership g c = rw (c.in-Ownership.is) c.write_line-in-Ownership.ensures

pub returns-in-Size : goal.returns-in-Size
returns-in-Size g c = rw (c.in-Size.is) c.write_line-in-Size.ensures

-- one text, grouped in two ways
trap_line : (xs ys : List ℕ) → xs ++ (codes " " ++ ys ++ codes "\n") ≡ xs ++ codes " " ++ ys ++ codes "\n"
trap_line xs ys = sym (ap (λ l. l ++ codes "\n") (append_assoc xs (codes " ") ys) ∙ append_assoc xs (codes " " ++ ys) (codes "\n"))

pub returns-in-Trap : goal.returns-in-Trap
returns-in-Trap g c =
    let front : List ℕ = codes "trap " ++ decimal (trap_number c.in-Trap.code) in
    rw (c.in-Trap.is, ← trap_line front (codes "line " ++ decimal c.in-Trap.line)) (search rules)
