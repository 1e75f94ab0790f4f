-- Laws of all bytes.
use Rattle.std.specs.Prelude.{◌≡◌, ℕ, List, ◌⊎◌}
use Rattle.cw_model.specs.Syntax.{Program}
use Rattle.cw_text.specs.declared.fault.Fault.{Fault}
use Rattle.cw_text.specs.declared.fault.Fault.TheVariants as fault
use Rattle.cw_compile.specs.Sources.{IsSourceOf, Compiles, IsRejected}

-- bytes are a source of at most one program
abbrev pub HaveOneProgram : Type 0
HaveOneProgram = (bytes : List ℕ) (p q : Program) → IsSourceOf bytes p → IsSourceOf bytes q → p ≡ q

-- bytes that compile are rejected only if memory runs out
abbrev pub CompiledAreNotRefused : Type 0
CompiledAreNotRefused = (bytes : List ℕ) (p : Program) (f : Fault) → Compiles bytes p → IsRejected bytes f
    → f ≡ fault.Memory

-- bytes are rejected for one reason in one line, unless memory runs out
abbrev pub HaveOneRefusal : Type 0
HaveOneRefusal = (bytes : List ℕ) (f g : Fault) → IsRejected bytes f → IsRejected bytes g → (f ≡ g) ⊎ (f ≡ fault.Memory)
    ⊎ (g ≡ fault.Memory)
