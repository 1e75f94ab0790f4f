-- The words that ask for explanations and for the version.
use Rattle.std.specs.Prelude.{◌≡◌, Bool, true, false, if◌then◌else◌, List, [], ◌∷◌, ◌++◌, codes, string_bytes}
use Rattle.std.specs.Str.{bytes_eq}
use Rattle.clap.specs.Words.{Text}
use Rattle.cw_text.specs.declared.fault.Fault.TheVariants as fault
use Rattle.cw_words.specs.declared.asked.Said.{Said}
use Rattle.cw_words.specs.declared.asked.Said.TheVariants as said
use Rattle.cw_words.specs.declared.release.TheConstants.{RELEASE}

-- a word `--explain` occurs before the first word `--`
abbrev pub asks_explain : List Text → Bool
asks_explain [] = false
asks_explain (word ∷ words) =
    if bytes_eq word (codes "--") then false else if bytes_eq word (codes "--explain") then true else asks_explain words

-- the words without each `--explain` before the first `--`
abbrev pub without_explain : List Text → List Text
without_explain [] = []
without_explain (word ∷ words) =
    if bytes_eq word (codes "--") then word ∷ words else
    if bytes_eq word (codes "--explain") then without_explain words else word ∷ without_explain words

-- the only word asks for the version
abbrev pub asks_version : List Text → Bool
asks_version [] = false
asks_version (word ∷ []) = if bytes_eq word (codes "--version") then true else bytes_eq word (codes "-V")
asks_version (word ∷ other ∷ words) = false

-- the name of the program with its version, unless memory ran out
abbrev pub IsVersion : Said → Type 0
IsVersion (said.Help text) = string_bytes text ≡ codes "cilkwork " ++ (RELEASE.now ++ codes "\n")
IsVersion (said.Misuse text) = ⊥
IsVersion (said.Fault f) = f ≡ fault.Memory
