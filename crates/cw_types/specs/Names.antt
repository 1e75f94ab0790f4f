-- The kind that is required of a name, and the names that are declared.
use Rattle.std.specs.Prelude.{◌≡◌, Bool, false, not, List, map}
use Rattle.cw_model.specs.declared.syntax.NameKind.{NameKind}
use Rattle.cw_model.specs.declared.syntax.NameKind.TheVariants.{Integer, Array, Const}
use Rattle.cw_model.specs.Syntax.{Name, Param, Function, is_array_kind, is_written_kind}
use Rattle.cw_model.specs.Typing.{Known, is_known}

-- the kinds that fit a required kind: an integer, an array that may be written, or any array
abbrev pub accepts_kind : NameKind → (NameKind → Bool)
accepts_kind Integer = λ kind. not (is_array_kind kind)
accepts_kind Array = is_written_kind
accepts_kind Const = is_array_kind

-- the name is neither a known integer nor a known array
abbrev pub IsUnknown : Name → Known → Type 0
IsUnknown x known = (wanted : NameKind) → is_known x (accepts_kind wanted) known ≡ false

-- the newest name of this spelling has this kind, and so it fits where this kind fits
abbrev pub known_as : Name → NameKind → Known → Type 0
known_as x kind known = (wanted : NameKind) → is_known x (accepts_kind wanted) known ≡ accepts_kind wanted kind

-- the names without their kinds
abbrev pub known_names : Known → List Name
known_names known = map (λ k. k.0) known

-- the names of functions
abbrev pub function_names : List Function → List Name
function_names functions = map (λ f. f.name) functions

-- the names of parameters
abbrev pub param_names : List Param → List Name
param_names params = map (λ p. p.name) params
