-- Consequences of typing for arrays and arguments, whether writable or not.
use Rattle.std.specs.Prelude.{◌≡◌, Bool, true, false, ◌&&◌, if◌then◌else◌, List, [], ◌∷◌}
use Rattle.std.proofs.Common.{refl}
use Rattle.std.specs.List.{list_all}
use Rattle.std.proofs.lemmas.Bool.{and_parts}
use Rattle.cw_model.specs.declared.syntax.NameKind.{NameKind}
use Rattle.cw_model.specs.declared.syntax.NameKind.TheVariants as name_kind
use Rattle.cw_model.specs.Syntax.{Name, Expr, Number, Variable, Element, Length, Negative, Not, Binary, Param}
use Rattle.cw_model.specs.Syntax.{is_array_kind, is_written_kind, is_array_param}
use Rattle.cw_model.specs.Names.{same_name}
use Rattle.cw_model.specs.Typing.{Known, is_fine, is_array, is_writable, is_argument, are_arguments}

-- the argument fits a parameter, apart from whether an array is writable
abbrev pub fits_kind : Known → (array : Bool) → Expr → Bool
fits_kind known false e = is_fine known e
fits_kind known true (Variable a) = is_array known a
fits_kind known true _ = false

-- there is one fitting argument for each parameter, apart from whether arrays are writable
abbrev pub fit_kinds : Known → List Param → List Expr → Bool
fit_kinds known [] [] = true
fit_kinds known (p ∷ ps) (e ∷ es) = fits_kind known (is_array_param p) e && fit_kinds known ps es
fit_kinds known _ _ = false

-- a writable name is an array
pub written_is_array : (k : NameKind) → is_written_kind k ≡ true → is_array_kind k ≡ true
written_is_array name_kind.Integer h = cc
written_is_array name_kind.Array h = refl
written_is_array name_kind.Const h = refl

pub writable_array : (known : Known) (a : Name) → is_writable known a ≡ true → is_array known a ≡ true
writable_array [] a h = cc
writable_array (k ∷ known) a h = by (same_name a k.0) h (writable_array known a)
  where
    by : (b : Bool) → (if b then is_written_kind k.1 else is_writable known a) ≡ true
        → (is_writable known a ≡ true → is_array known a ≡ true)
        → (if b then is_array_kind k.1 else is_array known a) ≡ true
    by true h more = written_is_array k.1 h
    by false h more = more h

pub writable_arrays : (known : Known) (over : List Name) → list_all (λ a. is_writable known a) over ≡ true
    → list_all (λ a. is_array known a) over ≡ true
writable_arrays known [] h = refl
writable_arrays known (a ∷ over) h =
    let first = writable_array known a (and_parts (is_writable known a) (list_all (λ a. is_writable known a) over) h).0 in
    let more =
    writable_arrays known over (and_parts (is_writable known a) (list_all (λ a. is_writable known a) over) h).1 in
    cc

pub argument_fits : (known : Known) (k : NameKind) (e : Expr) → is_argument known k e ≡ true
    → fits_kind known (is_array_kind k) e ≡ true
argument_fits known name_kind.Integer e h = h
argument_fits known name_kind.Array (Variable a) h = writable_array known a h
argument_fits known name_kind.Array (Number n) h = cc
argument_fits known name_kind.Array (Element a e) h = cc
argument_fits known name_kind.Array (Length a) h = cc
argument_fits known name_kind.Array (Negative e) h = cc
argument_fits known name_kind.Array (Not e) h = cc
argument_fits known name_kind.Array (Binary o d e) h = cc
argument_fits known name_kind.Const (Variable a) h = h
argument_fits known name_kind.Const (Number n) h = cc
argument_fits known name_kind.Const (Element a e) h = cc
argument_fits known name_kind.Const (Length a) h = cc
argument_fits known name_kind.Const (Negative e) h = cc
argument_fits known name_kind.Const (Not e) h = cc
argument_fits known name_kind.Const (Binary o d e) h = cc

pub arguments_fit : (known : Known) (ps : List Param) (es : List Expr) → are_arguments known ps es ≡ true
    → fit_kinds known ps es ≡ true
arguments_fit known [] [] h = refl
arguments_fit known [] (e ∷ es) h = cc
arguments_fit known (p ∷ ps) [] h = cc
arguments_fit known (p ∷ ps) (e ∷ es) h =
    let first = argument_fits known p.kind e (and_parts (is_argument known p.kind e) (are_arguments known ps es) h).0 in
    let more =
    arguments_fit known ps es (and_parts (is_argument known p.kind e) (are_arguments known ps es) h).1 in
    cc
