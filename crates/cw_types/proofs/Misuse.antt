-- A name that is misused in a part of an expression is misused in the whole expression.
use Rattle.std.proofs.Common.{◌≡◌, ◌∷◌, ◌++◌, List, [], refl, arith, ℕ, zero, suc, ◌<◌, length, get_or, map, option_map, slice_get, Option, Some, sym, ap, ◌∙◌, true, false}
use Rattle.std.proofs.lemmas.List.Elements.{Contains-append_left, Contains-append_right}
use Rattle.cw_model.specs.declared.syntax.NameKind.{NameKind}
use Rattle.cw_model.specs.declared.syntax.NameKind.TheVariants as name_kind
use Rattle.cw_model.specs.Syntax.{Expr, Variable, Function, Name, Program, is_array_kind}
use Rattle.cw_model.specs.Typing.{Known, called, is_argument, is_known}
use Rattle.cw_types.specs.Names.{accepts_kind}
use Rattle.cw_tree.specs.declared.syntax.Param.{Param as CodeParam}
use Rattle.cw_types.specs.Parts.{IsBrokenCall, IsBrokenList}
use Rattle.cw_tree.specs.declared.syntax.Expr.{Expr as CodeExpr}
use Rattle.cw_tree.specs.SyntaxView.{expr_of, exprs_of, param_of}
use Rattle.cw_types.specs.Scope.{Declared}
use Rattle.cw_types.specs.Uses.{Use, as_arrays, uses_as_target, uses_in_argument, uses_in_arguments, uses_in_call}
use Rattle.cw_types.specs.Reasons.{IsMisuse, IsMisuseIn, IsNotNew, IsNotNewIn, Misused, Taken, Unfitting, Wrong, is_name, named_array}
use Rattle.cw_types.specs.declared.reason.IllTyped.{IllTyped}

pub in_left : (program : Program) (locals : List Declared) (xs ys zs : List Use) (r : IllTyped) → zs ≡ xs ++ ys →
    IsMisuseIn program locals xs r → IsMisuseIn program locals zs r
in_left program locals xs ys zs r same h =
    rw same (record { name = h.name; there = Contains-append_left xs ys h.name h.there; misused = h.misused })

pub in_right : (program : Program) (locals : List Declared) (xs ys zs : List Use) (r : IllTyped) → zs ≡ xs ++ ys →
    IsMisuseIn program locals ys r → IsMisuseIn program locals zs r
in_right program locals xs ys zs r same h =
    rw same (record { name = h.name; there = Contains-append_right xs ys h.name h.there; misused = h.misused })

pub in_rest : (program : Program) (locals : List Declared) (x : Use) (ys zs : List Use) (r : IllTyped) → zs ≡ x ∷ ys →
    IsMisuseIn program locals ys r → IsMisuseIn program locals zs r
in_rest program locals x ys zs r same h = in_right program locals (x ∷ []) ys zs r same h

pub in_first : (program : Program) (locals : List Declared) (x : Use) (ys zs : List Use) (r : IllTyped) → zs ≡ x ∷ ys →
    IsMisuse program locals x r → IsMisuseIn program locals zs r
in_first program locals x ys zs r same h =
    rw same (record { name = x; there = Contains-append_left (x ∷ []) ys x (0, omega arith, refl); misused = h })

pub not_new_at : (program : Program) (locals : List Declared) (x : Name) (xs ys zs : List Name) (r : IllTyped) → zs ≡ xs ++ (x ∷ ys) →
    IsNotNew program locals x r → IsNotNewIn program locals zs r
not_new_at program locals x xs ys zs r same h =
    rw same (record { name = x; there = Contains-append_right xs (x ∷ ys) x (Contains-append_left (x ∷ []) ys x (0, omega arith, refl)); not_new = h })

pub in_arguments : (program : Program) (locals : List Declared) (ps : List CodeParam) (es : List CodeExpr) (k : ℕ)
    (p : CodeParam) (e : CodeExpr) (r : IllTyped) → k < length ps → k < length es →
    IsMisuseIn program locals (uses_in_argument (get_or ps k p).kind (expr_of (get_or es k e))) r →
    IsMisuseIn program locals (uses_in_arguments (map param_of ps) (exprs_of es)) r
in_arguments program locals [] es k p e r h i m = absurd (omega (arith, h))
in_arguments program locals (q ∷ ps) [] k p e r h i m = absurd (omega (arith, i))
in_arguments program locals (q ∷ ps) (f ∷ es) zero p e r h i m =
    in_left program locals (uses_in_argument q.kind (expr_of f)) (uses_in_arguments (map param_of ps) (exprs_of es))
    (uses_in_arguments (map param_of (q ∷ ps)) (exprs_of (f ∷ es))) r refl m
in_arguments program locals (q ∷ ps) (f ∷ es) (suc k) p e r h i m =
    in_right program locals (uses_in_argument q.kind (expr_of f)) (uses_in_arguments (map param_of ps) (exprs_of es))
    (uses_in_arguments (map param_of (q ∷ ps)) (exprs_of (f ∷ es))) r refl
    (in_arguments program locals ps es k p e r (omega (arith, h)) (omega (arith, i)) m)

pub in_arrays : (program : Program) (locals : List Declared) (names : List Name) (k : ℕ) (d : Name) (r : IllTyped) →
    k < length names → IsMisuse program locals (get_or names k d, name_kind.Array) r → IsMisuseIn program locals (as_arrays names) r
in_arrays program locals [] k d r h m = absurd (omega (arith, h))
in_arrays program locals (a ∷ names) zero d r h m =
    in_first program locals (a, name_kind.Array) (as_arrays names) (as_arrays (a ∷ names)) r refl m
in_arrays program locals (a ∷ names) (suc k) d r h m =
    in_rest program locals (a, name_kind.Array) (as_arrays names) (as_arrays (a ∷ names)) r refl
    (in_arrays program locals names k d r (omega (arith, h)) m)

-- a name as an argument for an array is one use
pub used_alone : (kind : NameKind) (a : Name) → is_array_kind kind ≡ true → uses_in_argument kind (Variable a) ≡ (a, kind) ∷ []
used_alone name_kind.Integer a h = cc
used_alone name_kind.Array a h = refl
used_alone name_kind.Const a h = refl

pub argument_named : (known : Known) (kind : NameKind) (a : Name) → is_array_kind kind ≡ true →
    is_argument known kind (Variable a) ≡ is_known a (accepts_kind kind) known
argument_named known name_kind.Integer a h = cc
argument_named known name_kind.Array a h = refl
argument_named known name_kind.Const a h = refl

pub param_at : (ps : List CodeParam) (k : ℕ) (d p : CodeParam) → k < length ps → p ≡ get_or ps k d → is_array_kind p.kind ≡ true →
    option_map named_array (slice_get (map param_of ps) k) ≡ Some (p.name, true)
param_at [] k d p h e a = absurd (omega (arith, h))
param_at (q ∷ ps) zero d p h e a = rw (sym e) (ap (λ b. Some (p.name, b)) a)
param_at (q ∷ ps) (suc k) d p h e a = param_at ps k d p (omega (arith, h)) e a

pub argument_at : (es : List CodeExpr) (k : ℕ) (d e : CodeExpr) → k < length es → e ≡ get_or es k d → is_name (expr_of e) ≡ false →
    option_map is_name (slice_get (exprs_of es) k) ≡ Some false
argument_at [] k d e h same a = absurd (omega (arith, h))
argument_at (q ∷ es) zero d e h same a = ap Some (ap (λ x. is_name (expr_of x)) (sym same) ∙ a)
argument_at (q ∷ es) (suc k) d e h same a = argument_at es k d e (omega (arith, h)) same a

pub of_list : (program : Program) (locals : List Declared) (target : Option Name) (callee : Name) (f : Function) (es : List Expr) (r : IllTyped) →
    called callee program.functions ≡ Some f → IsBrokenList program locals f es r → IsBrokenCall program locals target callee es r
of_list program locals target callee f es r found (Misused m) =
    Misused (in_right program locals (uses_as_target target) (uses_in_arguments f.params es)
    (uses_as_target target ++ uses_in_call (called callee program.functions) es) r
    (ap (λ o. uses_as_target target ++ uses_in_call o es) found) m)
of_list program locals target callee f es r found (Taken t) = Taken t
of_list program locals target callee f es r found (Wrong w) = Wrong (Unfitting f found w)
