use Rattle.std.proofs.Common.{◌≡◌, ℕ, List, Some, refl, ap, option_map, subst, sym, ◌∙◌}
use Rattle.cw_model.specs.declared.syntax.NameKind.{NameKind}
use Rattle.cw_model.specs.declared.syntax.NameKind.TheVariants as name_kind
use Rattle.cw_model.specs.Syntax.{Name, is_array_kind}
use Rattle.cw_model.specs.Typing.{Known, is_known}
use Rattle.cw_types.specs.Names.{IsUnknown, known_as, accepts_kind}
use Rattle.cw_types.specs.Scope.{kinds}
use Rattle.cw_types.specs.Scope.{Declared, kind_and_line, newest}
use Rattle.cw_types.proofs.rules.of_use.Goals as goal

-- the kind of a known name determines where it fits
stands : (x y : Name) (known : Known) (kind at : NameKind) → y ≡ x → known_as y kind known → kind ≡ at → (wanted : NameKind) →
    is_known x (accepts_kind wanted) known ≡ accepts_kind wanted at
stands x y known kind at same known_so is wanted =
    ap (λ (z : Name). is_known z (accepts_kind wanted) known) (sym same) ∙ known_so wanted ∙ ap (accepts_kind wanted) is

-- the line of a known name is the line of its newest declaration
told : (x y : Name) (locals : List Declared) (kind at : NameKind) (line : ℕ) → y ≡ x → option_map kind_and_line (newest y locals) ≡ Some (kind, line) → kind ≡ at →
    option_map kind_and_line (newest x locals) ≡ Some (at, line)
told x y locals kind at line same first is =
    ap (λ (z : Name). option_map kind_and_line (newest z locals)) (sym same) ∙ first ∙ ap (λ (k : NameKind). Some (k, line)) is

pub returns-in-None-clause-holds : goal.returns-in-None-clause-holds
returns-in-None-clause-holds c =
    let known = kinds c.args.known.now in
    c.of_unknown.ensures c.args.known.now (subst (λ (z : Name). IsUnknown z known) c.as_bytes.ensures c.in-None.ensures.kinds)

pub returns-in-Integer-Array-clause-holds : goal.returns-in-Integer-Array-clause-holds
returns-in-Integer-Array-clause-holds c =
    let x = c.args.name.now in
    let y = c.as_bytes.result.now in
    let d = c.in-Some.local in
    let kind = c.in-Integer-Array.is-1 in (
      refl,
      c.in-Integer-Array.is-0,
      stands x y (kinds c.args.known.now) d.kind name_kind.Array c.as_bytes.ensures c.in-Some.ensures.kinds kind name_kind.Integer,
      told x y c.args.known.now d.kind name_kind.Array d.line c.as_bytes.ensures
          c.in-Some.ensures.newest kind,
    )

pub returns-in-Integer-Const-clause-holds : goal.returns-in-Integer-Const-clause-holds
returns-in-Integer-Const-clause-holds c =
    let x = c.args.name.now in
    let y = c.as_bytes.result.now in
    let d = c.in-Some.local in
    let kind = c.in-Integer-Const.is-1 in (
      refl,
      c.in-Integer-Const.is-0,
      stands x y (kinds c.args.known.now) d.kind name_kind.Const c.as_bytes.ensures c.in-Some.ensures.kinds kind name_kind.Integer,
      told x y c.args.known.now d.kind name_kind.Const d.line c.as_bytes.ensures
          c.in-Some.ensures.newest kind,
    )

pub returns-in-Array-Integer-clause-holds : goal.returns-in-Array-Integer-clause-holds
returns-in-Array-Integer-clause-holds c =
    let x = c.args.name.now in
    let y = c.as_bytes.result.now in
    let d = c.in-Some.local in
    let kind = c.in-Array-Integer.is-1 in (
      refl,
      ap is_array_kind c.in-Array-Integer.is-0,
      stands x y (kinds c.args.known.now) d.kind name_kind.Integer c.as_bytes.ensures c.in-Some.ensures.kinds kind name_kind.Const,
      told x y c.args.known.now d.kind name_kind.Integer d.line c.as_bytes.ensures
          c.in-Some.ensures.newest kind,
    )

pub returns-in-Const-Integer-clause-holds : goal.returns-in-Const-Integer-clause-holds
returns-in-Const-Integer-clause-holds c =
    let x = c.args.name.now in
    let y = c.as_bytes.result.now in
    let d = c.in-Some.local in
    let kind = c.in-Const-Integer.is-1 in (
      refl,
      ap is_array_kind c.in-Const-Integer.is-0,
      stands x y (kinds c.args.known.now) d.kind name_kind.Integer c.as_bytes.ensures c.in-Some.ensures.kinds kind name_kind.Const,
      told x y c.args.known.now d.kind name_kind.Integer d.line c.as_bytes.ensures
          c.in-Some.ensures.newest kind,
    )
