use Rattle.std.proofs.Common.{ap, inl, inr, refl}
use Rattle.cw_model.specs.declared.syntax.NameKind.TheVariants as name_kind
use Rattle.cw_model.specs.Syntax.{is_array_kind}
use Rattle.cw_types.proofs.rules.misused.Goals as goal

pub returns-in-Integer : goal.returns-in-Integer
returns-in-Integer c = λ locals unknown other. (refl, c.in-Integer.is, unknown name_kind.Integer, other)

pub returns-in-Array : goal.returns-in-Array
returns-in-Array c = λ locals unknown other. (
  refl,
  elim c.in-Array.is [ inl e ↦ ap is_array_kind e | inr e ↦ ap is_array_kind e ],
  unknown name_kind.Const,
  other,
)
