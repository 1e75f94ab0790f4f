use Rattle.std.proofs.Common.{ℕ, refl, sym, subst}
use Rattle.cw_types.specs.ReasonMeaning.{AreBothIn}
use Rattle.cw_types.proofs.repeated.shared.Goals as goal

pub returns-clause-holds : goal.returns-clause-holds
returns-clause-holds c = λ names line both. record {
  word = _;
  other = c.earlier-first.result;
  is = refl;
  both = subst (λ (n : ℕ). AreBothIn names (c.args.reducer.now.name, n) (c.args.reducer.now.name, line)) (sym c.earlier-first.ensures) both;
}
