use Rattle.std.proofs.Common.{rules, ◌≡◌, sym, subst}
use Rattle.std.specs.Prelude.{Err}
use Rattle.cw_code.specs.Code.{code_view}
use Rattle.cw_machine.specs.Runs.{GivesAsCode}
use Rattle.cw_meter.specs.declared.detail.Detail.TheVariants.{Values}
use Rattle.cw_pool.proofs.outcome.values_by.Goals as goal

pub values_of-requires : goal.values_of-requires
values_of-requires c =
    let end = c.requires in
    ∣ (
      c.args.outcome.code.value,
      record {
        args = c.args.args.now;
        limit = c.args.n;
        burden = c.args.burden;
        detail = Values;
        root = end.root;
        is = end.is;
        means = end.means;
      },
    ) ∣₁

pub returns-in_err-values-clause-as_code : goal.returns-in_err-values-clause-as_code
returns-in_err-values-clause-as_code c =
    let end = c.requires in
    let is : c.from_residual.result ≡ Err c.in_err-values.field-0.0 = search rules in
    subst (λ r. GivesAsCode (code_view c.args.outcome.code.value.code) c.args.args.now c.args.n c.args.burden r) (sym is)
    (c.in_err-values.ensures.as_code c.args.outcome.code.value c.args.args.now c.args.n c.args.burden Values end.root end.is end.means)

pub returns-then-is_known-clause-as_code : goal.returns-then-is_known-clause-as_code
returns-then-is_known-clause-as_code c =
    let end = c.requires in
    c.in_ok-values.ensures.as_code c.args.outcome.code.value c.args.args.now c.args.n c.args.burden Values end.root end.is end.means
