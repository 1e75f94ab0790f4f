use Rattle.std.proofs.Common.{rules, ◌≡◌, sym, subst}
use Rattle.std.specs.Prelude.{Err}
use Rattle.cw_code.specs.Code.{code_view}
use Rattle.cw_machine.specs.Recorded.{RecordsAsCode}
use Rattle.cw_meter.specs.declared.detail.Detail.TheVariants.{Strands}
use Rattle.cw_model.specs.Burdens.{no_burden}
use Rattle.cw_pool.proofs.outcome.strands_by.Goals as goal

pub strands_of-requires : goal.strands_of-requires
strands_of-requires c =
    let end = c.requires in
    ∣ (
      c.args.outcome.code.value,
      record {
        args = c.args.args.now;
        limit = c.args.n;
        burden = no_burden;
        detail = Strands;
        root = end.root;
        is = end.is;
        means = end.means;
      },
    ) ∣₁

pub returns-in_err-strands-clause-as_code : goal.returns-in_err-strands-clause-as_code
returns-in_err-strands-clause-as_code c =
    let end = c.requires in
    let is : c.from_residual.result ≡ Err c.in_err-strands.field-0.0 = search rules in
    subst (λ r. RecordsAsCode (code_view c.args.outcome.code.value.code) c.args.args.now c.args.n r) (sym is)
    (c.in_err-strands.ensures.as_code c.args.outcome.code.value c.args.args.now c.args.n end.root end.is end.means)
