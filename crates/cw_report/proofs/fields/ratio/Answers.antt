use Rattle.std.proofs.Common.{rules, ◌≡◌, ℕ, zero, suc, ◌*◌, ◌/◌, ◌++◌, codes, ap, ◌∙◌, arith}
use Rattle.std.proofs.lemmas.Fmt.{decimal_digit}
use Rattle.cw_model.specs.Report.{parallelism, thousandths}
use Rattle.cw_report.proofs.Burdened.{no_ratio, some_ratio}
use Rattle.cw_report.proofs.fields.ratio.Goals as goal

-- the parallelism if the span is 0
no_span : (work span : ℕ) → span ≡ 0 → thousandths 0 ≡ parallelism work span
no_span work zero h = ap (λ l. l ++ codes ".000") (decimal_digit 0 (omega arith))
no_span work (suc span) h = cc

pub returns-then-span-eq0-clause-text : goal.returns-then-span-eq0-clause-text
returns-then-span-eq0-clause-text c = no_span c.args.work c.args.span (search rules)

pub returns-then-span-eq0-clause-value : goal.returns-then-span-eq0-clause-value
returns-then-span-eq0-clause-value c = no_ratio c.args.work c.args.span (search rules)

pub returns-else-span-eq0-clause-value : goal.returns-else-span-eq0-clause-value
returns-else-span-eq0-clause-value c = ap (λ w. 1000 * w / c.args.span) c.from.ensures ∙ some_ratio c.args.work c.args.span (omega arith)
