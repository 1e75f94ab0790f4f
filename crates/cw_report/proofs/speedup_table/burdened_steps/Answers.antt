use Rattle.std.proofs.Common.{◌≤◌, ◌<◌, ◌+◌, ◌-◌, ◌/◌, ap₂, ◌∙◌, arith}
use Rattle.cw_report.proofs.Burdened.{lags, leads}
use Rattle.cw_report.proofs.speedup_table.burdened_steps.Goals as goal

pub returns-then-burdened-work : goal.returns-then-burdened-work
returns-then-burdened-work c =
    let burdened = c.args.burdened in
    let some : 0 < c.args.processors = omega (arith, c.from-processors.ensures) in
    let le : burdened ≤ c.args.work = omega (arith, c.from-work.ensures) in
    ap₂ (λ w p. burdened + (w - burdened) / p) c.from-work.ensures c.from-processors.ensures ∙ leads c.args.processors c.args.work burdened some le

pub returns-else-burdened-work : goal.returns-else-burdened-work
returns-else-burdened-work c =
    let burdened = c.args.burdened in
    let some : 0 < c.args.processors = omega (arith, c.from-processors.ensures) in
    let less : c.args.work < burdened = omega (arith, c.from-work.ensures) in
    ap₂ (λ w p. burdened - (burdened - w - 1) / p - 1) c.from-work.ensures c.from-processors.ensures ∙ lags c.args.processors c.args.work burdened some less
