use Rattle.std.proofs.Common.{◌≡◌, Some, option_map, refl, subst}
use Rattle.cw_model.specs.Syntax.{Name}
use Rattle.cw_types.specs.Scope.{kind_and_line, newest}
use Rattle.cw_types.proofs.Newest.{newest_line}
use Rattle.cw_types.proofs.rules.of_declared.Goals as goal

pub returns-in-Some-clause-holds : goal.returns-in-Some-clause-holds
returns-in-Some-clause-holds c = (
  refl,
  newest_line (newest c.args.name.now c.args.known.now) c.in-Some.local.kind c.in-Some.local.line
      (subst (λ (x : Name). option_map kind_and_line (newest x c.args.known.now) ≡ Some (c.in-Some.local.kind, c.in-Some.local.line)) c.as_bytes.ensures c.in-Some.ensures.newest),
)

pub returns-in_ok-reason-in-None-clause-holds : goal.returns-in_ok-reason-in-None-clause-holds
returns-in_ok-reason-in-None-clause-holds c = c.in_ok-reason-in-None.ensures.holds c.args.known.now
