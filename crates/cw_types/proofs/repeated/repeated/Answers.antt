use Rattle.std.proofs.Common.{◌≡◌, Some, option_map, refl, subst}
use Rattle.cw_model.specs.Syntax.{Name}
use Rattle.cw_types.specs.Scope.{kind_and_line, newest}
use Rattle.cw_types.proofs.Newest.{newest_there}
use Rattle.cw_types.proofs.repeated.repeated.Goals as goal

pub returns-clause-holds : goal.returns-clause-holds
returns-clause-holds c = λ names line both. record {
  word = c.args.name;
  other = c.in_ok-first.first.line;
  is = refl;
  both = both c.in_ok-first.first.line (newest_there c.args.name.now c.args.earlier.now c.in_ok-first.first.kind c.in_ok-first.first.line
      (subst (λ (x : Name). option_map kind_and_line (newest x c.args.earlier.now) ≡ Some (c.in_ok-first.first.kind, c.in_ok-first.first.line)) c.as_bytes.ensures c.in_ok-first.ensures.newest));
}
