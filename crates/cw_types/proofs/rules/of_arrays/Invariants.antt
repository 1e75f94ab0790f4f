use Rattle.std.proofs.Common.{◌≡◌, drop}
use Rattle.std.specs.List.{list_all}
use Rattle.cw_model.specs.Typing.{is_writable}
use Rattle.cw_types.specs.Scope.{kinds}
use Rattle.cw_types.proofs.rules.of_arrays.Given as goal

abbrev pub invariant-loop-a : goal.invariant-loop-a
invariant-loop-a l =
    list_all (λ a. is_writable (kinds l.known) a) (drop l.a-index l.names) ≡ list_all (λ a. is_writable (kinds l.known) a) l.names
