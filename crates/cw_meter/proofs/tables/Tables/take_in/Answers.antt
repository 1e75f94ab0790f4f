use Rattle.std.proofs.Common.{◌≡◌, ◌||◌, refl, ◌∙◌}
use Rattle.cw_meter.specs.declared.tables.Tables.{Tables}
use Rattle.cw_meter.proofs.RestLaws.{rest_taken_in, either_then, either_else}
use Rattle.cw_meter.proofs.tables.Tables.take_in.Goals as goal
use Rattle.cw_meter.proofs.tables.Tables.take_in.Goals.{then-self, else-self}

pub returns : goal.returns
returns c =
    let old = c.args.self.now in
    let rest = c.args.rest in
    let e = elim c.if-self.branch as (λ w. c.if-self.spawned ≡ old.spawned || rest.spawned) [
      | then-self w ↦ either_then old.spawned rest.spawned c.if-self.spawned w.if-self.true (w.spawned-is ∙ w.if-self.true)
      | else-self w ↦ either_else old.spawned rest.spawned c.if-self.spawned w.if-self.false w.spawned-is
    ] in
    let new : Tables = record { sites = c.join_piece.new.self; path = c.append.new.self; regions = c.join.new.self; burden = old.burden; spawned = c.if-self.spawned } in
    rest_taken_in old rest new _ refl c.in_ok-join_piece.ensures.told c.in_ok-append.ensures c.join.ensures refl e
