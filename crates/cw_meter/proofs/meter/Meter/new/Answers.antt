use Rattle.std.proofs.Common.{List, ◌∷◌, [], ◌++◌, ap, ◌∙◌, false, refl, subst}
use Rattle.cw_model.specs.declared.burden.Burden.{Burden}
use Rattle.cw_meter.specs.declared.meter.Meter.{Meter}
use Rattle.cw_meter.specs.declared.parts.PartKind.TheVariants as kind
use Rattle.cw_meter.specs.declared.parts.Part.{Part}
use Rattle.cw_meter.specs.Tables.{StartsTables}
use Rattle.cw_meter.proofs.DetailLaws.{starts_as}
use Rattle.cw_meter.proofs.meter.Meter.new.Goals as goal

pub returns : goal.returns
returns c =
    let main : Part = record { kind = kind.Call; site = 0; spawned = false } in
    let m : Meter = record { detail = c.args.detail; open_parts = 1; recorder = c.new-2.result; tables = c.in_ok-tables.tables; parts = c.push.new.self } in
    let P : Burden → Type 0 = λ b. StartsTables b c.in_ok-tables.tables in
    starts_as c.args.detail m refl refl c.new-2.ensures (subst P c.burden.ensures c.in_ok-tables.ensures)
    (c.in_ok-push.ensures.items ∙ ap (λ (x : List Part). x ++ main ∷ []) c.new-parts.ensures.items)
