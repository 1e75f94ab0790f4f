use Rattle.std.proofs.Common.{◌≡◌, ◌<◌, ◌+◌, ◌^◌, length, map, ℕ, List, Bor, sym, subst, arith}
use Rattle.std.proofs.lemmas.List.{length-map}
use Rattle.cw_types.specs.Places.{ArePlaces}
use Rattle.cw_types.proofs.Places.{places_stay, places_more, one_more_name}
use Rattle.cw_types.proofs.table.Table.add.Goals as goal

pub invariant_of-self-then-contains_key : goal.invariant_of-self-then-contains_key
invariant_of-self-then-contains_key c =
    let names = map (λ (k : Bor (List ℕ)). k.now) c.self.inside.names.items in
    let more = one_more_name c.self.inside.names.items c.push.new.self.items c.args.name c.in_ok-push.ensures.items in
    let fits : length names + 1 < 2 ^ 32 = grind arith in
    subst (λ ns. ArePlaces c.self.inside.places ns) (sym more) (places_stay c.self.inside.places names c.args.name.now c.self.invariant fits c.if-contains_key.ensures)

pub invariant_of-self-in-Ok : goal.invariant_of-self-in-Ok
invariant_of-self-in-Ok c =
    let names = map (λ (k : Bor (List ℕ)). k.now) c.self.inside.names.items in
    let more = one_more_name c.self.inside.names.items c.push.new.self.items c.args.name c.in_ok-push.ensures.items in
    let fits : length names + 1 < 2 ^ 32 = grind arith in
    let next : c.len-place.result ≡ length names = grind (arith, length-map) in
    subst (λ ns. ArePlaces c.insert.new.self ns) (sym more) (places_more c.self.inside.places c.insert.new.self names c.args.name.now c.len-place.result next c.self.invariant fits c.if-contains_key.ensures c.in-Ok.ensures.updates)
