use Rattle.std.proofs.Common.{◌≡◌, length, ap, ◌∙◌, arith, rules}
use Rattle.cw_gen.specs.Marks.{place_of}
use Rattle.cw_gen.proofs.PlacesTold.{place_at, readers_behind, place_past}
use Rattle.cw_gen.proofs.array_places.Places.place.Goals as goal

pub overflow_sub-result : goal.overflow_sub-result
overflow_sub-result c =
    let items = c.self.inside.table.items in
    let n : c.len.result ≡ length items = search (rules, c.len.ensures) in
    readers_behind items c.self.inside.readers c.args.slot c.self.inside.many (omega (arith, n, c.if-at-len.false))

pub returns-then-at-len : goal.returns-then-at-len
returns-then-at-len c =
    let items = c.self.inside.table.items in
    let n : c.len.result ≡ length items = search (rules, c.len.ensures) in
    place_at items c.args.slot c.index.result.now c.self.inside.counted (omega (arith, n, c.if-at-len.true)) c.index.ensures ∙ ap (λ ms. place_of ms c.args.slot) c.self.view_is

pub returns-else-at-len : goal.returns-else-at-len
returns-else-at-len c =
    let items = c.self.inside.table.items in
    let n : c.len.result ≡ length items = search (rules, c.len.ensures) in
    place_past items c.self.inside.readers c.args.slot c.self.inside.many (omega (arith, n, c.if-at-len.false)) ∙ ap (λ ms. place_of ms c.args.slot) c.self.view_is
