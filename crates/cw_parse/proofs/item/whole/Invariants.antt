use Rattle.std.proofs.Common.{◌≡◌, ◌+◌, ◌-◌, ◌<◌, ◌^◌, length}
use Rattle.cw_parse.specs.Reading.{by_first}
use Rattle.cw_parse.specs.Parts.{item, items, whole}
use Rattle.cw_parse.specs.Seen.{items_of}
use Rattle.cw_parse.proofs.Wholes.{with_items}
use Rattle.cw_parse.proofs.item.whole.Given as goal

-- the items so far joined to the reading of the rest are the reading of the whole source, and the call numbers stay in
-- range
abbrev pub invariant-loop : goal.invariant-loop
invariant-loop l =
    (with_items (items_of l.ast) (items (λ s. by_first (item l.reading.text.now l.reading.limit s)) (l.reading.limit - l.counter) l.site l.rest)
    ≡ whole l.reading.text.now l.reading.limit l.fn.tokens)
    × (l.site + length l.rest < 2 ^ 32)
