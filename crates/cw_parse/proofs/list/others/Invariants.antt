use Rattle.std.proofs.Common.{◌≡◌, ◌-◌, map, []}
use Rattle.cw_parse.specs.declared.marks.Mark.TheVariants as mark
use Rattle.cw_parse.specs.Marks.{is_mark}
use Rattle.cw_parse.specs.Reading.{row, with_front}
use Rattle.cw_parse.specs.Parts.{add_front, further, others}
use Rattle.cw_parse.proofs.list.others.Given as goal

-- the parts so far joined to the reading of the rest are the reading of the whole list
abbrev pub invariant-loop : goal.invariant-loop
invariant-loop g l =
    with_front add_front (map g.T.Part.seen l.done.items) (row (is_mark mark.RightParen) (λ _. []) add_front (further (g.T.Part.part l.reading.text.now l.depth)) (l.depth - l.counter) tt l.rest)
    ≡ with_front add_front (map g.T.Part.seen l.fn.done.items) (others (g.T.Part.part l.reading.text.now l.depth) l.depth l.fn.tokens)
