use Rattle.std.proofs.Common.{◌≡◌, ◌+◌, ◌-◌, ◌*◌, ◌<◌, ◌^◌, map, length}
use Rattle.cw_parse.specs.declared.marks.Mark.TheVariants as mark
use Rattle.cw_model.specs.Syntax.{End}
use Rattle.cw_parse.specs.Marks.{is_mark}
use Rattle.cw_tree.specs.SyntaxView.{line_of}
use Rattle.cw_parse.specs.Reading.{row, with_front}
use Rattle.cw_parse.specs.Parts.{put_before, line, lines}
use Rattle.cw_parse.proofs.stmt.+stmt.Given as goal

abbrev pub decreases-line : goal.decreases-line
decreases-line l = 8 * l.depth

abbrev pub decreases-lines : goal.decreases-lines
decreases-lines l = 8 * l.depth + 1

abbrev pub decreases-framed_by : goal.decreases-framed_by
decreases-framed_by l = 8 * l.depth + 2

abbrev pub decreases-framed : goal.decreases-framed
decreases-framed l = 8 * l.depth + 3

abbrev pub decreases-stmt : goal.decreases-stmt
decreases-stmt l = 8 * l.depth + 4

abbrev pub decreases-line_by : goal.decreases-line_by
decreases-line_by l = 8 * l.depth + 5

-- the lines so far joined to the reading of the rest are the reading of the whole block, and the call numbers stay in
-- range
abbrev pub invariant-lines-loop : goal.invariant-lines-loop
invariant-lines-loop l =
    (with_front put_before (map line_of l.done.items) (row (is_mark mark.RightBrace) (λ m. (End, m)) put_before (line l.reading.text.now l.depth) (l.depth - l.counter) l.site l.rest)
    ≡ lines l.reading.text.now l.depth l.fn.site l.fn.tokens)
    × (l.site + length l.rest < 2 ^ 32)
