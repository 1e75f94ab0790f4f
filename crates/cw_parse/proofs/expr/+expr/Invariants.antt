use Rattle.std.proofs.Common.{◌≡◌, ◌+◌, ◌-◌, ◌*◌, Ok}
use Rattle.cw_tree.specs.SyntaxView.{expr_of}
use Rattle.cw_parse.specs.Parts.{chain, level}
use Rattle.cw_parse.proofs.expr.+expr.Given as goal

abbrev pub decreases-atom : goal.decreases-atom
decreases-atom l = 512 * l.depth + 200

abbrev pub decreases-chain : goal.decreases-chain
decreases-chain l = 512 * l.depth + 2 * l.below + 2

abbrev pub decreases-level : goal.decreases-level
decreases-level l = 512 * l.depth + 2 * l.highest + 1

abbrev pub decreases-indexed : goal.decreases-indexed
decreases-indexed l = 512 * l.depth + 100

abbrev pub decreases-operand_by : goal.decreases-operand_by
decreases-operand_by l = 512 * l.depth + 400

abbrev pub decreases-named : goal.decreases-named
decreases-named l = 512 * l.depth + 200

abbrev pub decreases-operand : goal.decreases-operand
decreases-operand l = 512 * l.depth

abbrev pub decreases-operand_after : goal.decreases-operand_after
decreases-operand_after l = 512 * l.depth + 300

-- reading the rest with the remaining bound returns what reading all operators returns
abbrev pub invariant-chain-loop : goal.invariant-chain-loop
invariant-chain-loop l =
    chain (level l.reading.text.now l.depth l.below) (l.below + 1) (l.depth - l.counter) (expr_of l.left) l.rest
    ≡ chain (level l.reading.text.now l.depth l.below) (l.below + 1) l.depth (expr_of l.fn.first) l.fn.tokens

-- the value and the rest are the result of reading the levels up to `below`
abbrev pub invariant-level-loop-below : goal.invariant-level-loop-below
invariant-level-loop-below l = level l.reading.text.now l.depth l.below l.fn.tokens ≡ Ok (expr_of l.value, l.rest)
