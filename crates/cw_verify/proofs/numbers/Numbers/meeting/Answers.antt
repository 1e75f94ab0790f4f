use Rattle.std.proofs.Common.{arith, ◌<◌, sym, ap, ◌∙◌}
use Rattle.cw_verify.specs.Table.{rounds_of}
use Rattle.cw_verify.proofs.Numbering.{meets_self}
use Rattle.cw_verify.proofs.numbers.Numbers.meeting.Goals as goal

pub returns-then-there-found : goal.returns-then-there-found
returns-then-there-found c =
    let known = c.requires in
    let names = known.0 in
    let there : 0 < c.args.there = omega (arith, c.if-there-eq0.false) in
    let found : 0 < c.args.found = omega (arith, c.if-found-eq0.false) in
    sym (meets_self (rounds_of c.args.rounds.now) (rounds_of c.args.more.now) (known.1.1 there ∙ ap names c.if-there-found.true ∙ sym (known.2.1 found)))
