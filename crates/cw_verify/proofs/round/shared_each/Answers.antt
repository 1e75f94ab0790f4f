use Rattle.std.proofs.Common.{sym, ap, ◌∙◌}
use Rattle.cw_verify.specs.Table.{rounds_of, either_each}
use Rattle.cw_verify.proofs.Numbering.{tells_stays, tells_comes, tells_both}
use Rattle.cw_verify.proofs.Rounds.{are_there, are_come, are_both}
use Rattle.cw_verify.proofs.round.shared_each.Goals as goal

pub returns-in-Stays : goal.returns-in-Stays
returns-in-Stays c =
    let xs = rounds_of c.args.rounds.value in
    let ys = rounds_of c.args.more.now.value in
    are_there xs ys (tells_stays xs ys (sym c.in-Stays.is ∙ c.requires.is)).1

pub returns-in_ok-more-in-Comes : goal.returns-in_ok-more-in-Comes
returns-in_ok-more-in-Comes c =
    let xs = rounds_of c.args.rounds.value in
    let ys = rounds_of c.args.more.now.value in
    let told = tells_comes xs ys (sym c.in-Comes.is ∙ c.requires.is) in
    are_come xs ys (rounds_of c.in_ok-more-in-Comes.more.value) told.1 told.0 told.2 c.in_ok-more-in-Comes.ensures

pub returns-in_ok-both-in-Both : goal.returns-in_ok-both-in-Both
returns-in_ok-both-in-Both c =
    let xs = rounds_of c.args.rounds.value in
    let ys = rounds_of c.args.more.now.value in
    are_both xs ys (rounds_of c.in_ok-both-in-Both.both.value) (tells_both xs ys (sym c.in-Both.is ∙ c.requires.is))
    (c.in_ok-both-in-Both.ensures ∙ ap (λ r. either_each (rounds_of r) (rounds_of c.deref-in-Both.result.now)) c.deref.ensures ∙ ap (λ r. either_each xs (rounds_of r)) c.deref-in-Both.ensures)
