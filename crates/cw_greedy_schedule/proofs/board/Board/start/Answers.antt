use Rattle.std.proofs.Common.{◌<◌, ◌+◌, Some, length, set, arith, ap, sym, ◌∙◌, subst}
use Rattle.cw_greedy_schedule.specs.Boards.{left_at, lowered, over, one_if_none, Keeps}
use Rattle.cw_greedy_schedule.proofs.Boards.{timed, started, count_fits, put_shown}
use Rattle.cw_greedy_schedule.proofs.Over.{none_of_lowered, lowered_of_none}
use Rattle.cw_greedy_schedule.proofs.board.Board.start.Goals as goal

pub at-requires : goal.at-requires
at-requires c =
    let b = c.args.self.now in
    let t = c.time_for-self.result in
    let r = c.time_for-self.new.running in
    let h = timed b t r c.requires.keeps c.time_for-self.ensures.ends c.time_for-self.ensures.shown in
    omega (arith, c.requires.place, h.within, h.running)

pub overflow_add-self : goal.overflow_add-self
overflow_add-self c =
    let b = c.args.self.now in
    let t = c.time_for-self.result in
    let r = c.time_for-self.new.running in
    let h = timed b t r c.requires.keeps c.time_for-self.ensures.ends c.time_for-self.ensures.shown in
    let fits = count_fits (record { running = r; count = b.count; time = t; waiting = b.waiting; border = b.border; places = b.places }) c.args.place h c.requires.place in
    omega (arith, fits, c.one_if_none.ensures, ap one_if_none c.at.ensures)

pub set-requires : goal.set-requires
set-requires c =
    let b = c.args.self.now in
    let t = c.time_for-self.result in
    let r = c.time_for-self.new.running in
    let h = timed b t r c.requires.keeps c.time_for-self.ensures.ends c.time_for-self.ensures.shown in
    omega (arith, c.requires.place, h.within, h.running)

pub returns-clause-keeps : goal.returns-clause-keeps
returns-clause-keeps c =
    let b = c.args.self.now in
    let t = c.time_for-self.result in
    let r = c.time_for-self.new.running in
    let h = timed b t r c.requires.keeps c.time_for-self.ensures.ends c.time_for-self.ensures.shown in
    subst (λ n. Keeps (record { running = c.set.new.self; count = b.count + n; time = t; waiting = b.waiting; border = b.border; places = b.places }))
    (sym (c.one_if_none.ensures ∙ ap one_if_none c.at.ensures))
    (started (record { running = r; count = b.count; time = t; waiting = b.waiting; border = b.border; places = b.places })
    c.args.place c.args.left c.set.new.self h c.requires.place c.set.ensures)

pub returns-clause-put : goal.returns-clause-put
returns-clause-put c =
    let b = c.args.self.now in
    let t = c.time_for-self.result in
    let r = c.time_for-self.new.running in
    let h = timed b t r c.requires.keeps c.time_for-self.ensures.ends c.time_for-self.ensures.shown in
    let within : c.args.place < length r = omega (arith, c.requires.place, h.within, h.running) in
    ap (λ xs. over (lowered t xs) b.waiting) c.set.ensures
    ∙ put_shown t c.args.place c.args.left r b.waiting (h.running ∙ sym h.waiting) within
    ∙ ap (λ xs. set (over xs b.waiting) c.args.place (Some c.args.left)) c.time_for-self.ensures.shown

pub returns-clause-one : goal.returns-clause-one
returns-clause-one c = λ n.
    let b = c.args.self.now in
    let t = c.time_for-self.result in
    let r = c.time_for-self.new.running in
    let p = c.args.place in
    let none = none_of_lowered t p r (ap (λ xs. left_at xs p) c.time_for-self.ensures.shown ∙ lowered_of_none b.time p b.running n) in
    omega (arith, c.one_if_none.ensures, ap one_if_none (c.at.ensures ∙ none))
