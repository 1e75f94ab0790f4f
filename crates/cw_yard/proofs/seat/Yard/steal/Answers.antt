use Rattle.std.proofs.Common.{◌<◌, ◌∙◌, sym, ap, subst}
use Rattle.crossbeam_deque.specs.Handles.{view}
use Rattle.cw_yard.specs.Words.{stolen}
use Rattle.cw_yard.proofs.Thefts.{stolen_before, stolen_after, if_none, if_some, rises}
use Rattle.cw_yard.proofs.seat.Yard.steal.Goals as goal

pub returns-clause-some : goal.returns-clause-some
returns-clause-some c =
    let lt = subst (λ n. c.args.victim < n) (sym c.requires.seat.3) c.requires.victim in
    let before = stolen_before view c.args.seat.now.passes.items c.args.victim c.index_mut-pass.result.now lt c.index_mut-pass.ensures.value in
    let after = stolen_after view c.args.seat.now.passes.items c.args.victim c.steal.new.pass lt in
    if_some c.steal.result (λ r p. (p.0, p.1, rises _ _ _ _ _ before after p.2)) c.steal.ensures.some

pub returns-clause-none : goal.returns-clause-none
returns-clause-none c =
    let lt = subst (λ n. c.args.victim < n) (sym c.requires.seat.3) c.requires.victim in
    let before = stolen_before view c.args.seat.now.passes.items c.args.victim c.index_mut-pass.result.now lt c.index_mut-pass.ensures.value in
    let after = stolen_after view c.args.seat.now.passes.items c.args.victim c.steal.new.pass lt in
    if_none c.steal.result (λ e. after ∙ ap stolen e ∙ sym before) c.steal.ensures.none
