use Rattle.std.proofs.Common.{rules, ◌≡◌, ◌∙◌, ◌+◌, length, sym, subst}
use Rattle.cw_yard.specs.Seats.{IsSeatOf}
use Rattle.cw_pool.specs.Driven.{AreSeatsFor}
use Rattle.cw_pool.proofs.Seating.{opened, parted}
use Rattle.cw_pool.proofs.run.drive.Goals as goal

pub start_all-requires-clause-seats : goal.start_all-requires-clause-seats
start_all-requires-clause-seats g c κs within =
    let y = c.in_ok-yard.yard in
    let all = opened y (c.len-bodies.result + 1) 256 c.in_ok-yard.seats.items c.in_ok-yard.ensures in
    let p = parted y c.len-bodies.result c.in_ok-yard.seats.items c.pop.new.self.items c.in-Some.seat c.in-Some.ensures.items all in
    let n : c.len-bodies.result ≡ length c.args.crew.items = search rules in
    subst (λ z. AreSeatsFor z (length c.args.crew.items) c.pop.new.self.items) (sym c.in_ok-yard-2.ensures.ok) (p.0.0 ∙ n, p.0.1)

pub work-effect-requires : goal.work-effect-requires
work-effect-requires g c =
    let y = c.in_ok-yard.yard in
    let all = opened y (c.len-bodies.result + 1) 256 c.in_ok-yard.seats.items c.in_ok-yard.ensures in
    let p = parted y c.len-bodies.result c.in_ok-yard.seats.items c.pop.new.self.items c.in-Some.seat c.in-Some.ensures.items all in
    subst (λ z. IsSeatOf z c.in-Some.seat) (sym (c.deref.ensures ∙ c.in_ok-yard-2.ensures.ok)) p.1

pub end-requires : goal.end-requires
end-requires g c = subst (λ z. IsSeatOf z c.work-effect.new.seat) (sym (c.deref-3.ensures ∙ sym c.deref.ensures)) c.work-effect.ensures.seat
