use Rattle.std.proofs.Common.{arith}
use Rattle.cw_sites.proofs.PathBoundLaws.{gathers_closed, gathers_added}
use Rattle.cw_sites.proofs.paths.Paths.gather_steps.Goals as goal

pub returns-then-mid-f-clause-all : goal.returns-then-mid-f-clause-all
returns-then-mid-f-clause-all c = λ laid.
    let ch = laid.child in let st = laid.start in let o = laid.order in let o0 = o.0 in let o1 = o.1 in let o2 = o.2 in
    let h = c.close_up-mid.ensures.closed o1 o2 (omega arith) in
    let g = gathers_closed c.args.self.now.steps.items c.close_up-mid.new.steps.items c.args.f c.close_up-mid.result o (omega arith) h in
    let n = g.count_is in let m = g.from in
    gathers_added c.args.self.now.steps.items c.close_up-mid.new.steps.items c.compact.new.self.steps.items c.args.f c.close_up-mid.result c.in_ok-end.end o g (c.in_ok-end.ensures.all (omega arith) (omega arith))

pub returns-then-mid-f-clause-short : goal.returns-then-mid-f-clause-short
returns-then-mid-f-clause-short c = λ laid most b l s.
    let ch = laid.child in let st = laid.start in let o = laid.order in let o0 = o.0 in let o1 = o.1 in let o2 = o.2 in
    let h = c.close_up-mid.ensures.closed o1 o2 (omega arith) in
    let m = h.mid_is in let n = h.count_is in
    let a = c.close_up-mid.ensures.kept most b in
    let k = c.in_ok-end.ensures.limit most a l in
    let e = c.in_ok-end.ensures.short (omega arith) in
    record { sites = c.in_ok-end.ensures.kept most a; limit = k; base = omega arith }

pub returns-clause-all : goal.returns-clause-all
returns-clause-all c = λ laid.
    let ch = laid.child in let st = laid.start in let o = laid.order in let o1 = o.1 in let o2 = o.2 in
    gathers_closed c.args.self.now.steps.items c.close_up-mid.new.steps.items c.args.f c.close_up-mid.result o (omega arith) (c.close_up-mid.ensures.closed o1 o2 (omega arith))

pub returns-clause-short : goal.returns-clause-short
returns-clause-short c = λ laid most b l s. record { sites = c.close_up-mid.ensures.kept most b; limit = l; base = omega arith }
