use Rattle.std.proofs.Common.{arith, ◌≡◌, length, ap, refl, subst}
use Rattle.cw_machine.specs.Arrays.{no_view}
use Rattle.cw_machine.specs.RepresentsState.{part_view}
use Rattle.cw_machine.proofs.Lending.{LentUp, none_lent, more_lent, all_lent, passed_view}
use Rattle.cw_machine.proofs.machine.Machine.lend.Goals as goal

pub loop-k-init : goal.loop-k-init
loop-k-init c = record { lent = none_lent c.args.self.now c.args.passed.now (part_view c.args.part) }

pub loop-k-preserved : goal.loop-k-preserved
loop-k-preserved c = record {
  lent =
      more_lent c.args.self.now c.args.passed.now (part_view c.args.part) c.loop-k.k c.loop-k.self c.part_of-v.result _ c.loop-k.invariant.lent
      (record { views = c.in_ok-push.ensures.items; blocks = refl; rest = record { cells = refl; place = refl; first = refl; frames = refl; lines = refl; first_array = refl; depth = refl; totals = refl; cuts = refl } })
      (λ a e. passed_view c.args.self.now c.args.passed.now (part_view c.args.part) c.loop-k.k c.loop-k.self a c.loop-k.invariant.lent c.requires.there e c.view.result c.view.ensures c.part_of-v.result c.part_of-v.ensures);
}

pub lengthen-requires : goal.lengthen-requires
lengthen-requires c =
    let same = ap length c.loop-k.invariant.lent.blocks in
    let as_many = c.requires.blocks in
    omega (arith, same, as_many, c.in-Some.ensures.1, c.len.ensures, c.args.self.now.views.ok.0)

pub returns : goal.returns
returns c =
    let k : c.loop-k.k ≡ length c.args.passed.now = omega (arith, c.loop-k-test.false, c.loop-k.auto.k-end) in
    let r = c.in_ok-resize.ensures in
    all_lent c.args.self.now c.args.passed.now (part_view c.args.part) c.args.arrays c.in-Some.top c.loop-k.self _ c.requires.many
    (omega (arith, c.in-Some.ensures.1, c.len.ensures, c.args.self.now.views.ok.0))
    (subst (λ z. LentUp c.args.self.now c.args.passed.now (part_view c.args.part) z c.loop-k.self) k c.loop-k.invariant.lent)
    (omega (arith, r.len, c.resize.new.self.ok.0))
    (λ x lt. r.by_index.0 x no_view (omega (arith, lt)) (omega (arith, lt, c.loop-k.self.views.ok.0)))
    (λ x le lt. r.by_index.1 x no_view refl (omega (arith, le, c.loop-k.self.views.ok.0)) lt)
    c.lengthen.ensures c.requires.blocks (record { cells = refl; place = refl; first = refl; frames = refl; lines = refl; first_array = refl; depth = refl; totals = refl; cuts = refl })
