use Rattle.std.proofs.Common.{arith, ◌≡◌, ◌-◌, length, ap, refl, subst}
use Rattle.std.specs.Prelude.{slice_index_or}
use Rattle.cw_code.specs.declared.code.Loan.{Loan}
use Rattle.cw_code.specs.declared.code.Loan.TheVariants.{Array}
use Rattle.cw_machine.specs.Padded.{HasLengthened}
use Rattle.cw_machine.proofs.Lending.{ReadUp, none_read, more_read, all_read, sees_up, loan_at}
use Rattle.cw_machine.proofs.machine.Machine.lend_read.Goals as goal

pub loop-k-init : goal.loop-k-init
loop-k-init c = record { read = none_read c.args.self.now c.args.top c.args.loans.now }

pub view_lent-v-requires : goal.view_lent-v-requires
view_lent-v-requires c =
    let loans = c.args.loans.now in
    let at = length loans - 1 - c.loop-k.k in
    let loan : Loan = slice_index_or loans at (Array 0) in
    sees_up c.args.self.now c.args.top loans c.loop-k.k c.loop-k.self c.loop-k.invariant.read loan (c.requires.there at loan (loan_at loans at (omega (arith, c.loop-k-test.true))))

pub loop-k-preserved : goal.loop-k-preserved
loop-k-preserved c =
    let loans = c.args.loans.now in
    let at = length loans - 1 - c.loop-k.k in
    let loan : Loan = slice_index_or loans at (Array 0) in
    record {
      read =
          more_read c.args.self.now c.args.top loans c.loop-k.k c.loop-k.self c.view_lent-v.result _ c.loop-k.invariant.read
          (record { views = c.in_ok-push.ensures.items; blocks = refl; rest = record { cells = refl; place = refl; first = refl; frames = refl; lines = refl; first_array = refl; depth = refl; totals = refl; cuts = refl } }) c.requires.there
          loan (loan_at loans at (omega (arith, c.loop-k-test.true))) c.loop-k-test.true c.view_lent-v.ensures;
    }

pub lengthen-requires : goal.lengthen-requires
lengthen-requires c =
    let same = ap length c.loop-k.invariant.read.blocks in
    let n = c.loop-k.invariant.read.count in
    let as_many = c.requires.blocks in
    omega (arith, same, as_many, n, c.len.ensures, c.loop-k.self.views.ok.0)

pub returns : goal.returns
returns c =
    let loans = c.args.loans.now in
    let same : c.loop-k.k ≡ length loans = omega (arith, c.loop-k-test.false, c.loop-k.auto.k-end) in
    let many : c.len.result ≡ length c.loop-k.self.views.items = omega (arith, c.len.ensures, c.loop-k.self.views.ok.0) in
    all_read c.args.self.now c.args.top loans c.loop-k.self _ (subst (λ z. ReadUp c.args.self.now c.args.top loans z c.loop-k.self) same c.loop-k.invariant.read) refl
    (subst (λ n. HasLengthened c.loop-k.self.blocks.items n c.lengthen.new.self.items) many c.lengthen.ensures) c.requires.blocks
    (record { cells = refl; place = refl; first = refl; frames = refl; lines = refl; first_array = refl; depth = refl; totals = refl; cuts = refl })
