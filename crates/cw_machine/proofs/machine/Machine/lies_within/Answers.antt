use Rattle.std.proofs.Common.{rules, ◌≡◌, ◌&&◌, pos, false, sym, ap, ◌∙◌, subst, w64, of_z, to_z}
use Rattle.std.specs.Prelude.{int_le}
use Rattle.std.proofs.lemmas.Int.{to_z-of_z}
use Rattle.cw_machine.proofs.Lending.{LiesFrom, lies_next, lies_out, lies_all}
use Rattle.cw_machine.proofs.machine.Machine.lies_within.Goals as goal

pub returns-then-not-is_span : goal.returns-then-not-is_span
returns-then-not-is_span c =
    let low : to_z w64 (of_z w64 c.args.low) ≡ c.args.low = search (rules, to_z-of_z) in
    let high : to_z w64 (of_z w64 c.args.high) ≡ c.args.high = search (rules, to_z-of_z) in
    let out : (int_le (pos 0) c.args.low && int_le c.args.high (pos c.view-v.result.len)) ≡ false = sym (ap (λ z. int_le (pos 0) z && int_le c.args.high (pos c.view-v.result.len)) low) ∙ sym (ap (λ z. int_le (pos 0) (to_z w64 (of_z w64 c.args.low)) && int_le z (pos c.view-v.result.len)) high) ∙ sym c.is_span.ensures ∙ c.if-not-is_span.true in
    let same : LiesFrom c.args.self.now c.args.passed.now c.args.low c.args.high c.loop-k.k = subst (λ z. LiesFrom c.args.self.now c.args.passed.now c.args.low z c.loop-k.k) high (subst (λ z. LiesFrom c.args.self.now c.args.passed.now z (to_z w64 (of_z w64 c.args.high)) c.loop-k.k) low c.loop-k.invariant.lies) in
    lies_out c.args.self.now c.args.passed.now c.args.low c.args.high c.loop-k.k same c.loop-k-test.true c.view-v.result c.view-v.ensures out

pub loop-k-preserved : goal.loop-k-preserved
loop-k-preserved c = record { lies = lies_next c.args.self.now c.args.passed.now (to_z w64 (of_z w64 c.args.low)) (to_z w64 (of_z w64 c.args.high)) c.loop-k.k c.loop-k.invariant.lies c.loop-k-test.true c.view-v.result c.view-v.ensures (sym c.is_span.ensures ∙ c.if-not-is_span.false) }

pub returns : goal.returns
returns c =
    let low : to_z w64 (of_z w64 c.args.low) ≡ c.args.low = search (rules, to_z-of_z) in
    let high : to_z w64 (of_z w64 c.args.high) ≡ c.args.high = search (rules, to_z-of_z) in
    let same : LiesFrom c.args.self.now c.args.passed.now c.args.low c.args.high c.loop-k.k = subst (λ z. LiesFrom c.args.self.now c.args.passed.now c.args.low z c.loop-k.k) high (subst (λ z. LiesFrom c.args.self.now c.args.passed.now z (to_z w64 (of_z w64 c.args.high)) c.loop-k.k) low c.loop-k.invariant.lies) in
    lies_all c.args.self.now c.args.passed.now c.args.low c.args.high c.loop-k.k same c.loop-k-test.false
