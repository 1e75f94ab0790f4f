use Rattle.std.specs.Prelude.{take}
use Rattle.std.specs.List.{list_all}
use Rattle.std.proofs.Common.{rules, ◌≡◌, suc, ◌+◌, arith, ℤ, pos, true, slice_index_or, w64, to_z, of_z, subst}
use Rattle.std.proofs.lemmas.Int.{to_z-of_z}
use Rattle.cw_model.specs.Ints.{fits}
use Rattle.cw_cli.proofs.ReadWords.{words_more, words_all}
use Rattle.cw_cli.proofs.reporting.are_words.Goals as goal

pub loop-arg-init : goal.loop-arg-init
loop-arg-init c = search rules

pub loop-arg-preserved : goal.loop-arg-preserved
loop-arg-preserved c =
    let v : ℤ = slice_index_or c.args.args.now c.loop-arg.arg-index (pos 0) in
    let same : to_z w64 (of_z w64 v) ≡ v = search (rules, to_z-of_z) in
    let next : suc c.loop-arg.arg-index ≡ c.loop-arg.arg-index + 1 = omega arith in
    subst (λ n. list_all fits (take n c.args.args.now) ≡ true) next
    (words_more c.args.args.now c.loop-arg.arg-index c.loop-arg-test.true c.loop-arg.invariant (subst (λ w. fits w ≡ true) same c.is_word.ensures))

pub returns : goal.returns
returns c = words_all c.args.args.now c.loop-arg.arg-index c.loop-arg-test.false c.loop-arg.invariant
