use Rattle.std.proofs.Common.{arith, ⊎_elim, ◌+◌, ◌<◌, length, sym, ap, ◌∙◌, ◌≡◌, subst}
use Rattle.std.proofs.lemmas.Bool.{true≢false}
use Rattle.cw_facts.specs.Tests.{equal}
use Rattle.cw_slices.specs.Blocks.{Lodged}
use Rattle.cw_machine.specs.declared.machine.View.{View}
use Rattle.cw_machine.specs.Arrays.{block}
use Rattle.cw_machine.specs.JobRuns.{cells_at, Copies, Within}
use Rattle.cw_machine.proofs.Places.{none_or_some}
use Rattle.cw_machine.proofs.JobSlots.{view_is}
use Rattle.cw_machine.proofs.machine.Machine.copy_of.Goals as goal
use Rattle.cw_machine.proofs.machine.Machine.copy_of.Goals.{else-is_whole-via-then-is_whole+else-v-count, then-v-a, else-v-a, else-is_whole-via-else-is_whole, then-v-len_of, else-v-len_of}

pub copied-requires-clause-small : goal.copied-requires-clause-small
copied-requires-clause-small c =
    let m = c.args.self.now in
    let w = c.index-v.result.now in
    let see = c.requires.see in
    let views = see.views in
    let e = view_is m.views.items (c.args.count + c.args.a) w c.index-v.ensures (omega (arith, views, c.requires.slot)) in
    ⊎_elim
    (λ some.
    let within = subst (λ (z : View). Within z.from z.len (cells_at m z)) e (see.within c.args.a c.requires.slot) some in
    let value = c.len_of.ensures.value in
    let small = c.len_of.ensures.small in
    omega (arith, within, value, small))
    (λ none. omega (arith, none))
    (none_or_some w.len)

pub returns : goal.returns
returns c =
    let m = c.args.self.now in
    let w = c.index-v.result.now in
    let see = c.requires.see in
    let views = see.views in
    let e = view_is m.views.items (c.args.count + c.args.a) w c.index-v.ensures (omega (arith, views, c.requires.slot)) in
    let copies = subst (λ (z : View). Copies (block m.blocks.items z.block).cells z.from z.len c.in_ok-copy.copy) (sym e)
    (subst (λ (b : Lodged). Copies b.cells w.from w.len c.in_ok-copy.copy) c.in-Some.ensures c.in_ok-copy.ensures) in (
      copies,
      λ own.
          let same_block : w.block ≡ c.args.a = ap (λ (z : View). z.block) (sym e) ∙ own.lies in
          let same_from : w.from ≡ 0 = ap (λ (z : View). z.from) (sym e) ∙ own.from in
          let same_len : w.len ≡ c.len_of.result = ap (λ (z : View). z.len) (sym e) ∙ own.len ∙ ap (λ (z : View). length (block m.blocks.items z.block).cells) e ∙ sym c.len_of.ensures.value in
          elim c.else-is_whole.branch [
            | else-is_whole-via-then-is_whole+else-v-count x ↦
                elim x.if-v-a.branch [ then-v-a y ↦ true≢false (sym (y.value-is ∙ equal w.block c.args.a same_block) ∙ x.if-v-count.false) | else-v-a y ↦ y.if-v-a.false same_block ]
            | else-is_whole-via-else-is_whole x ↦
                elim c.if-v-len_of.branch [ then-v-len_of y ↦ true≢false (sym (y.is_whole-is ∙ equal w.from 0 same_from) ∙ x.if-is_whole.false) | else-v-len_of y ↦ y.if-v-len_of.false same_len ]
          ],
    )
