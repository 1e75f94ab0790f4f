use Rattle.std.proofs.Common.{◌≡◌, ◌+◌, ◌-◌, ◌≤◌, length, replicate, Some, slice_get, sym, ap, ◌∙◌, arith}
use Prim.Native.Nat.{ℕ, suc}
use Rattle.cw_slices.specs.Blocks.{patched, AreHalved}
use Rattle.cw_slices.proofs.Missing.{counts_merged, counted_there}
use Rattle.cw_slices.proofs.block.ArrayBlock.merge.Goals as goal

pub without_shared-self-inside-requires : goal.without_shared-self-inside-requires
without_shared-self-inside-requires c =
    let k = c.self.inside.kept in let s = c.loosen-len.result.span in let d : ℕ = c.args.share.spot.halved - 1 in
    let base = ap (λ b. b.spot.halved) c.self.view_is in
    let up : c.args.share.spot.halved ≡ suc d = omega (arith, c.requires.share) in
    let many : length c.args.share.items ≡ c.loosen-len.result.len = ap length c.loosen-len.ensures.items ∙ sym c.loosen-len.ensures.run.1 in
    let fits : c.args.from + c.loosen-len.result.len ≤ length k.cells = omega (arith, many, c.requires.within, ap (λ b. length b.cells) c.self.view_is) in
    let alike : AreHalved k.rights c.args.from c.loosen-len.result.len (suc d) = λ j lt. ap (λ b. slice_get b.rights (c.args.from + j)) c.self.view_is ∙ c.requires.newest j (omega (arith, lt, many)) ∙ ap Some up in
    λ small. counted_there k.base c.args.from c.loosen-len.result.len d c.self.inside.out k.cells k.rights c.self.invariant.0 fits alike (λ some. let more = c.requires.out (omega (arith, some, many)) in omega (arith, more, up, base)) small

pub invariant_of-self : goal.invariant_of-self
invariant_of-self c =
    let k = c.self.inside.kept in let new = c.heal.new.self in let s = c.loosen-len.result.span in let d : ℕ = c.args.share.spot.halved - 1 in
    let base = ap (λ b. b.spot.halved) c.self.view_is in let its = ap (λ p. p.halved) c.loosen-len.ensures.spot in
    let up : c.args.share.spot.halved ≡ suc d = omega (arith, c.requires.share) in
    let many : length c.args.share.items ≡ c.loosen-len.result.len = ap length c.loosen-len.ensures.items ∙ sym c.loosen-len.ensures.run.1 in
    let fits : c.args.from + c.loosen-len.result.len ≤ length k.cells = omega (arith, many, c.requires.within, ap (λ b. length b.cells) c.self.view_is) in
    let alike : AreHalved k.rights c.args.from c.loosen-len.result.len (suc d) = λ j lt. ap (λ b. slice_get b.rights (c.args.from + j)) c.self.view_is ∙ c.requires.newest j (omega (arith, lt, many)) ∙ ap Some up in
    let now = c.heal.ensures.rights ∙ (λ i. patched c.args.from (replicate (sym c.loosen-len.ensures.run.1 i) (sym its i - 1)) k.rights) in (
      counts_merged k.cells new.cells k.rights new.rights k.base new.base c.self.inside.out c.self.invariant.0 c.heal.ensures.words.2 c.args.from c.loosen-len.result.len d c.without_shared-self-inside.result c.heal.ensures.words.3 now fits alike (λ some. let more = c.requires.out (omega (arith, some, many)) in omega (arith, more, up, base)) c.without_shared-self-inside.ensures,
      (
        c.self.invariant.1.0,
        c.self.invariant.1.1,
        λ some. ((c.self.invariant.1.2 some).0, (c.self.invariant.1.2 some).1 ∙ sym c.heal.ensures.words.0),
      ),
      λ some. c.heal.ensures.words.2 ∙ c.self.invariant.2 some,
    )
