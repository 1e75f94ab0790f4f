use Rattle.std.proofs.Common.{◌≡◌, ◌<◌, ◌≤◌, ◌+◌, ◌-◌, ℕ, length, sym, ap, arith, ◌∙◌, subst}
use Rattle.std.specs.Prelude.{replicate, slice_get}
use Rattle.cw_slices.specs.Placed.{after, shared_after}
use Rattle.cw_slices.specs.Blocks.{Lodged, ins, outs, patched, Have, AreIn, AreOut, AreHalved, AreAlike}
use Rattle.cw_machine.specs.Arrays.{block}
use Rattle.cw_machine.specs.Padded.{ArrayList}
use Rattle.cw_machine.proofs.Padding.{made_is, made_put, made_there}
use Rattle.cw_machine.proofs.array_blocks.ArrayBlocks.merge.Goals as goal

pub index_mut-requires : goal.index_mut-requires
index_mut-requires c =
    let is_list = ap (λ (l : ArrayList). l.items) c.self.view_is in
    let within = c.requires.within in
    let some = c.requires.some in
    let lt = made_there c.self.inside.none c.self.inside.made.items c.self.inside.len c.args.index c.args.self.now.items is_list c.self.invariant.1 (omega (arith, within, some)) in
    omega (arith, lt, c.self.inside.made.ok.0)

pub merge-requires-clause-within : goal.merge-requires-clause-within
merge-requires-clause-within c =
    let is_list = ap (λ (l : ArrayList). l.items) c.self.view_is in
    let within = c.requires.within in
    let some = c.requires.some in
    let lt = made_there c.self.inside.none c.self.inside.made.items c.self.inside.len c.args.index c.args.self.now.items is_list c.self.invariant.1 (omega (arith, within, some)) in
    let is = made_is c.self.inside.none c.self.inside.made.items c.self.inside.len c.args.index c.args.self.now.items c.index_mut.result.now
    is_list c.self.invariant.0 lt c.index_mut.ensures.value in
    subst (λ (b : Lodged). c.args.from + length c.args.share.items ≤ length b.cells) is c.requires.within

pub merge-requires-clause-same : goal.merge-requires-clause-same
merge-requires-clause-same c =
    let is_list = ap (λ (l : ArrayList). l.items) c.self.view_is in
    let within = c.requires.within in
    let some = c.requires.some in
    let lt = made_there c.self.inside.none c.self.inside.made.items c.self.inside.len c.args.index c.args.self.now.items is_list c.self.invariant.1 (omega (arith, within, some)) in
    let is = made_is c.self.inside.none c.self.inside.made.items c.self.inside.len c.args.index c.args.self.now.items c.index_mut.result.now
    is_list c.self.invariant.0 lt c.index_mut.ensures.value in
    subst (λ (b : Lodged). Have b.cells c.args.from c.args.share.items) is c.requires.same

pub merge-requires-clause-newest : goal.merge-requires-clause-newest
merge-requires-clause-newest c =
    let is_list = ap (λ (l : ArrayList). l.items) c.self.view_is in
    let within = c.requires.within in
    let some = c.requires.some in
    let lt = made_there c.self.inside.none c.self.inside.made.items c.self.inside.len c.args.index c.args.self.now.items is_list c.self.invariant.1 (omega (arith, within, some)) in
    let is = made_is c.self.inside.none c.self.inside.made.items c.self.inside.len c.args.index c.args.self.now.items c.index_mut.result.now
    is_list c.self.invariant.0 lt c.index_mut.ensures.value in
    subst (λ (b : Lodged). AreHalved b.rights c.args.from (length c.args.share.items) c.args.share.spot.halved) is c.requires.newest

pub merge-requires-clause-place : goal.merge-requires-clause-place
merge-requires-clause-place c =
    let is_list = ap (λ (l : ArrayList). l.items) c.self.view_is in
    let within = c.requires.within in
    let some = c.requires.some in
    let lt = made_there c.self.inside.none c.self.inside.made.items c.self.inside.len c.args.index c.args.self.now.items is_list c.self.invariant.1 (omega (arith, within, some)) in
    let is = made_is c.self.inside.none c.self.inside.made.items c.self.inside.len c.args.index c.args.self.now.items c.index_mut.result.now
    is_list c.self.invariant.0 lt c.index_mut.ensures.value in
    subst (λ (b : Lodged). c.args.share.spot ≡ shared_after c.args.from c.args.share.spot.halved b.spot) is c.requires.place

pub merge-requires-clause-out : goal.merge-requires-clause-out
merge-requires-clause-out c =
    let is_list = ap (λ (l : ArrayList). l.items) c.self.view_is in
    let within = c.requires.within in
    let some = c.requires.some in
    let lt = made_there c.self.inside.none c.self.inside.made.items c.self.inside.len c.args.index c.args.self.now.items is_list c.self.invariant.1 (omega (arith, within, some)) in
    let is = made_is c.self.inside.none c.self.inside.made.items c.self.inside.len c.args.index c.args.self.now.items c.index_mut.result.now
    is_list c.self.invariant.0 lt c.index_mut.ensures.value in
    λ some. subst (λ (b : Lodged). b.spot.halved < c.args.share.spot.halved) is c.requires.out

pub returns : goal.returns
returns c =
    let is_list = ap (λ (l : ArrayList). l.items) c.self.view_is in
    let within = c.requires.within in
    let some = c.requires.some in
    let lt = made_there c.self.inside.none c.self.inside.made.items c.self.inside.len c.args.index c.args.self.now.items is_list c.self.invariant.1 (omega (arith, within, some)) in
    let is = made_is c.self.inside.none c.self.inside.made.items c.self.inside.len c.args.index c.args.self.now.items c.index_mut.result.now
    is_list c.self.invariant.0 lt c.index_mut.ensures.value in
    made_put c.self.inside.none c.self.inside.made.items c.self.inside.len c.args.index c.args.self.now.items
    (record { cells = (block c.args.self.now.items c.args.index).cells; rights = patched c.args.from (replicate (length c.args.share.items) (c.args.share.spot.halved - 1)) (block c.args.self.now.items c.args.index).rights; spot = (block c.args.self.now.items c.args.index).spot })
    c.merge.new.self is_list c.self.invariant.0 lt (c.merge.ensures.cells ∙ ap (λ (b : Lodged). b.cells) (sym is)) (c.merge.ensures.rights ∙ ap (λ (b : Lodged). patched c.args.from (replicate (length c.args.share.items) (c.args.share.spot.halved - 1)) b.rights) (sym is))
    (c.merge.ensures.spot ∙ ap (λ (b : Lodged). b.spot) (sym is))
