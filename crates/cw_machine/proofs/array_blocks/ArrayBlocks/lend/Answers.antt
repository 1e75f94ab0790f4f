use Rattle.std.proofs.Common.{◌≡◌, ◌<◌, ◌≤◌, ◌+◌, ℕ, length, sym, ap, arith, ◌∙◌, subst}
use Rattle.std.specs.Prelude.{replicate, slice_get}
use Rattle.cw_slices.specs.Placed.{after, shared_after}
use Rattle.cw_slices.specs.Blocks.{Lodged, ins, outs, patched, Have, AreIn, AreOut, AreHalved, AreAlike}
use Rattle.cw_machine.specs.Arrays.{block}
use Rattle.cw_machine.specs.Padded.{ArrayList}
use Rattle.cw_machine.proofs.Padding.{made_is, made_put, made_there}
use Rattle.cw_machine.proofs.array_blocks.ArrayBlocks.lend.Goals as goal

pub index_mut-requires : goal.index_mut-requires
index_mut-requires c =
    let is_list = ap (λ (l : ArrayList). l.items) c.self.view_is in
    let within = c.requires.within in
    let some = c.requires.some in
    let lt = made_there c.self.inside.none c.self.inside.made.items c.self.inside.len c.args.index c.args.self.now.items is_list c.self.invariant.1 (omega (arith, within, some)) in
    omega (arith, lt, c.self.inside.made.ok.0)

pub lend-requires-clause-within : goal.lend-requires-clause-within
lend-requires-clause-within c =
    let is_list = ap (λ (l : ArrayList). l.items) c.self.view_is in
    let within = c.requires.within in
    let some = c.requires.some in
    let lt = made_there c.self.inside.none c.self.inside.made.items c.self.inside.len c.args.index c.args.self.now.items is_list c.self.invariant.1 (omega (arith, within, some)) in
    let is = made_is c.self.inside.none c.self.inside.made.items c.self.inside.len c.args.index c.args.self.now.items c.index_mut.result.now
    is_list c.self.invariant.0 lt c.index_mut.ensures.value in
    subst (λ (b : Lodged). c.args.from + c.args.count ≤ length b.cells) is c.requires.within

pub lend-requires-clause-there : goal.lend-requires-clause-there
lend-requires-clause-there c =
    let is_list = ap (λ (l : ArrayList). l.items) c.self.view_is in
    let within = c.requires.within in
    let some = c.requires.some in
    let lt = made_there c.self.inside.none c.self.inside.made.items c.self.inside.len c.args.index c.args.self.now.items is_list c.self.invariant.1 (omega (arith, within, some)) in
    let is = made_is c.self.inside.none c.self.inside.made.items c.self.inside.len c.args.index c.args.self.now.items c.index_mut.result.now
    is_list c.self.invariant.0 lt c.index_mut.ensures.value in
    subst (λ (b : Lodged). AreIn b.cells c.args.from c.args.count) is c.requires.there

pub lend-requires-clause-whole : goal.lend-requires-clause-whole
lend-requires-clause-whole c =
    let is_list = ap (λ (l : ArrayList). l.items) c.self.view_is in
    let within = c.requires.within in
    let some = c.requires.some in
    let lt = made_there c.self.inside.none c.self.inside.made.items c.self.inside.len c.args.index c.args.self.now.items is_list c.self.invariant.1 (omega (arith, within, some)) in
    let is = made_is c.self.inside.none c.self.inside.made.items c.self.inside.len c.args.index c.args.self.now.items c.index_mut.result.now
    is_list c.self.invariant.0 lt c.index_mut.ensures.value in
    subst (λ (b : Lodged). AreHalved b.rights c.args.from c.args.count b.spot.halved) is c.requires.whole

pub returns-clause-items : goal.returns-clause-items
returns-clause-items c =
    let is_list = ap (λ (l : ArrayList). l.items) c.self.view_is in
    let within = c.requires.within in
    let some = c.requires.some in
    let lt = made_there c.self.inside.none c.self.inside.made.items c.self.inside.len c.args.index c.args.self.now.items is_list c.self.invariant.1 (omega (arith, within, some)) in
    let is = made_is c.self.inside.none c.self.inside.made.items c.self.inside.len c.args.index c.args.self.now.items c.index_mut.result.now
    is_list c.self.invariant.0 lt c.index_mut.ensures.value in
    subst (λ (b : Lodged). Have b.cells c.args.from c.lend.result.items) (sym is) c.lend.ensures.items

pub returns-clause-place : goal.returns-clause-place
returns-clause-place c =
    let is_list = ap (λ (l : ArrayList). l.items) c.self.view_is in
    let within = c.requires.within in
    let some = c.requires.some in
    let lt = made_there c.self.inside.none c.self.inside.made.items c.self.inside.len c.args.index c.args.self.now.items is_list c.self.invariant.1 (omega (arith, within, some)) in
    let is = made_is c.self.inside.none c.self.inside.made.items c.self.inside.len c.args.index c.args.self.now.items c.index_mut.result.now
    is_list c.self.invariant.0 lt c.index_mut.ensures.value in
    c.lend.ensures.place ∙ ap (λ (b : Lodged). after c.args.from b.spot) (sym is)

pub returns-clause-blocks : goal.returns-clause-blocks
returns-clause-blocks c =
    let is_list = ap (λ (l : ArrayList). l.items) c.self.view_is in
    let within = c.requires.within in
    let some = c.requires.some in
    let lt = made_there c.self.inside.none c.self.inside.made.items c.self.inside.len c.args.index c.args.self.now.items is_list c.self.invariant.1 (omega (arith, within, some)) in
    let is = made_is c.self.inside.none c.self.inside.made.items c.self.inside.len c.args.index c.args.self.now.items c.index_mut.result.now
    is_list c.self.invariant.0 lt c.index_mut.ensures.value in
    made_put c.self.inside.none c.self.inside.made.items c.self.inside.len c.args.index c.args.self.now.items
    (record { cells = patched c.args.from (outs c.args.count) (block c.args.self.now.items c.args.index).cells; rights = (block c.args.self.now.items c.args.index).rights; spot = (block c.args.self.now.items c.args.index).spot })
    c.lend.new.self is_list c.self.invariant.0 lt (c.lend.ensures.cells ∙ ap (λ (b : Lodged). patched c.args.from (outs c.args.count) b.cells) (sym is)) (c.lend.ensures.rights ∙ ap (λ (b : Lodged). b.rights) (sym is))
    (c.lend.ensures.spot ∙ ap (λ (b : Lodged). b.spot) (sym is))
