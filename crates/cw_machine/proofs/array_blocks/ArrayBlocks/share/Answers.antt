use Rattle.std.proofs.Common.{◌≡◌, ◌<◌, ◌≤◌, ◌+◌, ℕ, length, sym, ap, arith, ◌∙◌, subst}
use Rattle.std.specs.Prelude.{replicate, slice_get}
use Rattle.cw_slices.specs.Placed.{after, shared_after}
use Rattle.cw_slices.specs.Blocks.{Lodged, ins, outs, patched, Have, AreIn, AreOut, AreHalved, AreAlike}
use Rattle.cw_machine.specs.Arrays.{block}
use Rattle.cw_machine.specs.Padded.{ArrayList}
use Rattle.cw_machine.proofs.Padding.{made_is, made_put, made_there}
use Rattle.cw_machine.proofs.array_blocks.ArrayBlocks.share.Goals as goal

pub index_mut-requires : goal.index_mut-requires
index_mut-requires c =
    let is_list = ap (λ (l : ArrayList). l.items) c.self.view_is in
    let within = c.requires.within in
    let some = c.requires.some in
    let lt = made_there c.self.inside.none c.self.inside.made.items c.self.inside.len c.args.index c.args.self.now.items is_list c.self.invariant.1 (omega (arith, within, some)) in
    omega (arith, lt, c.self.inside.made.ok.0)

pub share-requires-clause-within : goal.share-requires-clause-within
share-requires-clause-within c =
    let is_list = ap (λ (l : ArrayList). l.items) c.self.view_is in
    let within = c.requires.within in
    let some = c.requires.some in
    let lt = made_there c.self.inside.none c.self.inside.made.items c.self.inside.len c.args.index c.args.self.now.items is_list c.self.invariant.1 (omega (arith, within, some)) in
    let is = made_is c.self.inside.none c.self.inside.made.items c.self.inside.len c.args.index c.args.self.now.items c.index_mut.result.now
    is_list c.self.invariant.0 lt c.index_mut.ensures.value in
    subst (λ (b : Lodged). c.args.from + c.args.count ≤ length b.cells) is c.requires.within

pub share-requires-clause-there : goal.share-requires-clause-there
share-requires-clause-there c =
    let is_list = ap (λ (l : ArrayList). l.items) c.self.view_is in
    let within = c.requires.within in
    let some = c.requires.some in
    let lt = made_there c.self.inside.none c.self.inside.made.items c.self.inside.len c.args.index c.args.self.now.items is_list c.self.invariant.1 (omega (arith, within, some)) in
    let is = made_is c.self.inside.none c.self.inside.made.items c.self.inside.len c.args.index c.args.self.now.items c.index_mut.result.now
    is_list c.self.invariant.0 lt c.index_mut.ensures.value in
    subst (λ (b : Lodged). AreIn b.cells c.args.from c.args.count) is c.requires.there

pub share-requires-clause-alike : goal.share-requires-clause-alike
share-requires-clause-alike c =
    let is_list = ap (λ (l : ArrayList). l.items) c.self.view_is in
    let within = c.requires.within in
    let some = c.requires.some in
    let lt = made_there c.self.inside.none c.self.inside.made.items c.self.inside.len c.args.index c.args.self.now.items is_list c.self.invariant.1 (omega (arith, within, some)) in
    let is = made_is c.self.inside.none c.self.inside.made.items c.self.inside.len c.args.index c.args.self.now.items c.index_mut.result.now
    is_list c.self.invariant.0 lt c.index_mut.ensures.value in
    subst (λ (b : Lodged). AreAlike b.rights c.args.from c.args.count) is c.requires.alike

pub returns-clause-items : goal.returns-clause-items
returns-clause-items c =
    let is_list = ap (λ (l : ArrayList). l.items) c.self.view_is in
    let within = c.requires.within in
    let some = c.requires.some in
    let lt = made_there c.self.inside.none c.self.inside.made.items c.self.inside.len c.args.index c.args.self.now.items is_list c.self.invariant.1 (omega (arith, within, some)) in
    let is = made_is c.self.inside.none c.self.inside.made.items c.self.inside.len c.args.index c.args.self.now.items c.index_mut.result.now
    is_list c.self.invariant.0 lt c.index_mut.ensures.value in
    subst (λ (b : Lodged). Have b.cells c.args.from c.share.result.items) (sym is) c.share.ensures.items

pub returns-clause-place : goal.returns-clause-place
returns-clause-place c =
    let is_list = ap (λ (l : ArrayList). l.items) c.self.view_is in
    let within = c.requires.within in
    let some = c.requires.some in
    let lt = made_there c.self.inside.none c.self.inside.made.items c.self.inside.len c.args.index c.args.self.now.items is_list c.self.invariant.1 (omega (arith, within, some)) in
    let is = made_is c.self.inside.none c.self.inside.made.items c.self.inside.len c.args.index c.args.self.now.items c.index_mut.result.now
    is_list c.self.invariant.0 lt c.index_mut.ensures.value in
    c.share.ensures.place ∙ ap (λ (b : Lodged). shared_after c.args.from c.share.result.spot.halved b.spot) (sym is)

pub returns-clause-right : goal.returns-clause-right
returns-clause-right c =
    let is_list = ap (λ (l : ArrayList). l.items) c.self.view_is in
    let within = c.requires.within in
    let some = c.requires.some in
    let lt = made_there c.self.inside.none c.self.inside.made.items c.self.inside.len c.args.index c.args.self.now.items is_list c.self.invariant.1 (omega (arith, within, some)) in
    let is = made_is c.self.inside.none c.self.inside.made.items c.self.inside.len c.args.index c.args.self.now.items c.index_mut.result.now
    is_list c.self.invariant.0 lt c.index_mut.ensures.value in
    (c.share.ensures.rights.0, c.share.ensures.rights.1, subst (λ (b : Lodged). AreHalved b.rights c.args.from c.args.count c.share.ensures.rights.0) (sym is) c.share.ensures.rights.2)

pub returns-clause-blocks : goal.returns-clause-blocks
returns-clause-blocks c =
    let is_list = ap (λ (l : ArrayList). l.items) c.self.view_is in
    let within = c.requires.within in
    let some = c.requires.some in
    let lt = made_there c.self.inside.none c.self.inside.made.items c.self.inside.len c.args.index c.args.self.now.items is_list c.self.invariant.1 (omega (arith, within, some)) in
    let is = made_is c.self.inside.none c.self.inside.made.items c.self.inside.len c.args.index c.args.self.now.items c.index_mut.result.now
    is_list c.self.invariant.0 lt c.index_mut.ensures.value in
    made_put c.self.inside.none c.self.inside.made.items c.self.inside.len c.args.index c.args.self.now.items
    (record { cells = (block c.args.self.now.items c.args.index).cells; rights = patched c.args.from (replicate c.args.count c.share.result.spot.halved) (block c.args.self.now.items c.args.index).rights; spot = (block c.args.self.now.items c.args.index).spot })
    c.share.new.self is_list c.self.invariant.0 lt (c.share.ensures.cells ∙ ap (λ (b : Lodged). b.cells) (sym is)) (c.share.ensures.rights.3 ∙ ap (λ d. patched c.args.from (replicate c.args.count d) c.index_mut.result.now.rights) (sym c.share.ensures.rights.1) ∙ ap (λ (b : Lodged). patched c.args.from (replicate c.args.count c.share.result.spot.halved) b.rights) (sym is))
    (c.share.ensures.spot ∙ ap (λ (b : Lodged). b.spot) (sym is))
