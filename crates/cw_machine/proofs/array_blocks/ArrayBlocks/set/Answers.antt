use Rattle.std.proofs.Common.{rules, ◌≡◌, ◌<◌, ℤ, Some, length, sym, ap, arith, ◌∙◌, subst, w64, of_z, to_z}
use Rattle.std.specs.Prelude.{slice_get, slice_set}
use Rattle.std.proofs.lemmas.Int.{to_z-of_z}
use Rattle.cw_slices.specs.Blocks.{Lodged}
use Rattle.cw_machine.specs.Arrays.{block}
use Rattle.cw_machine.specs.Padded.{ArrayList}
use Rattle.cw_machine.proofs.Blocks as blocks
use Rattle.cw_machine.proofs.Padding.{made_is, made_put, found_there}
use Rattle.cw_machine.proofs.array_blocks.ArrayBlocks.set.Goals as goal

pub index_mut-requires : goal.index_mut-requires
index_mut-requires c =
    let lt = found_there c.self.inside.none c.self.inside.made.items c.self.inside.len c.args.block c.args.k c.args.self.now.items
    (ap (λ (l : ArrayList). l.items) c.self.view_is) c.self.invariant.1 c.requires.there.0 c.requires.there.1 in
    omega (arith, lt, c.self.inside.made.ok.0)

pub set-requires-clause-there : goal.set-requires-clause-there
set-requires-clause-there c =
    let is_list = ap (λ (l : ArrayList). l.items) c.self.view_is in
    let lt = found_there c.self.inside.none c.self.inside.made.items c.self.inside.len c.args.block c.args.k c.args.self.now.items is_list c.self.invariant.1 c.requires.there.0 c.requires.there.1 in
    let is = made_is c.self.inside.none c.self.inside.made.items c.self.inside.len c.args.block c.args.self.now.items c.index_mut.result.now is_list c.self.invariant.0 lt c.index_mut.ensures.value in
    (c.requires.there.0, sym (ap (λ (b : Lodged). slice_get b.cells c.args.k) is) ∙ (blocks.found_is c.args.self.now.items c.args.block c.args.k c.requires.there.0 c.requires.there.1).1)

pub set-requires-clause-own : goal.set-requires-clause-own
set-requires-clause-own c =
    let is_list = ap (λ (l : ArrayList). l.items) c.self.view_is in
    let lt = found_there c.self.inside.none c.self.inside.made.items c.self.inside.len c.args.block c.args.k c.args.self.now.items is_list c.self.invariant.1 c.requires.there.0 c.requires.there.1 in
    let is = made_is c.self.inside.none c.self.inside.made.items c.self.inside.len c.args.block c.args.self.now.items c.index_mut.result.now is_list c.self.invariant.0 lt c.index_mut.ensures.value in
    sym (ap (λ (b : Lodged). slice_get b.rights c.args.k) is) ∙ c.requires.own

pub returns : goal.returns
returns c =
    let same : to_z w64 (of_z w64 c.args.x) ≡ c.args.x = search (rules, to_z-of_z) in
    let is_list = ap (λ (l : ArrayList). l.items) c.self.view_is in
    let lt = found_there c.self.inside.none c.self.inside.made.items c.self.inside.len c.args.block c.args.k c.args.self.now.items is_list c.self.invariant.1 c.requires.there.0 c.requires.there.1 in
    let is = made_is c.self.inside.none c.self.inside.made.items c.self.inside.len c.args.block c.args.self.now.items c.index_mut.result.now is_list c.self.invariant.0 lt c.index_mut.ensures.value in
    made_put c.self.inside.none c.self.inside.made.items c.self.inside.len c.args.block c.args.self.now.items
    (record { cells = slice_set (block c.args.self.now.items c.args.block).cells c.args.k (Some c.args.x); rights = (block c.args.self.now.items c.args.block).rights; spot = (block c.args.self.now.items c.args.block).spot })
    c.set.new.self is_list c.self.invariant.0 lt
    (c.set.ensures.cells ∙ ap (λ (z : ℤ). slice_set c.index_mut.result.now.cells c.args.k (Some z)) same ∙ ap (λ (b : Lodged). slice_set b.cells c.args.k (Some c.args.x)) (sym is))
    (c.set.ensures.rights ∙ ap (λ (b : Lodged). b.rights) (sym is)) (c.set.ensures.spot ∙ ap (λ (b : Lodged). b.spot) (sym is))
