use Rattle.std.proofs.Common.{rules, ◌≡◌, ◌<◌, ℤ, Some, length, sym, ap, arith, ◌∙◌, w64, of_z, to_z}
use Rattle.std.proofs.lemmas.Int.{to_z-of_z}
use Rattle.std.specs.Prelude.{slice_get}
use Rattle.cw_slices.specs.Blocks.{Lodged}
use Rattle.cw_machine.specs.Padded.{ArrayList}
use Rattle.cw_machine.proofs.Blocks as blocks
use Rattle.cw_machine.proofs.Padding.{made_is, found_there}
use Rattle.cw_machine.proofs.array_blocks.ArrayBlocks.get.Goals as goal

pub index-requires : goal.index-requires
index-requires c =
    let lt = found_there c.self.inside.none c.self.inside.made.items c.self.inside.len c.args.block c.args.k c.args.self.now.items
    (ap (λ (l : ArrayList). l.items) c.self.view_is) c.self.invariant.1 c.requires.0 c.requires.1 in
    omega (arith, lt, c.self.inside.made.ok.0)

pub get-requires : goal.get-requires
get-requires c =
    let lt = found_there c.self.inside.none c.self.inside.made.items c.self.inside.len c.args.block c.args.k c.args.self.now.items
    (ap (λ (l : ArrayList). l.items) c.self.view_is) c.self.invariant.1 c.requires.0 c.requires.1 in
    let is = made_is c.self.inside.none c.self.inside.made.items c.self.inside.len c.args.block c.args.self.now.items c.index.result.now
    (ap (λ (l : ArrayList). l.items) c.self.view_is) c.self.invariant.0 lt c.index.ensures in
    record { there = (c.requires.0, sym (ap (λ (b : Lodged). slice_get b.cells c.args.k) is) ∙ (blocks.found_is c.args.self.now.items c.args.block c.args.k c.requires.0 c.requires.1).1) }

pub returns : goal.returns
returns c =
    let same : to_z w64 (of_z w64 c.get.result) ≡ c.get.result = search (rules, to_z-of_z) in
    let lt = found_there c.self.inside.none c.self.inside.made.items c.self.inside.len c.args.block c.args.k c.args.self.now.items
    (ap (λ (l : ArrayList). l.items) c.self.view_is) c.self.invariant.1 c.requires.0 c.requires.1 in
    let is = made_is c.self.inside.none c.self.inside.made.items c.self.inside.len c.args.block c.args.self.now.items c.index.result.now
    (ap (λ (l : ArrayList). l.items) c.self.view_is) c.self.invariant.0 lt c.index.ensures in
    blocks.is_found c.args.self.now.items c.args.block c.args.k c.get.result (blocks.found_is c.args.self.now.items c.args.block c.args.k c.requires.0 c.requires.1).0
    (ap (λ (b : Lodged). slice_get b.cells c.args.k) is ∙ c.get.ensures) ∙ ap (λ (z : ℤ). Some z) (sym same)
