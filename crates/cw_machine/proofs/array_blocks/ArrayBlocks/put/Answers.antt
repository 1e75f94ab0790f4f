use Rattle.std.proofs.Common.{◌<◌, length, sym, ap, arith, ◌∙◌, subst}
use Rattle.std.specs.Prelude.{slice_set}
use Rattle.std.proofs.lemmas.List.{length-set}
use Rattle.cw_machine.specs.Padded.{ArrayList, padded, IsNone}
use Rattle.cw_machine.proofs.Padding.{padded_length, made_set, reached_few, reached_same}
use Rattle.cw_machine.proofs.array_blocks.ArrayBlocks.put.Goals as goal

pub invariant_of-self : goal.invariant_of-self
invariant_of-self c =
    let n = padded_length c.self.inside.none c.self.inside.made.items c.self.inside.len in
    let same = ap (λ (l : ArrayList). length l.items) c.self.view_is in
    let within = c.requires in (
      reached_few c.self.inside.none c.self.inside.made.items c.args.index c.self.inside.len c.reach.new.made.items c.reach.ensures.more c.self.invariant.0 (omega (arith, n, same, within)),
      subst IsNone (sym c.reach.ensures.same) c.self.invariant.1,
    )

pub invariant_of-self-2 : goal.invariant_of-self-2
invariant_of-self-2 c =
    let n = padded_length c.self.inside.none c.self.inside.made.items c.self.inside.len in
    let same = ap (λ (l : ArrayList). length l.items) c.self.view_is in
    let within = c.requires in
    let few = reached_few c.self.inside.none c.self.inside.made.items c.args.index c.self.inside.len c.reach.new.made.items c.reach.ensures.more c.self.invariant.0 (omega (arith, n, same, within)) in
    let as_many = length-set c.reach.new.made.items c.args.index c.args.block in
    (omega (arith, few, as_many), subst IsNone (sym c.reach.ensures.same) c.self.invariant.1)

pub returns : goal.returns
returns c =
    let n = padded_length c.self.inside.none c.self.inside.made.items c.self.inside.len in
    let same = ap (λ (l : ArrayList). length l.items) c.self.view_is in
    let within = c.requires in
    let lt : c.args.index < c.self.inside.len = omega (arith, n, same, within) in
    let few = reached_few c.self.inside.none c.self.inside.made.items c.args.index c.self.inside.len c.reach.new.made.items c.reach.ensures.more c.self.invariant.0 lt in
    ap (λ b. padded b (slice_set c.reach.new.made.items c.args.index c.args.block) c.self.inside.len) c.reach.ensures.same
    ∙ made_set c.self.inside.none c.reach.new.made.items c.self.inside.len c.args.index c.args.self.now.items c.args.block
    (reached_same c.self.inside.none c.self.inside.made.items c.args.index c.self.inside.len c.reach.new.made.items c.reach.ensures.more c.self.invariant.0 lt ∙ ap (λ (l : ArrayList). l.items) c.self.view_is)
    few c.in_ok-reach.ensures.there
