use Rattle.std.proofs.Common.{◌<◌, length, sym, ap, arith, ◌∙◌, subst}
use Rattle.std.specs.Prelude.{slice_set}
use Rattle.std.proofs.lemmas.List.{length-set, set-set}
use Rattle.cw_machine.specs.Padded.{ArrayList, padded, IsNone}
use Rattle.cw_machine.proofs.Padding.{padded_length, made_set, reached_few, reached_same}
use Rattle.cw_machine.proofs.array_blocks.ArrayBlocks.renew.Goals as goal

pub invariant_of-self : goal.invariant_of-self
invariant_of-self c =
    let n = padded_length c.self.inside.none c.self.inside.made.items c.self.inside.len in
    let same = ap (λ (l : ArrayList). length l.items) c.self.view_is in
    let within = c.requires.there in
    let lt : c.args.index < c.self.inside.len = omega (arith, n, same, within) in
    let few = reached_few c.self.inside.none c.self.inside.made.items c.args.index c.self.inside.len c.reach.new.made.items c.reach.ensures.more c.self.invariant.0 lt in
    (few, subst IsNone (sym c.reach.ensures.same) c.self.invariant.1)

pub invariant_of-self-in_err-self-inside : goal.invariant_of-self-in_err-self-inside
invariant_of-self-in_err-self-inside c =
    let n = padded_length c.self.inside.none c.self.inside.made.items c.self.inside.len in
    let same = ap (λ (l : ArrayList). length l.items) c.self.view_is in
    let within = c.requires.there in
    let lt : c.args.index < c.self.inside.len = omega (arith, n, same, within) in
    let few = reached_few c.self.inside.none c.self.inside.made.items c.args.index c.self.inside.len c.reach.new.made.items c.reach.ensures.more c.self.invariant.0 lt in
    let as_many = length-set c.reach.new.made.items c.args.index c.empty.result in
    (omega (arith, few, as_many), subst IsNone (sym c.reach.ensures.same) c.self.invariant.1)

pub invariant_of-self-2 : goal.invariant_of-self-2
invariant_of-self-2 c =
    let n = padded_length c.self.inside.none c.self.inside.made.items c.self.inside.len in
    let same = ap (λ (l : ArrayList). length l.items) c.self.view_is in
    let within = c.requires.there in
    let lt : c.args.index < c.self.inside.len = omega (arith, n, same, within) in
    let few = reached_few c.self.inside.none c.self.inside.made.items c.args.index c.self.inside.len c.reach.new.made.items c.reach.ensures.more c.self.invariant.0 lt in
    let as_many = length-set c.reach.new.made.items c.args.index c.empty.result in
    let as_many' = length-set (slice_set c.reach.new.made.items c.args.index c.empty.result) c.args.index c.in_ok-self-inside.field-0 in
    (omega (arith, few, as_many, as_many'), subst IsNone (sym c.reach.ensures.same) c.self.invariant.1)

pub returns : goal.returns
returns c =
    let n = padded_length c.self.inside.none c.self.inside.made.items c.self.inside.len in
    let same = ap (λ (l : ArrayList). length l.items) c.self.view_is in
    let within = c.requires.there in
    let lt : c.args.index < c.self.inside.len = omega (arith, n, same, within) in
    let few = reached_few c.self.inside.none c.self.inside.made.items c.args.index c.self.inside.len c.reach.new.made.items c.reach.ensures.more c.self.invariant.0 lt in
    let zeros = c.in_ok-self-inside.field-0 in
    record {
      zeros = zeros;
      are = c.in_ok-self-inside.ensures.0;
      whole = c.in_ok-self-inside.ensures.1;
      own = c.in_ok-self-inside.ensures.2;
      set = ap (λ b. padded b (slice_set (slice_set c.reach.new.made.items c.args.index c.empty.result) c.args.index zeros) c.self.inside.len) c.reach.ensures.same
          ∙ ap (λ l. padded c.self.inside.none l c.self.inside.len) (set-set c.reach.new.made.items c.args.index c.empty.result zeros)
          ∙ made_set c.self.inside.none c.reach.new.made.items c.self.inside.len c.args.index c.args.self.now.items zeros
          (reached_same c.self.inside.none c.self.inside.made.items c.args.index c.self.inside.len c.reach.new.made.items c.reach.ensures.more c.self.invariant.0 lt ∙ ap (λ (l : ArrayList). l.items) c.self.view_is)
          few c.in_ok-reach.ensures.there;
    }
