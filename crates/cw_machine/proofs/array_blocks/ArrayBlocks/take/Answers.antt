use Rattle.std.proofs.Common.{◌≡◌, ◌<◌, ◌≤◌, ℤ, List, Option, length, refl, sym, ap, arith, ◌∙◌, subst}
use Rattle.std.specs.Prelude.{replicate, slice_set}
use Rattle.cw_slices.specs.Blocks.{Lodged, ins, IsWhole}
use Rattle.cw_machine.specs.Arrays.{block}
use Rattle.cw_machine.specs.Padded.{ArrayList, padded}
use Rattle.cw_machine.proofs.Padding.{made_is, made_set, left_is, lent_items, past_is, taken_other, taken_length}
use Rattle.cw_machine.proofs.array_blocks.ArrayBlocks.take.Goals as goal

pub take-requires-clause-there : goal.take-requires-clause-there
take-requires-clause-there c =
    let is = made_is c.self.inside.none c.self.inside.made.items c.self.inside.len c.args.index c.args.self.now.items c.index_mut.result.now
    (ap (λ (l : ArrayList). l.items) c.self.view_is) c.self.invariant.0 (omega (arith, c.if-index-len.true, c.len.ensures, c.self.inside.made.ok.0)) c.index_mut.ensures.value in
    subst (λ (b : Lodged). (xs : List ℤ) × (b.cells ≡ ins xs)) is c.requires.there.0

pub take-requires-clause-whole : goal.take-requires-clause-whole
take-requires-clause-whole c =
    let is = made_is c.self.inside.none c.self.inside.made.items c.self.inside.len c.args.index c.args.self.now.items c.index_mut.result.now
    (ap (λ (l : ArrayList). l.items) c.self.view_is) c.self.invariant.0 (omega (arith, c.if-index-len.true, c.len.ensures, c.self.inside.made.ok.0)) c.index_mut.ensures.value in
    subst IsWhole is c.requires.there.1

pub returns-then-index-len-clause-items : goal.returns-then-index-len-clause-items
returns-then-index-len-clause-items c =
    let is = made_is c.self.inside.none c.self.inside.made.items c.self.inside.len c.args.index c.args.self.now.items c.index_mut.result.now
    (ap (λ (l : ArrayList). l.items) c.self.view_is) c.self.invariant.0 (omega (arith, c.if-index-len.true, c.len.ensures, c.self.inside.made.ok.0)) c.index_mut.ensures.value in
    c.take.ensures.items ∙ ap (λ (b : Lodged). b.cells) (sym is)

pub returns-then-index-len-clause-spot : goal.returns-then-index-len-clause-spot
returns-then-index-len-clause-spot c =
    let is = made_is c.self.inside.none c.self.inside.made.items c.self.inside.len c.args.index c.args.self.now.items c.index_mut.result.now
    (ap (λ (l : ArrayList). l.items) c.self.view_is) c.self.invariant.0 (omega (arith, c.if-index-len.true, c.len.ensures, c.self.inside.made.ok.0)) c.index_mut.ensures.value in
    c.take.ensures.spot ∙ ap (λ (b : Lodged). b.spot) (sym is)

pub returns-then-index-len-clause-others : goal.returns-then-index-len-clause-others
returns-then-index-len-clause-others c = λ b n. taken_other c.args.self.now.items (padded c.self.inside.none (slice_set c.self.inside.made.items c.args.index c.take.new.self) c.self.inside.len) c.args.index b (record {
  left = c.take.new.self;
  bare = (c.take.ensures.left, c.take.ensures.left_whole ∙ ap (λ (l : List (Option ℤ)). replicate (length l) c.take.new.self.spot.halved) c.take.ensures.left, c.take.ensures.left_own);
  are = made_set c.self.inside.none c.self.inside.made.items c.self.inside.len c.args.index c.args.self.now.items c.take.new.self
      (ap (λ (l : ArrayList). l.items) c.self.view_is) c.self.invariant.0 (omega (arith, c.if-index-len.true, c.len.ensures, c.self.inside.made.ok.0));
}) n

pub returns-then-index-len-clause-as_many : goal.returns-then-index-len-clause-as_many
returns-then-index-len-clause-as_many c = taken_length c.args.self.now.items (padded c.self.inside.none (slice_set c.self.inside.made.items c.args.index c.take.new.self) c.self.inside.len) c.args.index (record {
  left = c.take.new.self;
  bare = (c.take.ensures.left, c.take.ensures.left_whole ∙ ap (λ (l : List (Option ℤ)). replicate (length l) c.take.new.self.spot.halved) c.take.ensures.left, c.take.ensures.left_own);
  are = made_set c.self.inside.none c.self.inside.made.items c.self.inside.len c.args.index c.args.self.now.items c.take.new.self
      (ap (λ (l : ArrayList). l.items) c.self.view_is) c.self.invariant.0 (omega (arith, c.if-index-len.true, c.len.ensures, c.self.inside.made.ok.0));
})

pub returns-else-index-len-clause-items : goal.returns-else-index-len-clause-items
returns-else-index-len-clause-items c =
    let is = past_is c.self.inside.none c.self.inside.made.items c.self.inside.len c.args.index c.args.self.now.items (ap (λ (l : ArrayList). l.items) c.self.view_is)
    (omega (arith, c.if-index-len.false, c.len.ensures, c.self.inside.made.ok.0)) c.requires.index in
    ap ins (lent_items c.lend.result c.lend.ensures.count) ∙ sym (ap (λ (b : Lodged). b.cells) is ∙ c.self.invariant.1.bare.0)

pub returns-else-index-len-clause-spot : goal.returns-else-index-len-clause-spot
returns-else-index-len-clause-spot c =
    let is = past_is c.self.inside.none c.self.inside.made.items c.self.inside.len c.args.index c.args.self.now.items (ap (λ (l : ArrayList). l.items) c.self.view_is)
    (omega (arith, c.if-index-len.false, c.len.ensures, c.self.inside.made.ok.0)) c.requires.index in
    c.lend.ensures.place ∙ sym c.self.invariant.1.alike ∙ ap (λ (b : Lodged). b.spot) (sym is)

pub returns-else-index-len-clause-others : goal.returns-else-index-len-clause-others
returns-else-index-len-clause-others c =
    let same = left_is c.self.inside.none c.lend.new.self c.self.invariant.1 c.lend.ensures.cells c.lend.ensures.rights c.lend.ensures.spot in
    λ b n. ap (λ w. block (padded w c.self.inside.made.items c.self.inside.len) b) same ∙ ap (λ (l : ArrayList). block l.items b) c.self.view_is

pub returns-else-index-len-clause-as_many : goal.returns-else-index-len-clause-as_many
returns-else-index-len-clause-as_many c =
    let same = left_is c.self.inside.none c.lend.new.self c.self.invariant.1 c.lend.ensures.cells c.lend.ensures.rights c.lend.ensures.spot in
    ap (λ w. length (padded w c.self.inside.made.items c.self.inside.len)) same ∙ ap (λ (l : ArrayList). length l.items) c.self.view_is
