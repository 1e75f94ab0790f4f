use Rattle.std.proofs.Common.{◌++◌, arith, ap, ◌∙◌}
use Rattle.cw_greedy.specs.Entries.{codes_kept, two_pieces}
use Rattle.cw_greedy.specs.Recorded.{cuts, followed, recorded}
use Rattle.cw_greedy.specs.RecordLaws.{Counts, cuts-append, stored_few, stored_many}
use Rattle.cw_greedy.proofs.piece.PieceMonoid.join.Goals as goal

pub invariant_of-result : goal.invariant_of-result
invariant_of-result c =
    let l = codes_kept c.self.inside.chunks.items c.self.inside.last.items in
    let m = codes_kept c.right.inside.chunks.items c.right.inside.last.items in
    let all = ap (λ chunks. codes_kept chunks c.right.inside.last.items) c.in_ok-chunks.ensures
    ∙ two_pieces c.in_ok-first.first.items c.right.inside.chunks.items c.right.inside.last.items ∙ ap (λ x. x ++ m) c.in_ok-first.ensures in (
      λ few.
          let own = c.self.inside.counted (omega (arith, few, c.saturating_add-cuts.ensures)) in
          let more = c.right.inside.counted (omega (arith, few, c.saturating_add-cuts.ensures)) in
          omega (arith, few, own, more, ap cuts all, cuts-append l m, c.saturating_add-cuts.ensures),
      tt,
    )

pub returns-then-cuts-ge-MOST_STRANDS : goal.returns-then-cuts-ge-MOST_STRANDS
returns-then-cuts-ge-MOST_STRANDS c =
    let l = codes_kept c.self.inside.chunks.items c.self.inside.last.items in
    let m = codes_kept c.right.inside.chunks.items c.right.inside.last.items in
    let own : Counts c.self.inside.cuts l = c.self.inside.counted in
    let more : Counts c.right.inside.cuts m = c.right.inside.counted in
    let e = stored_many c.self.inside.cuts c.right.inside.cuts c.saturating_add-cuts.result l m own more
    (omega (arith, c.saturating_add-cuts.ensures)) (omega (arith, c.if-cuts-ge-MOST_STRANDS.true)) in
    record {
      value =
          c.too_many.ensures ∙ e ∙ ap (λ x. followed x (recorded c.right.inside.cuts m)) c.self.view_is
          ∙ ap (λ x. followed c.args.self x) c.right.view_is;
    }

pub returns : goal.returns
returns c =
    let l = codes_kept c.self.inside.chunks.items c.self.inside.last.items in
    let m = codes_kept c.right.inside.chunks.items c.right.inside.last.items in
    let all = ap (λ chunks. codes_kept chunks c.right.inside.last.items) c.in_ok-chunks.ensures
    ∙ two_pieces c.in_ok-first.first.items c.right.inside.chunks.items c.right.inside.last.items ∙ ap (λ x. x ++ m) c.in_ok-first.ensures in
    let own : Counts c.self.inside.cuts l = c.self.inside.counted in
    let more : Counts c.right.inside.cuts m = c.right.inside.counted in
    let e = stored_few c.self.inside.cuts c.right.inside.cuts c.saturating_add-cuts.result l m own more
    (omega (arith, c.saturating_add-cuts.ensures)) (omega (arith, c.if-cuts-ge-MOST_STRANDS.false)) in
    record {
      value =
          ap (recorded c.saturating_add-cuts.result) all ∙ e ∙ ap (λ x. followed x (recorded c.right.inside.cuts m)) c.self.view_is
          ∙ ap (λ x. followed c.args.self x) c.right.view_is;
    }
