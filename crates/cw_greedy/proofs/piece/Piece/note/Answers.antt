use Rattle.std.proofs.Common.{◌++◌, refl, arith, ap, ◌∙◌}
use Rattle.cw_greedy.specs.Entries.{codes_kept, codes_of_entry, entry, one_entry}
use Rattle.cw_greedy.specs.Recorded.{cuts, followed, recorded}
use Rattle.cw_greedy.specs.RecordLaws.{Counts, cuts-append, few_is, stored_few, stored_many}
use Rattle.cw_greedy.proofs.piece.Piece.note.Goals as goal

pub returns-then-cuts-ge-MOST_STRANDS-clause-noted : goal.returns-then-cuts-ge-MOST_STRANDS-clause-noted
returns-then-cuts-ge-MOST_STRANDS-clause-noted c =
    let n = c.self.inside.cuts in
    let l = codes_kept c.self.inside.chunks.items c.self.inside.last.items in
    let m = codes_of_entry (entry c.args.before c.args.cut) in
    let own : Counts n l = c.self.inside.counted in
    let more : Counts (cuts m) m = λ few. refl in
    let e = stored_many n (cuts m) c.saturating_add-cuts.result l m own more
    (omega (arith, c.saturating_add-cuts.ensures, c.cut_by.ensures.value)) (omega (arith, c.if-cuts-ge-MOST_STRANDS.true)) in
    c.drop.view_is ∙ c.too_many.ensures ∙ e ∙ ap (λ x. followed x (recorded (cuts m) m)) c.self.view_is
    ∙ ap (followed c.args.self.now) (few_is (cuts m) m (omega (arith, c.cut_by.ensures.value, c.cut_by.ensures.small)))

pub returns-clause-noted : goal.returns-clause-noted
returns-clause-noted c =
    let n = c.self.inside.cuts in
    let l = codes_kept c.self.inside.chunks.items c.self.inside.last.items in
    let e = entry c.args.before c.args.cut in
    let m = codes_of_entry e in
    let all = ap (codes_kept c.make_room.new.chunks.items) c.in_ok-push.ensures.items
    ∙ one_entry c.make_room.new.chunks.items c.make_room.new.last.items e ∙ ap (λ x. x ++ m) c.in_ok-make_room.ensures in
    let own : Counts n l = c.self.inside.counted in
    let more : Counts (cuts m) m = λ few. refl in
    let few = stored_few n (cuts m) c.saturating_add-cuts.result l m own more
    (omega (arith, c.saturating_add-cuts.ensures, c.cut_by.ensures.value)) (omega (arith, c.if-cuts-ge-MOST_STRANDS.false)) in
    ap (recorded c.saturating_add-cuts.result) all ∙ few ∙ ap (λ x. followed x (recorded (cuts m) m)) c.self.view_is
    ∙ ap (followed c.args.self.now) (few_is (cuts m) m (omega (arith, c.cut_by.ensures.value, c.cut_by.ensures.small)))

pub invariant_of-self-inside-2 : goal.invariant_of-self-inside-2
invariant_of-self-inside-2 c =
    let l = codes_kept c.self.inside.chunks.items c.self.inside.last.items in
    let e = entry c.args.before c.args.cut in
    let m = codes_of_entry e in
    let all = ap (codes_kept c.make_room.new.chunks.items) c.in_ok-push.ensures.items
    ∙ one_entry c.make_room.new.chunks.items c.make_room.new.last.items e ∙ ap (λ x. x ++ m) c.in_ok-make_room.ensures in (
      λ few.
          let own = c.self.inside.counted (omega (arith, few, c.saturating_add-cuts.ensures)) in
          omega (arith, few, own, ap cuts all, cuts-append l m, c.saturating_add-cuts.ensures, c.cut_by.ensures.value),
      tt,
    )
