use Rattle.std.proofs.Common.{◌≡◌, ◌∙◌, List, map, ap, subst}
use Rattle.std.specs.Int.{w64}
use Rattle.std.proofs.lemmas.Int.{to_z-of_z}
use Rattle.std.specs.Prelude.{◌==◌, if◌then◌else◌}
use Rattle.cw_reduce.specs.ReducerState.{ReducerState, held, one_held, held_joined}
use Rattle.cw_reduce.specs.PieceResults.{PieceResults, held_of}
use Rattle.cw_reduce.proofs.ShownTellLaws.{told_total}
use Rattle.cw_reduce.proofs.views.Views.tell.Goals as goal

pub returns-clause-totals : goal.returns-clause-totals
returns-clause-totals c = λ q.
    let x = one_held c.args.how c.args.value in
    let was = ap (λ (s : PieceResults). s.totals) c.self.view_is in
    let P : List ReducerState → Type 0 = λ l. held_of (map held c.tell_total.new.totals.items) q ≡ (if c.args.reducer == q then held_joined (held_of l q) x else held_of l q) in
    subst P was (told_total c.self.inside.totals.items c.tell_total.new.totals.items c.args.reducer q c.single_total.result x c.in_ok-tell_total.ensures (c.single_total.ensures ∙ ap (one_held c.args.how) (to_z-of_z w64 c.args.value c.ranges.value)))
