use Rattle.std.proofs.Common.{◌≡◌, ◌∙◌, Some, sym, ap, arith}
use Rattle.cw_sched.specs.declared.board.Cell.{Cell}
use Rattle.std.proofs.Common.{ℕ, true, nat_eq}
use Rattle.std.proofs.lemmas.Option.{get_or_from_slice_get}
use Rattle.cw_sched.proofs.Boards.{found}
use Rattle.cw_sched.proofs.board.Board.collect.Goals as goal

of_number : (x : Cell) (n : ℕ) → nat_eq x.number n ≡ true → x ≡ record { number = n; effect = x.effect }
of_number x n e = let same : x.number ≡ n = grind (arith, e) in ap (λ m. record { number = m; effect = x.effect }) same

pub returns-clause-cell : goal.returns-clause-cell
returns-clause-cell c =
    let cells = c.args.self.now.cells.items in
    let f = found (λ x. nat_eq x.number c.args.number) cells c.args.place c.requires in
    let is : c.remove-effect.result ≡ f.item =
    c.remove-effect.ensures.value ∙ get_or_from_slice_get cells c.args.place f.item c.remove-effect.result f.is in
    f.is ∙ ap (λ x. Some x) (of_number f.item c.args.number f.passes ∙ ap (λ (x : Cell). record { number = c.args.number; effect = x.effect }) (sym is))
