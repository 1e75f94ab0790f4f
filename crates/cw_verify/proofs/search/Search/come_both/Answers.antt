use Rattle.std.proofs.Common.{◌≡◌, ℕ, Some, sym, subst, ap, ◌∙◌}
use Rattle.cw_verify.specs.declared.found.Found.{Found}
use Rattle.cw_verify.specs.Numbers.{Names, HasNumber}
use Rattle.cw_verify.specs.Table.{rounds_of, shape_view, so_far, work_of, come, then_come}
use Rattle.cw_verify.proofs.Spreading.{spread_both}
use Rattle.cw_verify.proofs.Tables.{come_length}
use Rattle.cw_verify.proofs.search.Search.come_both.Goals as goal

pub returns-in-Ok-come-clause-comes : goal.returns-in-Ok-come-clause-comes
returns-in-Ok-come-clause-comes c =
    let old = c.args.self.now in
    let mid = c.come.new.self in
    let new = c.come-in-Ok.new.self in
    let shape = shape_view c.args.shape in
    let first = c.in-Ok.ensures.comes in
    let second = c.in-Ok-come.ensures.comes in
    let other = ap (come (so_far mid) c.args.other) (sym c.in_ok-copy.ensures) ∙ second.0 in (
      ap (λ o. then_come o (λ t. then_come (come t c.args.other shape) (λ t'. Some t'))) first.0 ∙ ap (λ o. then_come o (λ t'. Some t')) other,
      spread_both (so_far old) (so_far mid) (so_far new) (work_of old) (work_of mid) (work_of new) c.in-Ok.reached c.in-Ok-come.more (come_length 0 (so_far old) c.args.k shape (so_far mid) first.0) first.1 second.1,
    )

-- the copy has the same number
copied : (names : Names) (last last' number : ℕ) (shape copy : Found) → last' ≡ last → shape_view copy ≡ shape_view shape → HasNumber names last number (rounds_of shape.outer.value) → HasNumber names last' number (rounds_of copy.outer.value)
copied names last last' number shape copy e f h = subst (λ l. HasNumber names l number (rounds_of copy.outer.value)) (sym e) (subst (HasNumber names last number) (sym (ap (λ s. s.outer) f)) h)

pub come-requires-in-Ok : goal.come-requires-in-Ok
come-requires-in-Ok c =
    let known = c.requires in
    let first = c.in-Ok.ensures.known in (
      known.0,
      first.all known.0 known.1 known.2,
      copied known.0 c.args.self.now.numbers.last c.come.new.self.numbers.last c.args.number c.args.shape c.in_ok-copy.copy first.last c.in_ok-copy.ensures known.2,
    )

pub returns-in-Ok-come-clause-known : goal.returns-in-Ok-come-clause-known
returns-in-Ok-come-clause-known c =
    let first = c.in-Ok.ensures.known in
    let second = c.in-Ok-come.ensures.known in
    record {
      last = second.last ∙ first.last;
      all = λ names knows has.
          second.all names (first.all names knows has)
          (copied names c.args.self.now.numbers.last c.come.new.self.numbers.last c.args.number c.args.shape c.in_ok-copy.copy first.last c.in_ok-copy.ensures has);
    }
