use Rattle.std.proofs.Common.{rules, ap, ◌∙◌, ◌≡◌, ℕ}
use Rattle.std.specs.Prelude.{min}
use Rattle.cw_part.specs.declared.read.Read.{Read}
use Rattle.cw_part.specs.Outcomes.{came_of}
use Rattle.cw_part.specs.Parts.{Came, followed, within}
use Rattle.cw_part.specs.Read.{readings}
use Rattle.cw_part.specs.RunParts.{RunPart, run_joined}
use Rattle.cw_part.specs.RunPartLaws.{same_run}
use Rattle.cw_part.proofs.part.PartMonoid.join.Goals as goal

pub returns : goal.returns
returns c =
    let p = c.args.self in
    let q = c.args.right in
    let first = ap (λ (r : RunPart). r.came) c.self.view_is in
    let second = ap (λ (r : RunPart). r.came) c.right.view_is in
    let x : c.min-limit.result ≡ min c.self.inside.limit c.right.inside.limit = search rules in
    let limit : c.min-limit.result ≡ min p.limit q.limit =
    x ∙ ap (λ (k : ℕ). min k c.right.inside.limit) (ap (λ (r : RunPart). r.limit) c.self.view_is)
    ∙ ap (min p.limit) (ap (λ (r : RunPart). r.limit) c.right.view_is) in
    record {
      value = same_run _ (run_joined p q) limit (c.within-outcome.ensures
          ∙ ap (within readings c.min-limit.result) (c.in_ok-both.ensures
          ∙ ap (λ (z : Came Read). followed readings z (came_of c.right.inside.outcome)) first
          ∙ ap (followed readings p.came) second)
          ∙ ap (λ (k : ℕ). within readings k (followed readings p.came q.came)) limit);
    }
