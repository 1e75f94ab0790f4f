use Rattle.std.proofs.Common.{◌≡◌, ℕ, length, sym, subst, ◌∙◌}
use Rattle.std.specs.Coded.{Coded-set, coded_ℕ, le_prop}
use Rattle.std.proofs.Math.Logic.{∥∥₁_elim}
use mathlib.Core.HLevel.{⊥_prop}
use Rattle.cw_slices.specs.lemmas.Rights.{whole_prop}
use Rattle.cw_machine.specs.declared.machine.Machine.{Machine}
use Rattle.cw_machine.specs.Arrays.{block}
use Rattle.cw_machine.specs.JobRuns.{AreFrom, CanEnd, MaySee, SlotsEnd}
use Rattle.cw_machine.proofs.JobEnds.{may_see, job_ends}
use Rattle.cw_machine.proofs.machine.Machine.finish.Goals as goal

same_prop : (a b : ℕ) → IsProp (a ≡ b)
same_prop a b = λ p q. Coded-set coded_ℕ a b p q

seen : (m : Machine) (n : ℕ) → CanEnd m n → MaySee m n
seen m n can = subst (λ k. MaySee m k) can.as_many (may_see can.code can.is can.job can.rest m can.state can.come)

sees : (m : Machine) (n : ℕ) → ∥ CanEnd m n ∥₁ → MaySee m n
sees m n h = record {
  views = ∥∥₁_elim h le_prop (λ can. (seen m n can).views);
  blocks = ∥∥₁_elim h le_prop (λ can. (seen m n can).blocks);
  all_here = λ b. (
    (λ k e. ∥∥₁_elim h ⊥_prop (λ can. ((seen m n can).all_here b).0 k e)),
    ∥∥₁_elim h (whole_prop (block m.blocks.items b)) (λ can. ((seen m n can).all_here b).1),
  );
  there = λ a lt. ∥∥₁_elim h le_prop (λ can. (seen m n can).there a lt);
  within = λ a lt some. ∥∥₁_elim h le_prop (λ can. (seen m n can).within a lt some);
  shares = λ a lt some. record {
    lies = ∥∥₁_elim h (same_prop _ _) (λ can. ((seen m n can).shares a lt some).lies);
    from = ∥∥₁_elim h (same_prop _ _) (λ can. ((seen m n can).shares a lt some).from);
    len = ∥∥₁_elim h (same_prop _ _) (λ can. ((seen m n can).shares a lt some).len);
  };
  made_own = λ a lt. ∥∥₁_elim h (same_prop _ _) (λ can. (seen m n can).made_own a lt);
}

pub copy_out-requires-clause-see : goal.copy_out-requires-clause-see
copy_out-requires-clause-see c = subst (λ n. MaySee c.args.self.now n) (sym (c.len.ensures ∙ c.args.rest.now.slices.ok.0)) (sees c.args.self.now (length c.args.rest.now.slices.items) c.requires.can)

pub move_all-requires-clause-see : goal.move_all-requires-clause-see
move_all-requires-clause-see c = sees c.args.self.now (length c.args.rest.now.slices.items) c.requires.can

pub returns-clause-ends : goal.returns-clause-ends
returns-clause-ends c = λ is j r s come count.
    job_ends c.args.code.now is j r c.args.self.now s come
    (record { place = c.move_all.new.self.place; depth = c.move_all.new.self.depth; cells = c.in_ok-cells.cells; slices = c.move_all.new.slices })
    c.move_all.new.replaced.items
    (subst (λ n. SlotsEnd c.args.self.now n c.move_all.new.slices.items c.move_all.new.replaced.items) (sym count) c.move_all.ensures.ends)
    (subst (λ l. AreFrom l c.args.self.now.first c.args.code.now.most_room c.in_ok-cells.cells.items) c.as_slice.ensures.value c.in_ok-cells.ensures)
    c.move_all.ensures.place
