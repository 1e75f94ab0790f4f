-- The effect of a continuation that trapped was given to a strand that waits for it.
use Rattle.std.proofs.Common.{◌≡◌, ℕ, ◌+◌, ◌-◌, ◌≤◌, ℤ, false, List, [], ◌++◌, refl, sym, ap, ◌∙◌, subst, arith}
use Rattle.std.specs.Prelude.{reverse}
use Rattle.std.proofs.Math.Logic.{∥∥₁_map}
use Rattle.cw_facts.specs.Tests.{not_lt_of}
use Rattle.cw_model.specs.declared.trap.Trap.{Trap}
use Rattle.cw_slices.specs.Placed.{Placed}
use Rattle.cw_code.specs.Code.{Code, code_view}
use Rattle.cw_code.specs.Jobs as jobs
use Rattle.cw_code.specs.Jobs.{JobMeaning}
use Rattle.cw_code.specs.Strands.{Halted}
use Rattle.cw_code.specs.Steps.{CallsPreserveJob}
use Rattle.cw_runnable.specs.declared.verified.Verified.{Verified}
use Rattle.cw_jobs.specs.declared.call.Parts.{Parts}
use Rattle.cw_jobs.specs.declared.effect.Effect.{Effect}
use Rattle.cw_jobs.specs.declared.effect.Effect.TheVariants as effect
use Rattle.cw_jobs.specs.declared.job.Job.{Job}
use Rattle.cw_jobs.specs.Jobs.{extent_of}
use Rattle.cw_jobs.specs.Means.{Tracks, IsMeaningOf}
use Rattle.cw_machine.specs.declared.run.Run.{Run}
use Rattle.cw_machine.specs.Arrays.{IsFit}
use Rattle.cw_machine.specs.RepresentsState.{Remains}
use Rattle.cw_machine.specs.Unwinding.{ShownRemain}
use Rattle.cw_strand.specs.declared.strand.Mode.TheVariants as mode
use Rattle.cw_strand.specs.declared.strand.Strand.{Strand}
use Rattle.cw_strand.specs.Holds.{its_parts, its_code, lent_parts, ok_with, HeldIn, IsRunning, IsWaiting, is_lost}
use Rattle.cw_strand.specs.Moves.{MayReturnNewest, Reaches, HasReturnedNewest}
use Rattle.cw_strand.specs.Giving.{passes_limit, GivesBack}
use Rattle.cw_strand.proofs.RunsOn.{waiting_of}
use Rattle.cw_strand.proofs.Same.{Newest}
use Rattle.cw_strand.proofs.Homes.{stands_on, goes_so}
use Rattle.cw_strand.proofs.Given.{out, rests, out_is, waits}
use Rattle.cw_strand.proofs.Effects.{homes_in, gave_within}
use Rattle.cw_strand.proofs.Taken.{lines_shown}
use Rattle.cw_strand.proofs.Gave.{meant_in, may_waits, stands_waits}

abbrev pub IsTrap : Effect → Trap → (line : ℕ) → (lines : List ℤ) → (cost : ℕ) → List Placed → Type 0
IsTrap (effect.Trapped c l ls n b) trap line lines cost back = (c ≡ trap) × (l ≡ line) × (ls.items ≡ lines) × (n ≡ cost) × (b.items ≡ back)
IsTrap _ trap line lines cost back = ⊥

trap_told : (v : Verified) (is : IsFit v) (q : Parts) (j : jobs.Job) (e : Effect) (trap : Trap) (line : ℕ) (lines : List ℤ) (cost : ℕ)
    (back : List Placed) (d : jobs.Effect) → IsTrap e trap line lines cost back → Tracks (code_view v.code) j q.rest e d → d ≡ jobs.TrapIn trap line lines cost
trap_told v is q j (effect.Ended value shown) trap line lines cost back d i t = absurd i
trap_told v is q j (effect.Joined f r s) trap line lines cost back d i t = absurd i
trap_told v is q j (effect.OverLimit b) trap line lines cost back d i t = absurd i
trap_told v is q j (effect.Memory b) trap line lines cost back d i t = absurd i
trap_told v is q j (effect.GivenUp b) trap line lines cost back d i t = absurd i
trap_told v is q j (effect.Trapped c l ls n b) trap line lines cost back (jobs.Ended x arrays u k) i t = absurd t
trap_told v is q j (effect.Trapped c l ls n b) trap line lines cost back (jobs.Joined f u k) i t = absurd t
trap_told v is q j (effect.Trapped c l ls n b) trap line lines cost back jobs.OverLimit i t = absurd t
trap_told v is q j (effect.Trapped c l ls n b) trap line lines cost back jobs.Memory i t = absurd t
trap_told v is q j (effect.Trapped c l ls n b) trap line lines cost back (jobs.TrapIn c' l' ls' k) i t =
    ap (λ x. jobs.TrapIn x l' ls' k) (sym t.0 ∙ i.0) ∙ ap (λ x. jobs.TrapIn trap x ls' k) (sym t.1 ∙ i.1)
    ∙ ap (λ x. jobs.TrapIn trap line x k) (sym t.2 ∙ i.2) ∙ ap (jobs.TrapIn trap line lines) (sym t.3 ∙ i.3)

trap_back : (e : Effect) (trap : Trap) (line : ℕ) (lines : List ℤ) (cost : ℕ) (back : List Placed) → IsTrap e trap line lines cost back → GivesBack e back []
trap_back (effect.Ended value shown) trap line lines cost back i = absurd i
trap_back (effect.Joined f r s) trap line lines cost back i = absurd i
trap_back (effect.OverLimit b) trap line lines cost back i = absurd i
trap_back (effect.Memory b) trap line lines cost back i = absurd i
trap_back (effect.GivenUp b) trap line lines cost back i = absurd i
trap_back (effect.Trapped c l ls n b) trap line lines cost back i = (i.4, refl)

-- the strand with these lines printed, too
abbrev pub printed : Strand → List ℤ → (lines : Strand) → Strand
printed self more lines = record self { run = record self.run { machine = record self.run.machine { lines = lines.run.machine.lines } } }

module _ (self : Strand) (job : Job) (others : List Job) (newest : Newest self job others) (running : IsRunning self) (waiting : IsWaiting self)
    (remain : ShownRemain) (e : Effect) (means : IsMeaningOf job e)
    (trap : Trap) (line : ℕ) (lines : List ℤ) (cost : ℕ) (back : List Placed) (told : IsTrap e trap line lines cost back) (mid : Strand)
    (mid_is : mid ≡ printed self lines mid) (more : mid.run.machine.lines.items ≡ self.run.machine.lines.items ++ lines) where
  abbrev q : Parts
  q = lent_parts newest.lent

  -- the arrays may return to the strand
  pub may_trapped : MayReturnNewest mid back []
  may_trapped =
      let m = may_waits self job others newest running e means back [] (trap_back e trap line lines cost back told) waiting remain in
      subst (λ z. MayReturnNewest z back []) (sym mid_is) (record {
        newest = m.newest;
        older = m.older;
        are = m.are;
        code = m.code;
        home = λ k. ∥∥₁_map (m.home k) (λ x. record {
          code = x.code;
          ok = x.ok;
          out = x.out;
          comes = record {
            remains = x.comes.remains;
            first = x.comes.first;
            slots_are = x.comes.slots_are;
            lent_are = x.comes.lent_are;
            below = x.comes.below;
            homes = x.comes.homes;
          };
        });
      })

  module _ (keep : (code : Code) → CallsPreserveJob code) (new popped : Strand) (home : HasReturnedNewest mid back [] popped) (passes : passes_limit self cost ≡ false)
      (new_is : new ≡ record popped { count = self.count + cost; mode = mode.Trapped trap line }) where
    n_lent : new.lent ≡ popped.lent
    n_lent = ap (λ (z : Strand). z.lent) new_is

    n_run : new.run ≡ popped.run
    n_run = ap (λ (z : Strand). z.run) new_is

    left : reverse new.lent.items ≡ newest.rest
    left = ap (λ l. reverse l.items) n_lent ∙ home.left newest.lent newest.rest (ap (λ (z : Strand). reverse z.lent.items) mid_is ∙ newest.are)

    le : (its_parts self).before + (self.count + cost) ≤ (its_parts self).limit
    le =
        let k = not_lt_of (((its_parts self).limit - (its_parts self).before) - self.count) cost passes in
        let w = running.keeps.within in
        omega (arith, k, w)

    comes_home : Reaches self.run.machine (its_code self) newest.lent.home back [] new.run.machine
    comes_home = λ u ok o c.
        let known : is_lost mid.mode ≡ false = subst (λ m. is_lost m ≡ false) (sym (ap (λ (z : Strand). z.mode) mid_is ∙ waiting)) refl in
        let h = subst (λ (z : Strand). Reaches z.run.machine (its_code z) newest.lent.home back [] popped.run.machine) mid_is
        (home.home newest.lent newest.rest (ap (λ (z : Strand). reverse z.lent.items) mid_is ∙ newest.are) known) in
        subst (λ (r : Run). Remains u ok r.machine) (sym n_run) (h u ok o
        (record { remains = c.remains; first = c.first; slots_are = c.slots_are; lent_are = c.lent_are; below = c.below; homes = c.homes }))

    pub trap_runs : IsRunning new
    trap_runs = goes_so self job others newest running new left (subst (λ n. (its_parts self).before + n ≤ (its_parts self).limit) (sym (ap (λ (z : Strand). z.count) new_is)) le)
        (λ is j d.
        let h = waiting_of self is j waiting d in
        let g = d.ground in
        let jo = out self job others newest is j g h in
        let st = stands_waits self job others newest running e means back [] (trap_back e trap line lines cost back told) waiting remain is j g h in
        let rs = rests self job others newest is j g h in
        ∥∥₁_map (meant_in self job others newest running e means is jo (out_is self job others newest is j g h)) (λ m.
        let same = trap_told (its_code self) is q jo e trap line lines cost back m.effect told m.tells in
        let n = h.waited.runs.counts in
        let jl = g.job.limit in
        let jb = g.job.before in
        let code = code_view (its_code self).code in
        let mean = subst (JobMeaning code jo) same m.means in
        let is_of = gave_within code (keep code) j jo h.state h.count rs (waits self job others newest is j g h) (jobs.TrapIn trap line lines cost) mean (omega (arith, le, n, jl, jb)) in
        let shown = lines_shown (its_code self) (ok_with g h.waited.runs.outs) self.run.machine (extent_of (its_parts self).extent) g.base h.state g.round h.waited.runs.shows.shows in
        let now : new.run.machine.lines.items ≡ h.state.trace.lines ++ lines = ap (λ (r : Run). r.machine.lines.items) n_run ∙ home.lines ∙ more ∙ ap (λ l. l ++ lines) shown in
        let total : new.count ≡ h.count + cost = ap (λ (z : Strand). z.count) new_is ∙ ap (λ k. k + cost) (sym n) in
        record {
          ground = g;
          strand = Halted (jobs.TrapIn trap line (h.state.trace.lines ++ lines) (h.count + cost)) rs;
          is_of = is_of;
          held = subst (λ a. HeldIn (record self { run = new.run; lent = new.lent; count = new.count; spares = new.spares; mode = new.mode }) is j g
              a (Halted (jobs.TrapIn trap line (h.state.trace.lines ++ lines) (h.count + cost)) rs)) (sym (ap (λ (z : Strand). z.mode) new_is)) (
                ap (λ l. jobs.TrapIn trap line l (h.count + cost)) (sym now) ∙ ap (jobs.TrapIn trap line new.run.machine.lines.items) (sym total),
                stands_on self job others newest is j g st back [] (homes_in (its_code self) is q jo e back [] (trap_back e trap line lines cost back told) m) new new.run.machine left comes_home,
              );
        }))
        (ap (λ (z : Strand). z.of) new_is ∙ home.of ∙ ap (λ (z : Strand). z.of) mid_is)
        (ap (λ (z : Strand). z.parts) new_is ∙ home.parts ∙ ap (λ (z : Strand). z.parts) mid_is)
        (ap (λ (z : Strand). z.spares) new_is ∙ home.spares ∙ ap (λ (z : Strand). z.spares) mid_is)
