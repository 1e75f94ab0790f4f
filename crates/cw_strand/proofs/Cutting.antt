-- The continuation of the block that has spawned a call is handed out.
use Rattle.std.proofs.Common.{◌≡◌, ℕ, suc, ◌+◌, List, [], ◌∷◌, length, refl, sym, ap, ◌∙◌, subst, inl, inr, arith}
use Rattle.std.specs.Prelude.{map, reverse}
use Rattle.std.proofs.Math.Logic.{∥∥₁_elim, ∥∥₁_map}
use Rattle.cw_meter.specs.Details.{IsLight}
use Rattle.cw_code.specs.declared.code.Loan.{Loan}
use Rattle.cw_code.specs.Code.{Code, code_view}
use Rattle.cw_code.specs.Fits.{slots_lent}
use Rattle.cw_code.specs.Run.{Taken, Whole, slot_taken, Waiting, Around, Caller, State, passed_by}
use Rattle.cw_code.specs.lemmas.Slots.{whole_slots}
use Rattle.cw_code.specs.Jobs as jobs
use Rattle.cw_code.specs.Over.{beneath, under}
use Rattle.cw_code.specs.Strands.{rest_of}
use Rattle.cw_code.specs.Steps.{CallsPreserveJob}
use Rattle.cw_runnable.specs.declared.verified.Verified.{Verified}
use Rattle.cw_jobs.specs.declared.call.Parts.{Parts}
use Rattle.cw_jobs.specs.Jobs.{IsJob, IsSound}
use Rattle.cw_machine.specs.declared.run.Spawn.{Spawn}
use Rattle.cw_machine.specs.declared.run.Stop.TheVariants as stop
use Rattle.cw_machine.specs.Arrays.{Out, IsFit, AllAbove, lent_before}
use Rattle.cw_machine.specs.Rests.{lending}
use Rattle.cw_machine.specs.Unwinding.{LieBelow, IsLevel, OutsLieApart}
use Rattle.cw_machine.specs.declared.hands.Lender.{Lender}
use Rattle.cw_machine.specs.Calls.{listed, loans_of}
use Rattle.cw_machine.specs.Hands.{out_of, Hands, MayHand, HandedOut}
use Rattle.cw_strand.specs.declared.strand.Lent.{Lent}
use Rattle.cw_strand.specs.declared.strand.Strand.{Strand}
use Rattle.cw_strand.specs.Levels.{waiting_over}
use Rattle.cw_strand.specs.Holds.{its_parts, its_code, ok_with, KeepsJob}
use Rattle.cw_strand.specs.Moves.{CameTo, HasCome, HasCut}
use Rattle.cw_strand.proofs.Levels.{HasSpawned, LevelsAfter, levels_move}
use Rattle.cw_strand.proofs.WhichOut.{outs_above}
use Rattle.cw_strand.proofs.RunsOn.{sound_of}

-- `beneath` places a waiting call over a state as `waiting_over` does
over_is : (b : State) (w : Waiting) (around : List Around) → beneath b (Caller w ∷ around) ≡ Caller (waiting_over b w around) ∷ beneath b around
over_is b w [] = refl
over_is b w (a ∷ around) = refl

over_kind : (b : State) (w : Waiting) (around : List Around) → (waiting_over b w around).kind ≡ w.kind
over_kind b w [] = refl
over_kind b w (a ∷ around) = refl

over_operands : (b : State) (w : Waiting) (around : List Around) → (waiting_over b w around).operands ≡ w.operands
over_operands b w [] = refl
over_operands b w (a ∷ around) = refl

over_taken : (b : State) (w : Waiting) (around : List Around) → (waiting_over b w around).taken ≡ w.taken
over_taken b w [] = refl
over_taken b w (a ∷ around) = refl

pub over_arrays : (b : State) (w : Waiting) (around : List Around) → (waiting_over b w around).arrays ≡ w.arrays
over_arrays b w [] = refl
over_arrays b w (a ∷ around) = refl

pub over_slots : (b : State) (w : Waiting) (around : List Around) → (waiting_over b w around).slots ≡ w.slots
over_slots b w [] = refl
over_slots b w (a ∷ around) = refl

over_place : (b : State) (w : Waiting) (around : List Around) → (waiting_over b w around).place ≡ w.place
over_place b w [] = refl
over_place b w (a ∷ around) = refl

over_rest : (b : State) (w : Waiting) (around : List Around) (limit before : ℕ) → rest_of (waiting_over b w around) limit before ≡ rest_of w limit before
over_rest b w [] limit before = refl
over_rest b w (a ∷ around) limit before = refl

is_level : (around : List Around) (w : Waiting) (s : List Around) → around ≡ Caller w ∷ s → IsLevel (length s) around
is_level around w s e = subst (IsLevel (length s)) (sym e) (inl refl)

module _ (keep : (code : Code) → CallsPreserveJob code) (self : Strand) (limit : ℕ) (spawn : Spawn) (is : IsFit (its_code self)) (j : jobs.Job) (c : CameTo self limit (stop.Spawned spawn) is j) where
  abbrev v : Verified
  v = its_code self

  abbrev code : Code
  code = code_view v.code

  abbrev p : Parts
  p = its_parts self

  abbrev lent : List Lent
  lent = reverse self.lent.items

  abbrev base : State
  base = c.ground.base

  abbrev taken : List Taken
  taken = map (λ a. Whole a) (passed_by code spawn.passed)

  abbrev next : State
  next = c.at.1.next

  pub spawned : HasSpawned c.state next spawn.target taken
  spawned = subst (λ t. LevelsAfter t c.state next) c.at.1.turns (levels_move code c.state next c.at.1.steps)

  abbrev w : Waiting
  w = spawned.waiting

  abbrev above_it : List Around
  above_it = beneath base c.state.around

  round_is : (under base next).around ≡ Caller (waiting_over base w c.state.around) ∷ above_it
  round_is = ap (beneath base) spawned.around ∙ over_is base w c.state.around

  above : AllAbove c.outs (length above_it)
  above = outs_above v is p base c.state.around c.jobs_out c.levels c.outs lent c.are c.lends

  abbrev loans : List Loan
  loans = loans_of v spawn.lent

  place_is : (waiting_over base w c.state.around).place ≡ c.state.place + 1
  place_is = over_place base w c.state.around ∙ sym (ap (λ (q : jobs.Job). q.place) (spawned.rest 0 0))

  -- the machine may hand out the continuation
  pub hands_it : Hands v (ok_with c.ground c.outs) self.run.machine (under base next) (waiting_over base w c.state.around) above_it (listed v spawn.passed) loans
  hands_it = record {
    shows = c.at.1.shows.shows;
    is = round_is;
    spawned = over_kind base w c.state.around ∙ spawned.spawned;
    none = over_operands base w c.state.around ∙ spawned.none;
    taken = ap (map slot_taken) (over_taken base w c.state.around ∙ spawned.taken_is) ∙ whole_slots (passed_by code spawn.passed);
    loans = ap (lent_before code) place_is ∙ c.at.1.lent;
    kept = c.at.1.kept (waiting_over base w c.state.around) above_it round_is;
    above = above;
    frozen = c.at.1.may.frozen;
  }

  pub may_hand : MayHand v self.run.machine (listed v spawn.passed) loans
  may_hand = record {
    ok = ok_with c.ground c.outs;
    state = under base next;
    waiting = waiting_over base w c.state.around;
    around = above_it;
    hands = hands_it;
  }

  module _ (apart : OutsLieApart) (new : Strand) (q : Parts) (l : Lender) (cut : HasCut self new spawn q l) where
    pub handed : HandedOut v (ok_with c.ground c.outs) self.run.machine (under base next) (waiting_over base w c.state.around) above_it
        (listed v spawn.passed) loans l.first l.slots new.run.machine q.rest
    handed = cut.out (ok_with c.ground c.outs) (under base next) (waiting_over base w c.state.around) above_it hands_it

    abbrev out : Out
    out = out_of (length above_it) l.first self.run.machine.first_array (length (waiting_over base w c.state.around).arrays) (slots_lent loans) q.rest.slices.items

    -- what was handed out is the job of the continuation
    pub rest_job : IsJob v is q (rest_of w p.limit q.before)
    rest_job = subst (λ l. IsJob v is q (rest_of w l q.before)) cut.limit
        (subst (λ x. IsJob v is q x) (over_rest base w c.state.around q.limit q.before) (handed.job q refl cut.joins))

    -- the arrays that are out of older calls are below it
    pub below : LieBelow c.outs l.first
    below k o e =
        apart v (lending (ok_with c.ground c.outs) out) new.run.machine (under base next) 0 (suc k) out o handed.shows refl e (above k o e)
        (inr (is_level (under base next).around (waiting_over base w c.state.around) above_it round_is))

    module _ (job : KeepsJob self) where
      -- the job can be executed
      pub sound : IsSound q
      sound =
          let P : Verified → Type 0 = λ u. (ok : IsFit u) × IsJob u ok q (rest_of w p.limit q.before) in
          let at = subst P (sym cut.code) (is, rest_job) in
          let before = cut.before in
          let top = cut.limit in
          let within = job.within in
          let range = job.range in
          record {
            ok = at.0;
            job = rest_of w p.limit q.before;
            is = at.1;
            within = omega (arith, before, top, within);
            range = omega (arith, top, range);
            light = subst IsLight (sym cut.detail) c.ground.light;
          }

-- a strand that stopped at a spawn may hand out its continuation
pub may_hand_out : ((code : Code) → CallsPreserveJob code) → (self : Strand) (limit : ℕ) (spawn : Spawn) → HasCome self limit (stop.Spawned spawn)
    → ∥ MayHand (its_code self) self.run.machine (listed (its_code self) spawn.passed) (loans_of (its_code self) spawn.lent) ∥₁
may_hand_out keep self limit spawn h = ∥∥₁_elim (sound_of self) (hlevel) (λ s. ∥∥₁_map (h.comes s.ok s.job s.is) (λ c. may_hand keep self limit spawn s.ok s.job c))

pub cut_sound : ((code : Code) → CallsPreserveJob code) → OutsLieApart → (self new : Strand) (limit : ℕ) (spawn : Spawn) (q : Parts) (l : Lender)
    → HasCome self limit (stop.Spawned spawn) → HasCut self new spawn q l → ∥ IsSound q ∥₁
cut_sound keep apart self new limit spawn q l h cut = ∥∥₁_elim (sound_of self) (hlevel)
    (λ s. ∥∥₁_map (h.comes s.ok s.job s.is) (λ c. sound keep self limit spawn s.ok s.job c apart new q l cut h.keeps))
