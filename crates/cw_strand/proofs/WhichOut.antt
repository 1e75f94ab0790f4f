-- The continuations of a strand that are out, and the floor of its run.
use Rattle.std.proofs.Common.{◌≡◌, ℕ, zero, suc, ◌+◌, ◌≤◌, ◌<◌, Some, List, [], ◌∷◌, length, refl, sym, ap, ◌∙◌, subst, inl, inr, arith}
use Rattle.std.specs.Prelude.{reverse}
use Rattle.std.proofs.lemmas.List.{length-reverse}
use Rattle.cw_model.specs.declared.syntax.CallKind.{CallKind}
use Rattle.cw_model.specs.declared.syntax.CallKind.TheVariants.{Plain, Spawned}
use Rattle.cw_code.specs.Run.{Waiting, Around, Caller, Block, State}
use Rattle.cw_code.specs.Jobs as jobs
use Rattle.cw_code.specs.Over.{beneath}
use Rattle.cw_runnable.specs.declared.verified.Verified.{Verified}
use Rattle.cw_jobs.specs.declared.call.Parts.{Parts}
use Rattle.cw_machine.specs.declared.machine.Machine.{Machine}
use Rattle.cw_machine.specs.Arrays.{Out, IsFit, Ok, AllAbove}
use Rattle.cw_machine.specs.RepresentsState.{RepresentsState}
use Rattle.cw_machine.specs.Segments.{calls_in, IsBaseFrame}
use Rattle.cw_machine.specs.lemmas.Rounds.{calls_caller, frames_many, no_floor, round_many}
use Rattle.cw_strand.specs.declared.strand.Lent.{Lent}
use Rattle.cw_strand.specs.Levels.{Level, level_if, levels_of}
use Rattle.cw_strand.specs.Holds.{floor_in, Lends, AreOut, AreBack, rest_in}

-- each of these levels has fewer enclosing blocks and calls
abbrev pub AllUnder : List Level → ℕ → Type 0
AllUnder [] n = Unit {0}
AllUnder (l ∷ levels) n = (length l.around < n) × AllUnder levels n

under_more : (levels : List Level) (n m : ℕ) → n ≤ m → AllUnder levels n → AllUnder levels m
under_more [] n m le h = tt
under_more (l ∷ levels) n m le h = (let a = h.0 in omega (arith, a, le), under_more levels n m le h.1)

module _ (p : Parts) where
  -- the continuations that are out belong to spawned calls around a state
  caller_under : (kind : CallKind) (l : Level) (all : List Level) → ((jobs_out : List jobs.Job) (levels : List Level) (lent : List Lent)
      → AreOut p all jobs_out levels lent → AllUnder levels (length l.around))
      → (jobs_out : List jobs.Job) (levels : List Level) (lent : List Lent) → AreOut p (level_if kind l all) jobs_out levels lent → AllUnder levels (suc (length l.around))
  caller_under Plain l all below jobs_out levels lent h = under_more levels (length l.around) (suc (length l.around)) (omega arith) (below jobs_out levels lent h)
  caller_under Spawned l all below [] levels lent h = absurd h
  caller_under Spawned l all below (job ∷ jobs_out) levels lent (inl h) = under_more levels (length l.around) (suc (length l.around)) (omega arith) (below jobs_out levels lent h)
  caller_under Spawned l all below (job ∷ jobs_out) [] lent (inr h) = absurd h
  caller_under Spawned l all below (job ∷ jobs_out) (l' ∷ levels) [] (inr h) = absurd h
  caller_under Spawned l all below (job ∷ jobs_out) (l' ∷ levels) (x ∷ lent) (inr h) = (
    (let e = ap (λ (z : Level). length z.around) h.0 in omega (arith, e)),
    under_more levels (length l.around) (suc (length l.around)) (omega arith) (below jobs_out levels lent h.2),
  )

  pub out_under : (around : List Around) (jobs_out : List jobs.Job) (levels : List Level) (lent : List Lent) → AreOut p (levels_of around) jobs_out levels lent → AllUnder levels (length around)
  out_under [] jobs_out levels lent h = subst (λ ls. AllUnder ls 0) (sym h.1) tt
  out_under (Block o ∷ around) jobs_out levels lent h = under_more levels (length around) (suc (length around)) (omega arith) (out_under around jobs_out levels lent h)
  out_under (Caller w ∷ around) jobs_out levels lent h = caller_under w.kind (record { waiting = w; around = around }) (levels_of around) (out_under around) jobs_out levels lent h

  module _ (base : State) (l : Level) (levels : List Level) (x : Lent) (lent : List Lent) where
    -- the older continuations belong to calls around the call of the newest one
    caller_tail : (kind : CallKind) (w : Waiting) (around : List Around)
        → ((jobs_out : List jobs.Job) → AreOut p (levels_of around) jobs_out (l ∷ levels) (x ∷ lent) → AllUnder levels (length l.around))
        → (jobs_out : List jobs.Job) → AreOut p (level_if kind (record { waiting = w; around = around }) (levels_of around)) jobs_out (l ∷ levels) (x ∷ lent) → AllUnder levels (length l.around)
    caller_tail Plain w around below jobs_out h = below jobs_out h
    caller_tail Spawned w around below [] h = absurd h
    caller_tail Spawned w around below (job ∷ jobs_out) (inl h) = below jobs_out h
    caller_tail Spawned w around below (job ∷ jobs_out) (inr h) = subst (λ (z : Level). AllUnder levels (length z.around)) (sym h.0) (out_under around jobs_out levels lent h.2)

    tail_under : (around : List Around) (jobs_out : List jobs.Job) → AreOut p (levels_of around) jobs_out (l ∷ levels) (x ∷ lent) → AllUnder levels (length l.around)
    tail_under [] jobs_out h = absurd (never h.1)
      where
        never : l ∷ levels ≡ [] → ⊥
        never e = cc
    tail_under (Block o ∷ around) jobs_out h = tail_under around jobs_out h
    tail_under (Caller w ∷ around) jobs_out h = caller_tail w.kind w around (tail_under around) jobs_out h

    -- the newest continuation determines the floor
    abbrev Floor : List Around → Type 0
    Floor around = IsBaseFrame base (suc (calls_in (beneath base l.around))) (suc (length (beneath base l.around))) around

    caller_floor : (kind : CallKind) (w : Waiting) (around : List Around) → w.kind ≡ kind → ((jobs_out : List jobs.Job) → AreOut p (levels_of around) jobs_out (l ∷ levels) (x ∷ lent) → Floor around)
        → (jobs_out : List jobs.Job) → AreOut p (level_if kind (record { waiting = w; around = around }) (levels_of around)) jobs_out (l ∷ levels) (x ∷ lent) → Floor (Caller w ∷ around)
    caller_floor Plain w around k below jobs_out h = inr (below jobs_out h)
    caller_floor Spawned w around k below [] h = absurd h
    caller_floor Spawned w around k below (job ∷ jobs_out) (inl h) = inr (below jobs_out h)
    caller_floor Spawned w around k below (job ∷ jobs_out) (inr h) = inl (record {
      spawned = k;
      waits = ap (λ (z : Level). suc (calls_in (beneath base z.around))) h.0;
      stands = ap (λ (z : Level). suc (length (beneath base z.around))) h.0;
    })

    floor_out : (around : List Around) (jobs_out : List jobs.Job) → AreOut p (levels_of around) jobs_out (l ∷ levels) (x ∷ lent) → Floor around
    floor_out [] jobs_out h = absurd (never h.1)
      where
        never : l ∷ levels ≡ [] → ⊥
        never e = cc
    floor_out (Block o ∷ around) jobs_out h = floor_out around jobs_out h
    floor_out (Caller w ∷ around) jobs_out h = caller_floor w.kind w around refl (floor_out around) jobs_out h

calls_block : (b : State) (o : _) (around : List Around) → calls_in (beneath b (Block o ∷ around)) ≡ calls_in (beneath b around)
calls_block b o [] = refl
calls_block b o (a ∷ around) = refl

pub frames_are : (v : Verified) (ok : Ok v) (m : Machine) (s : State) → RepresentsState v ok m s → length m.frames.items ≡ calls_in s.around
frames_are v ok m s h = sym (length-reverse m.frames.items) ∙ frames_many v ok m.cells.items m.first (length s.slots) (reverse m.frames.items) s.around h.holds.round

-- the number of calls that wait at the floor is at most the number that wait at the state
floor_round : (base : State) (floor bottom : ℕ) (around : List Around) → IsBaseFrame base floor bottom around → floor ≤ calls_in (beneath base around)
floor_round base floor bottom [] h = let e = h.0 in omega (arith, e)
floor_round base floor bottom (Block o ∷ around) h = let le = floor_round base floor bottom around h in let e = calls_block base o around in omega (arith, le, e)
floor_round base floor bottom (Caller w ∷ around) (inl h) = let e = h.waits in let n = calls_caller base w around in omega (arith, e, n)
floor_round base floor bottom (Caller w ∷ around) (inr h) = let le = floor_round base floor bottom around h in let n = calls_caller base w around in omega (arith, le, n)

pub calls_under : (p : Parts) (base : State) (l : Level) (levels : List Level) (x : Lent) (lent : List Lent) (around : List Around)
    (jobs_out : List jobs.Job) → AreOut p (levels_of around) jobs_out (l ∷ levels) (x ∷ lent) → suc (calls_in (beneath base l.around)) ≤ calls_in (beneath base around)
calls_under p base l levels x lent around jobs_out h = floor_round base (suc (calls_in (beneath base l.around)))
    (suc (length (beneath base l.around))) around (floor_out p base l levels x lent around jobs_out h)

same_level : (o o' : Out) → Some o ≡ Some o' → o.level ≡ o'.level
same_level o o' e = let q : o ≡ o' = cc in ap (λ (z : Out). z.level) q

all_above : (o : Out) (outs : List Out) (n : ℕ) → o.level < n → AllAbove outs n → AllAbove (o ∷ outs) n
all_above o outs n lt h zero o' e = let same = same_level o o' e in omega (arith, lt, same)
all_above o outs n lt h (suc k) o' e = h k o' e

pub lends_above : (v : Verified) (is : IsFit v) (p : Parts) (base : State) (levels : List Level) (outs : List Out) (lent : List Lent) (n : ℕ)
    → AllUnder levels n → Lends v is p base levels outs lent → AllAbove outs (n + length base.around)
lends_above v is p base [] [] [] n u h = λ j o e. cc
lends_above v is p base [] [] (x ∷ lent) n u h = absurd h
lends_above v is p base [] (o ∷ outs) lent n u h = absurd h
lends_above v is p base (l ∷ levels) [] lent n u h = absurd h
lends_above v is p base (l ∷ levels) (o ∷ outs) [] n u h = absurd h
lends_above v is p base (l ∷ levels) (o ∷ outs) (x ∷ lent) n u h = all_above o outs (n + length base.around)
    (let level = h.0.level in let many = round_many base l.around in let a = u.0 in omega (arith, level, many, a))
    (lends_above v is p base levels outs lent n u.1 h.2)

-- THE FLOOR OF A STRAND'S RUN; everything that is out belongs to calls that fewer blocks and calls enclose
pub record HasFloor (base : State) (around : List Around) (outs : List Out) (lent : List Lent) : Type 0 where
  pub bottom : ℕ
  pub ends : IsBaseFrame base (floor_in lent) bottom around
  pub above : AllAbove outs bottom

pub floor_is : (v : Verified) (is : IsFit v) (p : Parts) (base : State) (around : List Around) (jobs_out : List jobs.Job) (levels : List Level)
    (outs : List Out) (lent : List Lent) → AreOut p (levels_of around) jobs_out levels lent → Lends v is p base levels outs lent → HasFloor base around outs lent
floor_is v is p base around jobs_out [] [] [] are h = record { bottom = length base.around; ends = no_floor base around; above = λ j o e. cc }
floor_is v is p base around jobs_out [] [] (x ∷ lent) are h = absurd h
floor_is v is p base around jobs_out [] (o ∷ outs) lent are h = absurd h
floor_is v is p base around jobs_out (l ∷ levels) [] lent are h = absurd h
floor_is v is p base around jobs_out (l ∷ levels) (o ∷ outs) [] are h = absurd h
floor_is v is p base around jobs_out (l ∷ levels) (o ∷ outs) (x ∷ lent) are h = record {
  bottom = suc (length (beneath base l.around));
  ends = subst (λ n. IsBaseFrame base n (suc (length (beneath base l.around))) around) (sym h.0.floor) (floor_out p base l levels x lent around jobs_out are);
  above = all_above o outs (suc (length (beneath base l.around)))
      (let level = h.0.level in omega (arith, level))
      (λ k o' e. (
      let lt = lends_above v is p base levels outs lent (length l.around) (tail_under p base l levels x lent around jobs_out are) h.2 k o' e in
      let many = round_many base l.around in
      omega (arith, lt, many)));
}

-- everything that is out belongs to calls that fewer blocks and calls enclose than a state
pub outs_above : (v : Verified) (is : IsFit v) (p : Parts) (base : State) (around : List Around) (jobs_out : List jobs.Job) (levels : List Level)
    (outs : List Out) (lent : List Lent) → AreOut p (levels_of around) jobs_out levels lent → Lends v is p base levels outs lent
    → AllAbove outs (length (beneath base around))
outs_above v is p base around jobs_out levels outs lent are h = λ k o e.
    let lt = lends_above v is p base levels outs lent (length around) (out_under p around jobs_out levels lent are) h k o e in
    let many = round_many base around in
    omega (arith, lt, many)

-- the newest spawned call, which has returned, is the floor
module _ (v : Verified) (is : IsFit v) (p : Parts) (base : State) (l : Level) (outs : List Out) where
  -- the continuation of the newest spawned call is out if the number of calls that wait in it is the floor
  pub is_back : (jobs_out : List jobs.Job) (levels : List Level) (lent : List Lent) → Lends v is p base levels outs lent
      → floor_in lent ≡ suc (calls_in (beneath base l.around)) → AreOut p (l ∷ levels_of l.around) jobs_out levels lent
      → AreBack p l (levels_of l.around) jobs_out levels lent
  is_back [] levels lent h e are = absurd are
  is_back (job ∷ jobs_out) levels lent h e (inr are) = are
  is_back (job ∷ jobs_out) [] [] h e (inl are) = absurd (omega (arith, e))
  is_back (job ∷ jobs_out) [] (x ∷ lent) h e (inl are) = absurd (bare outs h)
    where
      bare : (outs : List Out) → Lends v is p base [] outs (x ∷ lent) → ⊥
      bare [] k = k
      bare (o ∷ outs) k = k
  is_back (job ∷ jobs_out) (l' ∷ levels) [] h e (inl are) = absurd (bare outs h)
    where
      bare : (outs : List Out) → Lends v is p base (l' ∷ levels) outs [] → ⊥
      bare [] k = k
      bare (o ∷ outs) k = k
  is_back (job ∷ jobs_out) (l' ∷ levels) (x ∷ lent) h e (inl are) =
      let le = calls_under p base l' levels x lent l.around jobs_out are in
      let at = floor_at outs h in
      absurd (omega (arith, le, at, e))
    where
      floor_at : (outs : List Out) → Lends v is p base (l' ∷ levels) outs (x ∷ lent) → x.home.floor ≡ suc (calls_in (beneath base l'.around))
      floor_at [] k = absurd k
      floor_at (o ∷ outs) k = k.0.floor

  -- otherwise the call was executed in place
  pub record InPlace (jobs_out : List jobs.Job) (levels : List Level) (lent : List Lent) : Type 0 where
    pub job : jobs.Job
    pub others : List jobs.Job
    pub same : jobs_out ≡ job ∷ others
    pub are : AreOut p (levels_of l.around) others levels lent

  pub in_place : (jobs_out : List jobs.Job) (levels : List Level) (lent : List Lent) → Lends v is p base levels outs lent
      → (suc (calls_in (beneath base l.around)) ≡ floor_in lent → ⊥) → AreOut p (l ∷ levels_of l.around) jobs_out levels lent → InPlace jobs_out levels lent
  in_place [] levels lent h ne are = absurd are
  in_place (job ∷ jobs_out) levels lent h ne (inl are) = record { job = job; others = jobs_out; same = refl; are = are }
  in_place (job ∷ jobs_out) [] lent h ne (inr are) = absurd are
  in_place (job ∷ jobs_out) (l' ∷ levels) [] h ne (inr are) = absurd are
  in_place (job ∷ jobs_out) (l' ∷ levels) (x ∷ lent) h ne (inr are) = absurd (ne (sym (floor_at outs h ∙ ap (λ (z : Level). suc (calls_in (beneath base z.around))) are.0)))
    where
      floor_at : (outs : List Out) → Lends v is p base (l' ∷ levels) outs (x ∷ lent) → x.home.floor ≡ suc (calls_in (beneath base l'.around))
      floor_at [] k = absurd k
      floor_at (o ∷ outs) k = k.0.floor

-- the continuation for which a strand waits, as a job of the definitions
pub record Back (p : Parts) (l : Level) (all : List Level) (jobs_out : List jobs.Job) (others : List Level) (x : Lent) (lent : List Lent) : Type 0 where
  pub rests : List jobs.Job
  pub is : jobs_out ≡ rest_in p l x ∷ rests
  pub are : AreOut p all rests others lent

pub back_of : (p : Parts) (l : Level) (all : List Level) (jobs_out : List jobs.Job) (others : List Level) (x : Lent) (lent : List Lent)
    → AreBack p l all jobs_out (l ∷ others) (x ∷ lent) → Back p l all jobs_out others x lent
back_of p l all [] others x lent h = absurd h
back_of p l all (job ∷ jobs_out) others x lent h = record { rests = jobs_out; is = ap (λ j. j ∷ jobs_out) h.1; are = h.2 }

-- one of its levels is the level of the continuation for which it waits
pub record NewestOut (p : Parts) (l : Level) (all : List Level) (jobs_out : List jobs.Job) (levels : List Level) (lent : List Lent) : Type 0 where
  pub others : List Level
  pub are : levels ≡ l ∷ others
  pub back : AreBack p l all jobs_out (l ∷ others) lent

pub newest_out : (p : Parts) (l : Level) (all : List Level) (jobs_out : List jobs.Job) (levels : List Level) (lent : List Lent)
    → AreBack p l all jobs_out levels lent → NewestOut p l all jobs_out levels lent
newest_out p l all [] levels lent h = absurd h
newest_out p l all (job ∷ jobs_out) [] lent h = absurd h
newest_out p l all (job ∷ jobs_out) (l' ∷ levels) [] h = absurd h
newest_out p l all (job ∷ jobs_out) (l' ∷ levels) (x ∷ lent) h = record { others = levels; are = ap (λ z. z ∷ levels) h.0; back = (refl, h.1, h.2) }
