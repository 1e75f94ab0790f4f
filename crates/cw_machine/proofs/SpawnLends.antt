-- The caller has what a spawn lends, and keeps it until a join.
use Rattle.std.proofs.Common.{◌≡◌, ℕ, zero, suc, ◌+◌, ℤ, Bool, true, false, nat_lt, if◌then◌else◌, Option, Some, None, List, [], ◌∷◌, refl, sym, ap, ◌∙◌, subst, arith, inl}
use Rattle.std.specs.Prelude.{nat_eq, slice_get, slice_set}
use Rattle.std.proofs.lemmas.List.{length-map}
use Rattle.std.proofs.lemmas.Option.{same_Some}
use Rattle.cw_facts.specs.Tests.{eq_of}
use Rattle.cw_model.specs.declared.limits.TheConstants.{MOST_DEPTH}
use Rattle.cw_model.specs.declared.trap.Trap.{Trap}
use Rattle.cw_model.specs.declared.trap.Trap.TheVariants as trap
use Rattle.cw_model.specs.declared.syntax.CallKind.{CallKind}
use Rattle.cw_model.specs.declared.syntax.CallKind.TheVariants.{Plain, Spawned}
use Rattle.cw_code.specs.declared.code.Callee.{Callee}
use Rattle.cw_code.specs.declared.code.Func.{Func}
use Rattle.cw_code.specs.declared.code.Loan.{Loan}
use Rattle.cw_code.specs.declared.code.Loan.TheVariants.{Array, Reader}
use Rattle.cw_code.specs.declared.code.Instr.{Instr}
use Rattle.cw_code.specs.declared.code.Instr.TheVariants.{Call}
use Rattle.cw_code.specs.Code.{code_view}
use Rattle.cw_code.specs.Run.{Slots, Readers, Taken, Waiting, Around, Caller, State, On, Stops, Stuck, is_full, and_array, reader, lent_in}
use Rattle.cw_code.specs.Run.{moved_out, arrays_in, on_arrays, may_begin, begun, begins, call_of, enter, passed_by, lent_by, act, step}
use Rattle.cw_code.specs.Fits.{Row, Outer, is_full_in, slots_lent, with_gone, leaves, nexts, FlowsIntoEach}
use Rattle.cw_code.specs.Good.{Seat, GoodState}
use Rattle.cw_code.specs.lemmas.Slots.{covers_true, set_frozen, whole_slots}
use Rattle.cw_code.specs.lemmas.Runs.{same_state}
use Rattle.cw_code.specs.Strands.{Goes, HandsOut, turn_of}
use Rattle.cw_jobs.specs.Jobs.{IsFrozenBy}
use Rattle.cw_runnable.specs.declared.verified.Verified.{Verified}
use Rattle.cw_machine.specs.Arrays.{IsFit, is_among, slots_lent_by, KeepsLent}

-- all arrays exist if there is a list of them
and_some : (o : Option (Option (List ℤ))) (r : Option (List (List ℤ))) (all : List (List ℤ)) → and_array o r ≡ Some all → (is_full o ≡ true) × ((others : List (List ℤ)) × (r ≡ Some others))
and_some None r all e = cc
and_some (Some None) r all e = cc
and_some (Some (Some xs)) None all e = cc
and_some (Some (Some xs)) (Some others) all e = (refl, (others, refl))

-- an array that is lent exists
pub full_lent : (loans : List Loan) (arrays : Slots (List ℤ)) (readers lent : Readers) (a : ℕ) → lent_in loans arrays readers ≡ Some lent
    → is_among a (slots_lent loans) ≡ true → is_full (slice_get arrays a) ≡ true
full_lent [] arrays readers lent a e among = cc
full_lent (Reader r ∷ loans) arrays readers lent a e among =
    let x = and_some (reader readers r) (lent_in loans arrays readers) lent e in full_lent loans arrays readers x.1.0 a x.1.1 among
full_lent (Array b ∷ loans) arrays readers lent a e among = at (λ others is h. full_lent loans arrays readers others a is h) (nat_eq b a) refl among
  where
    x : (is_full (slice_get arrays b) ≡ true) × ((others : List (List ℤ)) × (lent_in loans arrays readers ≡ Some others))
    x = and_some (slice_get arrays b) (lent_in loans arrays readers) lent e

    at : ((others : Readers) → lent_in loans arrays readers ≡ Some others → is_among a (slots_lent loans) ≡ true
        → is_full (slice_get arrays a) ≡ true) → (t : Bool) → nat_eq b a ≡ t → (if t then true else is_among a (slots_lent loans)) ≡ true
        → is_full (slice_get arrays a) ≡ true
    at more true is h = ap (λ k. is_full (slice_get arrays k)) (sym (eq_of b a is)) ∙ x.0
    at more false is h = more x.1.0 x.1.1 h

-- a slot that is marked is not thawed, and stays marked
mark_here : (row : Row) (a : ℕ) → is_full_in (slice_get (slice_set row a true) a) ≡ false
mark_here [] a = refl
mark_here (x ∷ row) zero = refl
mark_here (x ∷ row) (suc a) = mark_here row a

marked : (slots : List ℕ) (row : Row) (a : ℕ) → is_among a slots ≡ true → is_full_in (slice_get (with_gone slots row) a) ≡ false
marked [] row a among = cc
marked (b ∷ slots) row a among = at (λ h. marked slots row a h) (nat_eq b a) refl among
  where
    at : (is_among a slots ≡ true → is_full_in (slice_get (with_gone slots row) a) ≡ false) → (t : Bool) → nat_eq b a ≡ t
        → (if t then true else is_among a slots) ≡ true → is_full_in (slice_get (slice_set (with_gone slots row) b true) a) ≡ false
    at more true is h = subst (λ k. is_full_in (slice_get (slice_set (with_gone slots row) k true) a) ≡ false) (sym (eq_of b a is)) (mark_here (with_gone slots row) a)
    at more false is h = set_frozen (with_gone slots row) a b (more h)

-- the caller of a call that has begun
pub record Began (s s' : State) (passed : List ℕ) (loans : List Loan) : Type 0 where
  pub lent : Readers
  pub there : lent_in loans (moved_out passed s.arrays) s.readers ≡ Some lent
  pub waits : (w : Waiting) (around : List Around) → s'.around ≡ Caller w ∷ around → (w.place ≡ s.place + 1) × (w.arrays ≡ moved_out passed s.arrays)

module _ (s s' : State) (kind : CallKind) (c : Callee) (passed : List ℕ) (loans : List Loan) where
  first_around : (w w' : Waiting) (around around' : List Around) → Caller w ∷ around ≡ Caller w' ∷ around' → w ≡ w'
  first_around w w' around around' e = cc

  begun_it : (f : Func) (given : List (List ℤ)) (lent : Readers) → lent_in loans (moved_out passed s.arrays) s.readers ≡ Some lent → (t : Bool)
      → (if t then On (begun s (call_of s kind c passed f given lent)) else Stuck) ≡ On s' → Began s s' passed loans
  begun_it f given lent there true e = record {
    lent = lent;
    there = there;
    waits = λ w around is.
        let same : begun s (call_of s kind c passed f given lent) ≡ s' = same_state (begun s (call_of s kind c passed f given lent)) s' e in
        let caller = first_around _ w s.around around (ap (λ (x : State). x.around) same ∙ is) in (
          sym (ap (λ (x : Waiting). x.place) caller),
          sym (ap (λ (x : Waiting). x.arrays) caller) ∙ ap (λ l. moved_out l s.arrays) (whole_slots passed),
        );
  }
  begun_it f given lent there false e = cc

  by_lent : (f : Func) (given : List (List ℤ)) (o : Option Readers) → lent_in loans (moved_out passed s.arrays) s.readers ≡ o
      → on_arrays o (λ lent. begins s (call_of s kind c passed f given lent)) ≡ On s' → Began s s' passed loans
  by_lent f given None is e = cc
  by_lent f given (Some lent) is e = begun_it f given lent is (may_begin s (call_of s kind c passed f given lent)) e

  by_arrays : (f : Func) (o : Option (List (List ℤ))) → on_arrays o (λ given. on_arrays (lent_in loans (moved_out passed s.arrays) s.readers)
      (λ lent. begins s (call_of s kind c passed f given lent))) ≡ On s' → Began s s' passed loans
  by_arrays f None e = cc
  by_arrays f (Some given) e = by_lent f given (lent_in loans (moved_out passed s.arrays) s.readers) refl e

  by_depth : (f : Func) (t : Bool) (trap : Trap) (line : ℕ) → (if t then Stops trap line s.trace.lines
      else on_arrays (arrays_in passed s.arrays) (λ given. on_arrays (lent_in loans (moved_out passed s.arrays) s.readers)
      (λ lent. begins s (call_of s kind c passed f given lent)))) ≡ On s' → Began s s' passed loans
  by_depth f true trap line e = cc
  by_depth f false trap line e = by_arrays f (arrays_in passed s.arrays) e

  pub began : (o : Option Func) → enter s kind c passed loans o ≡ On s' → Began s s' passed loans
  began None e = cc
  began (Some f) e = by_depth f (nat_lt MOST_DEPTH (s.depth + 1)) trap.TooDeep c.line e

-- a spawn was executed, and its waiting call keeps what it lent
call_keeps : (v : Verified) (is : IsFit v) (s s' : State) (good : GoodState (code_view v.code) is.fits s) (c : Callee)
    → slice_get (code_view v.code).instrs s.place ≡ Some (Call Spawned c) → step (code_view v.code) s ≡ On s' →
    (w : Waiting) (around : List Around) → s'.around ≡ Caller w ∷ around → KeepsLent v is w (slots_lent (lent_by (code_view v.code) c.lent))
call_keeps v is s s' good c instr steps w around e a among =
    let code = code_view v.code in
    let loans = lent_by code c.lent in
    let b = began s s' Spawned c (passed_by code c.passed) loans (slice_get code.funcs c.function) (sym (ap (act code s) instr) ∙ steps) in
    let at = b.waits w around e in
    let facts = is.facts s good in
    let same : facts.instr ≡ Call Spawned c = same_Some facts.instr (Call Spawned c) (sym facts.is ∙ instr) in
    let table = (is.fits.each good.seat.index good.seat.func good.seat.is_func).table in
    let l = (subst (λ i. FlowsIntoEach table (leaves code good.seat.shape i) (nexts s.place i)) same facts.leads).0 in
    let many = length-map l.there.outer (λ (o : Outer). o.frozen) in
    let frozen : is_full_in (slice_get l.there.frozen a) ≡ false = covers_true l.there.frozen
    (with_gone (slots_lent loans) good.seat.shape.frozen) a l.covers_frozen (marked (slots_lent loans) good.seat.shape.frozen a among) in
    let here : (seat : Seat code is.fits (s.place + 1)) × IsFrozenBy seat.shape a =
    (record { index = good.seat.index; func = good.seat.func; is_func = good.seat.is_func; shape = l.there; at = l.found }, inl (omega (arith, many), frozen)) in
    let there = subst (λ p. (seat : Seat code is.fits p) × IsFrozenBy seat.shape a) (sym at.0) here in (
      ap (λ z. is_full (slice_get z a)) at.1 ∙ full_lent loans (moved_out (passed_by code c.passed) s.arrays) s.readers b.lent a b.there among,
      there.0,
      there.1,
    )

none_among : (a : ℕ) → is_among a [] ≡ true → ⊥
none_among a e = cc

-- an instruction that spawns was executed, and its waiting call keeps what it lent
pub spawn_keeps : (v : Verified) (is : IsFit v) (s s' : State) (good : GoodState (code_view v.code) is.fits s) (i : Instr)
    → slice_get (code_view v.code).instrs s.place ≡ Some i → (before : List Around) (target : Option ℕ) (taken : List Taken)
    → turn_of (code_view v.code) (Some i) before ≡ HandsOut target taken → step (code_view v.code) s ≡ On s' →
    (w : Waiting) (around : List Around) → s'.around ≡ Caller w ∷ around → KeepsLent v is w (slots_lent_by (code_view v.code) (Some i))
spawn_keeps v is s s' good (Call Spawned c) at before target taken t steps w around e = call_keeps v is s s' good c at steps w around e
spawn_keeps v is s s' good (Call Plain c) at before target taken t steps w around e = λ a among. absurd (never t)
  where
    never : Goes ≡ HandsOut target taken → ⊥
    never e = cc
spawn_keeps v is s s' good _ at before target taken t steps w around e = λ a among. absurd (none_among a among)
