-- The place of the caller's arrays, and the arrays that stay when the caller is handed out.
use Rattle.std.proofs.Common.{◌≡◌, ◌≢◌, ◌⊎◌, inl, inr, ⊎_elim, ℕ, zero, suc, ◌+◌, ◌-◌, ◌<◌, ◌≤◌, ℤ, pos, Bool, true, false, Option, Some, None}
use Rattle.std.proofs.Common.{List, [], ◌∷◌, ◌++◌, length, map, refl, sym, ap, ◌∙◌, subst, arith, if◌then◌else◌, nat_lt}
use Rattle.std.specs.Prelude.{reverse, drop, nat_eq, nat_le, slice_get, slice_index_or}
use Rattle.std.proofs.lemmas.List.{reverse-reverse, get_or-reverse, length-reverse}
use Rattle.std.proofs.lemmas.Option.{same_Some, none-some}
use Rattle.std.proofs.lemmas.Bool.{true≢false}
use Rattle.cw_facts.specs.Tests.{taken, not_taken, below, not_below, equal, not_equal, not_le_of}
use Rattle.cw_model.specs.declared.syntax.CallKind.TheVariants.{Spawned}
use Rattle.cw_model.specs.Outcome.{quiet}
use Rattle.cw_code.specs.declared.code.Func.{Func}
use Rattle.cw_code.specs.declared.code.Halves.{Halves}
use Rattle.cw_code.specs.Code.{code_view}
use Rattle.cw_code.specs.Run.{Results, Taken, slot_taken, Waiting, Around, Caller, Block, State, On, is_full, awaited, result_of, going_on}
use Rattle.cw_code.specs.Fits.{Shape, gone_rows}
use Rattle.cw_code.specs.Good.{IsNotAmong, slots_in, slot_cut, arrays_round, all_of, IsGiven, Resumed, Resumes, AllResume}
use Rattle.cw_code.specs.Good.{Holds as HoldsSlots}
use Rattle.cw_code.specs.lemmas.Runs.{same_state, stuck_on}
use Rattle.cw_code.specs.lemmas.Slots.{not_in_first, not_in_second, not_in_both}
use Rattle.cw_runnable.specs.declared.verified.Verified.{Verified}
use Rattle.cw_machine.specs.declared.machine.Frame.{Frame}
use Rattle.cw_machine.specs.declared.machine.Machine.{Machine}
use Rattle.cw_machine.specs.Arrays.{ReadsAll, RoundReads, Ok, view, Memory, Has, HasComing, CutIn, taken_round, HoldsWaiting, Floors, RoundOn}
use Rattle.cw_machine.specs.RepresentsState.{Stands, Round, RepresentsState, cut_cell, cut_cells}
use Rattle.cw_jobs.specs.Cuts.{parts_round, cut_slots}
use Rattle.cw_machine.specs.Arrays.{is_among}
use Rattle.cw_machine.specs.Hands.{is_cut_among, stays_here, lent_count, ComesRound}
use Rattle.cw_machine.proofs.Order.{full_value}
use Rattle.cw_machine.proofs.Places.{same_or}
use Rattle.cw_machine.proofs.Rights.{same_head}

-- a slot that is not found in a list is not one of its elements, and conversely
among_not : (a : ℕ) (bs : List ℕ) → is_among a bs ≡ false → IsNotAmong a bs
among_not a [] e = tt
among_not a (b ∷ bs) e = ⊎_elim
    (λ q. absurd (true≢false (sym (taken (nat_eq b a) true (is_among a bs) (equal b a (sym q))) ∙ e)))
    (λ n. (n, among_not a bs (sym (not_taken (nat_eq b a) true (is_among a bs) (not_equal b a (λ r. n (sym r)))) ∙ e)))
    (same_or a b)

not_among : (a : ℕ) (bs : List ℕ) → IsNotAmong a bs → is_among a bs ≡ false
not_among a [] h = refl
not_among a (b ∷ bs) h = not_taken (nat_eq b a) true (is_among a bs) (not_equal b a (λ r. h.0 (sym r))) ∙ not_among a bs h.1

pub is_there : (a : ℕ) (bs : List ℕ) (k : ℕ) → slice_get bs k ≡ Some a → is_among a bs ≡ true
is_there a [] k e = absurd (none-some a e)
is_there a (b ∷ bs) zero e = taken (nat_eq b a) true (is_among a bs) (equal b a (same e))
  where
    same : Some b ≡ Some a → b ≡ a
    same e = cc
is_there a (b ∷ bs) (suc k) e = ⊎_elim
    (λ q. taken (nat_eq b a) true (is_among a bs) (equal b a q))
    (λ n. not_taken (nat_eq b a) true (is_among a bs) (not_equal b a n) ∙ is_there a bs k e)
    (same_or b a)

-- the search among the arrays that are cut
found_cut : (c first : ℕ) (cells : List ℕ) → first ≤ c → is_cut_among c first (c ∷ cells) ≡ true
found_cut c first cells le =
    not_taken (nat_lt c first) false (if nat_eq c c then true else is_cut_among c first cells) (not_below c first le) ∙ taken (nat_eq c c) true (is_cut_among c first cells) (equal c c refl)

past_cut : (cell c first : ℕ) (cells : List ℕ) → first ≤ c → c ≢ cell → is_cut_among cell first (c ∷ cells) ≡ is_cut_among cell first cells
past_cut cell c first cells le n =
    not_taken (nat_lt c first) false (if nat_eq c cell then true else is_cut_among cell first cells) (not_below c first le)
    ∙ not_taken (nat_eq c cell) true (is_cut_among cell first cells) (not_equal c cell n)

ends_cut : (cell c first : ℕ) (cells : List ℕ) → c < first → is_cut_among cell first (c ∷ cells) ≡ false
ends_cut cell c first cells lt = taken (nat_lt c first) false (if nat_eq c cell then true else is_cut_among cell first cells) (below c first lt)

-- the arrays that are cut, the newest first, from index `k` on
cut_here : (cuts : List ℕ) (k c : ℕ) → k < length cuts → c ≡ slice_index_or cuts (length cuts - 1 - k) c → drop k (reverse cuts) ≡ c ∷ drop (k + 1) (reverse cuts)
cut_here cuts k c lt e = at (reverse cuts) k (let n = length-reverse cuts in omega (arith, lt, n)) (e ∙ sym (get_or-reverse cuts k c lt))
  where
    at : (xs : List ℕ) (k : ℕ) → k < length xs → c ≡ slice_index_or xs k c → drop k xs ≡ c ∷ drop (k + 1) xs
    at [] k lt e = absurd (omega (arith, lt))
    at (x ∷ xs) zero lt e = ap (λ y. y ∷ xs) (sym e)
    at (x ∷ xs) (suc k) lt e = (let more : suc k + 1 ≡ suc (k + 1) = omega arith in at xs k (omega (arith, lt)) e ∙ ap (λ n. c ∷ drop n (x ∷ xs)) (sym more))

pub search_ends : (cell first : ℕ) (cuts : List ℕ) (k c : ℕ) → k < length cuts → c ≡ slice_index_or cuts (length cuts - 1 - k) c → c < first → is_cut_among cell first (drop k (reverse cuts)) ≡ false
search_ends cell first cuts k c lt e below_first = ap (is_cut_among cell first) (cut_here cuts k c lt e) ∙ ends_cut cell c first (drop (k + 1) (reverse cuts)) below_first

pub search_finds : (cell first : ℕ) (cuts : List ℕ) (k c : ℕ) → k < length cuts → c ≡ slice_index_or cuts (length cuts - 1 - k) c → first ≤ c
    → c ≡ cell → is_cut_among cell first (drop k (reverse cuts)) ≡ true
search_finds cell first cuts k c lt e le same = ap (is_cut_among cell first) (cut_here cuts k c lt e)
    ∙ ap (λ z. is_cut_among z first (c ∷ drop (k + 1) (reverse cuts))) (sym same) ∙ found_cut c first (drop (k + 1) (reverse cuts)) le

pub search_goes_on : (cell first : ℕ) (cuts : List ℕ) (k c : ℕ) → k < length cuts → c ≡ slice_index_or cuts (length cuts - 1 - k) c → first ≤ c → c ≢ cell
    → is_cut_among cell first (drop (k + 1) (reverse cuts)) ≡ is_cut_among cell first (drop k (reverse cuts))
search_goes_on cell first cuts k c lt e le other = sym (ap (is_cut_among cell first) (cut_here cuts k c lt e) ∙ past_cut cell c first (drop (k + 1) (reverse cuts)) le other)

module _ (v : Verified) (ok : Ok v) (m : Memory) where
  coming_or : (first n : ℕ) (results : Results (List ℤ)) → HasComing m first n results → (a : ℕ) → IsNotAmong a (slots_in results) ⊎ ((xs : List ℤ) × Has m (first + a) xs)
  coming_or first n [] h a = inl tt
  coming_or first n (r ∷ results) h a = ⊎_elim
      (λ e. inr (r.1, subst (λ k. Has m (first + k) r.1) (sym e) h.1))
      (λ ne. ⊎_elim (λ none. inl (ne, none)) (λ has. inr has) (coming_or first n results h.2 a))
      (same_or a r.0)

  -- a slot that does not stay for a cut, and has elements, is not the slot of a cut array
  cut_or : (first n a : ℕ) (c : Option Halves) (parts : List ℕ) (given round : ℕ) (rest : List ℕ) → CutIn m first n c parts given ok.home ok.outer round
      → is_cut_among (first + a) first (cut_cell ok.outer round first c ++ rest) ≡ false → 0 < (view m.views (first + a)).len
      → IsNotAmong a (slot_cut c) × (is_cut_among (first + a) first rest ≡ false)
  cut_or first n a None parts given round rest cut e some = (tt, e)
  cut_or first n a (Some h) parts given round rest cut e some = own (nat_le ok.outer round) refl
    where
      own : (t : Bool) → nat_le ok.outer round ≡ t → IsNotAmong a (h.array ∷ []) × (is_cut_among (first + a) first rest ≡ false)
      own true q =
          let is : is_cut_among (first + a) first ((first + h.array) ∷ rest) ≡ false =
          sym (ap (λ l. is_cut_among (first + a) first (l ++ rest)) (taken (nat_le ok.outer round) ((first + h.array) ∷ []) [] q)) ∙ e in
          ⊎_elim
          (λ r. absurd (true≢false (sym (found_cut (first + a) first rest (omega arith)) ∙ ap (λ k. is_cut_among (first + a) first ((first + k) ∷ rest)) r ∙ is)))
          (λ ne. ((ne, tt), sym (past_cut (first + a) (first + h.array) first rest (omega arith) (λ r. ne (omega (arith, r)))) ∙ is))
          (same_or a h.array)
      own false q =
          let lt : round < ok.outer = not_le_of ok.outer round q in
          let is : is_cut_among (first + a) first rest ≡ false = sym (ap (λ l. is_cut_among (first + a) first (l ++ rest)) (not_taken (nat_le ok.outer round) ((first + h.array) ∷ []) [] q)) ∙ e in
          ⊎_elim
          (λ r. absurd (let none = (cut.stays lt).bare in let same = ap (λ k. (view m.views (first + k)).len) r in omega (arith, none, same, some)))
          (λ ne. ((ne, tt), is))
          (same_or a h.array)

  -- a slot that does not stay for a cut is not waited for in the open blocks, or its array is already here
  pub round_or : (place first n : ℕ) (frames : List Frame) (around : List Around) → RoundOn v ok m place first n frames around → (a : ℕ)
      → is_cut_among (first + a) first (cut_cells ok.outer first frames around) ≡ false → 0 < (view m.views (first + a)).len
      → IsNotAmong a (all_of (arrays_round around)) ⊎ ((xs : List ℤ) × Has m (first + a) xs)
  round_or place first n frames [] h a e some = inl tt
  round_or place first n frames (Caller w ∷ around) h a e some = inl tt
  round_or place first n frames (Block o ∷ around) h a e some =
      let c = cut_or first n a o.cut _ _ (length around) (cut_cells ok.outer first frames around) h.1 e some in
      ⊎_elim
      (λ none. ⊎_elim
      (λ more. inl (not_in_both a (slot_cut o.cut ++ slots_in o.arrived) (all_of (arrays_round around)) (not_in_both a (slot_cut o.cut) (slots_in o.arrived) c.0 none) more))
      (λ has. inr has)
      (round_or place first n frames around h.2 a c.1 some))
      (λ has. inr has)
      (coming_or first n o.arrived h.0 a)

  -- no cut of a call below is found
  none_below : (cell top place first n : ℕ) (frames : List Frame) (around : List Around) → first + n ≤ top
      → RoundOn v ok m place first n frames around → is_cut_among cell top (cut_cells ok.outer first frames around) ≡ false
  none_below cell top place first n frames [] le h = refl
  none_below cell top place first n frames (Caller w ∷ around) le h =
      ap (λ fs. is_cut_among cell top (cut_cells ok.outer first fs (Caller w ∷ around))) h.2
      ∙ none_below cell top w.place h.0.first_array (length w.arrays) h.1 around (let ends = h.5.ends in omega (arith, ends, le)) h.6
  none_below cell top place first n frames (Block o ∷ around) le h = cases o.cut h.1 (none_below cell top place first n frames around le h.2)
    where
      cases : (c : Option Halves) → CutIn m first n c (parts_round around) (taken_round ok.params around) ok.home ok.outer (length around)
          → is_cut_among cell top (cut_cells ok.outer first frames around) ≡ false
          → is_cut_among cell top (cut_cell ok.outer (length around) first c ++ cut_cells ok.outer first frames around) ≡ false
      cases None cut more = more
      cases (Some k) cut more = own (nat_le ok.outer (length around)) refl
        where
          own : (t : Bool) → nat_le ok.outer (length around) ≡ t → is_cut_among cell top (cut_cell ok.outer (length around) first (Some k) ++ cut_cells ok.outer first frames around) ≡ false
          own true q = ap (λ l. is_cut_among cell top (l ++ cut_cells ok.outer first frames around)) (taken (nat_le ok.outer (length around)) ((first + k.array) ∷ []) [] q)
              ∙ ends_cut cell (first + k.array) top (cut_cells ok.outer first frames around) (let lt = cut.array_there in omega (arith, lt, le))
          own false q = ap (λ l. is_cut_among cell top (l ++ cut_cells ok.outer first frames around)) (not_taken (nat_le ok.outer (length around)) ((first + k.array) ∷ []) [] q) ∙ more

  -- a slot that is not waited for in the open blocks does not stay for a cut
  pub none_cut : (place first n : ℕ) (frames : List Frame) (around : List Around) → RoundOn v ok m place first n frames around → (a : ℕ)
      → IsNotAmong a (all_of (arrays_round around)) → is_cut_among (first + a) first (cut_cells ok.outer first frames around) ≡ false
  none_cut place first n frames [] h a none = refl
  none_cut place first n frames (Caller w ∷ around) h a none =
      ap (λ fs. is_cut_among (first + a) first (cut_cells ok.outer first fs (Caller w ∷ around))) h.2
      ∙ none_below (first + a) first w.place h.0.first_array (length w.arrays) h.1 around (let ends = h.5.ends in omega (arith, ends)) h.6
  none_cut place first n frames (Block o ∷ around) h a none = cases o.cut
      (not_in_first a (slot_cut o.cut) (slots_in o.arrived) (not_in_first a (slot_cut o.cut ++ slots_in o.arrived) (all_of (arrays_round around)) none))
      (none_cut place first n frames around h.2 a (not_in_second a (slot_cut o.cut ++ slots_in o.arrived) (all_of (arrays_round around)) none))
    where
      cases : (c : Option Halves) → IsNotAmong a (slot_cut c) → is_cut_among (first + a) first (cut_cells ok.outer first frames around) ≡ false
          → is_cut_among (first + a) first (cut_cell ok.outer (length around) first c ++ cut_cells ok.outer first frames around) ≡ false
      cases None apart more = more
      cases (Some k) apart more = own (nat_le ok.outer (length around)) refl
        where
          own : (t : Bool) → nat_le ok.outer (length around) ≡ t → is_cut_among (first + a) first (cut_cell ok.outer (length around) first (Some k) ++ cut_cells ok.outer first frames around) ≡ false
          own true q = ap (λ l. is_cut_among (first + a) first (l ++ cut_cells ok.outer first frames around)) (taken (nat_le ok.outer (length around)) ((first + k.array) ∷ []) [] q)
              ∙ past_cut (first + a) (first + k.array) first (cut_cells ok.outer first frames around) (omega arith) (λ r. apart.0 (omega (arith, r))) ∙ more
          own false q = ap (λ l. is_cut_among (first + a) first (l ++ cut_cells ok.outer first frames around)) (not_taken (nat_le ok.outer (length around)) ((first + k.array) ∷ []) [] q) ∙ more

  -- the array of an open cut stays, or has no elements here
  pub cut_stays : (place first n : ℕ) (frames : List Frame) (around : List Around) → RoundOn v ok m place first n frames around → (k a : ℕ) → slice_get (cut_slots around) k ≡ Some a
      → (is_cut_among (first + a) first (cut_cells ok.outer first frames around) ≡ true) ⊎ ((view m.views (first + a)).len ≡ 0)
  cut_stays place first n frames [] h k a e = absurd (none e)
    where
      none : None ≡ Some a → ⊥
      none e = cc
  cut_stays place first n frames (Caller w ∷ around) h k a e = absurd (none e)
    where
      none : None ≡ Some a → ⊥
      none e = cc
  cut_stays place first n frames (Block o ∷ around) h k a e = cases o.cut k h.1 (λ j e'. cut_stays place first n frames around h.2 j a e') e
    where
      further : (c : Option Halves) → (is_cut_among (first + a) first (cut_cells ok.outer first frames around) ≡ true) ⊎ ((view m.views (first + a)).len ≡ 0)
          → (is_cut_among (first + a) first (cut_cell ok.outer (length around) first c ++ cut_cells ok.outer first frames around) ≡ true) ⊎ ((view m.views (first + a)).len ≡ 0)
      further None x = x
      further (Some g) x = own (nat_le ok.outer (length around)) refl
        where
          own : (t : Bool) → nat_le ok.outer (length around) ≡ t
              → (is_cut_among (first + a) first (cut_cell ok.outer (length around) first (Some g) ++ cut_cells ok.outer first frames around) ≡ true) ⊎ ((view m.views (first + a)).len ≡ 0)
          own true q =
              let is = ap (λ l. is_cut_among (first + a) first (l ++ cut_cells ok.outer first frames around)) (taken (nat_le ok.outer (length around)) ((first + g.array) ∷ []) [] q) in
              ⊎_elim
              (λ y. inl (is ∙ ⊎_elim
              (λ r. ap (λ i. is_cut_among (first + a) first ((first + i) ∷ cut_cells ok.outer first frames around)) (sym r)
              ∙ found_cut (first + a) first (cut_cells ok.outer first frames around) (omega arith))
              (λ ne. past_cut (first + a) (first + g.array) first (cut_cells ok.outer first frames around) (omega arith) (λ r. ne (omega (arith, r))) ∙ y)
              (same_or a g.array)))
              (λ y. inr y)
              x
          own false q = ⊎_elim (λ y. inl (ap (λ l. is_cut_among (first + a) first (l ++ cut_cells ok.outer first frames around))
              (not_taken (nat_le ok.outer (length around)) ((first + g.array) ∷ []) [] q) ∙ y)) (λ y. inr y) x

      cases : (c : Option Halves) (k : ℕ) → CutIn m first n c (parts_round around) (taken_round ok.params around) ok.home ok.outer (length around)
          → ((j : ℕ) → slice_get (cut_slots around) j ≡ Some a → (is_cut_among (first + a) first (cut_cells ok.outer first frames around) ≡ true)
          ⊎ ((view m.views (first + a)).len ≡ 0)) → slice_get (slot_cut c ++ cut_slots around) k ≡ Some a
          → (is_cut_among (first + a) first (cut_cell ok.outer (length around) first c ++ cut_cells ok.outer first frames around) ≡ true) ⊎ ((view m.views (first + a)).len ≡ 0)
      cases None k cut more e = more k e
      cases (Some g) (suc k) cut more e = further (Some g) (more k e)
      cases (Some g) zero cut more e = own (nat_le ok.outer (length around)) refl
        where
          same : g.array ≡ a
          same = same_Some g.array a e

          own : (t : Bool) → nat_le ok.outer (length around) ≡ t
              → (is_cut_among (first + a) first (cut_cell ok.outer (length around) first (Some g) ++ cut_cells ok.outer first frames around) ≡ true) ⊎ ((view m.views (first + a)).len ≡ 0)
          own true q = inl (ap (λ l. is_cut_among (first + a) first (l ++ cut_cells ok.outer first frames around)) (taken (nat_le ok.outer (length around)) ((first + g.array) ∷ []) [] q)
              ∙ ap (λ i. is_cut_among (first + a) first ((first + i) ∷ cut_cells ok.outer first frames around)) same
              ∙ found_cut (first + a) first (cut_cells ok.outer first frames around) (omega arith))
          own false q = inr (ap (λ i. (view m.views (first + i)).len) (sym same) ∙ (cut.stays (not_le_of ok.outer (length around) q)).bare)

slots_both : (xs ys : Results (List ℤ)) → slots_in (xs ++ ys) ≡ slots_in xs ++ slots_in ys
slots_both [] ys = refl
slots_both (r ∷ xs) ys = ap (λ l. r.0 ∷ l) (slots_both xs ys)

-- some value that a call may return, and arrays for all that it took
pub value_for : (b : Bool) → (x : Option ℤ) × IsGiven b x
value_for true = (Some (pos 0), tt)
value_for false = (None, tt)

abbrev pub empties : List Taken → Results (List ℤ)
empties [] = []
empties (x ∷ all) = (slot_taken x, []) ∷ empties all

pub empties_slots : (all : List Taken) → slots_in (empties all) ≡ map slot_taken all
empties_slots [] = refl
empties_slots (x ∷ all) = ap (λ l. slot_taken x ∷ l) (empties_slots all)

awaited_arrays : (target : Option ℕ) (x : Option ℤ) (s s' : State) → awaited target x s ≡ On s' → (s'.arrays ≡ s.arrays) × (s'.arrived ≡ s.arrived)
awaited_arrays None x s s' e = let same = same_state s s' e in (ap (λ (z : State). z.arrays) (sym same), ap (λ (z : State). z.arrived) (sym same))
awaited_arrays (Some a) None s s' e = absurd (stuck_on s' e)
awaited_arrays (Some a) (Some x) s s' e =
    let same = same_state (record s { results = (a, x) ∷ s.results }) s' e in (ap (λ (z : State). z.arrays) (sym same), ap (λ (z : State). z.arrived) (sym same))

module _ (v : Verified) (ok : Ok v) (m : Machine) (s : State) (w : Waiting) (around : List Around) (passed : List ℕ) (shows : RepresentsState v ok m s)
    (is_waiting : s.around ≡ Caller w ∷ around) (spawned : w.kind ≡ Spawned) (took : map slot_taken w.taken ≡ passed) where
  abbrev memory : Memory
  memory = record { views = m.views.items; blocks = shows.arrays.1; owner = shows.arrays.0 }

  pub on_arrays : RoundOn v ok memory m.place m.first_array (length s.arrays) (reverse m.frames.items) (Caller w ∷ around)
  on_arrays = subst (λ r. RoundOn v ok memory m.place m.first_array (length s.arrays) (reverse m.frames.items) r) is_waiting shows.arrays.3.round

  pub waiting_frame : Frame
  waiting_frame = on_arrays.0

  pub frames_beyond : List Frame
  frames_beyond = on_arrays.1

  pub frames_are : reverse m.frames.items ≡ waiting_frame ∷ frames_beyond
  unfolding on_arrays waiting_frame frames_beyond
  frames_are = on_arrays.2

  pub floors : Floors ok.outs ok.given (length around) waiting_frame.first_array
  unfolding on_arrays waiting_frame
  floors = on_arrays.4.1

  pub stands_on : HoldsWaiting memory m.first_array waiting_frame w
  unfolding on_arrays waiting_frame
  stands_on = on_arrays.5

  pub beyond : RoundOn v ok memory w.place waiting_frame.first_array (length w.arrays) frames_beyond around
  unfolding on_arrays waiting_frame frames_beyond
  beyond = on_arrays.6

  -- the arrays that the caller reads follow its own arrays
  pub reads_waiting : ReadsAll memory ok.outs waiting_frame.first_array (length w.arrays) m.first_array w.readers
  reads_waiting = (subst (λ fs. RoundReads (code_view v.code) memory ok.outs m.first_array fs (Caller w ∷ around)) frames_are
      (subst (λ a. RoundReads (code_view v.code) memory ok.outs m.first_array (reverse m.frames.items) a) is_waiting shows.arrays.4.round)).0

  pub ends_exact : waiting_frame.first_array + (length w.arrays + length w.readers) ≡ m.first_array
  ends_exact = reads_waiting.ends

  pub in_cells : Round v ok m.cells.items m.first (length s.slots) (reverse m.frames.items) (Caller w ∷ around)
  in_cells = subst (λ r. Round v ok m.cells.items m.first (length s.slots) (reverse m.frames.items) r) is_waiting shows.holds.round

  same_frame : in_cells.0 ≡ waiting_frame
  same_frame = same_head in_cells.0 waiting_frame in_cells.1 frames_beyond (sym in_cells.2 ∙ frames_are)

  pub stands : Stands v ok m.cells.items m.first waiting_frame w around
  stands = subst (λ f. Stands v ok m.cells.items m.first f w around) same_frame in_cells.3

  pub round_cells : Round v ok m.cells.items waiting_frame.first (length w.slots) in_cells.1 around
  round_cells = subst (λ (f : Frame). Round v ok m.cells.items f.first (length w.slots) in_cells.1 around) same_frame in_cells.4

  -- the arrays that are cut now, the newest first, belong to the waiting calls
  pub cuts_are : reverse m.cuts.items ≡ cut_cells ok.outer waiting_frame.first_array frames_beyond around
  cuts_are = ap reverse shows.cuts ∙ reverse-reverse (cut_cells ok.outer m.first_array (reverse m.frames.items) s.around) ∙ ap (cut_cells ok.outer m.first_array (reverse m.frames.items)) is_waiting
      ∙ ap (λ fs. cut_cells ok.outer m.first_array fs (Caller w ∷ around)) frames_are

  -- each slot is full, or is waited for once
  abbrev pub waits : List ℕ
  waits = (passed ++ slots_in w.arrived) ++ all_of (arrays_round around)

  pub record Rests : Type 0 where
    pub full : (a : ℕ) → a < length w.arrays → IsNotAmong a waits → is_full (slice_get w.arrays a) ≡ true
    pub apart : (a : ℕ) → is_full (slice_get w.arrays a) ≡ true → IsNotAmong a waits

  pub rests : Rests
  rests = resumes (subst (λ r. AllResume (code_view v.code) ok.verified.fits shows.good.seat.func r) is_waiting shows.good.others).0
    where
      at : (f : Func) (shape : Shape) (x : Option ℤ) → Resumed f shape w x (empties w.taken) around quiet → Rests
      at f shape x r =
          let went : awaited w.target x (record (going_on w around quiet) { arrived = empties w.taken ++ w.arrived })
          ≡ On (record (going_on w around quiet) { slots = r.slots; arrays = r.arrays; results = r.results; arrived = r.arrived })
          = ap (λ k. result_of k w.target x (empties w.taken) (going_on w around quiet)) (sym spawned) ∙ r.went in
          let same = awaited_arrays w.target x (record (going_on w around quiet) { arrived = empties w.taken ++ w.arrived })
          (record (going_on w around quiet) { slots = r.slots; arrays = r.arrays; results = r.results; arrived = r.arrived }) went in
          let row : HoldsSlots f.arrays shape.gone (gone_rows shape.outer) w.arrays (slots_in (empties w.taken ++ w.arrived)) (arrays_round around)
          = subst (λ l. HoldsSlots f.arrays shape.gone (gone_rows shape.outer) l (slots_in (empties w.taken ++ w.arrived)) (arrays_round around)) same.0
          (subst (λ l. HoldsSlots f.arrays shape.gone (gone_rows shape.outer) r.arrays (slots_in l) (arrays_round around)) same.1 r.good.arrays) in
          let is : slots_in (empties w.taken ++ w.arrived) ++ all_of (arrays_round around) ≡ waits
          = ap (λ l. l ++ all_of (arrays_round around)) (slots_both (empties w.taken) w.arrived ∙ ap (λ l. l ++ slots_in w.arrived) (empties_slots w.taken ∙ took)) in
          record {
            full = λ a lt none. row.awaited a lt (subst (IsNotAmong a) (sym is) none);
            apart = λ a full. subst (IsNotAmong a) is (row.apart a full);
          }

      resumes : Resumes (code_view v.code) ok.verified.fits shows.good.seat.func w around → Rests
      resumes r =
          let x = value_for shows.good.seat.func.gives_int in
          at r.seat.func r.seat.shape x.0 (r.on x.0 x.1 (empties w.taken) (empties_slots w.taken) quiet)

  stays_cut : (a : ℕ) → is_among a passed ≡ false → stays_here m.cuts.items waiting_frame.first_array passed a
      ≡ is_cut_among (waiting_frame.first_array + a) waiting_frame.first_array (cut_cells ok.outer waiting_frame.first_array frames_beyond around)
  stays_cut a e = not_taken (is_among a passed) true (is_cut_among (waiting_frame.first_array + a) waiting_frame.first_array (reverse m.cuts.items)) e
      ∙ ap (is_cut_among (waiting_frame.first_array + a) waiting_frame.first_array) cuts_are

  -- an array that does not stay, and has elements, is here
  pub lies_here : (a : ℕ) → a < length w.arrays → stays_here m.cuts.items waiting_frame.first_array passed a ≡ false
      → 0 < (view m.views.items (waiting_frame.first_array + a)).len → (xs : List ℤ) × Has memory (waiting_frame.first_array + a) xs
  lies_here a lt e some = cases (is_among a passed) refl
    where
      cases : (t : Bool) → is_among a passed ≡ t → (xs : List ℤ) × Has memory (waiting_frame.first_array + a) xs
      cases true q = absurd (true≢false (sym (taken (is_among a passed) true (is_cut_among (waiting_frame.first_array + a) waiting_frame.first_array (reverse m.cuts.items)) q) ∙ e))
      cases false q = ⊎_elim
          (λ none. ⊎_elim
          (λ more.
          let full = full_value (slice_get w.arrays a) (rests.full a lt (not_in_both a (passed ++ slots_in w.arrived) (all_of (arrays_round around))
          (not_in_both a passed (slots_in w.arrived) (among_not a passed q) none) more)) in
          (full.0, stands_on.has a full.0 full.1))
          (λ has. has)
          (round_or v ok memory w.place waiting_frame.first_array (length w.arrays) frames_beyond around beyond a (sym (stays_cut a q) ∙ e) some))
          (λ has. has)
          (coming_or v ok memory waiting_frame.first_array (length w.arrays) w.arrived stands_on.coming a)

  -- an array that exists does not stay
  pub full_goes : (a : ℕ) (xs : List ℤ) → slice_get w.arrays a ≡ Some (Some xs) → stays_here m.cuts.items waiting_frame.first_array passed a ≡ false
  full_goes a xs e =
      let apart = rests.apart a (ap is_full e) in
      let none = not_among a passed (not_in_first a passed (slots_in w.arrived) (not_in_first a (passed ++ slots_in w.arrived) (all_of (arrays_round around)) apart)) in
      stays_cut a none ∙ none_cut v ok memory w.place waiting_frame.first_array (length w.arrays) frames_beyond around beyond a
      (not_in_second a (passed ++ slots_in w.arrived) (all_of (arrays_round around)) apart)

  -- no elements are lent of an array that the spawn took, or that an open cut has
  pub passed_stays : (k a : ℕ) → slice_get passed k ≡ Some a → lent_count (stays_here m.cuts.items waiting_frame.first_array passed a) (view m.views.items (waiting_frame.first_array + a)).len ≡ 0
  passed_stays k a e = ap (λ t. lent_count t (view m.views.items (waiting_frame.first_array + a)).len)
      (taken (is_among a passed) true (is_cut_among (waiting_frame.first_array + a) waiting_frame.first_array (reverse m.cuts.items)) (is_there a passed k e))

  pub uncut_stays : (k a : ℕ) → slice_get (cut_slots around) k ≡ Some a
      → lent_count (stays_here m.cuts.items waiting_frame.first_array passed a) (view m.views.items (waiting_frame.first_array + a)).len ≡ 0
  uncut_stays k a e = cases (is_among a passed) refl
    where
      none : (t : Bool) → lent_count t 0 ≡ 0
      none true = refl
      none false = refl

      cases : (t : Bool) → is_among a passed ≡ t → lent_count (stays_here m.cuts.items waiting_frame.first_array passed a) (view m.views.items (waiting_frame.first_array + a)).len ≡ 0
      cases true q = ap (λ t. lent_count t (view m.views.items (waiting_frame.first_array + a)).len)
          (taken (is_among a passed) true (is_cut_among (waiting_frame.first_array + a) waiting_frame.first_array (reverse m.cuts.items)) q)
      cases false q = ⊎_elim
          (λ is. ap (λ t. lent_count t (view m.views.items (waiting_frame.first_array + a)).len) (stays_cut a q ∙ is))
          (λ bare. ap (lent_count (stays_here m.cuts.items waiting_frame.first_array passed a)) bare ∙ none (stays_here m.cuts.items waiting_frame.first_array passed a))
          (cut_stays v ok memory w.place waiting_frame.first_array (length w.arrays) frames_beyond around beyond k a e)

  -- the values that wait for the joins of the call are in its cells
  comes_round : (frames : List Frame) (first n : ℕ) (around : List Around) → Round v ok m.cells.items first n frames around → ComesRound m.cells.items first n around
  comes_round frames first n [] r = tt
  comes_round frames first n (Caller w ∷ around) r = tt
  comes_round frames first n (Block o ∷ around) r = (r.0, comes_round frames first n around r.1)

  pub comes_beyond : ComesRound m.cells.items waiting_frame.first (length w.slots) around
  comes_beyond = comes_round in_cells.1 waiting_frame.first (length w.slots) around round_cells
