-- The slots that a board represents after a strand is added, removed, stopped or started.
use Rattle.std.proofs.Common.{◌≡◌, ℕ, zero, suc, ◌+◌, ◌-◌, ◌≤◌, ◌<◌, [], ◌∷◌, Option, Some, None, length, length-set, set, get_or-set_same, get_or-set_other, arith, refl, ap, sym, ◌∙◌, subst}
use Rattle.std.proofs.lemmas.List.{set-set, set-get_or, ext_get_or}
use Rattle.std.proofs.lemmas.Option.{same_Some}
use Rattle.std.specs.Prelude.{slice_get}
use Rattle.cw_greedy.specs.Slots.{Slots, nones, ready_slots, run_slots}
use Rattle.cw_greedy.specs.lemmas.Slots.{ready_nones}
use Rattle.cw_greedy_schedule.specs.declared.board.Board.{Board}
use Rattle.cw_greedy_schedule.specs.Boards.{left_at, lowered, minus, lesser, least_slot, least_first, over, shown, one_if_none, EndFrom, Full, HasRoom, Keeps, Moves, NoneFrom, NoneBefore}
use Rattle.cw_greedy_schedule.proofs.Slots.{ready-lowered, least-lowered, length-lowered, lowered-lowered, length-nones, nones_at}
use Rattle.cw_greedy_schedule.proofs.Over.{lowered-set, ready_set, ready_unset, least_ends, over_none, length-over, left_at-lowered, none_of_lowered, lowered_of_none}
use Rattle.cw_greedy_schedule.proofs.Over.{over_set_first, over_unset_first, over_set_second, over_at_first, over_at_second, first_over, run_over, least_over, ready_over}
use Rattle.cw_greedy_schedule.proofs.Groups.{stands_somewhere, ready_none}
use Rattle.cw_greedy_schedule.proofs.Jumps.{zero_left, zero_right}
use Rattle.cw_greedy_schedule.proofs.Parts.{zero_second}
use Rattle.cw_greedy_schedule.proofs.Releasing.{by_same, by_less}

-- one place of two lists

pub unset_here : (xs : Slots) (p : ℕ) → left_at (set xs p None) p ≡ None
unset_here [] p = refl
unset_here (x ∷ xs) zero = refl
unset_here (x ∷ xs) (suc p) = unset_here xs p

pub unset_none : (xs : Slots) (p k : ℕ) → left_at xs k ≡ None → left_at (set xs p None) k ≡ None
unset_none [] p k e = e
unset_none (x ∷ xs) zero zero e = refl
unset_none (x ∷ xs) zero (suc k) e = e
unset_none (x ∷ xs) (suc p) zero e = e
unset_none (x ∷ xs) (suc p) (suc k) e = unset_none xs p k e

unset_some : (xs : Slots) (p k m : ℕ) → left_at (set xs p None) k ≡ Some m → left_at xs k ≡ Some m
unset_some [] p k m e = e
unset_some (x ∷ xs) zero zero m e = cc
unset_some (x ∷ xs) zero (suc k) m e = e
unset_some (x ∷ xs) (suc p) zero m e = e
unset_some (x ∷ xs) (suc p) (suc k) m e = unset_some xs p k m e

own : (xs : Slots) (p : ℕ) (a : Option ℕ) → left_at xs p ≡ a → set xs p a ≡ xs
own xs p a e = ap (set xs p) (sym e) ∙ set-get_or xs p None

pub ends_set : (n p e : ℕ) (xs : Slots) → EndFrom n xs → n ≤ e → p < length xs → EndFrom n (set xs p (Some e))
ends_set n p e xs h l w k end at = by_same k p
    (λ s. let t : Some e ≡ Some end = sym (get_or-set_same xs p (Some e) None w) ∙ ap (left_at (set xs p (Some e))) (sym s) ∙ at in omega (arith, same_Some e end t, l))
    (λ s. h k end (sym (get_or-set_other xs p k (Some e) None s) ∙ at))

pub ends_unset : (n p : ℕ) (xs : Slots) → EndFrom n xs → EndFrom n (set xs p None)
ends_unset n p xs h k end at = h k end (unset_some xs p k end at)

pub none_from_set : (b p : ℕ) (a : Option ℕ) (xs : Slots) → NoneFrom b xs → p < b → NoneFrom b (set xs p a)
none_from_set b p a xs h l k m = get_or-set_other xs p k a None (λ s. omega (arith, s, l, m)) ∙ h k m

pub none_from_unset : (b p : ℕ) (xs : Slots) → NoneFrom b xs → NoneFrom b (set xs p None)
none_from_unset b p xs h k m = unset_none xs p k (h k m)

pub none_from_last : (p : ℕ) (xs : Slots) → NoneFrom (1 + p) xs → NoneFrom p (set xs p None)
none_from_last p xs h k m = by_same k p
    (λ s. ap (left_at (set xs p None)) s ∙ unset_here xs p)
    (λ s. unset_none xs p k (h k (by_less k (1 + p) (λ l. absurd (s (omega (arith, l, m)))) (λ l. l))))

pub none_before_set : (b p : ℕ) (a : Option ℕ) (xs : Slots) → NoneBefore b xs → b ≤ p → NoneBefore b (set xs p a)
none_before_set b p a xs h l k m = get_or-set_other xs p k a None (λ s. omega (arith, s, l, m)) ∙ h k m

-- both lists lowered

long : (n : ℕ) (r w : Slots) → length r ≡ length w → length (lowered n r) ≡ length w
long n r w e = omega (arith, length-lowered n r, e)

pub put_shown : (n p k : ℕ) (r w : Slots) → length r ≡ length w → p < length r → over (lowered n (set r p (Some (n + k)))) w ≡ set (over (lowered n r) w) p (Some k)
put_shown n p k r w e l =
    let s : (n + k) - n ≡ k = omega arith in
    ap (λ zs. over zs w) (lowered-set n p (Some (n + k)) r ∙ ap (λ j. set (lowered n r) p (Some j)) s)
    ∙ over_set_first (lowered n r) w p k (long n r w e) (omega (arith, l, length-lowered n r))

pub unset_shown : (n p : ℕ) (r w : Slots) → length r ≡ length w → left_at w p ≡ None → over (lowered n (set r p None)) w ≡ set (over (lowered n r) w) p None
unset_shown n p r w e l = ap (λ zs. over zs w) (lowered-set n p None r) ∙ over_unset_first (lowered n r) w p (long n r w e) l

pub waiting_shown : (n p : ℕ) (a : Option ℕ) (r w : Slots) → length r ≡ length w → left_at r p ≡ None → over (lowered n r) (set w p a) ≡ set (over (lowered n r) w) p a
waiting_shown n p a r w e l = over_set_second (lowered n r) w p a (long n r w e) (lowered_of_none n p r l)

-- the slot of a running strand
pub running_left : (n p e : ℕ) (r w : Slots) → length r ≡ length w → left_at r p ≡ Some e → left_at (over (lowered n r) w) p ≡ Some (e - n)
running_left n p e r w l at = over_at_first (lowered n r) w p (e - n) (long n r w l) (left_at-lowered n p r ∙ ap (λ a. minus a n) at)

pub waiting_left : (n p : ℕ) (r w : Slots) → length r ≡ length w → left_at r p ≡ None → left_at (over (lowered n r) w) p ≡ left_at w p
waiting_left n p r w l at = over_at_second (lowered n r) w p (long n r w l) (lowered_of_none n p r at)

-- a strand that ran and now waits keeps its slot
pub stopped_shown : (n p e : ℕ) (r w : Slots) → length r ≡ length w → left_at r p ≡ Some e → left_at w p ≡ None
    → over (lowered n (set r p None)) (set w p (Some (e - n))) ≡ over (lowered n r) w
stopped_shown n p e r w l at free =
    let zs = over (lowered n r) w in
    waiting_shown n p (Some (e - n)) (set r p None) w (omega (arith, l, length-set r p None)) (unset_here r p)
    ∙ ap (λ ys. set ys p (Some (e - n))) (unset_shown n p r w l free) ∙ set-set zs p None (Some (e - n))
    ∙ own zs p (Some (e - n)) (running_left n p e r w l at)

-- a strand that waited is removed and added again
pub started_shown : (n p k : ℕ) (r w : Slots) → length r ≡ length w → left_at r p ≡ None → left_at w p ≡ Some k
    → set (over (lowered n r) (set w p None)) p (Some k) ≡ over (lowered n r) w
started_shown n p k r w l at free =
    let zs = over (lowered n r) w in
    ap (λ ys. set ys p (Some k)) (waiting_shown n p None r w l at) ∙ set-set zs p None (Some k)
    ∙ own zs p (Some k) (waiting_left n p r w l at ∙ free)

-- changes of the time

-- a board with an earlier time represents the same slots
pub timed : (b : Board) (n : ℕ) (r : Slots) → Keeps b → EndFrom n r → lowered n r ≡ lowered b.time b.running
    → Keeps (record { running = r; count = b.count; time = n; waiting = b.waiting; border = b.border; places = b.places })
timed b n r h ends e = record {
  running = omega (arith, h.running, length-lowered n r, length-lowered b.time b.running, ap length e);
  waiting = h.waiting;
  within = h.within;
  count = h.count ∙ sym (ready-lowered b.time b.running) ∙ ap ready_slots (sym e) ∙ ready-lowered n r;
  before = λ k l. none_of_lowered n k r (ap (λ zs. left_at zs k) e ∙ lowered_of_none b.time k b.running (h.before k l));
  behind = h.behind;
  ends = ends;
}

pub least_shown : (b : Board) → Keeps b → least_slot (shown b) ≡ lesser (minus (least_slot b.running) b.time) (least_slot b.waiting)
least_shown b h =
    least_over b.border (lowered b.time b.running) b.waiting (long b.time b.running b.waiting (h.running ∙ sym h.waiting))
    (λ k l. lowered_of_none b.time k b.running (h.before k l)) h.behind
    ∙ ap (λ a. lesser a (least_slot b.waiting)) (least-lowered b.time b.running)

-- the slots before a place are lowered, and the others are unchanged
pub record Lowers (by place : ℕ) (was now : Slots) : Type 0 where
  pub long : length now ≡ length was
  pub first : (k : ℕ) → k < place → left_at now k ≡ left_at (lowered by was) k
  pub rest : (k : ℕ) → place ≤ k → left_at now k ≡ left_at was k

pub lowers_more : (by place : ℕ) (was now : Slots) (a : Option ℕ) → Lowers by place was now → place < length was → a ≡ minus (left_at now place) by
    → Lowers by (place + 1) was (set now place a)
lowers_more by place was now a h w e = record {
  long = omega (arith, h.long, length-set now place a);
  first = λ k l. by_same k place
      (λ s. ap (left_at (set now place a)) s ∙ get_or-set_same now place a None (omega (arith, w, h.long)) ∙ e
      ∙ ap (λ b. minus b by) (h.rest place (omega arith)) ∙ sym (left_at-lowered by place was) ∙ ap (left_at (lowered by was)) (sym s))
      (λ s. get_or-set_other now place k a None s ∙ h.first k (by_less k place (λ m. m) (λ m. absurd (s (omega (arith, l, m))))));
  rest = λ k l. get_or-set_other now place k a None (λ s. omega (arith, s, l)) ∙ h.rest k (omega (arith, l));
}

pub all_lowered : (by : ℕ) (was now : Slots) → Lowers by (length was) was now → now ≡ lowered by was
all_lowered by was now h =
    ext_get_or None now (lowered by was) (omega (arith, h.long, length-lowered by was)) (λ k l. h.first k (omega (arith, l, h.long)))

-- lemmas on the invariant of a board

pub same_length : (b : Board) → Keeps b → length b.running ≡ length b.waiting
same_length b h = h.running ∙ sym h.waiting

pub length-shown : (b : Board) → Keeps b → length (shown b) ≡ b.places
length-shown b h = length-over (lowered b.time b.running) b.waiting (long b.time b.running b.waiting (same_length b h)) ∙ h.waiting

ready_in : (xs : Slots) → ready_slots xs ≤ length xs
ready_in [] = omega arith
ready_in (None ∷ xs) = omega (arith, ready_in xs)
ready_in (Some k ∷ xs) = omega (arith, ready_in xs)

pub get_of_left : (xs : Slots) (k a : ℕ) → left_at xs k ≡ Some a → slice_get xs k ≡ Some (Some a)
get_of_left [] k a e = cc
get_of_left (x ∷ xs) zero a e = ap Some e
get_of_left (x ∷ xs) (suc k) a e = get_of_left xs k a e

pub left_of_get : (xs : Slots) (k a : ℕ) → slice_get xs k ≡ Some (Some a) → left_at xs k ≡ Some a
left_of_get [] k a e = cc
left_of_get (x ∷ xs) zero a e = cc
left_of_get (x ∷ xs) (suc k) a e = left_of_get xs k a e

some_none : {A : Type 0} {a : Option ℕ} {k : ℕ} → a ≡ Some k → a ≡ None → A
some_none e n = absurd (differ e n)
  where
    differ : {a : Option ℕ} {k : ℕ} → a ≡ Some k → a ≡ None → ⊥
    differ e n = cc

-- running strands are before the border, and waiting ones are not
below_border : (b : Board) (p e : ℕ) → Keeps b → left_at b.running p ≡ Some e → p < b.border
below_border b p e h at = by_less p b.border (λ l. l) (λ l. some_none at (h.before p l))

pub none_waits : (b : Board) (p e : ℕ) → Keeps b → left_at b.running p ≡ Some e → left_at b.waiting p ≡ None
none_waits b p e h at = h.behind p (below_border b p e h at)

above_border : (b : Board) (p k : ℕ) → Keeps b → left_at b.waiting p ≡ Some k → b.border ≤ p
above_border b p k h at = by_less p b.border (λ l. some_none at (h.behind p l)) (λ l. l)

pub none_runs : (b : Board) (p k : ℕ) → Keeps b → left_at b.waiting p ≡ Some k → left_at b.running p ≡ None
none_runs b p k h at = h.before p (above_border b p k h at)

-- the minimum

room_of_ends : (t : ℕ) (xs : Slots) (a : Option ℕ) → EndFrom t xs → least_slot xs ≡ a → HasRoom t a
room_of_ends t xs None h e = tt
room_of_ends t xs (Some m) h e = let s = stands_somewhere xs m e in h s.0 m s.1.1

pub least_from : (b : Board) (e : ℕ) → Keeps b → least_slot b.running ≡ Some e → b.time ≤ e
least_from b e h at = room_of_ends b.time b.running (Some e) h.ends at

ends_now : (t : ℕ) (a : Option ℕ) → HasRoom t a → minus a t ≡ Some 0 → a ≡ Some t
ends_now t None h e = cc
ends_now t (Some k) h e = let s = same_Some (k - t) 0 e in let z : k ≡ t = omega (arith, s, h) in ap Some z

pub done_running : (b : Board) → Keeps b → least_slot b.running ≡ Some b.time → least_slot (shown b) ≡ Some 0
done_running b h e =
    let z : b.time - b.time ≡ 0 = omega arith in
    least_shown b h ∙ ap (λ a. lesser (minus a b.time) (least_slot b.waiting)) e ∙ ap (λ n. lesser (Some n) (least_slot b.waiting)) z
    ∙ zero_left (least_slot b.waiting)

pub done_waiting : (b : Board) → Keeps b → least_slot b.waiting ≡ Some 0 → least_slot (shown b) ≡ Some 0
done_waiting b h e = least_shown b h ∙ ap (lesser (minus (least_slot b.running) b.time)) e ∙ beside (minus (least_slot b.running) b.time)
  where
    beside : (a : Option ℕ) → lesser a (Some 0) ≡ Some 0
    beside None = refl
    beside (Some k) = zero_right k

pub done_which : (b : Board) → Keeps b → least_slot (shown b) ≡ Some 0 → (least_slot b.running ≡ Some b.time → ⊥) → least_slot b.waiting ≡ Some 0
done_which b h e n =
    zero_second (minus (least_slot b.running) b.time) (least_slot b.waiting) (sym (least_shown b h) ∙ e)
    (λ z. n (ends_now b.time (least_slot b.running) (room_of_ends b.time b.running (least_slot b.running) h.ends refl) z))

-- jumps of the running strands

pub jump_some : (p : ℕ) (b : Board) → Keeps b → Full p b → 1 ≤ p → 1 ≤ ready_slots (shown b) → least_slot b.running ≡ None → ⊥
jump_some p b h f l some e =
    let z = ready_none b.running e in
    let w = f.all (omega (arith, h.count, z, l)) in
    omega (arith, some, w, z, ready-lowered b.time b.running, ready_over (lowered b.time b.running) b.waiting (long b.time b.running b.waiting (same_length b h)))

pub jump_first : (p e : ℕ) (b : Board) → Keeps b → Full p b → least_slot b.running ≡ Some e → least_first p (shown b) ≡ Some (e - b.time)
jump_first p e b h f at =
    first_over p b.border (lowered b.time b.running) b.waiting (long b.time b.running b.waiting (same_length b h))
    (λ k l. lowered_of_none b.time k b.running (h.before k l)) h.behind
    (omega (arith, ready-lowered b.time b.running, h.count, f.few))
    (λ l. f.all (omega (arith, l, ready-lowered b.time b.running, h.count)))
    ∙ least-lowered b.time b.running ∙ ap (λ a. minus a b.time) at

pub jump_shown : (p e : ℕ) (b : Board) → Keeps b → Full p b → b.time ≤ e → over (lowered e b.running) b.waiting ≡ run_slots p (e - b.time) (shown b)
jump_shown p e b h f l =
    let n = e - b.time in
    let s : b.time + n ≡ e = omega (arith, l) in
    sym (run_over p n b.border (lowered b.time b.running) b.waiting (long b.time b.running b.waiting (same_length b h))
    (λ k l. lowered_of_none b.time k b.running (h.before k l)) h.behind
    (omega (arith, ready-lowered b.time b.running, h.count, f.few))
    (λ l. f.all (omega (arith, l, ready-lowered b.time b.running, h.count)))
    ∙ ap (λ xs. over xs b.waiting) (lowered-lowered n b.time b.running ∙ ap (λ m. lowered m b.running) s))

pub jumped : (e : ℕ) (b : Board) → Keeps b → least_slot b.running ≡ Some e
    → Keeps (record { running = b.running; count = b.count; time = e; waiting = b.waiting; border = b.border; places = b.places })
jumped e b h at = record {
  running = h.running;
  waiting = h.waiting;
  within = h.within;
  count = h.count;
  before = h.before;
  behind = h.behind;
  ends = least_ends e b.running at;
}

-- a board without a ready strand

pub new_keeps : (n : ℕ) (r w : Slots) → r ≡ nones n → w ≡ nones n → Keeps (record { running = r; count = 0; time = 0; waiting = w; border = n; places = n })
new_keeps n r w e d = record {
  running = ap length e ∙ length-nones n;
  waiting = ap length d ∙ length-nones n;
  within = omega arith;
  count = sym (ap ready_slots e ∙ ready_nones n);
  before = λ k l. ap (λ xs. left_at xs k) e ∙ nones_at n k;
  behind = λ k l. ap (λ xs. left_at xs k) d ∙ nones_at n k;
  ends = λ k end at. omega arith;
}

pub new_shown : (n : ℕ) (r w : Slots) → r ≡ nones n → w ≡ nones n → over (lowered 0 r) w ≡ nones n
new_shown n r w e d =
    over_none (lowered 0 r) w (omega (arith, length-lowered 0 r, ap length e, ap length d)) (ready-lowered 0 r ∙ ap ready_slots e ∙ ready_nones n) ∙ d

-- a strand runs, ends or waits

pub started : (b : Board) (p k : ℕ) (r : Slots) → Keeps b → p < b.border → r ≡ set b.running p (Some (b.time + k))
    → Keeps (record { running = r; count = b.count + one_if_none (left_at b.running p); time = b.time; waiting = b.waiting; border = b.border; places = b.places })
started b p k r h l e =
    let w : p < length b.running = omega (arith, l, h.within, h.running) in
    record {
      running = omega (arith, ap length e, length-set b.running p (Some (b.time + k)), h.running);
      waiting = h.waiting;
      within = h.within;
      count = omega (arith, h.count, ready_set b.running p (b.time + k) w, ap ready_slots e);
      before = λ i m. ap (λ xs. left_at xs i) e ∙ none_from_set b.border p (Some (b.time + k)) b.running h.before l i m;
      behind = h.behind;
      ends = subst (EndFrom b.time) (sym e) (ends_set b.time p (b.time + k) b.running h.ends (omega arith) w);
    }

-- there is room to count one more strand
pub count_fits : (b : Board) (p : ℕ) → Keeps b → p < b.border → b.count + one_if_none (left_at b.running p) ≤ b.places
count_fits b p h l =
    let w : p < length b.running = omega (arith, l, h.within, h.running) in
    omega (arith, h.count, ready_set b.running p 0 w, ready_in (set b.running p (Some 0)), length-set b.running p (Some 0), h.running)

pub ended : (b : Board) (p e : ℕ) (r : Slots) → Keeps b → left_at b.running p ≡ Some e → r ≡ set b.running p None
    → Keeps (record { running = r; count = b.count - 1; time = b.time; waiting = b.waiting; border = b.border; places = b.places })
ended b p e r h at s = record {
  running = omega (arith, ap length s, length-set b.running p None, h.running);
  waiting = h.waiting;
  within = h.within;
  count = omega (arith, h.count, ready_unset b.running p e at, ap ready_slots s);
  before = λ i m. ap (λ xs. left_at xs i) s ∙ none_from_unset b.border p b.running h.before i m;
  behind = h.behind;
  ends = subst (EndFrom b.time) (sym s) (ends_unset b.time p b.running h.ends);
}

pub some_run : (b : Board) (p e : ℕ) → Keeps b → left_at b.running p ≡ Some e → 1 ≤ b.count
some_run b p e h at = omega (arith, h.count, ready_unset b.running p e at)

pub stopped : (b : Board) (p e : ℕ) (r w : Slots) → Keeps b → left_at b.running p ≡ Some e → NoneFrom (1 + p) b.running
    → r ≡ set b.running p None → w ≡ set b.waiting p (Some (e - b.time))
    → Moves b (record { running = r; count = b.count - 1; time = b.time; waiting = w; border = p; places = b.places })
stopped b p e r w h at none s d =
    let k = ended b p e r h at s in
    let l = below_border b p e h at in
    record {
      keeps = record {
        running = k.running;
        waiting = omega (arith, ap length d, length-set b.waiting p (Some (e - b.time)), h.waiting);
        within = omega (arith, l, h.within);
        count = k.count;
        before = λ i m. ap (λ xs. left_at xs i) s ∙ none_from_last p b.running none i m;
        behind = λ i m. ap (λ xs. left_at xs i) d
            ∙ none_before_set p p (Some (e - b.time)) b.waiting (λ j n. h.behind j (omega (arith, n, l))) (omega arith) i m;
        ends = k.ends;
      };
      same = ap (λ xs. over (lowered b.time xs) w) s ∙ ap (over (lowered b.time (set b.running p None))) d
          ∙ stopped_shown b.time p e b.running b.waiting (same_length b h) at (none_waits b p e h at);
    }

-- the first waiting strand is removed and added again
pub picked_shown : (b : Board) (p k : ℕ) (w : Slots) → Keeps b → left_at b.waiting p ≡ Some k → w ≡ set b.waiting p None
    → set (over (lowered b.time b.running) w) p (Some k) ≡ shown b
picked_shown b p k w h at d =
    ap (λ xs. set (over (lowered b.time b.running) xs) p (Some k)) d
    ∙ started_shown b.time p k b.running b.waiting (same_length b h) (none_runs b p k h at) at
