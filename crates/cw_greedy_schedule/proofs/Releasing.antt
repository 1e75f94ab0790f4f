-- Removal of a strand that has no instruction left: the board represents the next state.
use Rattle.std.proofs.Common.{◌≡◌, ◌≢◌, ℕ, ◌+◌, ◌≤◌, ◌<◌, Bool, true, false, Option, Some, None, arith, refl, ap, sym, ◌∙◌, subst}
use Rattle.std.specs.Prelude.{nat_lt}
use Rattle.std.proofs.lemmas.Bool.{ltb-false, ltb-true}
use Rattle.std.proofs.lemmas.Option.{none-some, same_Some}
use Rattle.cw_greedy.specs.Jumping.{StrandBlock, Last, Fork, size, Going, Ready, Before, Both, Child, Rest, After, start, IsOver, Released}
use Rattle.cw_greedy.specs.Jumping as j
use Rattle.cw_greedy_schedule.specs.declared.plan.Begins.{Begins}
use Rattle.cw_greedy_schedule.specs.declared.plan.Begins.TheVariants as w
use Rattle.cw_greedy_schedule.specs.declared.plan.Strand.{Strand}
use Rattle.cw_greedy_schedule.specs.Planned.{strand, first_weight}
use Rattle.cw_greedy_schedule.specs.BoardState.{Quiet, Half, Shows, PlanAt, join_of, Forks, Arrives, Joins, Releases}
use Rattle.cw_greedy_schedule.specs.BoardState as v
use Rattle.cw_facts.specs.Tests.{never}

abbrev S : Type 0
S = ℕ → Option ℕ

abbrev F : Type 0
F = ℕ → Bool

-- a case distinction: one number is less than another, or not
pub by_less : {A : Type 0} (a b : ℕ) → (a < b → A) → (b ≤ a → A) → A
by_less {A} a b f g = by_test (nat_lt a b) refl
  where
    by_test : (t : Bool) → nat_lt a b ≡ t → A
    by_test true e = f (let h = ltb-true a b e in omega (arith, h))
    by_test false e = g (let h = ltb-false a b e in omega (arith, h))

no_slot : {A : Type 0} {x : Option ℕ} → x ≡ None → x ≡ Some 0 → A
no_slot {A} {x} e f = absurd (differ x e f)
  where
    differ : (x : Option ℕ) → x ≡ None → x ≡ Some 0 → ⊥
    differ x e f = cc

pub some_size : (b : StrandBlock) → 1 ≤ size b
some_size (Last k) = omega arith
some_size (Fork k c r a) = omega arith

-- slots and flags are unchanged in a range
abbrev Same : (s : S) (f : F) (s' : S) (f' : F) (o n : ℕ) → Type 0
Same s f s' f' o n = (k : ℕ) → o ≤ k → k < o + n → (s' k ≡ s k) × (f' k ≡ f k)

same_part : (s : S) (f : F) (s' : S) (f' : F) (o n o' n' : ℕ) → Same s f s' f' o n → o ≤ o' → o' + n' ≤ o + n → Same s f s' f' o' n'
same_part s f s' f' o n o' n' h a b = λ k l m. h k (omega (arith, l, a)) (omega (arith, m, b))

quiet_same : (s : S) (f : F) (s' : S) (f' : F) (o n : ℕ) → Same s f s' f' o n → Quiet s f o n → Quiet s' f' o n
quiet_same s f s' f' o n h q = λ k l m. ((h k l m).0 ∙ (q k l m).0, (h k l m).1 ∙ (q k l m).1)

half_same : (s : S) (f : F) (s' : S) (f' : F) (o n : ℕ) → 1 ≤ n → Same s f s' f' o n → Half s f o n → Half s' f' o n
half_same s f s' f' o n p h q = record {
  flag = (h o (omega arith) (omega (arith, p))).1 ∙ q.flag;
  idle = λ k l m. (h k l m).0 ∙ q.idle k l m;
  others = λ k l m. (h k (omega (arith, l)) m).1 ∙ q.others k l m;
}

shows_same : (s : S) (f : F) (s' : S) (f' : F) {o : ℕ} {b : StrandBlock} {g : Going} → Shows s f o b g → Same s f s' f' o (size b) → Shows s' f' o b g
shows_same s f s' f' (v.ready o n k e d) h =
    let u = h o (omega arith) (omega arith) in v.ready o n k (u.0 ∙ e) (u.1 ∙ d)
shows_same s f s' f' (v.before o n k c r a e d q) h =
    let u = h o (omega arith) (omega arith) in
    let t = size c + (size r + size a) in
    v.before o n k c r a (u.0 ∙ e) (u.1 ∙ d)
    (quiet_same s f s' f' (o + 1) t (same_part s f s' f' o (size (Fork n c r a)) (o + 1) t h (omega arith) (omega arith)) q)
shows_same s f s' f' (v.both o n c r a x y q sx sy qa) h =
    let part = λ (o' : ℕ) (n' : ℕ). same_part s f s' f' o (size (Fork n c r a)) o' n' h in
    v.both o n c r a x y
    (quiet_same s f s' f' o 1 (part o 1 (omega arith) (omega arith)) q)
    (shows_same s f s' f' sx (part (o + 1) (size c) (omega arith) (omega arith)))
    (shows_same s f s' f' sy (part (o + 1 + size c) (size r) (omega arith) (omega arith)))
    (quiet_same s f s' f' (o + 1 + size c + size r) (size a) (part (o + 1 + size c + size r) (size a) (omega arith) (omega arith)) qa)
shows_same s f s' f' (v.child o n c r a x q sx qr ha) h =
    let part = λ (o' : ℕ) (n' : ℕ). same_part s f s' f' o (size (Fork n c r a)) o' n' h in
    v.child o n c r a x
    (quiet_same s f s' f' o 1 (part o 1 (omega arith) (omega arith)) q)
    (shows_same s f s' f' sx (part (o + 1) (size c) (omega arith) (omega arith)))
    (quiet_same s f s' f' (o + 1 + size c) (size r) (part (o + 1 + size c) (size r) (omega arith) (omega arith)) qr)
    (half_same s f s' f' (o + 1 + size c + size r) (size a) (some_size a) (part (o + 1 + size c + size r) (size a) (omega arith) (omega arith)) ha)
shows_same s f s' f' (v.rest o n c r a y q sy ha) h =
    let part = λ (o' : ℕ) (n' : ℕ). same_part s f s' f' o (size (Fork n c r a)) o' n' h in
    v.rest o n c r a y
    (quiet_same s f s' f' o (1 + size c) (part o (1 + size c) (omega arith) (omega arith)) q)
    (shows_same s f s' f' sy (part (o + 1 + size c) (size r) (omega arith) (omega arith)))
    (half_same s f s' f' (o + 1 + size c + size r) (size a) (some_size a) (part (o + 1 + size c + size r) (size a) (omega arith) (omega arith)) ha)
shows_same s f s' f' (v.after o n c r a x q sx) h =
    let part = λ (o' : ℕ) (n' : ℕ). same_part s f s' f' o (size (Fork n c r a)) o' n' h in
    v.after o n c r a x
    (quiet_same s f s' f' o (1 + (size c + size r)) (part o (1 + (size c + size r)) (omega arith) (omega arith)) q)
    (shows_same s f s' f' sx (part (o + 1 + size c + size r) (size a) (omega arith) (omega arith)))

-- a block begins with its first strand
pub shows_start : (s : S) (f : F) (o : ℕ) (b : StrandBlock) → s o ≡ Some (first_weight b) → f o ≡ false →
    ((k : ℕ) → o < k → k < o + size b → (s k ≡ None) × (f k ≡ false)) → Shows s f o b (start b)
shows_start s f o (Last k) e d q = v.ready o k k e d
shows_start s f o (Fork k c r a) e d q = v.before o k k c r a e d (λ i l m. q i (omega (arith, l)) (omega (arith, m)))

pub plan_first : (p : ℕ → Strand) (o : ℕ) (begins : Begins) (b : StrandBlock) → PlanAt p o begins b → p o ≡ strand (first_weight b) begins
plan_first p o begins (Last k) h = h
plan_first p o begins (Fork k c r a) h = h.0

-- the strands that become ready, if the start of the next strand is known
at_fork : (p : ℕ → Strand) (s : S) (f : F) (s' : S) (f' : F) (i later : ℕ) → Releases p s f s' f' i → (p (i + 1)).begins ≡ w.Child later → Forks p s f s' f' i later
at_fork p s f s' f' i later (v.forks n e h) d =
    let q : n ≡ later = same_later n later (sym e ∙ d) in subst (λ m. Forks p s f s' f' i m) q h
  where
    same_later : (m n : ℕ) → w.Child m ≡ w.Child n → m ≡ n
    same_later m n e = cc
at_fork p s f s' f' i later (v.arrives n e h) d = absurd (none-some n (sym (ap (λ b. join_of b (i + 1)) d) ∙ e))
at_fork p s f s' f' i later (v.joins n e h) d = absurd (none-some n (sym (ap (λ b. join_of b (i + 1)) d) ∙ e))

no_fork : (b : Begins) (i later join : ℕ) → b ≡ w.Child later → join_of b i ≡ Some join → ⊥
no_fork b i later join e d = none-some join (sym (ap (λ b. join_of b i) e) ∙ d)

at_first : (p : ℕ → Strand) (s : S) (f : F) (s' : S) (f' : F) (i join : ℕ) → Releases p s f s' f' i →
    join_of (p (i + 1)).begins (i + 1) ≡ Some join → f join ≡ false → Arrives s f s' f' i join
at_first p s f s' f' i join (v.forks n e h) d g = absurd (no_fork (p (i + 1)).begins (i + 1) n join e d)
at_first p s f s' f' i join (v.arrives n e h) d g = subst (λ m. Arrives s f s' f' i m) (same_Some n join (sym e ∙ d)) h
at_first p s f s' f' i join (v.joins n e h) d g = never _ (subst (λ m. f m ≡ true) (same_Some n join (sym e ∙ d)) h.second) g

at_second : (p : ℕ → Strand) (s : S) (f : F) (s' : S) (f' : F) (i join : ℕ) → Releases p s f s' f' i →
    join_of (p (i + 1)).begins (i + 1) ≡ Some join → f join ≡ true → Joins p s f s' f' i join
at_second p s f s' f' i join (v.forks n e h) d g = absurd (no_fork (p (i + 1)).begins (i + 1) n join e d)
at_second p s f s' f' i join (v.arrives n e h) d g = never _ g (subst (λ m. f m ≡ false) (same_Some n join (sym e ∙ d)) h.first)
at_second p s f s' f' i join (v.joins n e h) d g = subst (λ m. Joins p s f s' f' i m) (same_Some n join (sym e ∙ d)) h

-- the result of removing a strand from a state: its end, or the next state
pub data Outcome (s : S) (f : F) (s' : S) (f' : F) (o : ℕ) (b : StrandBlock) (g : Going) (i : ℕ) : Type 0 where
  over : IsOver g → i + 1 ≡ o + size b → ((k : ℕ) → o ≤ k → k < o + size b → k ≢ i → s k ≡ None)
      → ((k : ℕ) → o ≤ k → k < o + size b → f k ≡ false) → Outcome s f s' f' o b g i
  on : (g' : Going) → Released g g' → i + 1 < o + size b → Shows s' f' o b g'
      → ((k : ℕ) → k < o → (s' k ≡ s k) × (f' k ≡ f k)) → ((k : ℕ) → o + size b ≤ k → (s' k ≡ s k) × (f' k ≡ f k)) → Outcome s f s' f' o b g i

take_ready : (s : S) (f : F) (s' : S) (f' : F) (o n k i : ℕ) → s o ≡ Some k → f o ≡ false → i ≡ o → s i ≡ Some 0 → Outcome s f s' f' o (Last n) (Ready k) i
take_ready s f s' f' o n k i e d y z =
    over (same_Some k 0 (sym e ∙ ap s (sym y) ∙ z)) (omega (arith, y))
    (λ m l h ne. absurd (ne (omega (arith, l, h, y))))
    (λ m l h. let q : o ≡ m = omega (arith, l, h) in subst (λ x. f x ≡ false) q d)

take_before : (p : ℕ → Strand) (s : S) (f : F) (s' : S) (f' : F) (o n k : ℕ) (c r a : StrandBlock) → s o ≡ Some k → f o ≡ false →
    Quiet s f (o + 1) (size c + (size r + size a)) → PlanAt p (o + 1) (w.Child (size c)) c → PlanAt p (o + 1 + size c) (w.Continuation (size r)) r →
    s o ≡ Some 0 → Releases p s f s' f' o → Outcome s f s' f' o (Fork n c r a) (Before k c r a) o
take_before p s f s' f' o n k c r a e d q pc pr z rel =
    let first = plan_first p (o + 1) (w.Child (size c)) c pc in
    let behind = plan_first p (o + 1 + size c) (w.Continuation (size r)) r pr in
    let h = at_fork p s f s' f' o (size c) rel (ap (λ x. x.begins) first) in
    let k_is : 0 ≡ k = sym (same_Some k 0 (sym e ∙ z)) in
    let one = some_size c in
    let two = some_size r in
    let still : (i : ℕ) → o + 1 ≤ i → i < o + 1 + (size c + (size r + size a)) → i ≢ o + 1 → i ≢ o + 1 + size c → (s' i ≡ None) × (f' i ≡ false) = λ i l m x y.
    (h.others i (λ u. absurd (omega (arith, u, l))) x y ∙ (q i l m).0, h.flags i ∙ (q i l m).1) in
    on (Both (start c) (start r) a) (subst (λ x. Released (Before x c r a) (Both (start c) (start r) a)) k_is (j.forks c r a)) (omega (arith, one))
    (v.both o n c r a (start c) (start r)
    (λ i l m. let y : o ≡ i = omega (arith, l, m) in (subst (λ x. s' x ≡ None) y h.gone, subst (λ x. f' x ≡ false) y (h.flags o ∙ d)))
    (shows_start s' f' (o + 1) c (h.child ∙ ap (λ x. Some x.weight) first) (h.flags (o + 1) ∙ (q (o + 1) (omega arith) (omega (arith, one))).1)
    (λ i l m. still i (omega (arith, l)) (omega (arith, m)) (λ u. omega (arith, u, l)) (λ u. omega (arith, u, m))))
    (shows_start s' f' (o + 1 + size c) r (h.rest ∙ ap (λ x. Some x.weight) behind)
    (h.flags (o + 1 + size c) ∙ (q (o + 1 + size c) (omega arith) (omega (arith, two))).1)
    (λ i l m. still i (omega (arith, l)) (omega (arith, m)) (λ u. omega (arith, u, l)) (λ u. omega (arith, u, l))))
    (λ i l m. still i (omega (arith, l)) (omega (arith, m)) (λ u. omega (arith, u, l, one)) (λ u. omega (arith, u, l, two))))
    (λ i l. (h.others i (λ u. omega (arith, u, l)) (λ u. omega (arith, u, l)) (λ u. omega (arith, u, l)), h.flags i))
    (λ i l. (h.others i (λ u. omega (arith, u, l)) (λ u. omega (arith, u, l, one)) (λ u. omega (arith, u, l, two)), h.flags i))

pub by_same : {A : Type 0} (a b : ℕ) → (a ≡ b → A) → (a ≢ b → A) → A
by_same a b f g = by_less a b (λ h. g (λ e. omega (arith, h, e))) (λ h. by_less b a (λ h'. g (λ e. omega (arith, h', e))) (λ h'. f (omega (arith, h, h'))))

-- a strand is removed, and otherwise only one join has changed
record Ended (s : S) (f : F) (s' : S) (f' : F) (i join : ℕ) : Type 0 where
  gone : s' i ≡ None
  others : (k : ℕ) → k ≢ i → k ≢ join → s' k ≡ s k
  flags : (k : ℕ) → k ≢ join → f' k ≡ f k

by_arrival : (s : S) (f : F) (s' : S) (f' : F) (i join : ℕ) → Arrives s f s' f' i join → Ended s f s' f' i join
by_arrival s f s' f' i join h = record { gone = h.gone; others = λ k a b. h.others k a; flags = h.flags }

by_joining : (p : ℕ → Strand) (s : S) (f : F) (s' : S) (f' : F) (i join : ℕ) → Joins p s f s' f' i join → Ended s f s' f' i join
by_joining p s f s' f' i join h = record { gone = h.gone; others = h.others; flags = h.flags }

-- a range in which only one strand is not idle, with its flags
record Idle (s : S) (f : F) (i o n : ℕ) : Type 0 where
  none : (k : ℕ) → o ≤ k → k < o + n → k ≢ i → s k ≡ None
  unset : (k : ℕ) → o ≤ k → k < o + n → f k ≡ false

idle_quiet : (s : S) (f : F) (i o n : ℕ) → Quiet s f o n → Idle s f i o n
idle_quiet s f i o n q = record { none = λ k l m ne. (q k l m).0; unset = λ k l m. (q k l m).1 }

idle_both : (s : S) (f : F) (i o m n : ℕ) → Idle s f i o m → Idle s f i (o + m) n → Idle s f i o (m + n)
idle_both s f i o m n a b = record {
  none = λ k l h ne. by_less k (o + m) (λ u. a.none k l u ne) (λ u. b.none k u (omega (arith, h)) ne);
  unset = λ k l h. by_less k (o + m) (λ u. a.unset k l u) (λ u. b.unset k u (omega (arith, h)));
}

idle_at : (s : S) (f : F) (i o o' n n' : ℕ) → o ≡ o' → n ≡ n' → Idle s f i o n → Idle s f i o' n'
idle_at s f i o o' n n' a b h = record {
  none = λ k l m ne. h.none k (omega (arith, l, a)) (omega (arith, m, a, b)) ne;
  unset = λ k l m. h.unset k (omega (arith, l, a)) (omega (arith, m, a, b));
}

ended_quiet : (s : S) (f : F) (s' : S) (f' : F) (i join o n : ℕ) → Ended s f s' f' i join → Idle s f i o n → o + n ≤ join → Quiet s' f' o n
ended_quiet s f s' f' i join o n h q below = λ k l m. (
  by_same k i (λ e. subst (λ x. s' x ≡ None) (sym e) h.gone) (λ ne. h.others k ne (λ u. omega (arith, u, m, below)) ∙ q.none k l m ne),
  h.flags k (λ u. omega (arith, u, m, below)) ∙ q.unset k l m,
)

ended_same : (s : S) (f : F) (s' : S) (f' : F) (i join o n : ℕ) → Ended s f s' f' i join → ((k : ℕ) → o ≤ k → k < o + n → k ≢ i) → o + n ≤ join → Same s f s' f' o n
ended_same s f s' f' i join o n h ne below = λ k l m. (h.others k (ne k l m) (λ u. omega (arith, u, m, below)), h.flags k (λ u. omega (arith, u, m, below)))

ended_outside : (s : S) (f : F) (s' : S) (f' : F) (i join k : ℕ) → Ended s f s' f' i join → k ≢ i → k ≢ join → (s' k ≡ s k) × (f' k ≡ f k)
ended_outside s f s' f' i join k h a b = (h.others k a b, h.flags k b)

-- the first join of a part has one side done
arrived_half : (s : S) (f : F) (s' : S) (f' : F) (i o n : ℕ) → Arrives s f s' f' i o → i < o → Quiet s f o n → Half s' f' o n
arrived_half s f s' f' i o n h below q = record {
  flag = h.flag;
  idle = λ k l m. h.others k (λ u. omega (arith, u, l, below)) ∙ (q k l m).0;
  others = λ k l m. h.flags k (λ u. omega (arith, u, l)) ∙ (q k (omega (arith, l)) m).1;
}

-- the part after a join begins
joined_start : (p : ℕ → Strand) (s : S) (f : F) (s' : S) (f' : F) (i o : ℕ) (a : StrandBlock) → Joins p s f s' f' i o → i < o → PlanAt p o w.Sync a →
    Half s f o (size a) → Shows s' f' o a (start a)
joined_start p s f s' f' i o a h below pa q =
    shows_start s' f' o a (h.joined ∙ ap (λ x. Some x.weight) (plan_first p o w.Sync a pa)) h.flag
    (λ k l m. (
      h.others k (λ u. omega (arith, u, l, below)) (λ u. omega (arith, u, l)) ∙ q.idle k (omega (arith, l)) m,
      h.flags k (λ u. omega (arith, u, l)) ∙ q.others k l m,
    ))

-- the join that waits after a child, and after a continuation
join_of_rest : (p : ℕ → Strand) (i o n join : ℕ) (b : StrandBlock) → PlanAt p o (w.Continuation n) b → i + 1 ≡ o → o + n ≡ join →
    join_of (p (i + 1)).begins (i + 1) ≡ Some join
join_of_rest p i o n join b h e d =
    let first = ap (λ x. x.begins) (ap p e ∙ plan_first p o (w.Continuation n) b h) in
    let q : (i + 1) + n ≡ join = omega (arith, e, d) in
    ap (λ x. join_of x (i + 1)) first ∙ ap Some q

join_of_after : (p : ℕ → Strand) (i o : ℕ) (b : StrandBlock) → PlanAt p o w.Sync b → i + 1 ≡ o → join_of (p (i + 1)).begins (i + 1) ≡ Some o
join_of_after p i o b h e = let first = ap (λ x. x.begins) (ap p e ∙ plan_first p o w.Sync b h) in ap (λ x. join_of x (i + 1)) first ∙ ap Some e

take_of_child : (p : ℕ → Strand) (s : S) (f : F) (s' : S) (f' : F) (o n i : ℕ) (c r a : StrandBlock) (x y : Going) → Quiet s f o 1 → Shows s f (o + 1 + size c) r y →
    Quiet s f (o + 1 + size c + size r) (size a) → PlanAt p (o + 1 + size c) (w.Continuation (size r)) r → o < i → Releases p s f s' f' i →
    Outcome s f s' f' (o + 1) c x i → Outcome s f s' f' o (Fork n c r a) (Both x y a) i
take_of_child p s f s' f' o n i c r a x y q sy qa pr low rel (on x' m lt sx' below above) =
    on (Both x' y a) (j.of_child y a m) (omega (arith, lt))
    (v.both o n c r a x' y
    (quiet_same s f s' f' o 1 (λ k l h. below k (omega (arith, h))) q)
    sx'
    (shows_same s f s' f' sy (λ k l h. above k (omega (arith, l))))
    (quiet_same s f s' f' (o + 1 + size c + size r) (size a) (λ k l h. above k (omega (arith, l))) qa))
    (λ k l. below k (omega (arith, l))) (λ k l. above k (omega (arith, l)))
take_of_child p s f s' f' o n i c r a x y q sy qa pr low rel (over h e idle unset) =
    let jn = o + 1 + size c + size r in
    let one = some_size a in
    let arrival = at_first p s f s' f' i jn rel (join_of_rest p i (o + 1 + size c) (size r) jn r pr e refl) (qa jn (omega arith) (omega (arith, one))).1 in
    let ended = by_arrival s f s' f' i jn arrival in
    let quiet = idle_both s f i o 1 (size c) (idle_quiet s f i o 1 q) (record { none = idle; unset = unset }) in
    on (Rest (size c) y a) (j.child_ends x y (size c) a h) (omega (arith, e, some_size r))
    (v.rest o n c r a y
    (ended_quiet s f s' f' i jn o (1 + size c) ended quiet (omega arith))
    (shows_same s f s' f' sy (ended_same s f s' f' i jn (o + 1 + size c) (size r) ended (λ k l m. λ u. omega (arith, u, l, e)) (omega arith)))
    (arrived_half s f s' f' i jn (size a) arrival (omega (arith, e)) qa))
    (λ k l. ended_outside s f s' f' i jn k ended (λ u. omega (arith, u, l, low)) (λ u. omega (arith, u, l)))
    (λ k l. ended_outside s f s' f' i jn k ended (λ u. omega (arith, u, l, e)) (λ u. omega (arith, u, l, one)))

take_of_rest : (p : ℕ → Strand) (s : S) (f : F) (s' : S) (f' : F) (o n i : ℕ) (c r a : StrandBlock) (x y : Going) → Quiet s f o 1 → Shows s f (o + 1) c x →
    Quiet s f (o + 1 + size c + size r) (size a) → PlanAt p (o + 1 + size c + size r) w.Sync a → o + 1 + size c ≤ i → Releases p s f s' f' i →
    Outcome s f s' f' (o + 1 + size c) r y i → Outcome s f s' f' o (Fork n c r a) (Both x y a) i
take_of_rest p s f s' f' o n i c r a x y q sx qa pa low rel (on y' m lt sy' below above) =
    on (Both x y' a) (j.of_rest x a m) (omega (arith, lt))
    (v.both o n c r a x y'
    (quiet_same s f s' f' o 1 (λ k l h. below k (omega (arith, h))) q)
    (shows_same s f s' f' sx (λ k l h. below k (omega (arith, h))))
    sy'
    (quiet_same s f s' f' (o + 1 + size c + size r) (size a) (λ k l h. above k (omega (arith, l))) qa))
    (λ k l. below k (omega (arith, l))) (λ k l. above k (omega (arith, l)))
take_of_rest p s f s' f' o n i c r a x y q sx qa pa low rel (over h e idle unset) =
    let jn = o + 1 + size c + size r in
    let one = some_size a in
    let arrival = at_first p s f s' f' i jn rel (join_of_after p i jn a pa e) (qa jn (omega arith) (omega (arith, one))).1 in
    let ended = by_arrival s f s' f' i jn arrival in
    on (Child x (size r) a) (j.rest_ends x y (size r) a h) (omega (arith, e, one))
    (v.child o n c r a x
    (ended_quiet s f s' f' i jn o 1 ended (idle_quiet s f i o 1 q) (omega arith))
    (shows_same s f s' f' sx (ended_same s f s' f' i jn (o + 1) (size c) ended (λ k l m. λ u. omega (arith, u, m, low)) (omega arith)))
    (ended_quiet s f s' f' i jn (o + 1 + size c) (size r) ended (record { none = idle; unset = unset }) (omega arith))
    (arrived_half s f s' f' i jn (size a) arrival (omega (arith, e)) qa))
    (λ k l. ended_outside s f s' f' i jn k ended (λ u. omega (arith, u, l, low)) (λ u. omega (arith, u, l)))
    (λ k l. ended_outside s f s' f' i jn k ended (λ u. omega (arith, u, l, e)) (λ u. omega (arith, u, l, one)))

take_of_last_child : (p : ℕ → Strand) (s : S) (f : F) (s' : S) (f' : F) (o n i : ℕ) (c r a : StrandBlock) (x : Going) → Quiet s f o 1 →
    Quiet s f (o + 1 + size c) (size r) → Half s f (o + 1 + size c + size r) (size a) → PlanAt p (o + 1 + size c) (w.Continuation (size r)) r →
    PlanAt p (o + 1 + size c + size r) w.Sync a → o < i → Releases p s f s' f' i →
    Outcome s f s' f' (o + 1) c x i → Outcome s f s' f' o (Fork n c r a) (Child x (size r) a) i
take_of_last_child p s f s' f' o n i c r a x q qr ha pr pa low rel (on x' m lt sx' below above) =
    on (Child x' (size r) a) (j.of_last_child (size r) a m) (omega (arith, lt))
    (v.child o n c r a x'
    (quiet_same s f s' f' o 1 (λ k l h. below k (omega (arith, h))) q)
    sx'
    (quiet_same s f s' f' (o + 1 + size c) (size r) (λ k l h. above k (omega (arith, l))) qr)
    (half_same s f s' f' (o + 1 + size c + size r) (size a) (some_size a) (λ k l h. above k (omega (arith, l))) ha))
    (λ k l. below k (omega (arith, l))) (λ k l. above k (omega (arith, l)))
take_of_last_child p s f s' f' o n i c r a x q qr ha pr pa low rel (over h e idle unset) =
    let jn = o + 1 + size c + size r in
    let one = some_size a in
    let joining = at_second p s f s' f' i jn rel (join_of_rest p i (o + 1 + size c) (size r) jn r pr e refl) ha.flag in
    let ended = by_joining p s f s' f' i jn joining in
    let quiet = idle_both s f i o (1 + size c) (size r)
    (idle_both s f i o 1 (size c) (idle_quiet s f i o 1 q) (record { none = idle; unset = unset }))
    (idle_at s f i (o + 1 + size c) (o + (1 + size c)) (size r) (size r) (omega arith) refl (idle_quiet s f i (o + 1 + size c) (size r) qr)) in
    let all = idle_at s f i o o ((1 + size c) + size r) (1 + (size c + size r)) refl (omega arith) quiet in
    on (After (1 + (size c + size r)) (start a)) (j.child_joins x (size r) (1 + (size c + size r)) a h) (omega (arith, e, one, some_size r))
    (v.after o n c r a (start a)
    (ended_quiet s f s' f' i jn o (1 + (size c + size r)) ended all (omega arith))
    (joined_start p s f s' f' i jn a joining (omega (arith, e)) pa ha))
    (λ k l. ended_outside s f s' f' i jn k ended (λ u. omega (arith, u, l, low)) (λ u. omega (arith, u, l)))
    (λ k l. ended_outside s f s' f' i jn k ended (λ u. omega (arith, u, l, e)) (λ u. omega (arith, u, l, one)))

take_of_last_rest : (p : ℕ → Strand) (s : S) (f : F) (s' : S) (f' : F) (o n i : ℕ) (c r a : StrandBlock) (y : Going) → Quiet s f o (1 + size c) →
    Half s f (o + 1 + size c + size r) (size a) → PlanAt p (o + 1 + size c + size r) w.Sync a → o + 1 + size c ≤ i → Releases p s f s' f' i →
    Outcome s f s' f' (o + 1 + size c) r y i → Outcome s f s' f' o (Fork n c r a) (Rest (size c) y a) i
take_of_last_rest p s f s' f' o n i c r a y q ha pa low rel (on y' m lt sy' below above) =
    on (Rest (size c) y' a) (j.of_last_rest (size c) a m) (omega (arith, lt))
    (v.rest o n c r a y'
    (quiet_same s f s' f' o (1 + size c) (λ k l h. below k (omega (arith, h))) q)
    sy'
    (half_same s f s' f' (o + 1 + size c + size r) (size a) (some_size a) (λ k l h. above k (omega (arith, l))) ha))
    (λ k l. below k (omega (arith, l))) (λ k l. above k (omega (arith, l)))
take_of_last_rest p s f s' f' o n i c r a y q ha pa low rel (over h e idle unset) =
    let jn = o + 1 + size c + size r in
    let one = some_size a in
    let joining = at_second p s f s' f' i jn rel (join_of_after p i jn a pa e) ha.flag in
    let ended = by_joining p s f s' f' i jn joining in
    let quiet = idle_both s f i o (1 + size c) (size r) (idle_quiet s f i o (1 + size c) q)
    (idle_at s f i (o + 1 + size c) (o + (1 + size c)) (size r) (size r) (omega arith) refl (record { none = idle; unset = unset })) in
    let all = idle_at s f i o o ((1 + size c) + size r) (1 + (size c + size r)) refl (omega arith) quiet in
    on (After (1 + (size c + size r)) (start a)) (j.rest_joins (size c) y (1 + (size c + size r)) a h) (omega (arith, e, one))
    (v.after o n c r a (start a)
    (ended_quiet s f s' f' i jn o (1 + (size c + size r)) ended all (omega arith))
    (joined_start p s f s' f' i jn a joining (omega (arith, e)) pa ha))
    (λ k l. ended_outside s f s' f' i jn k ended (λ u. omega (arith, u, l, low)) (λ u. omega (arith, u, l)))
    (λ k l. ended_outside s f s' f' i jn k ended (λ u. omega (arith, u, l, e)) (λ u. omega (arith, u, l, one)))

take_behind : (s : S) (f : F) (s' : S) (f' : F) (o n i : ℕ) (c r a : StrandBlock) (x : Going) → Quiet s f o (1 + (size c + size r)) →
    Outcome s f s' f' (o + 1 + size c + size r) a x i → Outcome s f s' f' o (Fork n c r a) (After (1 + (size c + size r)) x) i
take_behind s f s' f' o n i c r a x q (on x' m lt sx' below above) =
    on (After (1 + (size c + size r)) x') (j.behind (1 + (size c + size r)) m) (omega (arith, lt))
    (v.after o n c r a x' (quiet_same s f s' f' o (1 + (size c + size r)) (λ k l h. below k (omega (arith, h))) q) sx')
    (λ k l. below k (omega (arith, l))) (λ k l. above k (omega (arith, l)))
take_behind s f s' f' o n i c r a x q (over h e idle unset) =
    over h (omega (arith, e))
    (λ k l m ne. by_less k (o + 1 + size c + size r) (λ u. (q k l (omega (arith, u))).0) (λ u. idle k u (omega (arith, m)) ne))
    (λ k l m. by_less k (o + 1 + size c + size r) (λ u. (q k l (omega (arith, u))).1) (λ u. unset k u (omega (arith, m))))

pub taken : (p : ℕ → Strand) (s : S) (f : F) (s' : S) (f' : F) (i : ℕ) {o : ℕ} (begins : Begins) {b : StrandBlock} {g : Going} → Shows s f o b g → PlanAt p o begins b →
    o ≤ i → i < o + size b → s i ≡ Some 0 → (i + 1 < o + size b → Releases p s f s' f' i) → Outcome s f s' f' o b g i
taken p s f s' f' i begins (v.ready o n k e d) h l m z rel = take_ready s f s' f' o n k i e d (omega (arith, l, m)) z
taken p s f s' f' i begins (v.before o n k c r a e d q) h l m z rel =
    by_less o i (λ u. no_slot (q i (omega (arith, u)) (omega (arith, m))).0 z)
    (λ u. let y : i ≡ o = omega (arith, u, l) in
    let one = some_size c in
    subst (λ t. Outcome s f s' f' o (Fork n c r a) (Before k c r a) t) (sym y)
    (take_before p s f s' f' o n k c r a e d q h.1.0 h.1.1.0 (ap s (sym y) ∙ z) (subst (λ t. Releases p s f s' f' t) y (rel (omega (arith, y, one))))))
taken p s f s' f' i begins (v.both o n c r a x y q sx sy qa) h l m z rel =
    let ra = some_size a in
    let rr = some_size r in
    by_less i (o + 1) (λ u. no_slot (q i l u).0 z)
    (λ u. by_less i (o + 1 + size c)
    (λ t. take_of_child p s f s' f' o n i c r a x y q sy qa h.1.1.0 (omega (arith, u)) (rel (omega (arith, t, rr)))
    (taken p s f s' f' i (w.Child (size c)) sx h.1.0 u t z (λ g. rel (omega (arith, g)))))
    (λ t. by_less i (o + 1 + size c + size r)
    (λ t'. take_of_rest p s f s' f' o n i c r a x y q sx qa h.1.1.1 t (rel (omega (arith, t', ra)))
    (taken p s f s' f' i (w.Continuation (size r)) sy h.1.1.0 t t' z (λ g. rel (omega (arith, g)))))
    (λ t'. no_slot (qa i t' (omega (arith, m))).0 z)))
taken p s f s' f' i begins (v.child o n c r a x q sx qr ha) h l m z rel =
    let ra = some_size a in
    by_less i (o + 1) (λ u. no_slot (q i l u).0 z)
    (λ u. by_less i (o + 1 + size c)
    (λ t. take_of_last_child p s f s' f' o n i c r a x q qr ha h.1.1.0 h.1.1.1 (omega (arith, u)) (rel (omega (arith, t, ra)))
    (taken p s f s' f' i (w.Child (size c)) sx h.1.0 u t z (λ g. rel (omega (arith, g)))))
    (λ t. by_less i (o + 1 + size c + size r)
    (λ t'. no_slot (qr i t t').0 z)
    (λ t'. no_slot (ha.idle i t' (omega (arith, m))) z)))
taken p s f s' f' i begins (v.rest o n c r a y q sy ha) h l m z rel =
    let ra = some_size a in
    by_less i (o + 1 + size c) (λ u. no_slot (q i l (omega (arith, u))).0 z)
    (λ t. by_less i (o + 1 + size c + size r)
    (λ t'. take_of_last_rest p s f s' f' o n i c r a y q ha h.1.1.1 t (rel (omega (arith, t', ra)))
    (taken p s f s' f' i (w.Continuation (size r)) sy h.1.1.0 t t' z (λ g. rel (omega (arith, g)))))
    (λ t'. no_slot (ha.idle i t' (omega (arith, m))) z))
taken p s f s' f' i begins (v.after o n c r a x q sx) h l m z rel =
    by_less i (o + 1 + size c + size r) (λ u. no_slot (q i l (omega (arith, u))).0 z)
    (λ u. take_behind s f s' f' o n i c r a x q (taken p s f s' f' i w.Sync sx h.1.1.1 u (omega (arith, m)) z (λ g. rel (omega (arith, g)))))
