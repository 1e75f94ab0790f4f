-- The state of the board while strands are removed and steps are executed.
use Rattle.std.proofs.Common.{◌≡◌, ◌≢◌, ℕ, zero, suc, ◌+◌, ◌-◌, ◌≤◌, ◌<◌, Bool, true, false, List, [], ◌∷◌, ◌++◌, Option, Some, None, Ok, length}
use Rattle.std.proofs.Common.{length-append, length-set, set, get_or, get_or-set_same, get_or-set_other, arith, refl, ap, sym, ◌∙◌, subst}
use Rattle.std.specs.Prelude.{slice_get, replicate, ◌*◌}
use Rattle.std.proofs.lemmas.List.{ext_get_or, get_or-replicate, length-replicate}
use Rattle.std.proofs.lemmas.Option.{slice_get_within, same_Some}
use Rattle.cw_model.specs.Trees.{Tree, work, span}
use Rattle.cw_model.specs.declared.limits.TheConstants.{MOST_LIMIT}
use Rattle.cw_greedy.specs.Greedy.{greedy_length, if_done, step, steps}
use Rattle.cw_greedy.specs.Bounds.{GreedyIsBounded}
use Rattle.cw_greedy.specs.Blocks.{block_of}
use Rattle.cw_greedy.specs.Recorded.{Recorded}
use Rattle.cw_greedy.specs.declared.code.Code.{Code}
use Rattle.cw_greedy.specs.Records.{IsRecordOf}
use Rattle.cw_greedy.specs.Jumping.{StrandBlock, Last, Fork, size, Going, Ready, Before, Both, Child, Rest, After, start, to_do, run, on_board, IsOver, Released}
use Rattle.cw_greedy.specs.Jumping as j
use Rattle.cw_greedy.specs.Rounds.{IsAfter, RoundsPreserveLength}
use Rattle.cw_greedy.specs.Slots.{Slots, nones, slots, ready_slots, run_slots, EachLeft, RoomFor, ShowsBoard}
use Rattle.cw_greedy_schedule.specs.Boards.{left_at, Advances, stays, runs}
use Rattle.cw_greedy_schedule.specs.declared.plan.Begins.{Begins}
use Rattle.cw_greedy_schedule.specs.declared.plan.Begins.TheVariants as w
use Rattle.cw_greedy_schedule.specs.declared.plan.Strand.{Strand}
use Rattle.cw_greedy_schedule.specs.Planned.{strand, strands_of}
use Rattle.cw_greedy_schedule.specs.BoardState.{Shows, PlanAt, join_of, Releases}
use Rattle.cw_greedy_schedule.specs.BoardState as v
use Rattle.cw_greedy_schedule.specs.State.{strand_at, flag_at, Reaches, Puts, waiting, RepresentsBlock, Takes, Counts, Begun, IsWithin}
use Rattle.cw_greedy_schedule.specs.State as s
use Rattle.cw_greedy_schedule.proofs.Plans.{length-strands}
use Rattle.cw_greedy_schedule.proofs.Releasing.{Outcome, over, on, by_less, by_same, some_size, shows_start, taken, plan_first}
use Rattle.cw_greedy_schedule.proofs.Slots.{length-nones}

-- a function represents a list, from an index on
abbrev Fits : {A : Type 0} → (ℕ → A) → ℕ → List A → Type 0
Fits f o [] = Unit {0}
Fits f o (x ∷ xs) = (f o ≡ x) × Fits f (o + 1) xs

fits_at : {A : Type 0} (f : ℕ → A) (o o' : ℕ) (xs : List A) → o ≡ o' → Fits f o xs → Fits f o' xs
fits_at f o o' xs e h = subst (λ n. Fits f n xs) e h

fits_first : {A : Type 0} (f : ℕ → A) (o : ℕ) (xs ys : List A) → Fits f o (xs ++ ys) → Fits f o xs
fits_first f o [] ys h = tt
fits_first f o (x ∷ xs) ys h = (h.0, fits_first f (o + 1) xs ys h.1)

fits_second : {A : Type 0} (f : ℕ → A) (o o' : ℕ) (xs ys : List A) → o + length xs ≡ o' → Fits f o (xs ++ ys) → Fits f o' ys
fits_second f o o' [] ys e h = let d : o ≡ o' = omega (arith, e) in fits_at f o o' ys d h
fits_second f o o' (x ∷ xs) ys e h = fits_second f (o + 1) o' xs ys (omega (arith, e)) h.1

fits_both : {A : Type 0} (f : ℕ → A) (o : ℕ) (xs ys : List A) → Fits f o xs → Fits f (o + length xs) ys → Fits f o (xs ++ ys)
fits_both f o [] ys h g = let d : o + 0 ≡ o = omega arith in fits_at f (o + 0) o ys d g
fits_both f o (x ∷ xs) ys h g =
    let d : o + length (x ∷ xs) ≡ o + 1 + length xs = omega arith in
    (h.0, fits_both f (o + 1) xs ys h.1 (fits_at f (o + length (x ∷ xs)) (o + 1 + length xs) ys d g))

fits_get : {A : Type 0} (f : ℕ → A) (o : ℕ) (xs : List A) (k : ℕ) (d : A) → Fits f o xs → k < length xs → f (o + k) ≡ get_or xs k d
fits_get f o [] k d h l = absurd (omega (arith, l))
fits_get f o (x ∷ xs) zero d h l = let e : o + 0 ≡ o = omega arith in ap f e ∙ h.0
fits_get f o (x ∷ xs) (suc k) d h l =
    let e : o + suc k ≡ o + 1 + k = omega arith in
    ap f e ∙ fits_get f (o + 1) xs k d h.1 (omega (arith, l))

fits_of : {A : Type 0} (f : ℕ → A) (o : ℕ) (xs : List A) (d : A) → ((k : ℕ) → k < length xs → f (o + k) ≡ get_or xs k d) → Fits f o xs
fits_of f o [] d h = tt
fits_of f o (x ∷ xs) d h =
    let e : o ≡ o + 0 = omega arith in (
      ap f e ∙ h 0 (omega arith),
      fits_of f (o + 1) xs d (λ k l.
          let n : o + 1 + k ≡ o + suc k = omega arith in ap f n ∙ h (suc k) (omega (arith, l))),
    )

fits_self : {A : Type 0} (xs : List A) (d : A) → Fits (λ k. get_or xs k d) 0 xs
fits_self xs d = fits_of (λ k. get_or xs k d) 0 xs d (λ k l. let e : 0 + k ≡ k = omega arith in ap (λ n. get_or xs n d) e)

fits_nones : (f : ℕ → Option ℕ) (o n : ℕ) → ((k : ℕ) → o ≤ k → k < o + n → f k ≡ None) → Fits f o (nones n)
fits_nones f o zero h = tt
fits_nones f o (suc n) h = (h o (omega arith) (omega arith), fits_nones f (o + 1) n (λ k l m. h k (omega (arith, l)) (omega (arith, m))))

nones_fit : (f : ℕ → Option ℕ) (o n : ℕ) → Fits f o (nones n) → (k : ℕ) → o ≤ k → k < o + n → f k ≡ None
nones_fit f o zero h k l m = absurd (omega (arith, l, m))
nones_fit f o (suc n) h k l m =
    by_same k o (λ e. ap f e ∙ h.0) (λ e. nones_fit f (o + 1) n h.1 k (by_less o k (λ g. omega (arith, g)) (λ g. absurd (e (omega (arith, g, l))))) (omega (arith, m)))

-- the length of the list of a state, also after steps
run_size : (l : ℕ → Option ℕ) (f : ℕ → Bool) {o : ℕ} {b : StrandBlock} {g : Going} (p n : ℕ) → Shows l f o b g → length (slots (run p n g)) ≡ size b
run_size l f p n (v.ready o i k e d) = refl
run_size l f p n (v.before o i k c r a e d q) = omega (arith, length-nones (size c + (size r + size a)))
run_size l f p n (v.both o i c r a x y q sx sy qa) =
    let x' = slots (run p n x) in
    let y' = slots (run (p - on_board x) n y) in
    omega (
      arith,
      length-append x' (y' ++ nones (size a)),
      length-append y' (nones (size a)),
      length-nones (size a),
      run_size l f p n sx,
      run_size l f (p - on_board x) n sy,
    )
run_size l f p n (v.child o i c r a x q sx qr ha) =
    omega (arith, length-append (slots (run p n x)) (nones (size r + size a)), length-nones (size r + size a), run_size l f p n sx)
run_size l f p n (v.rest o i c r a y q sy ha) =
    let y' = slots (run p n y) in
    omega (
      arith,
      length-append (nones (size c)) (y' ++ nones (size a)),
      length-append y' (nones (size a)),
      length-nones (size a),
      length-nones (size c),
      run_size l f p n sy,
    )
run_size l f p n (v.after o i c r a x q sx) =
    omega (arith, length-append (nones (1 + (size c + size r))) (slots (run p n x)), length-nones (1 + (size c + size r)), run_size l f p n sx)

shown_size : (l : ℕ → Option ℕ) (f : ℕ → Bool) {o : ℕ} {b : StrandBlock} {g : Going} → Shows l f o b g → length (slots g) ≡ size b
shown_size l f (v.ready o i k e d) = refl
shown_size l f (v.before o i k c r a e d q) = omega (arith, length-nones (size c + (size r + size a)))
shown_size l f (v.both o i c r a x y q sx sy qa) =
    omega (arith, length-append (slots x) (slots y ++ nones (size a)), length-append (slots y) (nones (size a)), length-nones (size a), shown_size l f sx, shown_size l f sy)
shown_size l f (v.child o i c r a x q sx qr ha) =
    omega (arith, length-append (slots x) (nones (size r + size a)), length-nones (size r + size a), shown_size l f sx)
shown_size l f (v.rest o i c r a y q sy ha) =
    omega (
      arith,
      length-append (nones (size c)) (slots y ++ nones (size a)),
      length-append (slots y) (nones (size a)),
      length-nones (size a),
      length-nones (size c),
      shown_size l f sy,
    )
shown_size l f (v.after o i c r a x q sx) =
    omega (arith, length-append (nones (1 + (size c + size r))) (slots x), length-nones (1 + (size c + size r)), shown_size l f sx)

-- the board represents the list of the state
shown_fits : (l : ℕ → Option ℕ) (f : ℕ → Bool) {o : ℕ} {b : StrandBlock} {g : Going} → Shows l f o b g → Fits l o (slots g)
shown_fits l f (v.ready o i k e d) = (e, tt)
shown_fits l f (v.before o i k c r a e d q) = (e, fits_nones l (o + 1) (size c + (size r + size a)) (λ m h g. (q m h g).0))
shown_fits l f (v.both o i c r a x y q sx sy qa) =
    let n = shown_size l f sx in
    let m = shown_size l f sy in
    let at : o + 1 + size c ≡ o + 1 + length (slots x) = omega (arith, n) in
    let at' : o + 1 + size c + size r ≡ o + 1 + size c + length (slots y) = omega (arith, m) in (
      (q o (omega arith) (omega arith)).0,
      fits_both l (o + 1) (slots x) (slots y ++ nones (size a)) (shown_fits l f sx)
          (fits_at l (o + 1 + size c) (o + 1 + length (slots x)) (slots y ++ nones (size a)) at
          (fits_both l (o + 1 + size c) (slots y) (nones (size a)) (shown_fits l f sy)
          (fits_at l (o + 1 + size c + size r) (o + 1 + size c + length (slots y)) (nones (size a)) at'
          (fits_nones l (o + 1 + size c + size r) (size a) (λ k h g. (qa k h g).0))))),
    )
shown_fits l f (v.child o i c r a x q sx qr ha) =
    let n = shown_size l f sx in
    let at : o + 1 + size c ≡ o + 1 + length (slots x) = omega (arith, n) in (
      (q o (omega arith) (omega arith)).0,
      fits_both l (o + 1) (slots x) (nones (size r + size a)) (shown_fits l f sx)
          (fits_at l (o + 1 + size c) (o + 1 + length (slots x)) (nones (size r + size a)) at
          (fits_nones l (o + 1 + size c) (size r + size a) (λ k h g.
          by_less k (o + 1 + size c + size r) (λ t. (qr k h t).0) (λ t. ha.idle k t (omega (arith, g)))))),
    )
shown_fits l f (v.rest o i c r a y q sy ha) =
    let n = shown_size l f sy in
    let at : o + 1 + size c ≡ o + 1 + length (nones (size c)) = omega (arith, length-nones (size c)) in
    let at' : o + 1 + size c + size r ≡ o + 1 + size c + length (slots y) = omega (arith, n) in (
      (q o (omega arith) (omega arith)).0,
      fits_both l (o + 1) (nones (size c)) (slots y ++ nones (size a)) (fits_nones l (o + 1) (size c) (λ k h g. (q k (omega (arith, h)) (omega (arith, g))).0))
          (fits_at l (o + 1 + size c) (o + 1 + length (nones (size c))) (slots y ++ nones (size a)) at
          (fits_both l (o + 1 + size c) (slots y) (nones (size a)) (shown_fits l f sy)
          (fits_at l (o + 1 + size c + size r) (o + 1 + size c + length (slots y)) (nones (size a)) at'
          (fits_nones l (o + 1 + size c + size r) (size a) ha.idle)))),
    )
shown_fits l f (v.after o i c r a x q sx) =
    let t = 1 + (size c + size r) in
    let at : o + 1 + size c + size r ≡ o + length (nones t) = omega (arith, length-nones t) in
    fits_both l o (nones t) (slots x) (fits_nones l o t (λ k h g. (q k h g).0)) (fits_at l (o + 1 + size c + size r) (o + length (nones t)) (slots x) at (shown_fits l f sx))

-- after steps the board represents the state that its list represents
ran : (l l' : ℕ → Option ℕ) (f : ℕ → Bool) {o : ℕ} {b : StrandBlock} {g : Going} (p n : ℕ) → Shows l f o b g → Fits l' o (slots (run p n g)) → Shows l' f o b (run p n g)
ran l l' f p n (v.ready o i k e d) h = v.ready o i _ h.0 d
ran l l' f p n (v.before o i k c r a e d q) h =
    v.before o i _ c r a h.0 d (λ m u t. (nones_fit l' (o + 1) (size c + (size r + size a)) h.1 m u t, (q m u t).1))
ran l l' f p n (v.both o i c r a x y q sx sy qa) h =
    let x' = slots (run p n x) in
    let y' = slots (run (p - on_board x) n y) in
    let later = fits_second l' (o + 1) (o + 1 + size c) x' (y' ++ nones (size a)) (omega (arith, run_size l f p n sx)) h.1 in
    let last = fits_second l' (o + 1 + size c) (o + 1 + size c + size r) y' (nones (size a)) (omega (arith, run_size l f (p - on_board x) n sy)) later in
    v.both o i c r a (run p n x) (run (p - on_board x) n y)
    (λ m u t. (let e : m ≡ o = omega (arith, u, t) in ap l' e ∙ h.0, (q m u t).1))
    (ran l l' f p n sx (fits_first l' (o + 1) x' (y' ++ nones (size a)) h.1))
    (ran l l' f (p - on_board x) n sy (fits_first l' (o + 1 + size c) y' (nones (size a)) later))
    (λ m u t. (nones_fit l' (o + 1 + size c + size r) (size a) last m u t, (qa m u t).1))
ran l l' f p n (v.child o i c r a x q sx qr ha) h =
    let x' = slots (run p n x) in
    let later = fits_second l' (o + 1) (o + 1 + size c) x' (nones (size r + size a)) (omega (arith, run_size l f p n sx)) h.1 in
    v.child o i c r a (run p n x)
    (λ m u t. (let e : m ≡ o = omega (arith, u, t) in ap l' e ∙ h.0, (q m u t).1))
    (ran l l' f p n sx (fits_first l' (o + 1) x' (nones (size r + size a)) h.1))
    (λ m u t. (nones_fit l' (o + 1 + size c) (size r + size a) later m u (omega (arith, t)), (qr m u t).1))
    (record { flag = ha.flag; idle = λ m u t. nones_fit l' (o + 1 + size c) (size r + size a) later m (omega (arith, u)) (omega (arith, t)); others = ha.others })
ran l l' f p n (v.rest o i c r a y q sy ha) h =
    let y' = slots (run p n y) in
    let first = fits_first l' (o + 1) (nones (size c)) (y' ++ nones (size a)) h.1 in
    let later = fits_second l' (o + 1) (o + 1 + size c) (nones (size c)) (y' ++ nones (size a)) (omega (arith, length-nones (size c))) h.1 in
    let last = fits_second l' (o + 1 + size c) (o + 1 + size c + size r) y' (nones (size a)) (omega (arith, run_size l f p n sy)) later in
    v.rest o i c r a (run p n y)
    (λ m u t. (
      by_same m o (λ e. ap l' e ∙ h.0)
          (λ e. nones_fit l' (o + 1) (size c) first m (by_less o m (λ g. omega (arith, g)) (λ g. absurd (e (omega (arith, g, u))))) (omega (arith, t))),
      (q m u t).1,
    ))
    (ran l l' f p n sy (fits_first l' (o + 1 + size c) y' (nones (size a)) later))
    (record { flag = ha.flag; idle = λ m u t. nones_fit l' (o + 1 + size c + size r) (size a) last m u t; others = ha.others })
ran l l' f p n (v.after o i c r a x q sx) h =
    let t = 1 + (size c + size r) in
    let later = fits_second l' o (o + 1 + size c + size r) (nones t) (slots (run p n x)) (omega (arith, length-nones t)) h in
    v.after o i c r a (run p n x)
    (λ m u g. (nones_fit l' o t (fits_first l' o (nones t) (slots (run p n x)) h) m u g, (q m u g).1))
    (ran l l' f p n sx later)

-- the board's slots are the list of the state
stands_list : (block : StrandBlock) (g : Going) (strands : List Strand) (flags : List Bool) (xs : Slots) → RepresentsBlock block g strands flags xs → xs ≡ slots g
stands_list block g strands flags xs h =
    let n = shown_size (left_at xs) (flag_at flags) h.shows in
    let f = shown_fits (left_at xs) (flag_at flags) h.shows in
    ext_get_or None xs (slots g) (omega (arith, h.places, n)) (λ k l.
    let e : k ≡ 0 + k = omega arith in
    ap (left_at xs) e ∙ fits_get (left_at xs) 0 (slots g) k None f (omega (arith, l, h.places, n)))

-- several steps at once
pub stands_run : (block : StrandBlock) (g : Going) (strands : List Strand) (flags : List Bool) (xs xs' : Slots) (p n : ℕ) → ((g : Going) → ShowsBoard g) →
    RepresentsBlock block g strands flags xs → xs' ≡ run_slots p n xs → RepresentsBlock block (run p n g) strands flags xs'
stands_run block g strands flags xs xs' p n shows h e =
    let list : xs' ≡ slots (run p n g) = e ∙ ap (run_slots p n) (stands_list block g strands flags xs h) ∙ (shows g).runs p n in
    let size' = run_size (left_at xs) (flag_at flags) p n h.shows in
    record {
      planned = h.planned;
      flags_are = h.flags_are;
      places = ap length list ∙ size';
      shows = ran (left_at xs) (left_at xs') (flag_at flags) p n h.shows
          (subst (λ ys. Fits (left_at ys) 0 (slots (run p n g))) (sym list) (fits_self (slots (run p n g)) None));
    }

-- a function represents the strands of a block as they are planned
plan_fits : (f : ℕ → Strand) (o : ℕ) (begins : Begins) (b : StrandBlock) → Fits f o (strands_of begins b) → PlanAt f o begins b
plan_fits f o begins (Last k) h = h.0
plan_fits f o begins (Fork k c r a) h =
    let sc = strands_of (w.Child (size c)) c in
    let sr = strands_of (w.Continuation (size r)) r in
    let sa = strands_of w.Sync a in
    let nc = length-strands (w.Child (size c)) c in
    let nr = length-strands (w.Continuation (size r)) r in
    let later = fits_second f (o + 1) (o + 1 + size c) sc (sr ++ sa) (omega (arith, nc)) h.1 in
    let last = fits_second f (o + 1 + size c) (o + 1 + size c + size r) sr sa (omega (arith, nr)) later in (
      h.0,
      (
        plan_fits f (o + 1) (w.Child (size c)) c (fits_first f (o + 1) sc (sr ++ sa) h.1),
        (
          plan_fits f (o + 1 + size c) (w.Continuation (size r)) r (fits_first f (o + 1 + size c) sr sa later),
          plan_fits f (o + 1 + size c + size r) w.Sync a last,
        ),
      ),
    )

plan_of : (block : StrandBlock) (strands : List Strand) → strands ≡ strands_of w.Start block → PlanAt (strand_at strands) 0 w.Start block
plan_of block strands e =
    subst (λ xs. PlanAt (strand_at xs) 0 w.Start block) (sym e)
    (plan_fits (strand_at (strands_of w.Start block)) 0 w.Start block (fits_self (strands_of w.Start block) (strand 0 w.Start)))

reaches_at : (f : ℕ → Strand) (o count k : ℕ) (begins : Begins) (b : StrandBlock) → PlanAt f o begins b → k ≡ o → Reaches begins o count → Reaches (f k).begins k count
reaches_at f o count k begins b h e r =
    let d = ap (λ (x : Strand). x.begins) (plan_first f o begins b h) in
    subst (λ n. Reaches (f n).begins n count) (sym e) (subst (λ x. Reaches x o count) (sym d) r)

reaches : (f : ℕ → Strand) (o count : ℕ) (begins : Begins) (b : StrandBlock) → PlanAt f o begins b → o + size b ≤ count → (k : ℕ) → o < k → k < o + size b → Reaches (f k).begins k count
reaches f o count begins (Last n) h l k u t = absurd (omega (arith, u, t))
reaches f o count begins (Fork n c r a) h l k u t =
    let rc = some_size c in
    let rr = some_size r in
    let ra = some_size a in
    by_less k (o + 1 + size c)
    (λ t1. by_same k (o + 1)
    (λ e. reaches_at f (o + 1) count k (w.Child (size c)) c h.1.0 e (omega (arith, l, rr, ra)))
    (λ e. reaches f (o + 1) count (w.Child (size c)) c h.1.0 (omega (arith, l)) k (by_less (o + 1) k (λ g. g) (λ g. absurd (e (omega (arith, g, u))))) t1))
    (λ u1. by_less k (o + 1 + size c + size r)
    (λ t2. by_same k (o + 1 + size c)
    (λ e. reaches_at f (o + 1 + size c) count k (w.Continuation (size r)) r h.1.1.0 e (omega (arith, l, ra)))
    (λ e. reaches f (o + 1 + size c) count (w.Continuation (size r)) r h.1.1.0 (omega (arith, l)) k
    (by_less (o + 1 + size c) k (λ g. g) (λ g. absurd (e (omega (arith, g, u1))))) t2))
    (λ u2. by_same k (o + 1 + size c + size r)
    (λ e. reaches_at f (o + 1 + size c + size r) count k w.Sync a h.1.1.1 e (omega (arith, l, ra)))
    (λ e. reaches f (o + 1 + size c + size r) count w.Sync a h.1.1.1 (omega (arith, l)) k
    (by_less (o + 1 + size c + size r) k (λ g. g) (λ g. absurd (e (omega (arith, g, u2))))) (omega (arith, t)))))

length_planned : (block : StrandBlock) (strands : List Strand) → strands ≡ strands_of w.Start block → length strands ≡ size block
length_planned block strands e = ap length e ∙ length-strands w.Start block

pub stands_reaches : (block : StrandBlock) (g : Going) (strands : List Strand) (flags : List Bool) (xs : Slots) (next : ℕ) → RepresentsBlock block g strands flags xs →
    1 ≤ next → next < length strands → Reaches (strand_at strands next).begins next (length strands)
stands_reaches block g strands flags xs next h low high =
    let n = length_planned block strands h.planned in
    reaches (strand_at strands) 0 (length strands) w.Start block (plan_of block strands h.planned) (omega (arith, n)) next (omega (arith, low)) (omega (arith, high, n))

pub stands_lengths : (block : StrandBlock) (g : Going) (strands : List Strand) (flags : List Bool) (xs : Slots) → RepresentsBlock block g strands flags xs →
    (length strands ≡ size block) × ((length flags ≡ length strands) × (length xs ≡ length strands))
stands_lengths block g strands flags xs h =
    let n = length_planned block strands h.planned in (n, (omega (arith, n, h.flags_are), omega (arith, n, h.places)))

-- the strands that are added become ready
left_set : (xs : Slots) (i k : ℕ) (a : Option ℕ) → k ≢ i → left_at (set xs i a) k ≡ left_at xs k
left_set xs i k a ne = get_or-set_other xs i k a None ne

-- a join that waits is after the strand, and exists
join_in : (b : Begins) (next join count : ℕ) → Reaches b next count → join_of b next ≡ Some join → join < count
join_in w.Start next join count r e = absurd r
join_in (w.Child later) next join count r e = cc
join_in (w.Continuation later) next join count r e = let d : next + later ≡ join = same_Some (next + later) join e in omega (arith, d, r)
join_in w.Sync next join count r e = let d : next ≡ join = same_Some next join e in omega (arith, d, r)

join_from : (b : Begins) (next join : ℕ) → join_of b next ≡ Some join → next ≤ join
join_from w.Start next join e = cc
join_from (w.Child later) next join e = cc
join_from (w.Continuation later) next join e = let d : next + later ≡ join = same_Some (next + later) join e in omega (arith, d)
join_from w.Sync next join e = let d : next ≡ join = same_Some next join e in omega (arith, d)

join_within : (strands : List Strand) (next join count : ℕ) → Reaches (strand_at strands next).begins next count →
    join_of (strand_at strands next).begins next ≡ Some join → join < count
join_within strands next join count r e = join_in (strand_at strands next).begins next join count r e

join_behind : (strands : List Strand) (next join : ℕ) → join_of (strand_at strands next).begins next ≡ Some join → next ≤ join
join_behind strands next join e = join_from (strand_at strands next).begins next join e

release_of : (strands : List Strand) (i : ℕ) (flags flags' : List Bool) (xs ys ys' : Slots) → ys ≡ set xs i None → i < length xs → i + 1 < length xs →
    length flags ≡ length xs → Reaches (strand_at strands (i + 1)).begins (i + 1) (length xs) → Puts strands (i + 1) flags ys flags' ys' →
    Releases (strand_at strands) (left_at xs) (flag_at flags) (left_at ys') (flag_at flags') i
release_of strands i flags flags' xs ys ys' e l m n r (s.forks later b d q) =
    let p = strand_at strands in
    let a1 = Some (p (i + 1)).weight in
    let a2 = Some (p (i + 1 + later)).weight in
    let all : ys' ≡ set (set (set xs i None) (i + 1) a1) (i + 1 + later) a2 = d ∙ ap (λ zs. set (set zs (i + 1) a1) (i + 1 + later) a2) e in
    let far : i + 1 + later < length xs = subst (λ x. Reaches x (i + 1) (length xs)) b r in
    let n1 = length-set xs i None in
    let n2 = length-set (set xs i None) (i + 1) a1 in
    let at = λ (k : ℕ). ap (λ zs. left_at zs k) all in
    let near : i ≢ i + 1 = λ u. omega (arith, u) in
    let near2 : i ≢ i + 1 + later = λ u. omega (arith, u) in
    v.forks later b (record {
      gone = at i ∙ left_set (set (set xs i None) (i + 1) a1) (i + 1 + later) i a2 near2 ∙ left_set (set xs i None) (i + 1) i a1 near ∙ get_or-set_same xs i None None l;
      child = by_same (i + 1) (i + 1 + later)
          (λ u. ap (left_at ys') u ∙ at (i + 1 + later) ∙ get_or-set_same (set (set xs i None) (i + 1) a1) (i + 1 + later) a2 None (omega (arith, far, n1, n2))
          ∙ ap (λ k. Some (p k).weight) (sym u))
          (λ u. at (i + 1) ∙ left_set (set (set xs i None) (i + 1) a1) (i + 1 + later) (i + 1) a2 u ∙ get_or-set_same (set xs i None) (i + 1) a1 None (omega (arith, m, n1)));
      rest = at (i + 1 + later) ∙ get_or-set_same (set (set xs i None) (i + 1) a1) (i + 1 + later) a2 None (omega (arith, far, n1, n2));
      others = λ k u1 u2 u3. at k ∙ left_set (set (set xs i None) (i + 1) a1) (i + 1 + later) k a2 u3 ∙ left_set (set xs i None) (i + 1) k a1 u2 ∙ left_set xs i k None u1;
      flags = λ k. ap (λ fs. flag_at fs k) q;
    })
release_of strands i flags flags' xs ys ys' e l m n r (s.arrives join b h d q) =
    let far = join_within strands (i + 1) join (length xs) r b in
    v.arrives join b (record {
      first = h;
      gone = ap (λ zs. left_at zs i) (d ∙ e) ∙ get_or-set_same xs i None None l;
      others = λ k u. ap (λ zs. left_at zs k) (d ∙ e) ∙ left_set xs i k None u;
      flag = ap (λ fs. flag_at fs join) q ∙ get_or-set_same flags join true false (omega (arith, far, n));
      flags = λ k u. ap (λ fs. flag_at fs k) q ∙ get_or-set_other flags join k true false u;
    })
release_of strands i flags flags' xs ys ys' e l m n r (s.joins join b h d q) =
    let far = join_within strands (i + 1) join (length xs) r b in
    let low = join_behind strands (i + 1) join b in
    let a = Some (strand_at strands join).weight in
    let all : ys' ≡ set (set xs i None) join a = d ∙ ap (λ zs. set zs join a) e in
    v.joins join b (record {
      second = h;
      gone = ap (λ zs. left_at zs i) all ∙ left_set (set xs i None) join i a (λ u. omega (arith, u, low)) ∙ get_or-set_same xs i None None l;
      joined = ap (λ zs. left_at zs join) all ∙ get_or-set_same (set xs i None) join a None (omega (arith, far, length-set xs i None));
      others = λ k u1 u2. ap (λ zs. left_at zs k) all ∙ left_set (set xs i None) join k a u2 ∙ left_set xs i k None u1;
      flag = ap (λ fs. flag_at fs join) q ∙ get_or-set_same flags join false false (omega (arith, far, n));
      flags = λ k u. ap (λ fs. flag_at fs k) q ∙ get_or-set_other flags join k false false u;
    })

some_waits : (g : Going) → 1 ≤ waiting g
some_waits (Ready k) = omega arith
some_waits (Before k child rest after) = omega arith
some_waits (Both child rest after) = omega (arith, some_waits child)
some_waits (Child child ended after) = omega (arith, some_waits child)
some_waits (Rest ended rest after) = omega (arith, some_waits rest)
some_waits (After ended g) = some_waits g

start_waits : (b : StrandBlock) → waiting (start b) ≡ size b
start_waits (Last k) = refl
start_waits (Fork k child rest after) = omega arith

over_waits : (g : Going) → IsOver g → waiting g ≡ 1
over_waits (Ready k) h = refl
over_waits (Before k child rest after) h = absurd h
over_waits (Both child rest after) h = absurd h
over_waits (Child child ended after) h = absurd h
over_waits (Rest ended rest after) h = absurd h
over_waits (After ended g) h = over_waits g h

-- each strand that is removed decreases the number of waiting strands by one
one_waits_less : {g g' : Going} → Released g g' → waiting g' + 1 ≡ waiting g
one_waits_less (j.forks child rest after) = omega (arith, start_waits child, start_waits rest)
one_waits_less (j.of_child rest after r) = omega (arith, one_waits_less r)
one_waits_less (j.of_rest child after r) = omega (arith, one_waits_less r)
one_waits_less (j.child_ends child rest ended after h) = omega (arith, over_waits child h)
one_waits_less (j.rest_ends child rest ended after h) = omega (arith, over_waits rest h)
one_waits_less (j.of_last_child ended after r) = omega (arith, one_waits_less r)
one_waits_less (j.of_last_rest ended after r) = omega (arith, one_waits_less r)
one_waits_less (j.child_joins child ended n after h) = omega (arith, over_waits child h, start_waits after)
one_waits_less (j.rest_joins ended rest n after h) = omega (arith, over_waits rest h, start_waits after)
one_waits_less (j.behind ended r) = one_waits_less r

run_waits : (p n : ℕ) (g : Going) → waiting (run p n g) ≡ waiting g
run_waits p n (Ready k) = refl
run_waits p n (Before k child rest after) = refl
run_waits p n (Both child rest after) = omega (arith, run_waits p n child, run_waits (p - on_board child) n rest)
run_waits p n (Child child ended after) = omega (arith, run_waits p n child)
run_waits p n (Rest ended rest after) = omega (arith, run_waits p n rest)
run_waits p n (After ended g) = run_waits p n g

some_on_board : (g : Going) → 1 ≤ on_board g
some_on_board (Ready k) = omega arith
some_on_board (Before k child rest after) = omega arith
some_on_board (Both child rest after) = omega (arith, some_on_board child)
some_on_board (Child child ended after) = some_on_board child
some_on_board (Rest ended rest after) = some_on_board rest
some_on_board (After ended g) = some_on_board g

-- removal of a strand that has no instruction left
length_puts : (strands : List Strand) (next : ℕ) (flags flags' : List Bool) (ys ys' : Slots) → Puts strands next flags ys flags' ys' →
    (length ys' ≡ length ys) × (length flags' ≡ length flags)
length_puts strands next flags flags' ys ys' (s.forks later b d q) =
    let a1 = Some (strand_at strands next).weight in
    let a2 = Some (strand_at strands (next + later)).weight in
    (ap length d ∙ length-set (set ys next a1) (next + later) a2 ∙ length-set ys next a1, ap length q)
length_puts strands next flags flags' ys ys' (s.arrives join b h d q) = (ap length d, ap length q ∙ length-set flags join true)
length_puts strands next flags flags' ys ys' (s.joins join b h d q) =
    (ap length d ∙ length-set ys join (Some (strand_at strands join).weight), ap length q ∙ length-set flags join false)

done_at : (xs : Slots) (i : ℕ) → slice_get xs i ≡ Some (Some 0) → left_at xs i ≡ Some 0
done_at [] i e = cc
done_at (x ∷ xs) zero e = same_Some x (Some 0) e
done_at (x ∷ xs) (suc i) e = done_at xs i e

after_taking : (block : StrandBlock) (g : Going) (strands : List Strand) (flags flags' : List Bool) (xs ys' : Slots) (i : ℕ) → RepresentsBlock block g strands flags xs →
    length ys' ≡ length xs → length flags' ≡ length flags →
    Outcome (left_at xs) (flag_at flags) (left_at ys') (flag_at flags') 0 block g i → Takes block g strands flags' ys'
after_taking block g strands flags flags' xs ys' i h n m (over o e idle unset) = s.over o
after_taking block g strands flags flags' xs ys' i h n m (on g' r lt sx below above) =
    s.on g' r (record { planned = h.planned; flags_are = m ∙ h.flags_are; places = n ∙ h.places; shows = sx })

pub takes_on : (block : StrandBlock) (g : Going) (strands : List Strand) (flags flags' : List Bool) (xs ys ys' : Slots) (i : ℕ) → RepresentsBlock block g strands flags xs →
    slice_get xs i ≡ Some (Some 0) → ys ≡ set xs i None → i + 1 < length strands → Puts strands (i + 1) flags ys flags' ys' → Takes block g strands flags' ys'
takes_on block g strands flags flags' xs ys ys' i h z e l put =
    let n = stands_lengths block g strands flags xs h in
    let within = slice_get_within xs i (Some 0) z in
    let m = length_puts strands (i + 1) flags flags' ys ys' put in
    let far = stands_reaches block g strands flags xs (i + 1) h (omega arith) l in
    let same : length strands ≡ length xs = omega (arith, n.1.1) in
    let reach = subst (λ c. Reaches (strand_at strands (i + 1)).begins (i + 1) c) same far in
    let rel = release_of strands i flags flags' xs ys ys' e within (omega (arith, l, same)) (omega (arith, n.1.0, same)) reach put in
    after_taking block g strands flags flags' xs ys' i h (m.0 ∙ ap length e ∙ length-set xs i None) m.1
    (taken (strand_at strands) (left_at xs) (flag_at flags) (left_at ys') (flag_at flags') i w.Start h.shows (plan_of block strands h.planned) (omega arith)
    (omega (arith, within, h.places)) (done_at xs i z) (λ u. rel))

-- removal of the last strand
last_outcome : (block : StrandBlock) (g : Going) (strands : List Strand) (flags flags' : List Bool) (xs ys' : Slots) (i : ℕ) → size block ≤ i + 1 →
    Outcome (left_at xs) (flag_at flags) (left_at ys') (flag_at flags') 0 block g i → Takes block g strands flags' ys'
last_outcome block g strands flags flags' xs ys' i l (over o e idle unset) = s.over o
last_outcome block g strands flags flags' xs ys' i l (on g' r lt sx below above) = absurd (omega (arith, l, lt))

pub takes_last : (block : StrandBlock) (g : Going) (strands : List Strand) (flags : List Bool) (xs ys : Slots) (i : ℕ) → RepresentsBlock block g strands flags xs →
    slice_get xs i ≡ Some (Some 0) → length strands ≤ i + 1 → Takes block g strands flags ys
takes_last block g strands flags xs ys i h z l =
    let n = stands_lengths block g strands flags xs h in
    let within = slice_get_within xs i (Some 0) z in
    last_outcome block g strands flags flags xs ys i (omega (arith, l, n.0))
    (taken (strand_at strands) (left_at xs) (flag_at flags) (left_at ys) (flag_at flags) i w.Start h.shows (plan_of block strands h.planned) (omega arith)
    (omega (arith, within, h.places)) (done_at xs i z) (λ u. absurd (omega (arith, u, l, n.0))))

-- a strand is ready
pub some_ready : (block : StrandBlock) (g : Going) (strands : List Strand) (flags : List Bool) (xs : Slots) → ((g : Going) → ShowsBoard g) →
    RepresentsBlock block g strands flags xs → 1 ≤ ready_slots xs
some_ready block g strands flags xs shows h =
    let e = ap ready_slots (stands_list block g strands flags xs h) in
    omega (arith, e, (shows g).counts, some_on_board g)

-- the state of the loop
pub data Advanced (p : ℕ) (block : StrandBlock) (taken steps : ℕ) (strands : List Strand) (flags : List Bool) (xs : Slots) : Type 0 where
  advanced : (g : Going) → RepresentsBlock block g strands flags xs → waiting g + taken ≡ size block → IsAfter p steps (start block) g
      → Advanced p block taken steps strands flags xs

pub begins_counting : (p : ℕ) (block : StrandBlock) (strands : List Strand) (flags : List Bool) (xs : Slots) → Begun p block strands flags xs → Counts p block 0 0 strands flags xs
begins_counting p block strands flags xs h =
    s.going (start block) h.stands (omega (arith, start_waits block)) (omega arith)

-- a state that is not the end
pub still_going : (p : ℕ) (block : StrandBlock) (taken steps : ℕ) (strands : List Strand) (flags : List Bool) (xs : Slots) → taken < size block →
    Counts p block taken steps strands flags xs → Advanced p block taken steps strands flags xs
still_going p block taken steps strands flags xs l (s.going g h n a) = advanced g h n a
still_going p block taken steps strands flags xs l (s.ended e d) = absurd (omega (arith, l, e))

pub advances_on : (p : ℕ) (block : StrandBlock) (taken steps more : ℕ) (strands : List Strand) (flags : List Bool) (xs ys : Slots) → ((g : Going) → ShowsBoard g) → RoundsPreserveLength p →
    Advanced p block taken steps strands flags xs → Advances p more xs ys → Advanced p block taken (steps + more) strands flags ys
advances_on p block taken steps more strands flags xs ys shows keep (advanced g h n a) (stays e d) =
    advanced g (subst (λ zs. RepresentsBlock block g strands flags zs) (sym d) h) n (omega (arith, a, e))
advances_on p block taken steps more strands flags xs ys shows keep (advanced g h n a) (runs left room e) =
    let list = stands_list block g strands flags xs h in
    let jump = keep.jumps g more (subst EachLeft list left) (subst (RoomFor p more) list room) in
    advanced (run p more g) (stands_run block g strands flags xs ys p more shows h e) (omega (arith, n, run_waits p more g)) (omega (arith, a, jump))

pub takes_off : (p : ℕ) (block : StrandBlock) (taken steps : ℕ) (strands : List Strand) (flags flags' : List Bool) (xs ys : Slots) → RoundsPreserveLength p →
    Advanced p block taken steps strands flags xs → ((g : Going) → RepresentsBlock block g strands flags xs → Takes block g strands flags' ys) →
    Counts p block (taken + 1) steps strands flags' ys
takes_off p block taken steps strands flags flags' xs ys keep (advanced g h n a) f = by_taking (f g h)
  where
    by_taking : Takes block g strands flags' ys → Counts p block (taken + 1) steps strands flags' ys
    by_taking (s.over o) = s.ended (omega (arith, n, over_waits g o)) (omega (arith, a, keep.ends g o))
    by_taking (s.on g' r h') = s.going g' h' (omega (arith, n, one_waits_less r)) (omega (arith, a, keep.takes g g' r))

pub counts_all : (p : ℕ) (block : StrandBlock) (taken steps : ℕ) (strands : List Strand) (flags : List Bool) (xs : Slots) → size block ≤ taken →
    Counts p block taken steps strands flags xs → steps ≡ greedy_length p (to_do (start block))
counts_all p block taken steps strands flags xs l (s.going g h n a) = absurd (let k = some_waits g in omega (arith, l, n, k))
counts_all p block taken steps strands flags xs l (s.ended e d) = sym d

-- the steps so far are at most all steps
pub steps_fit : (p : ℕ) (block : StrandBlock) (taken steps : ℕ) (strands : List Strand) (flags : List Bool) (xs : Slots) →
    Advanced p block taken steps strands flags xs → steps ≤ greedy_length p (to_do (start block))
steps_fit p block taken steps strands flags xs (advanced g h n a) = omega (arith, a)

-- the first strand is added to an empty board
pub starts : (block : StrandBlock) (strands : List Strand) (flags : List Bool) (xs : Slots) → strands ≡ strands_of w.Start block → flags ≡ replicate (length strands) false →
    xs ≡ set (nones (length strands)) 0 (Some (strand_at strands 0).weight) → RepresentsBlock block (start block) strands flags xs
starts block strands flags xs planned e d =
    let n = length_planned block strands planned in
    let m = length-nones (length strands) in
    let a = Some (strand_at strands 0).weight in
    let one = some_size block in
    let first = ap (λ (s : Strand). Some s.weight) (ap (λ l. strand_at l 0) planned) in
    record {
      planned = planned;
      flags_are = ap length e ∙ length-replicate (length strands) false ∙ n;
      places = ap length d ∙ length-set (nones (length strands)) 0 a ∙ m ∙ n;
      shows = shows_start (left_at xs) (flag_at flags) 0 block
          (ap (λ l. left_at l 0) d ∙ get_or-set_same (nones (length strands)) 0 a None (omega (arith, m, n, one)) ∙ first)
          (unset 0 (omega (arith, n, one)))
          (λ k l u. (ap (λ l. left_at l k) d ∙ get_or-set_other (nones (length strands)) 0 k a None (λ v. omega (arith, v, l)) ∙ none_at (length strands) k, unset k (omega (arith, u, n))));
    }
  where
    unset : (k : ℕ) → k < length strands → flag_at flags k ≡ false
    unset k l = ap (λ l. flag_at l k) e ∙ get_or-replicate (length strands) k false false l

    none_at : (n k : ℕ) → left_at (nones n) k ≡ None
    none_at zero k = refl
    none_at (suc n) zero = refl
    none_at (suc n) (suc k) = none_at n k

-- a join waits for the strand before this one
pub puts_arrive : (strands : List Strand) (next join : ℕ) (flags flags' : List Bool) (xs xs' : Slots) → join_of (strand_at strands next).begins next ≡ Some join →
    (flag_at flags join ≡ false → (xs' ≡ xs) × (flags' ≡ set flags join true)) →
    (flag_at flags join ≡ true → (xs' ≡ set xs join (Some (strand_at strands join).weight)) × (flags' ≡ set flags join false)) →
    Puts strands next flags xs flags' xs'
puts_arrive strands next join flags flags' xs xs' e first second = by_flag (flag_at flags join) refl
  where
    by_flag : (b : Bool) → flag_at flags join ≡ b → Puts strands next flags xs flags' xs'
    by_flag false d = s.arrives join e d (first d).0 (first d).1
    by_flag true d = s.joins join e d (second d).0 (second d).1

pub advanced_ready : (p : ℕ) (block : StrandBlock) (taken steps : ℕ) (strands : List Strand) (flags : List Bool) (xs : Slots) → ((g : Going) → ShowsBoard g) →
    Advanced p block taken steps strands flags xs → 1 ≤ ready_slots xs
advanced_ready p block taken steps strands flags xs shows (advanced g h n a) = some_ready block g strands flags xs shows h

pub advanced_state : (p : ℕ) (block : StrandBlock) (taken steps : ℕ) (strands : List Strand) (flags : List Bool) (xs : Slots) →
    Advanced p block taken steps strands flags xs → (g : Going) × RepresentsBlock block g strands flags xs
advanced_state p block taken steps strands flags xs (advanced g h n a) = (g, h)

if_at_most : (n m most : ℕ) → m ≤ most → if_done n 0 (suc m) ≤ suc most
if_at_most zero m most h = omega arith
if_at_most (suc n) m most h = omega (arith, h)

steps_at_most : (most p : ℕ) (t : Tree) → steps most p t ≤ most
steps_at_most zero p t = omega arith
steps_at_most (suc most) p t = if_at_most (work t) (steps most p (step p t)) most (steps_at_most most p (step p t))

-- the first state of the block of a tree
pub begun_of : (t : Tree) (p : ℕ) (strands : List Strand) (flags : List Bool) (xs : Slots) → RoundsPreserveLength p → strands ≡ strands_of w.Start (block_of t) →
    flags ≡ replicate (length strands) false → xs ≡ set (nones (length strands)) 0 (Some (strand_at strands 0).weight) → work t ≤ MOST_LIMIT →
    Begun p (block_of t) strands flags xs
begun_of t p strands flags xs keep e d q l = record {
  stands = starts (block_of t) strands flags xs e d q;
  fits = omega (arith, keep.begins t, steps_at_most (work t) p t, l);
}

pub within : (t : Tree) (p steps : ℕ) → GreedyIsBounded p t → steps ≡ greedy_length p t → IsWithin p steps t
within t p steps h e = record {
  work_law = subst (λ n. work t ≤ p * n) (sym e) h.work_law;
  span_law = subst (λ n. span t ≤ n) (sym e) h.span_law;
  greedy_bound = subst (λ n. p * n ≤ work t + (p - 1) * span t) (sym e) h.greedy_bound;
}

-- one processor does all the work, step by step
pub on_one : (t : Tree) (p steps : ℕ) → p ≡ 1 → GreedyIsBounded p t → steps ≡ work t → steps ≡ greedy_length p t
on_one t p steps e h w =
    let one = subst (λ q. GreedyIsBounded q t) e h in
    let is : steps ≡ greedy_length 1 t = omega (arith, one.work_law, one.greedy_bound, w) in
    is ∙ ap (λ q. greedy_length q t) (sym e)

-- the codes of a record
pub record_of : (t : Tree) (r : Recorded) (codes : List Code) → Ok codes ≡ r → IsRecordOf t r → IsRecordOf t (Ok codes)
record_of t r codes e h = subst (IsRecordOf t) (sym e) h

pub some_planned : (block : StrandBlock) (strands : List Strand) → strands ≡ strands_of w.Start block → 1 ≤ length strands
some_planned block strands e = let n = length_planned block strands e in omega (arith, n, some_size block)
