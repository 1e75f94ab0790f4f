-- What is read of pieces tells of the run that they are joined to.
use Rattle.std.specs.Prelude.{◌≡◌, ℕ, zero, suc, ℤ, ◌+◌, ◌<◌, ◌≤◌, ◌^◌, ◌==◌, nat_lt, max, min, Bool, true, false, if◌then◌else◌, List, [], ◌∷◌, ◌++◌, Option, refl}
use Rattle.std.proofs.Common.{sym, ◌∙◌, ap, subst, arith}
use Rattle.cw_facts.specs.Tests.{below, lt_of}
use Rattle.cw_model.specs.Burdens.{at_child, at_rest, no_burden}
use Rattle.cw_model.specs.declared.burden.Burden.{Burden}
use Rattle.cw_model.specs.declared.syntax.Reduction.{Reduction}
use Rattle.cw_model.specs.Syntax.{Name}
use Rattle.cw_model.specs.Trees.{Mark, Fork, tree_of, work, span, burdened_span, Series}
use Rattle.cw_model.specs.declared.limits.TheConstants.{MOST_LIMIT}
use Rattle.cw_model.specs.Outcome.{Trace, joined}
use Rattle.cw_measure.specs.Counters.{Unsynced, up_to, later, onward, exactly, fresh, forked, ticked, held}
use Rattle.cw_measure.specs.Measured.{Measured, most, most_burdened, measure_of, nothing, after_child, after_part, span_read, burdened_read, ReadsTree, MeasuresReadTrees}
use Rattle.cw_measure.specs.Measured as measured
use Rattle.cw_measure.specs.OpenParts.{marked}
use Rattle.cw_measure.specs.lemmas.BlockWeights.{child_charge}
use Rattle.cw_measure.specs.JoinLaws.{same_parts}
use Rattle.cw_measure.specs.lemmas.StrandWeights.{span_marked}
use Rattle.cw_measure.specs.lemmas.OpenParts.{work_marked}
use Rattle.cw_reduce.specs.ReducerState.{ReducerState, one_held, held_joined}
use Rattle.cw_reduce.specs.HeldLaws.{held-first, held-last, held-assoc}
use Rattle.cw_reduce.specs.PieceResults.{held_of, totals_joined}
use Rattle.cw_part.specs.declared.read.Read.{Read}
use Rattle.cw_part.specs.Parts.{Came, Completed, Trapped, followed, seen, over_if, within}
use Rattle.cw_part.specs.Read.{readings, read_joined, child_read, call_read}
use Rattle.cw_part.specs.Runs.{Numbering, cost, traces, as_event, told, told_so, RepresentsTrace, RepresentsTrap, RepresentsOutcome, RanAlike, TrappedAlike, OverAlike}
use Rattle.cw_part.proofs.RunLaws.{cost_both, cost_inside}

-- what is held over both
pub held_both : (a b : List ReducerState) (q : ℕ) → held_of (totals_joined a b) q ≡ held_joined (held_of a q) (held_of b q)
held_both [] b zero = sym (held-first (held_of b zero))
held_both [] b (suc q) = sym (held-first (held_of b (suc q)))
held_both (x ∷ a) [] zero = sym (held-last (held_of (x ∷ a) zero))
held_both (x ∷ a) [] (suc q) = sym (held-last (held_of (x ∷ a) (suc q)))
held_both (x ∷ a) (y ∷ b) zero = refl
held_both (x ∷ a) (y ∷ b) (suc q) = held_both a b q

told_both : (how : Reduction) (number : Name → ℕ) (q : ℕ) (xs ys : List (Name × ℤ)) → told_so how number q (xs ++ ys) ≡ held_joined (told_so how number q xs) (told_so how number q ys)
told_both how number q [] ys = sym (held-first (told_so how number q ys))
told_both how number q (x ∷ xs) ys = by_test (number x.0 == q) (told_both how number q xs ys)
  where
    by_test : (b : Bool) → told_so how number q (xs ++ ys) ≡ held_joined (told_so how number q xs) (told_so how number q ys)
        → (if b then held_joined (one_held how x.1) (told_so how number q (xs ++ ys)) else told_so how number q (xs ++ ys))
        ≡ held_joined (if b then held_joined (one_held how x.1) (told_so how number q xs) else told_so how number q xs) (told_so how number q ys)
    by_test true e = ap (held_joined (one_held how x.1)) e ∙ sym (held-assoc (one_held how x.1) (told_so how number q xs) (told_so how number q ys))
    by_test false e = e

-- the work that is read of a trace, and of a child
work_told : {burden : Burden} {numbering : Numbering} (t : Trace) (a : Read) → RepresentsTrace burden numbering t a → a.measure.work ≡ min most (cost t)
work_told t a h = ap (λ (m : Measured). m.work) h.measure

trap_told : {burden : Burden} {numbering : Numbering} (t : Trace) (a : Read) → RepresentsTrace burden numbering t a → RepresentsTrap t a
trap_told t a h = record { lines = h.lines; work = work_told t a h }

-- of both
trace_both : MeasuresReadTrees → (burden : Burden) (numbering : Numbering) (t u : Trace) (a b : Read) → RepresentsTrace burden numbering t a
    → RepresentsTrace burden numbering u b → RepresentsTrace burden numbering (joined t u) (read_joined a b)
trace_both law burden numbering t u a b h k = record {
  lines = ap (λ (l : List ℤ). l ++ b.views.lines) h.lines ∙ ap (λ (l : List ℤ). t.lines ++ l) k.lines;
  totals = λ q.
      held_both a.views.totals b.views.totals q ∙ ap (λ (w : ReducerState). held_joined w (held_of b.views.totals q)) (h.totals q)
      ∙ ap (held_joined (told numbering q t.updates)) (k.totals q) ∙ sym (told_both (numbering.how q) numbering.number q t.updates u.updates);
  measure =
      ap (λ (m : Measured). measured.joined m b.measure) h.measure ∙ ap (measured.joined (measure_of burden t.events)) k.measure
      ∙ sym (law.pieces burden t.events u.events);
}

trap_both : (t u : Trace) (a b : Read) → RepresentsTrap t a → RepresentsTrap u b → RepresentsTrap (joined t u) (read_joined a b)
trap_both t u a b h k = record {
  lines = ap (λ (l : List ℤ). l ++ b.views.lines) h.lines ∙ ap (λ (l : List ℤ). t.lines ++ l) k.lines;
  work = let e = h.work in let f = k.work in let c = cost_both t u in omega arith;
}

pub came_both : MeasuresReadTrees → (burden : Burden) (numbering : Numbering) {x y : Came Trace} {a b : Came Read} → RepresentsOutcome burden numbering x a
    → RepresentsOutcome burden numbering y b → RepresentsOutcome burden numbering (followed traces x y) (followed readings a b)
came_both law burden numbering (RanAlike t a h) (RanAlike u b k) = RanAlike (joined t u) (read_joined a b) (trace_both law burden numbering t u a b h k)
came_both law burden numbering (RanAlike t a h) (TrappedAlike trap line u b k) = TrappedAlike trap line (joined t u) (read_joined a b) (trap_both t u a b (trap_told t a h) k)
came_both law burden numbering (RanAlike t a h) OverAlike = OverAlike
came_both law burden numbering (TrappedAlike trap line t a h) (RanAlike u b k) = TrappedAlike trap line t a h
came_both law burden numbering (TrappedAlike trap line t a h) (TrappedAlike trap' line' u b k) = TrappedAlike trap line t a h
came_both law burden numbering (TrappedAlike trap line t a h) OverAlike = TrappedAlike trap line t a h
came_both law burden numbering OverAlike (RanAlike u b k) = OverAlike
came_both law burden numbering OverAlike (TrappedAlike trap line u b k) = OverAlike
came_both law burden numbering OverAlike OverAlike = OverAlike

-- the tests against a limit agree
same_test : (n c w : ℕ) → n ≤ MOST_LIMIT → w ≡ min most c → nat_lt n c ≡ nat_lt n w
same_test n c w l e = by_test (nat_lt n c) refl
  where
    by_test : (b : Bool) → nat_lt n c ≡ b → b ≡ nat_lt n w
    by_test true h = let x = lt_of n c h in sym (below n w (omega arith))
    by_test false h = by_other (nat_lt n w) refl
      where
        by_other : (b : Bool) → nat_lt n w ≡ b → false ≡ b
        by_other true k = let x = lt_of n w k in sym h ∙ below n c (omega arith)
        by_other false k = refl

over_alike : (burden : Burden) (numbering : Numbering) (x : Came Trace) (a : Came Read) (b : Bool) → RepresentsOutcome burden numbering x a → RepresentsOutcome burden numbering (over_if b x) (over_if b a)
over_alike burden numbering x a true h = OverAlike
over_alike burden numbering x a false h = h

alike_if : (burden : Burden) (numbering : Numbering) (x : Came Trace) (a : Came Read) (b c : Bool) → b ≡ c → RepresentsOutcome burden numbering x a → RepresentsOutcome burden numbering (over_if b x) (over_if c a)
alike_if burden numbering x a b c e h =
    let P : Bool → Type 0 = λ d. RepresentsOutcome burden numbering (over_if b x) (over_if d a) in
    subst P e (over_alike burden numbering x a b h)

pub came_tested : (burden : Burden) (numbering : Numbering) (n : ℕ) {x : Came Trace} {a : Came Read} → n ≤ MOST_LIMIT
    → RepresentsOutcome burden numbering x a → RepresentsOutcome burden numbering (within traces n x) (within readings n a)
came_tested burden numbering n l (RanAlike t a h) = alike_if burden numbering (Completed t) (Completed a) (nat_lt n (cost t))
    (nat_lt n a.measure.work) (same_test n (cost t) a.measure.work l (work_told t a h)) (RanAlike t a h)
came_tested burden numbering n l (TrappedAlike trap line t a h) = alike_if burden numbering (Trapped trap line t) (Trapped trap line a)
    (nat_lt n (cost t)) (nat_lt n a.measure.work) (same_test n (cost t) a.measure.work l h.work) (TrappedAlike trap line t a h)
came_tested burden numbering n l OverAlike = OverAlike

-- a child's measure, as a piece of the block round it, is that of the child as an event
after_none : (g c : ℕ) → c ≤ g → later (up_to g) 0 c ≡ c
after_none g zero h = refl
after_none g (suc c) h = omega arith

same_unsynced : (l l' k k' : ℕ) → l ≡ l' → k ≡ k' → Unsynced l k ≡ Unsynced l' k'
same_unsynced l l' k k' e f = ap (λ (x : ℕ). Unsynced x k) e ∙ ap (Unsynced l') f

one_child : (g : ℕ) (burden : Burden) (c s : ℕ) → at_child burden ≤ g → at_rest burden ≤ g → c ≡ min g s
    → forked (up_to g) burden c fresh ≡ held g (onward exactly (Unsynced (at_child burden + s) (at_rest burden)) fresh)
one_child g burden c s h k e =
    let child = up_to g (at_child burden) c in
    let x = after_none g child (omega arith) in
    same_unsynced (max 0 (later (up_to g) 0 child)) (min g (max (at_child burden + s) 0)) (up_to g 0 (at_rest burden)) (min g (at_rest burden + 0)) (omega arith) (omega arith)

measure_child : MeasuresReadTrees → (burden : Burden) (mark : Option Mark) (m : Measured) (t : Trace) → burden.charge < 2 ^ 64
    → m ≡ measure_of burden t.events → after_child burden m nothing ≡ measure_of burden (Fork (marked mark (tree_of t.events)) ∷ [])
measure_child law burden mark m t h e =
    let tree = tree_of t.events in
    let P : Measured → Type 0 = λ x. ReadsTree burden x tree in
    let r = subst P (sym e) (law.reads burden t.events) in
    let w = r.work_is in
    let v = work_marked mark tree in
    let more : up_to most 0 m.work ≡ min most ((work (marked mark tree) + 0) + 0) = omega arith in
    let light = child_charge burden in
    same_parts more
    (one_child most no_burden (span_read m) (span (marked mark tree)) (omega arith) (omega arith) (r.span_is ∙ ap (min most) (sym (span_marked no_burden mark tree))))
    (one_child most_burdened burden (burdened_read m) (burdened_span burden (marked mark tree)) (omega arith) (omega arith)
    (r.burdened_is ∙ ap (min most_burdened) (sym (span_marked burden mark tree))))

one_call : (g c s : ℕ) → c ≡ min g s → ticked (up_to g) c fresh ≡ held g (onward exactly (Unsynced 0 s) fresh)
one_call g c s e = same_unsynced 0 (min g (max 0 0)) (up_to g 0 c) (min g (s + 0)) (omega arith) (omega arith)

measure_call : MeasuresReadTrees → (burden : Burden) (mark : Option Mark) (m : Measured) (t : Trace) → m ≡ measure_of burden t.events
    → after_part m nothing ≡ measure_of burden (Series (marked mark (tree_of t.events)) ∷ [])
measure_call law burden mark m t e =
    let tree = tree_of t.events in
    let P : Measured → Type 0 = λ x. ReadsTree burden x tree in
    let r = subst P (sym e) (law.reads burden t.events) in
    let w = r.work_is in
    let v = work_marked mark tree in
    let more : up_to most 0 m.work ≡ min most ((work (marked mark tree) + 0) + 0) = omega arith in
    same_parts more
    (one_call most (span_read m) (span (marked mark tree)) (r.span_is ∙ ap (min most) (sym (span_marked no_burden mark tree))))
    (one_call most_burdened (burdened_read m) (burdened_span burden (marked mark tree)) (r.burdened_is ∙ ap (min most_burdened) (sym (span_marked burden mark tree))))

-- what is read of a spawned child or of a call, as a piece of the block round it
abbrev pub part_read : (spawned : Bool) → (burden : Burden) → Read → Read
part_read true burden a = child_read burden a
part_read false burden a = call_read a

measure_inside : MeasuresReadTrees → (burden : Burden) (numbering : Numbering) (spawned : Bool) (mark : Option Mark) (t : Trace) (a : Read)
    → burden.charge < 2 ^ 64 → RepresentsTrace burden numbering t a → RepresentsTrace burden numbering (as_event spawned mark t) (part_read spawned burden a)
measure_inside law burden numbering true mark t a b h = record { lines = h.lines; totals = h.totals; measure = measure_child law burden mark a.measure t b h.measure }
measure_inside law burden numbering false mark t a b h = record { lines = h.lines; totals = h.totals; measure = measure_call law burden mark a.measure t h.measure }

trap_inside : (burden : Burden) (spawned : Bool) (mark : Option Mark) (t : Trace) (a : Read) → RepresentsTrap t a → RepresentsTrap (as_event spawned mark t) (part_read spawned burden a)
trap_inside burden true mark t a h = record { lines = h.lines; work = let w = h.work in let c = cost_inside true mark t in omega arith }
trap_inside burden false mark t a h = record { lines = h.lines; work = let w = h.work in let c = cost_inside false mark t in omega arith }

pub came_inside : MeasuresReadTrees → (burden : Burden) (numbering : Numbering) (spawned : Bool) (mark : Option Mark) {x : Came Trace}
    {a : Came Read} → burden.charge < 2 ^ 64 → RepresentsOutcome burden numbering x a
    → RepresentsOutcome burden numbering (seen (as_event spawned mark) x) (seen (part_read spawned burden) a)
came_inside law burden numbering spawned mark b (RanAlike t a h) =
    RanAlike (as_event spawned mark t) (part_read spawned burden a) (measure_inside law burden numbering spawned mark t a b h)
came_inside law burden numbering spawned mark b (TrappedAlike trap line t a h) =
    TrappedAlike trap line (as_event spawned mark t) (part_read spawned burden a) (trap_inside burden spawned mark t a h)
came_inside law burden numbering spawned mark b OverAlike = OverAlike
