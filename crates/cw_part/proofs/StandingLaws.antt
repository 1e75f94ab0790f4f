-- A part stands for a run, wherever its pieces stopped, and so joined pieces tell of the serial run.
use Rattle.std.specs.Prelude.{◌≡◌, ℕ, ◌+◌, ◌<◌, ◌≤◌, ◌^◌, nat_lt, min, Bool, true, false, Option, ◌⊎◌, refl}
use Rattle.std.proofs.Common.{sym, ◌∙◌, ap, subst, inl, inr, arith}
use Rattle.cw_facts.specs.Tests.{not_lt_of, lt_of, not_below}
use Rattle.cw_model.specs.declared.burden.Burden.{Burden}
use Rattle.cw_model.specs.Trees.{Mark}
use Rattle.cw_model.specs.declared.limits.TheConstants.{MOST_LIMIT}
use Rattle.cw_model.specs.Outcome.{Trace}
use Rattle.cw_measure.specs.Measured.{MeasuresReadTrees}
use Rattle.cw_part.specs.declared.read.Read.{Read}
use Rattle.cw_part.specs.Parts.{Came, Completed, Trapped, Over, Memory, followed, seen, over_if, is_above, within}
use Rattle.cw_part.specs.PartFacts.{is_tested}
use Rattle.cw_part.specs.Read.{readings}
use Rattle.cw_part.specs.RunParts.{RunPart, as_child, as_call}
use Rattle.cw_part.specs.Runs.{Run, Numbering, Inside, then_run, cost, traces, as_event, serial, RepresentsOutcome, RanAlike, TrappedAlike}
use Rattle.cw_part.specs.Runs.{OverAlike, IsCountedAfter, IsJoinedOf, Alone, Refused, Cut, Apart, Called, PiecesAreTheRun}
use Rattle.cw_part.proofs.RunLaws.{cost_both, cost_inside, IsNoMemory, meaning, none_meant, trap_stays, over_stays, serial_is, runs_join, children_join}
use Rattle.cw_part.proofs.TellingLaws.{came_both, came_tested, part_read, came_inside}

-- a run passes the limit, with this cost before it
abbrev IsBeyond : (limit before : ℕ) → Came Trace → Type 0
IsBeyond n d (Completed t) = n < d + cost t
IsBeyond n d (Trapped trap line t) = n < d + cost t
IsBeyond n d Over = Unit {0}
IsBeyond n d Memory = ⊥

-- memory was refused to a part, or it tells of the run, or it is over and the run passes the limit
data Stands (burden : Burden) (numbering : Numbering) (limit before : ℕ) (x : Came Trace) (a : Came Read) : Type 0 where
  Short : a ≡ Memory → Stands burden numbering limit before x a
  Same : RepresentsOutcome burden numbering x a → Stands burden numbering limit before x a
  Passed : a ≡ Over → IsBeyond limit before x → Stands burden numbering limit before x a

beyond_within : (n d : ℕ) (z : Came Trace) → IsBeyond n d z → IsBeyond n d (within traces n z)
beyond_within n d (Completed t) h = by_test (nat_lt n (cost t))
  where
    by_test : (b : Bool) → IsBeyond n d (over_if b (Completed t))
    by_test true = tt
    by_test false = h
beyond_within n d (Trapped trap line t) h = by_test (nat_lt n (cost t))
  where
    by_test : (b : Bool) → IsBeyond n d (over_if b (Trapped trap line t))
    by_test true = tt
    by_test false = h
beyond_within n d Over h = tt
beyond_within n d Memory h = absurd h

beyond_first : (n d : ℕ) (x y : Came Trace) → IsNoMemory y → IsBeyond n d x → IsBeyond n d (followed traces x y)
beyond_first n d (Completed t) (Completed u) k h = let c = cost_both t u in omega arith
beyond_first n d (Completed t) (Trapped trap line u) k h = let c = cost_both t u in omega arith
beyond_first n d (Completed t) Over k h = tt
beyond_first n d (Completed t) Memory k h = absurd k
beyond_first n d (Trapped trap line t) (Completed u) k h = h
beyond_first n d (Trapped trap line t) (Trapped trap' line' u) k h = h
beyond_first n d (Trapped trap line t) Over k h = h
beyond_first n d (Trapped trap line t) Memory k h = absurd k
beyond_first n d Over (Completed u) k h = tt
beyond_first n d Over (Trapped trap line u) k h = tt
beyond_first n d Over Over k h = tt
beyond_first n d Over Memory k h = absurd k
beyond_first n d Memory y k h = absurd h

beyond_second : (n d e : ℕ) (t : Trace) (y : Came Trace) → e ≤ d + cost t → IsBeyond n e y → IsBeyond n d (followed traces (Completed t) y)
beyond_second n d e t (Completed u) l h = let c = cost_both t u in omega arith
beyond_second n d e t (Trapped trap line u) l h = let c = cost_both t u in omega arith
beyond_second n d e t Over l h = tt
beyond_second n d e t Memory l h = absurd h

beyond_inside : (n d : ℕ) (spawned : Bool) (mark : Option Mark) (x : Came Trace) → IsBeyond n d x → IsBeyond n d (seen (as_event spawned mark) x)
beyond_inside n d spawned mark (Completed t) h = let c = cost_inside spawned mark t in omega arith
beyond_inside n d spawned mark (Trapped trap line t) h = let c = cost_inside spawned mark t in omega arith
beyond_inside n d spawned mark Over h = tt
beyond_inside n d spawned mark Memory h = absurd h

counted_inside : (d e : ℕ) (spawned : Bool) (mark : Option Mark) (x : Came Trace) → IsCountedAfter d x e → IsCountedAfter d (seen (as_event spawned mark) x) e
counted_inside d e spawned mark (Completed t) h = let c = cost_inside spawned mark t in omega arith
counted_inside d e spawned mark (Trapped trap line t) h = tt
counted_inside d e spawned mark Over h = tt
counted_inside d e spawned mark Memory h = tt

-- what is over stays so, unless memory was refused behind it
over_then : (burden : Burden) (numbering : Numbering) {y : Came Trace} {b : Came Read} → RepresentsOutcome burden numbering y b → followed readings Over b ≡ Over
over_then burden numbering (RanAlike t a h) = refl
over_then burden numbering (TrappedAlike trap line t a h) = refl
over_then burden numbering OverAlike = refl

refused_later : (x : Came Read) → followed readings x Memory ≡ Memory
refused_later (Completed a) = refl
refused_later (Trapped trap line a) = refl
refused_later Over = refl
refused_later Memory = refl

-- a part that tells of a run, and one that is over because what follows passes the limit
passed_later : (burden : Burden) (numbering : Numbering) (n d e : ℕ) (x y : Came Trace) (a b : Came Read) → n ≤ MOST_LIMIT → IsNoMemory y
    → IsCountedAfter d x e → RepresentsOutcome burden numbering x a → b ≡ Over → IsBeyond n e y
    → Stands burden numbering n d (within traces n (followed traces x y)) (within readings n (followed readings a b))
passed_later burden numbering n d e x y a b l m c h f q =
    let P : Came Read → Type 0 = λ z. Stands burden numbering n d (within traces n (followed traces x y)) (within readings n (followed readings a z)) in
    subst P (sym f) (by_case x a c h)
  where
    by_case : (x : Came Trace) (a : Came Read) → IsCountedAfter d x e → RepresentsOutcome burden numbering x a
        → Stands burden numbering n d (within traces n (followed traces x y)) (within readings n (followed readings a Over))
    by_case _ _ c (RanAlike t r h) = Passed refl (beyond_within n d (followed traces (Completed t) y) (beyond_second n d e t y c q))
    by_case _ _ c (TrappedAlike trap line t r h) =
        let Q : Came Trace → Type 0 = λ z. Stands burden numbering n d (within traces n z) (within readings n (Trapped trap line r)) in
        subst Q (sym (trap_stays trap line t y m)) (Same (came_tested burden numbering n l (TrappedAlike trap line t r h)))
    by_case _ _ c OverAlike =
        let Q : Came Trace → Type 0 = λ z. Stands burden numbering n d (within traces n z) Over in
        subst Q (sym (over_stays y m)) (Same OverAlike)

-- two parts that stand for runs stand for both, joined
stands_both : MeasuresReadTrees → (burden : Burden) (numbering : Numbering) (n d e : ℕ) (x y : Came Trace) (a b : Came Read) → n ≤ MOST_LIMIT
    → IsNoMemory y → IsCountedAfter d x e → Stands burden numbering n d x a → Stands burden numbering n e y b
    → Stands burden numbering n d (within traces n (followed traces x y)) (within readings n (followed readings a b))
stands_both law burden numbering n d e x y a b l m c (Short f) k = Short (ap (λ (z : Came Read). within readings n (followed readings z b)) f)
stands_both law burden numbering n d e x y a b l m c (Same h) (Short g) = Short (ap (λ (z : Came Read). within readings n (followed readings a z)) g ∙ ap (within readings n) (refused_later a))
stands_both law burden numbering n d e x y a b l m c (Same h) (Same k) = Same (came_tested burden numbering n l (came_both law burden numbering h k))
stands_both law burden numbering n d e x y a b l m c (Same h) (Passed g q) = passed_later burden numbering n d e x y a b l m c h g q
stands_both law burden numbering n d e x y a b l m c (Passed f p) (Short g) = Short (ap (λ (z : Came Read). within readings n (followed readings a z)) g ∙ ap (within readings n) (refused_later a))
stands_both law burden numbering n d e x y a b l m c (Passed f p) (Same k) =
    Passed (ap (λ (z : Came Read). within readings n (followed readings z b)) f ∙ ap (within readings n) (over_then burden numbering k))
    (beyond_within n d (followed traces x y) (beyond_first n d x y m p))
stands_both law burden numbering n d e x y a b l m c (Passed f p) (Passed g q) =
    Passed (ap (λ (z : Came Read). within readings n (followed readings z b)) f ∙ ap (λ (z : Came Read). within readings n (followed readings Over z)) g)
    (beyond_within n d (followed traces x y) (beyond_first n d x y m p))

-- a child or a call that stands for its run stands for it as a piece of the block round it
stands_inside : MeasuresReadTrees → (burden : Burden) (numbering : Numbering) (n d : ℕ) (spawned : Bool) (mark : Option Mark) (x : Came Trace)
    (a : Came Read) → burden.charge < 2 ^ 64 → Stands burden numbering n d x a
    → Stands burden numbering n d (seen (as_event spawned mark) x) (seen (part_read spawned burden) a)
stands_inside law burden numbering n d spawned mark x a b (Short f) = Short (ap (seen (part_read spawned burden)) f)
stands_inside law burden numbering n d spawned mark x a b (Same h) = Same (came_inside law burden numbering spawned mark b h)
stands_inside law burden numbering n d spawned mark x a b (Passed f p) = Passed (ap (seen (part_read spawned burden)) f) (beyond_inside n d spawned mark x p)

-- a strand that stops no earlier than the limit with this cost before it
over_told : (burden : Burden) (numbering : Numbering) (a : Came Read) → RepresentsOutcome burden numbering Over a → a ≡ Over
over_told burden numbering _ OverAlike = refl

stopped : (burden : Burden) (numbering : Numbering) (n d left : ℕ) (m : Came Trace) (a : Came Read) → is_above traces left m ≡ true → IsBeyond n d m
    → RepresentsOutcome burden numbering (within traces left m) a → Stands burden numbering n d (within traces n m) a
stopped burden numbering n d left m a e p h =
    let P : Bool → Type 0 = λ b. RepresentsOutcome burden numbering (over_if b m) a in
    Passed (over_told burden numbering a (subst P e h)) (beyond_within n d m p)

unstopped : (burden : Burden) (numbering : Numbering) (n d left : ℕ) (m : Came Trace) (a : Came Read) → is_above traces left m ≡ false
    → is_above traces n m ≡ false → RepresentsOutcome burden numbering (within traces left m) a → Stands burden numbering n d (within traces n m) a
unstopped burden numbering n d left m a e f h =
    let P : Bool → Type 0 = λ b. RepresentsOutcome burden numbering (over_if b m) a in
    let Q : Bool → Type 0 = λ b. Stands burden numbering n d (over_if b m) a in
    subst Q (sym f) (Same (subst P e h))

stands_alone : (burden : Burden) (numbering : Numbering) (n d left : ℕ) (m : Came Trace) (a : Came Read) → IsNoMemory m → left ≤ n → n ≤ d + left
    → RepresentsOutcome burden numbering (within traces left m) a → Stands burden numbering n d (within traces n m) a
stands_alone burden numbering n d left (Completed t) a k l g h = by_test (nat_lt left (cost t)) refl
  where
    by_test : (b : Bool) → nat_lt left (cost t) ≡ b → Stands burden numbering n d (within traces n (Completed t)) a
    by_test true e = let x = lt_of left (cost t) e in stopped burden numbering n d left (Completed t) a e (omega arith) h
    by_test false e = let x = not_lt_of left (cost t) e in unstopped burden numbering n d left (Completed t) a e (not_below n (cost t) (omega arith)) h
stands_alone burden numbering n d left (Trapped trap line t) a k l g h = by_test (nat_lt left (cost t)) refl
  where
    by_test : (b : Bool) → nat_lt left (cost t) ≡ b → Stands burden numbering n d (within traces n (Trapped trap line t)) a
    by_test true e = let x = lt_of left (cost t) e in stopped burden numbering n d left (Trapped trap line t) a e (omega arith) h
    by_test false e = let x = not_lt_of left (cost t) e in unstopped burden numbering n d left (Trapped trap line t) a e (not_below n (cost t) (omega arith)) h
stands_alone burden numbering n d left Over a k l g h = Same h
stands_alone burden numbering n d left Memory a k l g h = absurd k

-- of runs
none_within : (n : ℕ) (x : Came Trace) → IsNoMemory x → IsNoMemory (within traces n x)
none_within n (Completed t) h = by_test (nat_lt n (cost t))
  where
    by_test : (b : Bool) → IsNoMemory (over_if b (Completed t))
    by_test true = tt
    by_test false = tt
none_within n (Trapped trap line t) h = by_test (nat_lt n (cost t))
  where
    by_test : (b : Bool) → IsNoMemory (over_if b (Trapped trap line t))
    by_test true = tt
    by_test false = tt
none_within n Over h = tt
none_within n Memory h = absurd h

pub none_met : (n : ℕ) (run : Run) → IsNoMemory (serial n run)
none_met n run = subst IsNoMemory (sym (serial_is run n)) (none_within n (meaning run) (none_meant run))

alone_stands : (burden : Burden) (numbering : Numbering) (n d left : ℕ) (run : Run) (a : Came Read) → left ≤ n → n ≤ d + left
    → RepresentsOutcome burden numbering (serial left run) a → Stands burden numbering n d (serial n run) a
alone_stands burden numbering n d left run a l g h =
    let P : Came Trace → Type 0 = λ z. RepresentsOutcome burden numbering z a in
    let Q : Came Trace → Type 0 = λ z. Stands burden numbering n d z a in
    subst Q (sym (serial_is run n)) (stands_alone burden numbering n d left (meaning run) a (none_meant run) l g (subst P (serial_is run left) h))

-- the joined part of two pieces
parts_stand : MeasuresReadTrees → (burden : Burden) (numbering : Numbering) (limit d e : ℕ) (x y whole : Came Trace) (p q : RunPart)
    → within traces limit (followed traces x y) ≡ whole → IsNoMemory y → IsCountedAfter d x e → p.limit ≡ limit → q.limit ≡ limit
    → Stands burden numbering limit d x p.came → Stands burden numbering limit e y q.came
    → (min p.limit q.limit ≡ limit) × Stands burden numbering limit d whole (within readings (min p.limit q.limit) (followed readings p.came q.came))
parts_stand law burden numbering limit d e x y whole p q w m c f g h k =
    let n = min p.limit q.limit in
    let same : n ≡ limit = omega arith in
    let l = not_lt_of MOST_LIMIT p.limit p.limited in
    let P : Came Trace → Type 0 = λ z. Stands burden numbering limit d z (within readings n (followed readings p.came q.came)) in
    let Q : ℕ → Type 0 = λ j. Stands burden numbering limit d (within traces limit (followed traces x y)) (within readings j (followed readings p.came q.came)) in
    (same, subst P w (subst Q (sym same) (stands_both law burden numbering limit d e x y p.came q.came (omega arith) m c h k)))

pieces_stand : MeasuresReadTrees → (burden : Burden) (numbering : Numbering) (limit : ℕ) → burden.charge < 2 ^ 64
    → {before : ℕ} {run : Run} {p : RunPart} → IsJoinedOf burden numbering limit before run p
    → (p.limit ≡ limit) × Stands burden numbering limit before (serial limit run) p.came
pieces_stand law burden numbering limit b (Alone before left run p e l g h) = (e, alone_stands burden numbering limit before left run p.came l g h)
pieces_stand law burden numbering limit b (Refused before run p e h) = (e, Short h)
pieces_stand law burden numbering limit b (Cut before between first rest p q c h k) =
    let x = pieces_stand law burden numbering limit b h in
    let y = pieces_stand law burden numbering limit b k in
    parts_stand law burden numbering limit before between (serial limit first) (serial limit rest) (serial limit (then_run first rest)) p q
    (runs_join limit first rest) (none_met limit rest) c x.0 y.0 x.1 y.1
pieces_stand law burden numbering limit b (Apart before between mark inner rest p q c h k) =
    let x = pieces_stand law burden numbering limit b h in
    let y = pieces_stand law burden numbering limit b k in
    parts_stand law burden numbering limit before between (seen (as_event true mark) (serial limit inner)) (serial limit rest) (serial limit (Inside true mark inner rest)) (as_child burden p) q
    (children_join limit true mark inner rest) (none_met limit rest) (counted_inside before between true mark (serial limit inner) c) x.0 y.0
    (stands_inside law burden numbering limit before true mark (serial limit inner) p.came b x.1) y.1
pieces_stand law burden numbering limit b (Called before between mark inner rest p q c h k) =
    let x = pieces_stand law burden numbering limit b h in
    let y = pieces_stand law burden numbering limit b k in
    parts_stand law burden numbering limit before between (seen (as_event false mark) (serial limit inner)) (serial limit rest) (serial limit (Inside false mark inner rest)) (as_call p) q
    (children_join limit false mark inner rest) (none_met limit rest) (counted_inside before between false mark (serial limit inner) c) x.0 y.0
    (stands_inside law burden numbering limit before false mark (serial limit inner) p.came b x.1) y.1

-- with nothing before it a run that passes the limit is over
over_at_once : (n : ℕ) (z : Came Trace) → is_above traces n z ≡ false → IsBeyond n 0 z → z ≡ Over
over_at_once n (Completed t) e p = let x = not_lt_of n (cost t) e in absurd (omega arith)
over_at_once n (Trapped trap line t) e p = let x = not_lt_of n (cost t) e in absurd (omega arith)
over_at_once n Over e p = refl
over_at_once n Memory e p = absurd p

pub serial_tested : (n : ℕ) (run : Run) → is_above traces n (serial n run) ≡ false
serial_tested n run = ap (is_above traces n) (serial_is run n) ∙ is_tested traces n (meaning run)

told_at_once : (burden : Burden) (numbering : Numbering) (n : ℕ) (run : Run) (a : Came Read) → Stands burden numbering n 0 (serial n run) a → (a ≡ Memory) ⊎ RepresentsOutcome burden numbering (serial n run) a
told_at_once burden numbering n run a (Short f) = inl f
told_at_once burden numbering n run a (Same h) = inr h
told_at_once burden numbering n run a (Passed f p) =
    let P : Came Trace → Type 0 = λ z. RepresentsOutcome burden numbering z a in
    let Q : Came Read → Type 0 = λ z. RepresentsOutcome burden numbering Over z in
    inr (subst P (sym (over_at_once n (serial n run) (serial_tested n run) p)) (subst Q (sym f) OverAlike))

pub pieces_are_the_run : MeasuresReadTrees → PiecesAreTheRun
pieces_are_the_run law burden numbering limit run p b h =
    let r = pieces_stand law burden numbering limit b h in
    (r.0, told_at_once burden numbering limit run p.came r.1)
