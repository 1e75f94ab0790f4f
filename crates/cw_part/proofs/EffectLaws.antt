-- Effects of pieces show, count and follow one another as parts do.
use Rattle.std.specs.Prelude.{◌≡◌, ℕ, suc, ℤ, ◌+◌, min, Bool, true, false, if◌then◌else◌, List, [], ◌∷◌, ◌++◌, length, map, Option, Some, None, slice_get, refl}
use Rattle.std.proofs.Common.{sym, ◌∙◌, ap, subst, arith}
use Rattle.std.specs.Int.{int_wrap, w128}
use lib.IntN.{◌+ℤ◌}
use Rattle.std.proofs.lemmas.Int.{int_wrap-add_left, int_wrap-add_right, SFits-int_wrap}
use Rattle.cw_facts.specs.Integers.{max_regroup}
use Rattle.cw_model.specs.declared.syntax.Reduction.{Reduction}
use Rattle.cw_model.specs.declared.syntax.Reduction.TheVariants.{Sum, Max}
use Rattle.cw_model.specs.declared.total.Total.{Total}
use Rattle.cw_model.specs.declared.trap.Trap.{Trap}
use Rattle.cw_model.specs.Syntax.{Name}
use Rattle.cw_model.specs.Names.{same_name}
use Rattle.cw_model.specs.declared.burden.Burden.{Burden}
use Rattle.cw_model.specs.Trees.{Event, tree_of}
use Rattle.cw_model.specs.Answers.{or_max, sum_to, maximum_to, total_to}
use Rattle.cw_model.specs.Outcome.{Trace}
use Rattle.cw_code.specs.declared.code.Reducer.{Reducer}
use Rattle.cw_code.specs.Code.{Code}
use Rattle.cw_code.specs.Run.{State}
use Rattle.cw_measure.specs.Measured.{Measured, measure_of, most, most_burdened, MeasuresReadTrees, ReadsTree}
use Rattle.cw_measure.specs.Measured as measured
use Rattle.cw_measure.specs.Counters.{up_to, onward, heaviest}
use Rattle.cw_reduce.specs.Words.{Word, plus, word_of}
use Rattle.cw_reduce.specs.ReducerState.{ReducerState, Summed, Raised, held, held_joined}
use Rattle.cw_reduce.specs.Maximum.{greater}
use Rattle.cw_reduce.specs.PieceResults.{totals_joined}
use Rattle.cw_reduce.specs.SumsOfIntegers.{SumsHoldIntegers}
use Rattle.cw_reduce.specs.ShownLaws.{same_shown}
use Rattle.cw_code.specs.Jobs.{JoinFrame, Effect, Ended, Joined, TrapIn, OverLimit}
use Rattle.cw_code.specs.Jobs as jobs
use Rattle.cw_code.specs.Strands.{HasStopped, resumed, stopped_after, dropped}
use Rattle.cw_jobs.specs.Totals.{kept, HoldsTotals}
use Rattle.cw_jobs.specs.lemmas.Totals.{sum_append}
use Rattle.cw_part.specs.declared.read.Read.{Read}
use Rattle.cw_part.specs.Parts.{Came, Completed, Trapped, Over, Memory, followed}
use Rattle.cw_part.specs.Read.{read_joined, readings}
use Rattle.cw_part.specs.Effects.{EffectsShowViews, RunsReadAsMeasures, totals_after, HasRead, HasSpans, IsOutcome, EffectsFollow}
use Rattle.cw_part.proofs.ElisionLaws.{NormalsReadTheSame, reads_normal}

max_after : (v : ℤ) (x y : Option ℤ) → greater (Some (or_max v x)) y ≡ Some (or_max v (greater x y))
max_after v None y = refl
max_after v (Some w) None = refl
max_after v (Some w) (Some u) = ap (λ (z : ℤ). Some z) (max_regroup v w u)

maximum_append : (name : Name) (a b : List (Name × ℤ)) → maximum_to name (a ++ b) ≡ greater (maximum_to name a) (maximum_to name b)
maximum_append name [] b = refl
maximum_append name (x ∷ a) b = by_test (same_name name x.0) (maximum_append name a b)
  where
    by_test : (c : Bool) → maximum_to name (a ++ b) ≡ greater (maximum_to name a) (maximum_to name b)
        → (if c then Some (or_max x.1 (maximum_to name (a ++ b))) else maximum_to name (a ++ b))
        ≡ greater (if c then Some (or_max x.1 (maximum_to name a)) else maximum_to name a) (maximum_to name b)
    by_test true h = ap (λ (z : Option ℤ). Some (or_max x.1 z)) h ∙ sym (max_after x.1 (maximum_to name a) (maximum_to name b))
    by_test false h = h

module _ (law : SumsHoldIntegers) where
  sum_both : (a b : ℤ) → word_of (int_wrap w128 (a +ℤ b)) ≡ plus (word_of (int_wrap w128 a)) (word_of (int_wrap w128 b))
  sum_both a b =
      sym (law.adds (int_wrap w128 a) (int_wrap w128 b) (SFits-int_wrap w128 a) (SFits-int_wrap w128 b)
      ∙ ap word_of (int_wrap-add_left w128 a (int_wrap w128 b) ∙ int_wrap-add_right w128 a b))

  -- what is held of a reducer over two pieces
  total_both : (how : Reduction) (name : Name) (a b : List (Name × ℤ))
      → held (kept (total_to how name (a ++ b))) ≡ held_joined (held (kept (total_to how name a))) (held (kept (total_to how name b)))
  total_both Sum name a b =
      ap (λ (z : ℤ). Summed (word_of (int_wrap w128 z))) (sum_append name a b)
      ∙ ap (λ (w : Word). Summed w) (sum_both (sum_to name a) (sum_to name b))
  total_both Max name a b = ap (λ (z : Option ℤ). Raised z) (maximum_append name a b)

  abbrev all_told : List Reducer → List (Name × ℤ) → List Total
  all_told reducers updates = map (λ r. kept (total_to r.how r.name updates)) reducers

  all_both : (reducers : List Reducer) (a b : List (Name × ℤ))
      → map held (all_told reducers (a ++ b)) ≡ totals_joined (map held (all_told reducers a)) (map held (all_told reducers b))
  all_both [] a b = refl
  all_both (r ∷ reducers) a b =
      ap (λ (h : ReducerState). h ∷ map held (all_told reducers (a ++ b))) (total_both r.how r.name a b)
      ∙ ap (λ (hs : List ReducerState). held_joined (held (kept (total_to r.how r.name a))) (held (kept (total_to r.how r.name b))) ∷ hs) (all_both reducers a b)

-- totals that are known place by place
some_same : (x y : Total) → Some x ≡ Some y → x ≡ y
some_same x y e = cc

known_all : (f : Reducer → Total) (reducers : List Reducer) (totals : List Total) → length totals ≡ length reducers
    → ((k : ℕ) (r : Reducer) → slice_get reducers k ≡ Some r → slice_get totals k ≡ Some (f r)) → totals ≡ map f reducers
known_all f [] [] e h = refl
known_all f [] (t ∷ totals) e h = absurd (omega (arith, e))
known_all f (r ∷ reducers) [] e h = absurd (omega (arith, e))
known_all f (r ∷ reducers) (t ∷ totals) e h =
    ap (λ (x : Total). x ∷ totals) (some_same t (f r) (h 0 r refl))
    ∙ ap (λ (xs : List Total). f r ∷ xs) (known_all f reducers totals (omega (arith, e)) (λ k q i. h (suc k) q i))

totals_known : (code : Code) (totals : List Total) (updates : List (Name × ℤ)) → HoldsTotals code totals updates
    → totals ≡ map (λ r. kept (total_to r.how r.name updates)) code.reducers
totals_known code totals updates h = known_all (λ r. kept (total_to r.how r.name updates)) code.reducers totals h.as_many h.are

pub effects_show_views : SumsHoldIntegers → EffectsShowViews
effects_show_views law code a b both t u m n k h i j =
    let totals : map held both.totals.items ≡ totals_joined (map held a.totals.items) (map held b.totals.items) =
    ap (map held) (totals_known code both.totals.items (t.updates ++ u.updates) j.totals)
    ∙ all_both law code.reducers t.updates u.updates
    ∙ sym (ap (λ (x : List Total). totals_joined (map held x) (map held b.totals.items)) (totals_known code a.totals.items t.updates h.totals)
    ∙ ap (λ (x : List Total). totals_joined (map held (map (λ r. kept (total_to r.how r.name t.updates)) code.reducers)) (map held x)) (totals_known code b.totals.items u.updates i.totals)) in
    let lines : both.lines.items ≡ a.lines.items ++ b.lines.items =
    j.lines ∙ sym (ap (λ (x : List ℤ). x ++ b.lines.items) h.lines ∙ ap (λ (x : List ℤ). t.lines ++ x) i.lines) in
    same_shown totals lines

-- what is read off the tree of a run
pub runs_read_as_measures : MeasuresReadTrees → NormalsReadTheSame → RunsReadAsMeasures
runs_read_as_measures law same burden es fs m n r h i a =
    let both : measured.joined m n ≡ measure_of burden (es ++ fs) =
    ap (λ (x : Measured). measured.joined x n) h ∙ ap (measured.joined (measure_of burden es)) i ∙ sym (law.pieces burden es fs) in
    let P : Measured → Type 0 = λ x. ReadsTree burden x (tree_of (es ++ fs)) in
    let reads = reads_normal same burden (measured.joined m n) 0 (tree_of (es ++ fs)) (subst P (sym both) (law.reads burden (es ++ fs))) in
    record {
      work = reads.work_is ∙ ap (min most) (sym a.work);
      span = reads.span_is ∙ ap (min most) (sym a.span);
      burdened = reads.burdened_is ∙ ap (min most_burdened) (sym a.burdened);
    }

-- one effect behind another
lines_both : (a b : Read) (xs ys : List ℤ) → a.views.lines ≡ xs → b.views.lines ≡ ys → (read_joined a b).views.lines ≡ xs ++ ys
lines_both a b xs ys e f = ap (λ (l : List ℤ). l ++ b.views.lines) e ∙ ap (λ (l : List ℤ). xs ++ l) f

work_both : (a b : Read) (m n : ℕ) → a.measure.work ≡ min most m → b.measure.work ≡ min most n → (read_joined a b).measure.work ≡ min most (m + n)
work_both a b m n e f = omega arith

module _ (held_law : SumsHoldIntegers) (law : MeasuresReadTrees) (code : Code) (burden : Burden) where
  totals_both : (t u : List (Name × ℤ)) → totals_after code (t ++ u) ≡ totals_joined (totals_after code t) (totals_after code u)
  totals_both t u = all_both held_law code.reducers t u

  measured_both : (es fs : List Event) → measured.joined (measure_of burden es) (measure_of burden fs) ≡ measure_of burden (es ++ fs)
  measured_both es fs = sym (law.pieces burden es fs)

  plain_both : (m n : Measured) (es fs : List Event) → m.plain ≡ (measure_of burden es).plain → n.plain ≡ (measure_of burden fs).plain
      → (measured.joined m n).plain ≡ (measure_of burden (es ++ fs)).plain
  plain_both m n es fs h i =
      ap (λ c. onward (up_to most) c n.plain) h ∙ ap (onward (up_to most) (measure_of burden es).plain) i ∙ ap (λ x. x.plain) (measured_both es fs)

  burdened_both : (m n : Measured) (es fs : List Event) → m.burdened ≡ (measure_of burden es).burdened → n.burdened ≡ (measure_of burden fs).burdened
      → (measured.joined m n).burdened ≡ (measure_of burden (es ++ fs)).burdened
  burdened_both m n es fs h i =
      ap (λ c. onward (up_to most_burdened) c n.burdened) h ∙ ap (onward (up_to most_burdened) (measure_of burden es).burdened) i ∙ ap (λ x. x.burdened) (measured_both es fs)

  read_both : (s : State) (count : ℕ) (frame : JoinFrame) (t : Trace) (cost : ℕ) (a b : Read) → HasRead code burden a s.trace count
      → HasRead code burden b t cost → HasRead code burden (read_joined a b) (resumed s frame t).trace (count + cost)
  read_both s count frame t cost a b h i = record {
    lines = lines_both a b s.trace.lines t.lines h.lines i.lines;
    totals = ap (λ x. totals_joined x b.views.totals) h.totals ∙ ap (totals_joined (totals_after code s.trace.updates)) i.totals
        ∙ sym (totals_both s.trace.updates t.updates);
    work = work_both a b count cost h.work i.work;
    plain = plain_both a.measure b.measure s.trace.events t.events h.plain i.plain;
    burdened = burdened_both a.measure b.measure s.trace.events t.events h.burdened i.burdened;
  }

  read_spans : (a : Read) (t : Trace) (cost : ℕ) → HasRead code burden a t cost → HasSpans burden a.measure (tree_of t.events)
  read_spans a t cost h =
      let reads = law.reads burden t.events in
      record {
        span = ap (heaviest (up_to most)) h.plain ∙ reads.span_is;
        burdened = ap (heaviest (up_to most_burdened)) h.burdened ∙ reads.burdened_is;
      }

module _ (code : Code) (burden : Burden) where
  stops_so : (s : State) (count : ℕ) (e : Effect) (a : Read) (c : Came Read) → HasStopped e → HasRead code burden a s.trace count
      → IsOutcome code burden e c → IsOutcome code burden (stopped_after s count e) (followed readings (Completed a) c)
  stops_so s count (Ended value arrays t cost) a c stopped h i = absurd stopped
  stops_so s count (Joined frame t cost) a c stopped h i = absurd stopped
  stops_so s count (TrapIn trap line lines cost) a (Trapped trap' line' b) stopped h i =
      (i.0, i.1, lines_both a b s.trace.lines lines h.lines i.2, work_both a b count cost h.work i.3)
  stops_so s count OverLimit a Over stopped h i = tt
  stops_so s count jobs.Memory a Memory stopped h i = tt
  stops_so s count _ a _ stopped h i = absurd i

  behind_trap : (e rest : Effect) (trap : Trap) (line : ℕ) (a : Read) (d : Came Read) → IsOutcome code burden e (Trapped trap line a)
      → IsOutcome code burden rest d → IsOutcome code burden (dropped e rest) (followed readings (Trapped trap line a) d)
  behind_trap e (Ended value arrays t cost) trap line a (Completed b) h i = h
  behind_trap e (Joined frame t cost) trap line a (Completed b) h i = h
  behind_trap e (TrapIn trap' line' lines cost) trap line a (Trapped trap'' line'' b) h i = h
  behind_trap e OverLimit trap line a Over h i = h
  behind_trap e jobs.Memory trap line a Memory h i = tt
  behind_trap e _ trap line a _ h i = absurd i

  behind_limit : (rest : Effect) (d : Came Read) → IsOutcome code burden rest d → IsOutcome code burden (dropped OverLimit rest) (followed readings Over d)
  behind_limit (Ended value arrays t cost) (Completed b) i = tt
  behind_limit (Joined frame t cost) (Completed b) i = tt
  behind_limit (TrapIn trap line lines cost) (Trapped trap' line' b) i = tt
  behind_limit OverLimit Over i = tt
  behind_limit jobs.Memory Memory i = tt
  behind_limit _ _ i = absurd i

  behind_memory : (rest : Effect) → IsOutcome code burden (dropped jobs.Memory rest) Memory
  behind_memory (Ended value arrays t cost) = tt
  behind_memory (Joined frame t cost) = tt
  behind_memory (TrapIn trap line lines cost) = tt
  behind_memory OverLimit = tt
  behind_memory jobs.Memory = tt

  drops_so : (e rest : Effect) (c d : Came Read) → HasStopped e → IsOutcome code burden e c → IsOutcome code burden rest d
      → IsOutcome code burden (dropped e rest) (followed readings c d)
  drops_so (Ended value arrays t cost) rest c d stopped h i = absurd stopped
  drops_so (Joined frame t cost) rest c d stopped h i = absurd stopped
  drops_so (TrapIn trap line lines cost) rest (Trapped trap' line' a) d stopped h i = behind_trap (TrapIn trap line lines cost) rest trap' line' a d h i
  drops_so OverLimit rest Over d stopped h i = behind_limit rest d i
  drops_so jobs.Memory rest Memory d stopped h i = behind_memory rest
  drops_so _ rest _ d stopped h i = absurd h

pub effects_follow : SumsHoldIntegers → MeasuresReadTrees → EffectsFollow
effects_follow held_law law = record { goes_on = read_both held_law law; stops = stops_so; drops = drops_so; spans = read_spans held_law law }
