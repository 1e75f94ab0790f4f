-- The joined part of pieces of the elision's run tells the serial answer.
use Rattle.std.specs.Prelude.{◌≡◌, ℕ, suc, ℤ, ◌≤◌, nat_lt, min, pos, ◌+ℤ◌, if◌then◌else◌, Bool, true, false, ◌==◌, List, [], ◌∷◌, map, ◌-◌, Some, refl}
use Rattle.std.proofs.Common.{sym, ◌∙◌, ap, subst, inl, inr, ⊎_elim, arith}
use Rattle.std.specs.Int.{cast_signed, int_wrap, w128}
use Rattle.std.specs.Int.RustNames.{FitsSigned}
use Rattle.std.proofs.lemmas.Int.{int_wrap_fits, int_wrap-add_right, SFits-int_wrap}
use Rattle.cw_facts.specs.Tests.{below}
use Rattle.cw_model.specs.Burdens.{no_burden}
use Rattle.cw_model.specs.declared.burden.Burden.{Burden}
use Rattle.cw_model.specs.declared.syntax.Reduction.{Reduction}
use Rattle.cw_model.specs.declared.syntax.Reduction.TheVariants.{Sum, Max}
use Rattle.cw_model.specs.declared.total.Total.TheVariants as total
use Rattle.cw_model.specs.declared.trap.Trap.{Trap}
use Rattle.cw_model.specs.Syntax.{Name, Reducer, Program}
use Rattle.cw_model.specs.Trees.{Tree, Invocation, Marked, tree_of, normal}
use Rattle.cw_model.specs.TreeLaws.{ReadSame}
use Rattle.cw_model.specs.Names.{same_name}
use Rattle.cw_model.specs.Outcome.{Trace, Outcome, Done, Piece}
use Rattle.cw_model.specs.Outcome as model
use Rattle.cw_model.specs.Meaning.{Returned, Deeper}
use Rattle.cw_model.specs.Answers.{Answer, OverLimit, TrappedAt, answer_of, or_max, sum_to, maximum_to, total_to, int_given, serial_answer}
use Rattle.cw_measure.specs.Measured.{most, most_burdened, Measured, MeasuresReadTrees, ReadsTree}
use Rattle.cw_reduce.specs.Words.{Word, nothing, plus, word_of}
use Rattle.cw_reduce.specs.WordLaws.{plus-last}
use Rattle.cw_reduce.specs.ReducerState.{ReducerState, Summed, Raised, held_joined, as_total}
use Rattle.cw_reduce.specs.SumsOfIntegers.{SumsHoldIntegers}
use Rattle.cw_part.specs.declared.read.Read.{Read}
use Rattle.cw_part.specs.Parts.{Came, Completed, Trapped, Over, over_if, within}
use Rattle.cw_part.specs.Runs.{Run, Numbering, cost, traces, serial, told_so, RepresentsTrace, RepresentsOutcome, RanAlike, TrappedAlike, OverAlike}
use Rattle.cw_part.specs.PieceRuns.{OfCall, Exit, IsRunOf}
use Rattle.cw_part.specs.Elision.{elision, TellsAnswer, EndedSo, TrappedSo, OverSo, ElisionIsARun, RunGivesTheAnswers, PiecesAreTheElision, AllFit, UpdatesAreTotals, wrapped}
use Rattle.cw_part.proofs.RunLaws.{serial_is}
use Rattle.cw_part.proofs.StandingLaws as cut
use Rattle.cw_part.proofs.PieceTellingLaws.{tested, Comes, Ending, Trapping, Passing, run_comes, runs_tell_of_pieces}
use Rattle.cw_part.proofs.PieceRunLaws.{calls_are_runs}
use Rattle.cw_part.proofs.BoundLaws.{bounds_agree}

pub elision_is_a_run : ElisionIsARun
elision_is_a_run program args limit = calls_are_runs _ _ _ _ _ _ _ limit

-- trees that read the same have the same measure
abbrev pub NormalsReadTheSame : Type 0
NormalsReadTheSame = (t : Tree) → ReadSame (normal t) t

pub reads_normal : NormalsReadTheSame → (burden : Burden) (m : Measured) (site : ℕ) (t : Tree) → ReadsTree burden m t → ReadsTree burden m (normal (Marked (Invocation site) t))
reads_normal same burden m site t r =
    let s = same (Marked (Invocation site) t) in
    record {
      work_is = r.work_is ∙ ap (min most) (sym s.same_work);
      span_is = r.span_is ∙ ap (min most) (sym (s.same_span no_burden));
      burdened_is = r.burdened_is ∙ ap (min most_burdened) (sym (s.same_span burden));
    }

reads_events : MeasuresReadTrees → NormalsReadTheSame → (burden : Burden) (numbering : Numbering) (t : Trace) (a : Read)
    → RepresentsTrace burden numbering t a → ReadsTree burden a.measure (normal (Marked (Invocation 0) (tree_of t.events)))
reads_events law same burden numbering t a h =
    let P : Measured → Type 0 = λ m. ReadsTree burden m (tree_of t.events) in
    reads_normal same burden a.measure 0 (tree_of t.events) (subst P (sym h.measure) (law.reads burden t.events))

-- the answer within a lesser limit
answer_within : (program : Program) (args : List ℤ) (limit left : ℕ) → left ≤ limit → serial_answer program args left ≡ answer_of program.reducers (elision program args limit left)
unfolding serial_answer
answer_within program args limit left l = ap (answer_of program.reducers) (bounds_agree (suc left) (suc limit) 0 program.functions Deeper _ _ _ left (omega arith) (omega arith))

pub run_gives_the_answers : RunGivesTheAnswers
run_gives_the_answers program args limit left run exit d l =
    answer_within program args limit left l
    ∙ ap (answer_of program.reducers) (runs_tell_of_pieces OfCall limit left (elision program args limit) run exit d l)

trap_answered : (reducers : List Reducer) (b : Bool) (trap : Trap) (line : ℕ) (lines : List ℤ)
    → answer_of reducers (if b then model.Over else model.Trapped trap line lines) ≡ (if b then OverLimit else TrappedAt trap line lines)
trap_answered reducers true trap line lines = refl
trap_answered reducers false trap line lines = refl

module _ (law : MeasuresReadTrees) (same : NormalsReadTheSame) (burden : Burden) (numbering : Numbering) (program : Program) (args : List ℤ) (limit : ℕ) where
  abbrev Tracks : Outcome Returned → Came Read → Type 0
  Tracks o c = TellsAnswer burden numbering program args limit (answer_of program.reducers o) c

  abbrev piece : Piece Returned
  piece = elision program args limit

  ended_so : (returned : Returned) (left : ℕ) {t : Trace} {c : Came Read} → piece limit ≡ Done returned left t → RepresentsOutcome burden numbering (Completed t) c → Tracks (Done returned left t) c
  ended_so returned left e (RanAlike t a h) =
      EndedSo (int_given returned.0) t.lines (map (λ r. total_to r.how r.name t.updates) program.reducers) (normal (Marked (Invocation 0) (tree_of t.events))) a
      (record { returned = returned; left = left; trace = t; ends = e; printed = h.lines; reduced = refl; kept = h.totals; measured = reads_events law same burden numbering t a h })

  over_so : {c : Came Read} → RepresentsOutcome burden numbering Over c → Tracks model.Over c
  over_so OverAlike = OverSo

  trapped_so : {trap : Trap} {line : ℕ} {t : Trace} {c : Came Read} → ((n : ℕ) → n ≤ limit → piece n ≡ tested n (cost t) (λ k. model.Trapped trap line t.lines))
      → RepresentsOutcome burden numbering (Trapped trap line t) c → Tracks (model.Trapped trap line t.lines) c
  trapped_so f (TrappedAlike trap line t a h) =
      TrappedSo trap line t.lines a (record {
        printed = h.lines;
        cost = cost t;
        measured = h.work;
        comes = λ n l.
            answer_within program args limit n l ∙ ap (answer_of program.reducers) (f n l)
            ∙ trap_answered program.reducers (nat_lt n (cost t)) trap line t.lines;
      })

  -- how the elision came out within the limit
  tells : {exit : Exit OfCall} {x : Came Trace} (c : Came Read) → Comes OfCall limit piece exit x → RepresentsOutcome burden numbering (within traces limit x) c → Tracks (piece limit) c
  tells c (Ending a left t e f) h =
      let g = f limit (omega arith) in
      subst (λ o. Tracks o c) (sym g) (by_test (nat_lt limit (cost t)) g h)
    where
      by_test : (b : Bool) → piece limit ≡ (if b then model.Over else Done a (limit - cost t) t)
          → RepresentsOutcome burden numbering (over_if b (Completed t)) c → Tracks (if b then model.Over else Done a (limit - cost t) t) c
      by_test true g k = over_so k
      by_test false g k = ended_so a (limit - cost t) g k
  tells c (Trapping trap line t f) h =
      subst (λ o. Tracks o c) (sym (f limit (omega arith))) (by_test (nat_lt limit (cost t)) h)
    where
      by_test : (b : Bool) → RepresentsOutcome burden numbering (over_if b (Trapped trap line t)) c → Tracks (if b then model.Over else model.Trapped trap line t.lines) c
      by_test true k = over_so k
      by_test false k = trapped_so f k
  tells c (Passing t d f) h =
      let Q : Bool → Type 0 = λ b. RepresentsOutcome burden numbering (over_if b (Completed t)) c in
      subst (λ o. Tracks o c) (sym (f limit (omega arith))) (over_so (subst Q (below limit (cost t) d) h))

  tells_serial : (run : Run) (exit : Exit OfCall) (c : Came Read) → IsRunOf OfCall limit piece run exit → RepresentsOutcome burden numbering (serial limit run) c
      → TellsAnswer burden numbering program args limit (serial_answer program args limit) c
  tells_serial run exit c d h =
      let P : Came Trace → Type 0 = λ z. RepresentsOutcome burden numbering z c in
      let Q : Answer → Type 0 = λ z. TellsAnswer burden numbering program args limit z c in
      subst Q (sym (answer_within program args limit limit (omega arith))) (tells c (run_comes d) (subst P (serial_is run limit) h))

pub pieces_are_the_elision : MeasuresReadTrees → NormalsReadTheSame → PiecesAreTheElision
pieces_are_the_elision law same burden numbering program args limit run exit p b d j =
    let r = cut.pieces_are_the_run law burden numbering limit run p b j in
    (r.0, ⊎_elim (λ refused. inl refused) (λ told. inr (tells_serial law same burden numbering program args limit run exit p.came d told)) r.1)

-- what a reducer was told
zero_fits : FitsSigned w128 (pos 0)
zero_fits = record { sfits = omega arith }

-- the sum that is held, and with a number more
abbrev sum_held : ReducerState → Word
sum_held (Summed w) = w
sum_held (Raised v) = nothing

one_more : (w : Word) (h : ReducerState) → sum_held (held_joined (Summed w) h) ≡ plus w (sum_held h)
one_more w (Summed b) = refl
one_more w (Raised v) = sym (plus-last w)

module _ (law : SumsHoldIntegers) (number : Name → ℕ) (reducer : Name) (mine : (x : Name) → (number x == number reducer) ≡ same_name reducer x) where
  abbrev all_told : Reduction → List (Name × ℤ) → ReducerState
  all_told how updates = told_so how number (number reducer) updates

  told_sum : (updates : List (Name × ℤ)) → AllFit updates → sum_held (all_told Sum updates) ≡ word_of (int_wrap w128 (sum_to reducer updates))
  told_sum [] h = ap word_of (sym (int_wrap_fits w128 (pos 0) zero_fits))
  told_sum (x ∷ more) h =
      ap (λ (b : Bool). sum_held (if b then held_joined (Summed (word_of x.1)) (all_told Sum more) else all_told Sum more)) (mine x.0)
      ∙ by_test (same_name reducer x.0) (told_sum more h.1)
    where
      by_test : (b : Bool) → sum_held (all_told Sum more) ≡ word_of (int_wrap w128 (sum_to reducer more))
          → sum_held (if b then held_joined (Summed (word_of x.1)) (all_told Sum more) else all_told Sum more)
          ≡ word_of (int_wrap w128 (if b then x.1 +ℤ sum_to reducer more else sum_to reducer more))
      by_test false i = i
      by_test true i =
          one_more (word_of x.1) (all_told Sum more) ∙ ap (plus (word_of x.1)) i
          ∙ law.adds x.1 (int_wrap w128 (sum_to reducer more)) h.0 (SFits-int_wrap w128 (sum_to reducer more))
          ∙ ap word_of (int_wrap-add_right w128 x.1 (sum_to reducer more))

  told_greatest : (updates : List (Name × ℤ)) → all_told Max updates ≡ Raised (maximum_to reducer updates)
  told_greatest [] = refl
  told_greatest (x ∷ more) =
      ap (λ (b : Bool). if b then held_joined (Raised (Some x.1)) (all_told Max more) else all_told Max more) (mine x.0)
      ∙ by_test (same_name reducer x.0) (told_greatest more)
    where
      by_test : (b : Bool) → all_told Max more ≡ Raised (maximum_to reducer more)
          → (if b then held_joined (Raised (Some x.1)) (all_told Max more) else all_told Max more)
          ≡ Raised (if b then Some (or_max x.1 (maximum_to reducer more)) else maximum_to reducer more)
      by_test false i = i
      by_test true i = ap (held_joined (Raised (Some x.1))) i

  -- a sum that is held, as it is read
  sum_as : (h : ReducerState) → as_total Sum h ≡ total.Sum (cast_signed w128 (sum_held h).bits)
  sum_as (Summed w) = refl
  sum_as (Raised v) = ap (λ (z : ℤ). total.Sum z) (sym (law.reads (pos 0) zero_fits))

  told_total : (how : Reduction) (updates : List (Name × ℤ)) → AllFit updates → as_total how (all_told how updates) ≡ wrapped (total_to how reducer updates)
  told_total Sum updates h =
      let s = int_wrap w128 (sum_to reducer updates) in
      sum_as (all_told Sum updates)
      ∙ ap (λ (w : Word). total.Sum (cast_signed w128 w.bits)) (told_sum updates h)
      ∙ ap (λ (z : ℤ). total.Sum z) (law.reads s (SFits-int_wrap w128 (sum_to reducer updates)))
  told_total Max updates h = ap (as_total Max) (told_greatest updates)

pub updates_are_totals : SumsHoldIntegers → UpdatesAreTotals
updates_are_totals law numbering how reducer updates e mine h =
    let q = numbering.number reducer in
    ap (λ (r : Reduction). as_total how (told_so r numbering.number q updates)) e
    ∙ told_total law numbering.number reducer mine how updates h
