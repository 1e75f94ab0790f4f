-- A rest that is taken back runs as it would in a strand of its own.
use Rattle.std.proofs.Common.{◌≡◌, ℕ, ◌+◌, Bool, true, false, ◌&&◌, List, [], ◌∷◌, ◌++◌, Option, Some, refl, sym, ap, ◌∙◌, subst, arith}
use Rattle.std.specs.Prelude.{slice_get, nat_lt, if◌then◌else◌}
use Rattle.std.proofs.Math.Bool.{and-false}
use Rattle.cw_facts.specs.Tests.{not_below}
use Rattle.cw_code.specs.declared.code.Instr.{Instr}
use Rattle.cw_code.specs.declared.code.Instr.TheVariants as instr
use Rattle.cw_code.specs.Code.{Code}
use Rattle.cw_code.specs.Run.{Around, Caller, Block, State, Transition, On, Ends, Stops, Stuck, step}
use Rattle.cw_code.specs.Jobs.{Extent, WholeCall, ToJoin, joins, is_first, has_come, Job, Joined, OverLimit, TrapIn, standing}
use Rattle.cw_code.specs.Over.{beneath, under, transition_under}
use Rattle.cw_code.specs.Strands.{Going, Halted, Turn, Goes, HandsOut, ComesBack, turn_of, turn}
use Rattle.cw_code.specs.Steps.{Advanced, Ran, advance, finished, turned, went_on}
use Rattle.cw_code.specs.RestLaws.{Cut, onwards}
use Rattle.cw_code.specs.lemmas.Under.{act_under}
use Rattle.cw_code.specs.lemmas.Rests.{GoesOn, act_goes}
use Rattle.cw_sched.specs.core.TakeBack.{Alike, RunsAlike, JoinsAlike}

turn_under : (code : Code) (b : State) (o : Option Instr) (around : List Around) → (is_first around && joins o) ≡ false → turn_of code o (beneath b around) ≡ turn_of code o around
turn_under code b (Some instr.ReturnValue) [] h = cc
turn_under code b (Some instr.ReturnValue) (Caller w ∷ []) h = refl
turn_under code b (Some instr.ReturnValue) (Caller w ∷ (a ∷ around)) h = refl
turn_under code b (Some instr.ReturnValue) (Block o ∷ []) h = refl
turn_under code b (Some instr.ReturnValue) (Block o ∷ (a ∷ around)) h = refl
turn_under code b (Some instr.Return) [] h = cc
turn_under code b (Some instr.Return) (Caller w ∷ []) h = refl
turn_under code b (Some instr.Return) (Caller w ∷ (a ∷ around)) h = refl
turn_under code b (Some instr.Return) (Block o ∷ []) h = refl
turn_under code b (Some instr.Return) (Block o ∷ (a ∷ around)) h = refl
turn_under code b _ around h = refl

come_under : (x : Extent) (code : Code) (b s : State) → has_come ToJoin code s ≡ false → has_come x code (under b s) ≡ false
come_under WholeCall code b s h = refl
come_under ToJoin code b s h = cases s.around h
  where
    o : Option Instr
    o = slice_get code.instrs s.place

    cases : (around : List Around) → (is_first around && joins o) ≡ false → (is_first (beneath b around) && joins o) ≡ false
    cases [] k = ap (λ j. is_first b.around && j) k ∙ and-false (is_first b.around)
    cases (a ∷ around) k = refl

module _ (code : Code) (b : State) (count n : ℕ) (rest job : Job) (s : State) (outs outs' : List Job) where
  turns : (t : Turn) (s' : State) → Alike b count (turned t s s' rest.limit rest.before (n + 1) outs) (turned t (under b s) (under b s') job.limit job.before ((count + n) + 1) outs')
  turns Goes s' = (refl, omega arith)
  turns (HandsOut target taken) s' = (refl, omega arith, record { extent = refl; place = refl; slots = refl; arrays = refl; readers = refl; depth = refl })
  turns ComesBack s' = (refl, omega arith)

  goes : (t : Turn) (w : Transition) → GoesOn w → Alike b count (went_on t s w rest.limit rest.before (n + 1) outs)
      (went_on t (under b s) (transition_under b w) job.limit job.before ((count + n) + 1) outs')
  goes t (On s') h = turns t s'
  goes t (Ends v arrays u) h = absurd h
  goes t (Stops trap line lines) h = let e : (count + n) + 1 ≡ count + (n + 1) = omega arith in ap (λ k. TrapIn trap line (b.trace.lines ++ lines) k) e
  goes t Stuck h = tt

pub runs_alike : RunsAlike
runs_alike code rest job b s count n outs outs' is h within within' =
    subst (λ a. Alike b count a (advance code job (Going (under b s) (count + n) outs'))) (sym mine)
    (subst (λ a. Alike b count (went_on (turn code s) s (step code s) rest.limit rest.before (n + 1) outs) a) (sym theirs)
    (goes code b count n rest job s outs outs' (turn code s) (step code s) (act_goes code s (slice_get code.instrs s.place) h)))
  where
    picks : (c d : Bool) (x y z : Advanced) → c ≡ false → d ≡ false → (if c then x else (if d then y else z)) ≡ z
    picks false false x y z e f = refl
    picks true d x y z e f = cc
    picks false true x y z e f = cc

    mine : advance code rest (Going s n outs) ≡ went_on (turn code s) s (step code s) rest.limit rest.before (n + 1) outs
    mine = picks (has_come rest.extent code s) (nat_lt rest.limit (rest.before + (n + 1))) (finished outs (Joined (standing s) s.trace n))
        (Ran (Halted OverLimit outs)) _ (ap (λ x. has_come x code s) is ∙ h) (not_below rest.limit (rest.before + (n + 1)) within)

    moves : went_on (turn code (under b s)) (under b s) (step code (under b s)) job.limit job.before ((count + n) + 1) outs'
        ≡ went_on (turn code s) (under b s) (transition_under b (step code s)) job.limit job.before ((count + n) + 1) outs'
    moves = ap (λ t. went_on t (under b s) (step code (under b s)) job.limit job.before ((count + n) + 1) outs') (turn_under code b (slice_get code.instrs s.place) s.around h)
        ∙ ap (λ w. went_on (turn code s) (under b s) w job.limit job.before ((count + n) + 1) outs') (act_under b ToJoin code s (slice_get code.instrs s.place) h)

    theirs : advance code job (Going (under b s) (count + n) outs') ≡ went_on (turn code s) (under b s) (transition_under b (step code s)) job.limit job.before ((count + n) + 1) outs'
    theirs = picks (has_come job.extent code (under b s)) (nat_lt job.limit (job.before + ((count + n) + 1)))
        (finished outs' (Joined (standing (under b s)) (under b s).trace (count + n))) (Ran (Halted OverLimit outs')) _
        (come_under job.extent code b s h) (not_below job.limit (job.before + ((count + n) + 1)) within') ∙ moves

pub joins_alike : ((code : Code) → Cut code) → JoinsAlike
joins_alike cut code y s limit before n left frame t none arrives = (cut code).rest y s limit before n none ∙ ap (onwards code y s) arrives
