-- The division of a run: up to the join, then from the join after pending results went back into their slots.
use Rattle.std.proofs.Common.{◌≡◌, ℕ, zero, suc, ℤ, Bool, true, false, ◌&&◌, if◌then◌else◌, Option, Some, List, [], ◌∷◌, ◌++◌, refl, sym, ap, ◌∙◌, subst}
use Rattle.std.specs.Prelude.{slice_get}
use Rattle.cw_facts.specs.Tests.{second_false, taken, not_taken}
use Rattle.cw_model.specs.Outcome.{Trace, joined}
use Rattle.cw_code.specs.declared.code.Instr.{Instr}
use Rattle.cw_code.specs.declared.code.Instr.TheVariants as instr
use Rattle.cw_code.specs.Code.{Code}
use Rattle.cw_code.specs.Run.{Slots, Around, Caller, Block, State, Transition, On, Ends, Stops, Stuck, synced, settled, put_in, back, act, step}
use Rattle.cw_code.specs.lemmas.Acts.{returning}
use Rattle.cw_code.specs.lemmas.Slots.{settled_append}
use Rattle.cw_code.specs.Jobs.{Extent, WholeCall, ToJoin, joins, is_first, has_come, standing, Arrives, Beyond, moved, travel}
use Rattle.cw_code.specs.Strands.{resumed}
use Rattle.cw_code.specs.RestLaws.{onwards}
use Rattle.cw_code.specs.Over.{under, transition_under}
use Rattle.cw_code.specs.lemmas.StrandActs.{acts_by}
use Rattle.cw_code.specs.lemmas.Under.{HasCaller, IsCall, Allowed, act_under}

-- the depth of the call in which a run began
abbrev pub base_of : ℕ → List Around → ℕ
base_of depth [] = depth
base_of depth (Caller w ∷ around) = base_of w.depth around
base_of depth (Block o ∷ around) = base_of depth around

abbrev pub Based : ℕ → State → Type 0
Based d s = base_of s.depth s.around ≡ d

abbrev pub TransitionBased : ℕ → Transition → Type 0
TransitionBased d (On s) = Based d s
TransitionBased d (Ends v arrays t) = Unit {0}
TransitionBased d (Stops trap line lines) = Unit {0}
TransitionBased d Stuck = Unit {0}

module _ (d : ℕ) where
  back_based : (depth : ℕ) (around : List Around) (v : Option ℤ) (arrays : Slots (List ℤ)) (t : Trace) → base_of depth around ≡ d → TransitionBased d (back around v arrays t)
  back_based depth around v arrays t h =
      returning (TransitionBased d) tt around v arrays t (λ e. tt) (λ w others e slots homes results arrived. subst (λ a. base_of depth a ≡ d) e h)

  act_based : (code : Code) (s : State) (o : Option Instr) → Based d s → TransitionBased d (act code s o)
  act_based code s o h = acts_by code s (λ j turn w. TransitionBased d w) (record {
    stuck = λ j turn. tt;
    stops = λ j turn trap line lines. tt;
    local = λ place operands slots arrays lines updates. h;
    enters = λ e. h;
    opens = λ operands arrays tag cut. h;
    syncs = h;
    leaves = λ arrays o around e. subst (λ a. base_of s.depth a ≡ d) e h;
    returns = λ v. back_based s.depth s.around v (settled s.arrived s.arrays) (synced s.trace) h;
  }) o

module _ (code : Code) where
  -- a join has the same effect after pending results went back
  join_puts_in : (y : Extent) (n : ℕ) (s : State) → joins (slice_get code.instrs s.place) ≡ true → travel y code n s ≡ travel y code n (put_in s)
  join_puts_in y n s h = cases y n (same (slice_get code.instrs s.place) h)
    where
      same : (o : Option Instr) → joins o ≡ true → act code s o ≡ act code (put_in s) o
      same (Some instr.EndCut) k = refl
      same (Some instr.Sync) k = refl
      same (Some instr.Close) k = refl
      same (Some instr.ReturnValue) k = refl
      same (Some instr.Return) k = refl
      same _ k = cc

      cases : (y' : Extent) (m : ℕ) → step code s ≡ step code (put_in s) → travel y' code m s ≡ travel y' code m (put_in s)
      cases WholeCall zero e = refl
      cases WholeCall (suc m) e = ap (λ w. moved w m (λ s'. travel WholeCall code m s')) e
      cases ToJoin zero e = refl
      cases ToJoin (suc m) e = ap (λ w. if has_come ToJoin code s then Arrives (standing s) s.trace (suc m) else moved w m (λ s'. travel ToJoin code m s')) e

  module _ (x y : Extent) (b : State) where
    -- a run to the join may be placed over any state, a whole call only over its caller
    abbrev pub MayStand : Extent → Type 0
    MayStand ToJoin = Unit {0}
    MayStand WholeCall = IsCall b

    arrives_under : (n : ℕ) (s : State) → has_come x code s ≡ true → Based b.depth s → travel y code n (under b s) ≡ travel y code n (resumed b (standing s) s.trace)
    arrives_under n s h d = cases x s.around h d
      where
        cases : (x' : Extent) (around : List Around) → has_come x' code (record s { around = around }) ≡ true → base_of s.depth around ≡ b.depth
            → travel y code n (under b (record s { around = around })) ≡ travel y code n (resumed b (standing s) s.trace)
        cases WholeCall around k e = cc
        cases ToJoin [] k e =
            join_puts_in y n (under b (record s { around = [] })) k
            ∙ ap (λ slots. travel y code n (record s {
              around = b.around;
              slots = slots;
              arrays = settled (s.arrived ++ b.arrived) s.arrays;
              results = [];
              arrived = [];
              trace = joined b.trace s.trace;
            })) (settled_append s.results b.results s.slots)
            ∙ ap (λ arrays. travel y code n (record s {
              around = b.around;
              slots = settled b.results (settled s.results s.slots);
              arrays = arrays;
              results = [];
              arrived = [];
              trace = joined b.trace s.trace;
            })) (settled_append s.arrived b.arrived s.arrays)
            ∙ ap (λ depth. travel y code n (record s {
              depth = depth;
              around = b.around;
              slots = settled b.results (settled s.results s.slots);
              arrays = settled b.arrived (settled s.arrived s.arrays);
              results = [];
              arrived = [];
              trace = joined b.trace s.trace;
            })) e
        cases ToJoin (a ∷ around) k e = cc

    goes_under : (s : State) → has_come x code s ≡ false → MayStand x → Allowed x b s.around (joins (slice_get code.instrs s.place))
    goes_under s h may = cases x h may
      where
        cases : (x' : Extent) → has_come x' code s ≡ false → MayStand x' → Allowed x' b s.around (joins (slice_get code.instrs s.place))
        cases ToJoin k m = k
        cases WholeCall k m = m

    stays_under : (s : State) → Allowed x b s.around (joins (slice_get code.instrs s.place)) → has_come y code (under b s) ≡ false
    stays_under s h = cases x y s.around h
      where
        none : (around : List Around) (j : Bool) → HasCaller around → (is_first around && j) ≡ false
        none [] j k = absurd k
        none (a ∷ around) j k = refl

        cases : (x' y' : Extent) (around : List Around) → Allowed x' b around (joins (slice_get code.instrs s.place)) → has_come y' code (under b (record s { around = around })) ≡ false
        cases x' WholeCall around k = refl
        cases ToJoin ToJoin [] k = second_false (is_first b.around) (joins (slice_get code.instrs s.place)) k
        cases WholeCall ToJoin [] k = none b.around (joins (slice_get code.instrs s.place)) k.caller
        cases x' ToJoin (a ∷ around) k = refl

    moves_under : (w : Transition) (n : ℕ) → TransitionBased b.depth w → ((s : State) → Based b.depth s → travel y code n (under b s) ≡ onwards code y b (travel x code n s))
        → moved (transition_under b w) n (λ s. travel y code n s) ≡ onwards code y b (moved w n (λ s. travel x code n s))
    moves_under (On s) n d more = more s d
    moves_under (Ends v arrays t) n d more = refl
    moves_under (Stops trap line lines) n d more = refl
    moves_under Stuck n d more = refl

    -- the frame rule for whole runs
    pub travel_under : (n : ℕ) (s : State) → MayStand x → Based b.depth s → travel y code n (under b s) ≡ onwards code y b (travel x code n s)
    travel_under zero s may d = cases (has_come x code s) refl
      where
        cases : (c : Bool) → has_come x code s ≡ c → travel y code zero (under b s) ≡ onwards code y b (travel x code zero s)
        cases true e = arrives_under zero s e d ∙ ap (onwards code y b) (sym (taken (has_come x code s) (Arrives (standing s) s.trace zero) Beyond e))
        cases false e =
            not_taken (has_come y code (under b s)) (Arrives (standing (under b s)) (under b s).trace zero) Beyond (stays_under s (goes_under s e may))
            ∙ ap (onwards code y b) (sym (not_taken (has_come x code s) (Arrives (standing s) s.trace zero) Beyond e))
    travel_under (suc n) s may d = cases (has_come x code s) refl (λ s' d'. travel_under n s' may d')
      where
        cases : (c : Bool) → has_come x code s ≡ c → ((s' : State) → Based b.depth s'
            → travel y code n (under b s') ≡ onwards code y b (travel x code n s')) → travel y code (suc n) (under b s) ≡ onwards code y b (travel x code (suc n) s)
        cases true e more = arrives_under (suc n) s e d ∙ ap (onwards code y b)
            (sym (taken (has_come x code s) (Arrives (standing s) s.trace (suc n)) (moved (step code s) n (λ s'. travel x code n s')) e))
        cases false e more =
            let allowed = goes_under s e may in
            not_taken (has_come y code (under b s)) (Arrives (standing (under b s)) (under b s).trace (suc n)) (moved (step code (under b s)) n (λ s'. travel y code n s')) (stays_under s allowed)
            ∙ ap (λ w. moved w n (λ s'. travel y code n s')) (act_under b x code s (slice_get code.instrs s.place) allowed)
            ∙ moves_under (step code s) n (act_based b.depth code s (slice_get code.instrs s.place) d) more
            ∙ ap (onwards code y b) (sym (not_taken (has_come x code s) (Arrives (standing s) s.trace (suc n)) (moved (step code s) n (λ s'. travel x code n s')) e))
