-- A run stays in the function in which it began.
use Rattle.std.proofs.Common.{◌≡◌, ⊎_elim, ℕ, ◌+◌, ℤ, Option, Some, None, List, [], ◌∷◌, length, sym, ap, ◌∙◌, subst}
use Rattle.std.specs.Prelude.{slice_get}
use Rattle.std.proofs.lemmas.Option.{same_Some}
use Rattle.cw_model.specs.Outcome.{Trace}
use Rattle.cw_code.specs.declared.code.Func.{Func}
use Rattle.cw_code.specs.declared.code.Instr.{Instr}
use Rattle.cw_code.specs.declared.code.Instr.TheVariants as instr
use Rattle.cw_code.specs.Code.{Code}
use Rattle.cw_code.specs.Run.{Slots, Around, Caller, Block, State, Transition, On, Ends, Stops, Stuck, synced, settled, back, act, step}
use Rattle.cw_code.specs.Fits.{leaves, nexts, Shape, FlowsIntoEach, Fits}
use Rattle.cw_code.specs.Good.{Seat, GoodState}
use Rattle.cw_code.specs.Staying.{IsInside, outermost, FitStays, SeatsLie}
use Rattle.cw_code.proofs.Unstuck.{facts}
use Rattle.cw_code.specs.lemmas.Acts.{IsOneOf, acts_both, closing, uncutting, returning}
use Rattle.cw_code.specs.lemmas.Lying.{one_function}
use Rattle.cw_code.specs.lemmas.Seats.{lies_within}

module _ (code : Code) (fits : Fits code) where
  alone : (place k : ℕ) (f : Func) (seat : Seat code fits place) → slice_get code.funcs k ≡ Some f → IsInside f place → seat.index ≡ k
  alone place k f seat is h =
      one_function 0 code.funcs (length code.instrs) seat.index k place seat.func f fits.lie seat.is_func is (lies_within code fits place seat) h

  pub seats_lie : SeatsLie code fits
  seats_lie = record { inside = lies_within code fits; one = alone }

  module _ (k : ℕ) (f : Func) (is : slice_get code.funcs k ≡ Some f) where
    abbrev Keeps : Transition → Type 0
    Keeps (On s) = IsInside f (outermost s.place s.around)
    Keeps (Ends v arrays t) = Unit {0}
    Keeps (Stops trap line lines) = Unit {0}
    Keeps Stuck = Unit {0}

    -- each next place of an instruction is in the function, under the same blocks and callers
    abbrev AllKeep : List Around → List ℕ → Type 0
    AllKeep around [] = Unit {0}
    AllKeep around (p ∷ places) = IsInside f (outermost p around) × AllKeep around places

    abbrev NextsKeep : State → Option Instr → Type 0
    NextsKeep s None = Unit {0}
    NextsKeep s (Some i) = AllKeep s.around (nexts s.place i)

    one_keeps : (around : List Around) (p : ℕ) (places : List ℕ) → IsOneOf p places → AllKeep around places → IsInside f (outermost p around)
    one_keeps around p [] o h = absurd o
    one_keeps around p (q ∷ places) o h =
        ⊎_elim (λ (e : p ≡ q). subst (λ x. IsInside f (outermost x around)) (sym e) h.0) (λ (r : IsOneOf p places). one_keeps around p places r h.1) o

    -- a waiting caller continues at its place
    back_keeps : (place : ℕ) (around : List Around) (v : Option ℤ) (arrays : Slots (List ℤ)) (t : Trace) → IsInside f (outermost place around) → Keeps (back around v arrays t)
    back_keeps place around v arrays t h =
        returning Keeps tt around v arrays t (λ e. tt) (λ w others e slots homes results arrived. subst (λ a. IsInside f (outermost place a)) e h)

    acts_keep : (s : State) → IsInside f (outermost s.place s.around) → (o : Option Instr) → NextsKeep s o → Keeps (act code s o)
    acts_keep s here o = acts_both code s s.results s.arrived s.around s.trace (λ o w w'. NextsKeep s o → Keeps w) (record {
      stuck = λ o n. tt;
      stops = λ o trap line n. tt;
      local = λ i place operands slots lines updates plain next few n. one_keeps s.around place (nexts s.place i) next n;
      makes = λ a line rest xs n. n.0;
      sets = λ a line rest xs n. n.0;
      calls = λ kind c g given lent n. n.0;
      recurs = λ kind c g given n. n.0;
      starts = λ c line g given low captured turns n. n.0;
      scopes = λ n. n.0;
      regions = λ j tag e n. n.0;
      cuts = λ h line xs rest at n. n.0;
      uncuts = uncutting (λ w. NextsKeep s (Some instr.EndCut) → Keeps w) (λ n. tt) s (λ b around h left right e q n. subst (λ a. IsInside f (outermost (s.place + 1) a)) e n.0);
      syncs = λ n. n.0;
      closes = closing (λ w. NextsKeep s (Some instr.Close) → Keeps w) (λ n. tt) s (λ b around e n. subst (λ a. IsInside f (outermost (s.place + 1) a)) e n.0);
      gives = λ v n. back_keeps s.place s.around (Some v) (settled s.arrived s.arrays) (synced s.trace) here;
      returns = λ n. back_keeps s.place s.around None (settled s.arrived s.arrays) (synced s.trace) here;
    }) o

    module _ (s : State) (good : GoodState code fits s) (here : IsInside f (outermost s.place s.around)) where
      -- a place of the current function, under the same blocks and callers
      moves : (around : List Around) (p : ℕ) → IsInside good.seat.func p → IsInside f (outermost s.place around) → IsInside f (outermost p around)
      moves [] p i h =
          let same : good.seat.func ≡ f = same_Some good.seat.func f (sym good.seat.is_func ∙ ap (slice_get code.funcs) (alone s.place k f good.seat is h) ∙ is) in
          subst (λ (g : Func). IsInside g p) same i
      moves (Caller w ∷ around) p i h = h
      moves (Block o ∷ around) p i h = moves around p i h

      all_keep : (out : Shape) (places : List ℕ) → FlowsIntoEach (fits.each good.seat.index good.seat.func good.seat.is_func).table out places → AllKeep s.around places
      all_keep out [] l = tt
      all_keep out (p ∷ places) l =
          (moves s.around p ((fits.each good.seat.index good.seat.func good.seat.is_func).is_table.within p l.0.there l.0.found) here, all_keep out places l.1)

      step_keeps : Keeps (step code s)
      step_keeps =
          let h = facts code fits s good in
          acts_keep s here (slice_get code.instrs s.place) (subst (NextsKeep s) (sym h.is) (all_keep (leaves code good.seat.shape h.instr) (nexts s.place h.instr) h.leads))

  pub fit_stays : FitStays code fits
  fit_stays k f s s' is good e h = subst (Keeps k f is) e (step_keeps k f is s good h)

pub stays : (code : Code) (fits : Fits code) → FitStays code fits
stays code fits = fit_stays code fits

pub seats : (code : Code) (fits : Fits code) → SeatsLie code fits
seats code fits = seats_lie code fits
