-- The spawned calls around a state after an instruction, and the values with which the block of a returned call
-- continues.
use Rattle.std.proofs.Common.{◌≡◌, ℕ, ℤ, Bool, true, false, if◌then◌else◌, Option, Some, None, List, [], ◌∷◌, ◌++◌, refl, sym, ap, ◌∙◌, subst}
use Rattle.std.specs.Prelude.{slice_get, slice_set}
use Rattle.cw_model.specs.declared.syntax.CallKind.{CallKind}
use Rattle.cw_model.specs.declared.syntax.CallKind.TheVariants.{Plain, Spawned}
use Rattle.cw_model.specs.Outcome.{Trace}
use Rattle.cw_code.specs.declared.code.Instr.{Instr}
use Rattle.cw_code.specs.Code.{Code}
use Rattle.cw_code.specs.Run.{Slots, Results, Taken, Waiting, Around, Caller, Block, State, Transition, On, Ends, Stops, Stuck, is_full, settled}
use Rattle.cw_code.specs.Run.{synced, Entering, waiting_at, begun, given_back, going_on, result_of, returns_to, back, act, step}
use Rattle.cw_code.specs.Strands.{rest_of, spawn_job, Turn, Goes, HandsOut, ComesBack, turn, turn_back, turn_in, turn_call, turn_of}
use Rattle.cw_code.specs.lemmas.StrandActs.{acts_by}
use Rattle.cw_strand.specs.Levels.{Level, level_if, levels_of, ResultWaits, IsBackAt}

-- a spawned call has begun, for this slot, and took these arrays
pub record HasSpawned (s s' : State) (target : Option ℕ) (taken : List Taken) : Type 0 where
  pub waiting : Waiting
  pub around : s'.around ≡ Caller waiting ∷ s.around
  pub spawned : waiting.kind ≡ Spawned
  pub none : waiting.operands ≡ []
  pub target_is : waiting.target ≡ target
  pub taken_is : waiting.taken ≡ taken
  pub levels : levels_of s'.around ≡ record { waiting = waiting; around = s.around } ∷ levels_of s.around
  pub rest : (limit before : ℕ) → spawn_job s target taken limit before ≡ rest_of waiting limit before

-- a spawned call has returned
pub record HasReturned (s s' : State) : Type 0 where
  pub level : Level
  pub around : s.around ≡ Caller level.waiting ∷ level.around
  pub back : IsBackAt level s'
  pub levels : levels_of s.around ≡ level ∷ levels_of s'.around

abbrev pub LevelsAfter : Turn → State → State → Type 0
LevelsAfter Goes s s' = levels_of s'.around ≡ levels_of s.around
LevelsAfter (HandsOut target taken) s s' = HasSpawned s s' target taken
LevelsAfter ComesBack s s' = HasReturned s s'

module _ (s : State) where
  abbrev Moved : Turn → Transition → Type 0
  Moved turn (On s') = LevelsAfter turn s s'
  Moved turn (Ends v arrays t) = s.around ≡ []
  Moved turn (Stops trap line lines) = Unit {0}
  Moved turn Stuck = Unit {0}

  either : (turn : Turn) (b : Bool) (x y : Transition) → Moved turn x → Moved turn y → Moved turn (if b then x else y)
  either turn true x y h k = h
  either turn false x y h k = k

  enters : (e : Entering) → Moved (turn_call e.kind e.target e.taken) (On (begun s e))
  enters e = cases e.kind
    where
      cases : (kind : CallKind) → Moved (turn_call kind e.target e.taken) (On (begun s (record e { kind = kind })))
      cases Plain = refl
      cases Spawned = record {
        waiting = waiting_at s (record e { kind = Spawned });
        around = refl;
        spawned = refl;
        none = refl;
        target_is = refl;
        taken_is = refl;
        levels = refl;
        rest = λ limit before. refl;
      }

  module _ (w : Waiting) (around : List Around) (is : s.around ≡ Caller w ∷ around) where
    level : Level
    level = record { waiting = w; around = around }

    -- the waiting call continues with these results
    returned : (s' : State) → w.kind ≡ Spawned → IsBackAt (record { waiting = w; around = around }) s' → s'.around ≡ around → HasReturned s s'
    returned s' spawned back same = record {
      level = record { waiting = w; around = around };
      around = is;
      back = back;
      levels = ap levels_of is ∙ ap (λ k. level_if k (record { waiting = w; around = around }) (levels_of around)) spawned ∙ ap (λ a. record { waiting = w; around = around } ∷ levels_of a) (sym same);
    }

    gives : (kind : CallKind) (target : Option ℕ) (v : Option ℤ) (xs : Results (List ℤ)) (t : Trace) → w.kind ≡ kind → w.target ≡ target
        → Moved (turn_back kind) (result_of kind target v xs (going_on w around t))
    gives Plain None v xs t k e = sym (ap levels_of is ∙ ap (λ k. level_if k (record { waiting = w; around = around }) (levels_of around)) k)
    gives Plain (Some a) None xs t k e = tt
    gives Plain (Some a) (Some x) xs t k e =
        either Goes (is_full (slice_get w.slots a)) (On (record (going_on w around t) { arrays = settled xs w.arrays; slots = slice_set w.slots a (Some x) })) Stuck
        (sym (ap levels_of is ∙ ap (λ k. level_if k (record { waiting = w; around = around }) (levels_of around)) k)) tt
    gives Spawned None v xs t k e =
        returned (record (going_on w around t) { arrived = xs ++ w.arrived }) k
        (record { place = refl; operands = refl; slots = refl; arrays = refl; readers = refl; depth = refl; around = refl; results = subst (λ o. ResultWaits o w.results w.results) (sym e) refl }) refl
    gives Spawned (Some a) None xs t k e = tt
    gives Spawned (Some a) (Some x) xs t k e =
        returned (record (going_on w around t) { arrived = xs ++ w.arrived; results = (a, x) ∷ w.results }) k
        (record {
          place = refl;
          operands = refl;
          slots = refl;
          arrays = refl;
          readers = refl;
          depth = refl;
          around = refl;
          results = subst (λ o. ResultWaits o ((a, x) ∷ w.results) w.results) (sym e) (x, refl);
        }) refl

  goes_back : (around : List Around) (v : Option ℤ) (arrays : Slots (List ℤ)) (t : Trace) → s.around ≡ around → Moved (turn_in around) (back around v arrays t)
  goes_back [] v arrays t e = e
  goes_back (Block o ∷ around) v arrays t e = tt
  goes_back (Caller w ∷ around) v arrays t e = cases (given_back w.taken arrays)
    where
      none : (turn : Turn) → Moved turn Stuck
      none turn = tt

      cases : (o : Option (Results (List ℤ))) → Moved (turn_back w.kind) (returns_to w around v o t)
      cases None = none (turn_back w.kind)
      cases (Some xs) = gives w around e w.kind w.target v xs _ refl refl

  levels_by : (code : Code) (o : Option Instr) → Moved (turn_of code o s.around) (act code s o)
  levels_by code o = acts_by code s (λ j turn w. Moved turn w) (record {
    stuck = λ j turn. tt;
    stops = λ j turn trap line lines. tt;
    local = λ place operands slots arrays lines updates. refl;
    enters = enters;
    opens = λ operands arrays tag cut. refl;
    syncs = refl;
    leaves = λ arrays o around e. sym (ap levels_of e);
    returns = λ v. goes_back s.around v (settled s.arrived s.arrays) (synced s.trace) refl;
  }) o

pub levels_move : (code : Code) (s s' : State) → step code s ≡ On s' → LevelsAfter (turn code s) s s'
levels_move code s s' e = subst (Moved s (turn code s)) e (levels_by s code (slice_get code.instrs s.place))

-- a run that ends its call has no enclosing blocks and calls
pub ends_alone : (code : Code) (s : State) (v : Option ℤ) (arrays : Slots (List ℤ)) (t : Trace) → step code s ≡ Ends v arrays t → s.around ≡ []
ends_alone code s v arrays t e = subst (Moved s (turn code s)) e (levels_by s code (slice_get code.instrs s.place))
