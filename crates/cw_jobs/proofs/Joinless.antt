-- Up to the join of the block in which a continuation begins, the events of this block have no join.
use Rattle.std.proofs.Common.{◌≡◌, ℕ, ℤ, true, false, Option, Some, None, List, [], ◌∷◌, ◌++◌, refl, subst}
use Rattle.std.specs.Prelude.{◌&&◌}
use Rattle.cw_model.specs.declared.syntax.CallKind.{CallKind}
use Rattle.cw_model.specs.declared.syntax.CallKind.TheVariants.{Plain, Spawned}
use Rattle.cw_model.specs.Syntax.{Name}
use Rattle.cw_model.specs.Trees.{Tree, Event, Work, Series, Fork, Join, works, tree_of}
use Rattle.cw_model.specs.Outcome.{Trace}
use Rattle.cw_code.specs.declared.code.Instr.{Instr}
use Rattle.cw_code.specs.Code.{Code}
use Rattle.cw_code.specs.Run.{Slots, Around, Caller, Block, State, Transition, On, Ends, Stops, Stuck, settled, synced, event_of, block_event, back, act}
use Rattle.cw_code.specs.lemmas.Acts.{returning}
use Rattle.cw_measure.specs.OpenParts.{no_joins}
use Rattle.cw_code.specs.Jobs.{joins, is_first}
use Rattle.cw_code.specs.lemmas.StrandActs.{acts_by}

-- the events so far of the block in which a run began
abbrev pub bottom : List Around → List Event → List Event
bottom [] es = es
bottom (Caller w ∷ around) es = bottom around w.events
bottom (Block o ∷ around) es = bottom around o.events

joins_append : (es fs : List Event) → no_joins es ≡ true → no_joins fs ≡ true → no_joins (es ++ fs) ≡ true
joins_append [] fs h g = g
joins_append (Work k ∷ es) fs h g = joins_append es fs h g
joins_append (Series t ∷ es) fs h g = joins_append es fs h g
joins_append (Fork t ∷ es) fs h g = joins_append es fs h g
joins_append (Join ∷ es) fs h g = cc

pub grown : (around : List Around) (es fs : List Event) → no_joins (bottom around es) ≡ true → no_joins fs ≡ true → no_joins (bottom around (es ++ fs)) ≡ true
grown [] es fs h g = joins_append es fs h g
grown (Caller w ∷ around) es fs h g = h
grown (Block o ∷ around) es fs h g = h

abbrev pub Joinless : List Around → List Event → Type 0
Joinless around es = no_joins (bottom around es) ≡ true

abbrev pub After : Transition → Type 0
After (On s) = Joinless s.around s.trace.events
After (Ends v arrays t) = Unit {0}
After (Stops trap line lines) = Unit {0}
After Stuck = Unit {0}

inner : (around : List Around) (es fs : List Event) → is_first around && true ≡ false → Joinless around es → Joinless around fs
inner [] es fs e h = cc
inner (Caller w ∷ around) es fs e h = h
inner (Block o ∷ around) es fs e h = h

block_event_none : (tag : Option Name) (t : Tree) → no_joins (block_event tag t ∷ []) ≡ true
block_event_none None t = refl
block_event_none (Some tag) t = refl

call_event_none : (kind : CallKind) (site : Option ℕ) (t : Tree) → no_joins (event_of kind site t ∷ []) ≡ true
call_event_none Plain None t = refl
call_event_none Spawned None t = refl
call_event_none Plain (Some site) t = refl
call_event_none Spawned (Some site) t = refl

goes_back : (around : List Around) (v : Option ℤ) (arrays : Slots (List ℤ)) (t : Trace) (es : List Event) → Joinless around es → After (back around v arrays t)
goes_back around v arrays t es h = returning After tt around v arrays t (λ e. tt) (λ w others e slots homes results arrived.
    grown others w.events (event_of w.kind w.site (tree_of t.events) ∷ []) (subst (λ a. Joinless a es) e h) (call_event_none w.kind w.site (tree_of t.events)))

pub stays_joinless : (code : Code) (s : State) (o : Option Instr) → Joinless s.around s.trace.events → is_first s.around && joins o ≡ false → After (act code s o)
stays_joinless code s o h come = acts_by code s (λ j turn w. is_first s.around && j ≡ false → After w) (record {
  stuck = λ j turn e. tt;
  stops = λ j turn trap line lines e. tt;
  local = λ place operands slots arrays lines updates e. grown s.around s.trace.events (works 1) h refl;
  enters = λ entering e. grown s.around s.trace.events (works 1) h refl;
  opens = λ operands arrays tag cut e. grown s.around s.trace.events (works 1) h refl;
  syncs = λ e. inner s.around s.trace.events (synced s.trace).events e h;
  leaves = λ arrays o around same e.
      let P : List Around → Type 0 = λ x. Joinless x s.trace.events in
      let b = block_event o.tag (tree_of s.trace.events) in
      grown around (o.events ++ b ∷ []) (works 1) (grown around o.events (b ∷ []) (subst P same h) (block_event_none o.tag (tree_of s.trace.events))) refl;
  returns = λ v e. goes_back s.around v (settled s.arrived s.arrays) (synced s.trace) s.trace.events h;
}) o come
