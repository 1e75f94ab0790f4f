-- The sites with which continuations are handed out.
use Rattle.std.proofs.Common.{◌≡◌, ℤ, Option, List, ◌∷◌, refl, sym, ap, subst}
use Rattle.std.specs.Prelude.{slice_get}
use Rattle.cw_model.specs.declared.syntax.CallKind.{CallKind}
use Rattle.cw_model.specs.declared.syntax.CallKind.TheVariants.{Plain, Spawned}
use Rattle.cw_model.specs.Outcome.{Trace}
use Rattle.cw_code.specs.declared.code.Instr.{Instr}
use Rattle.cw_code.specs.Code.{Code}
use Rattle.cw_code.specs.Run.{Slots, Waiting, Around, Caller, State, Transition, On, Ends, Stops, Stuck, settled, synced, Entering, begun, back, act}
use Rattle.cw_code.specs.lemmas.Acts.{returning}
use Rattle.cw_meter.specs.Origins.{Origin}
use Rattle.cw_code.specs.Strands.{Turn, turn, turn_back, turn_in, turn_call, turn_of}
use Rattle.cw_code.specs.lemmas.StrandActs.{acts_by}
use Rattle.cw_jobs.specs.Strands.{sites_at, SitesAfter, RestsAreOut}

module _ (from : Origin) (s : State) where
  abbrev Moved : Turn → Transition → Type 0
  Moved turn (On s') = SitesAfter from turn s.around s'.around
  Moved turn (Ends v arrays t) = Unit {0}
  Moved turn (Stops trap line lines) = Unit {0}
  Moved turn Stuck = Unit {0}

  enters : (e : Entering) → Moved (turn_call e.kind e.target e.taken) (On (begun s e))
  enters e = cases e.kind
    where
      cases : (kind : CallKind) → Moved (turn_call kind e.target e.taken) (On (begun s (record e { kind = kind })))
      cases Plain = refl
      cases Spawned = refl

  -- the sites after the end of a call
  abbrev Back : CallKind → List Around → Type 0
  Back kind around = SitesAfter from (turn_back kind) s.around around

  back_at : (w : Waiting) (around : List Around) → s.around ≡ Caller w ∷ around → Back w.kind around
  back_at w around e = cases w.kind (ap (sites_at from) e)
    where
      cases : (kind : CallKind) → sites_at from s.around ≡ sites_at from (Caller (record w { kind = kind }) ∷ around) → Back kind around
      cases Plain f = sym f
      cases Spawned f = sym f

  goes_back : (v : Option ℤ) (arrays : Slots (List ℤ)) (t : Trace) → Moved (turn_in s.around) (back s.around v arrays t)
  goes_back v arrays t = returning (Moved (turn_in s.around)) tt s.around v arrays t (λ e. tt)
      (λ w others e slots homes results arrived. subst (λ a. SitesAfter from (turn_in a) s.around others) (sym e) (back_at w others e))

  pub sites_move : (code : Code) (o : Option Instr) → Moved (turn_of code o s.around) (act code s o)
  sites_move code o = acts_by code s (λ j turn w. Moved turn w) (record {
    stuck = λ j turn. tt;
    stops = λ j turn trap line lines. tt;
    local = λ place operands slots arrays lines updates. refl;
    enters = enters;
    opens = λ operands arrays tag cut. refl;
    syncs = refl;
    leaves = λ arrays o around e. sym (ap (sites_at from) e);
    returns = λ v. goes_back v (settled s.arrived s.arrays) (synced s.trace);
  }) o

pub rests_are_out : RestsAreOut
rests_are_out = λ code from s s' e. subst (Moved from s (turn code s)) e (sites_move from s code (slice_get code.instrs s.place))
