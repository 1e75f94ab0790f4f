-- A run is unchanged if it is placed over a state with no waiting results and no enclosing blocks.
use Rattle.std.proofs.Common.{◌≡◌, ℤ, List, [], ◌∷◌, ◌++◌, refl, ap, ◌∙◌}
use Rattle.std.proofs.lemmas.List.{append-nil}
use Rattle.cw_model.specs.Outcome.{Trace, quiet, joined}
use Rattle.cw_code.specs.Run.{Results, Around, Caller, Block, State}
use Rattle.cw_code.specs.lemmas.Runs.{same_trace}
use Rattle.cw_code.specs.Over.{grown, beneath, results_under, arrived_under, trace_under, under}
use Rattle.cw_jobs.specs.Jobs.{IsOutermost}

module _ (b : State) (out : IsOutermost b) (begins : b.trace ≡ quiet) where
  results_flat : (r : Results ℤ) → r ++ b.results ≡ r
  results_flat r = ap (λ x. r ++ x) out.results ∙ append-nil r

  arrived_flat : (r : Results (List ℤ)) → r ++ b.arrived ≡ r
  arrived_flat r = ap (λ x. r ++ x) out.arrived ∙ append-nil r

  grown_flat : (a : Around) → grown b a ≡ a
  grown_flat (Caller w) =
      ap (λ r. Caller (record w { results = r; arrived = w.arrived ++ b.arrived; events = b.trace.events ++ w.events })) (results_flat w.results)
      ∙ ap (λ r. Caller (record w { arrived = r; events = b.trace.events ++ w.events })) (arrived_flat w.arrived)
      ∙ ap (λ (t : Trace). Caller (record w { events = t.events ++ w.events })) begins
  grown_flat (Block o) =
      ap (λ r. Block (record o { results = r; arrived = o.arrived ++ b.arrived; events = b.trace.events ++ o.events })) (results_flat o.results)
      ∙ ap (λ r. Block (record o { arrived = r; events = b.trace.events ++ o.events })) (arrived_flat o.arrived)
      ∙ ap (λ (t : Trace). Block (record o { events = t.events ++ o.events })) begins

  beneath_flat : (around : List Around) → beneath b around ≡ around
  beneath_flat [] = out.around
  beneath_flat (a ∷ []) = ap (λ x. x ∷ b.around) (grown_flat a) ∙ ap (λ l. a ∷ l) out.around
  beneath_flat (a ∷ (c ∷ around)) = ap (λ l. a ∷ l) (beneath_flat (c ∷ around))

  results_under_flat : (around : List Around) (r : Results ℤ) → results_under b around r ≡ r
  results_under_flat [] r = results_flat r
  results_under_flat (a ∷ around) r = refl

  arrived_under_flat : (around : List Around) (r : Results (List ℤ)) → arrived_under b around r ≡ r
  arrived_under_flat [] r = arrived_flat r
  arrived_under_flat (a ∷ around) r = refl

  quiet_joined : (t : Trace) → joined quiet t ≡ t
  quiet_joined t = same_trace (joined quiet t) t refl refl refl

  trace_flat : (around : List Around) (t : Trace) → trace_under b around t ≡ t
  trace_flat [] t = ap (λ u. joined u t) begins ∙ quiet_joined t
  trace_flat (a ∷ around) t = ap (λ (u : Trace). record { lines = u.lines ++ t.lines; updates = u.updates ++ t.updates; events = t.events }) begins

  pub under_flat : (s : State) → under b s ≡ s
  under_flat s =
      ap (λ x. record s { results = x; arrived = arrived_under b s.around s.arrived; around = beneath b s.around; trace = trace_under b s.around s.trace }) (results_under_flat s.around s.results)
      ∙ ap (λ x. record s { arrived = x; around = beneath b s.around; trace = trace_under b s.around s.trace }) (arrived_under_flat s.around s.arrived)
      ∙ ap (λ x. record s { around = x; trace = trace_under b s.around s.trace }) (beneath_flat s.around)
      ∙ ap (λ x. record s { trace = x }) (trace_flat s.around s.trace)
