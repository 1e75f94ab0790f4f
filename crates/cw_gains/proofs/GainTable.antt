-- The table of a run that ended, by whichever threads the further runs are executed.
use Rattle.std.proofs.Common.{◌≡◌, ℕ, ℤ, true, List, length, take, ◌+◌, sym, subst}
use Rattle.std.specs.Prelude.{IsErrAnd, MatchResult, Result}
use Rattle.cw_facts.specs.Options.{handed_on}
use Rattle.cw_model.specs.declared.burden.Burden.{Burden}
use Rattle.cw_model.specs.Sites.{are_numbered}
use Rattle.cw_text.specs.declared.fault.Fault.{Fault}
use Rattle.cw_sites.specs.declared.table.SiteRow.{SiteRow}
use Rattle.cw_meter.specs.Whole.{AreReadings, AreSiteRows}
use Rattle.cw_code.specs.Code.{code_view, reported_sites}
use Rattle.cw_runnable.specs.declared.verified.Verified.{Verified}
use Rattle.cw_machine.specs.declared.alone.Ended.{Ended}
use Rattle.cw_machine.specs.Runs.{Runs, IsFailure}
use Rattle.cw_gains.specs.Counts.{ranked_from}
use Rattle.cw_gains.specs.Free.{AreFreeOf, EndsWith, OnlyMemory}
use Rattle.cw_gains.specs.Gains.{Gains}
use Rattle.cw_gains.specs.declared.counts.Counted.{Counted}
use Rattle.cw_code.specs.declared.head.Head.{Head}
use Rattle.cw_gains.specs.declared.gains.Gains as declared
use Rattle.cw_gains.proofs.Ranks.{told_is}

module _ (v : Verified) (heads : List Head) (args : List ℤ) (n : ℕ) (burden : Burden) (top : ℕ) (ended : Ended)
    (runs : Runs (code_view v.code) args n burden ended) where
  ends : EndsWith (code_view v.code) args n burden runs.tree
  ends = record { asked = runs.asked; value = ended.value; lines = ended.lines.items; totals = ended.totals.items; answer = runs.answer }

  -- lack of memory is the only error
  pub stopped : (e : Fault) (r : Result declared.Gains Fault) → OnlyMemory v args n burden e → IsErrAnd r (λ x. x ≡ e)
      → MatchResult r (Gains (code_view v.code) heads args n burden top) (IsFailure (code_view v.code) args n burden)
  stopped e r only h =
      handed_on (Gains (code_view v.code) heads args n burden top) (IsFailure (code_view v.code) args n burden) e r
      (subst (IsFailure (code_view v.code) args n burden) (sym (only runs.tree ends)) runs.asked) h

  -- the first of the ranked functions, each with its spans
  pub gained : (g : declared.Gains) (rows : List SiteRow) (counted : List Counted) → are_numbered 0 (reported_sites (code_view v.code)) ≡ true
      → g.measure ≡ ended.measure → AreSiteRows (length (code_view v.code).sites + 1) runs.tree rows
      → counted ≡ take top (ranked_from heads (code_view v.code).sites rows)
      → AreFreeOf v args n burden counted g.functions → Gains (code_view v.code) heads args n burden top g
  gained g rows counted numbered measure are first frees = record {
    asked = runs.asked;
    value = ended.value;
    lines = ended.lines.items;
    totals = ended.totals.items;
    tree = runs.tree;
    answer = runs.answer;
    measure = subst (AreReadings burden runs.tree) (sym measure) runs.measure;
    functions =
        told_is (code_view v.code) numbered burden runs.tree heads rows top counted g.functions.items are first (frees runs.tree ends);
  }
