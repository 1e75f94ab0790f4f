-- What is known of a run by its record and by its measures.
use Rattle.std.proofs.Common.{◌≡◌, ◌≤◌, ℕ, ℤ, true, ◌&&◌, if◌then◌else◌, Ok, Err, inl, inr, List, Option, Some, None, ap, sym, refl, subst, ◌∙◌, arith}
use Rattle.std.specs.Prelude.{IsOk, nat_le, nat_eq, length}
use Rattle.std.proofs.lemmas.Bool.{true≢false}
use Rattle.cw_facts.specs.Tests.{first_true, second_true, both_true, le_of, at_most, not_at_most}
use Rattle.cw_model.specs.declared.burden.Burden.{Burden}
use Rattle.cw_model.specs.declared.limits.TheConstants.{MOST_BURDEN, MOST_LIMIT, MOST_PROCESSORS, MOST_STRANDS}
use Rattle.cw_model.specs.Burdens.{no_burden}
use Rattle.cw_model.specs.Trees.{Tree, Leaf, work}
use Rattle.cw_model.specs.Answers.{Answer, Ended}
use Rattle.cw_text.specs.declared.fault.Fault.{Fault}
use Rattle.cw_text.specs.declared.fault.Fault.TheVariants as fault
use Rattle.cw_greedy.specs.Blocks.{strand_count}
use Rattle.cw_greedy.specs.Bounds.{GreedyIsBounded}
use Rattle.cw_greedy.specs.Greedy.{greedy_length}
use Rattle.cw_greedy.specs.Recorded.{Recorded}
use Rattle.cw_greedy.specs.Records.{IsRecordOf}
use Rattle.cw_code.specs.Code.{Code}
use Rattle.cw_code.specs.Fits.{main_params}
use Rattle.cw_machine.specs.Recorded.{Records}
use Rattle.cw_machine.specs.Runs.{Runs, is_request, IsFailure}
use Rattle.cw_machine.specs.declared.alone.Ended as alone
use Rattle.cw_meter.specs.Whole.{AreReadings}
use Rattle.cw_greedy.specs.Recording.{IsKept}
use Rattle.cw_greedy_schedule.specs.Schedules as schedules
use Rattle.cw_greedy_schedule.specs.Speedups.{IsNotMeasured, IsNotSpedUp, SpeedsUp, is_asked, rows_up_to, steps_on}
use Rattle.cw_greedy_schedule.specs.declared.speedups.Speedup.{Speedup}

module _ (code : Code) (args : List ℤ) (n : ℕ) (burden : Burden) (most : ℕ) (asked : is_asked code args n burden most ≡ true) where
  -- a run can be asked for
  plain : is_request code args n no_burden ≡ true
  plain =
      let low = nat_le burden.charge MOST_BURDEN in
      second_true (schedules.is_counted most) (is_request code args n no_burden) (first_true (schedules.is_asked code args n most) low asked)

  low : nat_le burden.charge MOST_BURDEN ≡ true
  low = second_true (schedules.is_asked code args n most) (nat_le burden.charge MOST_BURDEN) asked

  limits : (nat_le 1 n ≡ true) × (nat_le n MOST_LIMIT ≡ true)
  limits =
      let none = nat_le no_burden.charge MOST_BURDEN in
      let two = second_true (nat_eq (length args) (main_params code)) (nat_le 1 n && (nat_le n MOST_LIMIT && none)) plain in
      (first_true (nat_le 1 n) (nat_le n MOST_LIMIT && none) two, first_true (nat_le n MOST_LIMIT) none (second_true (nat_le 1 n) (nat_le n MOST_LIMIT && none) two))

  burdened : is_request code args n burden ≡ true
  burdened =
      let none = nat_le no_burden.charge MOST_BURDEN in
      let count = first_true (nat_eq (length args) (main_params code)) (nat_le 1 n && (nat_le n MOST_LIMIT && none)) plain in
      both_true (nat_eq (length args) (main_params code)) _ count
      (both_true (nat_le 1 n) _ limits.0 (both_true (nat_le n MOST_LIMIT) _ limits.1 low))

  pub some_processor : 1 ≤ most
  some_processor =
      let counted = first_true (schedules.is_counted most) (is_request code args n no_burden) (first_true (schedules.is_asked code args n most) (nat_le burden.charge MOST_BURDEN) asked) in
      le_of 1 most (first_true (nat_le 1 most) (nat_le most MOST_PROCESSORS) counted)

  pub in_limit : (k : ℕ) → k ≤ n → k ≤ MOST_LIMIT
  in_limit k within = omega (arith, le_of n MOST_LIMIT limits.1, within)

  -- why a run has no value is why it has no speedups
  not_sped : (b : Burden) (e : Fault) → is_request code args n b ≡ true → IsFailure code args n b e → IsNotSpedUp code args n burden most e
  not_sped b fault.Arguments may h = absurd (true≢false (sym may ∙ h))
  not_sped b fault.OverLimit may h = (asked, h.1)
  not_sped b (fault.Trap trap line output) may h = (asked, h.1)
  not_sped b fault.Memory may h = asked
  not_sped b (fault.Lexical place) may h = absurd h
  not_sped b (fault.Syntax place) may h = absurd h
  not_sped b (fault.Types place) may h = absurd h
  not_sped b (fault.Ownership place) may h = absurd h
  not_sped b (fault.Size place) may h = absurd h
  not_sped b fault.Code may h = absurd h
  not_sped b fault.Write may h = absurd h
  not_sped b (fault.Strands k) may h = absurd h

  pub not_recorded : (e : Fault) → IsFailure code args n no_burden e → IsNotSpedUp code args n burden most e
  not_recorded e h = not_sped no_burden e plain h

  pub not_measured : (e : Fault) → IsNotMeasured code args n burden e → IsNotSpedUp code args n burden most e
  not_measured e (inl memory) = subst (IsNotSpedUp code args n burden most) (sym memory) asked
  not_measured e (inr failed) = not_sped burden e burdened failed

  pub low_charge : burden.charge ≤ MOST_BURDEN
  low_charge = le_of burden.charge MOST_BURDEN low

  module _ (kept : Recorded) (records : Records code args n kept) where
    ends : schedules.Ends code args n records.tree
    ends = record { value = records.value; lines = records.lines; totals = records.totals; answer = records.answer }

    module _ (within : (code : Code) (args : List ℤ) (n : ℕ) (t : Tree) → schedules.Ends code args n t → work t ≤ n) where
      pub small_work : work records.tree ≤ MOST_LIMIT
      small_work = in_limit (work records.tree) (within code args n records.tree ends)

      pub tree_of_record : (t : Tree) × (IsKept t kept × (work t ≤ MOST_LIMIT))
      tree_of_record = (records.tree, (records.is_kept, small_work))

    pub sped_up : (s : Speedup) → AreReadings burden records.tree s.measure → s.rows.items ≡ rows_up_to most records.tree → ((p : ℕ) (t : Tree) → 1 ≤ p → GreedyIsBounded p t)
        → SpeedsUp code args n burden most s
    sped_up s measure rows bounded = record {
      asked = asked;
      tree = records.tree;
      ends = ends;
      measure = measure;
      rows = rows;
      bounds = λ p some.
          let b = bounded p records.tree some in
          record { work_law = b.work_law; span_law = b.span_law; greedy_bound = b.greedy_bound };
    }

-- the tree that another run recorded has the measures of a run
abbrev tree_in : Option Answer → Tree
tree_in (Some (Ended v lines totals t)) = t
tree_in _ = Leaf 0

pub measured_tree : (code : Code) (args : List ℤ) (n : ℕ) (burden : Burden) (kept : Recorded) (records : Records code args n kept) (e : alone.Ended) (runs : Runs code args n burden e)
    → AreReadings burden records.tree e.measure
measured_tree code args n burden kept records e runs =
    let one_tree : runs.tree ≡ records.tree = ap tree_in (sym runs.answer ∙ records.answer) in
    subst (λ t. AreReadings burden t e.measure) one_tree runs.measure

-- steps of a record
pub no_steps : (t : Tree) (kept : Recorded) (p : ℕ) → IsKept t kept → (IsOk kept → ⊥) → None ≡ steps_on p t
no_steps t (Err n) p k many = ap (λ b. if b then Some (greedy_length p t) else None) (sym (not_at_most (strand_count t) MOST_STRANDS k.0))
no_steps t (Ok codes) p k many = absurd (many refl)

pub few_steps : (t : Tree) (kept : Recorded) (p steps : ℕ) → IsKept t kept → IsOk kept → steps ≡ greedy_length p t → Some steps ≡ steps_on p t
few_steps t (Err n) p steps k few is = cc
few_steps t (Ok codes) p steps k few is =
    ap Some is ∙ ap (λ b. if b then Some (greedy_length p t) else None) (sym (at_most (strand_count t) MOST_STRANDS k.0))

pub record_kept : (t : Tree) (kept : Recorded) → IsOk kept → IsKept t kept → IsRecordOf t kept
record_kept t (Err n) some k = cc
record_kept t (Ok codes) some k = k.1
