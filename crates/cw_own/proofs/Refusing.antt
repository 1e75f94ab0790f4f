-- The reported reasons of a tree are correct, and each reason of a tree suffices for its rejection.
use Rattle.std.proofs.Common.{◌≡◌, ℕ, zero, suc, ◌≤◌, ◌<◌, true, List, [], ◌∷◌, length, slice_index_or, flat_map, Option, Some}
use Rattle.std.proofs.Common.{None, option_map, MatchOption, Contains, refl, sym, ap, ◌∙◌, subst, arith}
use Rattle.std.proofs.lemmas.List.Elements.{All-contains}
use Rattle.cw_model.specs.Lines.{lowest}
use Rattle.cw_model.specs.Ownership.{KeepsOwnership, ownership_faults}
use Rattle.cw_model.specs.Typing.{type_faults}
use Rattle.cw_model.specs.lemmas.Lowest.{no_lines, least_line}
use Rattle.cw_tree.specs.declared.resolved.Tree.{Tree}
use Rattle.cw_tree.specs.Resolved.{Resolved, plain}
use Rattle.cw_tree.specs.ResolvedView.{program_of, resolved_of}
use Rattle.cw_tree.specs.Slots.{is_resolved}
use Rattle.cw_text.specs.declared.reasons.At.{At}
use Rattle.cw_text.specs.declared.reasons.Reasons.{Reasons}
use Rattle.cw_text.specs.Rising.{first_of, there}
use Rattle.cw_own.specs.Faults.{AreLeastFaults, IsFirstTold, IsLeastFault}
use Rattle.cw_own.specs.Laws.{IsRejectedBefore}
use Rattle.cw_own.specs.Reasons.{Reason, ownership_reasons, IsDisowned, line_in}
use Rattle.cw_text.specs.lemmas.Kept.{first-map, first-none, soonest, there-map, there-rising}
use Rattle.cw_own.specs.Rules.{function_lines}
use Rattle.cw_own.specs.Views.{AreNoted, line_and_reason, reason_of}
use Rattle.cw_own.specs.declared.reason.Disowned.{Disowned}
use Rattle.cw_own.proofs.Ownership.{ownership_by_slot}
use Rattle.cw_own.proofs.Telling.{line_of, lines_of, functions_lines, first_line, first_is_there}

-- the least line of the language definition is the least line of the reasons
least_is : (tree : Resolved) → is_resolved tree ≡ true → type_faults (plain tree) ≡ [] →
    lowest None (ownership_faults (plain tree)) ≡ option_map line_of (soonest line_in None (ownership_reasons tree))
least_is tree right fine =
    ownership_by_slot tree right fine
    ∙ ap (lowest None) (sym (functions_lines tree.functions))
    ∙ sym (first_line None (ownership_reasons tree))

pub told_right : (tree : Tree) → is_resolved (resolved_of tree) ≡ true → type_faults (program_of tree) ≡ [] → (found : Option (At Disowned)) →
    option_map line_and_reason found ≡ soonest line_in None (ownership_reasons (resolved_of tree)) → MatchOption found (KeepsOwnership (program_of tree)) (IsLeastFault tree)
told_right tree right fine None h =
    no_lines (ownership_faults (program_of tree)) (least_is (resolved_of tree) right fine ∙ ap (option_map line_of) (sym h))
told_right tree right fine (Some at) h = record {
  least = least_line (ownership_faults (program_of tree)) at.line (least_is (resolved_of tree) right fine ∙ ap (option_map line_of) (sym h));
  told = first_is_there (ownership_reasons (resolved_of tree)) (at.line, reason_of at.reason) (sym h);
}

-- the first recorded line is the least, and its reason is correct
pub first_right : (tree : Tree) → is_resolved (resolved_of tree) ≡ true → type_faults (program_of tree) ≡ [] → (told : Reasons Disowned) →
    AreNoted tree told → IsFirstTold tree told
first_right tree right fine told h =
    told_right tree right fine (first_of told.places)
    (sym (first-map line_and_reason told.places) ∙ ap first_of h ∙ first-none line_in (ownership_reasons (resolved_of tree)))

-- the recorded lines are the least
pub all_right : (tree : Tree) (told : Reasons Disowned) → AreNoted tree told → AreLeastFaults tree told
all_right tree told h = sym (there-map line_and_reason told.places) ∙ ap there h ∙ there-rising line_in (ownership_reasons (resolved_of tree))

-- the line of a reason of the list
at_place : (rs : List (ℕ × Reason)) (x : ℕ × Reason) (k : ℕ) → k < length rs → slice_index_or rs k x ≡ x → (k < length (lines_of rs)) × (slice_index_or (lines_of rs) k x.0 ≡ x.0)
at_place [] x k lt h = absurd (omega (arith, lt))
at_place (r ∷ rs) x zero lt h = (omega arith, ap line_of h)
at_place (r ∷ rs) x (suc k) lt h = let more = at_place rs x k (omega (arith, lt)) h in let less = more.0 in (omega (arith, less), more.1)

line_there : (rs : List (ℕ × Reason)) (x : ℕ × Reason) → Contains rs x → Contains (lines_of rs) x.0
line_there rs x h = let at = at_place rs x h.0 h.1 h.2 in (h.0, at.0, at.1)

pub disowned_refused : (tree : Resolved) → is_resolved tree ≡ true → type_faults (plain tree) ≡ [] → (line : ℕ) (r : Reason) → IsDisowned tree line r → IsRejectedBefore (plain tree) line
disowned_refused tree right fine line r h = by (lowest None (ownership_faults (plain tree))) refl
  where
    lines : List ℕ
    lines = flat_map function_lines tree.functions

    there : Contains lines line
    there = subst (λ (ls : List ℕ). Contains ls line) (functions_lines tree.functions) (line_there (ownership_reasons tree) (line, r) h)

    by : (o : Option ℕ) → lowest None (ownership_faults (plain tree)) ≡ o → IsRejectedBefore (plain tree) line
    by None e =
        let none = no_lines lines (sym (ownership_by_slot tree right fine) ∙ e) in
        absurd (All-contains (λ _. ⊥) [] line (λ k d h. omega (arith, h)) (subst (λ (ls : List ℕ). Contains ls line) none there))
    by (Some least) e =
        let slots = least_line lines least (sym (ownership_by_slot tree right fine) ∙ e) in
        record { least = least; is = least_line (ownership_faults (plain tree)) least e; before = All-contains (λ other. least ≤ other) lines line slots.least there }
