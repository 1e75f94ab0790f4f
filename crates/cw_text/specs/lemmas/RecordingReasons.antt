-- The condition on the recorded entries after several lines are recorded.
use Rattle.std.proofs.Common.{◌≡◌, ℕ, List, Option, Some, None, IfSome, inl, inr, subst}
use Rattle.cw_text.specs.Rising.{Has}
use Rattle.cw_text.specs.RecordedReasons.{AreOf, IsTheOne, AddsOnly, no_place}
use Rattle.cw_text.specs.declared.reasons.At.{At}
use Rattle.cw_text.specs.declared.reasons.Reasons.{Reasons}

-- a condition on recorded entries may be weakened
pub weaken : {R : Type 0} (Such More : ℕ → R → Type 0) (a b : Reasons R) → ((line : ℕ) (r : R) → Such line r → More line r) →
    AddsOnly Such a b → AddsOnly More a b
weaken {R} Such More a b f told = λ at h. elim (told at h) [ inl was ↦ inl was | inr such ↦ inr (f at.line at.reason such) ]

-- two recordings of entries that satisfy `Such` compose
pub and_then : {R : Type 0} (Such : ℕ → R → Type 0) (a b c : Reasons R) → AddsOnly Such a b → AddsOnly Such b c → AddsOnly Such a c
and_then {R} Such a b c first second = λ at h. elim (second at h) [ inl was ↦ first at was | inr such ↦ inr such ]

-- if the reason found for a line satisfies `Such`, recording it keeps `AddsOnly Such`
pub found_true : {R : Type 0} (Such : ℕ → R → Type 0) (a b : Reasons R) (line : ℕ) (found : Option R) → IfSome found (Such line) →
    AddsOnly (IsTheOne line found) a b → AddsOnly Such a b
found_true {R} Such a b line None holds told = weaken (IsTheOne line None) Such a b (λ at r h. cc (h.1)) told
found_true {R} Such a b line (Some reason) holds told = weaken (IsTheOne line (Some reason)) Such a b (λ at r h. rw h.0 (same r h.1)) told
  where
    same : (r : R) → Some reason ≡ Some r → Such line r
    same r e =
        let is : reason ≡ r = cc e in
        subst (λ (q : R). Such line q) is holds

-- if nothing was recorded before, every recorded entry satisfies `Such`
pub all_true : {R : Type 0} (Such : ℕ → R → Type 0) (a b : Reasons R) → a.places ≡ no_place → AddsOnly Such a b → AreOf Such b
all_true {R} Such a b none told =
    λ at h. elim (told at h) [ inl was ↦ absurd (subst (λ (ps : List (Option (At R))). Has ps at) none was) | inr such ↦ such ]
