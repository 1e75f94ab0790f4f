-- The condition on the recorded entry after several lines are recorded.
use Rattle.std.proofs.Common.{Bool, true, false, not, ◌||◌, ◌≡◌, ℕ, nat_le, if◌then◌else◌, arith, List, [], ◌∷◌, Contains, Option, Some, None, IfSome, refl, sym, ap, ◌∙◌, subst}
use Rattle.std.proofs.lemmas.Bool.Decides.{nat_tests}
use Rattle.std.specs.Option.{option_to_list}
use Rattle.cw_model.specs.Lines.{lesser, lowest}
use Rattle.cw_model.specs.lemmas.Lowest.{least_line}
use Rattle.cw_text.specs.declared.reasons.At.{At}
use Rattle.cw_types.specs.RecordingLines.{AsBefore, Anew, IsOf, IsTheLeast, IsTheOne, AddsOnly}
use Rattle.cw_types.specs.declared.least_reason.LeastReason.{LeastReason}

-- a condition on recorded entries may be weakened
pub weaken : {R : Type 0} (Such More : ℕ → R → Type 0) (a b : LeastReason R) → ((line : ℕ) (r : R) → Such line r → More line r) → AddsOnly Such a b → AddsOnly More a b
weaken {R} Such More a b f (AsBefore same) = AsBefore same
weaken {R} Such More a b f (Anew holds) = Anew (lift b.first holds)
  where
    lift : (o : Option (At R)) → IfSome o (λ at. Such at.line at.reason) → IfSome o (λ at. More at.line at.reason)
    lift None h = h
    lift (Some at) h = f at.line at.reason h

-- an unchanged record satisfies the same conditions
pub still : {R : Type 0} (Such : ℕ → R → Type 0) (a b : LeastReason R) → b.first ≡ a.first → IsOf Such a → IsOf Such b
still {R} Such a b same holds = subst (λ (o : Option (At R)). IfSome o (λ at. Such at.line at.reason)) (sym same) holds

-- two recordings of entries that satisfy `Such` compose
pub and_then : {R : Type 0} (Such : ℕ → R → Type 0) (a b c : LeastReason R) → AddsOnly Such a b → AddsOnly Such b c → AddsOnly Such a c
and_then {R} Such a b c (AsBefore first) (AsBefore second) = AsBefore (second ∙ first)
and_then {R} Such a b c (Anew first) (AsBefore second) = Anew (still Such b c second first)
and_then {R} Such a b c first (Anew second) = Anew second

-- if the reason found for a line satisfies `Such`, recording it keeps `AddsOnly Such`
pub found_true : {R : Type 0} (Such : ℕ → R → Type 0) (a b : LeastReason R) (line : ℕ) (found : Option R) → IfSome found (Such line) →
    AddsOnly (IsTheOne line found) a b → AddsOnly Such a b
found_true {R} Such a b line None holds told = weaken (IsTheOne line None) Such a b (λ at r h. cc (h.1)) told
found_true {R} Such a b line (Some reason) holds told = weaken (IsTheOne line (Some reason)) Such a b (λ at r h. rw h.0 (same r h.1)) told
  where
    same : (r : R) → Some reason ≡ Some r → Such line r
    same r e =
        let is : reason ≡ r = cc e in
        subst (λ (q : R). Such line q) is holds

-- recording the least of some lines keeps `AddsOnly Such`, because it is one of them
pub least_true : {R : Type 0} (Such : ℕ → R → Type 0) (a b : LeastReason R) (least : Option ℕ) (lines : List ℕ) (reason : R) → least ≡ lowest None lines →
    ((line : ℕ) → Contains lines line → Such line reason) → AddsOnly (IsTheLeast least reason) a b → AddsOnly Such a b
least_true {R} Such a b least lines reason is holds told =
    weaken (IsTheLeast least reason) Such a b (λ at r h. rw h.1 (holds at (least_line lines at (sym is ∙ h.0)).there)) told

-- if nothing was recorded before, the recorded entry satisfies `Such`
pub all_true : {R : Type 0} (Such : ℕ → R → Type 0) (a b : LeastReason R) → a.first ≡ None → AddsOnly Such a b → IsOf Such b
all_true {R} Such a b none (AsBefore same) = subst (λ (o : Option (At R)). IfSome o (λ at. Such at.line at.reason)) (sym (same ∙ none)) tt
all_true {R} Such a b none (Anew holds) = holds

lesser_twice : (o : Option ℕ) (m y : ℕ) → lesser o (if nat_le m y then m else y) ≡ lesser (lesser o m) y
lesser_twice None m y = refl
lesser_twice (Some k) m y = ap Some (grind (arith, nat_tests))

-- recording the least of some lines is the same as recording all of them
pub lowest_least : (o : Option ℕ) (lines : List ℕ) → lowest o (option_to_list (lowest None lines)) ≡ lowest o lines
lowest_least o lines = after None lines
  where
    one : (p : Option ℕ) (y : ℕ) → lowest o (option_to_list (lesser p y)) ≡ lesser (lowest o (option_to_list p)) y
    one None y = refl
    one (Some m) y = lesser_twice o m y

    after : (p : Option ℕ) (ys : List ℕ) → lowest o (option_to_list (lowest p ys)) ≡ lowest (lowest o (option_to_list p)) ys
    after p [] = refl
    after p (y ∷ ys) = after (lesser p y) ys ∙ ap (λ q. lowest q ys) (one p y)

pub kept : (b : Bool) → false ≡ not b → b ≡ true
kept true h = refl
kept false h = h

pub broken : (b : Bool) → true ≡ not b → b ≡ false
broken true h = h
broken false h = refl

pub both_sides : (g b : Bool) → (not g || b) ≡ false → (g ≡ true) × (b ≡ false)
both_sides true b h = (refl, h)
both_sides false b h = cc
