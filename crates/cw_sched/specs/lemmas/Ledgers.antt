-- The list of a ledger after each step, for entries of any type.
use Rattle.std.proofs.Common.{◌≡◌, ℕ, Bool, true, false, List, [], ◌∷◌, ◌++◌, refl, ap, ◌∙◌}
use Rattle.std.specs.Prelude.{is_some, if◌then◌else◌}
use Rattle.cw_sched.specs.core.Board.{pushed, oldest, but_newest, but_oldest}
use Rattle.cw_sched.specs.core.Ledger.{Fate, Lies, Back, Gone, if_lies, outs, ledger_offer, taken_back, ledger_retake}
use Rattle.cw_sched.specs.core.Ledger.{steal_at, ledger_steal}

module _ {A : Type 0} where
  lies_on : (f : Fate) (y : A) (xs : List A) (x : A) → if_lies f y (xs ++ x ∷ []) ≡ if_lies f y xs ++ x ∷ []
  lies_on Lies y xs x = refl
  lies_on Back y xs x = refl
  lies_on (Gone by) y xs x = refl

  pub outs_offer : (x : A) (es : List (A × Fate)) → outs (ledger_offer x es) ≡ pushed (outs es) x
  outs_offer x [] = refl
  outs_offer x (e ∷ es) = ap (if_lies e.1 e.0) (outs_offer x es) ∙ lies_on e.1 e.0 (outs es) x

  newest_on : (f : Fate) (y : A) (xs : List A) → is_some (oldest xs) ≡ true
      → if_lies f y (but_newest xs) ≡ but_newest (if_lies f y xs)
  newest_on f y [] h = cc
  newest_on Lies y (x ∷ xs) h = refl
  newest_on Back y (x ∷ xs) h = refl
  newest_on (Gone by) y (x ∷ xs) h = refl

  newest_here : (f : Fate) (y : A) (xs : List A) → is_some (oldest xs) ≡ false
      → if_lies (taken_back f) y xs ≡ but_newest (if_lies f y xs)
  newest_here f y (x ∷ xs) h = cc
  newest_here Lies y [] h = refl
  newest_here Back y [] h = refl
  newest_here (Gone by) y [] h = refl

  pub outs_retake : (es : List (A × Fate)) → outs (ledger_retake es) ≡ but_newest (outs es)
  outs_retake [] = refl
  outs_retake (e ∷ es) = cases (is_some (oldest (outs es))) refl (outs_retake es)
    where
      cases : (b : Bool) → is_some (oldest (outs es)) ≡ b → outs (ledger_retake es) ≡ but_newest (outs es)
          → outs (if b then e ∷ ledger_retake es else (e.0, taken_back e.1) ∷ es)
          ≡ but_newest (if_lies e.1 e.0 (outs es))
      cases true h later = ap (if_lies e.1 e.0) later ∙ newest_on e.1 e.0 (outs es) h
      cases false h later = newest_here e.1 e.0 (outs es) h

  steal_on : (p : ℕ) (f : Fate) (x : A) (es rest : List (A × Fate)) → outs rest ≡ but_oldest (outs es)
      → outs (steal_at p x f es rest) ≡ but_oldest (if_lies f x (outs es))
  steal_on p Lies x es rest h = refl
  steal_on p Back x es rest h = h
  steal_on p (Gone by) x es rest h = h

  pub outs_steal : (p : ℕ) (es : List (A × Fate)) → outs (ledger_steal p es) ≡ but_oldest (outs es)
  outs_steal p [] = refl
  outs_steal p (e ∷ es) = steal_on p e.1 e.0 es (ledger_steal p es) (outs_steal p es)
