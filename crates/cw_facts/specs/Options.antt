-- Options, results, and case distinctions.
use Rattle.std.proofs.Common.{◌≡◌, ℕ, ◌⊎◌, inl, inr, Ok, Err, Result, MatchResult, IsErrAnd, sym, subst}

-- if the error can only be `e`, and `P` holds for `e`, then `P` holds for the error
pub handed_on : {A E : Type 0} (Q : A → Type 0) (P : E → Type 0) (e : E) (r : Result A E) → P e → IsErrAnd r (λ x. x ≡ e) → MatchResult r Q P
handed_on Q P e (Ok x) p h = absurd h
handed_on Q P e (Err x) p h = subst P (sym h) p

-- in either case, the number of that case is 0
pub which_ends : {S T : Type 0} {P : S → Type 0} {Q : T → Type 0} (m n : ℕ) → ((u : S) × ((m ≡ 0) × P u)) ⊎ ((u : T) × ((n ≡ 0) × Q u)) → (m ≡ 0) ⊎ (n ≡ 0)
which_ends m n (inl x) = inl x.1.0
which_ends m n (inr x) = inr x.1.0
