-- The names held after a `while` are the least set that is closed under its body.
use Rattle.std.proofs.Common.{◌≡◌, ℕ, zero, suc, ◌+◌, ◌<◌, Bool, true, false, cond, List, [], ◌∷◌, ◌++◌, get_or, filter, Contains, ◌⊎◌, inl, inr, ⊎_elim, arith, refl, zero-lt-suc}
use Rattle.std.proofs.lemmas.List.Elements.{Contains-append_left, Contains-append_right, Contains-append_cases, All-filter, All-contains, All-contains_itself, filter_passes}
use Rattle.cw_model.specs.declared.syntax.CallKind.TheVariants.{Spawned}
use Rattle.cw_model.specs.Syntax.{Name, Expr, Stmt, Call, Sync, If, IfElse, While, For, Scope, Cut, Region, Return, Block, End, Then, Function}
use Rattle.cw_model.specs.Typing.{block_returns}
use Rattle.cw_model.specs.Ownership.{Holder, CutOf, Taken, freed, cut_ended, without, where_it_goes_on, own_names, taken_after, taken_after_all, IsLeastClosed}
use Rattle.cw_model.specs.WhileLaw.{one_turn}

-- the only element of a list with one element
only : {X : Type 0} (y x : X) (k : ℕ) → k < 1 → get_or (y ∷ []) k x ≡ x → y ≡ x
only y x zero l e = e
only y x (suc k) l e = absurd (omega arith)

in_filter : {X : Type 0} (test : X → Bool) (xs : List X) (x : X) → Contains xs x → test x ≡ true → Contains (filter test xs) x
in_filter test [] x c e = absurd (omega (arith, c.1))
in_filter {X} test (y ∷ xs) x c e =
    ⊎_elim
    (λ here. let same : y ≡ x = only y x here.0 here.1 here.2 in rw (same, e) (0, zero-lt-suc _, refl))
    (λ later. by_test (test y) (in_filter test xs x later e))
    (Contains-append_cases (y ∷ []) xs x c)
  where
    by_test : (b : Bool) → Contains (filter test xs) x → Contains (cond b (y ∷ filter test xs) (filter test xs)) x
    by_test true h = Contains-append_right (y ∷ []) (filter test xs) x h
    by_test false h = h

from_filter : {X : Type 0} (test : X → Bool) (xs : List X) (x : X) → Contains (filter test xs) x → Contains xs x
from_filter test xs x c = All-contains (Contains xs) (filter test xs) x (All-filter test (Contains xs) xs (All-contains_itself xs)) c

passes : {X : Type 0} (test : X → Bool) (xs : List X) (x : X) → Contains (filter test xs) x → test x ≡ true
passes test xs x c = All-contains (λ x. test x ≡ true) (filter test xs) x (filter_passes test xs) c

-- each remaining pair was in the set before, or remains for every set; and a pair that remains for one set remains
-- for each set that contains it
record Acts (f : Taken → Taken) : Type 0 where
  source : (set : Taken) (p : Name × Holder) → Contains (f set) p → Contains set p ⊎ ((other : Taken) → Contains (f other) p)
  keeps : (set : Taken) (p : Name × Holder) → Contains (f set) p → (other : Taken) → Contains other p → Contains (f other) p

-- more remains of a larger set
grows : (f : Taken → Taken) → Acts f → (set other : Taken) → ((p : Name × Holder) → Contains set p → Contains other p) →
    (p : Name × Holder) → Contains (f set) p → Contains (f other) p
grows f a set other more p c = ⊎_elim (λ here. a.keeps set p c other (more p here)) (λ always. always other) (a.source set p c)

all_stays : Acts (λ set. set)
all_stays = record { source = λ set p c. inl c; keeps = λ set p c other d. d }

nothing_stays : Acts (λ set. [])
nothing_stays = record { source = λ set p c. absurd (omega (arith, c.1)); keeps = λ set p c other d. absurd (omega (arith, c.1)) }

some_stays : (test : Name × Holder → Bool) → Acts (λ set. filter test set)
some_stays test = record {
  source = λ set p c. inl (from_filter test set p c);
  keeps = λ set p c other d. in_filter test other p d (passes test set p c);
}

one_after_another : (f g : Taken → Taken) → Acts f → Acts g → Acts (λ set. g (f set))
one_after_another f g a b = record {
  source = λ set p c.
      ⊎_elim
      (λ here. ⊎_elim (λ before. inl before) (λ always. inr (λ other. b.keeps (f set) p c (f other) (always other))) (a.source set p here))
      (λ always. inr (λ other. always (f other)))
      (b.source (f set) p c);
  keeps = λ set p c other d.
      ⊎_elim
      (λ here. b.keeps (f set) p c (f other) (a.keeps set p here other d))
      (λ always. always (f other))
      (b.source (f set) p c);
}

both_together : (f g : Taken → Taken) → Acts f → Acts g → Acts (λ set. f set ++ g set)
both_together f g a b = record {
  source = λ set p c.
      ⊎_elim
      (λ here. ⊎_elim (λ before. inl before) (λ always. inr (λ other. Contains-append_left (f other) (g other) p (always other))) (a.source set p here))
      (λ here. ⊎_elim (λ before. inl before) (λ always. inr (λ other. Contains-append_right (f other) (g other) p (always other))) (b.source set p here))
      (Contains-append_cases (f set) (g set) p c);
  keeps = λ set p c other d.
      ⊎_elim
      (λ here. Contains-append_left (f other) (g other) p (a.keeps set p here other d))
      (λ here. Contains-append_right (f other) (g other) p (b.keeps set p here other d))
      (Contains-append_cases (f set) (g set) p c);
}

some_join : (more : Taken) → Acts (λ set. more ++ set)
some_join more = both_together (λ set. more) (λ set. set) (record { source = λ set p c. inr (λ other. c); keeps = λ set p c other d. c }) all_stays

goes_on : (returns : Bool) (f : Taken → Taken) → Acts f → Acts (λ set. where_it_goes_on returns (f set))
goes_on true f a = nothing_stays
goes_on false f a = a

-- the names that a sync block leaves held, without its own names and those that its end releases
ends : (depth : ℕ) (names : List Name) (f : Taken → Taken) → Acts f → Acts (λ set. freed depth (without names (f set)))
ends depth names f a =
    one_after_another (λ set. without names (f set)) (freed depth) (one_after_another f (without names) a (some_stays _)) (some_stays _)

mutual
  stmt_acts : (fs : List Function) (depth : ℕ) (s : Stmt) → Acts (taken_after fs depth s)
  stmt_acts fs depth (Call Spawned site target f es) = one_after_another _ _ (some_join _) (some_join _)
  stmt_acts fs depth Sync = some_stays _
  stmt_acts fs depth (Return e) = some_stays _
  stmt_acts fs depth (If e b) =
      both_together _ _ (goes_on (block_returns b) _ (one_after_another _ (without (own_names b)) (block_acts fs depth b) (some_stays _))) all_stays
  stmt_acts fs depth (IfElse e b c) =
      both_together _ _
      (goes_on (block_returns b) _ (one_after_another _ (without (own_names b)) (block_acts fs depth b) (some_stays _)))
      (goes_on (block_returns c) _ (one_after_another _ (without (own_names c)) (block_acts fs depth c) (some_stays _)))
  stmt_acts fs depth (While e b) =
      both_together _ _ all_stays (goes_on (block_returns b) _ (one_after_another _ (without (own_names b)) (block_acts fs depth b) (some_stays _)))
  stmt_acts fs depth (Scope b) = ends (depth + 1) (own_names b) _ (block_acts fs (depth + 1) b)
  stmt_acts fs depth (Region tag b) = ends (depth + 1) (own_names b) _ (block_acts fs (depth + 1) b)
  stmt_acts fs depth (Cut a e l r b) =
      one_after_another _ (cut_ended a)
      (one_after_another (λ set. (a, CutOf) ∷ set) _ (some_join ((a, CutOf) ∷ [])) (ends (depth + 1) (l ∷ r ∷ own_names b) _ (block_acts fs (depth + 1) b)))
      (some_stays _)
  stmt_acts fs depth (For x y z from to grain over b) = ends (depth + 1) (x ∷ own_names b) _ (block_acts fs (depth + 1) b)
  stmt_acts fs depth _ = all_stays

  block_acts : (fs : List Function) (depth : ℕ) (b : Block) → Acts (taken_after_all fs depth b)
  block_acts fs depth End = all_stays
  block_acts fs depth (Then line s b) = one_after_another (taken_after fs depth s) (taken_after_all fs depth b) (stmt_acts fs depth s) (block_acts fs depth b)

turn_acts : (fs : List Function) (depth : ℕ) (b : Block) → Acts (one_turn fs depth b)
turn_acts fs depth b = goes_on (block_returns b) _ (one_after_another (taken_after_all fs depth b) (without (own_names b)) (block_acts fs depth b) (some_stays _))

least_closed : (turn : Taken → Taken) (before : Taken) → Acts turn → IsLeastClosed turn before (before ++ turn before)
least_closed turn before a = record {
  holds_before = λ p c. Contains-append_left before (turn before) p c;
  closed = λ p c.
      ⊎_elim
      (λ here. here)
      (λ always. Contains-append_right before (turn before) p (always before))
      (a.source (before ++ turn before) p c);
  least = λ set more closed p c.
      ⊎_elim (λ here. more p here) (λ here. closed p (grows turn a before set more p here)) (Contains-append_cases before (turn before) p c);
}

pub while_is_least : (fs : List Function) (depth : ℕ) (e : Expr) (b : Block) (before : Taken) →
    IsLeastClosed (one_turn fs depth b) before (taken_after fs depth (While e b) before)
while_is_least fs depth e b before = least_closed (one_turn fs depth b) before (turn_acts fs depth b)
