-- A world on the way, by the events so far.
use Rattle.std.proofs.Common.{◌≡◌, ℕ, zero, suc, ◌<◌, ◌≤◌, ℤ, List, [], ◌∷◌, refl, sym, subst, length, drop, slice_index_or, arith}
use Rattle.cw_model.specs.declared.burden.Burden.{Burden}
use Rattle.cw_runnable.specs.declared.verified.Verified.{Verified}
use Rattle.cw_sched.specs.declared.event.Event.{Event}
use Rattle.cw_sched.specs.declared.world.World.{World}
use Rattle.cw_sched.specs.Worlds.{IsWorldOf, IsStarted, Tries, Leads}

-- it is a world of this run; and whatever the events that are left lead to from it, all of them lead to from one that has
-- begun
pub record Playing (v : Verified) (args : List ℤ) (n : ℕ) (burden : Burden) (workers : ℕ) (events left : List Event) (w : World) : Type 0 where
  pub is : IsWorldOf v args n burden w
  pub first : World
  pub started : IsStarted v args n burden workers first
  pub leads : (last : World) → Leads left w last → Leads events first last

pub drop_next : {A : Type 0} (xs : List A) (i : ℕ) (d : A) → i < length xs → drop i xs ≡ slice_index_or xs i d ∷ drop (suc i) xs
drop_next [] i d lt = absurd (omega (arith, lt))
drop_next (x ∷ xs) zero d lt = refl
drop_next (x ∷ xs) (suc i) d lt = drop_next xs i d (omega (arith, lt))

pub drop_none : {A : Type 0} (xs : List A) (i : ℕ) → length xs ≤ i → drop i xs ≡ []
drop_none [] zero le = refl
drop_none [] (suc i) le = refl
drop_none (x ∷ xs) zero le = absurd (omega (arith, le))
drop_none (x ∷ xs) (suc i) le = drop_none xs i (omega (arith, le))

-- one event more
pub plays_on : (v : Verified) (args : List ℤ) (n : ℕ) (burden : Burden) (workers : ℕ) (events left left' : List Event) (e : Event) (w w' : World) → Playing v args n burden workers events left w
    → left ≡ e ∷ left' → IsWorldOf v args n burden w' → Tries w e w' → Playing v args n burden workers events left' w'
plays_on v args n burden workers events left left' e w w' p is of tries =
    record {
      is = of;
      first = p.first;
      started = p.started;
      leads = λ last h. p.leads last (subst (λ l. Leads l w last) (sym is) (w', tries, h));
    }

-- none is left
pub plays_out : (v : Verified) (args : List ℤ) (n : ℕ) (burden : Burden) (workers : ℕ) (events left : List Event) (w : World) → (p : Playing v args n burden workers events left w) → left ≡ []
    → Leads events p.first w
plays_out v args n burden workers events left w p is = p.leads w (subst (λ l. Leads l w w) (sym is) refl)
