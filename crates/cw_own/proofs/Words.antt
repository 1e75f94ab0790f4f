-- Boolean identities.
use Rattle.std.proofs.Common.{◌≡◌, Bool, true, false, ◌&&◌, ◌||◌, if◌then◌else◌, refl, not}

pub if_or : (a b : Bool) → (if a then true else b) ≡ (a || b)
if_or true b = refl
if_or false b = refl

-- the terms of two disjunctions, regrouped
pub four_or : (a b c d : Bool) → ((a || b) || (c || d)) ≡ ((a || c) || (b || d))
four_or true b c d = refl
four_or false true true d = refl
four_or false true false d = refl
four_or false false c d = refl

-- two steps hold the locals of the second step, and the part of the first step's locals that the second keeps
pub two_steps : (a b h k l : Bool) → (a || ((b || (h && k)) && l)) ≡ ((a || (b && l)) || (h && (k && l)))
two_steps true b h k l = refl
two_steps false true h k true = refl
two_steps false true true k false = lemma k
  where
    lemma : (k : Bool) → false ≡ (false || (k && false))
    lemma true = refl
    lemma false = refl
two_steps false true false k false = refl
two_steps false false true true l = refl
two_steps false false true false l = refl
two_steps false false false k l = refl

-- two branches hold the locals that each holds, and those that either keeps
pub two_ways : (a b h k l : Bool) → ((a || (h && k)) || (b || (h && l))) ≡ ((a || b) || (h && (k || l)))
two_ways true b h k l = refl
two_ways false true true true l = refl
two_ways false true true false l = refl
two_ways false true false k l = refl
two_ways false false true true l = refl
two_ways false false true false l = refl
two_ways false false false k l = refl

-- the locals that an iteration keeps were held before
pub turn_adds : (a h k : Bool) → (h || (a || (h && k))) ≡ (h || a)
turn_adds a true k = refl
turn_adds true false k = refl
turn_adds false false k = refl

pub masked : (n a h k : Bool) → (n && (a || (h && k))) ≡ ((n && a) || (h && (n && k)))
masked true a h k = refl
masked false a true k = refl
masked false a false k = refl

pub or_swap : (a b c : Bool) → (a || (b || c)) ≡ (b || (a || c))
or_swap true true c = refl
or_swap true false c = refl
or_swap false b c = refl

pub none_of_both : (a b : Bool) → (a && (b && false)) ≡ false
none_of_both true true = refl
none_of_both true false = refl
none_of_both false b = refl

pub or_none_of : (a b : Bool) → a ≡ (a || (b && false))
or_none_of true b = refl
or_none_of false true = refl
or_none_of false false = refl

pub not_either : (a b : Bool) → not (a || b) ≡ (not a && not b)
not_either true b = refl
not_either false b = refl
