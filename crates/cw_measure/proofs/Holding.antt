-- Saturating counters are the exact counters, limited to the maximum.
use Rattle.std.specs.Prelude.{◌≡◌, ℕ, ◌+◌, ◌<◌, max, min, zero, suc}
use Rattle.std.proofs.Common.{sym, ◌∙◌, ap, arith}
use Rattle.cw_measure.specs.Counters.{exactly, up_to, Counters, Unsynced, Synced, later, onward, heaviest, held}
use Rattle.cw_measure.specs.SumLaws.{later_some}

pub held-sum : (g a b : ℕ) → up_to g (min g a) (min g b) ≡ min g (a + b)
held-sum g a b = omega arith

pub held-max : (g a b : ℕ) → max (min g a) (min g b) ≡ min g (max a b)
held-max g a b = omega arith

pub held-later : (g k l : ℕ) → 0 < g → later (up_to g) (min g k) (min g l) ≡ min g (later exactly k l)
held-later g k zero h = let e : min g 0 ≡ 0 = omega arith in ap (later (up_to g) (min g k)) e ∙ sym e
held-later g k (suc l) h = later_some (up_to g) (min g k) (min g (suc l)) (omega arith) ∙ held-sum g k (suc l)

held_longest : (g l k l' : ℕ) → 0 < g → max (min g l) (later (up_to g) (min g k) (min g l')) ≡ min g (max l (later exactly k l'))
held_longest g l k l' h = ap (max (min g l)) (held-later g k l' h) ∙ held-max g l (later exactly k l')

held_closed : (g l k p : ℕ) → max (min g l) (up_to g (min g k) (min g p)) ≡ min g (max l (k + p))
held_closed g l k p = ap (max (min g l)) (held-sum g k p) ∙ held-max g l (k + p)

pub held-onward : (g : ℕ) (a b : Counters) → 0 < g → onward (up_to g) (held g a) (held g b) ≡ held g (onward exactly a b)
held-onward g (Unsynced l k) (Unsynced l' k') h = let left = held_longest g l k l' h in let right = held-sum g k k' in cc
held-onward g (Unsynced l k) (Synced p l' k') h = let left = held_closed g l k p in cc
held-onward g (Synced p l k) (Unsynced l' k') h = let left = held_longest g l k l' h in let right = held-sum g k k' in cc
held-onward g (Synced p l k) (Synced p' l' k') h =
    let closed = held_closed g l k p' in
    let left = held-later g (max l (k + p')) l' h in
    let right = held-sum g (max l (k + p')) k' in cc

pub held-heaviest : (g : ℕ) (a : Counters) → heaviest (up_to g) (held g a) ≡ min g (heaviest exactly a)
held-heaviest g (Unsynced l k) = held-max g l k
held-heaviest g (Synced p l k) = ap (up_to g (min g p)) (held-max g l k) ∙ held-sum g p (max l k)
