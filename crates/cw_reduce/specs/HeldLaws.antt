-- States of reducers form a commutative monoid.
use Rattle.std.specs.Prelude.{◌≡◌, ℤ, ◌+◌, Option, refl}
use Rattle.std.proofs.Common.{ap, arith}
use Rattle.cw_reduce.specs.Words.{Word, word, plus}
use Rattle.cw_reduce.specs.WordLaws.{plus-assoc}
use Rattle.cw_reduce.specs.MaximumLaws.{greater-last, greater-assoc, greater-comm}
use Rattle.cw_reduce.specs.ReducerState.{ReducerState, Summed, Raised, none_held, held_joined}

plus-comm : (a b : Word) → plus a b ≡ plus b a
plus-comm a b = let e : a.bits + b.bits ≡ b.bits + a.bits = omega arith in ap word e

pub held-first : (a : ReducerState) → held_joined none_held a ≡ a
held-first (Summed a) = refl
held-first (Raised v) = refl

pub held-last : (a : ReducerState) → held_joined a none_held ≡ a
held-last (Summed a) = refl
held-last (Raised v) = ap (λ (o : Option ℤ). Raised o) (greater-last v)

pub held-assoc : (a b c : ReducerState) → held_joined (held_joined a b) c ≡ held_joined a (held_joined b c)
held-assoc (Summed a) (Summed b) (Summed c) = ap (λ (w : Word). Summed w) (plus-assoc a b c)
held-assoc (Summed a) (Summed b) (Raised w) = refl
held-assoc (Summed a) (Raised v) (Summed c) = refl
held-assoc (Summed a) (Raised v) (Raised w) = refl
held-assoc (Raised u) (Summed b) (Summed c) = refl
held-assoc (Raised u) (Summed b) (Raised w) = refl
held-assoc (Raised u) (Raised v) (Summed c) = refl
held-assoc (Raised u) (Raised v) (Raised w) = ap (λ (o : Option ℤ). Raised o) (greater-assoc u v w)

pub held-comm : (a b : ReducerState) → held_joined a b ≡ held_joined b a
held-comm (Summed a) (Summed b) = ap (λ (w : Word). Summed w) (plus-comm a b)
held-comm (Summed a) (Raised v) = refl
held-comm (Raised v) (Summed b) = refl
held-comm (Raised v) (Raised w) = ap (λ (o : Option ℤ). Raised o) (greater-comm v w)
