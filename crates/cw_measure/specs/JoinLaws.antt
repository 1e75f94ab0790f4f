-- Measures form a monoid.
use Rattle.std.specs.Prelude.{◌≡◌, ℕ}
use Rattle.cw_measure.specs.Counters.{Counters, up_to}
use Rattle.cw_measure.specs.Measured.{Measured, most, most_burdened, nothing, joined}
use Rattle.cw_measure.specs.SumLaws.{up_to_is}
use Rattle.cw_measure.specs.CounterLaws.{onward-assoc, onward-fresh_first, onward-fresh_last}

-- a measure, by its parts
abbrev pub record_of : ℕ → Counters → Counters → Measured
record_of w p b = record { work = w; plain = p; burdened = b }

pub same_parts : {w w' : ℕ} {p p' b b' : Counters} → w ≡ w' → p ≡ p' → b ≡ b' → record_of w p b ≡ record_of w' p' b'
same_parts e f g = cc

pub joined-first : (x : Measured) → joined nothing x ≡ x
joined-first x =
    let w = (up_to_is most).first x.work in
    let p = onward-fresh_first (up_to most) (up_to_is most) x.plain in
    let b = onward-fresh_first (up_to most_burdened) (up_to_is most_burdened) x.burdened in same_parts w p b

pub joined-last : (x : Measured) → joined x nothing ≡ x
joined-last x =
    let w = (up_to_is most).last x.work in
    let p = onward-fresh_last (up_to most) (up_to_is most) x.plain in
    let b = onward-fresh_last (up_to most_burdened) (up_to_is most_burdened) x.burdened in same_parts w p b

pub joined-assoc : (x y z : Measured) → joined (joined x y) z ≡ joined x (joined y z)
joined-assoc x y z =
    let w = (up_to_is most).regroup x.work y.work z.work in
    let p = onward-assoc (up_to most) (up_to_is most) x.plain y.plain z.plain in
    let b = onward-assoc (up_to most_burdened) (up_to_is most_burdened) x.burdened y.burdened z.burdened in cc
