-- On which shelf and page a number lies.
use Rattle.std.specs.Prelude.{◌≡◌, ℕ, ◌+◌, ◌-◌, ◌*◌, ◌/◌, ◌%◌, ◌<◌, ◌≤◌}
use Rattle.std.proofs.Common.{◌∙◌, ap, sym, subst, arith}
use Rattle.std.proofs.lemmas.Nat.{div-mul-add, mod-mul-add, le-div}

-- the numbers of a shelf, by how far behind its first one
pub on_shelf : (shelf rest : ℕ) → rest < 256 → ((shelf * 256 + rest) / 256 ≡ shelf) × ((shelf * 256 + rest) % 256 ≡ rest)
on_shelf shelf rest h = (div-mul-add shelf 256 rest h, mod-mul-add shelf 256 rest h)

-- the numbers of a page
pub on_page : (shelf page q : ℕ) → page < 32 → shelf * 256 + page * 8 ≤ q → q < shelf * 256 + page * 8 + 8 → (q / 256 ≡ shelf) × ((q % 256) / 8 ≡ page)
on_page shelf page q less from to =
    let number = q - (shelf * 256 + page * 8) in
    let is : q ≡ shelf * 256 + (page * 8 + number) = omega arith in
    let at = on_shelf shelf (page * 8 + number) (omega arith) in
    let within = div-mul-add page 8 number (omega arith) in
    (ap (λ (k : ℕ). k / 256) is ∙ at.0, ap (λ (k : ℕ). k % 256 / 8) is ∙ ap (λ (k : ℕ). k / 8) at.1 ∙ within)

-- those of a shelf from a page on
pub on_pages_from : (shelf page q : ℕ) → shelf * 256 + page * 8 ≤ q → q < shelf * 256 + 256 → (q / 256 ≡ shelf) × (page ≤ (q % 256) / 8)
on_pages_from shelf page q from to =
    let rest = q - shelf * 256 in
    let is : q ≡ shelf * 256 + rest = omega arith in
    let at = on_shelf shelf rest (omega arith) in
    let within : page ≤ rest / 8 = le-div page rest 8 (omega arith) (omega arith) in
    (ap (λ (k : ℕ). k / 256) is ∙ at.0, subst (λ (k : ℕ). page ≤ k / 8) (sym (ap (λ (k : ℕ). k % 256) is ∙ at.1)) within)

-- those of all shelves from one on
pub on_shelves_from : (shelf q : ℕ) → shelf * 256 ≤ q → shelf ≤ q / 256
on_shelves_from shelf q h = le-div shelf q 256 (omega arith) h
