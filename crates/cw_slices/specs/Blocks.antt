-- A block as contracts see it: which of its numbers are in, and where they lie.
use Rattle.std.specs.Prelude.{◌≡◌, ℕ, suc, ◌+◌, ◌-◌, ◌^◌, ◌<◌, ◌≤◌, ◌⊎◌, ℤ, pos, Bool, true, false, List, [], ◌∷◌}
use Rattle.std.specs.Prelude.{◌++◌, length, take, drop, map, replicate, Option, Some, None, slice_get, refl}
use Rattle.std.specs.Coded.{Coded, code_by, coded×, coded_list, coded_option, coded_ℕ, coded_ℤ}
use denote.RawPtr.{Ptr, coded_ptr}
use Rattle.cw_slices.specs.Placed.{Spot, spot_of}

-- a block: for each place its number, or nothing if it is lent out; how often the right to each place was halved (one
-- share is out for each time beyond the `halved` of `spot`); and where the block lies
pub record Lodged : Type 0 where
  pub cells : List (Option ℤ)
  pub rights : List ℕ
  pub spot : Spot

abbrev pub lodged_code : Coded Lodged
lodged_code =
    code_by (List (Option ℤ) × (List ℕ × (Ptr × (ℕ × ℕ))))
    (coded× (coded_list (coded_option coded_ℤ))
    (coded× (coded_list coded_ℕ) (coded× coded_ptr (coded× coded_ℕ coded_ℕ))))
    (λ s. (s.cells, (s.rights, (s.spot.ptr, (s.spot.frees, s.spot.halved)))))
    (λ r. record
    { cells = r.0; rights = r.1.0; spot = record { ptr = r.1.1.0; frees = r.1.1.1.0; halved = r.1.1.1.1 } })
    (λ _. refl)

-- these numbers as cells that are all in
abbrev pub ins : List ℤ → List (Option ℤ)
ins xs = map (λ x. Some x) xs

-- this number of cells, all out
abbrev pub outs : ℕ → List (Option ℤ)
outs n = replicate n None

-- the list `old` with the elements from `from` on replaced by `new`
abbrev pub patched : {X : Type 0} → (from : ℕ) → List X → List X → List X
patched from new old = take from old ++ (new ++ drop (from + length new) old)

-- the number at this place is in
abbrev pub IsIn : List (Option ℤ) → (place : ℕ) → Type 0
IsIn cells k = (x : ℤ) × (slice_get cells k ≡ Some (Some x))

-- from `from` on, the cells hold these numbers, all in
abbrev pub Have : List (Option ℤ) → (from : ℕ) → List ℤ → Type 0
Have cells from xs = (k : ℕ) (x : ℤ) → slice_get xs k ≡ Some x → slice_get cells (from + k) ≡ Some (Some x)

-- from `from` on, `count` cells are in
abbrev pub AreIn : List (Option ℤ) → (from count : ℕ) → Type 0
AreIn cells from count = (xs : List ℤ) × (length xs ≡ count) × Have cells from xs

-- from `from` on, `count` cells are out
abbrev pub AreOut : List (Option ℤ) → (from count : ℕ) → Type 0
AreOut cells from count = (k : ℕ) → k < count → slice_get cells (from + k) ≡ Some None

-- the cells hold these numbers from `from` on, and `rest` are the cells after the numbers are taken out
abbrev pub IsParted : List (Option ℤ) → (from : ℕ) → List ℤ → List (Option ℤ) → Type 0
IsParted cells from xs rest = Have cells from xs × (rest ≡ patched from (outs (length xs)) cells)

-- from `from` on, the right to each of `count` places was halved `d` times
abbrev pub AreHalved : (rights : List ℕ) → (from count : ℕ) → (halved : ℕ) → Type 0
AreHalved rights from count d = (k : ℕ) → k < count → slice_get rights (from + k) ≡ Some d

-- from `from` on, the right to each of `count` places was halved equally often
abbrev pub AreAlike : (rights : List ℕ) → (from count : ℕ) → Type 0
AreAlike rights from count = (d : ℕ) × AreHalved rights from count d

-- `left` are the rights after the right to `count` places is halved once more, so that it was halved `d'` times
abbrev pub IsShared : (rights : List ℕ) → (from count halved : ℕ) → (left : List ℕ) → Type 0
IsShared rights from count d' left =
    (d : ℕ) × (d' ≡ suc d) × AreHalved rights from count d × (left ≡ patched from (replicate count (suc d)) rights)

-- `left` are the rights after two halves of the right to `count` places are merged
abbrev pub AreMerged : (rights : List ℕ) → (from count halved : ℕ) → (left : List ℕ) → Type 0
AreMerged rights from count d left = left ≡ patched from (replicate count (d - 1)) rights

-- no share of a block is out
abbrev pub IsWhole : Lodged → Type 0
IsWhole b = b.rights ≡ replicate (length b.cells) b.spot.halved

-- the number of cells that are out
abbrev pub missing : List (Option ℤ) → ℕ
missing [] = 0
missing (Some x ∷ cells) = missing cells
missing (None ∷ cells) = suc (missing cells)

-- how often the rights were halved in total, above `least` for each
abbrev pub excess : (least : ℕ) → (rights : List ℕ) → ℕ
excess e [] = 0
excess e (d ∷ rights) = (d - e) + excess e rights

abbrev pub AtLeast : (least : ℕ) → (rights : List ℕ) → Type 0
AtLeast e rights = (k d : ℕ) → slice_get rights k ≡ Some d → e ≤ d

-- `n` counts `e` shared cells, each once for each share; or `n` is a number that stays, as once there were more than
-- any memory has room for
abbrev pub IsCount : (shared count : ℕ) → Type 0
IsCount e n = ((n ≡ e) × (n ≤ 2 ^ 62 + 2 ^ 60)) ⊎ ((2 ^ 63 ≤ n) × (n ≤ 2 ^ 63 + 2 ^ 62 + 2 ^ 60))

-- the cells are fewer than 2^60, each has its right, and `out` counts those that are out or shared
pub record Counts (cells : List (Option ℤ)) (rights : List ℕ) (base out : ℕ) : Type 0 where
  pub few : length cells < 2 ^ 60
  pub as_many : length rights ≡ length cells
  pub least : AtLeast base rights
  pub shared : ℕ
  pub is : out ≡ missing cells + shared
  pub counted : IsCount (excess base rights) shared

-- `out'` is `out` after `n` cells are shared once more (`CountsMore`), or once less (`CountsLess`)
abbrev pub CountsMore : (out more out' : ℕ) → Type 0
CountsMore out n out' =
    (m e c : ℕ) → m < 2 ^ 60 → out ≡ m + c → IsCount e c → (c' : ℕ) × (out' ≡ m + c') × IsCount (e + n) c'

abbrev pub CountsLess : (out less out' : ℕ) → Type 0
CountsLess out n out' =
    (m e c : ℕ) → m < 2 ^ 60 → out ≡ m + c → IsCount (e + n) c → (c' : ℕ) × (out' ≡ m + c') × IsCount e c'

-- the number of each cell, 0 for a cell that is out
abbrev pub numbers : List (Option ℤ) → List ℤ
numbers [] = []
numbers (Some x ∷ cells) = x ∷ numbers cells
numbers (None ∷ cells) = pos 0 ∷ numbers cells

-- whether each cell is in
abbrev pub marks : List (Option ℤ) → List Bool
marks [] = []
marks (Some x ∷ cells) = true ∷ marks cells
marks (None ∷ cells) = false ∷ marks cells

-- a block, from its words
abbrev pub lodged_by : (cells : List (Option ℤ)) → (rights : List ℕ) → Ptr → (frees halved : ℕ) → Lodged
lodged_by cells rights p frees d = record { cells = cells; rights = rights; spot = spot_of p frees d }
