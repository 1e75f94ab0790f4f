-- The blocks of array slots, of which only the first ones take memory.
use Rattle.std.specs.Prelude.{◌≡◌, ℕ, zero, suc, ◌+◌, ◌-◌, ◌<◌, ◌≤◌, ℤ, List, [], ◌∷◌, ◌++◌, length, replicate, slice_set, refl}
use Rattle.std.specs.Coded.{Coded, code_by, coded_list}
use Rattle.cw_slices.specs.Placed.{Placed, after, shared_after}
use Rattle.cw_slices.specs.Blocks.{Lodged, lodged_code, ins, outs, patched, Have, IsWhole, AreIn, AreOut, AreHalved, AreAlike, IsShared}
use Rattle.cw_machine.specs.Arrays.{block, IsBare}

-- a list of blocks
pub record ArrayList : Type 0 where
  pub items : List Lodged

abbrev pub array_list_code : Coded ArrayList
array_list_code = code_by (List Lodged) (coded_list lodged_code) (λ l. l.items) (λ l. record { items = l }) (λ _. refl)

-- the first `count` of these blocks, and if there are fewer, `none` for the others
abbrev pub padded : (none : Lodged) → List Lodged → (count : ℕ) → List Lodged
padded none made zero = []
padded none [] (suc n) = none ∷ padded none [] n
padded none (b ∷ made) (suc n) = b ∷ padded none made n

-- a block without places, which a slice of it that is lent equals
pub record IsNone (b : Lodged) : Type 0 where
  pub bare : IsBare b
  pub alike : b.spot ≡ after 0 b.spot

-- `none` is added some number of times, only if there are no blocks beyond an index
pub record HasReached (none : Lodged) (made : List Lodged) (index : ℕ) (made' : List Lodged) : Type 0 where
  pub more : ℕ
  pub are : made' ≡ made ++ replicate more none
  pub few : 0 < more → length made' ≤ suc index

-- these blocks, and blocks without places after them, `count` in all
pub record Begins (made : List Lodged) (count : ℕ) (blocks : List Lodged) : Type 0 where
  pub as_many : length blocks ≡ count
  pub first : (k : ℕ) → k < length made → block blocks k ≡ block made k
  pub bare : (k : ℕ) → length made ≤ k → IsBare (block blocks k)

-- this number of empty blocks is added
abbrev pub HasMore : (more : ℕ) → List Lodged → List Lodged → Type 0
HasMore count blocks blocks' =
    (more : List Lodged) × (length more ≡ count) × ((k : ℕ) → IsBare (block more k)) × (blocks' ≡ blocks ++ more)

-- all places of a block are in, and no share of it is out
abbrev pub IsAllIn : Lodged → Type 0
IsAllIn b = ((xs : List ℤ) × (b.cells ≡ ins xs)) × IsWhole b

-- the places of a block were moved out
pub record HasTaken (blocks : List Lodged) (index : ℕ) (blocks' : List Lodged) : Type 0 where
  pub left : Lodged
  pub bare : IsBare left
  pub are : blocks' ≡ slice_set blocks index left

-- blocks without places are added, so that there are `count`
abbrev pub HasLengthened : List Lodged → (count : ℕ) → List Lodged → Type 0
HasLengthened blocks count blocks' = HasMore (count - length blocks) blocks blocks'

-- the blocks after numbers of one were lent
abbrev pub after_lend : List Lodged → (index from count : ℕ) → List Lodged
after_lend blocks index from count =
    let old = block blocks index in
    slice_set blocks index (record { cells = patched from (outs count) old.cells; rights = old.rights; spot = old.spot })

-- the right to places was halved once less than `halved` times, equally often for all
abbrev pub HasHalved : (rights : List ℕ) → (from count halved : ℕ) → Type 0
HasHalved rights from count halved = (d : ℕ) × (halved ≡ suc d) × AreHalved rights from count d

-- the blocks after numbers of one were shared
abbrev pub after_share : List Lodged → (index from count halved : ℕ) → List Lodged
after_share blocks index from count d =
    let old = block blocks index in
    slice_set blocks index (record { cells = old.cells; rights = patched from (replicate count d) old.rights; spot = old.spot })

-- the blocks after a slice was returned to one
abbrev pub after_return : List Lodged → (index from : ℕ) → List ℤ → List Lodged
after_return blocks index from xs =
    let old = block blocks index in
    slice_set blocks index (record { cells = patched from (ins xs) old.cells; rights = old.rights; spot = old.spot })

-- the blocks after a share was returned to one
abbrev pub after_merge : List Lodged → (index from count halved : ℕ) → List Lodged
after_merge blocks index from count d =
    let old = block blocks index in
    slice_set blocks index
    (record { cells = old.cells; rights = patched from (replicate count (d - 1)) old.rights; spot = old.spot })
