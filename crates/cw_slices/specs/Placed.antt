-- A slice as contracts see it: its numbers, and where they lie.
use Rattle.std.specs.Prelude.{◌≡◌, ℕ, ◌*◌, ℤ, List, drop, length, refl}
use Rattle.std.specs.Coded.{Coded, code_by, coded×, coded_list, coded_ℕ, coded_ℤ}
use denote.RawPtr.{Ptr, coded_ptr, ◌+ₚ◌}

-- the place of a slice: its pointer, and the length of the block that it frees (0 if it does not begin the block);
-- `halved` is 0 if the right to its places is whole, and otherwise how often the right was halved, so that it only
-- permits reading
pub record Spot : Type 0 where
  pub ptr : Ptr
  pub frees : ℕ
  pub halved : ℕ

-- the place `n` numbers further in the same block
abbrev pub after : ℕ → Spot → Spot
after n s = record { ptr = s.ptr +ₚ (n * 8); frees = 0; halved = s.halved }

-- the place `n` numbers further in the same block, with the right halved `d` times
abbrev pub shared_after : (from halved : ℕ) → Spot → Spot
shared_after n d s = record { ptr = s.ptr +ₚ (n * 8); frees = 0; halved = d }

-- the place of a slice, from its words
abbrev pub spot_of : Ptr → (frees halved : ℕ) → Spot
spot_of p frees d = record { ptr = p; frees = frees; halved = d }

-- numbers, and where they lie
pub record Placed : Type 0 where
  pub items : List ℤ
  pub spot : Spot

abbrev pub placed_code : Coded Placed
placed_code =
    code_by (List ℤ × (Ptr × (ℕ × ℕ)))
    (coded× (coded_list coded_ℤ) (coded× coded_ptr (coded× coded_ℕ coded_ℕ)))
    (λ s. (s.items, (s.spot.ptr, (s.spot.frees, s.spot.halved))))
    (λ p. record { items = p.0; spot = record { ptr = p.1.0; frees = p.1.1.0; halved = p.1.1.1 } })
    (λ _. refl)

-- the slice has one owner, who may write
abbrev pub IsOwn : Placed → Type 0
IsOwn s = s.spot.halved ≡ 0

-- the second begins where the first ends
abbrev pub Follows : Placed → Placed → Type 0
Follows l r = r.spot ≡ after (length l.items) l.spot

-- a slice, from its numbers and words
abbrev pub placed_by : List ℤ → Ptr → (frees halved : ℕ) → Placed
placed_by items p frees d = record { items = items; spot = spot_of p frees d }

-- the part of a slice from number `n` on
abbrev pub cut_at : ℕ → Placed → Placed
cut_at n s = record { items = drop n s.items; spot = after n s.spot }
