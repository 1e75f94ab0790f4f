-- Spans and titles, as slices and blocks exchange them.
use Rattle.std.specs.Prelude.{◌≡◌, ℕ, ◌^◌, ◌<◌, true, length, replicate}
use denote.RawPtr.{Ptr}
use Rattle.cw_slices.specs.declared.memory.Span.{Span}
use Rattle.cw_slices.specs.declared.memory.Title.{Title}

-- a span lies at `p` and has `len` cells, all filled
abbrev pub IsRun : Ptr → (len : ℕ) → Span → Type 0
IsRun p len s = (s.at ≡ p) × (len ≡ length s.items) × (s.filled ≡ replicate len true)

-- a title is the right to free a block of `n` cells at `p`; for 0 cells there is no such right
abbrev pub MayFree : {A : Type 0} → (cells : ℕ) → Ptr → A → Title A → Type 0
MayFree n p alloc t = (n < 2 ^ 60) × (t.frees ≡ n) × (0 < n → (t.heap ≡ alloc) × (t.at ≡ p))

-- a slice or block that frees its memory has the whole right to it
abbrev pub FreesOwn : (frees halved : ℕ) → Type 0
FreesOwn n d = 0 < n → d ≡ 0
