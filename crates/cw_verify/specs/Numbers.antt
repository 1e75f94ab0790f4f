-- Numbers for lists of enclosing sync blocks: two pcs with the same number have the same enclosing blocks.
use Rattle.std.specs.Prelude.{◌≡◌, ◌⊎◌, ℕ, ◌<◌, ◌≤◌, Bool, true, false, List, Option, Some, None, Result, IfOk}
use Rattle.std.specs.Prelude.{slice_get, slice_set}
use Rattle.cw_text.specs.declared.fault.Fault.{Fault}
use Rattle.cw_code.specs.declared.code.Instr.{Instr}
use Rattle.cw_code.specs.declared.code.Instr.TheVariants as instr
use Rattle.cw_code.specs.Fits.{Outer, Shape}
use Rattle.cw_verify.specs.declared.found.Found.{Found}
use Rattle.cw_verify.specs.declared.round.Rounds.{Rounds}
use Rattle.cw_verify.specs.declared.meeting.Meeting.{Meeting}
use Rattle.cw_verify.specs.declared.meeting.Meeting.TheVariants as meeting
use Rattle.cw_verify.specs.declared.numbers.Numbers.{Numbers}
use Rattle.cw_verify.specs.declared.numbers.Pair.{Pair}
use Rattle.cw_verify.specs.declared.search.Search.{Search}
use Rattle.cw_verify.specs.Meetings.{meeting_of}
use Rattle.cw_verify.specs.Table.{Shapes, rounds_of, so_far}

-- the blocks of each number
abbrev pub Names : Type 0
Names = ℕ → List Outer

-- `n` is 0, or an assigned number whose blocks are these
abbrev pub HasNumber : Names → (last n : ℕ) → List Outer → Type 0
HasNumber names last n blocks = (n ≤ last) × (0 < n → blocks ≡ names n)

-- the recorded pair states how the blocks of its two numbers meet
abbrev pub IsPair : Names → (last : ℕ) → Option Pair → Type 0
IsPair names last None = Unit {0}
IsPair names last (Some p) =
    (p.there ≤ last) × (p.found ≤ last) × (p.meeting ≡ meeting_of (names p.there) (names p.found))

-- an optional number, 0 for none
abbrev pub given : Option ℕ → ℕ
given None = 0
given (Some n) = n

-- the number of the enclosing blocks of a pc
abbrev pub number_of : List ℕ → (k : ℕ) → ℕ
number_of numbers k = given (slice_get numbers k)

-- the number of the merged blocks, 0 if they have none
abbrev pub number_after : Meeting → (there found : ℕ) → ℕ
number_after meeting.Apart there found = 0
number_after meeting.Stays there found = there
number_after meeting.Comes there found = found
number_after meeting.Both there found = 0

-- the enclosing blocks of each reached pc have its number
abbrev pub AreNumbered : Names → Shapes → (numbers : List ℕ) → (last : ℕ) → Type 0
AreNumbered names shapes numbers last =
    (k : ℕ) (s : Shape) → slice_get shapes k ≡ Some (Some s) → HasNumber names last (number_of numbers k) s.outer

-- under these names, the numbers of a search belong to its blocks
abbrev pub Knows : Names → Search → Type 0
Knows names s =
    AreNumbered names (so_far s) s.numbers.places.items s.numbers.last × IsPair names s.numbers.last s.numbers.pair

-- the numbers of a search are right under some names
abbrev pub IsKnown : Search → Type 0
IsKnown s = (names : Names) × Knows names s

-- the numbers of a search, and the number of a state that flows to a pc, are right under some names
abbrev pub IsKnownWith : (number : ℕ) → (shape : Found) → Search → Type 0
IsKnownWith number shape s =
    (names : Names) × Knows names s × HasNumber names s.numbers.last number (rounds_of shape.outer.value)

-- the numbers remain right after a numbered state is merged
pub record StaysKnown (number : ℕ) (shape : Found) (old new : Search) : Type 0 where
  pub last : new.numbers.last ≡ old.numbers.last
  pub all : (names : Names) → Knows names old → HasNumber names old.numbers.last number (rounds_of shape.outer.value) →
      Knows names new

-- the numbers remain right if the state was merged
abbrev pub KeepsKnown : (number : ℕ) → (shape : Found) → (old new : Search) → Result Bool Fault → Type 0
KeepsKnown number shape old new result = IfOk result (λ _. StaysKnown number shape old new)

-- an instruction does not change the blocks that enclose the innermost one
abbrev pub keeps_blocks : Instr → Bool
keeps_blocks (instr.Cut h line) = false
keeps_blocks instr.EndCut = false
keeps_blocks (instr.Open kind) = false
keeps_blocks instr.Close = false
keeps_blocks _ = true

-- two lists of blocks have these numbers, and the recorded pair is right
abbrev pub KnowsBoth : (there found : ℕ) → (rounds more : Rounds) → Numbers → Type 0
KnowsBoth there found rounds more n =
    (names : Names) × HasNumber names n.last there (rounds_of rounds) × HasNumber names n.last found (rounds_of more) ×
    IsPair names n.last n.pair

-- the enclosing blocks of a pc and others have their numbers, and the recorded pair is right
abbrev pub KnowsAt : (k number : ℕ) → (rounds more : Rounds) → Numbers → Type 0
KnowsAt k number rounds more n = KnowsBoth (number_of n.places.items k) number rounds more n

-- if the blocks have these numbers, the recorded pair remains right
abbrev pub KeepsPair : (there found : ℕ) → (rounds more : Rounds) → (old new : Numbers) → Type 0
KeepsPair there found rounds more old new =
    (names : Names) → HasNumber names old.last there (rounds_of rounds)
    → HasNumber names old.last found (rounds_of more) →
    IsPair names old.last old.pair → IsPair names new.last new.pair

-- a pc has another number, and nothing else changed
pub record IsSet (k number : ℕ) (old new : Numbers) : Type 0 where
  pub places : new.places.items ≡ slice_set old.places.items k number
  pub last : new.last ≡ old.last
  pub pair : new.pair ≡ old.pair

-- the recorded pair is unchanged, or records how these two numbers meet
pub record IsKept (there found : ℕ) (m : Meeting) (old new : Numbers) : Type 0 where
  pub places : new.places.items ≡ old.places.items
  pub last : new.last ≡ old.last
  pub pair : (new.pair ≡ old.pair) ⊎
      ((0 < there) × (0 < found) × (new.pair ≡ Some (record { there = there; found = found; meeting = m })))

-- `m` is how blocks met the blocks of a pc, and the pc has the number of the merged blocks
pub record HasMet (k number : ℕ) (m : Meeting) (rounds more : Rounds) (old new : Numbers) : Type 0 where
  pub is : m ≡ meeting_of (rounds_of rounds) (rounds_of more)
  pub places : new.places.items ≡ slice_set old.places.items k (number_after m (number_of old.places.items k) number)
  pub last : new.last ≡ old.last
  pub pair : KeepsPair (number_of old.places.items k) number rounds more old new

-- a number for the state after an instruction: the number of the pc if the instruction keeps the blocks, or 0, or a
-- number that was not assigned before
pub record IsNext (k : ℕ) (i : Instr) (n : ℕ) (old new : Numbers) : Type 0 where
  pub places : new.places.items ≡ old.places.items
  pub pair : new.pair ≡ old.pair
  pub last : old.last ≤ new.last
  pub is : ((old.last < n) × (n ≤ new.last)) ⊎
      ((n ≡ 0) ⊎ ((keeps_blocks i ≡ true) × (n ≡ number_of old.places.items k)))
