-- Items by their numbers, in pages.
use Rattle.std.specs.Prelude.{◌≡◌, ℕ, ◌/◌, ◌%◌, ◌<◌, ◌≤◌, ◌==◌, List, [], map, slice_index_or, if◌then◌else◌, nat_lt}
use Rattle.std.specs.Global.{Vec}
use Rattle.cw_facts.specs.declared.pages.Pages.{Pages}
use Rattle.cw_facts.specs.declared.table.Table.{Table}

-- the lists in vectors
abbrev pub lists_of : {A : Type 0} → List (Vec A) → List (List A)
lists_of vectors = map (λ v. v.items) vectors

-- lists are read alike, those that are not there as empty
abbrev pub ReadTheSame : {A : Type 0} → Vec (Vec A) → Vec (Vec A) → Type 0
ReadTheSame old new = (k : ℕ) → slice_index_or (lists_of new.items) k [] ≡ slice_index_or (lists_of old.items) k []

-- the item of a number in a page, and on a shelf of pages; where there is none, the one that is told for it
abbrev pub item_in : {T : Type 0} → (none : T) → List T → ℕ → T
item_in none page k = slice_index_or page k none

abbrev pub item_on : {T : Type 0} → (none : T) → List (Vec T) → ℕ → T
item_on none shelf k = item_in none (slice_index_or (lists_of shelf) (k / 8) []) (k % 8)

abbrev pub item : {T : Type 0} → (none : T) → Pages T → ℕ → T
item none pages k = item_on none (slice_index_or (lists_of pages.shelves.items) (k / 256) []) (k % 256)

-- a number is given its item, and the others have those that they had
abbrev pub Gives : {T : Type 0} → (none : T) → Pages T → Pages T → (number : ℕ) → T → Type 0
Gives none old new number value = (k : ℕ) → item none new k ≡ (if number == k then value else item none old k)

abbrev pub GivesOn : {T : Type 0} → (none : T) → List (Vec T) → List (Vec T) → (number : ℕ) → T → Type 0
GivesOn none old new number value =
    (k : ℕ) → item_on none new k ≡ (if number == k then value else item_on none old k)

abbrev pub GivesIn : {T : Type 0} → (none : T) → List T → List T → (number : ℕ) → T → Type 0
GivesIn none old new number value =
    (k : ℕ) → item_in none new k ≡ (if number == k then value else item_in none old k)

-- no number of these has an item: of the shelves from one on, of the pages of a shelf from one on, of a page
abbrev pub HasNoShelfFrom : {T : Type 0} → Pages T → (shelf : ℕ) → Type 0
HasNoShelfFrom {T} pages shelf = (none : T) (k : ℕ) → shelf ≤ k / 256 → item none pages k ≡ none

abbrev pub HasNoPageFrom : {T : Type 0} → Pages T → (shelf page : ℕ) → Type 0
HasNoPageFrom {T} pages shelf page =
    (none : T) (k : ℕ) → k / 256 ≡ shelf → page ≤ (k % 256) / 8 → item none pages k ≡ none

abbrev pub HasNoPage : {T : Type 0} → Pages T → (shelf page : ℕ) → Type 0
HasNoPage {T} pages shelf page =
    (none : T) (k : ℕ) → k / 256 ≡ shelf → (k % 256) / 8 ≡ page → item none pages k ≡ none

-- the item of a number in a table
abbrev pub entry : {T : Type 0} → (none : T) → Table T → ℕ → T
entry none table k = if nat_lt k 256 then item_in none table.firsts.items k else item none table.further k

-- a number is given its item, and the others have those that they had
abbrev pub Enters : {T : Type 0} → (none : T) → Table T → Table T → (number : ℕ) → T → Type 0
Enters none old new number value = (k : ℕ) → entry none new k ≡ (if number == k then value else entry none old k)

-- no number of a page has another item than before
abbrev pub SameIn : {T : Type 0} → (none : T) → (old new : List T) → Type 0
SameIn none old new = (k : ℕ) → item_in none new k ≡ item_in none old k

-- on a shelf no number of these has an item: of the pages from one on, of a page
abbrev pub IsFreeFrom : {T : Type 0} → List (Vec T) → (page : ℕ) → Type 0
IsFreeFrom {T} shelf page = (none : T) (k : ℕ) → k < 256 → page ≤ k / 8 → item_on none shelf k ≡ none

abbrev pub IsFreeOn : {T : Type 0} → List (Vec T) → (page : ℕ) → Type 0
IsFreeOn {T} shelf page = (none : T) (k : ℕ) → k / 8 ≡ page → item_on none shelf k ≡ none
