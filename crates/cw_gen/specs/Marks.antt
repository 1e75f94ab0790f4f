-- The array slots of a function that are readers in its code: arrays that a call was lent, for `const` parameters.
use Rattle.std.specs.Prelude.{ℕ, zero, suc, ◌==◌, Bool, true, false, List, [], ◌∷◌, length, map, filter}
use Rattle.std.specs.Prelude.{if◌then◌else◌}
use Rattle.cw_model.specs.declared.syntax.NameKind.{NameKind}
use Rattle.cw_model.specs.declared.syntax.NameKind.TheVariants.{Integer, Array, Const}
use Rattle.cw_model.specs.Syntax.{is_array_kind, is_const_kind, is_written_kind}
use Rattle.cw_code.specs.declared.code.Loan.{Loan}
use Rattle.cw_code.specs.declared.code.Loan.TheVariants as loan

-- for each of the first array slots of a function, in order, whether it is only read; all later slots are writable
abbrev pub Marks : Type 0
Marks = List Bool

-- the number of slots that are only read
abbrev pub readers_in : Marks → ℕ
readers_in [] = 0
readers_in (true ∷ marks) = suc (readers_in marks)
readers_in (false ∷ marks) = readers_in marks

-- the empty list if no slot is only read, otherwise the marks
abbrev pub unless_none : Marks → Marks
unless_none marks = if readers_in marks == 0 then [] else marks

-- the marks of the arrays among parameters of these kinds
abbrev pub marks_in : List NameKind → Marks
marks_in [] = []
marks_in (Integer ∷ kinds) = marks_in kinds
marks_in (Array ∷ kinds) = false ∷ marks_in kinds
marks_in (Const ∷ kinds) = true ∷ marks_in kinds

-- the marks of a function with parameters of these kinds
abbrev pub marks_of : List NameKind → Marks
marks_of kinds = unless_none (marks_in kinds)

-- the place of the first slot, and the place of a slot after one more slot; readers and arrays are numbered separately
abbrev pub first_place : Bool → Loan
first_place true = loan.Reader 0
first_place false = loan.Array 0

abbrev pub behind_place : Bool → Loan → Loan
behind_place true (loan.Array a) = loan.Array a
behind_place true (loan.Reader r) = loan.Reader (suc r)
behind_place false (loan.Array a) = loan.Array (suc a)
behind_place false (loan.Reader r) = loan.Reader r

-- the place of an array slot in the code
abbrev pub place_of : Marks → ℕ → Loan
place_of [] s = loan.Array s
place_of (m ∷ marks) zero = first_place m
place_of (m ∷ marks) (suc s) = behind_place m (place_of marks s)

-- the number of a place in the code
abbrev pub number_of : Loan → ℕ
number_of (loan.Array a) = a
number_of (loan.Reader r) = r

abbrev pub array_at : Marks → ℕ → ℕ
array_at marks s = number_of (place_of marks s)

-- the places of the marked slots, after this number of arrays and readers
abbrev pub places_from : (arrays readers : ℕ) → Marks → List Loan
places_from a r [] = []
places_from a r (true ∷ marks) = loan.Reader r ∷ places_from a (suc r) marks
places_from a r (false ∷ marks) = loan.Array a ∷ places_from (suc a) r marks

-- whether this is the place of a reader
abbrev pub is_reader_place : Loan → Bool
is_reader_place (loan.Array a) = false
is_reader_place (loan.Reader r) = true

-- the marks of these places
abbrev pub marks_of_places : List Loan → Marks
marks_of_places places = map is_reader_place places

-- the number of parameters of a kind: integers, arrays, arrays that are taken, and arrays that are only read
abbrev pub count_such : (NameKind → Bool) → List NameKind → ℕ
count_such such kinds = length (filter such kinds)

abbrev pub is_integer_kind : NameKind → Bool
is_integer_kind Integer = true
is_integer_kind _ = false

abbrev pub count_ints : List NameKind → ℕ
count_ints kinds = count_such is_integer_kind kinds

abbrev pub count_arrays : List NameKind → ℕ
count_arrays kinds = count_such is_array_kind kinds

abbrev pub count_taken : List NameKind → ℕ
count_taken kinds = count_such is_written_kind kinds

abbrev pub count_readers : List NameKind → ℕ
count_readers kinds = count_such is_const_kind kinds
