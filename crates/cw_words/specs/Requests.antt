-- What the words ask for.
use Rattle.std.specs.Prelude.{◌≡◌, ◌≢◌, ℕ, ℤ, Bool, true, false, pos, List, [], ◌∷◌, map, All, Option, Some}
use Rattle.std.specs.Prelude.{None, unwrap_or, codes, string_bytes, is_some}
use Rattle.std.specs.Option.{SomeIff, option_map_or}
use Rattle.std.specs.Str.{bytes_eq}
use Rattle.clap.specs.Words.{IsAmong, Kinds, Row, Text, all_of, fault_of, first_of, subcommand_of}
use Rattle.clap.specs.declared.error.ErrorKind.{ErrorKind}
use Rattle.clap.specs.declared.error.ErrorKind.TheVariants as kind
use Rattle.cw_model.specs.declared.burden.Edges.{Edges}
use Rattle.cw_model.specs.declared.limits.TheConstants.{MOST_NUMBER, USUAL_BURDEN, USUAL_LIMIT}
use Rattle.cw_model.specs.Burdens.{on_spawns}
use Rattle.cw_model.specs.Pieces.{decimal_value}
use Rattle.cw_text.specs.declared.fault.Fault.{Fault}
use Rattle.cw_text.specs.declared.fault.Fault.TheVariants as fault
use Rattle.cw_words.specs.Numbers.{IsNumberWithin}
use Rattle.cw_words.specs.Command.{NumberRow, command_line, command_name, edges_name, number_rows, usual_edges}
use Rattle.cw_words.specs.declared.verb.Verb.{Verb}
use Rattle.cw_words.specs.declared.verb.Verb.TheVariants as verb
use Rattle.cw_words.specs.declared.asked.Mode.{Mode}
use Rattle.cw_words.specs.declared.asked.Mode.TheVariants as mode
use Rattle.cw_words.specs.declared.asked.Options.{Options}
use Rattle.cw_words.specs.declared.asked.Request.{Request}
use Rattle.cw_words.specs.declared.asked.Said.{Said}
use Rattle.cw_words.specs.declared.asked.Said.TheVariants as said

-- the options of a run that is given none
abbrev pub usual_options : Options
usual_options = record { mode = mode.Run; limit = USUAL_LIMIT; burden = on_spawns USUAL_BURDEN; table = false }

-- the command of this name, if there is one
abbrev pub IsVerbNamed : Text → Option Verb → Type 0
IsVerbNamed name None = (v : Verb) → command_name v ≢ name
IsVerbNamed name (Some v) = command_name v ≡ name

-- the mode that a command asks for: a schedule has its processors, speedups have the processors up to which they are
-- reported, gains the number of functions, and a page has both
abbrev pub mode_with : Verb → (processors up_to top : ℕ) → Mode
mode_with verb.Check processors up_to top = mode.Check
mode_with verb.Run processors up_to top = mode.Run
mode_with verb.Scale processors up_to top = mode.Scale
mode_with verb.Sites processors up_to top = mode.Sites
mode_with verb.Gain processors up_to top = mode.Gain top
mode_with verb.Greedy processors up_to top = mode.Greedy processors
mode_with verb.Speedup processors up_to top = mode.Speedup up_to
mode_with verb.Page processors up_to top = mode.Page top up_to

-- the edges of this name, if there are any
abbrev pub IsEdgesNamed : Text → Option Edges → Type 0
IsEdgesNamed name None = (e : Edges) → edges_name e ≢ name
IsEdgesNamed name (Some e) = edges_name e ≡ name

-- what is entered is no command
abbrev pub NamesNoCommand : Option (Text × List Row) → Type 0
NamesNoCommand entered = (v : Verb) (rows : List Row) → entered ≢ Some (command_name v, rows)

-- what a command's words are: its verb, its source, the arguments of main, a word for each row of the table of
-- numbers, the word for the edges that are charged, and whether they ask for aligned columns
pub record Words : Type 0 where
  pub verb : Verb
  pub file : Text
  pub args : List Text
  pub numbers : List Text
  pub edges : Text
  pub table : Bool

-- the options and the workers of a command with these numbers, in the order of their list, this word for the edges, and
-- aligned columns or CSV
abbrev pub AreOptionsOf : Verb → List ℕ → (edges : Text) → (table : Bool) → Options → (workers : ℕ) → Type 0
AreOptionsOf v (limit ∷ charge ∷ processors ∷ up_to ∷ top ∷ workers ∷ []) edges table o w =
    (o.mode ≡ mode_with v processors up_to top) × (o.limit ≡ limit) × (o.burden.charge ≡ charge)
    × (edges_name o.burden.edges ≡ edges) × (o.table ≡ table) × (w ≡ workers)
AreOptionsOf v _ edges table o w = ⊥

-- what the rows have for an argument that is given any number of times
abbrev pub texts_of : List Row → Text → List Text
texts_of rows id = unwrap_or (all_of id rows) []

-- the word for a number, or the usual one
abbrev pub number_text : List Row → NumberRow → Text
number_text rows row = unwrap_or (first_of row.name rows) row.usual

-- the number that a word writes, exactly where it is in the range of the row
abbrev pub IsNumberOf : Text → NumberRow → Option ℕ → Type 0
IsNumberOf text row n = SomeIff n (IsNumberWithin row.least row.most text) (decimal_value text)

-- the words for all numbers
abbrev pub numbers_of : List Row → List Text
numbers_of rows = map (λ row. number_text rows row) number_rows

-- the word for the edges, or the usual one
abbrev pub edges_text : List Row → Text
edges_text rows = unwrap_or (first_of (codes "edges") rows) usual_edges

-- whether the rows ask for aligned columns
abbrev pub asks_table : List Row → Bool
asks_table rows = option_map_or (λ text. bytes_eq text (codes "true")) (first_of (codes "table") rows) false

-- a word that names edges
abbrev pub NamesEdges : Text → Type 0
NamesEdges text = (e : Edges) × (edges_name e ≡ text)

-- a word that writes an argument of main
abbrev pub IsArgument : Text → Type 0
IsArgument text = IsNumberWithin 0 MOST_NUMBER text

-- the value of a word that is a number, and those of words
abbrev pub value_of : Text → ℤ
value_of text = pos (decimal_value text)

abbrev pub values_of : List Text → List ℤ
values_of texts = map value_of texts

-- each word writes a number in the range of its row
abbrev pub AreWithin : List NumberRow → List Text → Type 0
AreWithin [] [] = Unit {0}
AreWithin (row ∷ rows) (text ∷ texts) = IsNumberWithin row.least row.most text × AreWithin rows texts
AreWithin _ _ = ⊥

-- the arguments and the numbers are numbers in range
abbrev pub AreNumbers : (args numbers : List Text) → Type 0
AreNumbers args numbers = All IsArgument args × AreWithin number_rows numbers

-- the words are understood: the arguments and the numbers are numbers in range, and the word for edges names some
abbrev pub AreUnderstood : Words → Type 0
AreUnderstood words = AreNumbers words.args words.numbers × NamesEdges words.edges

-- the request is what these words ask for
pub record IsRequestOf (words : Words) (r : Request) : Type 0 where
  pub in_range : AreNumbers words.args words.numbers
  pub file_is : string_bytes r.file ≡ words.file
  pub args_are : r.args.items ≡ values_of words.args
  pub options_are : AreOptionsOf words.verb (map decimal_value words.numbers) words.edges words.table r.options r.workers

-- the words that the rows of a command have, of this source
abbrev pub words_in : Verb → Text → List Row → Words
words_in v file rows = record {
  verb = v;
  file = file;
  args = texts_of rows (codes "ARGS");
  numbers = numbers_of rows;
  edges = edges_text rows;
  table = asks_table rows;
}

-- the request that the rows of a command make
pub record IsAskedBy (v : Verb) (rows : List Row) (r : Request) : Type 0 where
  pub file : first_of (codes "FILE") rows ≡ Some (string_bytes r.file)
  pub request : IsRequestOf (words_in v (string_bytes r.file) rows) r

-- the rows make a request
abbrev pub AreProper : List Row → Type 0
AreProper rows =
    (is_some (first_of (codes "FILE") rows) ≡ true) × AreNumbers (texts_of rows (codes "ARGS")) (numbers_of rows)
    × NamesEdges (edges_text rows)

-- the kinds of error that the words may bring; none where they are taken
abbrev pub faults : List Text → Kinds
faults given = fault_of command_line given

-- the words are taken, and have this command with these rows
abbrev pub HaveCommand : List Text → Verb → List Row → Type 0
HaveCommand given v rows = (faults given ≡ []) × (subcommand_of command_line given ≡ Some (command_name v, rows))

-- what is given is taken, and read as these words
pub record AreRead (given : List Text) (words : Words) : Type 0 where
  pub rows : List Row
  pub command : HaveCommand given words.verb rows
  pub file_is : first_of (codes "FILE") rows ≡ Some words.file
  pub args_are : texts_of rows (codes "ARGS") ≡ words.args
  pub numbers_are : numbers_of rows ≡ words.numbers
  pub edges_are : edges_text rows ≡ words.edges
  pub table_is : asks_table rows ≡ words.table

-- the request is of the words that what is given is read as
pub record Asks (given : List Text) (r : Request) : Type 0 where
  pub words : Words
  pub read : AreRead given words
  pub request : IsRequestOf words r

-- what is given is read, and an argument or a number is no number or out of range, or the word for edges names none
pub record HaveBadWord (given : List Text) : Type 0 where
  pub words : Words
  pub read : AreRead given words
  pub bad : ¬ (AreUnderstood words)

-- what is wrong where something does not hold, unless memory ran out
abbrev pub IsFaultUnless : Type 0 → Fault → Type 0
IsFaultUnless P fault.Arguments = ¬ P
IsFaultUnless P fault.Memory = Unit {0}
IsFaultUnless P _ = ⊥

-- the help was asked for
abbrev pub is_help : ErrorKind → Bool
is_help kind.DisplayHelp = true
is_help kind.DisplayVersion = true
is_help _ = false

-- what an error of this kind is told by
abbrev pub IsSaidAt : ErrorKind → Said → Type 0
IsSaidAt k (said.Help text) = is_help k ≡ true
IsSaidAt k (said.Misuse text) = (is_help k ≡ false) × (k ≢ kind.OutOfMemory)
IsSaidAt k (said.Fault f) = f ≡ fault.Memory

-- the error is one that the words may bring, and tells of the help or does not
abbrev pub BringKind : List Text → Bool → Type 0
BringKind words helps = (k : ErrorKind) × IsAmong k (faults words) × (is_help k ≡ helps)

-- the help, what is wrong with words that are not taken, or a fault of numbers or edges among words that are
abbrev pub IsSaidOf : List Text → Said → Type 0
IsSaidOf words (said.Help text) = BringKind words true
IsSaidOf words (said.Misuse text) = BringKind words false
IsSaidOf words (said.Fault fault.Arguments) = HaveBadWord words
IsSaidOf words (said.Fault fault.Memory) = Unit {0}
IsSaidOf words (said.Fault _) = ⊥
