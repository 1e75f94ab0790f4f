-- What words come to that start with no hyphen, and some that are written out.
use Rattle.std.specs.Prelude.{◌≡◌, ◌≢◌, ◌^◌, ◌<◌, true, false, List, [], ◌∷◌, All, Some, codes, length, map, slice_get}
use Rattle.clap.specs.Words.{Text}
use Rattle.clap.specs.declared.error.ErrorKind.TheVariants as kind
use Rattle.cw_model.specs.declared.limits.TheConstants.{USUAL_LIMIT, USUAL_BURDEN, USUAL_TOP}
use Rattle.cw_model.specs.Pieces.{decimal_value}
use Rattle.cw_words.specs.Command.{command_name, limit_row, burden_row, processors_row, up_to_row, top_row, workers_row}
use Rattle.cw_words.specs.Command.{number_rows}
use Rattle.cw_words.specs.Command.{usual_numbers, usual_edges}
use Rattle.cw_words.specs.declared.asked.TheConstants.{USUAL_PROCESSORS, USUAL_WORKERS}
use Rattle.cw_words.specs.Requests.{AreRead, AreWithin, Words, faults}
use Rattle.cw_words.specs.declared.verb.Verb.{Verb}
use Rattle.cw_words.specs.declared.verb.Verb.TheVariants as verb

-- the word starts with no hyphen
abbrev pub IsPlain : Text → Type 0
IsPlain word = slice_get word 0 ≢ Some 45

-- a check of this source
abbrev pub checking : Text → Words
checking file =
    record { verb = verb.Check; file = file; args = []; numbers = usual_numbers; edges = usual_edges; table = false }

-- a run of this source on these arguments, by this verb, with the words for the limit and the burden
abbrev pub running : Verb → (file : Text) (args : List Text) (limit burden : Text) → Words
running v file args limit burden =
    record {
      verb = v;
      file = file;
      args = args;
      numbers = limit ∷ burden ∷ processors_row.usual ∷ up_to_row.usual ∷ top_row.usual ∷ workers_row.usual ∷ [];
      edges = usual_edges;
      table = false;
    }

-- the same with the usual numbers, and with the word for the edges that are charged
abbrev pub running_along : Verb → (file : Text) (args : List Text) (edges : Text) → Words
running_along v file args edges =
    record { verb = v; file = file; args = args; numbers = usual_numbers; edges = edges; table = false }

-- the same with the usual word for the edges, and aligned columns
abbrev pub running_aligned : Verb → (file : Text) (args : List Text) → Words
running_aligned v file args =
    record { verb = v; file = file; args = args; numbers = usual_numbers; edges = usual_edges; table = true }

-- a run of this source on these arguments, by this verb, with the word for the workers
abbrev pub running_on : Verb → (file : Text) (args : List Text) (workers : Text) → Words
running_on v file args workers =
    record {
      verb = v;
      file = file;
      args = args;
      numbers = limit_row.usual ∷ burden_row.usual ∷ processors_row.usual ∷ up_to_row.usual ∷ top_row.usual ∷ workers ∷ [];
      edges = usual_edges;
      table = false;
    }

-- a schedule of this source on these arguments, with the words for the processors and the limit
abbrev pub scheduling : (processors file : Text) (args : List Text) (limit : Text) → Words
scheduling processors file args limit =
    record {
      verb = verb.Greedy;
      file = file;
      args = args;
      numbers = limit ∷ burden_row.usual ∷ processors ∷ up_to_row.usual ∷ top_row.usual ∷ workers_row.usual ∷ [];
      edges = usual_edges;
      table = false;
    }

-- gains of this source on these arguments, with the words for the functions that are told and for the burden
abbrev pub gaining : (file : Text) (args : List Text) (top burden : Text) → Words
gaining file args top burden =
    record {
      verb = verb.Gain;
      file = file;
      args = args;
      numbers = limit_row.usual ∷ burden ∷ processors_row.usual ∷ up_to_row.usual ∷ top ∷ workers_row.usual ∷ [];
      edges = usual_edges;
      table = false;
    }

-- speedups of this source on these arguments, with the words for the processors up to which they are reported and for
-- the burden
abbrev pub speeding : (file : Text) (args : List Text) (up_to burden : Text) → Words
speeding file args up_to burden =
    record {
      verb = verb.Speedup;
      file = file;
      args = args;
      numbers = limit_row.usual ∷ burden ∷ processors_row.usual ∷ up_to ∷ top_row.usual ∷ workers_row.usual ∷ [];
      edges = usual_edges;
      table = false;
    }

-- a page of this source on these arguments, with the words for the functions in its report of gains, for the processors
-- up to which speedups are reported, and for the burden
abbrev pub paging : (file : Text) (args : List Text) (up_to top burden : Text) → Words
paging file args up_to top burden =
    record {
      verb = verb.Page;
      file = file;
      args = args;
      numbers = limit_row.usual ∷ burden ∷ processors_row.usual ∷ up_to ∷ top ∷ workers_row.usual ∷ [];
      edges = usual_edges;
      table = false;
    }

-- the command runs a program, and takes a burden and no number of its own
abbrev pub TakesBurden : Verb → Type 0
TakesBurden verb.Check = ⊥
TakesBurden verb.Gain = ⊥
TakesBurden verb.Greedy = ⊥
TakesBurden verb.Speedup = ⊥
TakesBurden verb.Page = ⊥
TakesBurden _ = Unit {0}

-- the command prints a table of its own run alone
abbrev pub HasTable : Verb → Type 0
HasTable verb.Scale = Unit {0}
HasTable verb.Sites = Unit {0}
HasTable _ = ⊥

-- such a word after `check` is the source
abbrev pub CheckIsRead : Type 0
CheckIsRead = (file : Text) → IsPlain file → AreRead (codes "check" ∷ file ∷ []) (checking file)

-- such words after a command with a burden are the source and the arguments, in their order, and the numbers are the
-- usual ones
abbrev pub PlainWordsAreRead : Type 0
PlainWordsAreRead =
    (v : Verb) (file : Text) (args : List Text) → TakesBurden v → IsPlain file → All IsPlain args → length args < 2 ^ 64
    → AreRead (command_name v ∷ file ∷ args) (running v file args limit_row.usual burden_row.usual)

-- the same with a limit before them
abbrev pub LimitIsRead : Type 0
LimitIsRead =
    (v : Verb) (limit file : Text) (args : List Text) → TakesBurden v
    → IsPlain limit → IsPlain file → All IsPlain args → length args < 2 ^ 64
    → AreRead (command_name v ∷ codes "--limit" ∷ limit ∷ file ∷ args) (running v file args limit burden_row.usual)

-- the same with a burden before them
abbrev pub BurdenIsRead : Type 0
BurdenIsRead =
    (v : Verb) (burden file : Text) (args : List Text) → TakesBurden v
    → IsPlain burden → IsPlain file → All IsPlain args → length args < 2 ^ 64
    → AreRead (command_name v ∷ codes "--burden" ∷ burden ∷ file ∷ args) (running v file args limit_row.usual burden)

-- the same with a word for the edges before them
abbrev pub EdgesAreRead : Type 0
EdgesAreRead =
    (v : Verb) (edges file : Text) (args : List Text) → TakesBurden v
    → IsPlain edges → IsPlain file → All IsPlain args → length args < 2 ^ 64
    → AreRead (command_name v ∷ codes "--edges" ∷ edges ∷ file ∷ args) (running_along v file args edges)

-- the same of a command that prints a table, with `--table` before them
abbrev pub TablesAreRead : Type 0
TablesAreRead =
    (v : Verb) (file : Text) (args : List Text) → HasTable v
    → IsPlain file → All IsPlain args → length args < 2 ^ 64
    → AreRead (command_name v ∷ codes "--table" ∷ file ∷ args) (running_aligned v file args)

-- the same with workers before them
abbrev pub WorkersAreRead : Type 0
WorkersAreRead =
    (v : Verb) (workers file : Text) (args : List Text) → TakesBurden v
    → IsPlain workers → IsPlain file → All IsPlain args → length args < 2 ^ 64
    → AreRead (command_name v ∷ codes "--workers" ∷ workers ∷ file ∷ args) (running_on v file args workers)

-- such words after `gain` are the source and the arguments, in their order
abbrev pub GainIsRead : Type 0
GainIsRead =
    (file : Text) (args : List Text) → IsPlain file → All IsPlain args → length args < 2 ^ 64
    → AreRead (codes "gain" ∷ file ∷ args) (gaining file args top_row.usual burden_row.usual)

-- the same with how many functions before them
abbrev pub GainTopIsRead : Type 0
GainTopIsRead =
    (top file : Text) (args : List Text) → IsPlain top → IsPlain file → All IsPlain args → length args < 2 ^ 64
    → AreRead (codes "gain" ∷ codes "--top" ∷ top ∷ file ∷ args) (gaining file args top burden_row.usual)

-- such words after `greedy` are the processors, the source and the arguments, in their order
abbrev pub GreedyIsRead : Type 0
GreedyIsRead =
    (processors file : Text) (args : List Text)
    → IsPlain processors → IsPlain file → All IsPlain args → length args < 2 ^ 64
    → AreRead (codes "greedy" ∷ processors ∷ file ∷ args) (scheduling processors file args limit_row.usual)

-- the same with a limit before them
abbrev pub GreedyLimitIsRead : Type 0
GreedyLimitIsRead =
    (limit processors file : Text) (args : List Text)
    → IsPlain limit → IsPlain processors → IsPlain file → All IsPlain args → length args < 2 ^ 64
    → AreRead (codes "greedy" ∷ codes "--limit" ∷ limit ∷ processors ∷ file ∷ args)
    (scheduling processors file args limit)

-- such words after `speedup` are the source and the arguments, in their order
abbrev pub SpeedupIsRead : Type 0
SpeedupIsRead =
    (file : Text) (args : List Text) → IsPlain file → All IsPlain args → length args < 2 ^ 64
    → AreRead (codes "speedup" ∷ file ∷ args) (speeding file args up_to_row.usual burden_row.usual)

-- the same with processors before them
abbrev pub SpeedupProcessorsAreRead : Type 0
SpeedupProcessorsAreRead =
    (up_to file : Text) (args : List Text) → IsPlain up_to → IsPlain file → All IsPlain args → length args < 2 ^ 64
    → AreRead (codes "speedup" ∷ codes "--processors" ∷ up_to ∷ file ∷ args)
    (speeding file args up_to burden_row.usual)

-- such words after `page` are the source and the arguments, in their order
abbrev pub PageIsRead : Type 0
PageIsRead =
    (file : Text) (args : List Text) → IsPlain file → All IsPlain args → length args < 2 ^ 64
    → AreRead (codes "page" ∷ file ∷ args) (paging file args up_to_row.usual top_row.usual burden_row.usual)

-- the same with processors before them
abbrev pub PageProcessorsAreRead : Type 0
PageProcessorsAreRead =
    (up_to file : Text) (args : List Text) → IsPlain up_to → IsPlain file → All IsPlain args → length args < 2 ^ 64
    → AreRead (codes "page" ∷ codes "--processors" ∷ up_to ∷ file ∷ args)
    (paging file args up_to top_row.usual burden_row.usual)

-- the same with a number of functions before them
abbrev pub PageTopIsRead : Type 0
PageTopIsRead =
    (top file : Text) (args : List Text) → IsPlain top → IsPlain file → All IsPlain args → length args < 2 ^ 64
    → AreRead (codes "page" ∷ codes "--top" ∷ top ∷ file ∷ args)
    (paging file args up_to_row.usual top burden_row.usual)

-- words that are taken are read
abbrev pub TakenWordsAreRead : Type 0
TakenWordsAreRead = (given : List Text) → faults given ≡ [] → (words : Words) × AreRead given words

-- and in one way
abbrev pub WordsAreReadOnce : Type 0
WordsAreReadOnce = (given : List Text) (words words' : Words) → AreRead given words → AreRead given words'
    → words ≡ words'

-- the words for the usual numbers are numbers in range, and write the usual limit, the usual burden, one processor, up
-- to 64 processors, ten functions and two workers
abbrev pub UsualNumbersAreWritten : Type 0
UsualNumbersAreWritten =
    AreWithin number_rows usual_numbers
    × (map decimal_value usual_numbers ≡ USUAL_LIMIT ∷ USUAL_BURDEN ∷ 1 ∷ USUAL_PROCESSORS ∷ USUAL_TOP ∷ USUAL_WORKERS ∷ [])

-- numbers after the source, attached to their names, and words after `--`
abbrev pub WordExamples : Type 0
WordExamples =
    AreRead (codes "check" ∷ codes "f" ∷ []) (checking (codes "f"))
    × AreRead (codes "check" ∷ codes "--" ∷ codes "-f" ∷ []) (checking (codes "-f"))
    × AreRead (codes "run" ∷ codes "f" ∷ codes "4" ∷ codes "7" ∷ codes "--limit" ∷ codes "9" ∷ [])
    (running verb.Run (codes "f") (codes "4" ∷ codes "7" ∷ []) (codes "9") (codes "15000"))
    × AreRead (codes "run" ∷ codes "f" ∷ codes "4" ∷ codes "--limit" ∷ codes "9" ∷ codes "7" ∷ [])
    (running verb.Run (codes "f") (codes "4" ∷ codes "7" ∷ []) (codes "9") (codes "15000"))
    × AreRead (codes "run" ∷ codes "--burden" ∷ codes "0" ∷ codes "f" ∷ codes "--limit=9" ∷ [])
    (running verb.Run (codes "f") [] (codes "9") (codes "0"))
    × AreRead (codes "run" ∷ codes "--limit=1" ∷ codes "--" ∷ codes "-f" ∷ codes "-1" ∷ [])
    (running verb.Run (codes "-f") (codes "-1" ∷ []) (codes "1") (codes "15000"))
    × AreRead (codes "scale" ∷ codes "f" ∷ codes "4" ∷ codes "--burden=0" ∷ codes "7" ∷ codes "--limit" ∷ codes "9"
    ∷ [])
    (running verb.Scale (codes "f") (codes "4" ∷ codes "7" ∷ []) (codes "9") (codes "0"))
    × AreRead (codes "sites" ∷ codes "--burden" ∷ codes "1" ∷ codes "run" ∷ codes "--" ∷ codes "scale" ∷ [])
    (running verb.Sites (codes "run") (codes "scale" ∷ []) (codes "1000000000") (codes "1"))
    × AreRead (codes "greedy" ∷ codes "2" ∷ codes "f" ∷ codes "4" ∷ codes "--limit" ∷ codes "9" ∷ codes "7" ∷ [])
    (scheduling (codes "2") (codes "f") (codes "4" ∷ codes "7" ∷ []) (codes "9"))
    × AreRead (codes "greedy" ∷ codes "--limit=9" ∷ codes "007" ∷ codes "--" ∷ codes "-f" ∷ codes "-1" ∷ [])
    (scheduling (codes "007") (codes "-f") (codes "-1" ∷ []) (codes "9"))
    × AreRead (codes "sites" ∷ codes "f" ∷ codes "4" ∷ codes "--workers=64" ∷ [])
    (running_on verb.Sites (codes "f") (codes "4" ∷ []) (codes "64"))
    × AreRead (codes "scale" ∷ codes "f" ∷ codes "4" ∷ codes "--edges=both" ∷ [])
    (running_along verb.Scale (codes "f") (codes "4" ∷ []) (codes "both"))
    × AreRead (codes "gain" ∷ codes "f" ∷ codes "4" ∷ codes "--top" ∷ codes "3" ∷ codes "7" ∷ [])
    (gaining (codes "f") (codes "4" ∷ codes "7" ∷ []) (codes "3") (codes "15000"))
    × AreRead (codes "gain" ∷ codes "--burden=0" ∷ codes "--top=64" ∷ codes "--" ∷ codes "-f" ∷ codes "-1" ∷ [])
    (gaining (codes "-f") (codes "-1" ∷ []) (codes "64") (codes "0"))
    × AreRead (codes "speedup" ∷ codes "f" ∷ codes "4" ∷ codes "--processors" ∷ codes "48" ∷ codes "7" ∷ [])
    (speeding (codes "f") (codes "4" ∷ codes "7" ∷ []) (codes "48") (codes "15000"))
    × AreRead (codes "speedup" ∷ codes "--burden=0" ∷ codes "--processors=8" ∷ codes "--" ∷ codes "-f" ∷ [])
    (speeding (codes "-f") [] (codes "8") (codes "0"))
    × AreRead (codes "scale" ∷ codes "f" ∷ codes "4" ∷ codes "--table" ∷ codes "7" ∷ [])
    (running_aligned verb.Scale (codes "f") (codes "4" ∷ codes "7" ∷ []))
    × AreRead (codes "gain" ∷ codes "--table" ∷ codes "f" ∷ codes "--top=3" ∷ [])
    (record (gaining (codes "f") [] (codes "3") (codes "15000")) { table = true })
    × AreRead (codes "speedup" ∷ codes "f" ∷ codes "--processors=8" ∷ codes "--table" ∷ [])
    (record (speeding (codes "f") [] (codes "8") (codes "15000")) { table = true })
    × AreRead (codes "page" ∷ codes "f" ∷ codes "4" ∷ codes "--top" ∷ codes "3" ∷ codes "--processors" ∷ codes "48" ∷ [])
    (paging (codes "f") (codes "4" ∷ []) (codes "48") (codes "3") (codes "15000"))
    × AreRead (codes "page" ∷ codes "--burden=0" ∷ codes "--" ∷ codes "-f" ∷ codes "--table" ∷ [])
    (paging (codes "-f") (codes "--table" ∷ []) (codes "64") (codes "10") (codes "0"))

-- words that are not taken: none, no source, a word too many for a check, a limit, a burden, workers or edges for a
-- check, an unknown word, a negative number, no limit, two limits, no burden, two burdens, no workers, no edges, gains
-- without a source or with no count of functions, such a count for another command, a schedule without processors,
-- without a source, with a burden or with edges, speedups without a source or with no count of processors, such a count
-- for another command, aligned columns for a command without a table, a value for them, them twice, a page without a
-- source, and calls for help
abbrev pub RefusalExamples : Type 0
RefusalExamples =
    (faults [] ≡ kind.MissingSubcommand ∷ [])
    × (faults (codes "run" ∷ []) ≡ kind.MissingRequiredArgument ∷ [])
    × (faults (codes "check" ∷ []) ≡ kind.MissingRequiredArgument ∷ [])
    × (faults (codes "check" ∷ codes "f" ∷ codes "1" ∷ []) ≡ kind.UnknownArgument ∷ [])
    × (faults (codes "check" ∷ codes "f" ∷ codes "--limit=9" ∷ []) ≡ kind.UnknownArgument ∷ [])
    × (faults (codes "check" ∷ codes "f" ∷ codes "--burden=9" ∷ []) ≡ kind.UnknownArgument ∷ [])
    × (faults (codes "scale" ∷ []) ≡ kind.MissingRequiredArgument ∷ [])
    × (faults (codes "sites" ∷ codes "--limit" ∷ codes "9" ∷ []) ≡ kind.MissingRequiredArgument ∷ [])
    × (faults (codes "f" ∷ []) ≡ kind.UnknownArgument ∷ kind.InvalidSubcommand ∷ [])
    × (faults (codes "run" ∷ codes "f" ∷ codes "-1" ∷ []) ≡ kind.UnknownArgument ∷ [])
    × (faults (codes "run" ∷ codes "f" ∷ codes "--limit" ∷ []) ≡ kind.InvalidValue ∷ [])
    × (faults (codes "run" ∷ codes "f" ∷ codes "--limit=1" ∷ codes "--limit=2" ∷ []) ≡ kind.ArgumentConflict ∷ [])
    × (faults (codes "scale" ∷ codes "f" ∷ codes "--burden" ∷ []) ≡ kind.InvalidValue ∷ [])
    × (faults (codes "sites" ∷ codes "--burden=1" ∷ codes "f" ∷ codes "--burden=2" ∷ []) ≡ kind.ArgumentConflict ∷ [])
    × (faults (codes "check" ∷ codes "f" ∷ codes "--workers=2" ∷ []) ≡ kind.UnknownArgument ∷ [])
    × (faults (codes "run" ∷ codes "f" ∷ codes "--workers" ∷ []) ≡ kind.InvalidValue ∷ [])
    × (faults (codes "check" ∷ codes "f" ∷ codes "--edges=both" ∷ []) ≡ kind.UnknownArgument ∷ [])
    × (faults (codes "scale" ∷ codes "f" ∷ codes "--edges" ∷ []) ≡ kind.InvalidValue ∷ [])
    × (faults (codes "gain" ∷ []) ≡ kind.MissingRequiredArgument ∷ [])
    × (faults (codes "gain" ∷ codes "f" ∷ codes "--top" ∷ []) ≡ kind.InvalidValue ∷ [])
    × (faults (codes "sites" ∷ codes "f" ∷ codes "--top=3" ∷ []) ≡ kind.UnknownArgument ∷ [])
    × (faults (codes "greedy" ∷ []) ≡ kind.MissingRequiredArgument ∷ [])
    × (faults (codes "greedy" ∷ codes "2" ∷ []) ≡ kind.MissingRequiredArgument ∷ [])
    × (faults (codes "greedy" ∷ codes "2" ∷ codes "f" ∷ codes "--burden=9" ∷ []) ≡ kind.UnknownArgument ∷ [])
    × (faults (codes "greedy" ∷ codes "2" ∷ codes "f" ∷ codes "--edges=both" ∷ []) ≡ kind.UnknownArgument ∷ [])
    × (faults (codes "speedup" ∷ []) ≡ kind.MissingRequiredArgument ∷ [])
    × (faults (codes "speedup" ∷ codes "f" ∷ codes "--processors" ∷ []) ≡ kind.InvalidValue ∷ [])
    × (faults (codes "scale" ∷ codes "f" ∷ codes "--processors=8" ∷ []) ≡ kind.UnknownArgument ∷ [])
    × (faults (codes "run" ∷ codes "f" ∷ codes "--table" ∷ []) ≡ kind.UnknownArgument ∷ [])
    × (faults (codes "greedy" ∷ codes "2" ∷ codes "f" ∷ codes "--table" ∷ []) ≡ kind.UnknownArgument ∷ [])
    × (faults (codes "scale" ∷ codes "f" ∷ codes "--table=1" ∷ []) ≡ kind.TooManyValues ∷ [])
    × (faults (codes "scale" ∷ codes "f" ∷ codes "--table" ∷ codes "--table" ∷ []) ≡ kind.ArgumentConflict ∷ [])
    × (faults (codes "page" ∷ []) ≡ kind.MissingRequiredArgument ∷ [])
    × (faults (codes "page" ∷ codes "f" ∷ codes "--table" ∷ []) ≡ kind.UnknownArgument ∷ [])
    × (faults (codes "--help" ∷ []) ≡ kind.DisplayHelp ∷ [])
    × (faults (codes "check" ∷ codes "--help" ∷ []) ≡ kind.DisplayHelp ∷ [])
    × (faults (codes "run" ∷ codes "--help" ∷ []) ≡ kind.DisplayHelp ∷ [])
    × (faults (codes "scale" ∷ codes "--help" ∷ []) ≡ kind.DisplayHelp ∷ [])
    × (faults (codes "sites" ∷ codes "f" ∷ codes "--help" ∷ []) ≡ kind.DisplayHelp ∷ [])
    × (faults (codes "gain" ∷ codes "--help" ∷ []) ≡ kind.DisplayHelp ∷ [])
    × (faults (codes "greedy" ∷ codes "--help" ∷ []) ≡ kind.DisplayHelp ∷ [])
    × (faults (codes "speedup" ∷ codes "--help" ∷ []) ≡ kind.DisplayHelp ∷ [])
    × (faults (codes "page" ∷ codes "--help" ∷ []) ≡ kind.DisplayHelp ∷ [])
