-- The command line, as the parser of words has it.
use Rattle.std.specs.Prelude.{◌≡◌, ℕ, List, [], ◌∷◌, Some, true, false, codes, fold, map}
use Rattle.clap.specs.Lexer.{usize_max}
use Rattle.clap.specs.Words.{AddsSubcommand, App, Rule, Text, app_of, new_app, new_rule, with_rule, with_subcommand}
use Rattle.clap.specs.declared.builder.Command.{Command}
use Rattle.clap.specs.declared.builder.Command.TheViews.{out-Command}
use Rattle.clap.specs.declared.builder.ArgAction.TheVariants.{Append, Set, SetTrue}
use Rattle.cw_model.specs.declared.burden.Edges.{Edges}
use Rattle.cw_model.specs.declared.burden.Edges.TheVariants.{Spawn, Both}
use Rattle.cw_model.specs.declared.limits.TheConstants.{MOST_LIMIT, MOST_BURDEN, MOST_TOP, MOST_PROCESSORS, MOST_WORKERS}
use Rattle.cw_words.specs.declared.verb.Verb.{Verb}
use Rattle.cw_words.specs.declared.verb.Verb.TheVariants as verb

-- a number that a command takes: its name, the least and the greatest that it is, and the word for it where it is not
-- given
pub record NumberRow : Type 0 where
  pub name : Text
  pub least : ℕ
  pub most : ℕ
  pub usual : Text

-- the limit of a run
abbrev pub limit_row : NumberRow
limit_row = record { name = codes "limit"; least = 1; most = MOST_LIMIT; usual = codes "1000000000" }

-- the burden of a charged edge
abbrev pub burden_row : NumberRow
burden_row = record { name = codes "burden"; least = 0; most = MOST_BURDEN; usual = codes "15000" }

-- the processors of a schedule, which is a word of its own; the commands that take none have one
abbrev pub processors_row : NumberRow
processors_row = record { name = codes "P"; least = 1; most = MOST_PROCESSORS; usual = codes "1" }

-- the processors up to which speedups are reported
abbrev pub up_to_row : NumberRow
up_to_row = record { name = codes "processors"; least = 1; most = MOST_PROCESSORS; usual = codes "64" }

-- the functions that a report of gains tells at most
abbrev pub top_row : NumberRow
top_row = record { name = codes "top"; least = 1; most = MOST_TOP; usual = codes "10" }

-- the workers of a run
abbrev pub workers_row : NumberRow
workers_row = record { name = codes "workers"; least = 1; most = MOST_WORKERS; usual = codes "2" }

-- the numbers, in their order
abbrev pub number_rows : List NumberRow
number_rows = limit_row ∷ burden_row ∷ processors_row ∷ up_to_row ∷ top_row ∷ workers_row ∷ []

-- the words for the numbers that are not given
abbrev pub usual_numbers : List Text
usual_numbers = map (λ row. row.usual) number_rows

-- an option of this name that takes a word, given at most once, with the word where it is not given
abbrev pub option_rule : (name usual : Text) → Rule
option_rule name usual =
    record (new_rule name) { long = Some name; value_names = 1; action = Some Set; defaults = usual ∷ [] }

-- such an option for a number
abbrev pub number_rule : NumberRow → Rule
number_rule row = option_rule row.name row.usual

-- the word for the edges that a burden is charged on
abbrev pub edges_name : Edges → Text
edges_name Spawn = codes "spawn"
edges_name Both = codes "both"

-- the word for them where none is given
abbrev pub usual_edges : Text
usual_edges = edges_name Spawn

-- the option for it
abbrev pub edges_rule : Rule
edges_rule = option_rule (codes "edges") usual_edges

-- the option for aligned columns, which takes no word
abbrev pub table_rule : Rule
table_rule = record (new_rule (codes "table")) { long = Some (codes "table"); action = Some SetTrue }

-- the options of a command that takes a burden
abbrev pub option_rules : List Rule
option_rules = number_rule limit_row ∷ number_rule burden_row ∷ edges_rule ∷ number_rule workers_row ∷ []

-- a word that has to be there
abbrev pub needed_rule : Text → Rule
needed_rule name = record (new_rule name) { required = true; action = Some Set }

-- the source
abbrev pub file_rule : Rule
file_rule = needed_rule (codes "FILE")

-- the arguments of main: any number of words
abbrev pub args_rule : Rule
args_rule = record (new_rule (codes "ARGS")) {
  range = Some
      (record { start_inclusive = 0; end_inclusive = usize_max });
  action = Some Append;
}

-- the name of a command
abbrev pub command_name : Verb → Text
command_name verb.Check = codes "check"
command_name verb.Run = codes "run"
command_name verb.Scale = codes "scale"
command_name verb.Sites = codes "sites"
command_name verb.Gain = codes "gain"
command_name verb.Greedy = codes "greedy"
command_name verb.Speedup = codes "speedup"
command_name verb.Page = codes "page"

-- a command that runs a program and takes a burden: with its source, its arguments and the options
abbrev pub running_line : Text → App
running_line name =
    fold with_rule (with_rule (with_rule (new_app name) file_rule) args_rule) option_rules

-- such a command that prints a table: with the option for aligned columns
abbrev pub table_line : Text → App
table_line name = with_rule (running_line name) table_rule

-- the command for gains, with the number of functions that it reports
abbrev pub gain_line : App
gain_line = with_rule (table_line (codes "gain")) (number_rule top_row)

-- the command for a schedule: with its processors before its source, its arguments, the limit and the workers
abbrev pub greedy_line : App
greedy_line = fold with_rule (new_app (codes "greedy"))
    (needed_rule processors_row.name ∷ file_rule ∷ args_rule ∷ number_rule limit_row ∷ number_rule workers_row ∷ [])

-- the command for speedups: with the number of processors up to which it reports them
abbrev pub speedup_line : App
speedup_line = with_rule (table_line (codes "speedup")) (number_rule up_to_row)

-- the command for a page: with the numbers of both
abbrev pub page_line : App
page_line = with_rule (with_rule (running_line (codes "page")) (number_rule top_row)) (number_rule up_to_row)

-- the words of each command: a check has its source alone
abbrev pub line_of : Verb → App
line_of verb.Check = with_rule (new_app (codes "check")) file_rule
line_of verb.Run = running_line (codes "run")
line_of verb.Scale = table_line (codes "scale")
line_of verb.Sites = table_line (codes "sites")
line_of verb.Gain = gain_line
line_of verb.Greedy = greedy_line
line_of verb.Speedup = speedup_line
line_of verb.Page = page_line

-- a command is of this line, also below another one
pub record IsCommandOf (line : App) (c : Command) : Type 0 where
  pub shape : app_of c ≡ line
  pub local : (out-Command c).has_globals ≡ false
  pub below : (above whole : Command) → AddsSubcommand above c whole
      → app_of whole ≡ with_subcommand (app_of above) line.top

-- the words follow the program's own name, and one of them has to be a command
abbrev pub with_words_alone : App → App
with_words_alone a = record a { top = record a.top { no_binary_name = true; subcommand_required = true } }

-- the commands, in their order
abbrev pub verbs : List Verb
verbs =
    verb.Check ∷ verb.Run ∷ verb.Scale ∷ verb.Sites ∷ verb.Gain ∷ verb.Greedy ∷ verb.Speedup ∷ verb.Page ∷ []

-- the whole command line
abbrev pub command_line : App
command_line =
    fold (λ above v. with_subcommand above (line_of v).top) (with_words_alone (new_app (codes "cilkwork"))) verbs
