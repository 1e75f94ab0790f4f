-- The traversal of words that do not begin with a hyphen.
use Rattle.std.proofs.Common.{◌≡◌, ◌∙◌, ◌<◌, ◌^◌, ◌==◌, ◌++◌, ap, ap₂, sym, refl, subst, arith, ℕ, cond, slice_get, nat_eq, suc, Bool}
use Rattle.std.proofs.Common.{true, false, List, [], ◌∷◌, drop, length, Option, Some, None, codes, unwrap_or, is_some}
use Rattle.std.specs.List.{All, fold}
use Rattle.std.specs.Prelude.{if◌then◌else◌}
use Rattle.std.specs.Option.{option_map_or}
use Rattle.std.specs.Str.{bytes_eq}
use Rattle.std.proofs.lemmas.Bool.{ne_eqb, le-ltb}
use Rattle.std.proofs.lemmas.List.{append-nil, append_assoc}
use Rattle.clap.specs.Kinds.{Kinds, or_else, range_kinds, values_kinds}
use Rattle.clap.specs.Lexer.{usize_max, long_of, short_of}
use Rattle.clap.specs.declared.builder.value_parser.ValueParser.TheVariants as vp
use Rattle.clap.specs.Walk.{first_of, long_or_other, short_or_plain, trailing, Held, Row, Rule, Step, Text, Waiting, Walk, idle, positional, option, walked}
use Rattle.clap.specs.Walk.{walk, walk_from, nothing_held, reacted, settled, finished, plain_word, subcommand_met, subcommand_or_other, after_step}
use Rattle.clap.specs.Simple.{App, Shape, built, names_of, entered, new_rule, new_shape, subcommand_of}
use Rattle.clap.specs.Faults.{flag_word_fault, bundle_fault, other_fault, turn_fault, walk_fault, step_fault, settle_fault, defaults_fault, check_fault, entered_fault}
use Rattle.clap.proofs.OnLiterals.{clap_on_literals}
use Rattle.cw_words.specs.Command.{burden_row, command_line, command_name, limit_row, processors_row, top_row, up_to_row, usual_edges, usual_numbers, workers_row}
use Rattle.cw_words.specs.Requests.{AreRead, HaveCommand, Words, asks_table, edges_text, faults, numbers_of, texts_of}
use Rattle.cw_words.specs.WordLaws.{IsPlain, TakesBurden, checking}
use Rattle.cw_words.specs.declared.verb.Verb.{Verb}
use Rattle.cw_words.specs.declared.verb.Verb.TheVariants as verb

-- ---- one word, of any command without subcommands

-- between two words
abbrev pub at : Waiting → ℕ → Held → Walk
at waiting position h = record { held = h; waiting = waiting; position = position; is_trailing = false; stopped = None }

-- a word that does not begin with a hyphen is neither `--` nor a flag
no_hyphen : (word : Text) → IsPlain word → (bytes_eq word (45 ∷ 45 ∷ []) ≡ false) × (long_of word ≡ None) × (short_of word ≡ None)
no_hyphen [] plain = (refl, refl, refl)
no_hyphen (x ∷ xs) plain = let e : (x == 45) ≡ false = ne_eqb x 45 (λ is. plain (ap Some is)) in (rw e refl, rw e refl, rw e refl)

no_flag : (c : List Rule) (waiting : Waiting) (position : ℕ) (word : Text) (h : Held) → IsPlain word → subcommand_or_other c None waiting position word h ≡ plain_word c waiting word h
no_flag c waiting position word h plain =
    let tests = no_hyphen word plain in
    ap (λ b. if b then (h, trailing position) else long_or_other c waiting word (long_of word) h) tests.0
    ∙ ap (λ o. long_or_other c waiting word o h) tests.1 ∙ ap (λ o. short_or_plain c waiting word o h) tests.2

no_flag_fault : (s : Shape) (word : Text) (h : Held) → IsPlain word → other_fault s None word h ≡ []
no_flag_fault s word h plain =
    let tests = no_hyphen word plain in
    let again = s.args_override_self in
    let none : Kinds = [] in
    ap (λ b. if b then none else flag_word_fault s.rules again (long_of word) word h) tests.0
    ∙ ap (λ o. flag_word_fault s.rules again o word h) tests.1 ∙ ap (λ o. option_map_or (λ flags. bundle_fault s.rules again flags h) o none) tests.2

met : (c : List Rule) (waiting : Waiting) (position : ℕ) (word : Text) (h : Held) → subcommand_met [] waiting word ≡ None → IsPlain word
    → subcommand_or_other c (subcommand_met [] waiting word) waiting position word h ≡ plain_word c waiting word h
met c waiting position word h none plain = ap (λ o. subcommand_or_other c o waiting position word h) none ∙ no_flag c waiting position word h plain

pub step : (c : List Rule) (waiting : Waiting) (position : ℕ) (word : Text) (h : Held) → subcommand_met [] waiting word ≡ None → IsPlain word
    → walked c [] (at waiting position h) word ≡ after_step c word (at waiting position h) (plain_word c waiting word h).0 (plain_word c waiting word h).1
unfolding walked
step c waiting position word h none plain = ap (λ (m : Held × Step). after_step c word (at waiting position h) m.0 m.1) (met c waiting position word h none plain)

pub turn : (s : Shape) (waiting : Waiting) (position : ℕ) (word : Text) (h : Held) → subcommand_met [] waiting word ≡ None → IsPlain word
    → turn_fault s [] (at waiting position h) word ≡ step_fault s position (plain_word s.rules waiting word h).0 (plain_word s.rules waiting word h).1
turn s waiting position word h none plain =
    ap₂ (λ (k : Kinds) (m : Held × Step). or_else k (step_fault s position m.0 m.1))
    (ap (λ o. other_fault s o word h) none ∙ no_flag_fault s word h plain) (met s.rules waiting position word h none plain)

-- ---- the commands

abbrev first_shape : List Shape → Shape
first_shape [] = new_shape []
first_shape (s ∷ rest) = s

abbrev pub first_rule : List Rule → Rule
first_rule [] = new_rule []
first_rule (a ∷ rest) = a

abbrev pub line : App
line = built command_line

abbrev pub check : Shape
check = first_shape line.subs

abbrev pub run : Shape
run = first_shape (drop 1 line.subs)

abbrev pub scale : Shape
scale = first_shape (drop 2 line.subs)

abbrev pub sites : Shape
sites = first_shape (drop 3 line.subs)

abbrev pub gain : Shape
gain = first_shape (drop 4 line.subs)

abbrev pub greedy : Shape
greedy = first_shape (drop 5 line.subs)

abbrev pub speedup : Shape
speedup = first_shape (drop 6 line.subs)

abbrev pub page : Shape
page = first_shape (drop 7 line.subs)

abbrev pub shape_of : Verb → Shape
shape_of verb.Check = check
shape_of verb.Run = run
shape_of verb.Scale = scale
shape_of verb.Sites = sites
shape_of verb.Gain = gain
shape_of verb.Greedy = greedy
shape_of verb.Speedup = speedup
shape_of verb.Page = page

-- a command that takes a burden has the rules of `run` or, if it prints a table, of `scale`
abbrev pub prints : Verb → Bool
prints verb.Scale = true
prints verb.Sites = true
prints _ = false

abbrev based : Bool → Shape
based false = run
based true = scale

abbrev running : Bool → Text → Shape
running t name = record (based t) { name = name }

is_running : (m : Verb) → TakesBurden m → shape_of m ≡ running (prints m) (command_name m)
is_running verb.Check runs = absurd runs
is_running verb.Gain runs = absurd runs
is_running verb.Greedy runs = absurd runs
is_running verb.Speedup runs = absurd runs
is_running verb.Page runs = absurd runs
is_running verb.Run runs = refl
is_running verb.Scale runs = refl
is_running verb.Sites runs = refl

abbrev pub held : List Row → Option (Text × List Text) → Held
held rows pending = record { rows = rows; pending = pending; skip = 0 }

-- ---- the words after a command that takes a burden

-- the option before the source: none, a limit, a burden, a word for edges, a number of workers or aligned columns
pub data Given : Type 0 where
  nothing : Given
  limited : Text → Given
  burdened : Text → Given
  edged : Text → Given
  worked : Text → Given
  tabled : Given

-- the row of aligned columns
abbrev pub tabled_rows : List Row
tabled_rows = (reacted scale.rules (first_rule (drop 6 scale.rules)) [] nothing_held).rows

-- the arguments before the source
abbrev before : Given → Held
before nothing = held [] None
before (limited n) = held [] (Some (codes "limit", n ∷ []))
before (burdened n) = held [] (Some (codes "burden", n ∷ []))
before (edged n) = held [] (Some (codes "edges", n ∷ []))
before (worked n) = held [] (Some (codes "workers", n ∷ []))
before tabled = held tabled_rows None

abbrev rows_before : Bool → Given → List Row
rows_before t g = (settled (based t).rules (before g)).rows

abbrev source_met : Bool → Given → Text → Walk
source_met t g file = at idle 2 (held (rows_before t g) (Some (codes "FILE", file ∷ [])))

abbrev rows_with : Bool → Given → Text → List Row
rows_with t g file = (settled (based t).rules (source_met t g file).held).rows

abbrev args_met : Bool → Given → Text → Text → List Text → Walk
args_met t g file v vs = at positional 2 (held (rows_with t g file) (Some (codes "ARGS", v ∷ vs)))

source_step : (t : Bool) (g : Given) (file : Text) → IsPlain file → walked (based t).rules [] (at idle 1 (before g)) file ≡ source_met t g file
source_step false nothing file plain = step (based false).rules idle 1 file (before nothing) refl plain
source_step false (limited n) file plain = step (based false).rules idle 1 file (before (limited n)) refl plain
source_step false (burdened n) file plain = step (based false).rules idle 1 file (before (burdened n)) refl plain
source_step false (edged n) file plain = step (based false).rules idle 1 file (before (edged n)) refl plain
source_step false (worked n) file plain = step (based false).rules idle 1 file (before (worked n)) refl plain
source_step false tabled file plain = step (based false).rules idle 1 file (before tabled) refl plain
source_step true nothing file plain = step (based true).rules idle 1 file (before nothing) refl plain
source_step true (limited n) file plain = step (based true).rules idle 1 file (before (limited n)) refl plain
source_step true (burdened n) file plain = step (based true).rules idle 1 file (before (burdened n)) refl plain
source_step true (edged n) file plain = step (based true).rules idle 1 file (before (edged n)) refl plain
source_step true (worked n) file plain = step (based true).rules idle 1 file (before (worked n)) refl plain
source_step true tabled file plain = step (based true).rules idle 1 file (before tabled) refl plain

source_turn : (t : Bool) (name : Text) (g : Given) (file : Text) → IsPlain file → turn_fault (running t name) [] (at idle 1 (before g)) file ≡ []
source_turn false name nothing file plain = turn (running false name) idle 1 file (before nothing) refl plain
source_turn false name (limited n) file plain = turn (running false name) idle 1 file (before (limited n)) refl plain
source_turn false name (burdened n) file plain = turn (running false name) idle 1 file (before (burdened n)) refl plain
source_turn false name (edged n) file plain = turn (running false name) idle 1 file (before (edged n)) refl plain
source_turn false name (worked n) file plain = turn (running false name) idle 1 file (before (worked n)) refl plain
source_turn false name tabled file plain = turn (running false name) idle 1 file (before tabled) refl plain
source_turn true name nothing file plain = turn (running true name) idle 1 file (before nothing) refl plain
source_turn true name (limited n) file plain = turn (running true name) idle 1 file (before (limited n)) refl plain
source_turn true name (burdened n) file plain = turn (running true name) idle 1 file (before (burdened n)) refl plain
source_turn true name (edged n) file plain = turn (running true name) idle 1 file (before (edged n)) refl plain
source_turn true name (worked n) file plain = turn (running true name) idle 1 file (before (worked n)) refl plain
source_turn true name tabled file plain = turn (running true name) idle 1 file (before tabled) refl plain

first_step : (t : Bool) (g : Given) (file v : Text) → IsPlain v → walked (based t).rules [] (source_met t g file) v ≡ args_met t g file v []
first_step false g file v plain = step (based false).rules idle 2 v (source_met false g file).held refl plain
first_step true g file v plain = step (based true).rules idle 2 v (source_met true g file).held refl plain

first_turn : (t : Bool) (name : Text) (g : Given) (file v : Text) → IsPlain v → turn_fault (running t name) [] (source_met t g file) v ≡ []
first_turn false name nothing file v plain = turn (running false name) idle 2 v (source_met false nothing file).held refl plain
first_turn false name (limited n) file v plain = turn (running false name) idle 2 v (source_met false (limited n) file).held refl plain
first_turn false name (burdened n) file v plain = turn (running false name) idle 2 v (source_met false (burdened n) file).held refl plain
first_turn false name (edged n) file v plain = turn (running false name) idle 2 v (source_met false (edged n) file).held refl plain
first_turn false name (worked n) file v plain = turn (running false name) idle 2 v (source_met false (worked n) file).held refl plain
first_turn false name tabled file v plain = turn (running false name) idle 2 v (source_met false tabled file).held refl plain
first_turn true name nothing file v plain = turn (running true name) idle 2 v (source_met true nothing file).held refl plain
first_turn true name (limited n) file v plain = turn (running true name) idle 2 v (source_met true (limited n) file).held refl plain
first_turn true name (burdened n) file v plain = turn (running true name) idle 2 v (source_met true (burdened n) file).held refl plain
first_turn true name (edged n) file v plain = turn (running true name) idle 2 v (source_met true (edged n) file).held refl plain
first_turn true name (worked n) file v plain = turn (running true name) idle 2 v (source_met true (worked n) file).held refl plain
first_turn true name tabled file v plain = turn (running true name) idle 2 v (source_met true tabled file).held refl plain

next_step : (t : Bool) (g : Given) (file v : Text) (vs : List Text) (word : Text) → IsPlain word → walked (based t).rules [] (args_met t g file v vs) word ≡ args_met t g file v (vs ++ word ∷ [])
next_step false g file v vs word plain = step (based false).rules positional 2 word (args_met false g file v vs).held refl plain
next_step true g file v vs word plain = step (based true).rules positional 2 word (args_met true g file v vs).held refl plain

next_turn : (t : Bool) (name : Text) (g : Given) (file v : Text) (vs : List Text) (word : Text) → IsPlain word → turn_fault (running t name) [] (args_met t g file v vs) word ≡ []
next_turn false name g file v vs word plain = turn (running false name) positional 2 word (args_met false g file v vs).held refl plain
next_turn true name g file v vs word plain = turn (running true name) positional 2 word (args_met true g file v vs).held refl plain

pub all_rest : (x : Text) (xs : List Text) → All IsPlain (x ∷ xs) → All IsPlain xs
all_rest x xs h k d lt = h (suc k) d (omega (arith, lt))

rest_walk : (t : Bool) (g : Given) (file v : Text) (vs rest : List Text) → All IsPlain rest → fold (walked (based t).rules []) (args_met t g file v vs) rest ≡ args_met t g file v (vs ++ rest)
rest_walk t g file v vs [] plain = ap (args_met t g file v) (sym (append-nil vs))
rest_walk t g file v vs (word ∷ rest) plain =
    ap (λ w. fold (walked (based t).rules []) w rest) (next_step t g file v vs word (plain 0 word (omega arith)))
    ∙ rest_walk t g file v (vs ++ word ∷ []) rest (all_rest word rest plain) ∙ ap (args_met t g file v) (append_assoc vs (word ∷ []) rest)

rest_fault : (t : Bool) (name : Text) (g : Given) (file v : Text) (vs rest : List Text) → All IsPlain rest → walk_fault (running t name) [] (args_met t g file v vs) rest ≡ []
unfolding walk_fault
rest_fault t name g file v vs [] plain = refl
rest_fault t name g file v vs (word ∷ rest) plain =
    ap₂ (λ k w. or_else k (walk_fault (running t name) [] w rest)) (next_turn t name g file v vs word (plain 0 word (omega arith))) (next_step t g file v vs word (plain 0 word (omega arith)))
    ∙ rest_fault t name g file v (vs ++ word ∷ []) rest (all_rest word rest plain)

-- the end of the traversal
abbrev end : Bool → Given → Text → List Text → Walk
end t g file [] = source_met t g file
end t g file (v ∷ vs) = args_met t g file v vs

args_walk : (t : Bool) (g : Given) (file : Text) (args : List Text) → All IsPlain args → fold (walked (based t).rules []) (source_met t g file) args ≡ end t g file args
args_walk t g file [] plain = refl
args_walk t g file (v ∷ vs) plain = ap (λ w. fold (walked (based t).rules []) w vs) (first_step t g file v (plain 0 v (omega arith))) ∙ rest_walk t g file v [] vs (all_rest v vs plain)

args_fault : (t : Bool) (name : Text) (g : Given) (file : Text) (args : List Text) → All IsPlain args → walk_fault (running t name) [] (source_met t g file) args ≡ []
unfolding walk_fault
args_fault t name g file [] plain = refl
args_fault t name g file (v ∷ vs) plain =
    ap₂ (λ k w. or_else k (walk_fault (running t name) [] w vs)) (first_turn t name g file v (plain 0 v (omega arith))) (first_step t g file v (plain 0 v (omega arith)))
    ∙ rest_fault t name g file v [] vs (all_rest v vs plain)

source_walk : (t : Bool) (g : Given) (file : Text) (args : List Text) → IsPlain file → All IsPlain args → fold (walked (based t).rules []) (at idle 1 (before g)) (file ∷ args) ≡ end t g file args
source_walk t g file args plain plains = ap (λ w. fold (walked (based t).rules []) w args) (source_step t g file plain) ∙ args_walk t g file args plains

source_fault : (t : Bool) (name : Text) (g : Given) (file : Text) (args : List Text) → IsPlain file → All IsPlain args → walk_fault (running t name) [] (at idle 1 (before g)) (file ∷ args) ≡ []
unfolding walk_fault
source_fault t name g file args plain plains =
    ap₂ (λ k w. or_else k (walk_fault (running t name) [] w args)) (source_turn t name g file plain) (source_step t g file plain) ∙ args_fault t name g file args plains

-- ---- an option before the source

abbrev number_words : Given → List Text
number_words nothing = []
number_words (limited n) = codes "--limit" ∷ n ∷ []
number_words (burdened n) = codes "--burden" ∷ n ∷ []
number_words (edged n) = codes "--edges" ∷ n ∷ []
number_words (worked n) = codes "--workers" ∷ n ∷ []
number_words tabled = codes "--table" ∷ []

abbrev IsGiven : Bool → Given → Type 0
IsGiven t nothing = Unit {0}
IsGiven t (limited n) = IsPlain n
IsGiven t (burdened n) = IsPlain n
IsGiven t (edged n) = IsPlain n
IsGiven t (worked n) = IsPlain n
IsGiven t tabled = t ≡ true

-- between the name of an option and its value
abbrev waiting : Text → Walk
waiting id = at (option id) 1 (held [] (Some (id, [])))

limit_step : (t : Bool) → walked (based t).rules [] (walk_from nothing_held) (codes "--limit") ≡ waiting (codes "limit")
unfolding clap_on_literals
limit_step false = refl
limit_step true = refl

limit_turn : (t : Bool) (name : Text) → turn_fault (running t name) [] (walk_from nothing_held) (codes "--limit") ≡ []
unfolding clap_on_literals
limit_turn false name = refl
limit_turn true name = refl

limit_value_step : (t : Bool) (n : Text) → IsPlain n → walked (based t).rules [] (waiting (codes "limit")) n ≡ at idle 1 (before (limited n))
limit_value_step false n plain = step (based false).rules (option (codes "limit")) 1 n (waiting (codes "limit")).held refl plain
limit_value_step true n plain = step (based true).rules (option (codes "limit")) 1 n (waiting (codes "limit")).held refl plain

limit_value_turn : (t : Bool) (name : Text) (n : Text) → IsPlain n → turn_fault (running t name) [] (waiting (codes "limit")) n ≡ []
limit_value_turn false name n plain = turn (running false name) (option (codes "limit")) 1 n (waiting (codes "limit")).held refl plain
limit_value_turn true name n plain = turn (running true name) (option (codes "limit")) 1 n (waiting (codes "limit")).held refl plain

burden_step : (t : Bool) → walked (based t).rules [] (walk_from nothing_held) (codes "--burden") ≡ waiting (codes "burden")
unfolding clap_on_literals
burden_step false = refl
burden_step true = refl

burden_turn : (t : Bool) (name : Text) → turn_fault (running t name) [] (walk_from nothing_held) (codes "--burden") ≡ []
unfolding clap_on_literals
burden_turn false name = refl
burden_turn true name = refl

burden_value_step : (t : Bool) (n : Text) → IsPlain n → walked (based t).rules [] (waiting (codes "burden")) n ≡ at idle 1 (before (burdened n))
burden_value_step false n plain = step (based false).rules (option (codes "burden")) 1 n (waiting (codes "burden")).held refl plain
burden_value_step true n plain = step (based true).rules (option (codes "burden")) 1 n (waiting (codes "burden")).held refl plain

burden_value_turn : (t : Bool) (name : Text) (n : Text) → IsPlain n → turn_fault (running t name) [] (waiting (codes "burden")) n ≡ []
burden_value_turn false name n plain = turn (running false name) (option (codes "burden")) 1 n (waiting (codes "burden")).held refl plain
burden_value_turn true name n plain = turn (running true name) (option (codes "burden")) 1 n (waiting (codes "burden")).held refl plain

edges_step : (t : Bool) → walked (based t).rules [] (walk_from nothing_held) (codes "--edges") ≡ waiting (codes "edges")
unfolding clap_on_literals
edges_step false = refl
edges_step true = refl

edges_turn : (t : Bool) (name : Text) → turn_fault (running t name) [] (walk_from nothing_held) (codes "--edges") ≡ []
unfolding clap_on_literals
edges_turn false name = refl
edges_turn true name = refl

edges_value_step : (t : Bool) (n : Text) → IsPlain n → walked (based t).rules [] (waiting (codes "edges")) n ≡ at idle 1 (before (edged n))
edges_value_step false n plain = step (based false).rules (option (codes "edges")) 1 n (waiting (codes "edges")).held refl plain
edges_value_step true n plain = step (based true).rules (option (codes "edges")) 1 n (waiting (codes "edges")).held refl plain

edges_value_turn : (t : Bool) (name : Text) (n : Text) → IsPlain n → turn_fault (running t name) [] (waiting (codes "edges")) n ≡ []
edges_value_turn false name n plain = turn (running false name) (option (codes "edges")) 1 n (waiting (codes "edges")).held refl plain
edges_value_turn true name n plain = turn (running true name) (option (codes "edges")) 1 n (waiting (codes "edges")).held refl plain

workers_step : (t : Bool) → walked (based t).rules [] (walk_from nothing_held) (codes "--workers") ≡ waiting (codes "workers")
unfolding clap_on_literals
workers_step false = refl
workers_step true = refl

workers_turn : (t : Bool) (name : Text) → turn_fault (running t name) [] (walk_from nothing_held) (codes "--workers") ≡ []
unfolding clap_on_literals
workers_turn false name = refl
workers_turn true name = refl

workers_value_step : (t : Bool) (n : Text) → IsPlain n → walked (based t).rules [] (waiting (codes "workers")) n ≡ at idle 1 (before (worked n))
workers_value_step false n plain = step (based false).rules (option (codes "workers")) 1 n (waiting (codes "workers")).held refl plain
workers_value_step true n plain = step (based true).rules (option (codes "workers")) 1 n (waiting (codes "workers")).held refl plain

workers_value_turn : (t : Bool) (name : Text) (n : Text) → IsPlain n → turn_fault (running t name) [] (waiting (codes "workers")) n ≡ []
workers_value_turn false name n plain = turn (running false name) (option (codes "workers")) 1 n (waiting (codes "workers")).held refl plain
workers_value_turn true name n plain = turn (running true name) (option (codes "workers")) 1 n (waiting (codes "workers")).held refl plain

table_step : (t : Bool) → t ≡ true → walked (based t).rules [] (walk_from nothing_held) (codes "--table") ≡ at idle 1 (before tabled)
unfolding clap_on_literals
table_step true is = refl
table_step false is = cc

table_turn : (t : Bool) (name : Text) → t ≡ true → turn_fault (running t name) [] (walk_from nothing_held) (codes "--table") ≡ []
unfolding clap_on_literals
table_turn true name is = refl
table_turn false name is = cc

words_walk : (t : Bool) (g : Given) (file : Text) (args : List Text) → IsGiven t g → IsPlain file → All IsPlain args
    → fold (walked (based t).rules []) (walk_from nothing_held) (number_words g ++ file ∷ args) ≡ end t g file args
words_walk t nothing file args given plain plains = source_walk t nothing file args plain plains
words_walk t (limited n) file args given plain plains =
    ap (λ w. fold (walked (based t).rules []) w (n ∷ file ∷ args)) (limit_step t) ∙ ap (λ w. fold (walked (based t).rules []) w (file ∷ args)) (limit_value_step t n given)
    ∙ source_walk t (limited n) file args plain plains
words_walk t (burdened n) file args given plain plains =
    ap (λ w. fold (walked (based t).rules []) w (n ∷ file ∷ args)) (burden_step t) ∙ ap (λ w. fold (walked (based t).rules []) w (file ∷ args)) (burden_value_step t n given)
    ∙ source_walk t (burdened n) file args plain plains
words_walk t (edged n) file args given plain plains =
    ap (λ w. fold (walked (based t).rules []) w (n ∷ file ∷ args)) (edges_step t) ∙ ap (λ w. fold (walked (based t).rules []) w (file ∷ args)) (edges_value_step t n given)
    ∙ source_walk t (edged n) file args plain plains
words_walk t (worked n) file args given plain plains =
    ap (λ w. fold (walked (based t).rules []) w (n ∷ file ∷ args)) (workers_step t) ∙ ap (λ w. fold (walked (based t).rules []) w (file ∷ args)) (workers_value_step t n given)
    ∙ source_walk t (worked n) file args plain plains
words_walk t tabled file args given plain plains =
    ap (λ w. fold (walked (based t).rules []) w (file ∷ args)) (table_step t given) ∙ source_walk t tabled file args plain plains

words_fault : (t : Bool) (name : Text) (g : Given) (file : Text) (args : List Text) → IsGiven t g → IsPlain file → All IsPlain args
    → walk_fault (running t name) [] (walk_from nothing_held) (number_words g ++ file ∷ args) ≡ []
unfolding walk_fault
words_fault t name nothing file args given plain plains = source_fault t name nothing file args plain plains
words_fault t name (limited n) file args given plain plains =
    ap₂ (λ k w. or_else k (walk_fault (running t name) [] w (n ∷ file ∷ args))) (limit_turn t name) (limit_step t)
    ∙ ap₂ (λ k w. or_else k (walk_fault (running t name) [] w (file ∷ args))) (limit_value_turn t name n given) (limit_value_step t n given)
    ∙ source_fault t name (limited n) file args plain plains
words_fault t name (burdened n) file args given plain plains =
    ap₂ (λ k w. or_else k (walk_fault (running t name) [] w (n ∷ file ∷ args))) (burden_turn t name) (burden_step t)
    ∙ ap₂ (λ k w. or_else k (walk_fault (running t name) [] w (file ∷ args))) (burden_value_turn t name n given) (burden_value_step t n given)
    ∙ source_fault t name (burdened n) file args plain plains
words_fault t name (edged n) file args given plain plains =
    ap₂ (λ k w. or_else k (walk_fault (running t name) [] w (n ∷ file ∷ args))) (edges_turn t name) (edges_step t)
    ∙ ap₂ (λ k w. or_else k (walk_fault (running t name) [] w (file ∷ args))) (edges_value_turn t name n given) (edges_value_step t n given)
    ∙ source_fault t name (edged n) file args plain plains
words_fault t name (worked n) file args given plain plains =
    ap₂ (λ k w. or_else k (walk_fault (running t name) [] w (n ∷ file ∷ args))) (workers_turn t name) (workers_step t)
    ∙ ap₂ (λ k w. or_else k (walk_fault (running t name) [] w (file ∷ args))) (workers_value_turn t name n given) (workers_value_step t n given)
    ∙ source_fault t name (worked n) file args plain plains
words_fault t name tabled file args given plain plains =
    ap₂ (λ k w. or_else k (walk_fault (running t name) [] w (file ∷ args))) (table_turn t name given) (table_step t given)
    ∙ source_fault t name tabled file args plain plains

-- ---- the word after `check`

abbrev check_met : Text → Walk
check_met file = at idle 2 (held [] (Some (codes "FILE", file ∷ [])))

check_step : (file : Text) → IsPlain file → walked check.rules [] (walk_from nothing_held) file ≡ check_met file
check_step file plain = step check.rules idle 1 file nothing_held refl plain

check_turn : (file : Text) → IsPlain file → turn_fault check [] (walk_from nothing_held) file ≡ []
check_turn file plain = turn check idle 1 file nothing_held refl plain

check_walk_fault : (file : Text) → IsPlain file → walk_fault check [] (walk_from nothing_held) (file ∷ []) ≡ []
unfolding walk_fault
check_walk_fault file plain = ap (λ k. or_else k []) (check_turn file plain)

-- ---- the checks after the words

pub values_accepted : (b : Bool) (vs : List Text) → values_kinds b vp.String vs ≡ []
values_accepted b [] = refl
values_accepted b (v ∷ vs) = values_accepted b vs

pub range_fits : (n : ℕ) → n < 2 ^ 64 → range_kinds 0 usize_max n ≡ []
range_fits n lt = rw (le-ltb n 0 (omega arith), le-ltb usize_max n (omega (arith, lt))) refl

-- the faults of a level, without its first steps
abbrev pub level : Shape → Walk → Bool → Kinds → Kinds → Kinds → Kinds
level s w has walk below settle =
    or_else walk (or_else below (or_else settle (or_else (defaults_fault (settled s.rules w.held).rows s.rules) (check_fault s (finished s.rules w.held) has))))

abbrev pub command_level : Shape → Walk → Kinds → Kinds
command_level s w walk = level s w false walk [] (settle_fault s.rules s.args_override_self w.held)

end_level : (t : Bool) (name : Text) (g : Given) (file : Text) (args : List Text) → length args < 2 ^ 64 → command_level (running t name) (end t g file args) [] ≡ []
unfolding defaults_fault
end_level false name nothing file [] lt = refl
end_level false name (limited n) file [] lt = refl
end_level false name (burdened n) file [] lt = refl
end_level false name (edged n) file [] lt = refl
end_level false name (worked n) file [] lt = refl
end_level false name tabled file [] lt = refl
end_level true name nothing file [] lt = refl
end_level true name (limited n) file [] lt = refl
end_level true name (burdened n) file [] lt = refl
end_level true name (edged n) file [] lt = refl
end_level true name (worked n) file [] lt = refl
end_level true name tabled file [] lt = refl
end_level false name nothing file (v ∷ vs) lt = ap (level (running false name) (end false nothing file (v ∷ vs)) false [] []) (ap₂ or_else (range_fits (length (v ∷ vs)) lt) (values_accepted false (v ∷ vs)))
end_level false name (limited n) file (v ∷ vs) lt = ap (level (running false name) (end false (limited n) file (v ∷ vs)) false [] []) (ap₂ or_else (range_fits (length (v ∷ vs)) lt) (values_accepted false (v ∷ vs)))
end_level false name (burdened n) file (v ∷ vs) lt = ap (level (running false name) (end false (burdened n) file (v ∷ vs)) false [] []) (ap₂ or_else (range_fits (length (v ∷ vs)) lt) (values_accepted false (v ∷ vs)))
end_level false name (edged n) file (v ∷ vs) lt = ap (level (running false name) (end false (edged n) file (v ∷ vs)) false [] []) (ap₂ or_else (range_fits (length (v ∷ vs)) lt) (values_accepted false (v ∷ vs)))
end_level false name (worked n) file (v ∷ vs) lt = ap (level (running false name) (end false (worked n) file (v ∷ vs)) false [] []) (ap₂ or_else (range_fits (length (v ∷ vs)) lt) (values_accepted false (v ∷ vs)))
end_level false name tabled file (v ∷ vs) lt = ap (level (running false name) (end false tabled file (v ∷ vs)) false [] []) (ap₂ or_else (range_fits (length (v ∷ vs)) lt) (values_accepted false (v ∷ vs)))
end_level true name nothing file (v ∷ vs) lt = ap (level (running true name) (end true nothing file (v ∷ vs)) false [] []) (ap₂ or_else (range_fits (length (v ∷ vs)) lt) (values_accepted false (v ∷ vs)))
end_level true name (limited n) file (v ∷ vs) lt = ap (level (running true name) (end true (limited n) file (v ∷ vs)) false [] []) (ap₂ or_else (range_fits (length (v ∷ vs)) lt) (values_accepted false (v ∷ vs)))
end_level true name (burdened n) file (v ∷ vs) lt = ap (level (running true name) (end true (burdened n) file (v ∷ vs)) false [] []) (ap₂ or_else (range_fits (length (v ∷ vs)) lt) (values_accepted false (v ∷ vs)))
end_level true name (edged n) file (v ∷ vs) lt = ap (level (running true name) (end true (edged n) file (v ∷ vs)) false [] []) (ap₂ or_else (range_fits (length (v ∷ vs)) lt) (values_accepted false (v ∷ vs)))
end_level true name (worked n) file (v ∷ vs) lt = ap (level (running true name) (end true (worked n) file (v ∷ vs)) false [] []) (ap₂ or_else (range_fits (length (v ∷ vs)) lt) (values_accepted false (v ∷ vs)))
end_level true name tabled file (v ∷ vs) lt = ap (level (running true name) (end true tabled file (v ∷ vs)) false [] []) (ap₂ or_else (range_fits (length (v ∷ vs)) lt) (values_accepted false (v ∷ vs)))

check_level : (file : Text) → command_level check (check_met file) [] ≡ []
unfolding defaults_fault
check_level file = refl

-- ---- the word for the command

abbrev pub stopped_at : Text → List Text → Walk
stopped_at name words = record { held = nothing_held; waiting = idle; position = 1; is_trailing = false; stopped = Some (name, words) }

command_step : (m : Verb) → walked line.top.rules (names_of line) (walk_from nothing_held) (command_name m) ≡ stopped_at (command_name m) []
unfolding clap_on_literals
command_step verb.Check = refl
command_step verb.Run = refl
command_step verb.Scale = refl
command_step verb.Sites = refl
command_step verb.Gain = refl
command_step verb.Greedy = refl
command_step verb.Speedup = refl
command_step verb.Page = refl

command_turn : (m : Verb) → turn_fault line.top (names_of line) (walk_from nothing_held) (command_name m) ≡ []
unfolding clap_on_literals
command_turn verb.Check = refl
command_turn verb.Run = refl
command_turn verb.Scale = refl
command_turn verb.Sites = refl
command_turn verb.Gain = refl
command_turn verb.Greedy = refl
command_turn verb.Speedup = refl
command_turn verb.Page = refl

pub stopped_walk : (name : Text) (words rest : List Text) → fold (walked line.top.rules (names_of line)) (stopped_at name words) rest ≡ stopped_at name (words ++ rest)
unfolding walked
stopped_walk name words [] = ap (stopped_at name) (sym (append-nil words))
stopped_walk name words (w ∷ rest) = stopped_walk name (words ++ w ∷ []) rest ∙ ap (stopped_at name) (append_assoc words (w ∷ []) rest)

stopped_fault : (name : Text) (words rest : List Text) → walk_fault line.top (names_of line) (stopped_at name words) rest ≡ []
unfolding walked walk_fault
stopped_fault name words [] = refl
stopped_fault name words (w ∷ rest) = stopped_fault name (words ++ w ∷ []) rest

top_walk : (m : Verb) (rest : List Text) → walk line.top.rules (names_of line) nothing_held (command_name m ∷ rest) ≡ stopped_at (command_name m) rest
top_walk m rest = ap (λ w. fold (walked line.top.rules (names_of line)) w rest) (command_step m) ∙ stopped_walk (command_name m) [] rest

top_fault : (m : Verb) (rest : List Text) → walk_fault line.top (names_of line) (walk_from nothing_held) (command_name m ∷ rest) ≡ []
unfolding walk_fault
top_fault m rest = ap₂ (λ k w. or_else k (walk_fault line.top (names_of line) w rest)) (command_turn m) (command_step m) ∙ stopped_fault (command_name m) [] rest

abbrev top_level : Walk → Kinds → Kinds
top_level w walk = level line.top w (is_some (entered line w.stopped)) walk (entered_fault line w.stopped) (settle_fault line.top.rules line.top.args_override_self w.held)

-- after the word for a command, the words go to the level of this command
pub command_faults : (m : Verb) (rest : List Text) → command_level (shape_of m) (walk (shape_of m).rules [] nothing_held rest) (walk_fault (shape_of m) [] (walk_from nothing_held) rest) ≡ []
    → faults (command_name m ∷ rest) ≡ []
unfolding defaults_fault
command_faults verb.Check rest none = ap₂ top_level (top_walk verb.Check rest) (top_fault verb.Check rest) ∙ ap (λ k. or_else k []) none
command_faults verb.Run rest none = ap₂ top_level (top_walk verb.Run rest) (top_fault verb.Run rest) ∙ ap (λ k. or_else k []) none
command_faults verb.Scale rest none = ap₂ top_level (top_walk verb.Scale rest) (top_fault verb.Scale rest) ∙ ap (λ k. or_else k []) none
command_faults verb.Sites rest none = ap₂ top_level (top_walk verb.Sites rest) (top_fault verb.Sites rest) ∙ ap (λ k. or_else k []) none
command_faults verb.Gain rest none = ap₂ top_level (top_walk verb.Gain rest) (top_fault verb.Gain rest) ∙ ap (λ k. or_else k []) none
command_faults verb.Greedy rest none = ap₂ top_level (top_walk verb.Greedy rest) (top_fault verb.Greedy rest) ∙ ap (λ k. or_else k []) none
command_faults verb.Speedup rest none = ap₂ top_level (top_walk verb.Speedup rest) (top_fault verb.Speedup rest) ∙ ap (λ k. or_else k []) none
command_faults verb.Page rest none = ap₂ top_level (top_walk verb.Page rest) (top_fault verb.Page rest) ∙ ap (λ k. or_else k []) none

pub command_rows : (m : Verb) (rest : List Text) → subcommand_of command_line (command_name m ∷ rest)
    ≡ Some (command_name m, finished (shape_of m).rules (walk (shape_of m).rules [] nothing_held rest).held)
command_rows verb.Check rest = ap (λ w. entered line w.stopped) (top_walk verb.Check rest)
command_rows verb.Run rest = ap (λ w. entered line w.stopped) (top_walk verb.Run rest)
command_rows verb.Scale rest = ap (λ w. entered line w.stopped) (top_walk verb.Scale rest)
command_rows verb.Sites rest = ap (λ w. entered line w.stopped) (top_walk verb.Sites rest)
command_rows verb.Gain rest = ap (λ w. entered line w.stopped) (top_walk verb.Gain rest)
command_rows verb.Greedy rest = ap (λ w. entered line w.stopped) (top_walk verb.Greedy rest)
command_rows verb.Speedup rest = ap (λ w. entered line w.stopped) (top_walk verb.Speedup rest)
command_rows verb.Page rest = ap (λ w. entered line w.stopped) (top_walk verb.Page rest)

-- ---- the meaning of the words

abbrev numbers_given : Given → List Text
numbers_given nothing = usual_numbers
numbers_given (limited n) = n ∷ burden_row.usual ∷ processors_row.usual ∷ up_to_row.usual ∷ top_row.usual ∷ workers_row.usual ∷ []
numbers_given (burdened n) = limit_row.usual ∷ n ∷ processors_row.usual ∷ up_to_row.usual ∷ top_row.usual ∷ workers_row.usual ∷ []
numbers_given (edged n) = usual_numbers
numbers_given (worked n) = limit_row.usual ∷ burden_row.usual ∷ processors_row.usual ∷ up_to_row.usual ∷ top_row.usual ∷ n ∷ []
numbers_given tabled = usual_numbers

abbrev edges_given : Given → Text
edges_given (edged n) = n
edges_given _ = usual_edges

abbrev table_given : Given → Bool
table_given tabled = true
table_given _ = false

abbrev ran : Verb → Given → Text → List Text → Words
ran m g file args = record { verb = m; file = file; args = args; numbers = numbers_given g; edges = edges_given g; table = table_given g }

end_rows : (words : List Text) (m : Verb) (t : Bool) (g : Given) (file : Text) (args : List Text) → HaveCommand words m (finished (based t).rules (end t g file args).held) → AreRead words (ran m g file args)
end_rows words m false nothing file [] h = record { rows = _; command = h; file_is = refl; args_are = refl; numbers_are = refl; edges_are = refl; table_is = refl }
end_rows words m false (limited n) file [] h = record { rows = _; command = h; file_is = refl; args_are = refl; numbers_are = refl; edges_are = refl; table_is = refl }
end_rows words m false (burdened n) file [] h = record { rows = _; command = h; file_is = refl; args_are = refl; numbers_are = refl; edges_are = refl; table_is = refl }
end_rows words m false (edged n) file [] h = record { rows = _; command = h; file_is = refl; args_are = refl; numbers_are = refl; edges_are = refl; table_is = refl }
end_rows words m false (worked n) file [] h = record { rows = _; command = h; file_is = refl; args_are = refl; numbers_are = refl; edges_are = refl; table_is = refl }
end_rows words m false tabled file [] h = record { rows = _; command = h; file_is = refl; args_are = refl; numbers_are = refl; edges_are = refl; table_is = refl }
end_rows words m true nothing file [] h = record { rows = _; command = h; file_is = refl; args_are = refl; numbers_are = refl; edges_are = refl; table_is = refl }
end_rows words m true (limited n) file [] h = record { rows = _; command = h; file_is = refl; args_are = refl; numbers_are = refl; edges_are = refl; table_is = refl }
end_rows words m true (burdened n) file [] h = record { rows = _; command = h; file_is = refl; args_are = refl; numbers_are = refl; edges_are = refl; table_is = refl }
end_rows words m true (edged n) file [] h = record { rows = _; command = h; file_is = refl; args_are = refl; numbers_are = refl; edges_are = refl; table_is = refl }
end_rows words m true (worked n) file [] h = record { rows = _; command = h; file_is = refl; args_are = refl; numbers_are = refl; edges_are = refl; table_is = refl }
end_rows words m true tabled file [] h = record { rows = _; command = h; file_is = refl; args_are = refl; numbers_are = refl; edges_are = refl; table_is = refl }
end_rows words m false nothing file (v ∷ vs) h = record { rows = _; command = h; file_is = refl; args_are = refl; numbers_are = refl; edges_are = refl; table_is = refl }
end_rows words m false (limited n) file (v ∷ vs) h = record { rows = _; command = h; file_is = refl; args_are = refl; numbers_are = refl; edges_are = refl; table_is = refl }
end_rows words m false (burdened n) file (v ∷ vs) h = record { rows = _; command = h; file_is = refl; args_are = refl; numbers_are = refl; edges_are = refl; table_is = refl }
end_rows words m false (edged n) file (v ∷ vs) h = record { rows = _; command = h; file_is = refl; args_are = refl; numbers_are = refl; edges_are = refl; table_is = refl }
end_rows words m false (worked n) file (v ∷ vs) h = record { rows = _; command = h; file_is = refl; args_are = refl; numbers_are = refl; edges_are = refl; table_is = refl }
end_rows words m false tabled file (v ∷ vs) h = record { rows = _; command = h; file_is = refl; args_are = refl; numbers_are = refl; edges_are = refl; table_is = refl }
end_rows words m true nothing file (v ∷ vs) h = record { rows = _; command = h; file_is = refl; args_are = refl; numbers_are = refl; edges_are = refl; table_is = refl }
end_rows words m true (limited n) file (v ∷ vs) h = record { rows = _; command = h; file_is = refl; args_are = refl; numbers_are = refl; edges_are = refl; table_is = refl }
end_rows words m true (burdened n) file (v ∷ vs) h = record { rows = _; command = h; file_is = refl; args_are = refl; numbers_are = refl; edges_are = refl; table_is = refl }
end_rows words m true (edged n) file (v ∷ vs) h = record { rows = _; command = h; file_is = refl; args_are = refl; numbers_are = refl; edges_are = refl; table_is = refl }
end_rows words m true (worked n) file (v ∷ vs) h = record { rows = _; command = h; file_is = refl; args_are = refl; numbers_are = refl; edges_are = refl; table_is = refl }
end_rows words m true tabled file (v ∷ vs) h = record { rows = _; command = h; file_is = refl; args_are = refl; numbers_are = refl; edges_are = refl; table_is = refl }

-- the faults of the words on a level
abbrev pub level_of : Shape → List Text → Kinds
level_of s rest = command_level s (walk s.rules [] nothing_held rest) (walk_fault s [] (walk_from nothing_held) rest)

abbrev pub rows_at : Shape → List Text → List Row
rows_at s rest = finished s.rules (walk s.rules [] nothing_held rest).held

pub are_read : (m : Verb) (g : Given) (file : Text) (args : List Text) → TakesBurden m → IsGiven (prints m) g → IsPlain file → All IsPlain args → length args < 2 ^ 64
    → AreRead (command_name m ∷ number_words g ++ file ∷ args) (ran m g file args)
are_read m g file args runs given plain plains few =
    let t = prints m in
    let rest = number_words g ++ file ∷ args in
    let is : running t (command_name m) ≡ shape_of m = sym (is_running m runs) in
    let walked_is = words_walk t g file args given plain plains in
    let none : level_of (running t (command_name m)) rest ≡ [] =
    ap₂ (command_level (running t (command_name m))) walked_is (words_fault t (command_name m) g file args given plain plains) ∙ end_level t (command_name m) g file args few in
    let rows_are : rows_at (shape_of m) rest ≡ finished (based t).rules (end t g file args).held =
    subst (λ s. rows_at s rest ≡ finished (based t).rules (end t g file args).held) is (ap (λ w. finished (based t).rules w.held) walked_is) in
    end_rows (command_name m ∷ rest) m t g file args (
      command_faults m rest (subst (λ s. level_of s rest ≡ []) is none),
      command_rows m rest ∙ ap (λ rows. Some (command_name m, rows)) rows_are,
    )

pub check_is_read : (file : Text) → IsPlain file → AreRead (codes "check" ∷ file ∷ []) (checking file)
check_is_read file plain =
    let rest = file ∷ [] in
    let walked_is = check_step file plain in
    let none = ap₂ (command_level check) walked_is (check_walk_fault file plain) ∙ check_level file in
    record {
      rows = finished check.rules (check_met file).held;
      command = (command_faults verb.Check rest none, command_rows verb.Check rest ∙ ap (λ w. Some (codes "check", finished check.rules w.held)) walked_is);
      file_is = refl;
      args_are = refl;
      numbers_are = refl;
      edges_are = refl;
      table_is = refl;
    }

-- ---- the rows of a request

abbrev rows_in : Option (Text × List Row) → List Row
rows_in None = []
rows_in (Some p) = p.1

abbrev name_in : Option (Text × List Row) → Text
name_in None = []
name_in (Some p) = p.0

pub same_rows : (words : List Text) (m m' : Verb) (rows rows' : List Row) → HaveCommand words m rows → HaveCommand words m' rows' → rows ≡ rows'
same_rows words m m' rows rows' h k = ap rows_in (sym h.1 ∙ k.1)

-- the command with a name, determined by the length of the name and its second letter, or by its third letter
abbrev named : Text → Verb
named name = cond (nat_eq (length name) 3) verb.Run (cond (is_page (slice_get name 2)) verb.Page (by_letter (slice_get name 1)))
  where
    is_page : Option ℕ → Bool
    is_page None = false
    is_page (Some x) = x == 103

    by_letter : Option ℕ → Verb
    by_letter None = verb.Check
    by_letter (Some x) = cond (x == 104) verb.Check (cond (x == 99) verb.Scale (cond (x == 114) verb.Greedy (cond (x == 97) verb.Gain (cond (x == 112) verb.Speedup verb.Sites))))

named_by : (m : Verb) → named (command_name m) ≡ m
named_by verb.Check = refl
named_by verb.Run = refl
named_by verb.Scale = refl
named_by verb.Sites = refl
named_by verb.Gain = refl
named_by verb.Greedy = refl
named_by verb.Speedup = refl
named_by verb.Page = refl

same_verb : (m m' : Verb) → command_name m ≡ command_name m' → m ≡ m'
same_verb m m' e = sym (named_by m) ∙ ap named e ∙ named_by m'

words_are : (a b : Words) → a.verb ≡ b.verb → a.file ≡ b.file → a.args ≡ b.args → a.numbers ≡ b.numbers → a.edges ≡ b.edges → a.table ≡ b.table → a ≡ b
words_are a b m f xs ns es ts =
    ap (λ x. record a { verb = x }) m ∙ ap (λ x. record a { verb = b.verb; file = x }) f
    ∙ ap (λ x. record a { verb = b.verb; file = b.file; args = x }) xs
    ∙ ap (λ x. record b { numbers = x; edges = a.edges; table = a.table }) ns ∙ ap (λ x. record b { edges = x; table = a.table }) es
    ∙ ap (λ x. record b { table = x }) ts

pub read_once : (given : List Text) (words words' : Words) → AreRead given words → AreRead given words' → words ≡ words'
read_once given words words' h k =
    let same = same_rows given words.verb words'.verb h.rows k.rows h.command k.command in
    words_are words words'
    (same_verb words.verb words'.verb (ap name_in (sym h.command.1 ∙ k.command.1)))
    (ap (λ o. unwrap_or o []) (sym h.file_is ∙ ap (first_of (codes "FILE")) same ∙ k.file_is))
    (sym h.args_are ∙ ap (λ rows. texts_of rows (codes "ARGS")) same ∙ k.args_are)
    (sym h.numbers_are ∙ ap numbers_of same ∙ k.numbers_are)
    (sym h.edges_are ∙ ap edges_text same ∙ k.edges_are)
    (sym h.table_is ∙ ap asks_table same ∙ k.table_is)
