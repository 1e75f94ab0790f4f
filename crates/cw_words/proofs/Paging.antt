-- The traversal of the words after `page` that start with no hyphen.
use Rattle.std.proofs.Common.{◌≡◌, ◌∙◌, ◌<◌, ◌^◌, ◌++◌, ap, ap₂, sym, refl, arith, false, List, [], ◌∷◌, length, Option, Some, None, codes}
use Rattle.std.specs.List.{All, fold}
use Rattle.std.proofs.lemmas.List.{append-nil, append_assoc}
use Rattle.clap.specs.Kinds.{or_else}
use Rattle.clap.specs.Walk.{Held, Row, Text, Walk, idle, positional, option, walked, walk_from, nothing_held, settled, finished}
use Rattle.clap.specs.Faults.{turn_fault, walk_fault, defaults_fault}
use Rattle.clap.proofs.OnLiterals.{clap_on_literals}
use Rattle.cw_words.specs.Command.{burden_row, top_row, up_to_row}
use Rattle.cw_words.specs.Requests.{AreRead, HaveCommand}
use Rattle.cw_words.specs.WordLaws.{IsPlain, paging}
use Rattle.cw_words.specs.declared.verb.Verb.TheVariants as verb
use Rattle.cw_words.proofs.Reading.{at, held, page, step, turn, all_rest, level, command_level, range_fits, values_accepted, command_faults, command_rows}

-- the number before the source: none, a number of functions or of processors
pub data Given : Type 0 where
  none : Given
  topped : Text → Given
  up_to : Text → Given

abbrev before : Given → Held
before none = held [] None
before (topped n) = held [] (Some (codes "top", n ∷ []))
before (up_to n) = held [] (Some (codes "processors", n ∷ []))

abbrev rows_before : Given → List Row
rows_before g = (settled page.rules (before g)).rows

abbrev source_met : Given → (file : Text) → Walk
source_met g file = at idle 2 (held (rows_before g) (Some (codes "FILE", file ∷ [])))

abbrev rows_with : Given → (file : Text) → List Row
rows_with g file = (settled page.rules (source_met g file).held).rows

abbrev args_met : Given → (file v : Text) → List Text → Walk
args_met g file v vs = at positional 2 (held (rows_with g file) (Some (codes "ARGS", v ∷ vs)))

-- ---- one word

source_step : (g : Given) (file : Text) → IsPlain file → walked page.rules [] (at idle 1 (before g)) file ≡ source_met g file
source_step none file plain = step page.rules idle 1 file (before none) refl plain
source_step (topped n) file plain = step page.rules idle 1 file (before (topped n)) refl plain
source_step (up_to n) file plain = step page.rules idle 1 file (before (up_to n)) refl plain

source_turn : (g : Given) (file : Text) → IsPlain file → turn_fault page [] (at idle 1 (before g)) file ≡ []
source_turn none file plain = turn page idle 1 file (before none) refl plain
source_turn (topped n) file plain = turn page idle 1 file (before (topped n)) refl plain
source_turn (up_to n) file plain = turn page idle 1 file (before (up_to n)) refl plain

first_step : (g : Given) (file v : Text) → IsPlain v → walked page.rules [] (source_met g file) v ≡ args_met g file v []
first_step g file v plain = step page.rules idle 2 v (source_met g file).held refl plain

first_turn : (g : Given) (file v : Text) → IsPlain v → turn_fault page [] (source_met g file) v ≡ []
first_turn none file v plain = turn page idle 2 v (source_met none file).held refl plain
first_turn (topped n) file v plain = turn page idle 2 v (source_met (topped n) file).held refl plain
first_turn (up_to n) file v plain = turn page idle 2 v (source_met (up_to n) file).held refl plain

next_step : (g : Given) (file v : Text) (vs : List Text) (word : Text) → IsPlain word → walked page.rules [] (args_met g file v vs) word ≡ args_met g file v (vs ++ word ∷ [])
next_step g file v vs word plain = step page.rules positional 2 word (args_met g file v vs).held refl plain

next_turn : (g : Given) (file v : Text) (vs : List Text) (word : Text) → IsPlain word → turn_fault page [] (args_met g file v vs) word ≡ []
next_turn g file v vs word plain = turn page positional 2 word (args_met g file v vs).held refl plain

-- ---- the words after the source

rest_walk : (g : Given) (file v : Text) (vs rest : List Text) → All IsPlain rest → fold (walked page.rules []) (args_met g file v vs) rest ≡ args_met g file v (vs ++ rest)
rest_walk g file v vs [] plain = ap (args_met g file v) (sym (append-nil vs))
rest_walk g file v vs (word ∷ rest) plain =
    ap (λ w. fold (walked page.rules []) w rest) (next_step g file v vs word (plain 0 word (omega arith)))
    ∙ rest_walk g file v (vs ++ word ∷ []) rest (all_rest word rest plain) ∙ ap (args_met g file v) (append_assoc vs (word ∷ []) rest)

rest_fault : (g : Given) (file v : Text) (vs rest : List Text) → All IsPlain rest → walk_fault page [] (args_met g file v vs) rest ≡ []
unfolding walk_fault
rest_fault g file v vs [] plain = refl
rest_fault g file v vs (word ∷ rest) plain =
    ap₂ (λ k w. or_else k (walk_fault page [] w rest)) (next_turn g file v vs word (plain 0 word (omega arith))) (next_step g file v vs word (plain 0 word (omega arith)))
    ∙ rest_fault g file v (vs ++ word ∷ []) rest (all_rest word rest plain)

-- the walk's end
abbrev end : Given → (file : Text) → List Text → Walk
end g file [] = source_met g file
end g file (v ∷ vs) = args_met g file v vs

args_walk : (g : Given) (file : Text) (args : List Text) → All IsPlain args → fold (walked page.rules []) (source_met g file) args ≡ end g file args
args_walk g file [] plain = refl
args_walk g file (v ∷ vs) plain = ap (λ w. fold (walked page.rules []) w vs) (first_step g file v (plain 0 v (omega arith))) ∙ rest_walk g file v [] vs (all_rest v vs plain)

args_fault : (g : Given) (file : Text) (args : List Text) → All IsPlain args → walk_fault page [] (source_met g file) args ≡ []
unfolding walk_fault
args_fault g file [] plain = refl
args_fault g file (v ∷ vs) plain =
    ap₂ (λ k w. or_else k (walk_fault page [] w vs)) (first_turn g file v (plain 0 v (omega arith))) (first_step g file v (plain 0 v (omega arith)))
    ∙ rest_fault g file v [] vs (all_rest v vs plain)

begun_walk : (g : Given) (file : Text) (args : List Text) → IsPlain file → All IsPlain args → fold (walked page.rules []) (at idle 1 (before g)) (file ∷ args) ≡ end g file args
begun_walk g file args plain plains = ap (λ w. fold (walked page.rules []) w args) (source_step g file plain) ∙ args_walk g file args plains

begun_fault : (g : Given) (file : Text) (args : List Text) → IsPlain file → All IsPlain args → walk_fault page [] (at idle 1 (before g)) (file ∷ args) ≡ []
unfolding walk_fault
begun_fault g file args plain plains =
    ap₂ (λ k w. or_else k (walk_fault page [] w args)) (source_turn g file plain) (source_step g file plain) ∙ args_fault g file args plains

-- ---- a number before the source

abbrev number_words : Given → List Text
number_words none = []
number_words (topped n) = codes "--top" ∷ n ∷ []
number_words (up_to n) = codes "--processors" ∷ n ∷ []

abbrev IsPlainGiven : Given → Type 0
IsPlainGiven none = Unit {0}
IsPlainGiven (topped n) = IsPlain n
IsPlainGiven (up_to n) = IsPlain n

-- between the name of the option and its value
abbrev waiting : Text → Walk
waiting id = at (option id) 1 (held [] (Some (id, [])))

top_step : walked page.rules [] (walk_from nothing_held) (codes "--top") ≡ waiting (codes "top")
unfolding clap_on_literals
top_step = refl

top_turn : turn_fault page [] (walk_from nothing_held) (codes "--top") ≡ []
unfolding clap_on_literals
top_turn = refl

top_value_step : (n : Text) → IsPlain n → walked page.rules [] (waiting (codes "top")) n ≡ at idle 1 (before (topped n))
top_value_step n plain = step page.rules (option (codes "top")) 1 n (waiting (codes "top")).held refl plain

top_value_turn : (n : Text) → IsPlain n → turn_fault page [] (waiting (codes "top")) n ≡ []
top_value_turn n plain = turn page (option (codes "top")) 1 n (waiting (codes "top")).held refl plain

processors_step : walked page.rules [] (walk_from nothing_held) (codes "--processors") ≡ waiting (codes "processors")
unfolding clap_on_literals
processors_step = refl

processors_turn : turn_fault page [] (walk_from nothing_held) (codes "--processors") ≡ []
unfolding clap_on_literals
processors_turn = refl

processors_value_step : (n : Text) → IsPlain n → walked page.rules [] (waiting (codes "processors")) n ≡ at idle 1 (before (up_to n))
processors_value_step n plain = step page.rules (option (codes "processors")) 1 n (waiting (codes "processors")).held refl plain

processors_value_turn : (n : Text) → IsPlain n → turn_fault page [] (waiting (codes "processors")) n ≡ []
processors_value_turn n plain = turn page (option (codes "processors")) 1 n (waiting (codes "processors")).held refl plain

words_walk : (g : Given) (file : Text) (args : List Text) → IsPlainGiven g → IsPlain file → All IsPlain args
    → fold (walked page.rules []) (walk_from nothing_held) (number_words g ++ file ∷ args) ≡ end g file args
words_walk none file args given plain plains = begun_walk none file args plain plains
words_walk (topped n) file args given plain plains =
    ap (λ w. fold (walked page.rules []) w (n ∷ file ∷ args)) top_step
    ∙ ap (λ w. fold (walked page.rules []) w (file ∷ args)) (top_value_step n given) ∙ begun_walk (topped n) file args plain plains
words_walk (up_to n) file args given plain plains =
    ap (λ w. fold (walked page.rules []) w (n ∷ file ∷ args)) processors_step
    ∙ ap (λ w. fold (walked page.rules []) w (file ∷ args)) (processors_value_step n given) ∙ begun_walk (up_to n) file args plain plains

words_fault : (g : Given) (file : Text) (args : List Text) → IsPlainGiven g → IsPlain file → All IsPlain args
    → walk_fault page [] (walk_from nothing_held) (number_words g ++ file ∷ args) ≡ []
unfolding walk_fault
words_fault none file args given plain plains = begun_fault none file args plain plains
words_fault (topped n) file args given plain plains =
    ap₂ (λ k w. or_else k (walk_fault page [] w (n ∷ file ∷ args))) top_turn top_step
    ∙ ap₂ (λ k w. or_else k (walk_fault page [] w (file ∷ args))) (top_value_turn n given) (top_value_step n given)
    ∙ begun_fault (topped n) file args plain plains
words_fault (up_to n) file args given plain plains =
    ap₂ (λ k w. or_else k (walk_fault page [] w (n ∷ file ∷ args))) processors_turn processors_step
    ∙ ap₂ (λ k w. or_else k (walk_fault page [] w (file ∷ args))) (processors_value_turn n given) (processors_value_step n given)
    ∙ begun_fault (up_to n) file args plain plains

-- ---- the checks after the words

end_level : (g : Given) (file : Text) (args : List Text) → length args < 2 ^ 64 → command_level page (end g file args) [] ≡ []
unfolding defaults_fault
end_level none file [] lt = refl
end_level (topped n) file [] lt = refl
end_level (up_to n) file [] lt = refl
end_level none file (v ∷ vs) lt = ap (level page (end none file (v ∷ vs)) false [] []) (ap₂ or_else (range_fits (length (v ∷ vs)) lt) (values_accepted false (v ∷ vs)))
end_level (topped n) file (v ∷ vs) lt = ap (level page (end (topped n) file (v ∷ vs)) false [] []) (ap₂ or_else (range_fits (length (v ∷ vs)) lt) (values_accepted false (v ∷ vs)))
end_level (up_to n) file (v ∷ vs) lt = ap (level page (end (up_to n) file (v ∷ vs)) false [] []) (ap₂ or_else (range_fits (length (v ∷ vs)) lt) (values_accepted false (v ∷ vs)))

-- ---- what the words are read as

abbrev up_to_given : Given → Text
up_to_given (up_to n) = n
up_to_given _ = up_to_row.usual

abbrev top_given : Given → Text
top_given (topped n) = n
top_given _ = top_row.usual

end_rows : (words : List Text) (g : Given) (file : Text) (args : List Text) → HaveCommand words verb.Page (finished page.rules (end g file args).held)
    → AreRead words (paging file args (up_to_given g) (top_given g) burden_row.usual)
end_rows words none file [] h = record { rows = _; command = h; file_is = refl; args_are = refl; numbers_are = refl; edges_are = refl; table_is = refl }
end_rows words none file (v ∷ vs) h = record { rows = _; command = h; file_is = refl; args_are = refl; numbers_are = refl; edges_are = refl; table_is = refl }
end_rows words (topped n) file [] h = record { rows = _; command = h; file_is = refl; args_are = refl; numbers_are = refl; edges_are = refl; table_is = refl }
end_rows words (up_to n) file [] h = record { rows = _; command = h; file_is = refl; args_are = refl; numbers_are = refl; edges_are = refl; table_is = refl }
end_rows words (topped n) file (v ∷ vs) h = record { rows = _; command = h; file_is = refl; args_are = refl; numbers_are = refl; edges_are = refl; table_is = refl }
end_rows words (up_to n) file (v ∷ vs) h = record { rows = _; command = h; file_is = refl; args_are = refl; numbers_are = refl; edges_are = refl; table_is = refl }

pub is_paged : (g : Given) (file : Text) (args : List Text) → IsPlainGiven g → IsPlain file → All IsPlain args → length args < 2 ^ 64
    → AreRead (codes "page" ∷ number_words g ++ file ∷ args) (paging file args (up_to_given g) (top_given g) burden_row.usual)
is_paged g file args given plain plains few =
    let rest = number_words g ++ file ∷ args in
    let walked_is = words_walk g file args given plain plains in
    let none = ap₂ (command_level page) walked_is (words_fault g file args given plain plains) ∙ end_level g file args few in
    end_rows (codes "page" ∷ rest) g file args (
      command_faults verb.Page rest none,
      command_rows verb.Page rest ∙ ap (λ w. Some (codes "page", finished page.rules w.held)) walked_is,
    )
