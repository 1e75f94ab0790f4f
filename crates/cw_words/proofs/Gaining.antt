-- The traversal of the words after `gain` that do not begin with a hyphen.
use Rattle.std.proofs.Common.{◌≡◌, ◌∙◌, ◌<◌, ◌^◌, ◌++◌, ap, ap₂, sym, refl, arith, false, List, [], ◌∷◌, length, Option, Some, None, codes}
use Rattle.std.specs.List.{All, fold}
use Rattle.std.proofs.lemmas.List.{append-nil, append_assoc}
use Rattle.clap.specs.Kinds.{or_else}
use Rattle.clap.specs.Walk.{Held, Row, Text, Walk, idle, positional, option, walked, walk_from, nothing_held, settled, finished}
use Rattle.clap.specs.Faults.{turn_fault, walk_fault, defaults_fault}
use Rattle.clap.proofs.OnLiterals.{clap_on_literals}
use Rattle.cw_words.specs.Command.{burden_row, top_row}
use Rattle.cw_words.specs.Requests.{AreRead, HaveCommand}
use Rattle.cw_words.specs.WordLaws.{IsPlain, gaining}
use Rattle.cw_words.specs.declared.verb.Verb.TheVariants as verb
use Rattle.cw_words.proofs.Reading.{at, held, gain, step, turn, all_rest, level, command_level, range_fits, values_accepted, command_faults, command_rows}

-- the arguments before the source: the number of functions, if it is given
abbrev before : Option Text → Held
before None = held [] None
before (Some n) = held [] (Some (codes "top", n ∷ []))

abbrev rows_before : Option Text → List Row
rows_before g = (settled gain.rules (before g)).rows

abbrev source_met : Option Text → (file : Text) → Walk
source_met g file = at idle 2 (held (rows_before g) (Some (codes "FILE", file ∷ [])))

abbrev rows_with : Option Text → (file : Text) → List Row
rows_with g file = (settled gain.rules (source_met g file).held).rows

abbrev args_met : Option Text → (file v : Text) → List Text → Walk
args_met g file v vs = at positional 2 (held (rows_with g file) (Some (codes "ARGS", v ∷ vs)))

-- ---- one word

source_step : (g : Option Text) (file : Text) → IsPlain file → walked gain.rules [] (at idle 1 (before g)) file ≡ source_met g file
source_step None file plain = step gain.rules idle 1 file (before None) refl plain
source_step (Some n) file plain = step gain.rules idle 1 file (before (Some n)) refl plain

source_turn : (g : Option Text) (file : Text) → IsPlain file → turn_fault gain [] (at idle 1 (before g)) file ≡ []
source_turn None file plain = turn gain idle 1 file (before None) refl plain
source_turn (Some n) file plain = turn gain idle 1 file (before (Some n)) refl plain

first_step : (g : Option Text) (file v : Text) → IsPlain v → walked gain.rules [] (source_met g file) v ≡ args_met g file v []
first_step g file v plain = step gain.rules idle 2 v (source_met g file).held refl plain

first_turn : (g : Option Text) (file v : Text) → IsPlain v → turn_fault gain [] (source_met g file) v ≡ []
first_turn None file v plain = turn gain idle 2 v (source_met None file).held refl plain
first_turn (Some n) file v plain = turn gain idle 2 v (source_met (Some n) file).held refl plain

next_step : (g : Option Text) (file v : Text) (vs : List Text) (word : Text) → IsPlain word → walked gain.rules [] (args_met g file v vs) word ≡ args_met g file v (vs ++ word ∷ [])
next_step g file v vs word plain = step gain.rules positional 2 word (args_met g file v vs).held refl plain

next_turn : (g : Option Text) (file v : Text) (vs : List Text) (word : Text) → IsPlain word → turn_fault gain [] (args_met g file v vs) word ≡ []
next_turn g file v vs word plain = turn gain positional 2 word (args_met g file v vs).held refl plain

-- ---- the words after the source

rest_walk : (g : Option Text) (file v : Text) (vs rest : List Text) → All IsPlain rest → fold (walked gain.rules []) (args_met g file v vs) rest ≡ args_met g file v (vs ++ rest)
rest_walk g file v vs [] plain = ap (args_met g file v) (sym (append-nil vs))
rest_walk g file v vs (word ∷ rest) plain =
    ap (λ w. fold (walked gain.rules []) w rest) (next_step g file v vs word (plain 0 word (omega arith)))
    ∙ rest_walk g file v (vs ++ word ∷ []) rest (all_rest word rest plain) ∙ ap (args_met g file v) (append_assoc vs (word ∷ []) rest)

rest_fault : (g : Option Text) (file v : Text) (vs rest : List Text) → All IsPlain rest → walk_fault gain [] (args_met g file v vs) rest ≡ []
unfolding walk_fault
rest_fault g file v vs [] plain = refl
rest_fault g file v vs (word ∷ rest) plain =
    ap₂ (λ k w. or_else k (walk_fault gain [] w rest)) (next_turn g file v vs word (plain 0 word (omega arith))) (next_step g file v vs word (plain 0 word (omega arith)))
    ∙ rest_fault g file v (vs ++ word ∷ []) rest (all_rest word rest plain)

-- the end of the traversal
abbrev end : Option Text → (file : Text) → List Text → Walk
end g file [] = source_met g file
end g file (v ∷ vs) = args_met g file v vs

args_walk : (g : Option Text) (file : Text) (args : List Text) → All IsPlain args → fold (walked gain.rules []) (source_met g file) args ≡ end g file args
args_walk g file [] plain = refl
args_walk g file (v ∷ vs) plain = ap (λ w. fold (walked gain.rules []) w vs) (first_step g file v (plain 0 v (omega arith))) ∙ rest_walk g file v [] vs (all_rest v vs plain)

args_fault : (g : Option Text) (file : Text) (args : List Text) → All IsPlain args → walk_fault gain [] (source_met g file) args ≡ []
unfolding walk_fault
args_fault g file [] plain = refl
args_fault g file (v ∷ vs) plain =
    ap₂ (λ k w. or_else k (walk_fault gain [] w vs)) (first_turn g file v (plain 0 v (omega arith))) (first_step g file v (plain 0 v (omega arith)))
    ∙ rest_fault g file v [] vs (all_rest v vs plain)

begun_walk : (g : Option Text) (file : Text) (args : List Text) → IsPlain file → All IsPlain args → fold (walked gain.rules []) (at idle 1 (before g)) (file ∷ args) ≡ end g file args
begun_walk g file args plain plains = ap (λ w. fold (walked gain.rules []) w args) (source_step g file plain) ∙ args_walk g file args plains

begun_fault : (g : Option Text) (file : Text) (args : List Text) → IsPlain file → All IsPlain args → walk_fault gain [] (at idle 1 (before g)) (file ∷ args) ≡ []
unfolding walk_fault
begun_fault g file args plain plains =
    ap₂ (λ k w. or_else k (walk_fault gain [] w args)) (source_turn g file plain) (source_step g file plain) ∙ args_fault g file args plains

-- ---- the number of functions, before the source

abbrev top_words : Option Text → List Text
top_words None = []
top_words (Some n) = codes "--top" ∷ n ∷ []

abbrev IsPlainTop : Option Text → Type 0
IsPlainTop None = Unit {0}
IsPlainTop (Some n) = IsPlain n

-- between the name of the option and its value
abbrev waiting : Walk
waiting = at (option (codes "top")) 1 (held [] (Some (codes "top", [])))

top_step : walked gain.rules [] (walk_from nothing_held) (codes "--top") ≡ waiting
unfolding clap_on_literals
top_step = refl

top_turn : turn_fault gain [] (walk_from nothing_held) (codes "--top") ≡ []
unfolding clap_on_literals
top_turn = refl

value_step : (n : Text) → IsPlain n → walked gain.rules [] waiting n ≡ at idle 1 (before (Some n))
value_step n plain = step gain.rules (option (codes "top")) 1 n waiting.held refl plain

value_turn : (n : Text) → IsPlain n → turn_fault gain [] waiting n ≡ []
value_turn n plain = turn gain (option (codes "top")) 1 n waiting.held refl plain

words_walk : (g : Option Text) (file : Text) (args : List Text) → IsPlainTop g → IsPlain file → All IsPlain args
    → fold (walked gain.rules []) (walk_from nothing_held) (top_words g ++ file ∷ args) ≡ end g file args
words_walk None file args given plain plains = begun_walk None file args plain plains
words_walk (Some n) file args given plain plains =
    ap (λ w. fold (walked gain.rules []) w (n ∷ file ∷ args)) top_step
    ∙ ap (λ w. fold (walked gain.rules []) w (file ∷ args)) (value_step n given) ∙ begun_walk (Some n) file args plain plains

words_fault : (g : Option Text) (file : Text) (args : List Text) → IsPlainTop g → IsPlain file → All IsPlain args
    → walk_fault gain [] (walk_from nothing_held) (top_words g ++ file ∷ args) ≡ []
unfolding walk_fault
words_fault None file args given plain plains = begun_fault None file args plain plains
words_fault (Some n) file args given plain plains =
    ap₂ (λ k w. or_else k (walk_fault gain [] w (n ∷ file ∷ args))) top_turn top_step
    ∙ ap₂ (λ k w. or_else k (walk_fault gain [] w (file ∷ args))) (value_turn n given) (value_step n given)
    ∙ begun_fault (Some n) file args plain plains

-- ---- the checks after the words

end_level : (g : Option Text) (file : Text) (args : List Text) → length args < 2 ^ 64 → command_level gain (end g file args) [] ≡ []
unfolding defaults_fault
end_level None file [] lt = refl
end_level (Some n) file [] lt = refl
end_level None file (v ∷ vs) lt = ap (level gain (end None file (v ∷ vs)) false [] []) (ap₂ or_else (range_fits (length (v ∷ vs)) lt) (values_accepted false (v ∷ vs)))
end_level (Some n) file (v ∷ vs) lt = ap (level gain (end (Some n) file (v ∷ vs)) false [] []) (ap₂ or_else (range_fits (length (v ∷ vs)) lt) (values_accepted false (v ∷ vs)))

-- ---- the meaning of the words

abbrev top_given : Option Text → Text
top_given None = top_row.usual
top_given (Some n) = n

end_rows : (words : List Text) (g : Option Text) (file : Text) (args : List Text) → HaveCommand words verb.Gain (finished gain.rules (end g file args).held)
    → AreRead words (gaining file args (top_given g) burden_row.usual)
end_rows words None file [] h = record { rows = _; command = h; file_is = refl; args_are = refl; numbers_are = refl; edges_are = refl; table_is = refl }
end_rows words None file (v ∷ vs) h = record { rows = _; command = h; file_is = refl; args_are = refl; numbers_are = refl; edges_are = refl; table_is = refl }
end_rows words (Some n) file [] h = record { rows = _; command = h; file_is = refl; args_are = refl; numbers_are = refl; edges_are = refl; table_is = refl }
end_rows words (Some n) file (v ∷ vs) h = record { rows = _; command = h; file_is = refl; args_are = refl; numbers_are = refl; edges_are = refl; table_is = refl }

pub is_gaining : (g : Option Text) (file : Text) (args : List Text) → IsPlainTop g → IsPlain file → All IsPlain args → length args < 2 ^ 64
    → AreRead (codes "gain" ∷ top_words g ++ file ∷ args) (gaining file args (top_given g) burden_row.usual)
is_gaining g file args given plain plains few =
    let rest = top_words g ++ file ∷ args in
    let walked_is = words_walk g file args given plain plains in
    let none = ap₂ (command_level gain) walked_is (words_fault g file args given plain plains) ∙ end_level g file args few in
    end_rows (codes "gain" ∷ rest) g file args (
      command_faults verb.Gain rest none,
      command_rows verb.Gain rest ∙ ap (λ w. Some (codes "gain", finished gain.rules w.held)) walked_is,
    )
