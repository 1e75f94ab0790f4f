-- The walk over the words after `speedup` that start with no hyphen.
use Rattle.std.proofs.Common.{◌≡◌, ◌∙◌, ◌<◌, ◌^◌, ◌++◌, ap, ap₂, sym, refl, arith, false, List, [], ◌∷◌, length, Option, Some, None, codes}
use Rattle.std.specs.List.{All, fold}
use Rattle.std.proofs.lemmas.List.{append-nil, append_assoc}
use Rattle.clap.specs.Kinds.{or_else}
use Rattle.clap.specs.Walk.{Held, Row, Text, Walk, idle, positional, option, walked, walk_from, nothing_held, settled, finished}
use Rattle.clap.specs.Faults.{turn_fault, walk_fault, defaults_fault}
use Rattle.clap.proofs.OnLiterals.{clap_on_literals}
use Rattle.cw_words.specs.Command.{burden_row, up_to_row}
use Rattle.cw_words.specs.Requests.{AreRead, HaveCommand}
use Rattle.cw_words.specs.WordLaws.{IsPlain, speeding}
use Rattle.cw_words.specs.declared.verb.Verb.TheVariants as verb
use Rattle.cw_words.proofs.Reading.{at, held, speedup, step, turn, all_rest, level, command_level, range_fits, values_accepted, command_faults, command_rows}

-- what is held before the source: the processors, where they are given
abbrev before : Option Text → Held
before None = held [] None
before (Some n) = held [] (Some (codes "processors", n ∷ []))

abbrev rows_before : Option Text → List Row
rows_before g = (settled speedup.rules (before g)).rows

abbrev source_met : Option Text → (file : Text) → Walk
source_met g file = at idle 2 (held (rows_before g) (Some (codes "FILE", file ∷ [])))

abbrev rows_with : Option Text → (file : Text) → List Row
rows_with g file = (settled speedup.rules (source_met g file).held).rows

abbrev args_met : Option Text → (file v : Text) → List Text → Walk
args_met g file v vs = at positional 2 (held (rows_with g file) (Some (codes "ARGS", v ∷ vs)))

-- ---- one word

source_step : (g : Option Text) (file : Text) → IsPlain file → walked speedup.rules [] (at idle 1 (before g)) file ≡ source_met g file
source_step None file plain = step speedup.rules idle 1 file (before None) refl plain
source_step (Some n) file plain = step speedup.rules idle 1 file (before (Some n)) refl plain

source_turn : (g : Option Text) (file : Text) → IsPlain file → turn_fault speedup [] (at idle 1 (before g)) file ≡ []
source_turn None file plain = turn speedup idle 1 file (before None) refl plain
source_turn (Some n) file plain = turn speedup idle 1 file (before (Some n)) refl plain

first_step : (g : Option Text) (file v : Text) → IsPlain v → walked speedup.rules [] (source_met g file) v ≡ args_met g file v []
first_step g file v plain = step speedup.rules idle 2 v (source_met g file).held refl plain

first_turn : (g : Option Text) (file v : Text) → IsPlain v → turn_fault speedup [] (source_met g file) v ≡ []
first_turn None file v plain = turn speedup idle 2 v (source_met None file).held refl plain
first_turn (Some n) file v plain = turn speedup idle 2 v (source_met (Some n) file).held refl plain

next_step : (g : Option Text) (file v : Text) (vs : List Text) (word : Text) → IsPlain word → walked speedup.rules [] (args_met g file v vs) word ≡ args_met g file v (vs ++ word ∷ [])
next_step g file v vs word plain = step speedup.rules positional 2 word (args_met g file v vs).held refl plain

next_turn : (g : Option Text) (file v : Text) (vs : List Text) (word : Text) → IsPlain word → turn_fault speedup [] (args_met g file v vs) word ≡ []
next_turn g file v vs word plain = turn speedup positional 2 word (args_met g file v vs).held refl plain

-- ---- the words after the source

rest_walk : (g : Option Text) (file v : Text) (vs rest : List Text) → All IsPlain rest → fold (walked speedup.rules []) (args_met g file v vs) rest ≡ args_met g file v (vs ++ rest)
rest_walk g file v vs [] plain = ap (args_met g file v) (sym (append-nil vs))
rest_walk g file v vs (word ∷ rest) plain =
    ap (λ w. fold (walked speedup.rules []) w rest) (next_step g file v vs word (plain 0 word (omega arith)))
    ∙ rest_walk g file v (vs ++ word ∷ []) rest (all_rest word rest plain) ∙ ap (args_met g file v) (append_assoc vs (word ∷ []) rest)

rest_fault : (g : Option Text) (file v : Text) (vs rest : List Text) → All IsPlain rest → walk_fault speedup [] (args_met g file v vs) rest ≡ []
unfolding walk_fault
rest_fault g file v vs [] plain = refl
rest_fault g file v vs (word ∷ rest) plain =
    ap₂ (λ k w. or_else k (walk_fault speedup [] w rest)) (next_turn g file v vs word (plain 0 word (omega arith))) (next_step g file v vs word (plain 0 word (omega arith)))
    ∙ rest_fault g file v (vs ++ word ∷ []) rest (all_rest word rest plain)

-- the walk's end
abbrev end : Option Text → (file : Text) → List Text → Walk
end g file [] = source_met g file
end g file (v ∷ vs) = args_met g file v vs

args_walk : (g : Option Text) (file : Text) (args : List Text) → All IsPlain args → fold (walked speedup.rules []) (source_met g file) args ≡ end g file args
args_walk g file [] plain = refl
args_walk g file (v ∷ vs) plain = ap (λ w. fold (walked speedup.rules []) w vs) (first_step g file v (plain 0 v (omega arith))) ∙ rest_walk g file v [] vs (all_rest v vs plain)

args_fault : (g : Option Text) (file : Text) (args : List Text) → All IsPlain args → walk_fault speedup [] (source_met g file) args ≡ []
unfolding walk_fault
args_fault g file [] plain = refl
args_fault g file (v ∷ vs) plain =
    ap₂ (λ k w. or_else k (walk_fault speedup [] w vs)) (first_turn g file v (plain 0 v (omega arith))) (first_step g file v (plain 0 v (omega arith)))
    ∙ rest_fault g file v [] vs (all_rest v vs plain)

begun_walk : (g : Option Text) (file : Text) (args : List Text) → IsPlain file → All IsPlain args → fold (walked speedup.rules []) (at idle 1 (before g)) (file ∷ args) ≡ end g file args
begun_walk g file args plain plains = ap (λ w. fold (walked speedup.rules []) w args) (source_step g file plain) ∙ args_walk g file args plains

begun_fault : (g : Option Text) (file : Text) (args : List Text) → IsPlain file → All IsPlain args → walk_fault speedup [] (at idle 1 (before g)) (file ∷ args) ≡ []
unfolding walk_fault
begun_fault g file args plain plains =
    ap₂ (λ k w. or_else k (walk_fault speedup [] w args)) (source_turn g file plain) (source_step g file plain) ∙ args_fault g file args plains

-- ---- processors before the source

abbrev processors_words : Option Text → List Text
processors_words None = []
processors_words (Some n) = codes "--processors" ∷ n ∷ []

abbrev ArePlainProcessors : Option Text → Type 0
ArePlainProcessors None = Unit {0}
ArePlainProcessors (Some n) = IsPlain n

-- between the name of the option and its value
abbrev waiting : Walk
waiting = at (option (codes "processors")) 1 (held [] (Some (codes "processors", [])))

processors_step : walked speedup.rules [] (walk_from nothing_held) (codes "--processors") ≡ waiting
unfolding clap_on_literals
processors_step = refl

processors_turn : turn_fault speedup [] (walk_from nothing_held) (codes "--processors") ≡ []
unfolding clap_on_literals
processors_turn = refl

value_step : (n : Text) → IsPlain n → walked speedup.rules [] waiting n ≡ at idle 1 (before (Some n))
value_step n plain = step speedup.rules (option (codes "processors")) 1 n waiting.held refl plain

value_turn : (n : Text) → IsPlain n → turn_fault speedup [] waiting n ≡ []
value_turn n plain = turn speedup (option (codes "processors")) 1 n waiting.held refl plain

words_walk : (g : Option Text) (file : Text) (args : List Text) → ArePlainProcessors g → IsPlain file → All IsPlain args
    → fold (walked speedup.rules []) (walk_from nothing_held) (processors_words g ++ file ∷ args) ≡ end g file args
words_walk None file args given plain plains = begun_walk None file args plain plains
words_walk (Some n) file args given plain plains =
    ap (λ w. fold (walked speedup.rules []) w (n ∷ file ∷ args)) processors_step
    ∙ ap (λ w. fold (walked speedup.rules []) w (file ∷ args)) (value_step n given) ∙ begun_walk (Some n) file args plain plains

words_fault : (g : Option Text) (file : Text) (args : List Text) → ArePlainProcessors g → IsPlain file → All IsPlain args
    → walk_fault speedup [] (walk_from nothing_held) (processors_words g ++ file ∷ args) ≡ []
unfolding walk_fault
words_fault None file args given plain plains = begun_fault None file args plain plains
words_fault (Some n) file args given plain plains =
    ap₂ (λ k w. or_else k (walk_fault speedup [] w (n ∷ file ∷ args))) processors_turn processors_step
    ∙ ap₂ (λ k w. or_else k (walk_fault speedup [] w (file ∷ args))) (value_turn n given) (value_step n given)
    ∙ begun_fault (Some n) file args plain plains

-- ---- the checks after the words

end_level : (g : Option Text) (file : Text) (args : List Text) → length args < 2 ^ 64 → command_level speedup (end g file args) [] ≡ []
unfolding defaults_fault
end_level None file [] lt = refl
end_level (Some n) file [] lt = refl
end_level None file (v ∷ vs) lt = ap (level speedup (end None file (v ∷ vs)) false [] []) (ap₂ or_else (range_fits (length (v ∷ vs)) lt) (values_accepted false (v ∷ vs)))
end_level (Some n) file (v ∷ vs) lt = ap (level speedup (end (Some n) file (v ∷ vs)) false [] []) (ap₂ or_else (range_fits (length (v ∷ vs)) lt) (values_accepted false (v ∷ vs)))

-- ---- what the words are read as

abbrev processors_given : Option Text → Text
processors_given None = up_to_row.usual
processors_given (Some n) = n

end_rows : (words : List Text) (g : Option Text) (file : Text) (args : List Text) → HaveCommand words verb.Speedup (finished speedup.rules (end g file args).held)
    → AreRead words (speeding file args (processors_given g) burden_row.usual)
end_rows words None file [] h = record { rows = _; command = h; file_is = refl; args_are = refl; numbers_are = refl; edges_are = refl; table_is = refl }
end_rows words None file (v ∷ vs) h = record { rows = _; command = h; file_is = refl; args_are = refl; numbers_are = refl; edges_are = refl; table_is = refl }
end_rows words (Some n) file [] h = record { rows = _; command = h; file_is = refl; args_are = refl; numbers_are = refl; edges_are = refl; table_is = refl }
end_rows words (Some n) file (v ∷ vs) h = record { rows = _; command = h; file_is = refl; args_are = refl; numbers_are = refl; edges_are = refl; table_is = refl }

pub is_speeding : (g : Option Text) (file : Text) (args : List Text) → ArePlainProcessors g → IsPlain file → All IsPlain args → length args < 2 ^ 64
    → AreRead (codes "speedup" ∷ processors_words g ++ file ∷ args) (speeding file args (processors_given g) burden_row.usual)
is_speeding g file args given plain plains few =
    let rest = processors_words g ++ file ∷ args in
    let walked_is = words_walk g file args given plain plains in
    let none = ap₂ (command_level speedup) walked_is (words_fault g file args given plain plains) ∙ end_level g file args few in
    end_rows (codes "speedup" ∷ rest) g file args (
      command_faults verb.Speedup rest none,
      command_rows verb.Speedup rest ∙ ap (λ w. Some (codes "speedup", finished speedup.rules w.held)) walked_is,
    )
