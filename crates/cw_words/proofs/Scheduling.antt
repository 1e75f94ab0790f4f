-- The traversal of the words after `greedy` that do not begin with a hyphen.
use Rattle.std.proofs.Common.{◌≡◌, ◌∙◌, ◌<◌, ◌^◌, ◌++◌, ap, ap₂, sym, refl, arith, false, List, [], ◌∷◌, length, Option, Some, None, codes}
use Rattle.std.specs.List.{All, fold}
use Rattle.std.proofs.lemmas.List.{append-nil, append_assoc}
use Rattle.clap.specs.Kinds.{or_else}
use Rattle.clap.specs.Walk.{Held, Row, Text, Walk, idle, positional, option, walked, walk_from, nothing_held, settled, finished}
use Rattle.clap.specs.Faults.{turn_fault, walk_fault, defaults_fault}
use Rattle.clap.proofs.OnLiterals.{clap_on_literals}
use Rattle.cw_words.specs.Command.{limit_row}
use Rattle.cw_words.specs.Requests.{AreRead, HaveCommand}
use Rattle.cw_words.specs.WordLaws.{IsPlain, scheduling}
use Rattle.cw_words.specs.declared.verb.Verb.TheVariants as verb
use Rattle.cw_words.proofs.Reading.{at, held, greedy, step, turn, all_rest, level, command_level, range_fits, values_accepted, command_faults, command_rows}

-- the arguments before the processors: a limit, if it is given
abbrev before : Option Text → Held
before None = held [] None
before (Some n) = held [] (Some (codes "limit", n ∷ []))

abbrev rows_before : Option Text → List Row
rows_before g = (settled greedy.rules (before g)).rows

abbrev processors_met : Option Text → Text → Walk
processors_met g p = at idle 2 (held (rows_before g) (Some (codes "P", p ∷ [])))

abbrev rows_between : Option Text → Text → List Row
rows_between g p = (settled greedy.rules (processors_met g p).held).rows

abbrev source_met : Option Text → (p file : Text) → Walk
source_met g p file = at idle 3 (held (rows_between g p) (Some (codes "FILE", file ∷ [])))

abbrev rows_with : Option Text → (p file : Text) → List Row
rows_with g p file = (settled greedy.rules (source_met g p file).held).rows

abbrev args_met : Option Text → (p file v : Text) → List Text → Walk
args_met g p file v vs = at positional 3 (held (rows_with g p file) (Some (codes "ARGS", v ∷ vs)))

-- ---- one word

processors_step : (g : Option Text) (p : Text) → IsPlain p → walked greedy.rules [] (at idle 1 (before g)) p ≡ processors_met g p
processors_step None p plain = step greedy.rules idle 1 p (before None) refl plain
processors_step (Some n) p plain = step greedy.rules idle 1 p (before (Some n)) refl plain

processors_turn : (g : Option Text) (p : Text) → IsPlain p → turn_fault greedy [] (at idle 1 (before g)) p ≡ []
processors_turn None p plain = turn greedy idle 1 p (before None) refl plain
processors_turn (Some n) p plain = turn greedy idle 1 p (before (Some n)) refl plain

source_step : (g : Option Text) (p file : Text) → IsPlain file → walked greedy.rules [] (processors_met g p) file ≡ source_met g p file
source_step g p file plain = step greedy.rules idle 2 file (processors_met g p).held refl plain

source_turn : (g : Option Text) (p file : Text) → IsPlain file → turn_fault greedy [] (processors_met g p) file ≡ []
source_turn None p file plain = turn greedy idle 2 file (processors_met None p).held refl plain
source_turn (Some n) p file plain = turn greedy idle 2 file (processors_met (Some n) p).held refl plain

first_step : (g : Option Text) (p file v : Text) → IsPlain v → walked greedy.rules [] (source_met g p file) v ≡ args_met g p file v []
first_step g p file v plain = step greedy.rules idle 3 v (source_met g p file).held refl plain

first_turn : (g : Option Text) (p file v : Text) → IsPlain v → turn_fault greedy [] (source_met g p file) v ≡ []
first_turn None p file v plain = turn greedy idle 3 v (source_met None p file).held refl plain
first_turn (Some n) p file v plain = turn greedy idle 3 v (source_met (Some n) p file).held refl plain

next_step : (g : Option Text) (p file v : Text) (vs : List Text) (word : Text) → IsPlain word → walked greedy.rules [] (args_met g p file v vs) word ≡ args_met g p file v (vs ++ word ∷ [])
next_step g p file v vs word plain = step greedy.rules positional 3 word (args_met g p file v vs).held refl plain

next_turn : (g : Option Text) (p file v : Text) (vs : List Text) (word : Text) → IsPlain word → turn_fault greedy [] (args_met g p file v vs) word ≡ []
next_turn g p file v vs word plain = turn greedy positional 3 word (args_met g p file v vs).held refl plain

-- ---- the words

rest_walk : (g : Option Text) (p file v : Text) (vs rest : List Text) → All IsPlain rest → fold (walked greedy.rules []) (args_met g p file v vs) rest ≡ args_met g p file v (vs ++ rest)
rest_walk g p file v vs [] plain = ap (args_met g p file v) (sym (append-nil vs))
rest_walk g p file v vs (word ∷ rest) plain =
    ap (λ w. fold (walked greedy.rules []) w rest) (next_step g p file v vs word (plain 0 word (omega arith)))
    ∙ rest_walk g p file v (vs ++ word ∷ []) rest (all_rest word rest plain) ∙ ap (args_met g p file v) (append_assoc vs (word ∷ []) rest)

rest_fault : (g : Option Text) (p file v : Text) (vs rest : List Text) → All IsPlain rest → walk_fault greedy [] (args_met g p file v vs) rest ≡ []
unfolding walk_fault
rest_fault g p file v vs [] plain = refl
rest_fault g p file v vs (word ∷ rest) plain =
    ap₂ (λ k w. or_else k (walk_fault greedy [] w rest)) (next_turn g p file v vs word (plain 0 word (omega arith))) (next_step g p file v vs word (plain 0 word (omega arith)))
    ∙ rest_fault g p file v (vs ++ word ∷ []) rest (all_rest word rest plain)

-- the end of the traversal
abbrev end : Option Text → (p file : Text) → List Text → Walk
end g p file [] = source_met g p file
end g p file (v ∷ vs) = args_met g p file v vs

args_walk : (g : Option Text) (p file : Text) (args : List Text) → All IsPlain args → fold (walked greedy.rules []) (source_met g p file) args ≡ end g p file args
args_walk g p file [] plain = refl
args_walk g p file (v ∷ vs) plain = ap (λ w. fold (walked greedy.rules []) w vs) (first_step g p file v (plain 0 v (omega arith))) ∙ rest_walk g p file v [] vs (all_rest v vs plain)

args_fault : (g : Option Text) (p file : Text) (args : List Text) → All IsPlain args → walk_fault greedy [] (source_met g p file) args ≡ []
unfolding walk_fault
args_fault g p file [] plain = refl
args_fault g p file (v ∷ vs) plain =
    ap₂ (λ k w. or_else k (walk_fault greedy [] w vs)) (first_turn g p file v (plain 0 v (omega arith))) (first_step g p file v (plain 0 v (omega arith)))
    ∙ rest_fault g p file v [] vs (all_rest v vs plain)

begun_walk : (g : Option Text) (p file : Text) (args : List Text) → IsPlain p → IsPlain file → All IsPlain args
    → fold (walked greedy.rules []) (at idle 1 (before g)) (p ∷ file ∷ args) ≡ end g p file args
begun_walk g p file args plain plain_file plains =
    ap (λ w. fold (walked greedy.rules []) w (file ∷ args)) (processors_step g p plain)
    ∙ ap (λ w. fold (walked greedy.rules []) w args) (source_step g p file plain_file) ∙ args_walk g p file args plains

begun_fault : (g : Option Text) (p file : Text) (args : List Text) → IsPlain p → IsPlain file → All IsPlain args → walk_fault greedy [] (at idle 1 (before g)) (p ∷ file ∷ args) ≡ []
unfolding walk_fault
begun_fault g p file args plain plain_file plains =
    ap₂ (λ k w. or_else k (walk_fault greedy [] w (file ∷ args))) (processors_turn g p plain) (processors_step g p plain)
    ∙ ap₂ (λ k w. or_else k (walk_fault greedy [] w args)) (source_turn g p file plain_file) (source_step g p file plain_file)
    ∙ args_fault g p file args plains

-- ---- a limit before the processors

abbrev limit_words : Option Text → List Text
limit_words None = []
limit_words (Some n) = codes "--limit" ∷ n ∷ []

abbrev IsPlainLimit : Option Text → Type 0
IsPlainLimit None = Unit {0}
IsPlainLimit (Some n) = IsPlain n

-- between the name of the option and its value
abbrev waiting : Walk
waiting = at (option (codes "limit")) 1 (held [] (Some (codes "limit", [])))

limit_step : walked greedy.rules [] (walk_from nothing_held) (codes "--limit") ≡ waiting
unfolding clap_on_literals
limit_step = refl

limit_turn : turn_fault greedy [] (walk_from nothing_held) (codes "--limit") ≡ []
unfolding clap_on_literals
limit_turn = refl

value_step : (n : Text) → IsPlain n → walked greedy.rules [] waiting n ≡ at idle 1 (before (Some n))
value_step n plain = step greedy.rules (option (codes "limit")) 1 n waiting.held refl plain

value_turn : (n : Text) → IsPlain n → turn_fault greedy [] waiting n ≡ []
value_turn n plain = turn greedy (option (codes "limit")) 1 n waiting.held refl plain

words_walk : (g : Option Text) (p file : Text) (args : List Text) → IsPlainLimit g → IsPlain p → IsPlain file → All IsPlain args
    → fold (walked greedy.rules []) (walk_from nothing_held) (limit_words g ++ p ∷ file ∷ args) ≡ end g p file args
words_walk None p file args given plain plain_file plains = begun_walk None p file args plain plain_file plains
words_walk (Some n) p file args given plain plain_file plains =
    ap (λ w. fold (walked greedy.rules []) w (n ∷ p ∷ file ∷ args)) limit_step
    ∙ ap (λ w. fold (walked greedy.rules []) w (p ∷ file ∷ args)) (value_step n given) ∙ begun_walk (Some n) p file args plain plain_file plains

words_fault : (g : Option Text) (p file : Text) (args : List Text) → IsPlainLimit g → IsPlain p → IsPlain file → All IsPlain args
    → walk_fault greedy [] (walk_from nothing_held) (limit_words g ++ p ∷ file ∷ args) ≡ []
unfolding walk_fault
words_fault None p file args given plain plain_file plains = begun_fault None p file args plain plain_file plains
words_fault (Some n) p file args given plain plain_file plains =
    ap₂ (λ k w. or_else k (walk_fault greedy [] w (n ∷ p ∷ file ∷ args))) limit_turn limit_step
    ∙ ap₂ (λ k w. or_else k (walk_fault greedy [] w (p ∷ file ∷ args))) (value_turn n given) (value_step n given)
    ∙ begun_fault (Some n) p file args plain plain_file plains

-- ---- the checks after the words

end_level : (g : Option Text) (p file : Text) (args : List Text) → length args < 2 ^ 64 → command_level greedy (end g p file args) [] ≡ []
unfolding defaults_fault
end_level None p file [] lt = refl
end_level (Some n) p file [] lt = refl
end_level None p file (v ∷ vs) lt = ap (level greedy (end None p file (v ∷ vs)) false [] []) (ap₂ or_else (range_fits (length (v ∷ vs)) lt) (values_accepted false (v ∷ vs)))
end_level (Some n) p file (v ∷ vs) lt = ap (level greedy (end (Some n) p file (v ∷ vs)) false [] []) (ap₂ or_else (range_fits (length (v ∷ vs)) lt) (values_accepted false (v ∷ vs)))

-- ---- the meaning of the words

abbrev limit_given : Option Text → Text
limit_given None = limit_row.usual
limit_given (Some n) = n

end_rows : (words : List Text) (g : Option Text) (p file : Text) (args : List Text) → HaveCommand words verb.Greedy (finished greedy.rules (end g p file args).held)
    → AreRead words (scheduling p file args (limit_given g))
end_rows words None p file [] h = record { rows = _; command = h; file_is = refl; args_are = refl; numbers_are = refl; edges_are = refl; table_is = refl }
end_rows words None p file (v ∷ vs) h = record { rows = _; command = h; file_is = refl; args_are = refl; numbers_are = refl; edges_are = refl; table_is = refl }
end_rows words (Some n) p file [] h = record { rows = _; command = h; file_is = refl; args_are = refl; numbers_are = refl; edges_are = refl; table_is = refl }
end_rows words (Some n) p file (v ∷ vs) h = record { rows = _; command = h; file_is = refl; args_are = refl; numbers_are = refl; edges_are = refl; table_is = refl }

pub is_scheduled : (g : Option Text) (p file : Text) (args : List Text) → IsPlainLimit g → IsPlain p → IsPlain file → All IsPlain args → length args < 2 ^ 64
    → AreRead (codes "greedy" ∷ limit_words g ++ p ∷ file ∷ args) (scheduling p file args (limit_given g))
is_scheduled g p file args given plain plain_file plains few =
    let rest = limit_words g ++ p ∷ file ∷ args in
    let walked_is = words_walk g p file args given plain plain_file plains in
    let none = ap₂ (command_level greedy) walked_is (words_fault g p file args given plain plain_file plains) ∙ end_level g p file args few in
    end_rows (codes "greedy" ∷ rest) g p file args (
      command_faults verb.Greedy rest none,
      command_rows verb.Greedy rest ∙ ap (λ w. Some (codes "greedy", finished greedy.rules w.held)) walked_is,
    )
