-- Words that are accepted have a command and a source.
use Rattle.std.proofs.Common.{◌≡◌, ◌⊎◌, inl, inr, ap, sym, refl, subst, ◌∙◌, ℕ, zero, suc, Bool, true, false, cond, not, ◌&&◌, ◌||◌, drop, List, [], ◌∷◌, length, Option, Some, None, codes, is_some}
use Rattle.std.specs.Prelude.{encode_utf8, find, slice_get, option_map, if◌then◌else◌}
use Rattle.std.specs.Option.{option_map_or}
use Rattle.std.specs.List.{fold}
use Rattle.std.specs.Str.{bytes_eq, chars}
use Rattle.std.proofs.lemmas.Bool.{false≢true}
use Rattle.clap.specs.Lexer.{long_of, short_of}
use Rattle.clap.specs.Kinds.{Kinds, or_else}
use Rattle.clap.specs.Walk.{has_long, has_short, subcommand_met, Held, Outcome, Row, Rule, Step, Text, Walk, Names, idle, plain, trailing, walk, walked, walk_from, nothing_held, after_step}
use Rattle.clap.specs.Walk.{subcommand_or_other, long_or_other, short_or_plain, after_flag, bundle_step, bundle_met, arg_by_long, arg_by_short, finished, settled, first_of}
use Rattle.clap.specs.Simple.{Shape, new_rule, entered, names_of}
use Rattle.clap.specs.Takes.{is_given}
use Rattle.clap.specs.Faults.{other_fault, turn_fault, walk_fault, step_fault, flag_word_fault, bundle_fault, flags_fault}
use Rattle.clap.specs.Faults.{bundle_step_fault, long_fault, short_fault, check_fault, defaults_fault, entered_fault, settle_fault}
use Rattle.clap.specs.declared.error.ErrorKind.TheVariants as kind
use Rattle.cw_words.specs.Command.{command_name}
use Rattle.cw_words.specs.Requests.{AreRead, Words, faults, words_in}
use Rattle.cw_words.specs.declared.verb.Verb.{Verb}
use Rattle.cw_words.specs.declared.verb.Verb.TheVariants as verb
use Rattle.cw_words.proofs.Reading.{check, gain, greedy, line, page, run, scale, sites, speedup, level, shape_of, stopped_at, stopped_walk}
use Rattle.cw_words.proofs.Filled.{IsSource, NamesNoSource, NotSource, filled_finished, given_first}

both_none : (a b : Kinds) → or_else a b ≡ [] → (a ≡ []) × (b ≡ [])
both_none [] b h = (refl, h)
both_none (k ∷ ks) b h = cc

find_one : {X : Type 0} (test : X → Bool) (x : X) → (find test (x ∷ []) ≡ None) ⊎ (find test (x ∷ []) ≡ Some x)
find_one test x = go (test x)
  where
    go : (b : Bool) → (cond b (Some x) None ≡ None) ⊎ (cond b (Some x) None ≡ Some x)
    go true = inr refl
    go false = inl refl

-- ---- the words before the command

abbrev names : Names
names = names_of line

abbrev rules : List Rule
rules = line.top.rules

abbrev first : List Rule → Rule
first [] = new_rule []
first (a ∷ rest) = a

abbrev help : Rule
help = first rules

-- the only flag is the one for help
long_refused : (name : Text) (v : Option Text) → long_fault rules false (arg_by_long rules name) v nothing_held ≡ [] → ⊥
long_refused name v h = elim (find_one (λ (a : Rule). not (is_some a.index) && has_long a name) help) [
  | inl none ↦ let e : long_fault rules false None v nothing_held ≡ [] = subst (λ o. long_fault rules false o v nothing_held ≡ []) none h in cc
  | inr some ↦ help_refused v (subst (λ o. long_fault rules false o v nothing_held ≡ []) some h)
]
  where
    help_refused : (v : Option Text) → long_fault rules false (Some help) v nothing_held ≡ [] → ⊥
    help_refused None h = cc
    help_refused (Some t) h = cc

-- the faults of the step after a flag word
abbrev after_fault : Text → Held × Outcome → Kinds
after_fault word m = step_fault line.top 1 (after_flag rules idle word m.0 m.1).0 (after_flag rules idle word m.0 m.1).1

char_refused : (x : Option ℕ) (k : ℕ) (flags word : Text) → or_else (bundle_step_fault rules false x flags 0 nothing_held (flags_fault rules false k))
    (after_fault word (bundle_step rules x flags 0 plain nothing_held (bundle_met rules k))) ≡ [] → ⊥
char_refused None k flags word h = cc
char_refused (Some x) k flags word h =
    let rest = drop (length (encode_utf8 x)) flags in
    let F : Option Rule → Kinds = λ o. short_fault rules false o rest nothing_held (flags_fault rules false k rest 0) in
    let none_is : F (arg_by_short rules x) ≡ [] = (both_none _ _ h).0 in
    elim (find_one (λ (a : Rule). not (is_some a.index) && has_short a x) help) [
      | inl none ↦ let e : F None ≡ [] = subst (λ o. F o ≡ []) none none_is in cc
      | inr some ↦ help_refused rest k (subst (λ o. F o ≡ []) some none_is)
    ]
  where
    help_refused : (rest : Text) (k : ℕ) → short_fault rules false (Some help) rest nothing_held (flags_fault rules false k rest 0) ≡ [] → ⊥
    help_refused rest k h = cc

bundle_refused : (k : ℕ) (flags word : Text) → or_else (flags_fault rules false k flags 0 nothing_held) (after_fault word (bundle_met rules k flags 0 plain nothing_held)) ≡ [] → ⊥
unfolding flags_fault bundle_met
bundle_refused zero flags word h = cc
bundle_refused (suc k) flags word h = char_refused (slice_get (chars flags) 0) k flags word h

abbrev step_of : Held × Step → Kinds
step_of m = step_fault line.top 1 m.0 m.1

short_refused : (o : Option Text) (word : Text) → or_else (option_map_or (λ flags. bundle_fault rules false flags nothing_held) o []) (step_of (short_or_plain rules idle word o nothing_held)) ≡ [] → ⊥
short_refused None word h = cc
short_refused (Some flags) word h = bundle_refused (length flags) flags word h

flag_refused : (o : Option (Text × Option Text)) (word : Text) → or_else (flag_word_fault rules false o word nothing_held) (step_of (long_or_other rules idle word o nothing_held)) ≡ [] → ⊥
flag_refused None word h = short_refused (short_of word) word h
flag_refused (Some p) word h = long_refused p.0 p.1 (both_none _ _ h).0

abbrev none_of : Kinds
none_of = []

-- the traversal stops at a command, or at no word
abbrev Stops : Walk → Type 0
Stops w = (w.stopped ≡ None) ⊎ ((m : Verb) × (rest : List Text) × (w ≡ stopped_at (command_name m) rest))

abbrev walk_on : Walk → List Text → Walk
walk_on w words = fold (walked rules names) w words

abbrev start : Walk
start = walk_from nothing_held

-- after `--` no word is accepted
abbrev ended : Walk
ended = record start { is_trailing = true }

trailing_stops : (words : List Text) → walk_fault line.top names ended words ≡ [] → Stops (walk_on ended words)
unfolding walk_fault
trailing_stops [] h = inl refl
trailing_stops (word ∷ words) h = absurd (no (both_none (turn_fault line.top names ended word) (walk_fault line.top names (walked rules names ended word) words) h).0)
  where
    no : turn_fault line.top names ended word ≡ [] → ⊥
    no e = cc

-- the faults of a word at the start, if its subcommand is this one
abbrev turn_by : Option Text → Text → Kinds
turn_by o word = or_else (other_fault line.top o word nothing_held) (step_of (subcommand_or_other rules o idle 1 word nothing_held))

abbrev walked_by : Option Text → Text → Walk
walked_by o word = after_step rules word start (subcommand_or_other rules o idle 1 word nothing_held).0 (subcommand_or_other rules o idle 1 word nothing_held).1

dashes_stop : (word : Text) (words : List Text) (b : Bool)
    → or_else (if b then none_of else flag_word_fault rules false (long_of word) word nothing_held)
    (step_of (if b then (nothing_held, trailing 1) else long_or_other rules idle word (long_of word) nothing_held)) ≡ []
    → (met : Held × Step) → met ≡ (if b then (nothing_held, trailing 1) else long_or_other rules idle word (long_of word) nothing_held)
    → walk_fault line.top names (after_step rules word start met.0 met.1) words ≡ [] → Stops (walk_on (after_step rules word start met.0 met.1) words)
dashes_stop word words true e met is h =
    let same : after_step rules word start met.0 met.1 ≡ ended = ap (λ (m : Held × Step). after_step rules word start m.0 m.1) is in
    subst (λ w. Stops (walk_on w words)) (sym same) (trailing_stops words (subst (λ w. walk_fault line.top names w words ≡ []) same h))
dashes_stop word words false e met is h = absurd (flag_refused (long_of word) word e)

by_name : (o : Option Text) (word : Text) (words : List Text) → (o ≡ None) ⊎ (((m : Verb) × (o ≡ Some (command_name m))) ⊎ (o ≡ Some (codes "help"))) → turn_by o word ≡ []
    → walk_fault line.top names (walked_by o word) words ≡ [] → Stops (walk_on (walked_by o word) words)
by_name None word words is e h = dashes_stop word words (bytes_eq word (45 ∷ 45 ∷ [])) e _ refl h
by_name (Some name) word words (inl is) e h = cc
by_name (Some name) word words (inr (inl (m, is))) e h =
    let same : walked_by (Some name) word ≡ stopped_at (command_name m) [] = ap (λ o. walked_by o word) is in
    inr (m, words, ap (λ w. walk_on w words) same ∙ stopped_walk (command_name m) [] words)
by_name (Some name) word words (inr (inr is)) e h = absurd (no (subst (λ o. turn_by o word ≡ []) is e))
  where
    no : turn_by (Some (codes "help")) word ≡ [] → ⊥
    no t = cc

subcommand_is : (word : Text) → (subcommand_met names idle word ≡ None)
    ⊎ (((m : Verb) × (subcommand_met names idle word ≡ Some (command_name m))) ⊎ (subcommand_met names idle word ≡ Some (codes "help")))
subcommand_is word =
    go (bytes_eq (codes "check") word) (bytes_eq (codes "run") word) (bytes_eq (codes "scale") word)
    (bytes_eq (codes "sites") word) (bytes_eq (codes "gain") word) (bytes_eq (codes "greedy") word) (bytes_eq (codes "speedup") word) (bytes_eq (codes "page") word) (bytes_eq (codes "help") word)
  where
    met : Bool → Text → Option (Text × List Text) → Option (Text × List Text)
    met b name rest = cond (b || false) (Some (name, [])) rest

    name : (a b c d e f g p h : Bool) → Option Text
    name a b c d e f g p h =
        option_map (λ (s : Text × List Text). s.0) (met a (codes "check") (met b (codes "run") (met c (codes "scale")
        (met d (codes "sites") (met e (codes "gain") (met f (codes "greedy") (met g (codes "speedup") (met p (codes "page") (met h (codes "help") None)))))))))

    go : (a b c d e f g p h : Bool) → (name a b c d e f g p h ≡ None) ⊎ (((m : Verb) × (name a b c d e f g p h ≡ Some (command_name m))) ⊎ (name a b c d e f g p h ≡ Some (codes "help")))
    go true b c d e f g p h = inr (inl (verb.Check, refl))
    go false true c d e f g p h = inr (inl (verb.Run, refl))
    go false false true d e f g p h = inr (inl (verb.Scale, refl))
    go false false false true e f g p h = inr (inl (verb.Sites, refl))
    go false false false false true f g p h = inr (inl (verb.Gain, refl))
    go false false false false false true g p h = inr (inl (verb.Greedy, refl))
    go false false false false false false true p h = inr (inl (verb.Speedup, refl))
    go false false false false false false false true h = inr (inl (verb.Page, refl))
    go false false false false false false false false true = inr (inr refl)
    go false false false false false false false false false = inl refl

stops : (words : List Text) → walk_fault line.top names start words ≡ [] → Stops (walk_on start words)
unfolding walk_fault walked
stops [] h = inl refl
stops (word ∷ words) h = let parts = both_none (turn_by (subcommand_met names idle word) word) (walk_fault line.top names (walked_by (subcommand_met names idle word) word) words) h in
    by_name (subcommand_met names idle word) word words (subcommand_is word) parts.0 parts.1

-- ---- the words after the command

-- a rule is not the rule of the source, or a test fails on it
abbrev Passes : (Rule → Bool) → Rule → Type 0
Passes test a = (test a ≡ false) ⊎ (IsSource a.id → ⊥)

abbrev AllPass : (Rule → Bool) → List Rule → Type 0
AllPass test [] = Unit {0}
AllPass test (a ∷ c) = Passes test a × AllPass test c

found_no_source : (test : Rule → Bool) (c : List Rule) → AllPass test c → NotSource (find test c)
found_no_source test [] passes = tt
found_no_source test (a ∷ c) passes = go (test a) refl passes.0 (found_no_source test c passes.1)
  where
    go : (b : Bool) → test a ≡ b → Passes test a → NotSource (find test c) → NotSource (cond b (Some a) (find test c))
    go true is (inl fails) later = absurd (false≢true (sym fails ∙ is))
    go true is (inr differs) later = differs
    go false is passed later = later

-- the tests by which a flag finds its rule
abbrev by_long : Text → Rule → Bool
by_long name a = not (is_some a.index) && has_long a name

abbrev by_short : ℕ → Rule → Bool
by_short x a = not (is_some a.index) && has_short a x

no_flag_of_source : (m : Verb) → NamesNoSource (shape_of m).rules
no_flag_of_source verb.Check = (
  (λ name. found_no_source (by_long name) check.rules (inl refl, (inr (λ is. cc), tt))),
  (λ x. found_no_source (by_short x) check.rules (inl refl, (inr (λ is. cc), tt))),
)
no_flag_of_source verb.Run = (
  (λ name. found_no_source (by_long name) run.rules (inl refl, (inl refl, (inr (λ is. cc), (inr (λ is. cc), (inr (λ is. cc), (inr (λ is. cc), (inr (λ is. cc), tt)))))))),
  (λ x. found_no_source (by_short x) run.rules (inl refl, (inl refl, (inr (λ is. cc), (inr (λ is. cc), (inr (λ is. cc), (inr (λ is. cc), (inr (λ is. cc), tt)))))))),
)
no_flag_of_source verb.Scale = (
  (λ name. found_no_source (by_long name) scale.rules (inl refl, (inl refl, (inr (λ is. cc), (inr (λ is. cc), (inr (λ is. cc), (inr (λ is. cc), (inr (λ is. cc), (inr (λ is. cc), tt))))))))),
  (λ x. found_no_source (by_short x) scale.rules (inl refl, (inl refl, (inr (λ is. cc), (inr (λ is. cc), (inr (λ is. cc), (inr (λ is. cc), (inr (λ is. cc), (inr (λ is. cc), tt))))))))),
)
no_flag_of_source verb.Sites = (
  (λ name. found_no_source (by_long name) sites.rules (inl refl, (inl refl, (inr (λ is. cc), (inr (λ is. cc), (inr (λ is. cc), (inr (λ is. cc), (inr (λ is. cc), (inr (λ is. cc), tt))))))))),
  (λ x. found_no_source (by_short x) sites.rules (inl refl, (inl refl, (inr (λ is. cc), (inr (λ is. cc), (inr (λ is. cc), (inr (λ is. cc), (inr (λ is. cc), (inr (λ is. cc), tt))))))))),
)
no_flag_of_source verb.Gain = (
  (λ name. found_no_source (by_long name) gain.rules (inl refl, (inl refl, (inr (λ is. cc), (inr (λ is. cc), (inr (λ is. cc), (inr (λ is. cc), (inr (λ is. cc), (inr (λ is. cc), (inr (λ is. cc), tt)))))))))),
  (λ x. found_no_source (by_short x) gain.rules (inl refl, (inl refl, (inr (λ is. cc), (inr (λ is. cc), (inr (λ is. cc), (inr (λ is. cc), (inr (λ is. cc), (inr (λ is. cc), (inr (λ is. cc), tt)))))))))),
)
no_flag_of_source verb.Greedy = (
  (λ name. found_no_source (by_long name) greedy.rules (inl refl, (inl refl, (inl refl, (inr (λ is. cc), (inr (λ is. cc), (inr (λ is. cc), tt))))))),
  (λ x. found_no_source (by_short x) greedy.rules (inl refl, (inl refl, (inl refl, (inr (λ is. cc), (inr (λ is. cc), (inr (λ is. cc), tt))))))),
)
no_flag_of_source verb.Speedup = (
  (λ name. found_no_source (by_long name) speedup.rules (inl refl, (inl refl, (inr (λ is. cc), (inr (λ is. cc), (inr (λ is. cc), (inr (λ is. cc), (inr (λ is. cc), (inr (λ is. cc), (inr (λ is. cc), tt)))))))))),
  (λ x. found_no_source (by_short x) speedup.rules (inl refl, (inl refl, (inr (λ is. cc), (inr (λ is. cc), (inr (λ is. cc), (inr (λ is. cc), (inr (λ is. cc), (inr (λ is. cc), (inr (λ is. cc), tt)))))))))),
)
no_flag_of_source verb.Page = (
  (λ name. found_no_source (by_long name) page.rules (inl refl, (inl refl, (inr (λ is. cc), (inr (λ is. cc), (inr (λ is. cc), (inr (λ is. cc), (inr (λ is. cc), (inr (λ is. cc), (inr (λ is. cc), tt)))))))))),
  (λ x. found_no_source (by_short x) page.rules (inl refl, (inl refl, (inr (λ is. cc), (inr (λ is. cc), (inr (λ is. cc), (inr (λ is. cc), (inr (λ is. cc), (inr (λ is. cc), (inr (λ is. cc), tt)))))))))),
)

-- a source is required
source_given : (m : Verb) (rows : List Row) → check_fault (shape_of m) rows false ≡ [] → is_given (codes "FILE") rows ≡ true
source_given m rows h = of_verb m h
  where
    go : (g : Bool) → (if not g || false then kind.MissingRequiredArgument ∷ [] else none_of) ≡ [] → g ≡ true
    go true e = refl
    go false e = cc

    -- the check of the source after the check of the processors
    behind : (p g : Bool) → (if not p || (not g || false) then kind.MissingRequiredArgument ∷ [] else none_of) ≡ [] → g ≡ true
    behind p true e = refl
    behind true false e = cc
    behind false false e = cc

    of_verb : (m : Verb) → check_fault (shape_of m) rows false ≡ [] → is_given (codes "FILE") rows ≡ true
    of_verb verb.Check e = go (is_given (codes "FILE") rows) e
    of_verb verb.Run e = go (is_given (codes "FILE") rows) e
    of_verb verb.Scale e = go (is_given (codes "FILE") rows) e
    of_verb verb.Sites e = go (is_given (codes "FILE") rows) e
    of_verb verb.Gain e = go (is_given (codes "FILE") rows) e
    of_verb verb.Greedy e = behind (is_given (codes "P") rows) (is_given (codes "FILE") rows) e
    of_verb verb.Speedup e = go (is_given (codes "FILE") rows) e
    of_verb verb.Page e = go (is_given (codes "FILE") rows) e

-- a subcommand is required
stopped_somewhere : (rows : List Row) (w : Walk) → w.stopped ≡ None → check_fault line.top rows (is_some (entered line w.stopped)) ≡ [] → ⊥
stopped_somewhere rows w none h = no (subst (λ o. check_fault line.top rows (is_some (entered line o)) ≡ []) none h)
  where
    no : check_fault line.top rows false ≡ [] → ⊥
    no e = cc

-- the checks after a traversal find no fault
level_passes : (s : Shape) (w : Walk) (has : Bool) (walk below settle : Kinds) → level s w has walk below settle ≡ [] → (walk ≡ []) × (below ≡ []) × (check_fault s (finished s.rules w.held) has ≡ [])
level_passes s w has walk below settle h =
    let defaults = defaults_fault (settled s.rules w.held).rows s.rules in
    let check = check_fault s (finished s.rules w.held) has in
    let first = both_none walk (or_else below (or_else settle (or_else defaults check))) h in
    let second = both_none below (or_else settle (or_else defaults check)) first.1 in
    let third = both_none settle (or_else defaults check) second.1 in
    (first.0, second.0, (both_none defaults check third.1).1)

some_text : (o : Option Text) → is_some o ≡ true → (t : Text) × (o ≡ Some t)
some_text None h = cc
some_text (Some t) h = (t, refl)

-- the level of a command that the words enter
at_level : (s : Shape) (rest : List Text) → level s (walk s.rules [] nothing_held rest) false (walk_fault s [] start rest) []
    (settle_fault s.rules s.args_override_self (walk s.rules [] nothing_held rest).held) ≡ []
    → check_fault s (finished s.rules (walk s.rules [] nothing_held rest).held) false ≡ []
at_level s rest h =
    let end = walk s.rules [] nothing_held rest in
    (level_passes s end false (walk_fault s [] start rest) [] (settle_fault s.rules s.args_override_self end.held) h).2

below_of : (m : Verb) (rest : List Text) → entered_fault line (Some (command_name m, rest)) ≡ []
    → check_fault (shape_of m) (finished (shape_of m).rules (walk (shape_of m).rules [] nothing_held rest).held) false ≡ []
below_of verb.Check rest h = at_level check rest h
below_of verb.Run rest h = at_level run rest h
below_of verb.Scale rest h = at_level scale rest h
below_of verb.Sites rest h = at_level sites rest h
below_of verb.Gain rest h = at_level gain rest h
below_of verb.Greedy rest h = at_level greedy rest h
below_of verb.Speedup rest h = at_level speedup rest h
below_of verb.Page rest h = at_level page rest h

entered_is : (m : Verb) (rest : List Text) → entered line (Some (command_name m, rest)) ≡ Some (command_name m, finished (shape_of m).rules (walk (shape_of m).rules [] nothing_held rest).held)
entered_is verb.Check rest = refl
entered_is verb.Run rest = refl
entered_is verb.Scale rest = refl
entered_is verb.Sites rest = refl
entered_is verb.Gain rest = refl
entered_is verb.Greedy rest = refl
entered_is verb.Speedup rest = refl
entered_is verb.Page rest = refl

pub taken : (given : List Text) → faults given ≡ [] → (words : Words) × AreRead given words
taken given h =
    let w = walk_on start given in
    let top = level_passes line.top w (is_some (entered line w.stopped)) (walk_fault line.top names start given) (entered_fault line w.stopped)
    (settle_fault rules line.top.args_override_self w.held) h in
    elim (stops given top.0) [
      | inl none ↦ absurd (stopped_somewhere (finished rules w.held) w none top.2)
      | inr at_command ↦
          let m = at_command.0 in
          let rest = at_command.1 in
          let below : entered_fault line (Some (command_name m, rest)) ≡ [] = subst (λ (v : Walk). entered_fault line v.stopped ≡ []) at_command.2 top.1 in
          let rows = finished (shape_of m).rules (walk (shape_of m).rules [] nothing_held rest).held in
          let source = some_text (first_of (codes "FILE") rows)
          (given_first rows (filled_finished (shape_of m).rules rest start (no_flag_of_source m) (tt, tt)) (source_given m rows (below_of m rest below))) in (
            words_in m source.0 rows,
            record {
              rows = rows;
              command = (h, ap (λ (v : Walk). entered line v.stopped) at_command.2 ∙ entered_is m rest);
              file_is = source.1;
              args_are = refl;
              numbers_are = refl;
              edges_are = refl;
              table_is = refl;
            },
          )
    ]
