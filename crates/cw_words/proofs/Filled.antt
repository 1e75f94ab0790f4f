-- A source that is given has a text: during the traversal of the words, no row or pending argument with its id is
-- without a text.
use Rattle.std.proofs.Common.{◌≡◌, ◌++◌, ◌+◌, min, refl, subst, ℕ, zero, suc, Bool, true, false, cond, ◌&&◌, List, [], ◌∷◌, length, drop, Option, Some, None, codes, is_some}
use Rattle.std.specs.Option.{option_map_or}
use Rattle.std.specs.Prelude.{find, option_and_then, slice_get, encode_utf8, if◌then◌else◌}
use Rattle.std.specs.List.{fold}
use Rattle.std.specs.Str.{bytes_eq, chars}
use Rattle.std.proofs.lemmas.Slice.Eq.{bytes_eq-Decides}
use Rattle.clap.specs.Lexer.{long_of, short_of}
use Rattle.clap.specs.Matches.{count_text}
use Rattle.clap.specs.Walk.{Held, Outcome, Row, Rule, Step, Text, Waiting, Walk, idle, option, positional, done, waits, plain, refused, next, trailing, subcommand, value, at_row}
use Rattle.clap.specs.Walk.{without, more_values, with_values, new_count, with_count, used_as, used_by_id, used, action_of, reading_by, values_or_missing, settled, settled_rows}
use Rattle.clap.specs.Walk.{reacted, pushed, option_met, flag_met, long_met, short_met, attached_value, bundle_step, bundle_met, arg_by_id, arg_by_index, arg_by_long, arg_by_short}
use Rattle.clap.specs.Walk.{takes_values, option_word, plain_word, after_flag, long_or_other, short_or_plain, subcommand_or_other, subcommand_met, is_pending, takes_several}
use Rattle.clap.specs.Walk.{to_positional, after_step, walked, walked_from, with_default, default_rows, finished, has_row, first_of, count_of}
use Rattle.clap.specs.Facts.{explicit_source}
use Rattle.clap.specs.Takes.{is_given}
use Rattle.clap.specs.declared.builder.value_parser.Reading.{Reading}
use Rattle.clap.specs.declared.builder.ArgAction.{ArgAction}
use Rattle.clap.specs.declared.builder.ArgAction.TheVariants as action
use Rattle.clap.specs.declared.parser.matches.ValueSource.{ValueSource}
use Rattle.clap.specs.declared.parser.matches.ValueSource.TheVariants.{CommandLine}
use Rattle.std.proofs.lemmas.Bool.{false≢true}

-- the id is the id of the source
abbrev pub IsSource : Text → Type 0
IsSource id = bytes_eq id (codes "FILE") ≡ true

abbrev pub HasFirst : List Text → Type 0
HasFirst vs = is_some (slice_get vs 0) ≡ true

abbrev Full : Row → Type 0
Full r = IsSource r.id → HasFirst r.values

abbrev pub Filled : List Row → Type 0
Filled [] = Unit {0}
Filled (r ∷ rs) = Full r × Filled rs

abbrev pub FilledPending : Option (Text × List Text) → Type 0
FilledPending None = Unit {0}
FilledPending (Some p) = IsSource p.0 → HasFirst p.1

abbrev pub Good : Held → Type 0
Good h = Filled h.rows × FilledPending h.pending

first_of_both : (xs ys : List Text) → HasFirst xs → HasFirst (xs ++ ys)
first_of_both [] ys h = absurd (false≢true h)
first_of_both (x ∷ xs) ys h = refl

first_of_last : (xs : List Text) (y : Text) → HasFirst (xs ++ y ∷ [])
first_of_last [] y = refl
first_of_last (x ∷ xs) y = refl

filled_both : (xs ys : List Row) → Filled xs → Filled ys → Filled (xs ++ ys)
filled_both [] ys f g = g
filled_both (x ∷ xs) ys f g = (f.0, filled_both xs ys f.1 g)

filled_at : (id : Text) (change : Row → List Row) (missing rows : List Row) → ((r : Row) → Full r → Filled (change r)) → Filled missing → Filled rows → Filled (at_row id change missing rows)
filled_at id change missing [] f m h = m
filled_at id change missing (r ∷ rs) f m h = go (bytes_eq r.id id) (filled_at id change missing rs f m h.1)
  where
    go : (b : Bool) → Filled (at_row id change missing rs) → Filled (if b then change r ++ rs else r ∷ at_row id change missing rs)
    go true later = filled_both (change r) rs (f r h.0) h.1
    go false later = (h.0, later)

filled_without : (id : Text) (rows : List Row) → Filled rows → Filled (without id rows)
filled_without id rows h = filled_at id (λ _. []) [] rows (λ r f. tt) tt h

filled_values : (id : Text) (how : Reading) (s : ValueSource) (values : List Text) (rows : List Row) → (IsSource id → HasFirst values) → Filled rows → Filled (with_values id how s values rows)
filled_values id how s values rows v h = filled_at id (more_values s values) _ rows (λ r f. ((λ is. first_of_both r.values values (f is)), tt)) (v, tt) h

filled_count : (id : Text) (how : Reading) (s : ValueSource) (n : ℕ) (rows : List Row) → Filled rows → Filled (with_count id how s n rows)
filled_count id how s n rows h = filled_at id (new_count s n) _ rows (λ r f. ((λ is. first_of_last r.values (count_text n)), tt)) ((λ is. refl), tt) h

filled_used_as : (act : ArgAction) (id : Text) (how : Reading) (values : List Text) (rows : List Row) → (IsSource id → HasFirst values) → Filled rows → Filled (used_as act id how values rows)
filled_used_as action.Set id how values rows v h = filled_values id how _ values _ v (filled_without id rows h)
filled_used_as action.SetTrue id how values rows v h = filled_values id how _ values _ v (filled_without id rows h)
filled_used_as action.SetFalse id how values rows v h = filled_values id how _ values _ v (filled_without id rows h)
filled_used_as action.Append id how values rows v h = filled_values id how _ values rows v h
filled_used_as action.Count id how [] rows v h = filled_count id how CommandLine (min (count_of id rows + 1) 255) (without id rows) (filled_without id rows h)
filled_used_as action.Count id how (x ∷ xs) rows v h = filled_values id how _ (x ∷ xs) _ v (filled_without id rows h)
filled_used_as action.Help id how values rows v h = h
filled_used_as action.HelpShort id how values rows v h = h
filled_used_as action.HelpLong id how values rows v h = h
filled_used_as action.Version id how values rows v h = h

given_or_missing : (a : Rule) (values : List Text) → HasFirst values → HasFirst (values_or_missing a values)
given_or_missing a [] h = absurd (false≢true h)
given_or_missing a (v ∷ vs) h = refl

filled_used : (a : Rule) (values : List Text) (rows : List Row) → (IsSource a.id → HasFirst values) → Filled rows → Filled (used a values rows)
filled_used a values rows v h = filled_used_as (action_of a) a.id (reading_by a) (values_or_missing a values) rows (λ is. given_or_missing a values (v is)) h

-- the element that `find` returns passes the test
found : {X : Type 0} (test : X → Bool) (xs : List X) (y : X) → find test xs ≡ Some y → test y ≡ true
found test [] y e = absurd (none_some e)
  where
    none_some : None ≡ Some y → ⊥
    none_some h = cc
found test (x ∷ xs) y e = go (test x) refl e (found test xs y)
  where
    go : (b : Bool) → test x ≡ b → cond b (Some x) (find test xs) ≡ Some y → (find test xs ≡ Some y → test y ≡ true) → test y ≡ true
    go true t h later = let same : x ≡ y = cc in subst (λ z. test z ≡ true) same t
    go false t h later = later h

filled_by_id : (o : Option Rule) (id : Text) (values : List Text) (rows : List Row) → ((a : Rule) → o ≡ Some a → bytes_eq a.id id ≡ true)
    → (IsSource id → HasFirst values) → Filled rows → Filled (used_by_id o values rows)
filled_by_id None id values rows same v h = h
filled_by_id (Some a) id values rows same v h =
    let is_id : a.id ≡ id = (bytes_eq-Decides a.id id).0 (same a refl) in
    filled_used a values rows (λ is. v (subst (λ (t : Text). IsSource t) is_id is)) h

filled_settled : (c : List Rule) (rows : List Row) (p : Option (Text × List Text)) → Filled rows → FilledPending p → Filled (settled_rows c p rows)
filled_settled c rows None h p = h
filled_settled c rows (Some q) h p = filled_by_id (arg_by_id c q.0) q.0 q.1 rows (λ a e. found (λ (r : Rule). bytes_eq r.id q.0) c a e) p h

good_settled : (c : List Rule) (h : Held) → Good h → Good (settled c h)
good_settled c h g = (filled_settled c h.rows h.pending g.0 g.1, tt)

good_reacted : (c : List Rule) (a : Rule) (values : List Text) (h : Held) → (IsSource a.id → HasFirst values) → Good h → Good (reacted c a values h)
good_reacted c a values h v g = (filled_used a values (settled c h).rows v (good_settled c h g).0, tt)

good_pushed : (id word : Text) (h : Held) → Good h → Good (pushed id word h)
good_pushed id word h g = (g.0, λ is. first_of_last _ word)

-- ---- flags: no flag is the source

abbrev pub NotSource : Option Rule → Type 0
NotSource None = Unit {0}
NotSource (Some a) = IsSource a.id → ⊥

-- no rule that a flag can name is the rule of the source
abbrev pub NamesNoSource : List Rule → Type 0
NamesNoSource c = ((name : Text) → NotSource (arg_by_long c name)) × ((x : ℕ) → NotSource (arg_by_short c x))

good_option : (c : List Rule) (a : Rule) (v : Option Text) (h : Held) → (IsSource a.id → ⊥) → Good h → Good (option_met c a v h).0
good_option c a (Some v) h n g = good_reacted c a (v ∷ []) h (λ is. refl) g
good_option c a None h n g = ((good_settled c h g).0, λ is. absurd (n is))

good_flag : (c : List Rule) (a : Rule) (v : Option Text) (h : Held) → (IsSource a.id → ⊥) → Good h → Good (flag_met c a v h).0
good_flag c a (Some v) h n g = g
good_flag c a None h n g = good_reacted c a [] h (λ is. absurd (n is)) g

good_long : (c : List Rule) (o : Option Rule) (v : Option Text) (h : Held) → NotSource o → Good h → Good (long_met c o v h).0
good_long c None v h n g = g
good_long c (Some a) v h n g = go (takes_values a)
  where
    go : (b : Bool) → Good (if b then option_met c a v h else flag_met c a v h).0
    go true = good_option c a v h n g
    go false = good_flag c a v h n g

good_short : (c : List Rule) (o : Option Rule) (rest : Text) (h : Held) (then_met : Held → Held × Outcome) → NotSource o
    → ((k : Held) → Good k → Good (then_met k).0) → Good h → Good (short_met c o rest h then_met).0
good_short c None rest h then_met n t g = g
good_short c (Some a) rest h then_met n t g = go (takes_values a)
  where
    go : (b : Bool) → Good (if b then option_met c a (attached_value rest) h else then_met (reacted c a [] h)).0
    go true = good_option c a (attached_value rest) h n g
    go false = t _ (good_reacted c a [] h (λ is. absurd (n is)) g)

good_bundle_step : (c : List Rule) (x : Option ℕ) (flags : Text) (skip : ℕ) (so_far : Outcome) (h : Held) (then_met : Text → ℕ → Outcome → Held → Held × Outcome)
    → NamesNoSource c → ((f : Text) (s : ℕ) (o : Outcome) (k : Held) → Good k → Good (then_met f s o k).0) → Good h → Good (bundle_step c x flags skip so_far h then_met).0
good_bundle_step c None flags skip so_far h then_met n t g = g
good_bundle_step c (Some x) flags zero so_far h then_met n t g =
    let rest = drop (length (encode_utf8 x)) flags in
    good_short c (arg_by_short c x) rest h (then_met rest 0 done) (n.1 x) (λ k q. t rest 0 done k q) g
good_bundle_step c (Some x) flags (suc skip) so_far h then_met n t g = t _ skip so_far h g

good_bundle : (c : List Rule) (k : ℕ) (flags : Text) (skip : ℕ) (so_far : Outcome) (h : Held) → NamesNoSource c → Good h → Good (bundle_met c k flags skip so_far h).0
unfolding bundle_met
good_bundle c zero flags skip so_far h n g = g
good_bundle c (suc k) flags skip so_far h n g =
    good_bundle_step c (slice_get (chars flags) 0) flags skip so_far h (bundle_met c k) n (λ f s o q w. good_bundle c k f s o q n w) g

-- ---- one word

good_option_word : (o : Option Rule) (id word : Text) (h : Held) → Good h → Good (option_word o id word h).0
good_option_word None id word h g = g
good_option_word (Some a) id word h g = good_pushed id word h g

good_plain : (c : List Rule) (waiting : Waiting) (word : Text) (h : Held) → Good h → Good (plain_word c waiting word h).0
good_plain c (option id) word h g = good_option_word (arg_by_id c id) id word h g
good_plain c idle word h g = g
good_plain c positional word h g = g

good_after_flag : (c : List Rule) (waiting : Waiting) (word : Text) (h : Held) (o : Outcome) → Good h → Good (after_flag c waiting word h o).0
good_after_flag c waiting word h done g = g
good_after_flag c waiting word h (waits id) g = g
good_after_flag c waiting word h plain g = good_plain c waiting word h g
good_after_flag c waiting word h refused g = good_plain c waiting word h g

good_short_word : (c : List Rule) (waiting : Waiting) (word : Text) (o : Option Text) (h : Held) → NamesNoSource c → Good h → Good (short_or_plain c waiting word o h).0
good_short_word c waiting word None h n g = good_plain c waiting word h g
good_short_word c waiting word (Some flags) h n g = good_after_flag c waiting word _ _ (good_bundle c (length flags) flags h.skip plain (record h { skip = 0 }) n g)

good_long_word : (c : List Rule) (waiting : Waiting) (word : Text) (o : Option (Text × Option Text)) (h : Held) → NamesNoSource c → Good h → Good (long_or_other c waiting word o h).0
good_long_word c waiting word None h n g = good_short_word c waiting word (short_of word) h n g
good_long_word c waiting word (Some p) h n g = good_after_flag c waiting word _ _ (good_long c (arg_by_long c p.0) p.1 h (n.0 p.0) g)

good_other : (c : List Rule) (o : Option Text) (waiting : Waiting) (position : ℕ) (word : Text) (h : Held) → NamesNoSource c → Good h → Good (subcommand_or_other c o waiting position word h).0
good_other c (Some name) waiting position word h n g = g
good_other c None waiting position word h n g = go (bytes_eq word (45 ∷ 45 ∷ []))
  where
    go : (b : Bool) → Good (if b then (h, trailing position) else long_or_other c waiting word (long_of word) h).0
    go true = g
    go false = good_long_word c waiting word (long_of word) h n g

good_met : (c : List Rule) (w : Walk) (word : Text) → NamesNoSource c → Good w.held → (b : Bool)
    → Good (if b then (w.held, value) else subcommand_or_other c (subcommand_met [] w.waiting word) w.waiting w.position word w.held).0
good_met c w word n g true = g
good_met c w word n g false = good_other c (subcommand_met [] w.waiting word) w.waiting w.position word w.held n g

good_positional : (c : List Rule) (o : Option Rule) (word : Text) (w : Walk) (h : Held) → Good h → Good (to_positional c o word w h).held
good_positional c None word w h g = g
good_positional c (Some a) word w h g = go (is_pending a h.pending && takes_several a)
  where
    go : (b : Bool) → Good (pushed a.id word (if b then h else settled c h))
    go true = good_pushed a.id word h g
    go false = good_pushed a.id word (settled c h) (good_settled c h g)

good_after : (c : List Rule) (word : Text) (w : Walk) (h : Held) (s : Step) → Good h → Good (after_step c word w h s).held
good_after c word w h (next waiting) g = g
good_after c word w h (trailing p) g = g
good_after c word w h (subcommand name) g = g
good_after c word w h value g = good_positional c (arg_by_index c w.position) word w h g

good_walked : (c : List Rule) (w : Walk) (word : Text) → NamesNoSource c → Good w.held → Good (walked c [] w word).held
unfolding walked
good_walked c w word n g = go w.stopped
  where
    go : (o : Option (Text × List Text)) → Good (walked_from c [] o w word).held
    go (Some p) = g
    go None = good_after c word w _ _ (good_met c w word n g w.is_trailing)

good_walk : (c : List Rule) (words : List Text) (w : Walk) → NamesNoSource c → Good w.held → Good (fold (walked c []) w words).held
good_walk c [] w n g = g
good_walk c (word ∷ words) w n g = good_walk c words (walked c [] w word) n (good_walked c w word n g)

-- ---- after the words

filled_default_rows : (id : Text) (how : Reading) (values : List Text) (rows : List Row) → Filled rows → Filled (default_rows id how values rows)
filled_default_rows id how [] rows h = h
filled_default_rows id how (v ∷ vs) rows h = filled_values id how _ (v ∷ vs) rows (λ is. refl) h

filled_default : (rows : List Row) (a : Rule) → Filled rows → Filled (with_default rows a)
filled_default rows a h = go (has_row a.id rows)
  where
    go : (b : Bool) → Filled (if b then rows else default_rows a.id (reading_by a) a.defaults rows)
    go true = h
    go false = filled_default_rows a.id (reading_by a) a.defaults rows h

filled_defaults : (c : List Rule) (rows : List Row) → Filled rows → Filled (fold with_default rows c)
filled_defaults [] rows h = h
filled_defaults (a ∷ rest) rows h = filled_defaults rest (with_default rows a) (filled_default rows a h)

pub filled_finished : (c : List Rule) (words : List Text) (w : Walk) → NamesNoSource c → Good w.held → Filled (finished c (fold (walked c []) w words).held)
filled_finished c words w n g =
    let end = (fold (walked c []) w words).held in
    filled_defaults c (settled c end).rows (good_settled c end (good_walk c words w n g)).0

-- a source that is given has a first text
pub given_first : (rows : List Row) → Filled rows → is_given (codes "FILE") rows ≡ true → is_some (first_of (codes "FILE") rows) ≡ true
given_first [] f h = absurd (false≢true h)
given_first (r ∷ rs) f h = go (bytes_eq r.id (codes "FILE")) refl h (given_first rs f.1)
  where
    given : Option Row → Bool
    given o = option_map_or (λ (x : Row). explicit_source x.source) o false

    first : Option Row → Option Text
    first o = option_and_then (λ (x : Row). slice_get x.values 0) o

    go : (b : Bool) → bytes_eq r.id (codes "FILE") ≡ b → given (cond b (Some r) (find (λ (x : Row). bytes_eq x.id (codes "FILE")) rs)) ≡ true
        → (is_given (codes "FILE") rs ≡ true → is_some (first_of (codes "FILE") rs) ≡ true)
        → is_some (first (cond b (Some r) (find (λ (x : Row). bytes_eq x.id (codes "FILE")) rs))) ≡ true
    go true e g later = f.0 e
    go false e g later = later g
