-- Calls and heads of loops, by names and by slots.
use Rattle.std.proofs.Common.{◌≡◌, Bool, true, false, not, ◌&&◌, ◌||◌, if◌then◌else◌, List, [], ◌∷◌, ◌++◌, map, Option, Some, None, option_map, subst, refl, sym, ap, ◌∙◌}
use Rattle.std.specs.List.{list_all, list_any}
use Rattle.std.proofs.Math.Bool.{or-false, and-false, and-true, and_assoc}
use Rattle.cw_facts.specs.Tests.{first_true, second_true}
use Rattle.cw_model.specs.declared.syntax.NameKind.{NameKind}
use Rattle.cw_model.specs.declared.syntax.NameKind.TheVariants as name_kind
use Rattle.cw_model.specs.lemmas.Fits.{writable_array}
use Rattle.cw_model.specs.Meaning.{function_named}
use Rattle.cw_model.specs.Syntax.{is_const_kind, is_written_kind, Name, Param, Function, Expr, Number, Variable, Element, Length, Negative, Not, Binary}
use Rattle.cw_model.specs.Names.{same_name, is_among, differ}
use Rattle.cw_model.specs.Answers.{main_name}
use Rattle.cw_model.specs.Typing.{Known, is_int, is_array, is_argument, are_arguments, is_target, is_call, called}
use Rattle.cw_model.specs.Ownership.{Taken, is_taken, is_held, names_in, arrays_given, arrays_lent, target_names, Around, is_outer, are_inner, may_read, may_write, may_lend}
use Rattle.cw_model.specs.lemmas.Names.{turned}
use Rattle.cw_tree.specs.Resolved.{Locals, slot_of, use_of, resolved_argument, resolved_arguments}
use Rattle.cw_tree.specs.Resolved as spec
use Rattle.cw_tree.specs.lemmas.Names.{called_is}
use Rattle.cw_own.specs.Sets.{Slots, no_slot, with_slot, Row}
use Rattle.cw_own.specs.Taken as rows
use Rattle.cw_own.specs.Rules as rules
use Rattle.cw_own.specs.Rules.{Loop, passed_once, given_away, none_read, named_once}
use Rattle.cw_own.proofs.Words.{if_or, not_either, four_or}
use Rattle.cw_own.proofs.Showing.{Shows, shows_as, shows_row, shows_none, shows_array, array_shown}
use Rattle.cw_own.proofs.Knowing.{Knows, array_apart}
use Rattle.cw_own.proofs.After.{param, int_argument, array_argument}
use Rattle.cw_own.proofs.Wording.{Sees, Rounds, read_same, write_same, pass_same, lend_same, held_too}

-- names that are written or passed, in sequence
write_more : (around : Around) (taken : Taken) (x : Name) (xs : List Name) → may_write around taken (x ∷ xs) ≡ (may_write around taken (x ∷ []) && may_write around taken xs)
write_more around taken x xs = by (is_held taken x) (is_outer around x) (list_any (λ y. is_held taken y) xs) (list_any (λ y. is_outer around y) xs)
  where
    by : (a b c d : Bool) → (not (a || c) && not (b || d)) ≡ ((not (a || false) && not (b || false)) && (not c && not d))
    by true b c d = refl
    by false true true d = refl
    by false true false d = refl
    by false false c d = refl

-- no name occurs twice, and none of `seen` occurs
abbrev pub once : List Name → List Name → Bool
once seen [] = true
once seen (x ∷ xs) = not (is_among x seen) && once (x ∷ seen) xs

once_words : (a b c d : Bool) → (not a && (b && not (c || d))) ≡ ((not c && b) && not (a || d))
once_words true b c d = sym (and-false (not c && b))
once_words false true true d = refl
once_words false true false d = refl
once_words false false true d = refl
once_words false false false d = refl

among_any : (a : Name) (seen xs : List Name) → list_any (λ x. is_among x (a ∷ seen)) xs ≡ (is_among a xs || list_any (λ x. is_among x seen) xs)
among_any a seen [] = refl
among_any a seen (x ∷ xs) =
    ap (λ b. b || list_any (λ y. is_among y (a ∷ seen)) xs) (if_or (same_name x a) (is_among x seen))
    ∙ ap (λ b. (same_name x a || is_among x seen) || b) (among_any a seen xs)
    ∙ four_or (same_name x a) (is_among x seen) (is_among a xs) (list_any (λ y. is_among y seen) xs)
    ∙ ap (λ b. (b || is_among a xs) || (is_among x seen || list_any (λ y. is_among y seen) xs)) (turned x a)
    ∙ ap (λ b. b || (is_among x seen || list_any (λ y. is_among y seen) xs)) (sym (if_or (same_name a x) (is_among a xs)))

once_is : (seen xs : List Name) → once seen xs ≡ (differ xs && not (list_any (λ x. is_among x seen) xs))
once_is seen [] = refl
once_is seen (x ∷ xs) =
    ap (λ b. not (is_among x seen) && b) (once_is (x ∷ seen) xs ∙ ap (λ b. differ xs && not b) (among_any x seen xs))
    ∙ once_words (is_among x seen) (differ xs) (is_among x xs) (list_any (λ y. is_among y seen) xs)

none_among : (xs : List Name) → list_any (λ x. is_among x []) xs ≡ false
none_among [] = refl
none_among (x ∷ xs) = none_among xs

differ_is : (xs : List Name) → differ xs ≡ once [] xs
differ_is xs = sym (once_is [] xs ∙ ap (λ b. differ xs && not b) (none_among xs) ∙ and-true (differ xs))

abbrev arrays_row : Slots → Row
arrays_row set = record { ints = no_slot; arrays = set }

-- adding a known array to the names seen adds its slot
seen_more : (locals : Locals) (a : Name) (seen : List Name) (set : Slots) → is_among a locals.arrays ≡ true → Shows locals (λ x. is_among x seen) (arrays_row set) →
    Shows locals (λ x. is_among x (a ∷ seen)) (arrays_row (with_slot (slot_of a locals.arrays) set))
seen_more locals a seen set there s =
    shows_as locals (λ x. same_name x a || is_among x seen) (λ x. is_among x (a ∷ seen)) (arrays_row (with_slot (slot_of a locals.arrays) set)) (λ x. if_or (same_name x a) (is_among x seen))
    (shows_array locals a (λ x. is_among x seen) (arrays_row set) there s)

named_is : (known : Known) (locals : Locals) (xs seen : List Name) (set : Slots) → Knows known locals → list_all (λ a. is_array known a) xs ≡ true
    → Shows locals (λ x. is_among x seen) (arrays_row set) →
    once seen xs ≡ named_once set (map (use_of locals.arrays) xs)
named_is known locals [] seen set k h s = refl
named_is known locals (x ∷ xs) seen set k h s =
    let array = first_true (is_array known x) (list_all (λ a. is_array known a) xs) h in
    ap (λ b. not b && once (x ∷ seen) xs) (array_shown locals (λ y. is_among y seen) (arrays_row set) x (array_apart known locals x k (k.arrays x array)) s)
    ∙ ap (λ b. not (set (slot_of x locals.arrays)) && b) (named_is known locals xs (x ∷ seen) (with_slot (slot_of x locals.arrays) set) k
    (second_true (is_array known x) (list_all (λ a. is_array known a) xs) h) (seen_more locals x seen set (k.arrays x array) s))

pub differ_named : (known : Known) (locals : Locals) (xs : List Name) → Knows known locals → list_all (λ a. is_array known a) xs ≡ true → differ xs ≡ named_once no_slot (map (use_of locals.arrays) xs)
differ_named known locals xs k h = differ_is xs ∙ named_is known locals xs [] no_slot k h (shows_none locals)

-- the rule for the arrays of a loop agrees by names and by slots
pub over_same : (known : Known) (locals : Locals) (around : Around) (l : Option Loop) (taken : Taken) (t : rows.Taken) (xs : List Name)
    → Knows known locals → list_all (λ a. is_array known a) xs ≡ true → Rounds locals around l → Sees locals taken t →
    may_write around taken xs ≡ list_all (λ (u : spec.Use). rules.may_pass l t u.slot) (map (use_of locals.arrays) xs)
over_same known locals around l taken t [] k h r s = refl
over_same known locals around l taken t (x ∷ xs) k h r s =
    let array = first_true (is_array known x) (list_all (λ a. is_array known a) xs) h in
    write_more around taken x xs
    ∙ ap (λ b. b && may_write around taken xs) (pass_same known locals around l taken t x k array r s)
    ∙ ap (λ b. rules.may_pass l t (slot_of x locals.arrays) && b) (over_same known locals around l taken t xs k (second_true (is_array known x) (list_all (λ a. is_array known a) xs) h) r s)

-- the arrays that an argument gives away, and those that it only reads
abbrev given_of : NameKind → Expr → List Name
given_of kind e = if is_written_kind kind then names_in e else []

abbrev lent_of : NameKind → Expr → List Name
lent_of kind e = if is_const_kind kind then names_in e else []

inner_more : (around : Around) (x : Name) (xs : List Name) → are_inner around (x ∷ xs) ≡ (not (is_outer around x) && are_inner around xs)
inner_more around x xs = not_either (is_outer around x) (list_any (λ y. is_outer around y) xs)

-- the rules for arguments that are read, given away or only read agree by names and by slots
args_same : (known : Known) (locals : Locals) (around : Around) (l : Option Loop) (taken : Taken) (t : rows.Taken) (ps : List Param) (es : List Expr)
    → Knows known locals → are_arguments known ps es ≡ true → Rounds locals around l → Sees locals taken t →
    ((list_all (λ e. may_read around taken e) es && may_write around taken (arrays_given ps es)) && are_inner around (arrays_lent ps es))
    ≡ list_all (rules.may_give l t) (resolved_arguments locals ps es)
args_same known locals around l taken t [] [] k h r s = refl
args_same known locals around l taken t [] (e ∷ es) k h r s = cc
args_same known locals around l taken t (p ∷ ps) [] k h r s = cc
args_same known locals around l taken t (p ∷ ps) (e ∷ es) k h r s =
    by p.kind e (first_true (is_argument known p.kind e) (are_arguments known ps es) h)
    (args_same known locals around l taken t ps es k (second_true (is_argument known p.kind e) (are_arguments known ps es) h) r s)
  where
    int_words : (a b c d : Bool) → (((a && b) && c) && d) ≡ (a && ((b && c) && d))
    int_words true b c d = refl
    int_words false b c d = refl

    array_words : (a b c d e : Bool) → (((a && b) && (c && d)) && e) ≡ ((a && c) && ((b && d) && e))
    array_words false b c d e = refl
    array_words true true true d e = refl
    array_words true true false d e = refl
    array_words true false true d e = refl
    array_words true false false d e = refl

    lent_words : (a b c d e : Bool) → (((a && b) && c) && (d && e)) ≡ ((a && d) && ((b && c) && e))
    lent_words false b c d e = refl
    lent_words true b c true e = refl
    lent_words true b c false e = and-false (b && c)

    absorbed : (t g o : Bool) → (g ≡ false → t ≡ false) → ((not (t || false) && true) && (not (g || false) && not (o || false))) ≡ (not (g || false) && not (o || false))
    absorbed true true o f = refl
    absorbed true false o f = let e = f refl in cc
    absorbed false g o f = refl

    one_lent : (t o : Bool) → ((not (t || false) && true) && not o) ≡ (not t && not o)
    one_lent true o = refl
    one_lent false o = refl

    by : (kind : NameKind) (e : Expr) → is_argument known kind e ≡ true →
        ((list_all (λ e. may_read around taken e) es && may_write around taken (arrays_given ps es)) && are_inner around (arrays_lent ps es))
        ≡ list_all (rules.may_give l t) (resolved_arguments locals ps es) →
        (((may_read around taken e && list_all (λ e. may_read around taken e) es) && may_write around taken (given_of kind e ++ arrays_given ps es))
        && are_inner around (lent_of kind e ++ arrays_lent ps es))
        ≡ (rules.may_give l t (resolved_argument locals (param p.name kind ∷ ps) e) && list_all (rules.may_give l t) (resolved_arguments locals ps es))
    by name_kind.Integer e f more =
        int_words (may_read around taken e) (list_all (λ e. may_read around taken e) es) (may_write around taken (arrays_given ps es)) (are_inner around (arrays_lent ps es))
        ∙ ap (λ b. may_read around taken e && b) more
        ∙ ap (λ b. b && list_all (rules.may_give l t) (resolved_arguments locals ps es))
        (read_same known locals around l taken t e k f r s ∙ ap (rules.may_give l t) (sym (int_argument known locals (param p.name name_kind.Integer ∷ ps) e k f)))
    by name_kind.Array (Variable a) f more =
        let array = writable_array known a f in
        ap (λ b. ((may_read around taken (Variable a) && list_all (λ e. may_read around taken e) es) && b) && are_inner around (arrays_lent ps es)) (write_more around taken a (arrays_given ps es))
        ∙ array_words (may_read around taken (Variable a)) (list_all (λ e. may_read around taken e) es) (may_write around taken (a ∷ []))
        (may_write around taken (arrays_given ps es)) (are_inner around (arrays_lent ps es))
        ∙ ap (λ b. b && ((list_all (λ e. may_read around taken e) es && may_write around taken (arrays_given ps es)) && are_inner around (arrays_lent ps es)))
        (absorbed (is_taken taken a) (is_held taken a) (is_outer around a) (held_too taken a) ∙ pass_same known locals around l taken t a k array r s)
        ∙ ap (λ b. rules.may_pass l t (slot_of a locals.arrays) && b) more
        ∙ ap (λ b. b && list_all (rules.may_give l t) (resolved_arguments locals ps es)) (ap (rules.may_give l t) (sym (array_argument known locals (param p.name name_kind.Array ∷ ps) a k array)))
    by name_kind.Const (Variable a) f more =
        ap (λ b. ((may_read around taken (Variable a) && list_all (λ e. may_read around taken e) es) && may_write around taken (arrays_given ps es)) && b) (inner_more around a (arrays_lent ps es))
        ∙ lent_words (may_read around taken (Variable a)) (list_all (λ e. may_read around taken e) es) (may_write around taken (arrays_given ps es))
        (not (is_outer around a)) (are_inner around (arrays_lent ps es))
        ∙ ap (λ b. b && ((list_all (λ e. may_read around taken e) es && may_write around taken (arrays_given ps es)) && are_inner around (arrays_lent ps es)))
        (one_lent (is_taken taken a) (is_outer around a) ∙ lend_same known locals around l taken t a k f r s)
        ∙ ap (λ b. rules.may_lend l t (slot_of a locals.arrays) && b) more
        ∙ ap (λ b. b && list_all (rules.may_give l t) (resolved_arguments locals ps es)) (ap (rules.may_give l t) (sym (array_argument known locals (param p.name name_kind.Const ∷ ps) a k f)))
    by name_kind.Array (Number n) f more = cc
    by name_kind.Array (Element a e) f more = cc
    by name_kind.Array (Length a) f more = cc
    by name_kind.Array (Negative e) f more = cc
    by name_kind.Array (Not e) f more = cc
    by name_kind.Array (Binary o d e) f more = cc
    by name_kind.Const (Number n) f more = cc
    by name_kind.Const (Element a e) f more = cc
    by name_kind.Const (Length a) f more = cc
    by name_kind.Const (Negative e) f more = cc
    by name_kind.Const (Not e) f more = cc
    by name_kind.Const (Binary o d e) f more = cc

-- the rule that no array is given away twice agrees by names and by slots
passed_is : (known : Known) (locals : Locals) (ps : List Param) (es : List Expr) (seen : List Name) (set : Slots) → Knows known locals
    → are_arguments known ps es ≡ true → Shows locals (λ x. is_among x seen) (arrays_row set) →
    once seen (arrays_given ps es) ≡ passed_once set (resolved_arguments locals ps es)
passed_is known locals [] [] seen set k h s = refl
passed_is known locals [] (e ∷ es) seen set k h s = cc
passed_is known locals (p ∷ ps) [] seen set k h s = cc
passed_is known locals (p ∷ ps) (e ∷ es) seen set k h s =
    by p.kind e (first_true (is_argument known p.kind e) (are_arguments known ps es) h)
    (λ seen set s. passed_is known locals ps es seen set k (second_true (is_argument known p.kind e) (are_arguments known ps es) h) s)
  where
    by : (kind : NameKind) (e : Expr) → is_argument known kind e ≡ true →
        ((seen : List Name) (set : Slots) → Shows locals (λ x. is_among x seen) (arrays_row set) → once seen (arrays_given ps es) ≡ passed_once set (resolved_arguments locals ps es)) →
        once seen (given_of kind e ++ arrays_given ps es) ≡ passed_once set (resolved_argument locals (param p.name kind ∷ ps) e ∷ resolved_arguments locals ps es)
    by name_kind.Integer e f more = more seen set s ∙ ap (λ a. passed_once set (a ∷ resolved_arguments locals ps es)) (sym (int_argument known locals (param p.name name_kind.Integer ∷ ps) e k f))
    by name_kind.Array (Variable a) f more =
        let array = k.arrays a (writable_array known a f) in
        ap (λ b. not b && once (a ∷ seen) (arrays_given ps es)) (array_shown locals (λ y. is_among y seen) (arrays_row set) a (array_apart known locals a k array) s)
        ∙ ap (λ b. not (set (slot_of a locals.arrays)) && b) (more (a ∷ seen) (with_slot (slot_of a locals.arrays) set) (seen_more locals a seen set array s))
        ∙ ap (λ u. passed_once set (u ∷ resolved_arguments locals ps es)) (sym (array_argument known locals (param p.name name_kind.Array ∷ ps) a k (writable_array known a f)))
    by name_kind.Const (Variable a) f more = more seen set s ∙ ap (λ u. passed_once set (u ∷ resolved_arguments locals ps es))
        (sym (array_argument known locals (param p.name name_kind.Const ∷ ps) a k f))
    by name_kind.Array (Number n) f more = cc
    by name_kind.Array (Element a e) f more = cc
    by name_kind.Array (Length a) f more = cc
    by name_kind.Array (Negative e) f more = cc
    by name_kind.Array (Not e) f more = cc
    by name_kind.Array (Binary o d e) f more = cc
    by name_kind.Const (Number n) f more = cc
    by name_kind.Const (Element a e) f more = cc
    by name_kind.Const (Length a) f more = cc
    by name_kind.Const (Negative e) f more = cc
    by name_kind.Const (Not e) f more = cc
    by name_kind.Const (Binary o d e) f more = cc

-- the arrays that are given away, by names and by slots
away_shown : (known : Known) (locals : Locals) (ps : List Param) (es : List Expr) (P : Name → Bool) (set : Slots) → Knows known locals
    → are_arguments known ps es ≡ true → Shows locals P (arrays_row set) →
    Shows locals (λ y. is_among y (arrays_given ps es) || P y) (arrays_row (given_away (resolved_arguments locals ps es) set))
away_shown known locals [] [] P set k h s = s
away_shown known locals [] (e ∷ es) P set k h s = cc
away_shown known locals (p ∷ ps) [] P set k h s = cc
away_shown known locals (p ∷ ps) (e ∷ es) P set k h s =
    by p.kind e (first_true (is_argument known p.kind e) (are_arguments known ps es) h)
    (λ Q set s. away_shown known locals ps es Q set k (second_true (is_argument known p.kind e) (are_arguments known ps es) h) s)
  where
    words : (a b c : Bool) → ((if b then true else a) || c) ≡ (a || (b || c))
    words true true c = refl
    words true false c = refl
    words false true c = refl
    words false false c = refl

    by : (kind : NameKind) (e : Expr) → is_argument known kind e ≡ true →
        ((Q : Name → Bool) (set : Slots) → Shows locals Q (arrays_row set)
        → Shows locals (λ y. is_among y (arrays_given ps es) || Q y) (arrays_row (given_away (resolved_arguments locals ps es) set))) →
        Shows locals (λ y. is_among y (given_of kind e ++ arrays_given ps es) || P y)
        (arrays_row (given_away (resolved_argument locals (param p.name kind ∷ ps) e ∷ resolved_arguments locals ps es) set))
    by name_kind.Integer e f more =
        shows_row locals (λ y. is_among y (arrays_given ps es) || P y) (arrays_row (given_away (resolved_arguments locals ps es) set)) _
        (ap (λ a. arrays_row (given_away (a ∷ resolved_arguments locals ps es) set)) (sym (int_argument known locals (param p.name name_kind.Integer ∷ ps) e k f))) (more P set s)
    by name_kind.Array (Variable a) f more =
        let array = writable_array known a f in
        shows_row locals (λ y. is_among y (a ∷ arrays_given ps es) || P y) (arrays_row (given_away (resolved_arguments locals ps es) (with_slot (slot_of a locals.arrays) set))) _
        (ap (λ u. arrays_row (given_away (u ∷ resolved_arguments locals ps es) set)) (sym (array_argument known locals (param p.name name_kind.Array ∷ ps) a k array)))
        (shows_as locals (λ y. is_among y (arrays_given ps es) || (same_name y a || P y)) (λ y. is_among y (a ∷ arrays_given ps es) || P y) _
        (λ y. words (is_among y (arrays_given ps es)) (same_name y a) (P y))
        (more (λ y. same_name y a || P y) (with_slot (slot_of a locals.arrays) set) (shows_array locals a P (arrays_row set) (k.arrays a array) s)))
    by name_kind.Const (Variable a) f more =
        shows_row locals (λ y. is_among y (arrays_given ps es) || P y) (arrays_row (given_away (resolved_arguments locals ps es) set)) _
        (ap (λ u. arrays_row (given_away (u ∷ resolved_arguments locals ps es) set)) (sym (array_argument known locals (param p.name name_kind.Const ∷ ps) a k f))) (more P set s)
    by name_kind.Array (Number n) f more = cc
    by name_kind.Array (Element a e) f more = cc
    by name_kind.Array (Length a) f more = cc
    by name_kind.Array (Negative e) f more = cc
    by name_kind.Array (Not e) f more = cc
    by name_kind.Array (Binary o d e) f more = cc
    by name_kind.Const (Number n) f more = cc
    by name_kind.Const (Element a e) f more = cc
    by name_kind.Const (Length a) f more = cc
    by name_kind.Const (Negative e) f more = cc
    by name_kind.Const (Not e) f more = cc
    by name_kind.Const (Binary o d e) f more = cc

-- the rule that no array that is given away is only read agrees by names and by slots
read_is : (known : Known) (locals : Locals) (ps : List Param) (es : List Expr) (away : List Name) (set : Slots) → Knows known locals
    → are_arguments known ps es ≡ true → Shows locals (λ x. is_among x away) (arrays_row set) →
    not (list_any (λ a. is_among a away) (arrays_lent ps es)) ≡ none_read set (resolved_arguments locals ps es)
read_is known locals [] [] away set k h s = refl
read_is known locals [] (e ∷ es) away set k h s = cc
read_is known locals (p ∷ ps) [] away set k h s = cc
read_is known locals (p ∷ ps) (e ∷ es) away set k h s =
    by p.kind e (first_true (is_argument known p.kind e) (are_arguments known ps es) h)
    (read_is known locals ps es away set k (second_true (is_argument known p.kind e) (are_arguments known ps es) h) s)
  where
    by : (kind : NameKind) (e : Expr) → is_argument known kind e ≡ true →
        not (list_any (λ a. is_among a away) (arrays_lent ps es)) ≡ none_read set (resolved_arguments locals ps es) →
        not (list_any (λ a. is_among a away) (lent_of kind e ++ arrays_lent ps es)) ≡ none_read set (resolved_argument locals (param p.name kind ∷ ps) e ∷ resolved_arguments locals ps es)
    by name_kind.Integer e f more = more ∙ ap (λ a. none_read set (a ∷ resolved_arguments locals ps es)) (sym (int_argument known locals (param p.name name_kind.Integer ∷ ps) e k f))
    by name_kind.Array (Variable a) f more = more ∙ ap (λ u. none_read set (u ∷ resolved_arguments locals ps es))
        (sym (array_argument known locals (param p.name name_kind.Array ∷ ps) a k (writable_array known a f)))
    by name_kind.Const (Variable a) f more =
        not_either (is_among a away) (list_any (λ a. is_among a away) (arrays_lent ps es))
        ∙ ap (λ b. not b && not (list_any (λ a. is_among a away) (arrays_lent ps es))) (array_shown locals (λ y. is_among y away) (arrays_row set) a (array_apart known locals a k (k.arrays a f)) s)
        ∙ ap (λ b. not (set (slot_of a locals.arrays)) && b) more
        ∙ ap (λ u. none_read set (u ∷ resolved_arguments locals ps es)) (sym (array_argument known locals (param p.name name_kind.Const ∷ ps) a k f))
    by name_kind.Array (Number n) f more = cc
    by name_kind.Array (Element a e) f more = cc
    by name_kind.Array (Length a) f more = cc
    by name_kind.Array (Negative e) f more = cc
    by name_kind.Array (Not e) f more = cc
    by name_kind.Array (Binary o d e) f more = cc
    by name_kind.Const (Number n) f more = cc
    by name_kind.Const (Element a e) f more = cc
    by name_kind.Const (Length a) f more = cc
    by name_kind.Const (Negative e) f more = cc
    by name_kind.Const (Not e) f more = cc
    by name_kind.Const (Binary o d e) f more = cc

target_same : (known : Known) (locals : Locals) (around : Around) (l : Option Loop) (taken : Taken) (t : rows.Taken) (g : Function)
    (target : Option Name) → Knows known locals → is_target known g target ≡ true → Rounds locals around l → Sees locals taken t →
    may_write around taken (target_names target) ≡ rules.may_target l t (option_map (use_of locals.ints) target)
target_same known locals around l taken t g None k h r s = refl
target_same known locals around l taken t g (Some x) k h r s = write_same known locals around l taken t x k (first_true (is_int known x) g.gives_int h) r s

write_append : (around : Around) (taken : Taken) (xs ys : List Name) → may_write around taken (xs ++ ys) ≡ (may_write around taken xs && may_write around taken ys)
write_append around taken [] ys = refl
write_append around taken (x ∷ xs) ys =
    write_more around taken x (xs ++ ys)
    ∙ ap (λ b. may_write around taken (x ∷ []) && b) (write_append around taken xs ys)
    ∙ sym (and_assoc (may_write around taken (x ∷ [])) (may_write around taken xs) (may_write around taken ys))
    ∙ ap (λ b. b && may_write around taken ys) (sym (write_more around taken x xs))

call_words : (r w g d i n : Bool) → (((r && (w && g)) && d) && (i && n)) ≡ (((((r && g) && i) && w) && d) && n)
call_words false w g d i n = refl
call_words true false true d true n = refl
call_words true false true d false n = refl
call_words true false false d i n = refl
call_words true true false d i n = refl
call_words true true true true true n = refl
call_words true true true true false n = refl
call_words true true true false true n = refl
call_words true true true false false n = refl

-- a call with these parameters, by the definition of the language
abbrev model_call : Around → Taken → List Param → Option Name → List Expr → Bool
model_call around taken ps target es =
    list_all (λ e. may_read around taken e) es && may_write around taken (target_names target ++ arrays_given ps es) && differ (arrays_given ps es)
    && may_lend around (arrays_given ps es) (arrays_lent ps es)

-- a call with these parameters, by slots
abbrev pub slot_call : Locals → Option Loop → rows.Taken → List Param → Option Name → List Expr → Bool
slot_call locals l t ps target es =
    list_all (rules.may_give l t) (resolved_arguments locals ps es) && rules.may_target l t (option_map (use_of locals.ints) target) && passed_once no_slot (resolved_arguments locals ps es)
    && none_read (given_away (resolved_arguments locals ps es) no_slot) (resolved_arguments locals ps es)

pub call_same : (known : Known) (locals : Locals) (around : Around) (l : Option Loop) (taken : Taken) (t : rows.Taken) (fs : List Function)
    (target : Option Name) (f : Name) (es : List Expr) → Knows known locals →
    is_call known target (called f fs) es ≡ true → Rounds locals around l → Sees locals taken t →
    model_call around taken (function_named f fs).params target es ≡ slot_call locals l t (function_named f fs).params target es
call_same known locals around l taken t fs target f es k h r s = by (called f fs) refl h
  where
    into : (g : Function) → is_target known g target ≡ true → are_arguments known g.params es ≡ true →
        model_call around taken g.params target es ≡ slot_call locals l t g.params target es
    into g c a =
        let ps = g.params in
        let away = arrays_given ps es in
        let read = list_all (λ e. may_read around taken e) es in
        let slots = resolved_arguments locals ps es in
        let lends = not (list_any (λ a. is_among a away) (arrays_lent ps es)) in
        ap (λ b. ((read && b) && differ away) && may_lend around away (arrays_lent ps es)) (write_append around taken (target_names target) away)
        ∙ call_words read (may_write around taken (target_names target)) (may_write around taken away) (differ away) (are_inner around (arrays_lent ps es)) lends
        ∙ ap (λ b. ((b && may_write around taken (target_names target)) && differ away) && lends) (args_same known locals around l taken t ps es k a r s)
        ∙ ap (λ b. ((list_all (rules.may_give l t) slots && b) && differ away) && lends) (target_same known locals around l taken t g target k c r s)
        ∙ ap (λ b. ((list_all (rules.may_give l t) slots && rules.may_target l t (option_map (use_of locals.ints) target)) && b) && lends)
        (differ_is away ∙ passed_is known locals ps es [] no_slot k a (shows_none locals))
        ∙ ap (λ b. ((list_all (rules.may_give l t) slots && rules.may_target l t (option_map (use_of locals.ints) target)) && passed_once no_slot slots) && b)
        (read_is known locals ps es away (given_away slots no_slot) k a
        (shows_as locals (λ y. is_among y away || false) (λ y. is_among y away) _ (λ y. sym (or-false (is_among y away))) (away_shown known locals ps es (λ y. false) no_slot k a (shows_none locals))))

    by : (g : Option Function) → called f fs ≡ g → is_call known target g es ≡ true →
        model_call around taken (function_named f fs).params target es ≡ slot_call locals l t (function_named f fs).params target es
    by None e h = cc
    by (Some g) e h =
        let two = first_true (is_target known g target && are_arguments known g.params es) (not (same_name g.name main_name)) h in
        subst (λ (d : Function). model_call around taken d.params target es ≡ slot_call locals l t d.params target es)
        (sym (called_is f fs g e))
        (into g (first_true (is_target known g target) (are_arguments known g.params es) two) (second_true (is_target known g target) (are_arguments known g.params es) two))
