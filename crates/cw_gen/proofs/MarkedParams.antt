-- The marks of parameters: the arrays among them that are only read.
use Rattle.std.proofs.Common.{◌≡◌, ℕ, zero, suc, ◌+◌, ◌≤◌, List, [], ◌∷◌, ◌++◌, length, Bool, true, false, not, if◌then◌else◌, cond, filter, refl, sym, ap, ◌∙◌, arith, true≢false}
use Rattle.std.specs.Prelude.{map, ◌==◌}
use Rattle.std.proofs.lemmas.Slice.Eq.{bytes_eq-Decides}
use Rattle.cw_facts.specs.Tests.{first_true, second_true, not_true, eq_of}
use Rattle.cw_model.specs.declared.syntax.NameKind.{NameKind}
use Rattle.cw_model.specs.declared.syntax.NameKind.TheVariants.{Integer, Array, Const}
use Rattle.cw_model.specs.Syntax.{Name, Expr, Variable, Param, is_array_kind, is_written_kind, is_const_kind, is_array_param, takes_array}
use Rattle.cw_model.specs.Names.{same_name, is_among, differ, find}
use Rattle.cw_model.specs.Ownership.{Taken, names_in, arrays_given, arrays_lent}
use Rattle.cw_tree.specs.Resolved.{Locals, slot_of, locals_of}
use Rattle.cw_gen.specs.Marks.{Marks, marks_in, readers_in, unless_none, count_ints, count_arrays, count_taken, count_readers, is_integer_kind}
use Rattle.cw_gen.proofs.Fine.{ArgFine, ArgsFine, marks_for}
use Rattle.cw_gen.proofs.Passing.{none_of_some}
use Rattle.cw_gen.proofs.Texts.{taken_params}
use Rattle.cw_gen.proofs.Codes.{arrays_named}
use Rattle.cw_gen.proofs.Names.{Entries}
use Rattle.cw_gen.proofs.Names as holding
use Rattle.cw_gen.proofs.Marked.{owned, lent, is_read, IsOwn}

-- the marks of all arrays among parameters
abbrev pub all_marks : List Param → Marks
all_marks ps = marks_in (map (λ p. p.kind) ps)

-- if no slot is only read, marks have no effect
none_owned : {X : Type 0} (marks : Marks) (xs : List X) → readers_in marks ≡ 0 → owned marks xs ≡ xs
none_owned [] xs h = refl
none_owned (true ∷ marks) xs h = cc
none_owned (false ∷ marks) [] h = refl
none_owned (false ∷ marks) (x ∷ xs) h = ap (λ l. x ∷ l) (none_owned marks xs h)

none_lent : {X : Type 0} (marks : Marks) (xs : List X) → readers_in marks ≡ 0 → lent marks xs ≡ []
none_lent [] xs h = refl
none_lent (true ∷ marks) xs h = cc
none_lent (false ∷ marks) [] h = refl
none_lent (false ∷ marks) (x ∷ xs) h = none_lent marks xs h

none_read : (marks : Marks) (s : ℕ) → readers_in marks ≡ 0 → is_read marks s ≡ false
none_read [] s h = refl
none_read (true ∷ marks) s h = cc
none_read (false ∷ marks) zero h = refl
none_read (false ∷ marks) (suc s) h = none_read marks s h

pub owned_same : {X : Type 0} (marks : Marks) (xs : List X) → owned (unless_none marks) xs ≡ owned marks xs
owned_same marks xs = test (readers_in marks == 0) refl
  where
    test : (b : Bool) → (readers_in marks == 0) ≡ b → owned (if b then [] else marks) xs ≡ owned marks xs
    test true e = sym (none_owned marks xs (eq_of (readers_in marks) 0 e))
    test false e = refl

pub lent_same : {X : Type 0} (marks : Marks) (xs : List X) → lent (unless_none marks) xs ≡ lent marks xs
lent_same marks xs = test (readers_in marks == 0) refl
  where
    test : (b : Bool) → (readers_in marks == 0) ≡ b → lent (if b then [] else marks) xs ≡ lent marks xs
    test true e = sym (none_lent marks xs (eq_of (readers_in marks) 0 e))
    test false e = refl

pub read_same : (marks : Marks) (s : ℕ) → is_read (unless_none marks) s ≡ is_read marks s
read_same marks s = test (readers_in marks == 0) refl
  where
    test : (b : Bool) → (readers_in marks == 0) ≡ b → is_read (if b then [] else marks) s ≡ is_read marks s
    test true e = sym (none_read marks s (eq_of (readers_in marks) 0 e))
    test false e = refl

pub count_same : (marks : Marks) → readers_in (unless_none marks) ≡ readers_in marks
count_same marks = test (readers_in marks == 0) refl
  where
    test : (b : Bool) → (readers_in marks == 0) ≡ b → readers_in (if b then [] else marks) ≡ readers_in marks
    test true e = sym (eq_of (readers_in marks) 0 e)
    test false e = refl

short_same : (marks : Marks) → length (unless_none marks) ≤ length marks
short_same marks = test (readers_in marks == 0)
  where
    test : (b : Bool) → length (if b then [] else marks) ≤ length marks
    test true = omega arith
    test false = omega arith

-- the number of marks is the number of arrays
all_short : (ps : List Param) → length (all_marks ps) ≡ length (locals_of ps).arrays
all_short [] = refl
all_short (p ∷ ps) = test p.kind (all_short ps)
  where
    test : (k : NameKind) → length (all_marks ps) ≡ length (locals_of ps).arrays →
        length (marks_in (k ∷ map (λ q. q.kind) ps)) ≡ length (map (λ (q : Param). q.name) (cond (is_array_kind k) (p ∷ filter (λ q. is_array_param q) ps) (filter (λ q. is_array_param q) ps)))
    test Integer more = more
    test Array more = ap suc more
    test Const more = ap suc more

pub marks_short : (ps : List Param) → length (marks_for ps) ≤ length (locals_of ps).arrays
marks_short ps = omega (arith, short_same (all_marks ps), all_short ps)

-- the parameters that are not only read are those that are taken
owned_params : (ps : List Param) → owned (all_marks ps) (locals_of ps).arrays ≡ taken_params ps
owned_params [] = refl
owned_params (p ∷ ps) = test p.kind (owned_params ps)
  where
    test : (k : NameKind) → owned (all_marks ps) (locals_of ps).arrays ≡ taken_params ps →
        owned (marks_in (k ∷ map (λ q. q.kind) ps)) (map (λ (q : Param). q.name) (cond (is_array_kind k) (p ∷ filter (λ q. is_array_param q) ps) (filter (λ q. is_array_param q) ps)))
        ≡ map (λ (q : Param). q.name) (cond (is_written_kind k) (p ∷ filter (λ q. takes_array q) ps) (filter (λ q. takes_array q) ps))
    test Integer more = more
    test Array more = ap (λ l. p.name ∷ l) more
    test Const more = more

pub params_owned : (ps : List Param) → owned (marks_for ps) (locals_of ps).arrays ≡ taken_params ps
params_owned ps = owned_same (all_marks ps) (locals_of ps).arrays ∙ owned_params ps

-- more names after the marked ones
owned_more : {X : Type 0} (marks : Marks) (xs more : List X) → length marks ≤ length xs → owned marks (xs ++ more) ≡ owned marks xs ++ more
owned_more [] xs more h = refl
owned_more (m ∷ marks) [] more h = absurd (omega (arith, h))
owned_more (true ∷ marks) (x ∷ xs) more h = owned_more marks xs more (omega (arith, h))
owned_more (false ∷ marks) (x ∷ xs) more h = ap (λ l. x ∷ l) (owned_more marks xs more (omega (arith, h)))

pub names_owned : (ps : List Param) (more : List Name) → owned (marks_for ps) ((locals_of ps).arrays ++ more) ≡ taken_params ps ++ more
names_owned ps more = owned_more (marks_for ps) (locals_of ps).arrays more (marks_short ps) ∙ ap (λ l. l ++ more) (params_owned ps)

-- the names of the entries whose slots are not only read
pub entries_names : {A : Type 0} (marks : Marks) (es : Entries A) → holding.names_in (owned marks es) ≡ owned marks (holding.names_in es)
entries_names [] es = refl
entries_names (m ∷ marks) [] = refl
entries_names (true ∷ marks) (e ∷ es) = entries_names marks es
entries_names (false ∷ marks) (e ∷ es) = ap (λ l. e.0 ∷ l) (entries_names marks es)

pub entries_values : {A : Type 0} (marks : Marks) (es : Entries A) → holding.values_in (owned marks es) ≡ owned marks (holding.values_in es)
entries_values [] es = refl
entries_values (m ∷ marks) [] = refl
entries_values (true ∷ marks) (e ∷ es) = entries_values marks es
entries_values (false ∷ marks) (e ∷ es) = ap (λ l. e.1 ∷ l) (entries_values marks es)

-- a name whose slot is not only read is found among the slots that are not only read
pub find_owned : {A : Type 0} (none : A) (marks : Marks) (q : Name) (es : Entries A) → IsOwn marks (slot_of q (holding.names_in es)) → find none q es ≡ find none q (owned marks es)
find_owned none [] q es h = refl
find_owned none (m ∷ marks) q [] h = refl
find_owned none (true ∷ marks) q (e ∷ es) h = test (find_owned none marks q es) (same_name q e.0) h
  where
    test : (IsOwn marks (slot_of q (holding.names_in es)) → find none q es ≡ find none q (owned marks es)) → (b : Bool)
        → is_read (true ∷ marks) (if b then 0 else suc (slot_of q (holding.names_in es))) ≡ false → (if b then e.1 else find none q es) ≡ find none q (owned marks es)
    test more true h' = cc
    test more false h' = more h'
find_owned none (false ∷ marks) q (e ∷ es) h = test (find_owned none marks q es) (same_name q e.0) h
  where
    test : (IsOwn marks (slot_of q (holding.names_in es)) → find none q es ≡ find none q (owned marks es)) → (b : Bool)
        → is_read (false ∷ marks) (if b then 0 else suc (slot_of q (holding.names_in es))) ≡ false
        → (if b then e.1 else find none q es) ≡ (if b then e.1 else find none q (owned marks es))
    test more true h' = refl
    test more false h' = more h'

pub owned_map : {X Y : Type 0} (f : X → Y) (marks : Marks) (xs : List X) → owned marks (map f xs) ≡ map f (owned marks xs)
owned_map f [] xs = refl
owned_map f (m ∷ marks) [] = refl
owned_map f (true ∷ marks) (x ∷ xs) = owned_map f marks xs
owned_map f (false ∷ marks) (x ∷ xs) = ap (λ l. f x ∷ l) (owned_map f marks xs)

pub lent_map : {X Y : Type 0} (f : X → Y) (marks : Marks) (xs : List X) → lent marks (map f xs) ≡ map f (lent marks xs)
lent_map f [] xs = refl
lent_map f (m ∷ marks) [] = refl
lent_map f (true ∷ marks) (x ∷ xs) = ap (λ l. f x ∷ l) (lent_map f marks xs)
lent_map f (false ∷ marks) (x ∷ xs) = lent_map f marks xs

-- the arrays of a call that are given away, and the arrays that are only read
all_given : (marks : Marks) (locals : Locals) (taken : Taken) (ps : List Param) (es : List Expr) → ArgsFine marks locals taken ps es → owned (all_marks ps) (arrays_named ps es) ≡ arrays_given ps es
all_given marks locals taken [] [] fine = refl
all_given marks locals taken [] (e ∷ es) fine = absurd fine
all_given marks locals taken (p ∷ ps) [] fine = absurd fine
all_given marks locals taken (p ∷ ps) (e ∷ es) fine = one p.kind e fine.0 (all_given marks locals taken ps es fine.1)
  where
    one : (k : NameKind) (e : Expr) → ArgFine k marks locals taken e → owned (all_marks ps) (arrays_named ps es) ≡ arrays_given ps es →
        owned (marks_in (k ∷ map (λ q. q.kind) ps)) ((if is_array_kind k then names_in e else []) ++ arrays_named ps es) ≡ (if is_written_kind k then names_in e else []) ++ arrays_given ps es
    one Integer e h more = more
    one Array (Variable a) h more = ap (λ l. a ∷ l) more
    one Array _ h more = absurd h
    one Const (Variable a) h more = more
    one Const _ h more = absurd h

all_lent : (marks : Marks) (locals : Locals) (taken : Taken) (ps : List Param) (es : List Expr) → ArgsFine marks locals taken ps es → lent (all_marks ps) (arrays_named ps es) ≡ arrays_lent ps es
all_lent marks locals taken [] [] fine = refl
all_lent marks locals taken [] (e ∷ es) fine = absurd fine
all_lent marks locals taken (p ∷ ps) [] fine = absurd fine
all_lent marks locals taken (p ∷ ps) (e ∷ es) fine = one p.kind e fine.0 (all_lent marks locals taken ps es fine.1)
  where
    one : (k : NameKind) (e : Expr) → ArgFine k marks locals taken e → lent (all_marks ps) (arrays_named ps es) ≡ arrays_lent ps es →
        lent (marks_in (k ∷ map (λ q. q.kind) ps)) ((if is_array_kind k then names_in e else []) ++ arrays_named ps es) ≡ (if is_const_kind k then names_in e else []) ++ arrays_lent ps es
    one Integer e h more = more
    one Array (Variable a) h more = more
    one Array _ h more = absurd h
    one Const (Variable a) h more = ap (λ l. a ∷ l) more
    one Const _ h more = absurd h

pub owned_args : {X : Type 0} (f : Name → X) (marks : Marks) (locals : Locals) (taken : Taken) (ps : List Param) (es : List Expr) → ArgsFine marks locals taken ps es →
    owned (marks_for ps) (map f (arrays_named ps es)) ≡ map f (arrays_given ps es)
owned_args f marks locals taken ps es fine =
    owned_same (all_marks ps) (map f (arrays_named ps es)) ∙ owned_map f (all_marks ps) (arrays_named ps es) ∙ ap (map f) (all_given marks locals taken ps es fine)

pub lent_args : {X : Type 0} (f : Name → X) (marks : Marks) (locals : Locals) (taken : Taken) (ps : List Param) (es : List Expr) → ArgsFine marks locals taken ps es →
    lent (marks_for ps) (map f (arrays_named ps es)) ≡ map f (arrays_lent ps es)
lent_args f marks locals taken ps es fine =
    lent_same (all_marks ps) (map f (arrays_named ps es)) ∙ lent_map f (all_marks ps) (arrays_named ps es) ∙ ap (map f) (all_lent marks locals taken ps es fine)

-- the number of arrays among arguments is the number of array parameters
pub as_many_named : (marks : Marks) (locals : Locals) (taken : Taken) (ps : List Param) (es : List Expr) → ArgsFine marks locals taken ps es
    → length (arrays_named ps es) ≡ length (locals_of ps).arrays
as_many_named marks locals taken [] [] fine = refl
as_many_named marks locals taken [] (e ∷ es) fine = absurd fine
as_many_named marks locals taken (p ∷ ps) [] fine = absurd fine
as_many_named marks locals taken (p ∷ ps) (e ∷ es) fine = one p.kind e fine.0 (as_many_named marks locals taken ps es fine.1)
  where
    one : (k : NameKind) (e : Expr) → ArgFine k marks locals taken e → length (arrays_named ps es) ≡ length (locals_of ps).arrays →
        length ((if is_array_kind k then names_in e else []) ++ arrays_named ps es)
        ≡ length (map (λ (q : Param). q.name) (cond (is_array_kind k) (p ∷ filter (λ q. is_array_param q) ps) (filter (λ q. is_array_param q) ps)))
    one Integer e h more = more
    one Array (Variable a) h more = ap suc more
    one Array _ h more = absurd h
    one Const (Variable a) h more = ap suc more
    one Const _ h more = absurd h

-- the slot of an array that is taken is not only read, if names are distinct
all_own : (ps : List Param) (q : Name) → differ (map (λ p. p.name) ps) ≡ true → is_among q (taken_params ps) ≡ true → IsOwn (all_marks ps) (slot_of q (locals_of ps).arrays)
all_own [] q apart h = cc
all_own (p ∷ ps) q apart h =
    one p.kind (not_true (is_among p.name (map (λ (z : Param). z.name) ps)) (first_true (not (is_among p.name (map (λ (z : Param). z.name) ps))) (differ (map (λ (z : Param). z.name) ps)) apart))
    (all_own ps q (second_true (not (is_among p.name (map (λ (z : Param). z.name) ps))) (differ (map (λ (z : Param). z.name) ps)) apart)) h
  where
    one : (k : NameKind) → is_among p.name (map (λ (z : Param). z.name) ps) ≡ false → (is_among q (taken_params ps) ≡ true → IsOwn (all_marks ps) (slot_of q (locals_of ps).arrays)) →
        is_among q (map (λ (z : Param). z.name) (cond (is_written_kind k) (p ∷ filter (λ z. takes_array z) ps) (filter (λ z. takes_array z) ps))) ≡ true →
        IsOwn (marks_in (k ∷ map (λ z. z.kind) ps)) (slot_of q (map (λ (z : Param). z.name) (cond (is_array_kind k) (p ∷ filter (λ z. is_array_param z) ps) (filter (λ z. is_array_param z) ps))))
    one Integer new more h' = more h'
    one Array new more h' = test (same_name q p.name) h'
      where
        test : (b : Bool) → (if b then true else is_among q (taken_params ps)) ≡ true → is_read (false ∷ all_marks ps) (if b then 0 else suc (slot_of q (locals_of ps).arrays)) ≡ false
        test true h'' = refl
        test false h'' = more h''
    one Const new more h' = test (same_name q p.name) refl
      where
        test : (b : Bool) → same_name q p.name ≡ b → is_read (true ∷ all_marks ps) (if b then 0 else suc (slot_of q (locals_of ps).arrays)) ≡ false
        test true e =
            let other : is_among q (map (λ (z : Param). z.name) ps) ≡ false = ap (λ x. is_among x (map (λ (z : Param). z.name) ps)) ((bytes_eq-Decides q p.name).0 e) ∙ new in
            absurd (true≢false (sym h' ∙ none_of_some (λ z. takes_array z) q ps other))
        test false e = more h'

pub taken_own : (ps : List Param) (q : Name) → differ (map (λ p. p.name) ps) ≡ true → is_among q (taken_params ps) ≡ true → IsOwn (marks_for ps) (slot_of q (locals_of ps).arrays)
taken_own ps q apart h = read_same (all_marks ps) (slot_of q (locals_of ps).arrays) ∙ all_own ps q apart h

-- the number of integer parameters
pub counted_ints : (ps : List Param) → length (locals_of ps).ints ≡ count_ints (map (λ p. p.kind) ps)
counted_ints [] = refl
counted_ints (p ∷ ps) = test p.kind (counted_ints ps)
  where
    test : (k : NameKind) → length (locals_of ps).ints ≡ count_ints (map (λ p. p.kind) ps) →
        length (map (λ (q : Param). q.name) (cond (not (is_array_kind k)) (p ∷ filter (λ q. not (is_array_param q)) ps)
        (filter (λ q. not (is_array_param q)) ps))) ≡ length (cond (is_integer_kind k) (k ∷ filter is_integer_kind (map (λ p. p.kind) ps))
        (filter is_integer_kind (map (λ p. p.kind) ps)))
    test Integer more = ap suc more
    test Array more = more
    test Const more = more

pub counted_arrays : (ps : List Param) → length (locals_of ps).arrays ≡ count_arrays (map (λ p. p.kind) ps)
counted_arrays [] = refl
counted_arrays (p ∷ ps) = test p.kind (counted_arrays ps)
  where
    test : (k : NameKind) → length (locals_of ps).arrays ≡ count_arrays (map (λ p. p.kind) ps) →
        length (map (λ (q : Param). q.name) (cond (is_array_kind k) (p ∷ filter (λ q. is_array_param q) ps) (filter (λ q. is_array_param q) ps)))
        ≡ length (cond (is_array_kind k) (k ∷ filter is_array_kind (map (λ p. p.kind) ps)) (filter is_array_kind (map (λ p. p.kind) ps)))
    test Integer more = more
    test Array more = ap suc more
    test Const more = ap suc more

pub counted_taken : (ps : List Param) → length (taken_params ps) ≡ count_taken (map (λ p. p.kind) ps)
counted_taken [] = refl
counted_taken (p ∷ ps) = test p.kind (counted_taken ps)
  where
    test : (k : NameKind) → length (taken_params ps) ≡ count_taken (map (λ p. p.kind) ps) →
        length (map (λ (q : Param). q.name) (cond (is_written_kind k) (p ∷ filter (λ q. takes_array q) ps) (filter (λ q. takes_array q) ps)))
        ≡ length (cond (is_written_kind k) (k ∷ filter is_written_kind (map (λ p. p.kind) ps)) (filter is_written_kind (map (λ p. p.kind) ps)))
    test Integer more = more
    test Array more = ap suc more
    test Const more = more

all_readers : (kinds : List NameKind) → readers_in (marks_in kinds) ≡ count_readers kinds
all_readers [] = refl
all_readers (k ∷ kinds) = test k (all_readers kinds)
  where
    test : (k : NameKind) → readers_in (marks_in kinds) ≡ count_readers kinds
        → readers_in (marks_in (k ∷ kinds)) ≡ length (cond (is_const_kind k) (k ∷ filter is_const_kind kinds) (filter is_const_kind kinds))
    test Integer more = more
    test Array more = more
    test Const more = ap suc more

pub counted_readers : (ps : List Param) → readers_in (marks_for ps) ≡ count_readers (map (λ p. p.kind) ps)
counted_readers ps = count_same (all_marks ps) ∙ all_readers (map (λ p. p.kind) ps)

-- an array parameter is taken or only read
pub both_counted : (kinds : List NameKind) → count_taken kinds + count_readers kinds ≡ count_arrays kinds
both_counted [] = refl
both_counted (k ∷ kinds) = test k (both_counted kinds)
  where
    test : (k : NameKind) → count_taken kinds + count_readers kinds ≡ count_arrays kinds →
        length (cond (is_written_kind k) (k ∷ filter is_written_kind kinds) (filter is_written_kind kinds))
        + length (cond (is_const_kind k) (k ∷ filter is_const_kind kinds) (filter is_const_kind kinds))
        ≡ length (cond (is_array_kind k) (k ∷ filter is_array_kind kinds) (filter is_array_kind kinds))
    test Integer more = more
    test Array more = omega (arith, more)
    test Const more = omega (arith, more)

-- an array that is taken is an array
pub among_arrays : (q : Name) (ps : List Param) → is_among q (taken_params ps) ≡ true → is_among q (locals_of ps).arrays ≡ true
among_arrays q [] h = cc
among_arrays q (p ∷ ps) h = one p.kind h (among_arrays q ps)
  where
    one : (k : NameKind) → is_among q (map (λ (z : Param). z.name) (cond (is_written_kind k) (p ∷ filter (λ z. takes_array z) ps)
        (filter (λ z. takes_array z) ps))) ≡ true → (is_among q (taken_params ps) ≡ true → is_among q (locals_of ps).arrays ≡ true) →
        is_among q (map (λ (z : Param). z.name) (cond (is_array_kind k) (p ∷ filter (λ z. is_array_param z) ps) (filter (λ z. is_array_param z) ps))) ≡ true
    one Integer h' more = more h'
    one Array h' more = test (same_name q p.name) h'
      where
        test : (b : Bool) → (if b then true else is_among q (taken_params ps)) ≡ true → (if b then true else is_among q (locals_of ps).arrays) ≡ true
        test true h'' = refl
        test false h'' = more h''
    one Const h' more = test (same_name q p.name) (more h')
      where
        test : (b : Bool) → is_among q (locals_of ps).arrays ≡ true → (if b then true else is_among q (locals_of ps).arrays) ≡ true
        test true h'' = refl
        test false h'' = h''
