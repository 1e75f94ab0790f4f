-- The locals held after a statement and after a block, by names and by slots.
use Rattle.std.proofs.Common.{◌≡◌, ℕ, pos, ◌+◌, ◌≤◌, ◌==◌, nat_lt, Bool, true, false, not, ◌&&◌, ◌||◌, if◌then◌else◌, List, [], ◌∷◌, ◌++◌}
use Rattle.std.proofs.Common.{length, map, Option, Some, None, option_map, ◌⊎◌, inl, inr, ⊎_elim, subst, refl, sym, ap, ◌∙◌}
use Rattle.std.specs.List.{list_all}
use Rattle.std.proofs.Math.Bool.{and-false, or_comm}
use Rattle.cw_facts.specs.Tests.{neither_first, neither_second, not_lt_of, not_true, first_true, second_true}
use Rattle.cw_model.specs.declared.syntax.CallKind.TheVariants.{Plain, Spawned}
use Rattle.cw_model.specs.declared.syntax.NameKind.{NameKind}
use Rattle.cw_model.specs.declared.syntax.NameKind.TheVariants as name_kind
use Rattle.cw_model.specs.lemmas.Fits.{writable_array}
use Rattle.cw_model.specs.Syntax.{is_const_kind, is_written_kind, Name, Param, Function, Program, Expr, Number, Variable, Element, Length, Negative, Not, Binary, Stmt, Declare, DeclareArray}
use Rattle.cw_model.specs.Syntax.{Assign, AssignElement, Reduce, Call, Start, Begin, Sync, If, IfElse, While, For, Scope, Cut, Region, Print, Return, Block, End, Then}
use Rattle.cw_model.specs.Lines.{unless}
use Rattle.cw_model.specs.Names.{same_name, is_among}
use Rattle.cw_model.specs.Answers.{main_name}
use Rattle.cw_model.specs.Meaning.{function_named}
use Rattle.cw_model.specs.Typing.{Known, Returns, Nowhere, is_int, is_array, is_writable, is_new, globals, is_fine, is_argument, are_arguments, called, is_target}
use Rattle.cw_model.specs.Typing.{is_call, declares, surely_returns, block_returns, ends_block, is_head_of_loop, is_cut, faults_in, faults_in_block}
use Rattle.cw_model.specs.Ownership.{arrays_lent, lent, frozen_by, ReaderIn, Holder, SpawnIn, CutOf, Taken, freed, without, names_in, arrays_given}
use Rattle.cw_model.specs.Ownership.{given, target_names, taken_by, where_it_goes_on, own_names, taken_after, taken_after_all}
use Rattle.cw_model.specs.lemmas.Kept.{left_none, right_none, kept}
use Rattle.cw_model.specs.lemmas.Names.{turned}
use Rattle.cw_tree.specs.Resolved.{Locals, Lists, slot_of, use_of, resolved_expr, resolved_argument, resolved_arguments}
use Rattle.cw_tree.specs.Resolved as spec
use Rattle.cw_tree.specs.lemmas.Names.{called_is}
use Rattle.cw_own.specs.Sets.{Slots, with_slot, Row, no_local, either_row, both_rows}
use Rattle.cw_own.specs.Taken.{Restrictions, no_restrictions, taking_int, taking_array, freezing, either_restrictions, restrictions_within, with_target, with_arrays, known_after, after, after_all, gain, cuts_after, cuts_after_all}
use Rattle.cw_own.proofs.Words.{or_swap, none_of_both}
use Rattle.cw_own.proofs.Keeping.{same_rows, same_held, turn_law, cuts_stay, no_more, no_more_all}
use Rattle.cw_own.proofs.Holding.{held, held_without}
use Rattle.cw_own.proofs.Holding as holding
use Rattle.cw_own.proofs.Showing.{shows_as, shows_row, shows_none, known_row}
use Rattle.cw_own.proofs.Knowing.{Knows, fresh_name, knows_int, knows_array, known_int, known_array}
use Rattle.cw_own.proofs.Following.{part, all_of, Holds, Steady, entered, steady_inside, holds_int, holds_array, holds_frozen, holds_either}
use Rattle.cw_own.proofs.Following.{holds_freed, holds_inside, holds_left, holds_push_int, holds_push_array, holds_cut, holds_uncut}
use Rattle.cw_own.proofs.Ending.{all_locals, drop_block}
use Rattle.cw_own.proofs.Returning.{none_after_all, no_return}

-- the locals held from outside, for each set of holders
abbrev pub Outside : Type 0
Outside = (Holder → Bool) → Row

-- a return occurs only at the top level of a function, where nothing is held from outside
abbrev pub AtTop : Returns → Outside → Slots → Type 0
AtTop returns outside cuts = (returns ≡ Nowhere) ⊎ (((p : Holder → Bool) → outside p ≡ no_local) × ((k : ℕ) → cuts k ≡ false))

-- taking an integer commutes with passing arrays
int_later : (es : List spec.Argument) (slot : ℕ) (row : Restrictions) → with_arrays es (taking_int slot row) ≡ taking_int slot (with_arrays es row)
int_later [] slot row = refl
int_later (spec.Int e ∷ es) slot row = int_later es slot row
int_later (spec.Array u ∷ es) slot row = int_later es slot (taking_array u.slot row)
int_later (spec.Shared u ∷ es) slot row = int_later es slot (freezing u.slot row)

array_later : (es : List spec.Argument) (slot : ℕ) (row : Restrictions) → with_arrays es (taking_array slot row) ≡ taking_array slot (with_arrays es row)
array_later [] slot row = refl
array_later (spec.Int e ∷ es) slot row = array_later es slot row
array_later (spec.Array u ∷ es) slot row =
    ap (with_arrays es) (same_held (taking_array u.slot (taking_array slot row)) (taking_array slot (taking_array u.slot row)) (λ k. refl)
    (λ k. or_swap (k == u.slot) (k == slot) (row.arrays k)) (λ k. refl))
    ∙ array_later es slot (taking_array u.slot row)
array_later (spec.Shared u ∷ es) slot row = array_later es slot (freezing u.slot row)

frozen_later : (es : List spec.Argument) (slot : ℕ) (row : Restrictions) → with_arrays es (freezing slot row) ≡ freezing slot (with_arrays es row)
frozen_later [] slot row = refl
frozen_later (spec.Int e ∷ es) slot row = frozen_later es slot row
frozen_later (spec.Array u ∷ es) slot row = frozen_later es slot (taking_array u.slot row)
frozen_later (spec.Shared u ∷ es) slot row =
    ap (with_arrays es) (same_held (freezing u.slot (freezing slot row)) (freezing slot (freezing u.slot row)) (λ k. refl) (λ k. refl) (λ k. or_swap (k == u.slot) (k == slot) (row.frozen k)))
    ∙ frozen_later es slot (freezing u.slot row)

-- an integer variable as an argument is not an array
pub int_argument : (known : Known) (locals : Locals) (ps : List Param) (e : Expr) → Knows known locals → is_fine known e ≡ true → resolved_argument locals ps e ≡ spec.Int (resolved_expr locals e)
int_argument known locals ps (Number n) k h = refl
int_argument known locals ps (Variable x) k h = ap (λ b. if b then spec.passed_to ps (use_of locals.arrays x) else spec.Int (spec.Variable (use_of locals.ints x))) (k.apart x (k.ints x h))
int_argument known locals ps (Element a e) k h = refl
int_argument known locals ps (Length a) k h = refl
int_argument known locals ps (Negative e) k h = refl
int_argument known locals ps (Not e) k h = refl
int_argument known locals ps (Binary o d e) k h = refl

pub array_argument : (known : Known) (locals : Locals) (ps : List Param) (a : Name) → Knows known locals → is_array known a ≡ true
    → resolved_argument locals ps (Variable a) ≡ spec.passed_to ps (use_of locals.arrays a)
array_argument known locals ps a k h = ap (λ b. if b then spec.passed_to ps (use_of locals.arrays a) else spec.Int (spec.Variable (use_of locals.ints a))) (k.arrays a h)

-- a parameter with this name and this kind
abbrev pub param : Name → NameKind → Param
param name kind = record { name = name; kind = kind }

-- a taken name may be recorded before the frozen names
holds_among : (locals : Locals) (depth : ℕ) (outside : Outside) (xs : List Name) (t : Name × Holder) (taken : Taken) (here : Restrictions) (cuts : Slots) →
    Holds locals depth outside (t ∷ frozen_by depth xs taken) here cuts → Holds locals depth outside (frozen_by depth xs (t ∷ taken)) here cuts
holds_among locals depth outside xs t taken here cuts h p =
    shows_as locals (held p (t ∷ frozen_by depth xs taken)) (held p (frozen_by depth xs (t ∷ taken))) _ (moved xs) (h p)
  where
    moved : (xs : List Name) (z : Name) → held p (frozen_by depth xs (t ∷ taken)) z ≡ held p (t ∷ frozen_by depth xs taken) z
    moved [] z = refl
    moved (x ∷ xs) z =
        ap (λ b. (same_name z x && p (ReaderIn depth)) || b) (moved xs z)
        ∙ or_swap (same_name z x && p (ReaderIn depth)) (same_name z t.0 && p t.1) (held p (frozen_by depth xs taken) z)

holds_given : (known : Known) (locals : Locals) (depth : ℕ) (outside : Outside) (ps : List Param) (es : List Expr) (taken : Taken) (here : Restrictions) (cuts : Slots) → Knows known locals →
    are_arguments known ps es ≡ true → Holds locals depth outside taken here cuts →
    Holds locals depth outside (frozen_by depth (arrays_lent ps es) (taken_by depth (arrays_given ps es) taken)) (with_arrays (resolved_arguments locals ps es) here) cuts
holds_given known locals depth outside [] [] taken here cuts k h held = held
holds_given known locals depth outside [] (e ∷ es) taken here cuts k h held = cc
holds_given known locals depth outside (p ∷ ps) [] taken here cuts k h held = cc
holds_given known locals depth outside (p ∷ ps) (e ∷ es) taken here cuts k h held =
    by p.kind e (first_true (is_argument known p.kind e) (are_arguments known ps es) h)
    (holds_given known locals depth outside ps es taken here cuts k (second_true (is_argument known p.kind e) (are_arguments known ps es) h) held)
  where
    by : (kind : NameKind) (e : Expr) → is_argument known kind e ≡ true →
        Holds locals depth outside (frozen_by depth (arrays_lent ps es) (taken_by depth (arrays_given ps es) taken)) (with_arrays (resolved_arguments locals ps es) here) cuts →
        Holds locals depth outside
        (frozen_by depth ((if is_const_kind kind then names_in e else []) ++ arrays_lent ps es) (taken_by depth ((if is_written_kind kind then names_in e else []) ++ arrays_given ps es) taken))
        (with_arrays (resolved_argument locals (param p.name kind ∷ ps) e ∷ resolved_arguments locals ps es) here) cuts
    by name_kind.Integer e h more =
        subst (λ a. Holds locals depth outside (frozen_by depth (arrays_lent ps es) (taken_by depth (arrays_given ps es) taken)) (with_arrays (a ∷ resolved_arguments locals ps es) here) cuts)
        (sym (int_argument known locals (param p.name name_kind.Integer ∷ ps) e k h)) more
    by name_kind.Array (Variable a) h more =
        let array = writable_array known a h in
        subst (λ u. Holds locals depth outside (frozen_by depth (arrays_lent ps es) (taken_by depth (a ∷ arrays_given ps es) taken)) (with_arrays (u ∷ resolved_arguments locals ps es) here) cuts)
        (sym (array_argument known locals (param p.name name_kind.Array ∷ ps) a k array))
        (subst (λ r. Holds locals depth outside (frozen_by depth (arrays_lent ps es) (taken_by depth (a ∷ arrays_given ps es) taken)) r cuts)
        (sym (array_later (resolved_arguments locals ps es) (slot_of a locals.arrays) here))
        (holds_among locals depth outside (arrays_lent ps es) (a, SpawnIn depth) (taken_by depth (arrays_given ps es) taken)
        (taking_array (slot_of a locals.arrays) (with_arrays (resolved_arguments locals ps es) here)) cuts
        (holds_array locals depth outside (frozen_by depth (arrays_lent ps es) (taken_by depth (arrays_given ps es) taken))
        (with_arrays (resolved_arguments locals ps es) here) cuts a (k.arrays a array) more)))
    by name_kind.Const (Variable a) h more =
        subst (λ u. Holds locals depth outside (frozen_by depth (a ∷ arrays_lent ps es) (taken_by depth (arrays_given ps es) taken)) (with_arrays (u ∷ resolved_arguments locals ps es) here) cuts)
        (sym (array_argument known locals (param p.name name_kind.Const ∷ ps) a k h))
        (subst (λ r. Holds locals depth outside (frozen_by depth (a ∷ arrays_lent ps es) (taken_by depth (arrays_given ps es) taken)) r cuts)
        (sym (frozen_later (resolved_arguments locals ps es) (slot_of a locals.arrays) here))
        (holds_frozen locals depth outside (frozen_by depth (arrays_lent ps es) (taken_by depth (arrays_given ps es) taken))
        (with_arrays (resolved_arguments locals ps es) here) cuts a (k.arrays a h) more))
    by name_kind.Array (Number n) h more = cc
    by name_kind.Array (Element a e) h more = cc
    by name_kind.Array (Length a) h more = cc
    by name_kind.Array (Negative e) h more = cc
    by name_kind.Array (Not e) h more = cc
    by name_kind.Array (Binary o d e) h more = cc
    by name_kind.Const (Number n) h more = cc
    by name_kind.Const (Element a e) h more = cc
    by name_kind.Const (Length a) h more = cc
    by name_kind.Const (Negative e) h more = cc
    by name_kind.Const (Not e) h more = cc
    by name_kind.Const (Binary o d e) h more = cc

holds_call : (known : Known) (locals : Locals) (depth : ℕ) (outside : Outside) (fs : List Function) (target : Option Name) (f : Name)
    (es : List Expr) (taken : Taken) (here : Restrictions) (cuts : Slots) → Knows known locals →
    is_call known target (called f fs) es ≡ true → Holds locals depth outside taken here cuts →
    Holds locals depth outside (frozen_by depth (lent fs f es) (taken_by depth (target_names target ++ given fs f es) taken))
    (with_arrays (resolved_arguments locals (function_named f fs).params es) (with_target (option_map (use_of locals.ints) target) here)) cuts
holds_call known locals depth outside fs target f es taken here cuts k h held = by (called f fs) refl h
  where
    into : (g : Function) (target : Option Name) → is_target known g target ≡ true → are_arguments known g.params es ≡ true →
        Holds locals depth outside (frozen_by depth (arrays_lent g.params es)
        (taken_by depth (target_names target ++ arrays_given g.params es) taken))
        (with_arrays (resolved_arguments locals g.params es) (with_target (option_map (use_of locals.ints) target) here)) cuts
    into g None t a = holds_given known locals depth outside g.params es taken here cuts k a held
    into g (Some x) t a =
        let there = k.ints x (first_true (is_int known x) g.gives_int t) in
        subst (λ r. Holds locals depth outside (frozen_by depth (arrays_lent g.params es) (taken_by depth (x ∷ arrays_given g.params es) taken)) r
        cuts) (sym (int_later (resolved_arguments locals g.params es) (slot_of x locals.ints) here))
        (holds_among locals depth outside (arrays_lent g.params es) (x, SpawnIn depth) (taken_by depth (arrays_given g.params es) taken)
        (taking_int (slot_of x locals.ints) (with_arrays (resolved_arguments locals g.params es) here)) cuts
        (holds_int locals depth outside (frozen_by depth (arrays_lent g.params es) (taken_by depth (arrays_given g.params es) taken))
        (with_arrays (resolved_arguments locals g.params es) here) cuts x there
        (holds_given known locals depth outside g.params es taken here cuts k a held)))

    by : (g : Option Function) → called f fs ≡ g → is_call known target g es ≡ true →
        Holds locals depth outside (frozen_by depth (lent fs f es) (taken_by depth (target_names target ++ given fs f es) taken))
        (with_arrays (resolved_arguments locals (function_named f fs).params es) (with_target (option_map (use_of locals.ints) target) here)) cuts
    by None e h = cc
    by (Some g) e h =
        let two = first_true (is_target known g target && are_arguments known g.params es) (not (same_name g.name main_name)) h in
        subst (λ (d : Function). Holds locals depth outside (frozen_by depth (arrays_lent d.params es)
        (taken_by depth (target_names target ++ arrays_given d.params es) taken))
        (with_arrays (resolved_arguments locals d.params es) (with_target (option_map (use_of locals.ints) target) here)) cuts)
        (sym (called_is f fs g e))
        (into g target (first_true (is_target known g target) (are_arguments known g.params es) two) (second_true (is_target known g target) (are_arguments known g.params es) two))

pub still_none : (a b : Bool) → (a ≡ true → b ≡ true) → b ≡ false → a ≡ false
still_none true b f h = let g = f refl in cc
still_none false b f h = refl

masked_ints : (k n : ℕ) (r q h : Bool) → (n ≤ k → r ≡ false) → (nat_lt k n && (r || (q && h))) ≡ (r || (q && (nat_lt k n && h)))
masked_ints k n r q h free = by (nat_lt k n) refl
  where
    by : (b : Bool) → nat_lt k n ≡ b → (b && (r || (q && h))) ≡ (r || (q && (b && h)))
    by true e = refl
    by false e = sym (ap (λ r. r || (q && false)) (free (not_lt_of k n e)) ∙ and-false q)

pub all_none : (q d c : Bool) → (((q && false) || (d && false)) || (c && false)) ≡ false
all_none q d c = ap (λ x. (x || (d && false)) || (c && false)) (and-false q) ∙ ap (λ x. x || (c && false)) (and-false d) ∙ and-false c

masked_arrays : (k n : ℕ) (r q h d f c u : Bool) → (n ≤ k → r ≡ false) → (n ≤ k → u ≡ false) →
    (nat_lt k n && (r || (((q && h) || (d && f)) || (c && u)))) ≡ (r || (((q && (nat_lt k n && h)) || (d && (nat_lt k n && f))) || (c && u)))
masked_arrays k n r q h d f c u free none = by (nat_lt k n) refl
  where
    by : (b : Bool) → nat_lt k n ≡ b → (b && (r || (((q && h) || (d && f)) || (c && u)))) ≡ (r || (((q && (b && h)) || (d && (b && f))) || (c && u)))
    by true e = refl
    by false e = sym (ap (λ r. r || (((q && false) || (d && false)) || (c && u))) (free (not_lt_of k n e))
        ∙ ap (λ u. ((q && false) || (d && false)) || (c && u)) (none (not_lt_of k n e)) ∙ all_none q d c)

-- the names of a block are not held after it
pub holds_end : (program : Program) (returns : Returns) (known : Known) (locals : Locals) (depth : ℕ) (outside : Outside) (b : Block)
    (before : Taken) (here : Restrictions) (cuts : Slots) (taken : Taken) (row : Restrictions) (less : Slots) →
    Knows known locals → faults_in_block program returns known b ≡ [] → Holds locals depth outside before here cuts → ((k : ℕ) → less k ≡ true → cuts k ≡ true) →
    Holds (all_locals locals b) depth outside taken row less → Holds locals depth outside (without (own_names b) taken) (restrictions_within (known_row locals) row) less
holds_end program returns known locals depth outside b before here cuts taken row less k fine entry fewer last p =
    shows_as locals (λ x. not (is_among x (own_names b)) && held p taken x) (held p (without (own_names b) taken)) _ (held_without (own_names b) p taken)
    (shows_row locals (λ x. not (is_among x (own_names b)) && held p taken x) (both_rows (known_row locals) (all_of p depth outside row less))
    (all_of p depth outside (restrictions_within (known_row locals) row) less)
    (same_rows (both_rows (known_row locals) (all_of p depth outside row less)) (all_of p depth outside (restrictions_within (known_row locals) row) less)
    (λ k. masked_ints k (length locals.ints) ((outside p).ints k) (p (SpawnIn depth)) (row.ints k) (λ le. neither_first ((outside p).ints k) _ ((entry p).ints_end k le)))
    (λ k. masked_arrays k (length locals.arrays) ((outside p).arrays k) (p (SpawnIn depth)) (row.arrays k) (p (ReaderIn depth)) (row.frozen k) (p CutOf) (less k)
    (λ le. neither_first ((outside p).arrays k) _ ((entry p).arrays_end k le))
    (λ le. still_none (less k) (cuts k) (fewer k) (neither_second ((outside holding.is_cut).arrays k) (cuts k) ((entry holding.is_cut).arrays_end k le)))))
    (drop_block program returns known locals b (held p taken) (all_of p depth outside row less) k fine (last p)))

-- the locals held after a branch
pub holds_goes : (program : Program) (lists : Lists) (returns : Returns) (known : Known) (locals : Locals) (depth : ℕ) (outside : Outside) (b : Block) (here : Restrictions) (cuts : Slots) (taken : Taken) →
    AtTop returns outside cuts → faults_in_block program returns known b ≡ [] →
    Holds locals depth outside taken (restrictions_within (known_row locals) (after_all (known_row locals) (spec.resolved_block lists locals b) here))
    (cuts_after_all (spec.resolved_block lists locals b) cuts) →
    Holds locals depth outside (where_it_goes_on (block_returns b) taken)
    (restrictions_within (known_row locals) (after_all (known_row locals) (spec.resolved_block lists locals b) here))
    (cuts_after_all (spec.resolved_block lists locals b) cuts)
holds_goes program lists returns known locals depth outside b here cuts taken top fine last = by (block_returns b) refl
  where
    none_and : (q d n c : Bool) → (((q && (n && false)) || (d && (n && false))) || (c && false)) ≡ false
    none_and q d n c = ap (λ x. ((q && x) || (d && x)) || (c && false)) (and-false n) ∙ all_none q d c

    nothing : block_returns b ≡ true → ((p : Holder → Bool) → outside p ≡ no_local) × ((k : ℕ) → cuts k ≡ false) →
        Holds locals depth outside [] (restrictions_within (known_row locals) (after_all (known_row locals) (spec.resolved_block lists locals b) here))
        (cuts_after_all (spec.resolved_block lists locals b) cuts)
    nothing e none p =
        let row = after_all (known_row locals) (spec.resolved_block lists locals b) here in
        let less = cuts_after_all (spec.resolved_block lists locals b) cuts in
        shows_row locals (λ x. false) no_local (all_of p depth outside (restrictions_within (known_row locals) row) less)
        (sym (ap (λ r. either_row r (part p depth (restrictions_within (known_row locals) row) less)) (none.0 p)
        ∙ ap (λ r. either_row no_local (part p depth (restrictions_within (known_row locals) r) less)) (none_after_all lists locals (known_row locals) here b e)
        ∙ same_rows (either_row no_local (part p depth (restrictions_within (known_row locals) no_restrictions) less)) no_local
        (λ k. none_of_both (p (SpawnIn depth)) (nat_lt k (length locals.ints)))
        (λ k. ap (λ u. ((p (SpawnIn depth) && (nat_lt k (length locals.arrays) && false))
        || (p (ReaderIn depth) && (nat_lt k (length locals.arrays) && false))) || (p CutOf && u))
        (still_none (less k) (cuts k) (no_more_all (spec.resolved_block lists locals b) cuts k) (none.1 k))
        ∙ none_and (p (SpawnIn depth)) (p (ReaderIn depth)) (nat_lt k (length locals.arrays)) (p CutOf))))
        (shows_none locals)

    by : (r : Bool) → block_returns b ≡ r → Holds locals depth outside (where_it_goes_on r taken)
        (restrictions_within (known_row locals) (after_all (known_row locals) (spec.resolved_block lists locals b) here))
        (cuts_after_all (spec.resolved_block lists locals b) cuts)
    by false e = last
    by true e = ⊎_elim
        (λ nowhere. let f : block_returns b ≡ false = no_return program known b (subst (λ r. faults_in_block program r known b ≡ []) nowhere fine) in absurd (cc (e, f)))
        (λ none. nothing e none) top

-- the known locals after a statement
pub known_next : (lists : Lists) (locals : Locals) (s : Stmt) → known_after (known_row locals) (spec.resolved_stmt lists locals s) ≡ known_row (spec.locals_after locals s)
known_next lists locals (Declare x e) = sym (known_int locals x)
known_next lists locals (DeclareArray a e) = sym (known_array locals a)
known_next lists locals (Assign x e) = refl
known_next lists locals (AssignElement x i e) = refl
known_next lists locals (Reduce how x e) = refl
known_next lists locals (Call kind site target f es) = refl
known_next lists locals (Start kind f es) = refl
known_next lists locals (Begin f from to captured over) = refl
known_next lists locals Sync = refl
known_next lists locals (If e c) = refl
known_next lists locals (IfElse e c d) = refl
known_next lists locals (While e c) = refl
known_next lists locals (For x y z from to grain over c) = refl
known_next lists locals (Scope c) = refl
known_next lists locals (Cut a e l r c) = refl
known_next lists locals (Region tag c) = refl
known_next lists locals (Print e) = refl
known_next lists locals (Return e) = refl

-- the types know the locals after a statement
pub knows_next : (program : Program) (returns : Returns) (known : Known) (locals : Locals) (line : ℕ) (s : Stmt) → Knows known locals
    → faults_in program returns known line s ≡ [] → Knows (declares s known) (spec.locals_after locals s)
knows_next program returns known locals line (Declare x e) k fine =
    knows_int known locals x (fresh_name program known locals x k (second_true (is_fine known e) (is_new program known x) (kept (is_fine known e && is_new program known x) line fine))) k
knows_next program returns known locals line (DeclareArray x e) k fine =
    knows_array known locals x (fresh_name program known locals x k (second_true (is_fine known e) (is_new program known x) (kept (is_fine known e && is_new program known x) line fine))) k
knows_next program returns known locals line (Assign x e) k fine = k
knows_next program returns known locals line (AssignElement x i e) k fine = k
knows_next program returns known locals line (Reduce how x e) k fine = k
knows_next program returns known locals line (Call kind site target f es) k fine = k
knows_next program returns known locals line (Start kind f es) k fine = k
knows_next program returns known locals line (Begin f from to captured over) k fine = k
knows_next program returns known locals line Sync k fine = k
knows_next program returns known locals line (If e c) k fine = k
knows_next program returns known locals line (IfElse e c d) k fine = k
knows_next program returns known locals line (While e c) k fine = k
knows_next program returns known locals line (For x y z from to grain over c) k fine = k
knows_next program returns known locals line (Scope c) k fine = k
knows_next program returns known locals line (Cut a e l r c) k fine = k
knows_next program returns known locals line (Region tag c) k fine = k
knows_next program returns known locals line (Print e) k fine = k
knows_next program returns known locals line (Return e) k fine = k

pub top_stays : (returns : Returns) (outside : Outside) (cuts less : Slots) → ((k : ℕ) → less k ≡ true → cuts k ≡ true) → AtTop returns outside cuts → AtTop returns outside less
top_stays returns outside cuts less f (inl e) = inl e
top_stays returns outside cuts less f (inr n) = inr (n.0, λ k. still_none (less k) (cuts k) (f k) (n.1 k))

-- the names of a loop and of a cut, as declarations before their blocks
abbrev pub for_block : Name → Block → Block
for_block x b = Then 0 (Declare x (Number (pos 0))) b

abbrev pub cut_block : (l r : Name) → Block → Block
cut_block l r b = Then 0 (DeclareArray l (Number (pos 0))) (Then 0 (DeclareArray r (Number (pos 0))) b)

abbrev pub line_if : Bool → List ℕ
line_if c = unless c 0

pub for_fine : (program : Program) (known : Known) (x : Name) (b : Block) → is_new program known x ≡ true → faults_in_block program Nowhere ((x, name_kind.Integer) ∷ known) b ≡ [] →
    faults_in_block program Nowhere known (for_block x b) ≡ []
for_fine program known x b new fine = ap (λ c. line_if c ++ faults_in_block program Nowhere ((x, name_kind.Integer) ∷ known) b) new ∙ fine

pub new_beside : (program : Program) (known : Known) (l r : Name) → is_new program known r ≡ true → not (same_name l r) ≡ true → is_new program ((l, name_kind.Array) ∷ known) r ≡ true
new_beside program known l r new apart =
    ap (λ b. not ((if b then true else is_among r (map (λ k. k.0) known)) || is_among r (globals program))) (turned r l ∙ not_true (same_name l r) apart) ∙ new

pub cut_fine : (program : Program) (known : Known) (l r : Name) (b : Block) → is_new program known l ≡ true → is_new program known r ≡ true → not (same_name l r) ≡ true →
    faults_in_block program Nowhere ((r, name_kind.Array) ∷ (l, name_kind.Array) ∷ known) b ≡ [] → faults_in_block program Nowhere known (cut_block l r b) ≡ []
cut_fine program known l r b one two apart fine =
    ap (λ c. line_if c ++ (line_if (is_new program ((l, name_kind.Array) ∷ known) r) ++ faults_in_block program Nowhere ((r, name_kind.Array) ∷ (l, name_kind.Array) ∷ known) b)) one
    ∙ ap (λ c. line_if c ++ faults_in_block program Nowhere ((r, name_kind.Array) ∷ (l, name_kind.Array) ∷ known) b) (new_beside program known l r two apart)
    ∙ fine

-- a cut that keeps the rules of names and types
pub record Cuts (program : Program) (known : Known) (a : Name) (l r : Name) : Type 0 where
  pub array : is_array known a ≡ true
  pub left : is_new program known l ≡ true
  pub right : is_new program known r ≡ true
  pub apart : not (same_name l r) ≡ true

pub cut_keeps : (program : Program) (known : Known) (a : Name) (e : Expr) (l r : Name) → is_cut program known a e l r ≡ true → Cuts program known a l r
cut_keeps program known a e l r h =
    let four = first_true (is_writable known a && is_fine known e && is_new program known l && is_new program known r) (not (same_name l r)) h in
    let three = first_true (is_writable known a && is_fine known e && is_new program known l) (is_new program known r) four in
    record {
      array = writable_array known a (first_true (is_writable known a) (is_fine known e) (first_true (is_writable known a && is_fine known e) (is_new program known l) three));
      left = second_true (is_writable known a && is_fine known e) (is_new program known l) three;
      right = second_true (is_writable known a && is_fine known e && is_new program known l) (is_new program known r) four;
      apart = second_true (is_writable known a && is_fine known e && is_new program known l && is_new program known r) (not (same_name l r)) h;
    }

-- the variable of a loop is new
pub head_new : (program : Program) (known : Known) (x y z : Name) (from to : Expr) (grain : ℕ) (over : List Name)
    → is_head_of_loop program known x y z from to grain over ≡ true → is_new program known x ≡ true
head_new program known x y z from to grain over h =
    first_true _ _ (first_true _ _ (first_true _ _ (first_true _ _ (first_true _ _ (first_true _ _ (first_true _ (list_all (λ a. is_writable known a) over) h))))))

-- the two parts of a cut are known in its block
pub knows_cut : (program : Program) (known : Known) (locals : Locals) (a l r : Name) → Knows known locals → Cuts program known a l r →
    Knows ((r, name_kind.Array) ∷ (l, name_kind.Array) ∷ known) (spec.with_array r (spec.with_array l locals))
knows_cut program known locals a l r k c =
    let one = knows_array known locals l (fresh_name program known locals l k c.left) k in
    knows_array ((l, name_kind.Array) ∷ known) (spec.with_array l locals) r
    (fresh_name program ((l, name_kind.Array) ∷ known) (spec.with_array l locals) r one (new_beside program known l r c.right c.apart)) one

-- the locals held after a branch that continues
pub branch_after : (program : Program) (lists : Lists) (returns : Returns) (known : Known) (locals : Locals) (depth : ℕ) (outside : Outside) (b : Block) (taken : Taken) (here : Restrictions) (cuts : Slots) →
    Knows known locals → Steady depth outside → AtTop returns outside cuts → faults_in_block program returns known b ≡ [] → Holds locals depth outside taken here cuts →
    Holds (all_locals locals b) depth outside (taken_after_all program.functions depth b taken)
    (after_all (known_row locals) (spec.resolved_block lists locals b) here) (cuts_after_all (spec.resolved_block lists locals b) cuts) →
    Holds locals depth outside (where_it_goes_on (block_returns b) (without (own_names b) (taken_after_all program.functions depth b taken)))
    (restrictions_within (known_row locals) (after_all (known_row locals) (spec.resolved_block lists locals b) here)) (cuts_after_all (spec.resolved_block lists locals b) cuts)
branch_after program lists returns known locals depth outside b taken here cuts k steady top fine h last =
    holds_goes program lists returns known locals depth outside b here cuts (without (own_names b) (taken_after_all program.functions depth b taken)) top fine
    (holds_end program returns known locals depth outside b taken here cuts (taken_after_all program.functions depth b taken)
    (after_all (known_row locals) (spec.resolved_block lists locals b) here) (cuts_after_all (spec.resolved_block lists locals b) cuts)
    k fine h (no_more_all (spec.resolved_block lists locals b) cuts) last)

-- the locals held after any number of iterations
pub while_after : (program : Program) (lists : Lists) (returns : Returns) (known : Known) (locals : Locals) (depth : ℕ) (outside : Outside)
    (e : Expr) (b : Block) (taken : Taken) (here : Restrictions) (cuts : Slots) →
    Knows known locals → Steady depth outside → AtTop returns outside cuts → faults_in_block program returns known b ≡ [] → Holds locals depth outside taken here cuts →
    Holds (all_locals locals b) depth outside (taken_after_all program.functions depth b taken)
    (after_all (known_row locals) (spec.resolved_block lists locals b) here) (cuts_after_all (spec.resolved_block lists locals b) cuts) →
    Holds locals depth outside (taken_after program.functions depth (While e b) taken) (either_restrictions here (gain (known_row locals) (spec.resolved_block lists locals b))) cuts
while_after program lists returns known locals depth outside e b taken here cuts k steady top fine h last =
    let b' = spec.resolved_block lists locals b in
    let row = restrictions_within (known_row locals) (after_all (known_row locals) b' here) in
    subst (λ r. Holds locals depth outside (taken_after program.functions depth (While e b) taken) r cuts) (turn_law (known_row locals) b' here)
    (subst (λ c. Holds locals depth outside (taken_after program.functions depth (While e b) taken) (either_restrictions here row) c)
    (λ i. λ n. (or_comm (cuts n) (cuts_after_all b' cuts n) ∙ cuts_stay b' cuts n) i)
    (holds_either locals depth outside taken _ here row cuts (cuts_after_all b' cuts) h
    (branch_after program lists returns known locals depth outside b taken here cuts k steady top fine h last)))

-- the locals held after a sync block without names of its own before it
pub scope_after : (program : Program) (lists : Lists) (known : Known) (locals : Locals) (depth : ℕ) (outside : Outside) (b : Block) (taken : Taken) (here : Restrictions) (cuts : Slots) →
    Knows known locals → Steady depth outside → faults_in_block program Nowhere known b ≡ [] → Holds locals depth outside taken here cuts →
    Holds (all_locals locals b) (depth + 1) (entered outside depth here) (taken_after_all program.functions (depth + 1) b taken)
    (after_all (known_row locals) (spec.resolved_block lists locals b) no_restrictions) (cuts_after_all (spec.resolved_block lists locals b) cuts) →
    Holds locals depth outside (freed (depth + 1) (without (own_names b) (taken_after_all program.functions (depth + 1) b taken))) here (cuts_after_all (spec.resolved_block lists locals b) cuts)
scope_after program lists known locals depth outside b taken here cuts k steady fine h last =
    let b' = spec.resolved_block lists locals b in
    holds_left locals depth outside here (without (own_names b) (taken_after_all program.functions (depth + 1) b taken))
    (restrictions_within (known_row locals) (after_all (known_row locals) b' no_restrictions)) (cuts_after_all b' cuts) steady
    (holds_end program Nowhere known locals (depth + 1) (entered outside depth here) b taken no_restrictions cuts
    (taken_after_all program.functions (depth + 1) b taken) (after_all (known_row locals) b' no_restrictions) (cuts_after_all b' cuts)
    k fine (holds_inside locals depth outside taken here cuts h) (no_more_all b' cuts) last)

mutual
  pub after_stmt : (program : Program) (lists : Lists) → lists.callees ≡ program.functions
      → (returns : Returns) (known : Known) (locals : Locals) (depth : ℕ) (outside : Outside) (line : ℕ) (s : Stmt) (taken : Taken) (here : Restrictions) (cuts : Slots) →
      Knows known locals → Steady depth outside → AtTop returns outside cuts → faults_in program returns known line s ≡ [] → Holds locals depth outside taken here cuts →
      Holds (spec.locals_after locals s) depth outside (taken_after program.functions depth s taken)
      (after (known_row locals) (spec.resolved_stmt lists locals s) here) (cuts_after (spec.resolved_stmt lists locals s) cuts)
  after_stmt program lists same returns known locals depth outside line (Declare x e) taken here cuts k steady top fine h = holds_push_int locals depth outside taken here cuts x h
  after_stmt program lists same returns known locals depth outside line (DeclareArray x e) taken here cuts k steady top fine h = holds_push_array locals depth outside taken here cuts x h
  after_stmt program lists same returns known locals depth outside line (Assign x e) taken here cuts k steady top fine h = h
  after_stmt program lists same returns known locals depth outside line (AssignElement x i e) taken here cuts k steady top fine h = h
  after_stmt program lists same returns known locals depth outside line (Reduce how x e) taken here cuts k steady top fine h = h
  after_stmt program lists same returns known locals depth outside line (Call Plain site target f es) taken here cuts k steady top fine h = h
  after_stmt program lists same returns known locals depth outside line (Call Spawned site target f es) taken here cuts k steady top fine h =
      subst (λ (fs : List Function). Holds locals depth outside (frozen_by depth (lent program.functions f es) (taken_by depth (target_names target ++ given program.functions f es) taken))
      (with_arrays (resolved_arguments locals (function_named f fs).params es) (with_target (option_map (use_of locals.ints) target) here)) cuts)
      (sym same)
      (holds_call known locals depth outside program.functions target f es taken here cuts k (kept (is_call known target (called f program.functions) es) line fine) h)
  after_stmt program lists same returns known locals depth outside line (Start kind f es) taken here cuts k steady top fine h = cc
  after_stmt program lists same returns known locals depth outside line (Begin f from to captured over) taken here cuts k steady top fine h = cc
  after_stmt program lists same returns known locals depth outside line Sync taken here cuts k steady top fine h = holds_freed locals depth outside taken here cuts steady h
  after_stmt program lists same returns known locals depth outside line (Return e) taken here cuts k steady top fine h = holds_freed locals depth outside taken here cuts steady h
  after_stmt program lists same returns known locals depth outside line (Print e) taken here cuts k steady top fine h = h
  after_stmt program lists same returns known locals depth outside line (If e b) taken here cuts k steady top fine h =
      let rest = right_none (unless (is_fine known e) line) (faults_in_block program returns known b) fine in
      let b' = spec.resolved_block lists locals b in
      let row = restrictions_within (known_row locals) (after_all (known_row locals) b' here) in
      subst (λ c. Holds locals depth outside (taken_after program.functions depth (If e b) taken) (either_restrictions row here) c) (λ i. λ n. cuts_stay b' cuts n i)
      (holds_either locals depth outside _ taken row here (cuts_after_all b' cuts) cuts
      (branch_after program lists returns known locals depth outside b taken here cuts k steady top rest h
      (after_block program lists same returns known locals depth outside b taken here cuts k steady top rest h)) h)
  after_stmt program lists same returns known locals depth outside line (IfElse e b c) taken here cuts k steady top fine h =
      let rest = right_none (unless (is_fine known e) line) (faults_in_block program returns known b ++ faults_in_block program returns known c) fine in
      let first = left_none (faults_in_block program returns known b) (faults_in_block program returns known c) rest in
      let second = right_none (faults_in_block program returns known b) (faults_in_block program returns known c) rest in
      holds_either locals depth outside _ _ (restrictions_within (known_row locals) (after_all (known_row locals) (spec.resolved_block lists locals b) here))
      (restrictions_within (known_row locals) (after_all (known_row locals) (spec.resolved_block lists locals c) here))
      (cuts_after_all (spec.resolved_block lists locals b) cuts) (cuts_after_all (spec.resolved_block lists locals c) cuts)
      (branch_after program lists returns known locals depth outside b taken here cuts k steady top first h
      (after_block program lists same returns known locals depth outside b taken here cuts k steady top first h))
      (branch_after program lists returns known locals depth outside c taken here cuts k steady top second h
      (after_block program lists same returns known locals depth outside c taken here cuts k steady top second h))
  after_stmt program lists same returns known locals depth outside line (While e b) taken here cuts k steady top fine h =
      let rest = right_none (unless (is_fine known e) line) (faults_in_block program returns known b) fine in
      while_after program lists returns known locals depth outside e b taken here cuts k steady top rest h
      (after_block program lists same returns known locals depth outside b taken here cuts k steady top rest h)
  after_stmt program lists same returns known locals depth outside line (For x y z from to grain over b) taken here cuts k steady top fine h =
      let c = is_head_of_loop program known x y z from to grain over in
      let new = head_new program known x y z from to grain over (kept c line (left_none (unless c line) (faults_in_block program Nowhere ((x, name_kind.Integer) ∷ known) b) fine)) in
      let rest = right_none (unless c line) (faults_in_block program Nowhere ((x, name_kind.Integer) ∷ known) b) fine in
      let inner = holds_inside locals depth outside taken here cuts h in
      let b' = spec.resolved_block lists (spec.with_int x locals) b in
      holds_left locals depth outside here _ _ (cuts_after_all b' cuts) steady
      (holds_end program Nowhere known locals (depth + 1) (entered outside depth here) (for_block x b) taken no_restrictions cuts _ _
      (cuts_after_all b' cuts) k (for_fine program known x b new rest) inner (no_more_all b' cuts)
      (after_block program lists same Nowhere ((x, name_kind.Integer) ∷ known) (spec.with_int x locals) (depth + 1) (entered outside depth here) b taken no_restrictions cuts
      (knows_int known locals x (fresh_name program known locals x k new) k) (steady_inside depth outside here steady) (inl refl) rest
      (holds_push_int locals (depth + 1) (entered outside depth here) taken no_restrictions cuts x inner)))
  after_stmt program lists same returns known locals depth outside line (Scope b) taken here cuts k steady top fine h =
      scope_after program lists known locals depth outside b taken here cuts k steady fine h
      (after_block program lists same Nowhere known locals (depth + 1) (entered outside depth here) b taken no_restrictions cuts k
      (steady_inside depth outside here steady) (inl refl) fine (holds_inside locals depth outside taken here cuts h))
  after_stmt program lists same returns known locals depth outside line (Region tag b) taken here cuts k steady top fine h =
      scope_after program lists known locals depth outside b taken here cuts k steady fine h
      (after_block program lists same Nowhere known locals (depth + 1) (entered outside depth here) b taken no_restrictions cuts k
      (steady_inside depth outside here steady) (inl refl) fine (holds_inside locals depth outside taken here cuts h))
  after_stmt program lists same returns known locals depth outside line (Cut a e l r b) taken here cuts k steady top fine h =
      let c = is_cut program known a e l r in
      let keeps = cut_keeps program known a e l r (kept c line (left_none (unless c line) (faults_in_block program Nowhere ((r, name_kind.Array) ∷ (l, name_kind.Array) ∷ known) b) fine)) in
      let rest = right_none (unless c line) (faults_in_block program Nowhere ((r, name_kind.Array) ∷ (l, name_kind.Array) ∷ known) b) fine in
      let locals' = spec.with_array r (spec.with_array l locals) in
      let b' = spec.resolved_block lists locals' b in
      let more = with_slot (slot_of a locals.arrays) cuts in
      let taken' = (a, CutOf) ∷ taken in
      let inner = holds_inside locals depth outside taken' here more (holds_cut locals depth outside taken here cuts a (k.arrays a keeps.array) h) in
      holds_uncut locals depth outside _ here (cuts_after_all b' more) a steady (k.arrays a keeps.array)
      (holds_left locals depth outside here _ _ (cuts_after_all b' more) steady
      (holds_end program Nowhere known locals (depth + 1) (entered outside depth here) (cut_block l r b) taken' no_restrictions more _ _
      (cuts_after_all b' more) k (cut_fine program known l r b keeps.left keeps.right keeps.apart rest) inner (no_more_all b' more)
      (after_block program lists same Nowhere ((r, name_kind.Array) ∷ (l, name_kind.Array) ∷ known) locals' (depth + 1) (entered outside depth here) b taken' no_restrictions more
      (knows_cut program known locals a l r k keeps) (steady_inside depth outside here steady) (inl refl) rest
      (holds_push_array (spec.with_array l locals) (depth + 1) (entered outside depth here) taken' no_restrictions more r
      (holds_push_array locals (depth + 1) (entered outside depth here) taken' no_restrictions more l inner)))))

  pub after_block : (program : Program) (lists : Lists) → lists.callees ≡ program.functions
      → (returns : Returns) (known : Known) (locals : Locals) (depth : ℕ) (outside : Outside) (b : Block) (taken : Taken) (here : Restrictions) (cuts : Slots) →
      Knows known locals → Steady depth outside → AtTop returns outside cuts → faults_in_block program returns known b ≡ [] → Holds locals depth outside taken here cuts →
      Holds (all_locals locals b) depth outside (taken_after_all program.functions depth b taken)
      (after_all (known_row locals) (spec.resolved_block lists locals b) here) (cuts_after_all (spec.resolved_block lists locals b) cuts)
  after_block program lists same returns known locals depth outside End taken here cuts k steady top fine h = h
  after_block program lists same returns known locals depth outside (Then line s b) taken here cuts k steady top fine h =
      let s' = spec.resolved_stmt lists locals s in
      let b' = spec.resolved_block lists (spec.locals_after locals s) b in
      let first = left_none (faults_in program returns known line s) _ fine in
      let rest = right_none (unless (not (surely_returns s) || ends_block b) line) (faults_in_block program returns (declares s known) b)
      (right_none (faults_in program returns known line s) _ fine) in
      subst (λ r. Holds (all_locals (spec.locals_after locals s) b) depth outside
      (taken_after_all program.functions depth b (taken_after program.functions depth s taken)) (after_all r b' (after (known_row locals) s' here))
      (cuts_after_all b' (cuts_after s' cuts)))
      (sym (known_next lists locals s))
      (after_block program lists same returns (declares s known) (spec.locals_after locals s) depth outside b
      (taken_after program.functions depth s taken) (after (known_row locals) s' here) (cuts_after s' cuts)
      (knows_next program returns known locals line s k first) steady (top_stays returns outside cuts (cuts_after s' cuts) (no_more s' cuts) top) rest
      (after_stmt program lists same returns known locals depth outside line s taken here cuts k steady top first h))
