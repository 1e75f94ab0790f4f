-- Each name that a lowered function holds, its source holds at the corresponding statement; depths of spawns differ by
-- a constant.
use Rattle.std.proofs.Common.{◌≡◌, ℕ, ◌+◌, ◌≤◌, ◌==◌, List, [], ◌∷◌, ◌++◌, Bool, true, false, refl, sym, ap, ◌∙◌, inl, inr, subst, true≢false, arith}
use Rattle.std.specs.Prelude.{map, not, if◌then◌else◌, Option, Some, None}
use Rattle.std.specs.List.{list_all}
use Rattle.std.proofs.lemmas.Bool.{eq-eqb, eqb-true, and_parts}
use Rattle.cw_facts.specs.Tests.{not_true, told, yes_is, no_is, TrueOrFalse, never, refuted, either_left, either_right}
use Rattle.cw_model.specs.Syntax.{is_written_kind, is_const_kind, Name, Expr, Variable, Stmt, Declare, DeclareArray, Block, Then, Param, Function}
use Rattle.cw_model.specs.Names.{is_among}
use Rattle.cw_model.specs.Meaning.{function_named}
use Rattle.cw_model.specs.Typing.{Known, is_int, is_array, is_argument, are_arguments, is_target}
use Rattle.cw_model.specs.Ownership.{Holder, SpawnIn, ReaderIn, CutOf, Taken, is_reader, is_taken, is_held, is_spawn_in, is_cut_of, freed, taken_by, frozen_by, cut_ended, without}
use Rattle.cw_model.specs.Ownership.{own_names, where_it_goes_on, target_names, arrays_given, arrays_lent, given, lent, names_in, Closing, Joins, Leaves, at_end, known_after}
use Rattle.cw_model.specs.declared.syntax.NameKind.{NameKind}
use Rattle.cw_model.specs.declared.syntax.NameKind.TheVariants.{Integer, Array, Const}
use Rattle.cw_model.specs.lemmas.Fits.{writable_array}
use Rattle.cw_tree.specs.lemmas.Names.{front_among, later_among}
use Rattle.cw_loops.specs.Lowered.{is_plain}
use Rattle.cw_loops.specs.SourceLike.{is_source_expr, is_source_target}
use Rattle.cw_loops.specs.lemmas.Naming.{Placed, at_front, after_it, placed, Side, in_first, in_second, side, among_left, among_right, among_split}
use Rattle.cw_loops.specs.lemmas.Seeing.{SameKnown, CallKept}
use Rattle.cw_gen.proofs.FreeMembers.{In, in_append, in_left, in_right, in_filter, in_kept, in_taken, not_in, in_held, not_held, by_holder, holder_has, Outer, either_way}

-- a holder whose depth is increased by `shift`
abbrev pub deeper : ℕ → Holder → Holder
deeper shift (SpawnIn d) = SpawnIn (d + shift)
deeper shift (ReaderIn d) = ReaderIn (d + shift)
deeper shift CutOf = CutOf

-- the depth of the holder is at most `depth`
abbrev pub Inside : ℕ → Holder → Type 0
Inside depth (SpawnIn d) = d ≤ depth
Inside depth (ReaderIn d) = d ≤ depth
Inside depth CutOf = Unit {0}

-- the source also holds the name, and it is a plain name of its owners
pub record Carried (shift depth : ℕ) (names : List Name) (taken : Taken) (t : Name × Holder) : Type 0 where
  pub there : In (t.0, deeper shift t.1) taken
  pub plain : is_plain t.0 ≡ true
  pub named : is_among t.0 names ≡ true
  pub inside : Inside depth t.1

-- each held name is carried
abbrev pub AllCarried : (shift depth : ℕ) → (names : List Name) → (held taken : Taken) → Type 0
AllCarried shift depth names held taken = (t : Name × Holder) → In t held → Carried shift depth names taken t

-- a carried name stays carried if more is held
pub carried_in : (shift depth : ℕ) (names : List Name) (taken after : Taken) (t : Name × Holder) → Carried shift depth names taken t
    → (In (t.0, deeper shift t.1) taken → In (t.0, deeper shift t.1) after) → Carried shift depth names after t
carried_in shift depth names taken after t c f = record { there = f c.there; plain = c.plain; named = c.named; inside = c.inside }

renamed : (shift depth : ℕ) (names others : List Name) (taken : Taken) (t : Name × Holder) → (is_among t.0 names ≡ true → is_among t.0 others ≡ true)
    → Carried shift depth names taken t → Carried shift depth others taken t
renamed shift depth names others taken t f c = record { there = c.there; plain = c.plain; named = f c.named; inside = c.inside }

-- the bound on the depth may be increased
pub inside_more : (depth : ℕ) (k : Holder) → Inside depth k → Inside (depth + 1) k
inside_more depth (SpawnIn d) h = omega (arith, h)
inside_more depth (ReaderIn d) h = omega (arith, h)
inside_more depth CutOf h = tt

-- names carried at a depth are carried one level deeper
pub deeper_all : (shift depth : ℕ) (names : List Name) (held taken : Taken) → AllCarried shift depth names held taken → AllCarried shift (depth + 1) names held taken
deeper_all shift depth names held taken all t h = let c = all t h in record { there = c.there; plain = c.plain; named = c.named; inside = inside_more depth t.1 c.inside }

not_last : (d depth : ℕ) → (d == depth + 1) ≡ false → d ≤ depth + 1 → d ≤ depth
not_last d depth n h = cases (told (d == depth + 1))
  where
    other : d ≡ depth + 1 → ⊥
    other e = true≢false (sym (eq-eqb d (depth + 1) e) ∙ n)

    cases : TrueOrFalse (d == depth + 1) → d ≤ depth
    cases (yes_is e) = absurd (true≢false (sym e ∙ n))
    cases (no_is e) = omega (arith, h, other)

inside_less : (depth : ℕ) (k : Holder) → is_spawn_in (depth + 1) k ≡ false → Inside (depth + 1) k → Inside depth k
inside_less depth (SpawnIn d) n h = not_last d depth n h
inside_less depth (ReaderIn d) n h = not_last d depth n h
inside_less depth CutOf n h = tt

-- the holder is outside of the body of a loop in the source
pub inside_outer : (shift depth source : ℕ) (k : Holder) → source ≡ depth + shift → Inside depth k → Outer (source + 1) (deeper shift k)
inside_outer shift depth source (SpawnIn d) e h = omega (arith, e, h)
inside_outer shift depth source (ReaderIn d) e h = omega (arith, e, h)
inside_outer shift depth source CutOf e h = tt

-- a spawn of the lowered block is a spawn of the source block
moved_not : (shift depth source d : ℕ) → source ≡ depth + shift → (d == depth) ≡ false → (d + shift == source) ≡ false
moved_not shift depth source d e h = refuted ((d + shift) == source) (λ q. never (d == depth) (eq-eqb d depth (omega (arith, e, eqb-true (d + shift) source q))) h)

spawn_moved : (shift depth source : ℕ) (k : Holder) → source ≡ depth + shift → is_spawn_in depth k ≡ false → is_spawn_in source (deeper shift k) ≡ false
spawn_moved shift depth source (SpawnIn d) e h = moved_not shift depth source d e h
spawn_moved shift depth source (ReaderIn d) e h = moved_not shift depth source d e h
spawn_moved shift depth source CutOf e h = refl

cut_moved : (shift : ℕ) (a x : Name) (k : Holder) → is_cut_of a (x, deeper shift k) ≡ is_cut_of a (x, k)
cut_moved shift a x (SpawnIn d) = refl
cut_moved shift a x (ReaderIn d) = refl
cut_moved shift a x CutOf = refl

-- a spawn that only reads does so in both
pub reader_moved : (shift : ℕ) (k : Holder) → is_reader (deeper shift k) ≡ is_reader k
reader_moved shift (SpawnIn d) = refl
reader_moved shift (ReaderIn d) = refl
reader_moved shift CutOf = refl

-- a join keeps names carried
pub freed_carried : (shift depth source : ℕ) (names : List Name) (held taken : Taken) → source ≡ depth + shift
    → AllCarried shift depth names held taken → AllCarried shift depth names (freed depth held) (freed source taken)
freed_carried shift depth source names held taken e all t h =
    let one = in_filter (λ u. not (is_spawn_in depth u.1)) t held h in
    carried_in shift depth names taken (freed source taken) t (all t one.0)
    (λ i. in_kept (λ u. not (is_spawn_in source u.1)) (t.0, deeper shift t.1) taken i
    (ap not (spawn_moved shift depth source t.1 e (not_true (is_spawn_in depth t.1) one.1))))

-- the end of the scope of a block's names keeps names carried
pub without_carried : (shift depth : ℕ) (own names : List Name) (held taken : Taken) → AllCarried shift depth (own ++ names) held taken
    → AllCarried shift depth names (without own held) (without own taken)
without_carried shift depth own names held taken all t h =
    let one = in_filter (λ u. not (is_among u.0 own)) t held h in
    renamed shift depth (own ++ names) names (without own taken) t (among_split t.0 own names (not_true (is_among t.0 own) one.1))
    (carried_in shift depth (own ++ names) taken (without own taken) t (all t one.0) (λ i. in_kept (λ u. not (is_among u.0 own)) (t.0, deeper shift t.1) taken i one.1))

-- the end of an inner sync block keeps names carried
pub left_carried : (shift depth source : ℕ) (own names : List Name) (held taken : Taken) → source ≡ depth + shift → AllCarried shift (depth + 1) (own ++ names) held taken →
    AllCarried shift depth names (freed (depth + 1) (without own held)) (freed (source + 1) (without own taken))
left_carried shift depth source own names held taken e all t h =
    let c = freed_carried shift (depth + 1) (source + 1) names (without own held) (without own taken) (omega (arith, e)) (without_carried shift (depth + 1) own names held taken all) t h in
    let one = in_filter (λ u. not (is_spawn_in (depth + 1) u.1)) t (without own held) h in
    record { there = c.there; plain = c.plain; named = c.named; inside = inside_less depth t.1 (not_true (is_spawn_in (depth + 1) t.1) one.1) c.inside }

-- the end of a block that does not return keeps names carried
pub goes_carried : (shift depth : ℕ) (returns : Bool) (own names : List Name) (held taken : Taken) → AllCarried shift depth (own ++ names) held taken →
    AllCarried shift depth names (where_it_goes_on returns (without own held)) (where_it_goes_on returns (without own taken))
goes_carried shift depth true own names held taken all t h = absurd h
goes_carried shift depth false own names held taken all t h = without_carried shift depth own names held taken all t h

-- names that are held in two parts are carried if both parts are
pub both_carried : (shift depth : ℕ) (names : List Name) (held held' taken taken' : Taken) → AllCarried shift depth names held taken
    → AllCarried shift depth names held' taken' → AllCarried shift depth names (held ++ held') (taken ++ taken')
both_carried shift depth names held held' taken taken' all all' t h =
    either_way (in_append t held held' h) (λ i. carried_in shift depth names taken (taken ++ taken') t (all t i) (in_left (t.0, deeper shift t.1) taken taken'))
    (λ i. carried_in shift depth names taken' (taken ++ taken') t (all' t i) (in_right (t.0, deeper shift t.1) taken taken'))

-- a further cut in both keeps names carried
pub cut_carried : (shift depth : ℕ) (names : List Name) (a : Name) (held taken : Taken) → is_plain a ≡ true → is_among a names ≡ true
    → AllCarried shift depth names held taken → AllCarried shift depth names ((a, CutOf) ∷ held) ((a, CutOf) ∷ taken)
cut_carried shift depth names a held taken plain named all t (inl e) = subst (Carried shift depth names ((a, CutOf) ∷ taken)) e (record { there = inl refl; plain = plain; named = named; inside = tt })
cut_carried shift depth names a held taken plain named all t (inr h) = carried_in shift depth names taken ((a, CutOf) ∷ taken) t (all t h) (λ i. inr i)

-- the end of a cut in both keeps names carried
pub ended_carried : (shift depth : ℕ) (names : List Name) (a : Name) (held taken : Taken) → AllCarried shift depth names held taken
    → AllCarried shift depth names (cut_ended a held) (cut_ended a taken)
ended_carried shift depth names a held taken all t h =
    let one = in_filter (λ u. not (is_cut_of a u)) t held h in
    carried_in shift depth names taken (cut_ended a taken) t (all t one.0) (λ i. in_kept (λ u. not (is_cut_of a u)) (t.0, deeper shift t.1) taken i (ap not (cut_moved shift a t.0 t.1) ∙ one.1))

-- names with the same holder in both are carried
added_carried : (shift depth : ℕ) (k : Holder) (names xs : List Name) (held taken : Taken) → Inside depth k
    → ((x : Name) → is_among x xs ≡ true → (is_plain x ≡ true) × (is_among x names ≡ true)) → AllCarried shift depth names held taken →
    AllCarried shift depth names (map (λ x. (x, k)) xs ++ held) (map (λ x. (x, deeper shift k)) xs ++ taken)
added_carried shift depth k names xs held taken inside fine all =
    both_carried shift depth names (map (λ x. (x, k)) xs) held (map (λ x. (x, deeper shift k)) xs) taken by all
  where
    by : AllCarried shift depth names (map (λ x. (x, k)) xs) (map (λ x. (x, deeper shift k)) xs)
    by t h =
        let s = by_holder k xs t h in
        let f = fine t.0 s.0 in
        record {
          there = subst (λ q. In (t.0, q) (map (λ x. (x, deeper shift k)) xs)) (ap (deeper shift) (sym s.1)) (holder_has (deeper shift k) xs t.0 s.0);
          plain = f.0;
          named = f.1;
          inside = subst (Inside depth) (sym s.1) inside;
        }

here_inside : (depth : ℕ) → depth ≤ depth
here_inside depth = omega arith

-- a spawn in both keeps names carried
pub spawned_carried : (shift depth source : ℕ) (names xs : List Name) (held taken : Taken) → source ≡ depth + shift
    → ((x : Name) → is_among x xs ≡ true → (is_plain x ≡ true) × (is_among x names ≡ true)) → AllCarried shift depth names held taken →
    AllCarried shift depth names (taken_by depth xs held) (taken_by source xs taken)
spawned_carried shift depth source names xs held taken e fine all =
    subst (λ d. AllCarried shift depth names (taken_by depth xs held) (taken_by d xs taken)) (sym e) (added_carried shift depth (SpawnIn depth) names xs held taken (here_inside depth) fine all)

-- the arrays that a spawn only reads in both keep names carried
pub frozen_carried : (shift depth source : ℕ) (names xs : List Name) (held taken : Taken) → source ≡ depth + shift
    → ((x : Name) → is_among x xs ≡ true → (is_plain x ≡ true) × (is_among x names ≡ true)) → AllCarried shift depth names held taken →
    AllCarried shift depth names (frozen_by depth xs held) (frozen_by source xs taken)
frozen_carried shift depth source names xs held taken e fine all =
    subst (λ d. AllCarried shift depth names (frozen_by depth xs held) (frozen_by d xs taken)) (sym e) (added_carried shift depth (ReaderIn depth) names xs held taken (here_inside depth) fine all)

-- a name that is free in the source is free in the lowered function
pub free_carried : (shift depth : ℕ) (names : List Name) (held taken : Taken) → AllCarried shift depth names held taken → (x : Name) → is_taken taken x ≡ false → is_taken held x ≡ false
free_carried shift depth names held taken all x free =
    not_in x held (λ k h loud. true≢false (sym (in_taken (x, deeper shift k) taken (all (x, k) h).there (reader_moved shift k ∙ loud)) ∙ free))

-- a name that is not held in the source is not held in the lowered function
pub loose_carried : (shift depth : ℕ) (names : List Name) (held taken : Taken) → AllCarried shift depth names held taken → (x : Name) → is_held taken x ≡ false → is_held held x ≡ false
loose_carried shift depth names held taken all x loose = not_held x held (λ k h. true≢false (sym (in_held (x, deeper shift k) taken (all (x, k) h).there) ∙ loose))

-- no name that is not plain is held
pub plain_carried : (shift depth : ℕ) (names : List Name) (held taken : Taken) → AllCarried shift depth names held taken → (x : Name) → is_plain x ≡ false → is_held held x ≡ false
plain_carried shift depth names held taken all x other = not_held x held (λ k h. true≢false (sym (all (x, k) h).plain ∙ other))

-- no name that is not a name of the owners is held
pub named_carried : (shift depth : ℕ) (names : List Name) (held taken : Taken) → AllCarried shift depth names held taken → (x : Name) → is_among x names ≡ false → is_held held x ≡ false
named_carried shift depth names held taken all x other = not_held x held (λ k h. true≢false (sym (all (x, k) h).named ∙ other))

-- the end of a block in both keeps names carried
pub end_carried : (shift depth source : ℕ) (names : List Name) (closing : Closing) (held taken : Taken) → source ≡ depth + shift
    → AllCarried shift depth names held taken → AllCarried shift depth names (at_end closing depth held) (at_end closing source taken)
end_carried shift depth source names Joins held taken e all = freed_carried shift depth source names held taken e all
end_carried shift depth source names Leaves held taken e all = all

-- names stay carried if the owners have more names
pub more_carried : (shift depth : ℕ) (names others : List Name) (held taken : Taken)
    → ((x : Name) → is_among x names ≡ true → is_among x others ≡ true) → AllCarried shift depth names held taken → AllCarried shift depth others held taken
more_carried shift depth names others held taken f all t h = renamed shift depth names others taken t (f t.0) (all t h)

-- the arrays that a call gives away or lends are plain and known

one_plain : (known : Known) (a : Name) → is_array known a ≡ true → is_plain a ≡ true → (x : Name) → is_among x (a ∷ []) ≡ true → (is_plain x ≡ true) × (is_array known x ≡ true)
one_plain known a h s x o = go (placed x a [] o)
  where
    go : Placed x a [] → (is_plain x ≡ true) × (is_array known x ≡ true)
    go (at_front same) = (ap is_plain same ∙ s, ap (is_array known) same ∙ h)
    go (after_it other p) = absurd cc

only : (such : NameKind → Bool) (k : NameKind) (xs : List Name) (x : Name) → is_among x (if such k then xs else []) ≡ true → is_among x xs ≡ true
only such k xs x o = test (such k) o
  where
    test : (b : Bool) → is_among x (if b then xs else []) ≡ true → is_among x xs ≡ true
    test true h = h
    test false h = absurd cc

of_either : {P : Type 0} (x : Name) (xs ys : List Name) → is_among x (xs ++ ys) ≡ true → (is_among x xs ≡ true → P) → (is_among x ys ≡ true → P) → P
of_either x xs ys o one more = go (side x xs ys o) one more
  where
    go : {P : Type 0} → Side x xs ys → (is_among x xs ≡ true → P) → (is_among x ys ≡ true → P) → P
    go (in_first p) f g = f p
    go (in_second p) f g = g p

array_plain : (such : NameKind → Bool) → (such Integer ≡ false) → (known : Known) (k : NameKind) (e : Expr) → is_argument known k e ≡ true
    → is_source_expr e ≡ true → (x : Name) → is_among x (if such k then names_in e else []) ≡ true → (is_plain x ≡ true) × (is_array known x ≡ true)
array_plain such not_int known Integer e h s x o = absurd (true≢false (sym o ∙ ap (λ b. is_among x (if b then names_in e else [])) not_int))
array_plain such not_int known Array (Variable a) h s x o = one_plain known a (writable_array known a h) s x (only such Array (a ∷ []) x o)
array_plain such not_int known Const (Variable a) h s x o = one_plain known a h s x (only such Const (a ∷ []) x o)
array_plain such not_int known Array _ h s x o = absurd cc
array_plain such not_int known Const _ h s x o = absurd cc

arrays_plain : (known : Known) (ps : List Param) (es : List Expr) → are_arguments known ps es ≡ true → list_all is_source_expr es ≡ true → (x : Name)
    → is_among x (arrays_given ps es) ≡ true → (is_plain x ≡ true) × (is_array known x ≡ true)
arrays_plain known [] es h s x o = absurd cc
arrays_plain known (p ∷ ps) [] h s x o = absurd cc
arrays_plain known (p ∷ ps) (e ∷ es) h s x o =
    let f = and_parts (is_argument known p.kind e) (are_arguments known ps es) h in
    let q = and_parts (is_source_expr e) (list_all is_source_expr es) s in
    of_either x (if is_written_kind p.kind then names_in e else []) (arrays_given ps es) o (array_plain is_written_kind refl known p.kind e f.0 q.0 x) (arrays_plain known ps es f.1 q.1 x)

lent_plain : (known : Known) (ps : List Param) (es : List Expr) → are_arguments known ps es ≡ true → list_all is_source_expr es ≡ true → (x : Name)
    → is_among x (arrays_lent ps es) ≡ true → (is_plain x ≡ true) × (is_array known x ≡ true)
lent_plain known [] es h s x o = absurd cc
lent_plain known (p ∷ ps) [] h s x o = absurd cc
lent_plain known (p ∷ ps) (e ∷ es) h s x o =
    let f = and_parts (is_argument known p.kind e) (are_arguments known ps es) h in
    let q = and_parts (is_source_expr e) (list_all is_source_expr es) s in
    of_either x (if is_const_kind p.kind then names_in e else []) (arrays_lent ps es) o (array_plain is_const_kind refl known p.kind e f.0 q.0 x) (lent_plain known ps es f.1 q.1 x)

target_plain : (known : Known) (f : Function) (target : Option Name) → is_target known f target ≡ true → is_source_target target ≡ true → (x : Name)
    → is_among x (target_names target) ≡ true → (is_plain x ≡ true) × (is_int known x ≡ true)
target_plain known f None h s x o = absurd cc
target_plain known f (Some y) h s x o = go (placed x y [] o)
  where
    go : Placed x y [] → (is_plain x ≡ true) × (is_int known x ≡ true)
    go (at_front same) = (ap is_plain same ∙ s, ap (is_int known) same ∙ (and_parts (is_int known y) f.gives_int h).0)
    go (after_it other p) = absurd cc

-- the names that a call takes are plain and known
pub call_plain : (fs : List Function) (known : Known) (owners : List Name) → SameKnown known owners
    → (target : Option Name) (f : Name) (es : List Expr) → CallKept fs known target f es → is_source_target target ≡ true → list_all is_source_expr es ≡ true →
    (x : Name) → is_among x (target_names target ++ given fs f es) ≡ true → (is_plain x ≡ true) × (is_among x owners ≡ true)
call_plain fs known owners same target f es k st se x o = go (side x (target_names target) (given fs f es) o)
  where
    go : Side x (target_names target) (given fs f es) → (is_plain x ≡ true) × (is_among x owners ≡ true)
    go (in_first p) = let r = target_plain known (function_named f fs) target k.target_fine st x p in (r.0, same x ∙ either_left (is_int known x) (is_array known x) r.1)
    go (in_second p) = let r = arrays_plain known (function_named f fs).params es k.arguments se x p in (r.0, same x ∙ either_right (is_int known x) (is_array known x) r.1)

-- the arrays that a call only reads are plain and known
pub lent_call_plain : (fs : List Function) (known : Known) (owners : List Name) → SameKnown known owners
    → (target : Option Name) (f : Name) (es : List Expr) → CallKept fs known target f es → list_all is_source_expr es ≡ true →
    (x : Name) → is_among x (lent fs f es) ≡ true → (is_plain x ≡ true) × (is_among x owners ≡ true)
lent_call_plain fs known owners same target f es k se x o =
    let r = lent_plain known (function_named f fs).params es k.arguments se x o in
    (r.0, same x ∙ either_right (is_int known x) (is_array known x) r.1)

-- names after the names that a statement declares
pub then_names : (s : Stmt) (line : ℕ) (b : Block) (owners : List Name) (x : Name) → is_among x (own_names b ++ known_after owners s) ≡ true → is_among x (own_names (Then line s b) ++ owners) ≡ true
then_names s line b owners x h = by s (side x (own_names b) (known_after owners s) h)
  where
    last : (y : Name) → Placed x y owners → is_among x (y ∷ (own_names b ++ owners)) ≡ true
    last y (at_front same) = ap (λ z. is_among z (y ∷ (own_names b ++ owners))) same ∙ front_among y (own_names b ++ owners)
    last y (after_it other p) = later_among x y (own_names b ++ owners) (among_right x (own_names b) owners p)

    one : (y : Name) → Side x (own_names b) (y ∷ owners) → is_among x (y ∷ (own_names b ++ owners)) ≡ true
    one y (in_first o) = later_among x y (own_names b ++ owners) (among_left x (own_names b) owners o)
    one y (in_second o) = last y (placed x y owners o)

    none : Side x (own_names b) owners → is_among x (own_names b ++ owners) ≡ true
    none (in_first o) = among_left x (own_names b) owners o
    none (in_second o) = among_right x (own_names b) owners o

    by : (s : Stmt) → Side x (own_names b) (known_after owners s) → is_among x (own_names (Then line s b) ++ owners) ≡ true
    by (Declare y e) o = one y o
    by (DeclareArray y e) o = one y o
    by _ o = none o

-- the parts of a cut are names of its block
pub part_names : (l r : Name) (own owners : List Name) (x : Name) → is_among x (own ++ (r ∷ l ∷ owners)) ≡ true → is_among x ((l ∷ r ∷ own) ++ owners) ≡ true
part_names l r own owners x h = go (side x own (r ∷ l ∷ owners) h)
  where
    left : Placed x l owners → is_among x (l ∷ r ∷ (own ++ owners)) ≡ true
    left (at_front same) = ap (λ z. is_among z (l ∷ r ∷ (own ++ owners))) same ∙ front_among l (r ∷ (own ++ owners))
    left (after_it other p) = later_among x l (r ∷ (own ++ owners)) (later_among x r (own ++ owners) (among_right x own owners p))

    right : Placed x r (l ∷ owners) → is_among x (l ∷ r ∷ (own ++ owners)) ≡ true
    right (at_front same) = later_among x l (r ∷ (own ++ owners)) (ap (λ z. is_among z (r ∷ (own ++ owners))) same ∙ front_among r (own ++ owners))
    right (after_it other p) = left (placed x l owners p)

    go : Side x own (r ∷ l ∷ owners) → is_among x (l ∷ r ∷ (own ++ owners)) ≡ true
    go (in_first o) = later_among x l (r ∷ (own ++ owners)) (later_among x r (own ++ owners) (among_left x own owners o))
    go (in_second o) = right (placed x r (l ∷ owners) o)
