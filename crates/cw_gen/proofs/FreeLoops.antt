-- In the function of a loop no taken name is used, if this holds for its body.
use Rattle.std.proofs.Common.{◌≡◌, ℕ, ◌+◌, List, [], ◌∷◌, ◌++◌, true, false, refl, sym, ap, ◌∙◌, subst, inl, inr, true≢false}
use Rattle.std.specs.Prelude.{map, not, if◌then◌else◌}
use Rattle.std.proofs.lemmas.Bool.{and_parts}
use Rattle.cw_facts.specs.Tests.{not_true, both_true}
use Rattle.cw_model.specs.declared.syntax.Operator.TheVariants.{Less}
use Rattle.cw_model.specs.Syntax.{Name, Expr, Variable, Binary, While, Scope, Block, Function}
use Rattle.cw_model.specs.Names.{same_name, is_among, differ}
use Rattle.cw_model.specs.Meaning.{function_named}
use Rattle.cw_model.specs.Ownership.{Holder, SpawnIn, CutOf, Taken, is_taken, is_held, own_names, given, arrays_given, taken_by, are_loose, Joins, Leaves}
use Rattle.cw_tree.specs.lemmas.Names.{front_among, later_among}
use Rattle.cw_gen.proofs.Takens.{loose_free}
use Rattle.cw_loops.specs.Lowered.{is_plain, low, high, middle, left_part, right_part, int_params, array_params, variables, leaf_turn}
use Rattle.cw_loops.specs.Lowered.{leaf_block, left_arguments, right_arguments, both_halves, in_cuts, node_block, loop_function}
use Rattle.cw_loops.specs.lemmas.Apart.{plain_apart, not_later}
use Rattle.cw_loops.specs.lemmas.Naming.{Placed, at_front, after_it, placed}
use Rattle.cw_gen.proofs.HeldNames.{held_after, held_after_all}
use Rattle.cw_gen.proofs.Fine.{EndsFree}
use Rattle.cw_gen.proofs.Kept.{ExprsFree, BlockFree}
use Rattle.cw_gen.proofs.FreeTexts.{free_all, free_one, loose_all}
use Rattle.cw_gen.proofs.FreeMembers.{In, in_append, in_filter, in_taken, not_in, in_held, not_held, by_spawn, scope_from, cut_from, free_after, either_way}

-- nothing is held
abbrev pub Nothing : Taken → Type 0
Nothing held = (t : Name × Holder) → In t held → ⊥

-- if nothing is held, no name is held
pub nothing_taken : (held : Taken) → Nothing held → (x : Name) → is_held held x ≡ false
nothing_taken held h x = not_held x held (λ k i. h (x, k) i)

nothing_free : (held : Taken) → Nothing held → (x : Name) → is_taken held x ≡ false
nothing_free held h x = loose_free x held (nothing_taken held h x)

-- each held name is plain
abbrev OnlyPlain : Taken → Type 0
OnlyPlain held = (t : Name × Holder) → In t held → is_plain t.0 ≡ true

hash_loose : (held : Taken) → OnlyPlain held → (x : Name) → is_plain x ≡ false → is_held held x ≡ false
hash_loose held h x other = not_held x held (λ k i. true≢false (sym (h (x, k) i) ∙ other))

hash_free : (held : Taken) → OnlyPlain held → (x : Name) → is_plain x ≡ false → is_taken held x ≡ false
hash_free held h x other = loose_free x held (hash_loose held h x other)

-- arguments that are names

named_free : (held : Taken) (xs : List Name) → ((x : Name) → is_among x xs ≡ true → is_taken held x ≡ false) → ExprsFree held (variables xs)
named_free held [] h = tt
named_free held (x ∷ xs) h = (free_one held x (h x (front_among x xs)), named_free held xs (λ y o. h y (later_among y x xs o)))

exprs_both : (held : Taken) (es ds : List Expr) → ExprsFree held es → ExprsFree held ds → ExprsFree held (es ++ ds)
exprs_both held [] ds h g = g
exprs_both held (e ∷ es) ds h g = (h.0, exprs_both held es ds h.1 g)

-- the arrays that a call on a half is given are the parts of these
parts_given : (part : Name → Name) (over : List Name) → arrays_given (array_params over) (variables (map part over)) ≡ map part over
parts_given part [] = refl
parts_given part (a ∷ over) = ap (λ l. part a ∷ l) (parts_given part over)

half_given : (part : Name → Name) (ints over : List Name) → arrays_given (int_params ints ++ array_params over) (variables ints ++ variables (map part over)) ≡ map part over
half_given part [] over = parts_given part over
half_given part (x ∷ ints) over = half_given part ints over

-- a name determines its part: a part is among the parts of names exactly if its name is among the names
part_among : (part : Name → Name) → ((a b : Name) → same_name (part a) (part b) ≡ same_name a b) → (a : Name) (over : List Name) → is_among (part a) (map part over) ≡ is_among a over
part_among part same a [] = refl
part_among part same a (b ∷ over) = ap (λ q. if q then true else is_among (part a) (map part over)) (same a b) ∙ ap (λ q. if same_name a b then true else q) (part_among part same a over)

parts_differ : (part : Name → Name) → ((a b : Name) → same_name (part a) (part b) ≡ same_name a b) → (over : List Name) → differ over ≡ true → differ (map part over) ≡ true
parts_differ part same [] h = refl
parts_differ part same (a ∷ over) h =
    let p = and_parts (not (is_among a over)) (differ over) h in
    both_true (not (is_among (part a) (map part over))) (differ (map part over)) (ap not (part_among part same a over) ∙ p.0) (parts_differ part same over p.1)

-- a name that is not a part
no_part : (part : Name → Name) (x : Name) → ((a : Name) → same_name x (part a) ≡ false) → (over : List Name) → is_among x (map part over) ≡ false
no_part part x h [] = refl
no_part part x h (a ∷ over) = ap (λ q. if q then true else is_among x (map part over)) (h a) ∙ no_part part x h over

-- a part has a generated name
part_hash : (part : Name → Name) → ((a : Name) → is_plain (part a) ≡ false) → (over : List Name) (x : Name) → is_among x (map part over) ≡ true → is_plain x ≡ false
part_hash part h [] x o = absurd cc
part_hash part h (a ∷ over) x o = go (placed x (part a) (map part over) o) (λ p. part_hash part h over x p)
  where
    go : Placed x (part a) (map part over) → (is_among x (map part over) ≡ true → is_plain x ≡ false) → is_plain x ≡ false
    go (at_front same) more = ap is_plain same ∙ h a
    go (after_it other p) more = more p

-- a right part is not a left part
right_left : (over all : List Name) (y : Name) → is_among y (map right_part all) ≡ true → is_among y (map left_part over) ≡ false
right_left over [] y o = absurd cc
right_left over (a ∷ all) y o = go (placed y (right_part a) (map right_part all) o) (λ p. right_left over all y p)
  where
    go : Placed y (right_part a) (map right_part all) → (is_among y (map right_part all) ≡ true → is_among y (map left_part over) ≡ false) → is_among y (map left_part over) ≡ false
    go (at_front same) more = ap (λ z. is_among z (map left_part over)) same ∙ no_part left_part (right_part a) (λ b. refl) over
    go (after_it other p) more = more p

-- a name that a spawn did not take stays free
spawn_free : (depth : ℕ) (xs : List Name) (held : Taken) (x : Name) → is_among x xs ≡ false → is_taken held x ≡ false → is_taken (taken_by depth xs held) x ≡ false
spawn_free depth xs held x n free =
    not_in x (taken_by depth xs held) (λ k i loud. either_way (in_append (x, k) (map (λ y. (y, SpawnIn depth)) xs) held i)
    (λ j. true≢false (sym (by_spawn depth xs (x, k) j).0 ∙ n)) (λ j. true≢false (sym (in_taken (x, k) held j loud) ∙ free)))

-- a name that a spawn did not take stays not held
spawn_loose : (depth : ℕ) (xs : List Name) (held : Taken) (x : Name) → is_among x xs ≡ false → is_held held x ≡ false → is_held (taken_by depth xs held) x ≡ false
spawn_loose depth xs held x n free =
    not_held x (taken_by depth xs held) (λ k i. either_way (in_append (x, k) (map (λ y. (y, SpawnIn depth)) xs) held i)
    (λ j. true≢false (sym (by_spawn depth xs (x, k) j).0 ∙ n)) (λ j. true≢false (sym (in_held (x, k) held j) ∙ free)))

module _ (gs : List Function) (name : Name) (line : ℕ) (x : Name) (grain : ℕ) (ints over : List Name) (body : Block) (found : function_named name gs ≡ loop_function name line x grain ints over body)
    (ints_plain : (y : Name) → is_among y ints ≡ true → is_plain y ≡ true) (over_plain : (a : Name) → is_among a over ≡ true → is_plain a ≡ true)
    (no_int : (y : Name) → is_among y ints ≡ true → is_among y over ≡ false) (apart : differ over ≡ true)
    (body_free : (held : Taken) → Nothing held → BlockFree gs 2 held body × EndsFree gs 2 Joins held body) where
  -- nothing is held after an iteration of a leaf

  turn_leaves : (held : Taken) → Nothing held → Nothing (held_after gs 1 (Scope body) held)
  turn_leaves held h t i = h t (scope_from gs 1 body held t i)

  leaf_leaves : Nothing (held_after gs 1 (While (Binary Less (Variable x) (Variable high)) (leaf_turn line x body)) [])
  leaf_leaves t i = turn_leaves [] (λ u j. j) t (in_filter (λ u. not (is_among u.0 [])) t (held_after gs 1 (Scope body) []) i).0

  leaf_free : BlockFree gs 1 [] (leaf_block line x body) × EndsFree gs 1 Leaves [] (leaf_block line x body)
  leaf_free = (
    (
      refl,
      (
        (
          free_all all (x ∷ high ∷ []) (λ y o. nothing_free all leaf_leaves y),
          (
            body_free all leaf_leaves,
            (
              (nothing_free after (turn_leaves all leaf_leaves) x, free_all after (x ∷ []) (λ y o. nothing_free after (turn_leaves all leaf_leaves) y)),
              tt,
            ),
          ),
          (λ y o. absurd cc),
        ),
        tt,
      ),
    ),
    (λ y o. nothing_taken all leaf_leaves y),
  )
    where
      all : Taken
      all = held_after gs 1 (While (Binary Less (Variable x) (Variable high)) (leaf_turn line x body)) []

      after : Taken
      after = held_after gs 1 (Scope body) all

  -- the halves

  abbrev lefts : List Expr
  lefts = left_arguments ints over

  abbrev rights : List Expr
  rights = right_arguments ints over

  lefts_given : given gs name lefts ≡ map left_part over
  lefts_given = ap (λ (f : Function). arrays_given f.params lefts) found ∙ half_given left_part ints over

  rights_given : given gs name rights ≡ map right_part over
  rights_given = ap (λ (f : Function). arrays_given f.params rights) found ∙ half_given right_part ints over

  -- the names held inside the cuts: some of these arrays, by cuts
  abbrev OnlyOver : Taken → Type 0
  OnlyOver held = (t : Name × Holder) → In t held → is_among t.0 over ≡ true

  only_plain : (held : Taken) → OnlyOver held → OnlyPlain held
  only_plain held h t i = over_plain t.0 (h t i)

  int_free : (held : Taken) → OnlyOver held → (y : Name) → is_among y ints ≡ true → is_taken held y ≡ false
  int_free held h y o = loose_free y held (not_held y held (λ k i. true≢false (sym (h (y, k) i) ∙ no_int y o)))

  halves_free : (depth : ℕ) (held : Taken) → OnlyOver held → BlockFree gs depth held (both_halves line name lefts rights)
  halves_free depth held h = (
    (
      (
        free_one held low (hash_free held (only_plain held h) low refl),
        (
          free_one held middle (hash_free held (only_plain held h) middle refl),
          exprs_both held (variables ints) (variables (map left_part over)) (named_free held ints (int_free held h))
              (named_free held (map left_part over) (λ y o. hash_free held (only_plain held h) y (part_hash left_part (λ a. refl) over y o))),
        ),
      ),
      ap differ lefts_given ∙ parts_differ left_part (λ a b. refl) over apart,
      ap (are_loose held) lefts_given ∙ loose_all held (map left_part over) (λ y o. hash_loose held (only_plain held h) y (part_hash left_part (λ a. refl) over y o)),
    ),
    (
      (
        subst (λ xs. ExprsFree (taken_by depth xs held) rights) (sym lefts_given) (
          free_one now middle (spawned middle (no_part left_part middle (λ a. refl) over) (hash_free held (only_plain held h) middle refl)),
          (
            free_one now high (spawned high (no_part left_part high (λ a. refl) over) (hash_free held (only_plain held h) high refl)),
            exprs_both now (variables ints) (variables (map right_part over)) (named_free now ints (λ y o. spawned y (plain_part y (ints_plain y o)) (int_free held h y o)))
                (named_free now (map right_part over) (λ y o. spawned y (right_left over over y o) (hash_free held (only_plain held h) y (part_hash right_part (λ a. refl) over y o)))),
          ),
        ),
        ap differ rights_given ∙ parts_differ right_part (λ a b. refl) over apart,
        subst (λ xs. are_loose (taken_by depth xs held) (given gs name rights) ≡ true) (sym lefts_given)
            (ap (are_loose now) rights_given ∙ loose_all now (map right_part over)
            (λ y o. spawn_loose depth (map left_part over) held y (right_left over over y o)
            (hash_loose held (only_plain held h) y (part_hash right_part (λ a. refl) over y o)))),
      ),
      tt,
    ),
  )
    where
      now : Taken
      now = taken_by depth (map left_part over) held

      spawned : (y : Name) → is_among y (map left_part over) ≡ false → is_taken held y ≡ false → is_taken now y ≡ false
      spawned y n free = spawn_free depth (map left_part over) held y n free

      plain_part : (y : Name) → is_plain y ≡ true → is_among y (map left_part over) ≡ false
      plain_part y plain = no_part left_part y (λ a. plain_apart y (60 ∷ a) plain) over

  -- the statements inside the cuts declare no name
  own_none : (todo : List Name) → own_names (in_cuts line todo (both_halves line name lefts rights)) ≡ []
  own_none [] = refl
  own_none (a ∷ todo) = refl

  cuts_free : (todo : List Name) (depth : ℕ) (held : Taken) → OnlyOver held → ((t : Name × Holder) → In t held → is_among t.0 todo ≡ false)
      → ((a : Name) → is_among a todo ≡ true → is_among a over ≡ true) → differ todo ≡ true →
      BlockFree gs depth held (in_cuts line todo (both_halves line name lefts rights))
  cuts_free [] depth held h n within d = halves_free depth held h
  cuts_free (a ∷ todo) depth held h n within d = (
    (
      not_held a held (λ k i. true≢false (sym (front_among a todo) ∙ n (a, k) i)),
      free_all held (middle ∷ low ∷ []) both,
      cuts_free todo (depth + 1) inner inner_over inner_done (λ b o. within b (later_among b a todo o)) q.1,
      (λ y o. free_after gs (depth + 1) (in_cuts line todo (both_halves line name lefts rights)) inner y (hash_loose inner (only_plain inner inner_over) y (part y o))),
    ),
    tt,
  )
    where
      q : (not (is_among a todo) ≡ true) × (differ todo ≡ true)
      q = and_parts (not (is_among a todo)) (differ todo) d

      inner : Taken
      inner = (a, CutOf) ∷ held

      both : (y : Name) → is_among y (middle ∷ low ∷ []) ≡ true → is_taken held y ≡ false
      both y o = go (placed y middle (low ∷ []) o)
        where
          last : Placed y low [] → is_taken held y ≡ false
          last (at_front same) = ap (is_taken held) same ∙ hash_free held (only_plain held h) low refl
          last (after_it other p) = absurd cc

          go : Placed y middle (low ∷ []) → is_taken held y ≡ false
          go (at_front same) = ap (is_taken held) same ∙ hash_free held (only_plain held h) middle refl
          go (after_it other p) = last (placed y low [] p)

      inner_over : OnlyOver inner
      inner_over t (inl e) = ap (λ (u : Name × Holder). is_among u.0 over) (sym e) ∙ within a (front_among a todo)
      inner_over t (inr i) = h t i

      inner_done : (t : Name × Holder) → In t inner → is_among t.0 todo ≡ false
      inner_done t (inl e) = ap (λ (u : Name × Holder). is_among u.0 todo) (sym e) ∙ not_true (is_among a todo) q.0
      inner_done t (inr i) = not_later t.0 a todo (n t i)

      part : (y : Name) → is_among y (left_part a ∷ right_part a ∷ own_names (in_cuts line todo (both_halves line name lefts rights))) ≡ true → is_plain y ≡ false
      part y o = go (placed y (left_part a) _ o)
        where
          last : Placed y (right_part a) [] → is_plain y ≡ false
          last (at_front same) = ap is_plain same
          last (after_it other p) = absurd cc

          go : Placed y (left_part a) (right_part a ∷ own_names (in_cuts line todo (both_halves line name lefts rights))) → is_plain y ≡ false
          go (at_front same) = ap is_plain same
          go (after_it other p) = last (placed y (right_part a) [] (ap (λ l. is_among y (right_part a ∷ l)) (sym (own_none todo)) ∙ p))

  -- nothing is held after the cuts
  cuts_leave : (todo : List Name) → map left_part over ≡ map left_part todo → Nothing (held_after_all gs 1 (in_cuts line todo (both_halves line name lefts rights)) [])
  cuts_leave [] e t i = subst (λ xs. In t (taken_by 1 xs []) → ⊥) (sym (lefts_given ∙ e)) (λ j. j) i
  cuts_leave (a ∷ todo) e t i = cut_from gs 1 a (left_part a) (right_part a) (in_cuts line todo (both_halves line name lefts rights)) [] t i

  node_free : BlockFree gs 1 [] (node_block line name ints over) × EndsFree gs 1 Leaves [] (node_block line name ints over)
  node_free = (
    (refl, cuts_free over 1 [] (λ t i. absurd i) (λ t i. absurd i) (λ a o. o) apart),
    (λ y o. nothing_taken (held_after_all gs 1 (in_cuts line over (both_halves line name lefts rights)) []) (cuts_leave over refl) y),
  )

  -- no taken name is used in the body of a loop's function
  pub loop_free : BlockFree gs 1 [] (loop_function name line x grain ints over body).body
  loop_free = ((refl, leaf_free, node_free), tt)
