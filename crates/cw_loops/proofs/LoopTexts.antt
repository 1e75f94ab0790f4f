-- The function of a loop, written out by slot, is the function by name with each name looked up.
use Rattle.std.proofs.Common.{◌≡◌, ℕ, zero, suc, ◌+◌, ◌*◌, Bool, true, false, pos, List, [], ◌∷◌, ◌++◌, length, map, arith, refl, sym, ◌∙◌, ap, append_assoc, append-nil, length-append}
use Rattle.std.specs.Prelude.{if◌then◌else◌, not, ◌||◌, replicate, filter}
use Rattle.std.proofs.lemmas.List.{map-append}
use Rattle.std.proofs.lemmas.Bool.{and_parts}
use Rattle.cw_facts.specs.Tests.{not_true, never, refuted}
use Rattle.cw_model.specs.declared.syntax.NameKind.{NameKind}
use Rattle.cw_model.specs.declared.syntax.NameKind.TheVariants as name_kind
use Rattle.cw_model.specs.declared.syntax.CallKind.TheVariants.{Plain, Spawned}
use Rattle.cw_model.specs.declared.syntax.Operator.TheVariants.{AtMost, Less, Plus, Minus, Divide}
use Rattle.cw_model.specs.Syntax.{Name, Param, is_array_param}
use Rattle.cw_model.specs.Syntax as model
use Rattle.cw_model.specs.Names.{same_name, is_among, differ}
use Rattle.cw_model.specs.lemmas.Names.{same_itself, same_are}
use Rattle.cw_tree.specs.Resolved.{Lists, Locals, slot_of, params_of}
use Rattle.cw_tree.specs.lemmas.NamedSlots.{slot_stays}
use Rattle.cw_tree.specs.lemmas.Names.{among_append, front_among, later_among}
use Rattle.cw_loops.specs.Lowered.{is_plain, low, high, middle, left_part, right_part, int_params, array_params, variables}
use Rattle.cw_loops.specs.Lowered.{loop_function, leaf_block, node_block, both_halves, in_cuts, left_arguments, right_arguments}
use Rattle.cw_loops.specs.Slotted.{Expr, Number, Variable, Binary, Int, Array, Declare, Assign, Start, IfElse, While, Scope, Cut, Block, End, Then}
use Rattle.cw_loops.specs.Slotted.{Function, slotted_name, slotted_argument, slotted_block, slotted_function, slotted_arguments}
use Rattle.cw_loops.specs.Expanded.{turn_slot, left_slot, right_slot, numbers, half, loop_text}
use Rattle.cw_loops.specs.Expanded as by_slot
use Rattle.cw_loops.specs.Moved.{Loop}
use Rattle.cw_loops.specs.lemmas.Apart.{plain_apart, apart_plain}
use Rattle.cw_loops.specs.lemmas.Naming.{Placed, at_front, after_it, placed, among_right, map_same}
use Rattle.cw_loops.proofs.Fresh.{left_left, right_right}
use Rattle.cw_loops.proofs.Shifting.{slot_past}
use Rattle.cw_loops.proofs.Readers.{reads_none, all_taken}
use Rattle.cw_loops.proofs.Entering.{joined}

-- consecutive numbers

one_more : (done : List Name) (v : Name) → length (done ++ v ∷ []) ≡ suc (length done)
one_more done v = length-append done (v ∷ []) ∙ omega arith

not_before : (v : Name) (done rest : List Name) → differ (done ++ v ∷ rest) ≡ true → is_among v done ≡ false
not_before v [] rest h = refl
not_before v (y ∷ done) rest h =
    let two = and_parts (not (is_among y (done ++ v ∷ rest))) (differ (done ++ v ∷ rest)) h in
    let other : same_name v y ≡ false = refuted (same_name v y) (λ e. never (is_among y (done ++ v ∷ rest))
    (among_right y done (v ∷ rest) (ap (λ w. is_among w (v ∷ rest)) (sym (same_are v y e)) ∙ front_among v rest)) (not_true _ two.0)) in
    ap (λ b. if b then true else is_among v done) other ∙ not_before v done rest two.1

at_place : (v : Name) (done rest : List Name) → differ (done ++ v ∷ rest) ≡ true → slot_of v (done ++ v ∷ rest) ≡ length done
at_place v done rest h =
    slot_past v done (v ∷ rest) (not_before v done rest h) ∙ ap (λ b. length done + (if b then 0 else suc (slot_of v rest))) (same_itself v) ∙ omega arith

in_turn : {A : Type 0} (f : ℕ → A) (names done rest : List Name) → names ≡ done ++ rest → differ names ≡ true → map (λ v. f (slot_of v names)) rest ≡ map f (numbers (length done) (length rest))
in_turn f names done [] e h = refl
in_turn f names done (v ∷ rest) e h =
    ap (λ n. f n ∷ map (λ w. f (slot_of w names)) rest) (ap (slot_of v) e ∙ at_place v done rest (ap differ (sym e) ∙ h))
    ∙ ap (λ r. f (length done) ∷ r) (in_turn f names (done ++ v ∷ []) rest (e ∙ sym (append_assoc done (v ∷ []) rest)) h ∙ ap (λ n. map f (numbers n (length rest))) (one_more done v))

shifted : {A : Type 0} (f : ℕ → A) (n k : ℕ) → map (λ i. f (2 + i)) (numbers n k) ≡ map f (numbers (2 + n) k)
shifted f n zero = refl
shifted f n (suc k) = ap (λ r. f (2 + n) ∷ r) (shifted f (suc n) k ∙ ap (λ j. map f (numbers j k)) (next n))
  where
    next : (i : ℕ) → 2 + suc i ≡ suc (2 + i)
    next i = omega arith

twice : {A B C : Type 0} (f : B → C) (g : A → B) (ns : List A) → map f (map g ns) ≡ map (λ i. f (g i)) ns
twice f g [] = refl
twice f g (n ∷ ns) = ap (λ r. f (g n) ∷ r) (twice f g ns)

-- the two parts of each array

abbrev parts : List Name → List Name
parts [] = []
parts (a ∷ rest) = left_part a ∷ right_part a ∷ parts rest

parts-append : (xs ys : List Name) → parts (xs ++ ys) ≡ parts xs ++ parts ys
parts-append [] ys = refl
parts-append (a ∷ xs) ys = ap (λ r. left_part a ∷ right_part a ∷ r) (parts-append xs ys)

two_each : (xs : List Name) → length (parts xs) ≡ 2 * length xs
two_each [] = omega arith
two_each (a ∷ xs) = let e = two_each xs in omega (arith, e)

left_right : (a b : Name) → same_name (left_part a) (right_part b) ≡ false
left_right a b = refl

right_left : (a b : Name) → same_name (right_part a) (left_part b) ≡ false
right_left a b = refl

left_place : (a : Name) (xs : List Name) → is_among a xs ≡ true → slot_of (left_part a) (parts xs) ≡ 2 * slot_of a xs
left_place a [] h = absurd cc
left_place a (y ∷ xs) h =
    ap (λ b. if b then 0 else suc (if same_name (left_part a) (right_part y) then 0 else suc (slot_of (left_part a) (parts xs)))) (left_left a y)
    ∙ ap (λ b. if same_name a y then 0 else suc (if b then 0 else suc (slot_of (left_part a) (parts xs)))) (left_right a y)
    ∙ go (same_name a y) h (left_place a xs)
  where
    go : (b : Bool) → (if b then true else is_among a xs) ≡ true → (is_among a xs ≡ true → slot_of (left_part a) (parts xs) ≡ 2 * slot_of a xs)
        → (if b then 0 else suc (suc (slot_of (left_part a) (parts xs)))) ≡ 2 * (if b then 0 else suc (slot_of a xs))
    go true g more = omega arith
    go false g more = let e = more g in omega (arith, e)

right_place : (a : Name) (xs : List Name) → is_among a xs ≡ true → slot_of (right_part a) (parts xs) ≡ suc (2 * slot_of a xs)
right_place a [] h = absurd cc
right_place a (y ∷ xs) h =
    ap (λ b. if b then 0 else suc (if same_name (right_part a) (right_part y) then 0 else suc (slot_of (right_part a) (parts xs)))) (right_left a y)
    ∙ ap (λ b. suc (if b then 0 else suc (slot_of (right_part a) (parts xs)))) (right_right a y)
    ∙ go (same_name a y) h (right_place a xs)
  where
    go : (b : Bool) → (if b then true else is_among a xs) ≡ true → (is_among a xs ≡ true
        → slot_of (right_part a) (parts xs) ≡ suc (2 * slot_of a xs)) → suc (if b then 0 else suc (slot_of (right_part a) (parts xs)))
        ≡ suc (2 * (if b then 0 else suc (slot_of a xs)))
    go true g more = omega arith
    go false g more = let e = more g in omega (arith, e)

left_among : (a : Name) (xs : List Name) → is_among a xs ≡ true → is_among (left_part a) (parts xs) ≡ true
left_among a [] h = absurd cc
left_among a (y ∷ xs) h = go (placed a y xs h) (left_among a xs)
  where
    go : Placed a y xs → (is_among a xs ≡ true → is_among (left_part a) (parts xs) ≡ true) → is_among (left_part a) (left_part y ∷ right_part y ∷ parts xs) ≡ true
    go (at_front same) more = ap (λ w. is_among (left_part w) (left_part y ∷ right_part y ∷ parts xs)) same ∙ front_among (left_part y) (right_part y ∷ parts xs)
    go (after_it other p) more = later_among (left_part a) (left_part y) (right_part y ∷ parts xs) (later_among (left_part a) (right_part y) (parts xs) (more p))

right_among : (a : Name) (xs : List Name) → is_among a xs ≡ true → is_among (right_part a) (parts xs) ≡ true
right_among a [] h = absurd cc
right_among a (y ∷ xs) h = go (placed a y xs h) (right_among a xs)
  where
    go : Placed a y xs → (is_among a xs ≡ true → is_among (right_part a) (parts xs) ≡ true) → is_among (right_part a) (left_part y ∷ right_part y ∷ parts xs) ≡ true
    go (at_front same) more = later_among (right_part a) (left_part y) (right_part y ∷ parts xs)
        (ap (λ w. is_among (right_part w) (right_part y ∷ parts xs)) same ∙ front_among (right_part y) (parts xs))
    go (after_it other p) more = later_among (right_part a) (left_part y) (right_part y ∷ parts xs) (later_among (right_part a) (right_part y) (parts xs) (more p))

-- a name of another form is not a part
no_part : (z : Name) (xs : List Name) → ((b : Name) → same_name z (left_part b) ≡ false) → ((b : Name) → same_name z (right_part b) ≡ false) → is_among z (parts xs) ≡ false
no_part z [] l r = refl
no_part z (y ∷ xs) l r =
    ap (λ b. if b then true else (if same_name z (right_part y) then true else is_among z (parts xs))) (l y)
    ∙ ap (λ b. if b then true else is_among z (parts xs)) (r y) ∙ no_part z xs l r

generated_free : (z : Name) (over : List Name) → ((a : Name) → is_among a over ≡ true → is_plain a ≡ true) → ((a : Name) → is_plain a ≡ true → same_name z a ≡ false) → is_among z over ≡ false
generated_free z over plain other = refuted (is_among z over) (λ o. never (same_name z z) (same_itself z) (other z (plain z o)))

-- the kinds of the parameters, and the parameters as locals
array_kinds : (over : List Name) → map (λ (p : Param). p.kind) (array_params over) ≡ replicate (length over) name_kind.Array
array_kinds [] = refl
array_kinds (a ∷ over) = ap (λ r. name_kind.Array ∷ r) (array_kinds over)

kinds : (taken over : List Name) → map (λ (p : Param). p.kind) (int_params taken ++ array_params over) ≡ replicate (length taken) name_kind.Integer ++ replicate (length over) name_kind.Array
kinds [] over = array_kinds over
kinds (v ∷ taken) over = ap (λ r. name_kind.Integer ∷ r) (kinds taken over)

no_ints : (over : List Name) → map (λ (p : Param). p.name) (filter (λ p. not (is_array_param p)) (array_params over)) ≡ []
no_ints [] = refl
no_ints (a ∷ over) = no_ints over

all_arrays : (over : List Name) → map (λ (p : Param). p.name) (filter (λ p. is_array_param p) (array_params over)) ≡ over
all_arrays [] = refl
all_arrays (a ∷ over) = ap (λ r. a ∷ r) (all_arrays over)

ints_are : (taken over : List Name) → map (λ (p : Param). p.name) (filter (λ p. not (is_array_param p)) (int_params taken ++ array_params over)) ≡ taken
ints_are [] over = no_ints over
ints_are (v ∷ taken) over = ap (λ r. v ∷ r) (ints_are taken over)

arrays_are : (taken over : List Name) → map (λ (p : Param). p.name) (filter (λ p. is_array_param p) (int_params taken ++ array_params over)) ≡ over
arrays_are [] over = all_arrays over
arrays_are (v ∷ taken) over = arrays_are taken over

-- names as arguments
names_are : (l : Locals) (vs : List Name) → map (slotted_argument l []) (variables vs) ≡ map (slotted_name l []) vs
names_are l [] = refl
names_are l (v ∷ vs) = ap (λ r. slotted_name l [] v ∷ r) (names_are l vs)

as_int : (z : Name) (ints arrays : List Name) (s : ℕ) → is_among z arrays ≡ false → slot_of z ints ≡ s → slotted_name (joined [] [] ints arrays) [] z ≡ Int (Variable s)
as_int z ints arrays s e f = ap (λ b. if b then Array (slot_of z arrays) else Int (Variable (slot_of z ints))) e ∙ ap (λ n. Int (Variable n)) f

as_array : (z : Name) (ints arrays : List Name) (s : ℕ) → is_among z arrays ≡ true → slot_of z arrays ≡ s → slotted_name (joined [] [] ints arrays) [] z ≡ Array s
as_array z ints arrays s e f = ap (λ b. if b then Array (slot_of z arrays) else Int (Variable (slot_of z ints))) e ∙ ap (λ n. Array n) f

module _ (lists : Lists) (line : ℕ) (name x : Name) (grain : ℕ) (taken over : List Name) (index : ℕ) (text : Block) (body : model.Block)
    (x_plain : is_plain x ≡ true) (x_free : is_among x taken ≡ false)
    (taken_plain : (v : Name) → is_among v taken ≡ true → is_plain v ≡ true) (taken_differ : differ taken ≡ true)
    (over_plain : (a : Name) → is_among a over ≡ true → is_plain a ≡ true) (over_differ : differ over ≡ true)
    (kept_apart : (v : Name) → is_among v taken ≡ true → is_among v over ≡ false) (index_is : slot_of name lists.functions ≡ index) (taken_only : reads_none (params_of lists name) ≡ true)
    (text_is : text ≡ slotted_block lists (joined [] [] ((low ∷ high ∷ taken) ++ x ∷ []) over) body) where
  abbrev loop : Loop
  loop = record { line = line; grain = grain; captured = length taken; over = length over; body = text }

  abbrev given : List Name
  given = low ∷ high ∷ taken

  abbrev node_ints : List Name
  node_ints = given ++ middle ∷ []

  abbrev all : List Name
  all = over ++ parts over

  given_slot : (v : Name) (more : List Name) → is_among v taken ≡ true → slot_of v (given ++ more) ≡ 2 + slot_of v taken
  given_slot v more o =
      ap (λ b. if b then 0 else suc (if same_name v high then 0 else suc (slot_of v (taken ++ more)))) (plain_apart v (108 ∷ []) (taken_plain v o))
      ∙ ap (λ b. suc (if b then 0 else suc (slot_of v (taken ++ more)))) (plain_apart v (104 ∷ []) (taken_plain v o))
      ∙ ap (λ s. suc (suc s)) (slot_stays v taken more o) ∙ omega arith

  last_slot : (z : Name) → is_among z given ≡ false → slot_of z (given ++ z ∷ []) ≡ turn_slot (length taken)
  last_slot z free = slot_past z given (z ∷ []) free ∙ ap (λ b. suc (suc (length taken)) + (if b then 0 else 1)) (same_itself z) ∙ omega arith

  middle_free : is_among middle given ≡ false
  middle_free = generated_free middle taken taken_plain (λ a p. apart_plain a (109 ∷ []) p)

  x_new : is_among x given ≡ false
  x_new =
      ap (λ b. if b then true else (if same_name x high then true else is_among x taken)) (plain_apart x (108 ∷ []) x_plain)
      ∙ ap (λ b. if b then true else is_among x taken) (plain_apart x (104 ∷ []) x_plain) ∙ x_free

  middle_slot : slot_of middle node_ints ≡ turn_slot (length taken)
  middle_slot = last_slot middle middle_free

  -- names that are not arrays
  low_no_array : is_among low all ≡ false
  low_no_array = among_append low over (parts over) ∙ ap (λ b. b || is_among low (parts over))
      (generated_free low over over_plain (λ a p. apart_plain a (108 ∷ []) p)) ∙ no_part low over (λ b. refl) (λ b. refl)

  high_no_array : is_among high all ≡ false
  high_no_array = among_append high over (parts over) ∙ ap (λ b. b || is_among high (parts over))
      (generated_free high over over_plain (λ a p. apart_plain a (104 ∷ []) p)) ∙ no_part high over (λ b. refl) (λ b. refl)

  middle_no_array : is_among middle all ≡ false
  middle_no_array = among_append middle over (parts over) ∙ ap (λ b. b || is_among middle (parts over))
      (generated_free middle over over_plain (λ a p. apart_plain a (109 ∷ []) p)) ∙ no_part middle over (λ b. refl) (λ b. refl)

  taken_no_array : (v : Name) → is_among v taken ≡ true → is_among v all ≡ false
  taken_no_array v o =
      among_append v over (parts over) ∙ ap (λ b. b || is_among v (parts over)) (kept_apart v o)
      ∙ no_part v over (λ b. plain_apart v (60 ∷ b) (taken_plain v o)) (λ b. plain_apart v (62 ∷ b) (taken_plain v o))

  left_no_over : (a : Name) → is_among (left_part a) over ≡ false
  left_no_over a = generated_free (left_part a) over over_plain (λ b p. apart_plain b (60 ∷ a) p)

  right_no_over : (a : Name) → is_among (right_part a) over ≡ false
  right_no_over a = generated_free (right_part a) over over_plain (λ b p. apart_plain b (62 ∷ a) p)

  -- the arguments for both halves
  taken_given : map (slotted_argument (joined [] [] node_ints all) []) (variables taken) ≡ map (λ s. Int (Variable s)) (numbers 2 (length taken))
  taken_given =
      names_are (joined [] [] node_ints all) taken
      ∙ map_same (slotted_name (joined [] [] node_ints all) []) (λ v. Int (Variable (2 + slot_of v taken))) taken
      (λ v o. as_int v node_ints all (2 + slot_of v taken) (taken_no_array v o) (given_slot v (middle ∷ []) o))
      ∙ in_turn (λ n. Int (Variable (2 + n))) taken [] taken refl taken_differ ∙ shifted (λ n. Int (Variable n)) 0 (length taken)

  lefts_given : map (slotted_argument (joined [] [] node_ints all) []) (variables (map left_part over)) ≡ map Array (map (left_slot (length over)) (numbers 0 (length over)))
  lefts_given =
      names_are (joined [] [] node_ints all) (map left_part over) ∙ twice (slotted_name (joined [] [] node_ints all) []) left_part over
      ∙ map_same (λ a. slotted_name (joined [] [] node_ints all) [] (left_part a)) (λ a. Array (left_slot (length over) (slot_of a over))) over
      (λ a o. as_array (left_part a) node_ints all (left_slot (length over) (slot_of a over)) (among_right (left_part a) over (parts over) (left_among a over o))
      (slot_past (left_part a) over (parts over) (left_no_over a) ∙ ap (λ n. length over + n) (left_place a over o)))
      ∙ in_turn (λ n. Array (left_slot (length over) n)) over [] over refl over_differ ∙ sym (twice Array (left_slot (length over)) (numbers 0 (length over)))

  rights_given : map (slotted_argument (joined [] [] node_ints all) []) (variables (map right_part over)) ≡ map Array (map (right_slot (length over)) (numbers 0 (length over)))
  rights_given =
      names_are (joined [] [] node_ints all) (map right_part over) ∙ twice (slotted_name (joined [] [] node_ints all) []) right_part over
      ∙ map_same (λ a. slotted_name (joined [] [] node_ints all) [] (right_part a)) (λ a. Array (right_slot (length over) (slot_of a over))) over
      (λ a o. as_array (right_part a) node_ints all (right_slot (length over) (slot_of a over)) (among_right (right_part a) over (parts over) (right_among a over o))
      (slot_past (right_part a) over (parts over) (right_no_over a) ∙ ap (λ n. length over + n) (right_place a over o) ∙ omega arith))
      ∙ in_turn (λ n. Array (right_slot (length over) n)) over [] over refl over_differ ∙ sym (twice Array (right_slot (length over)) (numbers 0 (length over)))

  arguments_given : (from to : Name) (f t : ℕ) (ends : List Name) (slots : List ℕ) → is_among from all ≡ false → is_among to all ≡ false → slot_of from node_ints ≡ f → slot_of to node_ints ≡ t →
      map (slotted_argument (joined [] [] node_ints all) []) (variables ends) ≡ map Array slots →
      map (slotted_argument (joined [] [] node_ints all) []) (model.Variable from ∷ model.Variable to ∷ (variables taken ++ variables ends)) ≡ half f t (numbers 2 (length taken)) slots
  arguments_given from to f t ends slots from_int to_int from_is to_is ends_are =
      ap (λ y. y ∷ slotted_name (joined [] [] node_ints all) [] to ∷ map (slotted_argument (joined [] [] node_ints all) [])
      (variables taken ++ variables ends)) (as_int from node_ints all f from_int from_is)
      ∙ ap (λ y. Int (Variable f) ∷ y ∷ map (slotted_argument (joined [] [] node_ints all) []) (variables taken ++ variables ends)) (as_int to node_ints all t to_int to_is)
      ∙ ap (λ r. Int (Variable f) ∷ Int (Variable t) ∷ r) (map-append (slotted_argument (joined [] [] node_ints all) []) (variables taken) (variables ends)
      ∙ ap (λ r. r ++ map (slotted_argument (joined [] [] node_ints all) []) (variables ends)) taken_given
      ∙ ap (λ r. map (λ s. Int (Variable s)) (numbers 2 (length taken)) ++ r) ends_are)

  halves_are : slotted_block lists (joined [] [] node_ints all) (both_halves line name (left_arguments taken over) (right_arguments taken over)) ≡ by_slot.both_halves index loop
  halves_are =
      ap (λ i. Then line (Start Spawned i (slotted_arguments here callee lefts)) (Then line (Start Plain i (slotted_arguments here callee rights)) End)) index_is
      ∙ ap (λ es. Then line (Start Spawned index es) (Then line (Start Plain index (slotted_arguments here callee rights)) End))
      (all_taken here callee lefts taken_only
      ∙ arguments_given low middle 0 (turn_slot (length taken)) (map left_part over)
      (map (left_slot (length over)) (numbers 0 (length over))) low_no_array middle_no_array refl middle_slot lefts_given)
      ∙ ap (λ es. Then line (Start Spawned index (half 0 (turn_slot (length taken)) (numbers 2 (length taken))
      (map (left_slot (length over)) (numbers 0 (length over))))) (Then line (Start Plain index es) End))
      (all_taken here callee rights taken_only
      ∙ arguments_given middle high (turn_slot (length taken)) 1 (map right_part over)
      (map (right_slot (length over)) (numbers 0 (length over))) middle_no_array high_no_array middle_slot refl rights_given)
    where
      here : Locals
      here = joined [] [] node_ints all

      callee : List Param
      callee = params_of lists name

      lefts : List model.Expr
      lefts = left_arguments taken over

      rights : List model.Expr
      rights = right_arguments taken over

  -- the cuts of the arrays, in sequence
  parts_are : (done : List Name) (a : Name) → ((over ++ parts done) ++ left_part a ∷ []) ++ right_part a ∷ [] ≡ over ++ parts (done ++ a ∷ [])
  parts_are done a =
      append_assoc (over ++ parts done) (left_part a ∷ []) (right_part a ∷ []) ∙ append_assoc over (parts done) (left_part a ∷ right_part a ∷ [])
      ∙ ap (λ r. over ++ r) (sym (parts-append done (a ∷ [])))

  spot : (done : List Name) → length (over ++ parts done) ≡ left_slot (length over) (length done)
  spot done = length-append over (parts done) ∙ ap (λ n. length over + n) (two_each done)

  cuts_are : (done rest : List Name) → over ≡ done ++ rest → (inside : model.Block) (made : Block) → slotted_block lists (joined [] [] node_ints all) inside ≡ made →
      slotted_block lists (joined [] [] node_ints (over ++ parts done)) (in_cuts line rest inside) ≡ by_slot.in_cuts loop (numbers (length done) (length rest)) made
  cuts_are done [] e inside made h = ap (λ r. slotted_block lists (joined [] [] node_ints (over ++ parts r)) inside) (sym (append-nil done) ∙ sym e) ∙ h
  cuts_are done (a ∷ rest) e inside made h =
      ap (λ n. Then line (Cut n (Binary Minus (Variable (slot_of middle node_ints)) (Variable 0)) (length arrays) (suc (length arrays)) within) End) array_is
      ∙ ap (λ n. Then line (Cut (length done) (Binary Minus (Variable n) (Variable 0)) (length arrays) (suc (length arrays)) within) End) middle_slot
      ∙ ap (λ n. Then line (Cut (length done) (Binary Minus (Variable (turn_slot (length taken))) (Variable 0)) n (suc n) within) End) (spot done)
      ∙ ap (λ b. Then line (Cut (length done) (Binary Minus (Variable (turn_slot (length taken))) (Variable 0))
      (left_slot (length over) (length done)) (suc (left_slot (length over) (length done))) b) End)
      (more (cuts_are (done ++ a ∷ []) rest (e ∙ sym (append_assoc done (a ∷ []) rest)) inside made h))
    where
      arrays : List Name
      arrays = over ++ parts done

      within : Block
      within = slotted_block lists (joined [] [] node_ints ((arrays ++ left_part a ∷ []) ++ right_part a ∷ [])) (in_cuts line rest inside)

      array_is : slot_of a (over ++ parts done) ≡ length done
      array_is =
          slot_stays a over (parts done) (ap (is_among a) e ∙ among_right a done (a ∷ rest) (front_among a rest))
          ∙ ap (slot_of a) e ∙ at_place a done rest (ap differ (sym e) ∙ over_differ)

      more : slotted_block lists (joined [] [] node_ints (over ++ parts (done ++ a ∷ []))) (in_cuts line rest inside) ≡ by_slot.in_cuts loop (numbers (length (done ++ a ∷ [])) (length rest)) made →
          slotted_block lists (joined [] [] node_ints (((over ++ parts done) ++ left_part a ∷ []) ++ right_part a ∷ [])) (in_cuts line rest inside)
          ≡ by_slot.in_cuts loop (numbers (suc (length done)) (length rest)) made
      more next =
          ap (λ r. slotted_block lists (joined [] [] node_ints r) (in_cuts line rest inside)) (parts_are done a)
          ∙ next ∙ ap (λ n. by_slot.in_cuts loop (numbers n (length rest)) made) (one_more done a)

  -- a node, a leaf, and both
  node_is : slotted_block lists (joined [] [] given over) (node_block line name taken over) ≡ by_slot.node index loop
  node_is =
      ap (λ n. Then line (Declare n halved) (slotted_block lists (joined [] [] node_ints over) cuts)) two_less
      ∙ ap (λ r. Then line (Declare (turn_slot (length taken)) halved) (slotted_block lists (joined [] [] node_ints r) cuts)) (sym (append-nil over))
      ∙ ap (λ b. Then line (Declare (turn_slot (length taken)) halved) b)
      (cuts_are [] over refl (both_halves line name (left_arguments taken over) (right_arguments taken over)) (by_slot.both_halves index loop) halves_are)
    where
      halved : Expr
      halved = Binary Plus (Variable 0) (Binary Divide by_slot.range (Number (pos 2)))

      cuts : model.Block
      cuts = in_cuts line over (both_halves line name (left_arguments taken over) (right_arguments taken over))

      two_less : suc (suc (length taken)) ≡ turn_slot (length taken)
      two_less = omega arith

  leaf_is : slotted_block lists (joined [] [] given over) (leaf_block line x body) ≡ by_slot.leaf loop
  leaf_is =
      ap (λ n. Then line (Declare n (Variable 0)) (turns (slot_of x (given ++ x ∷ [])) (slotted_block lists (joined [] [] (given ++ x ∷ []) over) body))) two_less
      ∙ ap (λ n. Then line (Declare (turn_slot (length taken)) (Variable 0)) (turns n (slotted_block lists (joined [] [] (given ++ x ∷ []) over) body))) (last_slot x x_new)
      ∙ ap (λ b. Then line (Declare (turn_slot (length taken)) (Variable 0)) (turns (turn_slot (length taken)) b)) (sym text_is)
    where
      turns : ℕ → Block → Block
      turns n b =
          Then line (While (Binary Less (Variable n) (Variable 1)) (Then line (Scope b) (Then line (Assign n (Binary Plus (Variable n) (Number (pos 1)))) End))) End

      two_less : suc (suc (length taken)) ≡ turn_slot (length taken)
      two_less = omega arith

  whole : List NameKind → Block → Function
  whole ps b = record { gives_int = false; params = ps; body = b }

  choice : Block → Block → Block
  choice b d = Then line (IfElse (Binary AtMost by_slot.range (Number (pos grain))) b d) End

  pub loop_text_is : loop_text index loop ≡ slotted_function lists (loop_function name line x grain taken over body)
  unfolding choice whole
  loop_text_is =
      ap (λ ps. whole (name_kind.Integer ∷ name_kind.Integer ∷ ps) (choice (by_slot.leaf loop) (by_slot.node index loop))) (sym (kinds taken over))
      ∙ ap (λ b. whole (name_kind.Integer ∷ name_kind.Integer ∷ map (λ (p : Param). p.kind) (int_params taken ++ array_params over)) b)
      (ap (λ b. choice b (by_slot.node index loop)) (sym leaf_is) ∙ ap (choice (slotted_block lists (joined [] [] given over) (leaf_block line x body))) (sym node_is)
      ∙ ap (λ vs. slotted_block lists (joined [] [] (low ∷ high ∷ vs) over) (loop_function name line x grain taken over body).body) (sym (ints_are taken over))
      ∙ ap (λ r. slotted_block lists (joined [] [] (low ∷ high ∷ map (λ (p : Param). p.name)
      (filter (λ p. not (is_array_param p)) (int_params taken ++ array_params over))) r) (loop_function name line x grain taken over body).body)
      (sym (arrays_are taken over)))
