-- The names that the function of a loop uses are known in it.
use Rattle.cw_facts.specs.Tests.{not_true, never, refuted}
use Rattle.cw_model.specs.declared.syntax.NameKind.TheVariants as name_kind
use Rattle.std.proofs.Common.{◌≡◌, ℕ, ◌+◌, true, false, List, [], ◌∷◌, ◌++◌, Some, refl, sym, ◌∙◌, ap, subst, append-nil}
use Rattle.std.specs.Prelude.{not, ◌&&◌, ◌||◌, map}
use Rattle.std.proofs.lemmas.Bool.{and_parts}
use Rattle.cw_model.specs.declared.syntax.CallKind.{CallKind}
use Rattle.cw_model.specs.declared.syntax.CallKind.TheVariants.{Plain, Spawned}
use Rattle.cw_model.specs.Lines.{unless}
use Rattle.cw_model.specs.Syntax.{Name, Expr, Stmt, Start, If, IfElse, While, For, Scope, Cut, Region, Block, End, Then, Param, Function, Program}
use Rattle.cw_model.specs.Names.{same_name, is_among, differ}
use Rattle.cw_model.specs.Captured.{captured}
use Rattle.cw_model.specs.Typing.{Returns, Nowhere, Alone, Known, is_array, is_fine, is_cut, is_head_of_loop, called, surely_returns, ends_block, declares, faults_in, faults_in_block}
use Rattle.cw_model.specs.lemmas.Kept.{kept, left_none, right_none}
use Rattle.cw_model.specs.lemmas.Names.{same_are, names_of}
use Rattle.cw_tree.specs.Resolved.{Locals, with_int, with_array, locals_after, locals_of}
use Rattle.cw_tree.specs.lemmas.Names.{front_among, later_among}
use Rattle.cw_loops.specs.Lowered.{is_plain, low, high, middle, left_part, right_part, loop_name, int_params, array_params, variables, leaf_block, left_arguments}
use Rattle.cw_loops.specs.Lowered.{right_arguments, both_halves, in_cuts, node_block, loop_function, loop_count, loop_count_in, lower_block, made_by, made_in}
use Rattle.cw_loops.specs.Lowerable.{Surroundings, is_local, can_evaluate, new_integers, new_arrays, inside, can_lower, can_lower_all}
use Rattle.cw_loops.specs.lemmas.Apart.{plain_apart}
use Rattle.cw_loops.specs.lemmas.Naming.{among_left, among_right, Placed, at_front, after_it, placed, none_among}
use Rattle.cw_loops.specs.lemmas.Knowing.{not_both}
use Rattle.cw_loops.specs.lemmas.Capturing.{each_captured, each_sliced}
use Rattle.cw_gen.proofs.HeldNames.{has_no_half_in}
use Rattle.cw_gen.proofs.Fine.{Begins, marks_for}
use Rattle.cw_gen.proofs.Kept.{ArgsKnown, StmtKnown, BlockKnown, FunctionKnown, AllFunctionsKnown}
use Rattle.cw_gen.proofs.KnownNames.{past, differ_join}
use Rattle.cw_gen.proofs.KnownParams.{loop_names, loop_ints, loop_arrays, loop_unread}
use Rattle.cw_gen.proofs.KnownFunctions.{Found, AllFound, found_first, found_second, CallFound}
use Rattle.cw_gen.proofs.KnownPlaces.{Agree, agree_inside, agree_after}
use Rattle.cw_gen.proofs.KnownStatements.{no_half_in, begins_array, head_kept, loop_kept, block_known, cut_kept, cut_agrees}

-- the locals inside the cuts of these arrays
abbrev cut_locals : List Name → Locals → Locals
cut_locals [] locals = locals
cut_locals (a ∷ rest) locals = cut_locals rest (with_array (right_part a) (with_array (left_part a) locals))

cut_ints : (rest : List Name) (locals : Locals) → (cut_locals rest locals).ints ≡ locals.ints
cut_ints [] locals = refl
cut_ints (a ∷ rest) locals = cut_ints rest (with_array (right_part a) (with_array (left_part a) locals))

-- an array stays known if two more are added
beside : (x l r : Name) (arrays : List Name) → is_among x arrays ≡ true → is_among x ((arrays ++ l ∷ []) ++ r ∷ []) ≡ true
beside x l r arrays h = among_left x (arrays ++ l ∷ []) (r ∷ []) (among_left x arrays (l ∷ []) h)

stays : (x : Name) (rest : List Name) (locals : Locals) → is_among x locals.arrays ≡ true → is_among x (cut_locals rest locals).arrays ≡ true
stays x [] locals h = h
stays x (a ∷ rest) locals h = stays x rest (with_array (right_part a) (with_array (left_part a) locals)) (beside x (left_part a) (right_part a) locals.arrays h)

-- each part is known
left_there : (a : Name) (rest : List Name) (locals : Locals) → is_among a rest ≡ true → is_among (left_part a) (cut_locals rest locals).arrays ≡ true
left_there a [] locals h = absurd cc
left_there a (b ∷ rest) locals h = go (placed a b rest h) (left_there a rest (with_array (right_part b) (with_array (left_part b) locals)))
  where
    more : Locals
    more = with_array (right_part b) (with_array (left_part b) locals)

    go : Placed a b rest → (is_among a rest ≡ true → is_among (left_part a) (cut_locals rest more).arrays ≡ true) → is_among (left_part a) (cut_locals rest more).arrays ≡ true
    go (at_front same) further =
        stays (left_part a) rest more (among_left (left_part a) (locals.arrays ++ left_part b ∷ []) (right_part b ∷ []) (among_right (left_part a) locals.arrays (left_part b ∷ [])
        (ap (λ z. is_among (left_part z) (left_part b ∷ [])) same ∙ front_among (left_part b) [])))
    go (after_it other o) further = further o

right_there : (a : Name) (rest : List Name) (locals : Locals) → is_among a rest ≡ true → is_among (right_part a) (cut_locals rest locals).arrays ≡ true
right_there a [] locals h = absurd cc
right_there a (b ∷ rest) locals h = go (placed a b rest h) (right_there a rest (with_array (right_part b) (with_array (left_part b) locals)))
  where
    more : Locals
    more = with_array (right_part b) (with_array (left_part b) locals)

    go : Placed a b rest → (is_among a rest ≡ true → is_among (right_part a) (cut_locals rest more).arrays ≡ true) → is_among (right_part a) (cut_locals rest more).arrays ≡ true
    go (at_front same) further =
        stays (right_part a) rest more (among_right (right_part a) (locals.arrays ++ left_part b ∷ []) (right_part b ∷ [])
        (ap (λ z. is_among (right_part z) (right_part b ∷ [])) same ∙ front_among (right_part b) []))
    go (after_it other o) further = further o

-- a name of another form is not a part
no_part : (z : Name) (rest : List Name) (locals : Locals) → ((b : Name) → same_name z (left_part b) ≡ false) → ((b : Name) → same_name z (right_part b) ≡ false) → is_among z locals.arrays ≡ false →
    is_among z (cut_locals rest locals).arrays ≡ false
no_part z [] locals left right h = h
no_part z (a ∷ rest) locals left right h =
    no_part z rest (with_array (right_part a) (with_array (left_part a) locals)) left right
    (none_among z (locals.arrays ++ left_part a ∷ []) (right_part a ∷ [])
    (none_among z locals.arrays (left_part a ∷ []) h (past z (left_part a) [] (left a) refl)) (past z (right_part a) [] (right a) refl))

-- a generated name is not a name of a source
pub generated_free : (z : Name) (xs : List Name) → is_plain z ≡ false → ((v : Name) → is_among v xs ≡ true → is_plain v ≡ true) → is_among z xs ≡ false
generated_free z xs e plain = refuted (is_among z xs) (λ o. never (is_plain z) (plain z o) e)

-- known integers and arrays are known arguments
int_args : (locals : Locals) (xs : List Name) (ps : List Param) (es : List Expr)
    → ((x : Name) → is_among x xs ≡ true → (is_among x locals.ints ≡ true) × (is_among x locals.arrays ≡ false)) → ArgsKnown locals ps es →
    ArgsKnown locals (int_params xs ++ ps) (variables xs ++ es)
int_args locals [] ps es h rest = rest
int_args locals (x ∷ xs) ps es h rest = (h x (front_among x xs), int_args locals xs ps es (λ y o. h y (later_among y x xs o)) rest)

array_args : (locals : Locals) (part : Name → Name) (over : List Name)
    → ((a : Name) → is_among a over ≡ true → is_among (part a) locals.arrays ≡ true) → ArgsKnown locals (array_params over) (variables (map part over))
array_args locals part [] h = tt
array_args locals part (a ∷ over) h = (h a (front_among a over), array_args locals part over (λ b o. h b (later_among b a over o)))

module _ (all : List Function) (given : List Name) where
  -- the statements inside the cuts of arrays use known names
  cuts_known : (returns : Returns) (line : ℕ) (rest : List Name) (locals : Locals) (text : Block) → is_among low locals.ints ≡ true → is_among middle locals.ints ≡ true →
      ((a : Name) → is_among a rest ≡ true → is_among a locals.arrays ≡ true)
      → ((a : Name) → is_among a rest ≡ true → is_among (left_part a) locals.arrays ≡ false)
      → ((a : Name) → is_among a rest ≡ true → is_among (right_part a) locals.arrays ≡ false) →
      differ rest ≡ true → Begins given locals.arrays → ((r : Returns) → BlockKnown all given r (cut_locals rest locals) text) → BlockKnown all given returns locals (in_cuts line rest text)
  cuts_known returns line [] locals text lows middles there left right apart begins h = h returns
  cuts_known returns line (a ∷ rest) locals text lows middles there left right apart begins h =
      let two = and_parts (not (is_among a rest)) (differ rest) apart in (
        (
          there a (front_among a rest),
          (middles, lows),
          left a (front_among a rest),
          none_among (right_part a) locals.arrays (left_part a ∷ []) (right a (front_among a rest)) refl,
          begins,
          cuts_known Nowhere line rest more text lows middles (λ b o. beside b (left_part a) (right_part a) locals.arrays (there b (later_among b a rest o)))
              (λ b o. none_among (left_part b) (locals.arrays ++ left_part a ∷ []) (right_part a ∷ [])
              (none_among (left_part b) locals.arrays (left_part a ∷ []) (left b (later_among b a rest o))
              (past (left_part b) (left_part a) [] (other b o (not_true _ two.0)) refl)) refl)
              (λ b o. none_among (right_part b) (locals.arrays ++ left_part a ∷ []) (right_part a ∷ [])
              (none_among (right_part b) locals.arrays (left_part a ∷ []) (right b (later_among b a rest o)) refl)
              (past (right_part b) (right_part a) [] (other b o (not_true _ two.0)) refl))
              two.1 (begins_array given (with_array (left_part a) locals) (right_part a) (begins_array given locals (left_part a) begins)) h,
        ),
        tt,
      )
    where
      more : Locals
      more = with_array (right_part a) (with_array (left_part a) locals)

      other : (b : Name) → is_among b rest ≡ true → is_among a rest ≡ false → same_name b a ≡ false
      other b o none = refuted (same_name b a) (λ e. never (is_among a rest) (ap (λ z. is_among z rest) (sym (same_are b a e)) ∙ o) none)

-- the locals with these names
abbrev with_names : List Name → List Name → Locals
with_names ints arrays = record { ints = ints; arrays = arrays }

same_locals : (i j a b : List Name) → i ≡ j → a ≡ b → with_names i a ≡ with_names j b
same_locals i j a b e f = ap (λ z. with_names z a) e ∙ ap (λ z. with_names j z) f

module _ (all : List Function) (name : Name) (line : ℕ) (x : Name) (grain : ℕ) (taken over : List Name) (body : Block)
    (here : Found all (loop_function name line x grain taken over body))
    (taken_plain : (v : Name) → is_among v taken ≡ true → is_plain v ≡ true) (over_plain : (a : Name) → is_among a over ≡ true → is_plain a ≡ true)
    (kept_apart : (v : Name) → is_among v taken ≡ true → is_among v over ≡ false) (taken_differ : differ taken ≡ true) (over_differ : differ over ≡ true)
    (inner : BlockKnown all over Nowhere (record { ints = (low ∷ high ∷ taken) ++ x ∷ []; arrays = over }) body) (whole : has_no_half_in body ≡ true) where
  -- the locals at the head of the function, in a leaf, in a node, and in the cuts of a node
  abbrev start : Locals
  start = record { ints = low ∷ high ∷ taken; arrays = over }

  abbrev turn : Locals
  turn = with_int x start

  abbrev node : Locals
  node = with_int middle start

  abbrev cut : Locals
  cut = cut_locals over node

  high_there : (more : List Name) → is_among high (low ∷ high ∷ more) ≡ true
  high_there more = later_among high low (high ∷ more) (front_among high more)

  variable_there : is_among x turn.ints ≡ true
  variable_there = among_right x (low ∷ high ∷ taken) (x ∷ []) (front_among x [])

  leaf_known : BlockKnown all over Alone start (leaf_block line x body)
  leaf_known = (
    front_among low (high ∷ taken),
    (
      ((variable_there, high_there (taken ++ x ∷ [])), (inner, ((variable_there, (variable_there, tt)), tt)), ap (λ q. q && true) whole),
      tt,
    ),
  )

  -- an integer of the node is known inside the cuts and is not an array
  in_cut : (v : Name) → is_among v node.ints ≡ true → ((b : Name) → same_name v (left_part b) ≡ false) → ((b : Name) → same_name v (right_part b) ≡ false) → is_among v over ≡ false →
      (is_among v cut.ints ≡ true) × (is_among v cut.arrays ≡ false)
  in_cut v there left right none = (ap (is_among v) (cut_ints over node) ∙ there, no_part v over node left right none)

  low_in : (is_among low cut.ints ≡ true) × (is_among low cut.arrays ≡ false)
  low_in = in_cut low (front_among low (high ∷ taken ++ middle ∷ [])) (λ b. refl) (λ b. refl) (generated_free low over refl over_plain)

  high_in : (is_among high cut.ints ≡ true) × (is_among high cut.arrays ≡ false)
  high_in = in_cut high (high_there (taken ++ middle ∷ [])) (λ b. refl) (λ b. refl) (generated_free high over refl over_plain)

  middle_there : is_among middle node.ints ≡ true
  middle_there = among_right middle (low ∷ high ∷ taken) (middle ∷ []) (front_among middle [])

  middle_in : (is_among middle cut.ints ≡ true) × (is_among middle cut.arrays ≡ false)
  middle_in = in_cut middle middle_there (λ b. refl) (λ b. refl) (generated_free middle over refl over_plain)

  taken_in : (v : Name) → is_among v taken ≡ true → (is_among v cut.ints ≡ true) × (is_among v cut.arrays ≡ false)
  taken_in v o =
      let plain = taken_plain v o in
      in_cut v (later_among v low (high ∷ taken ++ middle ∷ []) (later_among v high (taken ++ middle ∷ []) (among_left v taken (middle ∷ []) o)))
      (λ b. plain_apart v (60 ∷ b) plain) (λ b. plain_apart v (62 ∷ b) plain) (kept_apart v o)

  -- a call on one half uses known names
  half_known : (kind : CallKind) (returns : Returns) (es : List Expr) → ArgsKnown cut (loop_function name line x grain taken over body).params es → StmtKnown all over returns cut (Start kind name es)
  half_known kind returns es args = (
    here.there,
    ap (λ (q : Function). q.gives_int) here.is,
    subst (λ (q : Function). ArgsKnown cut q.params es) (sym here.is) args,
    ap (λ (q : Function). marks_for q.params) here.is ∙ loop_unread taken over,
  )

  halves_known : (returns : Returns) → BlockKnown all over returns cut (both_halves line name (left_arguments taken over) (right_arguments taken over))
  halves_known returns = (
    half_known Spawned returns (left_arguments taken over) (
      low_in,
      (
        middle_in,
        int_args cut taken (array_params over) (variables (map left_part over)) taken_in (array_args cut left_part over (λ a o. left_there a over node o)),
      ),
    ),
    (
      half_known Plain returns (right_arguments taken over) (
        middle_in,
        (
          high_in,
          int_args cut taken (array_params over) (variables (map right_part over)) taken_in
              (array_args cut right_part over (λ a o. right_there a over node o)),
        ),
      ),
      tt,
    ),
  )

  node_known : BlockKnown all over Alone start (node_block line name taken over)
  node_known = (
    (front_among low (high ∷ taken), ((high_there taken, front_among low (high ∷ taken)), tt)),
    cuts_known all over Alone line over node (both_halves line name (left_arguments taken over) (right_arguments taken over)) (front_among low (high ∷ taken ++ middle ∷ [])) middle_there
        (λ a o. o) (λ a o. generated_free (left_part a) over refl over_plain) (λ a o. generated_free (right_part a) over refl over_plain) over_differ
        (record { more = []; is = sym (append-nil over) }) halves_known,
  )

  params_apart : differ (names_of (loop_function name line x grain taken over body).params) ≡ true
  params_apart =
      ap (λ l. differ (low ∷ high ∷ l)) (loop_names taken over)
      ∙ ap (λ b. not b && differ (high ∷ taken ++ over)) (past low high (taken ++ over) refl (generated low refl))
      ∙ ap (λ b. not b && differ (taken ++ over)) (generated high refl)
      ∙ differ_join taken over taken_differ over_differ kept_apart
    where
      generated : (z : Name) → is_plain z ≡ false → is_among z (taken ++ over) ≡ false
      generated z e = none_among z taken over (generated_free z taken e taken_plain) (generated_free z over e over_plain)

  -- the function of a loop uses known names
  pub loop_known : FunctionKnown all (loop_function name line x grain taken over body)
  loop_known = record {
    apart = params_apart;
    body =
        subst (λ (l : Locals). BlockKnown all l.arrays Alone l (loop_function name line x grain taken over body).body)
        (sym (same_locals (low ∷ high ∷ (locals_of (int_params taken ++ array_params over)).ints) (low ∷ high ∷ taken)
        (locals_of (int_params taken ++ array_params over)).arrays over (ap (λ l. low ∷ high ∷ l) (loop_ints taken over)) (loop_arrays taken over)))
        ((((high_there taken, front_among low (high ∷ taken)), tt), leaf_known, node_known), tt);
    returns = λ e. absurd cc;
  }

-- the functions of a concatenation use known names if the functions of both lists do
pub both_known : (all xs ys : List Function) → AllFunctionsKnown all xs → AllFunctionsKnown all ys → AllFunctionsKnown all (xs ++ ys)
both_known all [] ys h g = g
both_known all (x ∷ xs) ys h g = (h.0, both_known all xs ys h.1 g)

module _ (program : Program) (all : List Function) (calls : (f : Name) (g : Function) → called f program.functions ≡ Some g → CallFound all f g) where
  mutual
    -- the functions of the loops of a statement use known names
    pub made_by_known : (returns : Returns) (c : Surroundings) (ints arrays : List Name) (known : Known) (locals : Locals) → Agree c ints arrays known locals → (line k : ℕ) (s : Stmt) →
        faults_in program returns known line s ≡ [] → can_lower c ints arrays s ≡ true → AllFound all (made_by line k s) → AllFunctionsKnown all (made_by line k s)
    made_by_known returns c ints arrays known locals agree line k (If e b) typed can found =
        made_in_known returns c ints arrays known locals agree k b (right_none (unless (is_fine known e) line)
        (faults_in_block program returns known b) typed) (and_parts (can_evaluate c e) (can_lower_all c ints arrays b) can).1 found
    made_by_known returns c ints arrays known locals agree line k (IfElse e b d) typed can found =
        let h = and_parts (can_lower_all c ints arrays b) (can_lower_all c ints arrays d) (and_parts (can_evaluate c e) _ can).1 in
        let first = faults_in_block program returns known b in
        let second = faults_in_block program returns known d in
        let branches = right_none (unless (is_fine known e) line) (first ++ second) typed in
        let made = made_in k b in
        let made' = made_in (k + loop_count_in b) d in
        both_known all made made' (made_in_known returns c ints arrays known locals agree k b (left_none first second branches) h.0 (found_first all made made' found))
        (made_in_known returns c ints arrays known locals agree (k + loop_count_in b) d (right_none first second branches) h.1 (found_second all made made' found))
    made_by_known returns c ints arrays known locals agree line k (While e b) typed can found =
        made_in_known returns c ints arrays known locals agree k b (right_none (unless (is_fine known e) line)
        (faults_in_block program returns known b) typed) (and_parts (can_evaluate c e) (can_lower_all c ints arrays b) can).1 found
    made_by_known returns c ints arrays known locals agree line k (For x y z from to grain over b) typed can found =
        let name = loop_name (k + loop_count_in b) in
        let taken = captured x b in
        let body = lower_block over k b in
        let g = loop_function name line x grain taken over body in
        let keeps = loop_kept c ints arrays x y z from to grain over b can in
        let known' = (x, name_kind.Integer) ∷ known in
        let head_line = unless (is_head_of_loop program known x y z from to grain over) line in
        let head = head_kept program known x y z from to grain over (kept (is_head_of_loop program known x y z from to grain over) line
        (left_none head_line (faults_in_block program Nowhere known' b) typed)) in
        let typed_body = right_none head_line (faults_in_block program Nowhere known' b) typed in
        let made = made_in k b in
        let found_body = found_first all made (g ∷ []) found in
        let here : Found all g = (found_second all made (g ∷ []) found).0 in
        let inner = inside c ints arrays x taken over in
        let locals' : Locals = record { ints = (low ∷ high ∷ taken) ++ x ∷ []; arrays = over } in
        let agree' = agree_inside agree x taken over head.no_array in
        let body_known = block_known program all calls over Nowhere inner [] [] known' locals' agree' (record { more = []; is = sym (append-nil over) }) k b typed_body keeps.body found_body in
        both_known all made (g ∷ []) (made_in_known Nowhere inner [] [] known' locals' agree' k b typed_body keeps.body found_body) (
          loop_known all name line x grain taken over body here (λ v o. (each_captured c ints taken keeps.captures v o).0) (λ a o. (each_sliced c arrays over keeps.slices a o).0)
              (λ v o. both_kinds v (each_captured c ints taken keeps.captures v o).2 (λ p. (each_sliced c arrays over keeps.slices v p).2))
              keeps.taken_differ keeps.over_differ body_known (no_half_in inner [] [] over k b keeps.body),
          tt,
        )
      where
        both_kinds : (v : Name) → is_among v (c.outer ++ ints) ≡ true → (is_among v over ≡ true → is_among v arrays ≡ true) → is_among v over ≡ false
        both_kinds v int h =
            refuted (is_among v over) (λ p. never (is_array known v) (agree.known_arrays v ∙ among_right v c.arrays arrays (h p)) (not_both known v (agree.known_ints v ∙ int)))
    made_by_known returns c ints arrays known locals agree line k (Scope b) typed can found = made_in_known Nowhere c ints arrays known locals agree k b typed can found
    made_by_known returns c ints arrays known locals agree line k (Cut a e l r b) typed can found =
        let inner = (arrays ++ l ∷ []) ++ r ∷ [] in
        let known' = (r, name_kind.Array) ∷ (l, name_kind.Array) ∷ known in
        let test = unless (is_cut program known a e l r) line in
        let cut = cut_kept program known a e l r (kept (is_cut program known a e l r) line (left_none test (faults_in_block program Nowhere known' b) typed)) in
        let one = and_parts (can_evaluate c e) _ can in
        let two = and_parts (is_local c a) _ one.1 in
        let three = and_parts (is_local c l) _ two.1 in
        let four = and_parts (is_local c r) _ three.1 in
        let five = and_parts (not (is_among l arrays)) _ four.1 in
        let six = and_parts (not (is_among r arrays)) _ five.1 in
        let seven = and_parts (not (same_name r l)) (can_lower_all c ints inner b) six.1 in
        made_in_known Nowhere c ints inner known' (with_array r (with_array l locals)) (cut_agrees agree a e l r cut) k b
        (right_none test (faults_in_block program Nowhere known' b) typed) seven.1 found
    made_by_known returns c ints arrays known locals agree line k (Region tag b) typed can found = made_in_known Nowhere c ints arrays known locals agree k b typed can found
    made_by_known returns c ints arrays known locals agree line k _ typed can found = tt

    -- the functions of the loops of a block use known names
    pub made_in_known : (returns : Returns) (c : Surroundings) (ints arrays : List Name) (known : Known) (locals : Locals) → Agree c ints arrays known locals → (k : ℕ) (b : Block) →
        faults_in_block program returns known b ≡ [] → can_lower_all c ints arrays b ≡ true → AllFound all (made_in k b) → AllFunctionsKnown all (made_in k b)
    made_in_known returns c ints arrays known locals agree k End typed can found = tt
    made_in_known returns c ints arrays known locals agree k (Then line s b) typed can found =
        let here = faults_in program returns known line s in
        let last = unless (not (surely_returns s) || ends_block b) line in
        let behind = faults_in_block program returns (declares s known) b in
        let typed_here = left_none here (last ++ behind) typed in
        let two = and_parts (can_lower c ints arrays s) (can_lower_all c (ints ++ new_integers s) (arrays ++ new_arrays s) b) can in
        let made = made_by line k s in
        let made' = made_in (k + loop_count s) b in
        both_known all made made' (made_by_known returns c ints arrays known locals agree line k s typed_here two.0 (found_first all made made' found))
        (made_in_known returns c (ints ++ new_integers s) (arrays ++ new_arrays s) (declares s known) (locals_after locals s)
        (agree_after program returns line c ints arrays known locals s typed_here agree) (k + loop_count s) b
        (right_none last behind (right_none here (last ++ behind) typed)) two.1 (found_second all made made' found))
