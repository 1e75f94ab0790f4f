-- The halves of an inner node, in the cuts of the arrays.
use Rattle.std.proofs.Common.{◌≡◌, ℕ, suc, ◌+◌, ◌-◌, ◌*◌, ◌≤◌, ◌<◌, ◌^◌, false, ℤ, pos, ◌-ℤ◌, List, [], ◌∷◌, ◌++◌, length, take}
use Rattle.std.proofs.Common.{drop, arith, refl, sym, ◌∙◌, ap, append_assoc, append-nil, subst, length-append}
use Rattle.std.specs.Prelude.{nat_lt, if◌then◌else◌, map, None}
use Rattle.std.proofs.lemmas.Bool.{le-ltb}
use Rattle.std.proofs.Math.Seq.{take-length, take-append_seam}
use Rattle.cw_model.specs.Ints.{Value, Fails, exact, natural}
use Rattle.cw_model.specs.declared.trap.Trap.TheVariants as trap
use Rattle.cw_model.specs.declared.syntax.CallKind.TheVariants.{Plain, Spawned}
use Rattle.cw_model.specs.declared.syntax.Operator.TheVariants.{Minus}
use Rattle.cw_model.specs.Trees.{Series, Fork}
use Rattle.cw_model.specs.declared.syntax.NameKind.TheVariants as name_kind
use Rattle.cw_model.specs.Syntax.{Name, Expr, Variable, Binary, Start, Cut, Block, Function}
use Rattle.cw_model.specs.Names.{is_among, find, put}
use Rattle.cw_model.specs.Frames.{Frame, no_frame, new_int, new_array, int_of, array_of, set_array, leave}
use Rattle.cw_model.specs.Expressions.{Gives, evaluate, also, and_then, done_at, apply}
use Rattle.cw_model.specs.Outcome.{Outcome, Done, then_do, ◌>>=◌, quiet, pay, pay_for, joined_up}
use Rattle.cw_model.specs.Meaning.{Completion, Normal, onward, going, frame_of, scoped, Returned, SameDepth, Calls, function_named}
use Rattle.cw_model.specs.Meaning.{arguments, returned_arrays, start_event, cut_place, uncut, run, run_all}
use Rattle.cw_loops.specs.Lowered.{low, high, middle, left_part, right_part, int_params, array_params, variables, left_arguments, right_arguments, both_halves, in_cuts}
use Rattle.cw_loops.proofs.Alike.{Alike, Whole, fork_keeps, series_keeps, alike_one, alike_pay, alike_then, both_done, as_whole, then_then, then_gives, after_quiet, value_pays, pay_pay, same_events}
use Rattle.cw_loops.proofs.Lags.{Lags, lag_none, lag_pay, lag_one, lag_map, lag_left, lag_right}
use Rattle.cw_loops.proofs.Runs.{one_line}
use Rattle.cw_loops.proofs.Numbers.{tested}
use Rattle.cw_loops.proofs.Tables.{keys, find_last}
use Rattle.cw_loops.proofs.Arguments.{Fresh, table, pairs, pair_names, keys-append, keys-table, keys-pairs, find_at, put_at, right_past, arg_int}
use Rattle.cw_loops.proofs.Arguments.{args_ints, args_arrays, FreshPairs, lefts_found, rights_found, back_ints, lefts_back, rights_back}
use Rattle.cw_loops.proofs.Leaf.{entry}
use Rattle.cw_loops.specs.lemmas.Outcomes.{then_same}

pub alike_right : {A B : Type 0} {R : A → B → Type 0} {given : ℕ} {o : Outcome A} {o' p : Outcome B} → o' ≡ p → Alike R given o p → Alike R given o o'
alike_right {R = R} {given = given} {o = o} e h = subst (λ x. Alike R given o x) (sym e) h

pub alike_left : {A B : Type 0} {R : A → B → Type 0} {given : ℕ} {o p : Outcome A} {o' : Outcome B} → o ≡ p → Alike R given p o' → Alike R given o o'
alike_left {R = R} {given = given} {o' = o'} e h = subst (λ x. Alike R given x o') (sym e) h

pub alike_first_right : {A B C : Type 0} {R : A → B → Type 0} {given : ℕ} {o : Outcome A} {o' p : Outcome C} → o' ≡ p → (go : C → ℕ → Outcome B)
    → Alike R given o (then_do p go) → Alike R given o (then_do o' go)
alike_first_right {R = R} {given = given} {o = o} e go h = subst (λ x. Alike R given o (then_do x go)) (sym e) h

-- a `Start` statement: its arguments and its call
start_runs : (kind : _) (name : Name) (es : List Expr) (line : ℕ) (fs : List Function) (calls : Calls) (frame given : Frame) (f : Function) (cost left : ℕ) →
    function_named name fs ≡ f → arguments f.params es frame line no_frame left ≡ then_do (pay cost left) (λ _ l. Done given l quiet) →
    run (Start kind name es) line fs calls frame left
    ≡ then_do (pay (cost + 1) left) (λ _ l. then_do (joined_up (start_event kind) (calls SameDepth f given line l))
    (λ returned l. Done (Normal (returned_arrays f.params es returned.1 frame)) l quiet))
start_runs kind name es line fs calls frame given f cost left found paid = rw found (rw paid
    (then_then (pay cost left) (λ _ l. Done given l quiet) _ ∙ then_same (pay cost left) _ _ (λ _ l. after_quiet _)
    ∙ pay_pay cost 1 left _))

-- both halves of the source, after `c` instructions
abbrev pub halves_piece : ℕ → (first : ℕ → Outcome Frame) (second : Frame → ℕ → Outcome Frame) → (c left : ℕ) → Outcome Frame
halves_piece k first second c left = then_do (pay c left) (λ _ l. then_do (joined_up Fork (first l)) (λ frame1 l. then_do (pay (3 + k) l) (λ _ l. joined_up Series (second frame1 l))))

-- the result of a half
pub record Half (ints : List (Name × ℤ)) (over : List Name) (Ok : Frame → (Name → List ℤ) → Type 0) (frame : Frame) (returned : Returned) : Type 0 where
  pub slices : Name → List ℤ
  pub gives : returned ≡ (None, record { ints = ints; arrays = table over slices; sliced = [] })
  pub ok : Ok frame slices

-- the results of both halves in their cuts
pub record Both (at : List (Name × List ℤ) → Frame) (arrays : (l r : Name → List ℤ) → List (Name × List ℤ))
    (Ok : Frame → (l r : Name → List ℤ) → Type 0) (frame : Frame) (way : Completion) : Type 0 where
  pub lefts : Name → List ℤ
  pub rights : Name → List ℤ
  pub goes_on : way ≡ Normal (at (arrays lefts rights))
  pub ok : Ok frame lefts rights

front_same : {A : Type 0} (x y : A) (xs ys : List A) → x ∷ xs ≡ y ∷ ys → (x ≡ y) × (xs ≡ ys)
front_same x y xs ys e = (cc, cc)

-- equal left parts give equal pairs
pairs_left_same : (as' : List Name) (l l' r : Name → List ℤ) → table as' l ≡ table as' l' → pairs as' l r ≡ pairs as' l' r
pairs_left_same [] l l' r e = refl
pairs_left_same (a ∷ as') l l' r e =
    let same = front_same (a, l a) (a, l' a) (table as' l) (table as' l') e in
    let here : l a ≡ l' a = ap (λ (p : Name × List ℤ). p.1) same.0 in
    rw (here, pairs_left_same as' l l' r same.1) refl

pairs_right_same : (as' : List Name) (l r r' : Name → List ℤ) → table as' r ≡ table as' r' → pairs as' l r ≡ pairs as' l r'
pairs_right_same [] l r r' e = refl
pairs_right_same (a ∷ as') l r r' e =
    let same = front_same (a, r a) (a, r' a) (table as' r) (table as' r') e in
    let here : r a ≡ r' a = ap (λ (p : Name × List ℤ). p.1) same.0 in
    rw (here, pairs_right_same as' l r r' same.1) refl

-- the arrays of a table are found
pub table_found : (as' : List Name) (s : Name → List ℤ) (t u : List (Name × List ℤ)) → Fresh (keys t) as' → table as' (λ a. find [] a (t ++ (table as' s ++ u))) ≡ table as' s
table_found [] s t u fresh = refl
table_found (a ∷ as') s t u fresh =
    let one : List (Name × List ℤ) = (a, s a) ∷ [] in
    let more : table as' (λ b. find [] b (t ++ (a, s a) ∷ (table as' s ++ u))) ≡ table as' s =
    ap (λ v. table as' (λ b. find [] b v)) (sym (append_assoc t one (table as' s ++ u)))
    ∙ table_found as' s (t ++ one) u (rw (keys-append t one) fresh.1) in
    rw (find_at [] a (s a) t (table as' s ++ u) fresh.0) (ap (λ xs. (a, s a) ∷ xs) more)

pub found_alone : (as' : List Name) (s : Name → List ℤ) → Fresh [] as' → table as' (λ a. find [] a (table as' s)) ≡ table as' s
found_alone as' s fresh = ap (λ v. table as' (λ a. find [] a v)) (sym (append-nil (table as' s))) ∙ table_found as' s [] [] fresh

-- the table of a concatenation
table-append : (xs ys : List Name) (s : Name → List ℤ) → table (xs ++ ys) s ≡ table xs s ++ table ys s
table-append [] ys s = refl
table-append (x ∷ xs) ys s = ap (λ t. (x, s x) ∷ t) (table-append xs ys s)

pairs-append : (xs ys : List Name) (l r : Name → List ℤ) → pairs (xs ++ ys) l r ≡ pairs xs l r ++ pairs ys l r
pairs-append [] ys l r = refl
pairs-append (x ∷ xs) ys l r = ap (λ t. (left_part x, l x) ∷ (right_part x, r x) ∷ t) (pairs-append xs ys l r)

length-table : (xs : List Name) (s s' : Name → List ℤ) → length (table xs s) ≡ length (table xs s')
length-table [] s s' = refl
length-table (x ∷ xs) s s' = ap (λ n. suc n) (length-table xs s s')

length-pairs : (xs : List Name) (l r l' r' : Name → List ℤ) → length (pairs xs l r) ≡ length (pairs xs l' r')
length-pairs [] l r l' r' = refl
length-pairs (x ∷ xs) l r l' r' = ap (λ n. suc (suc n)) (length-pairs xs l r l' r')

-- the shape of the arrays after one more cut
shape_in : (done rest : List Name) (a : Name) (s j l r : Name → List ℤ) →
    ((table done s ++ (a, s a) ∷ (table rest j ++ pairs done l r)) ++ (left_part a, l a) ∷ []) ++ (right_part a, r a) ∷ []
    ≡ table (done ++ a ∷ []) s ++ (table rest j ++ pairs (done ++ a ∷ []) l r)
shape_in done rest a s j l r =
    append_assoc (table done s ++ (a, s a) ∷ (table rest j ++ pairs done l r)) ((left_part a, l a) ∷ []) ((right_part a, r a) ∷ [])
    ∙ append_assoc (table done s) ((a, s a) ∷ (table rest j ++ pairs done l r)) ((left_part a, l a) ∷ (right_part a, r a) ∷ [])
    ∙ ap (λ u. table done s ++ (a, s a) ∷ u) (append_assoc (table rest j) (pairs done l r) ((left_part a, l a) ∷ (right_part a, r a) ∷ [])
    ∙ ap (λ u. table rest j ++ u) (sym (pairs-append done (a ∷ []) l r)))
    ∙ sym (append_assoc (table done s) ((a, s a) ∷ []) (table rest j ++ pairs (done ++ a ∷ []) l r))
    ∙ ap (λ u. u ++ (table rest j ++ pairs (done ++ a ∷ []) l r)) (sym (table-append done (a ∷ []) s))

-- the parts of the arrays that are not cut yet have new names
abbrev pub Cutting : List Name → List Name → Type 0
Cutting done [] = Unit {0}
Cutting done (a ∷ rest) = (is_among (left_part a) (done ++ a ∷ (rest ++ pair_names done)) ≡ false)
    × (is_among (right_part a) (done ++ a ∷ (rest ++ pair_names done)) ≡ false) × Cutting (done ++ a ∷ []) rest

-- each array has at least length `h`
abbrev pub Long : ℕ → (Name → List ℤ) → List Name → Type 0
Long h s [] = Unit {0}
Long h s (a ∷ rest) = (h ≤ length (s a)) × Long h s rest

module _ (name : Name) (line : ℕ) (f : Function) (over : List Name) (fs' : List Function) (cs : List (Name × ℤ))
    (params : f.params ≡ record { name = low; kind = name_kind.Integer } ∷ record { name = high; kind = name_kind.Integer } ∷ (int_params (keys cs) ++ array_params over))
    (found : function_named name fs' ≡ f) (calls : Calls) (lo m hi : ℤ) (h : ℕ)
    (fresh_ints : Fresh (low ∷ high ∷ []) (keys cs)) (no_middle : is_among middle (keys cs) ≡ false) where
  abbrev node_ints : List (Name × ℤ)
  node_ints = ((low, lo) ∷ (high, hi) ∷ cs) ++ (middle, m) ∷ []

  abbrev pub at_node : List (Name × List ℤ) → Frame
  at_node arrays = record { ints = node_ints; arrays = arrays; sliced = [] }

  pub middle_is : (arrays : List (Name × List ℤ)) → int_of (at_node arrays) middle ≡ m
  middle_is arrays = find_last (pos 0) middle m ((low, lo) ∷ (high, hi) ∷ cs) no_middle

  -- the arguments of the call on a half
  args_half : (u v : Name) (g : Name → Name) (frame : Frame) → frame.ints ≡ node_ints → (left : ℕ) →
      arguments f.params (Variable u ∷ Variable v ∷ (variables (keys cs) ++ variables (map g over))) frame line no_frame left
      ≡ then_do (pay (2 + length cs) left) (λ _ l. Done (record { ints = (low, int_of frame u) ∷ (high, int_of frame v) ∷ cs; arrays = table over (λ a. array_of frame (g a)); sliced = [] }) l quiet)
  args_half u v g frame e left =
      ap (λ ps. arguments ps (Variable u ∷ Variable v ∷ (variables (keys cs) ++ variables (map g over))) frame line no_frame left) params
      ∙ arg_int low u (record { name = high; kind = name_kind.Integer } ∷ (int_params (keys cs) ++ array_params over))
      (Variable v ∷ (variables (keys cs) ++ variables (map g over))) frame line no_frame left
      ∙ then_same (pay 1 left) _ _ (λ _ l. arg_int high v (int_params (keys cs) ++ array_params over)
      (variables (keys cs) ++ variables (map g over)) frame line (new_int low (int_of frame u) no_frame) l)
      ∙ pay_pay 1 1 left _
      ∙ then_same (pay 2 left) _ _ (λ _ l. args_ints cs ((low, lo) ∷ (high, hi) ∷ []) ((middle, m) ∷ []) frame e fresh_ints (array_params over)
      (variables (map g over)) line (new_int high (int_of frame v) (new_int low (int_of frame u) no_frame)) l
      ∙ then_same (pay (length cs) l) _ _ (λ _ l. args_arrays over g frame line (record { ints = (low, int_of frame u) ∷ (high, int_of frame v) ∷ cs; arrays = []; sliced = [] }) l))
      ∙ pay_pay 2 (length cs) left _

  args_left : (arrays : List (Name × List ℤ)) (sl : Name → List ℤ) → table over (λ a. find [] (left_part a) arrays) ≡ table over sl → (left : ℕ) →
      arguments f.params (left_arguments (keys cs) over) (at_node arrays) line no_frame left ≡ then_do (pay (2 + length cs) left) (λ _ l. Done (entry lo m cs (table over sl)) l quiet)
  args_left arrays sl e left =
      args_half low middle left_part (at_node arrays) refl left
      ∙ ap (λ i. then_do (pay (2 + length cs) left) (λ _ l. Done (entry lo i cs (table over (λ a. find [] (left_part a) arrays))) l quiet)) (middle_is arrays)
      ∙ ap (λ t. then_do (pay (2 + length cs) left) (λ _ l. Done (entry lo m cs t) l quiet)) e

  args_right : (arrays : List (Name × List ℤ)) (sr : Name → List ℤ) → table over (λ a. find [] (right_part a) arrays) ≡ table over sr → (left : ℕ) →
      arguments f.params (right_arguments (keys cs) over) (at_node arrays) line no_frame left ≡ then_do (pay (2 + length cs) left) (λ _ l. Done (entry m hi cs (table over sr)) l quiet)
  args_right arrays sr e left =
      args_half middle high right_part (at_node arrays) refl left
      ∙ ap (λ i. then_do (pay (2 + length cs) left) (λ _ l. Done (entry i hi cs (table over (λ a. find [] (right_part a) arrays))) l quiet)) (middle_is arrays)
      ∙ ap (λ t. then_do (pay (2 + length cs) left) (λ _ l. Done (entry m hi cs t) l quiet)) e

  -- the arrays that the halves return
  back_left : (t : List (Name × List ℤ)) (sl sr s1 : Name → List ℤ) (callee : Frame) → callee.arrays ≡ table over s1 → FreshPairs (keys t) over → Fresh [] over →
      returned_arrays f.params (left_arguments (keys cs) over) callee (at_node (t ++ pairs over sl sr)) ≡ at_node (t ++ pairs over s1 sr)
  back_left t sl sr s1 callee e fresh once =
      ap (λ ps. returned_arrays ps (left_arguments (keys cs) over) callee (at_node (t ++ pairs over sl sr))) params
      ∙ back_ints (keys cs) (array_params over) (variables (map left_part over)) callee (at_node (t ++ pairs over sl sr))
      ∙ lefts_back over sl sr t node_ints [] callee fresh
      ∙ ap (λ u. at_node (t ++ u)) (pairs_left_same over (array_of callee) s1 sr (ap (λ u. table over (λ a. find [] a u)) e ∙ found_alone over s1 once))

  back_right : (t : List (Name × List ℤ)) (sl sr s2 : Name → List ℤ) (callee : Frame) → callee.arrays ≡ table over s2 → FreshPairs (keys t) over → Fresh [] over →
      returned_arrays f.params (right_arguments (keys cs) over) callee (at_node (t ++ pairs over sl sr)) ≡ at_node (t ++ pairs over sl s2)
  back_right t sl sr s2 callee e fresh once =
      ap (λ ps. returned_arrays ps (right_arguments (keys cs) over) callee (at_node (t ++ pairs over sl sr))) params
      ∙ back_ints (keys cs) (array_params over) (variables (map right_part over)) callee (at_node (t ++ pairs over sl sr))
      ∙ rights_back over sl sr t node_ints [] callee fresh
      ∙ ap (λ u. at_node (t ++ u)) (pairs_right_same over sl (array_of callee) s2 (ap (λ u. table over (λ a. find [] a u)) e ∙ found_alone over s2 once))

  module _ (first : ℕ → Outcome Frame) (second : Frame → ℕ → Outcome Frame) (sl sr : Name → List ℤ) (Ok1 : Frame → (Name → List ℤ) → Type 0) (Ok2 : Frame → (l r : Name → List ℤ) → Type 0) (limit : ℕ)
      (first_ok : (left : ℕ) → left ≤ limit → Whole (Half ((low, lo) ∷ (high, m) ∷ cs) over Ok1) left (first left) (calls SameDepth f (entry lo m cs (table over sl)) line left))
      (second_ok : (frame1 : Frame) (s1 : Name → List ℤ) → Ok1 frame1 s1 → (left : ℕ) → left ≤ limit →
      Whole (Half ((low, m) ∷ (high, hi) ∷ cs) over (λ frame2 s2. Ok2 frame2 s1 s2)) left (second frame1 left) (calls SameDepth f (entry m hi cs (table over sr)) line left)) where
    both_alike : (t : List (Name × List ℤ)) → FreshPairs (keys t) over → Fresh [] over → (left : ℕ) → left ≤ limit →
        Alike (Both at_node (λ l r. t ++ pairs over l r) Ok2) left (halves_piece (length cs) first second (3 + length cs) left)
        (run_all (both_halves line name (left_arguments (keys cs) over) (right_arguments (keys cs) over)) fs' calls (at_node (t ++ pairs over sl sr)) left)
    both_alike t fresh once left h1 =
        let cost : 3 + length cs ≡ 2 + length cs + 1 = omega arith in
        alike_left (ap (λ c. halves_piece (length cs) first second c left) cost)
        (alike_first_right (start_runs Spawned name (left_arguments (keys cs) over) line fs' calls (at_node (t ++ pairs over sl sr)) (entry lo m cs (table over sl)) f (2 + length cs) left found
        (args_left (t ++ pairs over sl sr) sl (lefts_found over sl sr t fresh) left)) _
        (alike_right (then_then (pay (2 + length cs + 1) left) _ _)
        (alike_pay (2 + length cs + 1) left _ _ (λ enough.
        alike_right (then_then (joined_up (start_event Spawned) (calls SameDepth f (entry lo m cs (table over sl)) line (left - (2 + length cs + 1)))) _ _)
        (alike_then (alike_one Fork fork_keeps (first_ok (left - (2 + length cs + 1)) (omega arith)))
        (λ frame1 r l half le.
        alike_left (ap (λ c. then_do (pay c l) (λ _ l. joined_up Series (second frame1 l))) cost)
        (alike_right (after_quiet _)
        (alike_right (one_line line (Start Plain name (right_arguments (keys cs) over)) fs' calls (returned_arrays f.params (left_arguments (keys cs) over) r.1 (at_node (t ++ pairs over sl sr))) l)
        (alike_right (ap (λ g. run (Start Plain name (right_arguments (keys cs) over)) line fs' calls g l)
        (back_left t sl sr half.slices r.1 (ap (λ (x : Returned). x.1.arrays) half.gives) fresh once))
        (alike_right (start_runs Plain name (right_arguments (keys cs) over) line fs' calls (at_node (t ++ pairs over half.slices sr)) (entry m hi cs (table over sr)) f (2 + length cs) l found
        (args_right (t ++ pairs over half.slices sr) sr (rights_found over half.slices sr t fresh) l))
        (alike_pay (2 + length cs + 1) l _ _ (λ enough'.
        alike_left (sym (then_gives (joined_up Series (second frame1 (l - (2 + length cs + 1))))))
        (alike_then (alike_one Series series_keeps (second_ok frame1 half.slices half.ok (l - (2 + length cs + 1)) (omega arith)))
        (λ frame2 r2 l2 half2 le2.
        both_done (record {
          lefts = half.slices;
          rights = half2.slices;
          goes_on = ap Normal (back_right t half.slices sr half2.slices r2.1 (ap (λ (x : Returned). x.1.arrays) half2.gives) fresh once);
          ok = half2.ok;
        }) (omega arith) refl refl (same_events [])))))))))))))))

  module _ (first : ℕ → Outcome Frame) (second : Frame → ℕ → Outcome Frame) (s : Name → List ℤ) (Ok1 : Frame → (Name → List ℤ) → Type 0) (Ok2 : Frame → (l r : Name → List ℤ) → Type 0) (limit : ℕ)
      (first_ok : (left : ℕ) → left ≤ limit → Whole (Half ((low, lo) ∷ (high, m) ∷ cs) over Ok1) left (first left) (calls SameDepth f (entry lo m cs (table over (λ a. take h (s a)))) line left))
      (second_ok : (frame1 : Frame) (s1 : Name → List ℤ) → Ok1 frame1 s1 → (left : ℕ) → left ≤ limit →
      Whole (Half ((low, m) ∷ (high, hi) ∷ cs) over (λ frame2 s2. Ok2 frame2 s1 s2)) left (second frame1 left) (calls SameDepth f (entry m hi cs (table over (λ a. drop h (s a)))) line left))
      (halfway : m -ℤ lo ≡ pos h) (small : h < 2 ^ 63) (fresh_pairs : FreshPairs over over) (once : Fresh [] over) where
    abbrev sl : Name → List ℤ
    sl a = take h (s a)

    abbrev sr : Name → List ℤ
    sr a = drop h (s a)

    abbrev both : Block
    both = both_halves line name (left_arguments (keys cs) over) (right_arguments (keys cs) over)

    cut_gives : (a : Name) (arrays : List (Name × List ℤ)) → find [] a arrays ≡ s a → h ≤ length (s a) →
        and_then (evaluate (Binary Minus (Variable middle) (Variable low)) (at_node arrays)) (cut_place (array_of (at_node arrays) a)) ≡ Gives (pos h) 4
    cut_gives a arrays e long =
        let ev : evaluate (Binary Minus (Variable middle) (Variable low)) (at_node arrays) ≡ Gives (pos h) 3 =
        ap (λ v. also (Gives v 1) (Gives lo 1) (apply Minus)) (middle_is arrays) ∙ ap (λ z. done_at 3 (exact z)) halfway
        ∙ ap (λ b. done_at 3 (if b then Value (pos h) else Fails trap.Overflow)) (tested h small) in
        let fits' : nat_lt (length (find [] a arrays)) h ≡ false = le-ltb (length (find [] a arrays)) h (rw e long) in
        ap (λ ev. and_then ev (cut_place (find [] a arrays))) ev ∙ ap (λ b. done_at 4 (if b then Fails trap.OutOfBounds else Value (pos h))) fits'

    cut_runs : (a : Name) (inner : Block) (arrays arrays' : List (Name × List ℤ)) → find [] a arrays ≡ s a → h ≤ length (s a) →
        (arrays ++ (left_part a, sl a) ∷ []) ++ (right_part a, sr a) ∷ [] ≡ arrays' → (left : ℕ) →
        run (Cut a (Binary Minus (Variable middle) (Variable low)) (left_part a) (right_part a) inner) line fs' calls (at_node arrays) left
        ≡ then_do (pay 4 left) (λ _ l. then_do (joined_up Series (scoped (at_node arrays') (run_all inner fs' calls (at_node arrays')) l))
        (λ way l. onward way (λ g l. then_do (pay 1 l) (λ _ l. Done (Normal (uncut a (left_part a) (right_part a) (at_node arrays) g)) l quiet)) l))
    cut_runs a inner arrays arrays' e long shape left =
        ap (λ ev. then_do (pay_for ev line left) (λ v l. body (find [] a arrays) v l)) (cut_gives a arrays e long)
        ∙ value_pays (pos h) 4 line left (λ v l. body (find [] a arrays) v l)
        ∙ ap (λ xs. then_do (pay 4 left) (λ _ l. body xs (pos h) l)) e
        ∙ ap (λ ys. then_do (pay 4 left) (λ _ l. after_cut (at_node ys) l)) shape
      where
        after_cut : Frame → ℕ → Outcome Completion
        after_cut inside l = then_do (joined_up Series (scoped inside (run_all inner fs' calls inside) l))
            (λ way l. onward way (λ g. ◌>>=◌ (pay 1) (λ _. going (uncut a (left_part a) (right_part a) (at_node arrays) g))) l)

        body : List ℤ → ℤ → ℕ → Outcome Completion
        body xs v l = after_cut (new_array (right_part a) (drop (natural v) xs) (new_array (left_part a) (take (natural v) xs) (at_node arrays))) l

    leave_same : (x y : List (Name × List ℤ)) → length x ≡ length y → leave (at_node x) (at_node y) ≡ at_node y
    leave_same x y e =
        let p : take (length node_ints) node_ints ≡ node_ints = take-length node_ints in
        let q : take (length x) y ≡ y = ap (λ n. take n y) e ∙ take-length y in
        rw (p, q) refl

    leave_longer : (x y z : List (Name × List ℤ)) → length x ≡ length y → leave (at_node x) (at_node (y ++ z)) ≡ at_node y
    leave_longer x y z e =
        let p : take (length node_ints) node_ints ≡ node_ints = take-length node_ints in
        let q : take (length x) (y ++ z) ≡ y = ap (λ n. take n (y ++ z)) e ∙ take-append_seam y z in
        rw (p, q) refl

    keys_in : (done rest : List Name) (a : Name) (j l r : Name → List ℤ) → keys (table done s ++ (a, s a) ∷ (table rest j ++ pairs done l r)) ≡ done ++ a ∷ (rest ++ pair_names done)
    keys_in done rest a j l r =
        keys-append (table done s) ((a, s a) ∷ (table rest j ++ pairs done l r))
        ∙ rw (keys-table done s, keys-append (table rest j) (pairs done l r), keys-table rest j, keys-pairs done l r) refl

    length_in : (xs ys zs : List Name) (j j' l r l' r' : Name → List ℤ) → length (table xs s ++ (table ys j ++ pairs zs l r)) ≡ length (table xs s ++ (table ys j' ++ pairs zs l' r'))
    length_in xs ys zs j j' l r l' r' =
        rw (
          length-append (table xs s) (table ys j ++ pairs zs l r),
          length-append (table xs s) (table ys j' ++ pairs zs l' r'),
          length-append (table ys j) (pairs zs l r),
          length-append (table ys j') (pairs zs l' r'),
          length-table ys j j',
          length-pairs zs l r l' r',
        ) refl

    length_cut : (done rest : List Name) (a : Name) (j l r : Name → List ℤ) →
        length (table done s ++ (a, s a) ∷ (table rest s ++ pairs done sl sr)) ≡ length (table done s ++ (a, s a) ∷ (table rest j ++ pairs done l r))
    length_cut done rest a j l r =
        let e : length (table rest s ++ pairs done sl sr) ≡ length (table rest j ++ pairs done l r) =
        rw (length-append (table rest s) (pairs done sl sr), length-append (table rest j) (pairs done l r), length-table rest s j, length-pairs done sl sr l r) refl in
        length-append (table done s) ((a, s a) ∷ (table rest s ++ pairs done sl sr)) ∙ ap (λ n. length (table done s) + suc n) e
        ∙ sym (length-append (table done s) ((a, s a) ∷ (table rest j ++ pairs done l r)))

    -- the state after the cuts
    abbrev Left : (done todo : List Name) → Frame → Completion → Type 0
    Left done todo = Both at_node (λ l r. table done s ++ (table todo (λ a. l a ++ r a) ++ pairs done l r)) Ok2

    uncut_is : (done rest : List Name) (a : Name) (l r : Name → List ℤ) → is_among a done ≡ false
        → is_among (left_part a) (done ++ a ∷ (rest ++ pair_names done)) ≡ false → is_among (right_part a) (done ++ a ∷ (rest ++ pair_names done)) ≡ false →
        uncut a (left_part a) (right_part a) (at_node (table done s ++ (table (a ∷ rest) s ++ pairs done sl sr)))
        (at_node (table (done ++ a ∷ []) s ++ (table rest (λ a. l a ++ r a) ++ pairs (done ++ a ∷ []) l r)))
        ≡ at_node (table done s ++ (table (a ∷ rest) (λ a. l a ++ r a) ++ pairs done l r))
    uncut_is done rest a l r new new_left new_right =
        let j : Name → List ℤ = λ a. l a ++ r a in
        let x : List (Name × List ℤ) = table done s ++ (a, s a) ∷ (table rest s ++ pairs done sl sr) in
        let y : List (Name × List ℤ) = table done s ++ (a, s a) ∷ (table rest j ++ pairs done l r) in
        let z : List (Name × List ℤ) = table (done ++ a ∷ []) s ++ (table rest j ++ pairs (done ++ a ∷ []) l r) in
        let shape : (y ++ (left_part a, l a) ∷ []) ++ (right_part a, r a) ∷ [] ≡ z = shape_in done rest a s j l r in
        let two : y ++ (left_part a, l a) ∷ (right_part a, r a) ∷ [] ≡ z = sym (append_assoc y ((left_part a, l a) ∷ []) ((right_part a, r a) ∷ [])) ∙ shape in
        let nl : is_among (left_part a) (keys y) ≡ false = rw (keys_in done rest a j l r) new_left in
        let nr : is_among (right_part a) (keys y) ≡ false = rw (keys_in done rest a j l r) new_right in
        let fl : find [] (left_part a) z ≡ l a = ap (λ u. find [] (left_part a) u) (sym two) ∙ find_at [] (left_part a) (l a) y ((right_part a, r a) ∷ []) nl in
        let fr : find [] (right_part a) z ≡ r a = ap (λ u. find [] (right_part a) u) (sym shape) ∙ find_at [] (right_part a) (r a) (y ++ (left_part a, l a) ∷ []) [] (right_past a (l a) y nr) in
        let lv : leave (at_node x) (at_node z) ≡ at_node y = ap (λ u. leave (at_node x) (at_node u)) (sym two)
        ∙ leave_longer x y ((left_part a, l a) ∷ (right_part a, r a) ∷ []) (length_cut done rest a j l r) in
        let at_done : put a (l a ++ r a) y ≡ table done s ++ (a, l a ++ r a) ∷ (table rest j ++ pairs done l r) =
        put_at a (s a) (l a ++ r a) (table done s) (table rest j ++ pairs done l r) (rw (keys-table done s) new) in
        ap (λ g. set_array a (find [] (left_part a) z ++ find [] (right_part a) z) g) lv
        ∙ ap (λ v. set_array a (v ++ find [] (right_part a) z) (at_node y)) fl
        ∙ ap (λ v. set_array a (l a ++ v) (at_node y)) fr
        ∙ ap at_node at_done

    abbrev CutsLag : List Name → Type 0
    CutsLag todo = (done : List Name) → done ++ todo ≡ over → Fresh done todo → Cutting done todo → Long h s todo → (left : ℕ) → left ≤ limit →
        Lags (length todo) (Both at_node (λ l r. table done s ++ (table todo (λ a. l a ++ r a) ++ pairs done l r)) Ok2) left
        (halves_piece (length cs) first second (4 * length todo + (3 + length cs)) left)
        (run_all (in_cuts line todo both) fs' calls (at_node (table done s ++ (table todo s ++ pairs done sl sr))) left)

    cut_one : (a : Name) (rest done : List Name) → done ++ a ∷ rest ≡ over → Fresh done (a ∷ rest) → Cutting done (a ∷ rest) → Long h s (a ∷ rest) → (left : ℕ) → left ≤ limit → CutsLag rest →
        Lags (length (a ∷ rest)) (Both at_node (λ l r. table done s ++ (table (a ∷ rest) (λ a. l a ++ r a) ++ pairs done l r)) Ok2) left
        (halves_piece (length cs) first second (4 * length (a ∷ rest) + (3 + length cs)) left)
        (run_all (in_cuts line (a ∷ rest) both) fs' calls (at_node (table done s ++ (table (a ∷ rest) s ++ pairs done sl sr))) left)
    cut_one a rest done whole fresh cutting long left h1 more =
        let j : (l r : Name → List ℤ) → Name → List ℤ = λ l r a. l a ++ r a in
        let x : List (Name × List ℤ) = table done s ++ (a, s a) ∷ (table rest s ++ pairs done sl sr) in
        let z : List (Name × List ℤ) = table (done ++ a ∷ []) s ++ (table rest s ++ pairs (done ++ a ∷ []) sl sr) in
        let found' : find [] a x ≡ s a = find_at [] a (s a) (table done s) (table rest s ++ pairs done sl sr) (rw (keys-table done s) fresh.0) in
        let cost : 4 * suc (length rest) + (3 + length cs) ≡ 4 + (4 * length rest + (3 + length cs)) = omega arith in
        let whole' : (done ++ a ∷ []) ++ rest ≡ over = append_assoc done (a ∷ []) rest ∙ whole in
        lag_left (ap (λ c. halves_piece (length cs) first second c left) cost ∙ sym (pay_pay 4 (4 * length rest + (3 + length cs)) left _))
        (lag_right (one_line line (Cut a (Binary Minus (Variable middle) (Variable low)) (left_part a) (right_part a) (in_cuts line rest both)) fs' calls (at_node x) left
        ∙ cut_runs a (in_cuts line rest both) x z found' long.0 (shape_in done rest a s s sl sr) left)
        (lag_pay (suc (length rest)) 4 left _ _ (λ enough.
        lag_one (length rest) (left - 4) _ (λ way. Normal (uncut a (left_part a) (right_part a) (at_node x) (frame_of way)))
        (λ frame way (b : Left (done ++ a ∷ []) rest frame way). (
          record {
            lefts = b.lefts;
            rights = b.rights;
            goes_on = ap (λ w. Normal (uncut a (left_part a) (right_part a) (at_node x) (frame_of w)))
                b.goes_on ∙ ap Normal (uncut_is done rest a b.lefts b.rights fresh.0 cutting.0 cutting.1);
            ok = b.ok;
          },
          λ l. rw b.goes_on refl,
        ))
        (lag_map (length rest) (left - 4) _ (λ way. Normal (leave (at_node z) (frame_of way)))
        (λ frame way (b : Left (done ++ a ∷ []) rest frame way). (
          record {
            lefts = b.lefts;
            rights = b.rights;
            goes_on = ap (λ w. Normal (leave (at_node z) (frame_of w))) b.goes_on
                ∙ ap Normal (leave_same z _ (length_in (done ++ a ∷ []) rest (done ++ a ∷ []) s (j b.lefts b.rights) sl sr b.lefts b.rights));
            ok = b.ok;
          },
          λ l. rw b.goes_on refl,
        ))
        (more (done ++ a ∷ []) whole' fresh.1 cutting.2 long.1 (left - 4) (omega arith))))))

    pub cuts_lag : (todo : List Name) → CutsLag todo
    cuts_lag [] done whole fresh cutting long left h1 =
        let all : done ≡ over = sym (append-nil done) ∙ whole in
        let cost : 4 * 0 + (3 + length cs) ≡ 3 + length cs = omega arith in
        let new : FreshPairs (keys (table over s)) over = rw (keys-table over s) fresh_pairs in
        rw all (lag_none (as_whole (alike_left (ap (λ c. halves_piece (length cs) first second c left) cost)
        (both_alike first second sl sr Ok1 Ok2 limit first_ok second_ok (table over s) new once left h1))))
    cuts_lag (a ∷ rest) done whole fresh cutting long left h1 = cut_one a rest done whole fresh cutting long left h1 (cuts_lag rest)
