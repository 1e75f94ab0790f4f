-- A call of the generated function behaves as the divide-and-conquer loop.
use Rattle.std.proofs.Common.{◌≡◌, ℕ, zero, suc, ◌+◌, ◌-◌, ◌*◌, ◌/◌, ◌≤◌, ◌<◌, ◌^◌, Bool, true, false, ℤ, pos, ◌+ℤ◌, List, []}
use Rattle.std.proofs.Common.{◌∷◌, ◌++◌, length, take, drop, arith, refl, sym, ◌∙◌, ap, append-nil, subst}
use Rattle.std.specs.Prelude.{nat_lt, nat_le, if◌then◌else◌, None}
use Rattle.std.proofs.Math.Seq.{take-append_seam}
use Rattle.std.proofs.lemmas.Bool.{leb-false}
use Rattle.cw_model.specs.declared.limits.TheConstants.{MOST_DEPTH}
use Rattle.cw_model.specs.Ints.{Value, Fails, fits, exact}
use Rattle.cw_model.specs.declared.trap.Trap.TheVariants as trap
use Rattle.cw_model.specs.declared.syntax.Operator.TheVariants.{AtMost, Plus, Divide}
use Rattle.cw_model.specs.Trees.{Series, Fork, Join}
use Rattle.cw_model.specs.Syntax.{Name, Number, Variable, Binary, Declare, IfElse, Block, Function}
use Rattle.cw_model.specs.Names.{is_among}
use Rattle.cw_model.specs.Frames.{Frame, new_int, leave}
use Rattle.cw_model.specs.Expressions.{Gives, evaluate, also, done_at, apply}
use Rattle.cw_model.specs.Outcome.{Outcome, Done, then_do, quiet, shows, pay, joined_up, after}
use Rattle.cw_model.specs.Loops.{node_start, halves}
use Rattle.cw_model.specs.LoopLaws.{for_body}
use Rattle.cw_model.specs.Meaning.{Completion, frame_of, SameDepth, Calls, function_named, run_all, call}
use Rattle.cw_loops.specs.Lowered.{is_plain, low, high, middle, range, leaf_block, node_block, in_cuts, both_halves, left_arguments, right_arguments, loop_function}
use Rattle.cw_loops.proofs.Alike.{Whole, then_then, after_quiet, pay_pay}
use Rattle.cw_loops.proofs.Chained.{whole_pay}
use Rattle.cw_loops.proofs.Alike.{whole_weaken}
use Rattle.cw_loops.proofs.Lags.{lag_end}
use Rattle.cw_loops.proofs.Runs.{one_line, and_rest, declare_runs, else_taken, call_runs}
use Rattle.cw_loops.proofs.Numbers.{between, add_range, range_is, tested}
use Rattle.cw_loops.proofs.Tables.{keys}
use Rattle.cw_loops.proofs.Arguments.{Fresh, FreshPairs, table, pairs}
use Rattle.cw_loops.proofs.Leaf.{entry, Turns}
use Rattle.cw_model.specs.lemmas.LoopPieces.{at_leaf, at_node}
use Rattle.cw_loops.proofs.LeafCall.{Gone, leaf_call, grain_gives, whole_left, whole_right, first_right}
use Rattle.cw_loops.proofs.Cuts.{Half, Both, halves_piece, Cutting, Long, cuts_lag}
use Rattle.cw_loops.specs.lemmas.Outcomes.{then_same}

pub length_of_table : (over : List Name) (s : Name → List ℤ) → length (table over s) ≡ length over
length_of_table [] s = refl
length_of_table (a ∷ over) s = ap (λ n. suc n) (length_of_table over s)

-- the relation between the slices of a range and a frame (`Agrees`), and the relation between two frames that differ in
-- the slices of a range (`Put`)
pub record Slicing (over : List Name) (Agrees : ℤ → ℕ → Frame → (Name → List ℤ) → Type 0) (Put : ℤ → ℕ → Frame → Frame → (Name → List ℤ) → Type 0) : Type 0 where
  pub start : (lo : ℤ) (n : ℕ) (frame : Frame) (s : Name → List ℤ) → Agrees lo n frame s → Put lo n frame frame s
  pub left : (lo : ℤ) (n h : ℕ) (frame : Frame) (s : Name → List ℤ) → h ≤ n → Agrees lo n frame s → Agrees lo h frame (λ a. take h (s a))
  pub right : (lo : ℤ) (n h : ℕ) (frame frame1 : Frame) (s s1 : Name → List ℤ) → h ≤ n → Agrees lo n frame s → Put lo h frame frame1 s1 → Agrees (lo +ℤ pos h) (n - h) frame1 (λ a. drop h (s a))
  pub both : (lo : ℤ) (n h : ℕ) (frame frame1 frame2 : Frame) (s s1 s2 : Name → List ℤ) → h ≤ n → Agrees lo n frame s → Put lo h frame frame1 s1 → Put (lo +ℤ pos h) (n - h) frame1 frame2 s2 →
      Put lo n frame frame2 (λ a. s1 a ++ s2 a)
  pub long : (lo : ℤ) (n h : ℕ) (frame : Frame) (s : Name → List ℤ) → h ≤ n → Agrees lo n frame s → Long h s over

-- a frame that the iterations so far reached, and the arrays of the function at that point
pub record Reached (over : List Name) (Put : Frame → (Name → List ℤ) → Type 0) (frame : Frame) (arrays : List (Name × List ℤ)) : Type 0 where
  pub slices : Name → List ℤ
  pub is : arrays ≡ table over slices
  pub put : Put frame slices

pub counted : (over : List Name) (Put : Frame → (Name → List ℤ) → Type 0) (frame : Frame) (arrays : List (Name × List ℤ)) → Reached over Put frame arrays → length arrays ≡ length over
counted over Put frame arrays r = ap length r.is ∙ length_of_table over r.slices

-- the end of a node follows both halves
end_after : (k c : ℕ) (first : ℕ → Outcome Frame) (second : Frame → ℕ → Outcome Frame) (last : Frame → ℕ → Outcome Frame) (left : ℕ) →
    then_do (pay c left) (λ _ l. then_do (joined_up Fork (first l)) (λ frame1 l. then_do (pay (3 + k) l) (λ _ l. then_do (joined_up Series (second frame1 l)) last)))
    ≡ then_do (halves_piece k first second c left) last
end_after k c first second last left = sym (then_then (pay c left) _ _
    ∙ then_same (pay c left) _ _ (λ _ l. then_then (joined_up Fork (first l)) _ _
    ∙ then_same (joined_up Fork (first l)) _ _ (λ frame1 l. then_then (pay (3 + k) l) _ _)))

-- the instructions before both halves, in two parts
split : (k a c : ℕ) (first : ℕ → Outcome Frame) (second : Frame → ℕ → Outcome Frame) (last : Frame → ℕ → Outcome Frame) (left : ℕ) →
    then_do (halves_piece k first second (a + c) left) last ≡ then_do (pay a left) (λ _ l. then_do (halves_piece k first second c l) last)
split k a c first second last left = ap (λ o. then_do o last) (sym (pay_pay a c left _)) ∙ then_then (pay a left) _ _

-- evaluating the middle of a range
middle_gives : (lo : ℤ) (n : ℕ) (cs : List (Name × ℤ)) (arrays : List (Name × List ℤ)) → n < 2 ^ 63 → fits (lo +ℤ pos (n / 2)) ≡ true →
    evaluate (Binary Plus (Variable low) (Binary Divide range (Number (pos 2)))) (entry lo (lo +ℤ pos n) cs arrays) ≡ Gives (lo +ℤ pos (n / 2)) 7
middle_gives lo n cs arrays small e =
    ap (λ z. also (Gives lo 1) (also (done_at 3 (exact z)) (Gives (pos 2) 1) (apply Divide)) (apply Plus)) (range_is lo n)
    ∙ ap (λ b. also (Gives lo 1) (also (done_at 3 (if b then Value (pos n) else Fails trap.Overflow)) (Gives (pos 2) 1) (apply Divide)) (apply Plus)) (tested n small)
    ∙ ap (λ b. also (Gives lo 1) (done_at 5 (if b then Value (pos (n / 2)) else Fails trap.Overflow)) (apply Plus)) (tested (n / 2) (omega arith))
    ∙ ap (λ b. done_at 7 (if b then Value (lo +ℤ pos (n / 2)) else Fails trap.Overflow)) e

module _ (name : Name) (line : ℕ) (x : Name) (grain : ℕ) (cs : List (Name × ℤ)) (over : List Name) (b b' : Block) (fs fs' : List Function) (calls : Calls) (depth : ℕ)
    (plain : is_plain x ≡ true) (shallow : nat_lt MOST_DEPTH depth ≡ false) (away : is_among x (keys cs) ≡ false) (some_grain : 1 ≤ grain)
    (found : function_named name fs' ≡ loop_function name line x grain (keys cs) over b')
    (fresh_ints : Fresh (low ∷ high ∷ []) (keys cs)) (no_middle : is_among middle (keys cs) ≡ false) (fresh_pairs : FreshPairs over over) (once : Fresh [] over) (cutting : Cutting [] over)
    (limit : ℕ) (Agrees : ℤ → ℕ → Frame → (Name → List ℤ) → Type 0) (Put : ℤ → ℕ → Frame → Frame → (Name → List ℤ) → Type 0) (slicing : Slicing over Agrees Put)
    (each : (lo : ℤ) (n : ℕ) (lo_fits : fits lo ≡ true) (hi_fits : fits (lo +ℤ pos n) ≡ true) → n < 2 ^ 63 → (frame : Frame) (s : Name → List ℤ) → Agrees lo n frame s →
    Turns line x over b b' fs fs' calls depth plain lo n cs away lo_fits hi_fits (Reached over (Put lo n frame)) (length over) (counted over (Put lo n frame)) limit) where
  abbrev loop : Function
  loop = loop_function name line x grain (keys cs) over b'

  abbrev halves_of : ℕ → ℕ → ℤ → Frame → ℕ → Outcome Frame
  halves_of d n lo frame left = halves d grain (length cs) (length over) n lo (for_body x over b fs calls) frame left

  -- a call on a range behaves as the divide-and-conquer loop
  abbrev pub CallsAsHalves : ℕ → Type 0
  CallsAsHalves d = (lo : ℤ) (n : ℕ) → n < d → n < 2 ^ 63 → fits lo ≡ true → fits (lo +ℤ pos n) ≡ true → (frame : Frame) (s : Name → List ℤ) → Agrees lo n frame s →
      (left bound line' : ℕ) → left ≤ limit → left < bound →
      Whole (Half ((low, lo) ∷ (high, lo +ℤ pos n) ∷ cs) over (Put lo n frame)) left (halves_of d n lo frame left)
      (call bound depth fs' SameDepth loop (entry lo (lo +ℤ pos n) cs (table over s)) line' left)

  left_node : (lo m hi : ℤ) (s j : Name → List ℤ) →
      leave (entry lo hi cs (table over s)) (record { ints = ((low, lo) ∷ (high, hi) ∷ cs) ++ (middle, m) ∷ []; arrays = table over j ++ []; sliced = [] }) ≡ entry lo hi cs (table over j)
  left_node lo m hi s j =
      let is : List (Name × ℤ) = (low, lo) ∷ (high, hi) ∷ cs in
      let p : take (length is) (is ++ (middle, m) ∷ []) ≡ is = take-append_seam is ((middle, m) ∷ []) in
      let q : take (length (table over s)) (table over j ++ []) ≡ table over j =
      ap (λ n. take n (table over j ++ [])) (length_of_table over s ∙ sym (length_of_table over j)) ∙ take-append_seam (table over j) [] in
      rw (p, q) refl

  as_leaf : (d : ℕ) (lo : ℤ) (n : ℕ) → n < 2 ^ 63 → fits lo ≡ true → fits (lo +ℤ pos n) ≡ true → nat_le n grain ≡ true → (frame : Frame) (s : Name → List ℤ) → Agrees lo n frame s →
      (left bound line' : ℕ) → left ≤ limit → left < bound →
      Whole (Half ((low, lo) ∷ (high, lo +ℤ pos n) ∷ cs) over (Put lo n frame)) left (halves_of (suc d) n lo frame left)
      (call bound depth fs' SameDepth loop (entry lo (lo +ℤ pos n) cs (table over s)) line' left)
  as_leaf d lo n small lo_fits hi_fits few frame s agrees left bound line' h1 h2 =
      whole_left (at_leaf d grain (length cs) (length over) n lo (for_body x over b fs calls) frame left few)
      (whole_weaken (λ frame' returned (g : Gone (Reached over (Put lo n frame)) (λ arrays. entry lo (lo +ℤ pos n) cs arrays) frame' returned).
      record { slices = g.near.slices; gives = g.gives ∙ ap (λ t. (None, entry lo (lo +ℤ pos n) cs t)) g.near.is; ok = g.near.put }) (omega arith)
      (leaf_call name line x grain (keys cs) over b b' fs fs' calls depth plain shallow cs away limit lo n lo_fits hi_fits small
      (Reached over (Put lo n frame)) (length over) (counted over (Put lo n frame))
      (each lo n lo_fits hi_fits small frame s agrees) few frame (table over s) left bound line' h1 h2 (record { slices = s; is = refl; put = slicing.start lo n frame s agrees })))

  as_node : (d : ℕ) → CallsAsHalves d → (lo : ℤ) (n : ℕ) → n < suc d → n < 2 ^ 63 → fits lo ≡ true → fits (lo +ℤ pos n) ≡ true
      → nat_le n grain ≡ false → (frame : Frame) (s : Name → List ℤ) → Agrees lo n frame s →
      (left bound line' : ℕ) → left ≤ limit → left < bound →
      Whole (Half ((low, lo) ∷ (high, lo +ℤ pos n) ∷ cs) over (Put lo n frame)) left (halves_of (suc d) n lo frame left)
      (call bound depth fs' SameDepth loop (entry lo (lo +ℤ pos n) cs (table over s)) line' left)
  as_node d more lo n deep small lo_fits hi_fits many frame s agrees left zero line' h1 h2 = absurd (omega arith)
  as_node d more lo n deep small lo_fits hi_fits many frame s agrees left (suc bound) line' h1 h2 =
      let h : ℕ = n / 2 in
      let m : ℤ = lo +ℤ pos (n / 2) in
      let hi : ℤ = lo +ℤ pos n in
      let k : ℕ = length cs in
      let q : ℕ = length over in
      let big : grain < n = leb-false n grain many in
      let half : n / 2 ≤ n = omega arith in
      let m_fits : fits (lo +ℤ pos (n / 2)) ≡ true = between lo n (n / 2) lo_fits hi_fits half in
      let hi_is : lo +ℤ pos (n / 2) +ℤ pos (n - n / 2) ≡ lo +ℤ pos n = add_range lo (n / 2) (n - n / 2) ∙ ap (λ j. lo +ℤ pos j) (omega arith) in
      let cost : node_start k q ≡ 6 + (8 + (4 * q + (3 + k))) = omega arith in
      let start : Frame = entry lo hi cs (table over s) in
      let cuts : Block = in_cuts line over (both_halves line name (left_arguments (keys cs) over) (right_arguments (keys cs) over)) in
      let first : ℕ → Outcome Frame = λ l. halves_of d (n / 2) lo frame l in
      let second : Frame → ℕ → Outcome Frame = λ frame1 l. halves_of d (n - n / 2) (lo +ℤ pos (n / 2)) frame1 l in
      let last : Frame → ℕ → Outcome Frame = λ frame2 l. after (shows (Join ∷ [])) (then_do (pay (q + 1) l) (λ _ l. Done frame2 l quiet)) in
      whole_left (at_node d grain k q n lo (for_body x over b fs calls) frame left many
      ∙ end_after k (node_start k q) first second last left ∙ ap (λ c. then_do (halves_piece k first second c left) last) cost)
      (whole_right (call_runs bound depth fs' loop start line' left shallow)
      (first_right (one_line line (IfElse (Binary AtMost range (Number (pos grain))) (leaf_block line x b') (node_block line name (keys cs) over)) fs' (call bound depth fs') start left
      ∙ else_taken (Binary AtMost range (Number (pos grain))) (leaf_block line x b') (node_block line name (keys cs) over) (pos 0) 5 line left fs' (call bound depth fs') start
      (grain_gives lo n grain cs (table over s) small ∙ ap (λ b. Gives (pos (if b then 1 else 0)) 5) many) refl) _
      (whole_right (then_then (pay 6 left) _ _)
      (whole_left (split k 6 (8 + (4 * q + (3 + k))) first second last left)
      (whole_pay 6 left _ _ (λ enough.
      whole_right (then_then (run_all (node_block line name (keys cs) over) fs' (call bound depth fs') start (left - 6)) _ _)
      (first_right (and_rest line (Declare middle (Binary Plus (Variable low) (Binary Divide range (Number (pos 2))))) cuts fs' (call bound depth fs') start (new_int middle m start) 8 (left - 6)
      (declare_runs middle (Binary Plus (Variable low) (Binary Divide range (Number (pos 2)))) m 7 line (left - 6) fs' (call bound depth fs') start
      (middle_gives lo n cs (table over s) small m_fits))) _
      (whole_right (then_then (pay 8 (left - 6)) _ _)
      (whole_left (split k 8 (4 * q + (3 + k)) first second last (left - 6))
      (whole_pay 8 (left - 6) _ _ (λ enough'.
      first_right (ap (λ t. run_all cuts fs' (call bound depth fs') (record
      { ints = ((low, lo) ∷ (high, hi) ∷ cs) ++ (middle, m) ∷ []; arrays = t; sliced = [] }) (left - 6 - 8)) (sym (append-nil (table over s)))) _
      (lag_end q (left - 6 - 8) _ (λ frame2. frame2) (λ way. (None, leave start (frame_of way)))
      (λ frame2 way (b : Both (λ arrays. record { ints = ((low, lo) ∷ (high, hi) ∷ cs) ++ (middle, m) ∷ []; arrays = arrays; sliced = [] })
      (λ l r. table [] s ++ (table over (λ a. l a ++ r a) ++ pairs [] l r))
      (λ frame2 s1 s2. Put lo n frame frame2 (λ a. s1 a ++ s2 a)) frame2 way). (
        record {
          slices = λ a. b.lefts a ++ b.rights a;
          gives = ap (λ (w : Completion). (None, leave start (frame_of w))) b.goes_on
              ∙ ap (λ g. (None, g)) (left_node lo m hi s (λ a. b.lefts a ++ b.rights a));
          ok = b.ok;
        },
        λ l. rw b.goes_on (after_quiet _),
      ))
      (cuts_lag name line loop over fs' cs refl found (call bound depth fs') lo m hi (n / 2) fresh_ints no_middle first second s
      (λ frame1 s1. Put lo (n / 2) frame frame1 s1) (λ frame2 s1 s2. Put lo n frame frame2 (λ a. s1 a ++ s2 a)) (left - 6 - 8)
      (λ l e. more lo (n / 2) (omega arith) (omega arith) lo_fits m_fits frame (λ a. take (n / 2) (s a)) (slicing.left lo n (n / 2) frame s half agrees) l bound line (omega arith) (omega arith))
      (λ frame1 s1 put l e. subst (λ hi. Whole (Half ((low, m) ∷ (high, hi) ∷ cs) over (λ frame2 s2. Put lo n frame frame2 (λ a. s1 a ++ s2 a))) l
      (second frame1 l) (call bound depth fs' SameDepth loop (entry m hi cs (table over (λ a. drop (n / 2) (s a)))) line l)) hi_is
      (whole_weaken (λ frame2 returned (g : Half ((low, m) ∷ (high, m +ℤ pos (n - n / 2)) ∷ cs) over (Put m (n - n / 2) frame1) frame2 returned).
      record { slices = g.slices; gives = g.gives; ok = slicing.both lo n (n / 2) frame frame1 frame2 s s1 g.slices half agrees put g.ok }) (omega arith)
      (more m (n - n / 2) (omega arith) (omega arith) m_fits (rw hi_is hi_fits) frame1 (λ a. drop (n / 2) (s a))
      (slicing.right lo n (n / 2) frame frame1 s s1 half agrees put) l bound line (omega arith) (omega arith))))
      (range_is lo (n / 2)) (omega arith) fresh_pairs once over [] refl once cutting (slicing.long lo n (n / 2) frame s half agrees) (left - 6 - 8) (omega arith))))))))))))))

  pub halves_call : (d : ℕ) → CallsAsHalves d
  halves_call zero lo n deep small lo_fits hi_fits frame s agrees left bound line' h1 h2 = absurd (omega arith)
  halves_call (suc d) lo n deep small lo_fits hi_fits frame s agrees left bound line' h1 h2 =
      by_grain (nat_le n grain) refl (halves_call d)
    where
      by_grain : (few : Bool) → nat_le n grain ≡ few → CallsAsHalves d →
          Whole (Half ((low, lo) ∷ (high, lo +ℤ pos n) ∷ cs) over (Put lo n frame)) left (halves_of (suc d) n lo frame left)
          (call bound depth fs' SameDepth loop (entry lo (lo +ℤ pos n) cs (table over s)) line' left)
      by_grain true e more = as_leaf d lo n small lo_fits hi_fits e frame s agrees left bound line' h1 h2
      by_grain false e more = as_node d more lo n deep small lo_fits hi_fits e frame s agrees left bound line' h1 h2
