-- A divide-and-conquer loop runs the iterations of the plain loop in order, with its own costs and its own tree.
use Rattle.std.proofs.Common.{◌≡◌, ℕ, zero, suc, ◌+◌, ◌-◌, ◌*◌, ◌/◌, ◌≤◌, Bool, true, false, ℤ, pos, ◌+ℤ◌, List, [], ◌∷◌, ◌++◌}
use Rattle.std.proofs.Common.{length, arith, refl, sym, ◌∙◌, ap, append_assoc, append-nil, length-append}
use Rattle.std.specs.Prelude.{nat_le, if◌then◌else◌, flat_map}
use Rattle.std.proofs.lemmas.Int.{ints}
use Rattle.std.proofs.Math.IntN.{+ℤ_idr}
use Rattle.std.proofs.lemmas.Grind.{flat_map-append}
use Rattle.std.proofs.lemmas.List.{map-append, take_at, drop_at, length-map}
use Rattle.std.proofs.lemmas.List.Sums.{sum_by-append, sum_by-cons}
use Rattle.cw_model.specs.declared.trap.Trap.{Trap}
use Rattle.cw_model.specs.Trees.{Tree, Leaf, Seq, Par, Event, Series, Fork, Join, works, tree_of}
use Rattle.cw_model.specs.Frames.{Frame}
use Rattle.cw_model.specs.Outcome.{Trace, shows, joined, Done, Trapped, Piece, quiet}
use Rattle.cw_model.specs.Loops.{leaf_start, turn_start, turn_end, leaf_end, node_start, node_call, node_end, leaf_turns}
use Rattle.cw_model.specs.Loops.{halves, turns_tree, loop_tree, inner_nodes, Turn, TurnsLead, no_turn, one_turn}
use Rattle.cw_model.specs.LoopLaws.{IsBody, spent, lines_of, additions_of, trees_of, RunsAsPlain, TrapsAsPlain}
use Rattle.cw_model.specs.TreeLaws.{Regrouped, same, further, to_the_right, nothing_after, in_series, in_fork}
use Rattle.cw_model.specs.lemmas.Regrouping.{same_normal}
use Rattle.cw_model.proofs.Endings.{Ends, at_end, at_limit, weaken, itself, after_ends, then_ends, pay_ends, one_part, one_then_ends, when_done, when_trapped}
use Rattle.cw_model.specs.lemmas.LoopPieces.{leaf_piece, node_piece}
use Rattle.cw_model.specs.lemmas.Parts.{PartsAre, parts_nil, parts_works, parts_series, parts_fork, parts_join, regrouped_parts, tree_of_parts}

step : (from : ℤ) (m : ℕ) → from +ℤ pos 1 +ℤ pos m ≡ from +ℤ pos (suc m)
step from m = omega (arith, ints)

steps : (from : ℤ) (l m : ℕ) → from +ℤ pos l +ℤ pos m ≡ from +ℤ pos (l + m)
steps from l m = omega (arith, ints)

-- the cost of a loop without its bodies, for a bounded depth
abbrev pub cost_at : (depth grain k q n : ℕ) → ℕ
cost_at depth grain k q n =
    let nodes = inner_nodes depth grain n in
    14 * (nodes + 1) + 11 * n + (21 + 5 * q + 2 * k) * nodes

pub nodes_of_leaf : (depth grain n : ℕ) → nat_le n grain ≡ true → inner_nodes (suc depth) grain n ≡ 0
nodes_of_leaf depth grain n e = rw e refl

pub nodes_of_node : (depth grain n : ℕ) → nat_le n grain ≡ false →
    inner_nodes (suc depth) grain n ≡ 1 + inner_nodes depth grain (n / 2) + inner_nodes depth grain (n - n / 2)
nodes_of_node depth grain n e = rw e refl

tree_of_leaf : (depth grain k q n : ℕ) (ts : List Tree) → length ts ≡ n → nat_le n grain ≡ true →
    loop_tree (suc depth) grain k q ts ≡ Seq (Leaf leaf_start) (turns_tree ts)
tree_of_leaf depth grain k q n ts l e = rw (l, e) refl

tree_of_node : (depth grain k q n : ℕ) (xs ys : List Tree) → length xs ≡ n / 2 → length ys ≡ n - n / 2 → nat_le n grain ≡ false →
    loop_tree (suc depth) grain k q (xs ++ ys)
    ≡ Seq (Leaf (node_start k q))
    (Seq (Par (loop_tree depth grain k q xs) (Seq (Leaf (node_call k)) (loop_tree depth grain k q ys))) (Leaf (node_end q)))
tree_of_node depth grain k q n xs ys l m e =
    let all : length (xs ++ ys) ≡ n = omega (arith, length-append xs ys, l, m) in
    rw (all, e, take_at xs ys (n / 2) l, drop_at xs ys (n / 2) l) refl

-- the cost of a leaf
pub cost_of_leaf : (k q n i : ℕ) → i ≡ 0 → 14 * (i + 1) + 11 * n + (21 + 5 * q + 2 * k) * i ≡ 14 + 11 * n
cost_of_leaf k q n i e = rw e (omega arith)

-- the cost of an inner node is its own cost and the costs of its halves
pub costs_of_node : (k q n i j i' : ℕ) → i' ≡ 1 + i + j →
    node_start k q + node_call k + node_end q + (14 * (i + 1) + 11 * (n / 2) + (21 + 5 * q + 2 * k) * i)
    + (14 * (j + 1) + 11 * (n - n / 2) + (21 + 5 * q + 2 * k) * j)
    ≡ 14 * (i' + 1) + 11 * n + (21 + 5 * q + 2 * k) * i'
costs_of_node k q n i j i' e = rw e (omega arith)

-- the cost of an inner node as a sum of numbers, with the budget that the iterations spent
cost_of_both : (left l1 l2 start call end c1 c2 c s1 s2 s : ℕ) → start ≤ left → left - start ≡ l1 + c1 + s1 → call ≤ l1 → l1 - call ≡ l2 + c2 + s2 → end ≤ l2 →
    start + call + end + c1 + c2 ≡ c → s ≡ s1 + s2 → left ≡ l2 - end + c + s
cost_of_both left l1 l2 start call end c1 c2 c s1 s2 s a b d e f g h = omega arith

-- the records of two runs of iterations, concatenated
shown_by_both : {A : Type 0} (f : Turn → List A) (xs ys : List Turn) (l m : List A) → l ≡ flat_map f xs → m ≡ flat_map f ys → l ++ (m ++ []) ≡ flat_map f (xs ++ ys)
shown_by_both f xs ys l m e g = rw (e, g, append-nil) (sym (flat_map-append f xs ys))

-- the tree of an inner node, up to grouping, from its events
grouped_node : (start call end : ℕ) (t u : Tree) →
    Regrouped (Seq (Seq (Leaf start) (Par t (Seq (Leaf call) (Seq u (Leaf 0))))) (Seq (Seq (Leaf end) (Leaf 0)) (Leaf 0)))
    (Seq (Leaf start) (Seq (Par t (Seq (Leaf call) u)) (Leaf end)))
grouped_node start call end t u =
    further (to_the_right (Leaf start) (Par t (Seq (Leaf call) (Seq u (Leaf 0)))) (Seq (Seq (Leaf end) (Leaf 0)) (Leaf 0)))
    (in_series (same (Leaf start))
    (in_series (in_fork (same t) (in_series (same (Leaf call)) (nothing_after u))) (further (nothing_after (Seq (Leaf end) (Leaf 0))) (nothing_after (Leaf end)))))

module _ (body inner : ℤ → Frame → Piece Frame) (is_body : IsBody body inner) where
  leads-append : {from : ℤ} {frame frame' frame'' : Frame} {xs ys : List Turn} →
      TurnsLead inner from frame xs frame' → TurnsLead inner (from +ℤ pos (length xs)) frame' ys frame'' → TurnsLead inner from frame (xs ++ ys) frame''
  leads-append (no_turn {from = from}) h = rw (+ℤ_idr from) at h
  leads-append (one_turn {from = from} {turns = turns} e more) h = one_turn e (leads-append more (rw (← step from (length turns)) at h))

  -- the effect of the iterations of a leaf
  record LeafRuns (n : ℕ) (from : ℤ) (frame : Frame) (left : ℕ) (frame' : Frame) (left' : ℕ) (t : Trace) : Type 0 where
    turns : List Turn
    as_many : length turns ≡ n
    in_order : TurnsLead inner from frame turns frame'
    same_lines : t.lines ≡ lines_of turns
    same_additions : t.updates ≡ additions_of turns
    cost : left ≡ left' + 11 * n + spent turns
    parts : (events : List Event) (b : Tree) → PartsAre events (Leaf leaf_end) b → PartsAre (t.events ++ events) (turns_tree (trees_of turns)) b

  -- one iteration before the others of a leaf
  more_turns : (n : ℕ) (from : ℤ) (frame : Frame) (left : ℕ) (frame' : Frame) (left' : ℕ) (t : Trace) (frame'' : Frame) (left'' : ℕ) (u : Trace) →
      turn_start ≤ left → inner from frame (left - turn_start) ≡ Done frame' left' t → turn_end ≤ left' →
      LeafRuns n (from +ℤ pos 1) frame' (left' - turn_end) frame'' left'' u →
      LeafRuns (suc n) from frame left frame'' left'' (joined (shows (works turn_start)) (joined (one_part Series t) (joined (shows (works turn_end)) u)))
  more_turns n from frame left frame' left' t frame'' left'' u enough e enough' r =
      let turn : Turn = record { given = left - turn_start; left = left'; trace = t } in
      record {
        turns = turn ∷ r.turns;
        as_many = ap (λ n. suc n) r.as_many;
        in_order = one_turn e r.in_order;
        same_lines = ap (λ xs. t.lines ++ xs) r.same_lines;
        same_additions = ap (λ xs. t.updates ++ xs) r.same_additions;
        cost = omega (arith, r.cost, is_body.spends from frame frame' (left - turn_start) left' t e, sum_by-cons (λ (turn : Turn). turn.given - turn.left) turn r.turns);
        parts = λ events b h. parts_works turn_start (parts_series (same (tree_of t.events)) (parts_works turn_end (r.parts events b h)));
      }

  -- a trap in an iteration after the first
  later_trap : (n : ℕ) (from : ℤ) (frame : Frame) (left : ℕ) (frame' : Frame) (left' : ℕ) (t : Trace) (trap : Trap) (line : ℕ) (lines : List ℤ) →
      inner from frame (left - turn_start) ≡ Done frame' left' t → TrapsAsPlain inner n (from +ℤ pos 1) frame' trap line lines →
      TrapsAsPlain inner (suc n) from frame trap line (t.lines ++ lines)
  later_trap n from frame left frame' left' t trap line lines e r =
      let turn : Turn = record { given = left - turn_start; left = left'; trace = t } in
      record {
        turns = turn ∷ r.turns;
        fewer = omega (arith, r.fewer);
        reached = r.reached;
        in_order = one_turn e r.in_order;
        given = r.given;
        own_lines = r.own_lines;
        next_traps = rw (← step from (length r.turns)) r.next_traps;
        same_lines = ap (λ xs. t.lines ++ xs) r.same_lines ∙ sym (append_assoc t.lines (lines_of r.turns) r.own_lines);
      }

  leaf_ends : (n : ℕ) (from : ℤ) (frame : Frame) (left : ℕ) →
      Ends (LeafRuns n from frame left) (TrapsAsPlain inner n from frame) (leaf_turns n from body frame left)
  leaf_ends zero from frame left =
      at_end (record { turns = []; as_many = refl; in_order = no_turn; same_lines = refl; same_additions = refl; cost = omega arith; parts = λ events b h. h })
  leaf_ends (suc n) from frame left =
      pay_ends turn_start left _ (λ enough. rw (is_body.in_series from frame (left - turn_start))
      (one_then_ends Series (itself (inner from frame (left - turn_start)))
      (λ frame' left' t e. pay_ends turn_end left' _ (λ enough'.
      weaken (λ frame'' left'' u r. more_turns n from frame left frame' left' t frame'' left'' u enough e enough' r)
      (λ trap line lines r. later_trap n from frame left frame' left' t trap line lines e r)
      (leaf_ends n (from +ℤ pos 1) frame' (left' - turn_end))))
      (λ trap line lines e. record {
        turns = [];
        fewer = omega arith;
        reached = frame;
        in_order = no_turn;
        given = left - turn_start;
        own_lines = lines;
        next_traps = rw (+ℤ_idr from) e;
        same_lines = refl;
      })))

  -- two runs of iterations make one
  spent-append : (xs ys : List Turn) → spent (xs ++ ys) ≡ spent xs + spent ys
  spent-append xs ys = sum_by-append (λ (turn : Turn). turn.given - turn.left) xs ys

  -- a trap in the first half, and a trap in the second half
  trap_in_first : (n : ℕ) (from : ℤ) (frame : Frame) (trap : Trap) (line : ℕ) (lines : List ℤ) →
      TrapsAsPlain inner (n / 2) from frame trap line lines → TrapsAsPlain inner n from frame trap line lines
  trap_in_first n from frame trap line lines r = record {
    turns = r.turns;
    fewer = omega (arith, r.fewer);
    reached = r.reached;
    in_order = r.in_order;
    given = r.given;
    own_lines = r.own_lines;
    next_traps = r.next_traps;
    same_lines = r.same_lines;
  }

  -- the effect of a loop of bounded depth
  module _ (grain k q : ℕ) where
    record Runs (depth n : ℕ) (from : ℤ) (frame : Frame) (left : ℕ) (frame' : Frame) (left' : ℕ) (t : Trace) : Type 0 where
      turns : List Turn
      as_many : length turns ≡ n
      in_order : TurnsLead inner from frame turns frame'
      same_lines : t.lines ≡ lines_of turns
      same_additions : t.updates ≡ additions_of turns
      cost : left ≡ left' + cost_at depth grain k q n + spent turns
      tree : Regrouped (tree_of t.events) (loop_tree depth grain k q (trees_of turns))

    trap_in_second : (depth n : ℕ) (from : ℤ) (frame : Frame) (left : ℕ) (frame' : Frame) (left' : ℕ) (t : Trace) (trap : Trap) (line : ℕ) (lines : List ℤ) →
        Runs depth (n / 2) from frame left frame' left' t → TrapsAsPlain inner (n - n / 2) (from +ℤ pos (n / 2)) frame' trap line lines →
        TrapsAsPlain inner n from frame trap line (t.lines ++ lines)
    trap_in_second depth n from frame left frame' left' t trap line lines r s =
        let place : from +ℤ pos (n / 2) +ℤ pos (length s.turns) ≡ from +ℤ pos (length (r.turns ++ s.turns)) =
        steps from (n / 2) (length s.turns) ∙ ap (λ m. from +ℤ pos m) (omega (arith, length-append r.turns s.turns, r.as_many)) in
        record {
          turns = r.turns ++ s.turns;
          fewer = omega (arith, length-append r.turns s.turns, r.as_many, s.fewer);
          reached = s.reached;
          in_order = leads-append r.in_order (rw r.as_many s.in_order);
          given = s.given;
          own_lines = s.own_lines;
          next_traps = rw (← place) s.next_traps;
          same_lines = rw (r.same_lines, s.same_lines, flat_map-append (λ (turn : Turn). turn.trace.lines) r.turns s.turns) (sym (append_assoc (lines_of r.turns) (lines_of s.turns) s.own_lines));
        }

    both_halves : (depth n : ℕ) (from : ℤ) (frame : Frame) (left : ℕ) (frame1 : Frame) (left1 : ℕ) (t : Trace) (frame2 : Frame) (left2 : ℕ) (u : Trace) →
        nat_le n grain ≡ false → node_start k q ≤ left → Runs depth (n / 2) from frame (left - node_start k q) frame1 left1 t →
        node_call k ≤ left1 → Runs depth (n - n / 2) (from +ℤ pos (n / 2)) frame1 (left1 - node_call k) frame2 left2 u → node_end q ≤ left2 →
        Runs (suc depth) n from frame left frame2 (left2 - node_end q)
        (joined (shows (works (node_start k q))) (joined (one_part Fork t)
        (joined (shows (works (node_call k))) (joined (one_part Series u) (joined (shows (Join ∷ [])) (joined (shows (works (node_end q))) quiet))))))
    both_halves depth n from frame left frame1 left1 t frame2 left2 u inner_node enough1 r enough2 s enough3 =
        record {
          turns = r.turns ++ s.turns;
          as_many = length-append r.turns s.turns ∙ omega (arith, r.as_many, s.as_many);
          in_order = leads-append r.in_order (rw r.as_many s.in_order);
          same_lines = shown_by_both (λ turn. turn.trace.lines) r.turns s.turns t.lines u.lines r.same_lines s.same_lines;
          same_additions = shown_by_both (λ turn. turn.trace.updates) r.turns s.turns t.updates u.updates r.same_additions s.same_additions;
          cost = cost_of_both left left1 left2 (node_start k q) (node_call k) (node_end q)
              (cost_at depth grain k q (n / 2)) (cost_at depth grain k q (n - n / 2)) (cost_at (suc depth) grain k q n)
              (spent r.turns) (spent s.turns) (spent (r.turns ++ s.turns))
              enough1 r.cost enough2 s.cost enough3
              (costs_of_node k q n (inner_nodes depth grain (n / 2)) (inner_nodes depth grain (n - n / 2)) (inner_nodes (suc depth) grain n) (nodes_of_node depth grain n inner_node))
              (spent-append r.turns s.turns);
          tree =
              let t1 = loop_tree depth grain k q (trees_of r.turns) in
              let t2 = loop_tree depth grain k q (trees_of s.turns) in
              let parts = parts_works (node_start k q) (parts_fork r.tree (parts_works (node_call k) (parts_series s.tree (parts_join (parts_works (node_end q) parts_nil))))) in
              rw (
                map-append (λ (turn : Turn). tree_of turn.trace.events) r.turns s.turns,
                tree_of_node depth grain k q n (trees_of r.turns) (trees_of s.turns) (length-map r.turns _ ∙ r.as_many) (length-map s.turns _ ∙ s.as_many) inner_node,
              )
              (further (tree_of_parts parts) (grouped_node (node_start k q) (node_call k) (node_end q) t1 t2));
        }

    node_ends : (depth n : ℕ) (from : ℤ) (frame : Frame) (left : ℕ) (first second : Frame → Piece Frame) → nat_le n grain ≡ false →
        ((frame : Frame) (left : ℕ) → Ends (Runs depth (n / 2) from frame left) (TrapsAsPlain inner (n / 2) from frame) (first frame left)) →
        ((frame : Frame) (left : ℕ) → Ends (Runs depth (n - n / 2) (from +ℤ pos (n / 2)) frame left) (TrapsAsPlain inner (n - n / 2) (from +ℤ pos (n / 2)) frame) (second frame left)) →
        Ends (Runs (suc depth) n from frame left) (TrapsAsPlain inner n from frame) (node_piece k q first second frame left)
    node_ends depth n from frame left first second inner_node first_ends second_ends =
        pay_ends (node_start k q) left _ (λ enough1.
        one_then_ends Fork (first_ends frame (left - node_start k q))
        (λ frame1 left1 t r. pay_ends (node_call k) left1 _ (λ enough2.
        one_then_ends Series (second_ends frame1 (left1 - node_call k))
        (λ frame2 left2 u s. after_ends (shows (Join ∷ [])) (pay_ends (node_end q) left2 _ (λ enough3.
        at_end (both_halves depth n from frame left frame1 left1 t frame2 left2 u inner_node enough1 r enough2 s enough3))))
        (λ trap line lines s. trap_in_second depth n from frame (left - node_start k q) frame1 left1 t trap line lines r s)))
        (λ trap line lines r. trap_in_first n from frame trap line lines r))

    one_leaf : (depth n : ℕ) (from : ℤ) (frame : Frame) (left : ℕ) (frame' : Frame) (left' : ℕ) (t : Trace) →
        nat_le n grain ≡ true → leaf_start ≤ left → LeafRuns n from frame (left - leaf_start) frame' left' t → leaf_end ≤ left' →
        Runs (suc depth) n from frame left frame' (left' - leaf_end) (joined (shows (works leaf_start)) (joined t (joined (shows (works leaf_end)) quiet)))
    one_leaf depth n from frame left frame' left' t is_leaf enough r enough' =
        let parts =
        parts_works leaf_start (r.parts (works leaf_end) (Leaf 0) (regrouped_parts (nothing_after (Leaf leaf_end)) (same (Leaf 0)) (parts_works leaf_end parts_nil))) in
        record {
          turns = r.turns;
          as_many = r.as_many;
          in_order = r.in_order;
          same_lines = append-nil t.lines ∙ r.same_lines;
          same_additions = append-nil t.updates ∙ r.same_additions;
          cost = omega (arith, r.cost, cost_of_leaf k q n (inner_nodes (suc depth) grain n) (nodes_of_leaf depth grain n is_leaf));
          tree = rw (tree_of_leaf depth grain k q n (trees_of r.turns) (length-map r.turns _ ∙ r.as_many) is_leaf)
              (further (tree_of_parts parts) (nothing_after _));
        }

    leaf_runs : (depth n : ℕ) (from : ℤ) (frame : Frame) (left : ℕ) → nat_le n grain ≡ true →
        Ends (Runs (suc depth) n from frame left) (TrapsAsPlain inner n from frame) (leaf_piece n from body frame left)
    leaf_runs depth n from frame left is_leaf =
        pay_ends leaf_start left _ (λ enough.
        then_ends (leaf_ends n from frame (left - leaf_start))
        (λ frame' left' t r. pay_ends leaf_end left' _ (λ enough'. at_end (one_leaf depth n from frame left frame' left' t is_leaf enough r enough')))
        (λ trap line lines r. r))

    halves_end : (depth n : ℕ) (from : ℤ) (frame : Frame) (left : ℕ) →
        Ends (Runs depth n from frame left) (TrapsAsPlain inner n from frame) (halves depth grain k q n from body frame left)
    halves_end zero n from frame left = at_limit
    halves_end (suc depth) n from frame left = by_test (nat_le n grain) refl (halves_end depth)
      where
        by_test : (b : Bool) → nat_le n grain ≡ b →
            ((n : ℕ) (from : ℤ) (frame : Frame) (left : ℕ) → Ends (Runs depth n from frame left) (TrapsAsPlain inner n from frame) (halves depth grain k q n from body frame left)) →
            Ends (Runs (suc depth) n from frame left) (TrapsAsPlain inner n from frame)
            ((if b then leaf_piece n from body frame
            else node_piece k q (λ frame. halves depth grain k q (n / 2) from body frame) (λ frame. halves depth grain k q (n - n / 2) (from +ℤ pos (n / 2)) body frame) frame) left)
        by_test true e more = leaf_runs depth n from frame left e
        by_test false e more = node_ends depth n from frame left _ _ e (more (n / 2) from) (more (n - n / 2) (from +ℤ pos (n / 2)))

pub runs_as_plain : (body inner : ℤ → Frame → Piece Frame) → IsBody body inner → (grain k q n : ℕ) (from : ℤ) (frame : Frame) (left : ℕ) (frame' : Frame) (left' : ℕ) (t : Trace) →
    halves (suc n) grain k q n from body frame left ≡ Done frame' left' t → RunsAsPlain inner grain k q n from frame left frame' left' t
runs_as_plain body inner is_body grain k q n from frame left frame' left' t e =
    let r = when_done e (halves_end body inner is_body grain k q (suc n) n from frame left) in
    record {
      turns = r.turns;
      as_many = r.as_many;
      in_order = r.in_order;
      same_lines = r.same_lines;
      same_additions = r.same_additions;
      cost = r.cost;
      tree = same_normal (tree_of t.events) (loop_tree (suc n) grain k q (trees_of r.turns)) r.tree;
    }

pub traps_as_plain : (body inner : ℤ → Frame → Piece Frame) → IsBody body inner → (grain k q n : ℕ) (from : ℤ) (frame : Frame) (left : ℕ) (trap : Trap) (line : ℕ) (lines : List ℤ) →
    halves (suc n) grain k q n from body frame left ≡ Trapped trap line lines → TrapsAsPlain inner n from frame trap line lines
traps_as_plain body inner is_body grain k q n from frame left trap line lines e = when_trapped e (halves_end body inner is_body grain k q (suc n) n from frame left)
