-- A piece of a run spends the work of the tree of its events.
use Rattle.std.proofs.Common.{◌≡◌, ℕ, zero, suc, ◌+◌, ◌-◌, ◌/◌, ◌+ℤ◌, Bool, true, false, ℤ, pos, List, [], ◌∷◌, ◌++◌, Some, None, length, arith, refl, ◌∙◌, append-nil}
use Rattle.std.specs.Prelude.{nat_lt, nat_le, if◌then◌else◌}
use Rattle.std.proofs.lemmas.Bool.{ltb-false}
use Rattle.cw_model.specs.declared.trap.Trap.{Trap}
use Rattle.cw_model.specs.Captured.{captured}
use Rattle.cw_model.specs.LoopLaws.{IsBody, for_body, for_turn}
use Rattle.cw_model.specs.Ints.{is_zero, natural}
use Rattle.cw_model.specs.declared.limits.TheConstants.{MOST_DEPTH}
use Rattle.cw_model.specs.Trees.{Execution, Tree, Marked, Event, Work, Series, Fork, Join, works, tree_of, work}
use Rattle.cw_model.specs.declared.syntax.CallKind.{CallKind}
use Rattle.cw_model.specs.declared.syntax.CallKind.TheVariants.{Plain, Spawned}
use Rattle.cw_model.specs.Syntax.{Name, Expr, Stmt, Declare, DeclareArray, Assign, AssignElement, Reduce, Call, Start, Begin, Sync, If, IfElse}
use Rattle.cw_model.specs.Syntax.{While, For, Scope, Cut, Region, Print, Return, Block, End, Then, Param, Function, is_array_param}
use Rattle.cw_model.specs.Frames.{Frame, no_frame, leave, inside_loop, new_array, new_int}
use Rattle.cw_model.specs.Expressions.{Evaluated, Gives, Traps, evaluate}
use Rattle.cw_model.specs.Outcome.{Trace, shows, Outcome, Done, Trapped, Over, then_do, Piece, ◌>>=◌, gives, show, pay, pay_for, joined_up, as_one}
use Rattle.cw_model.specs.Loops.{turn_start, turn_end, leaf_start, leaf_end, node_start, node_call, node_end, leaf_turns, halves}
use Rattle.cw_model.specs.Meaning.{Completion, Normal, ByReturn, onward, frame_of, scoped, Returned, Entry, Deeper, SameDepth, Calls, function_named}
use Rattle.cw_model.specs.Meaning.{given_array, arguments, call_event, start_event, turns, run, run_all, end_of_call, call, depth_of}
use Rattle.cw_model.proofs.Endings.{Ends, at_end, at_trap, at_limit, weaken, then_ends, one_ends, when_done}

-- the work of the tree of some events
abbrev cost : List Event → ℕ
cost events = work (tree_of events)

cost-append : (xs ys : List Event) → cost (xs ++ ys) ≡ cost xs + cost ys
cost-append [] ys = omega arith
cost-append (Work k ∷ xs) ys = omega (arith, cost-append xs ys)
cost-append (Series t ∷ xs) ys = omega (arith, cost-append xs ys)
cost-append (Fork t ∷ xs) ys = omega (arith, cost-append xs ys)
cost-append (Join ∷ xs) ys = omega (arith, cost-append xs ys)

cost-works : (k : ℕ) → cost (works k) ≡ k
cost-works zero = refl
cost-works (suc k) = omega (arith, cost-works k)

-- if the piece is done, the rest of the budget plus its cost is the budget at the start
abbrev pub IsPaid : {A : Type 0} → ℕ → Outcome A → Type 0
IsPaid left o = Ends (λ a left' t. left ≡ left' + cost t.events) (λ trap line lines. Unit {0}) o

pub record Spends {A : Type 0} (piece : Piece A) : Type 0 where
  pub paid : (left : ℕ) → IsPaid left (piece left)

spends_then : {A B : Type 0} {piece : Piece A} {next : A → Piece B} → Spends piece → ((a : A) → Spends (next a)) → Spends (◌>>=◌ piece next)
spends_then p f = record {
  paid = λ left.
      then_ends (p.paid left)
      (λ a left' t e. weaken (λ b left'' u e'. omega (arith, e, e', cost-append t.events u.events)) (λ trap line lines h. h) ((f a).paid left'))
      (λ trap line lines h. h);
}

spends_nothing : {A : Type 0} (a : A) → Spends (gives a)
spends_nothing a = record { paid = λ left. at_end (omega arith) }

spends_in_view : (t : Trace) → cost t.events ≡ 0 → Spends (show t)
spends_in_view t e = record { paid = λ left. at_end (omega (arith, e)) }

spends_join : Spends (show (shows (Join ∷ [])))
spends_join = spends_in_view (shows (Join ∷ [])) refl

spends_over : {A : Type 0} → Spends {A = A} (λ left. Over)
spends_over = record { paid = λ left. at_limit }

spends_trap : {A : Type 0} (trap : Trap) (line : ℕ) (lines : List ℤ) → Spends {A = A} (λ left. Trapped trap line lines)
spends_trap trap line lines = record { paid = λ left. at_trap tt }

paid_if : {A : Type 0} (b : Bool) (left k : ℕ) (a : A) → nat_lt left k ≡ b → IsPaid left (if b then Over else Done a (left - k) (shows (works k)))
paid_if true left k a e = at_limit
paid_if false left k a e = at_end (omega (arith, cost-works k, ltb-false left k e))

spends_pay : (k : ℕ) → Spends (pay k)
spends_pay k = record { paid = λ left. paid_if (nat_lt left k) left k tt refl }

trapped_if : {A : Type 0} (b : Bool) (left : ℕ) (trap : Trap) (line : ℕ) → IsPaid {A = A} left (if b then Over else Trapped trap line [])
trapped_if true left trap line = at_limit
trapped_if false left trap line = at_trap tt

spends_value : (e : Evaluated) (line : ℕ) → Spends (pay_for e line)
spends_value (Gives v k) line = record { paid = λ left. paid_if (nat_lt left k) left k v refl }
spends_value (Traps trap k) line = record { paid = λ left. trapped_if (nat_lt left k) left trap line }

-- a piece whose events are one event with the same work
spends_as_one : {A : Type 0} {piece : Piece A} (part : Tree → Event) → ((t : Tree) → cost (part t ∷ []) ≡ work t) → Spends piece → Spends (as_one part piece)
spends_as_one part same p = record {
  paid = λ left. one_ends part (weaken (λ a left' t e. e ∙ omega (arith, same (tree_of t.events))) (λ trap line lines h. h) (p.paid left));
}

spends_in_series : {A : Type 0} {piece : Piece A} → Spends piece → Spends (as_one Series piece)
spends_in_series p = spends_as_one Series (λ t. omega arith) p

spends_onward : (way : Completion) (next : Frame → Piece Completion) → ((frame : Frame) → Spends (next frame)) → Spends (onward way next)
spends_onward (Normal frame) next f = f frame
spends_onward (ByReturn v frame) next f = spends_nothing (ByReturn v frame)

spends_scoped : (before : Frame) {piece : Piece Completion} → Spends piece → Spends (scoped before piece)
spends_scoped before p = spends_then p (λ way. spends_onward way _ (λ frame. spends_nothing _))

spends_if : {A : Type 0} {piece other : Piece A} (b : Bool) → Spends piece → Spends other → Spends (if b then piece else other)
spends_if true p q = p
spends_if false p q = q

spends_arguments : (ps : List Param) (es : List Expr) (frame : Frame) (line : ℕ) (given : Frame) → Spends (arguments ps es frame line given)
spends_arguments [] es frame line given = spends_nothing given
spends_arguments (p ∷ ps) [] frame line given = spends_nothing given
spends_arguments (p ∷ ps) (e ∷ es) frame line given =
    spends_if (is_array_param p) (spends_arguments ps es frame line (new_array p.name (given_array e frame) given))
    (spends_then (spends_value (evaluate e frame) line) (λ v. spends_arguments ps es frame line (new_int p.name v given)))

spends_turns : (bound : ℕ) (test : Frame → Evaluated) (line : ℕ) (body : Frame → Piece Completion) → ((frame : Frame) → Spends (body frame)) →
    (frame : Frame) → Spends (turns bound test line body frame)
spends_turns zero test line body f frame = spends_over
spends_turns (suc bound) test line body f frame =
    spends_then (spends_value (test frame) line) (λ v. spends_then (spends_pay 1) (λ _. spends_if (is_zero v) (spends_nothing _)
    (spends_then (f frame) (λ way. spends_onward way _ (λ frame'. spends_then (spends_pay 1) (λ _. spends_turns bound test line body f frame'))))))

spends_leaf : (n : ℕ) (from : ℤ) (body : ℤ → Frame → Piece Frame) → ((i : ℤ) (frame : Frame) → Spends (body i frame)) → (frame : Frame) → Spends (leaf_turns n from body frame)
spends_leaf zero from body f frame = spends_nothing frame
spends_leaf (suc n) from body f frame =
    spends_then (spends_pay turn_start) (λ _. spends_then (f from frame) (λ frame'. spends_then (spends_pay turn_end) (λ _. spends_leaf n (from +ℤ pos 1) body f frame')))

spends_halves : (depth grain k q n : ℕ) (from : ℤ) (body : ℤ → Frame → Piece Frame) → ((i : ℤ) (frame : Frame) → Spends (body i frame)) → (frame : Frame) →
    Spends (halves depth grain k q n from body frame)
spends_halves zero grain k q n from body f frame = spends_over
spends_halves (suc depth) grain k q n from body f frame =
    spends_if (nat_le n grain)
    (spends_then (spends_pay leaf_start) (λ _. spends_then (spends_leaf n from body f frame) (λ frame'. spends_then (spends_pay leaf_end) (λ _. spends_nothing frame'))))
    (spends_then (spends_pay (node_start k q)) (λ _.
    spends_then (spends_as_one Fork (λ t. omega arith) (spends_halves depth grain k q (n / 2) from body f frame)) (λ frame'.
    spends_then (spends_pay (node_call k)) (λ _.
    spends_then (spends_in_series (spends_halves depth grain k q (n - n / 2) (from +ℤ pos (n / 2)) body f frame')) (λ frame''.
    spends_then spends_join (λ _.
    spends_then (spends_pay (node_end q)) (λ _. spends_nothing frame'')))))))

call_is_work : (kind : CallKind) (site : ℕ) (t : Tree) → cost (call_event kind site t ∷ []) ≡ work t
call_is_work Plain site t = omega arith
call_is_work Spawned site t = omega arith

start_is_work : (kind : CallKind) (t : Tree) → cost (start_event kind t ∷ []) ≡ work t
start_is_work Plain t = omega arith
start_is_work Spawned t = omega arith

module _ (fs : List Function) (calls : Calls) (spend : (entry : Entry) (f : Function) (given : Frame) (line : ℕ) → Spends (calls entry f given line)) where
  mutual
    pub spends_stmt : (s : Stmt) (line : ℕ) (frame : Frame) → Spends (run s line fs calls frame)
    spends_stmt (Declare x e) line frame = spends_then (spends_value _ line) (λ v. spends_then (spends_pay 1) (λ _. spends_nothing _))
    spends_stmt (DeclareArray a e) line frame = spends_then (spends_value _ line) (λ v. spends_nothing _)
    spends_stmt (Assign x e) line frame = spends_then (spends_value _ line) (λ v. spends_then (spends_pay 1) (λ _. spends_nothing _))
    spends_stmt (AssignElement a i e) line frame = spends_then (spends_value _ line) (λ i. spends_then (spends_value _ line) (λ v. spends_nothing _))
    spends_stmt (Reduce how s e) line frame =
        spends_then (spends_value _ line) (λ v. spends_then (spends_pay 1) (λ _.
        spends_then (spends_in_view (record { lines = []; updates = (s, v) ∷ []; events = [] }) refl) (λ _. spends_nothing (Normal frame))))
    spends_stmt (Call kind site target callee es) line frame =
        spends_then (spends_arguments (function_named callee fs).params es frame line no_frame) (λ given. spends_then (spends_pay 1) (λ _.
        spends_then (spends_as_one (call_event kind site) (call_is_work kind site) (spend Deeper (function_named callee fs) given line)) (λ returned. spends_nothing _)))
    spends_stmt (Start kind callee es) line frame =
        spends_then (spends_arguments (function_named callee fs).params es frame line no_frame) (λ given. spends_then (spends_pay 1) (λ _.
        spends_then (spends_as_one (start_event kind) (start_is_work kind) (spend SameDepth (function_named callee fs) given line)) (λ returned. spends_nothing _)))
    spends_stmt (Begin callee from to captured over) line frame =
        spends_then (spends_value _ line) (λ lo. spends_then (spends_value _ line) (λ hi. spends_then (spends_pay _) (λ _.
        spends_then (spends_value _ line) (λ n. spends_then (spends_in_series (spend SameDepth (function_named callee fs) _ line)) (λ returned. spends_nothing _)))))
    spends_stmt Sync line frame = spends_then spends_join (λ _. spends_then (spends_pay 1) (λ _. spends_nothing (Normal frame)))
    spends_stmt (If e b) line frame =
        spends_then (spends_value _ line) (λ v. spends_then (spends_pay 1) (λ _. spends_if (is_zero v) (spends_nothing _) (spends_scoped frame (spends_block b frame))))
    spends_stmt (IfElse e b c) line frame =
        spends_then (spends_value _ line) (λ v. spends_then (spends_pay 1) (λ _. spends_if (is_zero v) (spends_scoped frame (spends_block c frame))
        (spends_then (spends_scoped frame (spends_block b frame)) (λ way. spends_onward way _ (λ frame'. spends_then (spends_pay 1) (λ _. spends_nothing _))))))
    spends_stmt (While e b) line frame = record {
      paid = λ left. (spends_turns (suc left) (evaluate e) line (λ frame'. scoped frame' (run_all b fs calls frame')) (λ frame'. spends_scoped frame' (spends_block b frame')) frame).paid left;
    }
    spends_stmt (For x y z from to grain over b) line frame =
        spends_then (spends_value _ line) (λ lo. spends_then (spends_value _ line) (λ hi. spends_then (spends_pay _) (λ _. spends_then (spends_value _ line) (λ n.
        spends_then
        (spends_in_series (spends_halves (suc (natural n)) grain (length (captured x b)) (length over) (natural n) lo (for_body x over b fs calls) (λ i now.
        spends_then (spends_in_series (spends_block b (inside_loop over (new_int x i now)))) (λ way. spends_nothing (leave now (frame_of way)))) frame))
        (λ frame'. spends_nothing _)))))
    spends_stmt (Scope b) line frame =
        spends_then (spends_pay 1) (λ _. spends_then (spends_in_series (spends_scoped frame (spends_block b frame))) (λ way.
        spends_onward way _ (λ frame'. spends_then (spends_pay 1) (λ _. spends_nothing _))))
    spends_stmt (Cut a e l r b) line frame =
        spends_then (spends_value _ line) (λ v. spends_then (spends_in_series (spends_scoped _ (spends_block b _))) (λ way.
        spends_onward way _ (λ frame'. spends_then (spends_pay 1) (λ _. spends_nothing _))))
    spends_stmt (Region tag b) line frame =
        spends_then (spends_pay 1) (λ _. spends_then (spends_as_one (λ t. Series (Marked (Execution tag) t)) (λ t. omega arith) (spends_scoped frame (spends_block b frame))) (λ way.
        spends_onward way _ (λ frame'. spends_then (spends_pay 1) (λ _. spends_nothing _))))
    spends_stmt (Print e) line frame =
        spends_then (spends_value _ line) (λ v. spends_then (spends_pay 1) (λ _.
        spends_then (spends_in_view (record { lines = v ∷ []; updates = []; events = [] }) refl) (λ _. spends_nothing (Normal frame))))
    spends_stmt (Return None) line frame = spends_then spends_join (λ _. spends_then (spends_pay 1) (λ _. spends_nothing (ByReturn None frame)))
    spends_stmt (Return (Some e)) line frame =
        spends_then (spends_value _ line) (λ v. spends_then spends_join (λ _. spends_then (spends_pay 1) (λ _. spends_nothing (ByReturn (Some v) frame))))

    pub spends_block : (b : Block) (frame : Frame) → Spends (run_all b fs calls frame)
    spends_block End frame = spends_nothing _
    spends_block (Then line s b) frame = spends_then (spends_stmt s line frame) (λ way. spends_onward way _ (λ frame'. spends_block b frame'))

spends_end : (way : Completion) → Spends (end_of_call way)
spends_end (ByReturn v frame) = spends_nothing _
spends_end (Normal frame) = spends_then spends_join (λ _. spends_then (spends_pay 1) (λ _. spends_nothing (None, frame)))

pub spends_call : (bound depth : ℕ) (fs : List Function) (entry : Entry) (f : Function) (given : Frame) (line : ℕ) → Spends (call bound depth fs entry f given line)
unfolding call
spends_call zero depth fs entry f given line = spends_over
spends_call (suc bound) depth fs entry f given line =
    spends_if (nat_lt MOST_DEPTH (depth_of entry depth)) (spends_trap _ line [])
    (spends_then
    (spends_block fs (λ e g given' line' left. call bound (depth_of entry depth) fs e g given' line' left)
    (λ e g given' line'. spends_call bound (depth_of entry depth) fs e g given' line') f.body given)
    spends_end)

-- a call that is done spends the work of its tree
pub call_is_paid : (bound depth : ℕ) (fs : List Function) (entry : Entry) (f : Function) (given : Frame) (line left : ℕ) (returned : Returned) (left' : ℕ) (t : Trace) →
    call bound depth fs entry f given line left ≡ Done returned left' t → left ≡ left' + work (tree_of t.events)
call_is_paid bound depth fs entry f given line left returned left' t e = when_done e ((spends_call bound depth fs entry f given line).paid left)

-- the body of a loop in a call is one part in series, and leaves at most the budget that it was given
same_turn : (x : Name) (over : List Name) (b : Block) (fs : List Function) (calls : Calls) (i : ℤ) (frame : Frame) (left : ℕ) →
    for_body x over b fs calls i frame left ≡ as_one Series (for_turn x over b fs calls i frame) left
same_turn x over b fs calls i frame left = go (run_all b fs calls (inside_loop over (new_int x i frame)) left)
  where
    go : (o : Outcome Completion) → then_do (joined_up Series o) (λ way. gives (leave frame (frame_of way))) ≡ joined_up Series (then_do o (λ way. gives (leave frame (frame_of way))))
    go (Done way left' t) = rw (append-nil t.events) refl
    go (Trapped trap line lines) = refl
    go Over = refl

pub for_is_body : (bound depth : ℕ) (fs : List Function) (x : Name) (over : List Name) (b : Block) → IsBody (for_body x over b fs (call bound depth fs)) (for_turn x over b fs (call bound depth fs))
for_is_body bound depth fs x over b = record {
  in_series = same_turn x over b fs (call bound depth fs);
  spends = λ i frame frame' given left t e.
      let turn : Spends (for_turn x over b fs (call bound depth fs) i frame) =
      spends_then (spends_block fs (call bound depth fs) (spends_call bound depth fs) b (inside_loop over (new_int x i frame))) (λ way. spends_nothing (leave frame (frame_of way))) in
      omega (arith, when_done e (turn.paid given));
}
