-- A greater bound on the calls inside one another does the same: the budget ends first.
use Rattle.std.specs.Prelude.{◌≡◌, ℕ, zero, suc, ℤ, pos, ◌-◌, ◌/◌, ◌<◌, ◌≤◌, ◌+ℤ◌, nat_lt, nat_le, if◌then◌else◌, Bool, true, false, List, [], length, Option, Some, None, refl}
use Rattle.std.proofs.Common.{ap, ◌∙◌, arith}
use Rattle.cw_model.specs.declared.syntax.CallKind.{CallKind}
use Rattle.cw_model.specs.declared.syntax.CallKind.TheVariants.{Plain, Spawned}
use Rattle.cw_model.specs.Captured.{captured}
use Rattle.cw_model.specs.Ints.{Result, Value, Fails, is_zero, natural}
use Rattle.cw_model.specs.declared.limits.TheConstants.{MOST_DEPTH}
use Rattle.cw_model.specs.Syntax.{Stmt, Declare, DeclareArray, Assign, AssignElement, Reduce, Call, Start, Begin, Sync, If, IfElse}
use Rattle.cw_model.specs.Syntax.{While, For, Scope, Cut, Region, Print, Return, Block, End, Then, Function}
use Rattle.cw_model.specs.Trees.{Mark, Invocation, Execution, works}
use Rattle.cw_model.specs.Frames.{Frame, no_frame, leave, inside_loop, new_int}
use Rattle.cw_model.specs.Expressions.{Evaluated, done_at, evaluate}
use Rattle.cw_model.specs.Outcome.{shows, Outcome, Piece, ◌>>=◌, then_do, joined_up, pay, pay_for, as_one}
use Rattle.cw_model.specs.Loops.{turn_start, turn_end, leaf_start, leaf_end, node_start, node_call, node_end, leaf_turns, halves}
use Rattle.cw_model.specs.Meaning.{Completion, Normal, ByReturn, onward, frame_of, scoped, Returned, Entry, Deeper, SameDepth, Calls}
use Rattle.cw_model.specs.Meaning.{function_named, call_event, start_event, turns, run, run_all, call, depth_of}
use Rattle.cw_measure.specs.OpenParts.{marked, part_of}
use Rattle.cw_part.specs.PieceRuns.{Kind, OfNothing, OfInt, OfFrame, OfStatement, OfCall, Given}
use Rattle.cw_part.proofs.PieceTellingLaws.{run_comes}
use Rattle.cw_part.proofs.PieceRunLaws.{Runs, runs_then, runs_nothing, runs_over, runs_trap, runs_join, runs_pay, runs_value, runs_inside, runs_while, runs_arguments}
use Rattle.cw_part.proofs.PieceRunLaws.{runs_stmt, runs_end, runs_call, Leaves, leaves_tested, leaves_trap, leaves_pay, leaves_no_more, same_then}

-- two pieces do the same within each budget below this one
record Agree (kind : Kind) (most : ℕ) (piece other : Piece (Given kind)) : Type 0 where
  runs : Runs kind piece
  same : (left : ℕ) → left < most → piece left ≡ other left

agree_itself : (kind : Kind) (most : ℕ) {piece : Piece (Given kind)} → Runs kind piece → Agree kind most piece piece
agree_itself kind most r = record { runs = r; same = λ left l. refl }

no_more : (kind : Kind) {piece : Piece (Given kind)} → Runs kind piece → (left : ℕ) → Leaves (λ k. k ≤ left) (piece left)
no_more kind {piece} r left = leaves_no_more kind left piece (run_comes (r.at left).is_run)

agree_then : (kind later : Kind) (most : ℕ) {piece other : Piece (Given kind)} {next after : Given kind → Piece (Given later)}
    → Agree kind most piece other → ((a : Given kind) → Agree later most (next a) (after a)) → Agree later most (◌>>=◌ piece next) (◌>>=◌ other after)
agree_then kind later most {piece} {other} {next} {after} p f = record {
  runs = runs_then kind later p.runs (λ a. (f a).runs);
  same = λ left l.
      same_then (λ k. k ≤ left) (piece left) (no_more kind p.runs left) (λ a k h. (f a).same k (omega arith))
      ∙ ap (λ (o : Outcome (Given kind)). then_do o after) (p.same left l);
}

-- what follows a piece that surely costs something need only agree below one less
agree_later : (kind later : Kind) (most : ℕ) {piece : Piece (Given kind)} {next after : Given kind → Piece (Given later)} → Runs kind piece
    → ((left : ℕ) → Leaves (λ k. k < left) (piece left)) → ((a : Given kind) → Agree later most (next a) (after a))
    → Agree later (suc most) (◌>>=◌ piece next) (◌>>=◌ piece after)
agree_later kind later most {piece} p less f = record {
  runs = runs_then kind later p (λ a. (f a).runs);
  same = λ left l. same_then (λ k. k < left) (piece left) (less left) (λ a k h. (f a).same k (omega arith));
}

agree_inside : (kind : Kind) (most : ℕ) (spawned : Bool) (mark : Option Mark) {piece other : Piece (Given kind)} → Agree kind most piece other
    → Agree kind most (as_one (λ tree. part_of spawned (marked mark tree)) piece) (as_one (λ tree. part_of spawned (marked mark tree)) other)
agree_inside kind most spawned mark p = record {
  runs = runs_inside kind spawned mark p.runs;
  same = λ left l. ap (joined_up (λ tree. part_of spawned (marked mark tree))) (p.same left l);
}

agree_onward : (most : ℕ) (exit : Completion) {next other : Frame → Piece Completion}
    → ((frame : Frame) → Agree OfStatement most (next frame) (other frame)) → Agree OfStatement most (onward exit next) (onward exit other)
agree_onward most (Normal frame) f = f frame
agree_onward most (ByReturn v frame) f = agree_itself OfStatement most (runs_nothing OfStatement (ByReturn v frame))

agree_scoped : (most : ℕ) (before : Frame) {piece other : Piece Completion} → Agree OfStatement most piece other → Agree OfStatement most (scoped before piece) (scoped before other)
agree_scoped most before p = agree_then OfStatement OfStatement most p (λ exit. agree_onward most exit (λ frame. agree_itself OfStatement most (runs_nothing OfStatement _)))

agree_if : (kind : Kind) (most : ℕ) (b : Bool) {p q p' q' : Piece (Given kind)} → Agree kind most p p' → Agree kind most q q' → Agree kind most (if b then p else q) (if b then p' else q')
agree_if kind most true a c = a
agree_if kind most false a c = c

agree_called : (most : ℕ) (call : CallKind) (site : ℕ) {piece other : Piece Returned} → Agree OfCall most piece other
    → Agree OfCall most (as_one (call_event call site) piece) (as_one (call_event call site) other)
agree_called most Plain site p = agree_inside OfCall most false (Some (Invocation site)) p
agree_called most Spawned site p = agree_inside OfCall most true (Some (Invocation site)) p

agree_started : (most : ℕ) (call : CallKind) {piece other : Piece Returned} → Agree OfCall most piece other → Agree OfCall most (as_one (start_event call) piece) (as_one (start_event call) other)
agree_started most Plain p = agree_inside OfCall most false None p
agree_started most Spawned p = agree_inside OfCall most true None p

-- after a value, and after instructions
agree_value : (later : Kind) (most : ℕ) (e : Evaluated) (line : ℕ) {next other : ℤ → Piece (Given later)}
    → ((v : ℤ) → Agree later most (next v) (other v)) → Agree later most (◌>>=◌ (pay_for e line) next) (◌>>=◌ (pay_for e line) other)
agree_value later most e line f = agree_then OfInt later most (agree_itself OfInt most (runs_value e line)) f

agree_paid : (later : Kind) (most k : ℕ) {next other : Unit {0} → Piece (Given later)}
    → ((done : Unit {0}) → Agree later most (next done) (other done)) → Agree later most (◌>>=◌ (pay k) next) (◌>>=◌ (pay k) other)
agree_paid later most k f = agree_then OfNothing later most (agree_itself OfNothing most (runs_pay k)) f

leaves_result : (r : Result) (line left : ℕ) → Leaves (λ k. k < left) (pay_for (done_at 1 r) line left)
leaves_result (Value v) line left = leaves_tested left 1 v (shows (works 1)) (λ k. k < left) (λ l. omega arith)
leaves_result (Fails trap) line left = leaves_trap ℤ (nat_lt left 1) trap line [] (λ k. k < left)

-- loops
agree_turns : (most bound : ℕ) (test : Frame → Evaluated) (line : ℕ) {body other : Frame → Piece Completion}
    → ((frame : Frame) → Agree OfStatement most (body frame) (other frame)) → (frame : Frame)
    → Agree OfStatement most (turns bound test line body frame) (turns bound test line other frame)
agree_turns most zero test line f frame = agree_itself OfStatement most (runs_over OfStatement)
agree_turns most (suc bound) test line f frame =
    agree_value OfStatement most (test frame) line (λ v. agree_paid OfStatement most 1 (λ _. agree_if OfStatement most (is_zero v) (agree_itself OfStatement most (runs_nothing OfStatement _))
    (agree_then OfStatement OfStatement most (f frame) (λ exit. agree_onward most exit (λ frame'. agree_paid OfStatement most 1 (λ _. agree_turns most bound test line f frame'))))))

agree_while : (most : ℕ) (test : Frame → Evaluated) (line : ℕ) {body other : Frame → Piece Completion}
    → ((frame : Frame) → Agree OfStatement most (body frame) (other frame)) → (frame : Frame)
    → Agree OfStatement most (λ left. turns (suc left) test line body frame left) (λ left. turns (suc left) test line other frame left)
agree_while most test line {body} {other} f frame = record {
  runs = runs_while test line body (λ frame'. (f frame').runs) frame;
  same = λ left l. (agree_turns most (suc left) test line f frame).same left l;
}

agree_leaf : (most n : ℕ) (from : ℤ) {body other : ℤ → Frame → Piece Frame}
    → ((i : ℤ) (frame : Frame) → Agree OfFrame most (body i frame) (other i frame)) → (frame : Frame)
    → Agree OfFrame most (leaf_turns n from body frame) (leaf_turns n from other frame)
agree_leaf most zero from f frame = agree_itself OfFrame most (runs_nothing OfFrame frame)
agree_leaf most (suc n) from f frame =
    agree_paid OfFrame most turn_start (λ _. agree_then OfFrame OfFrame most (f from frame) (λ frame'.
    agree_paid OfFrame most turn_end (λ _. agree_leaf most n (from +ℤ pos 1) f frame')))

agree_halves : (most depth grain k q n : ℕ) (from : ℤ) {body other : ℤ → Frame → Piece Frame}
    → ((i : ℤ) (frame : Frame) → Agree OfFrame most (body i frame) (other i frame)) → (frame : Frame)
    → Agree OfFrame most (halves depth grain k q n from body frame) (halves depth grain k q n from other frame)
agree_halves most zero grain k q n from f frame = agree_itself OfFrame most (runs_over OfFrame)
agree_halves most (suc depth) grain k q n from f frame =
    agree_if OfFrame most (nat_le n grain)
    (agree_paid OfFrame most leaf_start (λ _. agree_then OfFrame OfFrame most (agree_leaf most n from f frame) (λ frame'.
    agree_paid OfFrame most leaf_end (λ _. agree_itself OfFrame most (runs_nothing OfFrame frame')))))
    (agree_paid OfFrame most (node_start k q) (λ _.
    agree_then OfFrame OfFrame most (agree_inside OfFrame most true None (agree_halves most depth grain k q (n / 2) from f frame)) (λ frame'.
    agree_paid OfFrame most (node_call k) (λ _.
    agree_then OfFrame OfFrame most (agree_inside OfFrame most false None (agree_halves most depth grain k q (n - n / 2) (from +ℤ pos (n / 2)) f frame')) (λ frame''.
    agree_then OfNothing OfFrame most (agree_itself OfNothing most runs_join) (λ _.
    agree_paid OfFrame most (node_end q) (λ _. agree_itself OfFrame most (runs_nothing OfFrame frame''))))))))

module _ (fs : List Function) (most : ℕ) (calls other : Calls) (agree : (entry : Entry) (f : Function) (given : Frame) (line : ℕ)
    → Agree OfCall most (calls entry f given line) (other entry f given line)) where
  calls_run : (entry : Entry) (f : Function) (given : Frame) (line : ℕ) → Runs OfCall (calls entry f given line)
  calls_run entry f given line = (agree entry f given line).runs

  -- a statement with no block and no call in it
  agree_alone : (s : Stmt) (line : ℕ) (frame : Frame) → run s line fs calls frame ≡ run s line fs other frame → Agree OfStatement (suc most) (run s line fs calls frame) (run s line fs other frame)
  agree_alone s line frame e = record {
    runs = runs_stmt fs calls calls_run s line frame;
    same = λ left l. ap (λ (p : Piece Completion). p left) e;
  }

  mutual
    agree_stmt : (s : Stmt) (line : ℕ) (frame : Frame) → Agree OfStatement (suc most) (run s line fs calls frame) (run s line fs other frame)
    agree_stmt (Declare x e) line frame = agree_alone (Declare x e) line frame refl
    agree_stmt (DeclareArray a e) line frame = agree_alone (DeclareArray a e) line frame refl
    agree_stmt (Assign x e) line frame = agree_alone (Assign x e) line frame refl
    agree_stmt (AssignElement a i e) line frame = agree_alone (AssignElement a i e) line frame refl
    agree_stmt (Reduce how s e) line frame = agree_alone (Reduce how s e) line frame refl
    agree_stmt (Call kind site target callee es) line frame =
        agree_then OfFrame OfStatement (suc most) (agree_itself OfFrame (suc most) (runs_arguments (function_named callee fs).params es frame line no_frame)) (λ given.
        agree_later OfNothing OfStatement most (runs_pay 1) leaves_pay (λ _.
        agree_then OfCall OfStatement most (agree_called most kind site (agree Deeper (function_named callee fs) given line)) (λ returned. agree_itself OfStatement most (runs_nothing OfStatement _))))
    agree_stmt (Start kind callee es) line frame =
        agree_then OfFrame OfStatement (suc most) (agree_itself OfFrame (suc most) (runs_arguments (function_named callee fs).params es frame line no_frame)) (λ given.
        agree_later OfNothing OfStatement most (runs_pay 1) leaves_pay (λ _.
        agree_then OfCall OfStatement most (agree_started most kind (agree SameDepth (function_named callee fs) given line)) (λ returned. agree_itself OfStatement most (runs_nothing OfStatement _))))
    agree_stmt (Begin callee from to captured over) line frame =
        agree_value OfStatement (suc most) _ line (λ lo. agree_value OfStatement (suc most) _ line (λ hi. agree_paid OfStatement (suc most) _ (λ _.
        agree_later OfInt OfStatement most (runs_value _ line) (leaves_result _ line) (λ n.
        agree_then OfCall OfStatement most (agree_inside OfCall most false None (agree SameDepth (function_named callee fs) _ line))
        (λ returned. agree_itself OfStatement most (runs_nothing OfStatement _))))))
    agree_stmt Sync line frame = agree_alone Sync line frame refl
    agree_stmt (If e b) line frame =
        agree_value OfStatement (suc most) _ line (λ v. agree_paid OfStatement (suc most) 1 (λ _.
        agree_if OfStatement (suc most) (is_zero v) (agree_itself OfStatement (suc most) (runs_nothing OfStatement _)) (agree_scoped (suc most) frame (agree_block b frame))))
    agree_stmt (IfElse e b c) line frame =
        agree_value OfStatement (suc most) _ line (λ v. agree_paid OfStatement (suc most) 1 (λ _.
        agree_if OfStatement (suc most) (is_zero v) (agree_scoped (suc most) frame (agree_block c frame))
        (agree_then OfStatement OfStatement (suc most) (agree_scoped (suc most) frame (agree_block b frame)) (λ exit.
        agree_onward (suc most) exit (λ frame'. agree_paid OfStatement (suc most) 1 (λ _. agree_itself OfStatement (suc most) (runs_nothing OfStatement _)))))))
    agree_stmt (While e b) line frame = agree_while (suc most) (evaluate e) line (λ frame'. agree_scoped (suc most) frame' (agree_block b frame')) frame
    agree_stmt (For x y z from to grain over b) line frame =
        agree_value OfStatement (suc most) _ line (λ lo. agree_value OfStatement (suc most) _ line (λ hi. agree_paid OfStatement (suc most) _ (λ _. agree_value OfStatement (suc most) _ line (λ n.
        agree_then OfFrame OfStatement (suc most)
        (agree_inside OfFrame (suc most) false None (agree_halves (suc most) (suc (natural n)) grain (length (captured x b)) (length over) (natural n) lo (λ i now.
        agree_then OfStatement OfFrame (suc most) (agree_inside OfStatement (suc most) false None
        (agree_block b (inside_loop over (new_int x i now)))) (λ exit. agree_itself OfFrame (suc most) (runs_nothing OfFrame (leave now (frame_of exit))))) frame))
        (λ frame'. agree_itself OfStatement (suc most) (runs_nothing OfStatement _))))))
    agree_stmt (Scope b) line frame =
        agree_paid OfStatement (suc most) 1 (λ _. agree_then OfStatement OfStatement (suc most)
        (agree_inside OfStatement (suc most) false None (agree_scoped (suc most) frame (agree_block b frame))) (λ exit.
        agree_onward (suc most) exit (λ frame'. agree_paid OfStatement (suc most) 1 (λ _. agree_itself OfStatement (suc most) (runs_nothing OfStatement _)))))
    agree_stmt (Cut a e l r b) line frame =
        agree_value OfStatement (suc most) _ line (λ v. agree_then OfStatement OfStatement (suc most)
        (agree_inside OfStatement (suc most) false None (agree_scoped (suc most) _ (agree_block b _))) (λ exit.
        agree_onward (suc most) exit (λ frame'. agree_paid OfStatement (suc most) 1 (λ _. agree_itself OfStatement (suc most) (runs_nothing OfStatement _)))))
    agree_stmt (Region tag b) line frame =
        agree_paid OfStatement (suc most) 1 (λ _. agree_then OfStatement OfStatement (suc most)
        (agree_inside OfStatement (suc most) false (Some (Execution tag)) (agree_scoped (suc most) frame (agree_block b frame))) (λ exit.
        agree_onward (suc most) exit (λ frame'. agree_paid OfStatement (suc most) 1 (λ _. agree_itself OfStatement (suc most) (runs_nothing OfStatement _)))))
    agree_stmt (Print e) line frame = agree_alone (Print e) line frame refl
    agree_stmt (Return None) line frame = agree_alone (Return None) line frame refl
    agree_stmt (Return (Some e)) line frame = agree_alone (Return (Some e)) line frame refl

    agree_block : (b : Block) (frame : Frame) → Agree OfStatement (suc most) (run_all b fs calls frame) (run_all b fs other frame)
    agree_block End frame = agree_itself OfStatement (suc most) (runs_nothing OfStatement _)
    agree_block (Then line s b) frame = agree_then OfStatement OfStatement (suc most) (agree_stmt s line frame) (λ exit. agree_onward (suc most) exit (λ frame'. agree_block b frame'))

calls_agree : (most bound higher depth : ℕ) (fs : List Function) (entry : Entry) (f : Function) (given : Frame) (line : ℕ) → most ≤ bound
    → most ≤ higher → Agree OfCall most (call bound depth fs entry f given line) (call higher depth fs entry f given line)
unfolding call
calls_agree zero bound higher depth fs entry f given line l m = record { runs = runs_call bound depth fs entry f given line; same = λ left h. absurd (omega arith) }
calls_agree (suc most) zero higher depth fs entry f given line l m = absurd (omega arith)
calls_agree (suc most) (suc bound) zero depth fs entry f given line l m = absurd (omega arith)
calls_agree (suc most) (suc bound) (suc higher) depth fs entry f given line l m =
    agree_if OfCall (suc most) (nat_lt MOST_DEPTH (depth_of entry depth)) (agree_itself OfCall (suc most) (runs_trap OfCall _ line))
    (agree_then OfStatement OfCall (suc most)
    (agree_block fs most (λ e g given' line' left. call bound (depth_of entry depth) fs e g given' line' left) (λ e g given' line' left. call higher (depth_of entry depth) fs e g given' line' left)
    (λ e g given' line'. calls_agree most bound higher (depth_of entry depth) fs e g given' line' (omega arith) (omega arith)) f.body given)
    (λ exit. agree_itself OfCall (suc most) (runs_end exit)))

-- a call within a budget that is below both bounds
pub bounds_agree : (bound higher depth : ℕ) (fs : List Function) (entry : Entry) (f : Function) (given : Frame) (line left : ℕ) → left < bound
    → left < higher → call bound depth fs entry f given line left ≡ call higher depth fs entry f given line left
bounds_agree bound higher depth fs entry f given line left l m =
    (calls_agree (suc left) bound higher depth fs entry f given line (omega arith) (omega arith)).same left (omega arith)
