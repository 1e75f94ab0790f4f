-- Each call of the model is a run of a frame, whatever the limit. The runs are found step by step, so that they compute.
use Rattle.std.specs.Prelude.{◌≡◌, ℕ, zero, suc, ℤ, pos, ◌-◌, ◌/◌, ◌<◌, ◌≤◌, ◌+ℤ◌, nat_lt, nat_le, if◌then◌else◌, Bool, true, false, List, [], ◌∷◌, length, Option, Some, None, refl}
use Rattle.std.proofs.Common.{sym, ap, subst, arith}
use Rattle.cw_facts.specs.Tests.{not_lt_of}
use Rattle.cw_model.specs.declared.trap.Trap.{Trap}
use Rattle.cw_model.specs.declared.syntax.CallKind.{CallKind}
use Rattle.cw_model.specs.declared.syntax.CallKind.TheVariants.{Plain, Spawned}
use Rattle.cw_model.specs.Captured.{captured}
use Rattle.cw_model.specs.Ints.{is_zero, natural}
use Rattle.cw_model.specs.declared.limits.TheConstants.{MOST_DEPTH}
use Rattle.cw_model.specs.Syntax.{Expr, Stmt, Declare, DeclareArray, Assign, AssignElement, Reduce, Call, Start, Begin, Sync, If, IfElse, While}
use Rattle.cw_model.specs.Syntax.{For, Scope, Cut, Region, Print, Return, Block, End, Then, Param, Function, is_array_param}
use Rattle.cw_model.specs.Trees.{Mark, Invocation, Execution, Join, works}
use Rattle.cw_model.specs.Frames.{Frame, no_frame, leave, inside_loop, new_array, new_int}
use Rattle.cw_model.specs.Expressions.{Evaluated, Gives, Traps, evaluate}
use Rattle.cw_model.specs.Outcome.{Trace, shows, Outcome, Done, Piece, ◌>>=◌, then_do, gives, show, pay, pay_for, as_one}
use Rattle.cw_model.specs.Outcome as model
use Rattle.cw_model.specs.Loops.{turn_start, turn_end, leaf_start, leaf_end, node_start, node_call, node_end, leaf_turns, halves}
use Rattle.cw_model.specs.Meaning.{Completion, Normal, ByReturn, onward, frame_of, scoped, Returned, Entry, Deeper, SameDepth, Calls, function_named}
use Rattle.cw_model.specs.Meaning.{given_array, arguments, call_event, start_event, turns, run, run_all, end_of_call, call, depth_of}
use Rattle.cw_measure.specs.OpenParts.{marked, part_of}
use Rattle.cw_part.specs.Parts.{Came}
use Rattle.cw_part.specs.Runs.{Run, cost}
use Rattle.cw_part.specs.PieceRuns.{Kind, OfNothing, OfInt, OfFrame, OfStatement, OfCall, Given, Exit, IsRunOf, Nothing, Free, Paid}
use Rattle.cw_part.specs.PieceRuns.{Valued, Failed, AtOnce, CutOff, Nested, Further, Stopped, Turns, HasRun, CallsAreRuns}
use Rattle.cw_part.proofs.PieceTellingLaws.{tested, Comes, Ending, Trapping, Passing, run_comes}

-- whatever the limit, the piece is a run
pub record Runs (kind : Kind) (piece : Piece (Given kind)) : Type 0 where
  pub at : (limit : ℕ) → HasRun kind limit piece

abbrev pub runs_then : (kind later : Kind) {piece : Piece (Given kind)} {next : Given kind → Piece (Given later)} → Runs kind piece
    → ((a : Given kind) → Runs later (next a)) → Runs later (◌>>=◌ piece next)
runs_then kind later {piece} {next} p f = record { at = λ limit. by_way limit (p.at limit).run (p.at limit).exit (p.at limit).is_run }
  where
    by_way : (limit : ℕ) (first : Run) (exit : Exit kind) → IsRunOf kind limit piece first exit → HasRun later limit (◌>>=◌ piece next)
    by_way limit first None d = record { run = first; exit = None; is_run = Stopped kind later limit piece next first d }
    by_way limit first (Some end) d =
        let rest = (f end.0).at end.1 in
        record { run = _; exit = rest.exit; is_run = Further kind later limit end.1 piece next first rest.run end.0 rest.exit d rest.is_run }

abbrev pub runs_nothing : (kind : Kind) (a : Given kind) → Runs kind (gives a)
runs_nothing kind a = record { at = λ limit. record { run = _; exit = _; is_run = Nothing kind limit a } }

abbrev pub runs_free : (t : Trace) → cost t ≡ 0 → Runs OfNothing (show t)
runs_free t e = record { at = λ limit. record { run = _; exit = _; is_run = Free limit t e } }

abbrev pub runs_join : Runs OfNothing (show (shows (Join ∷ [])))
runs_join = runs_free (shows (Join ∷ [])) refl

abbrev pub runs_over : (kind : Kind) → Runs kind (λ left. model.Over)
runs_over kind = record { at = λ limit. record { run = _; exit = _; is_run = CutOff kind limit } }

abbrev pub runs_trap : (kind : Kind) (trap : Trap) (line : ℕ) → Runs kind (λ left. model.Trapped trap line [])
runs_trap kind trap line = record { at = λ limit. record { run = _; exit = _; is_run = AtOnce kind limit line trap } }

abbrev pub runs_pay : (k : ℕ) → Runs OfNothing (pay k)
runs_pay k = record { at = λ limit. record { run = _; exit = _; is_run = Paid limit k } }

abbrev pub runs_value : (e : Evaluated) (line : ℕ) → Runs OfInt (pay_for e line)
runs_value (Gives v k) line = record { at = λ limit. record { run = _; exit = _; is_run = Valued limit line v k } }
runs_value (Traps trap k) line = record { at = λ limit. record { run = _; exit = _; is_run = Failed limit line trap k } }

abbrev pub runs_inside : (kind : Kind) (spawned : Bool) (mark : Option Mark) {piece : Piece (Given kind)} → Runs kind piece → Runs kind (as_one (λ tree. part_of spawned (marked mark tree)) piece)
runs_inside kind spawned mark {piece} p = record {
  at = λ limit.
      let inner = p.at limit in
      record { run = _; exit = inner.exit; is_run = Nested kind limit spawned mark piece inner.run inner.exit inner.is_run };
}

abbrev pub runs_onward : (exit : Completion) (next : Frame → Piece Completion) → ((frame : Frame) → Runs OfStatement (next frame)) → Runs OfStatement (onward exit next)
runs_onward (Normal frame) next f = f frame
runs_onward (ByReturn v frame) next f = runs_nothing OfStatement (ByReturn v frame)

abbrev pub runs_scoped : (before : Frame) {piece : Piece Completion} → Runs OfStatement piece → Runs OfStatement (scoped before piece)
runs_scoped before p = runs_then OfStatement OfStatement p (λ exit. runs_onward exit _ (λ frame. runs_nothing OfStatement _))

abbrev pub runs_if : (kind : Kind) {piece other : Piece (Given kind)} (b : Bool) → Runs kind piece → Runs kind other → Runs kind (if b then piece else other)
runs_if kind true p q = p
runs_if kind false p q = q

abbrev pub runs_called : (call : CallKind) (site : ℕ) {piece : Piece Returned} → Runs OfCall piece → Runs OfCall (as_one (call_event call site) piece)
runs_called Plain site p = runs_inside OfCall false (Some (Invocation site)) p
runs_called Spawned site p = runs_inside OfCall true (Some (Invocation site)) p

abbrev pub runs_started : (call : CallKind) {piece : Piece Returned} → Runs OfCall piece → Runs OfCall (as_one (start_event call) piece)
runs_started Plain p = runs_inside OfCall false None p
runs_started Spawned p = runs_inside OfCall true None p

abbrev pub runs_arguments : (ps : List Param) (es : List Expr) (frame : Frame) (line : ℕ) (given : Frame) → Runs OfFrame (arguments ps es frame line given)
runs_arguments [] es frame line given = runs_nothing OfFrame given
runs_arguments (p ∷ ps) [] frame line given = runs_nothing OfFrame given
runs_arguments (p ∷ ps) (e ∷ es) frame line given =
    runs_if OfFrame (is_array_param p) (runs_arguments ps es frame line (new_array p.name (given_array e frame) given))
    (runs_then OfInt OfFrame (runs_value (evaluate e frame) line) (λ v. runs_arguments ps es frame line (new_int p.name v given)))

abbrev pub runs_turns : (bound : ℕ) (test : Frame → Evaluated) (line : ℕ) (body : Frame → Piece Completion)
    → ((frame : Frame) → Runs OfStatement (body frame)) → (frame : Frame) → Runs OfStatement (turns bound test line body frame)
runs_turns zero test line body f frame = runs_over OfStatement
runs_turns (suc bound) test line body f frame =
    runs_then OfInt OfStatement (runs_value (test frame) line) (λ v. runs_then OfNothing OfStatement (runs_pay 1) (λ _. runs_if OfStatement (is_zero v) (runs_nothing OfStatement _)
    (runs_then OfStatement OfStatement (f frame) (λ exit. runs_onward exit _ (λ frame'. runs_then OfNothing OfStatement (runs_pay 1) (λ _. runs_turns bound test line body f frame'))))))

-- what an outcome leaves, where it is done
abbrev pub Leaves : {A : Type 0} → (ℕ → Type 0) → Outcome A → Type 0
Leaves P (Done a left t) = P left
Leaves P (model.Trapped trap line lines) = Unit {0}
Leaves P model.Over = Unit {0}

pub leaves_tested : {A : Type 0} (n k : ℕ) (a : A) (t : Trace) (P : ℕ → Type 0) → (k ≤ n → P (n - k)) → Leaves P (tested n k (λ m. Done a m t))
leaves_tested {A} n k a t P f = by_test (nat_lt n k) refl
  where
    by_test : (b : Bool) → nat_lt n k ≡ b → Leaves {A = A} P (if b then model.Over else Done a (n - k) t)
    by_test true e = tt
    by_test false e = f (not_lt_of n k e)

pub leaves_trap : (A : Type 0) (b : Bool) (trap : Trap) (line : ℕ) (lines : List ℤ) (P : ℕ → Type 0) → Leaves {A = A} P (if b then model.Over else model.Trapped trap line lines)
leaves_trap A true trap line lines P = tt
leaves_trap A false trap line lines P = tt

leaves_value : (e : Evaluated) (line n : ℕ) → Leaves (λ k. k ≤ n) (pay_for e line n)
leaves_value (Gives v k) line n = leaves_tested n k v (shows (works k)) (λ m. m ≤ n) (λ l. omega arith)
leaves_value (Traps trap k) line n = leaves_trap ℤ (nat_lt n k) trap line [] (λ m. m ≤ n)

pub leaves_pay : (n : ℕ) → Leaves (λ k. k < n) (pay 1 n)
leaves_pay n = leaves_tested n 1 tt (shows (works 1)) (λ m. m < n) (λ l. omega arith)

pub leaves_no_more : (kind : Kind) (n : ℕ) (piece : Piece (Given kind)) {exit : Exit kind} {x : Came Trace} → Comes kind n piece exit x → Leaves (λ k. k ≤ n) (piece n)
leaves_no_more kind n piece (Ending a left t e f) =
    subst (Leaves (λ k. k ≤ n)) (sym (f n (omega arith))) (leaves_tested n (cost t) a t (λ k. k ≤ n) (λ l. omega arith))
leaves_no_more kind n piece (Trapping trap line t f) = subst (Leaves (λ k. k ≤ n)) (sym (f n (omega arith))) (leaves_trap (Given kind) (nat_lt n (cost t)) trap line t.lines (λ k. k ≤ n))
leaves_no_more kind n piece (Passing t d f) = subst (Leaves (λ k. k ≤ n)) (sym (f n (omega arith))) tt

pub same_then : {A B : Type 0} {next other : A → Piece B} (P : ℕ → Type 0) (o : Outcome A) → Leaves P o → ((a : A) (left : ℕ) → P left → next a left ≡ other a left) → then_do o next ≡ then_do o other
same_then P (Done a left t) h f = ap (model.after t) (f a left h)
same_then P (model.Trapped trap line lines) h f = refl
same_then P model.Over h f = refl

-- any bound above the budget allows the same turns
pub same_turns : (bound other left : ℕ) (test : Frame → Evaluated) (line : ℕ) (body : Frame → Piece Completion)
    → ((frame : Frame) → Runs OfStatement (body frame)) → (frame : Frame) → left < bound → left < other
    → turns bound test line body frame left ≡ turns other test line body frame left
same_turns zero other left test line body f frame l m = absurd (omega arith)
same_turns (suc bound) zero left test line body f frame l m = absurd (omega arith)
same_turns (suc bound) (suc other) left test line body f frame l m =
    same_then (λ k. k ≤ left) (pay_for (test frame) line left) (leaves_value (test frame) line left) (λ v n h.
    same_then (λ k. k < n) (pay 1 n) (leaves_pay n) (λ _ k i.
    by_test (λ frame' j h. same_turns bound other j test line body f frame' (omega arith) (omega arith)) (is_zero v) k (omega arith)))
  where
    IsSame : Type 0
    IsSame = (frame' : Frame) (j : ℕ) → j < left → turns bound test line body frame' j ≡ turns other test line body frame' j

    by_way : IsSame → (exit : Completion) (k : ℕ) → k < left → onward exit (λ frame'. ◌>>=◌ (pay 1) (λ _. turns bound test line body frame')) k
        ≡ onward exit (λ frame'. ◌>>=◌ (pay 1) (λ _. turns other test line body frame')) k
    by_way same (ByReturn v frame') k h = refl
    by_way same (Normal frame') k h = same_then (λ n. n < k) (pay 1 k) (leaves_pay k) (λ _ n i. same frame' n (omega arith))

    by_test : IsSame → (b : Bool) (k : ℕ) → k < left
        → (if b then gives (Normal frame) else (◌>>=◌ (body frame) (λ exit. onward exit (λ frame'. ◌>>=◌ (pay 1) (λ _. turns bound test line body frame'))))) k
        ≡ (if b then gives (Normal frame) else (◌>>=◌ (body frame) (λ exit. onward exit (λ frame'. ◌>>=◌ (pay 1) (λ _. turns other test line body frame'))))) k
    by_test same true k h = refl
    by_test same false k h = same_then (λ n. n ≤ k) (body frame k) (leaves_no_more OfStatement k (body frame) (run_comes ((f frame).at k).is_run)) (λ exit n i. by_way same exit n (omega arith))

abbrev pub runs_while : (test : Frame → Evaluated) (line : ℕ) (body : Frame → Piece Completion) → ((frame : Frame) → Runs OfStatement (body frame))
    → (frame : Frame) → Runs OfStatement (λ left. turns (suc left) test line body frame left)
runs_while test line body f frame = record {
  at = λ limit.
      let all = (runs_turns (suc limit) test line body f frame).at limit in
      record {
        run = all.run;
        exit = all.exit;
        is_run = Turns limit line test body frame all.run all.exit
            (λ left l. same_turns (suc left) (suc limit) left test line body f frame (omega arith) (omega arith)) all.is_run;
      };
}

abbrev pub runs_leaf : (n : ℕ) (from : ℤ) (body : ℤ → Frame → Piece Frame) → ((i : ℤ) (frame : Frame) → Runs OfFrame (body i frame)) → (frame : Frame) → Runs OfFrame (leaf_turns n from body frame)
runs_leaf zero from body f frame = runs_nothing OfFrame frame
runs_leaf (suc n) from body f frame =
    runs_then OfNothing OfFrame (runs_pay turn_start) (λ _. runs_then OfFrame OfFrame (f from frame) (λ frame'.
    runs_then OfNothing OfFrame (runs_pay turn_end) (λ _. runs_leaf n (from +ℤ pos 1) body f frame')))

abbrev pub runs_halves : (depth grain k q n : ℕ) (from : ℤ) (body : ℤ → Frame → Piece Frame)
    → ((i : ℤ) (frame : Frame) → Runs OfFrame (body i frame)) → (frame : Frame) → Runs OfFrame (halves depth grain k q n from body frame)
runs_halves zero grain k q n from body f frame = runs_over OfFrame
runs_halves (suc depth) grain k q n from body f frame =
    runs_if OfFrame (nat_le n grain)
    (runs_then OfNothing OfFrame (runs_pay leaf_start) (λ _. runs_then OfFrame OfFrame (runs_leaf n from body f frame)
    (λ frame'. runs_then OfNothing OfFrame (runs_pay leaf_end) (λ _. runs_nothing OfFrame frame'))))
    (runs_then OfNothing OfFrame (runs_pay (node_start k q)) (λ _.
    runs_then OfFrame OfFrame (runs_inside OfFrame true None (runs_halves depth grain k q (n / 2) from body f frame)) (λ frame'.
    runs_then OfNothing OfFrame (runs_pay (node_call k)) (λ _.
    runs_then OfFrame OfFrame (runs_inside OfFrame false None (runs_halves depth grain k q (n - n / 2) (from +ℤ pos (n / 2)) body f frame')) (λ frame''.
    runs_then OfNothing OfFrame runs_join (λ _.
    runs_then OfNothing OfFrame (runs_pay (node_end q)) (λ _. runs_nothing OfFrame frame'')))))))

-- what comes after a value, and after instructions
abbrev pub after_value : (later : Kind) {next : ℤ → Piece (Given later)} (e : Evaluated) (line : ℕ) → ((v : ℤ) → Runs later (next v)) → Runs later (◌>>=◌ (pay_for e line) next)
after_value later e line f = runs_then OfInt later (runs_value e line) f

abbrev pub after_pay : (later : Kind) {next : Unit {0} → Piece (Given later)} (k : ℕ) → ((done : Unit {0}) → Runs later (next done)) → Runs later (◌>>=◌ (pay k) next)
after_pay later k f = runs_then OfNothing later (runs_pay k) f

module _ (fs : List Function) (calls : Calls) (runs : (entry : Entry) (f : Function) (given : Frame) (line : ℕ) → Runs OfCall (calls entry f given line)) where
  abbrev mutual
    pub runs_stmt : (s : Stmt) (line : ℕ) (frame : Frame) → Runs OfStatement (run s line fs calls frame)
    runs_stmt (Declare x e) line frame = after_value OfStatement _ line (λ v. after_pay OfStatement 1 (λ _. runs_nothing OfStatement _))
    runs_stmt (DeclareArray a e) line frame = after_value OfStatement _ line (λ v. runs_nothing OfStatement _)
    runs_stmt (Assign x e) line frame = after_value OfStatement _ line (λ v. after_pay OfStatement 1 (λ _. runs_nothing OfStatement _))
    runs_stmt (AssignElement a i e) line frame = after_value OfStatement _ line (λ i. after_value OfStatement _ line (λ v. runs_nothing OfStatement _))
    runs_stmt (Reduce how s e) line frame =
        after_value OfStatement _ line (λ v. after_pay OfStatement 1
        (λ _. runs_then OfNothing OfStatement (runs_free (record { lines = []; updates = (s, v) ∷ []; events = [] }) refl) (λ _. runs_nothing OfStatement (Normal frame))))
    runs_stmt (Call kind site target callee es) line frame =
        runs_then OfFrame OfStatement (runs_arguments (function_named callee fs).params es frame line no_frame) (λ given. after_pay OfStatement 1
        (λ _. runs_then OfCall OfStatement (runs_called kind site (runs Deeper (function_named callee fs) given line)) (λ returned. runs_nothing OfStatement _)))
    runs_stmt (Start kind callee es) line frame =
        runs_then OfFrame OfStatement (runs_arguments (function_named callee fs).params es frame line no_frame) (λ given. after_pay OfStatement 1
        (λ _. runs_then OfCall OfStatement (runs_started kind (runs SameDepth (function_named callee fs) given line)) (λ returned. runs_nothing OfStatement _)))
    runs_stmt (Begin callee from to captured over) line frame =
        after_value OfStatement _ line (λ lo. after_value OfStatement _ line (λ hi. after_pay OfStatement _ (λ _. after_value OfStatement _ line (λ n.
        runs_then OfCall OfStatement (runs_inside OfCall false None (runs SameDepth (function_named callee fs) _ line)) (λ returned. runs_nothing OfStatement _)))))
    runs_stmt Sync line frame = runs_then OfNothing OfStatement runs_join (λ _. after_pay OfStatement 1 (λ _. runs_nothing OfStatement (Normal frame)))
    runs_stmt (If e b) line frame =
        after_value OfStatement _ line (λ v. after_pay OfStatement 1 (λ _. runs_if OfStatement (is_zero v) (runs_nothing OfStatement _) (runs_scoped frame (runs_block b frame))))
    runs_stmt (IfElse e b c) line frame =
        after_value OfStatement _ line (λ v. after_pay OfStatement 1 (λ _. runs_if OfStatement (is_zero v) (runs_scoped frame (runs_block c frame))
        (runs_then OfStatement OfStatement (runs_scoped frame (runs_block b frame)) (λ exit. runs_onward exit _ (λ frame'. after_pay OfStatement 1 (λ _. runs_nothing OfStatement _))))))
    runs_stmt (While e b) line frame = runs_while (evaluate e) line (λ frame'. scoped frame' (run_all b fs calls frame')) (λ frame'. runs_scoped frame' (runs_block b frame')) frame
    runs_stmt (For x y z from to grain over b) line frame =
        after_value OfStatement _ line (λ lo. after_value OfStatement _ line (λ hi. after_pay OfStatement _ (λ _. after_value OfStatement _ line (λ n.
        runs_then OfFrame OfStatement
        (runs_inside OfFrame false None (runs_halves (suc (natural n)) grain (length (captured x b)) (length over) (natural n) lo _ (λ i now.
        runs_then OfStatement OfFrame (runs_inside OfStatement false None (runs_block b (inside_loop over (new_int x i now)))) (λ exit. runs_nothing OfFrame (leave now (frame_of exit)))) frame))
        (λ frame'. runs_nothing OfStatement _)))))
    runs_stmt (Scope b) line frame =
        after_pay OfStatement 1 (λ _. runs_then OfStatement OfStatement (runs_inside OfStatement false None (runs_scoped frame (runs_block b frame))) (λ exit.
        runs_onward exit _ (λ frame'. after_pay OfStatement 1 (λ _. runs_nothing OfStatement _))))
    runs_stmt (Cut a e l r b) line frame =
        after_value OfStatement _ line (λ v. runs_then OfStatement OfStatement (runs_inside OfStatement false None (runs_scoped _ (runs_block b _))) (λ exit.
        runs_onward exit _ (λ frame'. after_pay OfStatement 1 (λ _. runs_nothing OfStatement _))))
    runs_stmt (Region tag b) line frame =
        after_pay OfStatement 1 (λ _. runs_then OfStatement OfStatement (runs_inside OfStatement false (Some (Execution tag)) (runs_scoped frame (runs_block b frame))) (λ exit.
        runs_onward exit _ (λ frame'. after_pay OfStatement 1 (λ _. runs_nothing OfStatement _))))
    runs_stmt (Print e) line frame =
        after_value OfStatement _ line (λ v. after_pay OfStatement 1
        (λ _. runs_then OfNothing OfStatement (runs_free (record { lines = v ∷ []; updates = []; events = [] }) refl) (λ _. runs_nothing OfStatement (Normal frame))))
    runs_stmt (Return None) line frame = runs_then OfNothing OfStatement runs_join (λ _. after_pay OfStatement 1 (λ _. runs_nothing OfStatement (ByReturn None frame)))
    runs_stmt (Return (Some e)) line frame =
        after_value OfStatement _ line (λ v. runs_then OfNothing OfStatement runs_join (λ _. after_pay OfStatement 1 (λ _. runs_nothing OfStatement (ByReturn (Some v) frame))))

    pub runs_block : (b : Block) (frame : Frame) → Runs OfStatement (run_all b fs calls frame)
    runs_block End frame = runs_nothing OfStatement _
    runs_block (Then line s b) frame = runs_then OfStatement OfStatement (runs_stmt s line frame) (λ exit. runs_onward exit _ (λ frame'. runs_block b frame'))

abbrev pub runs_end : (exit : Completion) → Runs OfCall (end_of_call exit)
runs_end (ByReturn v frame) = runs_nothing OfCall _
runs_end (Normal frame) = runs_then OfNothing OfCall runs_join (λ _. after_pay OfCall 1 (λ _. runs_nothing OfCall (None, frame)))

unfoldable pub runs_call : (bound depth : ℕ) (fs : List Function) (entry : Entry) (f : Function) (given : Frame) (line : ℕ) → Runs OfCall (call bound depth fs entry f given line)
unfolding call
runs_call zero depth fs entry f given line = runs_over OfCall
runs_call (suc bound) depth fs entry f given line =
    runs_if OfCall (nat_lt MOST_DEPTH (depth_of entry depth)) (runs_trap OfCall _ line)
    (runs_then OfStatement OfCall
    (runs_block fs (λ e g given' line' left. call bound (depth_of entry depth) fs e g given' line' left) (λ e g given' line'. runs_call bound (depth_of entry depth) fs e g given' line') f.body given)
    runs_end)

pub calls_are_runs : CallsAreRuns
calls_are_runs bound depth fs entry f given line limit = (runs_call bound depth fs entry f given line).at limit
