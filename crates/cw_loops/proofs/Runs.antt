-- The statements of a generated function, with an equation for the execution of each.
use Rattle.std.proofs.Common.{◌≡◌, ℕ, suc, ◌+◌, true, false, ℤ, List, refl, ◌∙◌}
use Rattle.std.specs.Prelude.{nat_lt, if◌then◌else◌}
use Rattle.cw_model.specs.declared.limits.TheConstants.{MOST_DEPTH}
use Rattle.cw_model.specs.Ints.{is_zero}
use Rattle.cw_model.specs.Syntax.{Name, Expr, Stmt, Declare, Assign, IfElse, Block, Then, Function}
use Rattle.cw_model.specs.Frames.{Frame, new_int, set_int}
use Rattle.cw_model.specs.Expressions.{Evaluated, Gives, evaluate}
use Rattle.cw_model.specs.Outcome.{quiet, Outcome, Done, Trapped, Over, then_do, Piece, ◌>>=◌, pay, pay_for}
use Rattle.cw_model.specs.Meaning.{Completion, Normal, ByReturn, onward, going, scoped, SameDepth, Calls, turns, run, run_all, end_of_call, call}
use Rattle.cw_loops.specs.Lowered.{on_line}
use Rattle.cw_loops.proofs.Alike.{then_then, then_gives, value_pays, pay_pay, after_quiet}
use Rattle.cw_loops.specs.lemmas.Outcomes.{then_same}

-- a value, one instruction, and the continuation
value_and_pay : {A : Type 0} (e : Evaluated) (v : ℤ) (k line left : ℕ) (go : ℤ → ℕ → Outcome A) → e ≡ Gives v k →
    then_do (pay_for e line left) (λ v l. then_do (pay 1 l) (λ _ l. go v l)) ≡ then_do (pay (k + 1) left) (λ _ l. go v l)
value_and_pay e v k line left go h = rw h (value_pays v k line left (λ v l. then_do (pay 1 l) (λ _ l. go v l)) ∙ pay_pay k 1 left (λ _ l. go v l))

pub declare_runs : (y : Name) (e : Expr) (v : ℤ) (k line left : ℕ) (fs : List Function) (calls : Calls) (frame : Frame) → evaluate e frame ≡ Gives v k →
    run (Declare y e) line fs calls frame left ≡ then_do (pay (k + 1) left) (λ _ l. Done (Normal (new_int y v frame)) l quiet)
declare_runs y e v k line left fs calls frame h = value_and_pay (evaluate e frame) v k line left (λ v l. Done (Normal (new_int y v frame)) l quiet) h

pub assign_runs : (y : Name) (e : Expr) (v : ℤ) (k line left : ℕ) (fs : List Function) (calls : Calls) (frame : Frame) → evaluate e frame ≡ Gives v k →
    run (Assign y e) line fs calls frame left ≡ then_do (pay (k + 1) left) (λ _ l. Done (Normal (set_int y v frame)) l quiet)
assign_runs y e v k line left fs calls frame h = value_and_pay (evaluate e frame) v k line left (λ v l. Done (Normal (set_int y v frame)) l quiet) h

-- a block of one statement executes the statement
pub one_line : (line : ℕ) (s : Stmt) (fs : List Function) (calls : Calls) (frame : Frame) (left : ℕ) → run_all (on_line line s) fs calls frame left ≡ run s line fs calls frame left
one_line line s fs calls frame left = go (run s line fs calls frame left)
  where
    by_way : (way : Completion) (l : ℕ) → onward way (λ frame'. going frame') l ≡ Done way l quiet
    by_way (Normal frame') l = refl
    by_way (ByReturn v frame') l = refl

    go : (o : Outcome Completion) → then_do o (λ way l. onward way (λ frame'. going frame') l) ≡ o
    go (Done way l t) = rw (by_way way l) (then_gives (Done way l t))
    go (Trapped trap line lines) = refl
    go Over = refl

-- a statement that only pays, and the rest of its block
pub and_rest : (line : ℕ) (s : Stmt) (b : Block) (fs : List Function) (calls : Calls) (frame frame' : Frame) (cost left : ℕ) →
    run s line fs calls frame left ≡ then_do (pay cost left) (λ _ l. Done (Normal frame') l quiet) →
    run_all (Then line s b) fs calls frame left ≡ then_do (pay cost left) (λ _ l. run_all b fs calls frame' l)
and_rest line s b fs calls frame frame' cost left e =
    rw e (then_then (pay cost left) (λ _ l. Done (Normal frame') l quiet) (λ way l. onward way (λ frame'. run_all b fs calls frame') l)
    ∙ then_same (pay cost left) _ _ (λ _ l. after_quiet (run_all b fs calls frame' l)))

pub then_taken : (e : Expr) (b c : Block) (v : ℤ) (k line left : ℕ) (fs : List Function) (calls : Calls) (frame : Frame) → evaluate e frame ≡ Gives v k → is_zero v ≡ false →
    run (IfElse e b c) line fs calls frame left
    ≡ then_do (pay (k + 1) left) (λ _ l. then_do (scoped frame (run_all b fs calls frame) l) (λ way l. onward way (λ frame' l. then_do (pay 1 l) (λ _ l. Done (Normal frame') l quiet)) l))
then_taken e b c v k line left fs calls frame h z =
    value_and_pay (evaluate e frame) v k line left (λ v l. (if is_zero v then scoped frame (run_all c fs calls frame)
    else ◌>>=◌ (scoped frame (run_all b fs calls frame)) (λ way. onward way (λ frame'. ◌>>=◌ (pay 1) (λ _. going frame')))) l) h ∙ rw z refl

pub else_taken : (e : Expr) (b c : Block) (v : ℤ) (k line left : ℕ) (fs : List Function) (calls : Calls) (frame : Frame) → evaluate e frame ≡ Gives v k → is_zero v ≡ true →
    run (IfElse e b c) line fs calls frame left ≡ then_do (pay (k + 1) left) (λ _ l. scoped frame (run_all c fs calls frame) l)
else_taken e b c v k line left fs calls frame h z =
    value_and_pay (evaluate e frame) v k line left (λ v l. (if is_zero v then scoped frame (run_all c fs calls frame)
    else ◌>>=◌ (scoped frame (run_all b fs calls frame)) (λ way. onward way (λ frame'. ◌>>=◌ (pay 1) (λ _. going frame')))) l) h ∙ rw z refl

pub one_more_turn : (bound : ℕ) (test : Frame → Evaluated) (line : ℕ) (body : Frame → Piece Completion) (frame : Frame) (left k : ℕ) (v : ℤ) → test frame ≡ Gives v k → is_zero v ≡ false →
    turns (suc bound) test line body frame left
    ≡ then_do (pay (k + 1) left) (λ _ l. then_do (body frame l) (λ way l. onward way (λ frame' l. then_do (pay 1 l) (λ _ l. turns bound test line body frame' l)) l))
one_more_turn bound test line body frame left k v h z =
    value_and_pay (test frame) v k line left (λ v l. (if is_zero v then going frame
    else ◌>>=◌ (body frame) (λ way. onward way (λ frame'. ◌>>=◌ (pay 1) (λ _. turns bound test line body frame')))) l) h ∙ rw z refl

pub no_more_turn : (bound : ℕ) (test : Frame → Evaluated) (line : ℕ) (body : Frame → Piece Completion) (frame : Frame) (left k : ℕ) (v : ℤ) → test frame ≡ Gives v k → is_zero v ≡ true →
    turns (suc bound) test line body frame left ≡ then_do (pay (k + 1) left) (λ _ l. Done (Normal frame) l quiet)
no_more_turn bound test line body frame left k v h z =
    value_and_pay (test frame) v k line left (λ v l. (if is_zero v then going frame
    else ◌>>=◌ (body frame) (λ way. onward way (λ frame'. ◌>>=◌ (pay 1) (λ _. turns bound test line body frame')))) l) h ∙ rw z refl

pub call_runs : (bound depth : ℕ) (fs : List Function) (f : Function) (given : Frame) (line left : ℕ) → nat_lt MOST_DEPTH depth ≡ false →
    call (suc bound) depth fs SameDepth f given line left ≡ then_do (run_all f.body fs (call bound depth fs) given left) (λ way l. end_of_call way l)
unfolding call
call_runs bound depth fs f given line left e = rw e refl
