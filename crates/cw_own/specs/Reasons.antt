-- The broken rules of ownership, by slots: the first rule that each statement breaks, with its names, and the lines of
-- functions that break rules.
use Rattle.std.specs.Prelude.{ℕ, Bool, true, false, not, ◌&&◌, ◌||◌, if◌then◌else◌, List, [], ◌∷◌, ◌++◌}
use Rattle.std.specs.Prelude.{Option, Some, None, option_map, flat_map, take, Contains}
use Rattle.std.specs.Option.{option_or}
use Rattle.cw_model.specs.Ownership.{Closing, Joins, Leaves}
use Rattle.cw_tree.specs.Resolved.{Use, Listed, Expr, Number, Variable, Element, Length, Negative, Not, Binary, Argument}
use Rattle.cw_tree.specs.Resolved.{Int, Array, Shared, Stmt, Declare, DeclareArray, Assign, AssignElement, Reduce, Call}
use Rattle.cw_tree.specs.Resolved.{Sync, If, IfElse, While, For, Scope, Cut, Region, Print, Return, Head, Parts, Block}
use Rattle.cw_tree.specs.Resolved.{End, Then, Function, Resolved}
use Rattle.cw_text.specs.declared.reasons.TheConstants.{MOST_RECORDED}
use Rattle.cw_text.specs.Rising.{rising}
use Rattle.cw_own.specs.declared.reason.Touch.{Touch}
use Rattle.cw_own.specs.declared.reason.Touch.TheVariants as touch
use Rattle.cw_own.specs.declared.reason.Holder.{Holder}
use Rattle.cw_own.specs.declared.reason.Holder.TheVariants as holder
use Rattle.cw_own.specs.Sets.{Slots, no_slot, with_slot, Row, no_local, with_int}
use Rattle.cw_own.specs.Taken.{Taken, nothing, int_taken, inside, inside_cut, with_parts, known_after, taken_after}
use Rattle.cw_own.specs.Taken.{taken_after_all, with_params}
use Rattle.cw_own.specs.Rules.{Loop, with_uses, is_variable, given_away, at_end, seen_by}

-- a broken rule, with the names that break it and the line of the head of the enclosing loop
pub data Reason : Type 0 where
  -- a name is touched while it is held
  Restrictions : Use → Touch → Holder → Reason
  -- a name of a block is still held at the end of the block
  EndsHeld : Use → Holder → Reason
  -- a call gives one array away twice, or gives one away that it also reads
  GivenTwice : Use → (callee : Listed) → Reason
  GivenAndRead : Use → (callee : Listed) → Reason
  -- a loop is over the same array twice
  OverTwice : Use → Reason
  -- the body of a loop writes an outer integer, touches an outer array that is not an array of the loop, or touches an
  -- array of the loop other than at the loop's variable
  OuterWritten : Use → (head : ℕ) → Reason
  OuterArray : Use → Touch → (head : ℕ) → Reason
  OtherElement : Use → Touch → (variable : Use) → (head : ℕ) → Reason

-- the enclosing loop of a statement: the locals outside its body together with its variable, that variable, the arrays
-- of the loop, which the head of an inner loop must not name, and the line of the loop's head
pub record Turn : Type 0 where
  pub outer : Row
  pub variable : Use
  pub over : Slots
  pub in_head : Bool
  pub head : ℕ

-- the arrays of the loop that may be named here
abbrev pub named : Turn → Slots
named t = if t.in_head then no_slot else t.over

-- the loop in the form of the rules
abbrev pub loop_around : Turn → Loop
loop_around t = record { outer = t.outer; variable = t.variable.slot; over = named t }

-- the loop as the head of an inner loop sees it
abbrev pub head_in : Turn → Turn
head_in t =
    record { outer = t.outer; variable = t.variable; over = t.over; in_head = true; head = t.head }

-- the loop with this head in this line, if these locals are known before it
abbrev pub turn_in : (line : ℕ) → Head → Row → Turn
turn_in line head known = record {
  outer = with_int head.variable.slot known;
  variable = head.variable;
  over = with_uses head.over no_slot;
  in_head = false;
  head = line;
}

-- the holder that took an integer
abbrev pub int_holder : Taken → ℕ → Option Holder
int_holder taken slot = if int_taken taken slot then Some holder.Result else None

-- the holder that took an array
abbrev pub array_taker : Taken → ℕ → Option Holder
array_taker taken slot =
    if taken.outer.arrays slot || taken.here.arrays slot then Some holder.Argument
    else (if taken.cuts slot then Some holder.Cut else None)

-- the holder that only reads an array
abbrev pub array_reader : Taken → ℕ → Option Holder
array_reader taken slot = if taken.outer.frozen slot || taken.here.frozen slot then Some holder.Reader else None

-- the holder of an array
abbrev pub array_holder : Taken → ℕ → Option Holder
array_holder taken slot = option_or (array_taker taken slot) (array_reader taken slot)

-- the reason if a name is touched while it is held
abbrev pub held_by : Use → Touch → Option Holder → Option Reason
held_by u how None = None
held_by u how (Some h) = Some (Restrictions u how h)

-- the reason if an outer array is used in a way that the loop forbids
abbrev pub outside : Turn → Touch → Use → Reason
outside t how u = if t.over u.slot then OtherElement u how t.variable t.head else OuterArray u how t.head

-- the reason against indexing an array, if there is one: an outer array may be indexed only by the loop's variable, and
-- only if the loop is over it
abbrev pub why_index : Option Turn → Touch → Use → Expr → Option Reason
why_index None how u e = None
why_index (Some t) how u e =
    if (named t u.slot && is_variable t.variable.slot e) || not (t.outer.arrays u.slot) then None
    else Some (outside t how u)

-- the reason if an outer array is used as a whole
abbrev pub why_outer_array : Option Turn → Touch → Use → Option Reason
why_outer_array None how u = None
why_outer_array (Some t) how u = if t.outer.arrays u.slot then Some (outside t how u) else None

-- the reason if an outer integer is written
abbrev pub why_outer_int : Option Turn → Use → Option Reason
why_outer_int None u = None
why_outer_int (Some t) u = if t.outer.ints u.slot then Some (OuterWritten u t.head) else None

-- the reason if an integer is touched while it is taken
abbrev pub why_int : Taken → Touch → Use → Option Reason
why_int taken how u = held_by u how (int_holder taken u.slot)

-- the reason if an array is read while it is taken
abbrev pub why_taken : Taken → Use → Option Reason
why_taken taken u = held_by u touch.Read (array_taker taken u.slot)

-- the reason against reading an array as a whole, if there is one
abbrev pub why_lend : Option Turn → Taken → Use → Option Reason
why_lend around taken u = option_or (why_taken taken u) (why_outer_array around touch.Read u)

-- the reason against reading an expression, if there is one
abbrev pub why_read : Option Turn → Taken → Expr → Option Reason
why_read around taken (Number n) = None
why_read around taken (Variable u) = why_int taken touch.Read u
why_read around taken (Element u e) =
    option_or (option_or (why_taken taken u) (why_read around taken e)) (why_index around touch.Read u e)
why_read around taken (Length u) = why_lend around taken u
why_read around taken (Negative e) = why_read around taken e
why_read around taken (Not e) = why_read around taken e
why_read around taken (Binary operator d e) = option_or (why_read around taken d) (why_read around taken e)

-- the reason against writing an integer, if there is one
abbrev pub why_write : Option Turn → Taken → Use → Option Reason
why_write around taken u = option_or (why_int taken touch.Written u) (why_outer_int around u)

-- the reason against giving away or cutting an array, or naming it in `over`, if there is one
abbrev pub why_whole : Option Turn → Taken → Touch → Use → Option Reason
why_whole around taken how u =
    option_or (held_by u how (array_holder taken u.slot)) (why_outer_array around how u)

-- the reason against the target of a call, if there is one
abbrev pub why_target : Option Turn → Taken → Option Use → Option Reason
why_target around taken None = None
why_target around taken (Some u) = why_write around taken u

-- the reason against an argument, if there is one
abbrev pub why_argument : Option Turn → Taken → Argument → Option Reason
why_argument around taken (Int e) = why_read around taken e
why_argument around taken (Array u) = why_whole around taken touch.Passed u
why_argument around taken (Shared u) = why_lend around taken u

-- the reason against the first argument that breaks a rule
abbrev pub why_arguments : Option Turn → Taken → List Argument → Option Reason
why_arguments around taken [] = None
why_arguments around taken (e ∷ es) = option_or (why_argument around taken e) (why_arguments around taken es)

-- the reason against the expression of a return, if there is one
abbrev pub why_return : Option Turn → Taken → Option Expr → Option Reason
why_return around taken None = None
why_return around taken (Some e) = why_read around taken e

-- the reason if an array is given to this function twice, or is one of `seen`
abbrev pub why_twice : (callee : Listed) → Slots → List Argument → Option Reason
why_twice f seen [] = None
why_twice f seen (Int e ∷ es) = why_twice f seen es
why_twice f seen (Array u ∷ es) =
    if seen u.slot then Some (GivenTwice u f) else why_twice f (with_slot u.slot seen) es
why_twice f seen (Shared u ∷ es) = why_twice f seen es

-- the reason if this function reads one of the arrays that are given away
abbrev pub why_read_too : (callee : Listed) → (given : Slots) → List Argument → Option Reason
why_read_too f given [] = None
why_read_too f given (Int e ∷ es) = why_read_too f given es
why_read_too f given (Array u ∷ es) = why_read_too f given es
why_read_too f given (Shared u ∷ es) = if given u.slot then Some (GivenAndRead u f) else why_read_too f given es

-- the reason against a call, if there is one
abbrev pub why_call : Option Turn → Taken → Option Use → (callee : Listed) → List Argument → Option Reason
why_call around taken target f es =
    option_or
    (option_or (option_or (why_arguments around taken es) (why_target around taken target)) (why_twice f no_slot es))
    (why_read_too f (given_away es no_slot) es)

-- the reason if a loop is over an array twice, or over one of `seen`
abbrev pub why_over_twice : Slots → List Use → Option Reason
why_over_twice seen [] = None
why_over_twice seen (u ∷ us) =
    if seen u.slot then Some (OverTwice u) else why_over_twice (with_slot u.slot seen) us

-- the reason against the first of these arrays that must not be named in `over`
abbrev pub why_over : Option Turn → Taken → List Use → Option Reason
why_over around taken [] = None
why_over around taken (u ∷ us) =
    option_or (why_whole around taken touch.NamedInOver u) (why_over around taken us)

-- the reason against the head of a loop, if there is one; `inner` is the enclosing loop as the head sees it
abbrev pub why_in_head : Option Turn → Taken → Head → Option Reason
why_in_head inner taken head =
    option_or
    (option_or (option_or (why_read inner taken head.from) (why_read inner taken head.to))
    (why_over inner taken head.over))
    (why_over_twice no_slot head.over)

-- the reason against the head of a loop, if there is one
abbrev pub why_head : Option Turn → Taken → Head → Option Reason
why_head around taken head = why_in_head (option_map head_in around) taken head

-- the reason against a cut, if there is one
abbrev pub why_cut : Option Turn → Taken → Parts → Option Reason
why_cut around taken parts =
    option_or (why_read around taken parts.at) (why_whole around taken touch.Cut parts.array)

-- the reason against a write to an element, if there is one: first against the written array, then against the
-- expressions that are read
abbrev pub why_element : Option Turn → Taken → Use → (index value : Expr) → Option Reason
why_element around taken u i e =
    option_or
    (option_or (option_or (held_by u touch.Written (array_holder taken u.slot)) (why_index around touch.Written u i))
    (why_read around taken i))
    (why_read around taken e)

-- the first rule that a statement breaks, apart from its inner blocks
abbrev pub why : Option Turn → Taken → Stmt → Option Reason
why around taken (Declare u e) = why_read around taken e
why around taken (DeclareArray u e) = why_read around taken e
why around taken (Assign u e) = option_or (why_read around taken e) (why_write around taken u)
why around taken (AssignElement u i e) = why_element around taken u i e
why around taken (Reduce how s e) = why_read around taken e
why around taken (Call kind site target f es) = why_call around taken target f es
why around taken Sync = None
why around taken (If e b) = why_read around taken e
why around taken (IfElse e b c) = why_read around taken e
why around taken (While e b) = why_read around taken e
why around taken (For head b) = why_head around taken head
why around taken (Scope b) = None
why around taken (Cut parts b) = why_cut around taken parts
why around taken (Region tag b) = None
why around taken (Print e) = why_read around taken e
why around taken (Return e) = why_return around taken e

-- a line with the rule that it breaks, if it breaks one
abbrev pub reasons_at : (line : ℕ) → Option Reason → List (ℕ × Reason)
reasons_at line None = []
reasons_at line (Some r) = (line, r) ∷ []

-- the reason if a name whose scope ends is held
abbrev pub ends_by : Use → Option Holder → Option Reason
ends_by u None = None
ends_by u (Some h) = Some (EndsHeld u h)

-- the reason if the name that a statement declares is held at the end of its block
abbrev pub why_left : Taken → Stmt → Option Reason
why_left taken (Declare u e) = ends_by u (int_holder taken u.slot)
why_left taken (DeclareArray u e) = ends_by u (array_holder taken u.slot)
why_left taken _ = None

-- the lines of the declarations of a block whose names are held at its end, with the reasons
abbrev pub left_reasons : Taken → Block → List (ℕ × Reason)
left_reasons taken End = []
left_reasons taken (Then line s b) = reasons_at line (why_left taken s) ++ left_reasons taken b

-- the lines of the declarations whose names are held at the end of a block that begins with these locals, with the
-- reasons
abbrev pub ending_reasons : Closing → (known : Row) → Taken → Block → List (ℕ × Reason)
ending_reasons closing known taken b = left_reasons (at_end closing (taken_after_all known b taken)) b

abbrev mutual
  -- the lines in the inner blocks of a statement that break a rule, each with the first rule that it breaks, if these
  -- locals are known and held
  pub reasons_within : Option Turn → (known : Row) → Taken → (line : ℕ) → Stmt → List (ℕ × Reason)
  reasons_within around known taken line (If e b) =
      reasons_in around known taken b ++ ending_reasons Leaves known taken b
  reasons_within around known taken line (IfElse e b c) =
      (reasons_in around known taken b ++ ending_reasons Leaves known taken b)
      ++ (reasons_in around known taken c ++ ending_reasons Leaves known taken c)
  reasons_within around known taken line (While e b) =
      reasons_in around known taken b ++ ending_reasons Leaves known taken b
  reasons_within around known taken line (For head b) =
      reasons_in (Some (turn_in line head known)) (with_int head.variable.slot known) (inside taken) b
      ++ ending_reasons Joins (with_int head.variable.slot known) (inside taken) b
  reasons_within around known taken line (Scope b) =
      reasons_in around known (inside taken) b ++ ending_reasons Joins known (inside taken) b
  reasons_within around known taken line (Cut parts b) =
      reasons_in around (with_parts parts known) (inside_cut parts.array.slot taken) b
      ++ ending_reasons Joins (with_parts parts known) (inside_cut parts.array.slot taken) b
  reasons_within around known taken line (Region tag b) =
      reasons_in around known (inside taken) b ++ ending_reasons Joins known (inside taken) b
  reasons_within around known taken line _ = []

  -- the lines of a block, including its inner blocks, that break a rule, each with the first rule that it breaks
  pub reasons_in : Option Turn → (known : Row) → Taken → Block → List (ℕ × Reason)
  reasons_in around known taken End = []
  reasons_in around known taken (Then line s b) =
      (reasons_at line (why around (seen_by known taken s) s)
      ++ reasons_within around known (seen_by known taken s) line s)
      ++ reasons_in around (known_after known s) (taken_after known s taken) b

-- the lines of a block that break a rule, including its declarations whose names are held at its end, with the reasons
abbrev pub block_reasons : Option Turn → (known : Row) → Taken → Closing → Block → List (ℕ × Reason)
block_reasons around known taken closing b =
    reasons_in around known taken b ++ ending_reasons closing known taken b

-- the lines of a function that break a rule, with the reasons
abbrev pub function_reasons : Function → List (ℕ × Reason)
function_reasons f = block_reasons None (with_params 0 0 f.params no_local) nothing Joins f.body

-- the lines of a program that break a rule, with the reasons
abbrev pub ownership_reasons : Resolved → List (ℕ × Reason)
ownership_reasons tree = flat_map function_reasons tree.functions

-- the line breaks this rule
abbrev pub IsDisowned : Resolved → (line : ℕ) → Reason → Type 0
IsDisowned tree line r = Contains (ownership_reasons tree) (line, r)

-- the line of a reason
abbrev pub line_in : ℕ × Reason → ℕ
line_in r = r.0

-- the least lines that break a rule, increasing, at most `MOST_RECORDED` of them, each with the first rule that it breaks
abbrev pub reasons_told : Resolved → List (ℕ × Reason)
reasons_told tree = take MOST_RECORDED (rising line_in (ownership_reasons tree))
