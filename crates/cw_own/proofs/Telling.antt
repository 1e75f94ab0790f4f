-- The lines of reasons are the lines that break a rule, and the first of them is one of them.
use Rattle.std.proofs.Common.{◌≡◌, ℕ, Bool, true, false, not, ◌&&◌, ◌||◌, nat_le, if◌then◌else◌, List, [], ◌∷◌, ◌++◌, map, flat_map}
use Rattle.std.proofs.Common.{Option, Some, None, option_map, is_none, Contains, ◌⊎◌, inl, inr, refl, sym, ap, ◌∙◌, subst}
use Rattle.std.specs.List.{list_all}
use Rattle.std.specs.Option.{option_or}
use Rattle.std.proofs.lemmas.List.Elements.{Contains-append_left, Contains-append_right, Contains-push}
use Rattle.cw_model.specs.Lines.{unless, lesser, lowest}
use Rattle.cw_model.specs.Ownership.{Closing, Joins, Leaves}
use Rattle.cw_tree.specs.Resolved.{Use, Listed, Expr, Number, Variable, Element, Length, Negative, Not, Binary, Argument, Int, Array, Shared, Stmt, Declare, DeclareArray, Assign}
use Rattle.cw_tree.specs.Resolved.{AssignElement, Reduce, Call, Sync, If, IfElse, While, For, Scope, Cut, Region, Print, Return, Head, Parts, Block, End, Then, Function}
use Rattle.cw_own.specs.declared.reason.Touch.{Touch}
use Rattle.cw_own.specs.declared.reason.Touch.TheVariants as touch
use Rattle.cw_own.specs.declared.reason.Holder.{Holder}
use Rattle.cw_own.specs.Sets.{Slots, Row, no_slot, with_slot, no_local, with_int}
use Rattle.cw_own.specs.Taken.{Taken, nothing, inside, inside_cut, int_taken, array_taken, array_held, with_parts, known_after, taken_after, taken_after_all, with_params}
use Rattle.cw_own.specs.Rules as rule
use Rattle.cw_own.specs.Rules.{seen_by, at_end, given_away, passed_once, none_read, named_once}
use Rattle.cw_own.specs.Reasons.{Reason, GivenTwice, GivenAndRead, OverTwice, Turn, named, loop_around, head_in, turn_in, int_holder, array_taker, array_reader, array_holder}
use Rattle.cw_own.specs.Reasons.{held_by, why_index, why_outer_array, why_outer_int, why_int, why_taken, why_lend, why_read, why_write, why_whole, why_target, why_argument}
use Rattle.cw_own.specs.Reasons.{why_arguments, why_return, why_twice, why_read_too, why_call, why_over_twice, why_over, why_head, why_cut, why_element, why, reasons_at, ends_by}
use Rattle.cw_own.specs.Reasons.{why_left, left_reasons, ending_reasons, reasons_within, reasons_in, block_reasons, function_reasons, line_in}
use Rattle.cw_text.specs.lemmas.Kept.{sooner, soonest}

abbrev pub line_of : (ℕ × Reason) → ℕ
line_of r = r.0

abbrev pub lines_of : List (ℕ × Reason) → List ℕ
lines_of rs = map line_of rs

abbrev loops : Option Turn → Option rule.Loop
loops around = option_map loop_around around

or_none : {A : Type 0} → (a b : Option A) → is_none (option_or a b) ≡ (is_none a && is_none b)
or_none None b = refl
or_none (Some x) b = refl

both_none : {A : Type 0} → (a b : Option A) (p q : Bool) → is_none a ≡ p → is_none b ≡ q → is_none (option_or a b) ≡ (p && q)
both_none a b p q h k = or_none a b ∙ ap (λ x. x && is_none b) h ∙ ap (λ y. p && y) k

held_none : (u : Use) (how : Touch) (h : Option Holder) → is_none (held_by u how h) ≡ is_none h
held_none u how None = refl
held_none u how (Some h) = refl

ends_none : (u : Use) (h : Option Holder) → is_none (ends_by u h) ≡ is_none h
ends_none u None = refl
ends_none u (Some h) = refl

-- a value that exists exactly if the test holds
given_none : {A : Type 0} → (b : Bool) (x : A) → is_none (if b then Some x else None) ≡ not b
given_none true x = refl
given_none false x = refl

int_none : (taken : Taken) (slot : ℕ) → is_none (int_holder taken slot) ≡ not (int_taken taken slot)
int_none taken slot = given_none (int_taken taken slot) _

taker_none : (taken : Taken) (slot : ℕ) → is_none (array_taker taken slot) ≡ not (array_taken taken slot)
taker_none taken slot = by _ _ (taken.outer.arrays slot) (taken.here.arrays slot) (taken.cuts slot)
  where
    by : (x y : Holder) → (a b c : Bool) → is_none (if a || b then Some x else (if c then Some y else None)) ≡ not (a || (b || c))
    by x y true b c = refl
    by x y false true c = refl
    by x y false false true = refl
    by x y false false false = refl

holder_none : (taken : Taken) (slot : ℕ) → is_none (array_holder taken slot) ≡ not (array_held taken slot)
holder_none taken slot =
    both_none (array_taker taken slot) (array_reader taken slot) (not (array_taken taken slot)) (not (taken.outer.frozen slot || taken.here.frozen slot))
    (taker_none taken slot) (given_none (taken.outer.frozen slot || taken.here.frozen slot) _)
    ∙ neither (array_taken taken slot) (taken.outer.frozen slot || taken.here.frozen slot)
  where
    neither : (a b : Bool) → (not a && not b) ≡ not (a || b)
    neither true b = refl
    neither false b = refl

index_none : (around : Option Turn) (how : Touch) (u : Use) (e : Expr) → is_none (why_index around how u e) ≡ rule.may_index (loops around) u.slot e
index_none None how u e = refl
index_none (Some t) how u e = by _ (named t u.slot && rule.is_variable t.variable.slot e) (t.outer.arrays u.slot)
  where
    by : (x : Reason) → (a b : Bool) → is_none (if a || not b then None else Some x) ≡ (not b || a)
    by x true true = refl
    by x true false = refl
    by x false true = refl
    by x false false = refl

outer_none : (around : Option Turn) (how : Touch) (u : Use) → is_none (why_outer_array around how u) ≡ not (rule.is_outer_array (loops around) u.slot)
outer_none None how u = refl
outer_none (Some t) how u = given_none (t.outer.arrays u.slot) _

int_outer_none : (around : Option Turn) (u : Use) → is_none (why_outer_int around u) ≡ not (rule.is_outer_int (loops around) u.slot)
int_outer_none None u = refl
int_outer_none (Some t) u = given_none (t.outer.ints u.slot) _

lend_none : (around : Option Turn) (taken : Taken) (u : Use) → is_none (why_lend around taken u) ≡ rule.may_lend (loops around) taken u.slot
lend_none around taken u =
    both_none (why_taken taken u) (why_outer_array around touch.Read u) _ _ (held_none u touch.Read (array_taker taken u.slot) ∙ taker_none taken u.slot) (outer_none around touch.Read u)

read_none : (around : Option Turn) (taken : Taken) (e : Expr) → is_none (why_read around taken e) ≡ rule.may_read (loops around) taken e
read_none around taken (Number n) = refl
read_none around taken (Variable u) = held_none u touch.Read (int_holder taken u.slot) ∙ int_none taken u.slot
read_none around taken (Element u e) =
    both_none (option_or (why_taken taken u) (why_read around taken e)) (why_index around touch.Read u e) _ _
    (both_none (why_taken taken u) (why_read around taken e) _ _ (held_none u touch.Read (array_taker taken u.slot) ∙ taker_none taken u.slot) (read_none around taken e))
    (index_none around touch.Read u e)
    ∙ swap (not (array_taken taken u.slot)) (rule.may_read (loops around) taken e) (rule.may_index (loops around) u.slot e)
  where
    swap : (a b c : Bool) → ((a && b) && c) ≡ ((a && c) && b)
    swap true true true = refl
    swap true true false = refl
    swap true false true = refl
    swap true false false = refl
    swap false b c = refl
read_none around taken (Length u) = lend_none around taken u
read_none around taken (Negative e) = read_none around taken e
read_none around taken (Not e) = read_none around taken e
read_none around taken (Binary operator d e) = both_none (why_read around taken d) (why_read around taken e) _ _ (read_none around taken d) (read_none around taken e)

write_none : (around : Option Turn) (taken : Taken) (u : Use) → is_none (why_write around taken u) ≡ rule.may_write (loops around) taken u.slot
write_none around taken u =
    both_none (why_int taken touch.Written u) (why_outer_int around u) _ _ (held_none u touch.Written (int_holder taken u.slot) ∙ int_none taken u.slot) (int_outer_none around u)

whole_none : (around : Option Turn) (taken : Taken) (how : Touch) (u : Use) → is_none (why_whole around taken how u) ≡ rule.may_pass (loops around) taken u.slot
whole_none around taken how u =
    both_none (held_by u how (array_holder taken u.slot)) (why_outer_array around how u) _ _ (held_none u how (array_holder taken u.slot) ∙ holder_none taken u.slot) (outer_none around how u)

target_none : (around : Option Turn) (taken : Taken) (target : Option Use) → is_none (why_target around taken target) ≡ rule.may_target (loops around) taken target
target_none around taken None = refl
target_none around taken (Some u) = write_none around taken u

argument_none : (around : Option Turn) (taken : Taken) (e : Argument) → is_none (why_argument around taken e) ≡ rule.may_give (loops around) taken e
argument_none around taken (Int e) = read_none around taken e
argument_none around taken (Array u) = whole_none around taken touch.Passed u
argument_none around taken (Shared u) = lend_none around taken u

arguments_none : (around : Option Turn) (taken : Taken) (es : List Argument) → is_none (why_arguments around taken es) ≡ list_all (rule.may_give (loops around) taken) es
arguments_none around taken [] = refl
arguments_none around taken (e ∷ es) = both_none (why_argument around taken e) (why_arguments around taken es) _ _ (argument_none around taken e) (arguments_none around taken es)

return_none : (around : Option Turn) (taken : Taken) (e : Option Expr) → is_none (why_return around taken e) ≡ rule.may_return (loops around) taken e
return_none around taken None = refl
return_none around taken (Some e) = read_none around taken e

-- the first value of two
next_none : {A : Type 0} → (b : Bool) (x : A) (rest : Option A) (more : Bool) → is_none rest ≡ more → is_none (if b then Some x else rest) ≡ (not b && more)
next_none true x rest more h = refl
next_none false x rest more h = h

twice_none : (f : Listed) (seen : Slots) (es : List Argument) → is_none (why_twice f seen es) ≡ passed_once seen es
twice_none f seen [] = refl
twice_none f seen (Int e ∷ es) = twice_none f seen es
twice_none f seen (Array u ∷ es) = next_none (seen u.slot) (GivenTwice u f) (why_twice f (with_slot u.slot seen) es) _ (twice_none f (with_slot u.slot seen) es)
twice_none f seen (Shared u ∷ es) = twice_none f seen es

read_too_none : (f : Listed) (given : Slots) (es : List Argument) → is_none (why_read_too f given es) ≡ none_read given es
read_too_none f given [] = refl
read_too_none f given (Int e ∷ es) = read_too_none f given es
read_too_none f given (Array u ∷ es) = read_too_none f given es
read_too_none f given (Shared u ∷ es) = next_none (given u.slot) (GivenAndRead u f) (why_read_too f given es) _ (read_too_none f given es)

over_twice_none : (seen : Slots) (us : List Use) → is_none (why_over_twice seen us) ≡ named_once seen us
over_twice_none seen [] = refl
over_twice_none seen (u ∷ us) = next_none (seen u.slot) (OverTwice u) (why_over_twice (with_slot u.slot seen) us) _ (over_twice_none (with_slot u.slot seen) us)

call_none : (around : Option Turn) (taken : Taken) (target : Option Use) (f : Listed) (es : List Argument) →
    is_none (why_call around taken target f es) ≡ (list_all (rule.may_give (loops around) taken) es && rule.may_target (loops around) taken target
    && passed_once no_slot es && none_read (given_away es no_slot) es)
call_none around taken target f es =
    both_none (option_or (option_or (why_arguments around taken es) (why_target around taken target)) (why_twice f no_slot es)) (why_read_too f (given_away es no_slot) es) _ _
    (both_none (option_or (why_arguments around taken es) (why_target around taken target)) (why_twice f no_slot es) _ _
    (both_none (why_arguments around taken es) (why_target around taken target) _ _ (arguments_none around taken es) (target_none around taken target))
    (twice_none f no_slot es))
    (read_too_none f (given_away es no_slot) es)

head_loops : (around : Option Turn) → loops (option_map head_in around) ≡ rule.for_head (loops around)
head_loops None = refl
head_loops (Some t) = refl

head_pass : (around : Option Turn) (taken : Taken) (u : Use) → rule.may_pass (loops (option_map head_in around)) taken u.slot ≡ rule.may_pass (loops around) taken u.slot
head_pass None taken u = refl
head_pass (Some t) taken u = refl

over_none : (around : Option Turn) (taken : Taken) (us : List Use) → is_none (why_over (option_map head_in around) taken us) ≡ list_all (λ (u : Use). rule.may_pass (loops around) taken u.slot) us
over_none around taken [] = refl
over_none around taken (u ∷ us) =
    both_none (why_whole (option_map head_in around) taken touch.NamedInOver u) (why_over (option_map head_in around) taken us) _ _
    (whole_none (option_map head_in around) taken touch.NamedInOver u ∙ head_pass around taken u) (over_none around taken us)

head_none : (around : Option Turn) (taken : Taken) (head : Head) → is_none (why_head around taken head) ≡ rule.head_keeps (loops around) taken head
head_none around taken head =
    let inner = option_map head_in around in
    let read : (e : Expr) → is_none (why_read inner taken e) ≡ rule.may_read (rule.for_head (loops around)) taken e = λ e. read_none inner taken e
    ∙ ap (λ l. rule.may_read l taken e) (head_loops around) in
    both_none (option_or (option_or (why_read inner taken head.from) (why_read inner taken head.to)) (why_over inner taken head.over)) (why_over_twice no_slot head.over) _ _
    (both_none (option_or (why_read inner taken head.from) (why_read inner taken head.to)) (why_over inner taken head.over) _ _
    (both_none (why_read inner taken head.from) (why_read inner taken head.to) _ _ (read head.from) (read head.to))
    (over_none around taken head.over))
    (over_twice_none no_slot head.over)

cut_none : (around : Option Turn) (taken : Taken) (parts : Parts) → is_none (why_cut around taken parts)
    ≡ (rule.may_read (loops around) taken parts.at && rule.may_pass (loops around) taken parts.array.slot)
cut_none around taken parts =
    both_none (why_read around taken parts.at) (why_whole around taken touch.Cut parts.array) _ _ (read_none around taken parts.at) (whole_none around taken touch.Cut parts.array)

element_none : (around : Option Turn) (taken : Taken) (u : Use) (i e : Expr) →
    is_none (why_element around taken u i e) ≡ (rule.may_read (loops around) taken i && rule.may_read (loops around) taken e && not (array_held taken u.slot) && rule.may_index (loops around) u.slot i)
element_none around taken u i e =
    both_none (option_or (option_or written other) (why_read around taken i)) (why_read around taken e) _ _
    (both_none (option_or written other) (why_read around taken i) _ _
    (both_none written other _ _ (held_none u touch.Written (array_holder taken u.slot) ∙ holder_none taken u.slot) (index_none around touch.Written u i))
    (read_none around taken i))
    (read_none around taken e)
    ∙ turned (not (array_held taken u.slot)) (rule.may_index (loops around) u.slot i) (rule.may_read (loops around) taken i) (rule.may_read (loops around) taken e)
  where
    written : Option Reason
    written = held_by u touch.Written (array_holder taken u.slot)

    other : Option Reason
    other = why_index around touch.Written u i

    turned : (h x i e : Bool) → (((h && x) && i) && e) ≡ (((i && e) && h) && x)
    turned true true true true = refl
    turned true true true false = refl
    turned true true false e = refl
    turned true false true true = refl
    turned true false true false = refl
    turned true false false e = refl
    turned false x true true = refl
    turned false x true false = refl
    turned false x false e = refl

-- a reason exists exactly if a rule is broken
pub why_none : (around : Option Turn) (taken : Taken) (s : Stmt) → is_none (why around taken s) ≡ rule.keeps (loops around) taken s
why_none around taken (Declare u e) = read_none around taken e
why_none around taken (DeclareArray u e) = read_none around taken e
why_none around taken (Assign u e) = both_none (why_read around taken e) (why_write around taken u) _ _ (read_none around taken e) (write_none around taken u)
why_none around taken (AssignElement u i e) = element_none around taken u i e
why_none around taken (Reduce how s e) = read_none around taken e
why_none around taken (Call kind site target f es) = call_none around taken target f es
why_none around taken Sync = refl
why_none around taken (If e b) = read_none around taken e
why_none around taken (IfElse e b c) = read_none around taken e
why_none around taken (While e b) = read_none around taken e
why_none around taken (For head b) = head_none around taken head
why_none around taken (Scope b) = refl
why_none around taken (Cut parts b) = cut_none around taken parts
why_none around taken (Region tag b) = refl
why_none around taken (Print e) = read_none around taken e
why_none around taken (Return e) = return_none around taken e

at_lines : (line : ℕ) (r : Option Reason) (b : Bool) → is_none r ≡ b → lines_of (reasons_at line r) ≡ unless b line
at_lines line r b h = by r ∙ ap (λ b. unless b line) h
  where
    by : (r : Option Reason) → lines_of (reasons_at line r) ≡ unless (is_none r) line
    by None = refl
    by (Some r) = refl

joined_lines : (xs ys : List (ℕ × Reason)) (ls ms : List ℕ) → lines_of xs ≡ ls → lines_of ys ≡ ms → lines_of (xs ++ ys) ≡ ls ++ ms
joined_lines xs ys ls ms h k = parted xs ∙ ap (λ l. l ++ lines_of ys) h ∙ ap (λ l. ls ++ l) k
  where
    parted : (xs : List (ℕ × Reason)) → lines_of (xs ++ ys) ≡ lines_of xs ++ lines_of ys
    parted [] = refl
    parted (x ∷ xs) = ap (λ l. x.0 ∷ l) (parted xs)

left_lines : (taken : Taken) (b : Block) → lines_of (left_reasons taken b) ≡ rule.left_lines taken b
left_lines taken End = refl
left_lines taken (Then line s b) = joined_lines (reasons_at line (why_left taken s)) (left_reasons taken b) (rule.left_line taken line s) (rule.left_lines taken b) (one s) (left_lines taken b)
  where
    one : (s : Stmt) → lines_of (reasons_at line (why_left taken s)) ≡ rule.left_line taken line s
    one (Declare u e) = at_lines line (why_left taken (Declare u e)) _ (ends_none u (int_holder taken u.slot) ∙ int_none taken u.slot)
    one (DeclareArray u e) = at_lines line (why_left taken (DeclareArray u e)) _ (ends_none u (array_holder taken u.slot) ∙ holder_none taken u.slot)
    one (Assign u e) = refl
    one (AssignElement u i e) = refl
    one (Reduce how s e) = refl
    one (Call kind site target f es) = refl
    one Sync = refl
    one (If e b) = refl
    one (IfElse e b c) = refl
    one (While e b) = refl
    one (For head b) = refl
    one (Scope b) = refl
    one (Cut parts b) = refl
    one (Region tag b) = refl
    one (Print e) = refl
    one (Return e) = refl

ending_lines : (closing : Closing) (known : Row) (taken : Taken) (b : Block) → lines_of (ending_reasons closing known taken b) ≡ rule.left_at_end closing known taken b
ending_lines closing known taken b = left_lines (at_end closing (taken_after_all known b taken)) b

block_by : (around : Option Turn) (known : Row) (taken : Taken) (closing : Closing) (b : Block) → lines_of (reasons_in around known taken b) ≡ rule.lines_in (loops around) known taken b →
    lines_of (block_reasons around known taken closing b) ≡ rule.block_lines (loops around) known taken closing b
block_by around known taken closing b h =
    joined_lines (reasons_in around known taken b) (ending_reasons closing known taken b) _ _ h (ending_lines closing known taken b)

mutual
  within_lines : (around : Option Turn) (known : Row) (taken : Taken) (line : ℕ) (s : Stmt) → lines_of (reasons_within around known taken line s) ≡ rule.lines_within (loops around) known taken s
  within_lines around known taken line (Declare u e) = refl
  within_lines around known taken line (DeclareArray u e) = refl
  within_lines around known taken line (Assign u e) = refl
  within_lines around known taken line (AssignElement u i e) = refl
  within_lines around known taken line (Reduce how s e) = refl
  within_lines around known taken line (Call kind site target f es) = refl
  within_lines around known taken line Sync = refl
  within_lines around known taken line (If e b) = block_by around known taken Leaves b (in_lines around known taken b)
  within_lines around known taken line (IfElse e b c) =
      joined_lines (block_reasons around known taken Leaves b) (block_reasons around known taken Leaves c) _ _
      (block_by around known taken Leaves b (in_lines around known taken b)) (block_by around known taken Leaves c (in_lines around known taken c))
  within_lines around known taken line (While e b) = block_by around known taken Leaves b (in_lines around known taken b)
  within_lines around known taken line (For head b) =
      block_by (Some (turn_in line head known)) (with_int head.variable.slot known) (inside taken) Joins b
      (in_lines (Some (turn_in line head known)) (with_int head.variable.slot known) (inside taken) b)
  within_lines around known taken line (Scope b) = block_by around known (inside taken) Joins b (in_lines around known (inside taken) b)
  within_lines around known taken line (Cut parts b) =
      block_by around (with_parts parts known) (inside_cut parts.array.slot taken) Joins b (in_lines around (with_parts parts known) (inside_cut parts.array.slot taken) b)
  within_lines around known taken line (Region tag b) = block_by around known (inside taken) Joins b (in_lines around known (inside taken) b)
  within_lines around known taken line (Print e) = refl
  within_lines around known taken line (Return e) = refl

  in_lines : (around : Option Turn) (known : Row) (taken : Taken) (b : Block) → lines_of (reasons_in around known taken b) ≡ rule.lines_in (loops around) known taken b
  in_lines around known taken End = refl
  in_lines around known taken (Then line s b) =
      joined_lines (reasons_at line (why around (seen_by known taken s) s) ++ reasons_within around known (seen_by known taken s) line s)
      (reasons_in around (known_after known s) (taken_after known s taken) b) _ _
      (joined_lines (reasons_at line (why around (seen_by known taken s) s)) (reasons_within around known (seen_by known taken s) line s) _ _
      (at_lines line (why around (seen_by known taken s) s) _ (why_none around (seen_by known taken s) s)) (within_lines around known (seen_by known taken s) line s))
      (in_lines around (known_after known s) (taken_after known s taken) b)

pub function_lines : (f : Function) → lines_of (function_reasons f) ≡ rule.function_lines f
function_lines f = block_by None (with_params 0 0 f.params no_local) nothing Joins f.body (in_lines None (with_params 0 0 f.params no_local) nothing f.body)

pub functions_lines : (fs : List Function) → lines_of (flat_map function_reasons fs) ≡ flat_map rule.function_lines fs
functions_lines [] = refl
functions_lines (f ∷ fs) = joined_lines (function_reasons f) (flat_map function_reasons fs) _ _ (function_lines f) (functions_lines fs)

-- the first of the reasons has the least line
pub first_line : (first : Option (ℕ × Reason)) (rs : List (ℕ × Reason)) → option_map line_of (soonest line_in first rs) ≡ lowest (option_map line_of first) (lines_of rs)
first_line first [] = refl
first_line first (r ∷ rs) = first_line (sooner line_in first r) rs ∙ ap (λ o. lowest o (lines_of rs)) (one first)
  where
    picked : (b : Bool) (x : ℕ × Reason) → Some ((if b then x else r).0) ≡ Some (if b then x.0 else r.0)
    picked true x = refl
    picked false x = refl

    one : (first : Option (ℕ × Reason)) → option_map line_of (sooner line_in first r) ≡ lesser (option_map line_of first) r.0
    one None = refl
    one (Some x) = picked (nat_le x.0 r.0) x

-- the first of the reasons is one of the reasons
later : (r : ℕ × Reason) (rs : List (ℕ × Reason)) (x : ℕ × Reason) → Contains rs x → Contains (r ∷ rs) x
later r rs x h = Contains-append_right (r ∷ []) rs x h

now : (r : ℕ × Reason) (rs : List (ℕ × Reason)) → Contains (r ∷ rs) r
now r rs = Contains-append_left (r ∷ []) rs r (Contains-push [] r)

first_from : (m : ℕ × Reason) (rs : List (ℕ × Reason)) (x : ℕ × Reason) → soonest line_in (Some m) rs ≡ Some x → (x ≡ m) ⊎ Contains rs x
first_from m [] x h = inl (sym (cc h))
first_from m (r ∷ rs) x h = by (nat_le m.0 r.0) (first_from (if nat_le m.0 r.0 then m else r) rs x h)
  where
    here : x ≡ r → Contains (r ∷ rs) x
    here e = let P : (ℕ × Reason) → Type 0 = λ y. Contains (r ∷ rs) y in subst P (sym e) (now r rs)

    by : (b : Bool) → (x ≡ (if b then m else r)) ⊎ Contains rs x → (x ≡ m) ⊎ Contains (r ∷ rs) x
    by true h = elim h [ inl e ↦ inl e | inr c ↦ inr (later r rs x c) ]
    by false h = elim h [ inl e ↦ inr (here e) | inr c ↦ inr (later r rs x c) ]

pub first_is_there : (rs : List (ℕ × Reason)) (x : ℕ × Reason) → soonest line_in None rs ≡ Some x → Contains rs x
first_is_there [] x h = cc
first_is_there (r ∷ rs) x h =
    let P : (ℕ × Reason) → Type 0 = λ y. Contains (r ∷ rs) y in
    elim (first_from r rs x h) [ inl e ↦ subst P (sym e) (now r rs) | inr c ↦ later r rs x c ]
