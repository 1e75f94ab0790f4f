-- The definitions over values of the code: its rows, its loop, its lines and its statements.
use Rattle.std.specs.Prelude.{◌≡◌, ℕ, List, ◌∷◌, Option, Some, map, option_map, flat_map, length, drop}
use Rattle.std.specs.Option.{option_or}
use Rattle.cw_model.specs.Ownership.{Joins, Leaves}
use Rattle.cw_tree.specs.declared.resolved.Use as code_use
use Rattle.cw_tree.specs.declared.resolved.Expr as code_expr
use Rattle.cw_tree.specs.declared.resolved.Call as code_call
use Rattle.cw_tree.specs.declared.resolved.Head as code_head
use Rattle.cw_tree.specs.declared.resolved.Cut as code_cut
use Rattle.cw_tree.specs.declared.resolved.Stmt as code_stmt
use Rattle.cw_tree.specs.declared.resolved.Line as code_line
use Rattle.cw_tree.specs.declared.resolved.Function as code_function
use Rattle.cw_text.specs.declared.reasons.At.{At}
use Rattle.cw_text.specs.declared.reasons.Reasons.{Reasons}
use Rattle.cw_text.specs.Rising.{kept}
use Rattle.cw_text.specs.RecordedReasons.{no_place}
use Rattle.cw_tree.specs.declared.resolved.Tree.{Tree}
use Rattle.cw_tree.specs.Resolved.{Use, Expr, Stmt, For, Scope, Cut}
use Rattle.cw_tree.specs.ResolvedView.{use_of, listed_of, expr_of, argument_of, head_of, parts_of, stmt_of, block_of}
use Rattle.cw_tree.specs.ResolvedView.{function_of, resolved_of}
use Rattle.cw_own.specs.declared.bits.Bits as code_bits
use Rattle.cw_own.specs.declared.row.Row as code_row
use Rattle.cw_own.specs.declared.restrictions.Restrictions as code_held
use Rattle.cw_own.specs.declared.taken.Taken as code_taken
use Rattle.cw_own.specs.declared.around.Loop as code_loop
use Rattle.cw_own.specs.declared.reason.Disowned as code_reason
use Rattle.cw_own.specs.declared.reason.Disowned.TheVariants as reason
use Rattle.cw_own.specs.declared.findings.Findings as code_findings
use Rattle.cw_own.specs.Sets.{Slots, slots_of, with_int, row_of}
use Rattle.cw_own.specs.Taken.{Restrictions, either_restrictions, restrictions_within, restrictions_of, Taken, taken_of, inside, inside_cut, taken_by_call}
use Rattle.cw_own.specs.Taken.{after_all, with_parts, gain, turns, turns_in}
use Rattle.cw_own.specs.Taken.{turns_within, left_by, taken_after_all}
use Rattle.cw_own.specs.Rules.{seen_by}
use Rattle.cw_own.specs.Reasons.{Reason, Restrictions as IsHeld, EndsHeld, GivenTwice, GivenAndRead, OverTwice, OuterWritten}
use Rattle.cw_own.specs.Reasons.{OuterArray, OtherElement, Turn, turn_in, why_call, left_reasons, reasons_within, reasons_in}
use Rattle.cw_own.specs.Reasons.{block_reasons, function_reasons, line_in, ownership_reasons}

-- the abstraction of a set of slots
abbrev pub set_of : code_bits.Bits → Slots
set_of bits = slots_of bits.words

-- the abstraction of the locals that the rows hold, in order
abbrev pub rows_of : List code_held.Restrictions → List Restrictions
rows_of rows = map restrictions_of rows

-- the abstraction of a broken rule
abbrev pub reason_of : code_reason.Disowned → Reason
reason_of (reason.Restrictions u how holder since) = IsHeld (use_of u.now) how holder
reason_of (reason.EndsHeld u holder since) = EndsHeld (use_of u.now) holder
reason_of (reason.GivenTwice u callee) = GivenTwice (use_of u.now) (listed_of callee.now)
reason_of (reason.GivenAndRead u callee) = GivenAndRead (use_of u.now) (listed_of callee.now)
reason_of (reason.OverTwice u) = OverTwice (use_of u.now)
reason_of (reason.OuterWritten u line) = OuterWritten (use_of u.now) line
reason_of (reason.OuterArray u how line) = OuterArray (use_of u.now) how line
reason_of (reason.OtherElement u how variable line) = OtherElement (use_of u.now) how (use_of variable.now) line

-- the abstraction of a broken rule, if there is one
abbrev pub view_of_reason : Option code_reason.Disowned → Option Reason
view_of_reason found = option_map reason_of found

-- the reason is found, unless one was found before
abbrev pub Finds : (before after : Option code_reason.Disowned) → (found : Option Reason) → Type 0
Finds before after found = view_of_reason after ≡ option_or (view_of_reason before) found

-- the abstraction of a line with the rule that it breaks
abbrev pub line_and_reason : At code_reason.Disowned → ℕ × Reason
line_and_reason at = (at.line, reason_of at.reason)

-- the abstraction of the lines of these places, each with the rule that it breaks
abbrev pub views_at : List (Option (At code_reason.Disowned)) → List (Option (ℕ × Reason))
views_at places = map (option_map line_and_reason) places

-- the abstraction of the recorded lines
abbrev pub recorded_reasons : code_findings.Findings → List (Option (ℕ × Reason))
recorded_reasons told = views_at told.reasons.places

-- the abstraction of a loop
abbrev pub turn_of : code_loop.Loop → Turn
turn_of l = record {
  outer = row_of l.outer;
  variable = use_of l.variable.now;
  over = slots_of l.over.words;
  in_head = l.in_head;
  head = l.line;
}

-- the abstraction of the enclosing loop, if there is one
abbrev pub around_of : Option code_loop.Loop → Option Turn
around_of around = option_map turn_of around

-- the abstraction of a use, if there is one
abbrev pub used : Option code_use.Use → Option Use
used target = option_map use_of target

-- the abstraction of an expression, if there is one
abbrev pub returned : Option code_expr.Expr → Option Expr
returned e = option_map expr_of e

-- a loop with this head and these lines
abbrev pub for_of : code_head.Head → List code_line.Line → Stmt
for_of head lines = For (head_of head) (block_of lines)

-- a cut with these lines
abbrev pub cut_of : code_cut.Cut → List code_line.Line → Stmt
cut_of cut lines = Cut (parts_of cut) (block_of lines)

-- the locals that the spawns of a sync block hold after a call
abbrev pub after_call : code_call.Call → code_held.Restrictions → Restrictions
after_call call here =
    taken_by_call call.kind (used call.target) (map argument_of call.arguments.items) (restrictions_of here)

-- the broken rule for this enclosing loop and these held locals
abbrev pub why_here : {A : Type 0} → (Option Turn → Taken → A) → Option code_loop.Loop → code_taken.Taken → A
why_here rule around taken = rule (around_of around) (taken_of taken)

-- the rule that a call breaks
abbrev pub why_of_call : Option code_loop.Loop → code_taken.Taken → code_call.Call → Option Reason
why_of_call around taken call =
    why_call (around_of around) (taken_of taken) (used call.target) (listed_of call.callee)
    (map argument_of call.arguments.items)

-- the locals that the spawns of a sync block hold after these lines, without the locals whose scope ends with them
abbrev pub after_lines : (known : code_row.Row) → List code_line.Line → code_held.Restrictions → Restrictions
after_lines known lines here = restrictions_within (row_of known) (after_all (row_of known) (block_of lines) (restrictions_of here))

-- the locals that the spawns of a sync block hold after an `if` with these lines
abbrev pub after_if : (known : code_row.Row) → List code_line.Line → code_held.Restrictions → Restrictions
after_if known lines here = either_restrictions (after_lines known lines here) (restrictions_of here)

-- the locals that the spawns of a sync block hold after a `while` with these lines
abbrev pub after_while : (known : code_row.Row) → List code_line.Line → code_held.Restrictions → Restrictions
after_while known lines here = either_restrictions (restrictions_of here) (gain (row_of known) (block_of lines))

-- the locals that the test and the blocks of a statement see as held
abbrev pub sees : (known : code_row.Row) → code_taken.Taken → code_stmt.Stmt → Taken
sees known taken stmt = seen_by (row_of known) (taken_of taken) (stmt_of stmt)

-- the locals held after a statement whose blocks see these locals as held
abbrev pub left_after : (known : code_row.Row) → code_taken.Taken → code_stmt.Stmt → Taken
left_after known taken stmt = left_by (row_of known) (stmt_of stmt) (taken_of taken)

-- the locals held after an inner sync block, which differ from those before it only in cuts
abbrev pub left_by_scope : (known : code_row.Row) → code_taken.Taken → List code_line.Line → Taken
left_by_scope known taken lines = left_by (row_of known) (Scope (block_of lines)) (taken_of taken)

-- the locals held after the block of a cut, whose array is free again
abbrev pub left_by_cut : (known : code_row.Row) → code_taken.Taken → code_cut.Cut → List code_line.Line → Taken
left_by_cut known taken cut lines = left_by (row_of known) (cut_of cut lines) (taken_of taken)

-- the locals held after an `if` with these lines
abbrev pub left_by_if : (known : code_row.Row) → code_taken.Taken → List code_line.Line → Taken
left_by_if known taken lines =
    record {
      outer = (taken_of taken).outer;
      here = after_if known lines taken.here;
      cuts = (taken_of taken).cuts;
    }

-- the locals held after these lines
abbrev pub taken_after_lines : (known : code_row.Row) → code_taken.Taken → List code_line.Line → Taken
taken_after_lines known taken lines = taken_after_all (row_of known) (block_of lines) (taken_of taken)

-- the locals that one iteration of each `while` of a statement holds
abbrev pub turns_of : (known : code_row.Row) → code_stmt.Stmt → List Restrictions
turns_of known stmt = turns (row_of known) (stmt_of stmt)

-- the locals that one iteration of each `while` in the inner blocks of a statement holds
abbrev pub turns_inside : (known : code_row.Row) → code_stmt.Stmt → List Restrictions
turns_inside known stmt = turns_within (row_of known) (stmt_of stmt)

-- the locals that one iteration of each `while` in these lines holds
abbrev pub turns_of_lines : (known : code_row.Row) → List code_line.Line → List Restrictions
turns_of_lines known lines = turns_in (row_of known) (block_of lines)

-- the locals that one iteration of each `while` holds, for a `while` with these lines as its body
abbrev pub turns_of_while : (known : code_row.Row) → List code_line.Line → List Restrictions
turns_of_while known lines = gain (row_of known) (block_of lines) ∷ turns_of_lines known lines

-- the rows after these rows remain
abbrev pub Past : List Restrictions → (before after : List code_held.Restrictions) → Type 0
Past first before after = rows_of after ≡ drop (length first) (rows_of before)

-- the declarations whose names are held at the end of these lines, with the reasons
abbrev pub still_taken : code_taken.Taken → List code_line.Line → List (ℕ × Reason)
still_taken taken lines = left_reasons (taken_of taken) (block_of lines)

-- the lines among these that break a rule, with the reasons
abbrev pub reasons_among : Option code_loop.Loop → (known : code_row.Row) → code_taken.Taken → List code_line.Line →
    List (ℕ × Reason)
reasons_among around known taken lines =
    reasons_in (around_of around) (row_of known) (taken_of taken) (block_of lines)

-- the lines that break a rule in a block that joins no spawn at its end, with the reasons
abbrev pub reasons_leaving : Option code_loop.Loop → (known : code_row.Row) → code_taken.Taken → List code_line.Line →
    List (ℕ × Reason)
reasons_leaving around known taken lines =
    block_reasons (around_of around) (row_of known) (taken_of taken) Leaves (block_of lines)

-- the lines that break a rule in a sync block, with the reasons
abbrev pub reasons_joining : Option code_loop.Loop → (known : code_row.Row) → code_taken.Taken → List code_line.Line →
    List (ℕ × Reason)
reasons_joining around known taken lines =
    block_reasons (around_of around) (row_of known) (taken_of taken) Joins (block_of lines)

-- the lines that break a rule in the branches of a statement, with the reasons; only a loop needs the line of the
-- statement
abbrev pub reasons_of_either : Option code_loop.Loop → (known : code_row.Row) → code_taken.Taken → code_stmt.Stmt →
    List (ℕ × Reason)
reasons_of_either around known taken stmt =
    reasons_within (around_of around) (row_of known) (taken_of taken) 0 (stmt_of stmt)

-- the lines that break a rule in the inner blocks of a statement in this line, with the reasons
abbrev pub reasons_inside : Option code_loop.Loop → (known : code_row.Row) → code_taken.Taken → (line : ℕ) →
    code_stmt.Stmt → List (ℕ × Reason)
reasons_inside around known taken line stmt =
    reasons_within (around_of around) (row_of known) (taken_of taken) line (stmt_of stmt)

-- the lines that break a rule in an inner sync block, with the reasons
abbrev pub reasons_of_scope : Option code_loop.Loop → (known : code_row.Row) → code_taken.Taken →
    List code_line.Line → List (ℕ × Reason)
reasons_of_scope around known taken lines =
    block_reasons (around_of around) (row_of known) (inside (taken_of taken)) Joins (block_of lines)

-- the lines that break a rule in the block of a loop with this head in this line, with the reasons
abbrev pub reasons_of_for : (known : code_row.Row) → code_taken.Taken → (line : ℕ) → code_head.Head →
    List code_line.Line → List (ℕ × Reason)
reasons_of_for known taken line head lines =
    block_reasons (Some (turn_in line (head_of head) (row_of known)))
    (with_int (head_of head).variable.slot (row_of known)) (inside (taken_of taken)) Joins (block_of lines)

-- the lines that break a rule in the block of a cut, with the reasons
abbrev pub reasons_of_cut : Option code_loop.Loop → (known : code_row.Row) → code_taken.Taken → code_cut.Cut →
    List code_line.Line → List (ℕ × Reason)
reasons_of_cut around known taken cut lines =
    block_reasons (around_of around) (with_parts (parts_of cut) (row_of known))
    (inside_cut (parts_of cut).array.slot (taken_of taken)) Joins (block_of lines)

-- the lines that break a rule in a function, with the reasons
abbrev pub reasons_of : code_function.Function → List (ℕ × Reason)
reasons_of f = function_reasons (function_of f)

-- the lines of these functions that break a rule, with the reasons
abbrev pub reasons_of_all : List code_function.Function → List (ℕ × Reason)
reasons_of_all fs = flat_map function_reasons (map function_of fs)

-- `after` is `before` with these reasons recorded
abbrev pub AreRecorded : (before after : code_findings.Findings) → List (ℕ × Reason) → Type 0
AreRecorded before after reasons = recorded_reasons after ≡ kept line_in (recorded_reasons before) reasons

-- the reasons of a tree are recorded
abbrev pub AreNoted : Tree → Reasons code_reason.Disowned → Type 0
AreNoted tree reasons = views_at reasons.places ≡ kept line_in no_place (ownership_reasons (resolved_of tree))
