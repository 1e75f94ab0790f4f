-- The parts of a loop's function: the code of its text is the code that the generator writes, part by part.
use Rattle.std.proofs.Common.{◌≡◌, ℕ, zero, suc, ◌+◌, ◌-◌, ◌*◌, ◌<◌, Bool, true, false, if◌then◌else◌, cond, filter, List, []}
use Rattle.std.proofs.Common.{◌∷◌, ◌++◌, length, map, refl, sym, ap, ◌∙◌, arith, append_assoc, length-append}
use Rattle.std.specs.Prelude.{◌==◌, max, replicate, slice_set}
use Rattle.std.proofs.lemmas.List.{append-nil}
use Rattle.cw_model.specs.declared.syntax.CallKind.{CallKind}
use Rattle.cw_model.specs.declared.syntax.NameKind.{NameKind}
use Rattle.cw_model.specs.declared.syntax.NameKind.TheVariants as kind
use Rattle.cw_model.specs.Syntax.{is_array_kind, is_written_kind, is_const_kind}
use Rattle.cw_model.specs.declared.syntax.CallKind.TheVariants.{Plain, Spawned}
use Rattle.cw_model.specs.declared.syntax.Operator.TheVariants.{Less, Minus}
use Rattle.cw_loops.specs.Slotted.{Variable, Int, Array, Start, Block}
use Rattle.cw_loops.specs.Moved.{Loop}
use Rattle.cw_loops.specs.Expanded.{low, high, turn_slot, left_slot, right_slot, numbers, leaf, half, both_halves, in_cuts, node, loop_text}
use Rattle.cw_code.specs.declared.code.Func.{Func}
use Rattle.cw_code.specs.declared.code.Loan.{Loan}
use Rattle.cw_code.specs.declared.code.Instr.{Instr}
use Rattle.cw_code.specs.declared.code.Instr.TheVariants as instr
use Rattle.cw_gen.specs.Emit.{halves_of, emitted_args, emitted_loads, emitted_alone, emitted_block, emitted_turn, passed_in, half_of, half_list}
use Rattle.cw_gen.specs.Emit.{ints_in_block, arrays_in_block, put_lists_in, put_loans_in, emitted_func, emitted_function}
use Rattle.cw_gen.specs.Marks.{marks_in, marks_of, readers_in, count_such, count_ints, count_arrays, count_taken, count_readers, is_integer_kind}
use Rattle.cw_gen.specs.Written.{turn_text, written_cuts, written_ends, written_half, written_middle, written_func}

-- consecutive numbers begin with the first
pub numbers_next : (from i n : ℕ) → i < n → numbers from (n - i) ≡ from ∷ numbers (from + 1) (n - (i + 1))
numbers_next from i n lt =
    let e : n - i ≡ suc (n - (i + 1)) = omega (arith, lt) in
    let next : suc from ≡ from + 1 = omega arith in
    ap (numbers from) e ∙ ap (λ k. from ∷ numbers k (n - (i + 1))) next

-- a list that is built from consecutive numbers, after one more number
pub step_next : {A : Type 0} (g : List ℕ → List A) (items now whole one : List A) (from next i n : ℕ) → i < n → next ≡ from + 1 → now ≡ items ++ one →
    ((ns : List ℕ) → g (from ∷ ns) ≡ one ++ g ns) → items ++ g (numbers from (n - i)) ≡ whole → now ++ g (numbers next (n - (i + 1))) ≡ whole
step_next g items now whole one from next i n lt is_next is_now split before =
    let rest = numbers (from + 1) (n - (i + 1)) in
    ap (λ k. now ++ g (numbers k (n - (i + 1)))) is_next
    ∙ ap (λ l. l ++ g rest) is_now
    ∙ append_assoc items one (g rest)
    ∙ ap (λ l. items ++ l) (sym (ap g (numbers_next from i n lt) ∙ split rest))
    ∙ before

-- arrays have no instructions, and their slots are the list of the call
args_of_arrays : (line : ℕ) (arrays : List ℕ) → emitted_args [] line (map Array arrays) ≡ []
args_of_arrays line [] = refl
args_of_arrays line (a ∷ arrays) = args_of_arrays line arrays

args_of_half : (line : ℕ) (ints arrays : List ℕ) → emitted_args [] line (map (λ s. Int (Variable s)) ints ++ map Array arrays) ≡ emitted_loads ints
args_of_half line [] arrays = args_of_arrays line arrays
args_of_half line (s ∷ ints) arrays = ap (λ is. instr.Load s ∷ is) (args_of_half line ints arrays)

-- the code of a call on one half
pub half_emitted : (first line : ℕ) (kind : CallKind) (index from to k : ℕ) (arrays : List ℕ) →
    emitted_alone first [] line (Start kind index (half from to (numbers 2 k) arrays)) ≡ written_half kind (half_of first kind index) from to k
half_emitted first line kind index from to k arrays =
    ap (λ is. instr.Load from ∷ instr.Load to ∷ (is ++ instr.Recur kind (half_of first kind index) ∷ [])) (args_of_half line (numbers 2 k) arrays)

-- appending an end and prepending an end are the same
ends_turned : (arrays : List ℕ) → written_ends arrays ++ instr.EndCut ∷ [] ≡ instr.EndCut ∷ written_ends arrays
ends_turned [] = refl
ends_turned (n ∷ arrays) = ap (λ is. instr.EndCut ∷ is) (ends_turned arrays)

-- the code of a block inside cuts: the cuts, the block, and the ends of the cuts
pub cuts_emitted : (first : ℕ) (l : Loop) (arrays : List ℕ) (inside : Block) →
    emitted_block first [] (in_cuts l arrays inside) ≡ written_cuts l arrays ++ (emitted_block first [] inside ++ written_ends arrays)
cuts_emitted first l [] inside = sym (append-nil (emitted_block first [] inside))
cuts_emitted first l (n ∷ arrays) inside =
    let cuts = written_cuts l arrays in
    let code = emitted_block first [] inside in
    let ends = written_ends arrays in
    let regrouped : ((cuts ++ (code ++ ends)) ++ instr.EndCut ∷ []) ++ [] ≡ cuts ++ (code ++ instr.EndCut ∷ ends) =
    append-nil ((cuts ++ (code ++ ends)) ++ instr.EndCut ∷ [])
    ∙ append_assoc cuts (code ++ ends) (instr.EndCut ∷ [])
    ∙ ap (λ is. cuts ++ is) (append_assoc code ends (instr.EndCut ∷ []))
    ∙ ap (λ is. cuts ++ (code ++ is)) (ends_turned arrays) in
    let body = ap (λ is. (is ++ instr.EndCut ∷ []) ++ []) (cuts_emitted first l arrays inside) ∙ regrouped in
    ap (λ is. written_cuts l (n ∷ []) ++ is) body

-- the code of a node
pub node_emitted : (first index : ℕ) (l : Loop) →
    let m = turn_slot l.captured in
    let arrays = numbers 0 l.over in
    emitted_block first [] (node index l)
    ≡ written_middle l ++ (written_cuts l arrays ++ ((written_half Spawned (half_of first Spawned index) low m l.captured
    ++ written_half Plain (half_of first Plain index) m high l.captured) ++ written_ends arrays))
node_emitted first index l =
    let m = turn_slot l.captured in
    let arrays = numbers 0 l.over in
    let lefts = map (left_slot l.over) arrays in
    let rights = map (right_slot l.over) arrays in
    let one = half_emitted first l.line Spawned index low m l.captured lefts in
    let other = half_emitted first l.line Plain index m high l.captured rights in
    let right_code = emitted_alone first [] l.line (Start Plain index (half m high (numbers 2 l.captured) rights)) in
    let both =
    ap (λ is. is ++ (right_code ++ [])) one
    ∙ ap (λ is. written_half Spawned (half_of first Spawned index) low m l.captured ++ is) (append-nil right_code ∙ other) in
    ap (λ is. written_middle l ++ is) (cuts_emitted first l arrays (both_halves index l) ∙ ap (λ is. written_cuts l arrays ++ (is ++ written_ends arrays)) both)

-- the code of a leaf
pub leaf_emitted : (first : ℕ) (l : Loop) →
    emitted_block first [] (leaf l)
    ≡ instr.Load low ∷ instr.Store (turn_slot l.captured) ∷ instr.Load (turn_slot l.captured) ∷ instr.Load high ∷ instr.Binary Less l.line ∷ emitted_turn 3 (emitted_block first [] (turn_text l))
leaf_emitted first l =
    ap (λ is. instr.Load low ∷ instr.Store (turn_slot l.captured) ∷ instr.Load (turn_slot l.captured) ∷ instr.Load high ∷ instr.Binary Less l.line
    ∷ is) (append-nil (emitted_turn 3 (emitted_block first [] (turn_text l))))

-- the number of parameters of a kind; integers come first
count_behind : (such : NameKind → Bool) (k : NameKind) (q : ℕ) → such k ≡ true → count_such such (replicate q k) ≡ q
count_behind such k zero is = refl
count_behind such k (suc q) is = ap (λ b. length (cond b (k ∷ filter such (replicate q k)) (filter such (replicate q k)))) is ∙ ap suc (count_behind such k q is)

count_none : (such : NameKind → Bool) (k : NameKind) (q : ℕ) → such k ≡ false → count_such such (replicate q k) ≡ 0
count_none such k zero is = refl
count_none such k (suc q) is = ap (λ b. length (cond b (k ∷ filter such (replicate q k)) (filter such (replicate q k)))) is ∙ count_none such k q is

loop_ints : (k q : ℕ) → count_ints (replicate k kind.Integer ++ replicate q kind.Array) ≡ k
loop_ints zero q = count_none is_integer_kind kind.Array q refl
loop_ints (suc k) q = ap suc (loop_ints k q)

loop_arrays : (k q : ℕ) → count_arrays (replicate k kind.Integer ++ replicate q kind.Array) ≡ q
loop_arrays zero q = count_behind is_array_kind kind.Array q refl
loop_arrays (suc k) q = loop_arrays k q

loop_taken : (k q : ℕ) → count_taken (replicate k kind.Integer ++ replicate q kind.Array) ≡ q
loop_taken zero q = count_behind is_written_kind kind.Array q refl
loop_taken (suc k) q = loop_taken k q

loop_readers : (k q : ℕ) → count_readers (replicate k kind.Integer ++ replicate q kind.Array) ≡ 0
loop_readers zero q = count_none is_const_kind kind.Array q refl
loop_readers (suc k) q = loop_readers k q

-- no array of a loop's function is only read
none_read : (k q : ℕ) → readers_in (marks_in (replicate k kind.Integer ++ replicate q kind.Array)) ≡ 0
none_read zero zero = refl
none_read zero (suc q) = none_read zero q
none_read (suc k) q = none_read k q

pub loop_marks : (index : ℕ) (l : Loop) → marks_of (loop_text index l).params ≡ []
loop_marks index l = ap (λ n. if n == 0 then [] else marks_in (replicate l.captured kind.Integer ++ replicate l.over kind.Array)) (none_read l.captured l.over)

-- the code of a loop's function is the code of its text
pub text_emitted : (first index : ℕ) (l : Loop) → emitted_function first (loop_text index l) ≡ emitted_block first [] (loop_text index l).body ++ instr.Return ∷ []
text_emitted first index l = ap (λ ms. emitted_block first ms (loop_text index l).body ++ instr.Return ∷ []) (loop_marks index l)

-- the cuts declare no integer
ints_in_cuts : (n index : ℕ) (l : Loop) (arrays : List ℕ) → ints_in_block n (in_cuts l arrays (both_halves index l)) ≡ n
ints_in_cuts n index l [] = refl
ints_in_cuts n index l (a ∷ arrays) = ints_in_cuts n index l arrays

-- the end of the slots for the parts of this number of arrays
abbrev parts_end : (q from count : ℕ) → ℕ
parts_end q from zero = 0
parts_end q from (suc c) = q + 2 * (from + suc c)

arrays_in_cuts : (n index : ℕ) (l : Loop) (from count : ℕ) →
    arrays_in_block n (in_cuts l (numbers from count) (both_halves index l)) ≡ max n (parts_end l.over from count)
arrays_in_cuts n index l from zero = let e : n ≡ max n 0 = omega arith in e
arrays_in_cuts n index l from (suc zero) =
    let e : max n (suc (right_slot l.over from)) ≡ max n (l.over + 2 * (from + suc zero)) = omega arith in e
arrays_in_cuts n index l from (suc (suc c)) =
    let next = max n (suc (right_slot l.over from)) in
    let e : max next (l.over + 2 * (suc from + suc c)) ≡ max n (l.over + 2 * (from + suc (suc c))) = omega arith in
    arrays_in_cuts next index l (suc from) (suc c) ∙ e

all_parts : (q : ℕ) → parts_end q 0 q ≡ 3 * q
all_parts zero = refl
all_parts (suc q) = let e : suc q + 2 * (0 + suc q) ≡ 3 * suc q = omega arith in e

-- the entry of a function that returns no integer
abbrev func_with : (start end params slots array_params arrays readers : ℕ) → Func
func_with s e p n q a r = record { start = s; end = e; gives_int = false; params = p; slots = n; array_params = q; arrays = a; readers = r }

-- the entry of a loop's function
pub func_emitted : (first start index : ℕ) (l : Loop) →
    emitted_func first start (loop_text index l) ≡ written_func start (start + length (emitted_function first (loop_text index l))) l
func_emitted first start index l =
    let k = l.captured in
    let q = l.over in
    let f = loop_text index l in
    let m = suc (turn_slot k) in
    let end = start + length (emitted_function first f) in
    let two : suc (suc k) ≡ 2 + k = omega arith in
    let three : m ≡ 3 + k = omega arith in
    let next : max (2 + k) m ≡ 3 + k = omega arith in
    let ints : count_ints f.params ≡ 2 + k = ap (λ n. suc (suc n)) (loop_ints k q) ∙ two in
    let arrays : count_arrays f.params ≡ q = loop_arrays k q in
    let slots : ints_in_block (2 + k) f.body ≡ max (ints_in_block (3 + k) l.body) (3 + k) =
    ints_in_cuts (max (ints_in_block (max (2 + k) m) l.body) m) index l (numbers 0 q)
    ∙ ap (λ n. max (ints_in_block n l.body) m) next
    ∙ ap (max (ints_in_block (3 + k) l.body)) three in
    let parts : arrays_in_block q f.body ≡ max (arrays_in_block q l.body) (3 * q) =
    arrays_in_cuts (arrays_in_block q l.body) index l 0 q ∙ ap (max (arrays_in_block q l.body)) (all_parts q) in
    let all = arrays_in_block (count_arrays f.params) f.body in
    let readers : count_readers f.params ≡ 0 = loop_readers k q in
    let less : all - 0 ≡ all = omega arith in
    ap (λ n. func_with start end n (ints_in_block n f.body) (count_taken f.params) (all - count_readers f.params) (count_readers f.params)) ints
    ∙ ap (λ n. func_with start end (2 + k) (ints_in_block (2 + k) f.body) n (all - count_readers f.params) (count_readers f.params)) (loop_taken k q)
    ∙ ap (λ n. func_with start end (2 + k) (ints_in_block (2 + k) f.body) q (all - n) n) readers
    ∙ ap (λ n. func_with start end (2 + k) (ints_in_block (2 + k) f.body) q n 0) (less ∙ ap (λ n. arrays_in_block n f.body) arrays)
    ∙ ap (λ n. func_with start end (2 + k) n q (arrays_in_block q f.body) 0) slots
    ∙ ap (λ n. func_with start end (2 + k) (max (ints_in_block (3 + k) l.body) (3 + k)) q n 0) parts

-- cuts store no lists
lists_in_cuts : (first : ℕ) (l : Loop) (arrays : List ℕ) (inside : Block) (lists : List (List ℕ)) → put_lists_in first [] (in_cuts l arrays inside) lists ≡ put_lists_in first [] inside lists
lists_in_cuts first l [] inside lists = refl
lists_in_cuts first l (a ∷ arrays) inside lists = lists_in_cuts first l arrays inside lists

passed_arrays : (arrays : List ℕ) → passed_in [] (map Array arrays) ≡ arrays
passed_arrays [] = refl
passed_arrays (a ∷ arrays) = ap (λ rest. a ∷ rest) (passed_arrays arrays)

passed_by_half : (ints arrays : List ℕ) → passed_in [] (map (λ s. Int (Variable s)) ints ++ map Array arrays) ≡ arrays
passed_by_half [] arrays = passed_arrays arrays
passed_by_half (s ∷ ints) arrays = passed_by_half ints arrays

-- the lists of a loop's function
pub lists_emitted : (first index : ℕ) (l : Loop) (lists : List (List ℕ)) →
    let arrays = numbers 0 l.over in
    put_lists_in first [] (loop_text index l).body lists
    ≡ slice_set (slice_set (put_lists_in first [] l.body lists) (half_list first Spawned index) (map (left_slot l.over) arrays)) (half_list first Plain index) (map (right_slot l.over) arrays)
lists_emitted first index l lists =
    let arrays = numbers 0 l.over in
    let lefts = map (left_slot l.over) arrays in
    let rights = map (right_slot l.over) arrays in
    let ints = numbers 2 l.captured in
    let before = put_lists_in first [] l.body lists in
    lists_in_cuts first l arrays (both_halves index l) before
    ∙ ap (λ slots. slice_set (slice_set before (half_list first Spawned index) slots) (half_list first Plain index)
    (passed_in [] (map (λ s. Int (Variable s)) ints ++ map Array rights))) (passed_by_half ints lefts)
    ∙ ap (λ slots. slice_set (slice_set before (half_list first Spawned index) lefts) (half_list first Plain index) slots) (passed_by_half ints rights)

-- the slots of the parts of a cut, as numbers
pub cut_row : (l : Loop) (i : ℕ) →
    (instr.Load (l.captured + 2) ∷ instr.Load 0 ∷ instr.Binary Minus l.line ∷ instr.Cut (record { array = i; left = l.over + 2 * i; right = l.over + 2 * i + 1 }) l.line ∷ []) ≡ written_cuts l (i ∷ [])
cut_row l i =
    let m : l.captured + 2 ≡ turn_slot l.captured = omega arith in
    let r : l.over + 2 * i + 1 ≡ right_slot l.over i = omega arith in
    ap (λ u. instr.Load u ∷ instr.Load 0 ∷ instr.Binary Minus l.line ∷ instr.Cut (halves_of i (l.over + 2 * i) (l.over + 2 * i + 1)) l.line ∷ []) m
    ∙ ap (λ u. instr.Load (turn_slot l.captured) ∷ instr.Load 0 ∷ instr.Binary Minus l.line ∷ instr.Cut (halves_of i (l.over + 2 * i) u) l.line ∷ []) r

-- the code of a leaf, from the effect of each step of the generator
pub leaf_written : (old set tested new : List Instr) (first start v : ℕ) (l : Loop) → v ≡ turn_slot l.captured → set ≡ old ++ instr.Load 0 ∷ instr.Store v ∷ [] → start ≡ length set →
    tested ≡ set ++ instr.Load v ∷ instr.Load 1 ∷ instr.Binary Less l.line ∷ []
    → new ≡ tested ++ emitted_turn (length tested - start) (emitted_block first [] (turn_text l)) → new ≡ old ++ emitted_block first [] (leaf l)
leaf_written old set tested new first start v l is_v is_set is_start is_tested is_new =
    let x = turn_slot l.captured in
    let one = instr.Load 0 ∷ instr.Store x ∷ [] in
    let other = instr.Load x ∷ instr.Load 1 ∷ instr.Binary Less l.line ∷ [] in
    let turn = emitted_turn 3 (emitted_block first [] (turn_text l)) in
    let n : length tested - start ≡ 3 = omega (arith, ap length is_tested, length-append set (instr.Load v ∷ instr.Load 1 ∷ instr.Binary Less l.line ∷ []), is_start) in
    let set_is : set ≡ old ++ one = is_set ∙ ap (λ u. old ++ instr.Load 0 ∷ instr.Store u ∷ []) is_v in
    let tested_is : tested ≡ set ++ other = is_tested ∙ ap (λ u. set ++ instr.Load u ∷ instr.Load 1 ∷ instr.Binary Less l.line ∷ []) is_v in
    is_new
    ∙ ap (λ k. tested ++ emitted_turn k (emitted_block first [] (turn_text l))) n
    ∙ ap (λ is. is ++ turn) tested_is
    ∙ append_assoc set other turn
    ∙ ap (λ is. is ++ (other ++ turn)) set_is
    ∙ append_assoc old one (other ++ turn)
    ∙ ap (λ is. old ++ is) (sym (leaf_emitted first l))

-- five parts of code in sequence
pub five_joined : (old a b c d e all : List Instr) → all ≡ ((((old ++ a) ++ b) ++ c) ++ d) ++ e → all ≡ old ++ (a ++ (b ++ ((c ++ d) ++ e)))
five_joined old a b c d e all is =
    is
    ∙ append_assoc (((old ++ a) ++ b) ++ c) d e
    ∙ append_assoc ((old ++ a) ++ b) c (d ++ e)
    ∙ append_assoc (old ++ a) b (c ++ (d ++ e))
    ∙ append_assoc old a (b ++ (c ++ (d ++ e)))
    ∙ ap (λ is. old ++ (a ++ (b ++ is))) (sym (append_assoc c d e))

-- loans occur only in the body of a loop's function
loans_in_cuts : (l : Loop) (arrays : List ℕ) (inside : Block) (lists : List (List Loan)) → put_loans_in [] (in_cuts l arrays inside) lists ≡ put_loans_in [] inside lists
loans_in_cuts l [] inside lists = refl
loans_in_cuts l (a ∷ arrays) inside lists = loans_in_cuts l arrays inside lists

pub loans_emitted : (index : ℕ) (l : Loop) (lists : List (List Loan)) → put_loans_in (marks_of (loop_text index l).params) (loop_text index l).body lists ≡ put_loans_in [] l.body lists
loans_emitted index l lists =
    ap (λ ms. put_loans_in ms (loop_text index l).body lists) (loop_marks index l)
    ∙ loans_in_cuts l (numbers 0 l.over) (both_halves index l) (put_loans_in [] l.body lists)
