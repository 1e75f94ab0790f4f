-- The results of generating functions in sequence: the functions of the source with their bodies, and the functions of
-- loops.
use Rattle.std.proofs.Common.{◌≡◌, ◌⊎◌, inl, inr, Vec, Global, ℕ, suc, ◌+◌, ◌*◌, List, [], ◌∷◌, ◌++◌, length, map, refl, sym, ap, ◌∙◌, arith, append_assoc, length-append}
use Rattle.std.specs.Prelude.{replicate}
use Rattle.cw_tree.specs.declared.resolved.Function as code
use Rattle.cw_tree.specs.Resolved as source
use Rattle.cw_tree.specs.ResolvedView.{function_of}
use Rattle.cw_loops.specs.declared.tree.Line.{Line}
use Rattle.cw_loops.specs.View.{block_of}
use Rattle.cw_loops.specs.Slotted.{Block, Function}
use Rattle.cw_loops.specs.Moved.{Loop}
use Rattle.cw_loops.specs.Expanded.{loop_text, loop_texts, with_bodies}
use Rattle.cw_code.specs.declared.code.Func.{Func}
use Rattle.cw_code.specs.declared.code.Loan.{Loan}
use Rattle.cw_code.specs.declared.code.Instr.{Instr}
use Rattle.cw_gen.specs.Emit.{emitted_function, emitted_func, emitted_instrs, emitted_funcs, put_lists_in, put_lists_of, put_loans_in, put_loans_of, no_lists, emitted_lists, emitted_loans}
use Rattle.cw_gen.specs.Marks.{marks_of}
use Rattle.cw_gen.specs.Written.{written_func}
use Rattle.cw_gen.proofs.LoopCode.{loop_marks, func_emitted, loans_emitted}

pub instrs_joined : (first : ℕ) (fs gs : List Function) → emitted_instrs first (fs ++ gs) ≡ emitted_instrs first fs ++ emitted_instrs first gs
instrs_joined first [] gs = refl
instrs_joined first (f ∷ fs) gs = ap (λ is. emitted_function first f ++ is) (instrs_joined first fs gs)
    ∙ sym (append_assoc (emitted_function first f) (emitted_instrs first fs) (emitted_instrs first gs))

pub funcs_joined : (first start : ℕ) (fs gs : List Function) →
    emitted_funcs first start (fs ++ gs) ≡ emitted_funcs first start fs ++ emitted_funcs first (start + length (emitted_instrs first fs)) gs
funcs_joined first start [] gs = ap (λ n. emitted_funcs first n gs) (omega arith)
funcs_joined first start (f ∷ fs) gs =
    let n = length (emitted_function first f) in
    let e : start + n + length (emitted_instrs first fs) ≡ start + length (emitted_instrs first (f ∷ fs)) = omega (arith, length-append (emitted_function first f) (emitted_instrs first fs)) in
    ap (λ rest. emitted_func first start f ∷ rest) (funcs_joined first (start + n) fs gs ∙ ap (λ m. emitted_funcs first (start + n) fs ++ emitted_funcs first m gs) e)

pub lists_joined : (first : ℕ) (fs gs : List Function) (lists : List (List ℕ)) → put_lists_of first (fs ++ gs) lists ≡ put_lists_of first gs (put_lists_of first fs lists)
lists_joined first [] gs lists = refl
lists_joined first (f ∷ fs) gs lists = lists_joined first fs gs (put_lists_in first (marks_of f.params) f.body lists)

pub loans_joined : (fs gs : List Function) (lists : List (List Loan)) → put_loans_of (fs ++ gs) lists ≡ put_loans_of gs (put_loans_of fs lists)
loans_joined [] gs lists = refl
loans_joined (f ∷ fs) gs lists = loans_joined fs gs (put_loans_in (marks_of f.params) f.body lists)

-- if each function has a body, the number of functions does not change
pub length_with_bodies : (fs : List source.Function) (bodies : List Block) → length bodies ≡ length fs → length (with_bodies fs bodies) ≡ length fs
length_with_bodies [] bodies same = refl
length_with_bodies (f ∷ fs) (b ∷ bodies) same = ap suc (length_with_bodies fs bodies (omega (arith, same)))
length_with_bodies (f ∷ fs) [] same = absurd (omega (arith, same))

pub length_loop_texts : (index : ℕ) (loops : List Loop) → length (loop_texts index loops) ≡ length loops
length_loop_texts index [] = refl
length_loop_texts index (l ∷ loops) = ap suc (length_loop_texts (suc index) loops)

-- the code of both groups, from the effect of each step of the generator
pub instrs_of_both : (first index : ℕ) (fs : List source.Function) (bodies : List Block) (loops : List Loop) (old mid new : List Instr) → old ≡ [] → index ≡ length fs →
    mid ≡ old ++ emitted_instrs first (with_bodies fs bodies) → new ≡ mid ++ emitted_instrs first (loop_texts index loops) →
    new ≡ emitted_instrs first (with_bodies fs bodies ++ loop_texts (length fs) loops)
instrs_of_both first index fs bodies loops old mid new none is_index is_mid is_new =
    let front = emitted_instrs first (with_bodies fs bodies) in
    is_new
    ∙ ap (λ n. mid ++ emitted_instrs first (loop_texts n loops)) is_index
    ∙ ap (λ is. is ++ emitted_instrs first (loop_texts (length fs) loops)) (is_mid ∙ ap (λ is. is ++ front) none)
    ∙ sym (instrs_joined first (with_bodies fs bodies) (loop_texts (length fs) loops))

pub funcs_of_both : (first index : ℕ) (fs : List source.Function) (bodies : List Block) (loops : List Loop) (old mid : List Instr)
    (old_funcs mid_funcs new_funcs : List Func) → old ≡ [] → old_funcs ≡ [] → index ≡ length fs →
    mid ≡ old ++ emitted_instrs first (with_bodies fs bodies) → mid_funcs ≡ old_funcs ++ emitted_funcs first (length old) (with_bodies fs bodies) →
    new_funcs ≡ mid_funcs ++ emitted_funcs first (length mid) (loop_texts index loops) →
    new_funcs ≡ emitted_funcs first 0 (with_bodies fs bodies ++ loop_texts (length fs) loops)
funcs_of_both first index fs bodies loops old mid old_funcs mid_funcs new_funcs none no_funcs is_index is_mid is_funcs is_new =
    let code = emitted_instrs first (with_bodies fs bodies) in
    let front = emitted_funcs first 0 (with_bodies fs bodies) in
    let mid_is : mid ≡ code = is_mid ∙ ap (λ is. is ++ code) none in
    let place : length mid ≡ 0 + length code = omega (arith, ap length mid_is) in
    let funcs_is : mid_funcs ≡ front = is_funcs ∙ ap (λ is. old_funcs ++ emitted_funcs first (length is) (with_bodies fs bodies)) none ∙ ap (λ made. made ++ front) no_funcs in
    is_new
    ∙ ap (λ n. mid_funcs ++ emitted_funcs first (length mid) (loop_texts n loops)) is_index
    ∙ ap (λ n. mid_funcs ++ emitted_funcs first n (loop_texts (length fs) loops)) place
    ∙ ap (λ made. made ++ emitted_funcs first (0 + length code) (loop_texts (length fs) loops)) funcs_is
    ∙ sym (funcs_joined first 0 (with_bodies fs bodies) (loop_texts (length fs) loops))

pub lists_of_both : (first index n : ℕ) (fs : List source.Function) (bodies : List Block) (loops : List Loop) (none mid new : List (List ℕ))
    → length bodies ≡ length fs → index ≡ length fs → n ≡ length fs + length loops →
    none ≡ replicate (first + 3 * n) [] → mid ≡ put_lists_of first (with_bodies fs bodies) none → new ≡ put_lists_of first (loop_texts index loops) mid →
    new ≡ emitted_lists first (with_bodies fs bodies ++ loop_texts (length fs) loops)
lists_of_both first index n fs bodies loops none mid new same is_index is_n is_none is_mid is_new =
    let front = with_bodies fs bodies in
    let back = loop_texts (length fs) loops in
    let count : n ≡ length (front ++ back) = omega (arith, is_n, length-append front back, length_with_bodies fs bodies same, length_loop_texts (length fs) loops) in
    let none_is : none ≡ no_lists first (length (front ++ back)) = is_none ∙ ap (λ k. replicate (first + 3 * k) []) count in
    is_new
    ∙ ap (λ k. put_lists_of first (loop_texts k loops) mid) is_index
    ∙ ap (put_lists_of first back) (is_mid ∙ ap (put_lists_of first front) none_is)
    ∙ sym (lists_joined first front back (no_lists first (length (front ++ back))))

pub loans_of_both : (first index : ℕ) (fs : List source.Function) (bodies : List Block) (loops : List Loop) (none mid new : List (List Loan)) → index ≡ length fs →
    none ≡ replicate first [] → mid ≡ put_loans_of (with_bodies fs bodies) none → new ≡ put_loans_of (loop_texts index loops) mid →
    new ≡ emitted_loans first (with_bodies fs bodies ++ loop_texts (length fs) loops)
loans_of_both first index fs bodies loops none mid new is_index is_none is_mid is_new =
    let front = with_bodies fs bodies in
    let back = loop_texts (length fs) loops in
    is_new
    ∙ ap (λ k. put_loans_of (loop_texts k loops) mid) is_index
    ∙ ap (put_loans_of back) (is_mid ∙ ap (put_loans_of front) is_none)
    ∙ sym (loans_joined front back (replicate first []))

-- the lists of the functions of loops, in sequence
pub lists_next : (first at next : ℕ) (l : Loop) (rest left : List Loop) (now new whole : List (List ℕ)) → next ≡ at + 1 → left ≡ l ∷ rest → new ≡ put_lists_in first [] (loop_text at l).body now →
    put_lists_of first (loop_texts at left) now ≡ whole → put_lists_of first (loop_texts next rest) new ≡ whole
lists_next first at next l rest left now new whole is_next is_left is_new before =
    let e : next ≡ suc at = omega (arith, is_next) in
    ap (λ k. put_lists_of first (loop_texts k rest) new) e
    ∙ ap (put_lists_of first (loop_texts (suc at) rest)) (is_new ∙ sym (ap (λ ms. put_lists_in first ms (loop_text at l).body now) (loop_marks at l)))
    ∙ sym (ap (λ ls. put_lists_of first (loop_texts at ls) now) is_left)
    ∙ before

-- the loans of the functions of loops do not depend on the index of the first function
pub loans_any : (i j : ℕ) (loops : List Loop) (lists : List (List Loan)) → put_loans_of (loop_texts i loops) lists ≡ put_loans_of (loop_texts j loops) lists
loans_any i j [] lists = refl
loans_any i j (l ∷ loops) lists =
    ap (put_loans_of (loop_texts (suc i) loops)) (loans_emitted i l lists ∙ sym (loans_emitted j l lists))
    ∙ loans_any (suc i) (suc j) loops (put_loans_in (marks_of (loop_text j l).params) (loop_text j l).body lists)

pub loans_next : (l : Loop) (rest left : List Loop) (now new whole : List (List Loan)) → left ≡ l ∷ rest → new ≡ put_loans_in [] l.body now →
    put_loans_of (loop_texts 0 left) now ≡ whole → put_loans_of (loop_texts 0 rest) new ≡ whole
loans_next l rest left now new whole is_left is_new before =
    loans_any 0 1 rest new
    ∙ ap (put_loans_of (loop_texts 1 rest)) (is_new ∙ sym (loans_emitted 0 l now))
    ∙ sym (ap (λ ls. put_loans_of (loop_texts 0 ls) now) is_left)
    ∙ before

-- the functions of loops, in sequence
pub instrs_next : (first at next : ℕ) (l : Loop) (rest left : List Loop) (now new whole : List Instr) → next ≡ at + 1 → left ≡ l ∷ rest → new ≡ now ++ emitted_function first (loop_text at l) →
    now ++ emitted_instrs first (loop_texts at left) ≡ whole → new ++ emitted_instrs first (loop_texts next rest) ≡ whole
instrs_next first at next l rest left now new whole is_next is_left is_new before =
    let code = emitted_function first (loop_text at l) in
    let e : next ≡ suc at = omega (arith, is_next) in
    ap (λ k. new ++ emitted_instrs first (loop_texts k rest)) e
    ∙ ap (λ is. is ++ emitted_instrs first (loop_texts (suc at) rest)) is_new
    ∙ append_assoc now code (emitted_instrs first (loop_texts (suc at) rest))
    ∙ sym (ap (λ ls. now ++ emitted_instrs first (loop_texts at ls)) is_left)
    ∙ before

pub funcs_next : (first at next start end : ℕ) (l : Loop) (rest left : List Loop) (now new : List Instr) (f : Func) (funcs made whole : List Func)
    → next ≡ at + 1 → left ≡ l ∷ rest → new ≡ now ++ emitted_function first (loop_text at l) →
    start ≡ length now → end ≡ length new → f ≡ written_func start end l → made ≡ funcs ++ f ∷ [] →
    funcs ++ emitted_funcs first (length now) (loop_texts at left) ≡ whole → made ++ emitted_funcs first (length new) (loop_texts next rest) ≡ whole
funcs_next first at next start end l rest left now new f funcs made whole is_next is_left is_new is_start is_end is_f is_made before =
    let code = emitted_function first (loop_text at l) in
    let e : next ≡ suc at = omega (arith, is_next) in
    let n : length new ≡ length now + length code = omega (arith, ap length is_new, length-append now code) in
    let f_is : f ≡ emitted_func first (length now) (loop_text at l) =
    is_f ∙ ap (λ k. written_func k end l) is_start ∙ ap (λ k. written_func (length now) k l) (is_end ∙ n) ∙ sym (func_emitted first (length now) at l) in
    let after = emitted_funcs first (length now + length code) (loop_texts (suc at) rest) in
    ap (λ k. made ++ emitted_funcs first (length new) (loop_texts k rest)) e
    ∙ ap (λ k. made ++ emitted_funcs first k (loop_texts (suc at) rest)) n
    ∙ ap (λ fs. fs ++ after) (is_made ∙ ap (λ g. funcs ++ g ∷ []) f_is)
    ∙ append_assoc funcs (emitted_func first (length now) (loop_text at l) ∷ []) after
    ∙ sym (ap (λ ls. funcs ++ emitted_funcs first (length now) (loop_texts at ls)) is_left)
    ∙ before

-- if one of the two lists is at its end, no function is left
pub no_more : (fs : List code.Function) (bodies : List (Vec Line Global)) → (length fs ≡ 0) ⊎ (length bodies ≡ 0) → with_bodies (map function_of fs) (map (λ b. block_of b.items) bodies) ≡ []
no_more [] bodies h = refl
no_more (f ∷ fs) [] h = refl
no_more (f ∷ fs) (b ∷ bodies) (inl h) = absurd (omega (arith, h))
no_more (f ∷ fs) (b ∷ bodies) (inr h) = absurd (omega (arith, h))
