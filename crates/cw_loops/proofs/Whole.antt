-- A lowered program has the answers of its source.
use Rattle.std.proofs.Common.{◌≡◌, ℕ, zero, suc, ◌+◌, ◌-◌, ◌<◌, Bool, true, false, ℤ, pos, List, [], ◌∷◌, ◌++◌, length, arith, refl, sym, ◌∙◌, ap, append_assoc, append-nil, subst}
use Rattle.std.specs.Prelude.{if◌then◌else◌, not, nat_lt, map, None}
use Rattle.std.specs.List.{list_all}
use Rattle.cw_facts.specs.Tests.{not_true}
use Rattle.cw_model.specs.declared.limits.TheConstants.{MOST_DEPTH}
use Rattle.cw_model.specs.Ints.{fits}
use Rattle.cw_model.specs.declared.trap.Trap.TheVariants as trap
use Rattle.cw_model.specs.Trees.{Join, tree_of, normal, Marked, Invocation}
use Rattle.cw_model.specs.TreeLaws.{in_mark}
use Rattle.cw_model.specs.lemmas.Regrouping.{same_normal}
use Rattle.cw_model.specs.Syntax.{Name, Param, Function, Reducer, Program, is_array_param}
use Rattle.cw_model.specs.Names.{differ}
use Rattle.cw_model.specs.Frames.{Frame, no_frame, new_int}
use Rattle.cw_model.specs.Outcome.{Outcome, Trapped, then_do, Piece, shows}
use Rattle.cw_model.specs.Meaning.{Completion, Returned, Deeper, function_named, run_all, end_of_call, call}
use Rattle.cw_model.specs.Answers.{Ended, TrappedAt, total_to, int_given, answer_of, main_frame, main_name, serial_answer}
use Rattle.cw_loops.specs.Lowered.{is_plain, loop_count_in, lower_block, made_in, lower_function, lower_functions, made_of, lowered}
use Rattle.cw_loops.specs.Lowerable.{nothing_around, integers_of, arrays_of, can_lower_all, can_lower_function, is_lowerable}
use Rattle.cw_loops.specs.lemmas.Finding.{Found, found_left, found_right, looked, fs', all_found, params_same}
use Rattle.cw_loops.proofs.Alike.{Alike, Whole, whole_done, whole_trapped, whole_over, as_whole, alike_then, alike_after, alike_pay, same_events}
use Rattle.cw_loops.proofs.LeafCall.{whole_left, whole_right}
use Rattle.cw_loops.proofs.Tables.{keys}
use Rattle.cw_loops.proofs.Arguments.{Fresh, keys-append}
use Rattle.cw_loops.proofs.Fitting.{Good, fit-append}
use Rattle.cw_loops.proofs.Worlds.{World, Rel, related, source, target}
use Rattle.cw_loops.proofs.Statements.{Out, goes, returns, alike_done}
use Rattle.cw_loops.proofs.Slices.{differ_distinct}
use Rattle.cw_loops.proofs.Fresh.{fresh_from}
use Rattle.cw_loops.proofs.Calls.{CallSame, same_call}
use Rattle.std.specs.Prelude.{sum_by}
use Rattle.std.proofs.lemmas.List.Sums.{sum_by-append, sum_by-cons}
use Rattle.std.proofs.lemmas.Bool.{and_parts}
use Rattle.cw_model.specs.Sizes.{function_size, static_size}
use Rattle.cw_loops.proofs.Sizes.{size_block}
use Rattle.cw_loops.proofs.Simulation.{block_alike}

params_once : (fs : List Function) → list_all (can_lower_function fs) fs ≡ true → (g : Name) → is_plain g ≡ true → Fresh [] (arrays_of (function_named g fs).params)
params_once fs can g plain =
    let l = looked fs can g plain in
    let n = and_parts (is_plain l.f.name) _ l.can in
    let d = and_parts (differ (arrays_of l.f.params)) _ n.1 in
    subst (λ (f : Function). Fresh [] (arrays_of f.params)) (sym l.is) (fresh_from (arrays_of l.f.params) [] (differ_distinct (arrays_of l.f.params) d.0) (λ a o. refl))

abbrev deep_or : Bool → ℕ → Piece Returned → Piece Returned
deep_or b line piece = if b then (λ left. Trapped trap.TooDeep line []) else piece

call_deeper : (bound depth : ℕ) (fs : List Function) (f : Function) (given : Frame) (line left : ℕ) →
    call (suc bound) depth fs Deeper f given line left
    ≡ deep_or (nat_lt MOST_DEPTH (depth + 1)) line (λ left. then_do (run_all f.body fs (call bound (depth + 1) fs) given left) (λ way l. end_of_call way l)) left
unfolding call
call_deeper bound depth fs f given line left = refl

-- outside of all loops both frames are equal
abbrev TopSlot : (fa ga : List (Name × List ℤ)) → Type 0
TopSlot fa ga = (fa ≡ []) × (ga ≡ [])

top_world : (fs : List Function) → World (nothing_around fs) [] [] TopSlot
top_world fs = record {
  outer_is = refl;
  given_is = refl;
  shared_same = λ x h. absurd cc;
  arrays_are = λ fa ga s. ap keys s.0;
  over_are = λ fa ga s. ap keys s.1;
  over_sliced = λ a h. absurd cc;
  over_outside = λ a h. absurd cc;
  place = 0;
  spot = 0;
  lowest = pos 0;
  variable_is = λ a h. absurd cc;
  variable_too = λ a h. absurd cc;
  low_is = λ a h. absurd cc;
  spot_is = λ a h. absurd cc;
  spot_fits = λ a h. absurd cc;
  same_element = λ fa ga s a h. absurd cc;
  put_element = λ fa ga s a h. absurd cc;
  top = λ r fa ga s. (refl, s.0 ∙ sym s.1, refl);
}

module _ (fs : List Function) (can : list_all (can_lower_function fs) fs ≡ true) where
  abbrev CallOk : ℕ → Type 0
  CallOk n = (g : Name) → is_plain g ≡ true → (depth : ℕ) (given : Frame) (line left bound bound' : ℕ) → left < n → left < bound → left < bound' → Good given → given.sliced ≡ [] →
      keys given.ints ≡ integers_of (function_named g fs).params → keys given.arrays ≡ arrays_of (function_named g fs).params →
      Whole (CallSame given) left (call bound depth fs Deeper (function_named g fs) given line left) (call bound' depth (fs' fs can) Deeper (function_named g (fs' fs can)) given line left)

  ended : (given : Frame) {way way' : Completion} (l : ℕ) (is as' : List Name) → Out (nothing_around fs) [] [] TopSlot is as' given way way'
      → Alike (CallSame given) l (end_of_call way l) (end_of_call way' l)
  ended given l is as' (returns r fit g kept) = alike_done l (same_call fit g kept)
  ended given l is as' (goes {f = f} (related loc fa ga la slot ki ka good) kept) =
      let same_frame : target [] loc ga la ≡ source (nothing_around fs) [] loc fa la = ap (λ t. record { ints = loc; arrays = t ++ la; sliced = [] }) (slot.1 ∙ sym slot.0) in
      rw same_frame (alike_after {t = shows (Join ∷ [])} {u = shows (Join ∷ [])} (omega arith) refl refl (same_events (Join ∷ []))
      (alike_pay 1 l _ _ (λ enough. alike_done (l - 1) (same_call {v = None} tt good kept))))

  -- a call in the source, and the call of the lowered function
  one_call : (n : ℕ) → CallOk n → (f : Function) (k : ℕ) → can_lower_function fs f ≡ true → Found (fs' fs can) (made_in k f.body)
      → (depth : ℕ) (given : Frame) (line left bound bound' : ℕ) → left < suc n → left < suc bound → left < suc bound' →
      Good given → given.sliced ≡ [] → keys given.ints ≡ integers_of f.params → keys given.arrays ≡ arrays_of f.params →
      Whole (CallSame given) left (call (suc bound) depth fs Deeper f given line left) (call (suc bound') depth (fs' fs can) Deeper (lower_function k f) given line left)
  one_call n more f k can_f made depth given line left bound bound' h h1 h2 good ks ki ka =
      whole_left (call_deeper bound depth fs f given line left) (whole_right
      (call_deeper bound' depth (fs' fs can) (lower_function k f) given line left) (by_test (nat_lt MOST_DEPTH (depth + 1)) refl))
    where
      given_is : source (nothing_around fs) [] given.ints [] given.arrays ≡ given
      given_is = ap (λ t. record { ints = given.ints; arrays = given.arrays; sliced = t }) (sym ks)

      rel : Rel (nothing_around fs) [] [] TopSlot (integers_of f.params) (arrays_of f.params) given given
      rel =
          let r : Rel (nothing_around fs) [] [] TopSlot (integers_of f.params) (arrays_of f.params) (source (nothing_around fs) [] given.ints [] given.arrays) (target [] given.ints [] given.arrays) =
          related given.ints [] [] given.arrays (refl, refl) ki ka (subst Good (sym given_is) good) in
          subst (λ f'. Rel (nothing_around fs) [] [] TopSlot (integers_of f.params) (arrays_of f.params) f' f') given_is r

      by_test : (b : Bool) → nat_lt MOST_DEPTH (depth + 1) ≡ b →
          Whole (CallSame given) left (deep_or b line (λ left. then_do (run_all f.body fs (call bound (depth + 1) fs) given left) (λ way l. end_of_call way l)) left)
          (deep_or b line (λ left. then_do (run_all (lower_block [] k f.body) (fs' fs can) (call bound' (depth + 1) (fs' fs can)) given left) (λ way l. end_of_call way l)) left)
      by_test true e = whole_trapped refl
      by_test false e =
          let p = and_parts (is_plain f.name) _ can_f in
          let q = and_parts (differ (arrays_of f.params)) (can_lower_all (nothing_around fs) (integers_of f.params) (arrays_of f.params) f.body) p.1 in
          as_whole (alike_then (block_alike fs (fs' fs can) (call bound (depth + 1) fs) (depth + 1) e left (params_same fs can) (params_once fs can)
          (λ g plain given' line' l bound'' e1 e2 good' ks' ki' ka'. more g plain (depth + 1) given' line' l bound bound'' (omega arith) (omega arith) e2 good' ks' ki' ka')
          f.body (nothing_around fs) [] [] TopSlot (top_world fs) refl (integers_of f.params) (arrays_of f.params) q.1 k made given given rel left bound' (omega arith) (omega arith))
          (λ way way' l o le. ended given l _ _ o.out))

  calls_ok : (n : ℕ) → CallOk n
  calls_ok zero g plain depth given line left bound bound' h h1 h2 good ks ki ka = absurd (omega arith)
  calls_ok (suc n) g plain depth given line left zero bound' h h1 h2 good ks ki ka = absurd (omega arith)
  calls_ok (suc n) g plain depth given line left (suc bound) zero h h1 h2 good ks ki ka = absurd (omega arith)
  calls_ok (suc n) g plain depth given line left (suc bound) (suc bound') h h1 h2 good ks ki ka =
      let l = looked fs can g plain in
      whole_left (ap (λ f. call (suc bound) depth fs Deeper f given line left) l.is)
      (whole_right (ap (λ f. call (suc bound') depth (fs' fs can) Deeper f given line left) l.is')
      (one_call n (calls_ok n) l.f l.number l.can l.made depth given line left bound bound' h h1 h2 good ks
      (ki ∙ ap (λ (f : Function). integers_of f.params) l.is) (ka ∙ ap (λ (f : Function). arrays_of f.params) l.is)))

-- the answer of main

main_good : (ps : List Param) (args : List ℤ) (frame : Frame) → Good frame → list_all fits args ≡ true → Good (main_frame ps args frame)
main_good [] args frame g h = g
main_good (p ∷ ps) [] frame g h = g
main_good (p ∷ ps) (v ∷ args) frame g h =
    let q = and_parts (fits v) (list_all fits args) h in
    main_good ps args (new_int p.name v frame) (record { ints = fit-append frame.ints ((p.name, v) ∷ []) g.ints (q.0, tt); arrays = g.arrays }) q.1

main_ints : (ps : List Param) (args : List ℤ) (frame : Frame) → length args ≡ length ps → list_all (λ p. not (is_array_param p)) ps ≡ true
    → keys (main_frame ps args frame).ints ≡ keys frame.ints ++ integers_of ps
main_ints [] args frame n h = sym (append-nil (keys frame.ints))
main_ints (p ∷ ps) [] frame n h = absurd (omega arith)
main_ints (p ∷ ps) (v ∷ args) frame n h =
    let q = and_parts (not (is_array_param p)) (list_all (λ p. not (is_array_param p)) ps) h in
    main_ints ps args (new_int p.name v frame) (omega arith) q.1 ∙ ap (λ t. t ++ integers_of ps) (keys-append frame.ints ((p.name, v) ∷ []))
    ∙ append_assoc (keys frame.ints) (p.name ∷ []) (integers_of ps)
    ∙ ap (λ b. keys frame.ints ++ (if b then integers_of ps else p.name ∷ integers_of ps)) (sym (not_true (is_array_param p) q.0))

main_arrays : (ps : List Param) (args : List ℤ) (frame : Frame) → length args ≡ length ps → list_all (λ p. not (is_array_param p)) ps ≡ true
    → keys (main_frame ps args frame).arrays ≡ keys frame.arrays ++ arrays_of ps
main_arrays [] args frame n h = sym (append-nil (keys frame.arrays))
main_arrays (p ∷ ps) [] frame n h = absurd (omega arith)
main_arrays (p ∷ ps) (v ∷ args) frame n h =
    let q = and_parts (not (is_array_param p)) (list_all (λ p. not (is_array_param p)) ps) h in
    main_arrays ps args (new_int p.name v frame) (omega arith) q.1 ∙ ap (λ b. keys frame.arrays ++ (if b then p.name ∷ arrays_of ps else arrays_of ps)) (sym (not_true (is_array_param p) q.0))

main_sliced : (ps : List Param) (args : List ℤ) (frame : Frame) → (main_frame ps args frame).sliced ≡ frame.sliced
main_sliced [] args frame = refl
main_sliced (p ∷ ps) [] frame = refl
main_sliced (p ∷ ps) (v ∷ args) frame = main_sliced ps args (new_int p.name v frame)

same_answer : {given : Frame} {left : ℕ} {o o' : Outcome Returned} (reducers : List Reducer) → Whole (CallSame given) left o o' → answer_of reducers o' ≡ answer_of reducers o
same_answer reducers (whole_done {t = t} {u = u} (same_call {v = v} fit g kept) le lines updates tree) =
    let n : normal (Marked (Invocation 0) (tree_of u.events)) ≡ normal (Marked (Invocation 0) (tree_of t.events)) =
    sym (same_normal (Marked (Invocation 0) (tree_of t.events)) (Marked (Invocation 0) (tree_of u.events)) (in_mark (Invocation 0) tree)) in
    ap (λ ls. Ended (int_given v) ls (map (λ r. total_to r.how r.name u.updates) reducers) (normal (Marked (Invocation 0) (tree_of u.events)))) (sym lines)
    ∙ ap (λ as'. Ended (int_given v) t.lines (map (λ r. total_to r.how r.name as') reducers) (normal (Marked (Invocation 0) (tree_of u.events)))) (sym updates)
    ∙ ap (λ x. Ended (int_given v) t.lines (map (λ r. total_to r.how r.name t.updates) reducers) x) n
same_answer reducers (whole_trapped {trap = trap} {line = line} e) = ap (TrappedAt trap line) (sym e)
same_answer reducers whole_over = refl

-- a lowered program has the answers of its source, for a list of 64-bit arguments as long as the parameter list of main
pub lowered_answers : (p : Program) (args : List ℤ) (limit : ℕ) → is_lowerable p ≡ true → list_all fits args ≡ true
    → length args ≡ length (function_named main_name p.functions).params → list_all (λ q. not (is_array_param q)) (function_named main_name p.functions).params ≡ true →
    serial_answer (lowered p) args limit ≡ serial_answer p args limit
unfolding serial_answer
lowered_answers p args limit can args_fit as_many no_arrays =
    let fs : List Function = p.functions in
    let l = looked fs can main_name refl in
    let main : Function = function_named main_name fs in
    let given : Frame = main_frame main.params args no_frame in
    let main' : Function = function_named main_name (fs' fs can) in
    let params : main'.params ≡ main.params = params_same fs can main_name refl in
    let lines : main'.line ≡ main.line = ap (λ (f : Function). f.line) l.is' ∙ sym (ap (λ (f : Function). f.line) l.is) in
    let whole : Whole (CallSame given) limit (call (suc limit) 0 fs Deeper main given main.line limit) (call (suc limit) 0 (fs' fs can) Deeper main' given main.line limit) =
    calls_ok fs can (suc limit) main_name refl 0 given main.line limit (suc limit) (suc limit) (omega arith) (omega arith) (omega arith)
    (main_good main.params args no_frame (record { ints = tt; arrays = tt }) args_fit)
    (main_sliced main.params args no_frame) (main_ints main.params args no_frame as_many no_arrays) (main_arrays main.params args no_frame as_many no_arrays) in
    ap (λ ps. answer_of p.reducers (call (suc limit) 0 (fs' fs can) Deeper main' (main_frame ps args no_frame) main'.line limit)) params
    ∙ ap (λ n. answer_of p.reducers (call (suc limit) 0 (fs' fs can) Deeper main' given n limit)) lines
    ∙ same_answer p.reducers whole

-- the sizes

sizes_add : (all0 fs all : List Function) (k : ℕ) → ((g : Name) → is_plain g ≡ true → (function_named g all).params ≡ (function_named g all0).params)
    → list_all (can_lower_function all0) fs ≡ true → Found all (made_of k fs) →
    sum_by (function_size all) (lower_functions k fs) + sum_by (function_size all) (made_of k fs) ≡ sum_by (function_size all0) fs
sizes_add all0 [] all k keep h found = omega arith
sizes_add all0 (f ∷ fs) all k keep h found =
    let p = and_parts (can_lower_function all0 f) (list_all (can_lower_function all0) fs) h in
    let n = and_parts (is_plain f.name) _ p.0 in
    let d = and_parts (differ (arrays_of f.params)) (can_lower_all (nothing_around all0) (integers_of f.params) (arrays_of f.params) f.body) n.1 in
    let x = made_in k f.body in
    let y = made_of (k + loop_count_in f.body) fs in
    let one = size_block all0 all keep f.body (nothing_around all0) (integers_of f.params) (arrays_of f.params) (λ a o. absurd cc) d.1 k (found_left all x y found) in
    let more = sizes_add all0 fs all (k + loop_count_in f.body) keep p.1 (found_right all x y found) in
    omega (
      arith,
      one,
      more,
      sum_by-append (function_size all) x y,
      sum_by-cons (function_size all) (lower_function k f)
          (lower_functions (k + loop_count_in f.body) fs),
      sum_by-cons (function_size all0) f fs,
    )

pub lowered_size : (p : Program) → is_lowerable p ≡ true → static_size (lowered p) ≡ static_size p
lowered_size p can =
    let fs : List Function = p.functions in
    sum_by-append (function_size (fs' fs can)) (lower_functions 0 fs) (made_of 0 fs) ∙ sizes_add fs fs (fs' fs can) 0 (params_same fs can) can (all_found fs can)
