-- The code of statements with inner blocks executes them, if the code of the blocks executes the blocks.
use Rattle.std.proofs.Common.{◌≡◌, ℕ, zero, suc, ◌+◌, ◌-◌, ◌<◌, ◌≤◌, List, [], ◌∷◌, ◌++◌, length, true, false, if◌then◌else◌}
use Rattle.std.proofs.Common.{Option, Some, None, sym, ap, ◌∙◌, subst, arith, append_assoc, length-append, ℤ}
use Rattle.std.specs.Prelude.{slice_get, take, drop}
use Rattle.cw_facts.specs.Tests.{taken}
use Rattle.cw_model.specs.Ints.{Result, is_zero, natural}
use Rattle.cw_model.specs.Syntax.{Name, Expr, While, Cut, Block, Function}
use Rattle.cw_model.specs.Trees.{Series}
use Rattle.cw_model.specs.Frames.{Frame, array_of, new_array, leave}
use Rattle.cw_model.specs.Expressions.{evaluate, and_then, done_at}
use Rattle.cw_model.specs.Outcome.{Outcome, Trace, then_do, joined_up, pay, pay_for}
use Rattle.cw_model.specs.Meaning.{Completion, Normal, ByReturn, Calls, going, onward, scoped, turns, cut_place, uncut, run_all}
use Rattle.cw_model.specs.Meaning as meaning
use Rattle.cw_model.specs.Typing.{Returns, Nowhere, block_returns}
use Rattle.cw_model.specs.Ownership.{CutOf, Taken, cut_ended, is_held, freed, without, own_names, where_it_goes_on, Joins, Leaves}
use Rattle.cw_tree.specs.Resolved.{Lists, Locals, slot_of, with_array}
use Rattle.cw_code.specs.declared.code.BlockKind.{BlockKind}
use Rattle.cw_code.specs.declared.code.Instr.{Instr}
use Rattle.cw_code.specs.declared.code.Instr.TheVariants as instr
use Rattle.cw_code.specs.Code.{Code}
use Rattle.cw_code.specs.Run as run
use Rattle.cw_code.specs.Run.{Around, State, Stuck, RunOutcome, ticked, inside, on_slot, settled, put_in, rejoined, back}
use Rattle.cw_code.specs.Run.{block_event, opened, opened_at, cut_arrays, may_cut, cuts, uncut_arrays, act, go_on, steps}
use Rattle.cw_code.specs.lemmas.Runs.{joined_quiet}
use Rattle.cw_gen.specs.Emit.{most_jump, distance, first_list, halves_at, returns}
use Rattle.cw_gen.proofs.HeldNames.{held_after, held_after_all, held_turn, has_no_half_in}
use Rattle.cw_gen.specs.Marks.{Marks}
use Rattle.cw_gen.proofs.Marked.{owned, read_in, marked_results, IsOwn, AllOwn, settle_owned, settle_read, get_owned, own_behind}
use Rattle.cw_gen.proofs.MarkedCuts.{OwnHalves, cut_numbers, may_cut_owned, cut_owned, cut_read, uncut_owned, uncut_read}
use Rattle.cw_gen.proofs.Fine.{IsWritable, ExprFine, Room, PartsFine, FreeAtEnd, EndsFree}
use Rattle.cw_gen.proofs.Traces.{resume, resume_then, resume_one}
use Rattle.cw_gen.proofs.Places.{HasAt, has_front, has_back, length_within}
use Rattle.cw_gen.proofs.Costs.{value_and_then}
use Rattle.cw_gen.proofs.Takens.{loose_free, holds, held_by_turns, freed_without}
use Rattle.cw_gen.proofs.Scopes.{locals_after_all, extended, names_extend}
use Rattle.cw_gen.proofs.Stores.{Store, Waits, Outside, waits_of, inner_of, joined_with, Agrees, Fills, finds, fills_joined, takes, enters, exits, leaves_block}
use Rattle.cw_gen.proofs.Cutting.{cut_halves, cut_waits, cut_store, uncut_store, can_cut, cut_enters, cut_fills, cut_exits, uncut_fills}
use Rattle.cw_gen.proofs.Passing.{backs}
use Rattle.cw_gen.proofs.Codes.{distance_is, here}
use Rattle.cw_gen.proofs.Texts.{expr_code, stmt_code, block_code, TurnsClose}
use Rattle.cw_gen.proofs.Steps.{one, pays, pays_last, does}
use Rattle.cw_gen.proofs.Values.{expr_runs}
use Rattle.cw_gen.proofs.Simple.{Onwards, Backs, either, test_runs}

module _ (code : Code) (fs : List Function) (lists : Lists) (small : length code.instrs ≤ most_jump) (least : TurnsClose fs) (marks : Marks) (depth : ℕ) (calls : Calls) where
  abbrev at : List Around → ℕ → List ℤ → Store → Trace → State
  at around pc ops store t = here marks depth around pc ops store t

  -- a join: what waits for it returns to slots that are not only read
  pub joins_at : (around : List Around) (pc : ℕ) (store : Store) (w : Waits) (t : Trace) → AllOwn marks store.arrived →
      record (at around pc [] (joined_with store w) t) {
        arrays = settled (marked_results marks store.arrived) (owned marks store.arrays);
        readers = read_in marks store.arrays;
      } ≡ at around pc [] (joined_with store w) t
  joins_at around pc store w t own =
      ap (λ l. record (at around pc [] (joined_with store w) t) { arrays = l; readers = read_in marks store.arrays }) (sym (settle_owned marks store.arrived store.arrays own))
      ∙ ap (λ l. record (at around pc [] (joined_with store w) t) { readers = l }) (sym (settle_read marks store.arrived store.arrays own))

  -- the code of a block between two places executes the block
  abbrev pub BlockRuns : List Around → Returns → (level : ℕ) → Locals → Taken → Block → (pc pc' : ℕ) (size : Room) → Outside → (left : ℕ) → Type 0
  BlockRuns around returns level locals taken' b pc pc' size outer left =
      (store : Store) (frame : Frame) (t : Trace) (l : ℕ) (next : Completion → ℕ → Trace → RunOutcome) → l ≤ left → Agrees locals taken' frame store outer → Fills marks store size →
      (block_returns b ≡ false → Onwards code marks depth around (locals_after_all locals b)
      (held_after_all fs level b taken') pc' outer size l next) → Backs code marks depth returns size around l next →
      steps code l (at around pc [] store t) ≡ resume t (run_all b fs calls frame l) next

  -- the code of a block executes it, and the scope of its names ends with it
  abbrev pub BodyRuns : List Around → Returns → (level : ℕ) → Locals → Taken → Block → (pc pc' : ℕ) (size : Room) → Outside → (left : ℕ) → Type 0
  BodyRuns around returns level locals taken' b pc pc' size outer left =
      (store : Store) (frame : Frame) (t : Trace) (l : ℕ) (next : Completion → ℕ → Trace → RunOutcome) → l ≤ left → Agrees locals taken' frame store outer → Fills marks store size →
      (block_returns b ≡ false → Onwards code marks depth around locals (without (own_names b) (held_after_all fs level b taken')) pc' outer size l
      next) → Backs code marks depth returns size around l next →
      steps code l (at around pc [] store t) ≡ resume t (scoped frame (run_all b fs calls frame) l) next

  -- if the code of a block executes it, it does so with the scope of its names ended
  pub scoped_runs : (around : List Around) (returns : Returns) (level : ℕ) (locals : Locals) (taken' : Taken) (b : Block) (pc pc' : ℕ) (size : Room) (outer : Outside) (left : ℕ) →
      EndsFree fs level Leaves taken' b → BlockRuns around returns level locals taken' b pc pc' size outer left → BodyRuns around returns level locals taken' b pc pc' size outer left
  scoped_runs around returns level locals taken' b pc pc' size outer left free law store frame t l next le a n on backs =
      let ext = names_extend b locals in
      let after_it = held_after_all fs level b taken' in
      law store frame t l (λ way l' u. resume u (onward way (λ g. going (leave frame g)) l') next) le a n
      (λ goes g st l' u ag ln le'.
      on goes (leave frame g) st l' u (leaves_block locals ext.ints ext.arrays
      (own_names b) after_it frame g st outer a.ints.named a.arrays.named a.whole ext.own ext.own_arrays
      (λ q hq. loose_free q after_it (free q hq)) (subst (λ ns. Agrees ns after_it g st outer) ext.same ag)) ln le'
      ∙ ap (next (Normal (leave frame g)) l') (sym (joined_quiet u)))
      (λ v g arrays l' u may gives le'. backs v g arrays l' u may gives le' ∙ ap (next (ByReturn v g) l') (sym (joined_quiet u)))
      ∙ sym (resume_then t (run_all b fs calls frame l) (λ way. onward way (λ g. going (leave frame g))) next)

  -- the code of an inner sync block executes it: the instruction that opens it, the block, and its end
  pub inside_block : (around : List Around) (returns : Returns) (level : ℕ) (locals : Locals) (taken' : Taken) (b : Block) (kind : BlockKind)
      (tag : Option Name) (pc : ℕ) (size : Room) (store : Store) (outer : Outside) (frame : Frame) (t : Trace) (left : ℕ)
      (next : Completion → ℕ → Trace → RunOutcome) →
      level ≡ suc (length outer) → HasAt code.instrs pc (instr.Open kind
      ∷ (block_code (first_list code.sites) marks lists locals b ++ instr.Close ∷ [])) → ((s : State) → act code s (Some (instr.Open kind)) ≡ opened s tag None) →
      EndsFree fs (level + 1) Joins taken' b → Agrees locals taken' frame store outer → Fills marks store size →
      ((around' : List Around) (l : ℕ) → l < left → BlockRuns around' Nowhere (level + 1) locals taken' b (pc + 1)
      (pc + 1 + length (block_code (first_list code.sites) marks lists locals b)) size (waits_of store ∷ outer) l) →
      Onwards code marks depth around locals (freed (level + 1) (without (own_names b) (held_after_all fs (level + 1) b taken')))
      (pc + length (instr.Open kind ∷ (block_code (first_list code.sites) marks lists locals b ++ instr.Close ∷ []))) outer size left next →
      steps code left (at around pc [] store t) ≡ resume t (then_do (pay 1 left)
      (λ _ l. then_do (joined_up (block_event tag) (scoped frame (run_all b fs calls frame) l))
      (λ way. onward way (λ frame' l'. then_do (pay 1 l') (λ _. going frame'))))) next
  inside_block around returns level locals taken' b kind tag pc size store outer frame t left next at_level has opens free a n law on =
      let cb = block_code (first_list code.sites) marks lists locals b in
      let s = at around pc [] store t in
      let around' = run.Block (opened_at s tag None) ∷ around in
      let part = block_event tag in
      let ends : Frame → ℕ → Outcome Completion = λ frame' l'. then_do (pay 1 l') (λ _. going frame') in
      let piece : ℕ → Outcome Completion = scoped frame (run_all b fs calls frame) in
      let all = held_after_all fs (level + 1) b taken' in
      let ext = names_extend b locals in
      let deeper : level + 1 ≡ suc (length (waits_of store ∷ outer)) = omega (arith, at_level) in
      let at_close = (has_back code.instrs (pc + 1) cb (instr.Close ∷ []) has.1).0 in
      let place : pc + 1 + length cb + 1 ≡ pc + length (instr.Open kind ∷ (cb ++ instr.Close ∷ [])) = omega (arith, length-append cb (instr.Close ∷ [])) in
      pays code tt s t left (λ _ l u. resume u (then_do (joined_up part (piece l)) (λ way. onward way ends)) next) (λ l below.
      one code s (instr.Open kind) has.0 l
      ∙ ap (λ w. go_on w l (λ s'. steps code l s')) (opens s)
      ∙ law around' l below (inner_of store) frame (inside (ticked t)) l
      (λ way l' u. resume u (onward way (λ g. going (leave frame g)) l') (λ way' l2 u2. resume (rejoined part (ticked t).events u2) (onward way' ends l2) next))
      (omega arith) (enters locals taken' frame store outer a) (record { ints = n.ints; arrays = n.arrays; own = tt })
      (λ goes g st l' u ag ln le.
      let back = rejoined part (ticked t).events u in
      let frame' = leave frame g in
      let st' = joined_with st (waits_of store) in
      let joined_names : Agrees (extended locals ext.ints ext.arrays) (freed (level + 1) all) g st' outer =
      subst (λ k. Agrees (extended locals ext.ints ext.arrays) (freed k all) g st' outer) (sym deeper)
      (exits (extended locals ext.ints ext.arrays) all g st (waits_of store) outer (subst (λ ns. Agrees ns all g st (waits_of store ∷ outer)) ext.same ag)) in
      let left_names = leaves_block locals ext.ints ext.arrays (own_names b)
      (freed (level + 1) all) frame g st' outer a.ints.named a.arrays.named a.whole ext.own ext.own_arrays
      (λ q hq. loose_free q (freed (level + 1) all) (free q hq)) joined_names in
      pays_last code (Normal frame') (at around' (pc + 1 + length cb) [] st u) back l' next (λ l2 below2.
      one code (at around' (pc + 1 + length cb) [] st u) instr.Close at_close l2
      ∙ ap (λ s'. steps code l2 s') (joins_at around (pc + 1 + length cb + 1) st (waits_of store) (ticked back) ln.own)
      ∙ ap (λ m. steps code l2 (at around m [] st' (ticked back))) place
      ∙ on frame' st' l2 (ticked back) (subst (λ q. Agrees locals q frame' st' outer) (freed_without (level + 1) (own_names b) all) left_names)
      (fills_joined marks st (waits_of store) size n.own ln) (omega arith))
      ∙ ap (λ q. resume (rejoined part (ticked t).events q) (ends frame' l') next) (sym (joined_quiet u)))
      (λ v g arrays l' u may gives le. absurd may)
      ∙ sym (resume_then (inside (ticked t)) (run_all b fs calls frame l) (λ way. onward way (λ g. going (leave frame g)))
      (λ way' l2 u2. resume (rejoined part (ticked t).events u2) (onward way' ends l2) next))
      ∙ sym (resume_one part (ticked t) (piece l) (λ way l' u. resume u (onward way ends l') next))
      ∙ sym (resume_then (ticked t) (joined_up part (piece l)) (λ way. onward way ends) next))
      ∙ sym (resume_then t (pay 1 left) (λ _ l. then_do (joined_up part (piece l)) (λ way. onward way ends)) next)

  -- the code of a cut executes it: the cut, the block in which its parts are known, and its end
  pub cut_runs : (around : List Around) (level : ℕ) (locals : Locals) (taken' : Taken) (x y z : Name) (e : Expr) (b : Block) (line pc : ℕ)
      (size : Room) (store : Store) (outer : Outside) (frame : Frame) (t : Trace) (left : ℕ) (next : Completion → ℕ → Trace → RunOutcome) →
      level ≡ suc (length outer) → HasAt code.instrs pc (stmt_code (first_list code.sites) marks lists locals line (Cut x e y z b)) →
      IsWritable marks locals.arrays taken' x → ExprFine locals taken' e → PartsFine marks size locals y z
      → FreeAtEnd fs (level + 1) Joins ((x, CutOf) ∷ taken') (y ∷ z ∷ own_names b) b → Agrees locals taken' frame store outer → Fills marks store size →
      ((around' : List Around) (l : ℕ) → l < left → (st : Store) (w : Waits) (frame' : Frame) (t' : Trace) (l' : ℕ)
      (next' : Completion → ℕ → Trace → RunOutcome) → l' ≤ l → Agrees (with_array z (with_array y locals)) ((x, CutOf) ∷ taken') frame' st
      (w ∷ outer) → Fills marks st size →
      (block_returns b ≡ false → Onwards code marks depth around' (locals_after_all (with_array z (with_array y locals)) b)
      (held_after_all fs (level + 1) b ((x, CutOf) ∷ taken')) (pc + length (expr_code marks locals line e) + 1
      + length (block_code (first_list code.sites) marks lists (with_array z (with_array y locals)) b)) (w ∷ outer) size l' next')
      → Backs code marks depth Nowhere size around' l' next' →
      steps code l' (at around' (pc + length (expr_code marks locals line e) + 1) [] st t') ≡ resume t' (run_all b fs calls frame' l') next') →
      Onwards code marks depth around locals (held_after fs level (Cut x e y z b) taken')
      (pc + length (stmt_code (first_list code.sites) marks lists locals line (Cut x e y z b))) outer size left next →
      steps code left (at around pc [] store t) ≡ resume t (meaning.run (Cut x e y z b) line fs calls frame left) next
  cut_runs around level locals taken' x y z e b line pc size store outer frame t left next at_level has writable fine parts free a n law on =
      let usable = writable.usable in
      let ce = expr_code marks locals line e in
      let inner = with_array z (with_array y locals) in
      let cb = block_code (first_list code.sites) marks lists inner b in
      let h = cut_halves locals x y in
      let hr = cut_numbers marks h in
      let i = instr.Cut hr line in
      let i0 = instr.Cut (halves_at marks (slot_of x locals.arrays) (length locals.arrays) (suc (length locals.arrays))) line in
      let own_left : IsOwn marks (length locals.arrays) = own_behind marks (length locals.arrays) parts.behind in
      let own_right : IsOwn marks (length (locals.arrays ++ y ∷ [])) = own_behind marks (length (locals.arrays ++ y ∷ [])) (omega (arith, parts.behind, length-append locals.arrays (y ∷ []))) in
      let own_cut : OwnHalves marks h = (writable.own, own_left, own_right) in
      let next_slot : suc (length locals.arrays) ≡ length (locals.arrays ++ y ∷ []) = omega (arith, length-append locals.arrays (y ∷ [])) in
      let has' : HasAt code.instrs pc (ce ++ i ∷ (cb ++ instr.EndCut ∷ [])) =
      subst (λ n. HasAt code.instrs pc (ce ++ instr.Cut (halves_at marks (slot_of x locals.arrays) (length locals.arrays) n) line
      ∷ (cb ++ instr.EndCut ∷ []))) next_slot has in
      let xs = array_of frame x in
      let op : ℤ → Result = cut_place xs in
      let all = held_after_all fs (level + 1) b ((x, CutOf) ∷ taken') in
      let ext = names_extend b inner in
      let deeper : level + 1 ≡ suc (suc (length outer)) = omega (arith, at_level) in
      let behind = has_back code.instrs pc ce (i ∷ (cb ++ instr.EndCut ∷ [])) has' in
      let at_end = (has_back code.instrs (pc + length ce + 1) cb (instr.EndCut ∷ []) behind.1).0 in
      let place : pc + length ce + 1 + length cb + 1 ≡ pc + length (ce ++ i0 ∷ (cb ++ instr.EndCut ∷ [])) =
      omega (arith, length-append ce (i0 ∷ (cb ++ instr.EndCut ∷ [])), length-append cb (instr.EndCut ∷ [])) in
      let parted : ℤ → Frame = λ v. new_array z (drop (natural v) xs) (new_array y (take (natural v) xs) frame) in
      let ends : Frame → ℕ → Outcome Completion = λ frame' l'. then_do (pay 1 l') (λ _. going (uncut x y z frame frame')) in
      let piece : ℤ → ℕ → Outcome Completion = λ v. scoped (parted v) (run_all b fs calls (parted v)) in
      let w = cut_waits locals x xs store in
      let room : suc (suc (length locals.arrays)) ≤ length store.arrays = omega (arith, parts.there, n.arrays) in
      expr_runs code marks depth around locals taken' e line pc [] store outer frame t left
      (λ v l u. resume u (pay_for (done_at 1 (op v)) line l) (λ v' l' u'. resume u'
      (then_do (joined_up (λ q. Series q) (piece v' l')) (λ way. onward way ends)) next))
      (has_front code.instrs pc ce (i ∷ (cb ++ instr.EndCut ∷ [])) has') fine a
      (λ v l u le.
      let s = at around (pc + length ce) (v ∷ []) store u in
      let base : act code s (Some i) ≡ cuts s hr line xs [] (op v) = ap (λ o. on_slot o (λ ys. cuts s hr line ys [] (cut_place ys v)))
      (get_owned marks h.array store.arrays writable.own ∙ finds locals taken' x frame store outer usable a) in
      does code s line (op v) i l (λ v' l' u'. resume u' (then_do (joined_up (λ q. Series q) (piece v' l')) (λ way. onward way ends)) next)
      (λ v'. opened (at around (pc + length ce) [] (record {
        slots = store.slots;
        arrays = cut_arrays h xs (natural v') store.arrays;
        results = store.results;
        arrived = store.arrived;
      }) u) None (Some hr)) behind.0
      (λ v' is. base ∙ ap (cuts s hr line xs []) is
      ∙ taken (may_cut hr (owned marks store.arrays)) (opened (record s
      { operands = []; arrays = cut_arrays hr xs (natural v') (owned marks store.arrays) }) None (Some hr)) Stuck
      (may_cut_owned marks h store.arrays own_cut ∙ can_cut locals taken' x y frame store outer usable room a)
      ∙ ap (λ l. opened (record s { operands = []; arrays = l }) None (Some hr)) (sym (cut_owned marks h xs (natural v') store.arrays own_cut))
      ∙ ap (λ l. opened (record s { operands = []; arrays = owned marks (cut_arrays h xs (natural v') store.arrays); readers = l }) None (Some hr))
      (sym (cut_read marks h xs (natural v') store.arrays own_cut)))
      (λ trap' is. base ∙ ap (cuts s hr line xs []) is)
      (λ v' l' below.
      let around' = run.Block (opened_at s None (Some hr)) ∷ around in
      law around' l' (omega arith) (cut_store locals x y xs (natural v') store) w (parted v') (inside (ticked u)) l'
      (λ way l2 u2. resume u2 (onward way (λ g. going (leave (parted v') g)) l2) (λ way' l3 u3. resume (rejoined (λ q. Series q) (ticked u).events u3) (onward way' ends l3) next))
      (omega arith) (cut_enters locals taken' x y z (natural v') frame store outer usable room a) (cut_fills marks locals x y xs (natural v') store size n)
      (λ goes g st l2 u2 ag ln le2.
      let back = rejoined (λ q. Series q) (ticked u).events u2 in
      let left_inner = leave (parted v') g in
      let frame' = uncut x y z frame left_inner in
      let ended = put_in (at around' (pc + length ce + 1 + length cb) [] st u2) in
      let behind_it = uncut_store locals x y (array_of left_inner y) (array_of left_inner z) st store in
      let done = cut_exits locals taken' x y z xs (natural v') (own_names b) ext.ints ext.arrays all frame g st store outer usable parts.left
      parts.right a (subst (λ ns. Agrees ns all g st (w ∷ outer)) ext.same ag) ext.own ext.own_arrays
      (λ q hq. loose_free q (freed (suc (suc (length outer))) all) (ap (λ k. is_held (freed k all) q) (sym deeper) ∙ free q hq)) in
      pays_last code (Normal frame') (at around' (pc + length ce + 1 + length cb) [] st u2) back l2 next (λ l3 below3.
      one code (at around' (pc + length ce + 1 + length cb) [] st u2) instr.EndCut at_end l3
      ∙ ap (λ o. go_on (on_slot o (λ left'. on_slot (slice_get ended.arrays hr.right)
      (λ right'. run.resumes (record ended { arrays = uncut_arrays hr left' right' ended.arrays }) (opened_at s None (Some hr)) around))) l3
      (λ s'. steps code l3 s')) (ap (λ l. slice_get l hr.left) (sym (settle_owned marks st.arrived st.arrays ln.own))
      ∙ get_owned marks h.left (settled st.arrived st.arrays) own_left ∙ done.left)
      ∙ ap (λ o. go_on (on_slot o (λ right'. run.resumes (record ended { arrays = uncut_arrays hr (array_of left_inner y) right' ended.arrays })
      (opened_at s None (Some hr)) around)) l3 (λ s'. steps code l3 s'))
      (ap (λ l. slice_get l hr.right) (sym (settle_owned marks st.arrived st.arrays ln.own))
      ∙ get_owned marks h.right (settled st.arrived st.arrays) own_right ∙ done.right)
      ∙ ap (λ l. steps code l3 (record (at around (pc + length ce + 1 + length cb + 1) [] behind_it (ticked back))
      { arrays = uncut_arrays hr (array_of left_inner y) (array_of left_inner z) l; readers = read_in marks st.arrays }))
      (sym (settle_owned marks st.arrived st.arrays ln.own))
      ∙ ap (λ l. steps code l3 (record (at around (pc + length ce + 1 + length cb + 1) [] behind_it (ticked back))
      { arrays = l; readers = read_in marks st.arrays })) (sym (uncut_owned marks h (array_of left_inner y) (array_of left_inner z)
      (settled st.arrived st.arrays) own_cut))
      ∙ ap (λ l. steps code l3 (record (at around (pc + length ce + 1 + length cb + 1) [] behind_it (ticked back)) { readers = l }))
      (sym (uncut_read marks h (array_of left_inner y) (array_of left_inner z) (settled st.arrived st.arrays) own_cut
      ∙ settle_read marks st.arrived st.arrays ln.own))
      ∙ ap (λ m. steps code l3 (at around m [] (uncut_store locals x y (array_of left_inner y) (array_of left_inner z) st store) (ticked back))) place
      ∙ on frame' (uncut_store locals x y (array_of left_inner y) (array_of left_inner z) st store) l3 (ticked back)
      (subst (λ k. Agrees locals (cut_ended x (freed k (without (y ∷ z ∷ own_names b) all))) frame'
      (uncut_store locals x y (array_of left_inner y) (array_of left_inner z) st store) outer) (sym deeper) done.agrees)
      (uncut_fills marks locals x y (array_of left_inner y) (array_of left_inner z) st store size n.own ln) (omega arith))
      ∙ ap (λ q. resume (rejoined (λ p. Series p) (ticked u).events q) (ends left_inner l2) next) (sym (joined_quiet u2)))
      (λ v2 g arrays l2 u2 may gives le2. absurd may)
      ∙ sym (resume_then (inside (ticked u)) (run_all b fs calls (parted v') l') (λ way. onward way (λ g. going (leave (parted v') g)))
      (λ way' l2 u2. resume (rejoined (λ q. Series q) (ticked u).events u2) (onward way' ends l2) next))
      ∙ sym (resume_one (λ q. Series q) (ticked u) (piece v' l') (λ way l2 u2. resume u2 (onward way ends l2) next))
      ∙ sym (resume_then (ticked u) (joined_up (λ q. Series q) (piece v' l')) (λ way. onward way ends) next)))
      ∙ sym (resume_then t (pay_for (evaluate e frame) line left) (λ v l. pay_for (done_at 1 (op v)) line l)
      (λ v' l' u'. resume u' (then_do (joined_up (λ q. Series q) (piece v' l')) (λ way. onward way ends)) next))
      ∙ sym (ap (λ o. resume t o (λ v' l' u'. resume u' (then_do (joined_up (λ q. Series q) (piece v' l')) (λ way. onward way ends)) next)) (value_and_then (evaluate e frame) op line left))
      ∙ sym (resume_then t (pay_for (and_then (evaluate e frame) op) line left) (λ v' l'. then_do (joined_up (λ q. Series q) (piece v' l')) (λ way. onward way ends)) next)

  -- a distance within the code fits in an instruction
  pub in_reach : (pc : ℕ) (a b : List Instr) (i : Instr) → HasAt code.instrs pc (a ++ i ∷ b) → distance (length b) ≡ length b
  in_reach pc a b i has = distance_is (length b) (omega (arith, length_within code.instrs pc (a ++ i ∷ b) has, small, length-append a (i ∷ b)))

  -- the code of a `while` executes its iterations
  pub while_runs : (n : ℕ) (around : List Around) (returns : Returns) (level : ℕ) (locals : Locals) (taken' : Taken) (e : Expr) (b : Block)
      (line pc : ℕ) (size : Room) (outer : Outside) (left : ℕ) → has_no_half_in b ≡ true →
      HasAt code.instrs pc (stmt_code (first_list code.sites) marks lists locals line (While e b)) → ExprFine locals (held_after fs level (While e b) taken') e →
      BodyRuns around returns level locals (held_after fs level (While e b) taken') b (pc + length (expr_code marks locals line e) + 1)
      (pc + length (expr_code marks locals line e) + 1 + length (block_code (first_list code.sites) marks lists locals b)) size outer left →
      (store : Store) (frame : Frame) (t : Trace) (l : ℕ) (next : Completion → ℕ → Trace → RunOutcome) → l < n → l ≤ left
      → Agrees locals (held_after fs level (While e b) taken') frame store outer → Fills marks store size →
      Onwards code marks depth around locals (held_after fs level (While e b) taken')
      (pc + length (stmt_code (first_list code.sites) marks lists locals line (While e b))) outer size l next → Backs code marks depth returns size around l next →
      steps code l (at around pc [] store t) ≡ resume t (turns n (evaluate e) line (λ frame'. scoped frame' (run_all b fs calls frame')) frame l) next
  while_runs zero around returns level locals taken' e b line pc size outer left no_half has fine body store frame t l next below le a m on backs = absurd (omega arith)
  while_runs (suc n) around returns level locals taken' e b line pc size outer left no_half has fine body store frame t l next below le a m on backs =
      let all = held_after fs level (While e b) taken' in
      let ce = expr_code marks locals line e in
      let cb = block_code (first_list code.sites) marks lists locals b in
      let j = instr.GoBack (distance (length ce + 1 + length cb)) in
      let i = instr.SkipIfZero (distance (length (cb ++ j ∷ []))) in
      let at_test = has_back code.instrs pc ce (i ∷ (cb ++ j ∷ [])) has in
      let at_back = (has_back code.instrs (pc + length ce + 1) cb (j ∷ []) at_test.1).0 in
      let n_body : length (cb ++ j ∷ []) ≡ length cb + 1 = length-append cb (j ∷ []) in
      let n_all : length (ce ++ i ∷ (cb ++ j ∷ [])) ≡ length ce + 1 + length cb + 1 = omega (arith, length-append ce (i ∷ (cb ++ j ∷ [])), n_body) in
      let reach = in_reach pc ce (cb ++ j ∷ []) i has in
      let reach_back : distance (length ce + 1 + length cb) ≡ length ce + 1 + length cb =
      distance_is (length ce + 1 + length cb) (omega (arith, length_within code.instrs pc (ce ++ i ∷ (cb ++ j ∷ [])) has, n_all, small)) in
      let there : pc + length ce + 1 + distance (length (cb ++ j ∷ [])) ≡ pc + length (ce ++ i ∷ (cb ++ j ∷ [])) = omega (arith, n_all, n_body, reach) in
      let home : pc + length ce + 1 + length cb - distance (length ce + 1 + length cb) ≡ pc = omega (arith, reach_back) in
      let has_test : HasAt code.instrs pc (ce ++ i ∷ []) = has_front code.instrs pc (ce ++ i ∷ []) (cb ++ j ∷ [])
      (subst (λ is. HasAt code.instrs pc is) (sym (append_assoc ce (i ∷ []) (cb ++ j ∷ []))) has) in
      let turn : Frame → ℕ → Outcome Completion = λ g. scoped g (run_all b fs calls g) in
      let again : Frame → ℕ → Outcome Completion = λ frame' l'. then_do (pay 1 l') (λ _. turns n (evaluate e) line turn frame') in
      let more : ℕ → Outcome Completion = λ l'. then_do (turn frame l') (λ way. onward way again) in
      test_runs code marks depth around locals all e line pc (distance (length (cb ++ j ∷ []))) store outer frame (λ v. if is_zero v then going frame else more) t l next has_test fine a
      (λ v l' u le'. either code marks depth around (is_zero v) (pc + length ce + 1 + distance (length (cb ++ j ∷ []))) (pc + length ce + 1) store (going frame) more l' u next
      (ap (λ q. steps code l' (at around q [] store u)) there ∙ on frame store l' u a m le' ∙ ap (next (Normal frame) l') (sym (joined_quiet u)))
      (body store frame u l' (λ way l2 u2. resume u2 (onward way again l2) next) (omega arith) a m
      (λ goes frame' store' l2 u2 a' m' le2.
      pays code tt (at around (pc + length ce + 1 + length cb) [] store' u2) u2 l2 (λ _ l3 u3. resume u3 (turns n (evaluate e) line turn frame' l3) next) (λ l3 below3.
      one code (at around (pc + length ce + 1 + length cb) [] store' u2) j at_back l3
      ∙ ap (λ q. steps code l3 (at around q [] store' (ticked u2))) home
      ∙ while_runs n around returns level locals taken' e b line pc size outer left no_half has fine body store' frame' (ticked u2) l3 next (omega arith) (omega arith)
      (takes locals (without (own_names b) (held_after_all fs level b all)) all frame' store' outer
      (λ cuts d x h. held_by_turns cuts (held_turn fs level b) taken' all (least level e b taken' no_half) d x
      (ap (λ r. holds cuts d x (where_it_goes_on r (without (own_names b) (held_after_all fs level b all)))) goes ∙ h)) a') m'
      (λ g st l4 u4 ag ln le4. on g st l4 u4 ag ln (omega arith)) (λ v' g arrays l4 u4 may gives le4. backs v' g arrays l4 u4 may gives (omega arith)))
      ∙ sym (resume_then u2 (pay 1 l2) (λ _. turns n (evaluate e) line turn frame') next))
      (λ v' g arrays l2 u2 may gives le2. backs v' g arrays l2 u2 may gives (omega arith) ∙ ap (next (ByReturn v' g) l2) (sym (joined_quiet u2)))
      ∙ sym (resume_then u (turn frame l') (λ way. onward way again) next)))
