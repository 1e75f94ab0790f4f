-- The code of each function of a lowered program executes the function.
use Rattle.std.proofs.Common.{◌≡◌, ℕ, zero, suc, ◌+◌, ◌-◌, ◌≤◌, List, [], ◌++◌, length, Bool, true, false, if◌then◌else◌, nat_lt}
use Rattle.std.proofs.Common.{Option, Some, None, refl, sym, ap, ◌∙◌, subst, arith, length-append, ℤ, pos, true≢false}
use Rattle.std.specs.Prelude.{replicate}
use Rattle.std.proofs.lemmas.List.{length-replicate, length-map}
use Rattle.cw_facts.specs.Tests.{taken, not_taken}
use Rattle.cw_model.specs.declared.trap.Trap.TheVariants as trap
use Rattle.cw_model.specs.declared.limits.TheConstants.{MOST_DEPTH}
use Rattle.cw_model.specs.Syntax.{Function}
use Rattle.cw_model.specs.Frames.{Frame, no_frame}
use Rattle.cw_model.specs.Outcome.{Trapped, then_do, Piece}
use Rattle.cw_model.specs.Meaning.{Returned, Calls, depth_of, end_of_call, run_all, call}
use Rattle.cw_model.specs.Typing.{WithInt, Alone, block_returns}
use Rattle.cw_tree.specs.Resolved.{Lists, locals_of}
use Rattle.cw_code.specs.declared.code.Func.{Func}
use Rattle.cw_code.specs.declared.code.Instr.TheVariants as instr
use Rattle.cw_code.specs.Code.{Code, reducer_names}
use Rattle.cw_code.specs.Run.{synced, settled, full}
use Rattle.cw_code.specs.lemmas.Runs.{joined_quiet}
use Rattle.cw_gen.specs.Emit.{most_jump, first_list, emitted_end}
use Rattle.cw_gen.proofs.HeldNames.{held_after_all}
use Rattle.cw_gen.proofs.Marked.{owned, marked_results}
use Rattle.cw_gen.proofs.Fine.{Begins, marks_for}
use Rattle.cw_gen.proofs.Traces.{resume, resume_then}
use Rattle.cw_gen.proofs.Places.{HasAt, has_front, has_back}
use Rattle.cw_gen.proofs.Scopes.{locals_after_all, names_extend}
use Rattle.cw_gen.proofs.Stores.{Agrees, Fills}
use Rattle.cw_gen.proofs.Codes.{Bound, first_store, here, gives_back, Outermost, GivenBy, MayGive}
use Rattle.cw_gen.proofs.Texts.{block_code, returns_of, room_of_func, Compiled, Table, TurnsClose}
use Rattle.cw_gen.proofs.Steps.{one, syncs}
use Rattle.cw_gen.proofs.Calling.{CallsRun}
use Rattle.cw_gen.proofs.StatementRuns.{block_runs}

module _ (code : Code) (fs : List Function) (lists : Lists) (small : length code.instrs ≤ most_jump) (least : TurnsClose fs) where
  params_agree : (f : Function) (fn : Func) → Compiled code fs lists f fn → (vs : List ℤ) (xss : List (List ℤ)) (given : Frame)
      → Bound f.params vs xss no_frame given → Agrees (locals_of f.params) [] given (first_store fn vs xss) []
  params_agree f fn compiled vs xss given b = record {
    ints = record { named = b.ints; rest = replicate (fn.slots - fn.params) (pos 0); held = ap (λ l. full (l ++ replicate (fn.slots - fn.params) (pos 0))) (sym b.values); levels = (tt, tt) };
    arrays = record {
      named = b.arrays;
      rest = replicate (fn.arrays - fn.array_params) [];
      held = ap (λ l. full (l ++ replicate (fn.arrays - fn.array_params) [])) (sym b.elements);
      levels = (tt, tt);
    };
    whole = b.whole;
  }

  -- the slots of a call are complete at its begin
  first_fills : (f : Function) (fn : Func) → Compiled code fs lists f fn → (vs : List ℤ) (xss : List (List ℤ)) → length vs ≡ fn.params
      → length xss ≡ fn.array_params + fn.readers → Fills (marks_for f.params) (first_store fn vs xss) (room_of_func f fn)
  first_fills f fn compiled vs xss n m =
      let none : List ℤ = [] in
      record {
        ints = length-map (vs ++ replicate (fn.slots - fn.params) (pos 0)) (λ v. Some v)
            ∙ omega (arith, length-append vs (replicate (fn.slots - fn.params) (pos 0)), length-replicate (fn.slots - fn.params) (pos 0), compiled.room, n);
        arrays = length-map (xss ++ replicate (fn.arrays - fn.array_params) none) (λ v. Some v)
            ∙ omega (
              arith,
              length-append xss (replicate (fn.arrays - fn.array_params) none),
              length-replicate (fn.arrays - fn.array_params) none,
              compiled.array_room,
              m,
            );
        own = tt;
      }

  -- the result of a function is one that its returns allow
  given_by : (f : Function) (v : Option ℤ) (b : Bool) → f.gives_int ≡ b → MayGive (returns_of f) v → GivenBy f v
  given_by f (Some v) b e may = tt
  given_by f None true e may =
      let may' : MayGive WithInt None = subst (λ q. MayGive (if q then WithInt else Alone) None) e may in
      absurd (true≢false may')
  given_by f None false e may = e

  -- a call begins outside of all blocks
  outside_of : (b : Bool) → Outermost (if b then WithInt else Alone) []
  outside_of true = refl
  outside_of false = refl

  -- a function whose body ends without a return has no result
  goes_without : (f : Function) (fn : Func) → Compiled code fs lists f fn → block_returns f.body ≡ false → f.gives_int ≡ false
  goes_without f fn compiled goes = cases f.gives_int refl
    where
      cases : (b : Bool) → f.gives_int ≡ b → b ≡ false
      cases true e = absurd (true≢false (sym (compiled.returns e) ∙ goes))
      cases false e = refl

  -- calls execute their functions, from any depth
  pub calls_run : (table : Table code fs lists) (reducers_are : reducer_names code.reducers ≡ lists.reducers) (tags_are : code.tags ≡ lists.tags)
      → (bound depth : ℕ) → CallsRun code fs lists bound depth (λ e g given line left. call bound depth fs e g given line left)
  unfolding call
  calls_run table reducers_are tags_are zero depth = record {
    enters = λ entry h f fn compiled vs xss given n m bound_frame around line left t next below k. absurd (omega arith);
    traps = λ h f given line left below. absurd (omega arith);
  }
  calls_run table reducers_are tags_are (suc bound) depth = record {
    enters = λ entry h f fn compiled vs xss given n m bound_frame around line left t next below k.
        let inner = depth_of entry depth in
        let size = room_of_func f fn in
        let params = locals_of f.params in
        let marks = marks_for f.params in
        let body = block_code (first_list code.sites) marks lists params f.body in
        let end = fn.start + length body in
        let store = first_store fn vs xss in
        let ext = names_extend f.body params in
        let calls : Calls = λ e g given' line' left'. call bound inner fs e g given' line' left' in
        block_runs code fs lists small least table reducers_are tags_are marks inner h bound calls (calls_run table reducers_are tags_are bound inner)
        around (returns_of f) 1 params [] f.body fn.start size store [] given t left (λ way l u. resume u (end_of_call way l) next)
        refl (outside_of f.gives_int) (omega arith) (has_front code.instrs fn.start body (emitted_end f.gives_int) compiled.stands) compiled.fine (params_agree f fn compiled vs xss given bound_frame)
        (first_fills f fn compiled vs xss n m)
        (λ goes g st l u ag ln le.
        let nothing = goes_without f fn compiled goes in
        let there : HasAt code.instrs end (emitted_end false) = subst (λ b. HasAt code.instrs end (emitted_end b)) nothing
        (has_back code.instrs fn.start body (emitted_end f.gives_int) compiled.stands) in
        let begins : Begins size.given (locals_after_all params f.body).arrays = record { more = ext.arrays; is = ap (λ ls. ls.arrays) ext.same } in
        syncs code (None, g) (here marks inner around end [] st u) u l next (λ l' below'.
        one code (here marks inner around end [] st u) instr.Return there.0 l'
        ∙ k None g (settled (marked_results marks st.arrived) (owned marks st.arrays)) l' (synced u) nothing
        (gives_back marks size (locals_after_all params f.body) (held_after_all fs 1 f.body []) g st [] refl begins ag ln.own) (omega arith)))
        (λ v g arrays l u may gives le. k v g arrays l u (given_by f v f.gives_int refl may) gives le ∙ ap (next (v, g) l) (sym (joined_quiet u)))
        ∙ sym (resume_then t (run_all f.body fs calls given left) (λ way. end_of_call way) next)
        ∙ sym (ap (λ (piece : Piece Returned). resume t (piece left) next)
        (not_taken (nat_lt MOST_DEPTH inner) (λ left'. Trapped trap.TooDeep line [])
        (λ left'. then_do (run_all f.body fs calls given left') (λ way. end_of_call way)) h));
    traps = λ h f given line left below.
        ap (λ (piece : Piece Returned). piece left) (taken (nat_lt MOST_DEPTH (depth + 1)) (λ left'. Trapped trap.TooDeep line [])
        (λ left'. then_do (run_all f.body fs (λ e g given' line' left''. call bound (depth + 1) fs e g given' line' left'') given left')
        (λ way. end_of_call way)) h);
  }
