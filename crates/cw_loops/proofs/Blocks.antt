-- Writes to arrays, blocks, branches and iterations, in the frame of the source and in the frame of the function.
use Rattle.std.proofs.Common.{◌≡◌, ℕ, ◌+◌, Bool, true, false, ℤ, pos, List, [], ◌++◌, length, take, refl, sym, ◌∙◌, ap, length-append}
use Rattle.std.specs.Prelude.{if◌then◌else◌, ◌&&◌, Option, slice_set}
use Rattle.std.proofs.lemmas.List.{length-set}
use Rattle.std.proofs.Math.Seq.{take-append-add, take-append_seam}
use Rattle.std.proofs.lemmas.Bool.{and_parts}
use Rattle.cw_model.specs.Ints.{fits, natural}
use Rattle.cw_model.specs.Syntax.{Name, Expr, AssignElement, Function}
use Rattle.cw_model.specs.Names.{is_among, find, put}
use Rattle.cw_model.specs.Frames.{Frame, set_array, leave}
use Rattle.cw_model.specs.Expressions.{Gives, evaluate, and_then, dearer, element, index_cost, written}
use Rattle.cw_model.specs.Outcome.{quiet, Done, Piece}
use Rattle.cw_model.specs.Meaning.{Completion, Normal, ByReturn, onward, going, scoped, Calls, run}
use Rattle.cw_loops.specs.Lowered.{lower_index, lower_expr}
use Rattle.cw_loops.specs.Lowerable.{Surroundings, is_local, is_variable, can_evaluate, can_lower}
use Rattle.cw_loops.proofs.Alike.{Alike, alike_then}
use Rattle.cw_loops.proofs.Cuts.{alike_right}
use Rattle.cw_loops.proofs.Tables.{keys}
use Rattle.cw_loops.proofs.Fitting.{Good, ValueFits, Kept, kept_same, kept_then, sizes-put, sizes-leave, find_fine, fit-take, fine-put, fine-take, then_fits, dearer_fits, evaluate_fits}
use Rattle.cw_loops.proofs.Worlds.{World, Rel, related, source, target, find_in, put_in, local_same, variable_gives, spot_gives, sliced_cost, local_cost, evaluate_same, can_fit}
use Rattle.cw_loops.proofs.Statements.{OptionFits, Out, goes, returns, OutAll, alike_done, value_then, values_then, keys-take}
use Rattle.cw_loops.proofs.Statements.{length-keys, placed, placed_fits, written_is, and_then_same, fine_set, rel_set_array}

written_fits : (xs : List ℤ) (i v : ℤ) → fits v ≡ true → ValueFits (written xs i v)
written_fits xs i v f = rw (written_is xs i v) (placed_fits v (element xs i) f)

kept_put : (a : Name) (xs : List ℤ) (i : ℕ) (v : ℤ) (t : List (Name × List ℤ)) → xs ≡ find [] a t → Kept t (put a (slice_set xs i v) t)
kept_put a xs i v t e = kept_same t (put a (slice_set xs i v) t) (sizes-put a (slice_set xs i v) t (length-set xs i v ∙ ap length e))

module _ (c : Surroundings) (fo go : List (Name × ℤ)) (Slot : (fa ga : List (Name × List ℤ)) → Type 0) (w : World c fo go Slot) (ints arrays : List Name)
    (loc : List (Name × ℤ)) (fa ga la : List (Name × List ℤ)) (slot : Slot fa ga) (ki : keys loc ≡ ints) (ka : keys la ≡ arrays) (good : Good (source c fo loc fa la)) where
  abbrev f0 : Frame
  f0 = source c fo loc fa la

  abbrev g0 : Frame
  g0 = target go loc ga la

  write_local : (a : Name) (i e : Expr) → is_local c a ≡ true → can_evaluate c i ≡ true → can_evaluate c e ≡ true → (line left : ℕ) (fs fs' : List Function) (calls calls' : Calls) →
      Alike (Out c fo go Slot ints arrays f0) left (run (AssignElement a i e) line fs calls f0 left) (run (AssignElement a (lower_expr c.over i) (lower_expr c.over e)) line fs' calls' g0 left)
  write_local a i e here can_i can_e line left fs fs' calls calls' =
      let xs : List ℤ = find [] a (fa ++ la) in
      let ys_is : find [] a (ga ++ la) ≡ xs = local_same c fo go Slot w fa ga la slot a here in
      let index_is : dearer 0 (evaluate (lower_expr c.over i) g0) ≡ dearer (index_cost f0 a) (evaluate i f0) =
      ap (λ ev. dearer 0 ev) (evaluate_same c fo go Slot w i can_i loc fa ga la slot) ∙ ap (λ k. dearer k (evaluate i f0)) (sym (local_cost c fo go Slot w a here loc fa la)) in
      value_then (dearer (index_cost f0 a) (evaluate i f0)) (dearer 0 (evaluate (lower_expr c.over i) g0)) line left index_is
      (dearer_fits (index_cost f0 a) (evaluate i f0) (evaluate_fits i f0 good (can_fit c i can_i))) _ _ (λ at l f le.
      value_then (and_then (evaluate e f0) (written xs at)) (and_then (evaluate (lower_expr c.over e) g0) (written (find [] a (ga ++ la)) at)) line l
      (ap (λ ev. and_then ev (written (find [] a (ga ++ la)) at)) (evaluate_same c fo go Slot w e can_e loc fa ga la slot) ∙ ap (λ ys. and_then (evaluate e f0) (written ys at)) ys_is)
      (then_fits (evaluate e f0) (written xs at) (evaluate_fits e f0 good (can_fit c e can_e)) (λ v g. written_fits xs at v g)) _ _ (λ v l' f' le'.
      alike_right (ap (λ ys. Done (Normal (set_array a (slice_set ys (natural at) v) g0)) l' quiet) ys_is)
      (alike_done l' (goes (rel_set_array c fo go Slot w ints arrays loc fa ga la slot ki ka good a (slice_set xs (natural at) v) here
      (fine_set xs (natural at) v f' (find_fine a (fa ++ la) good.arrays)))
      (kept_put a xs (natural at) v (fa ++ la) refl)))))

  write_slice : (a : Name) (i e : Expr) → is_among a c.over ≡ true → is_variable c i ≡ true → can_evaluate c e ≡ true → (line left : ℕ) (fs fs' : List Function) (calls calls' : Calls) →
      Alike (Out c fo go Slot ints arrays f0) left (run (AssignElement a i e) line fs calls f0 left)
      (run (AssignElement a (lower_index true (lower_expr c.over i)) (lower_expr c.over e)) line fs' calls' g0 left)
  write_slice a i e o can_i can_e line left fs fs' calls calls' =
      let there : is_among a (keys fa) ≡ true = rw (w.arrays_are fa ga slot) (w.over_outside a o) in
      let there' : is_among a (keys ga) ≡ true = rw (w.over_are fa ga slot) o in
      let xs : List ℤ = find [] a (fa ++ la) in
      let ys : List ℤ = find [] a (ga ++ la) in
      let xs_is : xs ≡ find [] a fa = find_in [] a fa la there in
      let ys_is : ys ≡ find [] a ga = find_in [] a ga la there' in
      let index_is : dearer (index_cost f0 a) (evaluate i f0) ≡ Gives (pos w.place) 3 =
      ap (λ k. dearer k (evaluate i f0)) (sliced_cost c fo go Slot w a o loc fa la) ∙ ap (λ ev. dearer 2 ev) (variable_gives c fo go Slot w a o i can_i loc fa la) in
      let index_is' : dearer 0 (evaluate (lower_index true (lower_expr c.over i)) g0) ≡ Gives (pos w.spot) 3 = ap (λ ev. dearer 0 ev) (spot_gives c fo go Slot w a o i can_i loc ga la) in
      let same : (v : ℤ) → written ys (pos w.spot) v ≡ written xs (pos w.place) v = λ v.
      written_is ys (pos w.spot) v ∙ ap (placed v) (ap (λ zs. element zs (pos w.spot)) ys_is ∙ sym (w.same_element fa ga slot a o)
      ∙ ap (λ zs. element zs (pos w.place)) (sym xs_is)) ∙ sym (written_is xs (pos w.place) v) in
      values_then (dearer (index_cost f0 a) (evaluate i f0)) (dearer 0 (evaluate (lower_index true (lower_expr c.over i)) g0)) (pos w.place) (pos w.spot) 3 line left index_is index_is' _ _ (λ l le.
      value_then (and_then (evaluate e f0) (written xs (pos w.place))) (and_then (evaluate (lower_expr c.over e) g0) (written ys (pos w.spot))) line l
      (ap (λ ev. and_then ev (written ys (pos w.spot))) (evaluate_same c fo go Slot w e can_e loc fa ga la slot)
      ∙ and_then_same (evaluate e f0) (written ys (pos w.spot)) (written xs (pos w.place)) same)
      (then_fits (evaluate e f0) (written xs (pos w.place)) (evaluate_fits e f0 good (can_fit c e can_e)) (λ v g. written_fits xs (pos w.place) v g)) _ _ (λ v l' f' le'.
      let p : put a (slice_set xs w.place v) (fa ++ la) ≡ put a (slice_set (find [] a fa) w.place v) fa ++ la =
      put_in a (slice_set xs w.place v) fa la there ∙ ap (λ zs. put a (slice_set zs w.place v) fa ++ la) xs_is in
      let q : put a (slice_set ys w.spot v) (ga ++ la) ≡ put a (slice_set (find [] a ga) w.spot v) ga ++ la =
      put_in a (slice_set ys w.spot v) ga la there' ∙ ap (λ zs. put a (slice_set zs w.spot v) ga ++ la) ys_is in
      let g : Good (source c fo loc (put a (slice_set (find [] a fa) w.place v) fa) la) =
      record {
        ints = good.ints;
        arrays = rw (← p) (fine-put a (slice_set xs w.place v) (fa ++ la)
            (fine_set xs w.place v f' (find_fine a (fa ++ la) good.arrays)) good.arrays);
      } in
      alike_done l' (goes (rw (p, q) (related loc (put a (slice_set (find [] a fa) w.place v) fa) (put a (slice_set (find [] a ga) w.spot v) ga) la (w.put_element fa ga slot a o v f') ki ka g))
      (kept_put a xs w.place v (fa ++ la) refl))))

  -- the end of a block
  leave_out : (mi ma : List Name) {way way' : Completion} → Out c fo go Slot (ints ++ mi) (arrays ++ ma) f0 way way' → (l : ℕ) →
      Alike (Out c fo go Slot ints arrays f0) l (onward way (λ f. going (leave f0 f)) l) (onward way' (λ g. going (leave g0 g)) l)
  leave_out mi ma (returns r f g k) l = alike_done l (returns r f g k)
  leave_out mi ma (goes (related loc' fa' ga' la' slot' ki' ka' good') kept) l =
      let same_fa : length fa ≡ length fa' = sym (length-keys fa) ∙ ap length (w.arrays_are fa ga slot ∙ sym (w.arrays_are fa' ga' slot')) ∙ length-keys fa' in
      let same_ga : length ga ≡ length ga' = sym (length-keys ga) ∙ ap length (w.over_are fa ga slot ∙ sym (w.over_are fa' ga' slot')) ∙ length-keys ga' in
      let loc_length : length loc ≡ length ints = sym (length-keys loc) ∙ ap length ki in
      let la_length : length la ≡ length arrays = sym (length-keys la) ∙ ap length ka in
      let p : take (length (fo ++ loc)) (fo ++ loc') ≡ fo ++ take (length loc) loc' = ap (λ n. take n (fo ++ loc')) (length-append fo loc) ∙ take-append-add fo loc' (length loc) in
      let q : take (length (go ++ loc)) (go ++ loc') ≡ go ++ take (length loc) loc' = ap (λ n. take n (go ++ loc')) (length-append go loc) ∙ take-append-add go loc' (length loc) in
      let r : take (length (fa ++ la)) (fa' ++ la') ≡ fa' ++ take (length la) la' =
      ap (λ n. take n (fa' ++ la')) (length-append fa la ∙ ap (λ n. n + length la) same_fa) ∙ take-append-add fa' la' (length la) in
      let s : take (length (ga ++ la)) (ga' ++ la') ≡ ga' ++ take (length la) la' =
      ap (λ n. take n (ga' ++ la')) (length-append ga la ∙ ap (λ n. n + length la) same_ga) ∙ take-append-add ga' la' (length la) in
      let ki2 : keys (take (length loc) loc') ≡ ints = keys-take (length loc) loc' ∙ ap (λ t. take (length loc) t) ki' ∙ ap (λ n. take n (ints ++ mi)) loc_length ∙ take-append_seam ints mi in
      let ka2 : keys (take (length la) la') ≡ arrays = keys-take (length la) la' ∙ ap (λ t. take (length la) t) ka' ∙ ap (λ n. take n (arrays ++ ma)) la_length ∙ take-append_seam arrays ma in
      let g : Good (source c fo (take (length loc) loc') fa' (take (length la) la')) =
      record {
        ints = rw (← p) (fit-take (length (fo ++ loc)) (fo ++ loc') good'.ints);
        arrays = rw (← r) (fine-take (length (fa ++ la)) (fa' ++ la') good'.arrays);
      } in
      alike_done l (goes (rw (p, q, r, s) (related (take (length loc) loc') fa' ga' (take (length la) la') slot' ki2 ka2 g))
      (kept_same (fa ++ la) (take (length (fa ++ la)) (fa' ++ la')) (sizes-leave (fa ++ la) (fa' ++ la') kept)))

  pub scoped_alike : (piece piece' : Piece Completion) (left : ℕ) → Alike (OutAll c fo go Slot ints arrays f0) left (piece left) (piece' left)
      → Alike (Out c fo go Slot ints arrays f0) left (scoped f0 piece left) (scoped g0 piece' left)
  scoped_alike piece piece' left h = alike_then h (λ way way' l r le. leave_out r.more_ints r.more_arrays r.out l)

  pub write_alike : (a : Name) (i e : Expr) → can_lower c ints arrays (AssignElement a i e) ≡ true → (line left : ℕ) (fs fs' : List Function) (calls calls' : Calls) →
      Alike (Out c fo go Slot ints arrays f0) left (run (AssignElement a i e) line fs calls f0 left)
      (run (AssignElement a (lower_index (is_among a c.over) (lower_expr c.over i)) (lower_expr c.over e)) line fs' calls' g0 left)
  write_alike a i e can line left fs fs' calls calls' = by_test (is_among a c.over) refl can
    where
      by_test : (b : Bool) → is_among a c.over ≡ b → ((if b then is_variable c i else (is_local c a && can_evaluate c i)) && can_evaluate c e) ≡ true →
          Alike (Out c fo go Slot ints arrays f0) left (run (AssignElement a i e) line fs calls f0 left)
          (run (AssignElement a (lower_index b (lower_expr c.over i)) (lower_expr c.over e)) line fs' calls' g0 left)
      by_test true o g = let p = and_parts (is_variable c i) (can_evaluate c e) g in write_slice a i e o p.0 p.1 line left fs fs' calls calls'
      by_test false o g = let p = and_parts (is_local c a && can_evaluate c i) (can_evaluate c e) g in let q =
          and_parts (is_local c a) (can_evaluate c i) p.0 in write_local a i e q.0 q.1 p.1 line left fs fs' calls calls'

-- the relation from an earlier frame
pub out_before : {c : Surroundings} {fo go : List (Name × ℤ)} {Slot : (fa ga : List (Name × List ℤ)) → Type 0} {ints arrays : List Name}
    (before f : Frame) {way way' : Completion} → Kept before.arrays f.arrays →
    Out c fo go Slot ints arrays f way way' → Out c fo go Slot ints arrays before way way'
out_before before f k (goes {f = f'} rel kept) = goes rel (kept_then before.arrays f.arrays f'.arrays k kept)
out_before before f k (returns {f = f'} r fit g kept) = returns r fit g (kept_then before.arrays f.arrays f'.arrays k kept)

-- a completion, and the continuation of a normal completion
pub onward_then : {c : Surroundings} {fo go : List (Name × ℤ)} {Slot : (fa ga : List (Name × List ℤ)) → Type 0} {ints arrays : List Name}
    (S : Completion → Completion → Type 0) {before : Frame} {way way' : Completion} (l : ℕ) →
    Out c fo go Slot ints arrays before way way' → (next next' : Frame → Piece Completion) →
    ((v : Option ℤ) (f : Frame) → c.returns ≡ true → OptionFits v → Good f → Kept before.arrays f.arrays → S (ByReturn v f) (ByReturn v f)) →
    ((f g : Frame) → Rel c fo go Slot ints arrays f g → Kept before.arrays f.arrays → Alike S l (next f l) (next' g l)) → Alike S l (onward way next l) (onward way' next' l)
onward_then S l (goes {f = f} {g = g} rel kept) next next' h k = k f g rel kept
onward_then S l (returns {v = v} {f = f} r fit g kept) next next' h k = alike_done l (h v f r fit g kept)

pub alike_if : {A B : Type 0} {S : A → B → Type 0} (b : Bool) (p q : Piece A) (p' q' : Piece B) (l : ℕ) → Alike S l (p l) (p' l)
    → Alike S l (q l) (q' l) → Alike S l ((if b then p else q) l) ((if b then p' else q') l)
alike_if true p q p' q' l h g = h
alike_if false p q p' q' l h g = g
