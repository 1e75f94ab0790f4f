-- A cut of the source and its lowered text.
use Rattle.std.proofs.Common.{◌≡◌, ℕ, ◌+◌, ◌-◌, ◌≤◌, Bool, true, false, ℤ, pos, negsuc, List, [], ◌∷◌, ◌++◌, length, take, drop}
use Rattle.std.proofs.Common.{arith, refl, sym, ◌∙◌, ap, append_assoc, subst, length-append, length-drop}
use Rattle.std.specs.Prelude.{nat_lt, if◌then◌else◌}
use Rattle.std.proofs.lemmas.Bool.{ltb-false}
use Rattle.std.proofs.lemmas.List.{length-take-le}
use Rattle.std.proofs.Math.Seq.{take-append-add, take-append_seam, take-length}
use Rattle.cw_model.specs.Ints.{Result, Value, Fails}
use Rattle.cw_model.specs.declared.trap.Trap.TheVariants as trap
use Rattle.cw_model.specs.Trees.{Series}
use Rattle.cw_model.specs.Syntax.{Name, Expr, Cut, Block, Function}
use Rattle.cw_model.specs.Names.{same_name, is_among, find, put}
use Rattle.cw_model.specs.Frames.{Frame, new_array, set_array, leave}
use Rattle.cw_model.specs.Expressions.{Evaluated, Gives, Traps, evaluate, and_then, done_at}
use Rattle.cw_model.specs.Outcome.{then_do, ◌>>=◌, pay, joined_up}
use Rattle.cw_model.specs.Meaning.{Normal, onward, going, scoped, Calls, cut_place, uncut, run, run_all}
use Rattle.cw_loops.specs.Lowered.{lower_expr}
use Rattle.cw_loops.specs.Lowerable.{Surroundings, can_evaluate, is_local}
use Rattle.cw_loops.specs.lemmas.Naming.{none_among, among_left}
use Rattle.cw_loops.proofs.Alike.{Alike, alike_pay, alike_then, alike_one, series_keeps, as_whole}
use Rattle.cw_loops.proofs.Tables.{keys}
use Rattle.cw_loops.proofs.Arguments.{keys-append, find_at}
use Rattle.cw_loops.proofs.Cuts.{alike_right}
use Rattle.cw_loops.proofs.Fitting.{Good, Fine, find_fine, fit-take, fine-take, fine-append, elements-append, elements-take}
use Rattle.cw_loops.proofs.Fitting.{elements-drop, Kept, kept_same, kept_then, sizes, sizes-put, sizes-leave, find-sizes}
use Rattle.cw_loops.proofs.Worlds.{World, Rel, related, source, target, find_in, evaluate_same, local_same, local_outer}
use Rattle.cw_loops.proofs.Statements.{Out, goes, returns, alike_done, keys-take, length-keys, kept_more, rel_set_array}
use Rattle.cw_loops.proofs.Blocks.{onward_then}
use Rattle.cw_loops.proofs.Control.{BlockAlike, in_scope}
use Rattle.cw_loops.proofs.Calls.{keys-sizes, among_there}
use Rattle.cw_loops.proofs.Loop.{GivesSuch, ResultSuch, such_then}

-- a position within an array
record CutAt (xs : List ℤ) (v : ℤ) : Type 0 where
  place : ℕ
  is : v ≡ pos place
  within : place ≤ length xs

cut_at : (xs : List ℤ) (v : ℤ) → ResultSuch (CutAt xs) (cut_place xs v)
cut_at xs (negsuc n) = tt
cut_at xs (pos n) = go (nat_lt (length xs) n) refl
  where
    go : (b : Bool) → nat_lt (length xs) n ≡ b → ResultSuch (CutAt xs) (if b then Fails trap.OutOfBounds else Value (pos n))
    go true e = tt
    go false e = record { place = n; is = refl; within = ltb-false (length xs) n e }

such_then_done : (P : ℤ → Type 0) (ev : Evaluated) (op : ℤ → Result) → ((v : ℤ) → ResultSuch P (op v)) → GivesSuch P (and_then ev op)
such_then_done P (Traps trap k) op h = tt
such_then_done P (Gives v k) op h = go (op v) (h v)
  where
    go : (r : Result) → ResultSuch P r → GivesSuch P (done_at (k + 1) r)
    go (Value w) h = h
    go (Fails trap) h = tt

three : {A : Type 0} (xs ys zs ws : List A) → ((xs ++ ys) ++ zs) ++ ws ≡ xs ++ ((ys ++ zs) ++ ws)
three xs ys zs ws = ap (λ t. t ++ ws) (append_assoc xs ys zs) ∙ append_assoc xs (ys ++ zs) ws

module _ (c : Surroundings) (fo go : List (Name × ℤ)) (Slot : (fa ga : List (Name × List ℤ)) → Type 0) (w : World c fo go Slot) (ints arrays : List Name)
    (loc : List (Name × ℤ)) (fa ga la : List (Name × List ℤ)) (slot : Slot fa ga) (ki : keys loc ≡ ints) (ka : keys la ≡ arrays) (good : Good (source c fo loc fa la))
    (a l r : Name) (here : is_local c a ≡ true) (l_local : is_local c l ≡ true) (r_local : is_local c r ≡ true) (l_new : is_among l arrays ≡ false)
    (r_new : is_among r arrays ≡ false) (r_other : same_name r l ≡ false) where
  abbrev f0 : Frame
  f0 = source c fo loc fa la

  abbrev g0 : Frame
  g0 = target go loc ga la

  abbrev xs : List ℤ
  xs = find [] a (fa ++ la)

  abbrev inside : Frame → ℕ → Frame
  inside f n = new_array r (drop n xs) (new_array l (take n xs) f)

  part_new : (b : Name) → is_local c b ≡ true → is_among b arrays ≡ false → is_among b (keys (fa ++ la)) ≡ false
  part_new b bl bn = ap (λ t. is_among b t) (keys-append fa la) ∙ none_among b (keys fa) (keys la) (local_outer c fo go Slot w fa ga slot b bl) (ap (λ t. is_among b t) ka ∙ bn)

  xs_fine : Fine xs
  xs_fine = find_fine a (fa ++ la) good.arrays

  rel_inside : (n : ℕ) → n ≤ length xs → Rel c fo go Slot ints ((arrays ++ l ∷ []) ++ r ∷ []) (inside f0 n) (inside g0 n)
  rel_inside n le =
      let l1 : List (Name × List ℤ) = (l, take n xs) ∷ [] in
      let r1 : List (Name × List ℤ) = (r, drop n xs) ∷ [] in
      let f1 : Fine (take n xs) = record { short = omega (arith, xs_fine.short, length-take-le n xs le); elements = elements-take n xs xs_fine.elements } in
      let f2 : Fine (drop n xs) = record { short = omega (arith, xs_fine.short, length-drop n xs); elements = elements-drop n xs xs_fine.elements } in
      let names : keys ((la ++ l1) ++ r1) ≡ (arrays ++ l ∷ []) ++ r ∷ [] = keys-append (la ++ l1) r1 ∙ ap (λ t. t ++ r ∷ []) (keys-append la l1 ∙ ap (λ t. t ++ l ∷ []) ka) in
      let fine = fine-append ((fa ++ la) ++ l1) r1 (fine-append (fa ++ la) l1 good.arrays (f1, tt)) (f2, tt) in
      let g : Good (source c fo loc fa ((la ++ l1) ++ r1)) = record { ints = good.ints; arrays = rw (← three fa la l1 r1) fine } in
      rw (three fa la l1 r1, three ga la l1 r1) (related loc fa ga ((la ++ l1) ++ r1) slot ki names g)

  -- the end of the cut
  uncut_out : (n : ℕ) → n ≤ length xs → (f' g' : Frame) → Rel c fo go Slot ints ((arrays ++ l ∷ []) ++ r ∷ []) f' g' → Kept (inside f0 n).arrays f'.arrays →
      Out c fo go Slot ints arrays f0 (Normal (uncut a l r f0 f')) (Normal (uncut a l r g0 g'))
  uncut_out n le f' g' (related loc' fa' ga' la' slot' ki' ka' good') kept =
      let l1 : List (Name × List ℤ) = (l, take n xs) ∷ [] in
      let r1 : List (Name × List ℤ) = (r, drop n xs) ∷ [] in
      let in0 : List (Name × List ℤ) = ((fa ++ la) ++ l1) ++ r1 in
      let same_fa : length fa ≡ length fa' = sym (length-keys fa) ∙ ap length (w.arrays_are fa ga slot ∙ sym (w.arrays_are fa' ga' slot')) ∙ length-keys fa' in
      let same_ga : length ga ≡ length ga' = sym (length-keys ga) ∙ ap length (w.over_are fa ga slot ∙ sym (w.over_are fa' ga' slot')) ∙ length-keys ga' in
      let loc_length : length loc ≡ length ints = sym (length-keys loc) ∙ ap length ki in
      let la_length : length la ≡ length arrays = sym (length-keys la) ∙ ap length ka in
      let p1 : take (length (fo ++ loc)) (fo ++ loc') ≡ fo ++ take (length loc) loc' = ap (λ n. take n (fo ++ loc')) (length-append fo loc) ∙ take-append-add fo loc' (length loc) in
      let q1 : take (length (go ++ loc)) (go ++ loc') ≡ go ++ take (length loc) loc' = ap (λ n. take n (go ++ loc')) (length-append go loc) ∙ take-append-add go loc' (length loc) in
      let p2 : take (length (fa ++ la)) (fa' ++ la') ≡ fa' ++ take (length la) la' =
      ap (λ n. take n (fa' ++ la')) (length-append fa la ∙ ap (λ n. n + length la) same_fa) ∙ take-append-add fa' la' (length la) in
      let q2 : take (length (ga ++ la)) (ga' ++ la') ≡ ga' ++ take (length la) la' =
      ap (λ n. take n (ga' ++ la')) (length-append ga la ∙ ap (λ n. n + length la) same_ga) ∙ take-append-add ga' la' (length la) in
      let ki2 : keys (take (length loc) loc') ≡ ints = keys-take (length loc) loc' ∙ ap (λ t. take (length loc) t) ki' ∙ ap (λ n. take n ints) loc_length ∙ take-length ints in
      let ka2 : keys (take (length la) la') ≡ arrays = keys-take (length la) la'
      ∙ ap (λ t. take (length la) t) (ka' ∙ append_assoc arrays (l ∷ []) (r ∷ [])) ∙ ap (λ n. take n (arrays ++ l ∷ r ∷ [])) la_length
      ∙ take-append_seam arrays (l ∷ r ∷ []) in
      let good2 : Good (source c fo (take (length loc) loc') fa' (take (length la) la')) =
      record {
        ints = rw (← p1) (fit-take (length (fo ++ loc)) (fo ++ loc') good'.ints);
        arrays = rw (← p2) (fine-take (length (fa ++ la)) (fa' ++ la') good'.arrays);
      } in
      let f_is : leave f0 (source c fo loc' fa' la') ≡ source c fo (take (length loc) loc') fa' (take (length la) la') = rw (p1, p2) refl in
      let g_is : leave g0 (target go loc' ga' la') ≡ target go (take (length loc) loc') ga' (take (length la) la') = rw (q1, q2) refl in
      let lf : List ℤ = find [] l (fa' ++ la') in
      let rf : List ℤ = find [] r (fa' ++ la') in
      let lg_is : find [] l (ga' ++ la') ≡ lf = local_same c fo go Slot w fa' ga' la' slot' l l_local in
      let rg_is : find [] r (ga' ++ la') ≡ rf = local_same c fo go Slot w fa' ga' la' slot' r r_local in
      let l_there : is_among l (keys (sizes in0)) ≡ true = ap (λ t. is_among l t) (keys-sizes in0 ∙ keys-append ((fa ++ la) ++ l1) r1)
      ∙ among_left l (keys ((fa ++ la) ++ l1)) (r ∷ []) (among_there l (take n xs) (fa ++ la) []) in
      let r_there : is_among r (keys (sizes in0)) ≡ true = ap (λ t. is_among r t) (keys-sizes in0) ∙ among_there r (drop n xs) ((fa ++ la) ++ l1) [] in
      let l_found : find [] l in0 ≡ take n xs = ap (λ t. find [] l t) (append_assoc (fa ++ la) l1 r1) ∙ find_at [] l (take n xs) (fa ++ la) r1 (part_new l l_local l_new) in
      let r_past : is_among r (keys ((fa ++ la) ++ l1)) ≡ false = ap (λ t. is_among r t) (keys-append (fa ++ la) l1)
      ∙ none_among r (keys (fa ++ la)) (l ∷ []) (part_new r r_local r_new) (ap (λ b. if b then true else false) r_other) in
      let r_found : find [] r in0 ≡ drop n xs = find_at [] r (drop n xs) ((fa ++ la) ++ l1) [] r_past in
      let l_long : length lf ≡ length (take n xs) = find-sizes l (fa' ++ la') ∙ ap (λ u. find 0 l u) kept.is ∙ find_in 0 l (sizes in0) kept.more l_there ∙ sym (find-sizes l in0) ∙ ap length l_found in
      let r_long : length rf ≡ length (drop n xs) = find-sizes r (fa' ++ la') ∙ ap (λ u. find 0 r u) kept.is ∙ find_in 0 r (sizes in0) kept.more r_there ∙ sym (find-sizes r in0) ∙ ap length r_found in
      let both_long : length (lf ++ rf) ≡ length xs = length-append lf rf ∙ omega (arith, l_long, r_long, length-take-le n xs le, length-drop n xs) in
      let fine : Fine (lf ++ rf) = record {
        short = omega (arith, both_long, xs_fine.short);
        elements = elements-append lf rf (find_fine l (fa' ++ la') good'.arrays).elements (find_fine r (fa' ++ la') good'.arrays).elements;
      } in
      let earlier : Kept (fa ++ la) (fa' ++ la') = kept_then (fa ++ la) in0 (fa' ++ la')
      (kept_then (fa ++ la) ((fa ++ la) ++ l1) in0 (kept_more (fa ++ la) l1) (kept_more ((fa ++ la) ++ l1) r1)) kept in
      let left_sizes : sizes (fa' ++ take (length la) la') ≡ sizes (fa ++ la) = ap sizes (sym p2) ∙ sizes-leave (fa ++ la) (fa' ++ la') earlier in
      let a_long : length (lf ++ rf) ≡ length (find [] a (fa' ++ take (length la) la')) = both_long ∙ find-sizes a (fa ++ la)
      ∙ ap (λ u. find 0 a u) (sym left_sizes) ∙ sym (find-sizes a (fa' ++ take (length la) la')) in
      let rel : Rel c fo go Slot ints arrays (set_array a (lf ++ rf) (leave f0 (source c fo loc' fa' la')))
      (set_array a (find [] l (ga' ++ la') ++ find [] r (ga' ++ la')) (leave g0 (target go loc' ga' la'))) =
      subst (λ f. Rel c fo go Slot ints arrays (set_array a (lf ++ rf) f) (set_array a (find [] l (ga' ++ la') ++ find [] r (ga' ++ la')) (leave g0 (target go loc' ga' la')))) (sym f_is)
      (subst (λ g. Rel c fo go Slot ints arrays (set_array a (lf ++ rf) (source c fo (take (length loc) loc') fa' (take (length la) la')))
      (set_array a (find [] l (ga' ++ la') ++ find [] r (ga' ++ la')) g)) (sym g_is)
      (subst (λ ys. Rel c fo go Slot ints arrays (set_array a (lf ++ rf) (source c fo (take (length loc) loc') fa' (take (length la) la')))
      (set_array a ys (target go (take (length loc) loc') ga' (take (length la) la'))))
      (sym (ap (λ t. t ++ find [] r (ga' ++ la')) lg_is ∙ ap (λ t. lf ++ t) rg_is))
      (rel_set_array c fo go Slot w ints arrays (take (length loc) loc') fa' ga' (take (length la) la') slot' ki2 ka2 good2 a (lf ++ rf) here fine))) in
      goes rel (kept_same (fa ++ la) _ (ap (λ t. sizes (put a (lf ++ rf) t)) p2 ∙ sizes-put a (lf ++ rf) (fa' ++ take (length la) la') a_long ∙ left_sizes))

  kept_in : (n : ℕ) → Kept (fa ++ la) (inside f0 n).arrays
  kept_in n = kept_then (fa ++ la) ((fa ++ la) ++ (l, take n xs) ∷ []) (((fa ++ la) ++ (l, take n xs) ∷ []) ++ (r, drop n xs) ∷ [])
      (kept_more (fa ++ la) ((l, take n xs) ∷ [])) (kept_more ((fa ++ la) ++ (l, take n xs) ∷ []) ((r, drop n xs) ∷ []))

  pub cut_alike : (e : Expr) (b b' : Block) (limit line : ℕ) (fs fs' : List Function) (calls calls' : Calls) → can_evaluate c e ≡ true →
      BlockAlike c fo go Slot w ints ((arrays ++ l ∷ []) ++ r ∷ []) limit (run_all b fs calls) (run_all b' fs' calls') → (left : ℕ) → left ≤ limit →
      Alike (Out c fo go Slot ints arrays f0) left (run (Cut a e l r b) line fs calls f0 left) (run (Cut a (lower_expr c.over e) l r b') line fs' calls' g0 left)
  cut_alike e b b' limit line fs fs' calls calls' can h left le =
      let ys_is : find [] a (ga ++ la) ≡ xs = local_same c fo go Slot w fa ga la slot a here in
      such_then (CutAt xs) (and_then (evaluate e f0) (cut_place xs)) (and_then (evaluate (lower_expr c.over e) g0) (cut_place (find [] a (ga ++ la)))) line left
      (ap (λ ev. and_then ev (cut_place (find [] a (ga ++ la)))) (evaluate_same c fo go Slot w e can loc fa ga la slot) ∙ ap (λ ys. and_then (evaluate e f0) (cut_place ys)) ys_is)
      (such_then_done (CutAt xs) (evaluate e f0) (cut_place xs) (cut_at xs)) _ _ (λ v l1 at le1.
      rw at.is
      (alike_right (ap (λ ys. then_do (joined_up Series (scoped (new_array r (drop at.place ys) (new_array l (take at.place ys) g0))
      (run_all b' fs' calls' (new_array r (drop at.place ys) (new_array l (take at.place ys) g0))) l1))
      (λ way l2. onward way (λ f'. ◌>>=◌ (pay 1) (λ _. going (uncut a l r g0 f'))) l2)) ys_is)
      (alike_then (alike_one Series series_keeps (as_whole (in_scope c fo go Slot w ints ((arrays ++ l ∷ []) ++ r ∷ []) limit (run_all b fs calls)
      (run_all b' fs' calls') h (inside f0 at.place) (inside g0 at.place) (rel_inside at.place at.within) l1 (omega arith))))
      (λ way way' l2 out le2. onward_then (Out c fo go Slot ints arrays f0) l2 out (λ f'. ◌>>=◌ (pay 1) (λ _. going (uncut a l r f0 f'))) (λ f'. ◌>>=◌ (pay 1) (λ _. going (uncut a l r g0 f')))
      (λ v f' rt fit gd kept. returns rt fit gd (kept_then (fa ++ la) (inside f0 at.place).arrays f'.arrays (kept_in at.place) kept))
      (λ f' g' rel' kept'. alike_pay 1 l2 _ _ (λ enough. alike_done (l2 - 1) (uncut_out at.place at.within f' g' rel' kept')))))))
