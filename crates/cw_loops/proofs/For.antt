-- A `cilk_for` of the source, and its lowered text.
use Rattle.std.proofs.Common.{◌≡◌, ℕ, zero, suc, ◌+◌, ◌≤◌, ◌<◌, ◌^◌, Bool, true, false, ℤ, pos, negsuc, ◌+ℤ◌, List, [], ◌∷◌, ◌++◌, length, take, drop, arith, refl, sym, ◌∙◌, ap, subst, length-drop}
use Rattle.std.specs.Prelude.{if◌then◌else◌, not, ◌&&◌, nat_lt, int_le, map}
use Rattle.std.proofs.lemmas.Bool.{leb-true, and_parts}
use Rattle.std.proofs.lemmas.List.{length-take-le}
use Rattle.cw_facts.specs.Tests.{not_true}
use Rattle.cw_model.specs.declared.limits.TheConstants.{MOST_DEPTH}
use Rattle.cw_model.specs.Ints.{natural, fits}
use Rattle.cw_model.specs.Trees.{Series}
use Rattle.cw_model.specs.Syntax.{Name, Block, Function}
use Rattle.cw_model.specs.Names.{same_name, is_among, differ, find, put}
use Rattle.cw_model.specs.Frames.{Frame, no_frame, int_of, array_of}
use Rattle.cw_model.specs.Outcome.{Done, then_do, quiet, joined_up}
use Rattle.cw_model.specs.Loops.{lies_within, halves}
use Rattle.cw_model.specs.LoopLaws.{for_body}
use Rattle.cw_model.specs.Meaning.{Normal, Returned, SameDepth, Calls, function_named, loop_frame, with_slice, slices_back, call}
use Rattle.cw_model.specs.lemmas.Names.{same_are}
use Rattle.cw_tree.specs.lemmas.Names.{front_among, later_among}
use Rattle.cw_loops.specs.Lowered.{is_plain, low, high, loop_function}
use Rattle.cw_loops.specs.Lowerable.{Surroundings, can_read, is_local, can_capture, can_slice, can_loop}
use Rattle.cw_loops.specs.lemmas.Apart.{plain_apart}
use Rattle.cw_loops.specs.lemmas.Naming.{among_right, other_than}
use Rattle.cw_loops.proofs.Alike.{Alike, alike_then, alike_one, series_keeps}
use Rattle.cw_loops.proofs.Tables.{keys, find_past, put_past}
use Rattle.cw_loops.proofs.Arguments.{Fresh, table, keys-append}
use Rattle.cw_loops.proofs.Cuts.{Half, alike_left, alike_right}
use Rattle.cw_loops.proofs.Leaf.{entry}
use Rattle.cw_loops.proofs.RangeHalvesCall.{halves_call}
use Rattle.cw_loops.proofs.Fitting.{Good, kept_same, sizes, sizes-put}
use Rattle.cw_loops.proofs.Statements.{Out, goes, alike_done}
use Rattle.cw_loops.proofs.Worlds.{World, Rel, related, source, target, reads_same, local_same, local_outer, local_given}
use Rattle.cw_loops.proofs.Slices.{mapped, Distinct, differ_distinct, keys-mapped, mapped_alike, find_put_other, slice_none, slice_length, back_is}
use Rattle.cw_loops.proofs.Ranges.{Agrees, Put, ranges}
use Rattle.cw_loops.proofs.Turn.{turn_scope, BodyAlike, each_turn, table_at}
use Rattle.cw_loops.proofs.Fresh.{AllPlain, not_plain, fresh_from, pairs_fresh, cutting_from, taken_of, keys-taken, find-taken, frame_is}
use Rattle.cw_loops.specs.lemmas.Capturing.{each_captured, each_sliced}

mapped_past : (as' : List Name) (f : Name → List ℤ → List ℤ) (t u : List (Name × List ℤ))
    → ((a : Name) → is_among a as' ≡ true → is_among a (keys t) ≡ false) → mapped as' f (t ++ u) ≡ t ++ mapped as' f u
mapped_past [] f t u h = refl
mapped_past (a ∷ as') f t u h =
    let n : is_among a (keys t) ≡ false = h a (front_among a as') in
    ap (λ x. mapped as' f (put a (f a x) (t ++ u))) (find_past [] a t u n) ∙ ap (λ x. mapped as' f x) (put_past a (f a (find [] a u)) t u n)
    ∙ mapped_past as' f t (put a (f a (find [] a u)) u) (λ b o. h b (later_among b a as' o))

sizes_mapped : (as' : List Name) (f : Name → List ℤ → List ℤ) (t : List (Name × List ℤ)) → Distinct as'
    → ((a : Name) → is_among a as' ≡ true → length (f a (find [] a t)) ≡ length (find [] a t)) → sizes (mapped as' f t) ≡ sizes t
sizes_mapped [] f t d h = refl
sizes_mapped (a ∷ as') f t d h =
    let v : List ℤ = f a (find [] a t) in
    sizes_mapped as' f (put a v t) d.1 (λ b o.
    let same : find [] b (put a v t) ≡ find [] b t = find_put_other b a v t (other_than b a as' d.0 o) in
    ap (λ x. length (f b x)) same ∙ h b (later_among b a as' o) ∙ sym (ap length same))
    ∙ sizes-put a v t (h a (front_among a as'))

-- the range is within each array
lies_each : (lo hi : ℤ) (over : List Name) (g : Name → List ℤ) → lies_within lo hi (map g over) ≡ true → (a : Name) → is_among a over ≡ true
    → (int_le (pos 0) lo ≡ true) × (int_le hi (pos (length (g a))) ≡ true)
lies_each lo hi [] g h a o = absurd cc
lies_each lo hi (b ∷ over) g h a o =
    let p = and_parts (int_le (pos 0) lo && int_le hi (pos (length (g b)))) (lies_within lo hi (map g over)) h in
    let q = and_parts (int_le (pos 0) lo) (int_le hi (pos (length (g b)))) p.0 in
    go (same_name a b) refl o q (lies_each lo hi over g p.1 a)
  where
    go : (x : Bool) → same_name a b ≡ x → (if x then true else is_among a over) ≡ true → (int_le (pos 0) lo ≡ true) × (int_le hi (pos (length (g b))) ≡ true) →
        (is_among a over ≡ true → (int_le (pos 0) lo ≡ true) × (int_le hi (pos (length (g a))) ≡ true)) → (int_le (pos 0) lo ≡ true) × (int_le hi (pos (length (g a))) ≡ true)
    go true e k q f = (q.0, ap (λ y. int_le hi (pos (length (g y)))) (same_are a b e) ∙ q.1)
    go false e k q f = f k

from_zero : (lo : ℤ) → int_le (pos 0) lo ≡ true → lo ≡ pos (natural lo)
from_zero (pos l) h = refl
from_zero (negsuc l) h = absurd cc

up_to : (lo : ℤ) (n m : ℕ) → lo ≡ pos (natural lo) → int_le (lo +ℤ pos n) (pos m) ≡ true → natural lo + n ≤ m
up_to lo n m e h =
    let g : int_le (pos (natural lo) +ℤ pos n) (pos m) ≡ true = ap (λ z. int_le (z +ℤ pos n) (pos m)) (sym e) ∙ h in
    leb-true (natural lo + n) m g

-- the parts of the test for a loop
pub record LoopTests (c : Surroundings) (ints arrays : List Name) (x : Name) (taken over : List Name) : Type 0 where
  pub plain : is_plain x ≡ true
  pub is_new : is_among x (c.outer ++ ints) ≡ false
  pub untaken : is_among x taken ≡ false
  pub taken_once : Distinct taken
  pub over_once : Distinct over
  pub captures : (v : Name) → is_among v taken ≡ true → (is_plain v ≡ true) × (can_read c v ≡ true) × (is_among v (c.outer ++ ints) ≡ true)
  pub slices : (a : Name) → is_among a over ≡ true → (is_plain a ≡ true) × (is_local c a ≡ true) × (is_among a arrays ≡ true)

pub loop_tests : (c : Surroundings) (ints arrays : List Name) (x : Name) (taken over : List Name) → can_loop c ints arrays x taken over ≡ true → LoopTests c ints arrays x taken over
loop_tests c ints arrays x taken over h =
    let p1 = and_parts (is_plain x) _ h in
    let p2 = and_parts (not (is_among x (c.outer ++ ints))) _ p1.1 in
    let p3 = and_parts (not (is_among x taken)) _ p2.1 in
    let p4 = and_parts (differ taken) _ p3.1 in
    let p5 = and_parts (differ over) _ p4.1 in
    let p6 = and_parts (can_capture c ints taken) (can_slice c arrays over) p5.1 in
    record {
      plain = p1.0;
      is_new = not_true (is_among x (c.outer ++ ints)) p2.0;
      untaken = not_true (is_among x taken) p3.0;
      taken_once = differ_distinct taken p4.0;
      over_once = differ_distinct over p5.0;
      captures = each_captured c ints taken p6.0;
      slices = each_sliced c arrays over p6.1;
    }

module _ (c : Surroundings) (fo go : List (Name × ℤ)) (Slot : (fa ga : List (Name × List ℤ)) → Type 0) (w : World c fo go Slot) (ints arrays : List Name)
    (loc : List (Name × ℤ)) (fa ga la : List (Name × List ℤ)) (slot : Slot fa ga) (ki : keys loc ≡ ints) (ka : keys la ≡ arrays) (good : Good (source c fo loc fa la))
    (fs fs' : List Function) (calls : Calls) (depth : ℕ) (shallow : nat_lt MOST_DEPTH depth ≡ false) (limit : ℕ)
    (line : ℕ) (x : Name) (grain : ℕ) (taken over : List Name) (b b' : Block) (name : Name) (some_grain : 1 ≤ grain) (tests : LoopTests c ints arrays x taken over)
    (found : function_named name fs' ≡ loop_function name line x grain taken over b') where
  abbrev f0 : Frame
  f0 = source c fo loc fa la

  abbrev g0 : Frame
  g0 = target go loc ga la

  abbrev pub cs : List (Name × ℤ)
  cs = taken_of (int_of g0) taken

  abbrev i0 : List (Name × ℤ)
  i0 = fo ++ loc

  abbrev outer0 : List Name
  outer0 = c.outer ++ ints

  abbrev arrays0 : List Name
  arrays0 = c.arrays ++ arrays

  ints_are : keys i0 ≡ outer0
  ints_are = keys-append fo loc ∙ ap (λ t. t ++ keys loc) w.outer_is ∙ ap (λ t. c.outer ++ t) ki

  names_are : keys (fa ++ la) ≡ arrays0
  names_are = keys-append fa la ∙ ap (λ t. t ++ keys la) (w.arrays_are fa ga slot) ∙ ap (λ t. c.arrays ++ t) ka

  cs_names : keys cs ≡ taken
  cs_names = keys-taken (int_of g0) taken

  away : is_among x (keys cs) ≡ false
  away = ap (λ t. is_among x t) cs_names ∙ tests.untaken

  taken_same : (v : Name) → is_among v (keys cs) ≡ true → (is_plain v ≡ true) × (is_among v outer0 ≡ true) × (find (pos 0) v cs ≡ find (pos 0) v i0)
  taken_same v o =
      let o' : is_among v taken ≡ true = ap (λ t. is_among v t) (sym cs_names) ∙ o in
      let t = tests.captures v o' in
      (t.0, t.2, find-taken (int_of g0) taken v o' ∙ reads_same c fo go Slot w v t.1 loc)

  known : (a : Name) → is_among a over ≡ true → is_among a arrays0 ≡ true
  known a o = among_right a c.arrays arrays (tests.slices a o).2

  local : (a : Name) → is_among a over ≡ true → find [] a (ga ++ la) ≡ find [] a (fa ++ la)
  local a o = local_same c fo go Slot w fa ga la slot a (tests.slices a o).1

  taken_plain : AllPlain (keys cs)
  taken_plain v o = (taken_same v o).0

  over_plain : AllPlain over
  over_plain a o = (tests.slices a o).0

  taken_distinct : Distinct (keys cs)
  taken_distinct = rw cs_names tests.taken_once

  fresh_ints : Fresh (low ∷ high ∷ []) (keys cs)
  fresh_ints = fresh_from (keys cs) (low ∷ high ∷ []) taken_distinct (λ v o. rw (plain_apart v (108 ∷ []) (taken_plain v o), plain_apart v (104 ∷ []) (taken_plain v o)) refl)

  once : Fresh [] over
  once = fresh_from over [] tests.over_once (λ a o. refl)

  abbrev pub Body : Type 1
  Body = BodyAlike (turn_scope c.functions (c.outer ++ ints) (c.arrays ++ arrays) c.sliced x (keys (taken_of (int_of (target go loc ga la)) taken)) over) b b' fs fs' calls depth limit

  module _ (body : Body) where
    -- the slices at the start
    starts : (lo : ℤ) (n : ℕ) → (1 ≤ n → lies_within lo (lo +ℤ pos n) (map (λ a. find [] a (fa ++ la)) over) ≡ true)
        → Agrees over i0 arrays0 c.sliced lo n f0 (λ a. take n (drop (natural lo) (find [] a (ga ++ la))))
    starts lo n lies = record {
      ints = refl;
      names = names_are;
      sliced = refl;
      good = good;
      lengths = λ a o. by_count a o n refl;
      from = λ a o e. from_zero lo (lies_each lo (lo +ℤ pos n) over (λ a. find [] a (fa ++ la)) (lies e) a o).0;
      within = λ a o e. inside a o e;
      slice = λ a o e. ap (λ t. take n (drop (natural lo) t)) (local a o);
    }
      where
        inside : (a : Name) → is_among a over ≡ true → 1 ≤ n → natural lo + n ≤ length (find [] a (fa ++ la))
        inside a o e = let l = lies_each lo (lo +ℤ pos n) over (λ a. find [] a (fa ++ la)) (lies e) a o in up_to lo n (length (find [] a (fa ++ la))) (from_zero lo l.0) l.1

        by_count : (a : Name) → is_among a over ≡ true → (m : ℕ) → n ≡ m → length (take n (drop (natural lo) (find [] a (ga ++ la)))) ≡ n
        by_count a o zero e = rw e refl
        by_count a o (suc m) e =
            let long = inside a o (omega arith) in
            let same : length (find [] a (ga ++ la)) ≡ length (find [] a (fa ++ la)) = ap length (local a o) in
            length-take-le n (drop (natural lo) (find [] a (ga ++ la))) (omega (arith, length-drop (natural lo) (find [] a (ga ++ la))))

    -- the state after the loop
    ends : (lo : ℤ) (n : ℕ) → Agrees over i0 arrays0 c.sliced lo n f0 (λ a. take n (drop (natural lo) (find [] a (ga ++ la))))
        → (f : Frame) (r : Returned) → Half ((low, lo) ∷ (high, lo +ℤ pos n) ∷ cs) over (Put over lo n f0) f r →
        Out c fo go Slot ints arrays f0 (Normal f) (Normal (slices_back over (natural lo) r.1 g0))
    ends lo n agrees f r half =
        let s : Name → List ℤ = half.slices in
        let put' : Name → List ℤ → List ℤ = λ a xs. with_slice xs (natural lo) (s a) in
        let la' : List (Name × List ℤ) = mapped over put' la in
        let f_arrays : f.arrays ≡ fa ++ la' = half.ok.arrays ∙ mapped_past over put' fa la (λ a o. local_outer c fo go Slot w fa ga slot a (tests.slices a o).1) in
        let f_is : f ≡ source c fo loc fa la' =
        ap (λ t. record { ints = t; arrays = f.arrays; sliced = f.sliced }) half.ok.ints
        ∙ ap (λ t. record { ints = i0; arrays = t; sliced = f.sliced }) f_arrays ∙ ap (λ t. record { ints = i0; arrays = fa ++ la'; sliced = t }) half.ok.sliced in
        let callee_is : (a : Name) → is_among a over ≡ true → array_of r.1 a ≡ s a = λ a o. ap (λ (t : Returned). find [] a t.1.arrays) half.gives ∙ table_at over s a o in
        let g_is : slices_back over (natural lo) r.1 g0 ≡ target go loc ga la' =
        back_is over (natural lo) r.1 g0
        ∙ ap (λ t. record { ints = go ++ loc; arrays = t; sliced = [] })
        (mapped_alike over (λ a xs. with_slice xs (natural lo) (array_of r.1 a)) put' (ga ++ la) tests.over_once
        (λ a o. ap (λ t. with_slice (find [] a (ga ++ la)) (natural lo) t) (callee_is a o))
        ∙ mapped_past over put' ga la (λ a o. local_given c fo go Slot w fa ga slot a (tests.slices a o).1)) in
        let g : Good (source c fo loc fa la') = subst Good f_is half.ok.good in
        let rel : Rel c fo go Slot ints arrays f (slices_back over (natural lo) r.1 g0) =
        subst (λ f. Rel c fo go Slot ints arrays f (slices_back over (natural lo) r.1 g0)) (sym f_is)
        (subst (λ g. Rel c fo go Slot ints arrays (source c fo loc fa la') g) (sym g_is) (related loc fa ga la' slot ki (keys-mapped over put' la ∙ ka) g)) in
        goes rel (kept_same (fa ++ la) f.arrays (ap sizes half.ok.arrays ∙ sizes_mapped over put' (fa ++ la) tests.over_once (λ a o. by_count a o n refl)))
      where
        by_count : (a : Name) → is_among a over ≡ true → (m : ℕ) → n ≡ m → length (with_slice (find [] a (fa ++ la)) (natural lo) (half.slices a)) ≡ length (find [] a (fa ++ la))
        by_count a o zero e = ap length (slice_none (find [] a (fa ++ la)) (half.slices a) (natural lo) (half.ok.lengths a o ∙ e))
        by_count a o (suc m) e = slice_length (find [] a (fa ++ la)) (half.slices a) (natural lo) (omega (arith, half.ok.lengths a o, agrees.within a o (omega arith)))

    -- the loop, from its start
    pub begun : (lo : ℤ) (n : ℕ) → n < 2 ^ 63 → fits lo ≡ true → fits (lo +ℤ pos n) ≡ true
        → (1 ≤ n → lies_within lo (lo +ℤ pos n) (map (λ a. find [] a (fa ++ la)) over) ≡ true) → (l bound : ℕ) → l ≤ limit → l < bound →
        Alike (Out c fo go Slot ints arrays f0) l
        (then_do (joined_up Series (halves (suc n) grain (length taken) (length over) n lo (for_body x over b fs calls) f0 l)) (λ f l. Done (Normal f) l quiet))
        (then_do (joined_up Series (call bound depth fs' SameDepth (function_named name fs')
        (loop_frame (function_named name fs').params (lo ∷ (lo +ℤ pos n) ∷ map (int_of g0) taken)
        (map (λ a. take n (drop (natural lo) (array_of g0 a))) over) no_frame) line l))
        (λ r l. Done (Normal (slices_back over (natural lo) r.1 g0)) l quiet))
    begun lo n small lo_fits hi_fits lies l bound h1 h2 =
        let s : Name → List ℤ = λ a. take n (drop (natural lo) (find [] a (ga ++ la))) in
        let agrees : Agrees over i0 arrays0 c.sliced lo n f0 s = starts lo n lies in
        let found' : function_named name fs' ≡ loop_function name line x grain (keys cs) over b' = found ∙ ap (λ t. loop_function name line x grain t over b') (sym cs_names) in
        let same_length : length taken ≡ length cs = taken_length taken in
        alike_left (ap (λ k. then_do (joined_up Series (halves (suc n) grain k (length over) n lo (for_body x over b fs calls) f0 l)) (λ f l. Done (Normal f) l quiet)) same_length)
        (alike_right (ap (λ fn. then_do (joined_up Series (call bound depth fs' SameDepth fn
        (loop_frame fn.params (lo ∷ (lo +ℤ pos n) ∷ map (int_of g0) taken) (map (λ a. take n (drop (natural lo) (array_of g0 a))) over) no_frame)
        line l)) (λ r l. Done (Normal (slices_back over (natural lo) r.1 g0)) l quiet)) found)
        (alike_right (ap (λ fr. then_do (joined_up Series (call bound depth fs' SameDepth (loop_function name line x grain taken over b') fr line l))
        (λ r l. Done (Normal (slices_back over (natural lo) r.1 g0)) l quiet)) (frame_is lo (lo +ℤ pos n) taken over (int_of g0) s))
        (alike_right (ap (λ t. then_do (joined_up Series (call bound depth fs' SameDepth (loop_function name line x grain t over b')
        (entry lo (lo +ℤ pos n) cs (table over s)) line l)) (λ r l. Done (Normal (slices_back over (natural lo) r.1 g0)) l quiet)) (sym cs_names))
        (alike_then (alike_one Series series_keeps (halves_call name line x grain cs over b b' fs fs' calls depth tests.plain shallow away some_grain
        found' fresh_ints (not_plain (109 ∷ []) (keys cs) taken_plain)
        (pairs_fresh over over tests.over_once (λ a o. (not_plain (60 ∷ a) over over_plain, not_plain (62 ∷ a) over over_plain))) once (cutting_from over [] once over_plain (λ a o. absurd cc))
        limit (Agrees over i0 arrays0 c.sliced) (Put over) (ranges over i0 arrays0 c.sliced tests.over_once known)
        (λ lo n lo_fits hi_fits small frame s agrees. each_turn c.functions i0 outer0 arrays0 c.sliced ints_are x over cs tests.plain tests.is_new
        away taken_same tests.over_once known line b b' fs fs' calls depth limit body lo n lo_fits hi_fits small frame s agrees)
        (suc n) lo n (omega arith) small lo_fits hi_fits f0 s agrees l bound line h1 h2))
        (λ f r l' half le. alike_done l' (ends lo n agrees f r half))))))
      where
        taken_length : (xs : List Name) → length xs ≡ length (taken_of (int_of g0) xs)
        taken_length [] = refl
        taken_length (v ∷ xs) = ap (λ n. suc n) (taken_length xs)
