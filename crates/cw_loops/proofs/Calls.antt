-- Call statements in the frame of the source and in the frame of the function.
use Rattle.std.proofs.Common.{◌≡◌, ℕ, ◌-◌, ◌≤◌, ◌<◌, Bool, true, false, ℤ, List, [], ◌∷◌, ◌++◌, length, arith, refl, sym, ◌∙◌, ap, append_assoc, append-nil, subst}
use Rattle.std.specs.Prelude.{if◌then◌else◌, Option, Some, None}
use Rattle.std.proofs.lemmas.Bool.{and_parts}
use Rattle.cw_model.specs.Trees.{Invocation}
use Rattle.cw_model.specs.TreeLaws.{in_mark}
use Rattle.cw_model.specs.declared.syntax.CallKind.{CallKind}
use Rattle.cw_model.specs.declared.syntax.CallKind.TheVariants.{Plain, Spawned}
use Rattle.cw_model.specs.Syntax.{Name, Expr, Number, Variable, Element, Length, Negative, Not, Binary, Call, Param, Function, is_array_param, takes_array}
use Rattle.cw_model.specs.Names.{is_among, find}
use Rattle.cw_model.specs.lemmas.Fits.{written_is_array}
use Rattle.cw_model.specs.Frames.{Frame, no_frame, array_of, new_int, new_array, set_array, set_result}
use Rattle.cw_model.specs.Expressions.{evaluate}
use Rattle.cw_model.specs.Outcome.{Outcome, Done, then_do, quiet, pay, pay_for, joined_up}
use Rattle.cw_model.specs.Meaning.{Completion, Normal, Returned, Deeper, Calls, function_named, given_array, arguments, returned_array, returned_arrays, call_event, run}
use Rattle.cw_tree.specs.lemmas.Names.{front_among, later_among}
use Rattle.cw_loops.specs.Lowered.{lower_expr, lower_exprs}
use Rattle.cw_loops.specs.Lowerable.{Surroundings, can_evaluate, can_pass, can_pass_all, can_target, can_read, is_local, integers_of, arrays_of}
use Rattle.cw_loops.proofs.Alike.{Alike, Whole, Keeps, same_series, same_fork, no_event, alike_pay, alike_then, alike_one, alike_weaken}
use Rattle.cw_loops.proofs.Tables.{keys}
use Rattle.cw_loops.proofs.Arguments.{Fresh, find_at, keys-append}
use Rattle.cw_loops.proofs.Fitting.{Good, Fine, find_fine, fit-append, fine-append, sizes, find-sizes, sizes-put, Kept, kept_same, evaluate_fits}
use Rattle.cw_loops.proofs.Statements.{OptionFits, Out, goes, alike_done, value_then, rel_set_array, rel_set_int}
use Rattle.cw_loops.proofs.Cuts.{alike_right}
use Rattle.cw_loops.proofs.Worlds.{World, Rel, related, source, target, find_in, evaluate_same, can_fit, local_same}

-- two calls with the same result
pub data CallSame (given : Frame) : Returned → Returned → Type 0 where
  same_call : {v : Option ℤ} {f : Frame} → OptionFits v → Good f → Kept given.arrays f.arrays → CallSame given (v, f) (v, f)

pub call_keeps : (kind : CallKind) (site : ℕ) → Keeps (call_event kind site)
call_keeps Plain site = record { keeps = λ t u r. same_series (in_mark (Invocation site) r) no_event }
call_keeps Spawned site = record { keeps = λ t u r. same_fork (in_mark (Invocation site) r) no_event }

pub keys-sizes : (t : List (Name × List ℤ)) → keys (sizes t) ≡ keys t
keys-sizes [] = refl
keys-sizes (e ∷ t) = ap (λ w. e.0 ∷ w) (keys-sizes t)

pass_evaluates : (c : Surroundings) (e : Expr) → can_pass c e ≡ true → can_evaluate c e ≡ true
pass_evaluates c (Number n) h = h
pass_evaluates c (Variable x) h = (and_parts (can_read c x) (is_local c x) h).0
pass_evaluates c (Element a e) h = h
pass_evaluates c (Length a) h = h
pass_evaluates c (Negative e) h = h
pass_evaluates c (Not e) h = h
pass_evaluates c (Binary o d e) h = h

given_fine : (e : Expr) (f : Frame) → Good f → Fine (given_array e f)
given_fine (Variable a) f g = find_fine a f.arrays g.arrays
given_fine (Number n) f g = record { short = omega arith; elements = tt }
given_fine (Element a e) f g = record { short = omega arith; elements = tt }
given_fine (Length a) f g = record { short = omega arith; elements = tt }
given_fine (Negative e) f g = record { short = omega arith; elements = tt }
given_fine (Not e) f g = record { short = omega arith; elements = tt }
given_fine (Binary o d e) f g = record { short = omega arith; elements = tt }

-- the arrays in the frame of a call have the lengths of its array arguments
abbrev pub Matches : List Param → List Expr → Frame → List (Name × List ℤ) → Type 0
Matches [] es f t = Unit {0}
Matches (p ∷ ps) [] f t = Unit {0}
Matches (p ∷ ps) (e ∷ es) f t = (is_array_param p ≡ true → (is_among p.name (keys t) ≡ true) × (length (find [] p.name t) ≡ length (given_array e f))) × Matches ps es f t

-- the frames of the call are the same on both sides
pub record SameGiven (ps : List Param) (es : List Expr) (f start given given' : Frame) : Type 0 where
  pub same : given' ≡ given
  pub good : Good given
  pub more : List (Name × List ℤ)
  pub is : given.arrays ≡ start.arrays ++ more
  pub matches : Matches ps es f given.arrays
  pub sliced_is : given.sliced ≡ start.sliced
  pub ints_are : keys given.ints ≡ keys start.ints ++ integers_of ps
  pub arrays_are : keys given.arrays ≡ keys start.arrays ++ arrays_of ps

pub among_there : (a : Name) (v : List ℤ) (t u : List (Name × List ℤ)) → is_among a (keys (t ++ (a, v) ∷ u)) ≡ true
among_there a v t u = rw (keys-append t ((a, v) ∷ u)) (there (keys t))
  where
    there : (xs : List Name) → is_among a (xs ++ a ∷ keys u) ≡ true
    there [] = front_among a (keys u)
    there (x ∷ xs) = later_among a x (xs ++ a ∷ keys u) (there xs)

fresh_if : (b : Bool) (p : Param) (ps : List Param) (known : List Name) → is_array_param p ≡ b → Fresh known (arrays_of (p ∷ ps)) → Fresh known (if b then p.name ∷ arrays_of ps else arrays_of ps)
fresh_if b p ps known e h = subst (λ x. Fresh known (if x then p.name ∷ arrays_of ps else arrays_of ps)) e h

ints_if : (b : Bool) (p : Param) (ps : List Param) → is_array_param p ≡ b → (if b then integers_of ps else p.name ∷ integers_of ps) ≡ integers_of (p ∷ ps)
ints_if b p ps e = ap (λ x. if x then integers_of ps else p.name ∷ integers_of ps) (sym e)

arrays_if : (b : Bool) (p : Param) (ps : List Param) → is_array_param p ≡ b → (if b then p.name ∷ arrays_of ps else arrays_of ps) ≡ arrays_of (p ∷ ps)
arrays_if b p ps e = ap (λ x. if x then p.name ∷ arrays_of ps else arrays_of ps) (sym e)

module _ (c : Surroundings) (fo go : List (Name × ℤ)) (Slot : (fa ga : List (Name × List ℤ)) → Type 0) (w : World c fo go Slot) (ints arrays : List Name)
    (loc : List (Name × ℤ)) (fa ga la : List (Name × List ℤ)) (slot : Slot fa ga) (ki : keys loc ≡ ints) (ka : keys la ≡ arrays) (good : Good (source c fo loc fa la)) where
  abbrev f0 : Frame
  f0 = source c fo loc fa la

  abbrev g0 : Frame
  g0 = target go loc ga la

  given_same : (e : Expr) → can_pass c e ≡ true → given_array (lower_expr c.over e) g0 ≡ given_array e f0
  given_same (Variable a) h = local_same c fo go Slot w fa ga la slot a (and_parts (can_read c a) (is_local c a) h).1
  given_same (Number n) h = refl
  given_same (Element a e) h = refl
  given_same (Length a) h = refl
  given_same (Negative e) h = refl
  given_same (Not e) h = refl
  given_same (Binary o d e) h = refl

  args_alike : (ps : List Param) (es : List Expr) → length es ≡ length ps → can_pass_all c es ≡ true → (start : Frame) → Good start → Fresh (keys start.arrays) (arrays_of ps) → (line left : ℕ) →
      Alike (SameGiven ps es f0 start) left (arguments ps es f0 line start left) (arguments ps (lower_exprs c.over es) g0 line start left)
  args_alike [] es as_many can start g fresh line left = alike_done left
      (record {
        same = refl;
        good = g;
        more = [];
        is = sym (append-nil start.arrays);
        matches = tt;
        sliced_is = refl;
        ints_are = sym (append-nil (keys start.ints));
        arrays_are = sym (append-nil (keys start.arrays));
      })
  args_alike (p ∷ ps) [] as_many can start g fresh line left = absurd (omega arith)
  args_alike (p ∷ ps) (e ∷ es) as_many can start g fresh line left =
      by_kind (is_array_param p) refl (and_parts (can_pass c e) (can_pass_all c es) can)
      (λ start g f l. args_alike ps es (omega arith) (and_parts (can_pass c e) (can_pass_all c es) can).1 start g f line l)
    where
      by_kind : (b : Bool) → is_array_param p ≡ b → (can_pass c e ≡ true) × (can_pass_all c es ≡ true) →
          ((start : Frame) → Good start → Fresh (keys start.arrays) (arrays_of ps) → (l : ℕ)
          → Alike (SameGiven ps es f0 start) l (arguments ps es f0 line start l) (arguments ps (lower_exprs c.over es) g0 line start l)) →
          Alike (SameGiven (p ∷ ps) (e ∷ es) f0 start) left
          ((if b then arguments ps es f0 line (new_array p.name (given_array e f0) start)
          else (λ left. then_do (pay_for (evaluate e f0) line left) (λ v l. arguments ps es f0 line (new_int p.name v start) l))) left)
          ((if b then arguments ps (lower_exprs c.over es) g0 line (new_array p.name (given_array (lower_expr c.over e) g0) start)
          else (λ left. then_do (pay_for (evaluate (lower_expr c.over e) g0) line left)
          (λ v l. arguments ps (lower_exprs c.over es) g0 line (new_int p.name v start) l))) left)
      by_kind true k cans more =
          let xs : List ℤ = given_array e f0 in
          let f = fresh_if true p ps (keys start.arrays) k fresh in
          let start' : Frame = new_array p.name xs start in
          alike_right (ap (λ ys. arguments ps (lower_exprs c.over es) g0 line (new_array p.name ys start) left) (given_same e cans.0))
          (alike_weaken (λ a b r. record {
            same = r.same;
            good = r.good;
            more = (p.name, xs) ∷ r.more;
            is = r.is ∙ append_assoc start.arrays ((p.name, xs) ∷ []) r.more;
            matches = (
              λ q. (
                ap (λ t. is_among p.name (keys t)) (r.is ∙ append_assoc start.arrays ((p.name, xs) ∷ []) r.more) ∙ among_there p.name xs start.arrays r.more,
                ap length (ap (λ t. find [] p.name t) (r.is ∙ append_assoc start.arrays ((p.name, xs) ∷ []) r.more) ∙ find_at [] p.name xs start.arrays r.more f.0),
              ),
              r.matches,
            );
            sliced_is = r.sliced_is;
            ints_are = r.ints_are ∙ ap (λ t. keys start.ints ++ t) (ints_if true p ps k);
            arrays_are = r.arrays_are ∙ ap (λ t. t ++ arrays_of ps) (keys-append start.arrays ((p.name, xs) ∷ []))
                ∙ append_assoc (keys start.arrays) (p.name ∷ []) (arrays_of ps) ∙ ap (λ t. keys start.arrays ++ t) (arrays_if true p ps k);
          }) (omega arith)
          (more start' (record { ints = g.ints; arrays = fine-append start.arrays ((p.name, xs) ∷ []) g.arrays (given_fine e f0 good, tt) })
          (rw (keys-append start.arrays ((p.name, xs) ∷ [])) f.1) left))
      by_kind false k cans more =
          value_then (evaluate e f0) (evaluate (lower_expr c.over e) g0) line left
          (evaluate_same c fo go Slot w e (pass_evaluates c e cans.0) loc fa ga la slot)
          (evaluate_fits e f0 good (can_fit c e (pass_evaluates c e cans.0))) _ _ (λ v l fit le.
          alike_weaken (λ a b r. record {
            same = r.same;
            good = r.good;
            more = r.more;
            is = r.is;
            matches = (λ q. let z : false ≡ true = sym k ∙ q in absurd cc, r.matches);
            sliced_is = r.sliced_is;
            ints_are = r.ints_are ∙ ap (λ t. t ++ integers_of ps) (keys-append start.ints ((p.name, v) ∷ []))
                ∙ append_assoc (keys start.ints) (p.name ∷ []) (integers_of ps) ∙ ap (λ t. keys start.ints ++ t) (ints_if false p ps k);
            arrays_are = r.arrays_are ∙ ap (λ t. keys start.arrays ++ t) (arrays_if false p ps k);
          }) (omega arith)
          (more (new_int p.name v start) (record { ints = fit-append start.ints ((p.name, v) ∷ []) g.ints (fit, tt); arrays = g.arrays }) (fresh_if false p ps (keys start.arrays) k fresh) l))

  -- the returned arrays keep the relation of the frames
  back_rel : (ps : List Param) (es : List Expr) → can_pass_all c es ≡ true → (t : List (Name × List ℤ)) → Matches ps es f0 t → (callee : Frame) → Good callee → Kept t callee.arrays →
      (f g : Frame) → Rel c fo go Slot ints arrays f g → sizes f.arrays ≡ sizes f0.arrays →
      Rel c fo go Slot ints arrays (returned_arrays ps es callee f) (returned_arrays ps (lower_exprs c.over es) callee g) × (sizes (returned_arrays ps es callee f).arrays ≡ sizes f0.arrays)
  back_rel [] es can t m callee gc k f g rel s = (rel, s)
  back_rel (p ∷ ps) [] can t m callee gc k f g rel s = (rel, s)
  back_rel (p ∷ ps) (e ∷ es) can t m callee gc k f g rel s =
      let cans = and_parts (can_pass c e) (can_pass_all c es) can in
      let one = one_back e cans.0 m.0 in
      back_rel ps es cans.1 t m.1 callee gc k (returned_array p e callee f) (returned_array p (lower_expr c.over e) callee g) one.0 one.1
    where
      one_back : (e : Expr) → can_pass c e ≡ true → (is_array_param p ≡ true → (is_among p.name (keys t) ≡ true) × (length (find [] p.name t) ≡ length (given_array e f0))) →
          Rel c fo go Slot ints arrays (returned_array p e callee f) (returned_array p (lower_expr c.over e) callee g) × (sizes (returned_array p e callee f).arrays ≡ sizes f0.arrays)
      one_back (Variable a) h n = by_kind (takes_array p) refl f g rel s
        where
          by_kind : (b : Bool) → takes_array p ≡ b → (f g : Frame) → Rel c fo go Slot ints arrays f g → sizes f.arrays ≡ sizes f0.arrays →
              Rel c fo go Slot ints arrays (if b then set_array a (array_of callee p.name) f else f)
              (if b then set_array a (array_of callee p.name) g else g) × (sizes (if b then set_array a (array_of callee p.name) f else f).arrays
              ≡ sizes f0.arrays)
          by_kind false q f g rel s = (rel, s)
          by_kind true q f g (related loc' fa' ga' la' slot' ki' ka' good') s =
              let here : is_local c a ≡ true = (and_parts (can_read c a) (is_local c a) h).1 in
              let m = n (written_is_array p.kind q) in
              let there : is_among p.name (keys (sizes t)) ≡ true = ap (λ ks. is_among p.name ks) (keys-sizes t) ∙ m.0 in
              let same : length (array_of callee p.name) ≡ length (find [] a (fa' ++ la')) =
              find-sizes p.name callee.arrays ∙ ap (λ u. find 0 p.name u) k.is ∙ find_in 0 p.name (sizes t) k.more there ∙ sym (find-sizes p.name t)
              ∙ m.1 ∙ find-sizes a (fa ++ la) ∙ ap (λ u. find 0 a u) (sym s) ∙ sym (find-sizes a (fa' ++ la')) in (
                rel_set_array c fo go Slot w ints arrays loc' fa' ga' la' slot' ki' ka' good' a (array_of callee p.name) here (find_fine p.name callee.arrays gc.arrays),
                sizes-put a (array_of callee p.name) (fa' ++ la') same ∙ s,
              )
      one_back (Number n) h m = (rel, s)
      one_back (Element a d) h m = (rel, s)
      one_back (Length a) h m = (rel, s)
      one_back (Negative d) h m = (rel, s)
      one_back (Not d) h m = (rel, s)
      one_back (Binary o d d') h m = (rel, s)

  result_rel : (target' : Option Name) (v : Option ℤ) → can_target c target' ≡ true → OptionFits v → (f g : Frame) → Rel c fo go Slot ints arrays f g → sizes f.arrays ≡ sizes f0.arrays →
      Out c fo go Slot ints arrays f0 (Normal (set_result target' v f)) (Normal (set_result target' v g))
  result_rel None v can fit f g rel s = goes rel (kept_same (fa ++ la) f.arrays s)
  result_rel (Some x) None can fit f g rel s = goes rel (kept_same (fa ++ la) f.arrays s)
  result_rel (Some x) (Some v) can fit f g (related loc' fa' ga' la' slot' ki' ka' good') s =
      goes (rel_set_int c fo go Slot w ints arrays loc' fa' ga' la' slot' ki' ka' good' x v can fit) (kept_same (fa ++ la) (fa' ++ la') s)

  pub call_alike : (kind : CallKind) (site : ℕ) (target' : Option Name) (callee : Name) (es : List Expr) → can_target c target' ≡ true → can_pass_all c es ≡ true →
      (fs fs' : List Function) (calls calls' : Calls) (limit : ℕ) → length es ≡ length (function_named callee fs).params
      → (function_named callee fs').params ≡ (function_named callee fs).params → Fresh [] (arrays_of (function_named callee fs).params) →
      ((given : Frame) (line left : ℕ) → left < limit → Good given → given.sliced ≡ []
      → keys given.ints ≡ integers_of (function_named callee fs).params → keys given.arrays ≡ arrays_of (function_named callee fs).params
      → Whole (CallSame given) left (calls Deeper (function_named callee fs) given line left) (calls' Deeper (function_named callee fs') given line left)) →
      (line left : ℕ) → left ≤ limit → Alike (Out c fo go Slot ints arrays f0) left (run (Call kind site target' callee es) line fs calls f0 left)
      (run (Call kind site target' callee (lower_exprs c.over es)) line fs' calls' g0 left)
  call_alike kind site target' callee es can_t can_e fs fs' calls calls' limit as_many same_params once deeper line left le =
      alike_right (ap (λ ps. lowered_call ps) same_params)
      (alike_then (args_alike ps0 es as_many can_e no_frame (record { ints = tt; arrays = tt }) once line left) (λ given given' l r le'. rw r.same
      (alike_pay 1 l _ _ (λ enough. alike_then (alike_one (call_event kind site) (call_keeps kind site) (deeper given line (l - 1) (omega arith) r.good r.sliced_is r.ints_are r.arrays_are))
      (λ ret ret' l2 same le2. alike_done l2 (after_call given r.matches same))))))
    where
      ps0 : List Param
      ps0 = (function_named callee fs).params

      lowered_call : List Param → Outcome Completion
      lowered_call ps = then_do (arguments ps (lower_exprs c.over es) g0 line no_frame left)
          (λ given l. then_do (pay 1 l) (λ _ l. then_do (joined_up (call_event kind site) (calls' Deeper (function_named callee fs') given line l))
          (λ returned l. Done (Normal (set_result target' returned.0 (returned_arrays ps (lower_exprs c.over es) returned.1 g0))) l quiet)))

      after_call : (given : Frame) → Matches ps0 es f0 given.arrays → {ret ret' : Returned} → CallSame given ret ret' →
          Out c fo go Slot ints arrays f0 (Normal (set_result target' ret.0 (returned_arrays ps0 es ret.1 f0)))
          (Normal (set_result target' ret'.0 (returned_arrays ps0 (lower_exprs c.over es) ret'.1 g0)))
      after_call given m (same_call {v = v} {f = f} fit gf kept) =
          let back = back_rel ps0 es can_e given.arrays m f gf kept f0 g0 (related loc fa ga la slot ki ka good) refl in
          result_rel target' v can_t fit (returned_arrays ps0 es f f0) (returned_arrays ps0 (lower_exprs c.over es) f g0) back.0 back.1
