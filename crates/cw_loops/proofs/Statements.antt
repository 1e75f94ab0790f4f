-- Statements in the frame of the source and in the frame of the function.
use Rattle.std.proofs.Common.{◌≡◌, ℕ, zero, suc, ◌+◌, ◌-◌, ◌≤◌, ◌<◌, ◌^◌, Bool, true, false, ℤ, pos, negsuc, List, [], ◌∷◌, ◌++◌, length, take, arith, refl, sym, ◌∙◌, ap, append_assoc}
use Rattle.std.specs.Prelude.{nat_lt, if◌then◌else◌, Option, Some, None, slice_set, replicate}
use Rattle.std.proofs.lemmas.Bool.{ltb-true, and_parts}
use Rattle.std.proofs.lemmas.List.{length-replicate, length-set}
use Rattle.cw_model.specs.declared.limits.TheConstants.{MOST_ELEMENTS}
use Rattle.cw_model.specs.Ints.{Result, Value, Fails, fits, natural}
use Rattle.cw_model.specs.declared.trap.Trap.TheVariants as trap
use Rattle.cw_model.specs.declared.syntax.Reduction.{Reduction}
use Rattle.cw_model.specs.Trees.{Join}
use Rattle.cw_model.specs.Syntax.{Name, Expr, Declare, DeclareArray, Assign, Reduce, Sync, Print, Return, Function}
use Rattle.cw_model.specs.Names.{same_name, put}
use Rattle.cw_model.specs.Frames.{Frame, new_int, new_array, set_int, set_array}
use Rattle.cw_model.specs.Expressions.{Evaluated, Gives, Traps, evaluate, and_then, done_at, element, written}
use Rattle.cw_model.specs.Outcome.{shows, quiet, Outcome, Done, then_do, pay_for}
use Rattle.cw_model.specs.Meaning.{Completion, Normal, ByReturn, Calls, new_length, run}
use Rattle.cw_loops.specs.Lowered.{lower_expr, lower_option}
use Rattle.cw_loops.specs.Lowerable.{Surroundings, can_write, is_local, can_evaluate, can_lower}
use Rattle.cw_loops.proofs.Alike.{Alike, both_done, alike_pay, alike_after, same_events, value_pays, both_stop}
use Rattle.cw_loops.proofs.Cuts.{alike_right, alike_left}
use Rattle.cw_loops.proofs.Tables.{keys, put_past}
use Rattle.cw_loops.proofs.Arguments.{keys-append}
use Rattle.cw_loops.proofs.Fitting.{Good, Fine, GivesFit, ValueFits, Kept, kept_same, sizes, sizes-append, fit-append, fit-put}
use Rattle.cw_loops.proofs.Fitting.{fine-append, fine-put, elements-replicate, elements-set, then_fits, evaluate_fits}
use Rattle.cw_loops.proofs.Worlds.{World, Rel, related, source, target, writes_outer, writes_given, local_outer, local_given, evaluate_same, can_fit}

-- the value of a call fits, if there is one
abbrev pub OptionFits : Option ℤ → Type 0
OptionFits None = Unit {0}
OptionFits (Some v) = fits v ≡ true

-- the relation of both frames after a statement
pub data Out (c : Surroundings) (fo go : List (Name × ℤ)) (Slot : (fa ga : List (Name × List ℤ)) → Type 0) (ints arrays : List Name) (before : Frame) : Completion → Completion → Type 0 where
  goes : {f g : Frame} → Rel c fo go Slot ints arrays f g → Kept before.arrays f.arrays → Out c fo go Slot ints arrays before (Normal f) (Normal g)
  returns : {v : Option ℤ} {f : Frame} → c.returns ≡ true → OptionFits v → Good f → Kept before.arrays f.arrays → Out c fo go Slot ints arrays before (ByReturn v f) (ByReturn v f)

-- the relation of both frames after a block, before its own names are removed
pub record OutAll (c : Surroundings) (fo go : List (Name × ℤ)) (Slot : (fa ga : List (Name × List ℤ)) → Type 0) (ints arrays : List Name) (before : Frame) (way way' : Completion) : Type 0 where
  pub more_ints : List Name
  pub more_arrays : List Name
  pub out : Out c fo go Slot (ints ++ more_ints) (arrays ++ more_arrays) before way way'

pub alike_done : {A B : Type 0} {R : A → B → Type 0} {a : A} {b : B} (left : ℕ) → R a b → Alike R left (Done a left quiet) (Done b left quiet)
alike_done left r = both_done r (omega arith) refl refl (same_events [])

-- the same value on both sides
pub value_then : {C D : Type 0} {S : C → D → Type 0} (ev ev' : Evaluated) (line left : ℕ) → ev' ≡ ev → GivesFit ev → (go : ℤ → ℕ → Outcome C) (go' : ℤ → ℕ → Outcome D) →
    ((v : ℤ) (l : ℕ) → fits v ≡ true → l ≤ left → Alike S l (go v l) (go' v l)) → Alike S left (then_do (pay_for ev line left) go) (then_do (pay_for ev' line left) go')
value_then {C = C} {D = D} {S = S} (Gives v k) ev' line left e f go go' h =
    alike_left (value_pays v k line left go) (alike_right (ap (λ ev. then_do (pay_for ev line left) go') e ∙ value_pays v k line left go')
    (alike_pay k left _ _ (λ enough. h v (left - k) f (omega arith))))
value_then {C = C} {D = D} {S = S} (Traps trap k) ev' line left e f go go' h = alike_right (ap (λ ev. then_do (pay_for ev line left) go') e) (both_stop left trap line go go' (nat_lt left k))

-- values of the same cost on both sides
pub values_then : {C D : Type 0} {S : C → D → Type 0} (ev ev' : Evaluated) (v v' : ℤ) (k line left : ℕ) → ev ≡ Gives v k → ev' ≡ Gives v' k → (go : ℤ → ℕ → Outcome C) (go' : ℤ → ℕ → Outcome D) →
    ((l : ℕ) → l ≤ left → Alike S l (go v l) (go' v' l)) → Alike S left (then_do (pay_for ev line left) go) (then_do (pay_for ev' line left) go')
values_then ev ev' v v' k line left e e' go go' h =
    alike_left (ap (λ ev. then_do (pay_for ev line left) go) e ∙ value_pays v k line left go)
    (alike_right (ap (λ ev. then_do (pay_for ev line left) go') e' ∙ value_pays v' k line left go') (alike_pay k left _ _ (λ enough. h (left - k) (omega arith))))

pub kept_more : (t u : List (Name × List ℤ)) → Kept t (t ++ u)
kept_more t u = record { more = sizes u; is = sizes-append t u }

pub keys-put : {V : Type 0} (x : Name) (v : V) (t : List (Name × V)) → keys (put x v t) ≡ keys t
keys-put x v [] = refl
keys-put x v (e ∷ t) = go (same_name x e.0) (keys-put x v t)
  where
    go : (b : Bool) → keys (put x v t) ≡ keys t → keys (if b then (e.0, v) ∷ t else e ∷ put x v t) ≡ e.0 ∷ keys t
    go true h = refl
    go false h = ap (λ w. e.0 ∷ w) h

pub keys-take : {V : Type 0} (n : ℕ) (t : List (Name × V)) → keys (take n t) ≡ take n (keys t)
keys-take zero t = refl
keys-take (suc n) [] = refl
keys-take (suc n) (e ∷ t) = ap (λ w. e.0 ∷ w) (keys-take n t)

pub length-keys : {V : Type 0} (t : List (Name × V)) → length (keys t) ≡ length t
length-keys [] = refl
length-keys (e ∷ t) = ap (λ n. suc n) (length-keys t)

new_length_fits : (v : ℤ) → fits v ≡ true → ValueFits (new_length v)
new_length_fits (negsuc n) h = tt
new_length_fits (pos n) h = go (nat_lt MOST_ELEMENTS n)
  where
    go : (b : Bool) → ValueFits (if b then Fails trap.BadLength else Value (pos n))
    go true = tt
    go false = h

zeros_fine : (v : ℤ) → fits v ≡ true → Fine (replicate (natural v) (pos 0))
zeros_fine v h = record { short = rw (length-replicate (natural v) (pos 0)) (natural_small v h); elements = elements-replicate (natural v) }
  where
    natural_small : (v : ℤ) → fits v ≡ true → natural v < 2 ^ 63
    natural_small (pos n) h = ltb-true n (2 ^ 63) h
    natural_small (negsuc n) h = omega arith

-- an assignment to an element, by the element's old value
pub placed : ℤ → Option ℤ → Result
placed v None = Fails trap.OutOfBounds
placed v (Some w) = Value v

pub written_is : (xs : List ℤ) (i v : ℤ) → written xs i v ≡ placed v (element xs i)
unfolding placed
written_is xs (negsuc i) v = refl
written_is xs (pos i) v = go (element xs (pos i)) refl
  where
    go : (o : Option ℤ) → element xs (pos i) ≡ o → written xs (pos i) v ≡ placed v o
    go None e = rw e refl
    go (Some w) e = rw e refl

pub placed_fits : (v : ℤ) (o : Option ℤ) → fits v ≡ true → ValueFits (placed v o)
unfolding placed
placed_fits v None h = tt
placed_fits v (Some w) h = h

pub and_then_same : (ev : Evaluated) (op op' : ℤ → Result) → ((v : ℤ) → op v ≡ op' v) → and_then ev op ≡ and_then ev op'
and_then_same (Gives v k) op op' h = ap (done_at (k + 1)) (h v)
and_then_same (Traps trap k) op op' h = refl

pub fine_set : (xs : List ℤ) (i : ℕ) (v : ℤ) → fits v ≡ true → Fine xs → Fine (slice_set xs i v)
fine_set xs i v f h = record { short = rw (length-set xs i v) h.short; elements = elements-set i v xs f h.elements }

module _ (c : Surroundings) (fo go : List (Name × ℤ)) (Slot : (fa ga : List (Name × List ℤ)) → Type 0) (w : World c fo go Slot) (ints arrays : List Name)
    (loc : List (Name × ℤ)) (fa ga la : List (Name × List ℤ)) (slot : Slot fa ga) (ki : keys loc ≡ ints) (ka : keys la ≡ arrays) (good : Good (source c fo loc fa la)) where
  abbrev f0 : Frame
  f0 = source c fo loc fa la

  abbrev g0 : Frame
  g0 = target go loc ga la

  abbrev OutOf : List Name → List Name → Completion → Completion → Type 0
  OutOf is as' = Out c fo go Slot is as' f0

  pub rel_new_int : (x : Name) (v : ℤ) → fits v ≡ true → Rel c fo go Slot (ints ++ x ∷ []) arrays (new_int x v f0) (new_int x v g0)
  rel_new_int x v f =
      let g : Good (source c fo (loc ++ (x, v) ∷ []) fa la) = record {
        ints = rw (← append_assoc fo loc ((x, v) ∷ []))
            (fit-append (fo ++ loc) ((x, v) ∷ []) good.ints (f, tt));
        arrays = good.arrays;
      } in
      rw (append_assoc fo loc ((x, v) ∷ []), append_assoc go loc ((x, v) ∷ []))
      (related (loc ++ (x, v) ∷ []) fa ga la slot (keys-append loc ((x, v) ∷ []) ∙ ap (λ t. t ++ x ∷ []) ki) ka g)

  pub rel_new_array : (a : Name) (xs : List ℤ) → Fine xs → Rel c fo go Slot ints (arrays ++ a ∷ []) (new_array a xs f0) (new_array a xs g0)
  rel_new_array a xs f =
      let g : Good (source c fo loc fa (la ++ (a, xs) ∷ [])) = record {
        ints = good.ints;
        arrays = rw (← append_assoc fa la ((a, xs) ∷ [])) (fine-append (fa ++ la) ((a, xs) ∷ []) good.arrays (f, tt));
      } in
      rw (append_assoc fa la ((a, xs) ∷ []), append_assoc ga la ((a, xs) ∷ []))
      (related loc fa ga (la ++ (a, xs) ∷ []) slot ki (keys-append la ((a, xs) ∷ []) ∙ ap (λ t. t ++ a ∷ []) ka) g)

  pub rel_set_int : (x : Name) (v : ℤ) → can_write c x ≡ true → fits v ≡ true → Rel c fo go Slot ints arrays (set_int x v f0) (set_int x v g0)
  rel_set_int x v can f =
      let p : put x v (fo ++ loc) ≡ fo ++ put x v loc = put_past x v fo loc (writes_outer c fo go Slot w x can) in
      let q : put x v (go ++ loc) ≡ go ++ put x v loc = put_past x v go loc (writes_given c fo go Slot w x can) in
      let g : Good (source c fo (put x v loc) fa la) = record { ints = rw (← p) (fit-put x v (fo ++ loc) f good.ints); arrays = good.arrays } in
      rw (p, q) (related (put x v loc) fa ga la slot (keys-put x v loc ∙ ki) ka g)

  pub rel_set_array : (a : Name) (xs : List ℤ) → is_local c a ≡ true → Fine xs → Rel c fo go Slot ints arrays (set_array a xs f0) (set_array a xs g0)
  rel_set_array a xs can f =
      let p : put a xs (fa ++ la) ≡ fa ++ put a xs la = put_past a xs fa la (local_outer c fo go Slot w fa ga slot a can) in
      let q : put a xs (ga ++ la) ≡ ga ++ put a xs la = put_past a xs ga la (local_given c fo go Slot w fa ga slot a can) in
      let g : Good (source c fo loc fa (put a xs la)) = record { ints = good.ints; arrays = rw (← p) (fine-put a xs (fa ++ la) f good.arrays) } in
      rw (p, q) (related loc fa ga (put a xs la) slot ki (keys-put a xs la ∙ ka) g)

  pub declare_alike : (x : Name) (e : Expr) → can_evaluate c e ≡ true → (line left : ℕ) (fs fs' : List Function) (calls calls' : Calls) →
      Alike (OutOf (ints ++ x ∷ []) arrays) left (run (Declare x e) line fs calls f0 left) (run (Declare x (lower_expr c.over e)) line fs' calls' g0 left)
  declare_alike x e can line left fs fs' calls calls' =
      value_then (evaluate e f0) (evaluate (lower_expr c.over e) g0) line left (evaluate_same c fo go Slot w e can loc fa ga la slot) (evaluate_fits e f0 good (can_fit c e can)) _ _ (λ v l f le.
      alike_pay 1 l _ _ (λ enough. alike_done (l - 1) (goes (rel_new_int x v f) (kept_same (fa ++ la) (fa ++ la) refl))))

  pub assign_alike : (x : Name) (e : Expr) → can_write c x ≡ true → can_evaluate c e ≡ true → (line left : ℕ) (fs fs' : List Function) (calls calls' : Calls) →
      Alike (OutOf ints arrays) left (run (Assign x e) line fs calls f0 left) (run (Assign x (lower_expr c.over e)) line fs' calls' g0 left)
  assign_alike x e write can line left fs fs' calls calls' =
      value_then (evaluate e f0) (evaluate (lower_expr c.over e) g0) line left (evaluate_same c fo go Slot w e can loc fa ga la slot) (evaluate_fits e f0 good (can_fit c e can)) _ _ (λ v l f le.
      alike_pay 1 l _ _ (λ enough. alike_done (l - 1) (goes (rel_set_int x v write f) (kept_same (fa ++ la) (fa ++ la) refl))))

  pub declare_array_alike : (a : Name) (e : Expr) → can_evaluate c e ≡ true → (line left : ℕ) (fs fs' : List Function) (calls calls' : Calls) →
      Alike (OutOf ints (arrays ++ a ∷ [])) left (run (DeclareArray a e) line fs calls f0 left) (run (DeclareArray a (lower_expr c.over e)) line fs' calls' g0 left)
  declare_array_alike a e can line left fs fs' calls calls' =
      value_then (and_then (evaluate e f0) new_length) (and_then (evaluate (lower_expr c.over e) g0) new_length) line left
      (ap (λ ev. and_then ev new_length) (evaluate_same c fo go Slot w e can loc fa ga la slot))
      (then_fits (evaluate e f0) new_length (evaluate_fits e f0 good (can_fit c e can)) new_length_fits) _ _ (λ v l f le.
      alike_done l (goes (rel_new_array a (replicate (natural v) (pos 0)) (zeros_fine v f)) (kept_more (fa ++ la) ((a, replicate (natural v) (pos 0)) ∷ []))))

  pub reduce_alike : (how : Reduction) (s : Name) (e : Expr) → can_evaluate c e ≡ true → (line left : ℕ) (fs fs' : List Function) (calls calls' : Calls) →
      Alike (OutOf ints arrays) left (run (Reduce how s e) line fs calls f0 left) (run (Reduce how s (lower_expr c.over e)) line fs' calls' g0 left)
  reduce_alike how s e can line left fs fs' calls calls' =
      value_then (evaluate e f0) (evaluate (lower_expr c.over e) g0) line left (evaluate_same c fo go Slot w e can loc fa ga la slot) (evaluate_fits e f0 good (can_fit c e can)) _ _ (λ v l f le.
      alike_pay 1 l _ _ (λ enough. alike_after {t = record { lines = []; updates = (s, v) ∷ []; events = [] }}
      {u = record { lines = []; updates = (s, v) ∷ []; events = [] }} (omega arith) refl refl (same_events [])
      (alike_done (l - 1) (goes (related loc fa ga la slot ki ka good) (kept_same (fa ++ la) (fa ++ la) refl)))))

  pub print_alike : (e : Expr) → can_evaluate c e ≡ true → (line left : ℕ) (fs fs' : List Function) (calls calls' : Calls) →
      Alike (OutOf ints arrays) left (run (Print e) line fs calls f0 left) (run (Print (lower_expr c.over e)) line fs' calls' g0 left)
  print_alike e can line left fs fs' calls calls' =
      value_then (evaluate e f0) (evaluate (lower_expr c.over e) g0) line left (evaluate_same c fo go Slot w e can loc fa ga la slot) (evaluate_fits e f0 good (can_fit c e can)) _ _ (λ v l f le.
      alike_pay 1 l _ _ (λ enough. alike_after {t = record { lines = v ∷ []; updates = []; events = [] }}
      {u = record { lines = v ∷ []; updates = []; events = [] }} (omega arith) refl refl (same_events [])
      (alike_done (l - 1) (goes (related loc fa ga la slot ki ka good) (kept_same (fa ++ la) (fa ++ la) refl)))))

  pub sync_alike : (line left : ℕ) (fs fs' : List Function) (calls calls' : Calls) →
      Alike (OutOf ints arrays) left (run Sync line fs calls f0 left) (run Sync line fs' calls' g0 left)
  sync_alike line left fs fs' calls calls' =
      alike_after {t = shows (Join ∷ [])} {u = shows (Join ∷ [])} (omega arith) refl refl (same_events (Join ∷ []))
      (alike_pay 1 left _ _ (λ enough. alike_done (left - 1) (goes (related loc fa ga la slot ki ka good) (kept_same (fa ++ la) (fa ++ la) refl))))

  -- outside of all loops the frames are equal
  top_same : c.returns ≡ true → g0 ≡ f0
  top_same r =
      let h = w.top r fa ga slot in
      ap (λ t. record { ints = t ++ loc; arrays = ga ++ la; sliced = [] }) (sym h.0)
      ∙ ap (λ t. record { ints = fo ++ loc; arrays = t ++ la; sliced = [] }) (sym h.1)
      ∙ ap (λ t. record { ints = fo ++ loc; arrays = fa ++ la; sliced = t }) (sym h.2)

  back_alike : (v : Option ℤ) (left : ℕ) → c.returns ≡ true → OptionFits v → Alike (OutOf ints arrays) left (Done (ByReturn v f0) left quiet) (Done (ByReturn v g0) left quiet)
  back_alike v left r f = rw (top_same r) (alike_done left (returns r f good (kept_same (fa ++ la) (fa ++ la) refl)))

  pub return_alike : (e : Option Expr) → c.returns ≡ true → can_lower c ints arrays (Return e) ≡ true → (line left : ℕ) (fs fs' : List Function) (calls calls' : Calls) →
      Alike (OutOf ints arrays) left (run (Return e) line fs calls f0 left) (run (Return (lower_option c.over e)) line fs' calls' g0 left)
  return_alike None r can line left fs fs' calls calls' =
      alike_after {t = shows (Join ∷ [])} {u = shows (Join ∷ [])} (omega arith) refl refl (same_events (Join ∷ [])) (alike_pay 1 left _ _ (λ enough. back_alike None (left - 1) r tt))
  return_alike (Some e) r can line left fs fs' calls calls' =
      let ok = and_parts c.returns (can_evaluate c e) can in
      value_then (evaluate e f0) (evaluate (lower_expr c.over e) g0) line left (evaluate_same c fo go Slot w e ok.1 loc fa ga la slot) (evaluate_fits e f0 good (can_fit c e ok.1)) _ _ (λ v l f le.
      alike_after {t = shows (Join ∷ [])} {u = shows (Join ∷ [])} (omega arith) refl refl (same_events (Join ∷ [])) (alike_pay 1 l _ _ (λ enough. back_alike (Some v) (l - 1) r f)))
