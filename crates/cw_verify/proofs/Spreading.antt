-- The changes that a step of a search makes, and the facts that it keeps.
use Rattle.std.proofs.Common.{◌≡◌, ◌⊎◌, inl, inr, ⊎_elim, ℕ, zero, suc, ◌+◌, ◌-◌, ◌<◌, ◌≤◌, Bool, true, false, ◌||◌, Option}
use Rattle.std.proofs.Common.{Some, None, List, [], ◌∷◌, length, get_or, refl, sym, ap, ◌∙◌, subst, arith}
use Rattle.std.specs.Prelude.{replicate, slice_get, slice_set, option_map, Result, Ok, Err}
use Rattle.std.proofs.lemmas.List.{length-map, length-replicate, map-set, set-set}
use Rattle.std.proofs.lemmas.Option.{slice_get_within, slice_get-map, slice_get-get_or, same_Some}
use Rattle.std.proofs.lemmas.Bool.{cases_eq}
use Rattle.cw_facts.specs.Lists.{set_other, set_same}
use Rattle.cw_text.specs.declared.fault.Fault.{Fault}
use Rattle.cw_text.specs.declared.fault.Fault.TheVariants as fault
use Rattle.cw_code.specs.declared.code.Func.{Func}
use Rattle.cw_code.specs.declared.code.Instr.{Instr}
use Rattle.cw_code.specs.Code.{Code}
use Rattle.cw_code.specs.Fits.{Shape, Table, FlowsInto, FlowsIntoEach, IsTable, first_shape, leaves, nexts, names_well}
use Rattle.cw_code.specs.lemmas.Slots.{each_covers_itself}
use Rattle.cw_verify.specs.declared.found.Found.{Found}
use Rattle.cw_verify.specs.declared.numbers.Numbers.{Numbers}
use Rattle.cw_verify.specs.declared.search.Search.{Search}
use Rattle.cw_verify.specs.Table.{Shapes, shape_view, shapes_of, may_act, joined, come_at, come, visited, unmarked_at, unmarked_in, unreached, IsIn}
use Rattle.cw_verify.specs.Table.{IsAddedToWork, AddsToWork, left_to_do, Spread, Tells, table_of, IsDone, IsSearch, Fails, AllNamed, blocks_of}
use Rattle.cw_verify.proofs.Tables.{may_ready, may_thawed, leads_at, Visited, visits, visit_done, leads_grown, done_grown, held}

-- the states of pcs as shapes
pub shapes_length : (items : List (Option Found)) → length (shapes_of items) ≡ length items
shapes_length items = length-map items (option_map shape_view)

pub shapes_at : (items : List (Option Found)) (k : ℕ) (o d : Option Found) → k < length items → o ≡ get_or items k d → slice_get (shapes_of items) k ≡ Some (option_map shape_view o)
shapes_at items k o d lt e = slice_get-map (option_map shape_view) items k ∙ ap (option_map (option_map shape_view)) (slice_get-get_or items k d lt ∙ ap Some (sym e))

pub shapes_set : (items : List (Option Found)) (k : ℕ) (y z : Option Found) → shapes_of (slice_set (slice_set items k y) k z) ≡ slice_set (shapes_of items) k (option_map shape_view z)
shapes_set items k y z = ap shapes_of (set-set items k y z) ∙ map-set (option_map shape_view) items k z

nowhere : {k : ℕ} → IsIn k [] → ⊥
nowhere (j, e) = cc

-- a pc that is reached for the first time reduces the number of unreached pcs by one
unreached_new : (shapes : Shapes) (k : ℕ) (s : Shape) → slice_get shapes k ≡ Some None → suc (unreached (slice_set shapes k (Some s))) ≡ unreached shapes
unreached_new [] k s e = cc
unreached_new (None ∷ shapes) zero s e = refl
unreached_new (Some t ∷ shapes) zero s e = cc
unreached_new (None ∷ shapes) (suc k) s e = ap suc (unreached_new shapes k s e)
unreached_new (Some t ∷ shapes) (suc k) s e = unreached_new shapes k s e

unreached_same : (shapes : Shapes) (k : ℕ) (t s : Shape) → slice_get shapes k ≡ Some (Some t) → unreached (slice_set shapes k (Some s)) ≡ unreached shapes
unreached_same [] k t s e = cc
unreached_same (None ∷ shapes) zero t s e = cc
unreached_same (Some u ∷ shapes) zero t s e = refl
unreached_same (None ∷ shapes) (suc k) t s e = ap suc (unreached_same shapes k t s e)
unreached_same (Some u ∷ shapes) (suc k) t s e = unreached_same shapes k t s e

unmarked_less : (shapes : Shapes) (k : ℕ) (t s : Shape) → slice_get shapes k ≡ Some (Some t) → unmarked_at (Some s) < unmarked_at (Some t)
    → unmarked_in (slice_set shapes k (Some s)) < unmarked_in shapes
unmarked_less [] k t s e lt = cc
unmarked_less (o ∷ shapes) zero t s e lt = let same : o ≡ Some t = same_Some o (Some t) e in omega (arith, lt, ap unmarked_at same)
unmarked_less (o ∷ shapes) (suc k) t s e lt = omega (arith, unmarked_less shapes k t s e lt)

-- a step that changes nothing
pub spread_none : (shapes : Shapes) (work : List ℕ) → Spread shapes shapes work work false
spread_none shapes work = record { kept = λ j h. h; noted = λ j. inl refl; from = λ j h. inl h; fewer = omega arith; reaches = λ e. cc; shrinks = λ e. omega arith }

module _ (shapes : Shapes) (k : ℕ) (s : Shape) (work work' : List ℕ) (n : IsAddedToWork k work work') where
  abbrev changed : Shapes
  changed = slice_set shapes k (Some s)

  noted_one : (j : ℕ) → (slice_get changed j ≡ slice_get shapes j) ⊎ IsIn j work'
  noted_one j = ⊎_elim (λ (q : j ≡ k). inr (subst (λ i. IsIn i work') (sym q) n.here)) (λ (q : j ≡ k → ⊥). inl (set_other shapes k j (Some s) q)) (cases_eq j k)

  from_one : k < length shapes → (j : ℕ) → IsIn j work' → IsIn j work ⊎ (j < length shapes)
  from_one lt j h = ⊎_elim (λ (q : IsIn j work). inl q) (λ (q : j ≡ k). inr (omega (arith, q, lt))) (n.from j h)

  -- a pc is reached
  pub spread_new : slice_get shapes k ≡ Some None → Spread shapes changed work work' true
  spread_new e = record {
    kept = n.kept;
    noted = noted_one;
    from = from_one (slice_get_within shapes k None e);
    fewer = omega (arith, unreached_new shapes k s e);
    reaches = λ q. omega (arith, unreached_new shapes k s e);
    shrinks = λ q. cc;
  }

  -- more flows to a pc
  pub spread_more : (t : Shape) → slice_get shapes k ≡ Some (Some t) → unmarked_at (Some s) < unmarked_at (Some t) → Spread shapes changed work work' false
  spread_more t e less = record {
    kept = n.kept;
    noted = noted_one;
    from = from_one (slice_get_within shapes k (Some t) e);
    fewer = omega (arith, unreached_same shapes k t s e);
    reaches = λ q. cc;
    shrinks = λ q. omega (arith, unmarked_less shapes k t s e less, n.longer);
  }

-- two steps together are one step
pub spread_both : (a b c : Shapes) (u v w : List ℕ) (p q : Bool) → length b ≡ length a → Spread a b u v p → Spread b c v w q → Spread a c u w (p || q)
spread_both a b c u v w p q n h k = record {
  kept = λ j i. k.kept j (h.kept j i);
  noted = λ j. ⊎_elim (λ (e : slice_get c j ≡ slice_get b j). ⊎_elim (λ (d : slice_get b j ≡ slice_get a j). inl (e ∙ d))
      (λ (i : IsIn j v). inr (k.kept j i)) (h.noted j)) (λ (i : IsIn j w). inr i) (k.noted j);
  from = λ j i. ⊎_elim (λ (e : IsIn j v). h.from j e) (λ (lt : j < length b). inr (omega (arith, lt, n))) (k.from j i);
  fewer = omega (arith, h.fewer, k.fewer);
  reaches = either p q h.reaches k.reaches;
  shrinks = neither p q h.shrinks k.shrinks;
}
  where
    either : (p q : Bool) → (p ≡ true → unreached b < unreached a) → (q ≡ true → unreached c < unreached b) → (p || q) ≡ true → unreached c < unreached a
    either true q x y e = omega (arith, x refl, k.fewer)
    either false true x y e = omega (arith, y refl, h.fewer)
    either false false x y e = cc

    neither : (p q : Bool) → (p ≡ false → left_to_do b v ≤ left_to_do a u) → (q ≡ false → left_to_do c w ≤ left_to_do b v) → (p || q) ≡ false → left_to_do c w ≤ left_to_do a u
    neither true q x y e = cc
    neither false true x y e = cc
    neither false false x y e = omega (arith, x refl, y refl)

-- a shape flowed to a pc that was not reached
pub come_new : (items : List (Option Found)) (work work' : List ℕ) (k : ℕ) (y o d : Option Found) (r : Found) → IsAddedToWork k work work' → k < length items → o ≡ get_or items k d → o ≡ None →
    (come (shapes_of items) k (shape_view r) ≡ Some (shapes_of (slice_set (slice_set items k y) k (Some r))))
    × Spread (shapes_of items) (shapes_of (slice_set (slice_set items k y) k (Some r))) work work' true
come_new items work work' k y o d r n lt e none =
    let at = shapes_at items k o d lt e ∙ ap (λ x. Some (option_map shape_view x)) none in
    let set = shapes_set items k y (Some r) in (
      ap (come_at (shapes_of items) k (shape_view r)) at ∙ ap Some (sym set),
      subst (λ l. Spread (shapes_of items) l work work' true) (sym set) (spread_new (shapes_of items) k (shape_view r) work work' n at),
    )

-- a shape flowed to a pc that was reached
pub come_more : (items : List (Option Found)) (work work' : List ℕ) (k : ℕ) (y o d : Option Found) (t r : Found) (s : Shape) (more : Bool)
    → AddsToWork more k work work' → k < length items → o ≡ get_or items k d → o ≡ Some t → joined (Some (shape_view t)) s ≡ Some (shape_view r) →
    (more ≡ false → shape_view r ≡ shape_view t) → (more ≡ true → unmarked_at (Some (shape_view r)) < unmarked_at (Some (shape_view t))) →
    (come (shapes_of items) k s ≡ Some (shapes_of (slice_set (slice_set items k y) k (Some r)))) × Spread (shapes_of items) (shapes_of (slice_set (slice_set items k y) k (Some r))) work work' false
come_more items work work' k y o d t r s more n lt e some is same fewer = (
  ap (come_at (shapes_of items) k s) at ∙ ap (option_map (λ t. slice_set (shapes_of items) k (Some t))) is ∙ ap Some (sym set),
  subst (λ l. Spread (shapes_of items) l work work' false) (sym set) (by more n same fewer),
)
  where
    at : slice_get (shapes_of items) k ≡ Some (Some (shape_view t))
    at = shapes_at items k o d lt e ∙ ap (λ x. Some (option_map shape_view x)) some

    set : shapes_of (slice_set (slice_set items k y) k (Some r)) ≡ slice_set (shapes_of items) k (Some (shape_view r))
    set = shapes_set items k y (Some r)

    by : (more : Bool) → AddsToWork more k work work' → (more ≡ false → shape_view r ≡ shape_view t)
        → (more ≡ true → unmarked_at (Some (shape_view r)) < unmarked_at (Some (shape_view t)))
        → Spread (shapes_of items) (slice_set (shapes_of items) k (Some (shape_view r))) work work' false
    by true n h l = spread_more (shapes_of items) k (shape_view r) work work' n (shape_view t) at (l refl)
    by false n h l =
        let kept = set_same (shapes_of items) k (Some (shape_view t)) at in
        subst (λ l. Spread (shapes_of items) l work work' false) (sym (ap (λ x. slice_set (shapes_of items) k (Some x)) (h refl) ∙ kept))
        (subst (λ w. Spread (shapes_of items) (shapes_of items) work w false) (sym n) (spread_none (shapes_of items) work))

-- a search continues after the visit of a pc from the work list
pub visit_search : (code : Code) (f : Func) (old new : Shapes) (work rest work' : List ℕ) (k : ℕ) (i : Instr) (reached : Bool)
    → f.end ≤ length code.instrs → AllNamed code f → IsSearch code f old work → IsAddedToWork k rest work →
    slice_get code.instrs (f.start + k) ≡ Some i → visited code f.start old k i ≡ Some new → Spread old new rest work' reached → IsSearch code f new work'
visit_search code f old new work rest work' k i reached inside named h e is v spread = record {
  whole = omega (arith, h.whole, made.as_many);
  starts = leads_grown f.start old new f.start (first_shape f) (omega arith) made.grows h.starts;
  below = λ t table. made.below t table (h.below t table);
  small = λ j q. ⊎_elim (λ (p : IsIn j rest). omega (arith, h.small j (e.kept j p), made.as_many)) (λ (lt : j < length old). omega (arith, lt, made.as_many)) (spread.from j q);
  done = λ j lt. ⊎_elim (λ (same : slice_get new j ≡ slice_get old j). at j (omega (arith, lt, made.as_many)) same) (λ (q : IsIn j work'). inl q) (spread.noted j);
}
  where
    lt : k < length old
    lt = h.small k e.here

    named_at : (j : ℕ) → j < length old → (i : Instr) → slice_get code.instrs (f.start + j) ≡ Some i → names_well code f (f.start + j) i ≡ true
    named_at j lt i is = named (f.start + j) i (omega arith) (omega (arith, lt, h.whole)) is

    made : Visited code f old new
    made = visits code f old k i is (named_at k lt i is) new v

    here : slice_get new k ≡ slice_get old k → IsDone code f.start new k
    here same = λ s i' q is'.
        let r : i ≡ i' = same_Some i i' (sym is ∙ is') in
        let d = visit_done code f old k i is (named_at k lt i is) s new (sym same ∙ q) v in
        subst (λ x. (may_act code s x ≡ true) × FlowsIntoEach (table_of f.start new) (leaves code s x) (nexts (f.start + k) x)) r d

    at : (j : ℕ) → j < length old → slice_get new j ≡ slice_get old j → IsIn j work' ⊎ IsDone code f.start new j
    at j lt' same =
        ⊎_elim (λ (q : j ≡ k). inr (subst (λ n. IsDone code f.start new n) (sym q) (here (ap (slice_get new) (sym q) ∙ same ∙ ap (slice_get old) q))))
        (λ (q : j ≡ k → ⊥). ⊎_elim (λ (p : IsIn j work). ⊎_elim (λ (r : IsIn j rest). inl (spread.kept j r)) (λ (r : j ≡ k). absurd (q r)) (e.from j p))
        (λ (d : IsDone code f.start old j). inr (done_grown code f old new j (named_at j lt') made.grows same d)) (h.done j lt'))
        (cases_eq j k)

-- when the work list is empty, what was found is a table
pub closed_is_table : (code : Code) (f : Func) (shapes : Shapes) → f.end ≤ length code.instrs → IsSearch code f shapes [] → IsTable code f (table_of f.start shapes)
closed_is_table code f shapes inside h = record {
  starts = h.starts;
  within = λ place s e. let p = held f.start shapes place s e in (p.0, omega (arith, p.0, slice_get_within shapes (place - f.start) (Some s) p.1, h.whole));
  ready = λ place s i e is. may_ready code s i (both place s i e is).0;
  thawed = λ place s i e is. may_thawed code s i (both place s i e is).0;
  goes = λ place s i e is. (both place s i e is).1;
}
  where
    both : (place : ℕ) (s : Shape) (i : Instr) → table_of f.start shapes place ≡ Some s → slice_get code.instrs place ≡ Some i
        → (may_act code s i ≡ true) × FlowsIntoEach (table_of f.start shapes) (leaves code s i) (nexts place i)
    both place s i e is =
        let p = held f.start shapes place s e in
        let same : f.start + (place - f.start) ≡ place = omega (arith, p.0) in
        let is' : slice_get code.instrs (f.start + (place - f.start)) ≡ Some i = ap (slice_get code.instrs) same ∙ is in
        let lt = slice_get_within shapes (place - f.start) (Some s) p.1 in
        let d : IsDone code f.start shapes (place - f.start) = ⊎_elim (λ (q : IsIn (place - f.start) []). absurd (nowhere q))
        (λ (d : IsDone code f.start shapes (place - f.start)). d) (h.done (place - f.start) lt) in
        subst (λ n. (may_act code s i ≡ true) × FlowsIntoEach (table_of f.start shapes) (leaves code s i) (nexts n i)) same (d s i p.1 is')

-- why a step has no result
pub fails_from : (e : Fault) (found : Option Shapes) (old new : Search) (none : Type 0) → Tells (Err e) found old new → (found ≡ None → none) → Fails none e
fails_from fault.Code found old new none h go = go h
fails_from fault.Memory found old new none h go = tt
fails_from _ found old new none h go = absurd h

-- `Tells` does not depend on the numbers of blocks
pub tells_from : (result : Result Bool Fault) (found : Option Shapes) (old new : Search) (n : Numbers) → Tells result found (record old { numbers = n }) new → Tells result found old new
tells_from (Ok reached) found old new n h = h
tells_from (Err fault.Code) found old new n h = h
tells_from (Err fault.Memory) found old new n h = h
tells_from (Err _) found old new n h = h

pub fails_as : (e : Fault) (P Q : Type 0) → (P → Q) → Fails P e → Fails Q e
fails_as fault.Code P Q go h = go h
fails_as fault.Memory P Q go h = tt
fails_as _ P Q go h = absurd h

-- a search begins
nothing : (n k : ℕ) (s : Shape) → slice_get (replicate {A = Option Shape} n None) k ≡ Some (Some s) → ⊥
nothing zero k s e = cc
nothing (suc n) zero s e = cc
nothing (suc n) (suc k) s e = nothing n k s e

pub begins : (code : Code) (f : Func) (shapes : Shapes) (work : List ℕ) → f.start < f.end
    → shapes ≡ Some (first_shape f) ∷ replicate (f.end - f.start - 1) None → IsAddedToWork 0 [] work → IsSearch code f shapes work
begins code f shapes work order e w = subst (λ l. IsSearch code f l work) (sym e) (record {
  whole = omega (arith, order, length-replicate {A = Option Shape} (f.end - f.start - 1) None);
  starts = subst (λ p. FlowsInto (table_of f.start first) p (first_shape f)) zero_more
      (leads_at f.start first 0 (first_shape f) (first_shape f) refl refl (each_covers_itself (blocks_of (first_shape f))));
  below = λ t table k s q. below t table k s q;
  small = λ k q. at_most_one k q;
  done = λ k lt. done k;
})
  where
    first : Shapes
    first = Some (first_shape f) ∷ replicate (f.end - f.start - 1) None

    zero_more : f.start + 0 ≡ f.start
    zero_more = omega arith

    below : (t : Table) → IsTable code f t → (k : ℕ) (s : Shape) → slice_get first k ≡ Some (Some s) → FlowsInto t (f.start + k) s
    below t table zero s q =
        let is : first_shape f ≡ s = cc in
        subst (λ p. FlowsInto t p s) (sym zero_more) (subst (λ y. FlowsInto t f.start y) is table.starts)
    below t table (suc k) s q = absurd (nothing (f.end - f.start - 1) k s q)

    at_most_one : (k : ℕ) → IsIn k work → k < length first
    at_most_one k q = ⊎_elim (λ (p : IsIn k []). absurd (nowhere p)) (λ (p : k ≡ 0). omega (arith, p)) (w.from k q)

    done : (k : ℕ) → IsIn k work ⊎ IsDone code f.start first k
    done zero = inl w.here
    done (suc k) = inr (λ s i q is. absurd (nothing (f.end - f.start - 1) k s q))

-- at the beginning only the first pc is reached
pub begun : (items : List (Option Found)) (first : Found) (n : ℕ) (f : Func) → items ≡ Some first ∷ replicate n None
    → shape_view first ≡ first_shape f → shapes_of items ≡ Some (first_shape f) ∷ replicate n None
begun items first n f e is = ap shapes_of e ∙ ap (λ s. Some s ∷ shapes_of (replicate n None)) is ∙ ap (λ l. Some (first_shape f) ∷ l) (none n)
  where
    none : (n : ℕ) → shapes_of (replicate n None) ≡ replicate n None
    none zero = refl
    none (suc n) = ap (λ l. None ∷ l) (none n)
