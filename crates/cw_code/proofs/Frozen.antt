-- An array that is frozen in the outermost call does not change.
use Rattle.std.proofs.Common.{◌≡◌, inl, inr, ⊎_elim, ℕ, suc, ◌+◌, ◌<◌, ℤ, Bool, true, false, if◌then◌else◌, Option, Some, None, List, [], ◌∷◌, ◌++◌, length, refl, sym, ap, ◌∙◌, subst, arith}
use Rattle.std.specs.Prelude.{take, drop, map, slice_get, slice_set, is_none}
use Rattle.std.proofs.lemmas.Bool.{false≢true}
use Rattle.cw_facts.specs.Lists.{set_other}
use Rattle.cw_facts.specs.Tests.{first_true, second_true}
use Rattle.cw_code.specs.lemmas.Slots.{not_in_first, whole_slots, covers_true, set_frozen, back_slots, settled_beside}
use Rattle.cw_model.specs.declared.syntax.CallKind.{CallKind}
use Rattle.cw_model.specs.declared.syntax.CallKind.TheVariants.{Plain, Spawned}
use Rattle.cw_model.specs.Ints.{natural}
use Rattle.cw_model.specs.Outcome.{Trace}
use Rattle.cw_code.specs.declared.code.BlockKind.TheVariants.{Scope, Region}
use Rattle.cw_code.specs.declared.code.Func.{Func}
use Rattle.cw_code.specs.declared.code.Halves.{Halves}
use Rattle.cw_code.specs.declared.code.Instr.{Instr}
use Rattle.cw_code.specs.declared.code.Loan.{Loan}
use Rattle.cw_code.specs.declared.code.Instr.TheVariants as instr
use Rattle.cw_code.specs.Code.{Code}
use Rattle.cw_code.specs.Run.{Slots, Results, Waiting, Around, Caller, Block, Whole, State, Transition, On, Ends, Stops, Stuck, on_slot, is_full, settled}
use Rattle.cw_code.specs.Run.{put_in, slot_taken, Entering, begun, call_of, moved_out, parts_of, given, given_back, awaited, result_of, going_on, returns_to}
use Rattle.cw_code.specs.Run.{back, resumes, closed, resumes_uncut, cut_ends, cut_arrays, synced, passed_by, lent_by, act, step}
use Rattle.cw_code.specs.Fits.{Row, Outer, Shape, frozen_rows, is_full_in, full_in_all, none_frozen, slots_cut, slots_uncut, changes, changes_back, is_thawed, with_gone}
use Rattle.cw_code.specs.Fits.{slots_lent, with_lent, closed_shape, uncut_shape, leaves, nexts, CoversEach, Table, FlowsInto, FlowsIntoEach, Fits}
use Rattle.cw_code.specs.Good.{IsNotAmong, slots_in, arrays_round, all_of, CutsAgree, AllResume, GoodState, Facts}
use Rattle.cw_code.specs.Staying.{outermost}
use Rattle.cw_code.specs.Frozen.{is_join, all_frozen, IsFrozenIn, IsFrozenAt, outermost_arrays, AreBlocks, JoinsInside, changed_by, FrozenStay, FrozenSpared}
use Rattle.cw_code.specs.lemmas.Seats.{one_shape}
use Rattle.cw_code.specs.lemmas.Acts.{IsLocal, IsOneOf, recur_of, start_of, acts_both}
use Rattle.cw_code.proofs.Unstuck.{facts}

as_many_rows : (there out : List Outer) → CoversEach there out → length (frozen_rows there) ≡ length (frozen_rows out)
as_many_rows [] [] c = refl
as_many_rows [] (o ∷ out) c = absurd c
as_many_rows (o ∷ there) [] c = absurd c
as_many_rows (o ∷ there) (o' ∷ out) c = ap suc (as_many_rows there out c.4)

frozen_round : (depth : ℕ) (there out : List Outer) (a : ℕ) → CoversEach there out → IsFrozenIn depth (frozen_rows out) a → IsFrozenIn depth (frozen_rows there) a
frozen_round depth [] [] a c h = h
frozen_round depth [] (o ∷ out) a c h = absurd c
frozen_round depth (o ∷ there) [] a c h = absurd c
frozen_round depth (o ∷ there) (o' ∷ out) a c h = ⊎_elim
    (λ t. inl (omega (arith, t.0, as_many_rows there out c.4), covers_true o.frozen o'.frozen a c.2 t.1))
    (λ t. inr (frozen_round depth there out a c.4 t))
    h

-- a slot that is frozen after an instruction is frozen at the next place
frozen_on : (depth : ℕ) (table : Table) (p : ℕ) (out : Shape) (a : ℕ) (l : FlowsInto table p out) → IsFrozenIn depth (all_frozen out) a → IsFrozenIn depth (all_frozen l.there) a
frozen_on depth table p out a l h = ⊎_elim
    (λ t. inl (omega (arith, t.0, as_many_rows l.there.outer out.outer l.covers_outer), covers_true l.there.frozen out.frozen a l.covers_frozen t.1))
    (λ t. inr (frozen_round depth l.there.outer out.outer a l.covers_outer t))
    h

-- the slot is not frozen by a block beyond the depth
further_out : (depth : ℕ) (row : Row) (rows : List Row) (a : ℕ) → depth < length rows → IsFrozenIn depth (row ∷ rows) a → IsFrozenIn depth rows a
further_out depth row rows a lt h = ⊎_elim (λ t. absurd (omega (arith, lt, t.0))) (λ t. t) h

-- a frozen slot is not among slots that no row has as frozen
not_thawed : (depth : ℕ) (rows : List Row) (a : ℕ) → IsFrozenIn depth rows a → full_in_all rows a ≡ true → ⊥
not_thawed depth [] a h k = h
not_thawed depth (row ∷ rows) a h k = ⊎_elim
    (λ t. false≢true (sym t.1 ∙ first_true (is_full_in (slice_get row a)) (full_in_all rows a) k))
    (λ t. not_thawed depth rows a t (second_true (is_full_in (slice_get row a)) (full_in_all rows a) k))
    h

spared : (depth : ℕ) (rows : List Row) (a : ℕ) (slots : List ℕ) → IsFrozenIn depth rows a → none_frozen rows slots ≡ true → IsNotAmong a slots
spared depth rows a [] h k = tt
spared depth rows a (b ∷ slots) h k = (
  λ e. not_thawed depth rows a h (subst (λ x. full_in_all rows x ≡ true) (sym e) (first_true (full_in_all rows b) (none_frozen rows slots) k)),
  spared depth rows a slots h (second_true (full_in_all rows b) (none_frozen rows slots) k),
)

gone_frozen : (slots : List ℕ) (row : Row) (a : ℕ) → is_full_in (slice_get row a) ≡ false → is_full_in (slice_get (with_gone slots row) a) ≡ false
gone_frozen [] row a h = h
gone_frozen (b ∷ slots) row a h = set_frozen (with_gone slots row) a b (gone_frozen slots row a h)

lent_frozen : (kind : CallKind) (loans : List Loan) (row : Row) (a : ℕ) → is_full_in (slice_get row a) ≡ false → is_full_in (slice_get (with_lent kind loans row) a) ≡ false
lent_frozen Plain loans row a h = h
lent_frozen Spawned loans row a h = gone_frozen (slots_lent loans) row a h

module _ {A : Type 0} where
  -- moving arrays out does not change other slots
  moved_other : (passed : List ℕ) (slots : Slots A) (a : ℕ) → IsNotAmong a passed → slice_get (moved_out passed slots) a ≡ slice_get slots a
  moved_other [] slots a n = refl
  moved_other (b ∷ passed) slots a n = set_other (moved_out passed slots) b a None n.0 ∙ moved_other passed slots a n.1

-- slices are taken from these slots only
parts_apart : (from : ℕ) (passed : List ℕ) (given : List (List ℤ)) (a : ℕ) → IsNotAmong a passed → IsNotAmong a (map slot_taken (parts_of from passed given))
parts_apart from [] given a n = tt
parts_apart from (b ∷ passed) [] a n = tt
parts_apart from (b ∷ passed) (xs ∷ given) a n = (n.0, parts_apart from passed given a n.1)

-- the number of enclosing blocks of a call, if no caller waits, is the number in its static state
as_many_blocks : (outer : List Outer) (around : List Around) → CutsAgree outer around → AreBlocks around → length (frozen_rows outer) ≡ length around
as_many_blocks [] [] c b = refl
as_many_blocks [] (Caller w ∷ around) c b = absurd b
as_many_blocks [] (Block o ∷ around) c b = absurd c
as_many_blocks (o ∷ outer) [] c b = absurd c
as_many_blocks (o ∷ outer) (Caller w ∷ around) c b = absurd b
as_many_blocks (o ∷ outer) (Block o' ∷ around) c b = ap suc (as_many_blocks outer around c.1 b)

module _ (code : Code) (fits : Fits code) where
  module _ (depth a : ℕ) (xs : List ℤ) where
    -- the slot of the call at a place is frozen and full
    abbrev Here : (place : ℕ) → Slots (List ℤ) → Type 0
    Here place arrays = IsFrozenAt code fits place depth a × (slice_get arrays a ≡ Some (Some xs))

    -- the slot of the outermost call is frozen and full
    abbrev Still : (place : ℕ) → Slots (List ℤ) → List Around → Type 0
    Still place arrays around =
        IsFrozenAt code fits (outermost place around) depth a × (slice_get (outermost_arrays arrays around) a ≡ Some (Some xs))

    abbrev Stays : Transition → Type 0
    Stays (On s) = Still s.place s.arrays s.around
    Stays (Ends v arrays t) = Unit {0}
    Stays (Stops trap line lines) = Unit {0}
    Stays Stuck = Unit {0}

    -- a step of a call matters only if this call is the outermost one
    moves : (around : List Around) (p q : ℕ) (ys zs : Slots (List ℤ)) → (AreBlocks around → Here p ys → Here q zs) → Still p ys around → Still q zs around
    moves [] p q ys zs k h = k tt h
    moves (Caller w ∷ around) p q ys zs k h = h
    moves (Block o ∷ around) p q ys zs k h = moves around p q ys zs k h

    if_stays : (b : Bool) (x y : Transition) → Stays x → Stays y → Stays (if b then x else y)
    if_stays true x y h h' = h
    if_stays false x y h h' = h'

    slot_stays : {A : Type 0} (o : Option (Option A)) (go : A → Transition) → ((x : A) → Stays (go x)) → Stays (on_slot o go)
    slot_stays None go h = tt
    slot_stays (Some None) go h = tt
    slot_stays (Some (Some x)) go h = h x

    -- a waiting caller continues: returned arrays go into empty slots
    module _ (w : Waiting) (around : List Around) (h : Still w.place w.arrays around) (apart : is_full (slice_get w.arrays a) ≡ true → IsNotAmong a (map slot_taken w.taken)) where
      given_stays : (target : Option ℕ) (v : Option ℤ) (s : State) → Still s.place s.arrays s.around → Stays (given target v s)
      given_stays None v s k = k
      given_stays (Some t) None s k = tt
      given_stays (Some t) (Some v) s k = if_stays (is_full (slice_get s.slots t)) (On (record s { slots = slice_set s.slots t (Some v) })) Stuck k tt

      awaited_stays : (target : Option ℕ) (v : Option ℤ) (s : State) → Still s.place s.arrays s.around → Stays (awaited target v s)
      awaited_stays None v s k = k
      awaited_stays (Some t) None s k = tt
      awaited_stays (Some t) (Some v) s k = k

      come_back : (results : Results (List ℤ)) → slots_in results ≡ map slot_taken w.taken → Still w.place (settled results w.arrays) around
      come_back results same = moves around w.place w.place w.arrays (settled results w.arrays)
          (λ blocks t. (t.0, settled_beside results w.arrays a (subst (λ ks. IsNotAmong a ks) (sym same) (apart (ap is_full t.1))) ∙ t.1))
          h

      result_stays : (kind : CallKind) (target : Option ℕ) (v : Option ℤ) (results : Results (List ℤ)) (t : Trace)
          → slots_in results ≡ map slot_taken w.taken → Stays (result_of kind target v results (going_on w around t))
      result_stays Plain target v results t same = given_stays target v _ (come_back results same)
      result_stays Spawned target v results t same = awaited_stays target v _ h

      returns_stay : (v : Option ℤ) (arrays : Slots (List ℤ)) (t : Trace) → Stays (returns_to w around v (given_back w.taken arrays) t)
      returns_stay v arrays t = cases (given_back w.taken arrays) refl
        where
          cases : (o : Option (Results (List ℤ))) → given_back w.taken arrays ≡ o → Stays (returns_to w around v o t)
          cases None e = tt
          cases (Some results) e = result_stays w.kind w.target v results _ (back_slots w.taken arrays results e)

    back_stays : (callee : Func) (place : ℕ) (ys : Slots (List ℤ)) (around : List Around) (v : Option ℤ) (arrays : Slots (List ℤ)) (t : Trace)
        → AllResume code fits callee around → Still place ys around → Stays (back around v arrays t)
    back_stays callee place ys [] v arrays t r h = tt
    back_stays callee place ys (Caller w ∷ around) v arrays t r h = returns_stay w around h (r.0.apart a) v arrays t
    back_stays callee place ys (Block o ∷ around) v arrays t r h = tt

    module _ (s : State) (good : GoodState code fits s) where
      abbrev shape : Shape
      shape = good.seat.shape

      abbrev table : Table
      table = (fits.each good.seat.index good.seat.func good.seat.is_func).table

      abbrev Frozen : Shape → Type 0
      Frozen out = IsFrozenIn depth (all_frozen out) a

      -- the slot is frozen in the static state at the current place
      in_shape : IsFrozenAt code fits s.place depth a → Frozen shape
      in_shape t = subst Frozen (one_shape code fits s.place t.0 good.seat).1 t.1

      -- the call continues at a place, with other arrays
      goes : (around : List Around) (p : ℕ) (out : Shape) (zs : Slots (List ℤ)) → FlowsInto table p out
          → (AreBlocks around → Frozen shape → Frozen out)
          → (AreBlocks around → Frozen shape → slice_get s.arrays a ≡ Some (Some xs) → slice_get zs a ≡ Some (Some xs))
          → Still s.place s.arrays around → Still p zs around
      goes around p out zs l f k h = moves around s.place p s.arrays zs
          (λ blocks t.
          let fr = in_shape t.0 in
          ((record { index = good.seat.index; func = good.seat.func; is_func = good.seat.is_func; shape = l.there; at = l.found }, frozen_on depth table p out a l (f blocks fr)), k blocks fr t.1))
          h

      -- pending results go into empty slots at the join
      joined_has : slice_get s.arrays a ≡ Some (Some xs) → slice_get (settled s.arrived s.arrays) a ≡ Some (Some xs)
      joined_has has =
          settled_beside s.arrived s.arrays a (not_in_first a (slots_in s.arrived) (all_of (arrays_round s.around)) (good.call.arrays.apart a (ap is_full has))) ∙ has

      module _ (here : Still s.place s.arrays s.around) where
        -- the same call continues, with unchanged arrays
        on : (p : ℕ) (out : Shape) → FlowsInto table p out → (Frozen shape → Frozen out) → Still p s.arrays s.around
        on p out l f = goes s.around p out s.arrays l (λ blocks t. f t) (λ blocks t has. has) here

        -- another array slot was written
        written_on : (b : ℕ) (ys : List ℤ) (out : Shape) → FlowsInto table (s.place + 1) out → (Frozen shape → Frozen out)
            → (Frozen shape → IsNotAmong a (b ∷ [])) → Still (s.place + 1) (slice_set s.arrays b (Some ys)) s.around
        written_on b ys out l f apart =
            goes s.around (s.place + 1) out (slice_set s.arrays b (Some ys)) l (λ blocks t. f t)
            (λ blocks t has. set_other s.arrays b a (Some ys) (apart t).0 ∙ has) here

        -- a call begins
        begun_stays : (out : Shape) → FlowsInto table (s.place + 1) out → (Frozen shape → Frozen out) → (e : Entering) → (Frozen shape → IsNotAmong a (map slot_taken e.taken)) → Stays (On (begun s e))
        begun_stays out l f e none =
            goes s.around (s.place + 1) out (moved_out (map slot_taken e.taken) s.arrays) l (λ blocks t. f t)
            (λ blocks t has. moved_other (map slot_taken e.taken) s.arrays a (none t) ∙ has) here

        whole_apart : (passed : List ℕ) → IsNotAmong a passed → IsNotAmong a (map slot_taken (map (λ x. Whole x) passed))
        whole_apart passed n = subst (λ ks. IsNotAmong a ks) (sym (whole_slots passed)) n

        -- a cut begins, with other slots
        cut_apart : (h : Halves) (ys : List ℤ) (at : ℕ) → IsNotAmong a (slots_cut h) → slice_get s.arrays a ≡ Some (Some xs) → slice_get (cut_arrays h ys at s.arrays) a ≡ Some (Some xs)
        cut_apart h ys at n has =
            let gone = slice_set s.arrays h.array None in
            let left = slice_set gone h.left (Some (take at ys)) in
            set_other left h.right a (Some (drop at ys)) n.1.1.0 ∙ set_other gone h.left a (Some (take at ys)) n.1.0 ∙ set_other s.arrays h.array a None n.0 ∙ has

        -- a block inside the frozen ones ends
        module _ (outer : List Outer) (is : shape.outer ≡ outer) where
          round : Frozen shape → IsFrozenIn depth (shape.frozen ∷ frozen_rows outer) a
          round t = subst (λ x. IsFrozenIn depth (shape.frozen ∷ frozen_rows x) a) is t

          outside : depth < length (frozen_rows outer) → Frozen shape → IsFrozenIn depth (frozen_rows outer) a
          outside lt t = further_out depth shape.frozen (frozen_rows outer) a lt (round t)

        closed_stays : (outer : List Outer) → shape.outer ≡ outer → (around : List Around) → (AreBlocks around → depth < length (frozen_rows outer))
            → CutsAgree outer around → FlowsInto table (s.place + 1) (closed_shape shape outer)
            → Still s.place s.arrays around → Stays (closed (put_in s) around)
        closed_stays outer is [] inside c l h = tt
        closed_stays outer is (Caller w ∷ around) inside c l h = tt
        closed_stays [] is (Block b ∷ around) inside c l h = absurd c
        closed_stays (o ∷ outer) is (Block b ∷ around) inside c l h =
            if_stays (is_none b.cut) (resumes (put_in s) b around) Stuck
            (goes around (s.place + 1) (closed_shape shape (o ∷ outer)) (settled s.arrived s.arrays) l
            (λ blocks t. outside (o ∷ outer) is (inside blocks) t)
            (λ blocks t has. joined_has has) h) tt

        uncut_stays : (outer : List Outer) → shape.outer ≡ outer → (around : List Around) → (AreBlocks around → depth < length (frozen_rows outer))
            → CutsAgree outer around → none_frozen (frozen_rows outer) (changes_back outer) ≡ true → FlowsInto table (s.place + 1) (uncut_shape shape outer)
            → Still s.place s.arrays around → Stays (cut_ends (put_in s) around)
        uncut_stays outer is [] inside c th l h = tt
        uncut_stays outer is (Caller w ∷ around) inside c th l h = tt
        uncut_stays [] is (Block b ∷ around) inside c th l h = absurd c
        uncut_stays (o ∷ outer) is (Block b ∷ around) inside c th l h = by_cut b.cut c.0
          where
            by_cut : (x : Option Halves) → o.cut ≡ x → Stays (resumes_uncut (put_in s) b around x)
            by_cut None e = tt
            by_cut (Some k) e =
                slot_stays (slice_get (put_in s).arrays k.left) _ (λ left.
                slot_stays (slice_get (put_in s).arrays k.right) _ (λ right.
                let back = settled s.arrived s.arrays in
                let one = slice_set back k.left (Some []) in
                let two = slice_set one k.right (Some []) in
                goes around (s.place + 1) (uncut_shape shape (o ∷ outer)) (slice_set two k.array (Some (left ++ right))) l
                (λ blocks t. outside (o ∷ outer) is (inside blocks) t)
                (λ blocks t has.
                let n : IsNotAmong a (slots_cut k) = spared depth (frozen_rows (o ∷ outer)) a (slots_cut k) (outside (o ∷ outer) is (inside blocks) t)
                (subst (λ y. none_frozen (frozen_rows (o ∷ outer)) (slots_uncut y) ≡ true) e th) in
                set_other two k.array a (Some (left ++ right)) n.0 ∙ set_other one k.right a (Some []) n.1.1.0 ∙ set_other back k.left a (Some []) n.1.0 ∙ joined_has has) h))

        -- no row is beyond the depth
        inside_all : depth < length s.around → AreBlocks s.around → depth < length (frozen_rows shape.outer)
        inside_all lt blocks = omega (arith, lt, as_many_blocks shape.outer s.around good.call.cuts blocks)

        -- a frozen slot stays frozen when a call lends more
        lends : (kind : CallKind) (loans : List Loan) → Frozen shape → IsFrozenIn depth (with_lent kind loans shape.frozen ∷ frozen_rows shape.outer) a
        lends kind loans t = ⊎_elim (λ t. inl (t.0, lent_frozen kind loans shape.frozen a t.1)) (λ t. inr t) t

        spares : (slots : List ℕ) → none_frozen (all_frozen shape) slots ≡ true → Frozen shape → IsNotAmong a slots
        spares slots th t = spared depth (all_frozen shape) a slots t th

        -- an instruction that continues in its block leaves the same slots frozen
        kept_rows : (i : Instr) → IsLocal i → all_frozen (leaves code shape i) ≡ all_frozen shape
        kept_rows (instr.Call kind c) here = absurd here
        kept_rows (instr.Recur kind c) here = absurd here
        kept_rows (instr.Start c line) here = absurd here
        kept_rows (instr.NewArray b line) here = absurd here
        kept_rows (instr.SetElement b line) here = absurd here
        kept_rows (instr.Cut h line) here = absurd here
        kept_rows instr.EndCut here = absurd here
        kept_rows instr.Sync here = absurd here
        kept_rows (instr.Open kind) here = absurd here
        kept_rows instr.Close here = absurd here
        kept_rows instr.ReturnValue here = absurd here
        kept_rows instr.Return here = absurd here
        kept_rows _ here = refl

        one_flows : (out : Shape) (p : ℕ) (places : List ℕ) → IsOneOf p places → FlowsIntoEach table out places → FlowsInto table p out
        one_flows out p [] o l = absurd o
        one_flows out p (q ∷ places) o l = ⊎_elim (λ (e : p ≡ q). subst (λ x. FlowsInto table x out) (sym e) l.0) (λ (r : IsOneOf p places). one_flows out p places r l.1) o

        -- the premises for an instruction: it changes no frozen slot, joins only inner blocks, and the table has its
        -- successors
        abbrev Asks : Option Instr → Type 0
        Asks None = ⊥
        Asks (Some i) = (is_thawed code shape i ≡ true) × (is_join i ≡ true → depth < length s.around) × FlowsIntoEach table (leaves code shape i) (nexts s.place i)

        acts_stay : (o : Option Instr) → Asks o → Stays (act code s o)
        acts_stay o = acts_both code s s.results s.arrived s.around s.trace (λ o w w'. Asks o → Stays w) (record {
          stuck = λ o q. tt;
          stops = λ o trap line q. tt;
          local = λ i place operands slots lines updates plain next few q.
              on place (leaves code shape i) (one_flows (leaves code shape i) place (nexts s.place i) next q.2) (λ t. subst (λ rows. IsFrozenIn depth rows a) (sym (kept_rows i plain)) t);
          makes = λ b line rest ys q. written_on b ys (leaves code shape (instr.NewArray b line)) q.2.0 (λ t. t) (spares (b ∷ []) q.0);
          sets = λ b line rest ys q. written_on b ys (leaves code shape (instr.SetElement b line)) q.2.0 (λ t. t) (spares (b ∷ []) q.0);
          calls = λ kind c g given lent q.
              begun_stays (leaves code shape (instr.Call kind c)) q.2.0 (lends kind (lent_by code c.lent)) (call_of s kind c (passed_by code c.passed) g given lent)
              (λ t. whole_apart (passed_by code c.passed) (spares (passed_by code c.passed) q.0 t));
          recurs = λ kind c g given q.
              begun_stays (leaves code shape (instr.Recur kind c)) q.2.0 (λ t. t) (recur_of s kind (passed_by code c.passed) g given)
              (λ t. whole_apart (passed_by code c.passed) (spares (passed_by code c.passed) q.0 t));
          starts = λ c line g given low captured turns q.
              begun_stays (leaves code shape (instr.Start c line)) q.2.0 (λ t. t) (start_of s (passed_by code c.passed) g given low captured turns)
              (λ t. parts_apart (natural low) (passed_by code c.passed) given a (spares (passed_by code c.passed) q.0 t));
          scopes = λ q. on (s.place + 1) (leaves code shape (instr.Open Scope)) q.2.0 (λ t. inr t);
          regions = λ k tag e q. on (s.place + 1) (leaves code shape (instr.Open (Region k))) q.2.0 (λ t. inr t);
          cuts = λ h line ys rest at q.
              goes s.around (s.place + 1) (leaves code shape (instr.Cut h line)) (cut_arrays h ys at s.arrays) q.2.0 (λ blocks t. inr t)
              (λ blocks t has. cut_apart h ys at (spares (slots_cut h) q.0 t) has) here;
          uncuts = λ q. uncut_stays shape.outer refl s.around (inside_all (q.1 refl)) good.call.cuts q.0 q.2.0 here;
          syncs = λ q.
              goes s.around (s.place + 1) (leaves code shape instr.Sync) (settled s.arrived s.arrays) q.2.0
              (λ blocks t. inr (further_out depth shape.frozen (frozen_rows shape.outer) a (inside_all (q.1 refl) blocks) t))
              (λ blocks t has. joined_has has) here;
          closes = λ q. closed_stays shape.outer refl s.around (inside_all (q.1 refl)) good.call.cuts q.2.0 here;
          gives = λ v q. back_stays good.seat.func s.place s.arrays s.around (Some v) (settled s.arrived s.arrays) (synced s.trace) good.others here;
          returns = λ q. back_stays good.seat.func s.place s.arrays s.around None (settled s.arrived s.arrays) (synced s.trace) good.others here;
        }) o

        step_stays : JoinsInside code depth s → Stays (step code s)
        step_stays inside =
            let h = facts code fits s good in
            acts_stay (slice_get code.instrs s.place) (subst Asks (sym h.is) (h.thawed, inside h.instr h.is, h.leads))

      -- an instruction of the outermost call does not change the slot
      its_own_spared : AreBlocks s.around → (h : Facts code fits s good) → JoinsInside code depth s → IsFrozenAt code fits s.place depth a → IsNotAmong a (changed_by code shape h.instr)
      its_own_spared blocks h inside t = cases h.instr (inside h.instr h.is) h.thawed
        where
          cases : (i : Instr) → (is_join i ≡ true → depth < length s.around) → is_thawed code shape i ≡ true → IsNotAmong a (changed_by code shape i)
          cases instr.EndCut j th =
              spared depth (frozen_rows shape.outer) a (changes_back shape.outer)
              (further_out depth shape.frozen (frozen_rows shape.outer) a (omega (arith, j refl, as_many_blocks shape.outer s.around good.call.cuts blocks)) (in_shape t)) th
          cases i j th = spared depth (all_frozen shape) a (changes code i) (in_shape t) th

pub frozen_stay : (code : Code) (fits : Fits code) → FrozenStay code fits
frozen_stay code fits s s' depth a xs good e inside frozen has =
    subst (Stays code fits depth a xs) e (step_stays code fits depth a xs s good (frozen, has) inside)

pub frozen_spared : (code : Code) (fits : Fits code) → FrozenSpared code fits
frozen_spared code fits s depth a good h blocks inside frozen = its_own_spared code fits depth a [] s good blocks h inside frozen
