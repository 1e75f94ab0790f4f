-- Each step at a deque keeps its rule.
use Rattle.std.proofs.Common.{◌≡◌, ◌≢◌, ◌<◌, ◌+◌, ◌⊎◌, ℕ, zero, suc, true, false, List, [], ◌∷◌, ◌++◌, length, map, set, sym, refl, ap, ◌∙◌, subst, inl, inr, ⊎_elim, arith, Option, Some}
use Rattle.std.proofs.lemmas.List.{length-map}
use Rattle.std.proofs.lemmas.Option.{none-some, same_Some}
use mathlib.Core.Option.{some, some-injective, some-ne-none}
use mathlib.Core.List.{map-append}
use lib.ListN.{get_elem?}
use Rattle.crossbeam_deque.specs.Tasks.{Pushes, Pops, Takes, Forks}
use Rattle.crossbeam_deque.proofs.Lists.{at_set, at_snoc, set_again}
use Rattle.atomic_table.specs.Seated.{TableId}
use Rattle.atomic_table.specs.declared.shared.Seat.{Seat}
use Rattle.cw_facts.specs.Lists.{each_init, each_pushed}
use Rattle.cw_yard.specs.declared.left.Left.{Left}
use Rattle.cw_yard.specs.declared.view.CellView.{CellView}
use Rattle.cw_yard.specs.declared.task.Task.{Task}
use Rattle.cw_yard.specs.declared.task.Item.{Item}
use Rattle.cw_yard.specs.declared.task.Item.TheVariants.{Mark, Work}
use Rattle.cw_yard.specs.declared.task.Offer.{Offer}
use Rattle.cw_yard.specs.declared.task.DequeView.{DequeView}
use Rattle.cw_yard.specs.declared.task.DequeView.TheVariants.{Fresh, Marked, Owner, Thief}
use Rattle.cw_yard.specs.Ledger.{Each, Name, name_of, table_of, out, retaken, stolen, Entry, outs, thefts, FrontFirst, offer, lot, shown}
use Rattle.cw_yard.specs.Ledger.{Fits, Running, Dealt, MayPush, pushed, Retakes, Steals, IsOwner, IsThief, number, marked}
use Rattle.cw_yard.proofs.Ledgers.{outs-snoc, front-snoc, thefts-snoc, among, last_out, all_back, front_after, front_retake, thefts_retake, first_out}
use Rattle.cw_yard.proofs.Ledgers.{front_steal, thefts_steal, thefts_other, shown_steal, below, nil_no_cons, nil_no_snoc, head_or, tail_of}

plus_none : (n : ℕ) → 0 + n ≡ n
plus_none n = omega arith

one_view : (x v : DequeView) (p : ℕ) → get_elem? (x ∷ []) p ≡ some v → x ≡ v
one_view x v zero e = some-injective x v e
one_view x v (suc p) e = absurd (some-ne-none v (sym e))

abbrev Token : Type 0
Token = Seat (Option Left) CellView

abbrev Plays : DequeView → Type 0
Plays Fresh = ⊥
Plays (Marked t) = ⊥
Plays (Owner t os) = Unit {0}
Plays (Thief t ss) = Unit {0}

running : (items : List Item) (views : List DequeView) (p : ℕ) (v : DequeView) → Plays v → get_elem? views p ≡ some v → Dealt items views → Running items views
running items views p v plays at d =
    ⊎_elim (λ s. ⊎_elim (λ a. absurd (subst Plays (sym (one_view Fresh v p (subst (λ l. get_elem? l p ≡ some v) a.1 at))) plays))
    (λ a. absurd (subst Plays (sym (one_view (Marked a.0) v p (subst (λ l. get_elem? l p ≡ some v) a.2 at))) plays)) s)
    (λ r. r) d

refit : (z : TableId) (owner : ℕ) (ledger after : List Entry) (port : ℕ) → ((q : ℕ) → q ≢ port → thefts q 0 after ≡ thefts q 0 ledger)
    → ((q : ℕ) → q ≢ port → q ≡ owner → map shown after ≡ map shown ledger)
    → (p : ℕ) (v : DequeView) → p ≢ port → Fits z owner ledger p v → Fits z owner after p v
refit z owner ledger after port same own p Fresh apart h = h
refit z owner ledger after port same own p (Marked t) apart h = h
refit z owner ledger after port same own p (Owner t os) apart h = (h.0, h.1, h.2 ∙ sym (own p apart h.1))
refit z owner ledger after port same own p (Thief t ss) apart h = (h.0, h.1 ∙ sym (same p apart))

-- one pass has a new view, and the ledger is another one
refits : (z : TableId) (owner : ℕ) (ledger after : List Entry) (views : List DequeView) (port : ℕ) (w : DequeView) → ((p : ℕ) (v : DequeView) → get_elem? views p ≡ some v → Fits z owner ledger p v)
    → Fits z owner after port w → ((q : ℕ) → q ≢ port → thefts q 0 after ≡ thefts q 0 ledger) → ((q : ℕ) → q ≢ port → q ≡ owner → map shown after ≡ map shown ledger)
    → (p : ℕ) (v : DequeView) → get_elem? (set views port w) p ≡ some v → Fits z owner after p v
refits z owner ledger after views port w fits mine same own p v e =
    let kept : (p : ℕ) (v : DequeView) → p ≢ port → Fits z owner ledger p v → Fits z owner after p v = refit z owner ledger after port same own in
    ⊎_elim (λ (x : (p ≡ port) × (w ≡ v)). subst (λ (y : ℕ × DequeView). Fits z owner after y.0 y.1) (λ i. (sym x.0 i, x.1 i)) mine)
    (λ (x : (p ≢ port) × (get_elem? views p ≡ some v)). kept p v x.0 (fits p v x.1)) (at_set views port p w v e)

pub pushes : (port : ℕ) (v : DequeView) (k : Task) → MayPush v k → Pushes Dealt port v (Work k ∷ []) (λ w. w ≡ pushed v (Work k ∷ []))
pushes port Fresh k may items views d at = absurd may
pushes port (Marked t) k may items views d at = absurd may
pushes port (Thief t ss) k may items views d at = absurd may
pushes port (Owner t os) k may items views d at =
    let r = running items views port (Owner t os) tt at d in
    let mine = r.6 port (Owner t os) at in
    let ledger = r.2 in
    let after : List Entry = ledger ++ (lot k, out) ∷ [] in
    let w : DequeView = Owner t (os ++ offer (lot k) false ∷ []) in
    let n : number k ≡ 0 + length ledger = may.1 ∙ ap length mine.2 ∙ length-map ledger shown ∙ sym (plus_none (length ledger)) in
    let names = map-append name_of items (Work k ∷ []) ∙ (λ i. r.3 i ++ Some (n i, lot k) ∷ [])
    ∙ sym (ap (map (λ x. Some x)) (outs-snoc 0 ledger (lot k)) ∙ map-append (λ x. Some x) (outs 0 ledger) ((0 + length ledger, lot k) ∷ [])) in (
      w,
      inr (
        r.0,
        r.1,
        after,
        names,
        each_pushed (λ x. table_of x ≡ r.0) items (Work k) r.4 (may.0 ∙ mine.0),
        front-snoc ledger (lot k) r.5,
        refits r.0 r.1 ledger after views port w r.6 (
          mine.0,
          mine.1,
          ap (λ l. l ++ offer (lot k) false ∷ []) mine.2
              ∙ sym (map-append shown ledger ((lot k, out) ∷ [])),
        ) (λ q _. thefts-snoc q 0 ledger (lot k))
            (λ q apart is. absurd (apart (is ∙ sym mine.1))),
      ),
      refl,
    )

-- a list of existing names, cut before its last one
pub record Cut (l : List (Option Name)) (o : Option Name) (ns : List Name) : Type 0 where
  pub front : List Name
  pub last : Name
  pub is : ns ≡ front ++ last ∷ []
  pub fronts : l ≡ map (λ x. Some x) front
  pub lasts : o ≡ Some last

cut : (l : List (Option Name)) (o : Option Name) (ns : List Name) → l ++ o ∷ [] ≡ map (λ x. Some x) ns → Cut l o ns
cut [] o [] e = absurd (nil_no_cons o [] (sym e))
cut [] o (n ∷ []) e = record { front = []; last = n; is = refl; fronts = refl; lasts = ap (head_or o) e }
cut [] o (n ∷ m ∷ ns) e = absurd (nil_no_cons (Some m) (map (λ x. Some x) ns) (ap tail_of e))
cut (a ∷ l) o [] e = absurd (nil_no_cons a (l ++ o ∷ []) (sym e))
cut (a ∷ l) o (n ∷ ns) e = let c = cut l o ns (ap tail_of e) in record { front = n ∷ c.front; last = c.last; is = ap (λ t. n ∷ t) c.is; fronts = λ i. ap (head_or a) e i ∷ c.fronts i; lasts = c.lasts }

abbrev named : List Name → List (Option Name)
named l = map (λ x. Some x) l

-- the owner's pop, if the job is the last one in the deque
retakes : (port : ℕ) (v : DequeView) (k : Task) (items : List Item) (views : List DequeView) → IsOwner v → get_elem? views port ≡ some v
    → (r : Running (items ++ Work k ∷ []) views) → (ps : List Name) → outs 0 r.2 ≡ ps ++ (number k, lot k) ∷ [] → map name_of items ≡ named ps
    → (w : DequeView) × Dealt items (set views port w) × Retakes v (Work k ∷ []) w
retakes port Fresh k items views own at r ps is names = absurd own
retakes port (Marked t) k items views own at r ps is names = absurd own
retakes port (Thief t ss) k items views own at r ps is names = absurd own
retakes port (Owner t os) k items views own at r ps is names =
    let mine = r.6 port (Owner t os) at in
    let l = last_out 0 r.2 ps (number k, lot k) is in
    let after : List Entry = among l.before (lot k) retaken l.after in
    let pre : List Offer = map shown l.before in
    let post : List Offer = map shown l.after in
    let front = subst FrontFirst l.is r.5 in
    let none = front_after l.before (lot k) l.after front in
    let w : DequeView = Owner t (pre ++ offer (lot k) true ∷ post) in
    let tables = each_init (λ x. table_of x ≡ r.0) items (Work k) r.4 in (
      w,
      inr (
        r.0,
        r.1,
        after,
        names ∙ ap named (sym l.left),
        tables.0,
        front_retake l.before (lot k) l.after front,
        refits r.0 r.1 r.2 after views port w r.6 (mine.0, mine.1, sym (map-append shown l.before ((lot k, retaken) ∷ l.after)))
            (λ q _. sym (thefts_retake q 0 l.before (lot k) l.after) ∙ ap (thefts q 0) (sym l.is)) (λ q apart e. absurd (apart (e ∙ sym mine.1))),
      ),
      (
        k,
        pre,
        post,
        refl,
        tables.1 ∙ sym mine.0,
        mine.2 ∙ ap (map shown) l.is ∙ map-append shown l.before ((lot k, out) ∷ l.after),
        l.number ∙ plus_none (length l.before) ∙ sym (length-map l.before shown),
        all_back l.after none (l.none_out 0),
        refl,
      ),
    )

pops_at : (port : ℕ) (v : DequeView) (x : Item) (items : List Item) (views : List DequeView) → IsOwner v → get_elem? views port ≡ some v → (r : Running (items ++ x ∷ []) views)
    → Cut (map name_of items) (name_of x) (outs 0 r.2) → (w : DequeView) × Dealt items (set views port w) × Retakes v (x ∷ []) w
pops_at port v (Mark t) items views own at r c = absurd (none-some c.last c.lasts)
pops_at port v (Work k) items views own at r c =
    retakes port v k items views own at r c.front (c.is ∙ ap (λ q. c.front ++ q ∷ []) (sym (same_Some (number k, lot k) c.last c.lasts))) c.fronts

plays : (v : DequeView) → IsOwner v → Plays v
plays Fresh h = h
plays (Marked t) h = h
plays (Owner t os) h = tt
plays (Thief t ss) h = tt

pub pops : (port : ℕ) (v : DequeView) → IsOwner v → Pops Dealt port v (Retakes v)
pops port v own x items views d at =
    let r = running (items ++ x ∷ []) views port v (plays v own) at d in
    pops_at port v x items views own at r (cut (map name_of items) (name_of x) (outs 0 r.2) (sym (map-append name_of items (x ∷ [])) ∙ r.3))

-- a theft, if the job is the first one in the deque
steals : (port : ℕ) (v : DequeView) (k : Task) (items : List Item) (views : List DequeView) → IsThief v → get_elem? views port ≡ some v
    → (r : Running (Work k ∷ items) views) → (ps : List Name) → outs 0 r.2 ≡ (number k, lot k) ∷ ps → map name_of items ≡ named ps
    → (w : DequeView) × Dealt items (set views port w) × Steals v (Work k ∷ []) w
steals port Fresh k items views own at r ps is names = absurd own
steals port (Marked t) k items views own at r ps is names = absurd own
steals port (Owner t os) k items views own at r ps is names = absurd own
steals port (Thief t ss) k items views own at r ps is names =
    let mine = r.6 port (Thief t ss) at in
    let l = first_out 0 r.2 (number k, lot k) ps is in
    let after : List Entry = among l.before (lot k) (stolen port) l.after in
    let front = subst FrontFirst l.is r.5 in
    let none = front_after l.before (lot k) l.after front in
    let w : DequeView = Thief t (ss ++ (number k, lot k) ∷ []) in
    let ss_is : ss ≡ thefts port 0 (among l.before (lot k) out l.after) = mine.1 ∙ ap (thefts port 0) l.is in (
      w,
      inr (
        r.0,
        r.1,
        after,
        names ∙ ap named (sym (l.left port)),
        r.4.1,
        front_steal port 0 l.before (lot k) l.after l.none_out front,
        refits r.0 r.1 r.2 after views port w r.6 (mine.0, (λ i. ss_is i ++ (l.number i, lot k) ∷ []) ∙ sym (thefts_steal port 0 l.before (lot k) l.after none))
            (λ q apart. thefts_other port q 0 l.before (lot k) l.after (λ e. apart (sym e)) ∙ ap (thefts q 0) (sym l.is))
            (λ q _ _. shown_steal port l.before (lot k) l.after ∙ ap (map shown) (sym l.is)),
      ),
      (
        k,
        refl,
        r.4.0 ∙ sym mine.0,
        subst (λ (z : ℕ × List Name). Each (λ (x : Name). x.0 < z.0) z.1) (λ i. (sym l.number i, sym ss_is i)) (below port 0 l.before (lot k) l.after none),
        refl,
      ),
    )

steals_at : (port : ℕ) (v : DequeView) (x : Item) (items : List Item) (views : List DequeView) (ns : List Name) → IsThief v → get_elem? views port ≡ some v → (r : Running (x ∷ items) views)
    → outs 0 r.2 ≡ ns → name_of x ∷ map name_of items ≡ named ns → (w : DequeView) × Dealt items (set views port w) × Steals v (x ∷ []) w
steals_at port v x items views [] own at r is e = absurd (nil_no_cons (name_of x) (map name_of items) (sym e))
steals_at port v (Mark t) items views (n ∷ ns) own at r is e = absurd (none-some n (ap (head_or (Some n)) e))
steals_at port v (Work k) items views (n ∷ ns) own at r is e =
    steals port v k items views own at r ns (is ∙ ap (λ q. q ∷ ns) (sym (same_Some (number k, lot k) n (ap (head_or (Some n)) e)))) (ap tail_of e)

plays_thief : (v : DequeView) → IsThief v → Plays v
plays_thief Fresh h = h
plays_thief (Marked t) h = h
plays_thief (Owner t os) h = tt
plays_thief (Thief t ss) h = h

pub thieves : (port : ℕ) (v : DequeView) → IsThief v → Takes Dealt port v 1 (Steals v)
thieves port v own [] items views some_there few d at = absurd (omega arith)
thieves port v own (x ∷ []) items views some_there few d at =
    let r = running (x ∷ items) views port v (plays_thief v own) at d in
    steals_at port v x items views (outs 0 r.2) own at r refl r.3
thieves port v own (x ∷ y ∷ xs) items views some_there few d at = absurd (omega arith)

abbrev IsFresh : DequeView → Type 0
IsFresh Fresh = Unit {0}
IsFresh (Marked t) = ⊥
IsFresh (Owner t os) = ⊥
IsFresh (Thief t ss) = ⊥

abbrev IsMarked : DequeView → Type 0
IsMarked Fresh = ⊥
IsMarked (Marked t) = Unit {0}
IsMarked (Owner t os) = ⊥
IsMarked (Thief t ss) = ⊥

at_zero : (x v : DequeView) (p : ℕ) → get_elem? (x ∷ []) p ≡ some v → p ≡ 0
at_zero x v zero e = refl
at_zero x v (suc p) e = absurd (some-ne-none v (sym e))

fits_none : (z : TableId) (owner : ℕ) (ledger : List Entry) (p : ℕ) (v : DequeView) → IsFresh v ⊎ IsMarked v → ¬ Fits z owner ledger p v
fits_none z owner ledger p Fresh k h = h
fits_none z owner ledger p (Marked t) k h = h
fits_none z owner ledger p (Owner t os) k h = ⊎_elim (λ x. x) (λ x. x) k
fits_none z owner ledger p (Thief t os) k h = ⊎_elim (λ x. x) (λ x. x) k

pub marks : (port : ℕ) (x : Item) → (t : Token) → x ≡ Mark t → Pushes Dealt port Fresh (x ∷ []) (λ w. w ≡ marked (x ∷ []))
marks port x t is items views d at =
    ⊎_elim (λ s. ⊎_elim (λ (a : (items ≡ []) × (views ≡ Fresh ∷ [])).
    let here = at_zero Fresh Fresh port (subst (λ l. get_elem? l port ≡ some Fresh) a.1 at) in
    (Marked t, inl (inr (t, (λ i. a.0 i ++ is i ∷ []), λ i. set (a.1 i) (here i) (Marked t))), sym (ap (λ y. marked (y ∷ [])) is)))
    (λ a. absurd (subst IsMarked (one_view (Marked a.0) Fresh port (subst (λ l. get_elem? l port ≡ some Fresh) a.2 at)) tt)) s)
    (λ r. absurd (fits_none r.0 r.1 r.2 port Fresh (inl tt) (r.6 port Fresh at))) d

init_none : (items : List Item) (x y : Item) → items ++ x ∷ [] ≡ y ∷ [] → items ≡ []
init_none [] x y e = refl
init_none (a ∷ items) x y e = absurd (nil_no_snoc items x (sym (ap tail_of e)))

first_fits : (t : Token) (p : ℕ) (v : DequeView) → get_elem? (Owner t [] ∷ []) p ≡ some v → Fits t.table_id 0 [] p v
first_fits t p v e = subst (λ (z : ℕ × DequeView). Fits t.table_id 0 [] z.0 z.1) (λ i. (sym (at_zero (Owner t []) v p e) i, one_view (Owner t []) v p e i)) (refl, refl, refl)

pub begins : (port : ℕ) (t : Token) → Pops Dealt port (Marked t) (λ _ w. w ≡ Owner t [])
begins port t x items views d at =
    ⊎_elim (λ s. ⊎_elim (λ (a : (items ++ x ∷ [] ≡ []) × (views ≡ Fresh ∷ [])). absurd (nil_no_snoc items x (sym a.0)))
    (λ a. let here = at_zero (Marked a.0) (Marked t) port (subst (λ l. get_elem? l port ≡ some (Marked t)) a.2 at) in
    let none = init_none items x (Mark a.0) a.1 in (
      Owner t [],
      inr (
        t.table_id,
        0,
        [],
        ap (map name_of) none,
        subst (Each (λ y. table_of y ≡ t.table_id)) (sym none) tt,
        tt,
        λ p v e. first_fits t p v (subst (λ l. get_elem? l p ≡ some v) (λ i. set (a.2 i) (here i) (Owner t [])) e),
      ),
      refl,
    )) s)
    (λ r. absurd (fits_none r.0 r.1 r.2 port (Marked t) (inr tt) (r.6 port (Marked t) at))) d

none_mapped : (es : List Entry) → [] ≡ map shown es → es ≡ []
none_mapped [] e = refl
none_mapped (x ∷ es) e = absurd (nil_no_cons (shown x) (map shown es) e)

pub guests : (port : ℕ) (t : Token) → Forks Dealt port (Owner t []) (Owner t []) (Thief t [])
guests port t items views d at =
    let r = running items views port (Owner t []) tt at d in
    let mine = r.6 port (Owner t []) at in
    let none = none_mapped r.2 mine.2 in
    inr (
      r.0,
      r.1,
      r.2,
      r.3,
      r.4,
      r.5,
      λ p v e. ⊎_elim (λ was. r.6 p v (subst (λ l. get_elem? l p ≡ some v) (set_again views port (Owner t []) at) was))
          (λ (is : Thief t [] ≡ v). subst (Fits r.0 r.1 r.2 p) is (mine.0, sym (ap (thefts p 0) none))) (at_snoc (set views port (Owner t [])) (Thief t []) v p e),
    )
