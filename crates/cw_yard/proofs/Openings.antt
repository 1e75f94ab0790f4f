-- Lists that the opening of a yard makes.
use Rattle.std.proofs.Common.{◌≡◌, ◌∙◌, ◌<◌, ◌≤◌, ◌+◌, ◌++◌, ℕ, zero, suc, List, [], ◌∷◌, length, refl, sym, ap, subst, arith, Option, Some, ◌*◌, ◌⊎◌, inl, inr, ⊎_elim, set, length-set}
use Rattle.std.proofs.Math.ListN.{get_or}
use Rattle.std.proofs.lemmas.Option.{slice_get_read, same_Some, none-some}
use Rattle.atomic_table.specs.Seated.{TableId}
use Rattle.atomic_table.specs.declared.shared.Seat.{Seat as Token}
use Rattle.cw_facts.specs.Lists.{get_last, get_before, each_at}
use Rattle.cw_yard.specs.declared.left.Left.{Left}
use Rattle.cw_yard.specs.declared.view.CellView.{CellView}
use Rattle.cw_yard.specs.declared.task.DequeView.{DequeView}
use Rattle.cw_yard.specs.declared.task.DequeView.TheVariants.{Fresh, Marked, Owner, Thief}
use Rattle.cw_yard.specs.declared.seat.Yard.{Yard}
use Rattle.cw_yard.specs.declared.seat.Seat.{Seat}
use Rattle.cw_yard.specs.declared.open.Part.{Part}
use Rattle.cw_yard.specs.Words.{StealsAt, OwnsAt, stolen, offered}
use Rattle.cw_yard.specs.Seats.{table_of, workers_of}
use Rattle.cw_yard.specs.Opened.{IsNewSeat}
use Rattle.std.specs.Prelude.{slice_get}
use Rattle.crossbeam_deque.specs.Handles.{view, IsPassOf, stealer_deque, worker_deque, worker_view, worker_flavor}
use Rattle.crossbeam_utils.specs.Padded.{padded_value}
use Rattle.cw_yard.specs.Ledger.{Each, as_thief}
use Rattle.cw_yard.specs.Opens.{OwnDeque, Victim, ThiefPass, Begins, IsFresh, IsPart, ServesDeques, HasPasses}

mul_suc : (k c : ℕ) → (suc k) * c ≡ c + k * c
mul_suc k c = omega arith

mul_le : (a b c : ℕ) → a ≤ b → a * c ≤ b * c
mul_le zero b c le = omega arith
mul_le (suc a) zero c le = absurd (omega arith)
mul_le (suc a) (suc b) c le = let r : a * c ≤ b * c = mul_le a b c (omega arith) in omega (arith, mul_suc a c, mul_suc b c)

-- a stealer of each of the first deques
abbrev pub Stolen : List OwnDeque → List Victim → Type 0
Stolen owns others = (k : ℕ) (w : OwnDeque) (o : Victim) → slice_get owns k ≡ Some w → slice_get others k ≡ Some o → stealer_deque (padded_value o) ≡ worker_deque w

pub room : (k w c from : ℕ) → from ≡ 64 + k * c → k < w → from + c ≤ 64 + w * c
room k w c from e lt =
    let n : (suc k) * c ≤ w * c = mul_le (suc k) w c (omega arith) in
    let m : (suc k) * c ≡ c + k * c = mul_suc k c in omega arith

pub next_room : (k c from : ℕ) → from ≡ 64 + k * c → from + c ≡ 64 + (k + 1) * c
next_room k c from e =
    let p : k + 1 ≡ suc k = omega arith in
    let m : (suc k) * c ≡ c + k * c = mul_suc k c in
    let q : (k + 1) * c ≡ (suc k) * c = ap (λ (n : ℕ). n * c) p in omega arith

pub set_cases : {A : Type 0} (xs : List A) (k j : ℕ) (y x : A) → slice_get (set xs k y) j ≡ Some x → ((j ≡ k) × (y ≡ x)) ⊎ (slice_get xs j ≡ Some x)
set_cases [] k j y x e = inr e
set_cases (a ∷ xs) zero zero y x e = inl (refl, same_Some y x e)
set_cases (a ∷ xs) zero (suc j) y x e = inr e
set_cases (a ∷ xs) (suc k) zero y x e = inr e
set_cases (a ∷ xs) (suc k) (suc j) y x e = ⊎_elim (λ p. inl (ap suc p.0, p.1)) (λ p. inr p) (set_cases xs k j y x e)

pub snoc_cases : {A : Type 0} (xs : List A) (y x : A) (j : ℕ) → slice_get (xs ++ y ∷ []) j ≡ Some x → ((j ≡ length xs) × (y ≡ x)) ⊎ (slice_get xs j ≡ Some x)
snoc_cases [] y x zero e = inl (refl, same_Some y x e)
snoc_cases [] y x (suc j) e = absurd (none-some x e)
snoc_cases (a ∷ xs) y x zero e = inr e
snoc_cases (a ∷ xs) y x (suc j) e = ⊎_elim (λ p. inl (ap suc p.0, p.1)) (λ p. inr p) (snoc_cases xs y x j e)

each_set : {A : Type 0} (P : A → Type 0) (xs : List A) (k : ℕ) (y : A) → Each P xs → P y → Each P (set xs k y)
each_set P [] k y h p = tt
each_set P (a ∷ xs) zero y h p = (p, h.1)
each_set P (a ∷ xs) (suc k) y h p = (h.0, each_set P xs k y h.1 p)

begins : (z : TableId) (v : DequeView) → Begins z v → (t : Token (Option Left) CellView) × (v ≡ Owner t [])
begins z Fresh h = absurd h
begins z (Marked t) h = absurd h
begins z (Owner t os) h = (t, ap (λ l. Owner t l) h.1)
begins z (Thief t ss) h = absurd h

-- a fresh deque may have guests
pub may_guest : (z : TableId) (owns : List OwnDeque) (k : ℕ) (w : OwnDeque) → Each (IsFresh z) owns → k < length owns → w ≡ get_or owns k w
    → (t : Token (Option Left) CellView) × (worker_view w ≡ Owner t [])
may_guest z owns k w h lt is = begins z (worker_view w) (each_at (IsFresh z) owns k w h (slice_get_read owns (length owns) k w refl lt is)).0

pub deques_set : (y : Yard) (owns : List OwnDeque) (k : ℕ) (old new : OwnDeque) → k < length owns → old ≡ get_or owns k old
    → worker_deque new ≡ worker_deque old → worker_flavor new ≡ worker_flavor old → worker_view new ≡ worker_view old → ServesDeques y owns
    → ServesDeques y (set owns k new)
deques_set y owns k old new lt is same flavor seen h =
    let at = slice_get_read owns (length owns) k old refl lt is in
    let fresh = each_at (IsFresh (table_of y)) owns k old h.1 at in (
      (
        h.0.0 ∙ sym (length-set owns k new),
        λ j w o e f. ⊎_elim (λ (p : (j ≡ k) × (new ≡ w)). h.0.1 k old o at (subst (λ i. slice_get y.stealers.items i ≡ Some o) p.0 f) ∙ sym same ∙ ap worker_deque p.1)
            (λ p. h.0.1 j w o p f) (set_cases owns k j new w e),
      ),
      each_set (IsFresh (table_of y)) owns k new h.1 (subst (Begins (table_of y)) (sym seen) fresh.0, flavor ∙ fresh.1),
    )

stealing : (z : TableId) (v w : DequeView) → Begins z v → w ≡ as_thief v → StealsAt z w
stealing z Fresh w h e = absurd h
stealing z (Marked t) w h e = absurd h
stealing z (Owner t os) w h e = subst (StealsAt z) (sym e) h.0
stealing z (Thief t ss) w h e = absurd h

pub passes_snoc : (y : Yard) (owns : List OwnDeque) (es : List ThiefPass) (e : ThiefPass) (k : ℕ) (old : OwnDeque) → ServesDeques y owns
    → length es ≡ k → k < length owns → old ≡ get_or owns k old → IsPassOf (worker_deque old) e → view e ≡ as_thief (worker_view old)
    → HasPasses y es → HasPasses y (es ++ e ∷ [])
passes_snoc y owns es e k old d n lt is pass seen h j o x f g =
    let at = slice_get_read owns (length owns) k old refl lt is in
    let fresh = each_at (IsFresh (table_of y)) owns k old d.1 at in
    ⊎_elim (λ (p : (j ≡ length es) × (e ≡ x)).
    let marked_deque = d.0.1 k old o at (subst (λ i. slice_get y.stealers.items i ≡ Some o) (p.0 ∙ n) f) in
    subst (λ (u : ThiefPass). IsPassOf (stealer_deque (padded_value o)) u × StealsAt (table_of y) (view u)) p.1
    (subst (λ q. IsPassOf q e) (sym marked_deque) pass, stealing (table_of y) (worker_view old) (view e) fresh.0 seen))
    (λ p. h j o x f p) (snoc_cases es e x j g)

owns_at : (z : TableId) (v : DequeView) → Begins z v → OwnsAt z v
owns_at z Fresh h = absurd h
owns_at z (Marked t) h = absurd h
owns_at z (Owner t os) h = h.0
owns_at z (Thief t ss) h = absurd h

-- a pass for a fresh deque has stolen nothing
pub new_pass : (z : TableId) (owns : List OwnDeque) (k : ℕ) (w : OwnDeque) (e : ThiefPass) → Each (IsFresh z) owns → k < length owns
    → w ≡ get_or owns k w → view e ≡ as_thief (worker_view w) → stolen (view e) ≡ []
new_pass z owns k w e h lt is seen = let o = may_guest z owns k w h lt is in ap stolen (seen ∙ ap as_thief o.1)

nothing_offered : (z : TableId) (v : DequeView) → Begins z v → offered v ≡ []
nothing_offered z Fresh h = absurd h
nothing_offered z (Marked t) h = absurd h
nothing_offered z (Owner t os) h = h.1
nothing_offered z (Thief t ss) h = absurd h

-- the stealers of these deques come first
abbrev pub Lead : Yard → List OwnDeque → Type 0
Lead y owns = Stolen owns y.stealers.items

pub lead_init : (y : Yard) (owns : List OwnDeque) (w : OwnDeque) → Lead y (owns ++ w ∷ []) → Lead y owns
lead_init y owns w h k x o e f = h k x o (get_before owns w k x e) f

abbrev pub seat : OwnDeque → Part → Seat
seat w p = record { own = w; free = p.free; passes = p.passes; watch = p.watch; spare = p.spare }

pub seated : (y : Yard) (cells : ℕ) (owns : List OwnDeque) (w : OwnDeque) (p : Part)
    → Lead y (owns ++ w ∷ []) → IsFresh (table_of y) w → IsPart y cells p → IsNewSeat y cells (length owns) (seat w p)
seated y cells owns w p lead f h = record {
  seat = (owns_at (table_of y) (worker_view w) f.0, f.1, h.1, h.2.0, h.2.1, h.3);
  room = h.4;
  unseen = h.5;
  worker = λ o e. lead (length owns) w o (get_last owns w) e;
  offered = nothing_offered (table_of y) (worker_view w) f.0;
  stolen = h.2.2;
  free = h.0;
}

-- the seats made so far, the last workers' first, and the next one
abbrev pub Made : Yard → ℕ → List Seat → Type 0
Made y cells made = (j k : ℕ) (s : Seat) → slice_get made j ≡ Some s → j + (k + 1) ≡ workers_of y → IsNewSeat y cells k s

pub made_snoc : (y : Yard) (cells n : ℕ) (made : List Seat) (s : Seat) → length made + (n + 1) ≡ workers_of y → IsNewSeat y cells n s → Made y cells made → Made y cells (made ++ s ∷ [])
made_snoc y cells n made s sum new h j k x e at =
    ⊎_elim (λ (p : (j ≡ length made) × (s ≡ x)). subst (λ u. IsNewSeat y cells k u) p.1 (subst (λ i. IsNewSeat y cells i s) (let q = p.0 in omega (arith, sum, at, q)) new))
    (λ p. h j k x p at) (snoc_cases made s x j e)
