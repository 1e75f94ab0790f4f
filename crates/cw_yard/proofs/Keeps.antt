-- Each step at a cell keeps the rule.
use Rattle.std.proofs.Common.{◌≡◌, ◌≢◌, ◌⊎◌, ◌<◌, ◌≤◌, ◌+◌, ℕ, zero, suc, Bool, true, false, eqb, List, [], ◌∷◌, ◌++◌, length, set, sym, refl, ap}
use Rattle.std.proofs.Common.{◌∙◌, subst, inl, inr, ⊎_elim, arith, Option, Some, None, eq-eqb, ne_eqb, length-set, map, replicate}
use Rattle.std.proofs.lemmas.List.{length-map, length-replicate}
use mathlib.Core.Option.{none, some, some-injective, some-ne-none}
use mathlib.Core.Logic.{dite}
use native.Mathlib.Decide.{ℕ_discrete}
use lib.ListN.{get_elem?}
use Rattle.std.specs.List.{slice_index}
use Rattle.atomic_table.specs.Table.{State, keeps, takes, gives, stepped, Allows, Splits, Joins, opening}
use Rattle.atomic_table.proofs.Lists.{at_set, set_else}
use Rattle.cw_jobs.specs.declared.job.Job.{Job}
use Rattle.cw_yard.specs.declared.left.Left.{Left}
use Rattle.cw_yard.specs.declared.view.Stage.{Stage}
use Rattle.cw_yard.specs.declared.view.Stage.TheVariants.{Free, Held, Out, Back, Taken}
use Rattle.cw_yard.specs.declared.view.CellView.{CellView}
use Rattle.cw_yard.specs.declared.view.CellView.TheVariants.{Idle, Rest, Owner, Duty}
use Rattle.cw_yard.specs.Cells.{Means, Phase, free, held, opened, putting, full, taken, Spot, Lies, Pending, Knows, serving, cell_of, Fits, Funds, Stands, Kept}
use Rattle.cw_yard.specs.Steps.{Gains, Reads}

abbrev St : Type 0
St = State (Option Left) CellView

abbrev Slot : Type 0
Slot = mathlib.Core.Option.Option (Option Left)

abbrev pick : {A : Type 0} → Bool → A → A → A
pick true x y = x
pick false x y = y

abbrev upd : (ℕ → Spot) → ℕ → Spot → ℕ → Spot
upd b c x k = pick (eqb k c) x (b k)

at_upd : (b : ℕ → Spot) (c : ℕ) (x : Spot) (k : ℕ) (F : Spot → Type 0) → (k ≡ c → F x) → (k ≢ c → F (b k)) → F (upd b c x k)
at_upd b c x k F hit miss = dite (ℕ_discrete k c) (λ e. subst (λ t. F (pick t x (b k))) (sym (eq-eqb k c e)) (hit e)) (λ ne. subst (λ t. F (pick t x (b k))) (sym (ne_eqb k c ne)) (miss ne))

module _ {A : Type 0} where
  set_at : (l : List A) (i : ℕ) (a b : A) → get_elem? l i ≡ some a → get_elem? (set l i b) i ≡ some b
  set_at [] i a b e = absurd (some-ne-none a (sym e))
  set_at (x ∷ xs) zero a b e = refl
  set_at (x ∷ xs) (suc i) a b e = set_at xs i a b e

  snoc_at : (l : List A) (r u : A) (j : ℕ) → get_elem? (l ++ r ∷ []) j ≡ some u → (get_elem? l j ≡ some u) ⊎ ((j ≡ length l) × (r ≡ u))
  snoc_at [] r u zero e = inr (refl, some-injective r u e)
  snoc_at [] r u (suc j) e = absurd (some-ne-none u (sym e))
  snoc_at (x ∷ xs) r u zero e = inl e
  snoc_at (x ∷ xs) r u (suc j) e = ⊎_elim (λ p. inl p) (λ p. inr (ap suc p.0, p.1)) (snoc_at xs r u j e)

index_of : (l : List ℕ) (i a : ℕ) → get_elem? l i ≡ some a → slice_index l i ≡ a
index_of [] i a e = absurd (some-ne-none a (sym e))
index_of (x ∷ xs) zero a e = some-injective x a e
index_of (x ∷ xs) (suc i) a e = index_of xs i a e

-- a duty of token `id` may exist in this phase
abbrev Serves : Phase → Bool → ℕ → Job → ℕ → Type 0
Serves free b n j id = ⊥
Serves (held m k) b n j id = ⊥
Serves (opened m k d) false n j id = (m ≡ n) × (k ≡ j) × (d ≡ id)
Serves (opened m k d) true n j id = ⊥
Serves (putting m k d) false n j id = ⊥
Serves (putting m k d) true n j id = (m ≡ n) × (k ≡ j) × (d ≡ id)
Serves (full m k e) b n j id = ⊥
Serves (taken m k) b n j id = ⊥

serves_self : (b : Bool) (n : ℕ) (j : Job) (id : ℕ) → Serves (serving b n j id) b n j id
serves_self false n j id = (refl, refl, refl)
serves_self true n j id = (refl, refl, refl)

-- if the phase is `p` and a duty exists, `p` has that duty
serves : (p q : Phase) (b : Bool) (n : ℕ) (j : Job) (id : ℕ) → q ≡ p → q ≡ serving b n j id → Serves p b n j id
serves p q b n j id is at = subst (λ r. Serves r b n j id) (sym at ∙ is) (serves_self b n j id)

one_duty : (b b' : Bool) (n n' : ℕ) (j j' : Job) (id id' : ℕ) → Serves (serving b n j id) b' n' j' id' → id ≡ id'
one_duty false false n n' j j' id id' h = h.2
one_duty false true n n' j j' id id' h = absurd h
one_duty true false n n' j j' id id' h = absurd h
one_duty true true n n' j j' id id' h = h.2

placed : (s : St) (h : Kept s) (c n : ℕ) (x : Spot) (ws : List ℕ) (hs : List Slot) (vs : List CellView) (y : Slot)
    → length hs ≡ length s.homes
    → get_elem? ws c ≡ some n → ((k : ℕ) → k ≢ c → get_elem? ws k ≡ get_elem? s.words k)
    → get_elem? hs c ≡ some y → ((k : ℕ) → k ≢ c → get_elem? hs k ≡ get_elem? s.homes k)
    → Lies n y x.1
    → ((j : ℕ) (u : CellView) → get_elem? vs j ≡ some u → (cell_of u ≡ c → Fits x j u) × (cell_of u ≢ c → Fits (h.0 (cell_of u)) j u))
    → ((j : ℕ) (u : CellView) → get_elem? vs j ≡ some u → Funds (upd h.0 c x) j u)
    → Kept record { words = ws; homes = hs; views = vs }
placed s h c n x ws hs vs y len wc we hc he lies fits funds =
    let S : St = record { words = ws; homes = hs; views = vs } in (
      upd h.0 c x,
      (λ k lt. at_upd h.0 c x k (λ z. Stands S k z.1)
          (λ e. (n, y, subst (λ i. get_elem? ws i ≡ some n) (sym e) wc, subst (λ i. get_elem? hs i ≡ some y) (sym e) hc, lies))
          (λ ne. let old = h.1 k (subst (λ m. k < m) len lt) in (old.0, old.1, we k ne ∙ old.2, he k ne ∙ old.3, old.4))),
      (λ j u e. at_upd h.0 c x (cell_of u) (λ z. Fits z j u) (fits j u e).0 (fits j u e).1),
      funds,
    )

-- changing a spot from `old` to `x` does not affect what other tokens know
abbrev Quiet : Spot → Spot → ℕ → Type 0
Quiet old x id = (j : ℕ) (u : CellView) → j ≢ id → Fits old j u → Fits x j u

-- the cell is not a free one that another token owns
abbrev Used : Spot → ℕ → Type 0
Used old id = (j : ℕ) → j ≢ id → old.0 ≡ j → old.1 ≢ free

funded : (b : ℕ → Spot) (c id : ℕ) (x : Spot) (j : ℕ) (u : CellView) → j ≢ id → Used (b c) id → Funds b j u → Funds (upd b c x) j u
funded b c id x j Idle apart used h = tt
funded b c id x j (Rest k) apart used h = λ i le. at_upd b c x i (λ z. (z.0 ≡ j) × (z.1 ≡ free))
    (λ e. let old = subst (λ m. ((b m).0 ≡ j) × ((b m).1 ≡ free)) e (h i le) in absurd (used j apart old.0 old.1)) (λ _. h i le)
funded b c id x j (Owner d k) apart used h = tt
funded b c id x j (Duty d t n job) apart used h = tt

funds_all : (s : St) (h : Kept s) (c id : ℕ) (x : Spot) (v : CellView) → Used (h.0 c) id → Funds (upd h.0 c x) id v
    → (j : ℕ) (u : CellView) → get_elem? (set s.views id v) j ≡ some u → Funds (upd h.0 c x) j u
funds_all s h c id x v used mine j u e =
    ⊎_elim (λ (p : (j ≡ id) × (v ≡ u)). subst (λ (z : ℕ × CellView). Funds (upd h.0 c x) z.0 z.1) (λ i. (sym p.0 i, p.1 i)) mine)
    (λ (p : (j ≢ id) × (get_elem? s.views j ≡ some u)). funded h.0 c id x j u p.0 used (h.3 j u p.1)) (at_set s.views id j v u e)

quiet : (old x : Spot) (id : ℕ) → ((j : ℕ) (k : Stage) → j ≢ id → old.0 ≡ j → Knows k old.1 → (x.0 ≡ j) × Knows k x.1)
    → ((j : ℕ) (b : Bool) (n : ℕ) (job : Job) → j ≢ id → old.1 ≡ serving b n job j → x.1 ≡ serving b n job j) → Quiet old x id
quiet old x id f g j Idle apart e = tt
quiet old x id f g j (Rest k) apart e = tt
quiet old x id f g j (Owner c k) apart e = f j k apart e.0 e.1
quiet old x id f g j (Duty c b n job) apart e = g j b n job apart e

others : (s : St) (h : Kept s) (c id : ℕ) (x : Spot) (v : CellView) → Fits x id v → ((cell_of v ≢ c) → Fits (h.0 (cell_of v)) id v) → Quiet (h.0 c) x id
    → (j : ℕ) (u : CellView) → get_elem? (set s.views id v) j ≡ some u → (cell_of u ≡ c → Fits x j u) × (cell_of u ≢ c → Fits (h.0 (cell_of u)) j u)
others s h c id x v fit far q j u e =
    ⊎_elim (λ (p : (j ≡ id) × (v ≡ u)). subst (λ (z : ℕ × CellView). (cell_of z.1 ≡ c → Fits x z.0 z.1)
    × (cell_of z.1 ≢ c → Fits (h.0 (cell_of z.1)) z.0 z.1)) (λ i. (sym p.0 i, p.1 i)) ((λ _. fit), far))
    (λ (p : (j ≢ id) × (get_elem? s.views j ≡ some u)). let was = h.2 j u p.1 in ((λ is. q j u p.0 (subst (λ k. Fits (h.0 k) j u) is was)), λ _. was)) (at_set s.views id j v u e)

moved : (s : St) (h : Kept s) (slots c id n : ℕ) (x : Spot) (v : CellView) (hs : List Slot) (y : Slot) → c < slots → length s.homes ≡ slots
    → length hs ≡ length s.homes → get_elem? hs c ≡ some y → ((k : ℕ) → k ≢ c → get_elem? hs k ≡ get_elem? s.homes k)
    → Lies n y x.1 → Fits x id v → ((cell_of v ≢ c) → Fits (h.0 (cell_of v)) id v) → Quiet (h.0 c) x id → Used (h.0 c) id → Funds (upd h.0 c x) id v
    → Kept record { words = set s.words c n; homes = hs; views = set s.views id v }
moved s h slots c id n x v hs y lt len same hc he lies fit far q used fund =
    let here = h.1 c (subst (λ m. c < m) (sym len) lt) in
    placed s h c n x (set s.words c n) hs (set s.views id v) y same (set_at s.words c here.0 n here.2) (λ k ne. set_else s.words c k n ne) hc he lies
    (others s h c id x v fit far q) (funds_all s h c id x v used fund)

-- a step of the owner: no other owner and no duty is at this cell
alone : (old x : Spot) (id : ℕ) → old.0 ≡ id → ((b : Bool) (n : ℕ) (j : Job) (d : ℕ) → old.1 ≢ serving b n j d) → Quiet old x id
alone old x id mine none_here = quiet old x id (λ j k apart e _. absurd (apart (sym e ∙ mine))) (λ j b n job apart e. absurd (none_here b n job j e))

own_used : (old : Spot) (id : ℕ) → old.0 ≡ id → Used old id
own_used old id mine j apart e _ = apart (sym e ∙ mine)

duty_used : (old : Spot) (id : ℕ) (b : Bool) (n : ℕ) (j : Job) → old.1 ≡ serving b n j id → Used old id
duty_used old id b n j is i apart e none_out = serves free old.1 b n j id none_out is

pub opens : (k : Stage) (n : ℕ) (j : Job) → k ≡ Held n j → (slots id c : ℕ) → c < slots
    → Allows Kept slots id (Owner c Free, []) c (λ m. m) (λ _ m. (n' : ℕ) (j' : Job) → k ≡ Held n' j' → m ≡ (Owner c (Held n' j'), []))
opens k n j is slots id c lt s h len at _ =
    let mine = h.2 id (Owner c Free) at in
    let here = h.1 c (subst (λ m. c < m) (sym len) lt) in
    let lies = subst (Lies here.0 here.1) mine.1 here.4 in (
      Owner c (Held n j),
      keeps,
      tt,
      moved s h slots c id (slice_index s.words c) (id, held n j) (Owner c (Held n j)) s.homes (some None) lt len refl (here.3 ∙ ap some lies.1)
          (λ _ _. refl) (index_of s.words c here.0 here.2 ∙ lies.0, refl) (refl, refl) (λ no. absurd (no refl))
          (alone (h.0 c) (id, held n j) id mine.0 (λ b m k d e. absurd (serves free _ b m k d mine.1 e))) (own_used (h.0 c) id mine.0) tt,
      (λ n' j' e. ap (λ i. (Owner c i, [])) (sym is ∙ e)),
    )

-- the owner stores 0, which frees the cell, in a phase that it knows
frees : (s : St) (h : Kept s) (slots id c : ℕ) (v : CellView) (p : Phase) (hs : List Slot) → c < slots → length s.homes ≡ slots → (h.0 c).0 ≡ id → (h.0 c).1 ≡ p
    → ((b : Bool) (n : ℕ) (j : Job) (d : ℕ) → ¬ Serves p b n j d)
    → length hs ≡ length s.homes → get_elem? hs c ≡ some (some None) → ((k : ℕ) → k ≢ c → get_elem? hs k ≡ get_elem? s.homes k)
    → Kept record { words = set s.words c 0; homes = hs; views = set s.views id (Owner c Free) }
frees s h slots id c v p hs lt len mine is none_here same hc he =
    moved s h slots c id 0 (id, free) (Owner c Free) hs (some None) lt len same hc he (refl, refl) (refl, refl) (λ far. absurd (far refl))
    (alone (h.0 c) (id, free) id mine (λ b m k d e. none_here b m k d (serves p _ b m k d is e))) (own_used (h.0 c) id mine) tt

pub frees_back : (slots id c n m : ℕ) (j k : Job) → c < slots → Allows Kept slots id (Owner c (Back n j m k), []) c (λ i. i) (λ _ x. (x ≡ (Owner c Free, [])) × Gains (Owner c (Back n j m k)))
frees_back slots id c n m j k lt s h len at _ =
    let mine = h.2 id (Owner c (Back n j m k)) at in
    let here = h.1 c (subst (λ z. c < z) (sym len) lt) in
    let lies = subst (Lies here.0 here.1) mine.1.0 here.4 in (
      Owner c Free,
      keeps,
      tt,
      moved s h slots c id (slice_index s.words c) (id, free) (Owner c Free) s.homes (some None) lt len refl (here.3 ∙ ap some lies.1) (λ _ _. refl)
          (index_of s.words c here.0 here.2 ∙ lies.0, refl) (refl, refl) (λ far. absurd (far refl))
          (alone (h.0 c) (id, free) id mine.0 (λ b m' k' d e. serves (held n j) _ b m' k' d mine.1.0 e)) (own_used (h.0 c) id mine.0) tt,
      (refl, (mine.1.1, mine.1.2)),
    )

pub frees_taken : (slots id c n : ℕ) (j : Job) → c < slots → Allows Kept slots id (Owner c (Taken n j), (c, None) ∷ []) c (λ _. 0) (λ _ x. (x ≡ (Owner c Free, [])) × Gains (Owner c (Taken n j)))
frees_taken slots id c n j lt s h len at _ =
    let mine = h.2 id (Owner c (Taken n j)) at in
    let here = h.1 c (subst (λ z. c < z) (sym len) lt) in (
      Owner c Free,
      gives,
      tt,
      frees s h slots id c (Owner c Free) (taken n j) (set s.homes c (some None)) lt len mine.0 mine.1 (λ b m' k' d e. e)
          (length-set s.homes c (some None)) (set_at s.homes c here.1 (some None) here.3)
          (λ k ne. set_else s.homes c k (some None) ne),
      (refl, tt),
    )

-- an owner's knowledge holds after a step of the duty
put_known : (k : Stage) (n : ℕ) (j : Job) (d : ℕ) → Knows k (opened n j d) → Knows k (putting n j d)
put_known Free n j d e = absurd (subst (λ p. Serves p false n j d) e (refl, refl, refl))
put_known (Held m i) n j d e = absurd (subst (λ p. Serves p false n j d) e (refl, refl, refl))
put_known (Out m i) n j d e = e
put_known (Back m i m' i') n j d e = absurd (subst (λ p. Serves p false n j d) e.0 (refl, refl, refl))
put_known (Taken m i) n j d e = absurd (subst (λ p. Serves p false n j d) e (refl, refl, refl))

full_known : (k : Stage) (n : ℕ) (j : Job) (d : ℕ) (e : Left) → Knows k (putting n j d) → Knows k (full n j e)
full_known Free n j d x e = absurd (subst (λ p. Serves p true n j d) e (refl, refl, refl))
full_known (Held m i) n j d x e = absurd (subst (λ p. Serves p true n j d) e (refl, refl, refl))
full_known (Out m i) n j d x e = e
full_known (Back m i m' i') n j d x e = absurd (subst (λ p. Serves p true n j d) e.0 (refl, refl, refl))
full_known (Taken m i) n j d x e = absurd (subst (λ p. Serves p true n j d) e (refl, refl, refl))

-- a step of the duty: the owner knows no less, and no other duty is at this cell
serves_alone : (old : Spot) (new : Phase) (id : ℕ) (b : Bool) (n : ℕ) (j : Job) → old.1 ≡ serving b n j id → ((k : Stage) → Knows k (serving b n j id) → Knows k new) → Quiet old (old.0, new) id
serves_alone old new id b n j is f = quiet old (old.0, new) id (λ i k _ e t. (e, f k (subst (Knows k) is t)))
    (λ i b' m job apart e. absurd (apart (sym (one_duty b b' n m j job id i (serves (serving b n j id) old.1 b' m job i is e)))))

abbrev arm : CellView → CellView
arm Idle = Idle
arm (Rest k) = Rest k
arm (Owner c k) = Owner c k
arm (Duty c b n j) = Duty c true n j

pub puts : (slots id c m : ℕ) (j : Job) → c < slots
    → Allows Kept slots id (Duty c false m j, []) c (λ n. n) (λ _ x. (m' : ℕ) (j' : Job) → Duty c false m j ≡ Duty c false m' j' → x ≡ (Duty c true m' j', (c, None) ∷ []))
puts slots id c m j lt s h len at _ =
    let mine = h.2 id (Duty c false m j) at in
    let here = h.1 c (subst (λ z. c < z) (sym len) lt) in
    let lies = subst (Lies here.0 here.1) mine here.4 in (
      Duty c true m j,
      takes c None,
      here.3 ∙ ap some lies.1,
      moved s h slots c id (slice_index s.words c) ((h.0 c).0, putting m j id) (Duty c true m j) (set s.homes c none) none lt len (length-set s.homes c none) (set_at s.homes c here.1 none here.3)
          (λ k ne. set_else s.homes c k none ne) (index_of s.words c here.0 here.2 ∙ lies.0, refl) refl (λ far. absurd (far refl))
          (serves_alone (h.0 c) (putting m j id) id false m j mine (λ k. put_known k m j id)) (duty_used (h.0 c) id false m j mine) tt,
      λ m' j' e. ap (λ (v : CellView). (arm v, (c, None) ∷ [])) e,
    )

pub marks : (slots id c m : ℕ) (j : Job) (e : Left) → c < slots → Means j e → Allows Kept slots id (Duty c true m j, (c, Some e) ∷ []) c (λ _. 2) (λ _ x. x ≡ (Idle, []))
marks slots id c m j e lt means s h len at _ =
    let mine = h.2 id (Duty c true m j) at in
    let here = h.1 c (subst (λ z. c < z) (sym len) lt) in (
      Idle,
      gives,
      tt,
      moved s h slots c id 2 ((h.0 c).0, full m j e) Idle (set s.homes c (some (Some e))) (some (Some e)) lt len (length-set s.homes c (some (Some e))) (set_at s.homes c here.1 (some (Some e)) here.3)
          (λ k ne. set_else s.homes c k (some (Some e)) ne) (refl, refl, means) tt (λ _. tt)
          (serves_alone (h.0 c) (full m j e) id true m j mine (λ k. full_known k m j id e)) (duty_used (h.0 c) id true m j mine) tt,
      refl,
    )

-- the owner reads the mark
module _ (slots id c m : ℕ) (j : Job) (lt : c < slots) (s : St) (h : Kept s) (len : length s.homes ≡ slots) (at : get_elem? s.views id ≡ some (Owner c (Out m j))) where
  abbrev Reading : Type 0
  Reading = (w : CellView) × (a : Rattle.atomic_table.specs.Table.Act (Option Left)) × Rattle.atomic_table.specs.Table.Valid s.homes [] a × Kept (stepped s c (slice_index s.words c) id [] w a)
      × Reads c (Owner c (Out m j)) (slice_index s.words c) (w, Rattle.atomic_table.specs.Table.carried_after [] a)

  abbrev lt' : c < length s.homes
  lt' = subst (λ z. c < z) (sym len) lt

  same : ¬ (slice_index s.words c ≡ 2) → Reading
  same less = let here = h.1 c lt' in (
    Owner c (Out m j),
    keeps,
    tt,
    moved s h slots c id (slice_index s.words c) (h.0 c) (Owner c (Out m j)) s.homes here.1 lt len refl here.3 (λ _ _. refl)
        (subst (λ z. Lies z here.1 (h.0 c).1) (sym (index_of s.words c here.0 here.2)) here.4)
        (h.2 id (Owner c (Out m j)) at) (λ far. absurd (far refl)) (λ _ _ _ e. e) (own_used (h.0 c) id (h.2 id (Owner c (Out m j)) at).0) tt,
    ((λ two. absurd (less two)), λ _. refl),
  )

  takes_it : (e : Left) (n : ℕ) (k : Job) → (h.0 c).1 ≡ full n k e → k ≡ j → Lies (h.1 c lt').0 (h.1 c lt').1 (full n k e) → Reading
  takes_it e n k is eq lies = let here = h.1 c lt' in let two : slice_index s.words c ≡ 2 = index_of s.words c here.0 here.2 ∙ lies.0 in (
    Owner c (Taken m j),
    takes c (Some e),
    here.3 ∙ ap some lies.1,
    moved s h slots c id (slice_index s.words c) (id, taken m j) (Owner c (Taken m j)) (set s.homes c none) none lt len (length-set s.homes c none) (set_at s.homes c here.1 none here.3)
        (λ i ne. set_else s.homes c i none ne) (two, refl) (refl, refl) (λ far. absurd (far refl))
        (alone (h.0 c) (id, taken m j) id (h.2 id (Owner c (Out m j)) at).0 (λ b x y d q. serves (full n k e) _ b x y d is q)) (own_used (h.0 c) id (h.2 id (Owner c (Out m j)) at).0) tt,
    ((λ _. (e, refl, subst (λ z. Means z e) eq lies.2)), λ less. absurd (less two)),
  )

  one : (here : ℕ) → get_elem? s.words c ≡ some here → here ≡ 0 → ¬ (slice_index s.words c ≡ 2)
  one w at w1 two = let i = index_of s.words c w at in omega arith

  reads_at : (p : Phase) → (h.0 c).1 ≡ p → Pending m j p → Lies (h.1 c lt').0 (h.1 c lt').1 p → Reading
  reads_at free is out lies = absurd out
  reads_at (held n k) is out lies = absurd out
  reads_at (opened n k d) is out lies = same (one (h.1 c lt').0 (h.1 c lt').2 lies.0)
  reads_at (putting n k d) is out lies = same (one (h.1 c lt').0 (h.1 c lt').2 lies.0)
  reads_at (full n k e) is out lies = takes_it e n k is out.1 lies
  reads_at (taken n k) is out lies = absurd out

pub reads : (slots id c m : ℕ) (j : Job) → c < slots → Allows Kept slots id (Owner c (Out m j), []) c (λ n. n) (Reads c (Owner c (Out m j)))
reads slots id c m j lt s h len at _ = reads_at slots id c m j lt s h len at (h.0 c).1 refl (h.2 id (Owner c (Out m j)) at).1 (h.1 c (subst (λ z. c < z) (sym len) lt)).4

-- a step that changes no word and no slot
regarded : (s : St) (h : Kept s) (c : ℕ) (x : Spot) (vs : List CellView) → ((w : ℕ) (y : Slot) → Lies w y (h.0 c).1 → Lies w y x.1)
    → ((j : ℕ) (u : CellView) → get_elem? vs j ≡ some u → (cell_of u ≡ c → Fits x j u) × (cell_of u ≢ c → Fits (h.0 (cell_of u)) j u))
    → ((j : ℕ) (u : CellView) → get_elem? vs j ≡ some u → Funds (upd h.0 c x) j u)
    → Kept record { words = s.words; homes = s.homes; views = vs }
regarded s h c x vs lies fits funds = (
  upd h.0 c x,
  (λ k lt. at_upd h.0 c x k (λ z. Stands s k z.1)
      (λ e. let old = h.1 k lt in (old.0, old.1, old.2, old.3, lies old.0 old.1 (subst (λ i. Lies old.0 old.1 (h.0 i).1) e old.4)))
      (λ ne. h.1 k lt)),
  (λ j u e. at_upd h.0 c x (cell_of u) (λ z. Fits z j u) (fits j u e).0 (fits j u e).1),
  funds,
)

pub deals : (id c n : ℕ) (j : Job) → Splits Kept id (Owner c (Held n j)) (Owner c (Out n j)) (Duty c false n j)
deals id c n j s h at =
    let mine = h.2 id (Owner c (Held n j)) at in
    let kept = Owner c (Out n j) in
    let d = length (set s.views id kept) in
    let x : Spot = (id, opened n j d) in
    regarded s h c x (set s.views id kept ++ Duty c false n j ∷ []) (λ w y l. subst (Lies w y) mine.1 l)
    (λ i u e. ⊎_elim (λ p. others s h c id x kept (refl, (refl, refl)) (λ far. absurd (far refl))
    (alone (h.0 c) x id mine.0 (λ b m k q t. serves (held n j) _ b m k q mine.1 t)) i u p)
    (λ (p : (i ≡ d) × (Duty c false n j ≡ u)). subst (λ (z : ℕ × CellView). (cell_of z.1 ≡ c → Fits x z.0 z.1) × (cell_of z.1 ≢ c → Fits (h.0 (cell_of z.1)) z.0 z.1)) (λ t. (sym p.0 t, p.1 t))
    ((λ _. refl), λ far. absurd (far refl)))
    (snoc_at (set s.views id kept) (Duty c false n j) u i e))
    (λ i u e. ⊎_elim (λ p. funds_all s h c id x kept (own_used (h.0 c) id mine.0) tt i u p) (λ (p : (i ≡ d) × (Duty c false n j ≡ u)). subst (Funds (upd h.0 c x) i) p.1 tt)
    (snoc_at (set s.views id kept) (Duty c false n j) u i e))

bystander : (old x : Spot) (id other m : ℕ) (k : Job) → old.0 ≡ id → old.1 ≡ serving false m k other → (i : ℕ) (u : CellView) → i ≢ id → i ≢ other → Fits old i u → Fits x i u
bystander old x id other m k mine is i Idle a b e = tt
bystander old x id other m k mine is i (Rest t) a b e = tt
bystander old x id other m k mine is i (Owner c s) a b e = absurd (a (sym e.0 ∙ mine))
bystander old x id other m k mine is i (Duty c t n j) a b e = absurd (b (sym (one_duty false t m n k j other i (serves (serving false m k other) old.1 t n j i is e))))

pub backs : (id c n other m : ℕ) (j k : Job) → Joins Kept id (Owner c (Out n j)) other (Duty c false m k) (Owner c (Back n j m k)) Idle
backs id c n other m j k s h at apart there =
    let mine = h.2 id (Owner c (Out n j)) at in
    let both : CellView = Owner c (Back n j m k) in
    let was : get_elem? s.views other ≡ some (Duty c false m k) = ⊎_elim (λ p. absurd (apart p.0)) (λ p. p.1) (at_set s.views id other both (Duty c false m k) there) in
    let is = h.2 other (Duty c false m k) was in
    let told = subst (Pending n j) is mine.1 in
    let x : Spot = (id, held n j) in
    let Good : ℕ → CellView → Type 0 = λ i u. (cell_of u ≡ c → Fits x i u) × (cell_of u ≢ c → Fits (h.0 (cell_of u)) i u) in
    regarded s h c x (set (set s.views id both) other Idle) (λ w y l. subst (Lies w y) is l)
    (λ i u e. ⊎_elim (λ (p : (i ≡ other) × (Idle ≡ u)). subst (λ (z : ℕ × CellView). Good z.0 z.1) (λ t. (sym p.0 t, p.1 t)) ((λ _. tt), λ _. tt))
    (λ p. ⊎_elim (λ (q : (i ≡ id) × (both ≡ u)). subst (λ (z : ℕ × CellView). Good z.0 z.1) (λ t. (sym q.0 t, q.1 t)) ((λ _. (refl, (refl, told.0, told.1))), λ far. absurd (far refl)))
    (λ q. let old = h.2 i u q.1 in
    ((λ e. bystander (h.0 c) x id other m k mine.0 is i u q.0 p.0 (subst (λ z. Fits (h.0 z) i u) e old)), λ _. old))
    (at_set s.views id i both u p.1))
    (at_set (set s.views id both) other i Idle u e))
    (λ i u e. ⊎_elim (λ (p : (i ≡ other) × (Idle ≡ u)). subst (Funds (upd h.0 c x) i) p.1 tt) (λ p. funds_all s h c id x both (own_used (h.0 c) id mine.0) tt i u p.1)
    (at_set (set s.views id both) other i Idle u e))

pub cuts : (id k : ℕ) → Splits Kept id (Rest k) (Rest (k + 1)) (Owner k Free)
cuts id k s h at =
    let mine : (c : ℕ) → k ≤ c → ((h.0 c).0 ≡ id) × ((h.0 c).1 ≡ free) = h.3 id (Rest k) at in
    let here = mine k (omega arith) in
    let rest : CellView = Rest (k + 1) in
    let d = length (set s.views id rest) in
    let x : Spot = (d, free) in
    regarded s h k x (set s.views id rest ++ Owner k Free ∷ []) (λ w y l. subst (Lies w y) here.1 l)
    (λ i u e. ⊎_elim (λ p. others s h k id x rest tt (λ _. tt) (alone (h.0 k) x id here.0 (λ b m j q t. serves free _ b m j q here.1 t)) i u p)
    (λ (p : (i ≡ d) × (Owner k Free ≡ u)). subst (λ (z : ℕ × CellView). (cell_of z.1 ≡ k → Fits x z.0 z.1) × (cell_of z.1 ≢ k → Fits (h.0 (cell_of z.1)) z.0 z.1)) (λ t. (sym p.0 t, p.1 t))
    ((λ _. (refl, refl)), λ far. absurd (far refl)))
    (snoc_at (set s.views id rest) (Owner k Free) u i e))
    (λ i u e. ⊎_elim (λ p. funds_all s h k id x rest (own_used (h.0 k) id here.0)
    (λ c le. at_upd h.0 k x c (λ z. (z.0 ≡ id) × (z.1 ≡ free)) (λ same. absurd (omega arith)) (λ _. mine c (omega arith))) i u p)
    (λ (p : (i ≡ d) × (Owner k Free ≡ u)). subst (Funds (upd h.0 k x) i) p.1 tt)
    (snoc_at (set s.views id rest) (Owner k Free) u i e))

abbrev nothing : Option Left
nothing = None

all_none : (n c : ℕ) → c < n → get_elem? (map some (replicate n nothing)) c ≡ some (some None)
all_none zero c lt = absurd (omega arith)
all_none (suc n) zero lt = refl
all_none (suc n) (suc c) lt = all_none n c (omega arith)

all_zero : (n c : ℕ) → c < n → get_elem? {A = ℕ} (replicate n 0) c ≡ some 0
all_zero zero c lt = absurd (omega arith)
all_zero (suc n) zero lt = refl
all_zero (suc n) (suc c) lt = all_zero n c (omega arith)

one_seat : (v u : CellView) (id : ℕ) → get_elem? (v ∷ []) id ≡ some u → (id ≡ 0) × (v ≡ u)
one_seat v u zero e = (refl, some-injective v u e)
one_seat v u (suc id) e = absurd (some-ne-none u (sym e))

pub starts : (n : ℕ) → Kept (opening (replicate (n + 1) 0) (replicate n nothing) (Rest 0))
starts n = let board : ℕ → Spot = λ _. (0, free) in (
  board,
  (λ c lt. let l : c < n = subst (λ m. c < m) (length-map (replicate n nothing) some ∙ length-replicate n nothing) lt in
      (0, some None, all_zero (n + 1) c (omega arith), all_none n c l, (refl, refl))),
  (λ id v e. subst (λ (z : ℕ × CellView). Fits (board (cell_of z.1)) z.0 z.1) (λ i. (sym (one_seat (Rest 0) v id e).0 i, (one_seat (Rest 0) v id e).1 i)) tt),
  λ id v e. subst (λ (z : ℕ × CellView). Funds board z.0 z.1) (λ i. (sym (one_seat (Rest 0) v id e).0 i, (one_seat (Rest 0) v id e).1 i)) (λ _ _. (refl, refl)),
)
