-- A job is out at one strand at most.
use Rattle.std.proofs.Common.{◌≡◌, ◌≢◌, ◌⊎◌, ℕ, zero, suc, ◌+◌, ◌<◌, List, [], ◌∷◌, ◌++◌, Option, Some, None, refl, sym, ap, ◌∙◌, subst, inl, inr, arith, length, length-append}
use Rattle.std.proofs.lemmas.List.{length-set}
use Rattle.std.specs.Prelude.{slice_get, slice_set}
use Rattle.std.proofs.lemmas.Option.{slice_get_within}
use Rattle.cw_facts.specs.Lists.{set_gives, added_gives, get_before, get_last, set_other}
use Rattle.cw_code.specs.Code.{Code}
use Rattle.cw_code.specs.Jobs.{Job, Memory}
use Rattle.cw_code.specs.Strands.{Strand}
use Rattle.cw_code.specs.Steps.{started, give, skip, take_back, out_of_memory}
use Rattle.cw_code.specs.Worlds.{Place, Undecided, Kept, Offered, Runs, Made, Settled, Spent, World, placed, joined_by, Has, WorldStep, Run, Spawn, Offer, Inline, Begin}
use Rattle.cw_code.specs.Worlds.{Skip, Resume, End, Settle, Give, Want, GiveUp, After, Now, Later, world_of, IsAmong, Falls, OwnersAreSingle}
use Rattle.cw_code.proofs.WorldLaws.{one_there}

-- the strand that handed out each number
abbrev IsOpen : Option Place → Type 0
IsOpen o = o ≢ Some Spent

abbrev Listed : List ℕ → List Place → ℕ → List ℕ → Type 0
Listed parents places i [] = Unit {0}
Listed parents places i (n ∷ numbers) = (slice_get parents n ≡ Some i) × IsOpen (slice_get places n) × Listed parents places i numbers

record Owned (world : World) : Type 0 where
  pub parents : List ℕ
  pub even : length parents ≡ length world.jobs
  pub even' : length parents ≡ length world.places
  pub listed : (i worker : ℕ) (job : Job) (strand : Strand) (numbers : List ℕ) → Has world i job (Runs worker strand numbers) → Listed parents world.places i numbers × Falls numbers

-- a place stays open after a write if the new place is open
open_set : (places : List Place) (k n : ℕ) (new : Place) → new ≢ Spent → IsOpen (slice_get places n) → IsOpen (slice_get (slice_set places k new) n)
open_set places k n new live h e = elim (set_gives places k n new Spent e) [
  | inl p ↦ live (sym p.1)
  | inr p ↦ h p
]

-- the elements of a list after a write
set_cases : (xs : List Place) (i k : ℕ) (x y : Place) → slice_get (slice_set xs i x) k ≡ Some y → (k ≡ i × (y ≡ x)) ⊎ (k ≢ i × (slice_get xs k ≡ Some y))
set_cases [] i k x y h = cc
set_cases (z ∷ xs) zero zero x y h = inl (refl, one_there (Some x) y x h refl)
set_cases (z ∷ xs) zero (suc k) x y h = inr ((λ e. omega (arith, e)), h)
set_cases (z ∷ xs) (suc i) zero x y h = inr ((λ e. omega (arith, e)), h)
set_cases (z ∷ xs) (suc i) (suc k) x y h = elim (set_cases xs i k x y h) [
  | inl p ↦ inl (ap suc p.0, p.1)
  | inr p ↦ inr ((λ e. p.0 (omega (arith, e))), p.1)
]

tail_falls : (n : ℕ) (numbers : List ℕ) → Falls (n ∷ numbers) → Falls numbers
tail_falls n [] h = tt
tail_falls n (m ∷ numbers) h = h.1

below_head : (n k : ℕ) (numbers : List ℕ) → Falls (n ∷ numbers) → IsAmong k numbers → k < n
below_head n k [] h a = absurd a
below_head n k (m ∷ numbers) h a = elim a [
  | inl e ↦ (let lt : m < n = h.0 in omega (arith, lt, e))
  | inr b ↦ (let lt : m < n = h.0 in let less = below_head m k numbers h.1 b in omega (arith, lt, less))
]

listed_on : (parents : List ℕ) (places places' : List Place) (i : ℕ) (numbers : List ℕ)
    → ((n : ℕ) → IsAmong n numbers → IsOpen (slice_get places n) → IsOpen (slice_get places' n)) → Listed parents places i numbers → Listed parents places' i numbers
listed_on parents places places' i [] k h = tt
listed_on parents places places' i (n ∷ numbers) k h = (h.0, k n (inl refl) h.1, listed_on parents places places' i numbers (λ m a. k m (inr a)) h.2)

parent_in : (parents : List ℕ) (places : List Place) (i n : ℕ) (numbers : List ℕ) → IsAmong n numbers → Listed parents places i numbers → slice_get parents n ≡ Some i
parent_in parents places i n [] a h = absurd a
parent_in parents places i n (m ∷ numbers) a h = elim a [
  | inl e ↦ ap (slice_get parents) e ∙ h.0
  | inr b ↦ parent_in parents places i n numbers b h.2
]

open_in : (parents : List ℕ) (places : List Place) (i n : ℕ) (numbers : List ℕ) → IsAmong n numbers → Listed parents places i numbers → IsOpen (slice_get places n)
open_in parents places i n [] a h = absurd a
open_in parents places i n (m ∷ numbers) a h = elim a [
  | inl e ↦ subst (λ k. IsOpen (slice_get places k)) (sym e) h.1
  | inr b ↦ open_in parents places i n numbers b h.2
]

runs_spent : (w : ℕ) (s : Strand) (ns : List ℕ) → Runs w s ns ≡ Spent → ⊥
runs_spent w s ns e = cc

-- the place of one job changes to an open one; if it runs, it has these jobs out
module _ (world : World) (owned : Owned world) where
  abbrev Fine : ℕ → Place → Type 0
  Fine i (Runs worker strand numbers) = Listed owned.parents world.places i numbers × Falls numbers
  Fine i _ = Unit {0}

  set_owned : (i : ℕ) (new : Place) → new ≢ Spent → Fine i new → Owned (placed world i new)
  set_owned i new live fine = record {
    parents = owned.parents;
    even = owned.even;
    even' = owned.even' ∙ sym (length-set world.places i new);
    listed = λ k worker job strand numbers has. elim (set_gives world.places i k new (Runs worker strand numbers) has.place_is) [
      | inl p ↦
          (let good = subst (λ j. Fine j (Runs worker strand numbers)) (sym p.0) (subst (λ pl. Fine i pl) (sym p.1) fine) in
          (listed_on owned.parents world.places (slice_set world.places i new) k numbers (λ n a h. open_set world.places i n new live h) good.0, good.1))
      | inr p ↦
          (let good = owned.listed k worker job strand numbers (record { job_is = has.job_is; place_is = p }) in
          (listed_on owned.parents world.places (slice_set world.places i new) k numbers (λ n a h. open_set world.places i n new live h) good.0, good.1))
    ];
  }

  -- the newest job out is spent
  spend_owned : (i n worker : ℕ) (job : Job) (strand new : Strand) (numbers : List ℕ) → Has world i job (Runs worker strand (n ∷ numbers))
      → Owned (placed (placed world n Spent) i (Runs worker new numbers))
  spend_owned i n worker job strand new numbers has = record {
    parents = owned.parents;
    even = owned.even;
    even' = owned.even' ∙ sym (length-set world.places n Spent) ∙ sym (length-set (slice_set world.places n Spent) i (Runs worker new numbers));
    listed = λ k worker' job' strand' numbers' has'. elim (set_cases (slice_set world.places n Spent) i k (Runs worker new numbers) (Runs worker' strand' numbers') has'.place_is) [
      | inl p ↦ mine k worker' strand' numbers' p.0 p.1
      | inr p ↦ elim (set_cases world.places n k Spent (Runs worker' strand' numbers') p.1) [
        | inl q ↦ absurd (runs_spent worker' strand' numbers' q.1)
        | inr q ↦ others k worker' job' strand' numbers' p.0 (record { job_is = has'.job_is; place_is = q.1 })
      ]
    ];
  }
    where
      now : Listed owned.parents world.places i (n ∷ numbers) × Falls (n ∷ numbers)
      now = owned.listed i worker job strand (n ∷ numbers) has

      -- every other number stays open
      still : (m : ℕ) → m ≢ n → IsOpen (slice_get world.places m) → IsOpen (slice_get (slice_set (slice_set world.places n Spent) i (Runs worker new numbers)) m)
      still m other h = open_set (slice_set world.places n Spent) i m (Runs worker new numbers) (λ e. runs_spent worker new numbers e) (subst IsOpen (sym (set_other world.places n m Spent other)) h)

      mine : (k worker' : ℕ) (strand' : Strand) (numbers' : List ℕ) → k ≡ i → Runs worker' strand' numbers' ≡ Runs worker new numbers
          → Listed owned.parents (slice_set (slice_set world.places n Spent) i (Runs worker new numbers)) k numbers' × Falls numbers'
      mine k worker' strand' numbers' same e =
          let numbers_same : numbers' ≡ numbers = ap (λ p. elim p [
            | Runs w s ns ↦ ns
            | Undecided w ↦ numbers
            | Kept w ↦ numbers
            | Offered w ↦ numbers
            | Made w f ↦ numbers
            | Settled f ↦ numbers
            | Spent ↦ numbers
          ]) e in
          subst (λ ns. Listed owned.parents (slice_set (slice_set world.places n Spent) i (Runs worker new numbers)) k ns × Falls ns) (sym numbers_same)
          (subst (λ j. Listed owned.parents (slice_set (slice_set world.places n Spent) i (Runs worker new numbers)) j numbers × Falls numbers) (sym same) (
            listed_on owned.parents world.places (slice_set (slice_set world.places n Spent) i (Runs worker new numbers)) i numbers
                (λ m a h. still m (λ f. absurd (let less = below_head n m numbers now.1 a in omega (arith, less, f))) h) now.0.2,
            tail_falls n numbers now.1,
          ))

      others : (k worker' : ℕ) (job' : Job) (strand' : Strand) (numbers' : List ℕ) → k ≢ i → Has world k job' (Runs worker' strand' numbers')
          → Listed owned.parents (slice_set (slice_set world.places n Spent) i (Runs worker new numbers)) k numbers' × Falls numbers'
      others k worker' job' strand' numbers' other has' =
          let theirs = owned.listed k worker' job' strand' numbers' has' in (
            listed_on owned.parents world.places (slice_set (slice_set world.places n Spent) i (Runs worker new numbers)) k numbers'
                (λ m a h. still m (λ f. other (same_owner m a f theirs.0)) h) theirs.0,
            theirs.1,
          )
        where
          same_owner : (m : ℕ) → IsAmong m numbers' → m ≡ n → Listed owned.parents world.places k numbers' → k ≡ i
          same_owner m a f l = one_there (slice_get owned.parents n) k i (ap (slice_get owned.parents) (sym f) ∙ parent_in owned.parents world.places k m numbers' a l) now.0.0

parents_on : (parents : List ℕ) (new : ℕ) (places : List Place) (i : ℕ) (numbers : List ℕ) → Listed parents places i numbers → Listed (parents ++ new ∷ []) places i numbers
parents_on parents new places i [] h = tt
parents_on parents new places i (n ∷ numbers) h = (get_before parents new n i h.0, h.1, parents_on parents new places i numbers h.2)

falls_from : (n : ℕ) (parents : List ℕ) (places : List Place) (i : ℕ) (numbers : List ℕ) → length parents ≡ n → Listed parents places i numbers → Falls numbers → Falls (n ∷ numbers)
falls_from n parents places i [] e h f = tt
falls_from n parents places i (m ∷ numbers) e h f = (let lt = slice_get_within parents m i h.0 in omega (arith, lt, e), f)

left_there : (xs : List Place) (x : Place) (n : ℕ) → n < length xs → slice_get (xs ++ x ∷ []) n ≡ slice_get xs n
left_there [] x n lt = absurd (omega (arith, lt))
left_there (y ∷ xs) x zero lt = refl
left_there (y ∷ xs) x (suc n) lt = left_there xs x n (omega (arith, lt))

none_spent : (new : Place) → new ≢ Spent → Some new ≢ Some Spent
none_spent new live e = live (one_there (Some new) new Spent refl e)

-- a new job, which this strand has out
spawn_owned : (world : World) (i worker : ℕ) (job out : Job) (strand new : Strand) (numbers : List ℕ) → Owned world → Has world i job (Runs worker strand numbers)
    → Owned (placed (joined_by world out (Undecided worker)) i (Runs worker new (length world.jobs ∷ numbers)))
spawn_owned world i worker job out strand new numbers owned has = record {
  parents = parents;
  even = length-append owned.parents (i ∷ []) ∙ ap (λ n. n + 1) owned.even ∙ sym (length-append world.jobs (out ∷ []));
  even' = length-append owned.parents (i ∷ []) ∙ ap (λ n. n + 1) owned.even' ∙ sym (length-append world.places (Undecided worker ∷ []))
      ∙ sym (length-set added i (Runs worker new (length world.jobs ∷ numbers)));
  listed = λ k worker' job' strand' numbers' has'. elim (set_cases added i k (Runs worker new (length world.jobs ∷ numbers)) (Runs worker' strand' numbers') has'.place_is) [
    | inl p ↦ mine k worker' strand' numbers' p.0 p.1
    | inr p ↦ elim (added_gives world.places k (Undecided worker) (Runs worker' strand' numbers') p.1) [
      | inl q ↦ absurd (undecided worker' strand' numbers' q.1)
      | inr q ↦ elim (added_gives world.jobs k out job' has'.job_is) [
        | inl r ↦ absurd (let lt = slice_get_within world.places k (Runs worker' strand' numbers') q in let same = r.0 in let e = owned.even in let e' = owned.even' in omega (arith, lt, same, e, e'))
        | inr r ↦ carried k numbers' (owned.listed k worker' job' strand' numbers' (record { job_is = r; place_is = q }))
      ]
    ]
  ];
}
  where
    parents : List ℕ
    parents = owned.parents ++ i ∷ []

    added : List Place
    added = world.places ++ Undecided worker ∷ []

    undecided : (w : ℕ) (s : Strand) (ns : List ℕ) → Runs w s ns ≡ Undecided worker → ⊥
    undecided w s ns e = cc

    carried : (k : ℕ) (numbers' : List ℕ) → Listed owned.parents world.places k numbers' × Falls numbers'
        → Listed (owned.parents ++ i ∷ []) (slice_set (world.places ++ Undecided worker ∷ []) i (Runs worker new (length world.jobs ∷ numbers))) k numbers' × Falls numbers'
    carried k numbers' good = (
      listed_on (owned.parents ++ i ∷ []) world.places (slice_set (world.places ++ Undecided worker ∷ []) i (Runs worker new (length world.jobs ∷ numbers))) k numbers'
          (λ n a h. open_set (world.places ++ Undecided worker ∷ []) i n (Runs worker new (length world.jobs ∷ numbers)) (λ e. runs_spent worker new (length world.jobs ∷ numbers) e)
          (subst IsOpen (sym (left_there world.places (Undecided worker) n
          (let lt = slice_get_within owned.parents n k (parent_in owned.parents world.places k n numbers' a good.0) in let e = owned.even' in
          omega (arith, lt, e)))) h))
          (parents_on owned.parents i world.places k numbers' good.0),
      good.1,
    )

    undecided_spent : Undecided worker ≡ Spent → ⊥
    undecided_spent e = cc

    opens : IsOpen (slice_get (world.places ++ Undecided worker ∷ []) (length world.jobs))
    opens = subst IsOpen (sym (ap (slice_get (world.places ++ Undecided worker ∷ [])) (sym owned.even ∙ owned.even')
        ∙ get_last world.places (Undecided worker))) (none_spent (Undecided worker) undecided_spent)

    mine : (k worker' : ℕ) (strand' : Strand) (numbers' : List ℕ) → k ≡ i → Runs worker' strand' numbers' ≡ Runs worker new (length world.jobs ∷ numbers)
        → Listed (owned.parents ++ i ∷ []) (slice_set (world.places ++ Undecided worker ∷ []) i (Runs worker new (length world.jobs ∷ numbers))) k numbers' × Falls numbers'
    mine k worker' strand' numbers' same e =
        let good = owned.listed i worker job strand numbers has in
        let old = carried i numbers good in
        let numbers_same : numbers' ≡ length world.jobs ∷ numbers = ap (λ p. elim p
        [ Runs w s ns ↦ ns | Undecided w ↦ numbers | Kept w ↦ numbers | Offered w ↦ numbers | Made w f ↦ numbers | Settled f ↦ numbers | Spent ↦ numbers ]) e in
        subst (λ ns. Listed (owned.parents ++ i ∷ []) (slice_set (world.places ++ Undecided worker ∷ []) i (Runs worker new (length world.jobs ∷ numbers))) k ns × Falls ns) (sym numbers_same)
        (subst (λ j. Listed (owned.parents ++ i ∷ []) (slice_set (world.places ++ Undecided worker ∷ []) i
        (Runs worker new (length world.jobs ∷ numbers))) j (length world.jobs ∷ numbers) × Falls (length world.jobs ∷ numbers)) (sym same) (
          (
            ap (slice_get (owned.parents ++ i ∷ [])) (sym owned.even) ∙ get_last owned.parents i,
            open_set (world.places ++ Undecided worker ∷ []) i (length world.jobs) (Runs worker new (length world.jobs ∷ numbers)) (λ f. runs_spent worker new (length world.jobs ∷ numbers) f) opens,
            old.0,
          ),
          falls_from (length world.jobs) owned.parents world.places i numbers owned.even good.0 good.1,
        ))

module _ (code : Code) where
  next_owned : (world next : World) → WorldStep code world next → Owned world → Owned next
  next_owned world next (Run _ i worker job strand new numbers has same) owned = set_owned world owned i (Runs worker new numbers) (λ e. cc) (owned.listed i worker job strand numbers has)
  next_owned world next (Spawn _ i worker job out strand new numbers has same) owned = spawn_owned world i worker job out strand new numbers owned has
  next_owned world next (Offer _ i worker job has) owned = set_owned world owned i (Offered worker) (λ e. cc) tt
  next_owned world next (Inline _ i worker job has) owned = set_owned world owned i (Kept worker) (λ e. cc) tt
  next_owned world next (Begin _ i worker job place has unrun) owned = set_owned world owned i (Runs worker (started job) []) (λ e. cc) (tt, tt)
  next_owned world next (Skip _ i n worker job out strand numbers place has stopped has' unrun) owned = spend_owned world owned i n worker job strand (skip strand) numbers has
  next_owned world next (Resume _ i n worker job out strand numbers place has ended has' unrun) owned = spend_owned world owned i n worker job strand (take_back strand) numbers has
  next_owned world next (End _ i worker job strand numbers e has same) owned = set_owned world owned i (Made worker e) (λ f. cc) tt
  next_owned world next (Settle _ i worker job e has) owned = set_owned world owned i (Settled e) (λ f. cc) tt
  next_owned world next (Give _ i n worker job out strand numbers place e has waits has' is) owned = spend_owned world owned i n worker job strand (give job strand e) numbers has
  next_owned world next (Want _ i worker job strand numbers has) owned = set_owned world owned i (Runs worker (out_of_memory strand) numbers) (λ e. cc) (owned.listed i worker job strand numbers has)
  next_owned world next (GiveUp _ i worker job place has unrun) owned = set_owned world owned i (Made worker Memory) (λ f. cc) tt

  first_owned : (job : Job) → Owned (world_of job)
  first_owned job = record { parents = 0 ∷ []; even = refl; even' = refl; listed = λ k worker job' strand numbers has. first k worker strand numbers has.place_is }
    where
      first : (k worker : ℕ) (strand : Strand) (numbers : List ℕ) → slice_get (Runs 0 (started job) [] ∷ []) k ≡ Some (Runs worker strand numbers)
          → Listed (0 ∷ []) (Runs 0 (started job) [] ∷ []) k numbers × Falls numbers
      first zero worker strand numbers e =
          let none : [] ≡ numbers = ap (λ o. elim o [
            | None ↦ []
            | Some p ↦ elim p
                [ Runs w s ns ↦ ns | Undecided w ↦ [] | Kept w ↦ [] | Offered w ↦ [] | Made w f ↦ [] | Settled f ↦ [] | Spent ↦ [] ]
          ]) e in
          subst (λ ns. Listed (0 ∷ []) (Runs 0 (started job) [] ∷ []) zero ns × Falls ns) none (tt, tt)
      first (suc k) worker strand numbers e = cc

  after_owned : (job : Job) (world : World) → After code (world_of job) world → Owned world
  after_owned job world Now = first_owned job
  after_owned job world (Later world' _ after next) = next_owned world' world next (after_owned job world' after)

pub owners_are_single : OwnersAreSingle
owners_are_single code root world after =
    let owned = after_owned code root world after in
    record {
      one = λ i j n worker worker' job job' strand strand' outs outs' has has' a a'.
          one_there (slice_get owned.parents n) i j (parent_in owned.parents world.places i n outs a (owned.listed i worker job strand outs has).0)
          (parent_in owned.parents world.places j n outs' a' (owned.listed j worker' job' strand' outs' has').0);
      once = λ i worker job strand outs has. (owned.listed i worker job strand outs has).1;
      still = λ i n worker job strand outs has a. open_in owned.parents world.places i n outs a (owned.listed i worker job strand outs has).0;
    }
