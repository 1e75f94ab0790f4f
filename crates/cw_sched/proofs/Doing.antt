-- What events do, from what their parts did.
use Rattle.std.proofs.Common.{◌≡◌, ◌≢◌, ◌∙◌, ℕ, zero, suc, ◌+◌, ◌<◌, Bool, true, false, ◌&&◌, List, [], ◌∷◌, ◌++◌, Option, Some, None, refl, sym, ap, subst, length, arith, Vec, Global}
use Rattle.std.specs.Prelude.{map, not, slice_get, slice_set, IfSome, is_some}
use Rattle.std.specs.Option.{option_to_list, MatchOption}
use Rattle.std.specs.Vec.{vec_len, vec_capacity}
use Rattle.std.proofs.lemmas.Option.{same_Some}
use Rattle.std.proofs.lemmas.List.{nil_from_length, set-set}
use Rattle.std.proofs.lemmas.Bool.{false≢true}
use Rattle.cw_facts.specs.Lists.{each_at}
use Rattle.cw_runnable.specs.declared.verified.Verified.{Verified}
use Rattle.cw_jobs.specs.declared.effect.Effect.{Effect}
use Rattle.cw_jobs.specs.declared.job.Job.{Job}
use Rattle.cw_jobs.specs.Means.{IsMeaningOf}
use Rattle.cw_machine.specs.Answering.{IsOfWhole}
use Rattle.cw_strand.specs.Holds.{its_job, outs, IsRunning, IsAtSync}
use Rattle.cw_sched.specs.core.Board.{newest, oldest, but_oldest, of_worker}
use Rattle.cw_sched.specs.declared.board.Offer.{Offer}
use Rattle.cw_sched.specs.declared.post.Out.{Out}
use Rattle.cw_sched.specs.declared.post.Out.TheVariants as out
use Rattle.cw_sched.specs.Boards.{Each, Boarded, newest_number}
use Rattle.cw_sched.specs.Scenes.{FrameView, Stage, Goes, Made, Answered, Scene, top}
use Rattle.cw_sched.specs.WorkerFrames.{Comes}
use Rattle.cw_sched.specs.Sound.{IsJobOf, IsOwn, IsOffer, IsCell, IsMade, out_number, Works, Sound}
use Rattle.cw_sched.specs.Table.{goes, newest_out, is_at_spawn, is_undecided, is_at_join, can_retake, is_same, is_settled}
use Rattle.cw_sched.specs.Events.{with_top, but_top, turned, ComesTo, IsBack, IsAtBack, IsBegun}
use Rattle.cw_sched.proofs.Lists.{named, IsSomeOf, each_newest, each_oldest, each_worker, laid_back, newest_pushed, within_worker, of_worker_set, set_same}
use Rattle.cw_sched.proofs.Strands.{newest_out_of, is_even, jobs_at, comes_to, comes_whole}
use Rattle.cw_sched.proofs.Sounds.{top_stage}
use Rattle.cw_sched.proofs.Turns.{scene_of}

-- three parts of a scene
pub scene_is : (jobs jobs' : List Job) (begun begun' : List (List Stage)) (board board' : Boarded) → jobs ≡ jobs' → begun ≡ begun' → board ≡ board'
    → scene_of jobs begun board ≡ scene_of jobs' begun' board'
scene_is jobs jobs' begun begun' board board' j b d =
    ap (λ (k : List Job). scene_of k begun board) j
    ∙ (ap (λ (l : List (List Stage)). scene_of jobs' l board) b ∙ ap (λ (x : Boarded). scene_of jobs' begun' x) d)

-- a worker's newest was taken, and another one laid there
pub turned_scene : (s : Scene) (w : ℕ) (x x' : Stage) (but begun' : List (List Stage)) (board board' : Boarded) → but ≡ but_top s.begun w → begun' ≡ with_top but w x' → x' ≡ x → board' ≡ board
    → scene_of s.jobs begun' board' ≡ turned s w x board
turned_scene s w x x' but begun' board board' less laid same b =
    scene_is s.jobs s.jobs begun' (with_top (but_top s.begun w) w x) board' board refl
    (laid ∙ (ap (λ (l : List (List Stage)). with_top l w x') less ∙ ap (λ (y : Stage). with_top (but_top s.begun w) w y) same)) b

-- it was laid back
pub put_back : (s : Scene) (w : ℕ) (x x' : Stage) (jobs' : List Job) (but begun' : List (List Stage)) (board' : Boarded) → top s w ≡ Some x
    → but ≡ but_top s.begun w → begun' ≡ with_top but w x' → x' ≡ x
    → jobs' ≡ s.jobs → board' ≡ s.board → scene_of jobs' begun' board' ≡ s
put_back s w x x' jobs' but begun' board' at less laid same j b =
    scene_is jobs' s.jobs begun' s.begun board' s.board j
    (laid ∙ (ap (λ (l : List (List Stage)). with_top l w x') less ∙ (ap (λ (y : Stage). with_top (but_top s.begun w) w y) same ∙ laid_back s.begun w x at))) b

-- the post that was taken
pub taken_works : (v : Verified) (s : Scene) (w : ℕ) (p : FrameView) → Sound v s → top s w ≡ Some (Goes p) → Works s.jobs p
taken_works v s w p h at = top_stage v s w (Goes p) h at

pub at_sync : (jobs : List Job) (p : FrameView) (t : Option Stage) → Works jobs p → t ≡ Some (Goes p) → is_at_join t ≡ true → IsRunning p.strand × IsAtSync p.strand
at_sync jobs p t works is e = (works.running, (works.stands.0 (sym (ap is_at_join is) ∙ e)).0)

-- where Run is possible
pub not_at_join : (t : Option Stage) → goes t && not (is_at_spawn t) && not (is_at_join t) ≡ true → is_at_join t ≡ false
not_at_join t h = by_tests (goes t) (is_at_spawn t) (is_at_join t) h
  where
    by_tests : (a b c : Bool) → a && not b && not c ≡ true → c ≡ false
    by_tests true false false h = refl
    by_tests true false true h = absurd (false≢true h)
    by_tests true true c h = absurd (false≢true h)
    by_tests false b c h = absurd (false≢true h)

-- a job that came back from the board, or was kept, is that of its number
pub back_job : (v : Verified) (s : Scene) (w : ℕ) (o : Out) (rest : Job) → Sound v s → IsOwn s.jobs o → IsBack s.board w o rest → IsJobOf s.jobs (out_number o) rest
back_job v s w (out.Undecided n j) rest h own back = absurd back
back_job v s w (out.Kept n j) rest h own back = own ∙ ap (λ k. Some k) back
back_job v s w (out.Offered n) rest h own back =
    each_newest (IsOffer s.jobs) (of_worker s.board.offers w) (record { number = n; job = rest }) (each_worker (IsOffer s.jobs) s.board.offers w h.offers) back

same_of : (jobs : List Job) (n : ℕ) (a b : Job) → IsJobOf jobs n a → IsJobOf jobs n b → a ≡ b
same_of jobs n a b ha hb = same_Some a b (sym ha ∙ hb)

-- what the strand has out, where this came back
pub record Lacking (p : FrameView) (older : List Out) (rest : Job) : Type 0 where
  pub others : List Job
  pub are : outs p.strand ≡ rest ∷ others
  pub even : length older ≡ length others

pub lacks_back : (v : Verified) (s : Scene) (w : ℕ) (p : FrameView) (older : List Out) (o : Out) (rest : Job) → Sound v s → Works s.jobs p
    → p.outs ≡ older ++ o ∷ [] → IsBack s.board w o rest → Lacking p older rest
lacks_back v s w p older o rest h works are back =
    let n = newest_out_of s.jobs p older o works are in
    let same : n.job ≡ rest = same_of s.jobs (out_number o) n.job rest n.named_is (back_job v s w o rest h n.this back) in
    record { others = n.others; are = n.is ∙ ap (λ j. j ∷ n.others) same; even = is_even s.jobs older n.others n.older_are }

-- what it comes to, told of the job that came back
pub comes_of : (v : Verified) (s : Scene) (w : ℕ) (p q : FrameView) (older : List Out) (o : Out) (rest : Job) (ended : Option Effect) → Sound v s
    → Works s.jobs p → p.outs ≡ older ++ o ∷ [] → IsBack s.board w o rest
    → ((others : List Job) → outs p.strand ≡ rest ∷ others → Comes ended (record { number = p.number; strand = p.strand; at_join = p.at_join; outs = older }) q others)
    → (job : Job) (others : List Job) → outs p.strand ≡ job ∷ others → IsJobOf s.jobs (out_number o) job
    → Comes ended (record { number = p.number; strand = p.strand; at_join = p.at_join; outs = older }) q others
comes_of v s w p q older o rest ended h works are back f job others is named_is =
    let n = newest_out_of s.jobs p older o works are in
    let same : job ≡ rest = same_of s.jobs (out_number o) job rest named_is (back_job v s w o rest h n.this back) in
    f others (is ∙ ap (λ j. j ∷ others) same)

-- it lies at the back, where it can be retaken
pub at_back : (b : Boarded) (w : ℕ) (o : Out) → can_retake b w (Some o) ≡ true → IsAtBack b w o
at_back b w (out.Undecided n j) e = tt
at_back b w (out.Kept n j) e = tt
at_back b w (out.Offered n) e = by_number (newest_number b w) refl e
  where
    by_number : (r : Option ℕ) → newest_number b w ≡ r → is_same n r ≡ true → newest_number b w ≡ Some n
    by_number None is e = let never : ⊥ = cc in absurd never
    by_number (Some m) is e = let same : n ≡ m = grind (arith, e) in is ∙ ap (λ k. Some k) (sym same)

-- the job that a strand has newest out is that whose effect was in the cell
pub record Giving (p : FrameView) (older : List Out) (e : Effect) : Type 0 where
  pub out : Job
  pub others : List Job
  pub are : outs p.strand ≡ out ∷ others
  pub means : IsMeaningOf out e
  pub even : length older ≡ length others

pub gives : (v : Verified) (s : Scene) (p : FrameView) (older : List Out) (n place : ℕ) (e : Effect) → Sound v s → Works s.jobs p → p.outs ≡ older ++ out.Offered n ∷ []
    → slice_get s.board.cells place ≡ Some (record { number = n; effect = e }) → Giving p older e
gives v s p older n place e h works are cell =
    let k = newest_out_of s.jobs p older (out.Offered n) works are in
    let m : IsMade s.jobs n e = each_at (IsCell s.jobs) s.board.cells place (record { number = n; effect = e }) h.cells cell in
    let same : m.job ≡ k.job = same_of s.jobs n m.job k.job m.named k.named_is in
    record { out = k.job; others = k.others; are = k.is; means = subst (λ j. IsMeaningOf j e) same m.means; even = is_even s.jobs older k.others k.older_are }

-- the newest of a list is popped
pub popped : {A : Type 0} (q q' : Vec A Global) (r : Option A) → q.items ≡ q'.items ++ option_to_list r
    → MatchOption r ((vec_len q ≡ 0) × (vec_len q' ≡ 0)) (λ _. vec_len q' + 1 ≡ vec_len q) → newest q.items ≡ r
popped q q' None items cases = ap newest (nil_from_length q.items (sym q.ok.0 ∙ cases.0))
popped q q' (Some x) items cases = ap newest items ∙ newest_pushed q'.items x

pub popped_are : {A : Type 0} (q q' : Vec A Global) (r : Option A) (x : A) → q.items ≡ q'.items ++ option_to_list r → r ≡ Some x → q.items ≡ q'.items ++ x ∷ []
popped_are q q' r x items is = items ∙ ap (λ o. q'.items ++ option_to_list o) is

pub popped_room : {A : Type 0} (q q' : Vec A Global) (r : Option A) (x : A) → r ≡ Some x
    → MatchOption r ((vec_len q ≡ 0) × (vec_len q' ≡ 0)) (λ _. vec_len q' + 1 ≡ vec_len q) → vec_capacity q' ≡ vec_capacity q → vec_len q' < vec_capacity q'
popped_room q q' None x is cases cap = let never : ⊥ = cc in absurd never
popped_room q q' (Some y) x is cases cap = omega (arith, cases, cap, q.ok.1)

-- at a spawn
pub spawn_out : (p : FrameView) (t : Option Stage) (r : Option Out) → t ≡ Some (Goes p) → newest p.outs ≡ r → is_at_spawn t ≡ true → is_undecided r ≡ true
spawn_out p t r is same e = sym (ap is_undecided (ap newest_out is ∙ same)) ∙ e

pub retake_out : (b : Boarded) (w : ℕ) (p : FrameView) (t : Option Stage) (r : Option Out) → t ≡ Some (Goes p) → newest p.outs ≡ r → can_retake b w (newest_out t) ≡ true → can_retake b w r ≡ true
retake_out b w p t r is same e = sym (ap (can_retake b w) (ap newest_out is ∙ same)) ∙ e

pub settled_out : (b : Boarded) (p : FrameView) (t : Option Stage) (r : Option Out) → t ≡ Some (Goes p) → newest p.outs ≡ r → is_settled b (newest_out t) ≡ true → is_settled b r ≡ true
settled_out b p t r is same e = sym (ap (is_settled b) (ap newest_out is ∙ same)) ∙ e

-- at a spawn a worker has a strand that goes on
pub spawn_goes : (t : Option Stage) → is_at_spawn t ≡ true → goes t ≡ true
spawn_goes None e = let never : ⊥ = cc in absurd never
spawn_goes (Some (Goes p)) e = refl
spawn_goes (Some (Made n d)) e = let never : ⊥ = cc in absurd never
spawn_goes (Some (Answered r)) e = let never : ⊥ = cc in absurd never

pub join_goes : (t : Option Stage) → is_at_join t ≡ true → goes t ≡ true
join_goes None e = let never : ⊥ = cc in absurd never
join_goes (Some (Goes p)) e = refl
join_goes (Some (Made n d)) e = let never : ⊥ = cc in absurd never
join_goes (Some (Answered r)) e = let never : ⊥ = cc in absurd never

pub record Some_is {A : Type 0} (r : Option A) : Type 0 where
  pub value : A
  pub is : r ≡ Some value

pub some_of : {A : Type 0} (r : Option A) → r ≢ None → Some_is r
some_of None h = absurd (h refl)
some_of (Some x) h = record { value = x; is = refl }

pub if_some : {A : Type 0} (P : A → Type 0) (r : Option A) (x : A) → r ≡ Some x → IfSome r P → P x
if_some P r x is h = subst (λ o. IfSome o P) is h

-- a job that was stolen begins
pub stolen_to : (v : Verified) (jobs : List Job) (p q : FrameView) (ended : Option Effect) (x : Stage) (n : ℕ) (job : Job) → IsJobOf jobs n job
    → p.number ≡ n → its_job p.strand ≡ job → p.outs ≡ [] → outs p.strand ≡ []
    → Comes ended p q (outs p.strand) → IsBegun v q ended x → ComesTo v jobs p [] x
stolen_to v jobs p q ended x n job is number of none none' comes b =
    let is_named : IsJobOf jobs p.number (its_job p.strand) = ap (slice_get jobs) number ∙ (is ∙ ap (λ j. Some j) (sym of)) in
    let lent : jobs_at jobs p.outs ≡ named (outs p.strand) = ap (jobs_at jobs) none ∙ ap named (sym none') in
    let own : Each (IsOwn jobs) p.outs = subst (λ (os : List Out). Each (IsOwn jobs) os) (sym none) tt in
    subst (λ (os : List Out). ComesTo v jobs p os x) none (comes_to v jobs p q ended (outs p.strand) x comes is_named lent own b)

pub stolen_whole : (v : Verified) (s : Scene) (p q : FrameView) (ended : Option Effect) (n : ℕ) (job : Job) → Sound v s → IsJobOf s.jobs n job → p.number ≡ n → its_job p.strand ≡ job
    → Comes ended p q (outs p.strand) → q.number ≡ 0 → IfSome ended (λ e. ∥ IsOfWhole v e ∥₁)
stolen_whole v s p q ended n job h is number of comes z =
    let is_named : IsJobOf s.jobs p.number (its_job p.strand) = ap (slice_get s.jobs) number ∙ (is ∙ ap (λ j. Some j) (sym of)) in
    comes_whole v s.jobs p q ended (outs p.strand) h.root comes is_named z

pub offer_job : (v : Verified) (s : Scene) (victim : ℕ) (o : Offer) → Sound v s → oldest (of_worker s.board.offers victim) ≡ Some o → IsJobOf s.jobs o.number o.job
offer_job v s victim o h is = each_oldest (IsOffer s.jobs) (of_worker s.board.offers victim) o (each_worker (IsOffer s.jobs) s.board.offers victim h.offers) is

-- a worker is there
pub is_there : {A B : Type 0} (f : A → B) (xs : List A) (w : ℕ) → is_some (slice_get (map f xs) w) ≡ true → w < length xs
is_there f [] w e = let never : ⊥ = cc in absurd never
is_there f (x ∷ xs) zero e = omega arith
is_there f (x ∷ xs) (suc w) e = let r : w < length xs = is_there f xs w e in omega (arith, r)

pub there_in : {A : Type 0} (xs : List A) (w : ℕ) → is_some (slice_get xs w) ≡ true → w < length xs
there_in [] w e = let never : ⊥ = cc in absurd never
there_in (x ∷ xs) zero e = omega arith
there_in (x ∷ xs) (suc w) e = let r : w < length xs = there_in xs w e in omega (arith, r)

pub oldest_some : {A : Type 0} (o : Option A) → is_some o ≡ true → o ≢ None
oldest_some None e none = let never : ⊥ = cc in never
oldest_some (Some x) e none = let never : ⊥ = cc in never

oldest_is : {A : Type 0} (xs : List A) (x : A) → oldest xs ≡ Some x → xs ≡ x ∷ but_oldest xs
oldest_is [] x e = absurd (subst IsSomeOf (sym e) tt)
oldest_is (y ∷ ys) x e = ap (λ z. z ∷ ys) (same_Some y x e)

pub set_back : {A : Type 0} (ls : List (List A)) (v : ℕ) (o : A) → oldest (of_worker ls v) ≡ Some o
    → slice_set (slice_set ls v (but_oldest (of_worker ls v))) v (o ∷ of_worker (slice_set ls v (but_oldest (of_worker ls v))) v) ≡ ls
set_back ls v o e =
    let some : of_worker ls v ≢ [] = λ none. absurd (subst IsSomeOf (sym e ∙ ap oldest none) tt) in
    let lt : v < length ls = within_worker ls v some in
    set-set ls v (but_oldest (of_worker ls v)) (o ∷ of_worker (slice_set ls v (but_oldest (of_worker ls v))) v)
    ∙ (ap (λ l. slice_set ls v (o ∷ l)) (of_worker_set ls v (but_oldest (of_worker ls v)) lt)
    ∙ (ap (slice_set ls v) (sym (oldest_is (of_worker ls v) o e)) ∙ set_same ls v))

pub retake_some : (b : Boarded) (w : ℕ) (p : FrameView) (t : Option Stage) (r : Option Out) (o : Out) → t ≡ Some (Goes p) → newest p.outs ≡ r
    → r ≡ Some o → can_retake b w (newest_out t) ≡ true → can_retake b w (Some o) ≡ true
retake_some b w p t r o is same some e = sym (ap (can_retake b w) some) ∙ retake_out b w p t r is same e

pub offer_there : (v : Verified) (s : Scene) (w : ℕ) (p : FrameView) → Sound v s → top s w ≡ Some (Goes p) → w < length s.board.offers
offer_there v s w p h at =
    let some : of_worker s.begun w ≢ [] = λ none. absurd (subst IsSomeOf (sym at ∙ ap newest none) tt) in
    let lt : w < length s.begun = within_worker s.begun w some in
    omega (arith, h.workers, lt)

map_long : {A B : Type 0} (f : A → B) (xs : List A) → length (map f xs) ≡ length xs
map_long f [] = refl
map_long f (x ∷ xs) = ap (λ n. suc n) (map_long f xs)

pub offer_long : {A B : Type 0} (w : ℕ) (f : A → B) (xs : List A) → w < length (map f xs) → w < length xs
offer_long w f xs lt = subst (λ n. w < n) (map_long f xs) lt
