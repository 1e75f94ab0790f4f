-- Each event leaves a sound world sound.
use Rattle.std.proofs.Common.{◌≡◌, ◌∙◌, ℕ, zero, suc, List, [], ◌∷◌, ◌++◌, Some, refl, sym, ap, subst, length, reverse, inl, inr}
use Rattle.std.specs.Prelude.{slice_get, slice_set, take, drop}
use Rattle.std.specs.List.{remove}
use Rattle.std.proofs.lemmas.Option.{same_Some}
use Rattle.std.proofs.lemmas.List.{length-set}
use Rattle.cw_facts.specs.Lists.{each_pushed, get_before}
use Rattle.cw_runnable.specs.declared.verified.Verified.{Verified}
use Rattle.cw_jobs.specs.declared.effect.Effect.{Effect}
use Rattle.cw_jobs.specs.declared.job.Job.{Job}
use Rattle.cw_sched.specs.core.Board.{pushed, but_newest, of_worker}
use Rattle.cw_sched.specs.declared.board.Offer.{Offer}
use Rattle.cw_sched.specs.declared.board.Cell.{Cell}
use Rattle.cw_sched.specs.declared.event.Event.{Event}
use Rattle.cw_sched.specs.declared.event.Event.TheVariants as event
use Rattle.cw_sched.specs.declared.post.Out.{Out}
use Rattle.cw_sched.specs.declared.post.Out.TheVariants as out
use Rattle.cw_sched.specs.Boards.{Each, Boarded}
use Rattle.cw_sched.specs.Scenes.{FrameView, Stage, Goes, Made, Answered, Scene, top}
use Rattle.cw_sched.specs.Sound.{IsJobOf, IsOwn, IsOffer, IsCell, out_number, Works, IsMade, IsStage, HasRoot, Sound, KeepsRuns}
use Rattle.cw_sched.specs.Events.{with_top, but_top, turned, board_without, Runs, Spawns, Offers, Inlines, Retakes, Steals, Settles, Collects, Does}
use Rattle.cw_sched.proofs.Lists.{each_weaken, each_set, each_worker, each_but_newest, each_newest, each_but_oldest, same_names}
use Rattle.cw_sched.proofs.Strands.{newest_out_of, works_other}

-- all that workers have begun
abbrev pub AreStages : Verified → List Job → List (List Stage) → Type 0
AreStages v jobs begun = Each (Each (IsStage v jobs)) begun

pub less : (v : Verified) (jobs : List Job) (begun : List (List Stage)) (w : ℕ) → AreStages v jobs begun → AreStages v jobs (but_top begun w)
less v jobs begun w h =
    each_set (Each (IsStage v jobs)) begun w (but_newest (of_worker begun w)) h
    (each_but_newest (IsStage v jobs) (of_worker begun w) (each_worker (IsStage v jobs) begun w h))

pub more : (v : Verified) (jobs : List Job) (begun : List (List Stage)) (w : ℕ) (x : Stage) → AreStages v jobs begun → IsStage v jobs x → AreStages v jobs (with_top begun w x)
more v jobs begun w x h s =
    each_set (Each (IsStage v jobs)) begun w (pushed (of_worker begun w) x) h
    (each_pushed (IsStage v jobs) (of_worker begun w) x (each_worker (IsStage v jobs) begun w h) s)

pub top_stage : (v : Verified) (s : Scene) (w : ℕ) (x : Stage) → Sound v s → top s w ≡ Some x → IsStage v s.jobs x
top_stage v s w x h e = each_newest (IsStage v s.jobs) (of_worker s.begun w) x (each_worker (IsStage v s.jobs) s.begun w h.begun) e

less_long : (begun : List (List Stage)) (w : ℕ) → length (but_top begun w) ≡ length begun
less_long begun w = length-set begun w (but_newest (of_worker begun w))

more_long : (begun : List (List Stage)) (w : ℕ) (x : Stage) → length (with_top begun w x) ≡ length begun
more_long begun w x = length-set begun w (pushed (of_worker begun w) x)

-- a board that is right beside the same jobs
pub record IsBoard (jobs : List Job) (old new : Boarded) : Type 0 where
  pub offers : Each (Each (IsOffer jobs)) new.offers
  pub cells : Each (IsCell jobs) new.cells
  pub many : length new.offers ≡ length old.offers

same_board : (v : Verified) (s : Scene) → Sound v s → IsBoard s.jobs s.board s.board
same_board v s h = record { offers = h.offers; cells = h.cells; many = refl }

turned_sound : (v : Verified) (s : Scene) (w : ℕ) (x : Stage) (board : Boarded) → Sound v s → IsStage v s.jobs x → IsBoard s.jobs s.board board → Sound v (turned s w x board)
turned_sound v s w x board h right b =
    record {
      root = h.root;
      begun = more v s.jobs (but_top s.begun w) w x (less v s.jobs s.begun w h.begun) right;
      offers = b.offers;
      cells = b.cells;
      workers = b.many ∙ (h.workers ∙ sym (more_long (but_top s.begun w) w x ∙ less_long s.begun w));
    }

-- with one more job each thing is as right as before
module _ (jobs : List Job) (job : Job) where
  pub kept_job : (n : ℕ) (j : Job) → IsJobOf jobs n j → IsJobOf (jobs ++ job ∷ []) n j
  kept_job n j e = get_before jobs job n j e

  pub kept_own : (o : Out) → IsOwn jobs o → IsOwn (jobs ++ job ∷ []) o
  kept_own (out.Undecided n j) h = kept_job n j h
  kept_own (out.Kept n j) h = kept_job n j h
  kept_own (out.Offered n) h = tt

  kept_works : (p : FrameView) → Works jobs p → Works (jobs ++ job ∷ []) p
  kept_works p w =
      record {
        running = w.running;
        named = kept_job p.number _ w.named;
        lent = same_names (λ o. slice_get jobs (out_number o)) (λ o. slice_get (jobs ++ job ∷ []) (out_number o)) (reverse p.outs) _ (λ o j e. kept_job (out_number o) j e) w.lent;
        own = each_weaken (IsOwn jobs) (IsOwn (jobs ++ job ∷ [])) p.outs kept_own w.own;
        stands = w.stands;
      }

  kept_made : (n : ℕ) (e : Effect) → IsMade jobs n e → IsMade (jobs ++ job ∷ []) n e
  kept_made n e m = record { job = m.job; named = kept_job n m.job m.named; means = m.means }

  kept_stage : (v : Verified) → HasRoot v jobs → (x : Stage) → IsStage v jobs x → IsStage v (jobs ++ job ∷ []) x
  kept_stage v r (Goes p) h = kept_works p h
  kept_stage v r (Made n e) h = kept_made n e h
  kept_stage v r (Answered a) h =
      λ args n burden root is_named is.
      let same : r.root ≡ root = same_Some r.root root (sym (kept_job 0 r.root r.named) ∙ is_named) in
      h args n burden root (r.named ∙ ap (λ j. Some j) same) is

  kept_root : (v : Verified) → HasRoot v jobs → HasRoot v (jobs ++ job ∷ [])
  kept_root v r = record { args = r.args; limit = r.limit; burden = r.burden; root = r.root; named = kept_job 0 r.root r.named; is = r.is }

spawned_sound : (v : Verified) (s : Scene) (w : ℕ) (job : Job) (x : Stage) → Sound v s → IsStage v (s.jobs ++ job ∷ []) x
    → Sound v (record { jobs = s.jobs ++ job ∷ []; begun = with_top (but_top s.begun w) w x; board = s.board })
spawned_sound v s w job x h right =
    let stages : AreStages v (s.jobs ++ job ∷ []) s.begun =
    each_weaken (Each (IsStage v s.jobs)) (Each (IsStage v (s.jobs ++ job ∷ []))) s.begun
    (λ l g. each_weaken (IsStage v s.jobs) (IsStage v (s.jobs ++ job ∷ [])) l (kept_stage s.jobs job v h.root) g) h.begun in
    record {
      root = kept_root s.jobs job v h.root;
      begun = more v _ (but_top s.begun w) w x (less v _ s.begun w stages) right;
      offers = each_weaken (Each (IsOffer s.jobs)) (Each (IsOffer (s.jobs ++ job ∷ []))) s.board.offers
          (λ l g. each_weaken (IsOffer s.jobs) (IsOffer (s.jobs ++ job ∷ [])) l (λ o k. kept_job s.jobs job o.number o.job k) g) h.offers;
      cells = each_weaken (IsCell s.jobs) (IsCell (s.jobs ++ job ∷ [])) s.board.cells (λ c k. kept_made s.jobs job c.number c.effect k) h.cells;
      workers = h.workers ∙ sym (more_long (but_top s.begun w) w x ∙ less_long s.begun w);
    }

-- a list of a worker that has less
fewer_offers : (jobs : List Job) (b : Boarded) (w : ℕ) (l : List Offer) → Each (Each (IsOffer jobs)) b.offers → Each (IsOffer jobs) l → Each (Each (IsOffer jobs)) (slice_set b.offers w l)
fewer_offers jobs b w l h g = each_set (Each (IsOffer jobs)) b.offers w l h g

retaken_board : (v : Verified) (s : Scene) (w : ℕ) (o : Out) → Sound v s → IsBoard s.jobs s.board (board_without s.board w o)
retaken_board v s w (out.Undecided n j) h = same_board v s h
retaken_board v s w (out.Kept n j) h = same_board v s h
retaken_board v s w (out.Offered n) h =
    record {
      offers = fewer_offers s.jobs s.board w _ h.offers (each_but_newest (IsOffer s.jobs) (of_worker s.board.offers w) (each_worker (IsOffer s.jobs) s.board.offers w h.offers));
      cells = h.cells;
      many = length-set s.board.offers w _;
    }

each_append : {A : Type 0} (P : A → Type 0) (xs ys : List A) → Each P xs → Each P ys → Each P (xs ++ ys)
each_append P [] ys h g = g
each_append P (x ∷ xs) ys h g = (h.0, each_append P xs ys h.1 g)

each_take : {A : Type 0} (P : A → Type 0) (xs : List A) (i : ℕ) → Each P xs → Each P (take i xs)
each_take P xs zero h = tt
each_take P [] (suc i) h = tt
each_take P (x ∷ xs) (suc i) h = (h.0, each_take P xs i h.1)

each_drop : {A : Type 0} (P : A → Type 0) (xs : List A) (i : ℕ) → Each P xs → Each P (drop i xs)
each_drop P xs zero h = h
each_drop P [] (suc i) h = tt
each_drop P (x ∷ xs) (suc i) h = each_drop P xs i h.1

pub each_remove : {A : Type 0} (P : A → Type 0) (xs : List A) (i : ℕ) → Each P xs → Each P (remove xs i)
each_remove P xs i h = each_append P (take i xs) (drop (suc i) xs) (each_take P xs i h) (each_drop P xs (suc i) h)

pub run_sound : (v : Verified) (s s' : Scene) (w : ℕ) → Sound v s → Runs v s s' w → Sound v s'
run_sound v s s' w h d = subst (λ (t : Scene). Sound v t) (sym d.is) (turned_sound v s w d.stage s.board h d.comes.1 (same_board v s h))

pub spawn_sound : (v : Verified) (s s' : Scene) (w : ℕ) → Sound v s → Spawns v s s' w → Sound v s'
spawn_sound v s s' w h d = subst (λ (t : Scene). Sound v t) (sym d.is) (spawned_sound v s w d.job (Goes d.post) h d.comes.1)

pub inline_sound : (v : Verified) (s s' : Scene) (w : ℕ) → Sound v s → Inlines s s' w → Sound v s'
inline_sound v s s' w h d =
    let p = d.at.at.post in
    let works : Works s.jobs p = top_stage v s w (Goes p) h d.at.at.is in
    let are : p.outs ≡ d.at.older ++ out.Undecided d.number d.job ∷ [] = d.at.are ∙ ap (λ o. d.at.older ++ o ∷ []) d.newest in
    let n = newest_out_of s.jobs p d.at.older (out.Undecided d.number d.job) works are in
    subst (λ (t : Scene). Sound v t) (sym d.is)
    (turned_sound v s w (Goes (record { number = p.number; strand = p.strand; at_join = p.at_join; outs = d.at.older ++ out.Kept d.number d.job ∷ [] })) s.board h
    (works_other s.jobs p d.at.older (out.Undecided d.number d.job) (out.Kept d.number d.job) works are refl n.this) (same_board v s h))

pub offer_sound : (v : Verified) (s s' : Scene) (w : ℕ) → Sound v s → Offers s s' w → Sound v s'
offer_sound v s s' w h d =
    let p = d.at.at.post in
    let works : Works s.jobs p = top_stage v s w (Goes p) h d.at.at.is in
    let are : p.outs ≡ d.at.older ++ out.Undecided d.number d.job ∷ [] = d.at.are ∙ ap (λ o. d.at.older ++ o ∷ []) d.newest in
    let n = newest_out_of s.jobs p d.at.older (out.Undecided d.number d.job) works are in
    let o : Offer = record { number = d.number; job = d.job } in
    let b : IsBoard s.jobs s.board (record { offers = slice_set s.board.offers w (of_worker s.board.offers w ++ o ∷ []); cells = s.board.cells }) = record {
      offers = fewer_offers s.jobs s.board w _ h.offers (each_pushed (IsOffer s.jobs) (of_worker s.board.offers w) o (each_worker (IsOffer s.jobs) s.board.offers w h.offers) n.this);
      cells = h.cells;
      many = length-set s.board.offers w _;
    } in
    subst (λ (t : Scene). Sound v t) (sym d.is)
    (turned_sound v s w (Goes (record { number = p.number; strand = p.strand; at_join = p.at_join; outs = d.at.older ++ out.Offered d.number ∷ [] })) _ h
    (works_other s.jobs p d.at.older (out.Undecided d.number d.job) (out.Offered d.number) works are refl tt) b)

pub retake_sound : (v : Verified) (s s' : Scene) (w : ℕ) → Sound v s → Retakes v s s' w → Sound v s'
retake_sound v s s' w h d = subst (λ (t : Scene). Sound v t) (sym d.is) (turned_sound v s w d.stage _ h d.comes.1 (retaken_board v s w d.at.newest h))

pub steal_sound : (v : Verified) (s s' : Scene) (w victim : ℕ) → Sound v s → Steals v s s' w victim → Sound v s'
steal_sound v s s' w victim h d =
    subst (λ (t : Scene). Sound v t) (sym d.is) (record {
      root = h.root;
      begun = more v s.jobs s.begun w d.stage h.begun d.comes.1;
      offers = fewer_offers s.jobs s.board victim _ h.offers
          (each_but_oldest (IsOffer s.jobs) (of_worker s.board.offers victim) (each_worker (IsOffer s.jobs) s.board.offers victim h.offers));
      cells = h.cells;
      workers = length-set s.board.offers victim _ ∙ (h.workers ∙ sym (more_long s.begun w d.stage));
    })

pub settle_sound : (v : Verified) (s s' : Scene) (w : ℕ) → Sound v s → Settles s s' w → Sound v s'
settle_sound v s s' w h d =
    let made : IsMade s.jobs d.number d.effect = top_stage v s w (Made d.number d.effect) h d.made in
    let c : Cell = record { number = d.number; effect = d.effect } in
    subst (λ (t : Scene). Sound v t) (sym d.is) (record {
      root = h.root;
      begun = less v s.jobs s.begun w h.begun;
      offers = h.offers;
      cells = each_pushed (IsCell s.jobs) s.board.cells c h.cells made;
      workers = h.workers ∙ sym (less_long s.begun w);
    })

pub collect_sound : (v : Verified) (s s' : Scene) (w : ℕ) → Sound v s → Collects v s s' w → Sound v s'
collect_sound v s s' w h d =
    subst (λ (t : Scene). Sound v t) (sym d.is)
    (turned_sound v s w d.stage _ h d.comes.1 (record { offers = h.offers; cells = each_remove (IsCell s.jobs) s.board.cells d.place h.cells; many = refl }))

pub does_sound : (v : Verified) (s s' : Scene) (e : Event) → Sound v s → Does v e s s' → Sound v s'
does_sound v s s' (event.Run w) h (inl d) = run_sound v s s' w h d
does_sound v s s' (event.Run w) h (inr d) = spawn_sound v s s' w h d
does_sound v s s' (event.Offer w) h d = offer_sound v s s' w h d
does_sound v s s' (event.Inline w) h d = inline_sound v s s' w h d
does_sound v s s' (event.Retake w) h d = retake_sound v s s' w h d
does_sound v s s' (event.Steal w victim) h d = steal_sound v s s' w victim h d
does_sound v s s' (event.Settle w) h d = settle_sound v s s' w h d
does_sound v s s' (event.Collect w) h d = collect_sound v s s' w h d

same_jobs : (old new : List Job) → new ≡ old → KeepsRuns old new
same_jobs old new e = λ root h. ap (λ l. slice_get l 0) e ∙ h

-- the jobs of the world after an event
pub does_jobs : (v : Verified) (s s' : Scene) (e : Event) → Does v e s s' → KeepsRuns s.jobs s'.jobs
does_jobs v s s' (event.Run w) (inl d) = same_jobs s.jobs s'.jobs (ap (λ (t : Scene). t.jobs) d.is)
does_jobs v s s' (event.Run w) (inr d) = λ root h. ap (λ (t : Scene). slice_get t.jobs 0) d.is ∙ get_before s.jobs d.job 0 root h
does_jobs v s s' (event.Offer w) d = same_jobs s.jobs s'.jobs (ap (λ (t : Scene). t.jobs) d.is)
does_jobs v s s' (event.Inline w) d = same_jobs s.jobs s'.jobs (ap (λ (t : Scene). t.jobs) d.is)
does_jobs v s s' (event.Retake w) d = same_jobs s.jobs s'.jobs (ap (λ (t : Scene). t.jobs) d.is)
does_jobs v s s' (event.Steal w victim) d = same_jobs s.jobs s'.jobs (ap (λ (t : Scene). t.jobs) d.is)
does_jobs v s s' (event.Settle w) d = same_jobs s.jobs s'.jobs (ap (λ (t : Scene). t.jobs) d.is)
does_jobs v s s' (event.Collect w) d = same_jobs s.jobs s'.jobs (ap (λ (t : Scene). t.jobs) d.is)
