-- What events do, by what a post came to and what was laid on its worker's list.
use Rattle.std.proofs.Common.{◌≡◌, ◌⊎◌, ◌∙◌, ℕ, ◌+◌, ◌<◌, Bool, true, List, [], ◌∷◌, ◌++◌, Option, Some, None, refl, sym, ap, subst, length, reverse, inl, inr}
use Rattle.std.specs.Prelude.{map, slice_get, IfSome, Ok}
use Rattle.cw_facts.specs.Lists.{get_last, reverse_pushed, each_pushed, get_before}
use Rattle.cw_runnable.specs.declared.verified.Verified.{Verified}
use Rattle.cw_jobs.specs.declared.effect.Effect.{Effect}
use Rattle.cw_jobs.specs.declared.job.Job.{Job}
use Rattle.cw_jobs.specs.Means.{IsMeaningOf}
use Rattle.cw_machine.specs.Answering.{IsOfWhole}
use Rattle.cw_strand.specs.declared.strand.Strand.{Strand}
use Rattle.cw_strand.specs.Holds.{its_job, its_end, outs, IsGoing}
use Rattle.cw_strand.specs.Losing.{cost_in, TakesIn}
use Rattle.cw_strand.specs.Moves.{CountsIn}
use Rattle.cw_sched.specs.declared.post.Out.{Out}
use Rattle.cw_sched.specs.declared.post.Out.TheVariants as out
use Rattle.cw_sched.specs.Boards.{Each, Boarded}
use Rattle.cw_sched.specs.Scenes.{FrameView, Stage, Goes, Made, Answered, Scene, top}
use Rattle.cw_sched.specs.WorkerFrames.{Stays, Comes, HandsOut, Steps, HasDone, HasDoneWith, DoesOneMore}
use Rattle.cw_sched.specs.Sound.{IsJobOf, IsOwn, out_number, Works, HasRoot, Sound}
use Rattle.cw_sched.specs.Events.{with_top, but_top, GoesOn, ComesTo, Counts, IsBegun, IsBelowLimit, Runs, Spawns}
use Rattle.cw_sched.specs.Exceeding.{Exceeds, ExceedsAfter}
use Rattle.cw_sched.proofs.Lists.{named, each_weaken, same_names}
use Rattle.cw_sched.proofs.Strands.{jobs_at, newest_out_of, comes_stays, comes_to, ended_stage, comes_whole}
use Rattle.cw_sched.specs.Lacking.{lacks_memory, LacksAfter}
use Rattle.cw_sched.proofs.Exceeding.{stage_exceeds}
use Rattle.cw_sched.proofs.Lacking.{stage_lacks}
use Rattle.cw_sched.proofs.Sounds.{top_stage, kept_job, kept_own}

-- the parts of a scene
pub same_scene : (jobs jobs' : List Job) (begun begun' : List (List Stage)) (board : Boarded) → jobs ≡ jobs' → begun ≡ begun'
    → ◌≡◌ {A = Scene} (record { jobs = jobs; begun = begun; board = board }) (record { jobs = jobs'; begun = begun'; board = board })
same_scene jobs jobs' begun begun' board j b =
    ap (λ (k : List Job). record { jobs = k; begun = begun; board = board }) j ∙ ap (λ (l : List (List Stage)). record { jobs = jobs'; begun = l; board = board }) b

abbrev pub scene_of : (jobs : List Job) (begun : List (List Stage)) (board : Boarded) → Scene
scene_of jobs begun board = record { jobs = jobs; begun = begun; board = board }

-- an effect that a post ended with means its job
pub meant : (ended : Option Effect) (p q : FrameView) (left : List Job) → Comes ended p q left → IfSome ended (IsMeaningOf (its_job p.strand))
meant None p q left c = tt
meant (Some e) p q left c = c.1

-- as many instructions as a post has executed, or what it has ended with
pub counted : (v : Verified) (job : Job) (q : FrameView) (ended : Option Effect) (x : Stage) (n : ℕ) → IfSome ended (IsMeaningOf job) → IsBegun v q ended x → HasDone ended q.strand n → Counts job x n
counted v job q None x n m b h = subst (λ y. Counts job y n) (sym b) h
counted v job q (Some e) (Goes k) n m b h = absurd b
counted v job q (Some e) (Made k d) n m b h = subst (λ z. CountsIn z n) (sym b.2) h
counted v job q (Some e) (Answered r) n m b h = (e, m, b.1, h)

one_more : (v : Verified) (p q : FrameView) (ended : Option Effect) (x : Stage) → IfSome ended (IsMeaningOf (its_job p.strand)) → IsBegun v q ended x → DoesOneMore ended p.strand q.strand
    → Counts (its_job p.strand) x (p.strand.count + 1) ⊎ ((p.strand.count ≡ its_end p.strand) × Counts (its_job p.strand) x p.strand.count)
one_more v p q ended x m b (inl one) = inl (counted v (its_job p.strand) q ended x (p.strand.count + 1) m b one)
one_more v p q ended x m b (inr none) = inr (none.0, counted v (its_job p.strand) q ended x p.strand.count m b none.1)

-- given an effect
pub counted_with : (v : Verified) (job : Job) (q : FrameView) (ended : Option Effect) (x : Stage) (e : Effect) (old : Strand) → IfSome ended (IsMeaningOf job) → IsBegun v q ended x
    → HasDoneWith ended e old q.strand → Counts job x old.count ⊎ (TakesIn old e × Counts job x (old.count + cost_in e))
counted_with v job q ended x e old m b (inl same) = inl (counted v job q ended x old.count m b same)
counted_with v job q ended x e old m b (inr t) = inr (t.0, counted v job q ended x (old.count + cost_in e) m b t.1)

ran_on : (v : Verified) (s : Scene) (w : ℕ) (p q : FrameView) (jobs' : List Job) (begun' : List (List Stage)) (x : Stage) → top s w ≡ Some (Goes p) → Works s.jobs p
    → Stays p q p.outs (outs p.strand) → jobs' ≡ s.jobs → DoesOneMore None p.strand q.strand → (Exceeds x → p.strand.count ≡ its_end p.strand) → (lacks_memory x ≡ true → IsBelowLimit p)
    → x ≡ Goes q → begun' ≡ with_top (but_top s.begun w) w x → Runs v s (scene_of jobs' begun' s.board) w
ran_on v s w p q jobs' begun' x at works stays same one over lacks b is =
    record {
      at = record { post = p; is = at };
      stage = x;
      comes = subst (λ y. ComesTo v s.jobs p p.outs y) (sym b) (comes_stays v s.jobs p q p.outs (outs p.strand) stays works.named works.lent works.own);
      one = one_more v p q None x tt b one;
      over = over;
      lacks = lacks;
      is = same_scene jobs' s.jobs begun' (with_top (but_top s.begun w) w x) s.board same is;
    }

ran_out : (v : Verified) (s : Scene) (w : ℕ) (p q : FrameView) (e : Effect) (jobs' : List Job) (begun' : List (List Stage)) (x : Stage) → top s w ≡ Some (Goes p) → Works s.jobs p
    → Comes (Some e) p q [] → jobs' ≡ s.jobs → DoesOneMore (Some e) p.strand q.strand → (Exceeds x → p.strand.count ≡ its_end p.strand) → (lacks_memory x ≡ true → IsBelowLimit p)
    → IsBegun v q (Some e) x → begun' ≡ with_top (but_top s.begun w) w x → Runs v s (scene_of jobs' begun' s.board) w
ran_out v s w p q e jobs' begun' x at works c same one over lacks b is =
    record {
      at = record { post = p; is = at };
      stage = x;
      comes = ended_stage v s.jobs p q e x works.named c.0 c.1 c.2 b;
      one = one_more v p q (Some e) x c.1 b one;
      over = over;
      lacks = lacks;
      is = same_scene jobs' s.jobs begun' (with_top (but_top s.begun w) w x) s.board same is;
    }

spawned_names : (jobs : List Job) (p : FrameView) (job : Job) → Works jobs p
    → jobs_at (jobs ++ job ∷ []) (p.outs ++ out.Undecided (length jobs) job ∷ []) ≡ named (job ∷ outs p.strand)
spawned_names jobs p job works =
    let g : Out → Option Job = λ o. slice_get (jobs ++ job ∷ []) (out_number o) in
    ap (map g) (reverse_pushed p.outs (out.Undecided (length jobs) job))
    ∙ (ap (λ k. k ∷ map g (reverse p.outs)) (get_last jobs job)
    ∙ ap (λ l. Some job ∷ l) (same_names (λ o. slice_get jobs (out_number o)) g (reverse p.outs) (outs p.strand) (λ o j e. get_before jobs job (out_number o) j e) works.lent))

spawned : (v : Verified) (s : Scene) (w : ℕ) (p q : FrameView) (jobs' : List Job) (begun' : List (List Stage)) (x : Stage) → top s w ≡ Some (Goes p) → Works s.jobs p
    → HandsOut p q s.jobs jobs' → x ≡ Goes q → begun' ≡ with_top (but_top s.begun w) w x → Spawns v s (scene_of jobs' begun' s.board) w
spawned v s w p q jobs' begun' x at works h b is =
    let more : List Job = s.jobs ++ h.job ∷ [] in
    let o : Out = out.Undecided (length s.jobs) h.job in
    let own : Each (IsOwn more) (p.outs ++ o ∷ []) =
    each_pushed (IsOwn more) p.outs o (each_weaken (IsOwn s.jobs) (IsOwn more) p.outs (kept_own s.jobs h.job) works.own) (get_last s.jobs h.job) in
    record {
      at = record { post = p; is = at };
      job = h.job;
      post = q;
      goes = h.goes;
      one = h.one;
      comes = comes_stays v more p q (p.outs ++ o ∷ []) (h.job ∷ outs p.strand) h.stays (kept_job s.jobs h.job p.number (its_job p.strand) works.named) (spawned_names s.jobs p h.job works) own;
      is = same_scene jobs' more begun' (with_top (but_top s.begun w) w (Goes q)) s.board h.jobs_are (is ∙ ap (with_top (but_top s.begun w) w) b);
    }

-- one instruction
pub ran : (v : Verified) (s : Scene) (w : ℕ) (p q : FrameView) (ended : Option Effect) (jobs' : List Job) (begun' : List (List Stage)) (x : Stage) → Sound v s → top s w ≡ Some (Goes p)
    → Steps (Ok ended) p q s.jobs jobs' → IsGoing p.strand → (ExceedsAfter ended q.strand → p.strand.count ≡ its_end p.strand)
    → (LacksAfter ended q.strand → p.strand.count < its_end p.strand) → IsBegun v q ended x → begun' ≡ with_top (but_top s.begun w) w x
    → Runs v s (scene_of jobs' begun' s.board) w ⊎ Spawns v s (scene_of jobs' begun' s.board) w
ran v s w p q None jobs' begun' x h at (inl c) g o l b is =
    inl (ran_on v s w p q jobs' begun' x at (top_stage v s w (Goes p) h at) c.0 c.1 c.2 (λ m. o (stage_exceeds v q None x b m)) (λ m. (g, l (stage_lacks v q None x b m))) b is)
ran v s w p q None jobs' begun' x h at (inr c) g o l b is = inr (spawned v s w p q jobs' begun' x at (top_stage v s w (Goes p) h at) c b is)
ran v s w p q (Some e) jobs' begun' x h at c g o l b is =
    inl (ran_out v s w p q e jobs' begun' x at (top_stage v s w (Goes p) h at) c.0 c.1 c.2 (λ m. o (stage_exceeds v q (Some e) x b m)) (λ m. (g, l (stage_lacks v q (Some e) x b m))) b is)

-- the root's effect is that of a whole run, by one instruction
pub ran_whole : (v : Verified) (s : Scene) (w : ℕ) (p q : FrameView) (ended : Option Effect) (jobs' : List Job) → Sound v s → top s w ≡ Some (Goes p)
    → Steps (Ok ended) p q s.jobs jobs' → q.number ≡ 0 → IfSome ended (λ e. ∥ IsOfWhole v e ∥₁)
ran_whole v s w p q None jobs' h at c z = tt
ran_whole v s w p q (Some e) jobs' h at c z =
    let works : Works s.jobs p = top_stage v s w (Goes p) h at in
    comes_whole v s.jobs p q (Some e) [] h.root c.0 works.named z

goes_same : (p mid : FrameView) (os : List Out) (x : Stage) → mid.number ≡ p.number → its_job mid.strand ≡ its_job p.strand → GoesOn mid os x → GoesOn p os x
goes_same p mid os (Goes q) n of g = (g.0 ∙ n, g.1 ∙ of, g.2)
goes_same p mid os (Made k e) n of g = (g.0 ∙ n, (λ z. g.1 (n ∙ z)), g.2)
goes_same p mid os (Answered r) n of g = (sym n ∙ g.0, g.1)

-- its newest job out is back
pub came_back : (v : Verified) (jobs : List Job) (p q : FrameView) (older : List Out) (o : Out) (flag : Bool) (ended : Option Effect) (x : Stage) → Works jobs p → p.outs ≡ older ++ o ∷ []
    → ((job : Job) (others : List Job) → outs p.strand ≡ job ∷ others → IsJobOf jobs (out_number o) job
    → Comes ended (record { number = p.number; strand = p.strand; at_join = flag; outs = older }) q others)
    → IsBegun v q ended x → ComesTo v jobs p older x
came_back v jobs p q older o flag ended x works are comes b =
    let n = newest_out_of jobs p older o works are in
    let mid : FrameView = record { number = p.number; strand = p.strand; at_join = flag; outs = older } in
    let c = comes_to v jobs mid q ended n.others x (comes n.job n.others n.is n.named_is) works.named n.older_are n.own b in
    (goes_same p mid older x refl refl c.0, c.1)

pub back_whole : (v : Verified) (jobs : List Job) (p q : FrameView) (older : List Out) (o : Out) (flag : Bool) (ended : Option Effect) → HasRoot v jobs → Works jobs p → p.outs ≡ older ++ o ∷ []
    → ((job : Job) (others : List Job) → outs p.strand ≡ job ∷ others → IsJobOf jobs (out_number o) job
    → Comes ended (record { number = p.number; strand = p.strand; at_join = flag; outs = older }) q others)
    → q.number ≡ 0 → IfSome ended (λ e. ∥ IsOfWhole v e ∥₁)
back_whole v jobs p q older o flag ended r works are comes z =
    let n = newest_out_of jobs p older o works are in
    let mid : FrameView = record { number = p.number; strand = p.strand; at_join = flag; outs = older } in
    comes_whole v jobs mid q ended n.others r (comes n.job n.others n.is n.named_is) works.named z
