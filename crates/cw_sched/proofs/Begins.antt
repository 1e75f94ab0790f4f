-- A world as it begins is sound.
use Rattle.std.proofs.Common.{◌≡◌, ◌∙◌, ℕ, zero, suc, ◌-◌, ◌<◌, ℤ, false, List, [], ◌∷◌, Some, refl, sym, ap, subst, length, reverse, inl, inr, arith}
use Rattle.std.proofs.lemmas.List.{length-replicate}
use Rattle.std.specs.Prelude.{map, slice_get, replicate}
use Rattle.cw_model.specs.declared.burden.Burden.{Burden}
use Rattle.cw_runnable.specs.declared.verified.Verified.{Verified}
use Rattle.cw_jobs.specs.declared.job.Job.{Job}
use Rattle.cw_jobs.specs.Jobs.{IsRoot}
use Rattle.cw_strand.specs.Holds.{its_job, outs, IsRunning, IsGoing}
use Rattle.cw_strand.specs.Moves.{IsBefore}
use Rattle.cw_sched.specs.Boards.{Each, opened}
use Rattle.cw_sched.specs.Scenes.{FrameView, Stage, Goes, Scene, scene}
use Rattle.cw_sched.specs.Sound.{IsOwn, out_number, Works, IsStage, IsOffer, Sound}
use Rattle.cw_sched.specs.Places.{once, sum_of, sum_over, OnePlace, RootIsFirst, held_by, run_by, out_of, offered_at}
use Rattle.std.specs.Arc.{arc_value}
use Rattle.cw_sched.specs.declared.world.World.{World}
use Rattle.cw_sched.specs.Worlds.{idle, IsStarted}
use Rattle.cw_sched.proofs.Lists.{named}
use Rattle.cw_sched.proofs.WorkerFrames.{stands_none}
use Rattle.cw_sched.proofs.Placed.{once_cases}

pub each_none : {A : Type 0} (P : A → Type 0) (n : ℕ) → Each (Each P) (replicate n [])
each_none P zero = tt
each_none P (suc n) = (tt, each_none P n)

sum_none : {A : Type 0} (f : A → ℕ) (n : ℕ) → sum_over f (replicate n []) ≡ 0
sum_none f zero = refl
sum_none f (suc n) = let r : sum_over f (replicate n []) ≡ 0 = sum_none f n in omega (arith, r)

abbrev pub first_scene : (root : Job) (post : FrameView) (workers : ℕ) → Scene
first_scene root post workers = record { jobs = root ∷ []; begun = (Goes post ∷ []) ∷ idle (workers - 1); board = opened workers }

first_works : (root : Job) (post : FrameView) → post.number ≡ 0 → its_job post.strand ≡ root → IsRunning post.strand → outs post.strand ≡ []
    → post.outs ≡ [] → post.at_join ≡ false → IsBefore post.strand → Works (root ∷ []) post
first_works root post n of running none none' flag before =
    record {
      running = running;
      named = ap (λ k. slice_get (root ∷ []) k) n ∙ ap (λ j. Some j) (sym of);
      lent = ap (λ os. map (λ o. slice_get (root ∷ []) (out_number o)) (reverse os)) none' ∙ sym (ap named none);
      own = subst (λ os. Each (IsOwn (root ∷ [])) os) (sym none') tt;
      stands = stands_none post flag before;
    }

pub first_sound : (v : Verified) (args : List ℤ) (n : ℕ) (burden : Burden) (root : Job) (post : FrameView) (workers : ℕ) → 0 < workers → IsRoot v args n burden root.parts.value
    → post.number ≡ 0 → its_job post.strand ≡ root → IsRunning post.strand → outs post.strand ≡ [] → post.outs ≡ [] → post.at_join ≡ false → IsBefore post.strand
    → Sound v (first_scene root post workers)
first_sound v args n burden root post workers some is number of running none none' flag before =
    let long : length (replicate {A = List Stage} (workers - 1) []) ≡ workers - 1 = length-replicate (workers - 1) [] in
    let long' : length (opened workers).offers ≡ workers = length-replicate workers [] in
    record {
      root = record { args = args; limit = n; burden = burden; root = root; named = refl; is = is };
      begun = ((first_works root post number of running none none' flag before, tt), each_none (IsStage v (root ∷ [])) (workers - 1));
      offers = each_none (IsOffer (root ∷ [])) workers;
      cells = tt;
      workers = omega (arith, long, long', some);
    }

pub first_places : (root : Job) (post : FrameView) (workers : ℕ) → post.number ≡ 0 → post.outs ≡ [] → OnePlace (first_scene root post workers)
first_places root post workers number none =
    let owners_are : (n : ℕ) → sum_over (out_of n) ((Goes post ∷ []) ∷ idle (workers - 1)) ≡ 0 = λ n.
    let a : sum_over (out_of n) (idle (workers - 1)) ≡ 0 = sum_none (out_of n) (workers - 1) in
    let b : out_of n (Goes post) ≡ 0 = ap (sum_of _) none in
    omega (arith, a, b) in
    record {
      placed = λ n.
          let a : sum_over (held_by n) (idle (workers - 1)) ≡ 0 = sum_none (held_by n) (workers - 1) in
          let b : held_by n (Goes post) ≡ 0 = ap (sum_of _) none in
          let d : sum_over (run_by n) (idle (workers - 1)) ≡ 0 = sum_none (run_by n) (workers - 1) in
          let e : run_by n (Goes post) ≡ once n 0 = ap (once n) number in
          let f : sum_over (offered_at n) (opened workers).offers ≡ 0 = sum_none (offered_at n) workers in
          omega (arith, a, b, d, e, f, owners_are n);
      single = λ n. elim (once_cases n 0) [
        | inl z ↦ omega (arith, z, owners_are n)
        | inr z ↦ omega (arith, z.1, owners_are n)
      ];
      later = λ n lt. elim (once_cases n 0) [
        | inl z ↦ omega (arith, z, owners_are n)
        | inr z ↦ let z0 = z.0 in absurd (omega (arith, lt, z0))
      ];
    }

pub first_root : (root : Job) (post : FrameView) (workers : ℕ) → post.number ≡ 0 → RootIsFirst (first_scene root post workers)
first_root root post workers number = number

-- it begins so, whatever scene shows it
pub begins : (v : Verified) (args : List ℤ) (n : ℕ) (burden : Burden) (workers : ℕ) (w : World) (root : Job) (post : FrameView) → 0 < workers
    → IsRoot v args n burden root.parts.value → arc_value w.code ≡ v
    → scene w ≡ first_scene root post workers → post.number ≡ 0 → its_job post.strand ≡ root → IsRunning post.strand → outs post.strand ≡ []
    → post.outs ≡ [] → post.at_join ≡ false → IsGoing post.strand → post.strand.count ≡ 0 → IsBefore post.strand
    → IsStarted v args n burden workers w
begins v args n burden workers w root post some is code scene_is number of running none none' flag goes undone before =
    record {
      is = record {
        sound = record {
          right = subst (λ (t : Scene). Sound (arc_value w.code) t) (sym scene_is)
              (subst (λ (x : Verified). Sound x (first_scene root post workers)) (sym code) (first_sound v args n burden root post workers some is number of running none none' flag before));
          places = subst (λ (t : Scene). OnePlace t) (sym scene_is) (first_places root post workers number none');
          first = subst (λ (t : Scene). RootIsFirst t) (sym scene_is) (first_root root post workers number);
        };
        code_is = code;
        run = (root, ap (λ (t : Scene). slice_get t.jobs 0) scene_is, is);
      };
      post = post;
      root = (number, none');
      goes = goes;
      none = undone;
      begun = ap (λ (t : Scene). t.begun) scene_is;
      board = ap (λ (t : Scene). t.board) scene_is;
    }
