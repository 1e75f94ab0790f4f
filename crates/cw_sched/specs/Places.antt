-- The place of each job.
use Rattle.std.specs.Prelude.{◌≡◌, ℕ, ◌+◌, ◌≤◌, nat_eq, List, [], ◌∷◌, length, Option, Some, None}
use Rattle.cw_sched.specs.core.Board.{of_worker, oldest}
use Rattle.cw_sched.specs.core.Laws.{one_if}
use Rattle.cw_sched.specs.declared.board.Offer.{Offer}
use Rattle.cw_sched.specs.declared.board.Cell.{Cell}
use Rattle.cw_sched.specs.declared.post.Out.{Out}
use Rattle.cw_sched.specs.declared.post.Out.TheVariants as out
use Rattle.cw_sched.specs.Scenes.{Stage, Goes, Made, Answered, Scene}
use Rattle.cw_sched.specs.Sound.{out_number}

-- 1 if the numbers are equal, otherwise 0
abbrev pub once : (n m : ℕ) → ℕ
once n m = one_if (nat_eq n m)

abbrev pub sum_of : {A : Type 0} → (A → ℕ) → List A → ℕ
sum_of f [] = 0
sum_of f (x ∷ xs) = f x + sum_of f xs

-- over all workers
abbrev pub sum_over : {A : Type 0} → (A → ℕ) → List (List A) → ℕ
sum_over f ls = sum_of (λ l. sum_of f l) ls

-- how often a number is out at a strand
abbrev pub out_at : ℕ → Out → ℕ
out_at n o = once n (out_number o)

abbrev pub out_of : ℕ → Stage → ℕ
out_of n (Goes p) = sum_of (out_at n) p.outs
out_of n (Made m e) = 0
out_of n (Answered r) = 0

-- undecided or kept
abbrev pub held_at : ℕ → Out → ℕ
held_at n (out.Undecided m job) = once n m
held_at n (out.Kept m job) = once n m
held_at n (out.Offered m) = 0

abbrev pub held_by : ℕ → Stage → ℕ
held_by n (Goes p) = sum_of (held_at n) p.outs
held_by n (Made m e) = 0
held_by n (Answered r) = 0

-- executed by a strand, or executed to its end and not settled; the root has number 0
abbrev pub run_by : ℕ → Stage → ℕ
run_by n (Goes p) = once n p.number
run_by n (Made m e) = once n m
run_by n (Answered r) = once n 0

abbrev pub offered_at : ℕ → Offer → ℕ
offered_at n o = once n o.number

abbrev pub settled_at : ℕ → Cell → ℕ
settled_at n c = once n c.number

-- in how many places a number is: undecided or kept, in a deque, executed or ended at a worker, in a cell
abbrev pub places : Scene → (n : ℕ) → ℕ
places s n =
    sum_over (held_by n) s.begun + sum_over (offered_at n) s.board.offers
    + (sum_over (run_by n) s.begun + sum_of (settled_at n) s.board.cells)

-- how often it is out; the root always is, once
abbrev pub owners : Scene → (n : ℕ) → ℕ
owners s n = once n 0 + sum_over (out_of n) s.begun

-- EACH JOB IS IN ONE PLACE while it is out, at one strand, and in none before and after
pub record OnePlace (s : Scene) : Type 0 where
  pub placed : (n : ℕ) → places s n ≡ owners s n
  pub single : (n : ℕ) → owners s n ≤ 1
  pub later : (n : ℕ) → length s.jobs ≤ n → owners s n ≡ 0

-- the oldest entry of a worker is the root
abbrev pub IsRootStage : Option Stage → Type 0
IsRootStage None = ⊥
IsRootStage (Some (Goes p)) = p.number ≡ 0
IsRootStage (Some (Made n e)) = ⊥
IsRootStage (Some (Answered r)) = Unit {0}

-- THE ROOT IS THE OLDEST ENTRY OF WORKER 0: its strand, or its answer
abbrev pub RootIsFirst : Scene → Type 0
RootIsFirst s = IsRootStage (oldest (of_worker s.begun 0))
