-- Where an event may want memory, by what its parts tell.
use Rattle.std.proofs.Common.{◌⊎◌, ℕ, inl, inr}
use Rattle.std.specs.Prelude.{Result, Ok, Err, OnErr}
use Rattle.cw_sched.specs.declared.event.Event.TheVariants as event
use Rattle.cw_sched.specs.declared.event.Refused.{Refused}
use Rattle.cw_sched.specs.declared.post.WorkerFrame.{WorkerFrame}
use Rattle.cw_sched.specs.declared.world.World.{World}
use Rattle.cw_sched.specs.Boards.{IsFull}
use Rattle.cw_sched.specs.MemoryNeeds.{IsLastFrame, MayNeedMemory}
use Rattle.cw_sched.specs.Worlds.{IsForMemory}

pub on_err : {A E : Type 0} {P Q : Type 0} (r : Result A E) → (P → Q) → OnErr r P → OnErr r Q
on_err (Ok x) f h = h
on_err (Err e) f h = f h

pub run_wants : (w : World) (k : ℕ) (p : WorkerFrame) → IsLastFrame w.begun k p → IsFull w.jobs ⊎ IsFull p.outs → MayNeedMemory w (event.Run k)
run_wants w k p last (inl full) = inl full
run_wants w k p last (inr full) = inr (record { post = p; last = last; full = full })

-- what is told of a refusal is told of one for want of memory
pub for_memory : {P : Type 0} (r : Result (Unit {0}) Refused) → OnErr r P → IsForMemory r → P
for_memory (Ok x) h e = let never : ⊥ = cc in absurd never
for_memory (Err x) h e = h
