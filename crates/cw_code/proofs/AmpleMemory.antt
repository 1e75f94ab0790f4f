-- If memory never runs out, no place has an effect that is out of memory.
use Rattle.std.proofs.Common.{◌≢◌, zero, suc, [], ◌∷◌, Some, refl, sym, subst, inl, inr, length}
use Rattle.cw_facts.specs.Lists.{added_gives}
use Rattle.cw_code.specs.Code.{Code}
use Rattle.cw_code.specs.Jobs.{Job, Effect, Memory}
use Rattle.cw_code.specs.Strands.{Strand, Going, Waits, Halted}
use Rattle.cw_code.specs.Steps.{started, give, skip, take_back}
use Rattle.cw_code.specs.Worlds.{Undecided, Kept, Offered, Runs, Made, Settled, Spent, World, placed, joined_by, WorldStep, Run, Spawn, Offer}
use Rattle.cw_code.specs.Worlds.{Inline, Begin, Skip, Resume, End, Settle, Give, Want, GiveUp, After, Now, Later, world_of}
use Rattle.cw_code.specs.AmpleMemory.{IsAmple, AreAmple, MemoryRanOutBefore}
use Rattle.cw_code.proofs.WorldLaws.{one_there}
use Rattle.cw_code.specs.lemmas.Ample.{Ample, AmpleStrand, AmplePlace, AmpleWorld, AmpleStep, advances, gives, set_ample, made_ample}

skips : (strand : Strand) → AmpleStrand strand → AmpleStrand (skip strand)
skips (Going s count outs) h = h
skips (Waits s count outs) h = h
skips (Halted e []) h = h
skips (Halted e (out ∷ outs)) h = h

takes_back : (strand : Strand) → AmpleStrand strand → AmpleStrand (take_back strand)
takes_back (Going s count outs) h = h
takes_back (Waits s count []) h = h
takes_back (Waits s count (out ∷ outs)) h = h
takes_back (Halted e outs) h = h

module _ (code : Code) where
  next_ample : (world next : World) (event : WorldStep code world next) → IsAmple event → AmpleWorld world → AmpleWorld next
  next_ample world next (Run _ i worker job strand new numbers has same) ample all =
      set_ample world i (Runs worker new numbers) all (subst AmpleStep same (advances code job strand (all i (Runs worker strand numbers) has.place_is)))
  next_ample world next (Spawn _ i worker job out strand new numbers has same) ample all =
      set_ample (joined_by world out (Undecided worker)) i (Runs worker new (length world.jobs ∷ numbers)) grown
      (subst AmpleStep same (advances code job strand (all i (Runs worker strand numbers) has.place_is)))
    where
      grown : AmpleWorld (joined_by world out (Undecided worker))
      grown n place at = elim (added_gives world.places n (Undecided worker) place at) [
        | inl p ↦ subst AmplePlace (sym p.1) tt
        | inr p ↦ all n place p
      ]
  next_ample world next (Offer _ i worker job has) ample all = set_ample world i (Offered worker) all tt
  next_ample world next (Inline _ i worker job has) ample all = set_ample world i (Kept worker) all tt
  next_ample world next (Begin _ i worker job place has unrun) ample all = set_ample world i (Runs worker (started job) []) all tt
  next_ample world next (Skip _ i n worker job out strand numbers place has stopped has' unrun) ample all =
      set_ample (placed world n Spent) i (Runs worker (skip strand) numbers) (set_ample world n Spent all tt) (skips strand (all i (Runs worker strand (n ∷ numbers)) has.place_is))
  next_ample world next (Resume _ i n worker job out strand numbers place has ended has' unrun) ample all =
      set_ample (placed world n Spent) i (Runs worker (take_back strand) numbers) (set_ample world n Spent all tt) (takes_back strand (all i (Runs worker strand (n ∷ numbers)) has.place_is))
  next_ample world next (End _ i worker job strand numbers e has same) ample all =
      set_ample world i (Made worker e) all (subst AmpleStep same (advances code job strand (all i (Runs worker strand numbers) has.place_is)))
  next_ample world next (Settle _ i worker job e has) ample all = set_ample world i (Settled e) all (all i (Made worker e) has.place_is)
  next_ample world next (Give _ i n worker job out strand numbers place e has waits has' is) ample all =
      set_ample (placed world n Spent) i (Runs worker (give job strand e) numbers) (set_ample world n Spent all tt)
      (gives job strand e (all i (Runs worker strand (n ∷ numbers)) has.place_is) (made_ample place e (all n place has'.place_is) is))
  next_ample world next (Want _ i worker job strand numbers has) ample all = absurd ample
  next_ample world next (GiveUp _ i worker job place has unrun) ample all = absurd ample

  first_ample : (root : Job) → AmpleWorld (world_of root)
  first_ample root zero place is = subst AmplePlace (one_there (Some (Runs 0 (started root) [])) (Runs 0 (started root) []) place refl is) tt
  first_ample root (suc n) place is = cc

  ample_after : (root : Job) (world : World) (after : After code (world_of root) world) → AreAmple after → AmpleWorld world
  ample_after root world Now ample = first_ample root
  ample_after root world (Later before next after event) ample = next_ample before next event ample.1 (ample_after root before after ample.0)

not_memory : (e : Effect) → Ample e → e ≢ Memory
not_memory e h same = subst Ample same h

pub memory_was_wanting : MemoryRanOutBefore
memory_was_wanting code root world i job place e after ample has is = not_memory e (made_ample place e (ample_after code root world after ample i place has.place_is) is)
