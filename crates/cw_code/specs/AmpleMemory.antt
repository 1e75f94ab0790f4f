-- If memory never runs out, no effect is out of memory.
use Rattle.std.specs.Prelude.{◌≡◌, ◌≢◌, ℕ, Some}
use Rattle.cw_code.specs.Code.{Code}
use Rattle.cw_code.specs.Jobs.{Job, Effect, Memory}
use Rattle.cw_code.specs.Worlds.{Place, World, effect_in, Has, WorldStep, Want, GiveUp, After, Now, Later, world_of}

-- memory does not run out at this event
abbrev pub IsAmple : {code : Code} {world next : World} → WorldStep code world next → Type 0
IsAmple (Want world i worker job strand outs has) = ⊥
IsAmple (GiveUp world i worker job place has unrun) = ⊥
IsAmple _ = Unit {0}

-- memory ran out at no event
abbrev pub AreAmple : {code : Code} {first world : World} → After code first world → Type 0
AreAmple Now = Unit {0}
AreAmple (Later world next after event) = AreAmple after × IsAmple event

-- for all events, an effect is out of memory only if memory ran out before; the root is no exception
abbrev pub MemoryRanOutBefore : Type 0
MemoryRanOutBefore = (code : Code) (root : Job) (world : World) (i : ℕ) (job : Job) (place : Place) (e : Effect)
    → (after : After code (world_of root) world) → AreAmple after → Has world i job place → effect_in place ≡ Some e
    → e ≢ Memory
