use denote.RattleType.{RattleType}
use denote.Param.Send.{IsSend, Frees}
use Rattle.std.specs.declared.alloc.Allocator.{Ghosts}
use Rattle.cw_slices.specs.contracts.memory.Title.{the_row}
use Rattle.cw_slices.specs.lemmas.Sent.{title_send}

pub send : (A : RattleType) (g : Ghosts A.Denot) → IsSend A → Frees g g.dealloc_token → IsSend (the_row A g)
send A g s f = title_send A g s f
