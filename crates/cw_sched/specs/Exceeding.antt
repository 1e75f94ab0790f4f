-- When a strand of a world exceeds its limit.
use Rattle.std.specs.Prelude.{◌≡◌, Option, Some, None, Err}
use Rattle.cw_text.specs.declared.fault.Fault.TheVariants as fault
use Rattle.cw_jobs.specs.declared.effect.Effect.{Effect}
use Rattle.cw_strand.specs.declared.strand.Mode.TheVariants as mode
use Rattle.cw_strand.specs.declared.strand.Strand.{Strand}
use Rattle.cw_strand.specs.Losing.{ReportsOverLimit}
use Rattle.cw_sched.specs.Scenes.{Stage, Goes, Made, Answered}

-- a strand that has exceeded its limit and still has jobs out; an effect over the limit; or the answer that the run is
-- over the limit
abbrev pub Exceeds : Stage → Type 0
Exceeds (Goes p) = p.strand.mode ≡ mode.Over
Exceeds (Made n e) = ReportsOverLimit e
Exceeds (Answered r) = r ≡ Err fault.OverLimit

-- a strand that goes on, or the effect by which it ended
abbrev pub ExceedsAfter : Option Effect → Strand → Type 0
ExceedsAfter None self = self.mode ≡ mode.Over
ExceedsAfter (Some e) self = ReportsOverLimit e
