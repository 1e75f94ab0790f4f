-- The cost of an effect is the work of its trace.
use Rattle.std.specs.Prelude.{◌≡◌}
use Rattle.cw_model.specs.Trees.{work, tree_of}
use Rattle.cw_code.specs.Code.{Code}
use Rattle.cw_code.specs.Jobs.{Job, Effect, Ended, Joined, TrapIn, OverLimit, Memory, JobMeaning}

-- the cost of an effect at the end of its job is the work of its tree
abbrev pub CostIsWork : Effect → Type 0
CostIsWork (Ended v arrays t cost) = work (tree_of t.events) ≡ cost
CostIsWork (Joined frame t cost) = work (tree_of t.events) ≡ cost
CostIsWork (TrapIn trap line lines cost) = Unit {0}
CostIsWork OverLimit = Unit {0}
CostIsWork Memory = Unit {0}

-- each effect that means a job satisfies `CostIsWork`
abbrev pub CostsAreWork : Type 0
CostsAreWork = (code : Code) (job : Job) (e : Effect) → JobMeaning code job e → CostIsWork e
