-- Parts of runs: the outcome of each, and the limit of its work.
use Rattle.cw_model.specs.declared.burden.Burden.{Burden}
use Rattle.cw_model.specs.declared.limits.TheConstants.{MOST_LIMIT}
use Rattle.std.specs.Prelude.{◌≡◌, ℕ, nat_lt, min, false, refl}
use Rattle.std.proofs.Common.{◌∙◌}
use Rattle.cw_part.specs.declared.read.Read.{Read}
use Rattle.cw_part.specs.Parts.{Came, Completed, followed, seen, is_above, within, Part}
use Rattle.cw_part.specs.PartFacts.{lesser_limited, is_tested}
use Rattle.cw_part.specs.ChildFacts.{child_above, call_above}
use Rattle.cw_part.specs.Read.{nothing_read, child_read, call_read, readings}

-- a part of a run: its limit is at most the largest one, and its work is not above its limit
pub record RunPart : Type 0 where
  pub limit : ℕ
  pub came : Came Read
  pub limited : nat_lt MOST_LIMIT limit ≡ false
  pub tested : is_above readings limit came ≡ false

-- the part with this limit and this outcome, as its type maintains it
abbrev pub run_part : (limit : ℕ) (came : Came Read) → nat_lt MOST_LIMIT limit ≡ false
    → is_above readings limit came ≡ false → RunPart
run_part limit came limited tested = record { limit = limit; came = came; limited = limited; tested = tested }

-- a part of nothing
abbrev pub nothing_part : RunPart
nothing_part = record { limit = MOST_LIMIT; came = Completed nothing_read; limited = refl; tested = refl }

-- a part and the next one: the smaller limit is the limit of both, also if one of them is dropped
abbrev pub run_joined : RunPart → RunPart → RunPart
run_joined p q = record {
  limit = min p.limit q.limit;
  came = within readings (min p.limit q.limit) (followed readings p.came q.came);
  limited = lesser_limited MOST_LIMIT p.limit q.limit p.limited;
  tested = is_tested readings (min p.limit q.limit) (followed readings p.came q.came);
}

-- a spawned child's part, as a piece of the block that spawned it
abbrev pub as_child : Burden → RunPart → RunPart
as_child burden p = record {
  limit = p.limit;
  came = seen (child_read burden) p.came;
  limited = p.limited;
  tested = child_above burden p.limit p.came ∙ p.tested;
}

-- a call's part, as a piece of the block that made it
abbrev pub as_call : RunPart → RunPart
as_call p = record {
  limit = p.limit;
  came = seen call_read p.came;
  limited = p.limited;
  tested = call_above p.limit p.came ∙ p.tested;
}

-- a part as the theory of parts has it
abbrev pub part_of : RunPart → Part Read
part_of p = record { limit = p.limit; came = p.came }

-- a part has this limit, and this outcome, tested against the limit
pub record IsMade (limit : ℕ) (came : Came Read) (p : RunPart) : Type 0 where
  pub limit_is : p.limit ≡ limit
  pub came_is : p.came ≡ within readings limit came
