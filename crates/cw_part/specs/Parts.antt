-- The outcome of a part of a run, and parts that are joined in serial order.
use Rattle.std.specs.Prelude.{◌≡◌, ℕ, ◌≤◌, nat_lt, min, Bool, true, false}
use Rattle.cw_model.specs.declared.limits.TheConstants.{MOST_LIMIT}
use Rattle.cw_model.specs.declared.trap.Trap.{Trap}

-- the readings of a part: of nothing, of a part and the next one, and the work of a part
pub record Readings (M : Type 0) : Type 0 where
  pub none : M
  pub joined : M → M → M
  pub work : M → ℕ

-- readings form a monoid, and the work of a whole is at least that of each part
pub record IsLawful (M : Type 0) (R : Readings M) : Type 0 where
  pub none_first : (a : M) → R.joined R.none a ≡ a
  pub none_last : (a : M) → R.joined a R.none ≡ a
  pub regroup : (a b c : M) → R.joined (R.joined a b) c ≡ R.joined a (R.joined b c)
  pub no_work : R.work R.none ≡ 0
  pub above_first : (a b : M) → R.work a ≤ R.work (R.joined a b)
  pub above_second : (a b : M) → R.work b ≤ R.work (R.joined a b)

-- a part ran to its end; or it trapped, in a line, with readings that include the trapping instruction; or its work
-- exceeded the limit, or memory was refused, and nothing of it is left
pub data Came (M : Type 0) : Type 0 where
  Completed : M → Came M
  Trapped : (trap : Trap) (line : ℕ) → M → Came M
  Over : Came M
  Memory : Came M

-- a part and the next one: after a trap or an end at the limit nothing counts; memory that was refused to one is
-- refused to both together
abbrev pub followed : {M : Type 0} → Readings M → Came M → Came M → Came M
followed R (Completed a) (Completed b) = Completed (R.joined a b)
followed R (Completed a) (Trapped trap line b) = Trapped trap line (R.joined a b)
followed R (Completed a) Over = Over
followed R (Completed a) Memory = Memory
followed R (Trapped trap line a) (Completed b) = Trapped trap line a
followed R (Trapped trap line a) (Trapped trap' line' b) = Trapped trap line a
followed R (Trapped trap line a) Over = Trapped trap line a
followed R (Trapped trap line a) Memory = Memory
followed R Over (Completed b) = Over
followed R Over (Trapped trap line b) = Over
followed R Over Over = Over
followed R Over Memory = Memory
followed R Memory y = Memory

-- the outcome with other readings
abbrev pub seen : {M N : Type 0} → (M → N) → Came M → Came N
seen f (Completed a) = Completed (f a)
seen f (Trapped trap line a) = Trapped trap line (f a)
seen f Over = Over
seen f Memory = Memory

-- whether it ran to its end, so that the next part counts
abbrev pub has_run : {M : Type 0} → Came M → Bool
has_run (Completed a) = true
has_run (Trapped trap line a) = false
has_run Over = false
has_run Memory = false

-- whether memory was refused
abbrev pub is_memory : {M : Type 0} → Came M → Bool
is_memory (Completed a) = false
is_memory (Trapped trap line a) = false
is_memory Over = false
is_memory Memory = true

-- whether the work of a part is above the limit
abbrev pub is_above : {M : Type 0} → Readings M → (limit : ℕ) → Came M → Bool
is_above R n (Completed a) = nat_lt n (R.work a)
is_above R n (Trapped trap line a) = nat_lt n (R.work a)
is_above R n Over = false
is_above R n Memory = false

-- work above the limit is over
abbrev pub over_if : {M : Type 0} → Bool → Came M → Came M
over_if true x = Over
over_if false x = x

abbrev pub within : {M : Type 0} → Readings M → (limit : ℕ) → Came M → Came M
within R n x = over_if (is_above R n x) x

-- a part of a run, and the limit of its work
pub record Part (M : Type 0) : Type 0 where
  pub limit : ℕ
  pub came : Came M

-- the smaller limit is the limit of both, also if one of them is dropped
abbrev pub part_joined : {M : Type 0} → Readings M → Part M → Part M → Part M
part_joined R p q =
    record { limit = min p.limit q.limit; came = within R (min p.limit q.limit) (followed R p.came q.came) }

abbrev pub nothing_ran : {M : Type 0} → Readings M → Part M
nothing_ran R = record { limit = MOST_LIMIT; came = Completed R.none }

-- a part is within its own limit
pub record IsPart (M : Type 0) (R : Readings M) (p : Part M) : Type 0 where
  pub limited : p.limit ≤ MOST_LIMIT
  pub tested : within R p.limit p.came ≡ p.came

-- parts form a monoid, for any readings and in any grouping
pub record PartsJoin (M : Type 0) (R : Readings M) : Type 0 where
  pub first : (p : Part M) → IsPart M R p → part_joined R (nothing_ran R) p ≡ p
  pub last : (p : Part M) → IsPart M R p → part_joined R p (nothing_ran R) ≡ p
  pub regroup : (p q r : Part M) → part_joined R (part_joined R p q) r ≡ part_joined R p (part_joined R q r)
  pub nothing_is : IsPart M R (nothing_ran R)
  pub joined_is : (p q : Part M) → IsPart M R p → IsPart M R q → IsPart M R (part_joined R p q)
