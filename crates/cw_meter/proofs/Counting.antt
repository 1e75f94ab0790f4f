-- The numbers of a run, and that they fit their types.
use Rattle.std.specs.Prelude.{◌≡◌, ℕ, ◌+◌, ◌≤◌, Bool, true, false, List, [], ◌∷◌, ◌++◌, length, Option}
use Rattle.std.proofs.Common.{arith}
use Rattle.std.proofs.lemmas.Nat.{mul-le}
use Rattle.std.proofs.Math.Nat.{add-mul}
use Rattle.cw_facts.specs.Integers.{one_more_time}
use Rattle.cw_model.specs.declared.burden.Burden.{Burden}
use Rattle.cw_model.specs.declared.limits.TheConstants.{MOST_LIMIT, MOST_BURDEN}
use Rattle.cw_model.specs.Trees.{Mark, Event, Work, Series, Fork, Join, tree_of}
use Rattle.cw_model.specs.Rows.{is_site, is_tag}
use Rattle.cw_measure.specs.OpenParts.{Open, closed}
use Rattle.cw_measure.specs.Outermost.{is_counted, one_if, active_in}
use Rattle.cw_measure.specs.BlockWeights.{burdened_work, charge_if, burdened_work_in}
use Rattle.cw_measure.specs.StrandWeights.{FitsRun}
use Rattle.cw_measure.specs.lemmas.OpenParts.{work_append, work_more, left_work}
use Rattle.cw_measure.specs.lemmas.StrandWeights.{burdened_append, left_burdened_work}
use Rattle.cw_sites.specs.Tables.{Small}
use Rattle.cw_sites.specs.lemmas.SiteRows.{calls_append, calls_more, left_calls}
use Rattle.cw_regions.specs.Regions.{Tags, SmallRegions}
use Rattle.cw_meter.specs.Origins.{Origin, Main, Rest, given_open}
use Rattle.cw_meter.specs.Meters.{IsCounted, nothing_open, ticked}
use Rattle.cw_meter.specs.Tables.{opened}

-- the burdened work of a block, with one more event
burdened_ticked : (burden : Burden) (es : List Event) (k : ℕ) → burdened_work burden (tree_of (es ++ Work k ∷ [])) ≡ burdened_work burden (tree_of es) + k
burdened_ticked burden [] k = omega arith
burdened_ticked burden (Work j ∷ es) k = let i = burdened_ticked burden es k in omega arith
burdened_ticked burden (Series t ∷ es) k = let i = burdened_ticked burden es k in omega arith
burdened_ticked burden (Fork t ∷ es) k = let i = burdened_ticked burden es k in omega arith
burdened_ticked burden (Join ∷ es) k = let i = burdened_ticked burden es k in omega arith

burdened_joined : (burden : Burden) (es : List Event) → burdened_work burden (tree_of (es ++ Join ∷ [])) ≡ burdened_work burden (tree_of es)
burdened_joined burden [] = omega arith
burdened_joined burden (Work j ∷ es) = let i = burdened_joined burden es in omega arith
burdened_joined burden (Series t ∷ es) = let i = burdened_joined burden es in omega arith
burdened_joined burden (Fork t ∷ es) = let i = burdened_joined burden es in omega arith
burdened_joined burden (Join ∷ es) = let i = burdened_joined burden es in omega arith

burdened_ticked_in : (burden : Burden) (os : List Open) (es : List Event) (k : ℕ) → burdened_work_in burden os (es ++ Work k ∷ []) ≡ burdened_work_in burden os es + k
burdened_ticked_in burden [] es k = burdened_ticked burden es k
burdened_ticked_in burden (o ∷ os) es k = let i = burdened_ticked burden es k in omega arith

burdened_joined_in : (burden : Burden) (os : List Open) (es : List Event) → burdened_work_in burden os (es ++ Join ∷ []) ≡ burdened_work_in burden os es
burdened_joined_in burden [] es = burdened_joined burden es
burdened_joined_in burden (o ∷ os) es = let i = burdened_joined burden es in omega arith

burden_at_most : (spawned : Bool) (burden : Burden) → charge_if spawned burden ≤ burden.charge
burden_at_most true burden = omega arith
burden_at_most false burden = omega arith

pub one_at_most : (b : Bool) → one_if b ≤ 1
one_at_most true = omega arith
one_at_most false = omega arith

-- numbers that count a run so far count it after one more instruction
pub counted_ticked : (burden : Burden) (from : Origin) (count : ℕ) (os : List Open) (es : List Event) → IsCounted burden from count os es → IsCounted burden from (count + 1) os (ticked es)
counted_ticked burden from count os es k = record {
  work = let a = k.work in let b = work_more os es (Work 1) in omega arith;
  calls = λ site. let a = k.calls site in let b = calls_more site os es (Work 1) in omega arith;
  opened = let a = k.opened in omega arith;
  burdened = let a = k.burdened in let b = burdened_ticked_in burden os es 1 in let c = one_more_time count (burden.charge + 1) in omega arith;
}

pub counted_joined : (burden : Burden) (from : Origin) (count : ℕ) (os : List Open) (es : List Event) → IsCounted burden from count os es → IsCounted burden from count os (es ++ Join ∷ [])
counted_joined burden from count os es k = record {
  work = let a = k.work in let b = work_more os es Join in omega arith;
  calls = λ site. let a = k.calls site in let b = calls_more site os es Join in omega arith;
  opened = k.opened;
  burdened = let a = k.burdened in let b = burdened_joined_in burden os es in omega arith;
}

pub counted_opened : (burden : Burden) (from : Origin) (count : ℕ) (spawned : Bool) (mark : Option Mark) (os : List Open) (es : List Event)
    → IsCounted burden from count os es → IsCounted burden from (count + 1) (opened spawned mark (ticked es) os) []
counted_opened burden from count spawned mark os es k = record {
  work = let a = k.work in let b = work_more os es (Work 1) in omega arith;
  calls = λ site. let a = k.calls site in let b = calls_more site os es (Work 1) in let c = one_at_most (is_counted (is_site site) mark) in omega arith;
  opened = let a = k.opened in omega arith;
  burdened = let a = k.burdened in let b = burdened_ticked_in burden os es 1 in let c = one_more_time count (burden.charge + 1) in let d = burden_at_most spawned burden in omega arith;
}

pub counted_closed : (burden : Burden) (from : Origin) (count : ℕ) (o : Open) (os : List Open) (es : List Event)
    → IsCounted burden from count (o ∷ os) es → IsCounted burden from count os (closed o es)
counted_closed burden from count o os es k = record {
  work = let a = k.work in let b = left_work o os es in omega arith;
  calls = λ site. let a = k.calls site in let b = left_calls site o os es in omega arith;
  opened = let a = k.opened in omega arith;
  burdened = let a = k.burdened in let b = left_burdened_work burden o os es in omega arith;
}

-- the numbers fit their types
active_at_most : (picks : Mark → Bool) (os : List Open) → active_in picks 0 os ≤ length os
active_at_most picks [] = omega arith
active_at_most picks (o ∷ os) = let a = active_at_most picks os in let b = one_at_most (is_counted picks o.mark) in omega arith

pub few_given : (from : Origin) → given_open from ≤ 1
few_given Main = omega arith
few_given (Rest site) = omega arith

pub small_run : (burden : Burden) (from : Origin) (count : ℕ) (os : List Open) (es : List Event) → count ≤ MOST_LIMIT → IsCounted burden from count os es → Small nothing_open os es
small_run burden from count os es small k = record {
  work = let a = k.work in omega arith;
  calls = λ site. let a = k.calls site in let g = few_given from in omega arith;
  active = λ site. let a = k.opened in let g = few_given from in let b = active_at_most (is_site site) os in omega arith;
}

pub fits_run : (burden : Burden) (from : Origin) (count : ℕ) (os : List Open) (es : List Event) → count ≤ MOST_LIMIT → burden.charge ≤ MOST_BURDEN
    → IsCounted burden from count os es → FitsRun burden os es
fits_run burden from count os es small light k =
    let more : burden.charge + 1 ≤ MOST_BURDEN + 1 = omega arith in
    let a = k.burdened in let b = mul-le count (burden.charge + 1) MOST_LIMIT (MOST_BURDEN + 1) small more in omega arith

pub small_tags : (burden : Burden) (tags : Tags) (from : Origin) (count : ℕ) (os : List Open) (es : List Event) → count ≤ MOST_LIMIT
    → burden.charge ≤ MOST_BURDEN → IsCounted burden from count os es → SmallRegions burden tags nothing_open os es
small_tags burden tags from count os es small light k = record {
  work = let a = k.work in omega arith;
  burdened = fits_run burden from count os es small light k;
  active = λ number. let a = k.opened in let g = few_given from in let b = active_at_most (is_tag (tags.name number)) os in omega arith;
}

-- a continuation that was executed separately
pub counted_rest : (burden : Burden) (from : Origin) (count cost site : ℕ) (os : List Open) (es fs : List Event) → IsCounted burden from count os es
    → IsCounted burden (Rest site) cost [] fs → IsCounted burden from (count + cost) os (es ++ fs)
counted_rest burden from count cost site os es fs k r = record {
  work = let a = k.work in let b = r.work in let c = work_append os es fs in omega arith;
  calls = λ q. let a = k.calls q in let b = r.calls q in let c = calls_append q os es fs in omega arith;
  opened = let a = k.opened in omega arith;
  burdened = let a = k.burdened in let b = r.burdened in let c = burdened_append burden os es fs in let d = add-mul count cost (burden.charge + 1) in omega arith;
}
