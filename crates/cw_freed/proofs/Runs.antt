-- Both late paths represent the run after each event.
use Rattle.std.specs.Prelude.{ℕ, ◌≡◌, ◌+◌, ◌≤◌, ◌<◌, Bool, true, false, not, List, [], ◌∷◌, ◌++◌, Option, refl}
use Rattle.std.proofs.Common.{sym, ap, ◌∙◌, subst, arith}
use Rattle.std.proofs.lemmas.Nat.{mul-le}
use Rattle.cw_facts.specs.Integers.{one_more_time}
use Rattle.cw_model.specs.declared.burden.Burden.{Burden}
use Rattle.cw_model.specs.declared.limits.TheConstants.{MOST_LIMIT, MOST_BURDEN}
use Rattle.cw_model.specs.Burdens.{no_burden}
use Rattle.cw_model.specs.Trees.{Mark, Tree, Event, Work, Join, work, tree_of, burdened_span}
use Rattle.cw_measure.specs.OpenParts.{Open, in_series, in_fork, marked, part_of, event_of, closed, has_spawned, work_in}
use Rattle.cw_measure.specs.BlockWeights.{BlockWeight, Straight, gone_on, child_ended, top_of, after, block_weight}
use Rattle.cw_measure.specs.lemmas.BlockWeights.{top-after_all}
use Rattle.cw_measure.specs.StrandWeights.{strand_weight, noted_at, FitsRun, TracksWeight, TracksLate, LatePathsWait}
use Rattle.cw_measure.specs.lemmas.OpenParts.{work_adds, work_more, sum_begun, left_work}
use Rattle.cw_measure.specs.lemmas.StrandWeights.{after_all-append, block_more, span_marked, by_block, burdened_append, left_burdened_work, late_begun, late_ended}
use Rattle.cw_measure.specs.declared.burdened_path.BurdenedPath.{BurdenedPath}
use Rattle.cw_freed.specs.declared.paths.Paths.{Paths}
use Rattle.cw_freed.specs.Paths.{FitBoth, SpawnsBoth, EndsBoth, JoinsBoth, IsWithin, TracksRun}

-- the weights fit
fits : (burden : Burden) (count : ℕ) (os : List Open) (es : List Event) → count ≤ MOST_LIMIT → burden.charge ≤ MOST_BURDEN → IsWithin burden count os es → FitsRun burden os es
fits burden count os es small light w =
    let more : burden.charge + 1 ≤ MOST_BURDEN + 1 = omega arith in
    let b = mul-le count (burden.charge + 1) MOST_LIMIT (MOST_BURDEN + 1) small more in omega arith

pub both_fit : (burden : Burden) (count counted : ℕ) (os : List Open) (es : List Event) (p : Paths) → count ≤ MOST_LIMIT
    → burden.charge ≤ MOST_BURDEN → TracksRun burden count counted os es p → FitBoth burden os es
both_fit burden count counted os es p small light h = record {
  plain = fits no_burden count os es small (omega arith) h.plain_within;
  burdened = fits burden count os es small light h.burdened_within;
}

-- one instruction, which counts as at most 1
within_ticked : (burden : Burden) (count j : ℕ) (os : List Open) (es : List Event) → j ≤ 1 → IsWithin burden count os es → IsWithin burden (count + 1) os (es ++ Work j ∷ [])
within_ticked burden count j os es le w =
    let a = burdened_append burden os es (Work j ∷ []) in
    let c = one_more_time count (burden.charge + 1) in omega arith

late_ticked : (burden : Burden) (j : ℕ) (os : List Open) (es : List Event) (p : BurdenedPath) → LatePathsWait → FitsRun burden os (es ++ Work j ∷ [])
    → TracksLate burden os es p → TracksLate burden os (es ++ Work j ∷ []) p
late_ticked burden j os es p waits fit h =
    waits burden os es (Work j ∷ []) p (work_in os es + j) (record { goes_on = omega arith; instructions = (omega arith, omega arith) }) fit h

pub run_ticked : (burden : Burden) (count counted j : ℕ) (os : List Open) (es : List Event) (p : Paths) → j ≤ 1 → LatePathsWait → count < MOST_LIMIT
    → burden.charge ≤ MOST_BURDEN → TracksRun burden count counted os es p → TracksRun burden (count + 1) (counted + j) os (es ++ Work j ∷ []) p
run_ticked burden count counted j os es p le waits small light h =
    let plain = within_ticked no_burden count j os es le h.plain_within in
    let burdened = within_ticked burden count j os es le h.burdened_within in record {
      work = let a = h.work in let b = work_more os es (Work j) in omega arith;
      plain_within = plain;
      burdened_within = burdened;
      tells = record {
        burden_is = h.tells.burden_is;
        plain = late_ticked no_burden j os es p.plain waits (fits no_burden (count + 1) os (es ++ Work j ∷ []) (omega arith) (omega arith) plain) h.tells.plain;
        burdened = late_ticked burden j os es p.burdened waits (fits burden (count + 1) os (es ++ Work j ∷ []) (omega arith) light burdened) h.tells.burdened;
      };
    }

-- a part in series begins and ends
pub run_begun : (burden : Burden) (count counted : ℕ) (mark : Option Mark) (os : List Open) (es : List Event) (p : Paths)
    → TracksRun burden count counted os es p → TracksRun burden count counted (in_series mark es os) [] p
run_begun burden count counted mark os es p h = record {
  work = sum_begun work work_adds (record { spawned = false; mark = mark; outer = es }) os ∙ h.work;
  plain_within = let a = h.plain_within in omega arith;
  burdened_within = let a = h.burdened_within in omega arith;
  tells = record {
    burden_is = h.tells.burden_is;
    plain = late_begun no_burden mark os es p.plain h.tells.plain;
    burdened = late_begun burden mark os es p.burdened h.tells.burdened;
  };
}

-- the bound for a part that ends
within_left : (burden : Burden) (count : ℕ) (o : Open) (os : List Open) (es : List Event) → IsWithin burden count (o ∷ os) es → IsWithin burden count os (closed o es)
within_left burden count o os es w = let a = left_burdened_work burden o os es in omega arith

pub run_ended : (burden : Burden) (count counted : ℕ) (o : Open) (os : List Open) (es : List Event) (p : Paths) → o.spawned ≡ false
    → has_spawned es ≡ false → TracksRun burden count counted (o ∷ os) es p → TracksRun burden count counted os (closed o es) p
run_ended burden count counted o os es p spawned joined h = record {
  work = left_work o os es ∙ h.work;
  plain_within = within_left no_burden count o os es h.plain_within;
  burdened_within = within_left burden count o os es h.burdened_within;
  tells = record {
    burden_is = h.tells.burden_is;
    plain = late_ended no_burden o os es p.plain spawned joined h.tells.plain;
    burdened = late_ended burden o os es p.burdened spawned joined h.tells.burdened;
  };
}

-- a spawned part begins with an instruction, and ends
within_forked : (burden : Burden) (count j : ℕ) (mark : Option Mark) (os : List Open) (es : List Event) → j ≤ 1 → IsWithin burden count os es
    → IsWithin burden (count + 1) (in_fork mark (es ++ Work j ∷ []) os) []
within_forked burden count j mark os es le w =
    let a = burdened_append burden os es (Work j ∷ []) in
    let c = one_more_time count (burden.charge + 1) in omega arith

pub run_forked : (burden : Burden) (count counted j : ℕ) (first : Bool) (mark : Option Mark) (os : List Open) (es : List Event) (old new : Paths)
    → j ≤ 1 → LatePathsWait → count < MOST_LIMIT → burden.charge ≤ MOST_BURDEN → SpawnsBoth old new (counted + j) first
    → has_spawned (es ++ Work j ∷ []) ≡ not first → TracksRun burden count counted os es old
    → TracksRun burden (count + 1) (counted + j) (in_fork mark (es ++ Work j ∷ []) os) [] new
run_forked burden count counted j first mark os es old new le waits small light spawns split h =
    let fs = es ++ Work j ∷ [] in
    let t = run_ticked burden count counted j os es old le waits small light h in record {
      work = sum_begun work work_adds (record { spawned = true; mark = mark; outer = fs }) os ∙ t.work;
      plain_within = within_forked no_burden count j mark os es le h.plain_within;
      burdened_within = within_forked burden count j mark os es le h.burdened_within;
      tells = spawns burden mark os fs t.work (both_fit burden (count + 1) (counted + j) os fs old (omega arith) light t) split t.tells;
    }

pub run_child_ended : (burden : Burden) (count counted : ℕ) (o : Open) (os : List Open) (es : List Event) (old new : Paths) → count ≤ MOST_LIMIT
    → burden.charge ≤ MOST_BURDEN → EndsBoth old new counted → o.spawned ≡ true → has_spawned es ≡ false
    → TracksRun burden count counted (o ∷ os) es old → TracksRun burden count counted os (closed o es) new
run_child_ended burden count counted o os es old new small light ends spawned joined h = record {
  work = left_work o os es ∙ h.work;
  plain_within = within_left no_burden count o os es h.plain_within;
  burdened_within = within_left burden count o os es h.burdened_within;
  tells = ends burden o os es h.work (both_fit burden count counted (o ∷ os) es old small light h) spawned joined h.tells;
}

-- the current block joins
within_joined : (burden : Burden) (count : ℕ) (os : List Open) (es : List Event) → IsWithin burden count os es → IsWithin burden count os (es ++ Join ∷ [])
within_joined burden count os es w = let a = burdened_append burden os es (Join ∷ []) in omega arith

pub run_joined : (burden : Burden) (count counted : ℕ) (os : List Open) (es : List Event) (old new : Paths) → count ≤ MOST_LIMIT
    → burden.charge ≤ MOST_BURDEN → JoinsBoth old new counted → has_spawned es ≡ true → TracksRun burden count counted os es old
    → TracksRun burden count counted os (es ++ Join ∷ []) new
run_joined burden count counted os es old new small light joins spawned h = record {
  work = let a = h.work in let b = work_more os es Join in omega arith;
  plain_within = within_joined no_burden count os es h.plain_within;
  burdened_within = within_joined burden count os es h.burdened_within;
  tells = joins burden os es h.work (both_fit burden count counted os es old small light h) spawned h.tells;
}

late_joined : (burden : Burden) (os : List Open) (es : List Event) (p : BurdenedPath) → LatePathsWait → FitsRun burden os (es ++ Join ∷ [])
    → has_spawned es ≡ false → TracksLate burden os es p → TracksLate burden os (es ++ Join ∷ []) p
late_joined burden os es p waits fit none h =
    waits burden os es (Join ∷ []) p (work_in os es) (record { goes_on = omega arith; instructions = (none, omega arith) }) fit h

pub run_unjoined : (burden : Burden) (count counted : ℕ) (os : List Open) (es : List Event) (p : Paths) → count ≤ MOST_LIMIT
    → burden.charge ≤ MOST_BURDEN → LatePathsWait → has_spawned es ≡ false → TracksRun burden count counted os es p
    → TracksRun burden count counted os (es ++ Join ∷ []) p
run_unjoined burden count counted os es p small light waits none h =
    let plain = within_joined no_burden count os es h.plain_within in
    let burdened = within_joined burden count os es h.burdened_within in record {
      work = let a = h.work in let b = work_more os es Join in omega arith;
      plain_within = plain;
      burdened_within = burdened;
      tells = record {
        burden_is = h.tells.burden_is;
        plain = late_joined no_burden os es p.plain waits (fits no_burden count os (es ++ Join ∷ []) small (omega arith) plain) none h.tells.plain;
        burdened = late_joined burden os es p.burdened waits (fits burden count os (es ++ Join ∷ []) small light burdened) none h.tells.burdened;
      };
    }

-- a part has the same weight with and without a join at its end
joined_weight : (burden : Burden) (es : List Event) → burdened_span burden (tree_of (es ++ Join ∷ [])) ≡ burdened_span burden (tree_of es)
joined_weight burden es =
    let a = top-after_all burden 0 (es ++ Join ∷ []) in
    let b = top-after_all burden 0 es in
    let c = ap (λ (x : BlockWeight). top_of x) (after_all-append burden (Straight 0) es (Join ∷ [])) in omega (arith, a, b, c)

after_part : (burden : Burden) (L : BlockWeight) (spawned : Bool) (mark : Option Mark) (t u : Tree) → burdened_span burden t ≡ burdened_span burden u
    → after burden L (part_of spawned (marked mark t)) ≡ after burden L (part_of spawned (marked mark u))
after_part burden L true mark t u e = ap (λ (k : ℕ). child_ended burden k L) (span_marked burden mark t ∙ e ∙ sym (span_marked burden mark u))
after_part burden L false mark t u e = ap (λ (k : ℕ). gone_on k L) (span_marked burden mark t ∙ e ∙ sym (span_marked burden mark u))

ended_block : (burden : Burden) (o : Open) (os : List Open) (es : List Event) → block_weight burden os (closed o es) ≡ block_weight burden os (closed o (es ++ Join ∷ []))
ended_block burden o os es =
    block_more burden os o.outer (event_of o es)
    ∙ after_part burden (block_weight burden os o.outer) o.spawned o.mark (tree_of es) (tree_of (es ++ Join ∷ [])) (sym (joined_weight burden es))
    ∙ sym (block_more burden os o.outer (event_of o (es ++ Join ∷ [])))

ended_work : (o : Open) (os : List Open) (es : List Event) → work_in os (closed o (es ++ Join ∷ [])) ≡ work_in os (closed o es)
ended_work o os es = let a = left_work o os es in let b = left_work o os (es ++ Join ∷ []) in let c = work_more (o ∷ os) es Join in omega (arith, a, b, c)

late_at_end : (burden : Burden) (o : Open) (os : List Open) (es : List Event) (p : BurdenedPath) → TracksLate burden os (closed o (es ++ Join ∷ [])) p → TracksLate burden os (closed o es) p
late_at_end burden o os es p h =
    let w = ended_work o os es in
    let l = h.late in
    let t = subst (λ (n : ℕ). TracksWeight burden os (closed o (es ++ Join ∷ [])) (noted_at n p)) w h.tells in record {
      late = omega (arith, w, l);
      tells = record {
        shows = by_block burden os (closed o es) (block_weight burden os (closed o (es ++ Join ∷ [])))
            (strand_weight (noted_at (work_in os (closed o es)) p)) (ended_block burden o os es) (record { now_is = t.shows.now_is; blocks_are = t.shows.blocks_are });
        noted_is = refl;
      };
    }

within_at_end : (burden : Burden) (count : ℕ) (o : Open) (os : List Open) (es : List Event) → IsWithin burden count os (closed o (es ++ Join ∷ [])) → IsWithin burden count os (closed o es)
within_at_end burden count o os es w =
    let a = left_burdened_work burden o os es in
    let b = left_burdened_work burden o os (es ++ Join ∷ []) in
    let c = burdened_append burden (o ∷ os) es (Join ∷ []) in omega (arith, a, b, c, w)

pub run_joined_at_end : (burden : Burden) (count counted : ℕ) (o : Open) (os : List Open) (es : List Event) (p : Paths)
    → TracksRun burden count counted os (closed o (es ++ Join ∷ [])) p → TracksRun burden count counted os (closed o es) p
run_joined_at_end burden count counted o os es p h = record {
  work = sym (ended_work o os es) ∙ h.work;
  plain_within = within_at_end no_burden count o os es h.plain_within;
  burdened_within = within_at_end burden count o os es h.burdened_within;
  tells = record {
    burden_is = h.tells.burden_is;
    plain = late_at_end no_burden o os es p.plain h.tells.plain;
    burdened = late_at_end burden o os es p.burdened h.tells.burdened;
  };
}
