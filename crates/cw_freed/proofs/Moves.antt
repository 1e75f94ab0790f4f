-- The effect of each method of a freed meter.
use Rattle.std.specs.Prelude.{ℕ, ◌+◌, ◌-◌, ◌≡◌, ◌≤◌, ◌<◌, ◌^◌, min, Bool, true, false, not, Option, Some, List, [], ◌∷◌, ◌++◌, reverse, refl}
use Rattle.std.proofs.Common.{arith, ap, sym, ◌∙◌, subst}
use Rattle.std.proofs.Math.Bool.{not-not}
use Rattle.std.specs.Global.{Vec}
use Rattle.cw_facts.specs.Lists.{reverse_pushed}
use Rattle.cw_model.specs.declared.burden.Burden.{Burden}
use Rattle.cw_model.specs.declared.limits.TheConstants.{MOST_LIMIT}
use Rattle.cw_model.specs.Burdens.{no_burden}
use Rattle.cw_model.specs.Trees.{Tree, Marked, Mark, Invocation, Event, Work, Series, Join, normal, tree_of, burdened_span}
use Rattle.cw_model.specs.lemmas.Regrouping.{normal_is_regrouped, same_readings}
use Rattle.cw_model.specs.Freed.{freed}
use Rattle.cw_measure.specs.OpenParts.{Open, in_series, has_spawned, spawned_after, marked, part_of, event_of, closed}
use Rattle.cw_measure.specs.StrandWeights.{LatePathsWait}
use Rattle.cw_measure.specs.lemmas.OpenParts.{append_one, spawned_append, has_spawned-work, spawned_joined}
use Rattle.cw_measure.specs.lemmas.StrandWeights.{span_within}
use Rattle.cw_sites.specs.OpenPaths.{inside, here_in}
use Rattle.cw_meter.specs.Meters.{ticked, synced, begun}
use Rattle.cw_meter.specs.Origins.{main_open}
use Rattle.cw_freed.specs.declared.meter.Freed.{Freed}
use Rattle.cw_freed.specs.declared.meter.FreedMeter.{FreedMeter}
use Rattle.cw_freed.specs.declared.meter.Part.{Part}
use Rattle.cw_freed.specs.declared.paths.Paths.{Paths}
use Rattle.cw_freed.specs.FreedRuns.{unless, freed_events, freed_open}
use Rattle.cw_freed.specs.Paths.{SpawnsBoth, EndsBoth, JoinsBoth, ReadsBoth, TracksRun}
use Rattle.cw_freed.specs.Freeing.{spawned_after_part, IsKept, AreKept, counted_at, CountsIn, FreesIn, BeginsChild, BeginsHalf, BeginsCall, BeginsQuiet, Ends}
use Rattle.cw_freed.specs.Freeing.{Returns, Syncs, InstructionsNeedNoCall, Settles, Stacks, JoinsBlock, ClosesPart, Leaves, Reads}
use Rattle.cw_freed.proofs.FreedRuns.{unless-none, unless_within, unless-sum, freed-append, freed_spawned, freed_closed, freed_regrouped}
use Rattle.cw_freed.proofs.Runs.{both_fit, run_ticked, run_begun, run_ended, run_forked, run_child_ended, run_joined, run_unjoined, run_joined_at_end}

-- the number of instructions that are not free
counted_more : (count : ℕ) (m : FreedMeter) → m.noted ≤ count → counted_at (count + 1) m ≡ counted_at count m + unless m.free 1
counted_more count m le =
    let e : count + 1 - m.noted ≡ (count - m.noted) + 1 = omega (arith, le) in
    let f = ap (λ (k : ℕ). unless m.free k) e ∙ unless-sum m.free (count - m.noted) 1 in omega (arith, f)

counted_now : (count : ℕ) (m : FreedMeter) → m.noted ≡ count → counted_at count m ≡ m.counted
counted_now count m e =
    let f : count - m.noted ≡ 0 = omega (arith, e) in
    let g = ap (λ (k : ℕ). unless m.free k) f ∙ unless-none m.free in omega (arith, g)

-- the enclosing block after the end of a part
behind_is : (child out : Bool) (t : Tree) → spawned_after out (part_of child t) ≡ spawned_after_part child out
behind_is true out t = refl
behind_is false out t = refl

spawned_closed : (o : Open) (es : List Event) → has_spawned (closed o es) ≡ spawned_after_part o.spawned (has_spawned o.outer)
spawned_closed o es = spawned_append false o.outer (event_of o es ∷ []) ∙ behind_is o.spawned (has_spawned o.outer) (marked o.mark (tree_of es))

kept_pushed : (frees : ℕ → Bool) (o : Open) (os : List Open) (p : Part) (old new : List Part) → new ≡ old ++ p ∷ [] → IsKept frees o os p
    → AreKept frees os (reverse old) → AreKept frees (o ∷ os) (reverse new)
kept_pushed frees o os p old new e k h = subst (λ (x : List Part). AreKept frees (o ∷ os) x) (sym (ap (λ (x : List Part). reverse x) e ∙ reverse_pushed old p)) (k, h)

kept_popped : (frees : ℕ → Bool) (o : Open) (os : List Open) (p : Part) (old left : List Part) → old ≡ left ++ p ∷ []
    → AreKept frees (o ∷ os) (reverse old) → IsKept frees o os p × AreKept frees os (reverse left)
kept_popped frees o os p old left e h = subst (λ (x : List Part). AreKept frees (o ∷ os) x) (ap (λ (x : List Part). reverse x) e ∙ reverse_pushed left p) h

kept_as : (frees : ℕ → Bool) (os : List Open) (old new : List Part) → new ≡ old → AreKept frees os (reverse old) → AreKept frees os (reverse new)
kept_as frees os old new e h = subst (λ (x : List Part). AreKept frees os (reverse x)) (sym e) h

same_items : (old new : Vec Part) → new ≡ old → new.items ≡ old.items
same_items old new e = ap (λ (x : Vec Part). x.items) e

module _ (frees : ℕ → Bool) (burden : Burden) where
  -- the run with zero-cost sites
  abbrev events : (os : List Open) → List Event → List Event
  events os es = freed_events frees (here_in 0 os) es

  one : (os : List Open) (m : FreedMeter) → m.free ≡ frees (here_in 0 os) → unless m.free 1 ≡ unless (frees (here_in 0 os)) 1
  one os m e = ap (λ (b : Bool). unless b 1) e

  run_as : (count a b : ℕ) (os : List Open) (es fs : List Event) (p q : Paths) → b ≡ a → fs ≡ es → q ≡ p → TracksRun burden count a os es p → TracksRun burden count b os fs q
  run_as count a b os es fs p q e f g h =
      subst (λ (x : ℕ). TracksRun burden count x os fs q) (sym e) (subst (λ (x : List Event). TracksRun burden count a os x q) (sym f) (subst (λ (x : Paths). TracksRun burden count a os es x) (sym g) h))

  -- an instruction
  pub counts_ticked : LatePathsWait → (count : ℕ) (os : List Open) (es : List Event) (m : FreedMeter) → count < MOST_LIMIT
      → CountsIn frees burden count os es m → CountsIn frees burden (count + 1) os (ticked es) m
  counts_ticked waits count os es m small h =
      let j = unless (frees (here_in 0 os)) 1 in
      let c = counted_more count m h.noted in
      let d = one os m h.free in record {
        light = h.light;
        within = omega (arith, small);
        noted = let n = h.noted in omega arith;
        counted = h.counted;
        free = h.free;
        spawned = h.spawned ∙ sym (has_spawned-work es 1);
        run = run_as (count + 1) (counted_at count m + j) (counted_at (count + 1) m) (freed_open frees os) (events os es ++ Work j ∷ [])
            (events os (ticked es)) m.paths m.paths (omega (arith, c, d)) (freed-append frees (here_in 0 os) es (Work 1 ∷ [])) refl
            (run_ticked burden count (counted_at count m) j (freed_open frees os) (events os es) m.paths (unless_within (frees (here_in 0 os)) 1) waits small h.light h.run);
      }

  -- all instructions are noted
  pub counts_settled : (count : ℕ) (os : List Open) (es : List Event) (old new : FreedMeter) → Settles old new count → count ≤ MOST_LIMIT
      → CountsIn frees burden count os es old → CountsIn frees burden count os es new
  counts_settled count os es old new s small h =
      let e = s.counted h.counted h.noted small in
      let n = s.noted in
      let a = counted_now count new n in record {
        light = h.light;
        within = small;
        noted = omega (arith, n);
        counted = (let w = unless_within old.free (count - old.noted) in let b = h.counted in let c = h.noted in omega (arith, e, n, w));
        free = s.free ∙ h.free;
        spawned = s.spawned ∙ h.spawned;
        run = run_as count (counted_at count old) (counted_at count new) (freed_open frees os) (events os es) (events os es) old.paths new.paths (omega (arith, a, e)) refl s.paths h.run;
      }

  -- a part in series begins
  pub place_begun : (count : ℕ) (mark : Option Mark) (os : List Open) (es : List Event) (free : Bool) (old new : FreedMeter)
      → Stacks old new false old.spawned free → free ≡ frees (inside mark (here_in 0 os)) → counted_at count new ≡ counted_at count old
      → CountsIn frees burden count os es old → AreKept frees os (reverse old.parts.items) → FreesIn frees burden count (in_series mark es os) [] new
  place_begun count mark os es free old new s is same h kept = record {
    counts = record {
      light = h.light;
      within = h.within;
      noted = let n = h.noted in let m = s.noted in omega arith;
      counted = let n = h.counted in let m = s.noted in let c = s.counted in omega arith;
      free = s.free ∙ is;
      spawned = s.spawned;
      run = run_as count (counted_at count old) (counted_at count new) (freed_open frees (in_series mark es os)) [] [] old.paths new.paths same refl s.paths
          (run_begun burden count (counted_at count old) mark (freed_open frees os) (events os es) old.paths h.run);
    };
    parts = kept_pushed frees (record { spawned = false; mark = mark; outer = es }) os
        (record { child = false; spawned = old.spawned; free = old.free }) old.parts.items new.parts.items s.pushed
        (record { child = refl; spawned = h.spawned; free = h.free }) kept;
  }

  -- a spawned part begins
  pub child_begun : LatePathsWait → (count : ℕ) (mark : Option Mark) (os : List Open) (es : List Event) (free : Bool) (old mid : FreedMeter)
      (p : Paths) (new : FreedMeter) → count < MOST_LIMIT → Settles old mid (count + 1) → SpawnsBoth mid.paths p mid.counted (not mid.spawned)
      → Stacks (record { paths = p; counted = mid.counted; noted = mid.noted; free = mid.free; spawned = mid.spawned; parts = mid.parts }) new true
      true free → free ≡ frees (inside mark (here_in 0 os)) → FreesIn frees burden count os es old → FreesIn frees burden (count + 1) (begun true mark es os) [] new
  child_begun waits count mark os es free old mid p new small s spawns k is h =
      let site = here_in 0 os in
      let j = unless (frees site) 1 in
      let t = counts_ticked waits count os es old small h.counts in
      let m = counts_settled (count + 1) os (ticked es) old mid s (omega arith) t in
      let c = s.counted t.counted t.noted (omega arith) in
      let d = counted_more count old h.counts.noted in
      let e = one os old h.counts.free in
      let at : mid.counted ≡ counted_at count old + j = omega (arith, c, d, e) in
      let splits : has_spawned (events os es ++ Work j ∷ []) ≡ not (not mid.spawned) =
      has_spawned-work (events os es) j ∙ freed_spawned frees false site es ∙ sym h.counts.spawned ∙ sym s.spawned ∙ sym (not-not mid.spawned) in
      let run =
      run_forked burden count (counted_at count old) j (not mid.spawned) mark (freed_open frees os) (events os es) old.paths p (unless_within (frees site) 1) waits small h.counts.light
      (subst (λ (x : Paths). SpawnsBoth x p (counted_at count old + j) (not mid.spawned)) s.paths (subst (λ (x : ℕ). SpawnsBoth mid.paths p x (not mid.spawned)) at spawns)) splits h.counts.run in
      let o : Open = record { spawned = true; mark = mark; outer = ticked es } in
      let now : counted_at (count + 1) new ≡ new.counted = counted_now (count + 1) new (k.noted ∙ s.noted) in
      let same = k.counted in
      let outer = freed-append frees site es (Work 1 ∷ []) in record {
        counts = record {
          light = h.counts.light;
          within = m.within;
          noted = let n = m.noted in let l = k.noted in omega arith;
          counted = let n = m.counted in let l = k.noted in omega arith;
          free = k.free ∙ is;
          spawned = k.spawned;
          run = subst (λ (x : List Event). TracksRun burden (count + 1) (counted_at (count + 1) new) (record { spawned = true; mark = mark; outer = x } ∷ freed_open frees os) [] new.paths) (sym outer)
              (run_as (count + 1) (counted_at count old + j) (counted_at (count + 1) new)
              (record { spawned = true; mark = mark; outer = events os es ++ Work j ∷ [] } ∷ freed_open frees os) [] [] p new.paths
              (omega (arith, now, same, at)) refl k.paths run);
        };
        parts = kept_pushed frees o os (record { child = true; spawned = true; free = mid.free }) mid.parts.items new.parts.items k.pushed
            (record { child = refl; spawned = refl; free = m.free }) (kept_as frees os old.parts.items mid.parts.items
            (same_items old.parts mid.parts s.parts) h.parts);
      }

  -- the current block joins
  pub joined_now : (count : ℕ) (os : List Open) (es : List Event) (old mid : FreedMeter) (p : Paths) → old.spawned ≡ true → Settles old mid count
      → JoinsBoth mid.paths p mid.counted → count ≤ MOST_LIMIT → FreesIn frees burden count os es old
      → FreesIn frees burden count os (es ++ Join ∷ []) (record {
        paths = p;
        counted = mid.counted;
        noted = mid.noted;
        free = mid.free;
        spawned = false;
        parts = mid.parts;
      })
  joined_now count os es old mid p split s joins small h =
      let m = counts_settled count os es old mid s small h.counts in
      let now = counted_now count mid s.noted in
      let new : FreedMeter = record { paths = p; counted = mid.counted; noted = mid.noted; free = mid.free; spawned = false; parts = mid.parts } in record {
        counts = record {
          light = m.light;
          within = small;
          noted = m.noted;
          counted = m.counted;
          free = m.free;
          spawned = sym (spawned_joined es);
          run = run_as count (counted_at count mid) (counted_at count new) (freed_open frees os) (events os es ++ Join ∷ [])
              (events os (es ++ Join ∷ [])) p p refl (freed-append frees (here_in 0 os) es (Join ∷ [])) refl
              (run_joined burden count (counted_at count mid) (freed_open frees os) (events os es) mid.paths p small m.light
              (subst (λ (x : ℕ). JoinsBoth mid.paths p x) (sym now) joins) (freed_spawned frees false (here_in 0 os) es ∙ sym h.counts.spawned ∙ split) m.run);
        };
        parts = kept_as frees os old.parts.items mid.parts.items (same_items old.parts mid.parts s.parts) h.parts;
      }

  pub joined_not : LatePathsWait → (count : ℕ) (os : List Open) (es : List Event) (m : FreedMeter) → m.spawned ≡ false → count ≤ MOST_LIMIT
      → FreesIn frees burden count os es m → FreesIn frees burden count os (es ++ Join ∷ []) m
  joined_not waits count os es m none small h = record {
    counts = record {
      light = h.counts.light;
      within = small;
      noted = h.counts.noted;
      counted = h.counts.counted;
      free = h.counts.free;
      spawned = none ∙ sym (spawned_joined es);
      run = run_as count (counted_at count m) (counted_at count m) (freed_open frees os) (events os es ++ Join ∷ [])
          (events os (es ++ Join ∷ [])) m.paths m.paths refl (freed-append frees (here_in 0 os) es (Join ∷ [])) refl
          (run_unjoined burden count (counted_at count m) (freed_open frees os) (events os es) m.paths small h.counts.light waits
          (freed_spawned frees false (here_in 0 os) es ∙ sym h.counts.spawned ∙ none) h.counts.run);
    };
    parts = h.parts;
  }

  -- a part in series, or a spawned part, ended
  module _ (o : Open) (os : List Open) (es : List Event) where
    abbrev inner : List Event
    inner = freed_events frees (inside o.mark (here_in 0 os)) es

    abbrev freed_part : Open
    freed_part = record { spawned = o.spawned; mark = o.mark; outer = events os o.outer }

    ended_run : (count a b : ℕ) (p q : Paths) → b ≡ a → q ≡ p → TracksRun burden count a (freed_open frees os) (closed freed_part inner) p
        → TracksRun burden count b (freed_open frees os) (events os (closed o es)) q
    ended_run count a b p q e f h = run_as count a b (freed_open frees os) (closed freed_part inner) (events os (closed o es)) p q e (sym (freed_closed frees o (here_in 0 os) es)) f h

    joined_inner : (m : FreedMeter) → m.spawned ≡ false → m.spawned ≡ has_spawned es → has_spawned inner ≡ false
    joined_inner m e f = freed_spawned frees false (inside o.mark (here_in 0 os)) es ∙ sym f ∙ e

    pub left_child : (old : FreedMeter) (p : Paths) (part : Part) → part.child ≡ true → EndsBoth old.paths p old.counted → old.noted ≤ MOST_LIMIT
        → old.spawned ≡ false → IsKept frees o os part → CountsIn frees burden old.noted (o ∷ os) es old
        → CountsIn frees burden old.noted os (closed o es) (record {
          paths = p;
          counted = old.counted;
          noted = old.noted;
          free = part.free;
          spawned = part.spawned;
          parts = old.parts;
        })
    left_child old p part child ends small none k h =
        let new : FreedMeter = record { paths = p; counted = old.counted; noted = old.noted; free = part.free; spawned = part.spawned; parts = old.parts } in
        let a = counted_now old.noted old refl in
        let b = counted_now old.noted new refl in record {
          light = h.light;
          within = small;
          noted = h.noted;
          counted = h.counted;
          free = k.free;
          spawned = k.spawned ∙ sym (spawned_closed o es);
          run = ended_run old.noted (counted_at old.noted old) (counted_at old.noted new) p p (omega (arith, a, b)) refl
              (run_child_ended burden old.noted (counted_at old.noted old) freed_part (freed_open frees os) inner old.paths p small h.light
              (subst (λ (x : ℕ). EndsBoth old.paths p x) (sym a) ends) (sym k.child ∙ child) (joined_inner old none h.spawned) h.run);
        }

    pub left_place : (old : FreedMeter) (part : Part) → part.child ≡ false → old.spawned ≡ false → IsKept frees o os part
        → CountsIn frees burden old.noted (o ∷ os) es old → CountsIn frees burden old.noted os (closed o es)
        (record { paths = old.paths; counted = old.counted; noted = old.noted; free = part.free; spawned = part.spawned; parts = old.parts })
    left_place old part place none k h =
        let new : FreedMeter = record { paths = old.paths; counted = old.counted; noted = old.noted; free = part.free; spawned = part.spawned; parts = old.parts } in
        let a = counted_now old.noted old refl in
        let b = counted_now old.noted new refl in record {
          light = h.light;
          within = h.within;
          noted = h.noted;
          counted = h.counted;
          free = k.free;
          spawned = k.spawned ∙ sym (spawned_closed o es);
          run = ended_run old.noted (counted_at old.noted old) (counted_at old.noted new) old.paths old.paths (omega (arith, a, b)) refl
              (run_ended burden old.noted (counted_at old.noted old) freed_part (freed_open frees os) inner old.paths (sym k.child ∙ place) (joined_inner old none h.spawned) h.run);
        }

    -- the run itself ends
    left_main : (count : ℕ) (m : FreedMeter) → o ∷ os ≡ main_open → m.spawned ≡ false → CountsIn frees burden count (o ∷ os) es m → CountsIn frees burden count os (closed o es) m
    left_main count m main none h =
        let first : o ≡ record { spawned = false; mark = Some (Invocation 0); outer = [] } = cc in
        let rest : os ≡ [] = cc in
        let place : o.spawned ≡ false = ap (λ (x : Open). x.spawned) first in record {
          light = h.light;
          within = h.within;
          noted = h.noted;
          counted = h.counted;
          free = h.free ∙ ap (λ (x : Open). frees (inside x.mark (here_in 0 os))) first ∙ sym (ap (λ (x : List Open). frees (here_in 0 x)) rest);
          spawned = none ∙ sym (spawned_closed o es ∙ ap (λ (x : Open). spawned_after_part x.spawned (has_spawned x.outer)) first);
          run = ended_run count (counted_at count m) (counted_at count m) m.paths m.paths refl refl
              (run_ended burden count (counted_at count m) freed_part (freed_open frees os) inner m.paths place (joined_inner m none h.spawned) h.run);
        }

    -- a join at the end of a part has no effect
    pub ended_unjoined : (count : ℕ) (m : FreedMeter) → FreesIn frees burden count os (closed o (es ++ Join ∷ [])) m → FreesIn frees burden count os (closed o es) m
    ended_unjoined count m h = record {
      counts = record {
        light = h.counts.light;
        within = h.counts.within;
        noted = h.counts.noted;
        counted = h.counts.counted;
        free = h.counts.free;
        spawned = h.counts.spawned ∙ spawned_closed o (es ++ Join ∷ []) ∙ sym (spawned_closed o es);
        run = ended_run count (counted_at count m) (counted_at count m) m.paths m.paths refl refl
            (run_joined_at_end burden count (counted_at count m) freed_part (freed_open frees os) inner m.paths
            (run_as count (counted_at count m) (counted_at count m) (freed_open frees os) (events os (closed o (es ++ Join ∷ []))) (closed freed_part (inner ++ Join ∷ [])) m.paths m.paths refl
            (ap (λ (x : List Event). closed freed_part x) (sym (freed-append frees (inside o.mark (here_in 0 os)) es (Join ∷ [])))
            ∙ freed_closed frees o (here_in 0 os) (es ++ Join ∷ [])) refl h.counts.run));
      };
      parts = h.parts;
    }

-- The methods.

pub ticks : LatePathsWait → InstructionsNeedNoCall
ticks waits m count frees burden os es small h = record { counts = counts_ticked frees burden waits count os es m small h.counts; parts = h.parts }

pub quiet_begins : LatePathsWait → (old new : FreedMeter) (count : ℕ) → Stacks old new false old.spawned old.free → BeginsQuiet old new count
quiet_begins waits old new count s frees burden mark os es same small h =
    let t = counts_ticked frees burden waits count os es old small h.counts in
    let c = s.counted in let n = s.noted in let f = s.free in
    place_begun frees burden (count + 1) mark os (ticked es) old.free old new s (h.counts.free ∙ ap frees (sym same))
    (ap (λ (x : ℕ). x + unless new.free (count + 1 - new.noted)) c ∙ ap (λ (x : ℕ). old.counted + unless new.free (count + 1 - x)) n
    ∙ ap (λ (x : Bool). old.counted + unless x (count + 1 - old.noted)) f) t h.parts

pub call_begins : LatePathsWait → (old mid new : FreedMeter) (count next : ℕ) (free : Bool) → (count < MOST_LIMIT → next ≡ count + 1)
    → Settles old mid next → Stacks mid new false mid.spawned free → BeginsCall old new count free
call_begins waits old mid new count next free is at s frees burden site os es free_is small h =
    let settled = subst (λ (x : ℕ). Settles old mid x) (is small) at in
    let t = counts_settled frees burden (count + 1) os (ticked es) old mid settled (omega arith) (counts_ticked frees burden waits count os es old small h.counts) in
    let a = counted_now (count + 1) mid settled.noted in
    let b = counted_now (count + 1) new (s.noted ∙ settled.noted) in
    let c = s.counted in
    place_begun frees burden (count + 1) (Some (Invocation site)) os (ticked es) free mid new s free_is (omega (arith, a, b, c)) t
    (kept_as frees os old.parts.items mid.parts.items (same_items old.parts mid.parts settled.parts) h.parts)

pub child_begins : LatePathsWait → (old mid : FreedMeter) (p : Paths) (new : FreedMeter) (count next : ℕ) (free : Bool)
    → (count < MOST_LIMIT → next ≡ count + 1) → Settles old mid next → SpawnsBoth mid.paths p mid.counted (not mid.spawned)
    → Stacks (record { paths = p; counted = mid.counted; noted = mid.noted; free = mid.free; spawned = mid.spawned; parts = mid.parts }) new true true
    free → BeginsChild old new count free
child_begins waits old mid p new count next free is at spawns s frees burden mark os es free_is small h =
    child_begun frees burden waits count mark os es free old mid p new small (subst (λ (x : ℕ). Settles old mid x) (is small) at) spawns s free_is h

pub first_child_begins : LatePathsWait → (old mid : FreedMeter) (p : Paths) (new : FreedMeter) (count next : ℕ) (free : Bool) → old.spawned ≡ false
    → (count < MOST_LIMIT → next ≡ count + 1) → Settles old mid next → SpawnsBoth mid.paths p mid.counted true
    → Stacks (record { paths = p; counted = mid.counted; noted = mid.noted; free = mid.free; spawned = mid.spawned; parts = mid.parts }) new true true
    free → BeginsChild old new count free
first_child_begins waits old mid p new count next free first is at spawns s =
    let e = sym (ap not (at.spawned ∙ first)) in
    child_begins waits old mid p new count next free is at (subst (λ (b : Bool). SpawnsBoth mid.paths p mid.counted b) e spawns) s

pub half_begins : (old new : FreedMeter) (count : ℕ) → BeginsChild old new count old.free → BeginsHalf old new count
half_begins old new count begins frees burden mark os es same small h = begins frees burden mark os es (h.counts.free ∙ ap frees (sym same)) small h

pub joins_now : (old mid : FreedMeter) (p : Paths) (count : ℕ) → old.spawned ≡ true → Settles old mid count → JoinsBoth mid.paths p mid.counted
    → JoinsBlock old (record { paths = p; counted = mid.counted; noted = mid.noted; free = mid.free; spawned = false; parts = mid.parts }) count
joins_now old mid p count split s joins frees burden os es small h = joined_now frees burden count os es old mid p split s joins small h

pub joins_not : LatePathsWait → (m : FreedMeter) (count : ℕ) → m.spawned ≡ false → JoinsBlock m m count
joins_not waits m count none frees burden os es small h = joined_not frees burden waits count os es m none small h

pub syncs : InstructionsNeedNoCall → (old new : FreedMeter) (count : ℕ) → JoinsBlock old new count → Syncs old new count
syncs need old new count joins frees burden os es small h =
    subst (λ (x : List Event). FreesIn frees burden (count + 1) os x new) (sym (append_one es Join (Work 1 ∷ [])))
    (need new count frees burden os (es ++ Join ∷ []) small (joins frees burden os es (omega arith) h))

pub block_ends : InstructionsNeedNoCall → (old mid new : FreedMeter) (count : ℕ) → JoinsBlock old mid count → mid.spawned ≡ false → ClosesPart mid new count → Ends old new count
block_ends need old mid new count joins none closes frees burden o os es quiet small h =
    let le : count ≤ MOST_LIMIT = omega (arith, small) in
    need new count frees burden os (closed o es) small
    (ended_unjoined frees burden o os es count new
    (closes frees burden o os (es ++ Join ∷ []) le none (joins frees burden (o ∷ os) es le h)))

pub call_ends : InstructionsNeedNoCall → (old mid new : FreedMeter) (count next : ℕ) → (count < MOST_LIMIT → next ≡ count + 1)
    → JoinsBlock old mid count → mid.spawned ≡ false → ClosesPart mid new next → Returns old new count
call_ends need old mid new count next is joins none closes frees burden o os es small h =
    let now = subst (λ (x : ℕ). ClosesPart mid new x) (is small) closes in
    let ran = need mid count frees burden (o ∷ os) (es ++ Join ∷ []) small (joins frees burden (o ∷ os) es (omega arith) h) in
    now frees burden o os (synced es) (omega arith) none
    (subst (λ (x : List Event). FreesIn frees burden (count + 1) (o ∷ os) x mid) (sym (append_one es Join (Work 1 ∷ []))) ran)

-- the innermost part ends
abbrev pub with_parts : FreedMeter → Vec Part → FreedMeter
with_parts m left = record { paths = m.paths; counted = m.counted; noted = m.noted; free = m.free; spawned = m.spawned; parts = left }

pub part_closes : (old settled : FreedMeter) (left : Vec Part) (new : FreedMeter) (part : Part) (count : ℕ) → Settles old settled count
    → settled.parts.items ≡ left.items ++ part ∷ [] → Leaves (with_parts settled left) new part → ClosesPart old new count
part_closes old settled left new part count s pops leaves frees burden o os es small none h =
    let m = counts_settled frees burden count (o ∷ os) es old settled s small h.counts in
    let k = kept_popped frees o os part old.parts.items left.items (sym (same_items old.parts settled.parts s.parts) ∙ pops) h.parts in
    let n = s.noted in
    let c = subst (λ (x : ℕ). CountsIn frees burden x (o ∷ os) es settled) (sym n) m in record {
      counts = subst (λ (x : ℕ). CountsIn frees burden x os (closed o es) new) n
          (leaves.counts frees burden o os es (omega (arith, n, small)) (s.spawned ∙ none) k.0
          (record { light = c.light; within = c.within; noted = c.noted; counted = c.counted; free = c.free; spawned = c.spawned; run = c.run }));
      parts = kept_as frees os left.items new.parts.items leaves.parts k.1;
    }

pub main_closes : (old settled : FreedMeter) (left : Vec Part) (count : ℕ) → Settles old settled count → settled.parts.items ≡ [] → left.items ≡ [] → ClosesPart old (with_parts settled left) count
main_closes old settled left count s empty none_left frees burden o os es small none h =
    let main : o ∷ os ≡ main_open = subst (λ (x : List Part). AreKept frees (o ∷ os) (reverse x)) (sym (same_items old.parts settled.parts s.parts) ∙ empty) h.parts in
    let rest : os ≡ [] = cc in
    let c = left_main frees burden o os es count settled main (s.spawned ∙ none) (counts_settled frees burden count (o ∷ os) es old settled s small h.counts) in record {
      counts = record { light = c.light; within = c.within; noted = c.noted; counted = c.counted; free = c.free; spawned = c.spawned; run = c.run };
      parts = kept_as frees os [] left.items none_left (subst (λ (x : List Open). AreKept frees x []) (sym rest) tt);
    }

-- the spans of a whole run
weight_is : (frees : ℕ → Bool) (burden : Burden) (t : Tree) → burdened_span burden (tree_of (Series (freed frees 0 t) ∷ [])) ≡ burdened_span burden (freed frees 0 (normal t))
weight_is frees burden t =
    let a = (same_readings (freed frees 0 (normal t)) (freed frees 0 t) (freed_regrouped frees 0 (normal_is_regrouped t))).same_span burden in omega (arith, a)

pub reads : (old mid : FreedMeter) (count plain burdened : ℕ) (f : Freed) → Settles old mid count → ReadsBoth mid.paths mid.counted (plain, burdened)
    → f.span ≡ min plain (2 ^ 64 - 1) → f.burdened ≡ burdened → Reads old count f
reads old mid count plain burdened f s read span charged frees burden es h =
    let small = h.counts.within in
    let t = Marked (Invocation 0) (tree_of es) in
    let m = counts_settled frees burden count [] (Series t ∷ []) old mid s small h.counts in
    let now = counted_now count mid s.noted in
    let fs = Series (freed frees 0 t) ∷ [] in
    let fit = both_fit burden count (counted_at count mid) [] fs mid.paths small m.light m.run in
    let r = read burden fs (m.run.work ∙ now) fit refl m.run.tells in
    let w = span_within no_burden (tree_of fs) in
    let p = m.run.plain_within in
    let a = weight_is frees no_burden t in
    let first = r.0 in record {
      span = omega (arith, span, first, w, p, a, small);
      burdened = charged ∙ r.1 ∙ weight_is frees burden t;
    }
