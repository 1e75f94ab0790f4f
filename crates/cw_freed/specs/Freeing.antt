-- A freed meter, the run so far that it represents, and the effect of each method.
use Rattle.std.specs.Prelude.{◌≡◌, ℕ, ◌+◌, ◌-◌, ◌≤◌, ◌<◌, Bool, true, false, List, [], ◌∷◌, ◌++◌, reverse, Option, Some}
use Rattle.std.specs.Vec.{vec_len, vec_capacity}
use Rattle.cw_model.specs.declared.burden.Burden.{Burden}
use Rattle.cw_model.specs.declared.limits.TheConstants.{MOST_LIMIT, MOST_BURDEN}
use Rattle.cw_model.specs.Trees.{Tree, Marked, Mark, Invocation, Event, Series, Join, normal, tree_of}
use Rattle.cw_model.specs.Freed.{span_if_free, burdened_if_free}
use Rattle.cw_measure.specs.OpenParts.{Open, has_spawned, closed}
use Rattle.cw_sites.specs.OpenPaths.{inside, here_in}
use Rattle.cw_meter.specs.Meters.{ticked, synced, begun}
use Rattle.cw_meter.specs.Origins.{main_open}
use Rattle.cw_freed.specs.declared.meter.Freed.{Freed}
use Rattle.cw_freed.specs.declared.meter.FreedMeter.{FreedMeter}
use Rattle.cw_freed.specs.declared.meter.Part.{Part}
use Rattle.cw_freed.specs.FreedRuns.{unless, freed_events, freed_open}
use Rattle.cw_freed.specs.Paths.{HaveRoom, TracksRun}

-- whether the enclosing block has spawned after the end of a part
abbrev pub spawned_after_part : (child spawned : Bool) → Bool
spawned_after_part true spawned = true
spawned_after_part false spawned = spawned

-- the meter's entry for an open part with these enclosing parts
pub record IsKept (frees : ℕ → Bool) (o : Open) (os : List Open) (p : Part) : Type 0 where
  pub child : p.child ≡ o.spawned
  pub spawned : p.spawned ≡ spawned_after_part o.spawned (has_spawned o.outer)
  pub free : p.free ≡ frees (here_in 0 os)

-- the meter's entries for the open parts, the innermost first; the run's own call of `main` has none
abbrev pub AreKept : (frees : ℕ → Bool) → List Open → List Part → Type 0
AreKept frees [] [] = Unit {0}
AreKept frees [] (p ∷ ps) = ⊥
AreKept frees (o ∷ os) [] = o ∷ os ≡ main_open
AreKept frees (o ∷ os) (p ∷ ps) = IsKept frees o os p × AreKept frees os ps

-- the number of instructions since the noted ones that are not free
abbrev pub since : FreedMeter → (count : ℕ) → ℕ
since m count = unless m.free (count - m.noted)

-- the number of instructions up to `count` that are not free
abbrev pub counted_at : (count : ℕ) → FreedMeter → ℕ
counted_at count m = m.counted + since m count

-- the meter has counted a run so far of `count` instructions, in which these sites are free
pub record CountsIn (frees : ℕ → Bool) (burden : Burden) (count : ℕ) (os : List Open) (es : List Event)
    (m : FreedMeter) : Type 0 where
  pub light : burden.charge ≤ MOST_BURDEN
  pub within : count ≤ MOST_LIMIT
  pub noted : m.noted ≤ count
  pub counted : m.counted ≤ m.noted
  pub free : m.free ≡ frees (here_in 0 os)
  pub spawned : m.spawned ≡ has_spawned es
  pub run : TracksRun burden count (counted_at count m) (freed_open frees os) (freed_events frees (here_in 0 os) es)
      m.paths

-- the meter represents the run: its counts and its entries for open parts
pub record FreesIn (frees : ℕ → Bool) (burden : Burden) (count : ℕ) (os : List Open) (es : List Event) (m : FreedMeter)
    : Type 0 where
  pub counts : CountsIn frees burden count os es m
  pub parts : AreKept frees os (reverse m.parts.items)

-- a step of the meter from one run so far to another, with one more instruction, if that is within the maximum limit
abbrev pub Tracks : (frees : ℕ → Bool) → Burden → (old new : FreedMeter) → (count : ℕ) → (os os' : List Open)
    → (es es' : List Event) → Type 0
Tracks frees burden old new count os os' es es' =
    count < MOST_LIMIT → FreesIn frees burden count os es old → FreesIn frees burden (count + 1) os' es' new

-- the meter of a run at its start
abbrev pub Starts : Burden → (free : Bool) → FreedMeter → Type 0
Starts burden free m =
    (frees : ℕ → Bool) → free ≡ frees 0 → burden.charge ≤ MOST_BURDEN → FreesIn frees burden 0 main_open [] m

-- begins a spawned part, in an invocation of a free site or not
abbrev pub BeginsChild : (old new : FreedMeter) → (count : ℕ) → (free : Bool) → Type 0
BeginsChild old new count free =
    (frees : ℕ → Bool) (burden : Burden) (mark : Option Mark) (os : List Open) (es : List Event)
    → free ≡ frees (inside mark (here_in 0 os)) → Tracks frees burden old new count os (begun true mark es os) es []

-- begins a spawned part that is not a call of a call statement
abbrev pub BeginsHalf : (old new : FreedMeter) → (count : ℕ) → Type 0
BeginsHalf old new count =
    (frees : ℕ → Bool) (burden : Burden) (mark : Option Mark) (os : List Open) (es : List Event)
    → inside mark (here_in 0 os) ≡ here_in 0 os → Tracks frees burden old new count os (begun true mark es os) es []

-- begins a plain call
abbrev pub BeginsCall : (old new : FreedMeter) → (count : ℕ) → (free : Bool) → Type 0
BeginsCall old new count free =
    (frees : ℕ → Bool) (burden : Burden) (site : ℕ) (os : List Open) (es : List Event) → free ≡ frees site
    → Tracks frees burden old new count os (begun false (Some (Invocation site)) es os) es []

-- begins any other part in series
abbrev pub BeginsQuiet : (old new : FreedMeter) → (count : ℕ) → Type 0
BeginsQuiet old new count =
    (frees : ℕ → Bool) (burden : Burden) (mark : Option Mark) (os : List Open) (es : List Event)
    → inside mark (here_in 0 os) ≡ here_in 0 os → Tracks frees burden old new count os (begun false mark es os) es []

-- joins and ends a scope, a cut or a region; the ending instruction belongs to the enclosing block
abbrev pub Ends : (old new : FreedMeter) → (count : ℕ) → Type 0
Ends old new count =
    (frees : ℕ → Bool) (burden : Burden) (o : Open) (os : List Open) (es : List Event) → o.spawned ≡ false
    → Tracks frees burden old new count (o ∷ os) os es (ticked (closed o es))

-- joins and ends a call, with an instruction of the call
abbrev pub Returns : (old new : FreedMeter) → (count : ℕ) → Type 0
Returns old new count =
    (frees : ℕ → Bool) (burden : Burden) (o : Open) (os : List Open) (es : List Event)
    → Tracks frees burden old new count (o ∷ os) os es (closed o (synced es))

-- joins the current block
abbrev pub Syncs : (old new : FreedMeter) → (count : ℕ) → Type 0
Syncs old new count =
    (frees : ℕ → Bool) (burden : Burden) (os : List Open) (es : List Event)
    → Tracks frees burden old new count os os es (synced es)

-- an instruction that begins, ends and joins nothing needs no call
abbrev pub InstructionsNeedNoCall : Type 0
InstructionsNeedNoCall =
    (m : FreedMeter) (count : ℕ) (frees : ℕ → Bool) (burden : Burden) (os : List Open) (es : List Event)
    → Tracks frees burden m m count os os es (ticked es)

-- all instructions up to this count are noted, and nothing else changes
pub record Settles (old new : FreedMeter) (count : ℕ) : Type 0 where
  pub noted : new.noted ≡ count
  pub counted : old.counted ≤ old.noted → old.noted ≤ count → count ≤ MOST_LIMIT → new.counted ≡ counted_at count old
  pub free : new.free ≡ old.free
  pub spawned : new.spawned ≡ old.spawned
  pub parts : new.parts ≡ old.parts
  pub paths : new.paths ≡ old.paths

-- the current block has not spawned since its last join, and there is room for a spawned part
pub record IsReady (m : FreedMeter) : Type 0 where
  pub first : m.spawned ≡ false
  pub room : vec_len m.parts < vec_capacity m.parts
  pub paths : HaveRoom m.paths

-- one more part is entered
pub record Stacks (old new : FreedMeter) (child after inner : Bool) : Type 0 where
  pub pushed : new.parts.items
      ≡ old.parts.items ++ record { child = child; spawned = after; free = old.free } ∷ []
  pub free : new.free ≡ inner
  pub spawned : new.spawned ≡ false
  pub noted : new.noted ≡ old.noted
  pub counted : new.counted ≡ old.counted
  pub paths : new.paths ≡ old.paths

-- the current block joins, before the instruction of the join
abbrev pub JoinsBlock : (old new : FreedMeter) → (count : ℕ) → Type 0
JoinsBlock old new count =
    (frees : ℕ → Bool) (burden : Burden) (os : List Open) (es : List Event) → count ≤ MOST_LIMIT
    → FreesIn frees burden count os es old → FreesIn frees burden count os (es ++ Join ∷ []) new

-- the innermost part ends; its block has joined
abbrev pub ClosesPart : (old new : FreedMeter) → (count : ℕ) → Type 0
ClosesPart old new count =
    (frees : ℕ → Bool) (burden : Burden) (o : Open) (os : List Open) (es : List Event) → count ≤ MOST_LIMIT
    → old.spawned ≡ false → FreesIn frees burden count (o ∷ os) es old → FreesIn frees burden count os (closed o es) new

-- the part of the innermost entry ends, after all instructions up to its end were noted
pub record Leaves (old new : FreedMeter) (part : Part) : Type 0 where
  pub counts : (frees : ℕ → Bool) (burden : Burden) (o : Open) (os : List Open) (es : List Event)
      → old.noted ≤ MOST_LIMIT → old.spawned ≡ false → IsKept frees o os part
      → CountsIn frees burden old.noted (o ∷ os) es old → CountsIn frees burden old.noted os (closed o es) new
  pub parts : new.parts.items ≡ old.parts.items

-- the spans are those of the tree in which these sites cost nothing
pub record AreFreed (frees : ℕ → Bool) (burden : Burden) (t : Tree) (f : Freed) : Type 0 where
  pub span : f.span ≡ span_if_free frees t
  pub burdened : f.burdened ≡ burdened_if_free burden frees t

-- at the end of a run, the meter returns the spans of the run's tree
abbrev pub Reads : FreedMeter → (count : ℕ) → Freed → Type 0
Reads m count f =
    (frees : ℕ → Bool) (burden : Burden) (es : List Event)
    → FreesIn frees burden count [] (Series (Marked (Invocation 0) (tree_of es)) ∷ []) m
    → AreFreed frees burden (normal (Marked (Invocation 0) (tree_of es))) f
