-- The record of a run so far: its codes, and the state of a recorder.
use Rattle.std.specs.Prelude.{ℕ, ◌+◌, ◌-◌, ◌≡◌, ◌≤◌, ◌<◌, Bool, true, false, not, List, [], ◌∷◌, ◌++◌, reverse}
use Rattle.std.specs.Prelude.{Option, Some, None, Ok, Err}
use Rattle.cw_model.specs.declared.limits.TheConstants.{MOST_LIMIT}
use Rattle.cw_model.specs.Trees.{Tree, Marked, Mark, Invocation, Execution, Event, Work, Series, Join, normal, tree_of}
use Rattle.cw_model.specs.Trees as e
use Rattle.cw_measure.specs.OpenParts.{Open, has_spawned_from, has_spawned, no_joins, closed}
use Rattle.cw_greedy.specs.Runs.{ticked, synced, begun}
use Rattle.cw_greedy.specs.Origins.{Origin, Main, Rest, main_open}
use Rattle.cw_greedy.specs.Records.{IsRecordOf}
use Rattle.cw_greedy.specs.declared.code.Code.{Code}
use Rattle.cw_greedy.specs.declared.code.Code.TheVariants.{Instructions, Spawned, Ended, Called}
use Rattle.cw_model.specs.declared.limits.TheConstants.{MOST_STRANDS}
use Rattle.cw_greedy.specs.Recorded.{Recorded, capped, cuts}
use Rattle.cw_greedy.specs.Blocks.{AsChild, codes_of, record_of, strand_count}
use Rattle.cw_greedy.specs.declared.recorder.PartKind.{PartKind}
use Rattle.cw_greedy.specs.declared.recorder.PartKind.TheVariants as kind
use Rattle.cw_greedy.specs.declared.recorder.Part.{Part}
use Rattle.cw_greedy.specs.declared.recorder.Recorder.{Recorder}
use Rattle.cw_greedy.specs.Merging.{Same, to_join}
use Rattle.cw_greedy.specs.Normal.{AreApart}

-- the cut at the start of a part, in a block with or without a child that is not joined
abbrev pub opening : (spawned : Bool) → Option Mark → (out : Bool) → List Code
opening true mark out = Spawned (not out) ∷ []
opening false (Some (Invocation site)) out = Called ∷ []
opening false (Some (Execution tag)) out = []
opening false None out = []

-- the cut at the end of a part
abbrev pub ending : (spawned : Bool) → Option Mark → List Code
ending true mark = Ended ∷ []
ending false (Some (Invocation site)) = Called ∷ []
ending false (Some (Execution tag)) = []
ending false None = []

-- the codes of a whole run, whose only event is its call of `main`, without codes for its start and end
abbrev pub of_whole : List Event → List Code
of_whole [] = []
of_whole (Series t ∷ es) = codes_of AsChild t ++ record_of false es
of_whole (Work k ∷ es) = record_of false (Work k ∷ es)
of_whole (e.Fork t ∷ es) = record_of false (e.Fork t ∷ es)
of_whole (Join ∷ es) = record_of false es

-- whether the innermost block has a child that is not joined at its start: only for a block whose continuation is
-- recorded
abbrev pub begins_out : Origin → List Open → Bool
begins_out from (o ∷ os) = false
begins_out Main [] = false
begins_out (Rest site) [] = true

-- whether the innermost block has a child that is not joined
abbrev pub out_in : Origin → List Open → List Event → Bool
out_in from os es = has_spawned_from (begins_out from os) es

-- the codes of a run so far: of the enclosing blocks, each up to its open part, then of the innermost block; the run
-- itself has no cuts, and the outermost block of a continuation is the continuation
abbrev pub codes_in : Origin → List Open → List Event → List Code
codes_in Main [] es = of_whole es
codes_in Main (o ∷ []) es = record_of false es
codes_in Main (o ∷ p ∷ os) es =
    codes_in Main (p ∷ os) o.outer
    ++ (opening o.spawned o.mark (has_spawned o.outer) ++ record_of false es)
codes_in (Rest site) [] es = record_of true es
codes_in (Rest site) (o ∷ os) es =
    codes_in (Rest site) os o.outer
    ++ (opening o.spawned o.mark (out_in (Rest site) os o.outer) ++ record_of false es)

-- the cut at the end of the innermost part, with these enclosing parts
abbrev pub ending_in : Origin → Open → List Open → List Code
ending_in Main o [] = []
ending_in Main o (p ∷ os) = ending o.spawned o.mark
ending_in (Rest site) o os = ending o.spawned o.mark

-- the recorder has this kind for an open part
abbrev pub IsOfKind : Open → PartKind → Type 0
IsOfKind o kind.Child = o.spawned ≡ true
IsOfKind o kind.Call = (o.spawned ≡ false) × ((site : ℕ) × (o.mark ≡ Some (Invocation site)))
IsOfKind o kind.Quiet = (o.spawned ≡ false) × ((site : ℕ) → o.mark ≡ Some (Invocation site) → ⊥)

-- whether the enclosing block has a child that is not joined after the end of a part
abbrev pub out_after_part : (spawned out : Bool) → Bool
out_after_part true out = true
out_after_part false out = out

-- the recorder's entry for an open part with these enclosing parts
abbrev pub IsPart : Origin → Open → List Open → Part → Type 0
IsPart from o os p = IsOfKind o p.kind × (p.out ≡ out_after_part o.spawned (out_in from os o.outer))

-- the recorder's entries for the open parts of a run (without the run itself) or of a continuation, the innermost
-- first
abbrev pub AreParts : Origin → List Open → List Part → Type 0
AreParts Main [] [] = Unit {0}
AreParts Main [] (p ∷ ps) = ⊥
AreParts Main (o ∷ []) [] = Unit {0}
AreParts Main (o ∷ []) (p ∷ ps) = ⊥
AreParts Main (o ∷ q ∷ os) [] = ⊥
AreParts Main (o ∷ q ∷ os) (p ∷ ps) = IsPart Main o (q ∷ os) p × AreParts Main (q ∷ os) ps
AreParts (Rest site) [] [] = Unit {0}
AreParts (Rest site) [] (p ∷ ps) = ⊥
AreParts (Rest site) (o ∷ os) [] = ⊥
AreParts (Rest site) (o ∷ os) (p ∷ ps) = IsPart (Rest site) o os p × AreParts (Rest site) os ps

-- the codes are recorded, except for `since` instructions after them, or only counted if too many strands begin in
-- them
abbrev pub Keeps : (since : ℕ) → List Code → Recorded → Type 0
Keeps since codes (Err n) = (MOST_STRANDS ≤ cuts codes) × (n ≡ capped (cuts codes))
Keeps since codes (Ok kept) = (cuts kept < MOST_STRANDS) × Same (kept ++ Instructions since ∷ []) codes

-- the recorder's state of the open parts
pub record KeepsParts (from : Origin) (os : List Open) (es : List Event) (r : Recorder)
    : Type 0 where
  pub out : r.out ≡ out_in from os es
  pub parts : AreParts from os (reverse r.parts.items)

-- the outermost part of a whole run is the run's own call of `main`; nothing is required for a continuation
abbrev pub IsFromMain : Origin → List Open → Type 0
IsFromMain Main [] = Unit {0}
IsFromMain Main (o ∷ []) = (o.outer ≡ []) × (o.spawned ≡ false) × (o.mark ≡ Some (Invocation 0))
IsFromMain Main (o ∷ p ∷ os) = IsFromMain Main (p ∷ os)
IsFromMain (Rest site) os = Unit {0}

-- the recorder represents the strands of a run so far, or of a continuation
pub record RecordsIn (from : Origin) (count : ℕ) (os : List Open) (es : List Event) (r : Recorder)
    : Type 0 where
  pub goes_on : r.noted ≤ count
  pub keeps : Keeps (count - r.noted) (codes_in from os es) r.kept
  pub parts : KeepsParts from os es r
  pub from_main : IsFromMain from os
  pub apart : AreApart from os es

-- there is a current block: always in a continuation, and in a whole run as long as a part is open
abbrev pub IsOpen : Origin → List Open → Type 0
IsOpen Main [] = ⊥
IsOpen Main (o ∷ os) = Unit {0}
IsOpen (Rest site) os = Unit {0}

-- a step of the recorder from one run so far to another, with one more instruction
abbrev pub Tracks : (old new : Recorder) → (count : ℕ) → (from : Origin) → (os os' : List Open)
    → (es es' : List Event) → Type 0
Tracks old new count from os os' es es' =
    count < MOST_LIMIT → IsOpen from os → RecordsIn from count os es old
    → RecordsIn from (count + 1) os' es' new

-- the part is no call of a call statement
abbrev pub IsQuiet : Option Mark → Type 0
IsQuiet None = Unit {0}
IsQuiet (Some (Execution tag)) = Unit {0}
IsQuiet (Some (Invocation site)) = ⊥

-- begins a spawned part
abbrev pub BeginsChild : (old new : Recorder) → (count : ℕ) → Type 0
BeginsChild old new count =
    (from : Origin) (mark : Option Mark) (os : List Open) (es : List Event)
    → Tracks old new count from os (begun true mark es os) es []

-- begins a plain call
abbrev pub BeginsCall : (old new : Recorder) → (count : ℕ) → Type 0
BeginsCall old new count =
    (from : Origin) (site : ℕ) (os : List Open) (es : List Event)
    → Tracks old new count from os (begun false (Some (Invocation site)) es os) es []

-- begins any other part
abbrev pub BeginsQuiet : (old new : Recorder) → (count : ℕ) → Type 0
BeginsQuiet old new count =
    (from : Origin) (mark : Option Mark) (os : List Open) (es : List Event) → IsQuiet mark
    → Tracks old new count from os (begun false mark es os) es []

-- joins and ends a scope, a cut or a region; the ending instruction belongs to the enclosing block
abbrev pub Ends : (old new : Recorder) → (count : ℕ) → Type 0
Ends old new count =
    (from : Origin) (o : Open) (os : List Open) (es : List Event) → o.spawned ≡ false
    → Tracks old new count from (o ∷ os) os es (ticked (closed o es))

-- joins and ends a call, with an instruction of the call
abbrev pub Returns : (old new : Recorder) → (count : ℕ) → Type 0
Returns old new count =
    (from : Origin) (o : Open) (os : List Open) (es : List Event)
    → Tracks old new count from (o ∷ os) os es (closed o (synced es))

-- joins the current block
abbrev pub Syncs : (old new : Recorder) → (count : ℕ) → Type 0
Syncs old new count =
    (from : Origin) (os : List Open) (es : List Event) → Tracks old new count from os os es (synced es)

-- an instruction that begins, ends and joins nothing needs no call
abbrev pub InstructionsNeedNoCall : Type 0
InstructionsNeedNoCall =
    (r : Recorder) (count : ℕ) (from : Origin) (os : List Open) (es : List Event)
    → Tracks r r count from os os es (ticked es)

-- appends the continuation of the current block up to its join, recorded by another recorder with `cost` instructions
-- while a child of the block was not joined: the events and instructions of the continuation follow
abbrev pub Rests : (old rest new : Recorder) → (count cost : ℕ) → Type 0
Rests old rest new count cost =
    (from : Origin) (site : ℕ) (os : List Open) (es fs : List Event) → count + cost ≤ MOST_LIMIT
    → IsOpen from os → has_spawned es ≡ true → no_joins fs ≡ true
    → RecordsIn from count os es old → RecordsIn (Rest site) cost [] fs rest
    → RecordsIn from (count + cost) os (es ++ fs) new

-- all instructions up to `count` are recorded, then these codes; nothing else changes
pub record RecordsUpTo (old new : Recorder) (count : ℕ) (codes : List Code) : Type 0 where
  pub noted : old.noted ≤ count → new.noted ≡ count
  pub keeps : (from : ℕ) (before : List Code) → old.noted ≤ from → from ≤ count
      → Keeps (from - old.noted) before old.kept → Keeps 0 (before ++ Instructions (count - from) ∷ codes) new.kept
  pub out : new.out ≡ old.out
  pub parts : new.parts.items ≡ old.parts.items

-- begins a part of this kind; `after` says whether the enclosing block has a child that is not joined after its end
pub record Stacks (old new : Recorder) (kind : PartKind) (after : Bool) : Type 0 where
  pub pushed : new.parts.items ≡ old.parts.items ++ record { kind = kind; out = after } ∷ []
  pub out : new.out ≡ false
  pub kept : new.kept ≡ old.kept
  pub noted : new.noted ≡ old.noted

-- joins the current block; no instruction is recorded if no child is to be joined
abbrev pub Joins : (old new : Recorder) → (count : ℕ) → Type 0
Joins old new count =
    (codes : List Code) → old.noted ≤ count → Keeps (count - old.noted) codes old.kept
    → (new.noted ≤ count) × Keeps (count - new.noted) (codes ++ to_join old.out) new.kept

-- ends the innermost part, whose block has joined
abbrev pub Closes : (old new : Recorder) → (count : ℕ) → Type 0
Closes old new count =
    (codes : List Code) (from : Origin) (o : Open) (os : List Open) (es : List Event)
    → IsFromMain from (o ∷ os) → old.out ≡ false → AreParts from (o ∷ os) (reverse old.parts.items)
    → old.noted ≤ count → Keeps (count - old.noted) codes old.kept
    → (new.noted ≤ count) × Keeps (count - new.noted) (codes ++ ending_in from o os) new.kept
    × KeepsParts from os (closed o es) new

-- the recorder of a run at its start
abbrev pub Starts : Recorder → Type 0
Starts r = RecordsIn Main 0 main_open [] r

-- the recorder of a continuation at its start, in an invocation of any site
abbrev pub StartsRest : Recorder → Type 0
StartsRest r = (site : ℕ) → RecordsIn (Rest site) 0 [] [] r

-- the result for a run: the record of its strands, or the number of strands that begin in it (all but the first) if
-- there are too many
abbrev pub IsKept : Tree → Recorded → Type 0
IsKept t (Err n) = (MOST_STRANDS < strand_count t) × (capped (1 + n) ≡ capped (strand_count t))
IsKept t (Ok codes) = (strand_count t ≤ MOST_STRANDS) × IsRecordOf t (Ok codes)

-- at the end of a run, the recorder returns the result for the run's tree
abbrev pub Reads : Recorder → (count : ℕ) → Recorded → Type 0
Reads r count kept =
    (es : List Event) → RecordsIn Main count [] (Series (Marked (Invocation 0) (tree_of es)) ∷ []) r
    → IsKept (normal (Marked (Invocation 0) (tree_of es))) kept
