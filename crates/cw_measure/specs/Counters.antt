-- Counters for a piece of one sync block: the weights of its paths so far.
use Rattle.std.specs.Prelude.{◌≡◌, ℕ, zero, suc, ◌+◌, max, min, List, [], ◌∷◌, ◌++◌, Option, Some, None}
use Rattle.cw_model.specs.declared.burden.Burden.{Burden}
use Rattle.cw_model.specs.Burdens.{at_child, at_rest}
use Rattle.cw_model.specs.Trees.{Event, Work, Series, Fork, Join, burdened_span, tree_of}

-- the path through the longest child (0 if there is none) and the continuation; after a join also the heaviest path
-- up to the first join
pub data Counters : Type 0 where
  Unsynced : (longest continuation : ℕ) → Counters
  Synced : (prefix longest continuation : ℕ) → Counters

-- counters as they are stored: there is no prefix before the first join
abbrev pub counters_of : (prefix : Option ℕ) → (longest continuation : ℕ) → Counters
counters_of None l k = Unsynced l k
counters_of (Some p) l k = Synced p l k

-- addition of weights, which may saturate
abbrev pub Sum : Type 0
Sum = ℕ → ℕ → ℕ

-- exact addition
abbrev pub exactly : Sum
exactly a b = a + b

-- addition that saturates at a maximum
abbrev pub up_to : (greatest : ℕ) → Sum
up_to greatest a b = max (max a b) (min greatest (a + b))

-- the longest child of a later piece, after a path of weight `by`
abbrev pub later : Sum → (by longest : ℕ) → ℕ
later add by zero = zero
later add by (suc longest) = add by (suc longest)

-- a piece of a block followed by the next piece
abbrev pub onward : Sum → Counters → Counters → Counters
onward add (Unsynced l k) (Unsynced l' k') = Unsynced (max l (later add k l')) (add k k')
onward add (Unsynced l k) (Synced p l' k') = Synced (max l (add k p)) l' k'
onward add (Synced p l k) (Unsynced l' k') = Synced p (max l (later add k l')) (add k k')
onward add (Synced p l k) (Synced p' l' k') =
    let closed = max l (add k p') in Synced p (later add closed l') (add closed k')

-- an empty piece
abbrev pub fresh : Counters
fresh = Unsynced 0 0

-- adds instructions
abbrev pub ticked : Sum → ℕ → Counters → Counters
ticked add n (Unsynced l k) = Unsynced l (add k n)
ticked add n (Synced p l k) = Synced p l (add k n)

-- adds a child with this span: its path, with the charge for a child, may become the longest; then the continuation
-- gets its charge
abbrev pub forked : Sum → Burden → (child : ℕ) → Counters → Counters
forked add burden child (Unsynced l k) =
    Unsynced (max l (later add k (add (at_child burden) child))) (add k (at_rest burden))
forked add burden child (Synced p l k) =
    Synced p (max l (later add k (add (at_child burden) child))) (add k (at_rest burden))

-- a join: the first one ends the prefix; a later one leaves the heaviest path in the continuation
abbrev pub synced : Counters → Counters
synced (Unsynced l k) = Synced (max l k) 0 0
synced (Synced p l k) = Synced p 0 (max l k)

-- the weight of a heaviest path
abbrev pub heaviest : Sum → Counters → ℕ
heaviest add (Unsynced l k) = max l k
heaviest add (Synced p l k) = add p (max l k)

-- the same counters with saturation at a maximum
abbrev pub held : (greatest : ℕ) → Counters → Counters
held g (Unsynced l k) = Unsynced (min g l) (min g k)
held g (Synced p l k) = Synced (min g p) (min g l) (min g k)

-- the exact counters of one event
abbrev pub of_event : Burden → Event → Counters
of_event burden (Work k) = Unsynced 0 k
of_event burden (Series t) = Unsynced 0 (burdened_span burden t)
of_event burden (Fork t) = Unsynced (at_child burden + burdened_span burden t) (at_rest burden)
of_event burden Join = Synced 0 0 0

-- the exact counters of a list of events
abbrev pub of_events : Burden → List Event → Counters
of_events burden [] = fresh
of_events burden (e ∷ events) = onward exactly (of_event burden e) (of_events burden events)

-- exact counters give the burdened span of the tree of their events, and counters of two pieces compose
pub record CountersReadSpans : Type 0 where
  pub reads : (burden : Burden) (es : List Event)
      → heaviest exactly (of_events burden es) ≡ burdened_span burden (tree_of es)
  pub pieces : (burden : Burden) (es fs : List Event)
      → of_events burden (es ++ fs) ≡ onward exactly (of_events burden es) (of_events burden fs)
