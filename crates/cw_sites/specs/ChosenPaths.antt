-- The chosen path of a piece of one sync block, for one site.
use Rattle.std.specs.Prelude.{ℕ, ◌+◌, Bool, true, false, nat_lt, ◌==◌, List, [], ◌∷◌, Option, Some, None, sum_by}
use Rattle.std.specs.Prelude.{if◌then◌else◌}
use Rattle.cw_model.specs.Trees.{Tree, Leaf, Seq, Par, Marked, Event, Work, Series, Fork, Join}
use Rattle.cw_model.specs.Rows.{site_inside, weight_of_site}

-- the weight of a path, and the number of instructions of one site on it
pub record Path : Type 0 where
  pub weight : ℕ
  pub own : ℕ

-- the empty path
abbrev pub nowhere : Path
nowhere = record { weight = 0; own = 0 }

-- a path followed by another
abbrev pub plus : Path → Path → Path
plus a b = record { weight = a.weight + b.weight; own = a.own + b.own }

-- the second path if the test is true, otherwise the first
abbrev pub choose : Bool → Path → Path → Path
choose true a b = b
choose false a b = a

-- the heavier of two paths; the first if their weights are equal
abbrev pub heavier : Path → Path → Path
heavier a b = choose (nat_lt a.weight b.weight) a b

-- the path through these leaves, each given with its site
abbrev pub path_of : (site : ℕ) → List (ℕ × ℕ) → Path
path_of site leaves = record { weight = sum_by (λ leaf. leaf.1) leaves; own = weight_of_site site leaves }

-- `k` instructions of the site `here`
abbrev pub steps_of : (site here : ℕ) → ℕ → Path
steps_of site here k = record { weight = k; own = if here == site then k else 0 }

-- the chosen path of a tree: at a fork, it takes the child if the child is at least as heavy; `here` is the site of
-- the innermost invocation around the tree
abbrev pub chosen : (site here : ℕ) → Tree → Path
chosen site here (Leaf k) = steps_of site here k
chosen site here (Seq a b) = plus (chosen site here a) (chosen site here b)
chosen site here (Par child rest) = heavier (chosen site here child) (chosen site here rest)
chosen site here (Marked mark t) = chosen site (site_inside mark here) t

-- the paths of a piece of a block: up to its first join, through the longest child, and along the continuation
pub data PathCounters : Type 0 where
  Unsynced : (longest : Option Path) (continuation : Path) → PathCounters
  Synced : (prefix : Path) (longest : Option Path) (continuation : Path) → PathCounters

-- the longest child of a later piece, after a path
abbrev pub later : Path → Option Path → Option Path
later by None = None
later by (Some l) = Some (plus by l)

-- the heavier of two optional paths; the first if their weights are equal
abbrev pub either : Option Path → Option Path → Option Path
either None m = m
either (Some l) None = Some l
either (Some l) (Some m) = Some (heavier l m)

-- the heavier of an optional path and a path; the first if their weights are equal
abbrev pub best : Option Path → Path → Path
best None p = p
best (Some l) p = heavier l p

-- a piece followed by the next piece
abbrev pub onward : PathCounters → PathCounters → PathCounters
onward (Unsynced l k) (Unsynced l' k') = Unsynced (either l (later k l')) (plus k k')
onward (Unsynced l k) (Synced p l' k') = Synced (best l (plus k p)) l' k'
onward (Synced p l k) (Unsynced l' k') = Synced p (either l (later k l')) (plus k k')
onward (Synced p l k) (Synced p' l' k') = Synced p (later (best l (plus k p')) l') (plus (best l (plus k p')) k')

-- the counters of an empty piece
abbrev pub fresh : PathCounters
fresh = Unsynced None nowhere

-- the chosen path of a piece
abbrev pub reading : PathCounters → Path
reading (Unsynced l k) = best l k
reading (Synced p l k) = plus p (best l k)

-- the counters of one event
abbrev pub of_event : (site here : ℕ) → Event → PathCounters
of_event site here (Work k) = Unsynced None (steps_of site here k)
of_event site here (Series t) = Unsynced None (chosen site here t)
of_event site here (Fork t) = Unsynced (Some (chosen site here t)) nowhere
of_event site here Join = Synced nowhere None nowhere

-- the counters of a list of events
abbrev pub of_events : (site here : ℕ) → List Event → PathCounters
of_events site here [] = fresh
of_events site here (e ∷ events) = onward (of_event site here e) (of_events site here events)
