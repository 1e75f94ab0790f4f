-- Lemmas about runs so far: sums over the parts of a tree, and whether a block has spawned.
use Rattle.std.specs.Prelude.{◌≡◌, ℕ, ◌+◌, ◌-◌, Bool, true, false, List, [], ◌∷◌, ◌++◌, Option, Some, None, refl}
use Rattle.std.proofs.Common.{sym, ◌∙◌, ap, subst, arith}
use Rattle.std.proofs.lemmas.List.{append-nil}
use Rattle.cw_model.specs.Trees.{Mark, Tree, Leaf, Seq, Par, Event, Work, Series, Fork, Join, tree_of, parts_of, work}
use Rattle.cw_measure.specs.OpenParts.{Open, marked, part_of, event_of, closed, spawned_after, has_spawned_from}
use Rattle.cw_measure.specs.OpenParts.{has_spawned, IsSince, sum_in, work_in}

-- a sum over the parts of a tree
pub record Adds (F : Tree → ℕ) : Type 0 where
  pub nothing : F (Leaf 0) ≡ 0
  pub series : (a b : Tree) → F (Seq a b) ≡ F a + F b
  pub fork : (a b : Tree) → F (Par a b) ≡ F a + F b

-- the part that an event adds to the tree
abbrev pub tree_in : Event → Tree
tree_in (Work k) = Leaf k
tree_in (Series t) = t
tree_in (Fork t) = t
tree_in Join = Leaf 0

pub adds_first : (F : Tree → ℕ) (A : Adds F) (e : Event) (es : List Event)
    → F (tree_of (e ∷ es)) ≡ F (tree_in e) + F (tree_of es)
adds_first F A (Work k) es =
    let a = A.series (Seq (Leaf k) (parts_of es).0) (parts_of es).1 in let b = A.series (Leaf k) (parts_of es).0 in let
    c = A.series (parts_of es).0 (parts_of es).1 in omega arith
adds_first F A (Series t) es =
    let a = A.series (Seq t (parts_of es).0) (parts_of es).1 in let b = A.series t (parts_of es).0 in let c = A.series
    (parts_of es).0 (parts_of es).1 in omega arith
adds_first F A (Fork t) es =
    let a = A.series (Par t (parts_of es).0) (parts_of es).1 in let b = A.fork t (parts_of es).0 in let c = A.series
    (parts_of es).0 (parts_of es).1 in omega arith
adds_first F A Join es =
    let a = A.series (Leaf 0) (Seq (parts_of es).0 (parts_of es).1) in let z = A.nothing in let c = A.series
    (parts_of es).0 (parts_of es).1 in omega arith

pub adds_none : (F : Tree → ℕ) (A : Adds F) → F (tree_of []) ≡ 0
adds_none F A = let a = A.series (Leaf 0) (Leaf 0) in let b = A.nothing in omega arith

pub adds_more : (F : Tree → ℕ) (A : Adds F) (es : List Event) (e : Event)
    → F (tree_of (es ++ e ∷ [])) ≡ F (tree_of es) + F (tree_in e)
adds_more F A [] e = let a = adds_first F A e [] in let b = adds_none F A in omega arith
adds_more F A (d ∷ es) e =
    let a = adds_first F A d (es ++ e ∷ []) in let b = adds_more F A es e in let c = adds_first F A d es in omega arith

pub adds_append : (F : Tree → ℕ) (A : Adds F) (es fs : List Event)
    → F (tree_of (es ++ fs)) ≡ F (tree_of es) + F (tree_of fs)
adds_append F A [] fs = let b = adds_none F A in omega arith
adds_append F A (d ∷ es) fs =
    let a = adds_first F A d (es ++ fs) in let b = adds_append F A es fs in let c = adds_first F A d es in omega arith

-- one more event in the current block
pub sum_more : (F : Tree → ℕ) (A : Adds F) (os : List Open) (es : List Event) (e : Event)
    → sum_in F os (es ++ e ∷ []) ≡ sum_in F os es + F (tree_in e)
sum_more F A [] es e = adds_more F A es e
sum_more F A (o ∷ os) es e = let a = adds_more F A es e in omega arith

-- more events in the current block
pub sum_append : (F : Tree → ℕ) (A : Adds F) (os : List Open) (es fs : List Event)
    → sum_in F os (es ++ fs) ≡ sum_in F os es + F (tree_of fs)
sum_append F A [] es fs = adds_append F A es fs
sum_append F A (o ∷ os) es fs = let a = adds_append F A es fs in omega arith

-- the start and the end of a part
pub sum_begun : (F : Tree → ℕ) (A : Adds F) (o : Open) (os : List Open) → sum_in F (o ∷ os) [] ≡ sum_in F os o.outer
sum_begun F A o os = let a = adds_none F A in omega arith

pub tree_in-part_of : (b : Bool) (t : Tree) → tree_in (part_of b t) ≡ t
tree_in-part_of true t = refl
tree_in-part_of false t = refl

pub sum_ended : (F : Tree → ℕ) (A : Adds F) (o : Open) (os : List Open) (es : List Event)
    → sum_in F os (closed o es) ≡ F (marked o.mark (tree_of es)) + sum_in F os o.outer
sum_ended F A o os es =
    let a = sum_more F A os o.outer (event_of o es) in let b = ap F
    (tree_in-part_of o.spawned (marked o.mark (tree_of es))) in omega arith

pub work_adds : Adds work
work_adds = record { nothing = refl; series = λ a b. refl; fork = λ a b. refl }

pub work_marked : (mark : Option Mark) (t : Tree) → work (marked mark t) ≡ work t
work_marked None t = refl
work_marked (Some m) t = refl

pub work_more : (os : List Open) (es : List Event) (e : Event)
    → work_in os (es ++ e ∷ []) ≡ work_in os es + work (tree_in e)
work_more os es e = sum_more work work_adds os es e

pub work_append : (os : List Open) (es fs : List Event) → work_in os (es ++ fs) ≡ work_in os es + work (tree_of fs)
work_append os es fs = sum_append work work_adds os es fs

pub left_work : (o : Open) (os : List Open) (es : List Event) → work_in os (closed o es) ≡ work_in (o ∷ os) es
left_work o os es = let a = sum_ended work work_adds o os es in let b = work_marked o.mark (tree_of es) in omega arith

-- lists of events
pub append_one : (es : List Event) (e : Event) (fs : List Event) → es ++ e ∷ fs ≡ (es ++ e ∷ []) ++ fs
append_one [] e fs = refl
append_one (d ∷ es) e fs = ap (λ (x : List Event). d ∷ x) (append_one es e fs)

-- the work of a concatenation of events is the sum of their work
pub work-append : (a b : List Event) → work (tree_of (a ++ b)) ≡ work (tree_of a) + work (tree_of b)
work-append [] b = omega arith
work-append (Work k ∷ a) b = let more = work-append a b in omega arith
work-append (Series t ∷ a) b = let more = work-append a b in omega arith
work-append (Fork t ∷ a) b = let more = work-append a b in omega arith
work-append (Join ∷ a) b = let more = work-append a b in omega arith

-- whether a block has spawned
pub spawned_append : (b : Bool) (es fs : List Event)
    → has_spawned_from b (es ++ fs) ≡ has_spawned_from (has_spawned_from b es) fs
spawned_append b [] fs = refl
spawned_append b (e ∷ es) fs = spawned_append (spawned_after b e) es fs

pub has_spawned-work : (es : List Event) (k : ℕ) → has_spawned (es ++ Work k ∷ []) ≡ has_spawned es
has_spawned-work es k = spawned_append false es (Work k ∷ [])

pub has_spawned-join : (es : List Event) → has_spawned es ≡ false → has_spawned (es ++ Join ∷ []) ≡ has_spawned es
has_spawned-join es h = spawned_append false es (Join ∷ []) ∙ sym h

since_keeps : (b : Bool) (fs : List Event) (k : ℕ) → IsSince b fs k → has_spawned_from b fs ≡ b
since_keeps b [] k s = refl
since_keeps b (Work j ∷ fs) k s = since_keeps b fs (k - j) s.1
since_keeps b (Join ∷ fs) k s =
    let S : Bool → Type 0 = λ x. IsSince x fs k in since_keeps false fs k (subst S s.0 s.1) ∙ sym s.0
since_keeps b (Series u ∷ fs) k s = absurd s
since_keeps b (Fork u ∷ fs) k s = absurd s

pub has_spawned_since : (es fs : List Event) (k : ℕ) → IsSince (has_spawned es) fs k
    → has_spawned (es ++ fs) ≡ has_spawned es
has_spawned_since es fs k s = spawned_append false es fs ∙ since_keeps (has_spawned es) fs k s

-- a property of a run so far and a number of instructions holds after further events if each event preserves it
pub record KeptBy (P : List Event → ℕ → Type 0) : Type 0 where
  pub work : (es : List Event) (n k : ℕ) → P es n → P (es ++ Work k ∷ []) (n + k)
  pub join : (es : List Event) (n : ℕ) → has_spawned es ≡ false → P es n → P (es ++ Join ∷ []) n

pub kept_since : (P : List Event → ℕ → Type 0) (K : KeptBy P) (es fs : List Event) (n k : ℕ)
    → IsSince (has_spawned es) fs k → P es n → P (es ++ fs) (n + k)
kept_since P K es [] n k s h =
    let z : n ≡ n + k = omega (arith, s) in
    let Q : ℕ → Type 0 = λ x. P (es ++ []) x in
    let R : List Event → Type 0 = λ x. P x n in subst Q z (subst R (sym (append-nil es)) h)
kept_since P K es (Work j ∷ fs) n k s h =
    let S : Bool → Type 0 = λ x. IsSince x fs (k - j) in
    let i =
    kept_since P K (es ++ Work j ∷ []) fs (n + j) (k - j) (subst S (sym (has_spawned-work es j)) s.1)
    (K.work es n j h) in
    let le = s.0 in
    let z : (n + j) + (k - j) ≡ n + k = omega arith in
    let Q : ℕ → Type 0 = λ x. P (es ++ Work j ∷ fs) x in
    let R : List Event → Type 0 =
    λ x. P x ((n + j) + (k - j)) in subst Q z (subst R (sym (append_one es (Work j) fs)) i)
kept_since P K es (Join ∷ fs) n k s h =
    let S : Bool → Type 0 = λ x. IsSince x fs k in
    let i = kept_since P K (es ++ Join ∷ []) fs n k (subst S (sym (has_spawned-join es s.0)) s.1) (K.join es n s.0 h) in
    let R : List Event → Type 0 = λ x. P x (n + k) in subst R (sym (append_one es Join fs)) i
kept_since P K es (Series u ∷ fs) n k s h = absurd s
kept_since P K es (Fork u ∷ fs) n k s h = absurd s

pub work_since : (os : List Open) (es fs : List Event) (k : ℕ) → IsSince (has_spawned es) fs k
    → work_in os (es ++ fs) ≡ work_in os es + k
work_since os es fs k s =
    let P : List Event → ℕ → Type 0 = λ x n. work_in os x ≡ work_in os es + n in
    let K : KeptBy P = record {
      work = λ x n j h. let a = work_more os x (Work j) in omega arith;
      join = λ x n e h. let a = work_more os x Join in omega arith;
    } in
    kept_since P K es fs 0 k s (omega arith) ∙ omega arith

-- after a join, nothing is spawned
pub spawned_joined : (es : List Event) → has_spawned (es ++ Join ∷ []) ≡ false
spawned_joined es = spawned_append false es (Join ∷ [])
