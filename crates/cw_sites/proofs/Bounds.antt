-- The paths of a run are at most its work.
use Rattle.std.specs.Prelude.{◌≡◌, ℕ, ◌+◌, ◌==◌, ◌≤◌, nat_lt, Bool, true, false, if◌then◌else◌, List, [], ◌∷◌, Option, Some, None, refl}
use Rattle.std.proofs.Common.{sym, ap, subst, inl, inr, arith}
use Rattle.std.proofs.lemmas.Bool.{cases_lt}
use Rattle.cw_model.specs.Trees.{Tree, Leaf, Seq, Par, Marked, Event, Work, Series, Fork, Join, tree_of, work, span}
use Rattle.cw_model.specs.Rows.{site_inside, is_site, leaves}
use Rattle.cw_model.specs.lemmas.Regrouping.{weight-append}
use Rattle.cw_measure.specs.OpenParts.{Open, work_in}
use Rattle.cw_measure.specs.Outermost.{outer_in}
use Rattle.cw_measure.specs.lemmas.OpenParts.{tree_in, adds_first, work_adds}
use Rattle.cw_measure.specs.lemmas.Outermost.{outer_in_within, work_bounds, span_bounds}
use Rattle.cw_sites.specs.ChosenPaths.{Path, nowhere, plus, heavier, best, steps_of, chosen}
use Rattle.cw_sites.specs.BlockPaths.{BlockPath, Straight, Split, now_of, extended, longest_of, child_ended, finished, after, after_all}
use Rattle.cw_sites.specs.StrandPaths.{SeenBlock, StrandPath, longest_path, sum_of, whole}
use Rattle.cw_sites.specs.OpenPaths.{here_in, enters, block_path, IsStackedOn, RestsOn, LiesUnder, Under, Shows}
use Rattle.cw_sites.specs.SiteRows.{own_tree, own_in}
use Rattle.cw_sites.specs.lemmas.ChosenPaths.{takes_first, takes_second}
use Rattle.cw_sites.specs.lemmas.SiteRows.{own_leaf}

-- a path is at most another path plus `k`
abbrev pub Within : (a b : Path) → ℕ → Type 0
Within a b k = (a.weight ≤ b.weight + k) × (a.own ≤ b.own + k)

steps_within : (site here k : ℕ) → Within (steps_of site here k) nowhere k
steps_within site here k = (omega arith, either (here == site) k)
  where
    either : (b : Bool) (k : ℕ) → (if b then k else 0) ≤ 0 + k
    either true k = omega arith
    either false k = omega arith

heavier_within : (a b : Path) (j k : ℕ) → Within a nowhere j → Within b nowhere k → Within (heavier a b) nowhere (j + k)
heavier_within a b j k g h = elim (cases_lt a.weight b.weight) [
  | inl less ↦ let P : Path → Type 0 = λ p. Within p nowhere (j + k) in subst P (sym (takes_second a b less)) (omega arith, omega arith)
  | inr more ↦ let P : Path → Type 0 = λ p. Within p nowhere (j + k) in subst P (sym (takes_first a b more)) (omega arith, omega arith)
]

chosen_within : (site here : ℕ) (t : Tree) → Within (chosen site here t) nowhere (work t)
chosen_within site here (Leaf k) = steps_within site here k
chosen_within site here (Seq a b) = let g = chosen_within site here a in let h = chosen_within site here b in (omega arith, omega arith)
chosen_within site here (Par child rest) = heavier_within (chosen site here child) (chosen site here rest) (work child) (work rest) (chosen_within site here child) (chosen_within site here rest)
chosen_within site here (Marked mark t) = chosen_within site (site_inside mark here) t

-- the sum of all paths of a block
abbrev pub total : BlockPath → Path
total (Straight n) = n
total (Split b l n) = plus (plus b (longest_path l)) n

total_extended : (p : Path) (L : BlockPath) (k : ℕ) → Within p nowhere k → Within (total (extended p L)) (total L) k
total_extended p (Straight n) k h = (omega arith, omega arith)
total_extended p (Split b l n) k h = (omega arith, omega arith)

total_longest : (x : Bool) (b l n c : Path) (k : ℕ) → Within c nowhere k → Within (total (longest_of x b l n c)) (plus (plus b l) n) k
total_longest true b l n c k h = (omega arith, omega arith)
total_longest false b l n c k h = (omega arith, omega arith)

total_ended : (c : Path) (L : BlockPath) (k : ℕ) → Within c nowhere k → Within (total (child_ended c L)) (total L) k
total_ended c (Straight n) k h = (omega arith, omega arith)
total_ended c (Split b None n) k h = (omega arith, omega arith)
total_ended c (Split b (Some l) n) k h = total_longest (nat_lt l.weight (n.weight + c.weight)) b l n c k h

best_within : (l : Option Path) (n : Path) → Within (best l n) (plus (longest_path l) n) 0
best_within None n = (omega arith, omega arith)
best_within (Some l) n = elim (cases_lt l.weight n.weight) [
  | inl less ↦ let P : Path → Type 0 = λ p. Within p (plus l n) 0 in subst P (sym (takes_second l n less)) (omega arith, omega arith)
  | inr more ↦ let P : Path → Type 0 = λ p. Within p (plus l n) 0 in subst P (sym (takes_first l n more)) (omega arith, omega arith)
]

total_finished : (L : BlockPath) → Within (finished L) (total L) 0
total_finished (Straight n) = (omega arith, omega arith)
total_finished (Split b l n) = let h = best_within l n in (omega arith, omega arith)

total_after : (site here : ℕ) (L : BlockPath) (e : Event) → Within (total (after site here L e)) (total L) (work (tree_in e))
total_after site here L (Work k) = total_extended (steps_of site here k) L k (steps_within site here k)
total_after site here L (Series t) = total_extended (chosen site here t) L (work t) (chosen_within site here t)
total_after site here L (Fork t) = total_ended (chosen site here t) L (work t) (chosen_within site here t)
total_after site here L Join = total_finished L

-- the sum of the work of events
abbrev pub sum_of_works : List Event → ℕ
sum_of_works [] = 0
sum_of_works (e ∷ es) = work (tree_in e) + sum_of_works es

total_all : (site here : ℕ) (L : BlockPath) (es : List Event) → Within (total (after_all site here L es)) (total L) (sum_of_works es)
total_all site here L [] = (omega arith, omega arith)
total_all site here L (e ∷ es) = let g = total_after site here L e in let h = total_all site here (after site here L e) es in (omega arith, omega arith)

works-is : (es : List Event) → sum_of_works es ≡ work (tree_of es)
works-is [] = refl
works-is (e ∷ es) = let a = adds_first work work_adds e es in let b = works-is es in omega arith

-- the path at the start of a run's innermost open part, or the empty path
abbrev pub start_of : (site base : ℕ) → List Open → Path
start_of site base [] = nowhere
start_of site base (o ∷ os) = now_of (enters o.spawned (block_path site base os o.outer))

enters_total : (b : Bool) (L : BlockPath) → total (enters b L) ≡ now_of (enters b L)
enters_total true L = refl
enters_total false L = refl

total_local : (site base : ℕ) (os : List Open) (es : List Event) → Within (total (block_path site base os es)) (start_of site base os) (work (tree_of es))
total_local site base [] es = let g = total_all site base (Straight nowhere) es in let w = works-is es in (omega arith, omega arith)
total_local site base (o ∷ os) es =
    let L = enters o.spawned (block_path site base os o.outer) in
    let g = total_all site (here_in base (o ∷ os)) L es in
    let w = works-is es in
    let a = ap (λ (p : Path). p.weight) (enters_total o.spawned (block_path site base os o.outer)) in
    let b = ap (λ (p : Path). p.own) (enters_total o.spawned (block_path site base os o.outer)) in (omega arith, omega arith)

-- the blocks hold the paths of a block, except the current path, and the paths of the blocks below
stands_sum : (below : List SeenBlock → Type 0) (L : BlockPath) (ps : List SeenBlock) (start : Path) (k : ℕ)
    → ((qs : List SeenBlock) → below qs → Within (plus (sum_of qs) start) nowhere k) → (j : ℕ) → Within (total L) start j → IsStackedOn below L ps
    → Within (plus (sum_of ps) (now_of L)) nowhere (j + k)
stands_sum below (Straight n) ps start k bound j t h = let b = bound ps h in (omega arith, omega arith)
stands_sum below (Split b l n) [] start k bound j t h = absurd h
stands_sum below (Split b l n) (p ∷ ps) start k bound j t h =
    let q = bound ps h.3 in
    let bw = ap (λ (x : Path). x.weight) h.0 in let bo = ap (λ (x : Path). x.own) h.0 in
    let lw = ap (λ (x : Option Path). (longest_path x).weight) h.1 in let lo = ap (λ (x : Option Path). (longest_path x).own) h.1 in
    let rw' = ap (λ (x : Path). x.weight) h.2 in let ro = ap (λ (x : Path). x.own) h.2 in (omega arith, omega arith)

rests_sum : (below : List SeenBlock → Type 0) (L : BlockPath) (ps : List SeenBlock) (start : Path) (k : ℕ)
    → ((qs : List SeenBlock) → below qs → Within (plus (sum_of qs) start) nowhere k) → (j : ℕ) → Within (total L) start j → RestsOn below L ps
    → Within (sum_of ps) nowhere (j + k)
rests_sum below L [] start k bound j t h = absurd h
rests_sum below (Straight n) (p ∷ ps) start k bound j t h =
    let q = bound ps h.3 in
    let bw = ap (λ (x : Path). x.weight) h.0 in let bo = ap (λ (x : Path). x.own) h.0 in
    let lw = ap (λ (x : Option Path). (longest_path x).weight) h.1 in let lo = ap (λ (x : Option Path). (longest_path x).own) h.1 in
    let rw' = ap (λ (x : Path). x.weight) h.2 in let ro = ap (λ (x : Path). x.own) h.2 in (omega arith, omega arith)
rests_sum below (Split b l n) (p ∷ ps) start k bound j t h =
    let q = bound ps h.3 in
    let bw = ap (λ (x : Path). x.weight) h.0 in let bo = ap (λ (x : Path). x.own) h.0 in
    let lw = ap (λ (x : Option Path). (longest_path x).weight) h.1 in let lo = ap (λ (x : Option Path). (longest_path x).own) h.1 in
    let rw' = ap (λ (x : Path). x.weight) h.2 in let ro = ap (λ (x : Path). x.own) h.2 in (omega arith, omega arith)

-- the work of the enclosing blocks
abbrev pub work_round : List Open → ℕ
work_round [] = 0
work_round (o ∷ os) = work_in os o.outer

round-is : (os : List Open) (es : List Event) → work_in os es ≡ work (tree_of es) + work_round os
round-is [] es = omega arith
round-is (o ∷ os) es = refl

lies_sum : (b : Bool) (below : List SeenBlock → Type 0) (L : BlockPath) (ps : List SeenBlock) (start : Path) (k : ℕ)
    → ((qs : List SeenBlock) → below qs → Within (plus (sum_of qs) start) nowhere k) → (j w : ℕ) → w ≡ j + k → Within (total L) start j
    → LiesUnder b below L ps → Within (plus (sum_of ps) (now_of (enters b L))) nowhere w
lies_sum true below L ps start k bound j w e t h = let s = rests_sum below L ps start k bound j t h in (omega arith, omega arith)
lies_sum false below L ps start k bound j w e t h = let s = stands_sum below L ps start k bound j t h in (omega arith, omega arith)

under_sum : (site base : ℕ) (os : List Open) (ps : List SeenBlock) → Under site base os ps → Within (plus (sum_of ps) (start_of site base os)) nowhere (work_round os)
under_sum site base [] ps h = let w = ap (λ (x : List SeenBlock). (sum_of x).weight) h in let o = ap (λ (x : List SeenBlock). (sum_of x).own) h in (omega arith, omega arith)
under_sum site base (o ∷ os) ps h =
    let bound : (qs : List SeenBlock) → Under site base os qs → Within (plus (sum_of qs) (start_of site base os)) nowhere (work_round os) = λ qs k. under_sum site base os qs k in
    let t = total_local site base os o.outer in
    let s = round-is os o.outer in
    lies_sum o.spawned (Under site base os) (block_path site base os o.outer) ps (start_of site base os) (work_round os) bound (work (tree_of o.outer)) (work_in os o.outer) s t h

-- the paths of a run are at most its work
pub whole_within : (site base : ℕ) (os : List Open) (es : List Event) (t : StrandPath) → Shows site base os es t → Within (whole t) nowhere (work_in os es)
whole_within site base os es t h =
    let bound : (qs : List SeenBlock) → Under site base os qs → Within (plus (sum_of qs) (start_of site base os)) nowhere (work_round os) = λ qs k. under_sum site base os qs k in
    let s = stands_sum (Under site base os) (block_path site base os es) t.blocks (start_of site base os) (work_round os) bound (work (tree_of es)) (total_local site base os es) h.blocks_are in
    let r = round-is os es in
    let nw = ap (λ (x : Path). x.weight) h.now_is in let no = ap (λ (x : Path). x.own) h.now_is in (omega arith, omega arith)

-- the instructions of a site, and the sums over its invocations, are at most the work
own_within : (site here : ℕ) (t : Tree) → own_tree site here t ≤ work t
own_within site here (Leaf k) = let e = own_leaf site here k in let s = steps_within site here k in omega arith
own_within site here (Seq a b) = let e = weight-append site (leaves here a) (leaves here b) in let g = own_within site here a in let h = own_within site here b in omega arith
own_within site here (Par a b) = let e = weight-append site (leaves here a) (leaves here b) in let g = own_within site here a in let h = own_within site here b in omega arith
own_within site here (Marked mark t) = own_within site (site_inside mark here) t

pub own_in_within : (site base : ℕ) (os : List Open) (es : List Event) → own_in site base os es ≤ work_in os es
own_in_within site base [] es = own_within site base (tree_of es)
own_in_within site base (o ∷ os) es = let g = own_within site (here_in base (o ∷ os)) (tree_of es) in let h = own_in_within site base os o.outer in omega arith

pub works_within : (site busy : ℕ) (os : List Open) (es : List Event) → outer_in work (is_site site) busy os es ≤ work_in os es
works_within site busy os es = outer_in_within work work work_bounds (is_site site) busy os es

pub spans_within : (site busy : ℕ) (os : List Open) (es : List Event) → outer_in span (is_site site) busy os es ≤ work_in os es
spans_within site busy os es = outer_in_within span work span_bounds (is_site site) busy os es
