-- Lemmas about blocks: the paths of a block represent the paths of its events.
use Rattle.std.specs.Prelude.{◌≡◌, ℕ, ◌+◌, ◌≤◌, ◌<◌, List, [], ◌∷◌, Option, Some, None}
use Rattle.std.proofs.Common.{sym, ◌∙◌, ap, subst, inl, inr, arith}
use Rattle.std.proofs.lemmas.Bool.{cases_lt}
use Rattle.std.proofs.lemmas.Bool.Decides.{nat_tests}
use Rattle.cw_model.specs.Trees.{Event, Work, Series, Fork, Join, tree_of}
use Rattle.cw_sites.specs.ChosenPaths.{Path, nowhere, plus, heavier, steps_of, chosen, PathCounters, Unsynced, Synced}
use Rattle.cw_sites.specs.ChosenPaths.{either, best, onward, fresh, reading, of_event, of_events}
use Rattle.cw_sites.specs.BlockPaths.{BlockPath, Straight, Split, extended, child_ended, finished, after, after_all}
use Rattle.cw_sites.specs.lemmas.ChosenPaths.{plus-assoc, plus-nowhere_last, takes_first, takes_second, plus-heavier}
use Rattle.cw_sites.specs.lemmas.ChosenPaths.{either-none, onward-assoc, onward-fresh_first, onward-fresh_last}
use Rattle.cw_sites.specs.lemmas.ChosenPaths.{reading-of_events}

-- the paths represent counters whose continuation begins after a path
abbrev pub RepresentsFrom : (start : Path) (longest : Option Path) (continuation : Path) → BlockPath → Type 0
RepresentsFrom f None k (Straight n) = plus f k ≡ n
RepresentsFrom f None k (Split b l n) = ⊥
RepresentsFrom f (Some l) k (Straight n) = ⊥
RepresentsFrom f (Some l) k (Split b None n) = ⊥
RepresentsFrom f (Some l) k (Split b (Some c) n) = (plus f l ≡ plus b c) × (plus f k ≡ plus b n)

abbrev pub RepresentsCounters : (before : Path) → PathCounters → BlockPath → Type 0
RepresentsCounters before (Unsynced l k) L = RepresentsFrom before l k L
RepresentsCounters before (Synced p l k) L = RepresentsFrom (plus before p) l k L

pub stands_extended : (f : Path) (l : Option Path) (k p : Path) (L : BlockPath) → RepresentsFrom f l k L
    → RepresentsFrom f l (plus k p) (extended p L)
stands_extended f None k p (Straight n) h = sym (plus-assoc f k p) ∙ ap (λ (x : Path). plus x p) h
stands_extended f None k p (Split b l n) h = absurd h
stands_extended f (Some l) k p (Straight n) h = absurd h
stands_extended f (Some l) k p (Split b None n) h = absurd h
stands_extended f (Some l) k p (Split b (Some c) n) h =
    (h.0, sym (plus-assoc f k p) ∙ ap (λ (x : Path). plus x p) h.1 ∙ plus-assoc b n p)

pub takes_later : (b l n c : Path) → l.weight < n.weight + c.weight
    → child_ended c (Split b (Some l) n) ≡ Split (plus b n) (Some c) nowhere
takes_later b l n c h = grind (arith, nat_tests)

pub keeps_longest : (b l n c : Path) → n.weight + c.weight ≤ l.weight
    → child_ended c (Split b (Some l) n) ≡ Split b (Some l) n
keeps_longest b l n c h = grind (arith, nat_tests)

weights : (f l k b c n d : Path) → plus f l ≡ plus b c → plus f k ≡ plus b n
    → (f.weight + l.weight ≡ b.weight + c.weight) × (f.weight + k.weight ≡ b.weight + n.weight)
weights f l k b c n d g h = (ap (λ (p : Path). p.weight) g, ap (λ (p : Path). p.weight) h)

pub stands_forked : (f : Path) (l : Option Path) (k c : Path) (L : BlockPath) → RepresentsFrom f l k L
    → RepresentsFrom f (either l (Some (plus k c))) k (child_ended c L)
stands_forked f None k c (Straight n) h =
    (sym (plus-assoc f k c) ∙ ap (λ (x : Path). plus x c) h, h ∙ sym (plus-nowhere_last n))
stands_forked f None k c (Split b l n) h = absurd h
stands_forked f (Some l) k c (Straight n) h = absurd h
stands_forked f (Some l) k c (Split b None n) h = absurd h
stands_forked f (Some l) k c (Split b (Some d) n) h =
    let w = weights f l k b d n c h.0 h.1 in
    elim (cases_lt d.weight (n.weight + c.weight)) [
      | inl less ↦
          let P : BlockPath → Type 0 = λ L. RepresentsFrom f (Some (heavier l (plus k c))) k L in
          let Q : Path → Type 0 = λ p. RepresentsFrom f (Some p) k (Split (plus b n) (Some c) nowhere) in
          subst P (sym (takes_later b d n c less)) (subst Q (sym (takes_second l (plus k c) (omega arith)))
          (sym (plus-assoc f k c) ∙ ap (λ (x : Path). plus x c) h.1, h.1 ∙ sym (plus-nowhere_last (plus b n))))
      | inr more ↦
          let P : BlockPath → Type 0 = λ L. RepresentsFrom f (Some (heavier l (plus k c))) k L in
          let Q : Path → Type 0 = λ p. RepresentsFrom f (Some p) k (Split b (Some d) n) in
          subst P (sym (keeps_longest b d n c more)) (subst Q (sym (takes_first l (plus k c) (omega arith))) h)
    ]

stands_finished : (f : Path) (l : Option Path) (k : Path) (L : BlockPath) → RepresentsFrom f l k L
    → plus f (best l k) ≡ finished L
stands_finished f None k (Straight n) h = h
stands_finished f None k (Split b l n) h = absurd h
stands_finished f (Some l) k (Straight n) h = absurd h
stands_finished f (Some l) k (Split b None n) h = absurd h
stands_finished f (Some l) k (Split b (Some d) n) h =
    plus-heavier f l k ∙ ap (λ (x : Path). heavier x (plus f k)) h.0 ∙ ap (heavier (plus b d)) h.1 ∙ sym
    (plus-heavier b d n)

one_more : (site here : ℕ) (before : Path) (w : PathCounters) (L : BlockPath) (e : Event) → RepresentsCounters before w L
    → RepresentsCounters before (onward w (of_event site here e)) (after site here L e)
one_more site here before (Unsynced l k) L (Work n) h =
    let P : Option Path
    → Type 0 = λ x. RepresentsFrom before x (plus k (steps_of site here n)) (extended (steps_of site here n) L) in subst P
    (sym (either-none l)) (stands_extended before l k (steps_of site here n) L h)
one_more site here before (Synced p l k) L (Work n) h =
    let P : Option Path
    → Type 0 = λ x. RepresentsFrom (plus before p) x (plus k (steps_of site here n)) (extended (steps_of site here n) L) in
    subst P (sym (either-none l)) (stands_extended (plus before p) l k (steps_of site here n) L h)
one_more site here before (Unsynced l k) L (Series t) h =
    let P : Option Path
    → Type 0 = λ x. RepresentsFrom before x (plus k (chosen site here t)) (extended (chosen site here t) L) in subst P
    (sym (either-none l)) (stands_extended before l k (chosen site here t) L h)
one_more site here before (Synced p l k) L (Series t) h =
    let P : Option Path
    → Type 0 = λ x. RepresentsFrom (plus before p) x (plus k (chosen site here t)) (extended (chosen site here t) L) in
    subst P (sym (either-none l)) (stands_extended (plus before p) l k (chosen site here t) L h)
one_more site here before (Unsynced l k) L (Fork t) h =
    let P : Path
    → Type 0 = λ x. RepresentsFrom before (either l (Some (plus k (chosen site here t)))) x
    (child_ended (chosen site here t) L) in subst P (sym (plus-nowhere_last k))
    (stands_forked before l k (chosen site here t) L h)
one_more site here before (Synced p l k) L (Fork t) h =
    let P : Path
    → Type 0 = λ x. RepresentsFrom (plus before p) (either l (Some (plus k (chosen site here t)))) x
    (child_ended (chosen site here t) L) in subst P (sym (plus-nowhere_last k))
    (stands_forked (plus before p) l k (chosen site here t) L h)
one_more site here before (Unsynced l k) L Join h =
    plus-nowhere_last (plus before (best l (plus k nowhere))) ∙ ap (λ (x : Path). plus before (best l x))
    (plus-nowhere_last k) ∙ stands_finished before l k L h
one_more site here before (Synced p l k) L Join h =
    ap (plus (plus before p)) (plus-nowhere_last (best l (plus k nowhere))) ∙ ap
    (λ (x : Path). plus (plus before p) (best l x)) (plus-nowhere_last k) ∙ stands_finished (plus before p) l k L h

pub all_more : (site here : ℕ) (before : Path) (w : PathCounters) (L : BlockPath) (es : List Event)
    → RepresentsCounters before w L → RepresentsCounters before (onward w (of_events site here es)) (after_all site here L es)
all_more site here before w L [] h =
    let P : PathCounters → Type 0 = λ x. RepresentsCounters before x L in subst P (sym (onward-fresh_last w)) h
all_more site here before w L (e ∷ es) h =
    let P : PathCounters → Type 0 = λ x. RepresentsCounters before x (after_all site here (after site here L e) es) in
    subst P (onward-assoc w (of_event site here e) (of_events site here es))
    (all_more site here before (onward w (of_event site here e)) (after site here L e) es
    (one_more site here before w L e h))

pub stands_reading : (before : Path) (w : PathCounters) (L : BlockPath) → RepresentsCounters before w L
    → plus before (reading w) ≡ finished L
stands_reading before (Unsynced l k) L h = stands_finished before l k L h
stands_reading before (Synced p l k) L h =
    sym (plus-assoc before p (best l k)) ∙ stands_finished (plus before p) l k L h

-- the law of a block: it adds the chosen path of its tree to the path before
pub finished-after_all : (site here : ℕ) (before : Path) (es : List Event)
    → finished (after_all site here (Straight before) es) ≡ plus before (chosen site here (tree_of es))
finished-after_all site here before es =
    let begun : RepresentsCounters before fresh (Straight before) = plus-nowhere_last before in
    let all = all_more site here before fresh (Straight before) es begun in
    sym (stands_reading before (onward fresh (of_events site here es)) (after_all site here (Straight before) es) all)
    ∙ ap (λ (w : PathCounters). plus before (reading w)) (onward-fresh_first (of_events site here es))
    ∙ ap (plus before) (reading-of_events site here es)
