-- Lemmas about rows of call sites: the calls of a run, and the path as a reading along parts.
use Rattle.std.specs.Prelude.{◌≡◌, ℕ, zero, ◌+◌, ◌==◌, Bool, true, false, if◌then◌else◌, List, [], ◌∷◌, ◌++◌, Option}
use Rattle.std.specs.Prelude.{Some, None, refl}
use Rattle.std.proofs.Common.{sym, ◌∙◌, ap, arith}
use Rattle.cw_model.specs.Trees.{Mark, Tree, Leaf, Event, tree_of, work, span}
use Rattle.cw_model.specs.Rows.{is_site, leaves, calls_of}
use Rattle.cw_model.specs.lemmas.Regrouping.{weight-append}
use Rattle.cw_measure.specs.OpenParts.{Open, marked, event_of, closed, has_spawned, work_in}
use Rattle.cw_measure.specs.Outermost.{is_counted, one_if, Meters}
use Rattle.cw_measure.specs.lemmas.OpenParts.{Adds, tree_in, adds_none, adds_more, tree_in-part_of, adds_append}
use Rattle.cw_measure.specs.lemmas.Outermost.{counts_other, counts_other_left}
use Rattle.cw_sites.specs.declared.rows.Row.{Row}
use Rattle.cw_sites.specs.ChosenPaths.{steps_of}
use Rattle.cw_sites.specs.BlockPaths.{BlockPath, Straight, now_of}
use Rattle.cw_sites.specs.OpenPaths.{inside, here_in, enters, block_path, path_in}
use Rattle.cw_sites.specs.SiteRows.{calls_in, own_tree, own_in, work_tally, span_tally, CountsSite}
use Rattle.cw_sites.specs.lemmas.ChosenPaths.{chosen-weight}
use Rattle.cw_sites.specs.lemmas.OpenPaths.{ended_path}

-- over a part, the weight of the path grows by the part's span
enters_is : (b : Bool) (L : BlockPath) → enters b L ≡ Straight (now_of (enters b L))
enters_is true L = refl
enters_is false L = refl

span_marked : (mark : Option Mark) (t : Tree) → span (marked mark t) ≡ span t
span_marked None t = refl
span_marked (Some m) t = refl

ended_weight : (site base : ℕ) (o : Open) (os : List Open) (es : List Event) → has_spawned es ≡ false
    → path_in site base (o ∷ os) es ≡ path_in site base (o ∷ os) [] + span (tree_of es)
ended_weight site base o os es f =
    let before = now_of (enters o.spawned (block_path site base os o.outer)) in
    let p =
    ap (λ (L : BlockPath). (now_of L).weight)
    (ended_path site base o os es before (enters_is o.spawned (block_path site base os o.outer)) f) in
    let w = chosen-weight site (here_in base os) (marked o.mark (tree_of es)) in
    let s = span_marked o.mark (tree_of es) in omega arith

pub path_meters : (site base : ℕ) → Meters span (path_in site base)
path_meters site base = record {
  in_mark = λ m t. refl;
  at_begin = λ mark os es. refl;
  at_end = ended_weight site base;
}

-- the sums in rows
pub calls_adds : (site : ℕ) → Adds (calls_of site)
calls_adds site = record { nothing = refl; series = λ a b. refl; fork = λ a b. refl }

abbrev pub steps_if : Bool → ℕ → ℕ
steps_if b k = if b then k else 0

pub own_leaf : (site here k : ℕ) → own_tree site here (Leaf k) ≡ (steps_of site here k).own
own_leaf site here k = grind arith

none_either : (b : Bool) → (steps_if b 0) ≡ zero
none_either true = refl
none_either false = refl

pub own_nothing : (site here : ℕ) → own_tree site here (Leaf 0) ≡ 0
own_nothing site here = own_leaf site here 0 ∙ none_either (here == site)

pub own_adds : (site here : ℕ) → Adds (own_tree site here)
own_adds site here = record {
  nothing = own_nothing site here;
  series = λ a b. weight-append site (leaves here a) (leaves here b);
  fork = λ a b. weight-append site (leaves here a) (leaves here b);
}

-- more events in the current block
pub calls_append : (site : ℕ) (os : List Open) (es fs : List Event)
    → calls_in site os (es ++ fs) ≡ calls_in site os es + calls_of site (tree_of fs)
calls_append site [] es fs = adds_append (calls_of site) (calls_adds site) es fs
calls_append site (o ∷ os) es fs = let a = adds_append (calls_of site) (calls_adds site) es fs in omega arith

pub calls_more : (site : ℕ) (os : List Open) (es : List Event) (e : Event)
    → calls_in site os (es ++ e ∷ []) ≡ calls_in site os es + calls_of site (tree_in e)
calls_more site [] es e = adds_more (calls_of site) (calls_adds site) es e
calls_more site (o ∷ os) es e = let a = adds_more (calls_of site) (calls_adds site) es e in omega arith

pub own_more : (site base : ℕ) (os : List Open) (es : List Event) (e : Event)
    → own_in site base os (es ++ e ∷ []) ≡ own_in site base os es + own_tree site (here_in base os) (tree_in e)
own_more site base [] es e = adds_more (own_tree site base) (own_adds site base) es e
own_more site base (o ∷ os) es e =
    let a = adds_more (own_tree site (here_in base (o ∷ os))) (own_adds site (here_in base (o ∷ os))) es e in omega
    arith

-- a part that is no invocation of the site begins
pub row_other : (site base busy : ℕ) (o : Open) (os : List Open) (r : Row) → is_counted (is_site site) o.mark ≡ false
    → CountsSite site base busy os o.outer r → CountsSite site base busy (o ∷ os) [] r
row_other site base busy o os r e h =
    let n : one_if (is_counted (is_site site) o.mark) ≡ 0 = ap one_if e in
    record {
      calls_is = let b = h.calls_is in let a = adds_none (calls_of site) (calls_adds site) in omega arith;
      own_is =
          let b = h.own_is in let a = adds_none (own_tree site (here_in base (o ∷ os)))
          (own_adds site (here_in base (o ∷ os))) in omega arith;
      work_is = counts_other work work_in (is_site site) busy o os (work_tally r) e h.work_is;
      span_is = counts_other span (path_in site base) (is_site site) busy o os (span_tally r) e h.span_is;
    }

abbrev one_given : Bool → ℕ
one_given b = if b then 1 else 0

-- the contribution of a part that has ended
calls_marked : (site : ℕ) (mark : Option Mark) (t : Tree)
    → calls_of site (marked mark t) ≡ one_if (is_counted (is_site site) mark) + calls_of site t
calls_marked site None t = omega arith
calls_marked site (Some m) t = ap (λ (n : ℕ). n + calls_of site t) (one (is_site site m))
  where
    one : (b : Bool) → one_given b ≡ one_if b
    one true = refl
    one false = refl

own_marked : (site here : ℕ) (mark : Option Mark) (t : Tree)
    → own_tree site here (marked mark t) ≡ own_tree site (inside mark here) t
own_marked site here None t = refl
own_marked site here (Some m) t = refl

pub left_calls : (site : ℕ) (o : Open) (os : List Open) (es : List Event)
    → calls_in site os (closed o es) ≡ calls_in site (o ∷ os) es
left_calls site o os es =
    let a = calls_more site os o.outer (event_of o es) in
    let b = ap (calls_of site) (tree_in-part_of o.spawned (marked o.mark (tree_of es))) in
    let c = calls_marked site o.mark (tree_of es) in omega arith

pub left_own : (site base : ℕ) (o : Open) (os : List Open) (es : List Event)
    → own_in site base os (closed o es) ≡ own_in site base (o ∷ os) es
left_own site base o os es =
    let a = own_more site base os o.outer (event_of o es) in
    let b = ap (own_tree site (here_in base os)) (tree_in-part_of o.spawned (marked o.mark (tree_of es))) in
    let c = own_marked site (here_in base os) o.mark (tree_of es) in omega arith

-- a part that is no invocation of the site ends
pub row_other_left : (site base busy : ℕ) (o : Open) (os : List Open) (es : List Event) (r : Row)
    → is_counted (is_site site) o.mark ≡ false → CountsSite site base busy (o ∷ os) es r
    → CountsSite site base busy os (closed o es) r
row_other_left site base busy o os es r e h = record {
  calls_is = h.calls_is ∙ sym (left_calls site o os es);
  own_is = h.own_is ∙ sym (left_own site base o os es);
  work_is = counts_other_left work work_in (is_site site) busy o os es (work_tally r) e h.work_is;
  span_is = counts_other_left span (path_in site base) (is_site site) busy o os es (span_tally r) e h.span_is;
}
