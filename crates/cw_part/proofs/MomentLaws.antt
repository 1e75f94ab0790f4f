-- What tables say of a run so far while parts are open.
use Rattle.std.specs.Prelude.{◌≡◌, ℕ, ◌+◌, ◌-◌, ◌==◌, ◌<◌, Bool, true, false, if◌then◌else◌, List, [], ◌∷◌, ◌++◌, sum_by, refl}
use Rattle.std.proofs.Common.{sym, ◌∙◌, ap, arith}
use Rattle.std.proofs.lemmas.Bool.Decides.{nat_tests}
use borrow.Author.Tests.{eqb-true}
use Rattle.cw_facts.specs.Tests.{equal}
use Rattle.cw_model.specs.Trees.{Mark, Event, Join, work}
use Rattle.cw_model.specs.Rows.{is_site, is_tag, outermost, calls_of, leaves, weight_of_site}
use Rattle.cw_measure.specs.OpenParts.{Open, closed, work_in}
use Rattle.cw_measure.specs.Outermost.{is_counted, one_if, Tally, ended_at, ended, Counts}
use Rattle.cw_measure.specs.lemmas.OpenParts.{work_more, left_work, spawned_joined}
use Rattle.cw_measure.specs.lemmas.Outermost.{counts_join, counts_other_left, counts_ended, counts_read}
use Rattle.cw_measure.specs.lemmas.StrandWeights.{work_meters}
use Rattle.cw_sites.specs.SiteRows as sites
use Rattle.cw_sites.specs.SiteRows.{calls_in, own_in}
use Rattle.cw_sites.specs.OpenPaths.{here_in}
use Rattle.cw_sites.specs.lemmas.SiteRows.{calls_more, own_more, own_nothing, left_calls, left_own}
use Rattle.cw_regions.specs.RegionRows as regions
use Rattle.cw_part.specs.Moments.{tree_here, summed_here, SitesAreRead, RegionsAreRead}

-- a join does no work, and closing a part neither
work_here : (o : Open) (os : List Open) (es : List Event) → work_in os (closed o (es ++ Join ∷ [])) ≡ work_in (o ∷ os) es
work_here o os es = let a = left_work o os (es ++ Join ∷ []) in let b = work_more (o ∷ os) es Join in omega arith

-- the calls and the own work of a run so far
calls_here : (site : ℕ) (os : List Open) (es : List Event) → calls_in site os es ≡ calls_of site (tree_here os es)
calls_here site [] es = refl
calls_here site (o ∷ os) es =
    let a = left_calls site o os (es ++ Join ∷ []) in
    let b = calls_more site (o ∷ os) es Join in
    let c = calls_here site os (closed o (es ++ Join ∷ [])) in omega arith

own_here : (site : ℕ) (os : List Open) (es : List Event) → own_in site 0 os es ≡ weight_of_site site (leaves 0 (tree_here os es))
own_here site [] es = refl
own_here site (o ∷ os) es =
    let a = left_own site 0 o os (es ++ Join ∷ []) in
    let b = own_more site 0 (o ∷ os) es Join in
    let z = own_nothing site (here_in 0 (o ∷ os)) in
    let c = own_here site os (closed o (es ++ Join ∷ [])) in omega arith

open_is : (n : ℕ) → 0 < n → (n == 0) ≡ false
open_is n h = grind (arith, nat_tests)

more_open : (n : ℕ) → (n == 1) ≡ false → 0 < n → 0 < n - 1
more_open n e h = grind (arith, nat_tests)

none_open : (reading : ℕ) (t : Tally) → t.active ≡ 0 → summed_here reading t ≡ t.sum
none_open reading t e = ap (λ (b : Bool). if b then t.sum else t.sum + (reading - t.began)) (equal t.active 0 e)

some_open : (reading : ℕ) (t : Tally) → 0 < t.active → summed_here reading t ≡ t.sum + (reading - t.began)
some_open reading t h = ap (λ (b : Bool). if b then t.sum else t.sum + (reading - t.began)) (open_is t.active h)

ended_alike : (last : Bool) (reading : ℕ) (t : Tally) → (t.active == 1) ≡ last → 0 < t.active
    → summed_here reading (ended_at last reading t) ≡ summed_here reading t
ended_alike true reading t e h =
    let one = eqb-true t.active 1 e in
    none_open reading (ended_at true reading t) (omega (arith, one)) ∙ sym (some_open reading t h)
ended_alike false reading t e h =
    some_open reading (ended_at false reading t) (more_open t.active e h) ∙ sym (some_open reading t h)

-- the sum at a moment, where it is right once the innermost open part has ended
part_summed : (picks : Mark → Bool) (busy : ℕ) (o : Open) (os : List Open) (es : List Event) (t : Tally) (sum : ℕ)
    → ((u : Tally) → Counts work work_in picks busy os (closed o (es ++ Join ∷ [])) u → summed_here (work_in os (closed o (es ++ Join ∷ []))) u ≡ sum)
    → Counts work work_in picks busy (o ∷ os) es t → summed_here (work_in (o ∷ os) es) t ≡ sum
part_summed picks busy o os es t sum more h = by_test (is_counted picks o.mark) refl
  where
    fs : List Event
    fs = es ++ Join ∷ []

    joined : Counts work work_in picks busy (o ∷ os) fs t
    joined = counts_join work work_in picks busy (o ∷ os) es t h

    by_test : (b : Bool) → is_counted picks o.mark ≡ b → summed_here (work_in (o ∷ os) es) t ≡ sum
    by_test false e = ap (λ (n : ℕ). summed_here n t) (sym (work_here o os es)) ∙ more t (counts_other_left work work_in picks busy o os fs t e joined)
    by_test true e =
        let reading = work_in (o ∷ os) fs in
        let counted : one_if (is_counted picks o.mark) ≡ 1 = ap one_if e in
        let active : 0 < t.active = let a = h.active_is in omega arith in
        let same : work_in (o ∷ os) es ≡ reading = let a = work_more (o ∷ os) es Join in omega arith in
        ap (λ (n : ℕ). summed_here n t) same ∙ sym (ended_alike (t.active == 1) reading t refl active)
        ∙ ap (λ (n : ℕ). summed_here n (ended reading t)) (sym (left_work o os fs))
        ∙ more (ended reading t) (counts_ended work work_in picks busy work_meters o os fs t e (spawned_joined es) joined)

work_summed : (picks : Mark → Bool) (busy : ℕ) (os : List Open) (es : List Event) (t : Tally) → busy ≡ 0
    → Counts work work_in picks busy os es t
    → summed_here (work_in os es) t ≡ sum_by work (outermost picks (tree_here os es))
work_summed picks busy [] es t idle h = none_open (work_in [] es) t (h.active_is ∙ idle) ∙ counts_read work work_in picks busy es t idle h
work_summed picks busy (o ∷ os) es t idle h =
    part_summed picks busy o os es t (sum_by work (outermost picks (tree_here (o ∷ os) es)))
    (λ u k. work_summed picks busy os (closed o (es ++ Join ∷ [])) u idle k) h

pub sites_are_read : SitesAreRead
sites_are_read busy os es table site idle h =
    let row = h.rows site in
    record {
      calls = row.calls_is ∙ calls_here site os es;
      own_work = row.own_is ∙ own_here site os es;
      work =
          ap (λ (n : ℕ). summed_here n (sites.work_tally (sites.row_of table.rows site))) h.noted_is
          ∙ work_summed (is_site site) (busy site) os es (sites.work_tally (sites.row_of table.rows site)) idle row.work_is;
    }

pub regions_are_read : RegionsAreRead
regions_are_read burden along tags busy os es table tag small idle h =
    work_summed (is_tag (tags.name tag)) (busy tag) os es (regions.work_tally (regions.row_of table.rows tag)) idle (h tag small).work_is
