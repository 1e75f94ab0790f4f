-- Late paths represent the run after each event.
use Rattle.std.specs.Prelude.{ℕ, ◌≡◌, Bool, List, [], ◌∷◌, ◌++◌, refl}
use Rattle.std.proofs.Common.{sym, subst, arith}
use Rattle.std.proofs.lemmas.List.{append-nil}
use Rattle.cw_model.specs.declared.burden.Burden.{Burden}
use Rattle.cw_model.specs.Burdens.{no_burden}
use Rattle.cw_model.specs.Trees.{Event, Join}
use Rattle.cw_measure.specs.declared.burdened_path.BurdenedPath.{BurdenedPath}
use Rattle.cw_measure.specs.OpenParts.{Open, in_fork, closed, Since, work_in}
use Rattle.cw_measure.specs.StrandWeights.{FitsRun, TracksLate, TracksWeight, RecordsLate, SpawnsWeight, EndsChildWeight, JoinsWeight, ReadsWeight}
use Rattle.cw_measure.specs.lemmas.StrandWeights.{told_late}
use Rattle.cw_freed.specs.declared.paths.Paths.{Paths}
use Rattle.cw_freed.specs.Paths.{SpawnsLate, EndsLate, JoinsLate, StartsBoth, SpawnsBoth, EndsBoth, JoinsBoth, ReadsBoth}

-- nothing happened since
none_since : (noted counted : ℕ) (es : List Event) → noted ≡ counted → Since noted counted es []
none_since noted counted es e = record { goes_on = omega arith; instructions = omega arith }

fits_more : (burden : Burden) (os : List Open) (es : List Event) → FitsRun burden os es → FitsRun burden os (es ++ [])
fits_more burden os es fits = let P : List Event → Type 0 = λ x. FitsRun burden os x in subst P (sym (append-nil es)) fits

-- all instructions are noted
pub told : (old mid : BurdenedPath) (counted : ℕ) → RecordsLate old mid counted → (burden : Burden) (os : List Open) (es : List Event)
    → work_in os es ≡ counted → FitsRun burden os es → TracksLate burden os es old → TracksWeight burden os es mid
told old mid counted notes burden os es work fits late =
    let P : List Event → Type 0 = λ x. TracksWeight burden os x mid in
    subst P (append-nil es) (notes burden os es [] (none_since (work_in os es) counted es work) (fits_more burden os es fits) late)

noted_is : (burden : Burden) (os : List Open) (es : List Event) (p : BurdenedPath) (counted : ℕ) → work_in os es ≡ counted → TracksWeight burden os es p → p.noted ≡ counted
noted_is burden os es p counted work h = let n = h.noted_is in omega arith

pub spawns_late : (old mid new : BurdenedPath) (counted : ℕ) (first : Bool) → RecordsLate old mid counted → SpawnsWeight mid new counted first → SpawnsLate old new counted first
spawns_late old mid new counted first notes spawns burden mark os es work fits split late =
    let h = told old mid counted notes burden os es work fits late in
    let P : List Event → Type 0 = λ x. TracksWeight burden (in_fork mark x os) [] new in
    told_late burden (in_fork mark es os) [] new
    (subst P (append-nil es) (spawns burden mark os es [] (none_since mid.noted counted es (noted_is burden os es mid counted work h)) (fits_more burden os es fits) split h))

pub ends_late : (old mid new : BurdenedPath) (counted : ℕ) (burden : Burden) → RecordsLate old mid counted → EndsChildWeight mid new counted burden → EndsLate old new counted burden
ends_late old mid new counted burden notes ends o os es work fits spawned joined late =
    let h = told old mid counted notes burden (o ∷ os) es work fits late in
    let P : List Event → Type 0 = λ x. TracksWeight burden os (closed o x) new in
    told_late burden os (closed o es) new
    (subst P (append-nil es) (ends o os es [] (none_since mid.noted counted es (noted_is burden (o ∷ os) es mid counted work h)) (fits_more burden (o ∷ os) es fits) spawned joined h))

pub joins_late : (old mid new : BurdenedPath) (counted : ℕ) → RecordsLate old mid counted → JoinsWeight mid new counted → JoinsLate old new counted
joins_late old mid new counted notes joins burden os es work fits spawned late =
    let h = told old mid counted notes burden os es work fits late in
    let P : List Event → Type 0 = λ x. TracksWeight burden os (x ++ Join ∷ []) new in
    told_late burden os (es ++ Join ∷ []) new
    (subst P (append-nil es) (joins burden os es [] (none_since mid.noted counted es (noted_is burden os es mid counted work h)) (fits_more burden os es fits) spawned h))

-- both paths
pub both_start : (burden : Burden) (plain burdened : BurdenedPath) → ((b : Burden) → TracksWeight b [] [] plain)
    → ((b : Burden) → TracksWeight b [] [] burdened) → StartsBoth burden (record { burden = burden; plain = plain; burdened = burdened })
both_start burden plain burdened f g = record { burden_is = refl; plain = told_late no_burden [] [] plain (f no_burden); burdened = told_late burden [] [] burdened (g burden) }

pub both_spawn : (old : Paths) (plain burdened : BurdenedPath) (counted : ℕ) (first : Bool) → SpawnsLate old.plain plain counted first
    → SpawnsLate old.burdened burdened counted first → SpawnsBoth old (record { burden = old.burden; plain = plain; burdened = burdened }) counted first
both_spawn old plain burdened counted first f g burden mark os es work fits split h = record {
  burden_is = h.burden_is;
  plain = f no_burden mark os es work fits.plain split h.plain;
  burdened = g burden mark os es work fits.burdened split h.burdened;
}

pub both_end : (old : Paths) (plain burdened : BurdenedPath) (counted : ℕ) → EndsLate old.plain plain counted no_burden
    → EndsLate old.burdened burdened counted old.burden → EndsBoth old (record { burden = old.burden; plain = plain; burdened = burdened }) counted
both_end old plain burdened counted f g burden o os es work fits spawned joined h =
    let P : Burden → Type 0 = λ x. EndsLate old.burdened burdened counted x in record {
      burden_is = h.burden_is;
      plain = f o os es work fits.plain spawned joined h.plain;
      burdened = subst P h.burden_is g o os es work fits.burdened spawned joined h.burdened;
    }

pub both_join : (old : Paths) (plain burdened : BurdenedPath) (counted : ℕ) → JoinsLate old.plain plain counted
    → JoinsLate old.burdened burdened counted → JoinsBoth old (record { burden = old.burden; plain = plain; burdened = burdened }) counted
both_join old plain burdened counted f g burden os es work fits spawned h = record {
  burden_is = h.burden_is;
  plain = f no_burden os es work fits.plain spawned h.plain;
  burdened = g burden os es work fits.burdened spawned h.burdened;
}

pub both_read : (old : Paths) (plain burdened : BurdenedPath) (counted a b : ℕ) → RecordsLate old.plain plain counted
    → RecordsLate old.burdened burdened counted → ReadsWeight plain a → ReadsWeight burdened b → ReadsBoth old counted (a, b)
both_read old plain burdened counted a b f g read readb burden es work fits joined h = (
  read no_burden es joined (told old.plain plain counted f no_burden [] es work fits.plain h.plain),
  readb burden es joined (told old.burdened burdened counted g burden [] es work fits.burdened h.burdened),
)
