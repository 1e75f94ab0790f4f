-- Names that occur once.
use Rattle.std.proofs.Common.{◌≡◌, ℕ, suc, ◌+◌, ◌<◌, ◌≤◌, true, false, not, ◌||◌, ◌&&◌, Some, List, [], length, get_or, sym, ap, ◌∙◌, arith}
use Rattle.std.specs.Prelude.{drop, slice_get, option_map}
use Rattle.std.proofs.lemmas.List.{length-map, drop_all}
use Rattle.std.proofs.lemmas.Option.{slice_get-get_or, slice_get-map}
use Rattle.cw_model.specs.Syntax.{Name}
use Rattle.cw_model.specs.Names.{same_name}
use Rattle.cw_code.specs.declared.code.Reducer.{Reducer}
use Rattle.cw_code.specs.Code.{reducer_names}
use Rattle.cw_code.specs.Fits.{is_among, are_apart}
use Rattle.cw_verify.proofs.Lists.{drop_at}

pub name_at : (names : List Name) (k : ℕ) (name d : Name) → k < length names → name ≡ get_or names k d → slice_get names k ≡ Some name
name_at names k name d lt e = slice_get-get_or names k d lt ∙ ap Some (sym e)

-- the name of a reducer
pub named_at : (reducers : List Reducer) (k : ℕ) (r d : Reducer) → k < length reducers → r ≡ get_or reducers k d → slice_get (reducer_names reducers) k ≡ Some r.name
named_at reducers k r d lt e =
    slice_get-map (λ (r : Reducer). r.name) reducers k ∙ ap (option_map (λ (r : Reducer). r.name)) (slice_get-get_or reducers k d lt ∙ ap Some (sym e))

-- after the last reducer there is no name
pub none_behind : (reducers : List Reducer) (k : ℕ) → length reducers ≤ k → drop k (reducer_names reducers) ≡ []
none_behind reducers k le = drop_all k (reducer_names reducers) (let n = length-map reducers (λ (r : Reducer). r.name) in omega (arith, n, le))

module _ (names : List Name) (k : ℕ) (other : Name) (e : slice_get names k ≡ Some other) where
  next : suc k ≡ k + 1
  next = omega arith

  pub among_at : (name : Name) → same_name name other ≡ true → is_among name (drop k names) ≡ true
  among_at name h = ap (is_among name) (drop_at names k other e) ∙ ap (λ b. b || is_among name (drop (suc k) names)) h

  pub among_on : (name : Name) → same_name name other ≡ false → is_among name (drop k names) ≡ is_among name (drop (k + 1) names)
  among_on name h = ap (is_among name) (drop_at names k other e) ∙ ap (λ b. b || is_among name (drop (suc k) names)) h ∙ ap (λ j. is_among name (drop j names)) next

  pub apart_not : is_among other (drop (k + 1) names) ≡ true → are_apart (drop k names) ≡ false
  apart_not h =
      ap are_apart (drop_at names k other e) ∙ ap (λ j. not (is_among other (drop j names)) && are_apart (drop (suc k) names)) next ∙ ap (λ b. not b && are_apart (drop (suc k) names)) h

  pub apart_on : is_among other (drop (k + 1) names) ≡ false → are_apart (drop k names) ≡ are_apart (drop (k + 1) names)
  apart_on h =
      ap are_apart (drop_at names k other e)
      ∙ ap (λ j. not (is_among other (drop j names)) && are_apart (drop j names)) next
      ∙ ap (λ b. not b && are_apart (drop (k + 1) names)) h
