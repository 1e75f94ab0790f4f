-- The job of a whole run begins in a good state.
use Rattle.std.proofs.Common.{◌≡◌, inl, ⊎_elim, ℕ, zero, suc, ◌+◌, ◌-◌, ◌<◌, ◌≤◌, ℤ, pos, true, Option, Some, None, List, [], ◌∷◌, ◌++◌, length, refl, sym, ap, ◌∙◌, subst, arith}
use Rattle.std.specs.Prelude.{replicate, slice_get}
use Rattle.std.proofs.lemmas.List.{length-map, length-replicate}
use Rattle.std.proofs.lemmas.Option.{slice_get_within, same_Some}
use Rattle.std.proofs.lemmas.Bool.Decides.{nat_tests}
use Rattle.std.proofs.lemmas.Bool.{false≢true, cases_lt}
use Rattle.cw_model.specs.declared.burden.Burden.{Burden}
use Rattle.cw_model.specs.declared.limits.TheConstants.{MOST_LIMIT, MOST_BURDEN}
use Rattle.cw_code.specs.declared.code.Func.{Func}
use Rattle.cw_code.specs.Code.{code_view}
use Rattle.cw_code.specs.Run.{full, slots_of, arrays_of, first_state}
use Rattle.cw_code.specs.Fits.{params_of, array_params_of, readers_of, gives_value, main_params}
use Rattle.cw_meter.specs.Details.{IsLight}
use Rattle.cw_runnable.specs.declared.verified.Verified.{Verified}
use Rattle.cw_code.specs.Jobs.{root_job}
use Rattle.cw_jobs.specs.declared.call.Extent.TheVariants as extent
use Rattle.cw_jobs.specs.declared.call.Parts.{Parts}
use Rattle.cw_jobs.specs.declared.call.Rest.{Rest}
use Rattle.cw_slices.specs.Placed.{Placed, IsOwn}
use Rattle.cw_jobs.specs.Calls.{cell, placed, Keeps, HasArrays, HasReaders, HoldsCall}
use Rattle.cw_jobs.specs.Jobs.{Ok, OwnsSlots, IsJob, IsSound, is_asked, IsRootOf, IsFirst, code_of}

-- there is a `main`
pub record Main (v : Verified) : Type 0 where
  pub func : Func
  pub found : slice_get (code_view v.code).funcs v.code.main ≡ Some func

pub main_of : (v : Verified) → Ok v → Main v
main_of v ok = at (slice_get (code_view v.code).funcs v.code.main) refl
  where
    at : (o : Option Func) → slice_get (code_view v.code).funcs v.code.main ≡ o → Main v
    at None e = absurd (false≢true (ap gives_value (sym e) ∙ ok.fits.main))
    at (Some f) e = record { func = f; found = e }

pub main_there : (v : Verified) → Ok v → v.code.main < length v.code.funcs.items
main_there v ok = let main = main_of v ok in slice_get_within (code_view v.code).funcs v.code.main main.func main.found

-- the function that was found is `main`
pub main_same : (v : Verified) (f g : Func) → slice_get (code_view v.code).funcs v.code.main ≡ Some f → slice_get (code_view v.code).funcs v.code.main ≡ Some g → f ≡ g
main_same v f g e h = same_Some f g (sym e ∙ h)

pub params_same : (v : Verified) (f : Func) → slice_get (code_view v.code).funcs v.code.main ≡ Some f → main_params (code_view v.code) ≡ f.params
params_same v f e = ap params_of e

-- the request is in range
pub record InRange (params count n : ℕ) (burden : Burden) : Type 0 where
  pub count_is : count ≡ params
  pub least : 1 ≤ n
  pub most : n ≤ MOST_LIMIT
  pub light : burden.charge ≤ MOST_BURDEN

pub in_range : (params count n : ℕ) (burden : Burden) → is_asked params count n burden ≡ true → InRange params count n burden
in_range params count n burden h = record { count_is = grind (arith, nat_tests, h); least = grind (arith, nat_tests, h); most = grind (arith, nat_tests, h); light = grind (arith, nat_tests, h) }

-- a list of full slots holds its own values
keeps_full : (cells : List ℤ) (a : ℕ) (v : ℤ) → slice_get (full cells) a ≡ Some (Some v) → cell cells a ≡ v
keeps_full [] a v e = cc
keeps_full (x ∷ cells) zero v e = same_Some x v (same_Some (Some x) (Some v) e)
keeps_full (x ∷ cells) (suc a) v e = keeps_full cells a v e

empty_get : (n a : ℕ) (xs : List ℤ) → slice_get (full (replicate n [])) a ≡ Some (Some xs) → (a < n) × ([] ≡ xs)
empty_get zero a xs e = cc
empty_get (suc n) zero xs e = (omega arith, same_Some [] xs (same_Some (Some []) (Some xs) e))
empty_get (suc n) (suc a) xs e = let r = empty_get n a xs e in (omega (arith, r.0), r.1)

module _ (v : Verified) (f : Func) (args : List ℤ) (r : Rest) (ok : Ok v) (found : slice_get (code_view v.code).funcs v.code.main ≡ Some f)
    (count : length args ≡ f.params) (first : IsFirst f args r) where
  none_taken : f.array_params ≡ 0
  none_taken = sym (ap array_params_of found) ∙ ok.fits.of_integers

  none_read : f.readers ≡ 0
  none_read = sym (ap readers_of found) ∙ ok.fits.reads_none

  cells_are : r.cells.items ≡ args ++ replicate (f.slots - f.params) (pos 0)
  cells_are = first.cells ∙ ap (λ n. args ++ replicate (f.slots - n) (pos 0)) count

  keeps : Keeps r.cells.items 0 (slots_of f args)
  keeps a v e = let same : 0 + a ≡ a = omega arith in ap (λ k. cell r.cells.items k) same ∙ ap (λ l. cell l a) cells_are ∙ keeps_full (args ++ replicate (f.slots - f.params) (pos 0)) a v e

  arrays_are : arrays_of f [] ≡ full (replicate f.arrays [])
  arrays_are = let n : f.arrays - f.array_params ≡ f.arrays = omega (arith, none_taken) in ap (λ k. full (replicate k [])) n

  has : HasArrays r.slices.items (arrays_of f [])
  has a xs e =
      let g = empty_get f.arrays a xs (ap (λ l. slice_get l a) (sym arrays_are) ∙ e) in
      (first.empty a g.0).0 ∙ g.1

  many_arrays : length (arrays_of f []) ≡ f.arrays
  many_arrays = ap length arrays_are ∙ length-map (replicate f.arrays []) (λ (x : List ℤ). Some x) ∙ length-replicate f.arrays []

  owned : OwnsSlots v ok f.start r.slices.items (arrays_of f [])
  owned a lt = inl (first.empty a (omega (arith, lt, many_arrays))).1

  -- the only slices are the slices of slots
  nowhere_own : (slices : List Placed) (a : ℕ) → length slices ≤ a → IsOwn (placed slices a)
  nowhere_own [] a le = refl
  nowhere_own (p ∷ slices) zero le = absurd (omega (arith, le))
  nowhere_own (p ∷ slices) (suc a) le = nowhere_own slices a (omega (arith, le))

  all_own : (a : ℕ) → IsOwn (placed r.slices.items a)
  all_own a = ⊎_elim (λ lt. (first.empty a lt).1) (λ le. nowhere_own r.slices.items a (let many = first.as_many in omega (arith, le, many))) (cases_lt a f.arrays)

  reads : HasReaders r.slices.items []
  reads k xs e = cc

  holds : (n : ℕ) → HoldsCall r (root_job f args n)
  holds n = record {
    at = first.at;
    deep = first.deep;
    enough = (let e = ap length cells_are in let m = length-map (args ++ replicate (f.slots - f.params) (pos 0)) (λ (x : ℤ). Some x) in omega (arith, e, m));
    keeps = keeps;
    as_many = omega (arith, first.as_many, many_arrays);
    has = has;
    reads = reads;
  }

  pub root_is : (p : Parts) (n : ℕ) → p.extent ≡ extent.WholeCall → p.rest ≡ r → p.limit ≡ n → p.before ≡ 0 → IsJob v ok p (root_job f args n)
  root_is p n whole same limit before = record {
    extent = sym (ap Rattle.cw_jobs.specs.Jobs.extent_of whole);
    limit = sym limit;
    before = sym before;
    holds = subst (λ (q : Rest). HoldsCall q (root_job f args n)) (sym same) (holds n);
    base = first_state f args [] [];
    begins = refl;
    blocks = tt;
    good = ok.begins v.code.main f args [] [] found count (sym none_taken) (sym none_read);
    own = subst (λ (q : Rest). OwnsSlots v ok f.start q.slices.items (arrays_of f [])) (sym same) owned;
    bare = λ k a slice e there. cc;
    cuts = λ seat. tt;
    there = (tt, tt, tt);
    outermost = λ e. record { around = refl; results = refl; arrived = refl };
    unshared = λ e. subst (λ (q : Rest). (a : ℕ) → IsOwn (placed q.slices.items a)) (sym same) all_own;
  }

-- the parts of the job of a whole run
module _ (p : Parts) (f : Func) (args : List ℤ) (b : Burden) (found : slice_get (code_view (code_of p).code).funcs (code_of p).code.main ≡ Some f)
    (asked : is_asked f.params (length args) p.limit b ≡ true) (first : IsFirst f args p.rest) (whole : p.extent ≡ extent.WholeCall) (none : p.before ≡ 0) where
  within : InRange f.params (length args) p.limit b
  within = in_range f.params (length args) p.limit b asked

  pub root_sound : (b.charge ≤ MOST_BURDEN → IsLight p.detail) → Ok (code_of p) → IsSound p
  root_sound light ok = record {
    ok = ok;
    job = root_job f args p.limit;
    is = root_is (code_of p) f args p.rest ok found within.count_is first p p.limit whole refl refl none;
    within = omega (arith, none);
    range = within.most;
    light = light within.light;
  }

  pub root_made : IsRootOf (code_of p) args p.limit b p.detail p
  root_made = record {
    asked = ap (λ k. is_asked k (length args) p.limit b) (params_same (code_of p) f found) ∙ asked;
    code = refl;
    detail = refl;
    whole = whole;
    is = λ ok g there. subst (λ (h : Func). IsJob (code_of p) ok p (root_job h args p.limit)) (main_same (code_of p) f g found there)
        (root_is (code_of p) f args p.rest ok found within.count_is first p p.limit whole refl refl none);
  }
