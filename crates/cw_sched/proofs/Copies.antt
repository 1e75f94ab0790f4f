-- A copy of what a run answered answers as it does.
use Rattle.std.proofs.Common.{◌≡◌, ◌∙◌, ℕ, ◌+◌, ℤ, List, [], ◌∷◌, Some, refl, sym, ap, subst, length}
use Rattle.std.specs.Prelude.{map, Result, Ok, Err}
use Rattle.std.specs.List.{AllZip}
use Rattle.cw_model.specs.declared.burden.Burden.{Burden}
use Rattle.cw_model.specs.declared.total.Total.{Total}
use Rattle.cw_model.specs.Answers.{Ended, TrappedAt}
use Rattle.cw_text.specs.declared.fault.Fault.{Fault}
use Rattle.cw_text.specs.declared.fault.Fault.TheVariants as fault
use Rattle.cw_meter.specs.Whole.{AreReadings, AreSiteRows, AreRegionRows}
use Rattle.cw_code.specs.Code.{Code}
use Rattle.cw_machine.specs.declared.alone.Ended as alone
use Rattle.cw_machine.specs.Runs.{Runs, RunsAsCode, IsFailure}
use Rattle.cw_sched.specs.Copied.{IsSameEnd, IsFaultCopy, IsCopy}

pub zip_map : {A B : Type 0} (R : A → A → Type 0) (g : A → B) (xs ys : List A) → ((x y : A) → R x y → g y ≡ g x) → AllZip R xs ys → map g ys ≡ map g xs
zip_map R g [] [] f h = refl
zip_map R g [] (y ∷ ys) f h = absurd h
zip_map R g (x ∷ xs) [] f h = absurd h
zip_map R g (x ∷ xs) (y ∷ ys) f h = ap (λ k. k ∷ map g ys) (f x y h.0) ∙ ap (λ l. g x ∷ l) (zip_map R g xs ys f h.1)

pub zip_same : {A : Type 0} (xs ys : List A) → AllZip (λ x y. y ≡ x) xs ys → ys ≡ xs
zip_same [] [] h = refl
zip_same [] (y ∷ ys) h = absurd h
zip_same (x ∷ xs) [] h = absurd h
zip_same (x ∷ xs) (y ∷ ys) h = ap (λ k. k ∷ ys) h.0 ∙ ap (λ l. x ∷ l) (zip_same xs ys h.1)

copied : (code : Code) (args : List ℤ) (n : ℕ) (burden : Burden) (e c : alone.Ended) → IsSameEnd e c → Runs code args n burden e → Runs code args n burden c
copied code args n burden e c same r =
    record {
      asked = r.asked;
      tree = r.tree;
      answer = r.answer
          ∙ (ap (λ (x : ℤ). Some (Ended x e.lines.items e.totals.items r.tree)) (sym same.value)
          ∙ (ap (λ (x : List ℤ). Some (Ended c.value x e.totals.items r.tree)) (sym same.lines)
          ∙ ap (λ (x : List Total). Some (Ended c.value c.lines.items x r.tree)) (sym same.totals)));
      within = r.within;
      measure = subst (λ m. AreReadings burden r.tree m) (sym same.measure) r.measure;
      numbers = same.numbers ∙ r.numbers;
      sites = subst (λ x. AreSiteRows (length code.sites + 1) r.tree x) (sym same.sites) r.sites;
      tags = same.tags ∙ r.tags;
      regions = subst (λ x. AreRegionRows burden code.tags r.tree x) (sym same.regions) r.regions;
    }

-- the same fault
same_fault : (code : Code) (args : List ℤ) (n : ℕ) (burden : Burden) (f g : Fault) → g ≡ f → IsFailure code args n burden f → IsFailure code args n burden g
same_fault code args n burden f g e r = subst (λ x. IsFailure code args n burden x) (sym e) r

fault_copied : (code : Code) (args : List ℤ) (n : ℕ) (burden : Burden) (f g : Fault) → IsFaultCopy f g → IsFailure code args n burden f → IsFailure code args n burden g
fault_copied code args n burden (fault.Trap c l o) (fault.Trap c' l' o') h r = (
  r.0,
  r.1
      ∙ (ap (λ x. Some (TrappedAt x l o.items)) (sym h.0)
      ∙ (ap (λ x. Some (TrappedAt c' x o.items)) (sym h.1) ∙ ap (λ x. Some (TrappedAt c' l' x)) (sym h.2))),
)
fault_copied code args n burden (fault.Trap c l o) fault.Memory h r = r.0
fault_copied code args n burden (fault.Trap c l o) (fault.Lexical p) h r = absurd h
fault_copied code args n burden (fault.Trap c l o) (fault.Syntax p) h r = absurd h
fault_copied code args n burden (fault.Trap c l o) (fault.Types p) h r = absurd h
fault_copied code args n burden (fault.Trap c l o) (fault.Ownership p) h r = absurd h
fault_copied code args n burden (fault.Trap c l o) (fault.Size p) h r = absurd h
fault_copied code args n burden (fault.Trap c l o) fault.Code h r = absurd h
fault_copied code args n burden (fault.Trap c l o) fault.OverLimit h r = absurd h
fault_copied code args n burden (fault.Trap c l o) fault.Write h r = absurd h
fault_copied code args n burden (fault.Trap c l o) fault.Arguments h r = absurd h
fault_copied code args n burden (fault.Trap c l o) (fault.Strands k) h r = absurd h
fault_copied code args n burden (fault.Lexical p) g h r = absurd r
fault_copied code args n burden (fault.Syntax p) g h r = absurd r
fault_copied code args n burden (fault.Types p) g h r = absurd r
fault_copied code args n burden (fault.Ownership p) g h r = absurd r
fault_copied code args n burden (fault.Size p) g h r = absurd r
fault_copied code args n burden fault.Code g h r = absurd r
fault_copied code args n burden fault.OverLimit g h r = same_fault code args n burden fault.OverLimit g h r
fault_copied code args n burden fault.Memory g h r = same_fault code args n burden fault.Memory g h r
fault_copied code args n burden fault.Write g h r = absurd r
fault_copied code args n burden fault.Arguments g h r = same_fault code args n burden fault.Arguments g h r
fault_copied code args n burden (fault.Strands k) g h r = absurd r

-- what is told of a run is told of its copy
pub copy_runs : (code : Code) (args : List ℤ) (n : ℕ) (burden : Burden) (a c : Result alone.Ended Fault) → IsCopy a c → RunsAsCode code args n burden a → RunsAsCode code args n burden c
copy_runs code args n burden (Ok e) (Ok c) h r = copied code args n burden e c h r
copy_runs code args n burden (Ok e) (Err g) h r = subst (λ x. IsFailure code args n burden x) (sym h) r.asked
copy_runs code args n burden (Err f) (Ok c) h r = absurd h
copy_runs code args n burden (Err f) (Err g) h r = fault_copied code args n burden f g h r

pub zip_twice : {A B C : Type 0} (R : A → A → Type 0) (f : A → B) (g : B → C) (xs ys : List A) → ((x y : A) → R x y → g (f y) ≡ g (f x)) → AllZip R xs ys → map g (map f ys) ≡ map g (map f xs)
zip_twice R f g [] [] h z = refl
zip_twice R f g [] (y ∷ ys) h z = absurd z
zip_twice R f g (x ∷ xs) [] h z = absurd z
zip_twice R f g (x ∷ xs) (y ∷ ys) h z = ap (λ k. k ∷ map g (map f ys)) (h x y z.0) ∙ ap (λ l. g (f x) ∷ l) (zip_twice R f g xs ys h z.1)
