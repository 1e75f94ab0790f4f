use Rattle.std.proofs.Common.{arith, ◌≡◌, ◌∙◌, length, true, refl, sym, subst}
use Rattle.std.specs.Prelude.{Some, slice_get}
use Rattle.std.specs.Coded.{le_prop}
use Rattle.std.proofs.Math.Logic.{∥∥₁_elim, ∥∥₁_map}
use Rattle.cw_runnable.specs.declared.verified.Verified.{Verified}
use Rattle.cw_jobs.specs.declared.call.Extent.TheVariants as extent
use Rattle.cw_jobs.specs.declared.call.Parts.{Parts}
use Rattle.cw_jobs.specs.Jobs.{is_asked, IsSound, IsRootOf}
use Rattle.cw_jobs.proofs.Begins.{in_range, main_there, root_sound, root_made}
use Rattle.cw_jobs.proofs.job.Job.root_of.Goals as goal

pub func-f-requires : goal.func-f-requires
func-f-requires c = let v = c.deref-verified.result.now in ∥∥₁_elim v.ok le_prop (λ ok. main_there v ok)

pub first_rest-requires : goal.first_rest-requires
first_rest-requires c =
    let v = c.deref-verified.result.now in
    let f = c.func-f.result.now in
    let asked : is_asked f.params (length c.args.args.now) c.args.n c.args.burden ≡ true = sym c.is_asked.ensures ∙ c.if-not-is_asked.false in
    let r = in_range f.params (length c.args.args.now) c.args.n c.args.burden asked in
    ∥∥₁_elim v.ok le_prop (λ ok. omega (arith, r.count_is, (ok.fits.each v.code.main f c.func-f.ensures).room))

pub invariant_of-result : goal.invariant_of-result
invariant_of-result c =
    let code = c.args.code in
    let made : Parts = record { code = code; extent = extent.WholeCall; rest = c.in_ok-rest.rest; site = 0; detail = c.args.detail; limit = c.args.n; before = 0 } in
    let f = c.func-f.result.now in
    let args = c.args.args.now in
    let asked : is_asked f.params (length args) c.args.n c.args.burden ≡ true = sym c.is_asked.ensures ∙ c.if-not-is_asked.false in
    let found = subst (λ (v : Verified). slice_get v.code.funcs.items v.code.main ≡ Some f) c.deref-verified.ensures c.func-f.ensures in
    record {
      sound = subst (λ (p : Parts). ∥ IsSound p ∥₁) (sym c.in_ok-parts.ensures.ok)
          (∥∥₁_map c.args.code.value.ok (λ ok. root_sound made f args c.args.burden found asked c.in_ok-rest.ensures refl refl c.requires ok));
    }

pub returns : goal.returns
returns c =
    let code = c.args.code in
    let made : Parts = record { code = code; extent = extent.WholeCall; rest = c.in_ok-rest.rest; site = 0; detail = c.args.detail; limit = c.args.n; before = 0 } in
    let f = c.func-f.result.now in
    let args = c.args.args.now in
    let asked : is_asked f.params (length args) c.args.n c.args.burden ≡ true = sym c.is_asked.ensures ∙ c.if-not-is_asked.false in
    let found = subst (λ (v : Verified). slice_get v.code.funcs.items v.code.main ≡ Some f) c.deref-verified.ensures c.func-f.ensures in
    subst (λ (p : Parts). IsRootOf code.value args c.args.n c.args.burden c.args.detail p) (sym c.in_ok-parts.ensures.ok)
    (root_made made f args c.args.burden found asked c.in_ok-rest.ensures refl refl)
