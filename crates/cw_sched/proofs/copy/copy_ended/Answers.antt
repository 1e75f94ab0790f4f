use Rattle.std.proofs.Common.{◌≡◌, ◌∙◌, refl, rules, to_z, of_z, w64}
use Rattle.std.proofs.lemmas.Int.{to_z-of_z}
use Rattle.cw_sched.proofs.Copies.{zip_map, zip_same, zip_twice}
use Rattle.cw_sched.proofs.copy.copy_ended.Goals as goal

pub returns : goal.returns
returns c =
    let e = c.args.ended.now in
    let sites = c.in_ok-clone.ensures.cases in
    let regions = c.in_ok-clone-2.ensures.cases in
    let value : to_z w64 (of_z w64 e.value) ≡ e.value = search (rules, to_z-of_z) in
    record {
      value = value;
      lines = c.in_ok-from_slice.ensures.items ∙ c.as_slice.ensures.value;
      totals = c.in_ok-from_slice-2.ensures.items ∙ c.as_slice-2.ensures.value;
      measure = refl;
      numbers = zip_map _ (λ x. x.0) e.sites.entries c.in_ok-clone.field-0.entries (λ x y h. h.0) sites;
      sites = zip_map _ (λ x. x.1) e.sites.entries c.in_ok-clone.field-0.entries (λ x y h. h.1) sites;
      tags = zip_twice _ (λ x. x.0) (λ tag. tag.items) e.regions.entries c.in_ok-clone-2.field-0.entries (λ x y h. zip_same x.0.items y.0.items h.0.0) regions;
      regions = zip_map _ (λ x. x.1) e.regions.entries c.in_ok-clone-2.field-0.entries (λ x y h. h.1) regions;
    }
