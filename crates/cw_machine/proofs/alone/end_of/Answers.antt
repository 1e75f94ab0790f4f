use Rattle.std.proofs.Common.{rules, ◌≡◌, ◌+◌, length, refl, ap, ap₂, ◌∙◌, subst, w64, of_z, to_z}
use Rattle.std.specs.List.{enumerate_from, zip}
use Rattle.cw_meter.specs.Whole.{Reads}
use Rattle.cw_machine.proofs.alone.end_of.Goals as goal

pub returns : goal.returns
returns c =
    let code = c.args.code.now in
    let m = c.args.shown.meter in
    let all = c.in_ok-all.all in
    let x = c.int_given.result in
    let same : to_z w64 (of_z w64 x) ≡ x = search rules in
    let sites : c.len-sites.result ≡ length code.sites.items = c.len-sites.ensures ∙ code.sites.ok.0 in
    let tags : c.len.result ≡ length code.tags.items = c.len.ensures ∙ code.tags.ok.0 in
    record {
      value = same ∙ c.int_given.ensures;
      lines = c.into_vec.ensures.items;
      totals = refl;
      all = all;
      reads = subst (λ k. Reads m c.args.shown.cost (k + 1) (length code.tags.items) all) sites (subst (λ k. Reads m c.args.shown.cost (c.len-sites.result + 1) k all) tags c.in_ok-all.ensures.reads);
      counted = c.in_ok-all.ensures.counted;
      measure = refl;
      sites = c.in_ok-sites.ensures ∙ ap (enumerate_from 0) c.as_slice.ensures.value;
      regions = c.in_ok-regions.ensures ∙ ap₂ zip c.as_slice-2.ensures.value c.as_slice-3.ensures.value;
    }
