use Rattle.std.proofs.Common.{rules, ℕ, ◌≡◌, length, subst, arith}
use Rattle.cw_sites.specs.Compacting.{SumsUpWithin}
use Rattle.cw_sites.proofs.paths.Paths.own_by_site.Goals as goal

pub returns : goal.returns
returns c = λ site laid fits.
    let e : c.len.result ≡ length c.args.self.now.steps.items = search rules in
    let P : ℕ → Type 0 = λ n. SumsUpWithin c.args.self.now.start n c.args.self.now.steps.items c.sum_up.new.sums.items in
    (subst P e c.in_ok-sum_up.ensures.sums) laid.start (omega arith) site fits
