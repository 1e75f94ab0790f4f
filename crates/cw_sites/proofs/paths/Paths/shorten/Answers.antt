use Rattle.std.proofs.Common.{rules, ◌≡◌, length, arith}
use Rattle.cw_sites.proofs.PathBoundLaws.{shortened_laid, shortened_path, shortened_bounded}
use Rattle.cw_sites.proofs.paths.Paths.shorten.Goals as goal

pub returns-in_ok-compact-clause-laid : goal.returns-in_ok-compact-clause-laid
returns-in_ok-compact-clause-laid c =
    let e : c.len-end.result ≡ length c.args.self.now.steps.items = search rules in
    shortened_laid c.args.self.now c.compact.new.self c.len-end.result _ e c.in_ok-compact.ensures.all c.in_ok-compact.ensures.rest

pub returns-in_ok-compact-clause-same : goal.returns-in_ok-compact-clause-same
returns-in_ok-compact-clause-same c =
    let e : c.len-end.result ≡ length c.args.self.now.steps.items = search rules in
    shortened_path c.args.self.now c.compact.new.self c.len-end.result _ e c.in_ok-compact.ensures.all c.in_ok-compact.ensures.rest

pub returns-in_ok-compact-clause-short : goal.returns-in_ok-compact-clause-short
returns-in_ok-compact-clause-short c =
    let e : c.len-end.result ≡ length c.args.self.now.steps.items = search rules in
    let s = c.in_ok-compact.ensures.short (omega arith) in
    let n = c.in_ok-compact.ensures.count (omega arith) in
    let k = c.in_ok-compact.ensures.rest.start in omega arith

pub returns-in_ok-compact-clause-bounded : goal.returns-in_ok-compact-clause-bounded
returns-in_ok-compact-clause-bounded c =
    let e : c.len-end.result ≡ length c.args.self.now.steps.items = search rules in
    λ room most b. shortened_bounded room most c.args.self.now c.compact.new.self c.len-end.result _ e c.in_ok-compact.ensures.all (c.in_ok-compact.ensures.short (omega arith)) c.in_ok-compact.ensures.kept c.in_ok-compact.ensures.limit c.in_ok-compact.ensures.rest b
