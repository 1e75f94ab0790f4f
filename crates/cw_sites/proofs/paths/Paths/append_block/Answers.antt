use Rattle.std.proofs.Common.{rules, ◌≡◌, ℕ, length, option_map, sym, ap, subst, arith}
use Rattle.cw_sites.specs.declared.paths.Paths.{Paths}
use Rattle.cw_sites.specs.ChosenPaths.{plus}
use Rattle.cw_sites.specs.StepSums.{Fits}
use Rattle.cw_sites.specs.StepLists.{part, strand_path, Laid}
use Rattle.cw_sites.specs.PathBounds.{IsTight}
use Rattle.cw_sites.specs.StrandPaths.{extends_by, appends_block}
use Rattle.cw_sites.proofs.AppendLaws.{appends_none, appends_some}
use Rattle.cw_sites.proofs.paths.Paths.append_block.Goals as goal
use Rattle.cw_sites.proofs.paths.Paths.append_block.Goals.{in-Some+in_ok-fork_by, in_default}

pub returns-clause-laid : goal.returns-clause-laid
returns-clause-laid c = λ laid.
    let l1 = c.in_ok-extend_by.ensures.laid laid in
    c.in_ok-extend_by-2.ensures.laid (elim c.match-f.branch as (λ w. Laid c.match-f.self) [
      | in-Some+in_ok-fork_by w ↦ subst Laid (sym w.self-is) (w.in_ok-fork_by.ensures.laid l1)
      | in_default w ↦ subst Laid (sym w.self-is) l1
    ])

pub returns-clause-bounded : goal.returns-clause-bounded
returns-clause-bounded c = λ most a b.
    let P : Paths → Type 0 = IsTight most in
    let b1 = c.in_ok-extend_by.ensures.bounded most a b in
    c.in_ok-extend_by-2.ensures.bounded most a (elim c.match-f.branch as (λ w. IsTight most c.match-f.self) [
      | in-Some+in_ok-fork_by w ↦ subst P (sym w.self-is) (w.in_ok-fork_by.ensures.bounded most a b1)
      | in_default w ↦ subst P (sym w.self-is) b1
    ])

pub returns-clause-strand_path : goal.returns-clause-strand_path
returns-clause-strand_path c = λ laid pl q fits.
    let f = c.args.f in
    let steps = c.args.piece.now.steps.items in
    let o0 = pl.order.0 in let o1 = pl.order.1 in let o2 = pl.order.2 in
    let s = pl.start in let ch = pl.child in
    let e : c.len-end.result ≡ length steps = search rules in
    let l1 = c.in_ok-extend_by.ensures.laid laid in
    let base = part q steps f.from f.mid f.base in
    let now = part q steps c.args.piece.now.start (length steps) c.args.piece.now.weight in
    let t = strand_path q c.args.self.now in
    let t1 = strand_path q c.extend_by.new.self in
    let t3 = strand_path q c.extend_by-2.new.self in
    let first_step = c.in_ok-extend_by.ensures.path o0 (omega arith) laid q in
    let Last : Paths → Type 0 = λ r. Laid r → Fits (plus (strand_path q r).now now) → t3 ≡ extends_by now (strand_path q r) in
    let Q : ℕ → Type 0 = λ n. Fits (plus (strand_path q c.match-f.self).now (part q steps c.args.piece.now.start n c.args.piece.now.weight)) → t3 ≡ extends_by (part q steps c.args.piece.now.start n c.args.piece.now.weight) (strand_path q c.match-f.self) in
    let last : Last c.match-f.self = λ l. subst Q e (c.in_ok-extend_by-2.ensures.path (omega arith) (omega arith) l q) in
    elim c.match-f.branch as (λ w. t3 ≡ appends_block c.args.first base (option_map (part q steps f.mid f.end) f.longest) now t) [
      | in-Some+in_ok-fork_by w ↦
          let l2 = w.in_ok-fork_by.ensures.laid l1 in
          let child = part q steps f.mid f.end w.in-Some.child in
          appends_some c.args.first base now (part q steps f.end f.child f.rest) child (option_map (part q steps f.mid f.end) f.longest) t t1 (strand_path q w.fork_by.new.self) t3
          (ap (option_map (part q steps f.mid f.end)) w.in-Some.is) first_step (w.in_ok-fork_by.ensures.path o1 (omega arith) l1 q) (subst Last w.self-is last l2) fits
      | in_default w ↦
          appends_none c.args.first base now (part q steps f.end f.child f.rest) (option_map (part q steps f.mid f.end) f.longest) t t1 t3
          (ap (option_map (part q steps f.mid f.end)) w.in_default.is) first_step (subst Last w.self-is last l1) fits
    ]
