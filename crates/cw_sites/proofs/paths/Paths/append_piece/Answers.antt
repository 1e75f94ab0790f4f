use Rattle.std.proofs.Common.{[], refl, sym, ◌∙◌, ap}
use Rattle.cw_sites.specs.declared.paths.Paths.{Paths}
use Rattle.cw_sites.specs.StepLists.{seen, seen_blocks, strand_path}
use Rattle.cw_sites.specs.StrandPaths.{StrandPath, appends}
use Rattle.cw_sites.proofs.PathLaws.{laid_with, strand_path_by}
use Rattle.cw_sites.proofs.AppendLaws.{fits_block}
use Rattle.cw_sites.proofs.paths.Paths.append_piece.Goals as goal

pub returns-clause-strand_path : goal.returns-clause-strand_path
returns-clause-strand_path c = λ laid pl q fits.
    let r : Paths = record { steps = c.args.piece.steps; weight = c.args.piece.weight; start = c.args.piece.start; blocks = c.pop.new.self; limit = c.args.piece.limit } in
    let f = c.in-Some.f in
    let e = strand_path_by q c.args.piece r f c.in-Some.ensures.items in
    let t = strand_path q c.args.self.now in
    c.in_ok-append_block-in-Some.ensures.strand_path laid (laid_with c.args.piece r f c.in-Some.ensures.items refl refl pl) q (fits_block t (strand_path q c.args.piece) (strand_path q c.args.piece).now (seen q c.args.piece.steps.items f) (seen_blocks q c.args.piece.steps.items c.pop.new.self.items []) e fits)
    ∙ sym (ap (λ (u : StrandPath). appends c.args.first u t) e)
