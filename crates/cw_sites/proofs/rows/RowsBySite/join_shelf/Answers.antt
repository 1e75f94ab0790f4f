use Rattle.std.proofs.Common.{◌+◌, ◌*◌, refl, arith}
use Rattle.cw_sites.proofs.RowLaws.{on_none, on_more, on_rest_free}
use Rattle.cw_sites.proofs.rows.RowsBySite.join_shelf.Goals as goal

pub loop-page-init : goal.loop-page-init
loop-page-init c = on_none c.args.piece.now c.args.self.now (c.args.shelf * 256) (c.args.shelf * 256 + 0 * 8) (omega arith)

pub loop-page-preserved : goal.loop-page-preserved
loop-page-preserved c =
    let s = c.args.shelf * 256 in
    let p = c.loop-page.page in
    on_more c.args.piece.now c.args.self.now c.loop-page.self c.join_page.new.self s (s + p * 8) (s + p * 8) (s + p * 8 + 8) (s + (p + 1) * 8) refl (omega arith) c.loop-page.invariant c.in_ok-join_page.ensures

pub returns : goal.returns
returns c =
    let s = c.args.shelf * 256 in
    let p = c.loop-page.page in
    on_more c.args.piece.now c.args.self.now c.loop-page.self c.loop-page.self s (s + p * 8) (s + c.pages-page-end.result * 8) (s + 256) (s + 256) (omega arith) refl c.loop-page.invariant (on_rest_free c.args.piece.now c.loop-page.self c.args.shelf c.pages-page-end.result c.pages-page-end.ensures.within c.pages-page-end.ensures.free)
