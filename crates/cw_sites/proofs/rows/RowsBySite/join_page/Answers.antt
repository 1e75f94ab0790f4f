use Rattle.std.proofs.Common.{◌+◌, ◌*◌, refl, arith}
use Rattle.cw_sites.proofs.RowLaws.{on_none, on_more, on_page_free}
use Rattle.cw_sites.proofs.rows.RowsBySite.join_page.Goals as goal

pub returns-then-not-has_page : goal.returns-then-not-has_page
returns-then-not-has_page c = on_page_free c.args.piece.now c.args.self.now c.args.shelf c.args.page c.requires (c.has_page.ensures c.if-not-has_page.true)

pub loop-number-init : goal.loop-number-init
loop-number-init c = on_none c.args.piece.now c.args.self.now c.in_ok-first.first (c.in_ok-first.first + 0) (omega arith)

pub loop-number-preserved : goal.loop-number-preserved
loop-number-preserved c =
    let f = c.in_ok-first.first in
    let n = c.loop-number.number in
    on_more c.args.piece.now c.args.self.now c.loop-number.self c.join_beyond.new.self f (f + n) (f + n) (f + n + 1) (f + (n + 1)) refl (omega arith) c.loop-number.invariant c.in_ok-join_beyond.ensures

pub returns : goal.returns
returns c =
    let f = c.in_ok-first.first in
    let n = c.loop-number.number in
    let s = c.args.shelf * 256 + c.args.page * 8 in
    on_more c.args.piece.now c.args.self.now c.args.self.now c.loop-number.self s s f (f + n) (s + 8) (omega (arith, c.in_ok-first.ensures.is)) (omega (arith, c.in_ok-first.ensures.is)) (on_none c.args.piece.now c.args.self.now s s refl) c.loop-number.invariant
