use Rattle.std.proofs.Common.{◌∙◌}
use Rattle.cw_pool.proofs.Joins.{after_back, lacks_newest}
use Rattle.cw_pool.proofs.post.WorkerFrame.keep.Goals as goal

pub skip-requires-clause-out : goal.skip-requires-clause-out
skip-requires-clause-out g c =
    let n = lacks_newest c.args.yard.now c.args.self.now c.args.rest c.requires.lacks in
    (n.0, c.fail.ensures.outs ∙ n.1)

pub returns-in-Err-clause-works : goal.returns-in-Err-clause-works
returns-in-Err-clause-works g c =
    after_back c.args.yard.now c.args.self.now _ c.skip.new.self c.reserve.new.self c.args.rest c.requires.lacks c.reserve.ensures.items
    c.skip.ensures.running (c.skip.ensures.outs ∙ c.fail.ensures.outs)
