use Rattle.std.proofs.lemmas.Option.{slice_get_within}
use Rattle.cw_sched.proofs.Tops.{top_laid}
use Rattle.cw_sched.proofs.world.put.Goals as goal

pub returns : goal.returns
returns c =
    let qs = c.args.begun.now.items in
    top_laid qs c.args.w c.index_mut.result.now c.push_reserved.new.self c.args.next (slice_get_within qs c.args.w c.requires.0 c.requires.1) c.index_mut.ensures.value c.push_reserved.ensures.items
