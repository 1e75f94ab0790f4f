use Rattle.std.proofs.Common.{refl}
use Rattle.cw_machine.proofs.Trimming.{trims}
use Rattle.cw_machine.proofs.machine.Machine.trim.Goals as goal

pub returns-clause-shows : goal.returns-clause-shows
returns-clause-shows c =
    trims c.args.code.now c.args.self.now _ c.keep_first.ensures (record {
      first = refl;
      frames = c.shrink_to_fit-3.ensures.items;
      lines = refl;
      views = c.shrink_to_fit.ensures.items;
      blocks = c.shrink_to_fit-2.ensures;
      first_array = refl;
      depth = refl;
      totals = refl;
      cuts = c.shrink_to_fit-4.ensures.items;
    }) refl
