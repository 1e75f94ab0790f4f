use Rattle.std.proofs.Common.{refl}
use Rattle.cw_machine.proofs.machine.Machine.renew.Goals as goal

pub returns : goal.returns
returns c =
    let z = c.in_ok-renew.ensures in
    record {
      zeros = z.zeros;
      are = z.are;
      whole = z.whole;
      own = z.own;
      blocks = z.set;
      views = refl;
      rest = record { cells = refl; place = refl; first = refl; frames = refl; lines = refl; first_array = refl; depth = refl; totals = refl; cuts = refl };
    }
