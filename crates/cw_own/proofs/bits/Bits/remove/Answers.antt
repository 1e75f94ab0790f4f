use Rattle.std.proofs.Common.{◌≡◌, rules, length}
use Rattle.cw_own.proofs.BitSets.{one_removed}
use Rattle.cw_own.proofs.bits.Bits.remove.Goals as goal

pub returns : goal.returns
returns c = let four : length c.args.self.now.words ≡ 4 = search rules in one_removed c.args.self.now.words c.args.slot four c.requires
