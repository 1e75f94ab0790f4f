use Rattle.std.proofs.Common.{◌≡◌, rules, length}
use Rattle.cw_own.proofs.BitSets.{either_words}
use Rattle.cw_own.proofs.bits.Bits.either.Goals as goal

pub returns : goal.returns
returns c =
    let four : length c.args.self.now.words ≡ 4 = search rules in
    let other : length c.args.other.now.words ≡ 4 = search rules in
    either_words c.args.self.now.words c.args.other.now.words four other
