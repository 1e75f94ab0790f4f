use Rattle.std.proofs.Common.{rules, ◌≡◌, sym, ap}
use Rattle.std.specs.Int.{cast_unsigned, w128}
use Rattle.cw_reduce.specs.Words.{word, word_of}
use Rattle.cw_reduce.proofs.SumLaws.{sum_of_bits}
use Rattle.cw_reduce.proofs.sum.Sum.add.Goals as goal

pub returns : goal.returns
returns c =
    let e : c.cast_unsigned.result ≡ cast_unsigned w128 c.args.n = search rules in
    sum_of_bits c.args.self.now (word_of c.args.n) c.self.inside.bits c.cast_unsigned.result (sym c.self.view_is) (ap word (sym e))
