use Rattle.std.proofs.Common.{rules}
use Rattle.std.proofs.lemmas.Str.Parse.{parse_digits}
use Rattle.cw_words.proofs.Digits.{own, tells}
use Rattle.cw_words.proofs.number.decimal.Goals as goal

pub returns-then-is_digits : goal.returns-then-is_digits
returns-then-is_digits c =
    let h = tells c.args.text.now c.parse.result (search rules) (parse_digits own 64 c.args.text.now c.parse.result c.parse.ensures.value.0 (search rules)) in
    rw c.ok.ensures.value h
