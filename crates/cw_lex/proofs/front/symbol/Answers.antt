use Rattle.std.proofs.Common.{sym, ◌∙◌}
use Rattle.cw_lex.proofs.Fronts.{comment_front, two_front, one_front, none_front}
use Rattle.cw_lex.proofs.front.symbol.Goals as goal

pub returns-then-second-eq47 : goal.returns-then-second-eq47
returns-then-second-eq47 c = comment_front c.args.bytes.now _ c.if-first-eq47.true (sym c.second-second.ensures ∙ c.if-second-eq47.true) c.run.ensures.value

pub returns-in-Some : goal.returns-in-Some
returns-in-Some c = two_front c.args.bytes.now _ c.requires.some c.requires.mark c.second-second.ensures c.else-first-eq47.either _ _ c.two_bytes.ensures c.in-Some.is

pub returns-in-Some-one_byte : goal.returns-in-Some-one_byte
returns-in-Some-one_byte c = one_front c.args.bytes.now _ c.requires.some c.requires.mark c.second-second.ensures c.else-first-eq47.either _ _ _ c.two_bytes.ensures c.in_default.is c.one_byte.ensures c.in-Some-one_byte.is

pub returns-in-None : goal.returns-in-None
returns-in-None c = none_front c.args.bytes.now _ c.requires.some c.requires.mark c.second-second.ensures c.else-first-eq47.either _ _ c.two_bytes.ensures c.in_default.is c.one_byte.ensures c.in-None.is c.requires.separator
