use Rattle.cw_lex.proofs.Fronts.{digits_pass, token_number, large_number}
use Rattle.cw_lex.proofs.front.digits.Goals as goal

pub value_of_digits-requires : goal.value_of_digits-requires
value_of_digits-requires c = digits_pass _ c.digits_len-len.ensures.number

pub returns-in-Some : goal.returns-in-Some
returns-in-Some c = let e = c.digits_len-len.ensures in token_number _ _ _ e.some e.longest e.number c.in-Some.ensures.some.0 c.in-Some.ensures.some.1

pub returns-in-None : goal.returns-in-None
returns-in-None c = let e = c.digits_len-len.ensures in large_number _ _ e.longest e.number c.in-None.ensures.none
