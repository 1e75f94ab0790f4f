use Rattle.cw_text.specs.lemmas.Order.{in_order}
use Rattle.cw_text.proofs.laws.lines_rise.Goals as goal

pub returns : goal.returns
returns c = in_order (λ line. line)
