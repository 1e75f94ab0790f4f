use Rattle.cw_report.proofs.Escaped.{escaped_is_text}
use Rattle.cw_report.proofs.laws.escaped_is_text.Goals as goal

pub returns : goal.returns
returns c = escaped_is_text
