use Rattle.std.proofs.Common.{refl}
use Rattle.cw_cli.proofs.responses.say_why.Goals as goal

pub returns-in-Fault : goal.returns-in-Fault
returns-in-Fault g c = rw (c.in-Fault.is) (record { untouched = refl; told = c.tell_words.ensures.told; status_is = c.tell_words.ensures.status })
