use denote.Param.Send.{IsSend}
use Rattle.cw_slices.specs.contracts.cells.Cells.{the_row}
use Rattle.cw_slices.specs.lemmas.Sent.{hold_send}

pub send : IsSend the_row
send = hold_send
