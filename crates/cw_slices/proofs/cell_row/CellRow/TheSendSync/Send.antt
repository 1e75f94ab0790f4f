use denote.Param.Send.{IsSend}
use Rattle.cw_slices.specs.contracts.cell_row.CellRow.{the_row}
use Rattle.cw_slices.specs.lemmas.Sent.{kept_send}

pub send : IsSend the_row
send = kept_send
