-- The fault of words that cannot be read.
use Rattle.std.specs.declared.io.ErrorKind.{ErrorKind}
use Rattle.std.specs.declared.io.ErrorKind.TheVariants as kind
use Rattle.cw_text.specs.declared.fault.Fault.{Fault}
use Rattle.cw_text.specs.declared.fault.Fault.TheVariants as fault

-- the fault of words that cannot be read for a reason of this kind: `Memory` if memory ran out, otherwise `Arguments`
abbrev pub unread_fault : ErrorKind → Fault
unread_fault kind.OutOfMemory = fault.Memory
unread_fault _ = fault.Arguments
