use denote.Param.Send.{sendable}
use Rattle.cw_slices.specs.lemmas.Sent.{slice_send}
use Rattle.cw_part_tests.proofs.slices.two_threads_write.Goals as goal

pub join-left-requires-send-F : goal.join-left-requires-send-F
join-left-requires-send-F g c κs = search (sendable, slice_send) depth 9

pub join-left-requires-send-A : goal.join-left-requires-send-A
join-left-requires-send-A g c κs = search (sendable, slice_send) depth 9
