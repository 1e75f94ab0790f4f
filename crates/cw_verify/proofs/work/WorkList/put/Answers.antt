use Rattle.std.specs.BinaryHeap.{heap_items}
use Rattle.std.proofs.lemmas.List.Sorted.{IsPermutation-map}
use Rattle.cw_verify.specs.Table.{pcs_of}
use Rattle.cw_verify.proofs.Noting.{noted}
use Rattle.cw_verify.proofs.work.WorkList.put.Goals as goal

pub returns : goal.returns
returns c = noted c.args.place (pcs_of c.args.self.now) _ (IsPermutation-map (λ r. r.0.1) _ (heap_items c.push.new.self) c.in_ok-push.ensures.permutation)
