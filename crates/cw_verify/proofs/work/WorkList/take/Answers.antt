use Rattle.std.specs.BinaryHeap.{heap_items}
use Rattle.std.proofs.lemmas.List.Sorted.{IsPermutation-map, IsPermutation-sym}
use Rattle.cw_verify.specs.Table.{pcs_of}
use Rattle.cw_verify.proofs.Noting.{noted}
use Rattle.cw_verify.proofs.work.WorkList.take.Goals as goal

pub returns-in-Some : goal.returns-in-Some
returns-in-Some c =
    noted c.in-Some.field-0.0.1 _ (pcs_of c.args.self.now) (IsPermutation-map (λ r. r.0.1) _ (heap_items c.args.self.now.places) (IsPermutation-sym (heap_items c.args.self.now.places) _ c.in-Some.ensures.permutation))
