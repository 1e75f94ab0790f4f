use Rattle.std.proofs.Common.{false, refl}
use Rattle.cw_sched.proofs.WorkerFrames.{stands_going}
use Rattle.cw_sched.proofs.post.WorkerFrame.hand_out.Goals as goal

pub returns-clause-stands : goal.returns-clause-stands
returns-clause-stands c =
    stands_going (record { number = c.args.self.now.number; strand = c.args.self.now.strand; at_join = false; outs = c.push_reserved-2.new.self.items }) refl c.requires.goes c.requires.out
