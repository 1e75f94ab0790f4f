use Rattle.cw_worker_tests.proofs.driving.come_in.Goals as goal

pub give-requires-clause-given : goal.give-requires-clause-given
give-requires-clause-given c = record {
  out = c.args.job.value;
  others = c.requires.out.0;
  are = c.requires.out.1;
  means = c.requires.means;
}
