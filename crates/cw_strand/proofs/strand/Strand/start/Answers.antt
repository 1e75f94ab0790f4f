use Rattle.std.proofs.Common.{refl, subst}
use Rattle.std.specs.Box.{with_value}
use Rattle.cw_strand.specs.declared.strand.Mode.TheVariants as mode
use Rattle.cw_strand.specs.Moves.{BeginsRun}
use Rattle.cw_strand.proofs.Starts.{begins}
use Rattle.cw_strand.proofs.strand.Strand.start.Goals as goal

pub returns-in-Ok : goal.returns-in-Ok
returns-in-Ok c =
    begins c.calls_preserve_strand_job.ensures c.calls_keep_meter_records.ensures c.args.job c.begin_run.new.parts
    (record {
      of = c.of-of.result;
      parts = with_value c.args.job.parts c.begin_run.new.parts;
      run = c.in-Ok.run';
      count = 0;
      lent = c.new.result;
      spares = c.new-in-Ok.result;
      mode = mode.Going;
    }) c.of-of.ensures refl c.new.ensures.items c.new-in-Ok.ensures.items refl refl
    (subst (λ q. BeginsRun q c.begin_run.new.parts c.in-Ok.run') c.deref_mut.ensures.value c.in-Ok.ensures.begins)
