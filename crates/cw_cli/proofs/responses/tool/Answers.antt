use Rattle.std.proofs.Common.{rules, refl, ap, ◌∙◌, Ok, Err, []}
use Rattle.cw_cli.specs.Pages.{source_name}
use Rattle.cw_cli.specs.Tools.{unread, starved}
use Rattle.cw_cli.proofs.Tools.{alone, idle, grew, of_any, on_ok, answered}
use Rattle.cw_cli.proofs.responses.tool.Goals as goal

pub returns-then-failed_reads-failures : goal.returns-then-failed_reads-failures
returns-then-failed_reads-failures g c = of_any (g.D.Read.remaining c.args.source.now) _ (λ bytes. unread (grew _ _ _ _ c.failed_reads-failures.ensures c.failed_reads.ensures (search rules)) refl c.tell_file.ensures)

pub returns-then-is_err : goal.returns-then-is_err
returns-then-is_err g c = of_any (g.D.Read.remaining c.args.source.now) _ (λ bytes. starved refl c.refuse.ensures)

pub returns-in-Ok : goal.returns-in-Ok
returns-in-Ok g c =
    answered g.W.Sink.seen g.E.Sink.seen c.args.out.now c.analyse_named.new.out c.args.err.now c.args.err.now c.args.asked.now _ _ _
    g.D.Read.remaining c.args.source.now c.take.result.inner.now c.take.result.limit c.source_name.result.now c.new-bytes.result.items c.read_to_end-read.new.buf.items c.as_slice.result.now c.as_slice-args.result.now
    c.take.ensures.limit (ap (λ s. s.now) c.take.ensures.inner) c.new-bytes.ensures.items c.as_slice.ensures.value c.as_slice-args.ensures.value (c.source_name.ensures ∙ ap source_name c.as_bytes.ensures.value) (on_ok c.read_to_end-read.result _ (search rules) c.read_to_end-read.ensures.bytes)
    (Ok tt) 0 refl c.in-Ok.ensures (alone g.E.Sink.seen c.args.err.now c.args.err.now c.args.asked.now.explain [] (idle g.E.Sink.seen c.args.err.now))

pub returns : goal.returns
returns g c =
    answered g.W.Sink.seen g.E.Sink.seen c.args.out.now c.analyse_named.new.out c.args.err.now c.tell.new.err c.args.asked.now _ _ _
    g.D.Read.remaining c.args.source.now c.take.result.inner.now c.take.result.limit c.source_name.result.now c.new-bytes.result.items c.read_to_end-read.new.buf.items c.as_slice.result.now c.as_slice-args.result.now
    c.take.ensures.limit (ap (λ s. s.now) c.take.ensures.inner) c.new-bytes.ensures.items c.as_slice.ensures.value c.as_slice-args.ensures.value (c.source_name.ensures ∙ ap source_name c.as_bytes.ensures.value) (on_ok c.read_to_end-read.result _ (search rules) c.read_to_end-read.ensures.bytes)
    (Err c.in-Err.fault) c.tell.result c.tell.ensures.status c.in-Err.ensures c.tell.ensures.told
