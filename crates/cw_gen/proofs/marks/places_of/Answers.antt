use Rattle.std.proofs.Common.{◌≡◌, ◌<◌, [], drop, sym, ap, ◌∙◌, arith}
use Rattle.std.proofs.Math.ListN.{drop_of_length-le}
use Rattle.cw_gen.specs.Marks.{marks_in, readers_in, places_from}
use Rattle.cw_gen.specs.Written.{kinds_of}
use Rattle.cw_gen.proofs.PlacesTold.{table_ends, readers_end, table_counted, told_table, some_kept}
use Rattle.cw_gen.proofs.marks.places_of.Goals as goal

pub invariant_of-result : goal.invariant_of-result
invariant_of-result c =
    let items = c.loop-p.table.items in
    let kinds = kinds_of c.args.params.now in
    let none : kinds_of (drop c.loop-p.p-index c.args.params.now) ≡ [] = ap kinds_of (drop_of_length-le c.args.params.now (omega (arith, c.loop-p-test.false))) in
    let is : items ≡ places_from 0 0 (marks_in kinds) = table_ends kinds (kinds_of (drop c.loop-p.p-index c.args.params.now)) items c.loop-p.arrays c.loop-p.readers none c.loop-p.invariant.table in
    let many : c.loop-p.readers ≡ readers_in (marks_in kinds) = readers_end kinds (kinds_of (drop c.loop-p.p-index c.args.params.now)) c.loop-p.readers none c.loop-p.invariant.readers in
    (table_counted items (marks_in kinds) is, (many ∙ ap readers_in (sym (told_table items (marks_in kinds) is)), tt))

pub returns : goal.returns
returns c =
    let items = c.loop-p.table.items in
    let kinds = kinds_of c.args.params.now in
    let none : kinds_of (drop c.loop-p.p-index c.args.params.now) ≡ [] = ap kinds_of (drop_of_length-le c.args.params.now (omega (arith, c.loop-p-test.false))) in
    let is : items ≡ places_from 0 0 (marks_in kinds) = table_ends kinds (kinds_of (drop c.loop-p.p-index c.args.params.now)) items c.loop-p.arrays c.loop-p.readers none c.loop-p.invariant.table in
    let many : c.loop-p.readers ≡ readers_in (marks_in kinds) = readers_end kinds (kinds_of (drop c.loop-p.p-index c.args.params.now)) c.loop-p.readers none c.loop-p.invariant.readers in
    let some : 0 < readers_in (marks_in kinds) = omega (arith, many, c.if-readers-eq0.false) in
    told_table items (marks_in kinds) is ∙ sym (some_kept (marks_in kinds) some)
