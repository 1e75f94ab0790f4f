use Rattle.std.proofs.Common.{◌≡◌, length, ◌∙◌, arith}
use Rattle.cw_model.specs.Sizes.{call_count}
use Rattle.cw_gen.specs.Generates.{source_of}
use Rattle.cw_gen.proofs.Small.{as_many_as_told, emitted_same}
use Rattle.cw_gen.proofs.excess.excess_of.Goals as goal

pub returns-then-count-gt-MOST_CALL_STATEMENTS : goal.returns-then-count-gt-MOST_CALL_STATEMENTS
returns-then-count-gt-MOST_CALL_STATEMENTS c =
    let typed = c.args.core.now.source.typed in
    let sites = c.in_ok-sites.sites.items in
    let many : length sites ≡ call_count (source_of c.args.core.now) = as_many_as_told typed.tree typed.resolved sites (c.in_ok-sites.ensures ∙ emitted_same c.deref.ensures.value) in
    (omega (arith, many, c.len-count.ensures), omega (arith, c.if-count-gt-MOST_CALL_STATEMENTS.true))

pub returns : goal.returns
returns c =
    let typed = c.args.core.now.source.typed in
    let sites = c.in_ok-sites.sites.items in
    let many : length sites ≡ call_count (source_of c.args.core.now) = as_many_as_told typed.tree typed.resolved sites (c.in_ok-sites.ensures ∙ emitted_same c.deref.ensures.value) in
    omega (arith, many, c.len-count.ensures, c.if-count-gt-MOST_CALL_STATEMENTS.false)
