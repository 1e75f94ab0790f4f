use Rattle.std.proofs.Common.{◌≡◌, Ok, Err, ap, sym, subst}
use Rattle.cw_facts.specs.Options.{handed_on}
use Rattle.cw_code.specs.Code.{code_view}
use Rattle.cw_runnable.specs.declared.verified.Verified.{Verified}
use Rattle.cw_compile.specs.Compiled.{AreMade, IsCompiled}
use Rattle.cw_gains.specs.Gains.{HasNumberedSites}
use Rattle.cw_cli.specs.Pages.{DrawsAsCode, asked_for}
use Rattle.cw_cli.proofs.Runs.{finished, stopped, unwritten}
use Rattle.cw_cli.proofs.Drawing.{page_tells}
use Rattle.cw_cli.proofs.paging.run_page.Goals as goal

pub returns-in_err-page : goal.returns-in_err-page
returns-in_err-page g c = λ is made.
    let arc : Verified = c.in_ok-code.code.value in
    let args = c.args.args.now in
    let options = c.args.options in
    let words = c.are_words.ensures in
    let name = c.args.name.now in
    let bytes = c.args.bytes.now in
    let of_code = subst (λ v. AreMade bytes v c.args.made.heads.items) (sym c.in_ok-code.ensures.ok) made in
    let of_heads = subst (λ hs. AreMade bytes arc hs) (sym c.as_slice-heads.ensures.value) of_code in
    let compiled : IsCompiled bytes (code_view arc.code) = of_heads.compiled in
    let same : code_view c.deref.result.now.code ≡ code_view arc.code = ap (λ (v : Verified). code_view v.code) c.deref.ensures in
    let tells = page_tells name bytes args words options (code_view arc.code) compiled c.args.top c.args.most is c.as_slice-heads.result.now of_heads.are_heads c.derived_sites_are_numbered.ensures c.as_bytes-version.result.now c.deref.result.now c.as_bytes-version.ensures.value same in
    let ran : DrawsAsCode (code_view arc.code) c.as_slice-heads.result.now (asked_for args options.limit options.burden c.args.top c.args.most) c.drawn_alone-drawn.result = c.drawn_alone-drawn.ensures in
    handed_on _ _ _ c.from_residual-in_err-page.result
    (unwritten name bytes args words options _ compiled _ _ _ tells g.W.Sink.seen c.args.out.now c.page.new.to c.drawn_alone-drawn.result ran c.in_err-page.ensures.idle _ c.in_err-page.ensures.answers)
    c.from_residual-in_err-page.ensures.1

pub returns-in_err-drawn : goal.returns-in_err-drawn
returns-in_err-drawn g c = λ is made.
    let arc : Verified = c.in_ok-code.code.value in
    let args = c.args.args.now in
    let options = c.args.options in
    let words = c.are_words.ensures in
    let name = c.args.name.now in
    let bytes = c.args.bytes.now in
    let of_code = subst (λ v. AreMade bytes v c.args.made.heads.items) (sym c.in_ok-code.ensures.ok) made in
    let of_heads = subst (λ hs. AreMade bytes arc hs) (sym c.as_slice-heads.ensures.value) of_code in
    let compiled : IsCompiled bytes (code_view arc.code) = of_heads.compiled in
    let same : code_view c.deref.result.now.code ≡ code_view arc.code = ap (λ (v : Verified). code_view v.code) c.deref.ensures in
    let tells = page_tells name bytes args words options (code_view arc.code) compiled c.args.top c.args.most is c.as_slice-heads.result.now of_heads.are_heads c.derived_sites_are_numbered.ensures c.as_bytes-version.result.now c.deref.result.now c.as_bytes-version.ensures.value same in
    let ran : DrawsAsCode (code_view arc.code) c.as_slice-heads.result.now (asked_for args options.limit options.burden c.args.top c.args.most) c.drawn_alone-drawn.result = c.drawn_alone-drawn.ensures in
    let was : c.drawn_alone-drawn.result ≡ Err c.in_err-drawn.field-0.0 = c.in_err-drawn.was in
    handed_on _ _ _ c.from_residual-in_err-drawn.result
    (stopped name bytes args words options _ compiled _ _ _ tells g.W.Sink.seen c.args.out.now c.page.new.to c.drawn_alone-drawn.result _ was ran c.in_ok-page.ensures.answers c.in_ok-page.ensures.idle)
    c.from_residual-in_err-drawn.ensures.1

pub returns : goal.returns
returns g c = λ is made.
    let arc : Verified = c.in_ok-code.code.value in
    let args = c.args.args.now in
    let options = c.args.options in
    let words = c.are_words.ensures in
    let name = c.args.name.now in
    let bytes = c.args.bytes.now in
    let of_code = subst (λ v. AreMade bytes v c.args.made.heads.items) (sym c.in_ok-code.ensures.ok) made in
    let of_heads = subst (λ hs. AreMade bytes arc hs) (sym c.as_slice-heads.ensures.value) of_code in
    let compiled : IsCompiled bytes (code_view arc.code) = of_heads.compiled in
    let same : code_view c.deref.result.now.code ≡ code_view arc.code = ap (λ (v : Verified). code_view v.code) c.deref.ensures in
    let tells = page_tells name bytes args words options (code_view arc.code) compiled c.args.top c.args.most is c.as_slice-heads.result.now of_heads.are_heads c.derived_sites_are_numbered.ensures c.as_bytes-version.result.now c.deref.result.now c.as_bytes-version.ensures.value same in
    let ran : DrawsAsCode (code_view arc.code) c.as_slice-heads.result.now (asked_for args options.limit options.burden c.args.top c.args.most) c.drawn_alone-drawn.result = c.drawn_alone-drawn.ensures in
    let was : c.drawn_alone-drawn.result ≡ Ok c.in_ok-drawn.field-0 = c.in_ok-drawn.was in
    finished name bytes args words options _ compiled _ _ _ tells g.W.Sink.seen c.args.out.now c.page.new.to c.drawn_alone-drawn.result _ was ran c.in_ok-page.ensures.answers c.in_ok-page.ensures.idle

pub drawn_alone-drawn-requires : goal.drawn_alone-drawn-requires
drawn_alone-drawn-requires g c = subst (λ v. HasNumberedSites (code_view v.code)) (sym c.in_ok-code.ensures.ok) c.requires.numbered
