use Rattle.std.proofs.Common.{subst}
use Rattle.cw_model.specs.Grammar.{Derives}
use Rattle.cw_compile.proofs.laws.one_program.Goals as goal

pub returns : goal.returns
returns c = λ bytes p q h k.
    let same = c.one_cut.ensures bytes k.tokens h.tokens k.has_tokens.cut h.has_tokens.cut in
    c.one_tree.ensures bytes h.tokens p q h.parsed.derived (subst (λ ts. Derives bytes ts q) same k.parsed.derived)
