use Rattle.std.proofs.Common.{sym, ◌∙◌}
use Rattle.cw_lex.proofs.Fronts.{long_word, token_word}
use Rattle.cw_lex.proofs.front.word.Goals as goal

pub returns-then-len-gt-MOST_NAME_BYTES : goal.returns-then-len-gt-MOST_NAME_BYTES
returns-then-len-gt-MOST_NAME_BYTES c = long_word _ _ c.requires.some c.requires.letter c.run-len.ensures.value (sym c.word_kind.ensures ∙ c.in-Name.is) c.if-len-gt-MOST_NAME_BYTES.true

pub returns-else-len-gt-MOST_NAME_BYTES : goal.returns-else-len-gt-MOST_NAME_BYTES
returns-else-len-gt-MOST_NAME_BYTES c = token_word _ _ c.requires.some c.requires.letter c.run-len.ensures.value _ (sym c.in-Name.is ∙ c.word_kind.ensures) (λ _. c.if-len-gt-MOST_NAME_BYTES.false)

pub returns-in_default : goal.returns-in_default
returns-in_default c = token_word _ _ c.requires.some c.requires.letter c.run-len.ensures.value _ c.word_kind.ensures (λ e. absurd (c.in_default.not-Name (c.word_kind.ensures ∙ e)))
