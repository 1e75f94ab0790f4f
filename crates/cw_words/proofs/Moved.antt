-- The requests for explanations among the remaining words, and the words that remain, depending on whether `--` came
-- before.
use Rattle.std.proofs.Common.{ℕ, Bool, true, false, List}
use Rattle.cw_words.specs.Explaining.{asks_explain, without_explain}

-- after a word `--`, no word asks for explanations, and all words remain
abbrev pub asks_on : Bool → List (List ℕ) → Bool
asks_on true words = false
asks_on false words = asks_explain words

abbrev pub without_on : Bool → List (List ℕ) → List (List ℕ)
without_on true words = words
without_on false words = without_explain words
