-- A source passes through the stages in order; each stage either continues with one value or stops in one line.
use Rattle.std.proofs.Common.{◌≡◌, ℕ, ◌≤◌, List, [], length, Result, Ok, Err, ◌⊎◌, inl, inr, refl, sym, ap, ◌∙◌, subst, arith}
use Rattle.cw_model.specs.declared.token.Token.{Token}
use Rattle.cw_model.specs.declared.limits.TheConstants.{MOST_SOURCE_BYTES}
use Rattle.cw_model.specs.Lines.{IsLeastLine}
use Rattle.cw_model.specs.Text.{IsAscii, IsSourceText, line_at, IsTooLong, IsNotAscii}
use Rattle.cw_model.specs.Tokens.{IsTokenCut, HasLexicalFault, HasNameFault}
use Rattle.cw_model.specs.Syntax.{Program}
use Rattle.cw_model.specs.Ownership.{ownership_faults}
use Rattle.cw_model.specs.Sizes.{token_faults, limit_faults, loop_faults, program_faults}
use Rattle.cw_model.specs.lemmas.Lowest.{no_least, one_least}
use Rattle.cw_lex.specs.Laws.{HasOneCut, FaultsExcludeCuts, FaultsExcludeOneAnother, LexicalFaultHasOneLine, NameFaultHasOneLine}
use Rattle.cw_model.specs.Grammar.{Derives, HasSyntaxFault}
use Rattle.cw_model.specs.Typing.{type_faults}
use Rattle.cw_model.specs.lemmas.Firsts.{same_above}
use Rattle.cw_parse.specs.Parsed.{HasOneTree, FaultsAreOne}
use Rattle.cw_text.specs.declared.fault.Place.{Place}
use Rattle.cw_text.specs.declared.fault.Fault.{Fault}
use Rattle.cw_text.specs.declared.fault.Fault.TheVariants as fault
use Rattle.cw_compile.specs.Sources as sources

-- ---- one stage

-- at most one value is right, or exactly one line is wrong
record IsChoice {A : Type 0} (Right : A → Type 0) (Wrong : ℕ → Type 0) : Type 0 where
  pub one_value : (a b : A) → Right a → Right b → a ≡ b
  pub apart : (a : A) (line : ℕ) → Right a → Wrong line → ⊥
  pub one_line : (l m : ℕ) → Wrong l → Wrong m → l ≡ m

-- the result is the fault in a wrong line, or the result of the rest for a right value
data Stage {A : Type 0} (Right : A → Type 0) (Wrong : ℕ → Type 0) (faulty : Place → Fault) (Rest : A → Result Program Fault → Type 0) : Result Program Fault → Type 0 where
  goes : {r : Result Program Fault} (a : A) → Right a → Rest a r → Stage Right Wrong faulty Rest r
  stops : (p : Place) → Wrong p.line → Stage Right Wrong faulty Rest (Err (faulty p))

abbrev IsOne : (Result Program Fault → Type 0) → Type 0
IsOne Answer = (r s : Result Program Fault) → Answer r → Answer s → r ≡ s

module _ {A : Type 0} (Right : A → Type 0) (Wrong : ℕ → Type 0) (faulty : Place → Fault) (Rest : A → Result Program Fault → Type 0) where
  stage_one : IsChoice Right Wrong → ((a : A) → Right a → IsOne (Rest a)) → IsOne (Stage Right Wrong faulty Rest)
  stage_one choice rest r s (goes a h x) (goes b k y) =
      rest b k r s (subst (λ c. Rest c r) (choice.one_value a b h k) x) y
  stage_one choice rest r s (goes a h x) (stops q k) = absurd (choice.apart a q.line h k)
  stage_one choice rest r s (stops p h) (goes b k y) = absurd (choice.apart b p.line k h)
  stage_one choice rest r s (stops p h) (stops q k) = ap (λ n. Err (faulty (record { line = n }))) (choice.one_line p.line q.line h k)

-- ---- lists of lines that break a rule

-- no line breaks the rule, or the least line that breaks it is wrong
abbrev Keeps : List ℕ → (Place → Fault) → (Result Program Fault → Type 0) → Result Program Fault → Type 0
Keeps lines faulty Rest = Stage {A = Unit {0}} (λ _. lines ≡ []) (IsLeastLine lines) faulty (λ _. Rest)

keeps_one : (lines : List ℕ) (faulty : Place → Fault) (Rest : Result Program Fault → Type 0) → IsOne Rest → IsOne (Keeps lines faulty Rest)
keeps_one lines faulty Rest rest =
    stage_one (λ _. lines ≡ []) (IsLeastLine lines) faulty (λ _. Rest)
    (record { one_value = λ a b h k. refl; apart = λ a line h k. no_least lines line h k; one_line = one_least lines }) (λ a h. rest)

-- ---- the stages, from the last to the first

abbrev AfterOwnership : Program → Result Program Fault → Type 0
AfterOwnership p = Keeps (loop_faults p) (λ at. fault.Size at) (Keeps (program_faults p) (λ at. fault.Size at) (λ r. r ≡ Ok p))

abbrev AfterTree : Program → Result Program Fault → Type 0
AfterTree p =
    Keeps (limit_faults p) (λ at. fault.Size at)
    (Keeps (type_faults p) (λ at. fault.Types at) (Keeps (ownership_faults p) (λ at. fault.Ownership at) (AfterOwnership p)))

abbrev AfterCut : List ℕ → List Token → Result Program Fault → Type 0
AfterCut bytes ts = Keeps (token_faults 0 0 ts) (λ at. fault.Size at) (Stage (Derives bytes ts) (HasSyntaxFault bytes ts) (λ at. fault.Syntax at) AfterTree)

abbrev AfterText : List ℕ → Result Program Fault → Type 0
AfterText bytes =
    Stage {A = Unit {0}} (λ _. (line : ℕ) → HasLexicalFault bytes line → ⊥) (HasLexicalFault bytes) (λ at. fault.Lexical at)
    (λ _. Stage (IsTokenCut bytes) (HasNameFault bytes) (λ at. fault.Size at) (AfterCut bytes))

abbrev Answer : List ℕ → Result Program Fault → Type 0
Answer bytes =
    Stage {A = Unit {0}} (λ _. length bytes ≤ MOST_SOURCE_BYTES) (IsTooLong bytes) (λ at. fault.Size at)
    (λ _. Stage {A = Unit {0}} (λ _. IsAscii bytes) (IsNotAscii bytes) (λ at. fault.Lexical at) (λ _. AfterText bytes))

length_choice : (bytes : List ℕ) → IsChoice {A = Unit {0}} (λ _. length bytes ≤ MOST_SOURCE_BYTES) (IsTooLong bytes)
length_choice bytes = record {
  one_value = λ a b h k. refl;
  apart = λ a line h k. omega (arith, h, k.long);
  one_line = λ l m h k. h.first ∙ sym k.first;
}

ascii_choice : (bytes : List ℕ) → IsChoice {A = Unit {0}} (λ _. IsAscii bytes) (IsNotAscii bytes)
ascii_choice bytes = record {
  one_value = λ a b h k. refl;
  apart = λ a line h k. let low = h k.at 0 k.above.within in omega (arith, low, k.above.above);
  one_line = λ l m h k. h.same_line ∙ ap (line_at bytes) (same_above bytes h.at k.at h.above k.above) ∙ sym k.same_line;
}

abbrev failed : Fault → Result Program Fault
failed f = Err f

-- ---- the laws of the crates below

module _ (one_cut : HasOneCut) (no_cut : FaultsExcludeCuts) (one_kind : FaultsExcludeOneAnother) (one_lexical : LexicalFaultHasOneLine)
    (one_name : NameFaultHasOneLine) (one_tree : (text : List ℕ) (ts : List Token) → HasOneTree text ts) (no_tree : (text : List ℕ) (ts : List Token)
    → FaultsAreOne text ts) (bytes : List ℕ) where
  after_tree_one : (p : Program) → IsOne (AfterTree p)
  after_tree_one p =
      keeps_one (limit_faults p) _ _ (keeps_one (type_faults p) _ _ (keeps_one (ownership_faults p) _ _ (keeps_one (loop_faults p) _ _ (keeps_one (program_faults p) _ _ (λ r s h k. h ∙ sym k)))))

  tree_choice : (ts : List Token) → IsChoice (Derives bytes ts) (HasSyntaxFault bytes ts)
  tree_choice ts = record { one_value = one_tree bytes ts; apart = λ p line h k. (no_tree bytes ts).no_tree line p k h; one_line = (no_tree bytes ts).one_line }

  after_cut_one : (ts : List Token) → IsOne (AfterCut bytes ts)
  after_cut_one ts = keeps_one (token_faults 0 0 ts) _ _ (stage_one _ _ _ _ (tree_choice ts) (λ p h. after_tree_one p))

  name_choice : IsChoice (IsTokenCut bytes) (HasNameFault bytes)
  name_choice = record { one_value = one_cut bytes; apart = λ ts line h k. no_cut bytes line ts (inr k) h; one_line = one_name bytes }

  lexical_choice : IsChoice {A = Unit {0}} (λ _. (line : ℕ) → HasLexicalFault bytes line → ⊥) (HasLexicalFault bytes)
  lexical_choice = record { one_value = λ a b h k. refl; apart = λ a line h k. h line k; one_line = one_lexical bytes }

  after_text_one : IsOne (AfterText bytes)
  after_text_one = stage_one _ _ _ _ lexical_choice (λ a h. stage_one _ _ _ _ name_choice (λ ts k. after_cut_one ts))

  answer_one : IsOne (Answer bytes)
  answer_one = stage_one _ _ _ _ (length_choice bytes) (λ a h. stage_one _ _ _ _ (ascii_choice bytes) (λ b k. after_text_one))

  -- ---- how far the stages accept a source

  text : {r : Result Program Fault} → IsSourceText bytes → AfterText bytes r → Answer bytes r
  text h x = goes tt h.short (goes tt h.ascii x)

  cut : {r : Result Program Fault} (ts : List Token) → sources.HasTokens bytes ts → AfterCut bytes ts r → Answer bytes r
  cut ts h x = text h.text (goes tt (λ line f. no_cut bytes line ts (inl f) h.cut) (goes ts h.cut x))

  tree : {r : Result Program Fault} (p : Program) → sources.IsSourceOf bytes p → AfterTree p r → Answer bytes r
  tree p h x = cut h.tokens h.has_tokens (goes tt h.parsed.short (goes p h.parsed.derived x))

  accepted : {r : Result Program Fault} (p : Program) → sources.IsAccepted bytes p → AfterOwnership p r → Answer bytes r
  accepted p h x = tree p h.source (goes tt h.within (goes tt h.typed (goes tt h.owned x)))

  compiled : (p : Program) → sources.Compiles bytes p → Answer bytes (Ok p)
  compiled p h = accepted p h.accepted (goes tt h.loops (goes tt h.small refl))

  lexical : (at : Place) → sources.IsLexicallyRejected bytes at.line → Answer bytes (Err (fault.Lexical at))
  lexical at (sources.byte h) = goes tt h.short (stops at h)
  lexical at (sources.token valid h) = text valid (stops at h)

  size : (at : Place) → sources.PassesLimit bytes at.line → Answer bytes (Err (fault.Size at))
  size at (sources.length h) = stops at h
  size at (sources.name valid h) = text valid (goes tt (λ line f. one_kind bytes line at.line f h) (stops at h))
  size at (sources.tokens ts has h) = cut ts has (stops at h)
  size at (sources.parts p source h) = tree p source (stops at h)
  size at (sources.loops p given h) = accepted p given (stops at h)
  size at (sources.code p given few h) = accepted p given (goes tt few (stops at h))

  refused : (f : Fault) → sources.IsRejected bytes f → (f ≡ fault.Memory) ⊎ Answer bytes (Err f)
  refused (fault.Lexical at) h = inr (lexical at h)
  refused (fault.Syntax at) h = inr (cut h.tokens h.has_tokens (goes tt h.syntax.short (stops at h.syntax.fault)))
  refused (fault.Types at) h = inr (tree h.program h.source (goes tt h.types.within (stops at h.types.least)))
  refused (fault.Ownership at) h = inr (tree h.program h.source (goes tt h.within (goes tt h.typed (stops at h.least))))
  refused (fault.Size at) h = inr (size at h)
  refused fault.Memory h = inl refl
  refused _ h = absurd h

  not_both : (p : Program) (f : Fault) → Ok p ≡ Err f → ⊥
  not_both p f e = cc

  err_is : (f g : Fault) → failed f ≡ failed g → f ≡ g
  err_is f g e = cc

  pub compiled_apart : (p : Program) (f : Fault) → sources.Compiles bytes p → sources.IsRejected bytes f → f ≡ fault.Memory
  compiled_apart p f h k = elim (refused f k) [ inl e ↦ e | inr x ↦ absurd (not_both p f (answer_one (Ok p) (Err f) (compiled p h) x)) ]

  pub one_refusal : (f g : Fault) → sources.IsRejected bytes f → sources.IsRejected bytes g → (f ≡ g) ⊎ (f ≡ fault.Memory) ⊎ (g ≡ fault.Memory)
  one_refusal f g h k = both (refused f h) (refused g k)
    where
      both : (f ≡ fault.Memory) ⊎ Answer bytes (Err f) → (g ≡ fault.Memory) ⊎ Answer bytes (Err g) → (f ≡ g) ⊎ (f ≡ fault.Memory) ⊎ (g ≡ fault.Memory)
      both (inl e) _ = inr (inl e)
      both _ (inl e) = inr (inr e)
      both (inr x) (inr y) = inl (err_is f g (answer_one (Err f) (Err g) x y))
