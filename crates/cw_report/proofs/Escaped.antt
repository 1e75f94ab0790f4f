-- Escaped bytes, as HTML reads them.
use Rattle.std.proofs.Common.{◌≡◌, ◌∙◌, ◌+◌, ◌-◌, ◌*◌, ◌<◌, ◌^◌, ◌==◌, ◌||◌, ℕ, suc, Bool, true, false, List, [], ◌∷◌, ◌++◌, length, fold, None, arith, rules, ap, refl, option_map}
use Rattle.std.specs.Prelude.{if◌then◌else◌, nat_lt, decimal}
use Rattle.std.specs.List.{list_all}
use Rattle.std.proofs.lemmas.Bool.{and_parts}
use Rattle.std.proofs.lemmas.Fmt.{decimal_nonempty, digits_decimal}
use Rattle.std.proofs.lemmas.List.{append_assoc}
use Rattle.std.proofs.lemmas.Str.Parse.{IsNumeralModel, numerals_by_fold}
use Rattle.cw_model.specs.Pieces.{is_digit, decimal_value}
use Rattle.cw_report.specs.Escaping.{EscapedIsText, begun, started, between, characters, escaped, escaped_byte, is_markup, is_shown, is_special, numbered, reference}

own : IsNumeralModel (λ ds. list_all is_digit ds ≡ true) decimal_value
own = numerals_by_fold _ (search rules) (λ n ds. fold (λ m b. 10 * m + (b - 48)) n ds) (search rules)

read_digits : (ds rest : List ℕ) → list_all is_digit ds ≡ true → characters numbered (ds ++ 59 ∷ rest) ≡ option_map suc (characters between rest)
read_digits [] rest h = refl
read_digits (d ∷ ds) rest h =
    let parts = and_parts (is_digit d) (list_all is_digit ds) h in
    let others = option_map suc (characters between (ds ++ 59 ∷ rest)) in
    ap (λ b. if b then characters numbered (ds ++ 59 ∷ rest) else (if d == 59 then others else None)) parts.0 ∙ read_digits ds rest parts.1

read_first : (ds rest : List ℕ) → 0 < length ds → list_all is_digit ds ≡ true → characters begun (ds ++ 59 ∷ rest) ≡ option_map suc (characters between rest)
read_first [] rest some h = absurd (omega (arith, some))
read_first (d ∷ ds) rest some h =
    let parts = and_parts (is_digit d) (list_all is_digit ds) h in
    let none = None in
    ap (λ b. if b then characters numbered (ds ++ 59 ∷ rest) else none) parts.0 ∙ read_digits ds rest parts.1

read_reference : (n : ℕ) (rest : List ℕ) → n < 2 ^ 64 → characters between (reference n ++ rest) ≡ option_map suc (characters between rest)
read_reference n rest lt =
    ap (characters begun) (append_assoc (decimal n) (59 ∷ []) rest)
    ∙ read_first (decimal n) rest (decimal_nonempty n lt) (digits_decimal own n lt)

-- a byte that is not special is neither `&` nor markup
not_special : (a l g q p r : Bool) → (a || l || g || q || p || r) ≡ false → (a ≡ false) × ((l || g || q || p) ≡ false)
not_special true l g q p r h = cc
not_special false true g q p r h = cc
not_special false false true q p r h = cc
not_special false false false true p r h = cc
not_special false false false false true r h = cc
not_special false false false false false r h = (refl, refl)

read_shown : (b : ℕ) (rest : List ℕ) → is_special b ≡ false → characters between (b ∷ rest) ≡ option_map suc (characters between rest)
read_shown b rest h =
    let parts = not_special (b == 38) (b == 60) (b == 62) (b == 34) (b == 39) (b == 13) h in
    let none = None in
    ap (λ t. if t then characters started rest else (if is_markup b then none else option_map suc (characters between rest))) parts.0
    ∙ ap (λ t. if t then none else option_map suc (characters between rest)) parts.1

read_byte : (b : ℕ) (rest : List ℕ) → b < 256 → characters between (escaped_byte b ++ rest) ≡ option_map suc (characters between rest)
read_byte b rest lt = special (is_special b) refl
  where
    goal : List ℕ → Type 0
    goal bytes = characters between (bytes ++ rest) ≡ option_map suc (characters between rest)

    last : (t : Bool) → goal (if t then reference 9249 else reference 65533)
    last true = read_reference 9249 rest (omega arith)
    last false = read_reference 65533 rest (omega arith)

    control : (t : Bool) → goal (if t then reference (9216 + b) else (if b == 127 then reference 9249 else reference 65533))
    control true = read_reference (9216 + b) rest (omega (arith, lt))
    control false = last (b == 127)

    shown : is_special b ≡ false → (t : Bool) → goal (if t then b ∷ [] else (if nat_lt b 32 then reference (9216 + b) else (if b == 127 then reference 9249 else reference 65533)))
    shown h true = read_shown b rest h
    shown h false = control (nat_lt b 32)

    special : (t : Bool) → is_special b ≡ t
        → goal (if t then reference b else (if is_shown b then b ∷ [] else (if nat_lt b 32 then reference (9216 + b) else (if b == 127 then reference 9249 else reference 65533))))
    special true h = read_reference b rest (omega (arith, lt))
    special false h = shown h (is_shown b)

pub escaped_is_text : EscapedIsText
escaped_is_text [] bytes = refl
escaped_is_text (b ∷ text) bytes =
    read_byte b (escaped text) (bytes 0 b (omega arith))
    ∙ ap (option_map suc) (escaped_is_text text (λ k d lt. bytes (suc k) d (omega (arith, lt))))
