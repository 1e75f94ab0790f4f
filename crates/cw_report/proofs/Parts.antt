-- A text is written part by part.
use Rattle.std.proofs.Common.{◌≡◌, ◌==◌, false, [], ◌∷◌, ℕ, ◌+◌, ◌-◌, List, ◌++◌, length, take, drop, sym, ap, ◌∙◌, append_assoc, take-append-drop, Option, Some, None, Result, Ok, Err, IsErrAnd}
use Rattle.std.specs.Io.KnownBytes.{Appends}
use Rattle.std.proofs.lemmas.List.{take_rest}
use Rattle.cw_report.specs.Seen.{Seen}
use Rattle.cw_report.specs.Answers.{AnswersText}
use Rattle.cw_report.specs.Sinks.{AppendsBefore, AppendsPart, WritesAll, WritesPart, Writes}
use Rattle.cw_text.specs.declared.fault.Fault.{Fault}
use Rattle.cw_text.specs.declared.fault.Fault.TheVariants as fault

-- two parts, one after the other
then-Appends : (a b c : Option (List ℕ)) (xs ys : List ℕ) → Appends a b xs → Appends b c ys → Appends a c (xs ++ ys)
then-Appends None b c xs ys p q = tt
then-Appends (Some x) None c xs ys p q = absurd p
then-Appends (Some x) (Some y) None xs ys p q = absurd q
then-Appends (Some x) (Some y) (Some z) xs ys p q = q ∙ ap (λ l. l ++ ys) p ∙ append_assoc x xs ys

-- n more bytes of the text
pub more-AppendsBefore : (n : ℕ) (left text : List ℕ) (a b c : Option (List ℕ)) → AppendsBefore left a b text → Appends b c (take n left)
    → AppendsBefore (take (length left - n) (drop n left)) a c text
more-AppendsBefore n left text a b c (done, split, wrote) more = (
  done ++ take n left,
  split ∙ ap (λ l. done ++ l) (sym (take-append-drop n left)) ∙ sym (append_assoc done (take n left) (drop n left))
      ∙ ap (λ l. (done ++ take n left) ++ l) (sym (take_rest left n)),
  then-Appends a b c done (take n left) wrote more,
)

-- a partly written text after a text that was written
after-AppendsPart : (a b c : Option (List ℕ)) (xs ys : List ℕ) → Appends a b xs → AppendsPart b c ys → AppendsPart a c (xs ++ ys)
after-AppendsPart a b c xs ys p (left, (done, split, wrote)) =
    (left, (xs ++ done, ap (λ l. xs ++ l) split ∙ sym (append_assoc xs done left), then-Appends a b c xs done p wrote))

-- a prefix of a text is a prefix of a longer text
longer-AppendsPart : (a b : Option (List ℕ)) (xs ys : List ℕ) → AppendsPart a b xs → AppendsPart a b (xs ++ ys)
longer-AppendsPart a b xs ys (left, (done, split, wrote)) = (left ++ ys, (done, ap (λ l. l ++ ys) split ∙ append_assoc done left ys, wrote))

-- one text after another
pub then-Writes : {A : Type 0} (a b c : Seen) (xs ys : List ℕ) (r : Result A Fault) → WritesAll a b xs → Writes b c ys r → Writes a c (xs ++ ys) r
then-Writes a b c xs ys (Ok x) p q = record { bytes = then-Appends a.bytes b.bytes c.bytes xs ys p.bytes q.bytes; failed = q.failed ∙ p.failed }
then-Writes a b c xs ys (Err e) p q =
    (q.0, record { bytes = after-AppendsPart a.bytes b.bytes c.bytes xs ys p.bytes q.1.bytes; failed = q.1.failed ∙ ap (λ n. n + 1) p.failed })

-- a text that was written only partly is a partly written start of a longer text
longer-WritesPart : (a b : Seen) (xs ys : List ℕ) → WritesPart a b xs → WritesPart a b (xs ++ ys)
longer-WritesPart a b xs ys p = record { bytes = longer-AppendsPart a.bytes b.bytes xs ys p.bytes; failed = p.failed }

pub still-Writes : {A : Type 0} (a b : Seen) (xs ys : List ℕ) (e : Fault) (r : Result A Fault) → (e ≡ fault.Write) × WritesPart a b xs → IsErrAnd r (λ x. x ≡ e) → Writes a b (xs ++ ys) r
still-Writes a b xs ys e (Ok x) p h = absurd h
still-Writes a b xs ys e (Err x) p h = (h ∙ p.0, longer-WritesPart a b xs ys p.1)

-- if bytes are left, there is a text
pub some_left : (left text : List ℕ) (a b : Option (List ℕ)) → AppendsBefore left a b text → text ≡ [] → false ≡ (length left == 0) → ⊥
some_left left text a b (done, split, wrote) none some = rest done left (sym split ∙ none) some
  where
    rest : (xs ys : List ℕ) → xs ++ ys ≡ [] → false ≡ (length ys == 0) → ⊥
    rest [] [] e h = cc
    rest [] (y ∷ ys) e h = cc
    rest (x ∷ xs) ys e h = cc

-- if a text was written, the result is as the contract states
pub answered : {W : Type 0} (seen : W → Seen) (old new : W) (text : List ℕ) (r : Result (Unit {0}) Fault) → Writes (seen old) (seen new) text r → AnswersText seen old new text r
answered seen old new text (Ok u) w = w
answered seen old new text (Err e) w = rw (w.0) w.1
