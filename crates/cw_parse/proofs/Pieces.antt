-- Readers paired with the relations that they read exactly; pieces are composed as the grammar is.
use Rattle.std.proofs.Common.{◌≡◌, ℕ, zero, suc, ◌<◌, ◌≤◌, Bool, true, false, cond, not, List, [], ◌∷◌, ◌++◌, length as len, Ok, refl, ap, ◌∙◌, arith, ◌⊎◌, inl, inr}
use Rattle.std.proofs.lemmas.List.{length-append}
use Rattle.cw_model.specs.declared.token.Token.{Token}
use Rattle.cw_model.specs.declared.token.Kind.{Kind}
use Rattle.cw_parse.specs.declared.marks.Mark.{Mark}
use Rattle.cw_parse.specs.Marks.{is_mark}
use Rattle.cw_parse.specs.Reading.{Read, Reader, ◌>>=◌, token, if_next, unless_next, row}
use Rattle.cw_parse.proofs.Reader.{Stops, Front, IsUnique, SomeText, Seq, Tok, tok, Done, done, shorter, bind_ok}
use Rattle.cw_parse.proofs.Exact.{Exact, Halts, Against, Branch, any, token_exact, done_exact, done_rest, seq_exact, after_part}
use Rattle.cw_parse.proofs.Exact.{narrow_exact, same_exact, fewer_exact, zero_exact, guard_exact, differ, if_next_exact}
use Rattle.cw_parse.proofs.MarkKinds.{kind_of, Is, passes}

-- a token that matches the mark, as a relation
abbrev pub Marked : Mark → List Token → Token → List Token → Type 0
Marked m = Tok (Is m)

-- a reader with the relation that it reads exactly on at most `n` tokens
pub record Piece (U : Type 0) (n : ℕ) (s : Kind → Bool) (A : Type 0) : Type 1 where
  pub rel : List Token → A → List Token → Type 0
  pub read : Reader A
  pub exact : Exact U n rel s read

infixr 5 ◌>>>◌
-- a piece that ends by itself, followed by another
abbrev pub ◌>>>◌ : {U : Type 0} {n : ℕ} {s : Kind → Bool} {A B : Type 0} → Piece U n any A → (A → Piece U n s B) → Piece U n s B
◌>>>◌ {U} {n} {s} x g = record {
  rel = Seq x.rel (λ a. (g a).rel);
  read = λ ts. x.read ts >>= λ y. (g y.0).read y.1;
  exact = after_part U n x.rel x.read (λ a. (g a).rel) s (λ a. (g a).read) x.exact (λ a. (g a).exact);
}

-- the piece of a token that matches the mark
abbrev pub expect : {U : Type 0} {n : ℕ} → Mark → Piece U n any Token
expect {U} {n} m = record { rel = Marked m; read = token (is_mark m); exact = token_exact U n (is_mark m) (Is m) (passes m) (kind_of m) refl }

-- the piece that reads no token and returns a value
abbrev pub give : {U : Type 0} {n : ℕ} {A : Type 0} → A → Piece U n any A
give {U} {n} a = record { rel = Done a; read = λ ts. Ok (a, ts); exact = done_exact U n a }

pub marked_stops : (m : Mark) (s : Kind → Bool) → s (kind_of m) ≡ true → {us : List Token} {t : Token} {vs : List Token} → Marked m us t vs → Stops s us
marked_stops m s e (tok {t = t} is) = ap s is ∙ e

-- a piece that ends at the token `m`, followed by a piece
abbrev pub before : {U : Type 0} {n : ℕ} {s r : Kind → Bool} {A B : Type 0} → (x : Piece U n r A) → Halts n r x.read → (m : Mark) → r (kind_of m) ≡ true → (A → Piece U n s B) → Piece U n s B
before {U} {n} {s} {r} x halts m stops g = record {
  rel = Seq x.rel (λ a. Seq (Marked m) (λ (_ : Token). (g a).rel));
  read = λ ts. x.read ts >>= λ y. token (is_mark m) y.1 >>= λ z. (g y.0).read z.1;
  exact = seq_exact U n n x.rel (λ a. Seq (Marked m) (λ (_ : Token). (g a).rel)) r s x.read (λ a ts. token (is_mark m) ts >>= λ z. (g a).read z.1)
      x.exact halts
      (λ a. after_part U n (Marked m) (token (is_mark m)) (λ (_ : Token). (g a).rel) s (λ (_ : Token). (g a).read)
      (token_exact U n (is_mark m) (Is m) (passes m) (kind_of m) refl) (λ (_ : Token). (g a).exact))
      (λ ts a rest le d. let y = shorter ts a rest (x.exact.stable ts a rest le d) in omega arith)
      (λ a us b rest d h. marked_stops m r stops d.2);
}

-- a piece that ends by itself, with a smaller set of following tokens
abbrev pub narrow : {U : Type 0} {n : ℕ} {A : Type 0} (s : Kind → Bool) → Piece U n any A → Piece U n s A
narrow {U} {n} s x = record { rel = x.rel; read = x.read; exact = narrow_exact U n x.rel s x.read x.exact }

-- a branch with a function applied to its value
pub branch_map : {U : Type 0} {n : ℕ} {A B : Type 0} (R : List Token → A → List Token → Type 0) (s : Kind → Bool) (t : Token) (f : Reader A) (h : A → B)
    → Branch U n R s t f → Halts n s f → Branch U n (Seq R (λ a. Done (h a))) s t (λ ts. f ts >>= λ x. Ok (h x.0, x.1))
branch_map {U} {n} R s t f h (inl x) halts =
    inl (seq_exact U n n R (λ a. Done (h a)) s s f (λ a ts. Ok (h a, ts)) x halts (λ a. narrow_exact U n (Done (h a)) s (λ ts. Ok (h a, ts)) (done_exact U n (h a)))
    (λ ts a rest few d. let y = shorter ts a rest (x.stable ts a rest few d) in omega arith) (λ a us b rest d stop. done_rest s us b rest d stop))
branch_map R s t f h (inr x) halts = inr (record { stops = λ ts. ap (λ r. r >>= λ x. Ok (h x.0, x.1)) (x.stops ts); never = λ ts b rest d. x.never ts d.0 d.1 d.2 })

-- a sequence halts where its second part halts
pub then_halts : {A B : Type 0} (U : Type 0) (n : ℕ) (s : Kind → Bool) (x : Piece U n any A) (g : A → Reader B) → ((a : A) → Halts n s (g a)) → Halts n s (λ ts. x.read ts >>= λ y. g y.0 y.1)
then_halts U n s x g h ts b rest few e =
    let z = bind_ok (x.read ts) (λ y. g y.0 y.1) (b, rest) e in
    let y = shorter ts z.0.0 z.0.1 (x.exact.stable ts z.0.0 z.0.1 few (x.exact.sound ts z.0.0 z.0.1 z.1)) in
    h z.0.0 z.0.1 b rest (omega arith) z.2

-- ---- a choice by the next token

-- `x` after a token that matches the mark, otherwise `y`
abbrev pub choose : {U : Type 0} {n : ℕ} {s : Kind → Bool} {A : Type 0} (m : Mark) (x : Token → Piece U n s A) (y : Piece U n s A)
    → ((t : Token) (us : List Token) (b : A) (rest : List Token) → t.kind ≡ kind_of m → y.rel (t ∷ us) b rest → Stops s rest → ⊥) → Piece U n s A
choose {U} {n} {s} m x y apart = record {
  rel = λ ts b rest. Seq (Marked m) (λ t. (x t).rel) ts b rest ⊎ y.rel ts b rest;
  read = if_next (is_mark m) (λ t. (x t).read) y.read;
  exact = if_next_exact U n n (omega arith) (is_mark m) (Is m) (passes m) (λ t. (x t).rel) y.rel s (λ t. (x t).read) y.read (λ t. (x t).exact) y.exact apart;
}

-- a choice halts where both branches halt
pub choose_halts : {A : Type 0} (m : Mark) (s : Kind → Bool) (n : ℕ) (f : Token → Reader A) (g : Reader A) → ((t : Token) → Halts n s (f t)) → Halts n s g → Halts n s (if_next (is_mark m) f g)
choose_halts m s n f g x y [] b rest le e = y [] b rest le e
choose_halts {A} m s n f g x y (t ∷ ts) b rest le e = go (is_mark m t.kind) e
  where
    go : (c : Bool) → cond {A = Read A} c (f t ts) (g (t ∷ ts)) ≡ Ok (b, rest) → Stops s rest
    go true e = x t ts b rest (omega arith) e
    go false e = y (t ∷ ts) b rest le e

-- every kind that does not match the mark
abbrev pub but : Mark → Kind → Bool
but m k = not (is_mark m k)

pub against : (m : Mark) → Against (is_mark m) (but m)
against m = record { on = λ k e. ap not e; off = λ k e. ap not e }

-- a part without tokens is not followed by a token that matches the mark
pub done_apart : {A : Type 0} {s : Kind → Bool} (m : Mark) → Against (is_mark m) s
    → (a : A) (t : Token) (us : List Token) (b : A) (rest : List Token) → t.kind ≡ kind_of m → Done a (t ∷ us) b rest → Stops s rest → ⊥
done_apart {s = s} m off a t us b rest is d stop = differ (done_rest s (t ∷ us) b rest d stop) (off.on t.kind ((passes m).is t.kind is))

-- an optional piece: `x` after a token that matches the mark, otherwise the value `a`
abbrev pub perhaps : {U : Type 0} {n : ℕ} {A : Type 0} {s : Kind → Bool} (m : Mark) → Against (is_mark m) s → (x : Token → Piece U n s A) → A → Piece U n s A
perhaps {U} {n} {s = s} m off x a = choose m x (narrow s (give a)) (done_apart {s = s} m off a)

-- a piece that no token that matches the mark may follow
abbrev pub guard : {U : Type 0} {n : ℕ} {A : Type 0} {s : Kind → Bool} (m : Mark) → Against (is_mark m) s → Piece U n any A → Piece U n s A
guard {U} {n} {s = s} m off x = record { rel = x.rel; read = λ ts. x.read ts >>= λ y. unless_next (is_mark m) y.0 y.1; exact = guard_exact (is_mark m) s off U n x.rel x.read x.exact }

-- ---- sequences of parts up to a closing token

module _ {A S B : Type 0} (U : Type 0) (m : Mark) (end : S → B) (join : A → B → B) (part : S → Reader (A × S)) (R : S → List Token → A × S → List Token → Type 0) (r : Kind → Bool)
    (Q : S → List Token → B → List Token → Type 0) where
  -- the end of a sequence, or a part and the rest of the sequence
  abbrev pub Row : S → List Token → B → List Token → Type 0
  Row s ts b rest = Seq (Marked m) (λ (_ : Token). Done (end s)) ts b rest ⊎ Seq (R s) (λ x. Seq (Q x.1) (λ b. Done (join x.0 b))) ts b rest

  module _ (into : (s : S) (ts : List Token) (b : B) (rest : List Token) → Row s ts b rest → Q s ts b rest)
      (out : (s : S) (ts : List Token) (b : B) (rest : List Token) → Q s ts b rest → Row s ts b rest)
      (long : (s : S) (ts : List Token) (x : A × S) (rest : List Token) → R s ts x rest → 0 < len ts)
      (apart : (s : S) (t : Token) (us : List Token) (x : A × S) (rest : List Token) → t.kind ≡ kind_of m → R s (t ∷ us) x rest → ⊥)
      (follows : (s : S) (ts : List Token) (b : B) (rest : List Token) → Q s ts b rest → Stops r ts)
      (one : U → (s : S) → IsUnique (Q s) any)
      (n : ℕ) (parts : (s : S) → Exact U n (R s) r (part s)) (halts : (s : S) → Halts n r (part s)) where
    closes : {s : S} {ts : List Token} {b : B} {rest : List Token} → Seq (Marked m) (λ (_ : Token). Done (end s)) ts b rest → 0 < len ts
    closes (t, us, tok is, d) = omega arith

    long_row : (s : S) (ts : List Token) (b : B) (rest : List Token) → Row s ts b rest → 0 < len ts
    long_row s ts b rest (inl d) = closes {s = s} d
    long_row s ts b rest (inr (x, us, d, e)) = long s ts x us d

    front_long : (s : S) (ts : List Token) (x : A × S) (rest : List Token) → Front (R s) ts x rest → len rest < len ts
    front_long s ts x rest y = let l = long s (y.front ++ []) x [] (y.again []) in let same = ap len y.parts ∙ length-append y.front rest in let all = length-append y.front [] in omega arith

    eats : (s : S) (ts : List Token) (x : A × S) (rest : List Token) → len ts ≤ n → R s ts x rest → len rest < len ts
    eats s ts x rest few d = front_long s ts x rest ((parts s).stable ts x rest few d)

    some_row : (s : S) → SomeText (Q s)
    some_row s =
        let t = (token_exact U 0 (is_mark m) (Is m) (passes m) (kind_of m) refl).some in
        record { text = t.text; value = end s; reads = λ after. into s (t.text ++ after) (end s) after (inl (t.value, after, t.reads after, done)) }

    abbrev onward : A × S → List Token → B → List Token → Type 0
    onward x = Seq (Q x.1) (λ b. Done (join x.0 b))

    abbrev others : ℕ → S → Reader B
    others k s us = part s us >>= λ x. row (is_mark m) end join part k x.0.1 x.1 >>= λ y. Ok (join x.0.0 y.0, y.1)

    pub row_by : (k : ℕ) → k ≤ n → (s : S) → Exact U k (Q s) any (row (is_mark m) end join part k s)
    unfolding row
    row_by zero le s = zero_exact U (Q s) any (some_row s) (λ ts b rest q. long_row s ts b rest (out s ts b rest q)) (λ u. one u s)
    row_by (suc k) le s =
        same_exact U (suc k) (Row s) (Q s) any (if_next (is_mark m) (λ _ us. Ok (end s, us)) (others k s)) (into s) (out s)
        (if_next_exact U (suc k) (suc k) (omega arith) (is_mark m) (Is m) (passes m) (λ (_ : Token). Done (end s)) (Seq (R s) onward) any (λ _ us. Ok (end s, us)) (others k s)
        (λ _. done_exact U (suc k) (end s))
        (seq_exact U (suc k) k (R s) onward r any (part s) (λ x us. row (is_mark m) end join part k x.1 us >>= λ y. Ok (join x.0 y.0, y.1))
        (fewer_exact U (suc k) n (R s) r (part s) le (parts s))
        (λ ts x rest few e. halts s ts x rest (omega arith) e)
        (λ x. after_part U k (Q x.1) (row (is_mark m) end join part k x.1) (λ b. Done (join x.0 b)) any (λ b us. Ok (join x.0 b, us)) (row_by k (omega arith) x.1) (λ b. done_exact U k (join x.0 b)))
        (λ ts x rest few d. let l = eats s ts x rest (omega arith) d in omega arith)
        (λ x us b rest d h. follows x.1 us d.0 d.1 d.2))
        (λ t us b rest is d h. apart s t us d.0 d.1 is d.2))
