-- Texts that are borrowed.
use Rattle.std.proofs.Common.{◌≡◌, ℕ, ℤ, List, [], ◌∷◌, map, pos, zero, suc, arith, refl, ap, sym, ◌∙◌, subst, Bool, Option, Some, None, option_map, unwrap_or, Bor}
use Rattle.std.specs.List.{All}
use Rattle.std.proofs.lemmas.List.Elements.{All-map}
use Rattle.clap.specs.Words.{Text, first_of, first_value, matched_of, raw_values, rows_of}
use Rattle.clap.proofs.WalkLemmas.{first_value-rows, raw_values-rows}
use Rattle.clap.specs.declared.parser.matches.Found.{Found}
use Rattle.cw_model.specs.Pieces.{decimal_value}
use Rattle.cw_model.specs.declared.burden.Edges.{Edges}
use Rattle.cw_words.specs.Command.{NumberRow, edges_name}
use Rattle.cw_words.specs.Requests.{AreOptionsOf, texts_of, values_of, number_text, mode_with, IsArgument, IsFaultUnless}
use Rattle.cw_words.specs.declared.verb.Verb.{Verb}
use Rattle.cw_words.specs.declared.asked.Mode.{Mode}
use Rattle.cw_text.specs.declared.fault.Fault.{Fault}
use Rattle.cw_text.specs.declared.fault.Fault.TheVariants as fault

-- the texts to which the references point
abbrev pub lent : List (Bor (List ℕ)) → List (List ℕ)
lent ts = map (λ t. t.now) ts

values-lent : (ts : List (Bor (List ℕ))) → map (λ t. pos (decimal_value t.now)) ts ≡ values_of (lent ts)
values-lent [] = refl
values-lent (t ∷ ts) = ap (λ vs. pos (decimal_value t.now) ∷ vs) (values-lent ts)

or_none : (r : Option (Bor (List (Bor (List ℕ))))) (none : Bor (List (Bor (List ℕ)))) → none.now ≡ [] → lent (unwrap_or r none).now ≡ unwrap_or (option_map (λ s. lent s.now) r) []
or_none None none e = ap lent e
or_none (Some s) none e = refl

-- the texts of an argument, or none
pub texts_given : (found : Found) (id : List ℕ) (r : Option (Bor (List (Bor (List ℕ))))) (none given : Bor (List (Bor (List ℕ))))
    → option_map (λ s. lent s.now) r ≡ option_map raw_values (matched_of found id) → none.now ≡ [] → given ≡ unwrap_or r none
    → lent given.now ≡ texts_of (rows_of found) id
texts_given found id r none given e n g = ap (λ s. lent s.now) g ∙ or_none r none n ∙ ap (λ o. unwrap_or o []) (e ∙ raw_values-rows found id)

pub values_given : (ts : List (Bor (List ℕ))) (texts : List (List ℕ)) (vs : List ℤ) → lent ts ≡ texts → vs ≡ map (λ t. pos (decimal_value t.now)) ts → vs ≡ values_of texts
values_given ts texts vs e v = v ∙ values-lent ts ∙ ap values_of e

pub arguments_given : (ts : List (Bor (List ℕ))) (texts : List (List ℕ)) → lent ts ≡ texts → All (λ t. IsArgument t.now) ts → All IsArgument texts
arguments_given ts texts e a = let P : List (List ℕ) → Type 0 = λ xs. All IsArgument xs in subst P e (All-map IsArgument (λ t. t.now) ts a)

pub texts_proper : (ts : List (Bor (List ℕ))) (texts : List (List ℕ)) → lent ts ≡ texts → All IsArgument texts → All (λ t. IsArgument t.now) ts
texts_proper ts texts e a = let P : List (List ℕ) → Type 0 = λ xs. All IsArgument xs in all_lent ts (subst P (sym e) a)
  where
    all_lent : (ts : List (Bor (List ℕ))) → All IsArgument (lent ts) → All (λ t. IsArgument t.now) ts
    all_lent [] a k d lt = absurd (omega (arith, lt))
    all_lent (t ∷ ts) a zero d lt = a 0 t.now (omega arith)
    all_lent (t ∷ ts) a (suc k) d lt = all_lent ts (λ j e less. a (suc j) e (omega (arith, less))) k d (omega (arith, lt))

-- the text for an option, or the default text
pub word_given : (found : Found) (name text : Text) (r : Option (Bor (List ℕ))) (usual given : Bor (List ℕ))
    → option_map (λ s. s.now) r ≡ first_value found name → usual.now ≡ text → given ≡ unwrap_or r usual → given.now ≡ unwrap_or (first_of name (rows_of found)) text
word_given found name text r usual given e u g = ap (λ s. s.now) g ∙ or_usual r usual u ∙ ap (λ o. unwrap_or o text) (e ∙ first_value-rows found name)
  where
    or_usual : (r : Option (Bor (List ℕ))) (usual : Bor (List ℕ)) → usual.now ≡ text → (unwrap_or r usual).now ≡ unwrap_or (option_map (λ s. s.now) r) text
    or_usual None usual u = u
    or_usual (Some s) usual u = refl

-- the text for a number, or the default text
pub number_given : (found : Found) (row : NumberRow) (r : Option (Bor (List ℕ))) (usual given : Bor (List ℕ))
    → option_map (λ s. s.now) r ≡ first_value found row.name → usual.now ≡ row.usual → given ≡ unwrap_or r usual → given.now ≡ number_text (rows_of found) row
number_given found row = word_given found row.name row.usual

-- the first text of an argument
pub first_given : (found : Found) (id : List ℕ) (r : Option (Bor (List ℕ))) → option_map (λ s. s.now) r ≡ first_value found id → first_of id (rows_of found) ≡ option_map (λ s. s.now) r
first_given found id r e = sym (e ∙ first_value-rows found id)

-- a fault that excludes a property excludes every stronger property
pub unless_weaker : (P Q : Type 0) (f : Fault) → (Q → P) → IsFaultUnless P f → IsFaultUnless Q f
unless_weaker P Q fault.Arguments w h = λ q. h (w q)
unless_weaker P Q fault.Memory w h = h
unless_weaker P Q (fault.Lexical p) w h = h
unless_weaker P Q (fault.Syntax p) w h = h
unless_weaker P Q (fault.Types p) w h = h
unless_weaker P Q (fault.Ownership p) w h = h
unless_weaker P Q (fault.Size p) w h = h
unless_weaker P Q fault.Code w h = h
unless_weaker P Q fault.OverLimit w h = h
unless_weaker P Q (fault.Trap t l o) w h = h
unless_weaker P Q fault.Write w h = h
unless_weaker P Q (fault.Strands n) w h = h

-- the options for which the words give numbers
pub options_given : (v : Verb) (m : Mode) (limit charge processors up_to top workers l b p u t w : ℕ) (edges : Edges) (word : Text) (table given : Bool)
    → m ≡ mode_with v processors up_to top → limit ≡ l → charge ≡ b → edges_name edges ≡ word → table ≡ given → processors ≡ p → up_to ≡ u → top ≡ t → workers ≡ w
    → AreOptionsOf v (l ∷ b ∷ p ∷ u ∷ t ∷ w ∷ []) word given (record { mode = m; limit = limit; burden = record { charge = charge; edges = edges }; table = table }) workers
options_given v m limit charge processors up_to top workers l b p u t w edges word table given is limit_is charge_is edges_are table_is processors_is up_to_is top_is workers_is =
    (is ∙ ap (λ n. mode_with v n up_to top) processors_is ∙ ap (λ n. mode_with v p n top) up_to_is ∙ ap (mode_with v p u) top_is, limit_is, charge_is, edges_are, table_is, workers_is)
