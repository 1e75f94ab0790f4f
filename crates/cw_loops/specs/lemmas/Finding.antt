-- The functions of a lowered program that lookups by name find.
use Rattle.std.proofs.Common.{◌≡◌, ℕ, ◌+◌, ◌≤◌, Bool, true, false, List, [], ◌∷◌, ◌++◌, arith, refl, sym, ◌∙◌, ap}
use Rattle.std.proofs.Common.{append_assoc, subst}
use Rattle.std.specs.Prelude.{if◌then◌else◌}
use Rattle.std.specs.List.{list_all}
use Rattle.std.proofs.lemmas.Bool.{and_parts}
use Rattle.cw_model.specs.Syntax.{Name, Function}
use Rattle.cw_model.specs.Names.{same_name}
use Rattle.cw_model.specs.Meaning.{no_function, function_named}
use Rattle.cw_model.specs.lemmas.Names.{same_itself}
use Rattle.cw_loops.specs.Lowered.{is_plain, loop_name, loop_count_in, made_in, lower_function, lower_functions}
use Rattle.cw_loops.specs.Lowered.{made_of}
use Rattle.cw_loops.specs.Lowerable.{can_lower_function}
use Rattle.cw_loops.specs.lemmas.Apart.{plain_apart, apart_plain}
use Rattle.cw_loops.specs.lemmas.Numbering.{Numbered, made_functions, loops_apart}

-- the lookup of each function's name finds the function
abbrev pub Found : List Function → List Function → Type 0
Found fs [] = Unit {0}
Found fs (f ∷ made) = (function_named f.name fs ≡ f) × Found fs made

pub found_left : (fs xs ys : List Function) → Found fs (xs ++ ys) → Found fs xs
found_left fs [] ys h = tt
found_left fs (x ∷ xs) ys h = (h.0, found_left fs xs ys h.1)

pub found_right : (fs xs ys : List Function) → Found fs (xs ++ ys) → Found fs ys
found_right fs [] ys h = h
found_right fs (x ∷ xs) ys h = found_right fs xs ys h.1

-- none of these functions has the name
abbrev Skips : Name → List Function → Type 0
Skips g pre = (rest : List Function) → function_named g (pre ++ rest) ≡ function_named g rest

found_numbered : (made pre : List Function) (k : ℕ) → Numbered k made → ((j : ℕ) → k ≤ j → Skips (loop_name j) pre) →
    Found (pre ++ made) made
found_numbered [] pre k h skips = tt
found_numbered (f ∷ made) pre k h skips =
    let here : function_named f.name (f ∷ made) ≡ f =
    ap (λ b. if b then f else function_named f.name made) (same_itself f.name) in
    let skip : function_named f.name (pre ++ f ∷ made) ≡ function_named f.name (f ∷ made) = subst
    (λ n. function_named n (pre ++ f ∷ made) ≡ function_named n (f ∷ made)) (sym h.0) (skips k (omega arith) (f
    ∷ made)) in (
      skip ∙ here,
      subst (λ t. Found t made) (append_assoc pre (f ∷ []) made) (found_numbered made (pre ++ f ∷ []) (k + 1) h.1
          (λ j le rest.
          ap (function_named (loop_name j)) (append_assoc pre (f ∷ []) rest) ∙ skips j (omega arith) (f ∷ rest)
          ∙ ap (λ b. if b then f else function_named (loop_name j) rest) (ap (λ n. same_name (loop_name j) n) h.0
          ∙ loops_apart j k (omega arith)))),
    )

pub lowered_plain : (all0 fs : List Function) (k : ℕ) → list_all (can_lower_function all0) fs ≡ true → (j : ℕ) →
    Skips (loop_name j) (lower_functions k fs)
lowered_plain all0 [] k h j rest = refl
lowered_plain all0 (f ∷ fs) k h j rest =
    let p = and_parts (can_lower_function all0 f) (list_all (can_lower_function all0) fs) h in
    let n = and_parts (is_plain f.name) _ p.0 in
    ap (λ b. if b then lower_function k f else function_named (loop_name j)
    (lower_functions (k + loop_count_in f.body) fs ++ rest)) (apart_plain f.name (j ∷ []) n.0) ∙ lowered_plain all0
    fs (k + loop_count_in f.body) p.1 j rest

-- a name of the source, looked up in the source and in the lowered program
pub record Looked (all0 all fs : List Function) (g : Name) : Type 0 where
  pub number : ℕ
  pub f : Function
  pub is : function_named g fs ≡ f
  pub is' : function_named g all ≡ lower_function number f
  pub can : can_lower_function all0 f ≡ true
  pub made : Found all (made_in number f.body)

no_loop : (g : Name) → is_plain g ≡ true → (made : List Function) (k : ℕ) → Numbered k made →
    function_named g made ≡ no_function
no_loop g plain [] k h = refl
no_loop g plain (f ∷ made) k h =
    ap (λ b. if b then f else function_named g made) (ap (λ n. same_name g n) h.0 ∙ plain_apart g (k ∷ []) plain) ∙
    no_loop g plain made (k + 1) h.1

looked_in : (all0 all : List Function) (g : Name) → is_plain g ≡ true →
    (fs : List Function) (k : ℕ) (rest : List Function) (j : ℕ) → Numbered j rest →
    list_all (can_lower_function all0) fs ≡ true → Found all (made_of k fs) →
    function_named g all ≡ function_named g (lower_functions k fs ++ rest) → Looked all0 all fs g
looked_in all0 all g plain [] k rest j num h found e =
    record { number = 0; f = no_function; is = refl; is' = e ∙ no_loop g plain rest j num; can = refl; made = tt }
looked_in all0 all g plain (f ∷ fs) k rest j num h found e =
    by_name (same_name g f.name) refl (λ q. looked_in all0 all g plain fs (k + loop_count_in f.body) rest j num p.1
    (found_right all (made_in k f.body) (made_of (k + loop_count_in f.body) fs) found) q)
  where
    p : (can_lower_function all0 f ≡ true) × (list_all (can_lower_function all0) fs ≡ true)
    p = and_parts (can_lower_function all0 f) (list_all (can_lower_function all0) fs) h

    by_name : (b : Bool) → same_name g f.name ≡ b
        → (function_named g all ≡ function_named g (lower_functions (k + loop_count_in f.body) fs ++ rest)
        → Looked all0 all fs g) → Looked all0 all (f ∷ fs) g
    by_name true s more = record {
      number = k;
      f = f;
      is = ap (λ b. if b then f else function_named g fs) s;
      is' =
          e ∙ ap (λ b. if b then lower_function k f else function_named g
          (lower_functions (k + loop_count_in f.body) fs ++ rest)) s;
      can = p.0;
      made = found_left all (made_in k f.body) (made_of (k + loop_count_in f.body) fs) found;
    }
    by_name false s more =
        let r =
        more (e ∙ ap (λ b. if b then lower_function k f else function_named g
        (lower_functions (k + loop_count_in f.body) fs ++ rest)) s) in
        record {
          number = r.number;
          f = r.f;
          is = ap (λ b. if b then f else function_named g fs) s ∙ r.is;
          is' = r.is';
          can = r.can;
          made = r.made;
        }

module _ (fs : List Function) (can : list_all (can_lower_function fs) fs ≡ true) where
  abbrev pub fs' : List Function
  fs' = lower_functions 0 fs ++ made_of 0 fs

  pub all_found : Found fs' (made_of 0 fs)
  all_found =
      found_numbered (made_of 0 fs) (lower_functions 0 fs) 0 (made_functions fs 0).numbered
      (λ j le. lowered_plain fs fs 0 can j)

  pub looked : (g : Name) → is_plain g ≡ true → Looked fs fs' fs g
  looked g plain = looked_in fs fs' g plain fs 0 (made_of 0 fs) 0 (made_functions fs 0).numbered can all_found refl

  pub params_same : (g : Name) → is_plain g ≡ true → (function_named g fs').params ≡ (function_named g fs).params
  params_same g plain =
      let l = looked g plain in ap (λ (f : Function). f.params) l.is' ∙ sym (ap (λ (f : Function). f.params) l.is)
