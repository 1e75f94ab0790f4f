-- The heads of functions: parameters as known names, and the rules that a head keeps.
use Rattle.std.proofs.Common.{◌≡◌, Bool, true, false, List, [], ◌∷◌, ◌++◌, refl, sym, ◌∙◌, ap}
use Rattle.std.specs.Prelude.{if◌then◌else◌, not, ◌&&◌, ◌||◌, flat_map, map}
use Rattle.std.specs.List.{list_any}
use Rattle.std.proofs.lemmas.Bool.{and_parts, or_parts}
use Rattle.cw_facts.specs.Tests.{not_true, never, either_right}
use Rattle.cw_model.specs.declared.syntax.NameKind.{NameKind}
use Rattle.cw_model.specs.Lines.{unless}
use Rattle.cw_model.specs.Syntax.{Name, Param, Function, Program, is_array_kind, is_array_param}
use Rattle.cw_model.specs.Names.{same_name, is_among, differ}
use Rattle.cw_model.specs.Answers.{main_name}
use Rattle.cw_model.specs.Typing.{Known, is_known, is_int, is_array, globals, block_returns, known_of, is_head}
use Rattle.cw_model.specs.Typing.{faults_of, repeated_names, IsWellTyped}
use Rattle.cw_model.specs.lemmas.Kept.{left_none, right_none, kept}
use Rattle.cw_model.specs.lemmas.Names.{same_are, names_of, heads_are}
use Rattle.cw_loops.specs.Lowerable.{integers_of, arrays_of}
use Rattle.cw_loops.specs.lemmas.Knowing.{not_there}

-- a parameter is an integer or an array
kind_among : (x : Name) (ps : List Param) →
    is_among x (names_of ps) ≡ (is_among x (integers_of ps) || is_among x (arrays_of ps))
kind_among x [] = refl
kind_among x (p ∷ ps) =
    go (is_array_param p) (same_name x p.name) refl (is_among x (integers_of ps)) refl (kind_among x ps)
  where
    go : (k s : Bool) → same_name x p.name ≡ s → (i : Bool) → is_among x (integers_of ps) ≡ i →
        is_among x (names_of ps) ≡ (is_among x (integers_of ps) || is_among x (arrays_of ps)) →
        is_among x (p.name ∷ names_of ps)
        ≡ (is_among x (if k then integers_of ps else p.name ∷ integers_of ps) || is_among x
        (if k then p.name ∷ arrays_of ps else arrays_of ps))
    go true true e i f h = rw (e, f) (sym (either_right i true refl))
    go true false e i f h = rw (e) h
    go false true e i f h = rw (e) refl
    go false false e i f h = rw (e) h

-- a name among known names with one appended
known_push : (such : NameKind → Bool) (ks : Known) (n : Name) (kind : NameKind) (x : Name)
    → is_known x such (ks ++ (n, kind) ∷ [])
    ≡ (if is_among x (map (λ k. k.0) ks) then is_known x such ks else is_known x such ((n, kind) ∷ []))
known_push such [] n kind x = refl
known_push such (k ∷ ks) n kind x = go (same_name x k.0) (known_push such ks n kind x)
  where
    go : (s : Bool)
        → is_known x such (ks ++ (n, kind) ∷ [])
        ≡ (if is_among x (map (λ k. k.0) ks) then is_known x such ks else is_known x such ((n, kind) ∷ [])) →
        (if s then such k.1 else is_known x such (ks ++ (n, kind) ∷ []))
        ≡ (if (if s then true else is_among x (map (λ k. k.0) ks)) then
        (if s then such k.1 else is_known x such ks) else is_known x such
        ((n, kind) ∷ []))
    go true h = refl
    go false h = h

-- the parameters after the first one have other names
pub others_differ : (p : Param) (ps : List Param) → differ (names_of (p ∷ ps)) ≡ true →
    (is_among p.name (names_of ps) ≡ false) × (differ (names_of ps) ≡ true)
others_differ p ps h =
    let d = and_parts (not (is_among p.name (names_of ps))) (differ (names_of ps)) h in (not_true _ d.0, d.1)

-- a name among parameters is the first one or among the others
newest : (such : NameKind → Bool) (p : Param) (ps : List Param) (x : Name) → is_among p.name (names_of ps) ≡ false
    → is_known x such (known_of (p ∷ ps))
    ≡ (if same_name x p.name then such p.kind else is_known x such (known_of ps))
newest such p ps x alone =
    known_push such (known_of ps) p.name p.kind x ∙ go (same_name x p.name) refl
    (is_among x (map (λ k. k.0) (known_of ps))) refl
  where
    go : (s : Bool) → same_name x p.name ≡ s → (b : Bool) → is_among x (map (λ k. k.0) (known_of ps)) ≡ b →
        (if b then is_known x such (known_of ps) else
        (if s then such p.kind else false))
        ≡ (if s then such p.kind else is_known x such (known_of ps))
    go true e true h =
        never (is_among x (names_of ps)) (sym (heads_are x ps) ∙ h)
        (ap (λ z. is_among z (names_of ps)) (same_are x p.name e) ∙ alone)
    go true e false h = refl
    go false e true h = refl
    go false e false h = sym (not_there such (known_of ps) x h)

pub no_kind : (x : Name) (ps : List Param) → is_among x (names_of ps) ≡ false →
    (is_among x (integers_of ps) ≡ false) × (is_among x (arrays_of ps) ≡ false)
no_kind x ps h = or_parts (is_among x (integers_of ps)) (is_among x (arrays_of ps)) (sym (kind_among x ps) ∙ h)

pub int_kind : (ps : List Param) → differ (names_of ps) ≡ true → (x : Name) →
    is_int (known_of ps) x ≡ is_among x (integers_of ps)
int_kind [] h x = refl
int_kind (p ∷ ps) h x =
    let d = others_differ p ps h in
    newest (λ kind. not (is_array_kind kind)) p ps x d.0
    ∙ go (same_name x p.name) refl (is_array_param p) (int_kind ps d.1 x)
    (λ e. (no_kind x ps (ap (λ z. is_among z (names_of ps)) (same_are x p.name e) ∙ d.0)).0)
  where
    go : (s : Bool) → same_name x p.name ≡ s → (k : Bool) → is_int (known_of ps) x ≡ is_among x (integers_of ps) →
        (same_name x p.name ≡ true → is_among x (integers_of ps) ≡ false) →
        (if s then not k else is_int (known_of ps) x)
        ≡ is_among x (if k then integers_of ps else p.name ∷ integers_of ps)
    go true e true h none = sym (none e)
    go true e false h none = rw (e) refl
    go false e true h none = h
    go false e false h none = rw (e) h

pub array_kind : (ps : List Param) → differ (names_of ps) ≡ true → (x : Name) →
    is_array (known_of ps) x ≡ is_among x (arrays_of ps)
array_kind [] h x = refl
array_kind (p ∷ ps) h x =
    let d = others_differ p ps h in
    newest is_array_kind p ps x d.0 ∙ go (same_name x p.name) refl (is_array_param p) (array_kind ps d.1 x)
    (λ e. (no_kind x ps (ap (λ z. is_among z (names_of ps)) (same_are x p.name e) ∙ d.0)).1)
  where
    go : (s : Bool) → same_name x p.name ≡ s → (k : Bool) → is_array (known_of ps) x ≡ is_among x (arrays_of ps) →
        (same_name x p.name ≡ true → is_among x (arrays_of ps) ≡ false) →
        (if s then k else is_array (known_of ps) x) ≡ is_among x (if k then p.name ∷ arrays_of ps else arrays_of ps)
    go true e true h none = rw (e) refl
    go true e false h none = sym (none e)
    go false e true h none = rw (e) h
    go false e false h none = h

-- the known names are the names of the parameters
pub parameters_known : (ps : List Param) → differ (names_of ps) ≡ true → (x : Name) →
    is_among x (names_of ps) ≡ (is_int (known_of ps) x || is_array (known_of ps) x)
parameters_known ps h x =
    kind_among x ps ∙ sym (ap (λ b. b || is_among x (arrays_of ps)) (int_kind ps h x)) ∙ ap
    (λ b. is_int (known_of ps) x || b) (sym (array_kind ps h x))

-- the rules that the head of a function keeps
pub record HeadOf (f : Function) : Type 0 where
  pub params : differ (names_of f.params) ≡ true
  pub main : (not (same_name f.name main_name) || (f.gives_int && not (list_any (λ p. is_array_param p) f.params))) ≡ true

pub head_of : (program : Program) (f : Function) → faults_of program f ≡ [] → HeadOf f
head_of program f h =
    let a =
    and_parts _ (not (same_name f.name main_name) || (f.gives_int && not (list_any (λ p. is_array_param p) f.params)))
    (kept (is_head program f) f.line (left_none _ _ h)) in
    let b = and_parts _ (not f.gives_int || block_returns f.body) a.0 in
    let c =
    and_parts (differ (names_of f.params)) (not (list_any (λ p. is_among p.name (globals program)) f.params)) b.0 in
    record { params = c.0; main = a.1 }

pub heads_kept : (program : Program) → IsWellTyped program → flat_map (faults_of program) program.functions ≡ []
heads_kept program h =
    right_none (repeated_names program) _
    (right_none (unless (is_among main_name (map (λ f. f.name) program.functions)) 1) _ h)
