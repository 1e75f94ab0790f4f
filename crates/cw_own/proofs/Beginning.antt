-- The known locals at the start of a function.
use Rattle.std.proofs.Common.{◌≡◌, ℕ, ◌+◌, nat_lt, Bool, true, false, not, ◌||◌, if◌then◌else◌, cond, List, [], ◌∷◌, ◌++◌, length, map, filter, subst, refl, sym, ap, ◌∙◌, arith}
use Rattle.std.proofs.lemmas.Bool.Decides.{nat_tests}
use Rattle.std.proofs.lemmas.Slice.Eq.{bytes_eq-Decides}
use Rattle.std.proofs.lemmas.List.{append_assoc, append-nil, length_push}
use Rattle.std.proofs.lemmas.Bool.{or_from}
use Rattle.std.proofs.Math.Bool.{or-true}
use Rattle.cw_facts.specs.Tests.{not_true, below, not_below, first_true, second_true}
use Rattle.cw_model.specs.Syntax.{Name, Param}
use Rattle.cw_model.specs.Names.{same_name, is_among, differ}
use Rattle.cw_model.specs.Typing.{Known, known_of}
use Rattle.cw_tree.specs.Resolved.{Locals, slot_of, locals_of}
use Rattle.cw_tree.specs.Resolved as spec
use Rattle.cw_tree.specs.lemmas.NamedSlots.{among_push, slot_in, slot_out}
use Rattle.cw_own.specs.Sets.{no_local, with_int, with_array}
use Rattle.cw_own.specs.Taken.{with_params}
use Rattle.cw_own.proofs.Words.{if_or}
use Rattle.cw_own.proofs.Keeping.{same_rows}
use Rattle.cw_own.proofs.Showing.{Shows, known_row}
use Rattle.cw_own.proofs.Knowing.{Knows, Fresh, knows_int, knows_array, knows_const, known_int, known_array}
use Rattle.cw_model.specs.declared.syntax.NameKind.{NameKind}
use Rattle.cw_model.specs.declared.syntax.NameKind.TheVariants as name_kind
use Rattle.cw_model.specs.Syntax.{is_array_param, is_array_kind}
use Rattle.cw_model.specs.lemmas.Names.{names_of, heads_are}

-- the locals with these parameters appended
abbrev pub params_after : Locals → List Param → Locals
params_after locals [] = locals
params_after locals (p ∷ ps) = params_after (if is_array_param p then spec.with_array p.name locals else spec.with_int p.name locals) ps

-- parameters with distinct names that were not known before
abbrev pub AreFresh : Locals → List Param → Type 0
AreFresh locals [] = Unit {0}
AreFresh locals (p ∷ ps) = Fresh p.name locals × AreFresh (if is_array_param p then spec.with_array p.name locals else spec.with_int p.name locals) ps

params_known : (ps : List Param) (known : Known) (locals : Locals) → AreFresh locals ps → Knows known locals → Knows (known_of ps ++ known) (params_after locals ps)
params_known [] known locals f k = k
params_known (p ∷ ps) known locals f k =
    subst (λ ks. Knows ks (params_after locals (p ∷ ps))) (sym (append_assoc (known_of ps) ((p.name, p.kind) ∷ []) known)) (by p.kind f.1 (params_known ps))
  where
    by : (kind : NameKind) → AreFresh (if is_array_kind kind then spec.with_array p.name locals else spec.with_int p.name locals) ps →
        ((known : Known) (locals : Locals) → AreFresh locals ps → Knows known locals → Knows (known_of ps ++ known) (params_after locals ps)) →
        Knows (known_of ps ++ (p.name, kind) ∷ known) (params_after (if is_array_kind kind then spec.with_array p.name locals else spec.with_int p.name locals) ps)
    by name_kind.Array g more = more ((p.name, name_kind.Array) ∷ known) (spec.with_array p.name locals) g (knows_array known locals p.name f.0 k)
    by name_kind.Const g more = more ((p.name, name_kind.Const) ∷ known) (spec.with_array p.name locals) g
        (knows_const known (spec.with_array p.name locals) p.name (knows_array known locals p.name f.0 k))
    by name_kind.Integer g more = more ((p.name, name_kind.Integer) ∷ known) (spec.with_int p.name locals) g (knows_int known locals p.name f.0 k)

abbrev joined : Locals → Locals → Locals
joined a b = record { ints = a.ints ++ b.ints; arrays = a.arrays ++ b.arrays }

params_joined : (ps : List Param) (locals : Locals) → params_after locals ps ≡ joined locals (locals_of ps)
params_joined [] locals = λ i. record { ints = sym (append-nil locals.ints) i; arrays = sym (append-nil locals.arrays) i }
params_joined (p ∷ ps) locals = by (is_array_param p) (params_joined ps)
  where
    by : (b : Bool) → ((locals : Locals) → params_after locals ps ≡ joined locals (locals_of ps)) → params_after (if b then spec.with_array p.name locals else spec.with_int p.name locals) ps
        ≡ (let l : Locals = record {
          ints = locals.ints ++ map (λ p. p.name)
              (cond (not b) (p ∷ filter (λ p. not (is_array_param p)) ps) (filter (λ p. not (is_array_param p)) ps));
          arrays = locals.arrays ++ map (λ p. p.name) (cond b (p ∷ filter (λ p. is_array_param p) ps) (filter (λ p. is_array_param p) ps));
        } in l)
    by true more = more (spec.with_array p.name locals) ∙ (λ i. record { ints = locals.ints ++ (locals_of ps).ints; arrays = append_assoc locals.arrays (p.name ∷ []) (locals_of ps).arrays i })
    by false more = more (spec.with_int p.name locals) ∙ (λ i. record { ints = append_assoc locals.ints (p.name ∷ []) (locals_of ps).ints i; arrays = locals.arrays ++ (locals_of ps).arrays })

params_row : (ps : List Param) (locals : Locals) → with_params (length locals.ints) (length locals.arrays) ps (known_row locals) ≡ known_row (params_after locals ps)
params_row [] locals = refl
params_row (p ∷ ps) locals = by (is_array_param p) (params_row ps)
  where
    by : (b : Bool) → ((locals : Locals) → with_params (length locals.ints) (length locals.arrays) ps (known_row locals)
        ≡ known_row (params_after locals ps)) → (if b then with_params (length locals.ints) (length locals.arrays + 1) ps
        (with_array (length locals.arrays) (known_row locals)) else with_params (length locals.ints + 1) (length locals.arrays) ps
        (with_int (length locals.ints) (known_row locals)))
        ≡ known_row (params_after (if b then spec.with_array p.name locals else spec.with_int p.name locals) ps)
    by true more =
        ap (λ n. with_params (length locals.ints) n ps (with_array (length locals.arrays) (known_row locals))) (sym (length_push locals.arrays p.name))
        ∙ ap (with_params (length locals.ints) (length (locals.arrays ++ p.name ∷ [])) ps) (sym (known_array locals p.name))
        ∙ more (spec.with_array p.name locals)
    by false more =
        ap (λ n. with_params n (length locals.arrays) ps (with_int (length locals.ints) (known_row locals))) (sym (length_push locals.ints p.name))
        ∙ ap (with_params (length (locals.ints ++ p.name ∷ [])) (length locals.arrays) ps) (sym (known_int locals p.name))
        ∙ more (spec.with_int p.name locals)

pub head_row : (ps : List Param) → with_params 0 0 ps no_local ≡ known_row (locals_of ps)
head_row ps =
    ap (with_params 0 0 ps) (same_rows no_local (known_row (record { ints = []; arrays = [] })) (λ k. none k) (λ k. none k))
    ∙ params_row ps (record { ints = []; arrays = [] }) ∙ ap known_row (params_joined ps (record { ints = []; arrays = [] }))
  where
    none : (k : ℕ) → false ≡ nat_lt k 0
    none k = grind (arith, nat_tests)

abbrev NotIn : Locals → Name → Type 0
NotIn locals x = (is_among x locals.ints ≡ false) × (is_among x locals.arrays ≡ false)

apart_all : (x : Name) (locals : Locals) (ps : List Param) → is_among x (names_of ps) ≡ false → ((p : Name) → is_among p (names_of ps) ≡ true → NotIn locals p) →
    (p : Name) → is_among p (names_of ps) ≡ true → (NotIn (spec.with_int x locals) p) × (NotIn (spec.with_array x locals) p)
apart_all x locals ps out f p there =
    let old = f p there in
    let apart : same_name p x ≡ false = differs (same_name p x) refl in (
      (among_push p locals.ints x ∙ or_from (is_among p locals.ints) (same_name p x) old.0 apart, old.1),
      (old.0, among_push p locals.arrays x ∙ or_from (is_among p locals.arrays) (same_name p x) old.1 apart),
    )
  where
    differs : (b : Bool) → same_name p x ≡ b → same_name p x ≡ false
    differs false e = e
    differs true e = let g : is_among x (names_of ps) ≡ true = ap (λ n. is_among n (names_of ps)) (sym ((bytes_eq-Decides p x).0 e)) ∙ there in absurd (cc (g, out))

fresh_params : (ps : List Param) (locals : Locals) → differ (names_of ps) ≡ true → ((p : Name) → is_among p (names_of ps) ≡ true → NotIn locals p) → AreFresh locals ps
fresh_params [] locals d f = tt
fresh_params (p ∷ ps) locals d f =
    let out = not_true (is_among p.name (names_of ps)) (first_true (not (is_among p.name (names_of ps))) (differ (names_of ps)) d) in
    let here = f p.name (ap (λ b. if b then true else is_among p.name (names_of ps)) ((bytes_eq-Decides p.name p.name).1 refl)) in
    let later = apart_all p.name locals ps out (λ q there. f q (if_or (same_name q p.name) (is_among q (names_of ps)) ∙ ap (λ b. same_name q p.name || b) there ∙ or-true (same_name q p.name))) in
    (record { no_int = here.0; no_array = here.1 }, by (is_array_param p) later (λ l. fresh_params ps l (second_true (not (is_among p.name (names_of ps))) (differ (names_of ps)) d)))
  where
    by : (b : Bool) → ((q : Name) → is_among q (names_of ps) ≡ true → (NotIn (spec.with_int p.name locals) q) × (NotIn (spec.with_array p.name locals) q)) →
        ((l : Locals) → ((q : Name) → is_among q (names_of ps) ≡ true → NotIn l q) → AreFresh l ps) →
        AreFresh (if b then spec.with_array p.name locals else spec.with_int p.name locals) ps
    by true g more = more (spec.with_array p.name locals) (λ q there. (g q there).1)
    by false g more = more (spec.with_int p.name locals) (λ q there. (g q there).0)

nothing_known : Knows [] (record { ints = []; arrays = [] })
nothing_known = record { ints = λ x h. cc; arrays = λ x h. cc; apart = λ x h. refl; names = λ x. refl }

pub head_known : (ps : List Param) → differ (names_of ps) ≡ true → Knows (known_of ps) (locals_of ps)
head_known ps d =
    subst (λ l. Knows (known_of ps) l) (params_joined ps (record { ints = []; arrays = [] }))
    (subst (λ ks. Knows ks (params_after (record { ints = []; arrays = [] }) ps)) (append-nil (known_of ps))
    (params_known ps [] (record { ints = []; arrays = [] }) (fresh_params ps (record { ints = []; arrays = [] }) d (λ p there. (refl, refl))) nothing_known))

in_row : (x : Name) (names : List Name) → is_among x names ≡ nat_lt (slot_of x names) (length names)
in_row x names = by (is_among x names) refl
  where
    by : (b : Bool) → is_among x names ≡ b → is_among x names ≡ nat_lt (slot_of x names) (length names)
    by true e = e ∙ sym (below (slot_of x names) (length names) (slot_in x names e))
    by false e = let end = slot_out x names e in e ∙ sym (not_below (slot_of x names) (length names) (omega (arith, end)))

pub head_names : (ps : List Param) → differ (names_of ps) ≡ true → Shows (locals_of ps) (λ x. is_among x (names_of ps)) (known_row (locals_of ps))
head_names ps d = record {
  same = λ x.
      sym (heads_are x ps) ∙ (head_known ps d).names x
      ∙ ap (λ b. b || is_among x (locals_of ps).arrays) (in_row x (locals_of ps).ints)
      ∙ ap (λ b. nat_lt (slot_of x (locals_of ps).ints) (length (locals_of ps).ints) || b) (in_row x (locals_of ps).arrays);
  ints_end = λ k h. not_below k (length (locals_of ps).ints) h;
  arrays_end = λ k h. not_below k (length (locals_of ps).arrays) h;
}
