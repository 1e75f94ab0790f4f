-- The newest name of a spelling, in a list and in a map.
use Rattle.std.proofs.Common.{◌≡◌, ℕ, ◌+◌, Bool, true, false, if◌then◌else◌, cond, bytes_eq, List, [], ◌∷◌, ◌++◌, length, map, drop, ◌-◌, Option, Some, None}
use Rattle.std.proofs.Common.{is_some, option_map, MatchOption, Contains, refl, sym, ap, ◌∙◌, Bor, arith, OnOk, OnErr, Result, Ok, Err, subst}
use Rattle.std.proofs.lemmas.List.Elements.{Contains-append_left, Contains-append_right}
use Rattle.std.proofs.lemmas.Slice.Eq.{bytes_eq-Decides}
use Rattle.std.proofs.lemmas.Map.Text.{hash_map_updates_str}
use Rattle.std.specs.HashMap as hash
use Rattle.std.specs.HashMap.{HashMap, get_by}
use Rattle.std.proofs.lemmas.Option.{same_Some}
use Rattle.cw_model.specs.declared.syntax.NameKind.{NameKind}
use Rattle.cw_model.specs.Syntax.{Name}
use Rattle.cw_model.specs.Names.{same_name, is_among}
use Rattle.cw_model.specs.Typing.{is_known}
use Rattle.cw_model.specs.lemmas.Names.{turned}
use Rattle.cw_types.specs.declared.known.Entry.{Entry}
use Rattle.cw_types.specs.declared.known.Local.{Local}
use Rattle.cw_types.specs.Names.{IsUnknown, known_as, known_names, accepts_kind}
use Rattle.cw_types.specs.Scope.{Declared, kind_and_line, kinds, newest, oldest}
use Rattle.cw_types.specs.Shadows.{known_from, local_of, with_entry, ShadowsRight, AreNewest}

-- a name is known with the kind of its newest declaration
pub known_so : (x : Name) (such : NameKind → Bool) (ds : List Declared) (l : Local) → Some l ≡ local_of x ds → is_known x such (kinds ds) ≡ such l.kind
known_so x such [] l h = cc
known_so x such (d ∷ ds) l h = first (same_name x d.name) h (known_so x such ds l)
  where
    first : (s : Bool) → Some l ≡ (if s then Some (record { kind = d.kind; line = d.line }) else local_of x ds) →
        (Some l ≡ local_of x ds → is_known x such (kinds ds) ≡ such l.kind) → (if s then such d.kind else is_known x such (kinds ds)) ≡ such l.kind
    first true e more = cc e
    first false e more = more e

pub unknown_so : (x : Name) (such : NameKind → Bool) (ds : List Declared) → None ≡ local_of x ds → is_known x such (kinds ds) ≡ false
unknown_so x such [] h = refl
unknown_so x such (d ∷ ds) h = first (same_name x d.name) h (unknown_so x such ds)
  where
    first : (s : Bool) → None ≡ (if s then Some (record { kind = d.kind; line = d.line }) else local_of x ds) →
        (None ≡ local_of x ds → is_known x such (kinds ds) ≡ false) → (if s then such d.kind else is_known x such (kinds ds)) ≡ false
    first true e more = cc
    first false e more = more e

-- a name is known exactly if it has a local
pub among_has_local : (x : Name) (ds : List Declared) → is_among x (known_names (kinds ds)) ≡ is_some (local_of x ds)
among_has_local x [] = refl
among_has_local x (d ∷ ds) = first (same_name x d.name) (among_has_local x ds)
  where
    first : (s : Bool) → is_among x (known_names (kinds ds)) ≡ is_some (local_of x ds) →
        (if s then true else is_among x (known_names (kinds ds))) ≡ is_some (if s then Some (record { kind = d.kind; line = d.line }) else local_of x ds)
    first true h = refl
    first false h = h

-- `newest` and `local_of` have the same kind and line
pub newest_so : (x : Name) (ds : List Declared) → option_map kind_and_line (newest x ds) ≡ option_map (λ (l : Local). (l.kind, l.line)) (local_of x ds)
newest_so x [] = refl
newest_so x (d ∷ ds) = first (same_name x d.name) (newest_so x ds)
  where
    first : (s : Bool) → option_map kind_and_line (newest x ds) ≡ option_map (λ (l : Local). (l.kind, l.line)) (local_of x ds) →
        option_map kind_and_line (if s then Some d else newest x ds)
        ≡ option_map (λ (l : Local). (l.kind, l.line)) (if s then Some (record { kind = d.kind; line = d.line }) else local_of x ds)
    first true h = refl
    first false h = h

-- the kind that the lookup of a name found
pub found_kinds : (x : Name) (ds : List Declared) (found : Option Local) → found ≡ local_of x ds →
    MatchOption found (IsUnknown x (kinds ds)) (λ l. known_as x l.kind (kinds ds))
found_kinds x ds None h = λ wanted. unknown_so x (accepts_kind wanted) ds h
found_kinds x ds (Some l) h = λ wanted. known_so x (accepts_kind wanted) ds l h

pub found_newest : (x : Name) (ds : List Declared) (found : Option Local) → found ≡ local_of x ds →
    MatchOption found (newest x ds ≡ None) (λ l. option_map kind_and_line (newest x ds) ≡ Some (l.kind, l.line))
found_newest x ds None h = none (newest x ds) (newest_so x ds ∙ ap (option_map (λ (l : Local). (l.kind, l.line))) (sym h))
  where
    none : (o : Option Declared) → option_map kind_and_line o ≡ None → o ≡ None
    none None e = refl
    none (Some d) e = cc
found_newest x ds (Some l) h = newest_so x ds ∙ ap (option_map (λ (l : Local). (l.kind, l.line))) (sym h)

-- the line of the newest name
pub newest_line : (o : Option Declared) (kind : NameKind) (line : ℕ) → option_map kind_and_line o ≡ Some (kind, line) → option_map (λ (d : Declared). d.line) o ≡ Some line
newest_line None kind line h = cc
newest_line (Some d) kind line h = ap (λ (p : NameKind × ℕ). Some p.1) (same_Some (d.kind, d.line) (kind, line) h)

-- the newest name of a spelling is among the names, with its line
pub newest_there : (x : Name) (ds : List Declared) (kind : NameKind) (line : ℕ) → option_map kind_and_line (newest x ds) ≡ Some (kind, line) →
    Contains {X = Name × ℕ} (map (λ (d : Declared). (d.name, d.line)) ds) (x, line)
newest_there x [] kind line h = cc
newest_there x (d ∷ ds) kind line h = first (same_name x d.name) refl h (newest_there x ds kind line)
  where
    named : Declared → Name × ℕ
    named e = (e.name, e.line)

    first : (s : Bool) → s ≡ same_name x d.name → option_map kind_and_line (if s then Some d else newest x ds) ≡ Some (kind, line) →
        (option_map kind_and_line (newest x ds) ≡ Some (kind, line) → Contains {X = Name × ℕ} (map named ds) (x, line)) → Contains {X = Name × ℕ} (map named (d ∷ ds)) (x, line)
    first true e k more =
        let same : x ≡ d.name = (bytes_eq-Decides x d.name).0 (sym e) in
        let at : d.line ≡ line = ap (λ (p : NameKind × ℕ). p.1) (same_Some (d.kind, d.line) (kind, line) k) in
        let there : Contains {X = Name × ℕ} (named d ∷ []) (x, line) = (0, omega arith, sym (pairs same at)) in
        Contains-append_left (named d ∷ []) (map named ds) (x, line) there
      where
        pairs : x ≡ d.name → d.line ≡ line → ◌≡◌ {A = Name × ℕ} (x, line) (d.name, d.line)
        pairs p q = ap (λ (n : Name). (n, line)) p ∙ ap (λ (l : ℕ). (d.name, l)) (sym q)
    first false e k more = Contains-append_right (named d ∷ []) (map named ds) (x, line) (more k)

-- the local of an entry
abbrev held : Entry → Local
held e = record { kind = e.local.kind; line = e.local.line }

held_is : (e : Entry) → held e ≡ e.local
held_is e = refl

pub known_snoc : (ks : List Declared) (es : List Entry) (e : Entry) → known_from ks (es ++ e ∷ []) ≡ with_entry e (known_from ks es)
known_snoc ks [] e = refl
known_snoc ks (d ∷ es) e = known_snoc (with_entry d ks) es e

pub known_length : (ks : List Declared) (es : List Entry) → length (known_from ks es) ≡ length ks + length es
known_length ks [] = omega arith
known_length ks (e ∷ es) = omega (arith, known_length (with_entry e ks) es)

pub shadows_snoc : (ks : List Declared) (es : List Entry) (e : Entry) → ShadowsRight ks es → e.shadowed ≡ local_of e.name.now (known_from ks es) → ShadowsRight ks (es ++ e ∷ [])
shadows_snoc ks [] e h new = (new, tt)
shadows_snoc ks (d ∷ es) e h new = (h.0, shadows_snoc (with_entry d ks) es e h.1 new)

pub shadows_front : (ks : List Declared) (es : List Entry) (e : Entry) → ShadowsRight ks (es ++ e ∷ []) → ShadowsRight ks es
shadows_front ks [] e h = tt
shadows_front ks (d ∷ es) e h = (h.0, shadows_front (with_entry d ks) es e h.1)

pub shadows_last : (ks : List Declared) (es : List Entry) (e : Entry) → ShadowsRight ks (es ++ e ∷ []) → e.shadowed ≡ local_of e.name.now (known_from ks es)
shadows_last ks [] e h = h.0
shadows_last ks (d ∷ es) e h = shadows_last (with_entry d ks) es e h.1

-- one more entry, whose local is inserted into the map
pub newest_more : {S : Type 0} (m n : HashMap (Bor (List ℕ)) Local S) (es : List Entry) (e : Entry) → AreNewest m es →
    e.shadowed ≡ get_by (λ k. bytes_eq e.name.now k.now) m →
    hash.UpdatesBy (λ x y. bytes_eq x.now y.now) (λ k. bytes_eq e.name.now k.now) m n (Some e.local) → AreNewest n (es ++ e ∷ [])
newest_more m n es e are old updates = record {
  newest_right = λ x.
      hash_map_updates_str e.name.now m n (Some e.local) updates x
      ∙ ap (λ l. cond (bytes_eq e.name.now x) (Some l) (get_by (λ k. bytes_eq x k.now) m)) (sym (held_is e))
      ∙ ap (λ o. cond (bytes_eq e.name.now x) (Some (held e)) o) (are.newest_right x)
      ∙ ap (λ b. cond b (Some (held e)) (local_of x (known_from [] es))) (turned e.name.now x)
      ∙ ap (local_of x) (sym (known_snoc [] es e));
  hidden_right = shadows_snoc [] es e are.hidden_right (old ∙ are.newest_right e.name.now);
}

-- one entry less, and the local that it hid is inserted into the map
pub newest_less : {S : Type 0} (m n : HashMap (Bor (List ℕ)) Local S) (es : List Entry) (e : Entry) → AreNewest m (es ++ e ∷ []) →
    hash.UpdatesBy (λ x y. bytes_eq x.now y.now) (λ k. bytes_eq e.name.now k.now) m n e.shadowed → AreNewest n es
newest_less m n es e are updates = record {
  newest_right = λ x.
      hash_map_updates_str e.name.now m n e.shadowed updates x
      ∙ ap (λ o. cond (bytes_eq e.name.now x) e.shadowed o) (are.newest_right x ∙ ap (local_of x) (known_snoc [] es e))
      ∙ ap (λ o. cond (bytes_eq e.name.now x) o (if same_name x e.name.now then Some (held e) else local_of x (known_from [] es))) (shadows_last [] es e are.hidden_right)
      ∙ ap (λ b. cond (bytes_eq e.name.now x) (local_of e.name.now (known_from [] es)) (if b then Some (held e) else local_of x (known_from [] es))) (turned x e.name.now)
      ∙ chosen (bytes_eq e.name.now x) (local_of e.name.now (known_from [] es)) (local_of x (known_from [] es)) (Some (held e))
      (λ h. ap (λ z. local_of z (known_from [] es)) ((bytes_eq-Decides e.name.now x).0 h));
  hidden_right = shadows_front [] es e are.hidden_right;
}
  where
    chosen : (b : Bool) (p q r : Option Local) → (b ≡ true → p ≡ q) → cond b p (if b then r else q) ≡ q
    chosen true p q r h = h refl
    chosen false p q r h = refl

-- inserting a local for a name that has one cannot fail
pub known_again : {S A B : Type 0} (m n : HashMap (Bor (List ℕ)) Local S) (es : List Entry) (e : Entry) (local : Local) (r : Result A B) → AreNewest m (es ++ e ∷ []) →
    e.shadowed ≡ Some local →
    OnOk r (hash.UpdatesBy (λ x y. bytes_eq x.now y.now) (λ k. bytes_eq e.name.now k.now) m n (Some local)) →
    OnErr r (get_by (λ k. bytes_eq e.name.now k.now) m ≡ None) → AreNewest n es
known_again m n es e local (Ok a) are hidden updates absent =
    newest_less m n es e are (subst (λ o. hash.UpdatesBy (λ x y. bytes_eq x.now y.now) (λ k. bytes_eq e.name.now k.now) m n o) (sym hidden) updates)
known_again m n es e local (Err b) are hidden updates absent = absurd (there (bytes_eq-Decides e.name.now e.name.now).1)
  where
    kept : None ≡ (if same_name e.name.now e.name.now then Some (held e) else local_of e.name.now (known_from [] es))
    kept = sym absent ∙ are.newest_right e.name.now ∙ ap (local_of e.name.now) (known_snoc [] es e)

    there : (e.name.now ≡ e.name.now → same_name e.name.now e.name.now ≡ true) → ⊥
    there f = differ (ap (λ b. if b then Some (held e) else local_of e.name.now (known_from [] es)) (f refl))
      where
        differ : (if same_name e.name.now e.name.now then Some (held e) else local_of e.name.now (known_from [] es)) ≡ Some (held e) → ⊥
        differ h = cc (kept, h)

-- the newest name is removed
pub oldest_one : (k : Declared) (ks : List Declared) (n : ℕ) → n ≡ length (k ∷ ks) - 1 → oldest n (k ∷ ks) ≡ ks
oldest_one k ks n h =
    let one : length (k ∷ ks) - n ≡ 1 = omega arith in
    ap (λ i. drop i (k ∷ ks)) one

pub oldest_snoc : (es all : List Entry) (e : Entry) (n : ℕ) → all ≡ es ++ e ∷ [] → n ≡ length (known_from [] all) - 1 → known_from [] es ≡ oldest n (known_from [] all)
oldest_snoc es all e n is h =
    let made = ap (known_from []) is ∙ known_snoc [] es e in
    sym (ap (λ ks. oldest n ks) made
    ∙ oldest_one (record { name = e.name.now; kind = e.local.kind; line = e.local.line }) (known_from [] es) n (h ∙ ap (λ ks. length ks - 1) made))
