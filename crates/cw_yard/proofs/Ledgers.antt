-- How a push, a pop and a theft change the ledger of a deque.
use Rattle.std.proofs.Common.{◌≡◌, ◌≢◌, ◌<◌, ◌≤◌, ◌+◌, ℕ, suc, Bool, true, false, eqb, List, [], ◌∷◌, ◌++◌, length, map, sym, refl, ap, ◌∙◌, subst, arith, eq-eqb, ne_eqb}
use Rattle.cw_yard.specs.declared.task.Offer.{Offer}
use Rattle.cw_yard.specs.Ledger.{Lot, Name, Fate, out, retaken, stolen, Entry, outs, if_same, thefts, NoneStolen, FrontFirst, shown, Each}

pub nil_no_cons : {A : Type 0} (x : A) (xs : List A) → ¬ ([] ≡ x ∷ xs)
nil_no_cons x xs e = let l : 0 ≡ suc (length xs) = ap length e in absurd (omega arith)

pub nil_no_snoc : {A : Type 0} (ps : List A) (x : A) → ¬ ([] ≡ ps ++ x ∷ [])
nil_no_snoc [] x e = nil_no_cons x [] e
nil_no_snoc (p ∷ ps) x e = nil_no_cons p (ps ++ x ∷ []) e

abbrev pub head_or : {A : Type 0} → A → List A → A
head_or d [] = d
head_or d (x ∷ xs) = x

abbrev pub tail_of : {A : Type 0} → List A → List A
tail_of [] = []
tail_of (x ∷ xs) = xs

on : (n m : ℕ) → suc n + m ≡ n + suc m
on n m = omega arith

on0 : (n : ℕ) → n ≡ n + 0
on0 n = omega arith

pub outs-snoc : (n : ℕ) (es : List Entry) (j : Lot) → outs n (es ++ (j, out) ∷ []) ≡ outs n es ++ (n + length es, j) ∷ []
outs-snoc n [] j = let e : n ≡ n + 0 = omega arith in ap (λ m. (m, j) ∷ []) e
outs-snoc n ((k, out) ∷ es) j = ap (λ l. (n, k) ∷ l) (outs-snoc (suc n) es j ∙ ap (λ m. outs (suc n) es ++ (m, j) ∷ []) (on n (length es)))
outs-snoc n ((k, retaken) ∷ es) j = outs-snoc (suc n) es j ∙ ap (λ m. outs (suc n) es ++ (m, j) ∷ []) (on n (length es))
outs-snoc n ((k, stolen p) ∷ es) j = outs-snoc (suc n) es j ∙ ap (λ m. outs (suc n) es ++ (m, j) ∷ []) (on n (length es))

none-snoc : (es : List Entry) (j : Lot) → NoneStolen es → NoneStolen (es ++ (j, out) ∷ [])
none-snoc [] j h = (tt, tt)
none-snoc (e ∷ es) j h = (h.0, none-snoc es j h.1)

pub front-snoc : (es : List Entry) (j : Lot) → FrontFirst es → FrontFirst (es ++ (j, out) ∷ [])
front-snoc [] j h = tt
front-snoc ((k, out) ∷ es) j h = none-snoc es j h
front-snoc ((k, retaken) ∷ es) j h = front-snoc es j h
front-snoc ((k, stolen p) ∷ es) j h = front-snoc es j h

pub thefts-snoc : (p n : ℕ) (es : List Entry) (j : Lot) → thefts p n (es ++ (j, out) ∷ []) ≡ thefts p n es
thefts-snoc p n [] j = refl
thefts-snoc p n ((k, out) ∷ es) j = thefts-snoc p (suc n) es j
thefts-snoc p n ((k, retaken) ∷ es) j = thefts-snoc p (suc n) es j
thefts-snoc p n ((k, stolen q) ∷ es) j = ap (if_same (eqb q p) (n, k)) (thefts-snoc p (suc n) es j)

-- an entry with fate `f` between others
abbrev pub among : List Entry → Lot → Fate → List Entry → List Entry
among xs j f ys = xs ++ (j, f) ∷ ys

none_front : (es : List Entry) → NoneStolen es → FrontFirst es
none_front [] h = tt
none_front ((k, out) ∷ es) h = h.1
none_front ((k, retaken) ∷ es) h = none_front es h.1
none_front ((k, stolen p) ∷ es) h = absurd h.0

none_thefts : (p n : ℕ) (es : List Entry) → NoneStolen es → thefts p n es ≡ []
none_thefts p n [] h = refl
none_thefts p n ((k, out) ∷ es) h = none_thefts p (suc n) es h.1
none_thefts p n ((k, retaken) ∷ es) h = none_thefts p (suc n) es h.1
none_thefts p n ((k, stolen q) ∷ es) h = absurd h.0

none_after : (xs : List Entry) (j : Lot) (f : Fate) (ys : List Entry) → NoneStolen (among xs j f ys) → NoneStolen ys
none_after [] j f ys h = h.1
none_after (a ∷ xs) j f ys h = none_after xs j f ys h.1

pub front_after : (xs : List Entry) (j : Lot) (ys : List Entry) → FrontFirst (among xs j out ys) → NoneStolen ys
front_after [] j ys h = h
front_after ((k, out) ∷ xs) j ys h = none_after xs j out ys h
front_after ((k, retaken) ∷ xs) j ys h = front_after xs j ys h
front_after ((k, stolen p) ∷ xs) j ys h = front_after xs j ys h

none_retake : (xs : List Entry) (j : Lot) (ys : List Entry) → NoneStolen (among xs j out ys) → NoneStolen (among xs j retaken ys)
none_retake [] j ys h = (tt, h.1)
none_retake (a ∷ xs) j ys h = (h.0, none_retake xs j ys h.1)

pub front_retake : (xs : List Entry) (j : Lot) (ys : List Entry) → FrontFirst (among xs j out ys) → FrontFirst (among xs j retaken ys)
front_retake [] j ys h = none_front ys h
front_retake ((k, out) ∷ xs) j ys h = none_retake xs j ys h
front_retake ((k, retaken) ∷ xs) j ys h = front_retake xs j ys h
front_retake ((k, stolen p) ∷ xs) j ys h = front_retake xs j ys h

pub thefts_retake : (p n : ℕ) (xs : List Entry) (j : Lot) (ys : List Entry) → thefts p n (among xs j out ys) ≡ thefts p n (among xs j retaken ys)
thefts_retake p n [] j ys = refl
thefts_retake p n ((k, out) ∷ xs) j ys = thefts_retake p (suc n) xs j ys
thefts_retake p n ((k, retaken) ∷ xs) j ys = thefts_retake p (suc n) xs j ys
thefts_retake p n ((k, stolen q) ∷ xs) j ys = ap (if_same (eqb q p) (n, k)) (thefts_retake p (suc n) xs j ys)

-- the last job in the deque
pub record Last (es : List Entry) (n : ℕ) (ps : List Name) (q : Name) : Type 0 where
  pub before : List Entry
  pub after : List Entry
  pub is : es ≡ among before q.1 out after
  pub number : q.0 ≡ n + length before
  pub left : outs n (among before q.1 retaken after) ≡ ps
  pub none_out : (m : ℕ) → outs m after ≡ []

no_outs : (n m : ℕ) (es : List Entry) → outs n es ≡ [] → outs m es ≡ []
no_outs n m [] h = refl
no_outs n m ((k, out) ∷ es) h = absurd (nil_no_cons (n, k) (outs (suc n) es) (sym h))
no_outs n m ((k, retaken) ∷ es) h = no_outs (suc n) (suc m) es h
no_outs n m ((k, stolen p) ∷ es) h = no_outs (suc n) (suc m) es h

skip : (n : ℕ) (ps : List Name) (q : Name) (e : Entry) (es : List Entry) (ps' : List Name)
    → ((xs ys : List Entry) → outs (suc n) (among xs q.1 retaken ys) ≡ ps → outs n (e ∷ among xs q.1 retaken ys) ≡ ps') → Last es (suc n) ps q → Last (e ∷ es) n ps' q
skip n ps q e es ps' f l = record {
  before = e ∷ l.before;
  after = l.after;
  is = ap (λ t. e ∷ t) l.is;
  number = l.number ∙ on n (length l.before);
  left = f l.before l.after l.left;
  none_out = l.none_out;
}

pub last_out : (n : ℕ) (es : List Entry) (ps : List Name) (q : Name) → outs n es ≡ ps ++ q ∷ [] → Last es n ps q
last_out n [] ps q h = absurd (nil_no_snoc ps q h)
last_out n ((k, out) ∷ es) [] q h = record {
  before = [];
  after = es;
  is = ap (λ (l : List Name). (((head_or (n, k) l).1, out) ∷ es)) h;
  number = sym (ap (λ (l : List Name). (head_or (n, k) l).0) h) ∙ on0 n;
  left = ap tail_of h;
  none_out = λ m. no_outs (suc n) m es (ap tail_of h);
}
last_out n ((k, out) ∷ es) (p ∷ ps) q h = skip n ps q (k, out) es (p ∷ ps) (λ xs ys e. λ i. (head_or (n, k) (h i)) ∷ e i) (last_out (suc n) es ps q (ap tail_of h))
last_out n ((k, retaken) ∷ es) ps q h = skip n ps q (k, retaken) es ps (λ xs ys e. e) (last_out (suc n) es ps q h)
last_out n ((k, stolen p) ∷ es) ps q h = skip n ps q (k, stolen p) es ps (λ xs ys e. e) (last_out (suc n) es ps q h)

pub all_back : (es : List Entry) → NoneStolen es → outs 0 es ≡ [] → Each (λ (o : Offer). o.retaken ≡ true) (map shown es)
all_back [] h none = tt
all_back ((k, out) ∷ es) h none = absurd (nil_no_cons (0, k) (outs 1 es) (sym none))
all_back ((k, retaken) ∷ es) h none = (refl, all_back es h.1 (no_outs 1 0 es none))
all_back ((k, stolen p) ∷ es) h none = absurd h.0

-- the first job in the deque
pub record First (es : List Entry) (n : ℕ) (q : Name) (ps : List Name) : Type 0 where
  pub before : List Entry
  pub after : List Entry
  pub is : es ≡ among before q.1 out after
  pub number : q.0 ≡ n + length before
  pub left : (p : ℕ) → outs n (among before q.1 (stolen p) after) ≡ ps
  pub none_out : outs n before ≡ []

past : (n : ℕ) (q : Name) (ps : List Name) (e : Entry) (es : List Entry) → ((l : List Entry) → outs n (e ∷ l) ≡ outs (suc n) l) → First es (suc n) q ps → First (e ∷ es) n q ps
past n q ps e es f l = record {
  before = e ∷ l.before;
  after = l.after;
  is = ap (λ t. e ∷ t) l.is;
  number = l.number ∙ on n (length l.before);
  left = λ p. f (among l.before q.1 (stolen p) l.after) ∙ l.left p;
  none_out = f l.before ∙ l.none_out;
}

pub first_out : (n : ℕ) (es : List Entry) (q : Name) (ps : List Name) → outs n es ≡ q ∷ ps → First es n q ps
first_out n [] q ps h = absurd (nil_no_cons q ps h)
first_out n ((k, out) ∷ es) q ps h = record {
  before = [];
  after = es;
  is = ap (λ (l : List Name). (((head_or (n, k) l).1, out) ∷ es)) h;
  number = sym (ap (λ (l : List Name). (head_or (n, k) l).0) h) ∙ on0 n;
  left = λ p. ap tail_of h;
  none_out = refl;
}
first_out n ((k, retaken) ∷ es) q ps h = past n q ps (k, retaken) es (λ l. refl) (first_out (suc n) es q ps h)
first_out n ((k, stolen p) ∷ es) q ps h = past n q ps (k, stolen p) es (λ l. refl) (first_out (suc n) es q ps h)

pub front_steal : (p n : ℕ) (xs : List Entry) (j : Lot) (ys : List Entry) → outs n xs ≡ [] → FrontFirst (among xs j out ys) → FrontFirst (among xs j (stolen p) ys)
front_steal p n [] j ys none h = none_front ys h
front_steal p n ((k, out) ∷ xs) j ys none h = absurd (nil_no_cons (n, k) (outs (suc n) xs) (sym none))
front_steal p n ((k, retaken) ∷ xs) j ys none h = front_steal p (suc n) xs j ys none h
front_steal p n ((k, stolen q) ∷ xs) j ys none h = front_steal p (suc n) xs j ys none h

if_same-self : (p : ℕ) (x : Name) (l : List Name) → if_same (eqb p p) x l ≡ x ∷ l
if_same-self p x l = ap (λ b. if_same b x l) (eq-eqb p p refl)

if_same-other : (p q : ℕ) (x : Name) (l : List Name) → q ≢ p → if_same (eqb q p) x l ≡ l
if_same-other p q x l ne = ap (λ b. if_same b x l) (ne_eqb q p ne)

if_same-snoc : (b : Bool) (x y : Name) (l : List Name) → if_same b x (l ++ y ∷ []) ≡ if_same b x l ++ y ∷ []
if_same-snoc true x y l = refl
if_same-snoc false x y l = refl

pub thefts_steal : (p n : ℕ) (xs : List Entry) (j : Lot) (ys : List Entry) → NoneStolen ys → thefts p n (among xs j (stolen p) ys) ≡ thefts p n (among xs j out ys) ++ (n + length xs, j) ∷ []
thefts_steal p n [] j ys none = let e : n ≡ n + 0 = omega arith in if_same-self p (n, j) (thefts p (suc n) ys)
    ∙ (λ i. (e i, j) ∷ none_thefts p (suc n) ys none i) ∙ ap (λ l. l ++ (n + 0, j) ∷ []) (sym (none_thefts p (suc n) ys none))
thefts_steal p n ((k, out) ∷ xs) j ys none = thefts_steal p (suc n) xs j ys none ∙ ap (λ m. thefts p (suc n) (among xs j out ys) ++ (m, j) ∷ []) (on n (length xs))
thefts_steal p n ((k, retaken) ∷ xs) j ys none = thefts_steal p (suc n) xs j ys none ∙ ap (λ m. thefts p (suc n) (among xs j out ys) ++ (m, j) ∷ []) (on n (length xs))
thefts_steal p n ((k, stolen q) ∷ xs) j ys none = ap (if_same (eqb q p) (n, k)) (thefts_steal p (suc n) xs j ys none ∙ ap (λ m. thefts p (suc n) (among xs j out ys) ++ (m, j) ∷ []) (on n (length xs)))
    ∙ if_same-snoc (eqb q p) (n, k) (n + suc (length xs), j) (thefts p (suc n) (among xs j out ys))

pub thefts_other : (p q n : ℕ) (xs : List Entry) (j : Lot) (ys : List Entry) → p ≢ q → thefts q n (among xs j (stolen p) ys) ≡ thefts q n (among xs j out ys)
thefts_other p q n [] j ys ne = if_same-other q p (n, j) (thefts q (suc n) ys) ne
thefts_other p q n ((k, out) ∷ xs) j ys ne = thefts_other p q (suc n) xs j ys ne
thefts_other p q n ((k, retaken) ∷ xs) j ys ne = thefts_other p q (suc n) xs j ys ne
thefts_other p q n ((k, stolen r) ∷ xs) j ys ne = ap (if_same (eqb r q) (n, k)) (thefts_other p q (suc n) xs j ys ne)

pub shown_steal : (p : ℕ) (xs : List Entry) (j : Lot) (ys : List Entry) → map shown (among xs j (stolen p) ys) ≡ map shown (among xs j out ys)
shown_steal p [] j ys = refl
shown_steal p (a ∷ xs) j ys = ap (λ l. shown a ∷ l) (shown_steal p xs j ys)

all_weaker : (m n : ℕ) (l : List Name) → m ≤ n → Each (λ (x : Name). x.0 < m) l → Each (λ (x : Name). x.0 < n) l
all_weaker m n [] le h = tt
all_weaker m n (x ∷ l) le h = ((let a : x.0 < m = h.0 in omega arith), all_weaker m n l le h.1)

if_same-all : (b : Bool) (x : Name) (l : List Name) (m : ℕ) → x.0 < m → Each (λ (y : Name). y.0 < m) l → Each (λ (y : Name). y.0 < m) (if_same b x l)
if_same-all true x l m lt h = (lt, h)
if_same-all false x l m lt h = h

-- stolen jobs have lower numbers than jobs in the deque
pub below : (p n : ℕ) (xs : List Entry) (j : Lot) (ys : List Entry) → NoneStolen ys → Each (λ (x : Name). x.0 < n + length xs) (thefts p n (among xs j out ys))
below p n [] j ys none = subst (Each (λ (x : Name). x.0 < n + 0)) (sym (none_thefts p (suc n) ys none)) tt
below p n ((k, out) ∷ xs) j ys none = all_weaker (suc n + length xs) (n + suc (length xs)) _ (omega arith) (below p (suc n) xs j ys none)
below p n ((k, retaken) ∷ xs) j ys none = all_weaker (suc n + length xs) (n + suc (length xs)) _ (omega arith) (below p (suc n) xs j ys none)
below p n ((k, stolen q) ∷ xs) j ys none = if_same-all (eqb q p) (n, k) _ (n + suc (length xs)) (omega arith)
    (all_weaker (suc n + length xs) (n + suc (length xs)) _ (omega arith) (below p (suc n) xs j ys none))
