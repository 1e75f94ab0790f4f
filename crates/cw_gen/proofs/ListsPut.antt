-- Lists that are stored at numbers: each is found at its number if no number is used twice.
use Rattle.std.proofs.Common.{◌≡◌, ℕ, zero, suc, ◌+◌, ◌≤◌, ◌<◌, Bool, true, false, List, [], ◌∷◌, ◌++◌, length, Some, refl, sym, ◌∙◌, ap, arith}
use Rattle.std.specs.Prelude.{if◌then◌else◌, map, nat_eq, slice_get, slice_set}
use Rattle.std.proofs.lemmas.Bool.Decides.{nat_tests}
use Rattle.std.proofs.lemmas.List.{length-set}
use Rattle.cw_facts.specs.Lists.{set_other}
use Rattle.cw_loops.specs.Slotted.{Stmt, Declare, DeclareArray, Assign, AssignElement, Reduce, Call, Start, Begin, Sync, If}
use Rattle.cw_loops.specs.Slotted.{IfElse, While, Scope, Cut, Region, Print, Return, Block, End, Then, Function}
use Rattle.cw_code.specs.declared.code.Loan.{Loan}
use Rattle.cw_gen.specs.Marks.{Marks, marks_of, array_at}
use Rattle.cw_gen.specs.Emit.{whole_list, half_list, passed_in, lent_in, put_lists, put_lists_in, put_lists_of, put_loans, put_loans_in, put_loans_of}

-- a list with the number at which it is stored
pub record Entry (X : Type 0) : Type 0 where
  pub key : ℕ
  pub items : List X

abbrev mutual
  -- the lists that a statement stores
  pub entries : (first : ℕ) → Marks → Stmt → List (Entry ℕ)
  entries first marks (Call kind site target f es) = record { key = site; items = passed_in marks es } ∷ []
  entries first marks (Start kind f es) = record { key = half_list first kind f; items = passed_in marks es } ∷ []
  entries first marks (Begin f from to captured over) = record { key = whole_list first f; items = map (array_at marks) over } ∷ []
  entries first marks (If e b) = entries_in first marks b
  entries first marks (IfElse e b c) = entries_in first marks b ++ entries_in first marks c
  entries first marks (While e b) = entries_in first marks b
  entries first marks (Scope b) = entries_in first marks b
  entries first marks (Cut a e l r b) = entries_in first marks b
  entries first marks (Region tag b) = entries_in first marks b
  entries first marks _ = []

  -- the lists that a block stores
  pub entries_in : (first : ℕ) → Marks → Block → List (Entry ℕ)
  entries_in first marks End = []
  entries_in first marks (Then line s b) = entries first marks s ++ entries_in first marks b

-- the lists that functions store
abbrev pub entries_of : (first : ℕ) → List Function → List (Entry ℕ)
entries_of first [] = []
entries_of first (f ∷ fs) = entries_in first (marks_of f.params) f.body ++ entries_of first fs

abbrev mutual
  -- the loans that a statement stores
  pub loans : Marks → Stmt → List (Entry Loan)
  loans marks (Call kind site target f es) = record { key = site; items = lent_in marks es } ∷ []
  loans marks (If e b) = loans_in marks b
  loans marks (IfElse e b c) = loans_in marks b ++ loans_in marks c
  loans marks (While e b) = loans_in marks b
  loans marks (Scope b) = loans_in marks b
  loans marks (Cut a e l r b) = loans_in marks b
  loans marks (Region tag b) = loans_in marks b
  loans marks _ = []

  -- the loans that a block stores
  pub loans_in : Marks → Block → List (Entry Loan)
  loans_in marks End = []
  loans_in marks (Then line s b) = loans marks s ++ loans_in marks b

-- the loans that functions store
abbrev pub loans_of : List Function → List (Entry Loan)
loans_of [] = []
loans_of (f ∷ fs) = loans_in (marks_of f.params) f.body ++ loans_of fs

-- entries are stored in sequence
abbrev pub put_all : {X : Type 0} → List (Entry X) → List (List X) → List (List X)
put_all [] lists = lists
put_all (e ∷ es) lists = put_all es (slice_set lists e.key e.items)

put_both : {X : Type 0} (xs ys : List (Entry X)) (lists : List (List X)) → put_all (xs ++ ys) lists ≡ put_all ys (put_all xs lists)
put_both [] ys lists = refl
put_both (x ∷ xs) ys lists = put_both xs ys (slice_set lists x.key x.items)

mutual
  puts : (first : ℕ) (marks : Marks) (s : Stmt) (lists : List (List ℕ)) → put_lists first marks s lists ≡ put_all (entries first marks s) lists
  puts first marks (Call kind site target f es) lists = refl
  puts first marks (Start kind f es) lists = refl
  puts first marks (Begin f from to captured over) lists = refl
  puts first marks (If e b) lists = puts_in first marks b lists
  puts first marks (IfElse e b c) lists =
      puts_in first marks c (put_lists_in first marks b lists) ∙ ap (put_all (entries_in first marks c)) (puts_in first marks b lists)
      ∙ sym (put_both (entries_in first marks b) (entries_in first marks c) lists)
  puts first marks (While e b) lists = puts_in first marks b lists
  puts first marks (Scope b) lists = puts_in first marks b lists
  puts first marks (Cut a e l r b) lists = puts_in first marks b lists
  puts first marks (Region tag b) lists = puts_in first marks b lists
  puts first marks (Declare x e) lists = refl
  puts first marks (DeclareArray x e) lists = refl
  puts first marks (Assign x e) lists = refl
  puts first marks (AssignElement x i e) lists = refl
  puts first marks (Reduce how x e) lists = refl
  puts first marks Sync lists = refl
  puts first marks (Print e) lists = refl
  puts first marks (Return e) lists = refl

  puts_in : (first : ℕ) (marks : Marks) (b : Block) (lists : List (List ℕ)) → put_lists_in first marks b lists ≡ put_all (entries_in first marks b) lists
  puts_in first marks End lists = refl
  puts_in first marks (Then line s b) lists =
      puts_in first marks b (put_lists first marks s lists) ∙ ap (put_all (entries_in first marks b)) (puts first marks s lists)
      ∙ sym (put_both (entries first marks s) (entries_in first marks b) lists)

-- functions store their entries in sequence
pub puts_of : (first : ℕ) (fs : List Function) (lists : List (List ℕ)) → put_lists_of first fs lists ≡ put_all (entries_of first fs) lists
puts_of first [] lists = refl
puts_of first (f ∷ fs) lists =
    let here = entries_in first (marks_of f.params) f.body in
    puts_of first fs (put_lists_in first (marks_of f.params) f.body lists)
    ∙ ap (put_all (entries_of first fs)) (puts_in first (marks_of f.params) f.body lists) ∙ sym (put_both here (entries_of first fs) lists)

mutual
  lends : (marks : Marks) (s : Stmt) (lists : List (List Loan)) → put_loans marks s lists ≡ put_all (loans marks s) lists
  lends marks (Call kind site target f es) lists = refl
  lends marks (Start kind f es) lists = refl
  lends marks (Begin f from to captured over) lists = refl
  lends marks (If e b) lists = lends_in marks b lists
  lends marks (IfElse e b c) lists =
      lends_in marks c (put_loans_in marks b lists) ∙ ap (put_all (loans_in marks c)) (lends_in marks b lists) ∙ sym (put_both (loans_in marks b) (loans_in marks c) lists)
  lends marks (While e b) lists = lends_in marks b lists
  lends marks (Scope b) lists = lends_in marks b lists
  lends marks (Cut a e l r b) lists = lends_in marks b lists
  lends marks (Region tag b) lists = lends_in marks b lists
  lends marks (Declare x e) lists = refl
  lends marks (DeclareArray x e) lists = refl
  lends marks (Assign x e) lists = refl
  lends marks (AssignElement x i e) lists = refl
  lends marks (Reduce how x e) lists = refl
  lends marks Sync lists = refl
  lends marks (Print e) lists = refl
  lends marks (Return e) lists = refl

  lends_in : (marks : Marks) (b : Block) (lists : List (List Loan)) → put_loans_in marks b lists ≡ put_all (loans_in marks b) lists
  lends_in marks End lists = refl
  lends_in marks (Then line s b) lists =
      lends_in marks b (put_loans marks s lists) ∙ ap (put_all (loans_in marks b)) (lends marks s lists) ∙ sym (put_both (loans marks s) (loans_in marks b) lists)

pub lends_of : (fs : List Function) (lists : List (List Loan)) → put_loans_of fs lists ≡ put_all (loans_of fs) lists
lends_of [] lists = refl
lends_of (f ∷ fs) lists =
    let here = loans_in (marks_of f.params) f.body in
    lends_of fs (put_loans_in (marks_of f.params) f.body lists) ∙ ap (put_all (loans_of fs)) (lends_in (marks_of f.params) f.body lists) ∙ sym (put_both here (loans_of fs) lists)

-- 1 if the number is this one, otherwise 0
abbrev pub one_where : Bool → ℕ
one_where b = if b then 1 else 0

abbrev pub is_at : (key n : ℕ) → ℕ
is_at key n = one_where (nat_eq key n)

-- the number of uses of a number
abbrev pub times : {X : Type 0} → (key : ℕ) → List (Entry X) → ℕ
times key [] = 0
times key (e ∷ es) = is_at key e.key + times key es

-- each entry is found at its number
abbrev pub AllFound : {X : Type 0} → List (List X) → List (Entry X) → Type 0
AllFound lists [] = Unit {0}
AllFound lists (e ∷ es) = (slice_get lists e.key ≡ Some e.items) × AllFound lists es

pub found_front : {X : Type 0} (lists : List (List X)) (xs ys : List (Entry X)) → AllFound lists (xs ++ ys) → AllFound lists xs
found_front lists [] ys h = tt
found_front lists (x ∷ xs) ys h = (h.0, found_front lists xs ys h.1)

pub found_back : {X : Type 0} (lists : List (List X)) (xs ys : List (Entry X)) → AllFound lists (xs ++ ys) → AllFound lists ys
found_back lists [] ys h = h
found_back lists (x ∷ xs) ys h = found_back lists xs ys h.1

set_same : {X : Type 0} (lists : List (List X)) (key : ℕ) (slots : List X) → key < length lists → slice_get (slice_set lists key slots) key ≡ Some slots
set_same [] key slots h = absurd (omega (arith, h))
set_same (l ∷ lists) zero slots h = refl
set_same (l ∷ lists) (suc key) slots h = set_same lists key slots (omega (arith, h))

pub at_itself : (key : ℕ) → is_at key key ≡ 1
at_itself key = go (nat_eq key key) refl
  where
    go : (b : Bool) → nat_eq key key ≡ b → one_where b ≡ 1
    go true e = refl
    go false e = absurd (grind (arith, nat_tests))

-- a number that is not used keeps its list
stays : {X : Type 0} (es : List (Entry X)) (lists : List (List X)) (key : ℕ) → times key es ≡ 0 → slice_get (put_all es lists) key ≡ slice_get lists key
stays [] lists key h = refl
stays (e ∷ es) lists key h = stays es (slice_set lists e.key e.items) key (omega (arith, h)) ∙ set_other lists e.key key e.items (λ same. omega (arith, h, at_itself key, ap (is_at key) same))

-- if no number is used twice and all are in range, each entry is found
pub all_found : {X : Type 0} (es : List (Entry X)) (lists : List (List X)) → ((key : ℕ) → times key es ≤ 1) → ((key : ℕ) → 0 < times key es → key < length lists) → AllFound (put_all es lists) es
all_found [] lists once there = tt
all_found (e ∷ es) lists once there =
    let next = slice_set lists e.key e.items in (
      stays es next e.key (let h = once e.key in let o = at_itself e.key in omega (arith, h, o))
          ∙ set_same lists e.key e.items (there e.key (let o = at_itself e.key in omega (arith, o))),
      all_found es next (λ key. let h = once key in omega (arith, h)) (λ key used. let t = there key (omega (arith, used)) in let n = length-set lists e.key e.items in omega (arith, t, n)),
    )
