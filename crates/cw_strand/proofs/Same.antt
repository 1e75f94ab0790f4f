-- Strands with the same parts, and the remaining list after its last element was taken.
use Rattle.std.proofs.Common.{◌≡◌, ℕ, ◌+◌, ◌<◌, Option, Some, None, List, [], ◌∷◌, ◌++◌, length, refl, sym, ap, ◌∙◌, subst, arith}
use Rattle.std.specs.Prelude.{map, reverse, option_to_list, MatchOption, slice_get}
use Rattle.cw_facts.specs.Lists.{reverse_pushed}
use Rattle.cw_jobs.specs.declared.job.Job.{Job}
use Rattle.cw_jobs.specs.Jobs.{code_of}
use Rattle.cw_strand.specs.declared.strand.Lent.{Lent}
use Rattle.cw_strand.specs.declared.strand.Strand.{Strand}
use Rattle.cw_strand.specs.Holds.{outs, AreSpare}

pub same_strand : (a b : Strand) → b.of ≡ a.of → b.parts ≡ a.parts → b.run ≡ a.run → b.count ≡ a.count → b.lent ≡ a.lent → b.spares ≡ a.spares → b.mode ≡ a.mode → a ≡ b
same_strand a b o p r n l s m =
    ap (λ z. record a { of = z }) (sym o)
    ∙ ap (λ z. record a { of = b.of; parts = z }) (sym p)
    ∙ ap (λ z. record a { of = b.of; parts = b.parts; run = z }) (sym r)
    ∙ ap (λ z. record a { of = b.of; parts = b.parts; run = b.run; count = z }) (sym n)
    ∙ ap (λ z. record a { of = b.of; parts = b.parts; run = b.run; count = b.count; lent = z }) (sym l)
    ∙ ap (λ z. record a { of = b.of; parts = b.parts; run = b.run; count = b.count; lent = b.lent; spares = z }) (sym s)
    ∙ ap (λ z. record a { of = b.of; parts = b.parts; run = b.run; count = b.count; lent = b.lent; spares = b.spares; mode = z }) (sym m)

-- the newest job out
pub record Newest (self : Strand) (job : Job) (others : List Job) : Type 0 where
  pub lent : Lent
  pub rest : List Lent
  pub are : reverse self.lent.items ≡ lent ∷ rest
  pub job_is : lent.job.value ≡ job
  pub others_are : map (λ l. l.job.value) rest ≡ others

first : {A : Type 0} (x y : A) (xs ys : List A) → x ∷ xs ≡ y ∷ ys → x ≡ y
first x y xs ys q = cc

second : {A : Type 0} (x y : A) (xs ys : List A) → x ∷ xs ≡ y ∷ ys → xs ≡ ys
second x y xs ys q = cc

-- a list whose image under a function has a first element
record Split {A B : Type 0} (f : A → B) (l : List A) (y : B) (ys : List B) : Type 0 where
  pub x : A
  pub xs : List A
  pub are : l ≡ x ∷ xs
  pub here : f x ≡ y
  pub others : map f xs ≡ ys

split_of : {A B : Type 0} (f : A → B) (l : List A) (y : B) (ys : List B) → map f l ≡ y ∷ ys → Split f l y ys
split_of f [] y ys e = cc
split_of f (x ∷ xs) y ys e = record { x = x; xs = xs; are = refl; here = first (f x) y (map f xs) ys e; others = second (f x) y (map f xs) ys e }

pub newest_of : (self : Strand) (job : Job) (others : List Job) → outs self ≡ job ∷ others → Newest self job others
newest_of self job others e =
    let s = split_of (λ l. l.job.value) (reverse self.lent.items) job others e in
    record { lent = s.x; rest = s.xs; are = s.are; job_is = s.here; others_are = s.others }

-- the last element was taken
pub record Popped {A : Type 0} (new : List A) (r : Option A) (x : A) (xs : List A) : Type 0 where
  pub result : r ≡ Some x
  pub left : reverse new ≡ xs

pub popped : {A : Type 0} (old new : List A) (r : Option A) (x : A) (xs : List A) → old ≡ new ++ option_to_list r → (r ≡ None → old ≡ []) → reverse old ≡ x ∷ xs → Popped new r x xs
popped old new None x xs e none are = absurd (never (sym (ap reverse (none refl)) ∙ are))
  where
    never : [] ≡ x ∷ xs → ⊥
    never q = cc
popped old new (Some y) x xs e none are = record {
  result = ap Some (head (sym (reverse_pushed new y) ∙ sym (ap reverse e) ∙ are));
  left = tail (sym (reverse_pushed new y) ∙ sym (ap reverse e) ∙ are);
}
  where
    head : y ∷ reverse new ≡ x ∷ xs → y ≡ x
    head q = cc

    tail : y ∷ reverse new ≡ x ∷ xs → reverse new ≡ xs
    tail q = cc

some_long : {A : Type 0} (l : List A) (x : A) (xs : List A) → length l ≡ 0 → reverse l ≡ x ∷ xs → ⊥
some_long [] x xs k q = cc
some_long (y ∷ l) x xs k q = omega (arith, k)

some_none : {A : Type 0} (y : A) → Some y ≡ None → ⊥
some_none y q = cc

-- the result of `Vec::pop`
pub pops : {A : Type 0} (old new : List A) (n m : ℕ) (r : Option A) (x : A) (xs : List A) → n ≡ length old → old ≡ new ++ option_to_list r
    → MatchOption r ((n ≡ 0) × (m ≡ 0)) (λ _. m + 1 ≡ n) → reverse old ≡ x ∷ xs → Popped new r x xs
pops old new n m None x xs many e h are = absurd (some_long old x xs (sym many ∙ h.0) are)
pops old new n m (Some y) x xs many e h are = popped old new (Some y) x xs e (λ q. absurd (some_none y q)) are

-- the result of `Vec::take_last`
pub lasts : {A : Type 0} (old new : List A) (r x : A) (xs : List A) → old ≡ new ++ r ∷ [] → reverse old ≡ x ∷ xs → reverse new ≡ xs
lasts old new r x xs e are = (popped old new (Some r) x xs e (λ q. absurd (some_none r q)) are).left

-- the element taken was the last one
pub last_is : {A : Type 0} (old new : List A) (r x : A) (xs : List A) → old ≡ new ++ r ∷ [] → reverse old ≡ x ∷ xs → r ≡ x
last_is old new r x xs e are = same (popped old new (Some r) x xs e (λ q. absurd (some_none r q)) are).result
  where
    same : Some r ≡ Some x → r ≡ x
    same q = cc

-- the list has an element, so `take_last` may be called
pub some_there : {A : Type 0} (l : List A) (x : A) (xs : List A) → reverse l ≡ x ∷ xs → 0 < length l
some_there [] x xs q = absurd (some_long [] x xs refl q)
some_there (y ∷ l) x xs q = omega arith

-- the remaining jobs out
pub others_left : (old new : Strand) (out : Job) (others : List Job) → outs old ≡ out ∷ others
    → ((x : Lent) (xs : List Lent) → reverse old.lent.items ≡ x ∷ xs → reverse new.lent.items ≡ xs) → outs new ≡ others
others_left old new out others e left =
    let n = newest_of old out others e in
    ap (map (λ l. l.job.value)) (left n.lent n.rest n.are) ∙ n.others_are

-- a strand with the same spares and the same job
pub spare_as : (a b : Strand) → b.spares ≡ a.spares → b.of ≡ a.of → AreSpare a → AreSpare b
spare_as a b spares of h k x e = h k x (subst (λ s. slice_get s.items k ≡ Some x) spares e) ∙ ap (λ o. code_of o.value.parts.value) (sym of)
