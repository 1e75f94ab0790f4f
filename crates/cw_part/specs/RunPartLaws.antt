-- Parts of runs join.
use Rattle.cw_facts.specs.Tests.{not_lt_of}
use Rattle.cw_model.specs.declared.limits.TheConstants.{MOST_LIMIT}
use Rattle.std.specs.Prelude.{◌≡◌, ℕ, nat_lt, false}
use Rattle.std.proofs.Common.{◌∙◌, ap, subst, arith}
use Rattle.std.proofs.Math.Bool.{Bool-set}
use Rattle.cw_part.specs.declared.read.Read.{Read}
use Rattle.cw_part.specs.Parts.{Came, IsLawful, is_above, Part, IsPart}
use Rattle.cw_part.specs.PartFacts.{tested_stays}
use Rattle.cw_part.specs.Read.{readings, PartsOfRunsJoin}
use Rattle.cw_part.specs.ReadLaws.{read-first, read-last, read-assoc}
use Rattle.cw_part.specs.RunParts.{RunPart, nothing_part, run_joined, part_of}
use Rattle.cw_part.specs.PartLaws.{parts_join}

pub readings_are_lawful : IsLawful Read readings
readings_are_lawful = record {
  none_first = read-first;
  none_last = read-last;
  regroup = read-assoc;
  no_work = omega arith;
  above_first = λ a b. omega arith;
  above_second = λ a b. omega arith;
}

pub parts_of_runs_join : PartsOfRunsJoin
parts_of_runs_join = parts_join readings readings_are_lawful

-- parts with the same limit and the same outcome are equal
abbrev part_with : (n : ℕ) (x : Came Read) → nat_lt MOST_LIMIT n ≡ false → is_above readings n x ≡ false → RunPart
part_with n x l t = record { limit = n; came = x; limited = l; tested = t }

same_came : (n : ℕ) (x y : Came Read) → x ≡ y
    → (l k : nat_lt MOST_LIMIT n ≡ false) (t : is_above readings n x ≡ false) (u : is_above readings n y ≡ false)
    → part_with n x l t ≡ part_with n y k u
same_came n x y e l k t u =
    let P : Came Read → Type 0 = λ z. (v : is_above readings n z ≡ false) → part_with n x l t ≡ part_with n z k v in
    (subst P e (λ v. ap (λ (a : nat_lt MOST_LIMIT n ≡ false). part_with n x a t) (Bool-set (nat_lt MOST_LIMIT n) false
    l k)
    ∙ ap (part_with n x k) (Bool-set (is_above readings n x) false t v))) u

same_with : (n m : ℕ) (x y : Came Read) → n ≡ m → x ≡ y
    → (l : nat_lt MOST_LIMIT n ≡ false) (k : nat_lt MOST_LIMIT m ≡ false) (t : is_above readings n x ≡ false)
    (u : is_above readings m y ≡ false) → part_with n x l t ≡ part_with m y k u
same_with n m x y e f l k t u =
    let P : ℕ → Type 0 =
    λ z. (a : nat_lt MOST_LIMIT z ≡ false) (v : is_above readings z y ≡ false) → part_with n x l t ≡ part_with z y a
    v in
    (subst P e (λ a v. same_came n x y f l a t v)) k u

pub same_run : (p q : RunPart) → p.limit ≡ q.limit → p.came ≡ q.came → p ≡ q
same_run p q e f = same_with p.limit q.limit p.came q.came e f p.limited q.limited p.tested q.tested

same_part : (p q : RunPart) → part_of p ≡ part_of q → p ≡ q
same_part p q e = same_run p q (ap (λ (r : Part Read). r.limit) e) (ap (λ (r : Part Read). r.came) e)

pub is_part : (p : RunPart) → IsPart Read readings (part_of p)
is_part p =
    record { limited = not_lt_of MOST_LIMIT p.limit p.limited; tested = tested_stays readings p.limit p.came p.tested }

pub run-first : (p : RunPart) → run_joined nothing_part p ≡ p
run-first p = same_part (run_joined nothing_part p) p (parts_of_runs_join.first (part_of p) (is_part p))

pub run-last : (p : RunPart) → run_joined p nothing_part ≡ p
run-last p = same_part (run_joined p nothing_part) p (parts_of_runs_join.last (part_of p) (is_part p))

pub run-assoc : (p q r : RunPart) → run_joined (run_joined p q) r ≡ run_joined p (run_joined q r)
run-assoc p q r =
    same_part (run_joined (run_joined p q) r) (run_joined p (run_joined q r))
    (parts_of_runs_join.regroup (part_of p) (part_of q) (part_of r))
