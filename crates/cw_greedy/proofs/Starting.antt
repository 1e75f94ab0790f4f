-- A recorder at its start.
use Rattle.std.specs.Prelude.{ℕ, ◌-◌, ◌≡◌, true, false, Ok, List, [], reverse, refl}
use Rattle.std.proofs.Common.{arith, sym, subst}
use Rattle.cw_greedy.specs.Origins.{Main, Rest, main_open}
use Rattle.cw_greedy.specs.Recorded.{Recorded}
use Rattle.cw_greedy.specs.declared.recorder.Part.{Part}
use Rattle.cw_greedy.specs.declared.recorder.Recorder.{Recorder}
use Rattle.cw_greedy.specs.Recording.{AreParts, Keeps, Starts, StartsRest}

nothing_kept : (r : Recorder) → r.kept ≡ Ok [] → r.noted ≡ 0 → Keeps (0 - r.noted) [] r.kept
nothing_kept r kept noted =
    let since : 0 ≡ 0 - r.noted = omega arith in
    subst (λ (n : ℕ). Keeps n [] r.kept) since (subst (λ (k : Recorded). Keeps 0 [] k) (sym kept) (omega arith, λ l. refl))

pub starts : (r : Recorder) → r.kept ≡ Ok [] → r.noted ≡ 0 → r.out ≡ false → r.parts.items ≡ [] → Starts r
starts r kept noted out none = record {
  goes_on = omega (arith, noted);
  keeps = nothing_kept r kept noted;
  parts = record { out = out; parts = subst (λ (l : List Part). AreParts Main main_open (reverse l)) (sym none) tt };
  from_main = (refl, refl, refl);
  apart = (tt, tt);
}

pub starts_rest : (r : Recorder) → r.kept ≡ Ok [] → r.noted ≡ 0 → r.out ≡ true → r.parts.items ≡ [] → StartsRest r
starts_rest r kept noted out none site = record {
  goes_on = omega (arith, noted);
  keeps = nothing_kept r kept noted;
  parts = record { out = out; parts = subst (λ (l : List Part). AreParts (Rest site) [] (reverse l)) (sym none) tt };
  from_main = tt;
  apart = tt;
}
