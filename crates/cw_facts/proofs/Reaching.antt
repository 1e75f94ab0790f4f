-- Empty lists are put behind others.
use Rattle.std.specs.Prelude.{◌≡◌, ℕ, List, [], ◌∷◌, ◌++◌, length, slice_index_or, refl}
use Rattle.std.specs.Global.{Vec}
use Rattle.std.proofs.Common.{zero, suc}
use Rattle.cw_facts.specs.Items.{lists_of, ReadTheSame}

-- so many lists, read as those before
pub record IsReached {A : Type 0} (old now : Vec (Vec A)) (count : ℕ) : Type 0 where
  pub count_is : length now.items ≡ count
  pub same : ReadTheSame old now

pub empty_behind : {A : Type 0} (xs : List (Vec A)) (v : Vec A) (k : ℕ) → v.items ≡ [] → slice_index_or (lists_of (xs ++ v ∷ [])) k [] ≡ slice_index_or (lists_of xs) k []
empty_behind [] v zero e = e
empty_behind [] v (suc k) e = refl
empty_behind (x ∷ xs) v zero e = refl
empty_behind (x ∷ xs) v (suc k) e = empty_behind xs v k e
