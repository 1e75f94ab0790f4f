-- A state at the first join of its job has no enclosing blocks.
use Rattle.std.specs.Prelude.{◌≡◌, Bool, true, ◌&&◌, List, [], ◌∷◌, refl}
use Rattle.cw_code.specs.Run.{Around}
use Rattle.cw_code.specs.Jobs.{is_first}

pub first_is : (around : List Around) (b : Bool) → is_first around && b ≡ true → around ≡ []
first_is [] b h = refl
first_is (a ∷ around) b h = cc
