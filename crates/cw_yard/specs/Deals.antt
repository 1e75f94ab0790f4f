-- The number that an item of a deque names.
use Rattle.std.specs.Prelude.{ℕ}
use Rattle.cw_yard.specs.declared.view.CellView.{CellView}
use Rattle.cw_yard.specs.declared.view.CellView.TheVariants.{Idle, Rest, Owner, Duty}

abbrev pub number_of : CellView → ℕ
number_of Idle = 0
number_of (Rest k) = 0
number_of (Owner c k) = 0
number_of (Duty c b n j) = n
