-- The columns of a report.
use Rattle.std.proofs.Common.{◌≡◌, ℕ, Bool, List, Result, subst}
use Rattle.std.specs.Global.{Vec}
use Rattle.cw_report.specs.declared.column.Column.{Column}
use Rattle.cw_report.specs.Layouts.{shown}
use Rattle.cw_report.specs.Texts.{Makes}

-- the columns may be named in two ways
pub in_columns : {E : Type 0} (csv : List ℕ) (table : Bool) (r : Result (Vec ℕ) E) {columns columns' : List Column}
    → columns ≡ columns' → Makes (shown columns csv table) r → Makes (shown columns' csv table) r
in_columns csv table r same makes = subst (λ c. Makes (shown c csv table) r) same makes
