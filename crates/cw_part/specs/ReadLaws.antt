-- The views and measures of parts form a monoid.
use Rattle.std.specs.Prelude.{◌≡◌}
use Rattle.cw_reduce.specs.PieceResults.{PieceResults}
use Rattle.cw_reduce.specs.ShownLaws.{shown-first, shown-last, shown-assoc}
use Rattle.cw_measure.specs.Measured.{Measured}
use Rattle.cw_measure.specs.JoinLaws.{joined-first, joined-last, joined-assoc}
use Rattle.cw_part.specs.declared.read.Read.{Read}
use Rattle.cw_part.specs.Read.{nothing_read, read_joined}

abbrev read_with : PieceResults → Measured → Read
read_with s m = record { views = s; measure = m }

same_read : {s s' : PieceResults} {m m' : Measured} → s ≡ s' → m ≡ m' → read_with s m ≡ read_with s' m'
same_read e f = cc

pub read-first : (a : Read) → read_joined nothing_read a ≡ a
read-first a = same_read (shown-first a.views) (joined-first a.measure)

pub read-last : (a : Read) → read_joined a nothing_read ≡ a
read-last a = same_read (shown-last a.views) (joined-last a.measure)

pub read-assoc : (a b c : Read) → read_joined (read_joined a b) c ≡ read_joined a (read_joined b c)
read-assoc a b c = same_read (shown-assoc a.views b.views c.views) (joined-assoc a.measure b.measure c.measure)
