-- How the enclosing blocks of two states at one pc meet.
use Rattle.std.specs.Prelude.{Bool, true, false, if◌then◌else◌, List}
use Rattle.cw_code.specs.Fits.{Outer}
use Rattle.cw_verify.specs.declared.meeting.Meeting.{Meeting}
use Rattle.cw_verify.specs.declared.meeting.Meeting.TheVariants.{Apart, Stays, Comes, Both}
use Rattle.cw_verify.specs.Table.{are_alike, each_brings}

-- how blocks meet: whether they are alike, whether the new ones mark more, and whether they mark everything that the
-- old ones mark
abbrev pub meeting_of : (there found : List Outer) → Meeting
meeting_of there found =
    if are_alike there found then
    (if each_brings there found then (if each_brings found there then Both else Comes) else Stays)
    else Apart

-- the blocks can be merged
abbrev pub meets : Meeting → Bool
meets Apart = false
meets Stays = true
meets Comes = true
meets Both = true
