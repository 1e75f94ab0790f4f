-- The budget that a call spends.
use Rattle.std.specs.Prelude.{◌≡◌, ℕ, ◌+◌, List}
use Rattle.cw_model.specs.Syntax.{Function}
use Rattle.cw_model.specs.Frames.{Frame}
use Rattle.cw_model.specs.Trees.{work, tree_of}
use Rattle.cw_model.specs.Outcome.{Trace, Done}
use Rattle.cw_model.specs.Meaning.{Entry, Returned, call}

-- a call that is done spends exactly the work of its tree
abbrev pub CallsTakeTheirWork : Type 0
CallsTakeTheirWork =
    (bound depth : ℕ) (fs : List Function) (entry : Entry) (f : Function) (given : Frame) (line left : ℕ)
    (returned : Returned) (left' : ℕ) (t : Trace) →
    call bound depth fs entry f given line left ≡ Done returned left' t → left ≡ left' + work (tree_of t.events)
