-- The effect of each kind of instruction.
use Rattle.std.proofs.Common.{◌≡◌, ℕ, ◌+◌, ℤ, Bool, true, false, Option, Some, None, List, [], ◌∷◌}
use Rattle.std.specs.Prelude.{slice_set}
use Rattle.cw_model.specs.declared.trap.Trap.{Trap}
use Rattle.cw_model.specs.Syntax.{Name}
use Rattle.cw_model.specs.Trees.{works}
use Rattle.cw_model.specs.Outcome.{joined}
use Rattle.cw_code.specs.declared.code.Halves.{Halves}
use Rattle.cw_code.specs.declared.code.Instr.{Instr}
use Rattle.cw_code.specs.declared.code.Instr.TheVariants as instr
use Rattle.cw_code.specs.Code.{Code}
use Rattle.cw_code.specs.Run.{Slots, State, Transition, On, Stops, Stuck, synced, settled, put_in, Entering, begun, call_of}
use Rattle.cw_code.specs.Run.{back, Opened, Around, Block, opened, cut_arrays, resumes, uncut_arrays, passed_by, act}
use Rattle.cw_code.specs.lemmas.Acts.{IsLocal, recur_of, start_of, acts_both, closing, uncutting}
use Rattle.cw_code.specs.Jobs.{joins}
use Rattle.cw_code.specs.Strands.{Turn, Goes, turn_call, turn_in, turn_of}

module _ (code : Code) (s : State) (P : (joins : Bool) → Turn → Transition → Type 0) where
  -- a property of each kind of step, with its effect on a strand: in the same call and block, into a call, into a
  -- block, at a join, out of a block, and out of a call
  pub record Moves : Type 0 where
    pub stuck : (j : Bool) (turn : Turn) → P j turn Stuck
    pub stops : (j : Bool) (turn : Turn) (trap : Trap) (line : ℕ) (lines : List ℤ) → P j turn (Stops trap line lines)
    pub local : (place : ℕ) (operands : List ℤ) (slots : Slots ℤ) (arrays : Slots (List ℤ)) (lines : List ℤ)
        (updates : List (Name × ℤ))
        → P false Goes (On (record s {
          place = place;
          operands = operands;
          slots = slots;
          arrays = arrays;
          trace = joined s.trace (record { lines = lines; updates = updates; events = works 1 });
        }))
    pub enters : (e : Entering) → P false (turn_call e.kind e.target e.taken) (On (begun s e))
    pub opens : (operands : List ℤ) (arrays : Slots (List ℤ)) (tag : Option Name) (cut : Option Halves) →
        P false Goes (opened (record s { operands = operands; arrays = arrays }) tag cut)
    pub syncs : P true Goes (On (record (put_in s) { place = s.place + 1; trace = synced s.trace }))
    pub leaves : (arrays : Slots (List ℤ)) (o : Opened) (around : List Around) → s.around ≡ Block o ∷ around →
        P true Goes (resumes (record (put_in s) { arrays = arrays }) o around)
    pub returns : (v : Option ℤ) →
        P true (turn_in s.around) (back s.around v (settled s.arrived s.arrays) (synced s.trace))

  -- an instruction that continues in its block is no join, and has no effect on a strand
  locally : (i : Instr) (w : Transition) → IsLocal i → P false Goes w → P (joins (Some i)) (turn_of code (Some i) s.around) w
  locally (instr.Call kind c) w here h = absurd here
  locally (instr.Recur kind c) w here h = absurd here
  locally (instr.Start c line) w here h = absurd here
  locally (instr.NewArray a line) w here h = absurd here
  locally (instr.SetElement a line) w here h = absurd here
  locally (instr.Cut c line) w here h = absurd here
  locally instr.EndCut w here h = absurd here
  locally instr.Sync w here h = absurd here
  locally (instr.Open kind) w here h = absurd here
  locally instr.Close w here h = absurd here
  locally instr.ReturnValue w here h = absurd here
  locally instr.Return w here h = absurd here
  locally _ w here h = h

  -- each instruction is of one of these kinds
  pub acts_by : Moves → (o : Option Instr) → P (joins o) (turn_of code o s.around) (act code s o)
  acts_by moves o = acts_both code s s.results s.arrived s.around s.trace
      (λ o w w'. P (joins o) (turn_of code o s.around) w) (record {
        stuck = λ o. moves.stuck (joins o) (turn_of code o s.around);
        stops = λ o trap line. moves.stops (joins o) (turn_of code o s.around) trap line s.trace.lines;
        local = λ i place operands slots lines updates here next few.
            locally i _ here (moves.local place operands slots s.arrays lines updates);
        makes = λ a line rest xs.
            moves.local (s.place + 1) rest s.slots (slice_set s.arrays a (Some xs)) [] [];
        sets = λ a line rest xs.
            moves.local (s.place + 1) rest s.slots (slice_set s.arrays a (Some xs)) [] [];
        calls = λ kind c f given lent. moves.enters (call_of s kind c (passed_by code c.passed) f given lent);
        recurs = λ kind c f given. moves.enters (recur_of s kind (passed_by code c.passed) f given);
        starts = λ c line f given low captured turns.
            moves.enters (start_of s (passed_by code c.passed) f given low captured turns);
        scopes = moves.opens s.operands s.arrays None None;
        regions = λ k tag e. moves.opens s.operands s.arrays (Some tag) None;
        cuts = λ h line xs rest at. moves.opens rest (cut_arrays h xs at s.arrays) None (Some h);
        uncuts = uncutting (P true Goes) (moves.stuck true Goes) s (λ b around h left right e q.
            moves.leaves (uncut_arrays h left right (settled s.arrived s.arrays)) b around e);
        syncs = moves.syncs;
        closes = closing (P true Goes) (moves.stuck true Goes) s
            (λ b around e. moves.leaves (settled s.arrived s.arrays) b around e);
        gives = λ v. moves.returns (Some v);
        returns = moves.returns None;
      }) o
