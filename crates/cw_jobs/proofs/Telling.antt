-- A meter after an instruction.
use Rattle.std.proofs.Common.{◌≡◌, ℕ, ◌+◌, ◌<◌, Option, Some, None, List, [], ◌∷◌, false, sym, subst, arith}
use Rattle.std.proofs.lemmas.Option.{slice_get_within}
use Rattle.cw_model.specs.declared.limits.TheConstants.{MOST_LIMIT}
use Rattle.cw_model.specs.Trees.{Event, Execution}
use Rattle.cw_code.specs.declared.code.BlockKind.{BlockKind}
use Rattle.cw_code.specs.declared.code.BlockKind.TheVariants.{Scope, Region}
use Rattle.cw_code.specs.declared.code.Instr.{Instr}
use Rattle.cw_code.specs.declared.code.Instr.TheVariants as instr
use Rattle.cw_code.specs.Code.{Code}
use Rattle.cw_code.specs.Run.{Around, Caller, Block, State, act}
use Rattle.cw_measure.specs.OpenParts.{Open}
use Rattle.cw_meter.specs.declared.meter.Meter.{Meter}
use Rattle.cw_meter.specs.Origins.{Origin, Main, Rest}
use Rattle.cw_greedy.specs.Recording.{IsOpen}
use Rattle.cw_meter.specs.Meters.{Meters, Ends, Returns, InstructionsNeedNoCall, begun, ticked}
use Rattle.cw_jobs.specs.Opens.{opens_round, Gauge, BeginsBlock, IsNotified, IsNotifiedOf}
use Rattle.cw_jobs.specs.lemmas.StepEvents.{After, BlockEnds, CallEnds, BlockBegins, Tracks, told}

-- a state of a run is before the end of the run
pub round_open : (from : Origin) (around : List Around) → IsOpen from (opens_round from around)
round_open Main [] = tt
round_open Main (Caller w ∷ around) = tt
round_open Main (Block o ∷ around) = tt
round_open (Rest site) around = tt

module _ (quiet : InstructionsNeedNoCall) (code : Code) (g : Gauge code) (from : Origin) (count : ℕ) (small : count < MOST_LIMIT) (m m' : Meter) where
  abbrev pub Telling : List Open → List Event → Type 0
  Telling os es = Meters g.detail g.tags from (count + 1) os es m'

  module _ (os : List Open) (es : List Event) (open_ : IsOpen from os) (h : Meters g.detail g.tags from count os es m) where
    ticks : m' ≡ m → Telling os (ticked es)
    ticks e = let P : Meter → Type 0 = λ x. Meters g.detail g.tags from (count + 1) os (ticked es) x in subst P (sym e) (quiet m count g.detail g.tags from os es small g.light open_ h)

    block_ends : Ends m m' count → BlockEnds Telling from os es
    block_ends ends = λ o outer e series. ends g.detail g.tags from o outer es series small g.light (subst (IsOpen from) e open_) (subst (λ x. Meters g.detail g.tags from count x es m) e h)

    call_ends : Returns m m' count → CallEnds Telling from os es
    call_ends ends = λ o outer e. ends g.detail g.tags from o outer es small g.light (subst (IsOpen from) e open_) (subst (λ x. Meters g.detail g.tags from count x es m) e h)

    block_begins : (kind : BlockKind) → BeginsBlock m m' count kind → BlockBegins Telling from code kind os es
    block_begins Scope begins = begins g.detail g.tags from os es small g.light open_ h
    block_begins (Region k) begins = λ tag e.
        let lt = slice_get_within code.tags k tag e in
        let all = g.named.count in
        subst (λ n. Telling (begun false (Some (Execution n)) es os) []) (g.named.are k tag e) (begins g.detail g.tags from os es (omega (arith, lt, all)) small g.light open_ h)

    tells : (i : Instr) → IsNotified m m' count i → Tracks Telling from code i os es
    tells (instr.Call kind c) e = e g.detail g.tags from os es small g.light open_ h
    tells (instr.Recur kind c) e = e g.detail g.tags from os es small g.light open_ h
    tells (instr.Start c line) e = e g.detail g.tags from os es small g.light open_ h
    tells (instr.Cut c line) e = e g.detail g.tags from os es small g.light open_ h
    tells instr.EndCut e = block_ends e
    tells instr.Sync e = e g.detail g.tags from os es small g.light open_ h
    tells (instr.Open kind) e = block_begins kind e
    tells instr.Close e = block_ends e
    tells instr.ReturnValue e = call_ends e
    tells instr.Return e = call_ends e
    tells _ e = ticks e

  pub acts_told : (s : State) (o : Option Instr) → IsNotifiedOf m m' count o → Meters g.detail g.tags from count (opens_round from s.around) s.trace.events m → After Telling from (act code s o)
  acts_told s None e h = absurd e
  acts_told s (Some i) e h = told Telling from code s i (tells (opens_round from s.around) s.trace.events (round_open from s.around) h i e)
