-- A machine with fewer cells holds what it held, where those of the call that runs are there.
use Rattle.std.proofs.Common.{◌≡◌, ◌∙◌, ℕ, zero, suc, ◌+◌, ◌<◌, ◌≤◌, ℤ, pos, List, [], ◌∷◌, length, refl, sym, ap, subst, arith}
use Rattle.std.specs.Prelude.{reverse, take}
use Rattle.std.proofs.lemmas.List.{length-take}
use Rattle.cw_code.specs.Code.{code_view}
use Rattle.cw_code.specs.Run.{Waiting, Around, Caller, Block, State}
use Rattle.cw_jobs.specs.Totals.{HoldsTotals}
use Rattle.cw_runnable.specs.declared.verified.Verified.{Verified}
use Rattle.cw_runnable.specs.Resolved.{room_of}
use Rattle.cw_machine.specs.declared.machine.Frame.{Frame}
use Rattle.cw_machine.specs.declared.machine.Machine.{Machine}
use Rattle.cw_machine.specs.Arrays.{HoldsArrays, Ok}
use Rattle.cw_machine.specs.RepresentsState.{cell, cut_cells, Agrees, Holds, Round, RepresentsState, Stands, Stays}
use Rattle.cw_machine.specs.Trims.{KeepsFirst, Trims}
use Rattle.cw_machine.proofs.Cells.{comes_agree, keeps_agree, lies_agree}

cell_take : (cells : List ℤ) (top k : ℕ) → k < top → cell (take top cells) k ≡ cell cells k
cell_take [] zero k lt = refl
cell_take [] (suc top) k lt = refl
cell_take (x ∷ cells) zero k lt = absurd (omega (arith, lt))
cell_take (x ∷ cells) (suc top) zero lt = refl
cell_take (x ∷ cells) (suc top) (suc k) lt = cell_take cells top k (omega (arith, lt))

pub keeps_taken : (first many top : ℕ) (cells cells' : List ℤ) → top ≡ first + many → cells' ≡ take top cells → KeepsFirst first many cells cells'
keeps_taken first many top cells cells' e is = record {
  kept = λ k lt. ap (λ l. cell l k) is ∙ cell_take cells top k (omega (arith, lt, e));
  there = λ n le l. let m = ap length is in let t = length-take top cells in omega (arith, le, l, m, t, e);
}

pub keeps_all : (first many : ℕ) (cells : List ℤ) → KeepsFirst first many cells cells
keeps_all first many cells = record { kept = λ k lt. refl; there = λ n le l. l }

module _ (v : Verified) (ok : Ok v) (cells cells' : List ℤ) (bound : ℕ) (there : (n : ℕ) → n ≤ bound + v.most_room → n ≤ length cells → n ≤ length cells') where
  stands_trimmed : (top : ℕ) (f : Frame) (w : Waiting) (around : List Around) → top ≤ bound → Agrees cells cells' 0 top → Stands v ok cells top f w around → Stands v ok cells' top f w around
  stands_trimmed top f w around le g h = record {
    at = h.at;
    gives = h.gives;
    deep = h.deep;
    keeps = keeps_agree cells cells' f.first w.slots (λ k lo hi. g k (omega arith) (omega (arith, hi, h.below))) h.keeps;
    comes = comes_agree cells cells' f.first (length w.slots) w.results (λ k lo hi. g k (omega arith) (omega (arith, hi, h.below))) h.comes;
    lies = lies_agree cells cells' (f.first + length w.slots) w.operands (λ k lo hi. g k (omega arith) (omega (arith, hi, h.below))) h.lies;
    below = h.below;
    apart = h.apart;
    room = λ seat. there (f.first + room_of v.rooms.items seat.index) (let m = v.most seat.index in let b = h.below in omega (arith, m, b, le)) (h.room seat);
  }

  round_trimmed : (first n : ℕ) (frames : List Frame) (around : List Around) → first ≤ bound → Agrees cells cells' 0 (first + n) → Round v ok cells first n frames around
      → Round v ok cells' first n frames around
  round_trimmed first n frames [] le g h = h
  round_trimmed first n frames (Block o ∷ around) le g h =
      (comes_agree cells cells' first n o.results (λ k lo hi. g k (omega arith) hi) h.0, round_trimmed first n frames around le g h.1)
  round_trimmed first n frames (Caller w ∷ around) le g h =
      let st = h.3 in
      let b = st.below in (
        h.0,
        h.1,
        h.2,
        stands_trimmed first h.0 w around le (λ k lo hi. g k lo (omega (arith, hi))) st,
        round_trimmed h.0.first (length w.slots) h.1 around (omega (arith, b, le)) (λ k lo hi. g k lo (omega (arith, hi, b))) h.4,
      )

module _ (v : Verified) (ok : Ok v) (m m' : Machine) (s : State) (keeps : KeepsFirst m.first v.most_room m.cells.items m'.cells.items) (h : RepresentsState v ok m s) where
  -- the call that runs uses no more cells than any call has
  few : length s.slots + length s.operands ≤ v.most_room
  few =
      let seat = h.good.seat in
      let en = ok.verified.enough s.place seat in
      let wide = h.good.call.ints.as_wide in
      let ops = h.good.call.as_many in
      let most = v.most seat.index in
      omega (arith, en, wide, ops, most)

  agree : (n : ℕ) → n ≤ length s.slots + length s.operands → Agrees m.cells.items m'.cells.items 0 (m.first + n)
  agree n le k lo hi = keeps.kept k (omega (arith, hi, le, few))

  holds_trimmed : Holds v ok m.place m.first m'.cells.items m.frames.items m.lines.items s
  holds_trimmed = record {
    at = h.holds.at;
    keeps = keeps_agree m.cells.items m'.cells.items m.first s.slots (λ k lo hi. agree (length s.slots) (omega arith) k (omega arith) hi) h.holds.keeps;
    comes = comes_agree m.cells.items m'.cells.items m.first (length s.slots) s.results (λ k lo hi. agree (length s.slots) (omega arith) k (omega arith) hi) h.holds.comes;
    lies = lies_agree m.cells.items m'.cells.items (m.first + length s.slots) s.operands
        (λ k lo hi. agree (length s.slots + length s.operands) (omega arith) k (omega arith) (omega (arith, hi))) h.holds.lies;
    room = λ seat. keeps.there (m.first + room_of v.rooms.items seat.index) (let most = v.most seat.index in omega (arith, most)) (h.holds.room seat);
    round = round_trimmed v ok m.cells.items m'.cells.items m.first keeps.there m.first (length s.slots) (reverse m.frames.items) s.around (omega arith)
        (agree (length s.slots) (omega arith)) h.holds.round;
    shown = h.holds.shown;
  }

  module _ (stays : Stays m m') (place : m'.place ≡ m.place) where
    pub shows_trimmed : RepresentsState v ok m' s
    shows_trimmed = record {
      good = h.good;
      holds = subst (λ p. Holds v ok p m'.first m'.cells.items m'.frames.items m'.lines.items s) (sym place)
          (subst (λ p. Holds v ok m.place p m'.cells.items m'.frames.items m'.lines.items s) (sym stays.first)
          (subst (λ p. Holds v ok m.place m.first m'.cells.items p m'.lines.items s) (sym stays.frames)
          (subst (λ p. Holds v ok m.place m.first m'.cells.items m.frames.items p s) (sym stays.lines) holds_trimmed)));
      deep = stays.depth ∙ h.deep;
      arrays = subst (λ p. HoldsArrays v ok p m'.blocks.items m'.place m'.first_array (reverse m'.frames.items) s.arrays s.arrived s.readers s.around) (sym stays.views)
          (subst (λ p. HoldsArrays v ok m.views.items p m'.place m'.first_array (reverse m'.frames.items) s.arrays s.arrived s.readers s.around) (sym stays.blocks)
          (subst (λ p. HoldsArrays v ok m.views.items m.blocks.items p m'.first_array (reverse m'.frames.items) s.arrays s.arrived s.readers s.around) (sym place)
          (subst (λ p. HoldsArrays v ok m.views.items m.blocks.items m.place p (reverse m'.frames.items) s.arrays s.arrived s.readers s.around) (sym stays.first_array)
          (subst (λ p. HoldsArrays v ok m.views.items m.blocks.items m.place m.first_array (reverse p) s.arrays s.arrived s.readers s.around) (sym stays.frames) h.arrays))));
      totals = subst (λ p. HoldsTotals (code_view v.code) p s.trace.updates) (sym stays.totals) h.totals;
      cuts = stays.cuts ∙ h.cuts
          ∙ ap (λ p. reverse (cut_cells ok.outer p (reverse m.frames.items) s.around)) (sym stays.first_array)
          ∙ ap (λ p. reverse (cut_cells ok.outer m'.first_array (reverse p) s.around)) (sym stays.frames);
    }

pub trims : (v : Verified) (m m' : Machine) → KeepsFirst m.first v.most_room m.cells.items m'.cells.items → Stays m m' → m'.place ≡ m.place → Trims v m m'
trims v m m' keeps stays place = λ ok s h. shows_trimmed v ok m m' s keeps h stays place
