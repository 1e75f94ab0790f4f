-- The shares that a run was given remain when other things change.
use Rattle.std.proofs.Common.{◌≡◌, ◌≢◌, ℕ, ◌+◌, ◌<◌, ℤ, true, Some, None, List, [], ◌∷◌, length, refl, ap, ◌∙◌, arith}
use Rattle.std.specs.Prelude.{slice_get, slice_set}
use Rattle.cw_facts.specs.Lists.{set_other}
use Rattle.cw_slices.specs.Placed.{Placed}
use Rattle.cw_code.specs.Run.{Slots, Results, Readers, Around, Caller, Block, is_full, moved_out, settled}
use Rattle.cw_code.specs.Frozen.{AreBlocks, outermost_arrays}
use Rattle.cw_code.specs.Good.{IsNotAmong, slots_in}
use Rattle.cw_code.specs.lemmas.Slots.{settled_beside}
use Rattle.cw_jobs.specs.Calls.{placed}
use Rattle.cw_machine.specs.declared.machine.View.{View}
use Rattle.cw_machine.specs.Arrays.{view, outermost_readers, SharesStay}

-- the slots of the first call that have shares keep their arrays
abbrev pub KeepsShared : (given : List Placed) → (slots : ℕ) → (arrays arrays' : Slots (List ℤ)) → Type 0
KeepsShared given slots arrays arrays' =
    (a : ℕ) → a < slots → 0 < (placed given a).spot.halved → slice_get arrays a ≡ Some (Some (placed given a).items) → slice_get arrays' a ≡ Some (Some (placed given a).items)

-- other views that agree where shares are
abbrev pub SeesShared : (given : List Placed) → (slots : ℕ) → (views views' : List View) → Type 0
SeesShared given slots views views' =
    (a : ℕ) → a < length given → (a < slots → 0 < (placed given a).spot.halved) → view views' (length given + a) ≡ view views (length given + a)

module _ (given : List Placed) (slots : ℕ) (views : List View) where
  pub stay_as : (arrays arrays' : Slots (List ℤ)) (readers : Readers) → KeepsShared given slots arrays arrays'
      → SharesStay given slots views arrays readers → SharesStay given slots views arrays' readers
  stay_as arrays arrays' readers keeps h = record {
    as_many = h.as_many;
    some = h.some;
    has = λ a lt some. (keeps a lt some (h.has a lt some).0, (h.has a lt some).1);
    reads = h.reads;
    readers_lie = h.readers_lie;
  }

  -- other arrays in the running call: arrays of the first call, if no call waits
  pub stay_round : (arrays arrays' : Slots (List ℤ)) (readers : Readers) (around : List Around) → (AreBlocks around → KeepsShared given slots arrays arrays')
      → SharesStay given slots views (outermost_arrays arrays around) (outermost_readers readers around)
      → SharesStay given slots views (outermost_arrays arrays' around) (outermost_readers readers around)
  stay_round arrays arrays' readers [] keeps h = stay_as arrays arrays' readers (keeps tt) h
  stay_round arrays arrays' readers (Caller w ∷ around) keeps h = h
  stay_round arrays arrays' readers (Block o ∷ around) keeps h = stay_round arrays arrays' readers around keeps h

  -- the given shares stay in their slots if the views change, but not the views of these shares
  pub stay_seen : (views' : List View) (arrays : Slots (List ℤ)) (readers : Readers) → SeesShared given slots views views'
      → SharesStay given slots views arrays readers → SharesStay given slots views' arrays readers
  stay_seen views' arrays readers seen h = record {
    as_many = h.as_many;
    some = h.some;
    has = λ a lt some. ((h.has a lt some).0, seen a (let many = h.as_many in omega (arith, lt, many)) (λ _. some) ∙ (h.has a lt some).1);
    reads = h.reads;
    readers_lie = λ a le lt. seen a lt (λ l. absurd (omega (arith, l, le))) ∙ h.readers_lie a le lt;
  }

-- the shares that were given stay in their slots at a join, because no array waits for a full slot
pub keeps_settled : (given : List Placed) (slots : ℕ) (arrived : Results (List ℤ)) (arrays : Slots (List ℤ))
    → ((a : ℕ) → is_full (slice_get arrays a) ≡ true → IsNotAmong a (slots_in arrived)) → KeepsShared given slots arrays (settled arrived arrays)
keeps_settled given slots arrived arrays apart a lt some e = settled_beside arrived arrays a (apart a (ap is_full e)) ∙ e

-- the shares that were given stay in their slots if another slot is written
pub keeps_set : (given : List Placed) (slots : ℕ) (arrays : Slots (List ℤ)) (b : ℕ) (xs : List ℤ)
    → ((a : ℕ) → a < slots → 0 < (placed given a).spot.halved → a ≢ b) → KeepsShared given slots arrays (slice_set arrays b (Some xs))
keeps_set given slots arrays b xs apart a lt some e = set_other arrays b a (Some xs) (apart a lt some) ∙ e

-- other slots were moved out
pub moved_beside : (passed : List ℕ) (arrays : Slots (List ℤ)) (a : ℕ) → IsNotAmong a passed → slice_get (moved_out passed arrays) a ≡ slice_get arrays a
moved_beside [] arrays a none = refl
moved_beside (b ∷ passed) arrays a none = set_other (moved_out passed arrays) b a None none.0 ∙ moved_beside passed arrays a none.1

pub keeps_moved : (given : List Placed) (slots : ℕ) (arrays : Slots (List ℤ)) (passed : List ℕ)
    → ((a : ℕ) → a < slots → 0 < (placed given a).spot.halved → IsNotAmong a passed) → KeepsShared given slots arrays (moved_out passed arrays)
keeps_moved given slots arrays passed apart a lt some e = moved_beside passed arrays a (apart a lt some) ∙ e
