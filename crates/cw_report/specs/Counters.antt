-- The contents of a counted reader or writer, and the changes of its count.
use Rattle.std.specs.Prelude.{◌≡◌, ◌≢◌, ℕ, ◌+◌, ◌-◌, ◌^◌, ◌<◌, ◌==◌, List, Option, Result, MatchResult, if◌then◌else◌}
use Rattle.std.specs.Io.KnownBytes.{ReadConsumes, WriteAppends}
use Rattle.std.specs.IoError.{error_kind}
use Rattle.std.specs.declared.io.Error.{Error}
use Rattle.std.specs.declared.io.ErrorKind.{ErrorKind}
use Rattle.std.specs.declared.io.ErrorKind.TheVariants as kind
use Rattle.cw_report.specs.declared.counted.Counted.{Counted}

-- the reader or writer whose calls are counted
abbrev pub inner_of : {T : Type 0} → Counted T → T
inner_of c = c.inner

-- the number of calls that failed so far
abbrev pub failures_of : {T : Type 0} → Counted T → ℕ
failures_of c = c.failures

-- a write that fails or takes no byte increases the count by one
abbrev pub CountsWrite : {E : Type 0} → ℕ → ℕ → Result ℕ E → Type 0
CountsWrite old new r = MatchResult r (λ n. new ≡ (if n == 0 then old + 1 else old)) (λ _. new ≡ old + 1)

-- a read that failed for this reason increases the count by one, unless the reason is that memory ran out
pub record CountsFailure (old new : ℕ) (reason : ErrorKind) : Type 0 where
  pub memory : reason ≡ kind.OutOfMemory → new ≡ old
  pub others : reason ≢ kind.OutOfMemory → new ≡ old + 1

-- a read changes the count in this way
abbrev pub CountsRead : ℕ → ℕ → Result ℕ Error → Type 0
CountsRead old new r = MatchResult r (λ _. new ≡ old) (λ e. CountsFailure old new (error_kind e))

-- a write changes the count in this way, if the count has room for one more
abbrev pub CountsWrites : {T E : Type 0} → (old new : Counted T) → Result ℕ E → Type 0
CountsWrites old new r = failures_of old < 2 ^ 64 - 1 → CountsWrite (failures_of old) (failures_of new) r

-- a read changes the count in this way, if the count has room for one more
abbrev pub CountsReads : {T : Type 0} → (old new : Counted T) → Result ℕ Error → Type 0
CountsReads old new r = failures_of old < 2 ^ 64 - 1 → CountsRead (failures_of old) (failures_of new) r

-- the counted writer appended the bytes that it reports to have taken
abbrev pub AppendsBehind : {T E : Type 0} → (contents : T → Option (List ℕ)) → (old new : Counted T) → Result ℕ E
    → List ℕ → Type 0
AppendsBehind contents old new r bytes = WriteAppends (contents (inner_of old)) (contents (inner_of new)) r bytes

-- the counted reader consumed the bytes that it returned
abbrev pub ConsumesBehind : {T E : Type 0} → (remaining : T → Option (List ℕ)) → (old new : Counted T) → Result ℕ E
    → List ℕ → Type 0
ConsumesBehind remaining old new r bytes = ReadConsumes (remaining (inner_of old)) (remaining (inner_of new)) r bytes
