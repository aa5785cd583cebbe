-- Faults and their counts.
use Rattle.std.specs.Prelude.{◌≡◌, ℕ, ◌+◌, ◌-◌, ◌^◌, ◌<◌, ◌≤◌, ◌⊎◌, min, Result, IsErrOf, OnOk, OnErr}

-- the count is greater than before, or stands at the end of its type
abbrev pub Rose : ℕ → ℕ → Type 0
Rose before now = (before < now) ⊎ (now ≡ 2 ^ 64 - 1)

-- the count is one greater than before, or stands still at the end of its type
abbrev pub RoseOnce : ℕ → ℕ → Type 0
RoseOnce before now = now ≡ min (before + 1) (2 ^ 64 - 1)

-- a count never falls; it has risen by one where a call failed, and is as it was where none did
pub record HasCause {T E : Type 0} (before now : ℕ) (result : Result T E) : Type 0 where
  pub never_falls : before ≤ now
  pub failed : OnErr result (RoseOnce before now)
  pub unfailed : OnOk result (now ≡ before)

-- the same for a call that has other errors beside this one
pub record HasCauseOf {T E : Type 0} (failed : E) (before now : ℕ) (result : Result T E) : Type 0 where
  pub never_falls : before ≤ now
  pub because : IsErrOf result failed → RoseOnce before now
  pub only : before < now → IsErrOf result failed
