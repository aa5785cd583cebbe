-- A driver of a worker, as plain data, what its type keeps, and what a round may make of it.
use Rattle.std.specs.Prelude.{◌≡◌, ◌⊎◌, ℕ, zero, suc, ◌+◌, ◌<◌, ◌≤◌, List, length, Option, Some, None, Err, slice_index_or}
use Rattle.px_callgraph.specs.declared.jobs.Job.{Job}
use Rattle.px_callgraph.specs.JobTree.{JobTree, job_tree}
use Rattle.px_pieces.specs.declared.desk.Lost.{Lost as ALost}
use Rattle.px_pieces.specs.declared.desk.Lost.TheVariants as L
use Rattle.px_pool.specs.Talks.{Talk, Passes}
use Rattle.px_pool.specs.Words.{IsInStep}
use Rattle.px_pool.specs.Starts.{GaveFrames}
use Rattle.px_pool.specs.Outcomes.{IsCauseOf, CountsFaults}
use Rattle.px_drivers.specs.declared.driver.DriverState.{DriverState}
use Rattle.px_drivers.specs.declared.driver.DriverState.TheVariants.{Ready, Lost, NoMemory}

-- the worker's number, and the version in which it is asked; what passed over the link, where it tells that, how often a call of it
-- has failed, and how often one had when the driver was made; where the driver stands, and the job of the exchange that was refused;
-- how many publications the receipts over this link count; and how many links the worker lost before, and what their receipts count
pub record DriverParts : Type 0 where
  pub number : ℕ
  pub version : ℕ
  pub told : Option Talk
  pub faults : ℕ
  pub first : ℕ
  pub state : DriverState
  pub kept : Option Job
  pub receipts : ℕ
  pub losses : ℕ
  pub earlier : ℕ

-- what receipts count, if there are some
abbrev pub counted : Option ℕ → ℕ
counted None = 0
counted (Some n) = n

-- all publications that its receipts count
abbrev pub published : DriverParts → ℕ
published d = d.earlier + d.receipts

-- it has done nothing yet
abbrev pub new_driver : ℕ → ℕ → Option Talk → ℕ → ℕ → ℕ → DriverParts
new_driver number version told faults losses earlier = record {
  number = number;
  version = version;
  told = told;
  faults = faults;
  first = faults;
  state = Ready;
  kept = None;
  receipts = 0;
  losses = losses;
  earlier = earlier;
}

-- ---- what a driver's type keeps

-- The exchange for this job was refused for this cause: the link was in step before, and what passed since shows the cause, in the
-- version in which the worker is asked. The
-- count of the link's faults has risen since the driver was made where a call of the link failed, and is else as it was.
pub record IsRefused (d : DriverParts) (j : JobTree) (why : ALost) : Type 0 where
  pub before : Option Talk
  pub step : IsInStep before
  pub passed : Talk
  pub passes : Passes before d.told passed
  pub cause : IsCauseOf d.version j passed why
  pub faults : CountsFaults {T = Unit {0}} d.first d.faults (Err why)

-- It may claim only while its link is in step and no call of the link has failed. Where it is lost, the exchange for the kept job was
-- refused for that cause.
abbrev pub StandsAt : DriverParts → DriverState → Type 0
StandsAt d Ready = IsInStep d.told × (d.faults ≡ d.first)
StandsAt d NoMemory = IsInStep d.told × (d.faults ≡ d.first)
StandsAt d (Lost why) = (job : Job) × (d.kept ≡ Some job) × IsRefused d (job_tree job) why

pub record IsKept (d : DriverParts) : Type 0 where
  pub version : (d.version ≡ 1) ⊎ (d.version ≡ 2)
  pub stands : StandsAt d d.state
  pub backed : GaveFrames d.told d.receipts

-- ---- what a round makes of a driver

-- The same driver later: something passed over its link, and there may be more receipts. It asks in the same version.
pub record GoesOn (a b : DriverParts) : Type 0 where
  pub number : b.number ≡ a.number
  pub version : b.version ≡ a.version
  pub first : b.first ≡ a.first
  pub passed : Talk
  pub passes : Passes a.told b.told passed
  pub receipts : a.receipts ≤ b.receipts
  pub losses : b.losses ≡ a.losses
  pub earlier : b.earlier ≡ a.earlier

-- After a round it is later, and one that was lost is as it was.
pub record IsDriven (a b : DriverParts) : Type 0 where
  pub later : GoesOn a b
  pub lost : (why : ALost) → a.state ≡ Lost why → b ≡ a

-- each of them, in their order
pub record AreDriven (olds news : List DriverParts) : Type 0 where
  pub many : length news ≡ length olds
  pub each : (n : ℕ) (d : DriverParts) → n < length olds → IsDriven (slice_index_or olds n d) (slice_index_or news n d)

-- ---- the version of the next link

-- In which version a worker is asked over its next link, where it was asked in this one over a link that was lost for this cause. A
-- worker that doesn't know the version ends before the first byte of a reply: then it is version 1. No other loss changes it.
abbrev pub version_past : ℕ → ALost → ℕ
version_past v (L.Closed zero) = 1
version_past v (L.Closed (suc n)) = v
version_past v L.Send = v
version_past v L.Read = v
version_past v L.Frame = v
version_past v (L.Ticket asked given) = v
version_past v L.Kinds = v
version_past v (L.Refused entry step) = v
version_past v L.Large = v
version_past v L.NoMemory = v

-- the same, where the driver stands so
abbrev pub version_after : ℕ → DriverState → ℕ
version_after v Ready = v
version_after v NoMemory = v
version_after v (Lost why) = version_past v why
