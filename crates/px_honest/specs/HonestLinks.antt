-- A link to a worker in place.
use Rattle.std.specs.Prelude.{◌≡◌, ℕ, ◌≤◌, ◌-◌, min, List, [], ◌++◌, length, Bool, false, Option, Some, None, if◌then◌else◌}
use Rattle.px_worker.specs.declared.course.Course.{Course}
use Rattle.px_worker.specs.Served.{IsBegun}
use Rattle.px_worker.specs.Courses.{IsOpen, IsOn}
use Rattle.px_pool.specs.Talks.{Talk, nothing}

-- Up to which version its worker knows them, the numbers of its domains, what passed over it, what its worker wrote, how many
-- bytes it gives at most, and how often a call has failed. What was given is the first of what was written.
pub record HonestParts : Type 0 where
  pub known : ℕ
  pub kinds : List ℕ
  pub talk : Talk
  pub written : List ℕ
  pub dies_at : Option ℕ
  pub faults : ℕ

-- nothing passed over it yet
abbrev pub new_link : ℕ → List ℕ → Option ℕ → HonestParts
new_link known kinds dies_at = record { known = known; kinds = kinds; talk = nothing; written = []; dies_at = dies_at; faults = 0 }

-- a number, or the most where that is less
abbrev pub at_most : Option ℕ → ℕ → ℕ
at_most None n = n
at_most (Some most) n = min n most

-- how many bytes it can give now: none where it has ended, and else what was written and not given, as far as it lives
abbrev pub ready : HonestParts → ℕ
ready h = if h.talk.ended then 0 else at_most h.dies_at (length h.written) - length h.talk.given

-- What its fields keep: the worker, which knows the versions up to one, wrote a beginning of what it owes for what it was sent,
-- and while it hasn't stopped it stands after that; no more was given than it lives for.
pub record IsKept (known : ℕ) (kinds sent written : List ℕ) (course : Course) (stopped : Bool) (given : ℕ) (dies_at : Option ℕ) : Type 0 where
  pub begun : IsBegun known kinds sent written
  pub on : stopped ≡ false → IsOn known kinds sent written course × IsOpen course.feeder
  pub within : given ≤ at_most dies_at (length written)

-- By these bytes a worker comes on that was sent so much before: what was written grows, and it has stopped or stands there.
pub record GoesOn (known : ℕ) (kinds sent bytes old new : List ℕ) (course : Course) (stopped : Bool) : Type 0 where
  pub more : List ℕ
  pub grew : new ≡ old ++ more
  pub begun : IsBegun known kinds (sent ++ bytes) new
  pub on : stopped ≡ false → IsOn known kinds (sent ++ bytes) new course × IsOpen course.feeder
