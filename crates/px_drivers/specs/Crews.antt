-- The workers of rounds, as plain data, and how their links stand in the numbers of a spawner.
use Rattle.std.specs.Prelude.{◌≡◌, ◌⊎◌, ℕ, suc, ◌+◌, ◌-◌, ◌*◌, ◌^◌, ◌<◌, ◌≤◌, List, [], ◌∷◌, ◌++◌, length, Option, Some, None, ⊤}
use Rattle.std.specs.List.{AllByRecursion}
use Rattle.px_io.specs.Faults.{Rose}
use Rattle.px_pool.specs.Starts.{Numbers, TellsAlike}
use Rattle.px_drivers.specs.declared.ends.Leaving.{Leaving}
use Rattle.px_drivers.specs.declared.ends.Leaving.TheVariants.{Start, Losses, NoMemory}
use Rattle.px_drivers.specs.Drivers.{DriverParts, published, version_after}

-- the drivers that go on; of the other workers, the receipts, and those that were left; and how many workers there may be, and how
-- many of them may still join
pub record CrewParts : Type 0 where
  pub drivers : List DriverParts
  pub receipts : List ℕ
  pub left : List (ℕ × Leaving)
  pub workers : ℕ
  pub room : ℕ

-- the sum of a number of each
abbrev pub total : {X : Type 0} → (X → ℕ) → List X → ℕ
total f [] = 0
total f (x ∷ xs) = f x + total f xs

-- how many publications these receipts count
abbrev pub in_all : List ℕ → ℕ
in_all receipts = total (λ n. n) receipts

-- how many all receipts count: those of the drivers that go on, and the others
abbrev pub all_published : CrewParts → ℕ
all_published c = total published c.drivers + in_all c.receipts

-- how many the receipts of these drivers count that are of former links
abbrev pub of_former : DriverParts → ℕ
of_former d = d.earlier

-- no driver's worker lost four links
abbrev pub HaveLostFew : List DriverParts → Type 0
HaveLostFew drivers = AllByRecursion (λ d. d.losses < 4) drivers

-- how many links a driver's worker had
abbrev pub links_of : DriverParts → ℕ
links_of d = suc d.losses

-- 1 for a worker that was left for this cause, else 0
abbrev pub for_start : Leaving → ℕ
for_start Start = 1
for_start Losses = 0
for_start NoMemory = 0

abbrev pub for_losses : Leaving → ℕ
for_losses Start = 0
for_losses Losses = 1
for_losses NoMemory = 0

-- how many workers were left for a cause
abbrev pub left_so : (Leaving → ℕ) → List (ℕ × Leaving) → ℕ
left_so counts left = total (λ x. counts x.1) left

-- ---- versions

-- each is asked in version 2
abbrev pub AreShared : List DriverParts → Type 0
AreShared drivers = AllByRecursion (λ d. d.version ≡ 2) drivers

-- behind these drivers stands one more, of the worker with this number, which is asked in this version
abbrev pub Joins : ℕ → ℕ → List DriverParts → List DriverParts → Type 0
Joins number version before after = (d : DriverParts) × (after ≡ before ++ d ∷ []) × (d.number ≡ number) × (d.version ≡ version)

-- The worker of a driver goes on behind these, asked in the version that comes after this driver; or it doesn't go on.
abbrev pub MayGoOn : DriverParts → List DriverParts → List DriverParts → Type 0
MayGoOn d before after = (after ≡ before) ⊎ Joins d.number (version_after d.version d.state) before after

-- that of the first of these, if there is one
abbrev pub FirstMayGoOn : List DriverParts → List DriverParts → Type 0
FirstMayGoOn [] after = after ≡ []
FirstMayGoOn (d ∷ drivers) after = MayGoOn d drivers after

-- Of these drivers some workers go on, in their order, each asked in the version that comes after its driver.
abbrev pub GoOn : List DriverParts → List DriverParts → Type 0
GoOn [] after = after ≡ []
GoOn (d ∷ drivers) after =
    GoOn drivers after
    ⊎ ((e : DriverParts) × (rest : List DriverParts) × (after ≡ e ∷ rest) × (e.number ≡ d.number) × (e.version ≡ version_after d.version d.state) × GoOn drivers rest)

-- ---- the spawner

-- a spawner: what it tells, how many of its links run, and how often a start has failed
pub record Standing : Type 0 where
  pub told : Option Numbers
  pub links : ℕ
  pub count : ℕ

abbrev pub standing : Option Numbers → ℕ → ℕ → Standing
standing told links count = record { told = told; links = links; count = count }

-- so many calls have failed: the count is greater by that, or stands at the end of its type, where that is less
abbrev pub RoseBy : ℕ → ℕ → ℕ → Type 0
RoseBy n before now = (now ≡ before + n) ⊎ ((2 ^ 64 - 1 ≤ before + n) × (now ≡ 2 ^ 64 - 1))

-- From what was told to what is: so many whole frames or more were given, and so many links were started, at least and at most.
abbrev pub Rises : Option Numbers → Option Numbers → ℕ → ℕ → ℕ → Type 0
Rises None None frames least most = ⊤
Rises None (Some b) frames least most = ⊥
Rises (Some a) None frames least most = ⊥
Rises (Some a) (Some b) frames least most = (a.given + frames ≤ b.given) × (a.started + least ≤ b.started) × (b.started ≤ a.started + most)

-- Since a spawner stood so, it has started the links of these drivers, and those of the workers that were left; and so many of one
-- worker that has none now; and so many in all at most. It has ended links for whose publications there are so many receipts. For each
-- worker that was left at a start one start has failed, and for no other; and one that was left for its losses lost four links.
pub record IsAccountWith (a b : Standing) (drivers : List DriverParts) (receipts : ℕ) (left : List (ℕ × Leaving)) (lost most : ℕ) : Type 0 where
  pub links : b.links ≡ a.links + length drivers
  pub never_falls : a.count ≤ b.count
  pub start : 0 < left_so for_start left → Rose a.count b.count
  pub failed : RoseBy (left_so for_start left) a.count b.count
  pub alike : AllByRecursion (λ d. TellsAlike b.told d.told) drivers
  pub rises : Rises a.told b.told (total of_former drivers + receipts) (total links_of drivers + 4 * left_so for_losses left + lost) most

-- where no other links were started than these, and four at most of each worker that was left
abbrev pub IsAccountOf : Standing → Standing → List DriverParts → ℕ → List (ℕ × Leaving) → ℕ → Type 0
IsAccountOf a b drivers receipts left lost = IsAccountWith a b drivers receipts left lost (total links_of drivers + 4 * length left + lost)

-- of the workers of rounds
abbrev pub IsAccount : Standing → Standing → CrewParts → Type 0
IsAccount a b c = IsAccountOf a b c.drivers (in_all c.receipts) c.left 0
