-- A spawner of links of two kinds.
use Rattle.std.specs.Prelude.{◌≡◌, ℕ, ◌+◌, ◌-◌, ◌^◌, ◌<◌, ◌≤◌, ◌⊎◌, ⊤, min, List, [], ◌∷◌, Bool, ◌==◌, IsTrue, IsFalse, Option, Some, None, Result, Ok, Err, IsErr, IsNone}
use Rattle.std.specs.List.{list_any}
use Rattle.std.specs.Vec.Iter.{into_iter_items}
use Rattle.px_io.specs.declared.sink.Failed.{Failed}
use Rattle.px_pool.specs.Talks.{nothing}
use Rattle.px_pool.specs.ScriptLink.{IsNew as IsNewLink}
use Rattle.px_test_links.specs.declared.mixed_link.MixedLink.{MixedLink}
use Rattle.px_test_links.specs.declared.mixed_link.MixedLink.TheVariants as M
use Rattle.px_test_links.specs.declared.mixed_spawner.MixedPlan.{MixedPlan}
use Rattle.px_test_links.specs.declared.mixed_spawner.MixedPlan.TheVariants as P
use Rattle.px_test_links.specs.declared.mixed_spawner.MixedSpawner.{MixedSpawner}

-- a link for this plan, or none: one that follows the script; or one to a worker in place, over which nothing passed, and which gives
-- as much at most, where there was memory for it
abbrev pub IsOf : {X : Type 0} {Y : X → Type 0} → MixedPlan X Y → Option (MixedLink X Y) → Type 0
IsOf (P.Script script) None = ⊥
IsOf (P.Script script) (Some (M.Script l)) = IsNewLink l script
IsOf (P.Script script) (Some (M.InPlace l)) = ⊥
IsOf (P.InPlace plan) None = ⊤
IsOf (P.InPlace plan) (Some (M.Script l)) = ⊥
IsOf (P.InPlace plan) (Some (M.InPlace l)) = (l.talk ≡ nothing) × (l.dies_at ≡ plan.dies_at)

-- the first of these plans is spent, for this link or none, and those are left; where there is no plan, there is no link
abbrev pub Follows : {X : Type 0} {Y : X → Type 0} → List (MixedPlan X Y) → Option (MixedLink X Y) → List (MixedPlan X Y) → Type 0
Follows [] link after = IsNone link × (after ≡ [])
Follows (plan ∷ plans) link after = IsOf plan link × (after ≡ plans)

-- the link that a start gives, if it gives one
abbrev pub link_of : {L : Type 0} → Result L Failed → Option L
link_of (Ok l) = Some l
link_of (Err fault) = None

-- the plans that are left, in order
abbrev pub left : {X : Type 0} {Y : X → Type 0} → MixedSpawner X Y → List (MixedPlan X Y)
left s = into_iter_items s.plans

-- no link was started and nothing has failed; these are the plans of its links, in order, and the starts that fail
pub record IsNew {X : Type 0} {Y : X → Type 0} (s : MixedSpawner X Y) (plans : List (MixedPlan X Y)) (failing : List ℕ) : Type 0 where
  pub plans_are : left s ≡ plans
  pub failing_is : s.failing.items ≡ failing
  pub first : s.calls ≡ 0
  pub uncounted : s.tally ≡ record { running = 0; started = 0; given = 0; faults = 0 }

-- a start fails now, whatever is planned: its number is listed
abbrev pub fails : {X : Type 0} {Y : X → Type 0} → MixedSpawner X Y → Bool
fails s = list_any (λ call. call == s.calls) s.failing.items

-- A start answers this, and leaves that: the next call. It spends no plan where its number is listed, or where no link more can be
-- counted.
pub record Starts {X : Type 0} {Y : X → Type 0} (s : MixedSpawner X Y) (answer : Result (MixedLink X Y) Failed) (t : MixedSpawner X Y) : Type 0 where
  pub failing_stays : t.failing ≡ s.failing
  pub counted : t.calls ≡ min (s.calls + 1) (2 ^ 64 - 1)
  pub refused : IsTrue (fails s) ⊎ (2 ^ 64 - 1 ≤ s.tally.started) → IsErr answer × (left t ≡ left s)
  pub followed : IsFalse (fails s) → s.tally.started < 2 ^ 64 - 1 → Follows (left s) (link_of answer) (left t)

-- the end of a link leaves the calls that fail, and the plans
pub record Ends {X : Type 0} {Y : X → Type 0} (s t : MixedSpawner X Y) : Type 0 where
  pub failing_stays : t.failing ≡ s.failing
  pub calls_stay : t.calls ≡ s.calls
  pub plans_stay : left t ≡ left s
