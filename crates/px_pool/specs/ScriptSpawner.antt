-- A spawner in memory.
use Rattle.std.specs.Prelude.{◌≡◌, ℕ, ◌+◌, ◌-◌, ◌^◌, ◌≤◌, ◌⊎◌, ◌↔◌, min, List, [], ◌∷◌, ◌==◌, IsTrue, Result, IsErr, IfOk, OnErr}
use Rattle.std.specs.List.{list_any}
use Rattle.std.specs.Vec.Iter.{into_iter_items}
use Rattle.px_io.specs.declared.sink.Failed.{Failed}
use Rattle.px_pool.specs.declared.script.Script.{Script}
use Rattle.px_pool.specs.declared.script_link.ScriptLink.{ScriptLink}
use Rattle.px_pool.specs.declared.script_spawner.ScriptSpawner.{ScriptSpawner}
use Rattle.px_pool.specs.ScriptLink.{IsNew as IsNewLink}

-- the scripts of the links that are still to come, in order
abbrev pub left : ScriptSpawner → List Script
left s = into_iter_items s.scripts

-- it has started nothing and nothing has failed; these are the scripts of its links, in order, and the starts that fail
pub record IsNew (s : ScriptSpawner) (scripts : List Script) (failing : List ℕ) : Type 0 where
  pub scripts_are : left s ≡ scripts
  pub failing_is : s.failing.items ≡ failing
  pub first : s.calls ≡ 0
  pub uncounted : s.tally ≡ record { running = 0; started = 0; given = 0; faults = 0 }

-- a start fails now: no link more can be counted, or the call's number is listed, or no script is left
abbrev pub Fails : ScriptSpawner → Type 0
Fails s = (2 ^ 64 - 1 ≤ s.tally.started) ⊎ IsTrue (list_any (λ call. call == s.calls) s.failing.items) ⊎ (left s ≡ [])

-- A start answers this, and leaves that: the next call. The link that it starts follows the first script that is left, and a start
-- that fails spends none.
pub record Starts (s : ScriptSpawner) (answer : Result ScriptLink Failed) (t : ScriptSpawner) : Type 0 where
  pub failing_stays : t.failing ≡ s.failing
  pub counted : t.calls ≡ min (s.calls + 1) (2 ^ 64 - 1)
  pub failed : IsErr answer ↔ Fails s
  pub started : IfOk answer (λ l. (script : Script) × IsNewLink l script × (left s ≡ script ∷ left t))
  pub unspent : OnErr answer (left t ≡ left s)

-- the end of a link leaves the calls that fail, and the scripts
pub record Ends (s t : ScriptSpawner) : Type 0 where
  pub failing_stays : t.failing ≡ s.failing
  pub calls_stay : t.calls ≡ s.calls
  pub scripts_stay : left t ≡ left s
