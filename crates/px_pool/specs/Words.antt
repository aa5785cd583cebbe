-- Whose word the replies of a link are.
use Rattle.std.specs.Prelude.{◌≡◌, ℕ, List, length, [], false, Option, Some, None, slice_get, ⊤}
use Rattle.px_entry.specs.declared.tables.Table.{Table}
use Rattle.px_entry.specs.declared.derivations.Derivation.{Derivation}
use Rattle.px_callgraph.specs.JobTree.{JobTree}
use Rattle.px_frames.specs.Feeding.{Feeding, holds}
use Rattle.px_frames.specs.Cutting.{AreFrames}
use Rattle.px_wire.specs.Messages.{request, reply}
use Rattle.px_wire.specs.Versions.{SpellsIn}
use Rattle.px_pool.specs.Talks.{Talk}

-- the message of the whole frame with this place, from 0, of those that bytes begin with
abbrev pub IsFrameAt : List ℕ → ℕ → List ℕ → Type 0
IsFrameAt bytes n message = (messages : List (List ℕ)) × (left : Feeding) × AreFrames bytes messages left × (slice_get messages n ≡ Some message)

-- The n-th frame sent asks for a job, and the n-th frame given replies to it in the same version: so the word says the table of that
-- job. Of a link that doesn't tell its bytes the word says every table of every job.
abbrev pub IsWordKept : (JobTree → Table → Type 0) → Option Talk → Type 0
IsWordKept says None = (j : JobTree) (t : Table) → says j t
IsWordKept says (Some talk) = (n : ℕ) (asked given : List ℕ) (v : ℕ) (j : JobTree) (t : Table) (ds : List Derivation) →
    IsFrameAt talk.sent n asked → IsFrameAt talk.given n given → SpellsIn v asked (request j) → SpellsIn v given (reply j.ticket j.kinds t ds) → says j t

-- As many whole frames were given as were sent, and nothing else, and the link hasn't ended: so it stands where each exchange so
-- far was answered.
abbrev pub IsInStep : Option Talk → Type 0
IsInStep None = ⊤
IsInStep (Some talk) = (asked given : List (List ℕ)) × AreFrames talk.sent asked (holds []) × AreFrames talk.given given (holds [])
    × (length asked ≡ length given) × (talk.ended ≡ false)
