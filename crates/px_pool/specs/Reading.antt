-- What a link gave while one frame was read.
use Rattle.std.specs.Prelude.{◌≡◌, ◌+◌, ◌<◌, ◌≤◌, ◌⊎◌, ℕ, List, [], length, Bool, true, false, Option, Result, Ok, Err}
use Rattle.px_entry.specs.declared.tables.Table.{Table}
use Rattle.px_callgraph.specs.JobTree.{JobTree}
use Rattle.px_frames.specs.Frames.{frame_of, most_bytes}
use Rattle.px_pool.specs.Talks.{Talk, Passes}
use Rattle.px_pool.specs.Words.{IsWordKept}
use Rattle.px_pieces.specs.declared.desk.Lost.{Lost}
use Rattle.px_pieces.specs.declared.desk.Lost.TheVariants.{Send, Read, Closed, Frame, Ticket, Kinds, Refused, Large, NoMemory}
use Rattle.px_pool.specs.declared.answers.Answer.{Answer}
use Rattle.px_pool.specs.Outcomes.{gave, IsUnanswered, IsFaultIn}
use Rattle.px_pool.specs.Gathering.{IsOutcome}

-- these bytes were given and nothing was sent, and whether it ended then
abbrev pub Gives : Option Talk → Option Talk → List ℕ → Bool → Type 0
Gives old new bytes ended = Passes old new (gave [] bytes ended)

-- fewer bytes than so many were given
abbrev pub GivesFewer : Option Talk → Option Talk → ℕ → Type 0
GivesFewer old new n = (bytes : List ℕ) × (length bytes < n) × Gives old new bytes false

-- no whole frame was given, for this cause, where this frame is sent
abbrev pub Unanswered : Option Talk → Option Talk → List ℕ → Lost → Type 0
Unanswered old new frame why = (x : Talk) × Passes old new x × IsUnanswered frame x why

-- A word that was kept is kept still, and it is kept in any case where bytes were wanted.
abbrev pub KeepsWord : (JobTree → Table → Type 0) → Option Talk → Option Talk → ℕ → Type 0
KeepsWord says old new wanted = (IsWordKept says old → IsWordKept says new) × (0 < wanted → IsWordKept says new)

-- ---- one message, as it comes

-- why a message of so many bytes isn't whole: a call failed before its last byte, or it ended
abbrev pub StopsIn : Option Talk → Option Talk → ℕ → Lost → Type 0
StopsIn old new n Read = GivesFewer old new n
StopsIn old new n (Closed k) = (bytes : List ℕ) × (length bytes < n) × Gives old new bytes true × (k ≡ 4 + length bytes)
StopsIn old new n Send = ⊥
StopsIn old new n Frame = ⊥
StopsIn old new n (Ticket asked given) = ⊥
StopsIn old new n Kinds = ⊥
StopsIn old new n (Refused entry step) = ⊥
StopsIn old new n Large = ⊥
StopsIn old new n NoMemory = ⊥

-- a message of so many bytes was given, with this outcome; or it isn't whole
abbrev pub IsRead : ℕ → JobTree → Option Talk → Option Talk → ℕ → Result Answer Lost → Type 0
IsRead v j old new n (Ok a) = (m : List ℕ) × (length m ≡ n) × Gives old new m false × IsOutcome v j m (Ok a)
IsRead v j old new n (Err why) = StopsIn old new n why ⊎ ((m : List ℕ) × (length m ≡ n) × Gives old new m false × IsFaultIn v j m why)

-- where this frame is sent, one frame with this message is given
abbrev pub GivesMessage : Option Talk → Option Talk → List ℕ → List ℕ → Type 0
GivesMessage old new frame m = (length m ≤ most_bytes) × Passes old new (gave frame (frame_of m) false)

-- a frame was given whose message has this outcome; or no whole frame was
abbrev pub IsReplied : ℕ → JobTree → Option Talk → Option Talk → List ℕ → Result Answer Lost → Type 0
IsReplied v j old new frame (Ok a) = (m : List ℕ) × GivesMessage old new frame m × IsOutcome v j m (Ok a)
IsReplied v j old new frame (Err why) = Unanswered old new frame why ⊎ ((m : List ℕ) × GivesMessage old new frame m × IsFaultIn v j m why)
