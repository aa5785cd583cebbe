-- What an exchange with a worker in a version gives, and why it gives nothing.
use Rattle.std.specs.Prelude.{◌≡◌, ◌≢◌, ◌<◌, ◌≤◌, ◌⊎◌, ⊤, ℕ, List, length, take, Bool, true, false, Result, Ok, Err}
use Rattle.px_entry.specs.declared.derivations.Derivation.{Derivation}
use Rattle.px_entry.specs.declared.tables.Table.{Table}
use Rattle.px_callgraph.specs.JobTree.{JobTree}
use Rattle.px_io.specs.Faults.{RoseOnce}
use Rattle.px_frames.specs.Frames.{frame_of, most_bytes, IsPart, IsTooLong}
use Rattle.px_wire.specs.Messages.{request, reply, large}
use Rattle.px_wire.specs.Versions.{bytes_in, SpellsIn}
use Rattle.px_pieces.specs.declared.desk.Lost.{Lost}
use Rattle.px_pieces.specs.declared.desk.Lost.TheVariants.{Send, Read, Closed, Frame, Ticket, Kinds, Refused, Large, NoMemory}
use Rattle.px_pool.specs.Talks.{Talk, nothing, sends}
use Rattle.px_pool.specs.LinkLaws.{exchanges}
use Rattle.px_pool.specs.Derived.{AreDerived, AreRefused}

-- the message that asks for a job
abbrev pub request_of : ℕ → JobTree → List ℕ
request_of v j = bytes_in v (request j)

-- ---- the reply

-- the message is a reply under this ticket, or says that it is too long, in this version
abbrev pub NamesTicket : ℕ → List ℕ → ℕ → Type 0
NamesTicket v m ticket = ((kinds : List ℕ) × (t : Table) × (ds : List Derivation) × SpellsIn v m (reply ticket kinds t ds)) ⊎ SpellsIn v m (large ticket)

-- the message is a reply to the job in this version, with this table, of which each entry derives
abbrev pub GivesTable : ℕ → JobTree → List ℕ → Table → Type 0
GivesTable v j m t = (ds : List Derivation) × SpellsIn v m (reply j.ticket j.kinds t ds) × AreDerived j t.entries ds

-- Why a message gives no table of the job in this version. What is spelled in another version is no reply.
abbrev pub IsFaultIn : ℕ → JobTree → List ℕ → Lost → Type 0
IsFaultIn v j m Frame = (ticket : ℕ) → ¬ NamesTicket v m ticket
IsFaultIn v j m (Ticket asked given) = (asked ≡ j.ticket) × (given ≢ j.ticket) × NamesTicket v m given
IsFaultIn v j m Large = SpellsIn v m (large j.ticket)
IsFaultIn v j m Kinds = (kinds : List ℕ) × (t : Table) × (ds : List Derivation) × SpellsIn v m (reply j.ticket kinds t ds) × (kinds ≢ j.kinds)
IsFaultIn v j m (Refused entry step) = (t : Table) × (ds : List Derivation) × SpellsIn v m (reply j.ticket j.kinds t ds) × AreRefused j t.entries ds entry step
IsFaultIn v j m NoMemory = ⊤
IsFaultIn v j m Send = ⊥
IsFaultIn v j m Read = ⊥
IsFaultIn v j m (Closed n) = ⊥

-- ---- what passed over the link

-- why nothing was sent
abbrev pub IsUnasked : ℕ → JobTree → Lost → Type 0
IsUnasked v j Large = most_bytes < length (request_of v j)
IsUnasked v j NoMemory = ⊤
IsUnasked v j Send = ⊥
IsUnasked v j Read = ⊥
IsUnasked v j (Closed n) = ⊥
IsUnasked v j Frame = ⊥
IsUnasked v j (Ticket asked given) = ⊥
IsUnasked v j Kinds = ⊥
IsUnasked v j (Refused entry step) = ⊥

-- this frame was sent, these bytes were given, and whether the link has ended then
abbrev pub gave : List ℕ → List ℕ → Bool → Talk
gave frame bytes ended = record { sent = frame; given = bytes; ended = ended }

-- Why no whole frame was given, where this one is sent: it could not be sent; or a part of a frame was given before a call
-- failed, or before the end; or a length was given, and it is too great, or there was no room for such a message.
abbrev pub IsUnanswered : List ℕ → Talk → Lost → Type 0
IsUnanswered frame x Send = (n : ℕ) × (n ≤ length frame) × (x ≡ sends (take n frame))
IsUnanswered frame x Read = (bytes : List ℕ) × (x ≡ gave frame bytes false) × IsPart bytes
IsUnanswered frame x (Closed n) = (bytes : List ℕ) × (x ≡ gave frame bytes true) × IsPart bytes × (n ≡ length bytes)
IsUnanswered frame x Frame = (bytes : List ℕ) × (x ≡ gave frame bytes false) × (length bytes ≡ 4) × ((n : ℕ) × IsTooLong bytes n)
IsUnanswered frame x NoMemory = (bytes : List ℕ) × (x ≡ gave frame bytes false) × (length bytes ≡ 4)
IsUnanswered frame x Large = ⊥
IsUnanswered frame x (Ticket asked given) = ⊥
IsUnanswered frame x Kinds = ⊥
IsUnanswered frame x (Refused entry step) = ⊥

-- ---- the exchange

-- the request was sent, this message was given in one frame, and nothing else passed
pub record IsGiven (v : ℕ) (j : JobTree) (x : Talk) (m : List ℕ) : Type 0 where
  pub asked_short : length (request_of v j) ≤ most_bytes
  pub given_short : length m ≤ most_bytes
  pub talk : x ≡ exchanges (request_of v j) m

-- What passed in a version gives this table of the job.
abbrev pub IsAnswered : ℕ → JobTree → Talk → Table → Type 0
IsAnswered v j x t = (m : List ℕ) × IsGiven v j x m × GivesTable v j m t

-- What passed in a version gives no table of the job, for this cause: nothing was sent; no whole frame was given; or there is a fault
-- in its message.
abbrev pub IsCauseOf : ℕ → JobTree → Talk → Lost → Type 0
IsCauseOf v j x why =
    ((x ≡ nothing) × IsUnasked v j why)
    ⊎ ((length (request_of v j) ≤ most_bytes) × IsUnanswered (frame_of (request_of v j)) x why)
    ⊎ ((m : List ℕ) × IsGiven v j x m × IsFaultIn v j m why)

-- The count of a link's faults never falls. It rose by one where a call of the link failed, and is else as it was.
abbrev pub CountsFaults : {T : Type 0} → ℕ → ℕ → Result T Lost → Type 0
CountsFaults before now (Err Send) = (before ≤ now) × RoseOnce before now
CountsFaults before now (Err Read) = (before ≤ now) × RoseOnce before now
CountsFaults before now (Err (Closed n)) = now ≡ before
CountsFaults before now (Err Frame) = now ≡ before
CountsFaults before now (Err (Ticket asked given)) = now ≡ before
CountsFaults before now (Err Kinds) = now ≡ before
CountsFaults before now (Err (Refused entry step)) = now ≡ before
CountsFaults before now (Err Large) = now ≡ before
CountsFaults before now (Err NoMemory) = now ≡ before
CountsFaults before now (Ok x) = now ≡ before
