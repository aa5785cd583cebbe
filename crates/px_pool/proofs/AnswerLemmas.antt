-- Messages that give no table in version 1.
use Rattle.std.proofs.Common.{inl, inr, refl, ℕ, List}
use Rattle.px_entry.specs.declared.derivations.Derivation.{Derivation}
use Rattle.px_entry.specs.declared.tables.Table.{Table}
use Rattle.px_callgraph.specs.JobTree.{JobTree}
use Rattle.px_wire.specs.Messages.{MessageTree, reply, large, Spells}
use Rattle.px_wire.proofs.MessageRoundTrips.{in_first, is_first}
use Rattle.px_pieces.specs.declared.desk.Lost.{Lost}
use Rattle.px_pieces.specs.declared.desk.Lost.TheVariants.{Send, Read, Closed, Frame, Ticket, Kinds, Refused, Large, NoMemory}
use Rattle.px_pool.specs.Checks.{AreRefusals}
use Rattle.px_pool.specs.Outcomes.{NamesTicket, IsFaultIn}

-- what spells no message names no ticket
pub names_none : (m : List ℕ) → ((tree : MessageTree) → ¬ Spells m tree) → (ticket : ℕ) → ¬ NamesTicket 1 m ticket
names_none m none ticket (inl (kinds, t, ds, spells)) = none (reply ticket kinds t ds) (is_first m 1 (reply ticket kinds t ds) spells refl)
names_none m none ticket (inr spells) = none (large ticket) (is_first m 1 (large ticket) spells refl)

-- why the entries of a reply aren't all checked is a fault in it
pub refusal_is_fault : (j : JobTree) (m : List ℕ) (t : Table) (ds : List Derivation) (why : Lost) → Spells m (reply j.ticket j.kinds t ds) → AreRefusals j t.entries ds why → IsFaultIn 1 j m why
refusal_is_fault j m t ds (Refused entry step) spells h = (t, ds, in_first m (reply j.ticket j.kinds t ds) spells, h)
refusal_is_fault j m t ds NoMemory spells h = tt
refusal_is_fault j m t ds Send spells h = h
refusal_is_fault j m t ds Read spells h = h
refusal_is_fault j m t ds (Closed n) spells h = h
refusal_is_fault j m t ds Frame spells h = absurd h
refusal_is_fault j m t ds (Ticket asked given) spells h = absurd h
refusal_is_fault j m t ds Kinds spells h = absurd h
refusal_is_fault j m t ds Large spells h = absurd h
