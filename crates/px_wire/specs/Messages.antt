-- Messages as plain data, and which bytes spell one in version 1.
use Rattle.std.specs.Prelude.{◌≡◌, ℕ, List, ◌∷◌, ◌++◌, Result, Ok, Err, true, ⊤}
use Rattle.px_entry.specs.declared.tables.Table.{Table}
use Rattle.px_entry.specs.declared.derivations.Derivation.{Derivation}
use Rattle.px_callgraph.specs.JobTree.{JobTree, job_tree}
use Rattle.px_spelling.specs.declared.fault.WireFault.{WireFault}
use Rattle.px_spelling.specs.declared.fault.WireFault.TheVariants.{NotAMessage, NoMemory}
use Rattle.px_spelling.specs.Numbers.{u8_bytes, IsU8, u64_bytes, IsU64}
use Rattle.px_spelling.specs.Lists.{list_bytes, IsList, any_number}
use Rattle.px_spelling.specs.Polynomials.{PolynomialSpelling, in_full}
use Rattle.px_spelling.specs.Tables.{table_bytes, IsTable}
use Rattle.px_spelling.specs.Derivations.{derivation_bytes, IsDerivation}
use Rattle.px_wire.specs.TableRanges.{table_within}
use Rattle.px_wire.specs.JobRanges.{job_within, rises}
use Rattle.px_wire.specs.Jobs.{job_bytes, IsJob}
use Rattle.px_wire.specs.declared.message.Said.{Said}
use Rattle.px_wire.specs.declared.message.Said.TheVariants as S

-- messages as plain data
pub data MessageTree : Type 0 where
  request : JobTree → MessageTree
  reply : ℕ → List ℕ → Table → List Derivation → MessageTree
  large : ℕ → MessageTree

abbrev pub said_tree : Said → MessageTree
said_tree (S.Request job) = request (job_tree job)
said_tree (S.Reply ticket kinds table derivations) = reply ticket kinds table derivations
said_tree (S.Large ticket) = large ticket

-- ---- their bytes

-- which message it is
abbrev pub tag_of : MessageTree → ℕ
tag_of (request j) = 0
tag_of (reply ticket kinds table derivations) = 1
tag_of (large ticket) = 2

-- its fields, in a spelling of polynomials
abbrev pub fields_bytes : PolynomialSpelling → MessageTree → List ℕ
fields_bytes p (request j) = job_bytes p j
fields_bytes p (reply ticket kinds table derivations) =
    u64_bytes ticket ++ list_bytes u8_bytes kinds ++ table_bytes p table ++ list_bytes derivation_bytes derivations
fields_bytes p (large ticket) = u64_bytes ticket

-- the version of these bytes, in which each polynomial is spelled in full
abbrev pub version : ℕ
version = 1

-- which message it is, the version, and its fields
abbrev pub message_bytes : MessageTree → List ℕ
message_bytes m = tag_of m ∷ version ∷ fields_bytes in_full m

-- as many block types as there are numbers of four bytes: a reply doesn't say how many its job has
abbrev pub any_types : ℕ
any_types = 4294967296

-- In range where polynomials have a spelling: its numbers and lists are, its polynomials fit, what it names is there, and kinds and callees rise.
abbrev pub IsSaid : PolynomialSpelling → MessageTree → Type 0
IsSaid p (request j) = IsJob p j × (job_within j ≡ true)
IsSaid p (reply ticket kinds table derivations) =
    (IsU64 ticket × IsList IsU8 any_number kinds × IsTable p table × IsList IsDerivation any_number derivations)
    × (rises kinds ≡ true) × (table_within any_types table ≡ true)
IsSaid p (large ticket) = IsU64 ticket

-- in range, its polynomials in normal form
abbrev pub IsMessage : MessageTree → Type 0
IsMessage m = IsSaid in_full m

-- These bytes spell this message, and nothing follows it.
abbrev pub Spells : List ℕ → MessageTree → Type 0
Spells bytes m = (bytes ≡ message_bytes m) × IsMessage m

-- ---- what a message says

-- it asks for the analysis of this job
abbrev pub Asks : List ℕ → JobTree → Type 0
Asks message j = Spells message (request j)

-- it replies under this ticket, of domains of these kinds, with this table and these derivations
abbrev pub Replies : List ℕ → ℕ → List ℕ → Table → List Derivation → Type 0
Replies message ticket kinds table derivations = Spells message (reply ticket kinds table derivations)

-- it says that the reply under this ticket is too long
abbrev pub SaysTooLarge : List ℕ → ℕ → Type 0
SaysTooLarge message ticket = Spells message (large ticket)

-- ---- what is read

-- the message that they spell; that there is none; or memory ran out
abbrev pub IsDecoded : List ℕ → Result Said WireFault → Type 0
IsDecoded bytes (Ok said) = Spells bytes (said_tree said)
IsDecoded bytes (Err NotAMessage) = (m : MessageTree) → ¬ Spells bytes m
IsDecoded bytes (Err NoMemory) = ⊤

-- these bytes begin with the fields of the message of a tag, in a spelling of polynomials, and these follow
abbrev pub AreFields : PolynomialSpelling → ℕ → List ℕ → MessageTree → List ℕ → Type 0
AreFields p tag bytes m rest = (tag_of m ≡ tag) × (bytes ≡ fields_bytes p m ++ rest) × IsSaid p m
