-- Limits and jobs.
use Rattle.std.specs.Prelude.{◌≡◌, ℕ, List, ◌++◌, Bool, true, false, ◌&&◌, nat_le, if◌then◌else◌, Result, Ok, Err}
use Rattle.px_base.specs.LimitNumbers.{LimitNumbers}
use Rattle.px_base.specs.declared.trace.ProcId.{ProcId}
use Rattle.px_terms.specs.declared.types.BlockType.{BlockType}
use Rattle.px_core.specs.BodyTree.{BodyTree}
use Rattle.px_callgraph.specs.declared.jobs.Callee.{Callee}
use Rattle.px_callgraph.specs.JobTree.{JobTree}
use Rattle.px_base.specs.LimitNumbers.{IsInRange}
use Rattle.px_spelling.specs.declared.fault.WireFault.{WireFault}
use Rattle.px_spelling.specs.declared.fault.WireFault.TheVariants.{NotAMessage, NoMemory}
use Rattle.px_spelling.specs.Reading.{Reader, ◌>>=◌, ◌<*>◌, done, nothing}
use Rattle.px_spelling.specs.Numbers.{u8_bytes, IsU8, u8_at, u32_bytes, u32_at, u64_bytes, IsU64, u64_at}
use Rattle.px_spelling.specs.Lists.{list_bytes, IsList, list_at, any_number, pair_bytes, pair_at}
use Rattle.px_spelling.specs.Traces.{proc_id_bytes, IsProcId, proc_id_at}
use Rattle.px_spelling.specs.Types.{block_type_bytes, IsBlockType, block_type_at}
use Rattle.px_spelling.specs.Polynomials.{PolynomialSpelling}
use Rattle.px_spelling.specs.Callees.{callee_bytes, IsCallee, callee_at}
use Rattle.px_body_spelling.specs.Bodies.{body_bytes, IsBody, body_at}

-- iterations, paths and nodes
abbrev pub limits_bytes : LimitNumbers → List ℕ
limits_bytes l = u32_bytes l.unroll ++ u32_bytes l.paths ++ u32_bytes l.nodes

abbrev pub limits_of : ℕ → ℕ → ℕ → LimitNumbers
limits_of unroll paths nodes = record { unroll = unroll; paths = paths; nodes = nodes }

abbrev pub is_between : ℕ → ℕ → ℕ → Bool
is_between least most n = nat_le least n && nat_le n most

abbrev pub are_limits : LimitNumbers → Bool
are_limits l = is_between 1 16 l.unroll && (is_between 1 128 l.paths && is_between 1 100000 l.nodes)

-- this value, where a test holds of it
abbrev pub only_if : {A : Type 0} → (A → Bool) → A → Reader A
only_if test x = if test x then done x else nothing

unfoldable pub numbers_at : Reader LimitNumbers
numbers_at = done limits_of <*> u32_at <*> u32_at <*> u32_at

unfoldable pub limits_at : Reader LimitNumbers
limits_at = numbers_at >>= only_if are_limits

-- these limits are the ones, or they are out of range
abbrev pub AreLimits : LimitNumbers → Result LimitNumbers WireFault → Type 0
AreLimits numbers (Ok limits) = (limits ≡ numbers) × (are_limits numbers ≡ true) × IsInRange numbers
AreLimits numbers (Err NotAMessage) = are_limits numbers ≡ false
AreLimits numbers (Err NoMemory) = ⊥

-- a callee by its number, in a spelling of polynomials
abbrev pub known_bytes : PolynomialSpelling → ProcId × Callee → List ℕ
known_bytes p = pair_bytes proc_id_bytes (callee_bytes p)

abbrev pub IsKnown : PolynomialSpelling → ProcId × Callee → Type 0
IsKnown p c = IsProcId c.0 × IsCallee p c.1

abbrev pub known_at : PolynomialSpelling → Reader (ProcId × Callee)
known_at p = pair_at proc_id_at (callee_at p)

-- a job, in a spelling of polynomials
abbrev pub job_bytes : PolynomialSpelling → JobTree → List ℕ
job_bytes p j = proc_id_bytes j.proc ++ body_bytes j.body ++ list_bytes block_type_bytes j.types ++ list_bytes (known_bytes p) j.callees
    ++ limits_bytes j.limits ++ list_bytes u8_bytes j.kinds ++ u64_bytes j.ticket

abbrev pub IsJob : PolynomialSpelling → JobTree → Type 0
IsJob p j = IsProcId j.proc × IsBody j.body × IsList IsBlockType any_number j.types × IsList (IsKnown p) any_number j.callees
    × IsInRange j.limits × IsList IsU8 any_number j.kinds × IsU64 j.ticket

abbrev pub job_of : ProcId → BodyTree → List BlockType → List (ProcId × Callee) → LimitNumbers → List ℕ → ℕ → JobTree
job_of proc body types callees limits kinds ticket = record { proc = proc; body = body; types = types; callees = callees; limits = limits; kinds = kinds; ticket = ticket }

unfoldable pub job_at : PolynomialSpelling → Reader JobTree
job_at p = done job_of <*> proc_id_at <*> body_at <*> list_at block_type_at any_number <*> list_at (known_at p) any_number
    <*> limits_at <*> list_at u8_at any_number <*> u64_at
