-- Limits and jobs are read again as they were written.
use Rattle.std.proofs.Common.{◌≡◌, ℕ, ◌≤◌, ◌<◌, ◌^◌, List, Bool, true, refl, arith}
use Rattle.px_base.specs.LimitNumbers.{IsInRange}
use Rattle.px_spelling.specs.Reading.{Reader, ◌>>=◌}
use Rattle.px_spelling.specs.Numbers.{u8_bytes, IsU8, u8_at}
use Rattle.px_spelling.specs.Lists.{any_number}
use Rattle.px_spelling.specs.Traces.{proc_id_bytes, IsProcId, proc_id_at}
use Rattle.px_spelling.specs.Types.{block_type_bytes, IsBlockType, block_type_at}
use Rattle.px_spelling.specs.Polynomials.{PolynomialSpelling}
use Rattle.px_spelling.specs.Callees.{callee_bytes, IsCallee, callee_at}
use Rattle.px_wire.specs.Jobs.{limits_bytes, limits_of, are_limits, only_if, numbers_at, limits_at, known_bytes, IsKnown, known_at, job_bytes, IsJob, job_of, job_at}
use Rattle.px_spelling.proofs.RoundTrip.{ReadsAs, RoundTrip, done_reads, ◌⊛◌, u8_round_trip, u32_round_trip, u64_round_trip, list_round_trip, pair_round_trip}
use Rattle.px_spelling.proofs.TraceRoundTrips.{proc_id_round_trip}
use Rattle.px_spelling.proofs.TypeRoundTrips.{block_type_round_trip}
use Rattle.px_spelling.proofs.CalleeRoundTrips.{callee_round_trip}
use Rattle.px_body_spelling.proofs.BodyLaw.{body_round_trip}
use Rattle.px_wire.proofs.LimitTest.{in_range}

-- what passes a test is read as before
pub tested : {A : Type 0} (test : A → Bool) (at : Reader A) (bytes : List ℕ) (x : A) → ReadsAs at bytes x → test x ≡ true → ReadsAs (at >>= only_if test) bytes x
tested test at bytes x read holds = record { reads = λ rest. rw (read.reads rest, holds) refl }

few : (n most : ℕ) → n ≤ most → most < 2 ^ 32 → n < 2 ^ 32
few n most le small = omega arith

limits_round_trip : RoundTrip limits_bytes IsInRange limits_at
unfolding limits_at numbers_at
limits_round_trip l fits =
    tested are_limits numbers_at (limits_bytes l) l
    (done_reads limits_of ⊛ u32_round_trip l.unroll (few l.unroll 16 fits.0.1 (omega arith)) ⊛ u32_round_trip l.paths (few l.paths 128 fits.1.0.1 (omega arith)) ⊛ u32_round_trip l.nodes (few l.nodes 100000 fits.1.1.1 (omega arith)))
    (in_range l fits)

known_round_trip : (p : PolynomialSpelling) → RoundTrip p.bytes_of p.fits p.at → RoundTrip (known_bytes p) (IsKnown p) (known_at p)
known_round_trip p again = pair_round_trip proc_id_bytes IsProcId proc_id_at (callee_bytes p) (IsCallee p) (callee_at p) proc_id_round_trip (callee_round_trip p again)

pub job_round_trip : (p : PolynomialSpelling) → RoundTrip p.bytes_of p.fits p.at → RoundTrip (job_bytes p) (IsJob p) (job_at p)
unfolding job_at
job_round_trip p again j fits =
    done_reads job_of ⊛ proc_id_round_trip j.proc fits.0 ⊛ body_round_trip j.body fits.1
    ⊛ list_round_trip block_type_bytes IsBlockType block_type_at any_number block_type_round_trip j.types fits.2
    ⊛ list_round_trip (known_bytes p) (IsKnown p) (known_at p) any_number (known_round_trip p again) j.callees fits.3
    ⊛ limits_round_trip j.limits fits.4 ⊛ list_round_trip u8_bytes IsU8 u8_at any_number u8_round_trip j.kinds fits.5 ⊛ u64_round_trip j.ticket fits.6
