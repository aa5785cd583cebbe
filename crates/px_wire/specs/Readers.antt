-- What is read in bytes.
use Rattle.std.specs.Prelude.{ℕ, List, [], ◌∷◌, Option, Some, None, Bool, ◌==◌, if◌then◌else◌}
use Rattle.std.specs.Cmp.Lexicographic.{pointwise}
use Rattle.px_terms.specs.Polynomials.{Polynomial}
use Rattle.px_entry.specs.declared.tables.Table.{Table}
use Rattle.px_spelling.specs.Reading.{Reader, ◌>>=◌, ◌<*>◌, done, nothing}
use Rattle.px_spelling.specs.Numbers.{u8_at, u64_at}
use Rattle.px_spelling.specs.Lists.{list_at, any_number}
use Rattle.px_spelling.specs.Polynomials.{polynomial_at, PolynomialSpelling, in_full}
use Rattle.px_spelling.specs.ByPlace.{is_same, by_place}
use Rattle.px_spelling.specs.Tables.{table_at}
use Rattle.px_spelling.specs.Derivations.{derivation_at}
use Rattle.px_wire.specs.TableRanges.{table_within}
use Rattle.px_wire.specs.JobRanges.{job_within, rises}
use Rattle.px_wire.specs.Jobs.{only_if, job_at}
use Rattle.px_wire.specs.Messages.{MessageTree, request, reply, large, any_types}
use Rattle.px_wire.specs.Mentions.{terms_of}

unfoldable pub request_at : PolynomialSpelling → Reader MessageTree
request_at p = done request <*> (job_at p >>= only_if job_within)

unfoldable pub kinds_at : Reader (List ℕ)
kinds_at = list_at u8_at any_number >>= only_if rises

-- in a spelling of polynomials
unfoldable pub own_table_at : PolynomialSpelling → Reader Table
own_table_at p = table_at p >>= only_if (table_within any_types)

unfoldable pub reply_at : PolynomialSpelling → Reader MessageTree
reply_at p = done reply <*> u64_at <*> kinds_at <*> own_table_at p <*> list_at derivation_at any_number

unfoldable pub large_at : Reader MessageTree
large_at = done large <*> u64_at

-- by the byte that says which message it is
unfoldable pub fields_at : PolynomialSpelling → ℕ → Reader MessageTree
fields_at p tag =
    if tag == 0 then request_at p else (
    if tag == 1 then reply_at p else (
    if tag == 2 then large_at else nothing))

-- whether these are the terms of a message
abbrev pub are_terms : List Polynomial → MessageTree → Bool
are_terms terms m = pointwise is_same (terms_of m) terms

-- by places in a list, which is that of the terms
unfoldable pub with_terms : ℕ → List Polynomial → Reader MessageTree
with_terms tag terms = fields_at (by_place terms) tag >>= only_if (are_terms terms)

unfoldable pub listed_at : ℕ → Reader MessageTree
listed_at tag = list_at polynomial_at any_number >>= with_terms tag

unfoldable pub shared_at : ℕ → Reader MessageTree
shared_at tag = if tag == 2 then large_at else listed_at tag

-- the version, and the message
abbrev pub told_at : ℕ → Reader MessageTree → Reader (ℕ × MessageTree)
told_at number reader = reader >>= λ m. done (number, m)

-- after the byte of the version
unfoldable pub with_version : ℕ → ℕ → Reader (ℕ × MessageTree)
with_version tag number =
    if number == 1 then told_at 1 (fields_at in_full tag) else (
    if number == 2 then told_at 2 (shared_at tag) else nothing)

abbrev pub versioned_at : ℕ → Reader (ℕ × MessageTree)
versioned_at tag = u8_at >>= with_version tag

unfoldable pub message_at : Reader (ℕ × MessageTree)
message_at = u8_at >>= versioned_at

-- what was read, where nothing follows
abbrev pub alone : ℕ × MessageTree → List ℕ → Option (ℕ × MessageTree)
alone t [] = Some t
alone t (b ∷ bytes) = None

abbrev pub whole : Option ((ℕ × MessageTree) × List ℕ) → Option (ℕ × MessageTree)
whole None = None
whole (Some x) = alone x.0 x.1

-- the version and the message that bytes spell, if they spell one
unfoldable pub message_in : List ℕ → Option (ℕ × MessageTree)
message_in bytes = whole (message_at bytes)
