-- What is read at each place.
use Rattle.std.specs.Prelude.{ℕ, List, ◌==◌, if◌then◌else◌, nat_le}
use Rattle.px_terms.specs.Polynomials.{Polynomial}
use Rattle.px_entry.specs.declared.entries.Entry.{Entry}
use Rattle.px_entry.specs.declared.tables.Gap.{Gap}
use Rattle.px_spelling.specs.Reading.{Reader, ◌>>=◌, ◌<*>◌, done, nothing}
use Rattle.px_spelling.specs.Numbers.{u8_at, u32_at, u64_at}
use Rattle.px_spelling.specs.Lists.{list_at, any_number, pair_of}
use Rattle.px_spelling.specs.Polynomials.{PolynomialSpelling, polynomial_at}
use Rattle.px_spelling.specs.Entries.{entry_at}
use Rattle.px_spelling.specs.Tables.{gap_at}
use Rattle.px_wire.specs.TableRanges.{entry_within, gap_within}
use Rattle.px_wire.specs.Jobs.{only_if}
use Rattle.px_wire.specs.Messages.{any_types}
use Rattle.px_wire.specs.Readers.{kinds_at}
use Rattle.px_parts.specs.Places.{Place, Head, ListedHead, Large}

-- where a reply goes on by its version, and that one is too long
abbrev pub reply_opened : ℕ → Reader Place
reply_opened number = if number == 1 then done Head else (if number == 2 then done ListedHead else nothing)

abbrev pub large_opened : ℕ → Reader Place
large_opened number = if number == 1 then done (Large number) else (if number == 2 then done (Large number) else nothing)

-- by the byte that says which message it is
unfoldable pub opened : ℕ → ℕ → Reader Place
opened tag number =
    if tag == 1 then reply_opened number else (
    if tag == 2 then large_opened number else nothing)

abbrev pub opened_by : ℕ → Reader Place
opened_by tag = u8_at >>= opened tag

-- the first bytes
unfoldable pub opening_at : Reader Place
opening_at = u8_at >>= opened_by

-- a ticket, and kinds that rise
unfoldable pub sender_at : Reader (ℕ × List ℕ)
sender_at = done pair_of <*> u64_at <*> kinds_at

-- behind a list
abbrev pub sender_with : List Polynomial → Reader (List Polynomial × (ℕ × List ℕ))
sender_with terms = done (pair_of terms) <*> sender_at

abbrev pub listed_head_at : Reader (List Polynomial × (ℕ × List ℕ))
listed_head_at = list_at polynomial_at any_number >>= sender_with

-- a count that isn't greater than this
unfoldable pub count_at : ℕ → Reader ℕ
count_at most = u32_at >>= only_if (λ n. nat_le n most)

-- in a spelling of polynomials
unfoldable pub own_entry_at : PolynomialSpelling → Reader Entry
own_entry_at p = entry_at p >>= only_if (entry_within any_types)

unfoldable pub own_drop_at : PolynomialSpelling → Reader Gap
own_drop_at p = gap_at p >>= only_if gap_within
