-- Messages are read again as they were written.
use Rattle.std.proofs.Common.{◌≡◌, ◌⊎◌, inl, ⊎_elim, ℕ, ◌≤◌, List, length, Err, [], ◌∷◌, ◌++◌, Some, None, true, refl, sym, subst, ap, ◌∙◌, arith}
use Rattle.std.specs.Cmp.Lexicographic.{pointwise, pointwise_decides}
use Rattle.std.proofs.lemmas.List.{append-nil}
use Rattle.std.proofs.lemmas.Option.{same_Some}
use Rattle.px_terms.specs.Polynomials.{Polynomial}
use Rattle.px_spelling.specs.declared.fault.WireFault.{WireFault}
use Rattle.px_spelling.specs.declared.fault.WireFault.TheVariants.{NotAMessage, NoMemory}
use Rattle.px_spelling.specs.Reading.{Reader, Fails}
use Rattle.px_spelling.specs.Numbers.{u8_bytes, IsU8, u8_at, IsU32}
use Rattle.px_spelling.specs.Lists.{list_bytes, list_at, any_number}
use Rattle.px_spelling.specs.Polynomials.{polynomial_bytes, IsPolynomialInRange, polynomial_at, PolynomialSpelling, in_full}
use Rattle.px_spelling.specs.ByPlace.{is_same, by_place}
use Rattle.px_spelling.specs.Tables.{table_bytes, table_at}
use Rattle.px_spelling.specs.Derivations.{derivation_bytes, IsDerivation, derivation_at}
use Rattle.px_wire.specs.TableRanges.{table_within}
use Rattle.px_wire.specs.JobRanges.{job_within, rises}
use Rattle.px_wire.specs.Jobs.{job_bytes, job_at}
use Rattle.px_wire.specs.Messages.{MessageTree, request, reply, large, any_types, tag_of, fields_bytes, IsSaid, IsMessage, Spells}
use Rattle.px_wire.specs.Mentions.{terms_of}
use Rattle.px_wire.specs.Versions.{terms_bytes, bytes_in, HasVersion, SpellsIn, IsDecodedIn}
use Rattle.px_wire.specs.Readers.{request_at, kinds_at, own_table_at, reply_at, large_at, fields_at, are_terms, with_terms, listed_at, shared_at, told_at, with_version, versioned_at, message_at, whole, message_in}
use Rattle.px_spelling.proofs.RoundTrip.{ReadsAs, RoundTrip, done_reads, then_reads, ◌⊛◌, tagged, u8_round_trip, u64_round_trip, list_round_trip}
use Rattle.px_spelling.proofs.PolynomialRoundTrips.{polynomial_round_trip}
use Rattle.px_spelling.proofs.PlaceLemmas.{same_decides, place_round_trip}
use Rattle.px_spelling.proofs.TableRoundTrips.{table_round_trip}
use Rattle.px_spelling.proofs.DerivationRoundTrips.{derivation_round_trip}
use Rattle.px_wire.proofs.JobRoundTrips.{tested, job_round_trip}
use Rattle.px_wire.proofs.MessageRanges.{by_terms, terms_fit}

-- ---- the fields, where polynomials are read again

large_reads : (ticket : ℕ) → IsMessage (large ticket) → ReadsAs large_at (fields_bytes in_full (large ticket)) (large ticket)
unfolding large_at
large_reads ticket fits = done_reads large ⊛ u64_round_trip ticket fits

pub fields_round_trip : (p : PolynomialSpelling) → RoundTrip p.bytes_of p.fits p.at → (m : MessageTree) → IsSaid p m → ReadsAs (fields_at p (tag_of m)) (fields_bytes p m) m
unfolding fields_at request_at kinds_at own_table_at reply_at
fields_round_trip p again (request j) (fits, within) =
    done_reads request ⊛ tested job_within (job_at p) (job_bytes p j) j (job_round_trip p again j fits) within
fields_round_trip p again (reply ticket kinds table derivations) ((is_ticket, are_kinds, is_table, are_derivations), rise, within) =
    done_reads reply ⊛ u64_round_trip ticket is_ticket
    ⊛ tested rises (list_at u8_at any_number) (list_bytes u8_bytes kinds) kinds (list_round_trip u8_bytes IsU8 u8_at any_number u8_round_trip kinds are_kinds) rise
    ⊛ tested (table_within any_types) (table_at p) (table_bytes p table) table (table_round_trip p again table is_table) within
    ⊛ list_round_trip derivation_bytes IsDerivation derivation_at any_number derivation_round_trip derivations are_derivations
fields_round_trip p again (large ticket) fits = large_reads ticket fits

-- ---- where each polynomial is sent once

pub same_terms : (xs ys : List Polynomial) → (pointwise is_same xs ys ≡ true → xs ≡ ys) × (xs ≡ ys → pointwise is_same xs ys ≡ true)
same_terms = pointwise_decides same_decides

few_terms : (n : ℕ) → IsU32 n → n ≤ any_number
few_terms n few = omega arith

-- the list, and what is behind it
listed_reads : (m : MessageTree) → IsMessage m → IsU32 (length (terms_of m)) → ReadsAs (listed_at (tag_of m)) (list_bytes polynomial_bytes (terms_of m) ++ fields_bytes (by_place (terms_of m)) m) m
unfolding listed_at with_terms
listed_reads m fits few =
    let terms = terms_of m in
    then_reads (list_at polynomial_at any_number) (with_terms (tag_of m)) (list_bytes polynomial_bytes terms) (fields_bytes (by_place terms) m) terms m
    (list_round_trip polynomial_bytes IsPolynomialInRange polynomial_at any_number polynomial_round_trip terms (few, few_terms (length terms) few, terms_fit m fits))
    (tested (are_terms terms) (fields_at (by_place terms) (tag_of m)) (fields_bytes (by_place terms) m) m
    (fields_round_trip (by_place terms) (place_round_trip terms) m (by_terms m fits few)) ((same_terms terms terms).1 refl))

shared_reads : (m : MessageTree) → IsMessage m → IsU32 (length (terms_of m)) → ReadsAs (shared_at (tag_of m)) (terms_bytes m ++ fields_bytes (by_place (terms_of m)) m) m
unfolding shared_at
shared_reads (request j) fits few = listed_reads (request j) fits few
shared_reads (reply ticket kinds table derivations) fits few = listed_reads (reply ticket kinds table derivations) fits few
shared_reads (large ticket) fits few = large_reads ticket fits

-- ---- in each version

-- with its version
versioned : (number : ℕ) (at : Reader MessageTree) (bytes : List ℕ) (m : MessageTree) → ReadsAs at bytes m → ReadsAs (told_at number at) bytes (number, m)
versioned number at bytes m read = record { reads = λ rest. rw (read.reads rest) refl }

-- what follows the first byte
abbrev ReadsIn : ℕ → MessageTree → Type 0
ReadsIn number m = ReadsAs message_at (bytes_in number m) (number, m)

full_reads : (m : MessageTree) → IsMessage m → ReadsIn 1 m
unfolding message_at with_version
full_reads m fits =
    tagged (tag_of m) versioned_at (tagged 1 (with_version (tag_of m))
    (versioned 1 (fields_at in_full (tag_of m)) (fields_bytes in_full m) m (fields_round_trip in_full polynomial_round_trip m fits)))

once_reads : (m : MessageTree) → IsMessage m → IsU32 (length (terms_of m)) → ReadsIn 2 m
unfolding message_at with_version
once_reads m fits few =
    tagged (tag_of m) versioned_at (tagged 2 (with_version (tag_of m))
    (versioned 2 (shared_at (tag_of m)) (terms_bytes m ++ fields_bytes (by_place (terms_of m)) m) m (shared_reads m fits few)))

pub message_round_trip : (number : ℕ) (m : MessageTree) → IsMessage m → HasVersion number m → ReadsIn number m
message_round_trip number m fits has =
    ⊎_elim (λ (is : number ≡ 1). subst (λ v. ReadsIn v m) (sym is) (full_reads m fits))
    (λ (is : (number ≡ 2) × IsU32 (length (terms_of m))). subst (λ v. ReadsIn v m) (sym is.0) (once_reads m fits is.1))
    has

-- what is spelled is read
pub spelled_is_read : (bytes : List ℕ) (number : ℕ) (m : MessageTree) → SpellsIn number bytes m → message_in bytes ≡ Some (number, m)
unfolding message_in
spelled_is_read bytes number m (is, fits, has) =
    ap (λ b. whole (message_at b)) (is ∙ sym (append-nil (bytes_in number m))) ∙ ap whole ((message_round_trip number m fits has).reads [])

pub one_told : (bytes : List ℕ) (number other : ℕ) (m n : MessageTree) → SpellsIn number bytes m → SpellsIn other bytes n → (number ≡ other) × (m ≡ n)
one_told bytes number other m n p q =
    let same : (number, m) ≡ (other, n) = same_Some {A = ℕ × MessageTree} (number, m) (other, n) (sym (spelled_is_read bytes number m p) ∙ spelled_is_read bytes other n q) in
    (ap (λ (t : ℕ × MessageTree). t.0) same, ap (λ (t : ℕ × MessageTree). t.1) same)

-- ---- in version 1

pub in_first : (bytes : List ℕ) (m : MessageTree) → Spells bytes m → SpellsIn 1 bytes m
in_first bytes m (is, fits) = (is, fits, inl refl)

pub one_message : (bytes : List ℕ) (m n : MessageTree) → Spells bytes m → Spells bytes n → m ≡ n
one_message bytes m n p q = (one_told bytes 1 1 m n (in_first bytes m p) (in_first bytes n q)).1

-- what is spelled in version 1
pub is_first : (bytes : List ℕ) (number : ℕ) (m : MessageTree) → SpellsIn number bytes m → number ≡ 1 → Spells bytes m
is_first bytes number m (is, fits, has) first = (subst (λ v. bytes ≡ bytes_in v m) first is, fits)

-- where a message is spelled in another version, none is in version 1
pub is_other : (bytes : List ℕ) (number : ℕ) (m : MessageTree) → SpellsIn number bytes m → ¬ (number ≡ 1) → (n : MessageTree) → ¬ Spells bytes n
is_other bytes number m s other n t = other (one_told bytes number 1 m n s (in_first bytes n t)).0

-- where none is spelled in any version, none is in version 1
pub none_first : (bytes : List ℕ) → ((number : ℕ) (m : MessageTree) → ¬ SpellsIn number bytes m) → (m : MessageTree) → ¬ Spells bytes m
none_first bytes none m s = none 1 m (in_first bytes m s)

-- ---- where nothing is read

pub none_is_spelled : (bytes : List ℕ) → message_in bytes ≡ None → (number : ℕ) (m : MessageTree) → ¬ SpellsIn number bytes m
none_is_spelled bytes is_none number m s =
    let told : ℕ × MessageTree = (number, m) in
    let both : None ≡ Some told = sym is_none ∙ spelled_is_read bytes number m s in absurd cc

-- where no message is read in front, or one with more after it

pub fails_is_decoded : (e : WireFault) (bytes : List ℕ) → Fails e (message_at bytes) → IsDecodedIn bytes (Err e)
unfolding message_in
fails_is_decoded NotAMessage bytes fails = none_is_spelled bytes (ap whole fails)
fails_is_decoded NoMemory bytes fails = tt

pub more_is_none : (bytes rest : List ℕ) (t : ℕ × MessageTree) → message_at bytes ≡ Some (t, rest) → 1 ≤ length rest → (number : ℕ) (n : MessageTree) → ¬ SpellsIn number bytes n
unfolding message_in
more_is_none bytes [] t read more = absurd (omega arith)
more_is_none bytes (b ∷ rest) t read more = none_is_spelled bytes (ap whole read)
