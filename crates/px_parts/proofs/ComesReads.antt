-- What comes at a place is read there, whatever follows it.
use Rattle.std.proofs.Common.{◌≡◌, ◌⊎◌, ⊎_elim, ℕ, ◌≤◌, List, [], ◌∷◌, ◌++◌, true, sym, subst}
use Rattle.std.specs.Prelude.{nat_le}
use Rattle.std.proofs.lemmas.Bool.{le-leb}
use Rattle.px_terms.specs.Polynomials.{Polynomial}
use Rattle.px_entry.specs.declared.entries.Entry.{Entry}
use Rattle.px_entry.specs.declared.tables.Gap.{Gap}
use Rattle.px_spelling.specs.Numbers.{u8_bytes, IsU8, u8_at, u32_bytes, IsU32, u32_at}
use Rattle.px_spelling.specs.Lists.{list_bytes, list_at, any_number, pair_of}
use Rattle.px_spelling.specs.Polynomials.{polynomial_bytes, IsPolynomialInRange, polynomial_at}
use Rattle.px_spelling.specs.Entries.{entry_bytes, IsEntry, entry_at}
use Rattle.px_spelling.specs.Tables.{gap_bytes, IsGap, gap_at}
use Rattle.px_wire.specs.TableRanges.{entry_within, gap_within}
use Rattle.px_wire.specs.JobRanges.{rises}
use Rattle.px_wire.specs.Messages.{any_types}
use Rattle.px_wire.specs.Readers.{kinds_at}
use Rattle.px_parts.specs.Places.{Naming, full, listed, spelling, Place, Start, Head, ListedHead, Large, EntryCount, Entries, DropCount, Drops, DerivationCount, Derivations, Over, IsOpened, opening_bytes}
use Rattle.px_parts.specs.Reading.{opened, opened_by, opening_at, sender_at, sender_with, listed_head_at, count_at, own_entry_at, own_drop_at}
use Rattle.px_parts.specs.Stream.{IsSender, sender_bytes, AreTerms}
use Rattle.px_spelling.proofs.RoundTrip.{ReadsAs, RoundTrip, done_reads, then_reads, ◌⊛◌, tagged, u8_round_trip, u32_round_trip, u64_round_trip, list_round_trip}
use Rattle.px_spelling.proofs.PolynomialRoundTrips.{polynomial_round_trip}
use Rattle.px_spelling.proofs.PlaceLemmas.{place_round_trip}
use Rattle.px_spelling.proofs.EntryRoundTrips.{entry_round_trip}
use Rattle.px_spelling.proofs.TableRoundTrips.{gap_round_trip}
use Rattle.px_wire.proofs.JobRoundTrips.{tested}

-- polynomials are read again, however they are named
pub again : (k : Naming) → RoundTrip (spelling k).bytes_of (spelling k).fits (spelling k).at
again full = polynomial_round_trip
again (listed terms n) = place_round_trip terms

large_reads : (number : ℕ) → (number ≡ 1) ⊎ (number ≡ 2) → ReadsAs opening_at (2 ∷ number ∷ []) (Large number)
unfolding opening_at opened
large_reads number known =
    ⊎_elim (λ (is : number ≡ 1). subst (λ v. ReadsAs opening_at (2 ∷ v ∷ []) (Large v)) (sym is) (tagged 2 opened_by (tagged 1 (opened 2) (done_reads (Large 1)))))
    (λ (is : number ≡ 2). subst (λ v. ReadsAs opening_at (2 ∷ v ∷ []) (Large v)) (sym is) (tagged 2 opened_by (tagged 2 (opened 2) (done_reads (Large 2)))))
    known

pub opening_reads : (q : Place) → IsOpened q → ReadsAs opening_at (opening_bytes q) q
unfolding opening_at opened
opening_reads Start fits = absurd fits
opening_reads Head fits = tagged 1 opened_by (tagged 1 (opened 1) (done_reads Head))
opening_reads ListedHead fits = tagged 1 opened_by (tagged 2 (opened 1) (done_reads ListedHead))
opening_reads (Large number) known = large_reads number known
opening_reads (EntryCount k) fits = absurd fits
opening_reads (Entries n r k) fits = absurd fits
opening_reads (DropCount r k) fits = absurd fits
opening_reads (Drops n k) fits = absurd fits
opening_reads DerivationCount fits = absurd fits
opening_reads (Derivations n) fits = absurd fits
opening_reads Over fits = absurd fits

pub sender_reads : (ticket : ℕ) (kinds : List ℕ) → IsSender ticket kinds → ReadsAs sender_at (sender_bytes ticket kinds) (ticket, kinds)
unfolding sender_at kinds_at
sender_reads ticket kinds (is_ticket, are_kinds, rise) =
    done_reads (pair_of {A = ℕ} {B = List ℕ}) ⊛ u64_round_trip ticket is_ticket
    ⊛ tested rises (list_at u8_at any_number) (list_bytes u8_bytes kinds) kinds (list_round_trip u8_bytes IsU8 u8_at any_number u8_round_trip kinds are_kinds) rise

pub terms_read : (terms : List Polynomial) → AreTerms terms → ReadsAs (list_at polynomial_at any_number) (list_bytes polynomial_bytes terms) terms
terms_read terms are = list_round_trip polynomial_bytes IsPolynomialInRange polynomial_at any_number polynomial_round_trip terms are.0

pub listed_head_reads : (terms : List Polynomial) (ticket : ℕ) (kinds : List ℕ) → AreTerms terms → IsSender ticket kinds →
    ReadsAs listed_head_at (list_bytes polynomial_bytes terms ++ sender_bytes ticket kinds) (terms, (ticket, kinds))
listed_head_reads terms ticket kinds are fits =
    then_reads (list_at polynomial_at any_number) sender_with (list_bytes polynomial_bytes terms) (sender_bytes ticket kinds) terms (terms, (ticket, kinds)) (terms_read terms are)
    (done_reads (pair_of {A = List Polynomial} {B = ℕ × List ℕ} terms) ⊛ sender_reads ticket kinds fits)

pub count_reads : (most n : ℕ) → IsU32 n → n ≤ most → ReadsAs (count_at most) (u32_bytes n) n
unfolding count_at
count_reads most n fits few = tested (λ k. nat_le k most) u32_at (u32_bytes n) n (u32_round_trip n fits) (le-leb n most few)

pub entry_reads : (k : Naming) (e : Entry) → IsEntry (spelling k) e → entry_within any_types e ≡ true → ReadsAs (own_entry_at (spelling k)) (entry_bytes (spelling k) e) e
unfolding own_entry_at
entry_reads k e fits within = tested (entry_within any_types) (entry_at (spelling k)) (entry_bytes (spelling k) e) e (entry_round_trip (spelling k) (again k) e fits) within

pub drop_reads : (k : Naming) (g : Gap) → IsGap (spelling k) g → gap_within g ≡ true → ReadsAs (own_drop_at (spelling k)) (gap_bytes (spelling k) g) g
unfolding own_drop_at
drop_reads k g fits within = tested gap_within (gap_at (spelling k)) (gap_bytes (spelling k) g) g (gap_round_trip (spelling k) (again k) g fits) within
