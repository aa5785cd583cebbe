-- What may come at each place of a message, and which parts bytes hold.
use Rattle.std.specs.Prelude.{◌≡◌, ℕ, suc, zero, ◌-◌, ◌≤◌, List, [], ◌∷◌, ◌++◌, Option, Some, None, true}
use Rattle.px_terms.specs.Polynomials.{Polynomial}
use Rattle.px_entry.specs.declared.entries.Entry.{Entry}
use Rattle.px_entry.specs.declared.tables.Gap.{Gap}
use Rattle.px_entry.specs.declared.derivations.Derivation.{Derivation}
use Rattle.px_spelling.specs.Numbers.{u8_bytes, IsU8, u32_bytes, IsU32, u64_bytes, IsU64}
use Rattle.px_spelling.specs.Lists.{list_bytes, IsList, any_number}
use Rattle.px_spelling.specs.Polynomials.{polynomial_bytes, IsPolynomialInRange}
use Rattle.px_spelling.specs.ByPlace.{Differ}
use Rattle.px_spelling.specs.Mentions.{entry_mentions, gap_mentions}
use Rattle.px_spelling.specs.Entries.{entry_bytes, IsEntry}
use Rattle.px_spelling.specs.Tables.{gap_bytes, IsGap, most_rows}
use Rattle.px_spelling.specs.Derivations.{derivation_bytes, IsDerivation}
use Rattle.px_wire.specs.TableRanges.{entry_within, gap_within}
use Rattle.px_wire.specs.JobRanges.{rises}
use Rattle.px_wire.specs.Messages.{any_types}
use Rattle.px_parts.specs.declared.part.Part.{Part}
use Rattle.px_parts.specs.declared.part.Part.TheVariants as P
use Rattle.px_parts.specs.Places.{Naming, full, listed, spelling, AreInOrder, behind, AllNamed, Place, Start, Head, ListedHead, Large, EntryCount, Entries, DropCount, Drops, DerivationCount, Derivations, Over, IsOpened, opening_bytes}

-- a ticket and the kinds of a worker
abbrev pub IsSender : ℕ → List ℕ → Type 0
IsSender ticket kinds = IsU64 ticket × IsList IsU8 any_number kinds × (rises kinds ≡ true)

abbrev pub sender_bytes : ℕ → List ℕ → List ℕ
sender_bytes ticket kinds = u64_bytes ticket ++ list_bytes u8_bytes kinds

-- a list of terms
abbrev pub AreTerms : List Polynomial → Type 0
AreTerms terms = IsList IsPolynomialInRange any_number terms × Differ terms

-- At a place these bytes come, which are a part, a count or the first bytes, and then that place. After the last item of a list
-- nothing is said.
pub data Comes : Place → Option Part → Place → List ℕ → Type 0 where
  opening : (q : Place) (bytes : List ℕ) → IsOpened q → bytes ≡ opening_bytes q → Comes Start None q bytes
  head : (ticket : ℕ) (kinds bytes : List ℕ) → IsSender ticket kinds → bytes ≡ sender_bytes ticket kinds → Comes Head (Some (P.Head 1 ticket kinds)) (EntryCount full) bytes
  listed_head : (terms : List Polynomial) (ticket : ℕ) (kinds bytes : List ℕ) → AreTerms terms → IsSender ticket kinds → bytes ≡ list_bytes polynomial_bytes terms ++ sender_bytes ticket kinds →
      Comes ListedHead (Some (P.Head 2 ticket kinds)) (EntryCount (listed terms 0)) bytes
  too_large : (number ticket : ℕ) (bytes : List ℕ) → IsU64 ticket → bytes ≡ u64_bytes ticket → Comes (Large number) (Some (P.Large number ticket)) Over bytes
  entry_count : (n r : ℕ) (k : Naming) (bytes : List ℕ) → IsU32 n → n ≤ most_rows → r ≡ most_rows - n → bytes ≡ u32_bytes n → Comes (EntryCount k) None (Entries n r k) bytes
  entry : (n r : ℕ) (k after : Naming) (e : Entry) (bytes : List ℕ) → IsEntry (spelling k) e → entry_within any_types e ≡ true → AreInOrder k (entry_mentions e) → after ≡ behind k (entry_mentions e) →
      bytes ≡ entry_bytes (spelling k) e → Comes (Entries (suc n) r k) (Some (P.Entry e)) (Entries n r after) bytes
  all_entries : (r : ℕ) (k : Naming) (bytes : List ℕ) → bytes ≡ [] → Comes (Entries zero r k) None (DropCount r k) bytes
  drop_count : (n r : ℕ) (k : Naming) (bytes : List ℕ) → IsU32 n → n ≤ r → bytes ≡ u32_bytes n → Comes (DropCount r k) None (Drops n k) bytes
  a_drop : (n : ℕ) (k after : Naming) (g : Gap) (bytes : List ℕ) → IsGap (spelling k) g → gap_within g ≡ true → AreInOrder k (gap_mentions g) → after ≡ behind k (gap_mentions g) →
      bytes ≡ gap_bytes (spelling k) g → Comes (Drops (suc n) k) (Some (P.Drop g)) (Drops n after) bytes
  all_drops : (k : Naming) (bytes : List ℕ) → AllNamed k → bytes ≡ [] → Comes (Drops zero k) None DerivationCount bytes
  derivation_count : (n : ℕ) (bytes : List ℕ) → IsU32 n → bytes ≡ u32_bytes n → Comes DerivationCount None (Derivations n) bytes
  derivation : (n : ℕ) (d : Derivation) (bytes : List ℕ) → IsDerivation d → bytes ≡ derivation_bytes d →
      Comes (Derivations (suc n)) (Some (P.Derivation d)) (Derivations n) bytes
  all_derivations : (bytes : List ℕ) → bytes ≡ [] → Comes (Derivations zero) None Over bytes

-- this comes at the front of bytes, and these are left
abbrev pub Arrives : Place → List ℕ → Option Part → Place → List ℕ → Type 0
Arrives p bytes x q rest = (front : List ℕ) × Comes p x q front × (bytes ≡ front ++ rest)

-- nothing comes at the front of bytes: they are too few, or wrong
abbrev pub IsStuck : Place → List ℕ → Type 0
IsStuck p bytes = (x : Option Part) (q : Place) (rest : List ℕ) → ¬ Arrives p bytes x q rest

-- a part, or none
abbrev pub those : Option Part → List Part
those None = []
those (Some x) = x ∷ []

-- From one place to another bytes hold these parts, and these are left.
pub data Streams : Place → List ℕ → List Part → Place → List ℕ → Type 0 where
  stays : {p : Place} {bytes : List ℕ} → Streams p bytes [] p bytes
  goes : {p q r : Place} {bytes after rest : List ℕ} {parts more : List Part} (x : Option Part) →
      Arrives p bytes x q after → Streams q after more r rest → parts ≡ those x ++ more → Streams p bytes parts r rest
