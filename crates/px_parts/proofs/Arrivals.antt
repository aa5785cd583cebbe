-- What a step reads comes there, and where it reads nothing, nothing comes.
use Rattle.std.proofs.Common.{◌≡◌, ◌≢◌, ℕ, zero, suc, ◌-◌, ◌≤◌, List, [], ◌++◌, Option, Some, None, Result, Ok, Err, true, refl, sym, ap, subst, ◌∙◌, append_assoc, arith}
use Rattle.std.specs.Prelude.{IsErrOf}
use Rattle.px_terms.specs.Polynomials.{Polynomial}
use Rattle.px_entry.specs.declared.entries.Entry.{Entry}
use Rattle.px_entry.specs.declared.tables.Gap.{Gap}
use Rattle.px_entry.specs.declared.derivations.Derivation.{Derivation}
use Rattle.px_spelling.specs.declared.fault.WireFault.{WireFault}
use Rattle.px_spelling.specs.declared.fault.WireFault.TheVariants.{NotAMessage, NoMemory}
use Rattle.px_spelling.specs.Reading.{Fails}
use Rattle.px_spelling.specs.Numbers.{u32_bytes, IsU32, u32_at, u64_bytes, IsU64, u64_at}
use Rattle.px_spelling.specs.Lists.{list_bytes, IsList, list_at, any_number}
use Rattle.px_spelling.specs.Polynomials.{polynomial_bytes, IsPolynomialInRange, polynomial_at}
use Rattle.px_spelling.specs.ByPlace.{Differ}
use Rattle.px_spelling.specs.Mentions.{entry_mentions, gap_mentions}
use Rattle.px_spelling.specs.Entries.{entry_bytes, IsEntry}
use Rattle.px_spelling.specs.Tables.{gap_bytes, IsGap}
use Rattle.px_spelling.specs.Derivations.{derivation_bytes, IsDerivation, derivation_at}
use Rattle.px_wire.specs.TableRanges.{entry_within, gap_within}
use Rattle.px_wire.specs.Messages.{any_types}
use Rattle.px_parts.specs.declared.part.Part.TheVariants as P
use Rattle.px_parts.specs.declared.next.Next.{Next}
use Rattle.px_parts.specs.declared.next.Next.TheVariants as N
use Rattle.px_parts.specs.Places.{full, listed, spelling, AreInOrder, behind, AllNamed, Start, Head, ListedHead, Large, EntryCount, Entries, DropCount, Drops, DerivationCount, Derivations, Over, IsOpened, opening_bytes}
use Rattle.px_parts.specs.Reading.{opening_at, sender_at, count_at, own_entry_at, own_drop_at}
use Rattle.px_parts.specs.Stream.{IsSender, sender_bytes, opening, head, listed_head, too_large, entry_count, entry, all_entries, drop_count, a_drop, all_drops, derivation_count, derivation, all_derivations, Arrives, IsStuck}
use Rattle.px_parts.specs.Kept.{naming, spelling_by, place_of}
use Rattle.px_parts.proofs.Stuck.{stuck_start, stuck_head, stuck_listed_head, stuck_twice, stuck_large, stuck_entry_count, stuck_entry, stuck_entry_order, stuck_drop_count, stuck_drop, stuck_drop_order, stuck_unnamed, stuck_derivation_count, stuck_derivation}

none_read : {Y : Type 0} (e : WireFault) (read : Option Y) → Fails e read → e ≡ NotAMessage → read ≡ None
none_read NotAMessage read fails is = fails
none_read NoMemory read fails is = absurd cc

abbrev fault_in : {A : Type 0} → Result A WireFault → WireFault
fault_in (Ok x) = NoMemory
fault_in (Err e) = e

-- a fault that is handed on
pub handed_on : {A : Type 0} (r : Result A WireFault) (e f : WireFault) → r ≡ Err f → f ≡ e → IsErrOf r NotAMessage → e ≡ NotAMessage
handed_on r e f is same told = sym same ∙ ap fault_in (sym is ∙ told)

one_less : (n : ℕ) → n ≡ suc n - 1
one_less n = omega arith

-- ---- the first bytes

-- no term is known there
opened_same : (n : Next) (ts : Option (List Polynomial)) → IsOpened (place_of n None) → place_of n None ≡ place_of n ts
opened_same N.Start ts fits = refl
opened_same N.Head ts fits = refl
opened_same N.ListedHead ts fits = refl
opened_same (N.Large number) ts fits = refl
opened_same N.EntryCount ts fits = absurd fits
opened_same (N.Entries n r named) ts fits = absurd fits
opened_same (N.DropCount r named) ts fits = absurd fits
opened_same (N.Drops n named) ts fits = absurd fits
opened_same N.DerivationCount ts fits = refl
opened_same (N.Derivations n) ts fits = refl
opened_same N.Over ts fits = refl

pub opening_arrives : (n : Next) (ts : Option (List Polynomial)) (bytes rest : List ℕ) → IsOpened (place_of n None) → bytes ≡ opening_bytes (place_of n None) ++ rest → Arrives Start bytes None (place_of n ts) rest
opening_arrives n ts bytes rest fits is =
    let q = place_of n None in subst (λ p. Arrives Start bytes None p rest) (opened_same n ts fits) (opening_bytes q, opening q (opening_bytes q) fits refl, is)

pub opening_stuck : (e : WireFault) (bytes : List ℕ) → Fails e (opening_at bytes) → e ≡ NotAMessage → IsStuck Start bytes
opening_stuck e bytes fails is = stuck_start bytes (none_read e (opening_at bytes) fails is)

-- ---- the head

pub head_arrives : (ticket : ℕ) (kinds bytes rest : List ℕ) → IsSender ticket kinds → bytes ≡ sender_bytes ticket kinds ++ rest → Arrives Head bytes (Some (P.Head 1 ticket kinds)) (EntryCount full) rest
head_arrives ticket kinds bytes rest fits is = (sender_bytes ticket kinds, head ticket kinds (sender_bytes ticket kinds) fits refl, is)

pub head_stuck : (e : WireFault) (bytes : List ℕ) → Fails e (sender_at bytes) → e ≡ NotAMessage → IsStuck Head bytes
head_stuck e bytes fails is = stuck_head bytes (none_read e (sender_at bytes) fails is)

pub listed_head_arrives : (all terms : List Polynomial) (ticket : ℕ) (kinds bytes others rest : List ℕ) → bytes ≡ list_bytes polynomial_bytes all ++ others → IsList IsPolynomialInRange any_number all →
    terms ≡ all → Differ all → IsSender ticket kinds → others ≡ sender_bytes ticket kinds ++ rest → Arrives ListedHead bytes (Some (P.Head 2 ticket kinds)) (EntryCount (listed terms 0)) rest
listed_head_arrives all terms ticket kinds bytes others rest first fits same differ sends is =
    let sender = sender_bytes ticket kinds in
    let spelled = list_bytes polynomial_bytes all in
    subst (λ ts. Arrives ListedHead bytes (Some (P.Head 2 ticket kinds)) (EntryCount (listed ts 0)) rest) (sym same)
    (spelled ++ sender, listed_head all ticket kinds (spelled ++ sender) (fits, differ) sends refl, first ∙ ap (λ l. spelled ++ l) is ∙ sym (append_assoc spelled sender rest))

-- the list isn't read
pub list_stuck : (e : WireFault) (bytes : List ℕ) → Fails e (list_at polynomial_at any_number bytes) → e ≡ NotAMessage → IsStuck ListedHead bytes
list_stuck e bytes fails is = stuck_listed_head bytes (rw (none_read e (list_at polynomial_at any_number bytes) fails is) refl)

-- what is behind it isn't
pub behind_list_stuck : (e : WireFault) (bytes others : List ℕ) (all : List Polynomial) → list_at polynomial_at any_number bytes ≡ Some (all, others) → Fails e (sender_at others) → e ≡ NotAMessage →
    IsStuck ListedHead bytes
behind_list_stuck e bytes others all some fails is = stuck_listed_head bytes (rw (some, none_read e (sender_at others) fails is) refl)

-- two of it are the same
pub twice_stuck : (bytes others : List ℕ) (all : List Polynomial) → list_at polynomial_at any_number bytes ≡ Some (all, others) → ¬ Differ all → IsStuck ListedHead bytes
twice_stuck bytes others all some twice = stuck_twice bytes others all some twice

pub large_arrives : (number ticket : ℕ) (bytes rest : List ℕ) → IsU64 ticket → bytes ≡ u64_bytes ticket ++ rest → Arrives (Large number) bytes (Some (P.Large number ticket)) Over rest
large_arrives number ticket bytes rest fits is = (u64_bytes ticket, too_large number ticket (u64_bytes ticket) fits refl, is)

pub large_stuck : (e : WireFault) (number : ℕ) (bytes : List ℕ) → Fails e (u64_at bytes) → e ≡ NotAMessage → IsStuck (Large number) bytes
large_stuck e number bytes fails is = stuck_large number bytes (none_read e (u64_at bytes) fails is)

-- ---- entries

module _ (ts : Option (List Polynomial)) where
  pub spelled_naming : (n : ℕ) → spelling (naming ts n) ≡ spelling_by ts
  spelled_naming n = by_list ts where
    by_list : (o : Option (List Polynomial)) → spelling (naming o n) ≡ spelling_by o
    by_list None = refl
    by_list (Some terms) = refl

  pub entry_count_arrives : (n : ℕ) (bytes rest : List ℕ) → IsU32 n → n ≤ 129 → bytes ≡ u32_bytes n ++ rest → Arrives (EntryCount (naming ts 0)) bytes None (Entries n (129 - n) (naming ts 0)) rest
  entry_count_arrives n bytes rest fits few is = (u32_bytes n, entry_count n (129 - n) (naming ts 0) (u32_bytes n) fits few refl refl, is)

  pub entry_count_stuck : (e : WireFault) (bytes : List ℕ) → Fails e (count_at 129 bytes) → e ≡ NotAMessage → IsStuck (EntryCount (naming ts 0)) bytes
  entry_count_stuck e bytes fails is = stuck_entry_count (naming ts 0) bytes (none_read e (count_at 129 bytes) fails is)

  pub entry_arrives : (left rows named count : ℕ) (e : Entry) (bytes rest : List ℕ) → left ≢ 0 → IsEntry (spelling_by ts) e → entry_within any_types e ≡ true → bytes ≡ entry_bytes (spelling_by ts) e ++ rest →
      AreInOrder (naming ts named) (entry_mentions e) → naming ts count ≡ behind (naming ts named) (entry_mentions e) →
      Arrives (Entries left rows (naming ts named)) bytes (Some (P.Entry e)) (Entries (left - 1) rows (naming ts count)) rest
  entry_arrives zero rows named count e bytes rest some fits within is order on = absurd (some refl)
  entry_arrives (suc n) rows named count e bytes rest some fits within is order on =
      let k = naming ts named in
      let same = sym (spelled_naming named) in
      subst (λ m. Arrives (Entries (suc n) rows k) bytes (Some (P.Entry e)) (Entries m rows (naming ts count)) rest) (one_less n)
      (entry_bytes (spelling k) e, entry n rows k (naming ts count) e (entry_bytes (spelling k) e) (subst (λ p. IsEntry p e) same fits) within order on refl, subst (λ p. bytes ≡ entry_bytes p e ++ rest) same is)

  pub entry_stuck : (e : WireFault) (left rows named : ℕ) (bytes : List ℕ) → left ≢ 0 → Fails e (own_entry_at (spelling_by ts) bytes) → e ≡ NotAMessage → IsStuck (Entries left rows (naming ts named)) bytes
  entry_stuck e zero rows named bytes some fails is = absurd (some refl)
  entry_stuck e (suc n) rows named bytes some fails is =
      stuck_entry n rows (naming ts named) bytes (subst (λ p. own_entry_at p bytes ≡ None) (sym (spelled_naming named)) (none_read e (own_entry_at (spelling_by ts) bytes) fails is))

  -- it passes over a term
  pub entry_passes_over : (left rows named : ℕ) (e : Entry) (bytes rest : List ℕ) → left ≢ 0 → own_entry_at (spelling_by ts) bytes ≡ Some (e, rest) → ¬ AreInOrder (naming ts named) (entry_mentions e) →
      IsStuck (Entries left rows (naming ts named)) bytes
  entry_passes_over zero rows named e bytes rest some read other = absurd (some refl)
  entry_passes_over (suc n) rows named e bytes rest some read other =
      stuck_entry_order n rows (naming ts named) bytes rest e (subst (λ p. own_entry_at p bytes ≡ Some (e, rest)) (sym (spelled_naming named)) read) other

  pub no_entry_arrives : (left rows named : ℕ) (bytes : List ℕ) → left ≡ 0 → Arrives (Entries left rows (naming ts named)) bytes None (DropCount rows (naming ts named)) bytes
  no_entry_arrives zero rows named bytes none = ([], all_entries rows (naming ts named) [] refl, refl)
  no_entry_arrives (suc n) rows named bytes none = absurd (omega arith)

  -- ---- drops

  pub drop_count_arrives : (n rows named : ℕ) (bytes rest : List ℕ) → IsU32 n → n ≤ rows → bytes ≡ u32_bytes n ++ rest → Arrives (DropCount rows (naming ts named)) bytes None (Drops n (naming ts named)) rest
  drop_count_arrives n rows named bytes rest fits few is = (u32_bytes n, drop_count n rows (naming ts named) (u32_bytes n) fits few refl, is)

  pub drop_count_stuck : (e : WireFault) (rows named : ℕ) (bytes : List ℕ) → Fails e (count_at rows bytes) → e ≡ NotAMessage → IsStuck (DropCount rows (naming ts named)) bytes
  drop_count_stuck e rows named bytes fails is = stuck_drop_count rows (naming ts named) bytes (none_read e (count_at rows bytes) fails is)

  pub drop_arrives : (left named count : ℕ) (g : Gap) (bytes rest : List ℕ) → left ≢ 0 → IsGap (spelling_by ts) g → gap_within g ≡ true → bytes ≡ gap_bytes (spelling_by ts) g ++ rest →
      AreInOrder (naming ts named) (gap_mentions g) → naming ts count ≡ behind (naming ts named) (gap_mentions g) →
      Arrives (Drops left (naming ts named)) bytes (Some (P.Drop g)) (Drops (left - 1) (naming ts count)) rest
  drop_arrives zero named count g bytes rest some fits within is order on = absurd (some refl)
  drop_arrives (suc n) named count g bytes rest some fits within is order on =
      let k = naming ts named in
      let same = sym (spelled_naming named) in
      subst (λ m. Arrives (Drops (suc n) k) bytes (Some (P.Drop g)) (Drops m (naming ts count)) rest) (one_less n)
      (gap_bytes (spelling k) g, a_drop n k (naming ts count) g (gap_bytes (spelling k) g) (subst (λ p. IsGap p g) same fits) within order on refl, subst (λ p. bytes ≡ gap_bytes p g ++ rest) same is)

  pub drop_stuck : (e : WireFault) (left named : ℕ) (bytes : List ℕ) → left ≢ 0 → Fails e (own_drop_at (spelling_by ts) bytes) → e ≡ NotAMessage → IsStuck (Drops left (naming ts named)) bytes
  drop_stuck e zero named bytes some fails is = absurd (some refl)
  drop_stuck e (suc n) named bytes some fails is =
      stuck_drop n (naming ts named) bytes (subst (λ p. own_drop_at p bytes ≡ None) (sym (spelled_naming named)) (none_read e (own_drop_at (spelling_by ts) bytes) fails is))

  pub drop_passes_over : (left named : ℕ) (g : Gap) (bytes rest : List ℕ) → left ≢ 0 → own_drop_at (spelling_by ts) bytes ≡ Some (g, rest) → ¬ AreInOrder (naming ts named) (gap_mentions g) →
      IsStuck (Drops left (naming ts named)) bytes
  drop_passes_over zero named g bytes rest some read other = absurd (some refl)
  drop_passes_over (suc n) named g bytes rest some read other =
      stuck_drop_order n (naming ts named) bytes rest g (subst (λ p. own_drop_at p bytes ≡ Some (g, rest)) (sym (spelled_naming named)) read) other

  pub no_drop_arrives : (left named : ℕ) (bytes : List ℕ) → left ≡ 0 → AllNamed (naming ts named) → Arrives (Drops left (naming ts named)) bytes None DerivationCount bytes
  no_drop_arrives zero named bytes none all = ([], all_drops (naming ts named) [] all refl, refl)
  no_drop_arrives (suc n) named bytes none all = absurd (omega arith)

  -- a term isn't named
  pub unnamed_stuck : (left named : ℕ) (bytes : List ℕ) → left ≡ 0 → ¬ AllNamed (naming ts named) → IsStuck (Drops left (naming ts named)) bytes
  unnamed_stuck zero named bytes none other = stuck_unnamed (naming ts named) bytes other
  unnamed_stuck (suc n) named bytes none other = absurd (omega arith)

-- ---- derivations

pub derivation_count_arrives : (n : ℕ) (bytes rest : List ℕ) → IsU32 n → bytes ≡ u32_bytes n ++ rest → Arrives DerivationCount bytes None (Derivations n) rest
derivation_count_arrives n bytes rest fits is = (u32_bytes n, derivation_count n (u32_bytes n) fits refl, is)

pub derivation_count_stuck : (e : WireFault) (bytes : List ℕ) → Fails e (u32_at bytes) → e ≡ NotAMessage → IsStuck DerivationCount bytes
derivation_count_stuck e bytes fails is = stuck_derivation_count bytes (none_read e (u32_at bytes) fails is)

pub derivation_arrives : (left : ℕ) (d : Derivation) (bytes rest : List ℕ) → left ≢ 0 → IsDerivation d → bytes ≡ derivation_bytes d ++ rest →
    Arrives (Derivations left) bytes (Some (P.Derivation d)) (Derivations (left - 1)) rest
derivation_arrives zero d bytes rest some fits is = absurd (some refl)
derivation_arrives (suc n) d bytes rest some fits is =
    subst (λ k. Arrives (Derivations (suc n)) bytes (Some (P.Derivation d)) (Derivations k) rest) (one_less n) (derivation_bytes d, derivation n d (derivation_bytes d) fits refl, is)

pub derivation_stuck : (e : WireFault) (left : ℕ) (bytes : List ℕ) → left ≢ 0 → Fails e (derivation_at bytes) → e ≡ NotAMessage → IsStuck (Derivations left) bytes
derivation_stuck e zero bytes some fails is = absurd (some refl)
derivation_stuck e (suc n) bytes some fails is = stuck_derivation n bytes (none_read e (derivation_at bytes) fails is)

pub no_derivation_arrives : (left : ℕ) (bytes : List ℕ) → left ≡ 0 → Arrives (Derivations left) bytes None Over bytes
no_derivation_arrives zero bytes none = ([], all_derivations [] refl, refl)
no_derivation_arrives (suc n) bytes none = absurd (omega arith)
