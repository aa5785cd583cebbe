-- Where nothing is read, or what is read doesn't belong there, nothing comes.
use Rattle.std.proofs.Common.{◌≡◌, ℕ, zero, suc, List, ◌++◌, Some, None, refl, sym, ap, subst, ◌∙◌, append_assoc}
use Rattle.std.proofs.lemmas.Option.{same_Some}
use Rattle.px_terms.specs.Polynomials.{Polynomial}
use Rattle.px_entry.specs.declared.entries.Entry.{Entry}
use Rattle.px_entry.specs.declared.tables.Gap.{Gap}
use Rattle.px_spelling.specs.Reading.{Reader}
use Rattle.px_spelling.specs.Numbers.{u32_at, u64_at}
use Rattle.px_spelling.specs.Lists.{list_bytes, list_at, any_number}
use Rattle.px_spelling.specs.Polynomials.{polynomial_bytes, polynomial_at}
use Rattle.px_spelling.specs.ByPlace.{Differ}
use Rattle.px_spelling.specs.Mentions.{entry_mentions, gap_mentions}
use Rattle.px_spelling.specs.Tables.{most_rows}
use Rattle.px_spelling.specs.Derivations.{derivation_at}
use Rattle.px_parts.specs.Places.{Naming, spelling, AreInOrder, AllNamed, Start, Head, ListedHead, Large, EntryCount, Entries, DropCount, Drops, DerivationCount, Derivations, Over}
use Rattle.px_parts.specs.Reading.{opening_at, sender_at, listed_head_at, count_at, own_entry_at, own_drop_at}
use Rattle.px_parts.specs.Stream.{sender_bytes, opening, head, listed_head, too_large, entry_count, entry, drop_count, a_drop, all_drops, derivation_count, derivation, IsStuck}
use Rattle.px_spelling.proofs.RoundTrip.{ReadsAs, u32_round_trip, u64_round_trip}
use Rattle.px_spelling.proofs.DerivationRoundTrips.{derivation_round_trip}
use Rattle.px_parts.proofs.ComesReads.{opening_reads, sender_reads, terms_read, listed_head_reads, count_reads, entry_reads, drop_reads}

unread : {A : Type 0} (at : Reader A) (bytes front spelled rest : List ℕ) (x : A) → at bytes ≡ None → ReadsAs at spelled x → front ≡ spelled → bytes ≡ front ++ rest → ⊥
unread {A} at bytes front spelled rest x none read same is =
    let found : A × List ℕ = (x, rest) in
    let both : None ≡ Some found = sym none ∙ ap at (is ∙ ap (λ l. l ++ rest) same) ∙ read.reads rest in absurd cc

-- what is read is what comes
read_here : {A : Type 0} (at : Reader A) (bytes front spelled rest behind : List ℕ) (x y : A) → at bytes ≡ Some (y, behind) → ReadsAs at spelled x → front ≡ spelled → bytes ≡ front ++ rest → y ≡ x
read_here {A} at bytes front spelled rest behind x y some read same is =
    let found : A × List ℕ = (x, rest) in
    let told : A × List ℕ = (y, behind) in
    let both : Some told ≡ Some found = sym some ∙ ap at (is ∙ ap (λ l. l ++ rest) same) ∙ read.reads rest in
    ap (λ z. z.0) (same_Some told found both)

pub stuck_start : (bytes : List ℕ) → opening_at bytes ≡ None → IsStuck Start bytes
stuck_start bytes none _ _ rest (front, opening q _ fits same, is) = unread opening_at bytes front _ rest q none (opening_reads q fits) same is

pub stuck_head : (bytes : List ℕ) → sender_at bytes ≡ None → IsStuck Head bytes
stuck_head bytes none _ _ rest (front, head ticket kinds _ fits same, is) = unread sender_at bytes front _ rest (ticket, kinds) none (sender_reads ticket kinds fits) same is

pub stuck_listed_head : (bytes : List ℕ) → listed_head_at bytes ≡ None → IsStuck ListedHead bytes
stuck_listed_head bytes none _ _ rest (front, listed_head terms ticket kinds _ are fits same, is) =
    unread listed_head_at bytes front _ rest (terms, (ticket, kinds)) none (listed_head_reads terms ticket kinds are fits) same is

-- a list in which two are the same
pub stuck_twice : (bytes behind : List ℕ) (all : List Polynomial) → list_at polynomial_at any_number bytes ≡ Some (all, behind) → ¬ Differ all → IsStuck ListedHead bytes
stuck_twice bytes behind all some twice _ _ rest (front, listed_head terms ticket kinds _ are fits same, is) =
    let spelled = list_bytes polynomial_bytes terms in
    let joined : bytes ≡ spelled ++ (sender_bytes ticket kinds ++ rest) = is ∙ ap (λ l. l ++ rest) same ∙ append_assoc spelled (sender_bytes ticket kinds) rest in
    let own : all ≡ terms = read_here (list_at polynomial_at any_number) bytes spelled spelled (sender_bytes ticket kinds ++ rest) behind terms all some (terms_read terms are) refl joined in
    twice (subst Differ (sym own) are.1)

pub stuck_large : (number : ℕ) (bytes : List ℕ) → u64_at bytes ≡ None → IsStuck (Large number) bytes
stuck_large number bytes none _ _ rest (front, too_large _ ticket _ fits same, is) = unread u64_at bytes front _ rest ticket none (u64_round_trip ticket fits) same is

pub stuck_entry_count : (k : Naming) (bytes : List ℕ) → count_at most_rows bytes ≡ None → IsStuck (EntryCount k) bytes
stuck_entry_count k bytes none _ _ rest (front, entry_count n r _ _ fits few rows same, is) = unread (count_at most_rows) bytes front _ rest n none (count_reads most_rows n fits few) same is

pub stuck_entry : (n r : ℕ) (k : Naming) (bytes : List ℕ) → own_entry_at (spelling k) bytes ≡ None → IsStuck (Entries (suc n) r k) bytes
stuck_entry n r k bytes none _ _ rest (front, entry _ _ _ _ e _ fits within order on same, is) = unread (own_entry_at (spelling k)) bytes front _ rest e none (entry_reads k e fits within) same is

-- an entry that passes over a term
pub stuck_entry_order : (n r : ℕ) (k : Naming) (bytes behind : List ℕ) (e : Entry) → own_entry_at (spelling k) bytes ≡ Some (e, behind) → ¬ AreInOrder k (entry_mentions e) → IsStuck (Entries (suc n) r k) bytes
stuck_entry_order n r k bytes behind e some other _ _ rest (front, entry _ _ _ _ x _ fits within order on same, is) =
    let own : e ≡ x = read_here (own_entry_at (spelling k)) bytes front _ rest behind x e some (entry_reads k x fits within) same is in
    other (subst (λ z. AreInOrder k (entry_mentions z)) (sym own) order)

pub stuck_drop_count : (r : ℕ) (k : Naming) (bytes : List ℕ) → count_at r bytes ≡ None → IsStuck (DropCount r k) bytes
stuck_drop_count r k bytes none _ _ rest (front, drop_count n _ _ _ fits few same, is) = unread (count_at r) bytes front _ rest n none (count_reads r n fits few) same is

pub stuck_drop : (n : ℕ) (k : Naming) (bytes : List ℕ) → own_drop_at (spelling k) bytes ≡ None → IsStuck (Drops (suc n) k) bytes
stuck_drop n k bytes none _ _ rest (front, a_drop _ _ _ g _ fits within order on same, is) = unread (own_drop_at (spelling k)) bytes front _ rest g none (drop_reads k g fits within) same is

-- a drop that passes over a term
pub stuck_drop_order : (n : ℕ) (k : Naming) (bytes behind : List ℕ) (g : Gap) → own_drop_at (spelling k) bytes ≡ Some (g, behind) → ¬ AreInOrder k (gap_mentions g) → IsStuck (Drops (suc n) k) bytes
stuck_drop_order n k bytes behind g some other _ _ rest (front, a_drop _ _ _ x _ fits within order on same, is) =
    let own : g ≡ x = read_here (own_drop_at (spelling k)) bytes front _ rest behind x g some (drop_reads k x fits within) same is in
    other (subst (λ z. AreInOrder k (gap_mentions z)) (sym own) order)

-- a term that isn't named
pub stuck_unnamed : (k : Naming) (bytes : List ℕ) → ¬ AllNamed k → IsStuck (Drops zero k) bytes
stuck_unnamed k bytes other _ _ rest (front, all_drops _ _ all same, is) = other all

pub stuck_derivation_count : (bytes : List ℕ) → u32_at bytes ≡ None → IsStuck DerivationCount bytes
stuck_derivation_count bytes none _ _ rest (front, derivation_count n _ fits same, is) = unread u32_at bytes front _ rest n none (u32_round_trip n fits) same is

pub stuck_derivation : (n : ℕ) (bytes : List ℕ) → derivation_at bytes ≡ None → IsStuck (Derivations (suc n)) bytes
stuck_derivation n bytes none _ _ rest (front, derivation _ d _ fits same, is) = unread derivation_at bytes front _ rest d none (derivation_round_trip d fits) same is

pub stuck_over : (bytes : List ℕ) → IsStuck Over bytes
stuck_over bytes x q rest (front, comes, is) = elim comes [ ]
