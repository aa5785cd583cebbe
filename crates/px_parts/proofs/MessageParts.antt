-- The bytes of a message hold its parts, in each version.
use Rattle.std.proofs.Common.{◌≡◌, inl, inr, ⊎_elim, ℕ, ◌-◌, ◌<◌, ◌≤◌, ◌^◌, List, [], ◌∷◌, ◌++◌, length, map, true, Option, Some, None, refl, sym, ap, subst, ◌∙◌, append_assoc, append-nil, arith}
use Rattle.std.specs.List.{flat_map, list_all, AllByRecursion}
use Rattle.std.proofs.lemmas.Bool.{and_parts}
use Rattle.std.proofs.lemmas.List.Concat.{flat_map-cons}
use Rattle.px_terms.specs.Polynomials.{Polynomial}
use Rattle.px_entry.specs.declared.entries.Entry.{Entry}
use Rattle.px_entry.specs.declared.tables.Gap.{Gap}
use Rattle.px_entry.specs.declared.tables.Table.{Table}
use Rattle.px_entry.specs.declared.derivations.Derivation.{Derivation}
use Rattle.px_spelling.specs.Numbers.{u32_bytes, IsU32, u64_bytes}
use Rattle.px_spelling.specs.Lists.{list_bytes, IsList, any_number}
use Rattle.px_spelling.specs.Polynomials.{polynomial_bytes, in_full}
use Rattle.px_spelling.specs.ByPlace.{by_place}
use Rattle.px_spelling.specs.Mentions.{entry_mentions, gap_mentions, table_mentions}
use Rattle.px_spelling.specs.Entries.{entry_bytes, IsEntry}
use Rattle.px_spelling.specs.Tables.{gap_bytes, IsGap, table_bytes, IsTable, most_rows}
use Rattle.px_spelling.specs.Derivations.{derivation_bytes, IsDerivation}
use Rattle.px_spelling.proofs.PlaceLemmas.{all_differ}
use Rattle.px_wire.specs.TableRanges.{entry_within, gap_within, table_within}
use Rattle.px_wire.specs.Messages.{MessageTree, request, reply, large, any_types, IsSaid, IsMessage}
use Rattle.px_wire.specs.Mentions.{terms_of}
use Rattle.px_wire.specs.Versions.{bytes_in, HasVersion}
use Rattle.px_wire.proofs.MessageRanges.{by_terms, terms_fit}
use Rattle.px_parts.specs.declared.part.Part.{Part}
use Rattle.px_parts.specs.declared.part.Part.TheVariants as P
use Rattle.px_parts.specs.Places.{spelling, AllNamed, Start, Head, ListedHead, Large, EntryCount, Entries, DropCount, Drops, DerivationCount, Derivations, Over}
use Rattle.px_parts.specs.Parts.{table_parts, parts_of, IsReplying}
use Rattle.px_parts.specs.Stream.{sender_bytes, opening, head, listed_head, too_large, entry_count, entry, all_entries, drop_count, a_drop, all_drops, derivation_count, derivation, all_derivations, Streams, stays, goes}
use Rattle.px_parts.specs.Kept.{spelling_by}
use Rattle.px_parts.proofs.Naming.{after, IsFront, spelled_after, front_before, behind_after, in_order, all_first}

derivations_stream : (ds : List Derivation) → AllByRecursion IsDerivation ds → Streams (Derivations (length ds)) (flat_map derivation_bytes ds) (map P.Derivation ds) Over []
derivations_stream [] all = goes None ([], all_derivations [] refl, refl) stays refl
derivations_stream (d ∷ ds) all =
    goes (Some (P.Derivation d)) (derivation_bytes d, derivation (length ds) d (derivation_bytes d) all.0 refl, flat_map-cons derivation_bytes d ds) (derivations_stream ds all.1) refl

-- Where there is this list of terms, or none, and these were mentioned before. What is mentioned in all is a front of the list.
module _ (o : Option (List Polynomial)) (bytes : List ℕ) (parts : List Part) where
  drops_stream : (ms : List Polynomial) (gs : List Gap) → AllByRecursion (IsGap (spelling_by o)) gs → list_all gap_within gs ≡ true → IsFront o (ms ++ flat_map gap_mentions gs) →
      AllNamed (after o (ms ++ flat_map gap_mentions gs)) → Streams DerivationCount bytes parts Over [] →
      Streams (Drops (length gs) (after o ms)) (flat_map (gap_bytes (spelling_by o)) gs ++ bytes) (map P.Drop gs ++ parts) Over []
  drops_stream ms [] all within front named next = goes None ([], all_drops (after o ms) [] (subst (λ l. AllNamed (after o l)) (append-nil ms) named) refl, refl) next refl
  drops_stream ms (g ∷ gs) all within front named next =
      let p = spelling_by o in
      let own = gap_mentions g in
      let both = and_parts (gap_within g) (list_all gap_within gs) within in
      let joined : ms ++ flat_map gap_mentions (g ∷ gs) ≡ (ms ++ own) ++ flat_map gap_mentions gs = ap (λ l. ms ++ l) (flat_map-cons gap_mentions g gs) ∙ sym (append_assoc ms own (flat_map gap_mentions gs)) in
      let front_all : IsFront o ((ms ++ own) ++ flat_map gap_mentions gs) = subst (λ l. IsFront o l) joined front in
      let front_own : IsFront o (ms ++ own) = front_before o (ms ++ own) (flat_map gap_mentions gs) front_all in
      let front_first : IsFront o ms = front_before o ms own front_own in
      let k = after o ms in
      let same : spelling k ≡ p = spelled_after o ms in
      goes (Some (P.Drop g)) (
        gap_bytes p g,
        a_drop (length gs) k (after o (ms ++ own)) g (gap_bytes p g) (subst (λ q. IsGap q g) (sym same) all.0) both.0 (in_order o ms own front_first front_own) (sym (behind_after o ms own front_first))
            (ap (λ q. gap_bytes q g) (sym same)),
        ap (λ l. l ++ bytes) (flat_map-cons (gap_bytes p) g gs) ∙ append_assoc (gap_bytes p g) (flat_map (gap_bytes p) gs) bytes,
      )
      (drops_stream (ms ++ own) gs all.1 both.1 front_all (subst (λ l. AllNamed (after o l)) joined named) next) refl

  entries_stream : (r : ℕ) (ms : List Polynomial) (es : List Entry) → AllByRecursion (IsEntry (spelling_by o)) es → list_all (entry_within any_types) es ≡ true → IsFront o (ms ++ flat_map entry_mentions es) →
      Streams (DropCount r (after o (ms ++ flat_map entry_mentions es))) bytes parts Over [] →
      Streams (Entries (length es) r (after o ms)) (flat_map (entry_bytes (spelling_by o)) es ++ bytes) (map P.Entry es ++ parts) Over []
  entries_stream r ms [] all within front next =
      goes None ([], all_entries r (after o ms) [] refl, refl) (subst (λ l. Streams (DropCount r (after o l)) bytes parts Over []) (append-nil ms) next) refl
  entries_stream r ms (e ∷ es) all within front next =
      let p = spelling_by o in
      let own = entry_mentions e in
      let both = and_parts (entry_within any_types e) (list_all (entry_within any_types) es) within in
      let joined : ms ++ flat_map entry_mentions (e ∷ es) ≡ (ms ++ own) ++ flat_map entry_mentions es = ap (λ l. ms ++ l) (flat_map-cons entry_mentions e es) ∙ sym (append_assoc ms own (flat_map entry_mentions es)) in
      let front_all : IsFront o ((ms ++ own) ++ flat_map entry_mentions es) = subst (λ l. IsFront o l) joined front in
      let front_own : IsFront o (ms ++ own) = front_before o (ms ++ own) (flat_map entry_mentions es) front_all in
      let front_first : IsFront o ms = front_before o ms own front_own in
      let k = after o ms in
      let same : spelling k ≡ p = spelled_after o ms in
      goes (Some (P.Entry e)) (
        entry_bytes p e,
        entry (length es) r k (after o (ms ++ own)) e (entry_bytes p e) (subst (λ q. IsEntry q e) (sym same) all.0) both.0 (in_order o ms own front_first front_own) (sym (behind_after o ms own front_first))
            (ap (λ q. entry_bytes q e) (sym same)),
        ap (λ l. l ++ bytes) (flat_map-cons (entry_bytes p) e es) ∙ append_assoc (entry_bytes p e) (flat_map (entry_bytes p) es) bytes,
      )
      (entries_stream r (ms ++ own) es all.1 both.1 front_all (subst (λ l. Streams (DropCount r (after o l)) bytes parts Over []) joined next)) refl

-- the bytes of a table and of what stands behind it, list by list
pub by_lists : (a b c d rest : List ℕ) → ((a ++ b) ++ (c ++ d)) ++ rest ≡ a ++ (b ++ (c ++ (d ++ rest)))
by_lists a b c d rest =
    append_assoc (a ++ b) (c ++ d) rest ∙ append_assoc a b ((c ++ d) ++ rest) ∙ ap (λ l. a ++ (b ++ l)) (append_assoc c d rest)

table_stream : (o : Option (List Polynomial)) (table : Table) (ds : List Derivation) → IsTable (spelling_by o) table → table_within any_types table ≡ true → IsList IsDerivation any_number ds →
    IsFront o (table_mentions table) → AllNamed (after o (table_mentions table)) →
    Streams (EntryCount (after o [])) (table_bytes (spelling_by o) table ++ list_bytes derivation_bytes ds) (table_parts table ds) Over []
table_stream o table ds (are_entries, are_drops) within are_derivations front named =
    let p = spelling_by o in
    let es = table.entries in
    let gs = table.drops in
    let r = most_rows - length es in
    let tail = list_bytes derivation_bytes ds in
    let both = and_parts (list_all (entry_within any_types) es) (list_all gap_within gs) within in
    let ends : Streams DerivationCount tail (map P.Derivation ds) Over [] =
    goes None (u32_bytes (length ds), derivation_count (length ds) (u32_bytes (length ds)) are_derivations.0 refl, refl) (derivations_stream ds are_derivations.2) refl in
    let first = flat_map entry_mentions es in
    let behind : List ℕ = u32_bytes (length gs) ++ (flat_map (gap_bytes p) gs ++ tail) in
    let dropped : Streams (DropCount r (after o first)) behind (map P.Drop gs ++ map P.Derivation ds) Over [] =
    goes None (u32_bytes (length gs), drop_count (length gs) r (after o first) (u32_bytes (length gs)) are_drops.0 are_drops.1 refl, refl)
    (drops_stream o tail (map P.Derivation ds) first gs are_drops.2 both.1 front named ends) refl in
    let body : List ℕ = u32_bytes (length es) ++ (flat_map (entry_bytes p) es ++ behind) in
    let counted : Streams (EntryCount (after o [])) body (table_parts table ds) Over [] =
    goes None (u32_bytes (length es), entry_count (length es) r (after o []) (u32_bytes (length es)) are_entries.0 are_entries.1 refl refl, refl)
    (entries_stream o behind (map P.Drop gs ++ map P.Derivation ds) r [] es are_entries.2 both.0 (front_before o first (flat_map gap_mentions gs) front) dropped) refl in
    subst (λ l. Streams (EntryCount (after o [])) l (table_parts table ds) Over [])
    (sym (by_lists (u32_bytes (length es)) (flat_map (entry_bytes p) es) (u32_bytes (length gs)) (flat_map (gap_bytes p) gs) tail)) counted

pub few : (n : ℕ) → n < 2 ^ 32 → n ≤ any_number
few n small = omega arith

full_streams : (m : MessageTree) → IsReplying m → IsMessage m → Streams Start (bytes_in 1 m) (parts_of 1 m) Over []
full_streams (request j) replying fits = absurd replying
full_streams (reply ticket kinds table ds) replying ((is_ticket, are_kinds, is_table, are_derivations), rise, within) =
    let sender = sender_bytes ticket kinds in
    let rest = table_bytes in_full table ++ list_bytes derivation_bytes ds in
    goes None (1 ∷ 1 ∷ [], opening Head (1 ∷ 1 ∷ []) tt refl, refl)
    (goes (Some (P.Head 1 ticket kinds)) (sender, head ticket kinds sender (is_ticket, are_kinds, rise) refl, append_assoc sender (table_bytes in_full table) (list_bytes derivation_bytes ds))
    (table_stream None table ds is_table within are_derivations tt tt) refl) refl
full_streams (large ticket) replying is_ticket =
    goes None (2 ∷ 1 ∷ [], opening (Large 1) (2 ∷ 1 ∷ []) (inl refl) refl, refl)
    (goes (Some (P.Large 1 ticket)) (u64_bytes ticket, too_large 1 ticket (u64_bytes ticket) is_ticket refl, sym (append-nil (u64_bytes ticket))) stays refl) refl

shared_streams : (m : MessageTree) → IsReplying m → IsMessage m → IsU32 (length (terms_of m)) → Streams Start (bytes_in 2 m) (parts_of 2 m) Over []
shared_streams (request j) replying fits small = absurd replying
shared_streams (reply ticket kinds table ds) replying fits small =
    let m = reply ticket kinds table ds in
    let terms = terms_of m in
    let said : IsSaid (by_place terms) m = by_terms m fits small in
    let sender = sender_bytes ticket kinds in
    let spelled = list_bytes polynomial_bytes terms in
    let rest = table_bytes (by_place terms) table ++ list_bytes derivation_bytes ds in
    let behind : spelled ++ ((sender ++ table_bytes (by_place terms) table) ++ list_bytes derivation_bytes ds) ≡ (spelled ++ sender) ++ rest =
    ap (λ l. spelled ++ l) (append_assoc sender (table_bytes (by_place terms) table) (list_bytes derivation_bytes ds)) ∙ sym (append_assoc spelled sender rest) in
    goes None (1 ∷ 2 ∷ [], opening ListedHead (1 ∷ 2 ∷ []) tt refl, refl)
    (goes (Some (P.Head 2 ticket kinds))
    (spelled ++ sender, listed_head terms ticket kinds (spelled ++ sender) ((small, few (length terms) small, terms_fit m fits), all_differ (table_mentions table)) (said.0.0, said.0.1, said.1) refl, behind)
    (table_stream (Some terms) table ds said.0.2 said.2 said.0.3 (all_first terms (table_mentions table) refl) refl) refl) refl
shared_streams (large ticket) replying is_ticket small =
    goes None (2 ∷ 2 ∷ [], opening (Large 2) (2 ∷ 2 ∷ []) (inr refl) refl, refl)
    (goes (Some (P.Large 2 ticket)) (u64_bytes ticket, too_large 2 ticket (u64_bytes ticket) is_ticket refl, sym (append-nil (u64_bytes ticket))) stays refl) refl

pub message_streams : (number : ℕ) (m : MessageTree) → IsReplying m → IsMessage m → HasVersion number m → Streams Start (bytes_in number m) (parts_of number m) Over []
message_streams number m replying fits has =
    ⊎_elim (λ (is : number ≡ 1). subst (λ v. Streams Start (bytes_in v m) (parts_of v m) Over []) (sym is) (full_streams m replying fits))
    (λ (is : (number ≡ 2) × IsU32 (length (terms_of m))). subst (λ v. Streams Start (bytes_in v m) (parts_of v m) Over []) (sym is.0) (shared_streams m replying fits is.1))
    has
