-- Bytes that hold parts to the end of a message are that message, in the version that they say.
use Rattle.std.proofs.Common.{◌≡◌, inl, inr, ⊎_elim, ℕ, suc, ◌-◌, ◌≤◌, List, [], ◌∷◌, ◌++◌, length, map, true, Option, Some, None, refl, sym, ap, subst, ◌∙◌, append_assoc, append-nil, arith}
use Rattle.std.specs.List.{flat_map, list_all, AllByRecursion}
use Rattle.std.proofs.lemmas.Bool.{and_from}
use Rattle.std.proofs.lemmas.List.Concat.{flat_map-cons}
use Rattle.px_terms.specs.Polynomials.{Polynomial}
use Rattle.px_entry.specs.declared.entries.Entry.{Entry}
use Rattle.px_entry.specs.declared.tables.Gap.{Gap}
use Rattle.px_entry.specs.declared.tables.Table.{Table}
use Rattle.px_entry.specs.declared.derivations.Derivation.{Derivation}
use Rattle.px_spelling.specs.Numbers.{u32_bytes, IsU32, u64_bytes, IsU64}
use Rattle.px_spelling.specs.Lists.{list_bytes, IsList, any_number}
use Rattle.px_spelling.specs.Polynomials.{polynomial_bytes, IsPolynomialInRange, in_full}
use Rattle.px_spelling.specs.ByPlace.{by_place}
use Rattle.px_spelling.specs.Mentions.{entry_mentions, gap_mentions, table_mentions}
use Rattle.px_spelling.specs.Entries.{entry_bytes, IsEntry}
use Rattle.px_spelling.specs.Tables.{gap_bytes, IsGap, table_bytes, IsTable, most_rows}
use Rattle.px_spelling.specs.Derivations.{derivation_bytes, IsDerivation}
use Rattle.px_wire.specs.TableRanges.{entry_within, gap_within, table_within}
use Rattle.px_wire.specs.Messages.{MessageTree, reply, large, any_types, fields_bytes, IsSaid}
use Rattle.px_wire.specs.Mentions.{terms_of}
use Rattle.px_wire.specs.Versions.{bytes_in, SpellsIn}
use Rattle.px_wire.proofs.MessageRanges.{from_terms}
use Rattle.px_parts.specs.declared.part.Part.{Part}
use Rattle.px_parts.specs.declared.part.Part.TheVariants as P
use Rattle.px_parts.specs.Places.{Naming, full, listed, spelling, AreInOrder, behind as goes_behind, AllNamed, Place, Start, Head, ListedHead, Large, EntryCount, Entries, DropCount, Drops, DerivationCount, Derivations, Over, IsKnown, IsOpened, opening_bytes}
use Rattle.px_parts.specs.Parts.{table_parts, parts_of, IsReplying}
use Rattle.px_parts.specs.Stream.{IsSender, sender_bytes, AreTerms, opening, head, listed_head, too_large, entry_count, entry, all_entries, drop_count, a_drop, all_drops, derivation_count, derivation, all_derivations, Streams, stays, goes}
use Rattle.px_parts.specs.Kept.{spelling_by}
use Rattle.px_parts.proofs.Naming.{after as naming_after, IsFront, spelled_after, behind_after, front_on, none_first, all_named}
use Rattle.px_parts.proofs.Stuck.{stuck_over}
use Rattle.px_parts.proofs.MessageParts.{few, by_lists}

-- ---- derivations

record AreDerivations (n : ℕ) (bytes : List ℕ) (parts : List Part) : Type 0 where
  ds : List Derivation
  many : length ds ≡ n
  fit : AllByRecursion IsDerivation ds
  spelled : bytes ≡ flat_map derivation_bytes ds
  named : parts ≡ map P.Derivation ds

over_ends : (bytes rest : List ℕ) (parts : List Part) → Streams Over bytes parts Over rest → (parts ≡ []) × (bytes ≡ rest)
over_ends bytes _ _ stays = (refl, refl)
over_ends bytes rest parts (goes x arrives next are) = absurd (stuck_over bytes x _ _ arrives)

derivations_of : (n : ℕ) (bytes : List ℕ) (parts : List Part) → Streams (Derivations n) bytes parts Over [] → AreDerivations n bytes parts
derivations_of _ bytes parts (goes {after = after} {more = more} _ (front, derivation n d _ fits same, is) next are) =
    let e = derivations_of n after more next in
    record {
      ds = d ∷ e.ds;
      many = ap suc e.many;
      fit = (fits, e.fit);
      spelled = is ∙ ap (λ l. l ++ after) same ∙ ap (λ l. derivation_bytes d ++ l) e.spelled ∙ sym (flat_map-cons derivation_bytes d e.ds);
      named = are ∙ ap (λ l. P.Derivation d ∷ l) e.named;
    }
derivations_of _ bytes parts (goes {after = after} {more = more} _ (front, all_derivations _ same, is) next are) =
    let e = over_ends after [] more next in
    record { ds = []; many = refl; fit = tt; spelled = is ∙ ap (λ l. l ++ after) same ∙ e.1; named = are ∙ e.0 }

record EndIsDerivations (bytes : List ℕ) (parts : List Part) : Type 0 where
  ds : List Derivation
  fit : IsList IsDerivation any_number ds
  spelled : bytes ≡ list_bytes derivation_bytes ds
  named : parts ≡ map P.Derivation ds

end_of : (bytes : List ℕ) (parts : List Part) → Streams DerivationCount bytes parts Over [] → EndIsDerivations bytes parts
end_of bytes parts (goes {after = after} {more = more} _ (front, derivation_count n _ fits same, is) next are) =
    let e = derivations_of n after more next in
    let count : IsU32 (length e.ds) = subst IsU32 (sym e.many) fits in
    record {
      ds = e.ds;
      fit = (count, few (length e.ds) count, e.fit);
      spelled = is ∙ ap (λ l. l ++ after) same ∙ ap (λ k. u32_bytes k ++ after) (sym e.many) ∙ ap (λ l. u32_bytes (length e.ds) ++ l) e.spelled;
      named = are ∙ e.named;
    }

-- Where there is this list of terms, or none, and these were mentioned before, a front of the list.
module _ (o : Option (List Polynomial)) where
  -- ---- drops

  record AreDrops (ms : List Polynomial) (n : ℕ) (bytes : List ℕ) (parts : List Part) : Type 0 where
    gs : List Gap
    many : length gs ≡ n
    fit : AllByRecursion (IsGap (spelling_by o)) gs
    within : list_all gap_within gs ≡ true
    front : IsFront o (ms ++ flat_map gap_mentions gs)
    named_all : AllNamed (naming_after o (ms ++ flat_map gap_mentions gs))
    rest : List ℕ
    others : List Part
    spelled : bytes ≡ flat_map (gap_bytes (spelling_by o)) gs ++ rest
    named : parts ≡ map P.Drop gs ++ others
    next : EndIsDerivations rest others

  drops_of : (ms : List Polynomial) (n : ℕ) (k : Naming) (bytes : List ℕ) (parts : List Part) → k ≡ naming_after o ms → IsFront o ms → Streams (Drops n k) bytes parts Over [] → AreDrops ms n bytes parts
  drops_of ms _ k bytes parts here front (goes {after = after} {more = more} _ (spelled, a_drop n _ on g _ fits within order behind same, is) next are) =
      let p = spelling_by o in
      let own = gap_mentions g in
      let same_spelling : spelling k ≡ p = ap spelling here ∙ spelled_after o ms in
      let on_is : on ≡ naming_after o (ms ++ own) = behind ∙ ap (λ z. goes_behind z own) here ∙ behind_after o ms own front in
      let front_own : IsFront o (ms ++ own) = front_on o ms own front (subst (λ z. AreInOrder z own) here order) in
      let e = drops_of (ms ++ own) n on after more on_is front_own next in
      let joined : (ms ++ own) ++ flat_map gap_mentions e.gs ≡ ms ++ flat_map gap_mentions (g ∷ e.gs) = append_assoc ms own (flat_map gap_mentions e.gs) ∙ ap (λ l. ms ++ l) (sym (flat_map-cons gap_mentions g e.gs)) in
      record {
        gs = g ∷ e.gs;
        many = ap suc e.many;
        fit = (subst (λ q. IsGap q g) same_spelling fits, e.fit);
        within = and_from (gap_within g) (list_all gap_within e.gs) within e.within;
        front = subst (λ l. IsFront o l) joined e.front;
        named_all = subst (λ l. AllNamed (naming_after o l)) joined e.named_all;
        rest = e.rest;
        others = e.others;
        spelled = is ∙ ap (λ l. l ++ after) same ∙ ap (λ q. gap_bytes q g ++ after) same_spelling ∙ ap (λ l. gap_bytes p g ++ l) e.spelled ∙ sym (append_assoc (gap_bytes p g) (flat_map (gap_bytes p) e.gs) e.rest)
            ∙ ap (λ l. l ++ e.rest) (sym (flat_map-cons (gap_bytes p) g e.gs));
        named = are ∙ ap (λ l. P.Drop g ∷ l) e.named;
        next = e.next;
      }
  drops_of ms _ k bytes parts here front (goes {after = after} {more = more} _ (spelled, all_drops _ _ all same, is) next are) =
      record {
        gs = [];
        many = refl;
        fit = tt;
        within = refl;
        front = subst (λ l. IsFront o l) (sym (append-nil ms)) front;
        named_all = subst (λ l. AllNamed (naming_after o l)) (sym (append-nil ms)) (subst AllNamed here all);
        rest = after;
        others = more;
        spelled = is ∙ ap (λ l. l ++ after) same;
        named = are;
        next = end_of after more next;
      }

  -- ---- entries

  record AreEntries (ms : List Polynomial) (n r : ℕ) (bytes : List ℕ) (parts : List Part) : Type 0 where
    es : List Entry
    many : length es ≡ n
    fit : AllByRecursion (IsEntry (spelling_by o)) es
    within : list_all (entry_within any_types) es ≡ true
    front : IsFront o (ms ++ flat_map entry_mentions es)
    rest : List ℕ
    others : List Part
    spelled : bytes ≡ flat_map (entry_bytes (spelling_by o)) es ++ rest
    named : parts ≡ map P.Entry es ++ others
    next : Streams (DropCount r (naming_after o (ms ++ flat_map entry_mentions es))) rest others Over []

  entries_of : (ms : List Polynomial) (n r : ℕ) (k : Naming) (bytes : List ℕ) (parts : List Part) → k ≡ naming_after o ms → IsFront o ms → Streams (Entries n r k) bytes parts Over [] → AreEntries ms n r bytes parts
  entries_of ms _ r k bytes parts here front (goes {after = after} {more = more} _ (spelled, entry n _ _ on e _ fits within order behind same, is) next are) =
      let p = spelling_by o in
      let own = entry_mentions e in
      let same_spelling : spelling k ≡ p = ap spelling here ∙ spelled_after o ms in
      let on_is : on ≡ naming_after o (ms ++ own) = behind ∙ ap (λ z. goes_behind z own) here ∙ behind_after o ms own front in
      let front_own : IsFront o (ms ++ own) = front_on o ms own front (subst (λ z. AreInOrder z own) here order) in
      let f = entries_of (ms ++ own) n r on after more on_is front_own next in
      let joined : (ms ++ own) ++ flat_map entry_mentions f.es ≡ ms ++ flat_map entry_mentions (e ∷ f.es) = append_assoc ms own (flat_map entry_mentions f.es) ∙ ap (λ l. ms ++ l) (sym (flat_map-cons entry_mentions e f.es)) in
      record {
        es = e ∷ f.es;
        many = ap suc f.many;
        fit = (subst (λ q. IsEntry q e) same_spelling fits, f.fit);
        within = and_from (entry_within any_types e) (list_all (entry_within any_types) f.es) within f.within;
        front = subst (λ l. IsFront o l) joined f.front;
        rest = f.rest;
        others = f.others;
        spelled = is ∙ ap (λ l. l ++ after) same ∙ ap (λ q. entry_bytes q e ++ after) same_spelling ∙ ap (λ l. entry_bytes p e ++ l) f.spelled ∙ sym (append_assoc (entry_bytes p e) (flat_map (entry_bytes p) f.es) f.rest)
            ∙ ap (λ l. l ++ f.rest) (sym (flat_map-cons (entry_bytes p) e f.es));
        named = are ∙ ap (λ l. P.Entry e ∷ l) f.named;
        next = subst (λ l. Streams (DropCount r (naming_after o l)) f.rest f.others Over []) joined f.next;
      }
  entries_of ms _ r k bytes parts here front (goes {after = after} {more = more} _ (spelled, all_entries _ _ _ same, is) next are) =
      record {
        es = [];
        many = refl;
        fit = tt;
        within = refl;
        front = subst (λ l. IsFront o l) (sym (append-nil ms)) front;
        rest = after;
        others = more;
        spelled = is ∙ ap (λ l. l ++ after) same;
        named = are;
        next = subst (λ z. Streams (DropCount r z) after more Over []) (here ∙ ap (λ l. naming_after o l) (sym (append-nil ms))) next;
      }

  -- ---- a table, and the derivations behind it

  counted : (n k : ℕ) (front after rest : List ℕ) → k ≡ n → front ≡ u32_bytes n → after ≡ rest → front ++ after ≡ u32_bytes k ++ rest
  counted n k front after rest many is same = ap (λ l. l ++ after) (is ∙ ap u32_bytes (sym many)) ∙ ap (λ l. u32_bytes k ++ l) same

  record EndIsDrops (ms : List Polynomial) (r : ℕ) (bytes : List ℕ) (parts : List Part) : Type 0 where
    gs : List Gap
    ds : List Derivation
    fit : IsList (IsGap (spelling_by o)) r gs
    within : list_all gap_within gs ≡ true
    front : IsFront o (ms ++ flat_map gap_mentions gs)
    named_all : AllNamed (naming_after o (ms ++ flat_map gap_mentions gs))
    derivations_fit : IsList IsDerivation any_number ds
    spelled : bytes ≡ u32_bytes (length gs) ++ (flat_map (gap_bytes (spelling_by o)) gs ++ list_bytes derivation_bytes ds)
    named : parts ≡ map P.Drop gs ++ map P.Derivation ds

  drops_end : (ms : List Polynomial) (r : ℕ) (k : Naming) (bytes : List ℕ) (parts : List Part) → k ≡ naming_after o ms → IsFront o ms → Streams (DropCount r k) bytes parts Over [] → EndIsDrops ms r bytes parts
  drops_end ms r k bytes parts here front (goes {after = after} {more = more} _ (spelled, drop_count n _ _ _ fits small same, is) next are) =
      let e = drops_of ms n k after more here front next in
      let all = flat_map (gap_bytes (spelling_by o)) e.gs in
      record {
        gs = e.gs;
        ds = e.next.ds;
        fit = (subst IsU32 (sym e.many) fits, subst (λ m. m ≤ r) (sym e.many) small, e.fit);
        within = e.within;
        front = e.front;
        named_all = e.named_all;
        derivations_fit = e.next.fit;
        spelled = is ∙ counted n (length e.gs) spelled after (all ++ list_bytes derivation_bytes e.next.ds) e.many same (e.spelled ∙ ap (λ l. all ++ l) e.next.spelled);
        named = are ∙ e.named ∙ ap (λ l. map P.Drop e.gs ++ l) e.next.named;
      }

  record EndIsTable (bytes : List ℕ) (parts : List Part) : Type 0 where
    table : Table
    ds : List Derivation
    fit : IsTable (spelling_by o) table
    within : table_within any_types table ≡ true
    front : IsFront o (table_mentions table)
    named_all : AllNamed (naming_after o (table_mentions table))
    derivations_fit : IsList IsDerivation any_number ds
    spelled : bytes ≡ table_bytes (spelling_by o) table ++ list_bytes derivation_bytes ds
    named : parts ≡ table_parts table ds

  table_end : (k : Naming) (bytes : List ℕ) (parts : List Part) → k ≡ naming_after o [] → Streams (EntryCount k) bytes parts Over [] → EndIsTable bytes parts
  table_end k bytes parts here (goes {after = after} {more = more} _ (spelled, entry_count n r _ _ fits small rows same, is) next are) =
      let p = spelling_by o in
      let e = entries_of [] n r k after more here (none_first o) next in
      let first = flat_map entry_mentions e.es in
      let f = drops_end first r (naming_after o first) e.rest e.others refl e.front e.next in
      let tail = list_bytes derivation_bytes f.ds in
      let left : r ≡ most_rows - length e.es = rows ∙ ap (λ m. most_rows - m) (sym e.many) in
      let behind : List ℕ = u32_bytes (length f.gs) ++ (flat_map (gap_bytes p) f.gs ++ tail) in
      let all : after ≡ flat_map (entry_bytes p) e.es ++ behind = e.spelled ∙ ap (λ l. flat_map (entry_bytes p) e.es ++ l) f.spelled in
      record {
        table = record { entries = e.es; drops = f.gs };
        ds = f.ds;
        fit = ((subst IsU32 (sym e.many) fits, subst (λ m. m ≤ most_rows) (sym e.many) small, e.fit), subst (λ m. IsList (IsGap p) m f.gs) left f.fit);
        within = and_from (list_all (entry_within any_types) e.es) (list_all gap_within f.gs) e.within f.within;
        front = f.front;
        named_all = f.named_all;
        derivations_fit = f.derivations_fit;
        spelled = is ∙ counted n (length e.es) spelled after (flat_map (entry_bytes p) e.es ++ behind) e.many same all
            ∙ sym (by_lists (u32_bytes (length e.es)) (flat_map (entry_bytes p) e.es) (u32_bytes (length f.gs)) (flat_map (gap_bytes p) f.gs) tail);
        named = are ∙ e.named ∙ ap (λ l. map P.Entry e.es ++ l) f.named;
      }

-- ---- messages

-- bytes spell a message that a worker may say, with these parts
abbrev pub IsSpelled : List ℕ → List Part → Type 0
IsSpelled bytes parts = (number : ℕ) × (m : MessageTree) × IsReplying m × SpellsIn number bytes m × (parts_of number m ≡ parts)

-- after the first bytes
abbrev IsBehind : ℕ → ℕ → List ℕ → List Part → Type 0
IsBehind tag number bytes parts = IsSpelled (tag ∷ number ∷ bytes) parts

replied : (ticket : ℕ) (kinds bytes after : List ℕ) (parts more : List Part) → IsSender ticket kinds → bytes ≡ sender_bytes ticket kinds ++ after → parts ≡ P.Head 1 ticket kinds ∷ more →
    EndIsTable None after more → IsBehind 1 1 bytes parts
replied ticket kinds bytes after parts more (is_ticket, are_kinds, rise) is are e =
    let tail = list_bytes derivation_bytes e.ds in (
      1,
      reply ticket kinds e.table e.ds,
      tt,
      (
        ap (λ l. 1 ∷ 1 ∷ l) (is ∙ ap (λ l. sender_bytes ticket kinds ++ l) e.spelled ∙ sym (append_assoc (sender_bytes ticket kinds) (table_bytes in_full e.table) tail)),
        ((is_ticket, are_kinds, e.fit, e.derivations_fit), rise, e.within),
        inl refl,
      ),
      ap (λ l. P.Head 1 ticket kinds ∷ l) (sym e.named) ∙ sym are,
    )

-- the terms are those of what was said
replied_listed : (terms : List Polynomial) (ticket : ℕ) (kinds bytes after : List ℕ) (parts more : List Part) → AreTerms terms → IsSender ticket kinds →
    bytes ≡ (list_bytes polynomial_bytes terms ++ sender_bytes ticket kinds) ++ after → parts ≡ P.Head 2 ticket kinds ∷ more → EndIsTable (Some terms) after more → IsBehind 1 2 bytes parts
replied_listed terms ticket kinds bytes after parts more (fit, differ) (is_ticket, are_kinds, rise) is are e =
    let m = reply ticket kinds e.table e.ds in
    let sender = sender_bytes ticket kinds in
    let table = table_bytes (by_place terms) e.table in
    let tail = list_bytes derivation_bytes e.ds in
    let own : terms_of m ≡ terms = all_named terms (table_mentions e.table) e.front e.named_all in
    let said : IsSaid (by_place terms) m = ((is_ticket, are_kinds, e.fit, e.derivations_fit), rise, e.within) in
    let fields : bytes ≡ list_bytes polynomial_bytes terms ++ fields_bytes (by_place terms) m =
    is ∙ append_assoc (list_bytes polynomial_bytes terms) sender after ∙ ap (λ l. list_bytes polynomial_bytes terms ++ (sender ++ l)) e.spelled
    ∙ ap (λ l. list_bytes polynomial_bytes terms ++ l) (sym (append_assoc sender table tail)) in (
      2,
      m,
      tt,
      (
        ap (λ l. 1 ∷ 2 ∷ l) (fields ∙ ap (λ ts. list_bytes polynomial_bytes ts ++ fields_bytes (by_place ts) m) (sym own)),
        from_terms (by_place terms) m said (subst (λ ts. AllByRecursion IsPolynomialInRange ts) (sym own) fit.2),
        inr (refl, subst (λ ts. IsU32 (length ts)) (sym own) fit.0),
      ),
      ap (λ l. P.Head 2 ticket kinds ∷ l) (sym e.named) ∙ sym are,
    )

few_none : IsU32 0
few_none = omega arith

said_large : (number ticket : ℕ) (bytes after : List ℕ) (parts more : List Part) → IsKnown number → IsU64 ticket → bytes ≡ u64_bytes ticket ++ after → parts ≡ P.Large number ticket ∷ more →
    (more ≡ []) × (after ≡ []) → IsBehind 2 number bytes parts
said_large number ticket bytes after parts more known fits is are (no_more, no_after) =
    let all : bytes ≡ u64_bytes ticket = is ∙ ap (λ l. u64_bytes ticket ++ l) no_after ∙ append-nil (u64_bytes ticket) in
    let one : parts ≡ P.Large number ticket ∷ [] = are ∙ ap (λ l. P.Large number ticket ∷ l) no_more in
    ⊎_elim
    (λ (first : number ≡ 1). (
      number,
      large ticket,
      tt,
      (
        subst (λ v. 2 ∷ v ∷ bytes ≡ bytes_in v (large ticket)) (sym first) (ap (λ l. 2 ∷ 1 ∷ l) all),
        fits,
        inl first,
      ),
      sym one,
    ))
    (λ (second : number ≡ 2). (
      number,
      large ticket,
      tt,
      (
        subst (λ v. 2 ∷ v ∷ bytes ≡ bytes_in v (large ticket)) (sym second) (ap (λ l. 2 ∷ 2 ∷ l) all),
        fits,
        inr (second, few_none),
      ),
      sym one,
    ))
    known

after_opening : (q : Place) (bytes : List ℕ) (parts : List Part) → IsOpened q → Streams q bytes parts Over [] → IsSpelled (opening_bytes q ++ bytes) parts
after_opening Start bytes parts fits next = absurd fits
after_opening Head bytes parts fits (goes {after = after} {more = more} _ (spelled, head ticket kinds _ sends same, is) next are) =
    replied ticket kinds bytes after parts more sends (is ∙ ap (λ l. l ++ after) same) are (table_end None full after more refl next)
after_opening ListedHead bytes parts fits (goes {after = after} {more = more} _ (spelled, listed_head terms ticket kinds _ terms_are sends same, is) next are) =
    replied_listed terms ticket kinds bytes after parts more terms_are sends (is ∙ ap (λ l. l ++ after) same) are (table_end (Some terms) (listed terms 0) after more refl next)
after_opening (Large number) bytes parts known (goes {after = after} {more = more} _ (spelled, too_large _ ticket _ fits same, is) next are) =
    said_large number ticket bytes after parts more known fits (is ∙ ap (λ l. l ++ after) same) are (over_ends after [] more next)
after_opening (EntryCount k) bytes parts fits next = absurd fits
after_opening (Entries n r k) bytes parts fits next = absurd fits
after_opening (DropCount r k) bytes parts fits next = absurd fits
after_opening (Drops n k) bytes parts fits next = absurd fits
after_opening DerivationCount bytes parts fits next = absurd fits
after_opening (Derivations n) bytes parts fits next = absurd fits
after_opening Over bytes parts fits next = absurd fits

pub message_of : (bytes : List ℕ) (parts : List Part) → Streams Start bytes parts Over [] → IsSpelled bytes parts
message_of bytes parts (goes {after = after} {more = more} _ (spelled, opening q _ fits same, is) next are) =
    subst (λ l. IsSpelled l parts) (sym (is ∙ ap (λ l. l ++ after) same)) (subst (λ l. IsSpelled (opening_bytes q ++ after) l) (sym are) (after_opening q after more fits next))
