-- The entries, drops and derivations among the parts of a message.
use Rattle.std.proofs.Common.{◌≡◌, ℕ, ◌<◌, List, [], ◌∷◌, ◌++◌, length, map, refl, sym, ap, ◌∙◌, append_assoc, append-nil, arith}
use Rattle.std.proofs.lemmas.List.{length-append}
use Rattle.px_entry.specs.declared.derivations.Derivation.{Derivation}
use Rattle.px_entry.specs.declared.entries.Entry.{Entry}
use Rattle.px_entry.specs.declared.tables.Gap.{Gap}
use Rattle.px_entry.specs.declared.tables.Table.{Table}
use Rattle.px_wire.specs.Messages.{MessageTree, request, reply, large}
use Rattle.px_parts.specs.declared.part.Part.{Part}
use Rattle.px_parts.specs.declared.part.Part.TheVariants as P
use Rattle.px_parts.specs.Parts.{table_parts, parts_of, IsReplying}
use Rattle.px_pool.specs.Gathering.{entry_in, entries_in, drop_in, drops_in, derivation_in, derivations_in}

-- ---- one part more

entries_append : (a b : List Part) → entries_in (a ++ b) ≡ entries_in a ++ entries_in b
entries_append [] b = refl
entries_append (x ∷ a) b = ap (λ l. entry_in x ++ l) (entries_append a b) ∙ sym (append_assoc (entry_in x) (entries_in a) (entries_in b))

drops_append : (a b : List Part) → drops_in (a ++ b) ≡ drops_in a ++ drops_in b
drops_append [] b = refl
drops_append (x ∷ a) b = ap (λ l. drop_in x ++ l) (drops_append a b) ∙ sym (append_assoc (drop_in x) (drops_in a) (drops_in b))

derivations_append : (a b : List Part) → derivations_in (a ++ b) ≡ derivations_in a ++ derivations_in b
derivations_append [] b = refl
derivations_append (x ∷ a) b = ap (λ l. derivation_in x ++ l) (derivations_append a b) ∙ sym (append_assoc (derivation_in x) (derivations_in a) (derivations_in b))

pub entries_more : (parts : List Part) (x : Part) → entries_in (parts ++ x ∷ []) ≡ entries_in parts ++ entry_in x
entries_more parts x = entries_append parts (x ∷ []) ∙ ap (λ l. entries_in parts ++ l) (append-nil (entry_in x))

pub drops_more : (parts : List Part) (x : Part) → drops_in (parts ++ x ∷ []) ≡ drops_in parts ++ drop_in x
drops_more parts x = drops_append parts (x ∷ []) ∙ ap (λ l. drops_in parts ++ l) (append-nil (drop_in x))

pub derivations_more : (parts : List Part) (x : Part) → derivations_in (parts ++ x ∷ []) ≡ derivations_in parts ++ derivation_in x
derivations_more parts x = derivations_append parts (x ∷ []) ∙ ap (λ l. derivations_in parts ++ l) (append-nil (derivation_in x))

-- ---- the parts of a table

module _ (gs : List Gap) (ds : List Derivation) where
  no_entries_last : (ds : List Derivation) → entries_in (map P.Derivation ds) ≡ []
  no_entries_last [] = refl
  no_entries_last (d ∷ ds) = no_entries_last ds

  no_entries : (gs : List Gap) → entries_in (map P.Drop gs ++ map P.Derivation ds) ≡ []
  no_entries [] = no_entries_last ds
  no_entries (g ∷ gs) = no_entries gs

  no_drops : (ds : List Derivation) → drops_in (map P.Derivation ds) ≡ []
  no_drops [] = refl
  no_drops (d ∷ ds) = no_drops ds

  only_drops : (gs : List Gap) → drops_in (map P.Drop gs ++ map P.Derivation ds) ≡ gs
  only_drops [] = no_drops ds
  only_drops (g ∷ gs) = ap (λ l. g ∷ l) (only_drops gs)

  each_derivation : (ds : List Derivation) → derivations_in (map P.Derivation ds) ≡ ds
  each_derivation [] = refl
  each_derivation (d ∷ ds) = ap (λ l. d ∷ l) (each_derivation ds)

  last_derivations : (gs : List Gap) → derivations_in (map P.Drop gs ++ map P.Derivation ds) ≡ ds
  last_derivations [] = each_derivation ds
  last_derivations (g ∷ gs) = last_derivations gs

  all_entries : (es : List Entry) → entries_in (map P.Entry es ++ (map P.Drop gs ++ map P.Derivation ds)) ≡ es
  all_entries [] = no_entries gs
  all_entries (e ∷ es) = ap (λ l. e ∷ l) (all_entries es)

  all_drops : (es : List Entry) → drops_in (map P.Entry es ++ (map P.Drop gs ++ map P.Derivation ds)) ≡ gs
  all_drops [] = only_drops gs
  all_drops (e ∷ es) = all_drops es

  all_derivations : (es : List Entry) → derivations_in (map P.Entry es ++ (map P.Drop gs ++ map P.Derivation ds)) ≡ ds
  all_derivations [] = last_derivations gs
  all_derivations (e ∷ es) = all_derivations es

  -- ---- no entry stands behind a derivation

  nothing_behind : {A : Type 0} (a b : List A) → a ++ b ≡ [] → b ≡ []
  nothing_behind [] b is = is
  nothing_behind (x ∷ a) b is = absurd cc

  abbrev part_or : Part → List Part → Part
  part_or x [] = x
  part_or x (y ∷ ys) = y

  abbrev parts_behind : List Part → List Part
  parts_behind [] = []
  parts_behind (y ∷ ys) = ys

  abbrev is_entry : Part → ℕ
  is_entry P.Held = 0
  is_entry (P.Head number ticket kinds) = 0
  is_entry (P.Entry e) = 1
  is_entry (P.Drop g) = 0
  is_entry (P.Derivation d) = 0
  is_entry (P.Large number ticket) = 0
  is_entry P.End = 0

  no_entry_behind : (es : List Entry) (before others : List Part) (d : Derivation) → map P.Entry es ++ (map P.Drop gs ++ map P.Derivation ds) ≡ before ++ P.Derivation d ∷ others → entries_in others ≡ []
  no_entry_behind [] before others d is =
      let none : entries_in before ++ entries_in others ≡ [] = sym (entries_append before (P.Derivation d ∷ others)) ∙ ap entries_in (sym is) ∙ no_entries gs in
      nothing_behind (entries_in before) (entries_in others) none
  no_entry_behind (e ∷ es) [] others d is =
      let clash : 1 ≡ 0 = ap (λ l. is_entry (part_or (P.Derivation d) l)) is in absurd (omega (arith, clash))
  no_entry_behind (e ∷ es) (x ∷ before) others d is = no_entry_behind es before others d (ap parts_behind is)

-- the entries, drops and derivations of a table
pub record IsTableOf (t : Table) (ds : List Derivation) (parts : List Part) : Type 0 where
  pub entries : entries_in parts ≡ t.entries
  pub drops : drops_in parts ≡ t.drops
  pub derivations : derivations_in parts ≡ ds

pub table_of : (t : Table) (ds : List Derivation) (parts : List Part) → table_parts t ds ≡ parts → IsTableOf t ds parts
table_of t ds parts is = record {
  entries = ap entries_in (sym is) ∙ all_entries t.drops ds t.entries;
  drops = ap drops_in (sym is) ∙ all_drops t.drops ds t.entries;
  derivations = ap derivations_in (sym is) ∙ all_derivations t.drops ds t.entries;
}

-- where a derivation more came, all entries came before it
pub entries_before : (t : Table) (ds : List Derivation) (before others : List Part) (d : Derivation) → table_parts t ds ≡ before ++ P.Derivation d ∷ others → entries_in before ≡ t.entries
entries_before t ds before others d is =
    let last = no_entry_behind t.drops ds t.entries before others d is in
    sym (append-nil (entries_in before)) ∙ ap (λ l. entries_in before ++ l) (sym last) ∙ sym (entries_append before (P.Derivation d ∷ others)) ∙ (table_of t ds (before ++ P.Derivation d ∷ others) is).entries

pub more_derivations : (t : Table) (ds : List Derivation) (before others : List Part) (d : Derivation) → table_parts t ds ≡ before ++ P.Derivation d ∷ others → length (derivations_in before) < length ds
more_derivations t ds before others d is =
    let all : derivations_in before ++ d ∷ derivations_in others ≡ ds = sym (derivations_append before (P.Derivation d ∷ others)) ∙ (table_of t ds (before ++ P.Derivation d ∷ others) is).derivations in
    omega (arith, ap length all, length-append (derivations_in before) (d ∷ derivations_in others))

-- ---- the first part says which message it is

abbrev first_or : Part → List Part → Part
first_or x [] = x
first_or x (y ∷ ys) = y

abbrev behind_first : List Part → List Part
behind_first [] = []
behind_first (y ∷ ys) = ys

-- 1 of a reply, 2 of the word that one is too long, else 0
abbrev pub sort_of : Part → ℕ
sort_of P.Held = 0
sort_of (P.Head number ticket kinds) = 1
sort_of (P.Entry e) = 0
sort_of (P.Drop g) = 0
sort_of (P.Derivation d) = 0
sort_of (P.Large number ticket) = 2
sort_of P.End = 0

abbrev ticket_of : Part → ℕ
ticket_of P.Held = 0
ticket_of (P.Head number ticket kinds) = ticket
ticket_of (P.Entry e) = 0
ticket_of (P.Drop g) = 0
ticket_of (P.Derivation d) = 0
ticket_of (P.Large number ticket) = ticket
ticket_of P.End = 0

abbrev number_of : Part → ℕ
number_of P.Held = 0
number_of (P.Head number ticket kinds) = number
number_of (P.Entry e) = 0
number_of (P.Drop g) = 0
number_of (P.Derivation d) = 0
number_of (P.Large number ticket) = number
number_of P.End = 0

abbrev kinds_of : Part → List ℕ
kinds_of P.Held = []
kinds_of (P.Head number ticket kinds) = kinds
kinds_of (P.Entry e) = []
kinds_of (P.Drop g) = []
kinds_of (P.Derivation d) = []
kinds_of (P.Large number ticket) = []
kinds_of P.End = []

pub of_head : (own : ℕ) (m : MessageTree) (number ticket : ℕ) (kinds : List ℕ) (tail : List Part) → IsReplying m → parts_of own m ≡ P.Head number ticket kinds ∷ tail →
    (t : Table) × (ds : List Derivation) × (m ≡ reply ticket kinds t ds) × (table_parts t ds ≡ tail) × (own ≡ number)
of_head own (request j) number ticket kinds tail replying is = absurd replying
of_head own (reply ticket' kinds' t ds) number ticket kinds tail replying is =
    let same_ticket : ticket' ≡ ticket = ap (λ l. ticket_of (first_or P.Held l)) is in
    let same_kinds : kinds' ≡ kinds = ap (λ l. kinds_of (first_or P.Held l)) is in
    (t, ds, ap (λ n. reply n kinds' t ds) same_ticket ∙ ap (λ l. reply ticket l t ds) same_kinds, ap behind_first is, ap (λ l. number_of (first_or P.Held l)) is)
of_head own (large ticket') number ticket kinds tail replying is =
    let clash : 2 ≡ 1 = ap (λ l. sort_of (first_or P.Held l)) is in absurd (omega (arith, clash))

pub of_large : (own : ℕ) (m : MessageTree) (number ticket : ℕ) (tail : List Part) → IsReplying m → parts_of own m ≡ P.Large number ticket ∷ tail → (m ≡ large ticket) × (own ≡ number)
of_large own (request j) number ticket tail replying is = absurd replying
of_large own (reply ticket' kinds' t ds) number ticket tail replying is =
    let clash : 1 ≡ 2 = ap (λ l. sort_of (first_or P.Held l)) is in absurd (omega (arith, clash))
of_large own (large ticket') number ticket tail replying is = (ap large (ap (λ l. ticket_of (first_or P.Held l)) is), ap (λ l. number_of (first_or P.Held l)) is)

-- a message begins with no other part
pub of_no_other : (own : ℕ) (m : MessageTree) (x : Part) (tail : List Part) → sort_of x ≡ 0 → IsReplying m → parts_of own m ≡ x ∷ tail → ⊥
of_no_other own (request j) x tail other replying is = replying
of_no_other own (reply ticket kinds t ds) x tail other replying is =
    let clash : 1 ≡ sort_of x = ap (λ l. sort_of (first_or x l)) is in omega (arith, clash, other)
of_no_other own (large ticket) x tail other replying is =
    let clash : 2 ≡ sort_of x = ap (λ l. sort_of (first_or x l)) is in omega (arith, clash, other)

pub of_nothing : (own : ℕ) (m : MessageTree) → IsReplying m → parts_of own m ≡ [] → ⊥
of_nothing own (request j) replying is = replying
of_nothing own (reply ticket kinds t ds) replying is = let clash : 1 ≡ 0 = ap (λ l. sort_of (first_or P.Held l)) is in omega (arith, clash)
of_nothing own (large ticket) replying is = let clash : 2 ≡ 0 = ap (λ l. sort_of (first_or P.Held l)) is in omega (arith, clash)
