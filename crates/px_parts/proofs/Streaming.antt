-- From one place to another bytes hold one list of parts.
use Rattle.std.proofs.Common.{◌≡◌, ℕ, ◌+◌, ◌-◌, ◌<◌, List, [], ◌∷◌, ◌++◌, length, Option, Some, None, refl, sym, ap, subst, ◌∙◌, append_assoc, append-nil, arith}
use Rattle.std.proofs.lemmas.Option.{same_Some}
use Rattle.std.proofs.lemmas.List.{length-append}
use Rattle.px_terms.specs.Polynomials.{Polynomial}
use Rattle.px_spelling.specs.Reading.{Reader}
use Rattle.px_spelling.specs.Numbers.{u32_bytes, u32_at, u64_bytes, u64_at}
use Rattle.px_spelling.specs.Lists.{list_bytes}
use Rattle.px_spelling.specs.Polynomials.{polynomial_bytes}
use Rattle.px_spelling.specs.Mentions.{entry_mentions, gap_mentions}
use Rattle.px_spelling.specs.Entries.{entry_bytes}
use Rattle.px_spelling.specs.Tables.{gap_bytes, most_rows}
use Rattle.px_spelling.specs.Derivations.{derivation_bytes, derivation_at}
use Rattle.px_parts.specs.declared.part.Part.{Part}
use Rattle.px_parts.specs.declared.part.Part.TheVariants as P
use Rattle.px_parts.specs.declared.next.Next.{Next}
use Rattle.px_parts.specs.declared.steps.Given.{Given}
use Rattle.px_parts.specs.Places.{Naming, listed, spelling, behind, Place, Start, Head, ListedHead, Large, EntryCount, Entries, DropCount, Drops, DerivationCount, Derivations, Over, IsOpened, opening_bytes}
use Rattle.px_parts.specs.Reading.{opening_at, sender_at, listed_head_at, count_at, own_entry_at, own_drop_at}
use Rattle.px_parts.specs.Stream.{sender_bytes, Comes, opening, head, listed_head, too_large, entry_count, entry, all_entries, drop_count, a_drop, all_drops, derivation_count, derivation, all_derivations, Arrives, IsStuck, those, Streams, stays, goes}
use Rattle.px_parts.specs.Kept.{place_of, part_in, terms_behind}
use Rattle.px_spelling.proofs.RoundTrip.{ReadsAs, u32_round_trip, u64_round_trip}
use Rattle.px_spelling.proofs.DerivationRoundTrips.{derivation_round_trip}
use Rattle.px_parts.proofs.ComesReads.{opening_reads, sender_reads, listed_head_reads, count_reads, entry_reads, drop_reads}
use Rattle.px_parts.proofs.Stuck.{stuck_over}

-- ---- one step

-- how much more than parts may come at most
abbrev pub rank : Place → ℕ
rank Start = 10
rank Head = 9
rank ListedHead = 8
rank (Large number) = 7
rank (EntryCount k) = 6
rank (Entries n r k) = 5
rank (DropCount r k) = 4
rank (Drops n k) = 3
rank DerivationCount = 2
rank (Derivations n) = 1
rank Over = 0

opening_falls : (q : Place) → IsOpened q → rank q < rank Start
opening_falls Start fits = absurd fits
opening_falls Head fits = omega arith
opening_falls ListedHead fits = omega arith
opening_falls (Large number) fits = omega arith
opening_falls (EntryCount k) fits = absurd fits
opening_falls (Entries n r k) fits = absurd fits
opening_falls (DropCount r k) fits = absurd fits
opening_falls (Drops n k) fits = absurd fits
opening_falls DerivationCount fits = absurd fits
opening_falls (Derivations n) fits = absurd fits
opening_falls Over fits = absurd fits

pub falls : (p q : Place) (front : List ℕ) → Comes p None q front → rank q < rank p
falls _ _ _ (opening q _ fits same) = opening_falls q fits
falls _ _ _ (entry_count n r k _ fits few rows same) = omega arith
falls _ _ _ (all_entries r k _ same) = omega arith
falls _ _ _ (drop_count n r k _ fits few same) = omega arith
falls _ _ _ (all_drops k _ all same) = omega arith
falls _ _ _ (derivation_count n _ fits same) = omega arith
falls _ _ _ (all_derivations _ same) = omega arith

once : {A : Type 0} (at : Reader A) (a b c d s t : List ℕ) (x y : A) → ReadsAs at c x → ReadsAs at d y → a ≡ c → b ≡ d → a ++ s ≡ b ++ t → (x ≡ y) × (s ≡ t)
once {A} at a b c d s t x y p q is_a is_b same =
    let first : A × List ℕ = (x, s) in
    let second : A × List ℕ = (y, t) in
    let joined : c ++ s ≡ d ++ t = ap (λ l. l ++ s) (sym is_a) ∙ same ∙ ap (λ l. l ++ t) is_b in
    let both : Some first ≡ Some second = sym (p.reads s) ∙ ap at joined ∙ q.reads t in
    let one : first ≡ second = same_Some first second both in
    (ap (λ z. z.0) one, ap (λ z. z.1) one)

behind_none : (a b s t : List ℕ) → a ≡ [] → b ≡ [] → a ++ s ≡ b ++ t → s ≡ t
behind_none a b s t is_a is_b same = ap (λ l. l ++ s) (sym is_a) ∙ same ∙ ap (λ l. l ++ t) is_b

same_entries : (n m k l : ℕ) (x : Naming) → n ≡ m → k ≡ most_rows - n → l ≡ most_rows - m → Entries n k x ≡ Entries m l x
same_entries n m k l x is rows rows' = ap (λ z. Entries z k x) is ∙ ap (λ z. Entries m z x) (rows ∙ ap (λ z. most_rows - z) is ∙ sym rows')

-- the ticket and the kinds that were read
same_head : (number : ℕ) (x y : ℕ × List ℕ) → x ≡ y → Some (P.Head number x.0 x.1) ≡ Some (P.Head number y.0 y.1)
same_head number x y same = ap (λ (z : ℕ × List ℕ). Some (P.Head number z.0 z.1)) same

pub comes_once : (p q r : Place) (x y : Option Part) (a b s t : List ℕ) → Comes p x q a → Comes p y r b → a ++ s ≡ b ++ t → (x ≡ y) × (q ≡ r) × (s ≡ t)
comes_once _ _ _ _ _ a b s t (opening q _ fits is) (opening r _ fits' is') same =
    let o = once opening_at a b (opening_bytes q) (opening_bytes r) s t q r (opening_reads q fits) (opening_reads r fits') is is' same in
    (refl, o.0, o.1)
comes_once _ _ _ _ _ a b s t (head n ks _ fits is) (head m ls _ fits' is') same =
    let o = once sender_at a b (sender_bytes n ks) (sender_bytes m ls) s t (n, ks) (m, ls) (sender_reads n ks fits) (sender_reads m ls fits') is is' same in
    (same_head 1 (n, ks) (m, ls) o.0, refl, o.1)
comes_once _ _ _ _ _ a b s t (listed_head us n ks _ are fits is) (listed_head vs m ls _ are' fits' is') same =
    let first : List Polynomial × (ℕ × List ℕ) = (us, (n, ks)) in
    let second : List Polynomial × (ℕ × List ℕ) = (vs, (m, ls)) in
    let o = once listed_head_at a b (list_bytes polynomial_bytes us ++ sender_bytes n ks) (list_bytes polynomial_bytes vs ++ sender_bytes m ls) s t first second
    (listed_head_reads us n ks are fits) (listed_head_reads vs m ls are' fits') is is' same in
    (same_head 2 (n, ks) (m, ls) (ap (λ (z : List Polynomial × (ℕ × List ℕ)). z.1) o.0), ap (λ (z : List Polynomial × (ℕ × List ℕ)). EntryCount (listed z.0 0)) o.0, o.1)
comes_once _ _ _ _ _ a b s t (too_large number n _ fits is) (too_large _ m _ fits' is') same =
    let o = once u64_at a b (u64_bytes n) (u64_bytes m) s t n m (u64_round_trip n fits) (u64_round_trip m fits') is is' same in
    (ap (λ z. Some (P.Large number z)) o.0, refl, o.1)
comes_once _ _ _ _ _ a b s t (entry_count n l k _ fits few rows is) (entry_count m l' _ _ fits' few' rows' is') same =
    let o = once (count_at most_rows) a b (u32_bytes n) (u32_bytes m) s t n m (count_reads most_rows n fits few) (count_reads most_rows m fits' few') is is' same in
    (refl, same_entries n m l l' k o.0 rows rows', o.1)
comes_once _ _ _ _ _ a b s t (entry n l k _ e _ fits within order on is) (entry _ _ _ _ f _ fits' within' order' on' is') same =
    let o = once (own_entry_at (spelling k)) a b (entry_bytes (spelling k) e) (entry_bytes (spelling k) f) s t e f (entry_reads k e fits within) (entry_reads k f fits' within') is is' same in
    (ap (λ z. Some (P.Entry z)) o.0, ap (λ z. Entries n l z) (on ∙ ap (λ z. behind k (entry_mentions z)) o.0 ∙ sym on'), o.1)
comes_once _ _ _ _ _ a b s t (all_entries l k _ is) (all_entries _ _ _ is') same = (refl, refl, behind_none a b s t is is' same)
comes_once _ _ _ _ _ a b s t (drop_count n l k _ fits few is) (drop_count m _ _ _ fits' few' is') same =
    let o = once (count_at l) a b (u32_bytes n) (u32_bytes m) s t n m (count_reads l n fits few) (count_reads l m fits' few') is is' same in
    (refl, ap (λ z. Drops z k) o.0, o.1)
comes_once _ _ _ _ _ a b s t (a_drop n k _ g _ fits within order on is) (a_drop _ _ _ h _ fits' within' order' on' is') same =
    let o = once (own_drop_at (spelling k)) a b (gap_bytes (spelling k) g) (gap_bytes (spelling k) h) s t g h (drop_reads k g fits within) (drop_reads k h fits' within') is is' same in
    (ap (λ z. Some (P.Drop z)) o.0, ap (λ z. Drops n z) (on ∙ ap (λ z. behind k (gap_mentions z)) o.0 ∙ sym on'), o.1)
comes_once _ _ _ _ _ a b s t (all_drops k _ all is) (all_drops _ _ all' is') same = (refl, refl, behind_none a b s t is is' same)
comes_once _ _ _ _ _ a b s t (derivation_count n _ fits is) (derivation_count m _ fits' is') same =
    let o = once u32_at a b (u32_bytes n) (u32_bytes m) s t n m (u32_round_trip n fits) (u32_round_trip m fits') is is' same in
    (refl, ap Derivations o.0, o.1)
comes_once _ _ _ _ _ a b s t (derivation n d _ fits is) (derivation _ e _ fits' is') same =
    let o = once derivation_at a b (derivation_bytes d) (derivation_bytes e) s t d e (derivation_round_trip d fits) (derivation_round_trip e fits') is is' same in
    (ap (λ z. Some (P.Derivation z)) o.0, refl, o.1)
comes_once _ _ _ _ _ a b s t (all_derivations _ is) (all_derivations _ is') same = (refl, refl, behind_none a b s t is is' same)

pub arrives_once : (p q r : Place) (x y : Option Part) (bytes s t : List ℕ) → Arrives p bytes x q s → Arrives p bytes y r t → (x ≡ y) × (q ≡ r) × (s ≡ t)
arrives_once p q r x y bytes s t (front, comes, is) (front', comes', is') = comes_once p q r x y front front' s t comes comes' (sym is ∙ is')

-- ---- one after another

-- what was gone through before, where it is the same
moved : (p q r : Place) (a b s : List ℕ) (parts : List Part) → p ≡ q → a ≡ b → Streams q b parts r s → Streams p a parts r s
moved p q r a b s parts same are next = subst (λ z. Streams z a parts r s) (sym same) (subst (λ l. Streams q l parts r s) (sym are) next)

pub streams_end : (p r : Place) (bytes rest : List ℕ) (parts all : List Part) → Streams p bytes parts r rest → Streams p bytes all Over [] →
    (others : List Part) × (all ≡ parts ++ others) × Streams r rest others Over []
streams_end p _ bytes _ _ all stays whole = (all, refl, whole)
streams_end _ r bytes rest parts _ (goes x first next is) stays = absurd (stuck_over bytes x _ _ first)
streams_end p r bytes rest parts all (goes {q = q} {after = after} {more = more} x first next is) (goes {q = q'} {after = after'} {more = more'} y first' next' is') =
    let o = arrives_once p q q' x y bytes after after' first first' in
    let e = streams_end q r after rest more more' next (moved q q' Over after after' [] more' o.1 o.2 next') in
    (e.0, is' ∙ ap (λ z. those z ++ more') (sym o.0) ∙ ap (λ l. those x ++ l) e.1 ∙ sym (append_assoc (those x) more e.0) ∙ ap (λ l. l ++ e.0) (sym is), e.2)

-- where nothing more comes, no longer list of parts is there
pub stuck_last : (p q r : Place) (bytes rest after : List ℕ) (parts others : List Part) → Streams p bytes parts q rest → IsStuck q rest → Streams p bytes others r after →
    (left : List Part) × (parts ≡ others ++ left)
stuck_last p q _ bytes rest _ parts _ first stuck stays = (parts, refl)
stuck_last p _ r bytes _ after _ others stays stuck (goes x arrives next is) = absurd (stuck x _ _ arrives)
stuck_last p q r bytes rest after parts others (goes {q = s} {after = behind} {more = more} x first next is) stuck (goes {q = s'} {after = behind'} {more = more'} y first' next' is') =
    let o = arrives_once p s s' x y bytes behind behind' first first' in
    let e = stuck_last s q r behind rest after more more' next stuck (moved s s' r behind behind' after more' o.1 o.2 next') in
    (e.0, is ∙ ap (λ l. those x ++ l) e.1 ∙ ap (λ z. those z ++ (more' ++ e.0)) o.0 ∙ sym (append_assoc (those y) more' e.0) ∙ ap (λ l. l ++ e.0) (sym is'))

pub longer : (parts left : List Part) (x : Part) → parts ≡ (parts ++ x ∷ []) ++ left → ⊥
longer parts left x is =
    let all : length parts ≡ length (parts ++ x ∷ []) + length left = ap length is ∙ length-append (parts ++ x ∷ []) left in
    let one : length (parts ++ x ∷ []) ≡ length parts + 1 = length-append parts (x ∷ []) in omega arith

pub no_further : (p q r : Place) (bytes rest after : List ℕ) (parts : List Part) (x : Part) → Streams p bytes parts q rest → IsStuck q rest → ¬ Streams p bytes (parts ++ x ∷ []) r after
no_further p q r bytes rest after parts x first stuck second =
    let e = stuck_last p q r bytes rest after parts (parts ++ x ∷ []) first stuck second in longer parts e.0 x e.1

-- where nothing more comes, but it isn't the end
pub no_end : (p q : Place) (bytes rest : List ℕ) (parts : List Part) → Streams p bytes parts q rest → IsStuck q rest → (q ≡ Over → rest ≡ [] → ⊥) → (all : List Part) → ¬ Streams p bytes all Over []
no_end p q bytes rest parts first stuck other all whole = stops (streams_end p q bytes rest parts all first whole).2 stuck other where
  stops : {q : Place} {rest : List ℕ} {others : List Part} → Streams q rest others Over [] → IsStuck q rest → (q ≡ Over → rest ≡ [] → ⊥) → ⊥
  stops stays stuck other = other refl refl
  stops (goes x arrives next is) stuck other = stuck x _ _ arrives

-- more bytes behind
pub streams_more : (p q r : Place) (bytes rest more after : List ℕ) (parts others : List Part) → Streams p bytes parts q rest → Streams q (rest ++ more) others r after →
    Streams p (bytes ++ more) (parts ++ others) r after
streams_more p _ r bytes _ more after _ others stays second = second
streams_more p q r bytes rest more after parts others (goes {q = s} {after = behind} {more = left} x (front, comes, is) next are) second =
    goes x (front, comes, ap (λ l. l ++ more) is ∙ append_assoc front behind more) (streams_more s q r behind rest more after left others next second)
    (ap (λ l. l ++ others) are ∙ append_assoc (those x) left others)

streams_then : (p q r : Place) (bytes rest after : List ℕ) (parts others : List Part) → Streams p bytes parts q rest → Streams q rest others r after → Streams p bytes (parts ++ others) r after
streams_then p _ r bytes _ after _ others stays second = second
streams_then p q r bytes rest after parts others (goes {q = s} {after = behind} {more = left} x arrives next are) second =
    goes x arrives (streams_then s q r behind rest after left others next second) (ap (λ l. l ++ others) are ∙ append_assoc (those x) left others)

-- after counts comes one more, or a part
pub then_comes : (p q r : Place) (bytes rest after : List ℕ) (x : Option Part) → Streams p bytes [] q rest → Arrives q rest x r after → Streams p bytes (those x) r after
then_comes p q r bytes rest after x first arrives = streams_then p q r bytes rest after [] (those x) first (goes x arrives stays (sym (append-nil (those x))))

pub then_count : (p q r : Place) (bytes rest after : List ℕ) → Streams p bytes [] q rest → Arrives q rest None r after → Streams p bytes [] r after
then_count p q r bytes rest after first arrives = then_comes p q r bytes rest after None first arrives

pub no_parts_yet : (p : Place) (bytes : List ℕ) → Streams p bytes [] p bytes
no_parts_yet p bytes = stays

pub falls_on : (p q : Place) (bytes rest : List ℕ) → Arrives p bytes None q rest → rank q < rank p
falls_on p q bytes rest (front, comes, is) = falls p q front comes

-- where no part was given
pub come_falls : (here then_here : Next) (ts : Option (List Polynomial)) (bytes rest : List ℕ) (x : Option Given) → x ≡ None → Arrives (place_of here ts) bytes (part_in x) (place_of then_here (terms_behind ts x)) rest →
    rank (place_of then_here ts) < rank (place_of here ts)
come_falls here then_here ts bytes rest None none arrives = falls_on (place_of here ts) (place_of then_here ts) bytes rest arrives
come_falls here then_here ts bytes rest (Some x) none arrives = absurd cc

-- the parts of more bytes begin with those of the first
pub streams_begin : (p q : Place) (bytes rest more : List ℕ) (parts all : List Part) → Streams p bytes parts q rest → Streams p (bytes ++ more) all Over [] →
    (others : List Part) × (all ≡ parts ++ others) × Streams q (rest ++ more) others Over []
streams_begin p q bytes rest more parts all first whole =
    let wide : Streams p (bytes ++ more) (parts ++ []) q (rest ++ more) = streams_more p q q bytes rest more (rest ++ more) parts [] first stays in
    let e = streams_end p q (bytes ++ more) (rest ++ more) (parts ++ []) all wide whole in
    (e.0, e.1 ∙ ap (λ l. l ++ e.0) (append-nil parts), e.2)

-- where nothing more comes behind these bytes either, but it isn't the end
pub no_end_with : (p q : Place) (bytes rest more : List ℕ) → Streams p bytes [] q rest → IsStuck q (rest ++ more) → (q ≡ Over → rest ++ more ≡ [] → ⊥) → (all : List Part) →
    ¬ Streams p (bytes ++ more) all Over []
no_end_with p q bytes rest more first stuck other all whole =
    no_end p q (bytes ++ more) (rest ++ more) [] (streams_more p q q bytes rest more (rest ++ more) [] [] first stays) stuck other all whole

-- ---- what comes is a part

-- a part that is none
abbrev pub IsNone : Part → Type 0
IsNone P.Held = Unit {0}
IsNone (P.Head number ticket kinds) = ⊥
IsNone (P.Entry e) = ⊥
IsNone (P.Drop g) = ⊥
IsNone (P.Derivation d) = ⊥
IsNone (P.Large number ticket) = ⊥
IsNone P.End = Unit {0}

comes_part : (p q : Place) (x : Part) (front : List ℕ) → Comes p (Some x) q front → IsNone x → ⊥
comes_part _ _ _ _ (head ticket kinds _ fits is) none = none
comes_part _ _ _ _ (listed_head terms ticket kinds _ are fits is) none = none
comes_part _ _ _ _ (too_large number ticket _ fits is) none = none
comes_part _ _ _ _ (entry n r k on e _ fits within order is same) none = none
comes_part _ _ _ _ (a_drop n k on g _ fits within order is same) none = none
comes_part _ _ _ _ (derivation n d _ fits is) none = none

abbrev first_or : Part → List Part → Part
first_or x [] = x
first_or x (y ∷ ys) = y

-- the first of parts that bytes hold
pub first_is_part : (p q : Place) (bytes rest : List ℕ) (x : Part) (parts all : List Part) → Streams p bytes all q rest → all ≡ x ∷ parts → IsNone x → ⊥
first_is_part p _ bytes _ x parts _ stays is none = absurd cc
first_is_part p q bytes rest x parts all (goes {q = s} {after = after} {more = more} None arrives next are) is none =
    first_is_part s q after rest x parts more next (sym are ∙ is) none
first_is_part p q bytes rest x parts all (goes {q = s} {after = after} {more = more} (Some y) (front, comes, at) next are) is none =
    let same : y ∷ more ≡ x ∷ parts = sym are ∙ is in
    let one : y ≡ x = ap (first_or x) same in
    comes_part p s x front (subst (λ z. Comes p (Some z) s front) one comes) none
