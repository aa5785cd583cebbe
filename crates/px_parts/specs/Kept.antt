-- What a reader waits for, in the code.
use Rattle.std.specs.Prelude.{◌≡◌, ℕ, ◌<◌, List, drop, Bool, true, false, Option, Some, None, Result, Ok, Err}
use Rattle.px_terms.specs.Polynomials.{Polynomial}
use Rattle.px_spelling.specs.declared.fault.WireFault.{WireFault}
use Rattle.px_spelling.specs.declared.fault.WireFault.TheVariants.{NotAMessage, NoMemory}
use Rattle.px_spelling.specs.Polynomials.{PolynomialSpelling, in_full}
use Rattle.px_spelling.specs.ByPlace.{by_place}
use Rattle.px_parts.specs.declared.part.Part.{Part}
use Rattle.px_parts.specs.declared.part.Part.TheVariants as P
use Rattle.px_parts.specs.declared.part.Taken.{Taken}
use Rattle.px_parts.specs.declared.next.Next.{Next}
use Rattle.px_parts.specs.declared.next.Next.TheVariants as N
use Rattle.px_parts.specs.declared.steps.Given.{Given}
use Rattle.px_parts.specs.declared.steps.Given.TheVariants as G
use Rattle.px_parts.specs.declared.unread.Unread.{Unread}
use Rattle.px_parts.specs.Places.{Naming, full, listed, Place, Start, Head, ListedHead, Large, EntryCount, Entries, DropCount, Drops, DerivationCount, Derivations, Over}
use Rattle.px_parts.specs.Taking.{Waiting, waits, refuses}

-- ---- what comes next, where these are the terms, if there is a list of them

abbrev pub naming : Option (List Polynomial) → ℕ → Naming
naming None n = full
naming (Some terms) n = listed terms n

abbrev pub spelling_by : Option (List Polynomial) → PolynomialSpelling
spelling_by None = in_full
spelling_by (Some terms) = by_place terms

abbrev pub place_of : Next → Option (List Polynomial) → Place
place_of N.Start terms = Start
place_of N.Head terms = Head
place_of N.ListedHead terms = ListedHead
place_of (N.Large number) terms = Large number
place_of N.EntryCount terms = EntryCount (naming terms 0)
place_of (N.Entries n r named) terms = Entries n r (naming terms named)
place_of (N.DropCount r named) terms = DropCount r (naming terms named)
place_of (N.Drops n named) terms = Drops n (naming terms named)
place_of N.DerivationCount terms = DerivationCount
place_of (N.Derivations n) terms = Derivations n
place_of N.Over terms = Over

-- the part that was given, and the terms behind it, where these were before
abbrev pub part_in : Option Given → Option Part
part_in None = None
part_in (Some (G.Head x terms)) = Some x
part_in (Some (G.Row x)) = Some x

abbrev pub terms_behind : Option (List Polynomial) → Option Given → Option (List Polynomial)
terms_behind terms None = terms
terms_behind terms (Some (G.Head x own)) = own
terms_behind terms (Some (G.Row x)) = terms

-- ---- what is kept

abbrev pub place_in : Unread → Place
place_in u = place_of u.next u.terms

-- the bytes of what comes next
abbrev pub held_in : Unread → List ℕ
held_in u = drop u.start u.held.items

abbrev pub waiting_of : Unread → Waiting
waiting_of u = waits (place_in u) (held_in u) u.left

-- unless it has refused the bytes
abbrev pub kept_by : Bool → Unread → Waiting
kept_by true u = refuses
kept_by false u = waiting_of u

-- after this answer
abbrev pub kept_after : Result Taken WireFault → Unread → Waiting
kept_after (Ok t) u = waiting_of u
kept_after (Err NotAMessage) u = refuses
kept_after (Err NoMemory) u = waiting_of u

-- all but what was passed over
abbrev pub IsSame : Unread → Unread → Type 0
IsSame u v = (v.next ≡ u.next) × (v.terms ≡ u.terms) × (v.held.items ≡ u.held.items) × (v.start ≡ u.start) × (v.left ≡ u.left)

-- What is answered where nothing more comes, so many bytes are behind, so many weren't taken, and those of what comes next are ended or
-- not.
abbrev pub IsQuiet : Next → ℕ → ℕ → Bool → Result Part WireFault → Type 0
IsQuiet n behind left ended (Ok P.Held) = 0 < left
IsQuiet n behind left ended (Ok (P.Head number ticket kinds)) = ⊥
IsQuiet n behind left ended (Ok (P.Entry e)) = ⊥
IsQuiet n behind left ended (Ok (P.Drop g)) = ⊥
IsQuiet n behind left ended (Ok (P.Derivation d)) = ⊥
IsQuiet n behind left ended (Ok (P.Large number ticket)) = ⊥
IsQuiet n behind left ended (Ok P.End) = (left ≡ 0) × (behind ≡ 0) × (n ≡ N.Over)
IsQuiet n behind left ended (Err NotAMessage) = (0 < left → ended ≡ true) × (left ≡ 0 → behind ≡ 0 → n ≡ N.Over → ⊥)
IsQuiet n behind left ended (Err NoMemory) = ⊥

-- what is answered where a part was found, or none
abbrev pub IsAnswer : Option Part → Next → ℕ → ℕ → Bool → ℕ → Result Taken WireFault → Type 0
IsAnswer (Some x) n behind left ended taken answer = answer ≡ Ok (record { part = x; taken = taken })
IsAnswer None n behind left ended taken (Ok t) = (t.taken ≡ taken) × IsQuiet n behind left ended (Ok t.part)
IsAnswer None n behind left ended taken (Err e) = IsQuiet n behind left ended (Err e)
