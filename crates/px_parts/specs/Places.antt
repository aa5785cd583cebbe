-- What comes next in a message, and how polynomials are named there.
use Rattle.std.specs.Prelude.{◌≡◌, ◌⊎◌, ℕ, List, [], ◌∷◌, ◌++◌, length, take, ⊤}
use Rattle.px_terms.specs.Polynomials.{Polynomial}
use Rattle.px_spelling.specs.Polynomials.{PolynomialSpelling, in_full}
use Rattle.px_spelling.specs.ByPlace.{distinct, by_place}

-- ---- how polynomials are named

-- each in full; or by its place in these terms, of which so many were named
pub data Naming : Type 0 where
  full : Naming
  listed : List Polynomial → ℕ → Naming

-- their spelling
abbrev pub spelling : Naming → PolynomialSpelling
spelling full = in_full
spelling (listed terms n) = by_place terms

-- of the first so many terms and these, each once
abbrev pub named_with : List Polynomial → ℕ → List Polynomial → List Polynomial
named_with terms n ps = distinct (take n terms ++ ps)

-- Where these are mentioned in order, no term is passed over: each is one that was named, or the next.
abbrev pub AreInOrder : Naming → List Polynomial → Type 0
AreInOrder full ps = ⊤
AreInOrder (listed terms n) ps = take (length (named_with terms n ps)) terms ≡ named_with terms n ps

-- how they are named after that
abbrev pub behind : Naming → List Polynomial → Naming
behind full ps = full
behind (listed terms n) ps = listed terms (length (named_with terms n ps))

-- each term was named
abbrev pub AllNamed : Naming → Type 0
AllNamed full = ⊤
AllNamed (listed terms n) = n ≡ length terms

-- ---- places

pub data Place : Type 0 where
  -- which message it is, and its version
  Start : Place
  -- the ticket and kinds of a reply
  Head : Place
  -- the list of its terms, and then these
  ListedHead : Place
  -- the ticket of a reply that is too long, in a version
  Large : ℕ → Place
  -- how many entries there are
  EntryCount : Naming → Place
  -- so many entries; then there are at most so many drops
  Entries : ℕ → ℕ → Naming → Place
  -- how many drops there are, at most so many
  DropCount : ℕ → Naming → Place
  -- so many drops
  Drops : ℕ → Naming → Place
  -- how many derivations there are
  DerivationCount : Place
  -- so many derivations
  Derivations : ℕ → Place
  -- nothing
  Over : Place

-- ---- the first bytes of a message

abbrev pub IsKnown : ℕ → Type 0
IsKnown number = (number ≡ 1) ⊎ (number ≡ 2)

-- a message goes on there after the byte of its version
abbrev pub IsOpened : Place → Type 0
IsOpened Start = ⊥
IsOpened Head = ⊤
IsOpened ListedHead = ⊤
IsOpened (Large number) = IsKnown number
IsOpened (EntryCount k) = ⊥
IsOpened (Entries n r k) = ⊥
IsOpened (DropCount r k) = ⊥
IsOpened (Drops n k) = ⊥
IsOpened DerivationCount = ⊥
IsOpened (Derivations n) = ⊥
IsOpened Over = ⊥

-- which message it is then, and its version
abbrev pub opening_bytes : Place → List ℕ
opening_bytes Start = []
opening_bytes Head = 1 ∷ 1 ∷ []
opening_bytes ListedHead = 1 ∷ 2 ∷ []
opening_bytes (Large number) = 2 ∷ number ∷ []
opening_bytes (EntryCount k) = []
opening_bytes (Entries n r k) = []
opening_bytes (DropCount r k) = []
opening_bytes (Drops n k) = []
opening_bytes DerivationCount = []
opening_bytes (Derivations n) = []
opening_bytes Over = []
