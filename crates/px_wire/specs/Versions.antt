-- Which bytes spell a message in which version.
use Rattle.std.specs.Prelude.{◌≡◌, ◌⊎◌, ℕ, ◌==◌, if◌then◌else◌, List, [], ◌∷◌, ◌++◌, length, Option, Some, None, IfSome, Result, Ok, Err, ⊤}
use Rattle.px_terms.specs.Polynomials.{Polynomial}
use Rattle.px_spelling.specs.declared.fault.WireFault.{WireFault}
use Rattle.px_spelling.specs.declared.fault.WireFault.TheVariants.{NotAMessage, NoMemory}
use Rattle.px_spelling.specs.Numbers.{IsU32}
use Rattle.px_spelling.specs.Lists.{list_bytes}
use Rattle.px_spelling.specs.Polynomials.{polynomial_bytes}
use Rattle.px_spelling.specs.ByPlace.{by_place}
use Rattle.px_wire.specs.Messages.{MessageTree, request, reply, large, said_tree, tag_of, fields_bytes, message_bytes, IsMessage}
use Rattle.px_wire.specs.Mentions.{terms_of}
use Rattle.px_wire.specs.declared.message.Said.{Said}

-- what is said, and in which version
pub record Sent : Type 0 where
  pub version : ℕ
  pub said : Said

-- as plain data
abbrev pub message_tree : Sent → MessageTree
message_tree m = said_tree m.said

-- version 2 where there is a list of terms
abbrev pub version_of : Option (List Polynomial) → ℕ
version_of None = 1
version_of (Some terms) = 2

abbrev pub sent : Said → Option (List Polynomial) → Sent
sent said terms = record { version = version_of terms; said = said }

-- where there is a list, it is that of the terms
abbrev pub HasTerms : Said → Option (List Polynomial) → Type 0
HasTerms said terms = IfSome terms (λ ts. ts ≡ terms_of (said_tree said))

-- ---- their bytes

-- the list of its terms; that a reply is too long has none
abbrev pub terms_bytes : MessageTree → List ℕ
terms_bytes (request j) = list_bytes polynomial_bytes (terms_of (request j))
terms_bytes (reply ticket kinds table derivations) = list_bytes polynomial_bytes (terms_of (reply ticket kinds table derivations))
terms_bytes (large ticket) = []

-- which message it is, version 2, the terms, and the fields, each polynomial by its place among them
abbrev pub shared_bytes : MessageTree → List ℕ
shared_bytes m = tag_of m ∷ 2 ∷ (terms_bytes m ++ fields_bytes (by_place (terms_of m)) m)

-- each polynomial in full in version 1, and sent once in version 2
abbrev pub bytes_in : ℕ → MessageTree → List ℕ
bytes_in number m = if number == 2 then shared_bytes m else message_bytes m

-- It is version 1; or 2, and its terms can be counted.
abbrev pub HasVersion : ℕ → MessageTree → Type 0
HasVersion number m = (number ≡ 1) ⊎ ((number ≡ 2) × IsU32 (length (terms_of m)))

-- These bytes spell this message in this version, and nothing follows it.
abbrev pub SpellsIn : ℕ → List ℕ → MessageTree → Type 0
SpellsIn number bytes m = (bytes ≡ bytes_in number m) × IsMessage m × HasVersion number m

-- these bytes begin with a message in this version, and these follow it
abbrev pub BeginWith : List ℕ → ℕ → MessageTree → List ℕ → Type 0
BeginWith bytes number m rest = (bytes ≡ bytes_in number m ++ rest) × IsMessage m × HasVersion number m

-- ---- what is read

-- the message that they spell, and its version; that there is none in any; or memory ran out
abbrev pub IsDecodedIn : List ℕ → Result Sent WireFault → Type 0
IsDecodedIn bytes (Ok m) = SpellsIn m.version bytes (message_tree m)
IsDecodedIn bytes (Err NotAMessage) = (number : ℕ) (m : MessageTree) → ¬ SpellsIn number bytes m
IsDecodedIn bytes (Err NoMemory) = ⊤
