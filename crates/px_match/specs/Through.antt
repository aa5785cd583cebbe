-- What code answers of terms that a caller reads: what they are, or that it is too long to be kept.
use Rattle.std.specs.Prelude.{◌≡◌, true, false, List, Option, Some, None}
use Rattle.std.specs.List.{list_any}
use Rattle.px_terms.specs.Polynomials.{Polynomial}
use Rattle.px_terms.specs.declared.variables.Var.{Var}
use Rattle.px_terms.specs.declared.conjuncts.Content.{Content}
use Rattle.px_terms.specs.declared.conjuncts.Content.TheVariants.{Unwritten, Word, Place, Cell}
use Rattle.px_entry.specs.Sorts.{is_long}
use Rattle.px_callgraph.specs.Renaming.{Claim, surely, never, claims, claim_terms}
use Rattle.px_match.specs.declared.words.Read.{Read}
use Rattle.px_match.specs.declared.words.Read.TheVariants as read
use Rattle.px_match.specs.declared.claims.Claimed.{Claimed}
use Rattle.px_match.specs.declared.claims.Claimed.TheVariants as claimed

-- what is made, unless one of its terms is too long
abbrev pub IsThrough : {A : Type 0} → Option A → A → List Polynomial → Type 0
IsThrough None a terms = list_any is_long terms ≡ true
IsThrough (Some b) a terms = (b ≡ a) × (list_any is_long terms ≡ false)

-- a polynomial as the caller reads it, if its variables stand for words and it isn't too long
abbrev pub IsRead : Read → Option Polynomial → Type 0
IsRead read.NoWord o = o ≡ None
IsRead (read.Word q) o = (o ≡ Some q) × (is_long q ≡ false)
IsRead read.Long o = (q : Polynomial) × (o ≡ Some q) × (is_long q ≡ true)

-- the claim, unless it is a conjunct with a term that is too long
abbrev pub IsClaimed : Claimed → Claim → Type 0
IsClaimed claimed.Surely claim = claim ≡ surely
IsClaimed claimed.Never claim = claim ≡ never
IsClaimed (claimed.Claims c) claim = (claim ≡ claims c) × (list_any is_long (claim_terms claim) ≡ false)
IsClaimed claimed.Long claim = list_any is_long (claim_terms claim) ≡ true

-- the cell variable that a content is
abbrev pub cell_of : Content → Option Var
cell_of Unwritten = None
cell_of (Word p) = None
cell_of (Place a) = None
cell_of (Cell x) = Some x
