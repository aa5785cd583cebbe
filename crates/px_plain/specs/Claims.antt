-- What claims say of nodes.
use Rattle.std.specs.Prelude.{ℕ, Option, Some, None}
use Rattle.px_plain.specs.declared.nodes.Difference.{Difference}
use Rattle.px_plain.specs.declared.claims.Claim.{Claim}
use Rattle.px_plain.specs.declared.claims.Claim.TheVariants.{Nothing, Words, Places, Written, Unwritten, Apart}

abbrev pub words_claimed : Claim → Option Difference
words_claimed Nothing = None
words_claimed (Words d) = Some d
words_claimed (Places d) = None
words_claimed (Written u) = None
words_claimed (Unwritten u) = None
words_claimed (Apart u) = None

abbrev pub places_claimed : Claim → Option Difference
places_claimed Nothing = None
places_claimed (Words d) = None
places_claimed (Places d) = Some d
places_claimed (Written u) = None
places_claimed (Unwritten u) = None
places_claimed (Apart u) = None

abbrev pub unwritten_claimed : Claim → Option ℕ
unwritten_claimed Nothing = None
unwritten_claimed (Words d) = None
unwritten_claimed (Places d) = None
unwritten_claimed (Written u) = None
unwritten_claimed (Unwritten u) = Some u
unwritten_claimed (Apart u) = None

abbrev pub written_claimed : Claim → Option ℕ
written_claimed Nothing = None
written_claimed (Words d) = None
written_claimed (Places d) = None
written_claimed (Written u) = Some u
written_claimed (Unwritten u) = None
written_claimed (Apart u) = None

-- the claim of a conjunct
abbrev pub IsConjunctClaim : Claim → Type 0
IsConjunctClaim (Apart u) = ⊥
IsConjunctClaim _ = Unit {0}
