-- Entries that can be taken whatever their procedure is called with, and those of them that end in an error.
use Rattle.std.specs.Prelude.{◌≡◌, ◌&&◌, not, Bool, true, false, List, [], ◌∷◌, All, ⊤}
use Rattle.std.specs.List.{list_all}
use Rattle.px_terms.specs.Variables.{mentioned}
use Rattle.px_terms.specs.Valuations.{valuation_of}
use Rattle.px_terms.specs.Conjuncts.{IsTrueUnder}
use Rattle.px_terms.specs.declared.variables.VarInfo.{VarInfo}
use Rattle.px_terms.specs.declared.conjuncts.Conj.{Conj}
use Rattle.px_entry.specs.declared.atoms.Atom.{Atom}
use Rattle.px_entry.specs.declared.entries.Entry.{Entry}
use Rattle.px_entry.specs.declared.entries.Exit.{Exit}
use Rattle.px_entry.specs.declared.entries.Exit.TheVariants.{Ok, Error}
use Rattle.px_entry.specs.Sorts.{is_given}

-- a memory error
abbrev pub IsError : Exit → Type 0
IsError Ok = ⊥
IsError (Error kind site) = ⊤

-- no variable that the conjunct mentions is given
abbrev pub MentionsNoneGiven : List VarInfo → Conj → Type 0
MentionsNoneGiven vars c = All (λ x. is_given vars x ≡ false) (mentioned c)

-- An entry asks nothing of the state that its procedure is called from: it finds no block, its conjuncts mention nothing
-- that is given, and its own values make them true.
pub record AsksNothing (x : Entry) : Type 0 where
  pub finds_none : x.pre ≡ []
  pub assumes_nothing_given : All (MentionsNoneGiven x.vars) x.pure
  pub own_values : All (IsTrueUnder (valuation_of x.model)) x.pure

-- it looks manifest: it ends in an error, and asks nothing
pub record LooksManifest (x : Entry) : Type 0 where
  pub fails : IsError x.exit
  pub asks : AsksNothing x

-- ---- the tests, of an entry whose own values are known to make its conjuncts true

abbrev pub is_error : Exit → Bool
is_error Ok = false
is_error (Error kind site) = true

abbrev pub has_none : List Atom → Bool
has_none [] = true
has_none (a ∷ rest) = false

abbrev pub mentions_none_given : List VarInfo → Conj → Bool
mentions_none_given vars c = list_all (λ x. not (is_given vars x)) (mentioned c)

abbrev pub asks_nothing : Entry → Bool
asks_nothing x = has_none x.pre && list_all (mentions_none_given x.vars) x.pure

abbrev pub looks_manifest : Entry → Bool
looks_manifest x = is_error x.exit && asks_nothing x
