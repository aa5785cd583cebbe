-- What a claim changes.
use Rattle.std.specs.Prelude.{◌≡◌, ◌≢◌, ℕ, ◌+◌, ◌<◌, ◌⊎◌, Bool, true, false, List, [], ◌∷◌, ◌++◌, Option, Some, None, length, slice_get, slice_set}
use Rattle.px_terms.specs.declared.variables.VarInfo.{VarInfo}
use Rattle.px_terms.specs.declared.variables.Sort.TheVariants.{Cell}
use Rattle.px_plain.specs.declared.nodes.Difference.{Difference}
use Rattle.px_plain.specs.declared.trees.Tree.{Tree}
use Rattle.px_plain.specs.declared.claims.Claim.{Claim}
use Rattle.px_plain.specs.declared.claims.Claim.TheVariants as claim
use Rattle.px_plain.specs.declared.claims.Mark.{Mark}
use Rattle.px_plain.specs.declared.claims.Mark.TheVariants as mark
use Rattle.px_plain.specs.declared.claims.Ends.{Ends}
use Rattle.px_plain.specs.declared.claims.Change.{Change}
use Rattle.px_plain.specs.declared.claims.Change.TheVariants as change
use Rattle.px_plain.specs.declared.claims.Step.{Step}
use Rattle.px_plain.specs.declared.claims.Step.TheVariants as step
use Rattle.px_plain.specs.Trees.{Flat, AreOne}
use Rattle.px_plain.specs.Joins.{JoinsWords, JoinsPlaces, owner_at}
use Rattle.px_plain.specs.Steps.{Content, mark_at, marked, last_step, is_refuted}

-- ---- ends and marks

abbrev pub from_of : Claim → ℕ
from_of claim.Nothing = 0
from_of (claim.Words d) = d.from
from_of (claim.Places d) = d.from
from_of (claim.Written u) = u
from_of (claim.Unwritten u) = u
from_of (claim.Apart u) = u

abbrev pub to_of : Claim → ℕ
to_of claim.Nothing = 0
to_of (claim.Words d) = d.to
to_of (claim.Places d) = d.to
to_of (claim.Written u) = u
to_of (claim.Unwritten u) = u
to_of (claim.Apart u) = 0

-- what the ends are, once the claim holds
abbrev pub mark_of : Claim → Mark
mark_of (claim.Unwritten u) = mark.Unwritten
mark_of _ = mark.Written

abbrev pub ends_of : List Mark → Claim → Ends
ends_of marks k = record { from = from_of k; to = to_of k; from_was = mark_at marks (from_of k); to_was = mark_at marks (to_of k) }

-- the ends can be what the claim says: only contents of cells are unwritten
abbrev pub MayMark : List VarInfo → List Mark → Claim → Type 0
MayMark vars marks (claim.Unwritten u) = ((x : ℕ) (i : VarInfo) → u ≡ x + 1 → slice_get vars x ≡ Some i → i.sort ≡ Cell) × (mark_at marks u ≢ mark.Written)
MayMark vars marks k = (mark_at marks (from_of k) ≢ mark.Unwritten) × (mark_at marks (to_of k) ≢ mark.Unwritten)

-- the node of a variable that is always written
pub record IsOtherNode (vars : List VarInfo) (u : ℕ) : Type 0 where
  pub variable : ℕ
  pub info : VarInfo
  pub node : u ≡ variable + 1
  pub is : slice_get vars variable ≡ Some info
  pub sort : info.sort ≢ Cell

abbrev pub CannotMark : List VarInfo → List Mark → Claim → Type 0
CannotMark vars marks (claim.Unwritten u) = IsOtherNode vars u ⊎ (mark_at marks u ≡ mark.Written)
CannotMark vars marks k = (mark_at marks (from_of k) ≡ mark.Unwritten) ⊎ (mark_at marks (to_of k) ≡ mark.Unwritten)

-- ---- trees and disequalities

-- a disequality of words is added
abbrev pub AddsUnequal : List Tree → List Difference → Difference → List Tree → List Difference → Option Change → Type 0
AddsUnequal t us d u vs None = (u ≡ t) × (vs ≡ us) × ((f : Flat t) → AreOne f d)
AddsUnequal t us d u vs (Some change.UnequalWords) = (u ≡ t) × (vs ≡ us ++ d ∷ []) × ((f : Flat t) → ¬ AreOne f d)
AddsUnequal t us d u vs (Some _) = ⊥

pub record WordsChanged (t : List Tree) (us : List Difference) (d : Difference) (u : List Tree) (vs : List Difference) (o : Option Change) : Type 0 where
  pub equal : d.equal ≡ true → JoinsWords t us d u o × (vs ≡ us)
  pub unequal : d.equal ≡ false → AddsUnequal t us d u vs o

abbrev pub AddsOther : List Tree → List Difference → Difference → List Tree → List Difference → Option Change → Type 0
AddsOther t us d u vs None = (u ≡ t) × (vs ≡ us) × ((f : Flat t) → AreOne f d)
AddsOther t us d u vs (Some change.UnequalPlaces) = (u ≡ t) × (vs ≡ us ++ d ∷ []) × ((f : Flat t) → ¬ AreOne f d)
AddsOther t us d u vs (Some _) = ⊥

pub record PlacesChanged (vars : List VarInfo) (owners : List Bool) (t : List Tree) (us : List Difference) (d : Difference) (u : List Tree) (vs : List Difference) (o : Option Change) : Type 0 where
  pub equal : d.equal ≡ true → JoinsPlaces vars owners t us d u o × (vs ≡ us)
  pub unequal : d.equal ≡ false → AddsOther t us d u vs o

-- the root of the node gets a place apart
abbrev pub ApartChanged : List Tree → List Bool → ℕ → List Bool → Option Change → Type 0
ApartChanged t owners u owned None = (owned ≡ owners) × ((f : Flat t) → (f.root u ≡ 0) ⊎ (owner_at owners (f.root u) ≡ true))
ApartChanged t owners u owned (Some (change.Owner r)) = (owned ≡ slice_set owners r true) × (r ≢ 0) × (owner_at owners r ≡ false) × (r < length t) × ((f : Flat t) → r ≡ f.root u)
ApartChanged t owners u owned (Some _) = ⊥

-- a claim takes what a stack is made of to what it is made of then, beside marks
abbrev pub Changed : Content → Claim → Content → Option Change → Type 0
Changed c (claim.Words d) e o = (e ≡ record c { words = e.words; unequal_words = e.unequal_words }) × WordsChanged c.words c.unequal_words d e.words e.unequal_words o
Changed c (claim.Places d) e o = (e ≡ record c { places = e.places; unequal_places = e.unequal_places }) × PlacesChanged c.vars c.owners c.places c.unequal_places d e.places e.unequal_places o
Changed c (claim.Apart u) e o = (e ≡ record c { owners = e.owners }) × ApartChanged c.places c.owners u e.owners o
Changed c _ e o = (e ≡ c) × (o ≡ Some change.Nothing)

-- ---- steps

-- why a claim refutes
pub data RefutedBy (c : Content) (k : Claim) (e : Content) : Type 0 where
  already : is_refuted (last_step c.steps) ≡ true → e ≡ c → RefutedBy c k e
  unmarkable : is_refuted (last_step c.steps) ≡ false → k ≢ claim.Nothing → CannotMark c.vars c.marks k → e ≡ c → RefutedBy c k e
  unchangeable : is_refuted (last_step c.steps) ≡ false → Changed c k e None → RefutedBy c k e

-- a claim that is added, with its step still to come
pub record ClaimAdded (c : Content) (k : Claim) (e : Content) (ends : Ends) (o : Change) : Type 0 where
  pub unrefuted : is_refuted (last_step c.steps) ≡ false
  pub some : k ≢ claim.Nothing
  pub may : MayMark c.vars c.marks k
  pub ends_are : ends ≡ ends_of c.marks k
  pub between : Content
  pub changed : Changed c k between (Some o)
  pub after : e ≡ record between { marks = marked c.marks ends (mark_of k) }

abbrev pub Takes : Content → Claim → Content → Step → Type 0
Takes c k e step.Refuted = RefutedBy c k e
Takes c k e step.Quiet = (is_refuted (last_step c.steps) ≡ false) × (k ≡ claim.Nothing) × (e ≡ c)
Takes c k e (step.Variable r) = ⊥
Takes c k e (step.Claimed ends o) = ClaimAdded c k e ends o
