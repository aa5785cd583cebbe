-- What equalities of words and of places change of trees, and when they can't hold.
use Rattle.std.specs.Prelude.{◌≡◌, ◌≢◌, ℕ, ◌+◌, ◌<◌, ◌⊎◌, Bool, true, false, List, Option, Some, None, length, slice_get, slice_index_or}
use Rattle.px_terms.specs.declared.variables.VarInfo.{VarInfo}
use Rattle.px_terms.specs.declared.variables.Sort.TheVariants.{Made}
use Rattle.px_plain.specs.declared.nodes.Difference.{Difference}
use Rattle.px_plain.specs.declared.trees.Tree.{Tree}
use Rattle.px_plain.specs.declared.trees.Link.{Link}
use Rattle.px_plain.specs.declared.claims.Change.{Change}
use Rattle.px_plain.specs.declared.claims.Change.TheVariants as change
use Rattle.px_plain.specs.declared.merging.Meeting.{Meeting}
use Rattle.px_plain.specs.declared.merging.Meeting.TheVariants as meeting
use Rattle.px_plain.specs.Forest.{IsAbove}
use Rattle.px_plain.specs.Differences.{difference_at}
use Rattle.px_plain.specs.Trees.{Flat, KeepsFlat, IsLink, linked, AreOne, AreApart, Ties, parent_at}

-- no disequality's difference holds
abbrev pub AllApart : (ℕ → ℕ) → List Difference → Type 0
AllApart w ds = (j : ℕ) → j < length ds → ¬ IsAbove w (difference_at ds j).to (difference_at ds j).from (difference_at ds j).plus

-- ---- words

-- no values that the trees keep make the equality and the disequalities true
abbrev pub CannotJoin : List Tree → List Difference → Difference → Type 0
CannotJoin t us d = (f : Flat t) (w : ℕ → ℕ) → KeepsFlat w f → AllApart w us → ¬ IsAbove w d.to d.from d.plus

-- an equality of words that is added takes trees to trees
abbrev pub JoinsWords : List Tree → List Difference → Difference → List Tree → Option Change → Type 0
JoinsWords t us d u None = (u ≡ t) × CannotJoin t us d
JoinsWords t us d u (Some change.Nothing) = (u ≡ t) × ((f : Flat t) → AreOne f d)
JoinsWords t us d u (Some (change.Words l)) = (u ≡ linked t l) × IsLink t l × ((f : Flat t) → Ties f d l) × AreApart u us
JoinsWords t us d u (Some _) = ⊥

-- ---- places

abbrev pub owner_at : List Bool → ℕ → Bool
owner_at owners v = slice_index_or owners v false

-- the node of a made variable
pub record IsMadeNode (vars : List VarInfo) (u : ℕ) : Type 0 where
  pub variable : ℕ
  pub info : VarInfo
  pub node : u ≡ variable + 1
  pub is : slice_get vars variable ≡ Some info
  pub made : info.sort ≡ Made

pub record HaveTwoTypes (vars : List VarInfo) (a b : ℕ) : Type 0 where
  pub first : ℕ
  pub second : ℕ
  pub one : VarInfo
  pub other : VarInfo
  pub first_node : a ≡ first + 1
  pub second_node : b ≡ second + 1
  pub is_first : slice_get vars first ≡ Some one
  pub is_second : slice_get vars second ≡ Some other
  pub types : one.value ≢ other.value

abbrev pub HaveOneType : List VarInfo → ℕ → ℕ → Type 0
HaveOneType vars a b = (x y : ℕ) (i j : VarInfo) → a ≡ x + 1 → b ≡ y + 1 → slice_get vars x ≡ Some i → slice_get vars y ≡ Some j → i.value ≡ j.value

-- two roots whose equality makes both null
pub data AreNull (vars : List VarInfo) (a b : ℕ) : Type 0 where
  first : a ≡ 0 → AreNull vars a b
  second : b ≡ 0 → AreNull vars a b
  types : HaveTwoTypes vars a b → AreNull vars a b

-- two roots whose equality can't hold
pub data Unmergeable (vars : List VarInfo) (owners : List Bool) (a b : ℕ) : Type 0 where
  made_first : IsMadeNode vars a → Unmergeable vars owners a b
  made_second : IsMadeNode vars b → Unmergeable vars owners a b
  null_owner : AreNull vars a b → (owner_at owners a ≡ true) ⊎ (owner_at owners b ≡ true) → Unmergeable vars owners a b
  two_owners : owner_at owners a ≡ true → owner_at owners b ≡ true → Unmergeable vars owners a b

-- the one is a and the other b
abbrev pub IsPair : ℕ → ℕ → ℕ → ℕ → Type 0
IsPair r p a b = ((r ≡ a) × (p ≡ b)) ⊎ ((r ≡ b) × (p ≡ a))

-- the root r may come below the root p
pub record MayCome (vars : List VarInfo) (owners : List Bool) (r p : ℕ) : Type 0 where
  pub some : r ≢ 0
  pub free : owner_at owners r ≡ false
  pub single : ¬ IsMadeNode vars r
  pub other : ¬ IsMadeNode vars p
  pub types : (p ≡ 0) ⊎ HaveOneType vars r p

-- the roots a and b may come below null
pub record MayBeNull (vars : List VarInfo) (owners : List Bool) (a b : ℕ) : Type 0 where
  pub first_some : a ≢ 0
  pub second_some : b ≢ 0
  pub first_free : owner_at owners a ≡ false
  pub second_free : owner_at owners b ≡ false
  pub first_single : ¬ IsMadeNode vars a
  pub second_single : ¬ IsMadeNode vars b
  pub types : HaveTwoTypes vars a b

abbrev pub MeetsNull : List Bool → ℕ → ℕ → Meeting → Type 0
MeetsNull owners a b meeting.Clash = (owner_at owners a ≡ true) ⊎ (owner_at owners b ≡ true)
MeetsNull owners a b meeting.Same = ⊥
MeetsNull owners a b (meeting.Below r p) = IsPair r p a b × (p ≡ 0) × (r ≢ 0) × (owner_at owners r ≡ false)
MeetsNull owners a b (meeting.Null r s) = (r ≡ a) × (s ≡ b) × (r ≢ 0) × (s ≢ 0) × (owner_at owners r ≡ false) × (owner_at owners s ≡ false)

abbrev pub MeetsOwned : List Bool → ℕ → ℕ → Meeting → Type 0
MeetsOwned owners a b meeting.Clash = (owner_at owners a ≡ true) × (owner_at owners b ≡ true)
MeetsOwned owners a b meeting.Same = ⊥
MeetsOwned owners a b (meeting.Below r p) = IsPair r p a b × (owner_at owners r ≡ false)
MeetsOwned owners a b (meeting.Null r s) = ⊥

-- what the equality of two roots asks
abbrev pub Meets : List VarInfo → List Bool → ℕ → ℕ → Meeting → Type 0
Meets vars owners a b meeting.Clash = (a ≢ b) × Unmergeable vars owners a b
Meets vars owners a b meeting.Same = a ≡ b
Meets vars owners a b (meeting.Below r p) = (a ≢ b) × IsPair r p a b × MayCome vars owners r p
Meets vars owners a b (meeting.Null r s) = (a ≢ b) × (r ≡ a) × (s ≡ b) × MayBeNull vars owners r s

-- two roots, the first of which may come below the second
pub record IsMeetingOf (t : List Tree) (r p : ℕ) : Type 0 where
  pub root_inside : r < length t
  pub parent_inside : p < length t
  pub root : parent_at t r ≡ r
  pub parent : parent_at t p ≡ p
  pub two : r ≢ p

-- no values that the trees keep and that make the disequalities true are the same at r and p
abbrev pub CannotMeet : {t : List Tree} → Flat t → List Difference → ℕ → ℕ → Type 0
CannotMeet f us r p = (w : ℕ → ℕ) → KeepsFlat w f → AllApart w us → ¬ IsAbove w r p 0

-- none are null at a and b
abbrev pub CannotBeNull : {t : List Tree} → Flat t → List Difference → ℕ → ℕ → Type 0
CannotBeNull f us a b = (w : ℕ → ℕ) → KeepsFlat w f → AllApart w us → IsAbove w a 0 0 → ¬ IsAbove w b 0 0

abbrev pub MergesBelow : List Tree → List Difference → ℕ → ℕ → List Tree → Option Change → Type 0
MergesBelow t us r p u None = (u ≡ t) × ((f : Flat t) → CannotMeet f us r p)
MergesBelow t us r p u (Some (change.Places l)) = (u ≡ linked t l) × IsLink t l × (l.root ≡ r) × (l.parent ≡ p) × (l.offset ≡ 0) × AreApart u us
MergesBelow t us r p u (Some _) = ⊥

abbrev pub MergesNull : List Tree → List Difference → ℕ → ℕ → List Tree → Option Change → Type 0
MergesNull t us a b u None = (u ≡ t) × ((f : Flat t) → CannotBeNull f us a b)
MergesNull t us a b u (Some (change.Null l m)) = (u ≡ linked (linked t l) m) × IsLink t l × IsLink (linked t l) m
    × (l.root ≡ a) × (m.root ≡ b) × (l.parent ≡ 0) × (m.parent ≡ 0) × (l.offset ≡ 0) × (m.offset ≡ 0) × AreApart u us
MergesNull t us a b u (Some _) = ⊥

-- why an equality of the roots a and b can't hold
pub data CannotMerge {t : List Tree} (vars : List VarInfo) (owners : List Bool) (us : List Difference) (f : Flat t) (a b : ℕ) : Type 0 where
  unmergeable : a ≢ b → Unmergeable vars owners a b → CannotMerge vars owners us f a b
  broken : CannotMeet f us a b → CannotMerge vars owners us f a b
  broken_null : HaveTwoTypes vars a b → CannotBeNull f us a b → CannotMerge vars owners us f a b

-- one link joins the ends of an equality of places
pub record LinksPlaces (vars : List VarInfo) (owners : List Bool) (t : List Tree) (us : List Difference) (d : Difference) (u : List Tree) (l : Link) : Type 0 where
  pub trees : u ≡ linked t l
  pub link : IsLink t l
  pub level : l.offset ≡ 0
  pub may : MayCome vars owners l.root l.parent
  pub ends : (f : Flat t) → IsPair l.root l.parent (f.root d.from) (f.root d.to)
  pub unequal : AreApart u us

-- both ends become null
pub record NullsPlaces (vars : List VarInfo) (owners : List Bool) (t : List Tree) (us : List Difference) (d : Difference) (u : List Tree) (l m : Link) : Type 0 where
  pub trees : u ≡ linked (linked t l) m
  pub first : IsLink t l
  pub second : IsLink (linked t l) m
  pub first_null : l.parent ≡ 0
  pub second_null : m.parent ≡ 0
  pub first_level : l.offset ≡ 0
  pub second_level : m.offset ≡ 0
  pub may : MayBeNull vars owners l.root m.root
  pub ends : (f : Flat t) → (l.root ≡ f.root d.from) × (m.root ≡ f.root d.to)
  pub unequal : AreApart u us

-- an equality of places that is added takes trees to trees
abbrev pub JoinsPlaces : List VarInfo → List Bool → List Tree → List Difference → Difference → List Tree → Option Change → Type 0
JoinsPlaces vars owners t us d u None = (u ≡ t) × ((f : Flat t) → CannotMerge vars owners us f (f.root d.from) (f.root d.to))
JoinsPlaces vars owners t us d u (Some change.Nothing) = (u ≡ t) × ((f : Flat t) → f.root d.from ≡ f.root d.to)
JoinsPlaces vars owners t us d u (Some (change.Places l)) = LinksPlaces vars owners t us d u l
JoinsPlaces vars owners t us d u (Some (change.Null l m)) = NullsPlaces vars owners t us d u l m
JoinsPlaces vars owners t us d u (Some _) = ⊥
