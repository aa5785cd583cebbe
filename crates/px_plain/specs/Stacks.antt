-- What a stack holds.
use Rattle.std.specs.Prelude.{◌≡◌, ℕ, ◌+◌, ◌-◌, ◌^◌, ◌<◌, List, [], ◌∷◌, ◌++◌, false, length}
use Rattle.std.specs.Vec.{vec_len, vec_capacity}
use Rattle.px_terms.specs.declared.types.ValueType.TheVariants.{Int}
use Rattle.px_terms.specs.declared.variables.VarInfo.{VarInfo}
use Rattle.px_terms.specs.declared.variables.Sort.TheVariants.{Made}
use Rattle.px_plain.specs.declared.trees.Tree.{Tree}
use Rattle.px_plain.specs.declared.claims.Claim.{Claim}
use Rattle.px_plain.specs.declared.claims.Claim.TheVariants as claim
use Rattle.px_plain.specs.declared.claims.Mark.TheVariants as mark
use Rattle.px_plain.specs.declared.stack.Stack.{Stack}
use Rattle.px_plain.specs.Held.{HeldItem}
use Rattle.px_plain.specs.Steps.{Content}
use Rattle.px_plain.specs.Differences.{AreInside}
use Rattle.px_plain.specs.Trees.{IsRanked, parent_at, rank_at}
use Rattle.px_plain.specs.Changes.{from_of, to_of}
use Rattle.px_plain.specs.Stands.{HoldsItems, IsOf}

abbrev pub content : Stack → Content
content s = record {
  vars = s.vars.items;
  words = s.words.items;
  places = s.places.items;
  marks = s.marks.items;
  owners = s.owners.items;
  unequal_words = s.unequal_words.items;
  unequal_places = s.unequal_places.items;
  steps = s.steps.items;
}

-- the stack holds these, the last one first
unfoldable pub Holds : Stack → List HeldItem → Type 0
Holds s items = HoldsItems (content s) items

-- ---- room

-- there is room for one item and for the node of 0
pub record HasRoom (s : Stack) : Type 0 where
  pub vars : vec_len s.vars < vec_capacity s.vars
  pub words : vec_len s.words + 1 < vec_capacity s.words
  pub places : vec_len s.places + 1 < vec_capacity s.places
  pub marks : vec_len s.marks + 1 < vec_capacity s.marks
  pub owners : vec_len s.owners + 1 < vec_capacity s.owners
  pub unequal_words : vec_len s.unequal_words < vec_capacity s.unequal_words
  pub unequal_places : vec_len s.unequal_places < vec_capacity s.unequal_places
  pub steps : vec_len s.steps < vec_capacity s.steps

-- there is room for one item
pub record HasSpace (s : Stack) : Type 0 where
  pub vars : vec_len s.vars < vec_capacity s.vars
  pub words : vec_len s.words < vec_capacity s.words
  pub places : vec_len s.places < vec_capacity s.places
  pub marks : vec_len s.marks < vec_capacity s.marks
  pub owners : vec_len s.owners < vec_capacity s.owners
  pub unequal_words : vec_len s.unequal_words < vec_capacity s.unequal_words
  pub unequal_places : vec_len s.unequal_places < vec_capacity s.unequal_places
  pub steps : vec_len s.steps < vec_capacity s.steps

-- ---- steps of a push

-- what holds items before holds them then, and has the node of 0
abbrev pub IsReady : Content → Content → Type 0
IsReady c e = (items : List HeldItem) → HoldsItems c items → HoldsItems e items × IsOf e items

-- what a claim names is inside, and there is room for a link
pub record CanTake (c : Content) (k : Claim) : Type 0 where
  pub from : from_of k < length c.words
  pub to : to_of k < length c.words
  pub words : length c.words ≡ length c.vars + 1
  pub places : length c.places ≡ length c.vars + 1
  pub marks : length c.marks ≡ length c.vars + 1
  pub owners : length c.owners ≡ length c.vars + 1
  pub words_ranked : IsRanked c.words
  pub places_ranked : IsRanked c.places
  pub word_ranks : (v : ℕ) → v < length c.words → rank_at c.words v < 2 ^ 32 - 1
  pub place_ranks : (v : ℕ) → v < length c.places → rank_at c.places v < 2 ^ 32 - 1
  pub null : parent_at c.places 0 ≡ 0
  pub unequal_words : AreInside (length c.words) c.unequal_words
  pub unequal_places : AreInside (length c.places) c.unequal_places
  pub unwritten : (u : ℕ) → k ≡ claim.Unwritten u → 0 < u

-- no value fits the variable
abbrev pub IsMadeInt : VarInfo → Type 0
IsMadeInt i = (i.sort ≡ Made) × (i.value ≡ Int)

abbrev pub node_of_size : ℕ → Tree
node_of_size n = record { parent = n; offset = 0; rank = 0 }

-- one variable more, with nodes of its own
abbrev pub with_node : Content → VarInfo → Content
with_node c i = record c {
  vars = c.vars ++ i ∷ [];
  words = c.words ++ node_of_size (length c.words) ∷ [];
  places = c.places ++ node_of_size (length c.words) ∷ [];
  marks = c.marks ++ mark.Free ∷ [];
  owners = c.owners ++ false ∷ [];
}
