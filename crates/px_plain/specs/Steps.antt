-- What a stack is made of, and how its last step is taken back.
use Rattle.std.specs.Prelude.{ℕ, ◌-◌, ◌<◌, Bool, true, false, List, [], ◌∷◌, length, take, slice_index_or, slice_set, ⊤}
use Rattle.px_terms.specs.declared.variables.VarInfo.{VarInfo}
use Rattle.px_plain.specs.declared.nodes.Difference.{Difference}
use Rattle.px_plain.specs.declared.trees.Tree.{Tree}
use Rattle.px_plain.specs.declared.claims.Mark.{Mark}
use Rattle.px_plain.specs.declared.claims.Mark.TheVariants as mark
use Rattle.px_plain.specs.declared.claims.Ends.{Ends}
use Rattle.px_plain.specs.declared.claims.Change.{Change}
use Rattle.px_plain.specs.declared.claims.Change.TheVariants as change
use Rattle.px_plain.specs.declared.claims.Step.{Step}
use Rattle.px_plain.specs.declared.claims.Step.TheVariants as step
use Rattle.px_plain.specs.Trees.{unlinked}

-- the nodes of words and of places, what is known of each node and which roots have a place apart, the
-- disequalities, and what each item changed
pub record Content : Type 0 where
  pub vars : List VarInfo
  pub words : List Tree
  pub places : List Tree
  pub marks : List Mark
  pub owners : List Bool
  pub unequal_words : List Difference
  pub unequal_places : List Difference
  pub steps : List Step

abbrev pub mark_at : List Mark → ℕ → Mark
mark_at marks u = slice_index_or marks u mark.Free

abbrev pub marked : List Mark → Ends → Mark → List Mark
marked marks e m = slice_set (slice_set marks e.from m) e.to m

abbrev pub unmarked : List Mark → Ends → List Mark
unmarked marks e = slice_set (slice_set marks e.to e.to_was) e.from e.from_was

-- without the last one
abbrev pub front : {X : Type 0} → List X → List X
front xs = take (length xs - 1) xs

-- ---- a change taken back

abbrev pub words_undone : Change → List Tree → List Tree
words_undone (change.Words l) t = unlinked t l
words_undone _ t = t

abbrev pub unequal_words_undone : Change → List Difference → List Difference
unequal_words_undone change.UnequalWords ds = front ds
unequal_words_undone _ ds = ds

abbrev pub places_undone : Change → List Tree → List Tree
places_undone (change.Places l) t = unlinked t l
places_undone (change.Null l m) t = unlinked (unlinked t m) l
places_undone _ t = t

abbrev pub unequal_places_undone : Change → List Difference → List Difference
unequal_places_undone change.UnequalPlaces ds = front ds
unequal_places_undone _ ds = ds

abbrev pub owners_undone : Change → List Bool → List Bool
owners_undone (change.Owner r) owners = slice_set owners r false
owners_undone _ owners = owners

-- what the change names is inside
abbrev pub IsChangeInside : ℕ → Change → Type 0
IsChangeInside n (change.Words l) = (l.root < n) × (l.parent < n)
IsChangeInside n (change.Places l) = (l.root < n) × (l.parent < n)
IsChangeInside n (change.Null l m) = (l.root < n) × (l.parent < n) × (m.root < n) × (m.parent < n)
IsChangeInside n (change.Owner r) = r < n
IsChangeInside n _ = ⊤

-- ---- a step taken back

abbrev pub vars_before : Step → List VarInfo → List VarInfo
vars_before (step.Variable r) vars = front vars
vars_before _ vars = vars

abbrev pub words_before : Step → List Tree → List Tree
words_before (step.Variable r) t = front t
words_before (step.Claimed e c) t = words_undone c t
words_before _ t = t

abbrev pub places_before : Step → List Tree → List Tree
places_before (step.Variable r) t = front t
places_before (step.Claimed e c) t = places_undone c t
places_before _ t = t

abbrev pub marks_before : Step → List Mark → List Mark
marks_before (step.Variable r) marks = front marks
marks_before (step.Claimed e c) marks = unmarked marks e
marks_before _ marks = marks

abbrev pub owners_before : Step → List Bool → List Bool
owners_before (step.Variable r) owners = front owners
owners_before (step.Claimed e c) owners = owners_undone c owners
owners_before _ owners = owners

abbrev pub unequal_words_before : Step → List Difference → List Difference
unequal_words_before (step.Claimed e c) ds = unequal_words_undone c ds
unequal_words_before _ ds = ds

abbrev pub unequal_places_before : Step → List Difference → List Difference
unequal_places_before (step.Claimed e c) ds = unequal_places_undone c ds
unequal_places_before _ ds = ds

abbrev pub IsStepInside : ℕ → Step → Type 0
IsStepInside n (step.Claimed e c) = (e.from < n) × (e.to < n) × IsChangeInside n c
IsStepInside n _ = ⊤

abbrev pub last_step : List Step → Step
last_step steps = slice_index_or steps (length steps - 1) step.Quiet

-- whether the list was refuted after the step
abbrev pub is_refuted : Step → Bool
is_refuted step.Refuted = true
is_refuted step.Quiet = false
is_refuted (step.Variable r) = r
is_refuted (step.Claimed e c) = false

-- what the step found
abbrev pub before : Step → Content → Content
before s c = record {
  vars = vars_before s c.vars;
  words = words_before s c.words;
  places = places_before s c.places;
  marks = marks_before s c.marks;
  owners = owners_before s c.owners;
  unequal_words = unequal_words_before s c.unequal_words;
  unequal_places = unequal_places_before s c.unequal_places;
  steps = c.steps;
}

-- what the last step found
abbrev pub undone : Content → Content
undone c = before (last_step c.steps) (record c { steps = front c.steps })

-- ---- nothing held

abbrev pub bare : Content
bare = record { vars = []; words = []; places = []; marks = []; owners = []; unequal_words = []; unequal_places = []; steps = [] }

-- the node of 0 and of null
abbrev pub ground : Tree
ground = record { parent = 0; offset = 0; rank = 0 }

abbrev pub grounded : Content
grounded = record bare { words = ground ∷ []; places = ground ∷ []; marks = mark.Free ∷ []; owners = false ∷ [] }
