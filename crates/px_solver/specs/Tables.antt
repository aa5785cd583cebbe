-- What the solver's tables say: words under a forest, touched roots, chains of places in a list.
use Rattle.std.specs.Prelude.{◌≡◌, ◌≢◌, ℕ, suc, ◌+◌, ◌%◌, ◌^◌, ◌<◌, ◌≤◌, ◌⊎◌, Bool, true, false, not, List, [], ◌∷◌, Option, Some, None, All, Any, Contains, cond, nat_eq, nat_lt, filter, map, flat_map, length, option_to_list, slice_get, slice_index, slice_index_or}
use Rattle.std.specs.List.{AllZip}
use Rattle.px_terms.specs.Variables.{mentioned}
use Rattle.px_terms.specs.declared.conjuncts.Conj.{Conj}
use Rattle.px_terms.specs.declared.conjuncts.Conj.TheVariants.{Equal, Unequal, Less, AtMost, SamePlace, OtherPlace, Written, Unwritten, Quotient}
use Rattle.px_terms.specs.Conjuncts.{IsPlain}
use Rattle.px_plain.specs.declared.nodes.Node.{Node}
use Rattle.px_plain.specs.Forest.{node_at, parent_at, IsForest, Keeps}
use Rattle.px_plain.specs.Ties.{IsTrueOf, SaysUnwritten, IsSaidUnwritten}
use Rattle.px_solver.specs.Assignments.{Before}
use Rattle.px_solver.specs.Candidates.{put_new, candidates}

-- ---- words

-- the word of a variable, from those of the roots
abbrev pub word_under : List Node → (ℕ → ℕ) → ℕ → ℕ
word_under t g x = g (parent_at t (x + 1)) + (node_at t (x + 1)).offset

-- the conjuncts at these places are true of words
abbrev pub AreTrueAt : List Conj → List ℕ → (ℕ → ℕ) → Type 0
AreTrueAt conjuncts indexes w = (i : ℕ) (c : Conj) → i < length indexes → slice_get conjuncts (slice_index indexes i) ≡ Some c → IsTrueOf w c

-- the word of a variable that the root 0 fixes
abbrev pub fixed_under : List Node → ℕ → Option ℕ
fixed_under t x = cond (nat_eq (parent_at t (x + 1)) 0) (Some ((node_at t (x + 1)).offset % 2 ^ 32)) None

-- ---- the search

-- numbers of roots that are the same at all others
abbrev pub AgreeOutside : List ℕ → (ℕ → ℕ) → (ℕ → ℕ) → Type 0
AgreeOutside roots g h = (v : ℕ) → ¬ Contains roots v → g v ≡ h v

-- the numbers give each root the candidate at its place
abbrev pub GivesRoots : (ℕ → ℕ) → List ℕ → List ℕ → List ℕ → Type 0
GivesRoots g values roots places = AllZip (λ r k. (k < length values) × (g r ≡ slice_index values k)) roots places

-- with the candidates at these places at the roots, and the numbers of `base` elsewhere, the conjuncts are true
pub record Works (t : List Node) (conjuncts : List Conj) (indexes values : List ℕ) (base : ℕ → ℕ) (roots places : List ℕ) : Type 0 where
  pub numbers : ℕ → ℕ
  pub outside : AgreeOutside roots numbers base
  pub given : GivesRoots numbers values roots places
  pub are_true : AreTrueAt conjuncts indexes (word_under t numbers)

-- the numbers follow the first assignment with which the conjuncts are true
pub record FirstWork (t : List Node) (conjuncts : List Conj) (indexes values : List ℕ) (base : ℕ → ℕ) (roots : List ℕ) (numbers : ℕ → ℕ) : Type 0 where
  pub places : List ℕ
  pub given : GivesRoots numbers values roots places
  pub works : Works t conjuncts indexes values base roots places
  pub first : (earlier : List ℕ) → Before earlier places → ¬ Works t conjuncts indexes values base roots earlier

-- each is less than those after it
abbrev pub AreApart : List ℕ → Type 0
AreApart xs = (i j : ℕ) → i < j → j < length xs → slice_index xs i < slice_index xs j

-- ---- touched roots

-- the roots of variables, but for node 0
abbrev pub roots_of : List Node → List ℕ → List ℕ
roots_of t xs = filter (λ u. not (nat_eq u 0)) (map (λ x. parent_at t (x + 1)) xs)

-- the variables of a conjunct on words
abbrev pub word_variables : Conj → List ℕ
word_variables (Equal p) = mentioned (Equal p)
word_variables (Unequal p) = mentioned (Unequal p)
word_variables (Less p q) = mentioned (Less p q)
word_variables (AtMost p q) = mentioned (AtMost p q)
word_variables (SamePlace a b) = []
word_variables (OtherPlace a b) = []
word_variables (Written x) = []
word_variables (Unwritten x) = []
word_variables (Quotient x p q) = mentioned (Quotient x p q)

abbrev pub touched : List Node → Conj → List ℕ
touched t c = roots_of t (word_variables c)

-- all nodes of the list have one number, modulo 2^32
abbrev pub AreOne : (ℕ → ℕ) → List ℕ → Type 0
AreOne val us = (i j : ℕ) → i < length us → j < length us → val (slice_index us i) % 2 ^ 32 ≡ val (slice_index us j) % 2 ^ 32

-- the first of a list, or 0
abbrev pub first_of : List ℕ → ℕ
first_of [] = 0
first_of (x ∷ xs) = x

-- h is the first root that the conjunct touches, or 0
abbrev pub HasFirst : List Node → Conj → ℕ → Type 0
HasFirst t c h = h ≡ first_of (touched t c)

-- a forest that keeps the numbers which are one on what each conjunct touches
pub record Joins (t : List Node) (conjuncts : List Conj) (components : List Node) : Type 0 where
  pub forest : IsForest components
  pub bare : Keeps (λ v. 0) components
  pub size : length components ≡ length t
  pub there : (val : ℕ → ℕ) → All (λ c. AreOne val (touched t c)) conjuncts → Keeps val components
  pub back : (val : ℕ → ℕ) → Keeps val components → All (λ c. AreOne val (touched t c)) conjuncts

-- the home of a conjunct is the root of what it touches; 0 where it touches nothing
abbrev pub HasHome : List Node → List Node → Conj → ℕ → Type 0
HasHome t components c h = h ≡ parent_at components (first_of (touched t c))

-- the home of a representative's node is the root of its component; 0 for any other node
abbrev pub home_of : List Node → List Node → ℕ → ℕ
home_of t components v = cond (nat_eq (parent_at t v) v) (parent_at components v) 0

pub record AreNodeHomes (t components : List Node) (homes : List ℕ) : Type 0 where
  pub size : length homes ≡ length t
  pub each : (v : ℕ) → v < length t → slice_index homes v ≡ home_of t components v

-- a home is marked where a conjunct that isn't plain has it
pub record MarksHard (conjuncts : List Conj) (homes : List ℕ) (n : ℕ) (marks : List Bool) : Type 0 where
  pub marked : (h : ℕ) → slice_index_or marks h false ≡ true → (i : ℕ) × ((i < length conjuncts) × (slice_index homes i ≡ h) × ((c : Conj) → slice_get conjuncts i ≡ Some c → ¬ IsPlain c))
  pub all : (i : ℕ) (c : Conj) → i < n → slice_get conjuncts i ≡ Some c → ¬ IsPlain c → slice_index_or marks (slice_index homes i) false ≡ true

-- ---- places of a home

-- j is the first place from k on whose home is h, or the length where there is none
pub record IsNext (homes : List ℕ) (k h j : ℕ) : Type 0 where
  pub low : k ≤ j
  pub within : j ≤ length homes
  pub is : j < length homes → slice_index homes j ≡ h
  pub none : (i : ℕ) → k ≤ i → i < j → slice_index homes i ≢ h

-- from k on, each place knows the next one of its home
pub record AreNext (homes : List ℕ) (k : ℕ) (next : List ℕ) : Type 0 where
  pub size : length next ≡ length homes
  pub each : (i : ℕ) → k ≤ i → i < length homes → IsNext homes (i + 1) (slice_index homes i) (slice_index next i)

-- each home below n knows its first place from k on
pub record AreFirst (homes : List ℕ) (k n : ℕ) (first : List ℕ) : Type 0 where
  pub size : length first ≡ n
  pub each : (h : ℕ) → h < n → IsNext homes k h (slice_index first h)

-- the places of the home h among homes that stand from k on
abbrev pub places_from : ℕ → ℕ → List ℕ → List ℕ
places_from h k [] = []
places_from h k (x ∷ xs) = cond (nat_eq x h) (k ∷ places_from h (suc k) xs) (places_from h (suc k) xs)

-- the places of the home h
abbrev pub places_of : ℕ → List ℕ → List ℕ
places_of h homes = places_from h 0 homes

-- the conjuncts at these places
abbrev pub picked : List Conj → List ℕ → List Conj
picked conjuncts indexes = flat_map (λ i. option_to_list (slice_get conjuncts i)) indexes

-- ---- candidates

-- a number after others, where it isn't among them and there are fewer than 24
abbrev pub put_few : List ℕ → ℕ → List ℕ
put_few seen x = cond (nat_lt (length seen) 24) (put_new seen x) seen

-- ---- conjuncts that are false outright

abbrev pub IsMarked : List Bool → ℕ → Type 0
IsMarked marks x = slice_index_or marks x false ≡ true

-- what the first n conjuncts say is unwritten is marked, and nothing else
pub record MarksSaid (conjuncts : List Conj) (n : ℕ) (marks : List Bool) : Type 0 where
  pub marked : (x : ℕ) → IsMarked marks x → IsSaidUnwritten conjuncts x
  pub all : (i x : ℕ) (c : Conj) → i < n → slice_get conjuncts i ≡ Some c → SaysUnwritten x c → IsMarked marks x

-- it isn't plain, and mentions a marked variable, or has no home and is false
abbrev pub IsMarkedFalse : List Node → List ℕ → List Bool → ℕ → Conj → Type 0
IsMarkedFalse t roots marks home c = (¬ IsPlain c) × (Any (IsMarked marks) (mentioned c) ⊎ ((home ≡ 0) × ¬ IsTrueOf (word_under t (slice_index roots)) c))

-- ---- components

-- there are at most three members, and the numbers follow their first assignment
pub record IsSolved (t : List Node) (conjuncts : List Conj) (indexes : List ℕ) (base : ℕ → ℕ) (members : List ℕ) (numbers : ℕ → ℕ) : Type 0 where
  pub few : length members ≤ 3
  pub first : FirstWork t conjuncts indexes (candidates (fixed_under t) (picked conjuncts indexes)) base members numbers

-- there are more, or no assignment works
abbrev pub HasFailed : List Node → List Conj → List ℕ → (ℕ → ℕ) → List ℕ → Type 0
HasFailed t conjuncts indexes base members = (3 < length members) ⊎ ((places : List ℕ) → ¬ Works t conjuncts indexes (candidates (fixed_under t) (picked conjuncts indexes)) base members places)

-- the conjunct has this home
abbrev pub IsAtHome : ℕ → ℕ → Conj → Type 0
IsAtHome home h c = h ≡ home

-- the third list has the conjuncts of the first of which P holds with their homes, in order
abbrev pub SelectsByHome : (ℕ → Conj → Type 0) → List Conj → List ℕ → List Conj → Type 0
SelectsByHome P [] hs us = (hs ≡ []) × (us ≡ [])
SelectsByHome P (c ∷ cs) [] us = ⊥
SelectsByHome P (c ∷ cs) (h ∷ hs) us = (P h c × ((vs : List Conj) × (us ≡ c ∷ vs) × SelectsByHome P cs hs vs)) ⊎ ((¬ P h c) × SelectsByHome P cs hs us)
