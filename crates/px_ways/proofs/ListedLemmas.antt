-- Whether one way is among those of a test or an access.
use Rattle.std.proofs.Common.{◌≡◌, ◌||◌, ◌&&◌, ℕ, zero, suc, ◌+◌, ◌<◌, Bool, true, false, nat_eq, List, [], ◌∷◌, ◌++◌, Option, Some, None, slice_get, refl, ap, ap₂, sym, ◌∙◌, arith}
use Rattle.std.proofs.lemmas.List.Folds.{list_any-append}
use Rattle.std.proofs.Math.Bool.{or-false, and-true, and-false}
use Rattle.std.proofs.lemmas.Bool.{ne_eqb}
use Rattle.px_terms.specs.declared.types.TypeId.{TypeId}
use Rattle.px_terms.specs.declared.variables.VarInfo.{VarInfo}
use Rattle.px_terms.specs.declared.conjuncts.Content.{Content}
use Rattle.px_terms.specs.declared.conjuncts.Place.{Place}
use Rattle.px_terms.specs.declared.conjuncts.Place.TheVariants as place
use Rattle.px_terms.specs.declared.conjuncts.Conj.{Conj}
use Rattle.px_terms.specs.declared.conjuncts.Conj.TheVariants.{Equal, Unequal, SamePlace}
use Rattle.px_terms.specs.Polynomials.{Polynomial}
use Rattle.px_terms.proofs.Tests.{same_number}
use Rattle.px_core.specs.declared.command.Comparison.{Comparison}
use Rattle.px_entry.specs.declared.atoms.Atom.{Atom}
use Rattle.px_entry.specs.Sorts.{is_some_and, is_long, is_int_polynomial}
use Rattle.px_entry.specs.Decided.{is_open}
use Rattle.px_entry.specs.Cases.{numbers_of, may_be_at, may_be_missing}
use Rattle.px_callgraph.specs.declared.states.State.{State}
use Rattle.px_callgraph.specs.declared.states.Way.{Way}
use Rattle.px_callgraph.specs.declared.states.Way.TheVariants as way
use Rattle.px_callgraph.specs.Operations.{condition, contrary}
use Rattle.px_callgraph.specs.Accesses.{listed_if, atom_ways, missing_ways, access_ways}
use Rattle.px_callgraph.specs.Commands.{open_if, word_ways}
use Rattle.px_callgraph.specs.Derivations.{same_way}
use Rattle.px_ways.specs.Ways.{test_listed}
use Rattle.px_ways.specs.Listed.{lists, is_outcome, is_quotient, is_access}

-- ---- one of some ways

pub lists_append : (xs ys : List Way) (name : Way) → lists (xs ++ ys) name ≡ (lists xs name || lists ys name)
lists_append xs ys name = list_any-append (same_way name) xs ys

pub lists_if : (b : Bool) (w name : Way) → lists (listed_if b w) name ≡ (b && same_way name w)
lists_if true w name = or-false (same_way name w)
lists_if false w name = refl

-- an atom's number is no other way
pub no_atom : (name : Way) → ((n : ℕ) → same_way name (way.Atom n) ≡ false) → (ns : List ℕ) → lists (atom_ways ns) name ≡ false
no_atom name h [] = refl
no_atom name h (n ∷ ns) = ap₂ (λ x y. x || y) (h n) (no_atom name h ns)

no_missing : (name : Way) → same_way name way.MissingLive ≡ false → same_way name way.MissingFreed ≡ false → (b : Bool) → lists (missing_ways b) name ≡ false
no_missing name e f true = ap₂ (λ x y. x || (y || false)) e f
no_missing name e f false = refl

missing_live : (b : Bool) → lists (missing_ways b) way.MissingLive ≡ b
missing_live true = refl
missing_live false = refl

missing_freed : (b : Bool) → lists (missing_ways b) way.MissingFreed ≡ b
missing_freed true = refl
missing_freed false = refl

-- ---- of the atoms that pass a test

module _ (such : ℕ → Atom → Bool) where
  below : (m i : ℕ) (atoms : List Atom) → m < i → lists (atom_ways (numbers_of such i atoms)) (way.Atom m) ≡ false
  below m i [] l = refl
  below m i (a ∷ rest) l = by (such i a) (below m (suc i) rest (omega (arith, l)))
    where
      by : (b : Bool) → lists (atom_ways (numbers_of such (suc i) rest)) (way.Atom m) ≡ false →
          lists (atom_ways (elim b as (λ _. List ℕ) [ true ↦ i ∷ numbers_of such (suc i) rest | false ↦ numbers_of such (suc i) rest ])) (way.Atom m) ≡ false
      by true later = ap₂ (λ x y. x || y) (ne_eqb m i (λ e. absurd (omega (arith, e, l)))) later
      by false later = later

  numbered : (m i n : ℕ) (atoms : List Atom) → m ≡ i + n → lists (atom_ways (numbers_of such i atoms)) (way.Atom m) ≡ is_some_and (slice_get atoms n) (such m)
  numbered m i zero [] e = refl
  numbered m i (suc n) [] e = refl
  numbered m i zero (a ∷ rest) e = by (such i a) refl
    where
      here : m ≡ i
      here = omega (arith, e)

      by : (b : Bool) → such i a ≡ b →
          lists (atom_ways (elim b as (λ _. List ℕ) [ true ↦ i ∷ numbers_of such (suc i) rest | false ↦ numbers_of such (suc i) rest ])) (way.Atom m) ≡ such m a
      by true f = ap (λ z. z || lists (atom_ways (numbers_of such (suc i) rest)) (way.Atom m)) (same_number m i here) ∙ sym f ∙ ap (λ z. such z a) (sym here)
      by false f = below m (suc i) rest (omega (arith, e)) ∙ sym f ∙ ap (λ z. such z a) (sym here)
  numbered m i (suc n) (a ∷ rest) e = by (such i a) (numbered m (suc i) n rest (omega (arith, e)))
    where
      by : (b : Bool) → lists (atom_ways (numbers_of such (suc i) rest)) (way.Atom m) ≡ is_some_and (slice_get rest n) (such m) →
          lists (atom_ways (elim b as (λ _. List ℕ) [ true ↦ i ∷ numbers_of such (suc i) rest | false ↦ numbers_of such (suc i) rest ])) (way.Atom m) ≡ is_some_and (slice_get rest n) (such m)
      by true later = ap₂ (λ x y. x || y) (ne_eqb m i (λ f. absurd (omega (arith, e, f)))) later
      by false later = later

  -- the way of an atom is listed where this passes
  pub lists_atom : (n : ℕ) (atoms : List Atom) → lists (atom_ways (numbers_of such 0 atoms)) (way.Atom n) ≡ is_some_and (slice_get atoms n) (such n)
  lists_atom n atoms = numbered n 0 n atoms (omega arith)

-- ---- of a test

-- the first of two, each of which may be listed
pub outcomes : (vars : List VarInfo) (how : Comparison) (a b : Content) (name : Way) → is_outcome vars how a b name ≡ lists (test_listed vars how a b) name
outcomes vars how a b name = sym (lists_append (open_if vars (condition how a b) way.Then) (open_if vars (contrary how a b) way.Else) name ∙ ap₂ (λ x y. x || y) (opened (condition how a b) way.Then) (opened (contrary how a b) way.Else) ∙ of name)
  where
    opened : (o : Option Conj) (w : Way) → lists (open_if vars o w) name ≡ (is_some_and o (is_open vars) && same_way name w)
    opened None w = refl
    opened (Some c) w = lists_if (is_open vars c) w name

    of : (name : Way) → ((is_some_and (condition how a b) (is_open vars) && same_way name way.Then) || (is_some_and (contrary how a b) (is_open vars) && same_way name way.Else)) ≡ is_outcome vars how a b name
    of way.Then = ap₂ (λ x y. x || y) (and-true _) (and-false _) ∙ or-false _
    of way.Else = ap₂ (λ x y. x || y) (and-false _) (and-true _)
    of way.On = ap₂ (λ x y. x || y) (and-false _) (and-false _)
    of way.Null = ap₂ (λ x y. x || y) (and-false _) (and-false _)
    of way.Made = ap₂ (λ x y. x || y) (and-false _) (and-false _)
    of way.Written = ap₂ (λ x y. x || y) (and-false _) (and-false _)
    of way.Unwritten = ap₂ (λ x y. x || y) (and-false _) (and-false _)
    of (way.Atom n) = ap₂ (λ x y. x || y) (and-false _) (and-false _)
    of way.MissingLive = ap₂ (λ x y. x || y) (and-false _) (and-false _)
    of way.MissingFreed = ap₂ (λ x y. x || y) (and-false _) (and-false _)
    of way.Missing = ap₂ (λ x y. x || y) (and-false _) (and-false _)
    of (way.Entry n) = ap₂ (λ x y. x || y) (and-false _) (and-false _)
    of way.Drop = ap₂ (λ x y. x || y) (and-false _) (and-false _)
    of way.ByZero = ap₂ (λ x y. x || y) (and-false _) (and-false _)
    of way.Divided = ap₂ (λ x y. x || y) (and-false _) (and-false _)

-- ---- of a division

module _ (vars : List VarInfo) (p q : Polynomial) where
  abbrev by_zero : Bool
  by_zero = is_open vars (Equal q)

  abbrev by_other : Bool
  by_other = is_open vars (Unequal q) && (is_long p || is_int_polynomial vars p)

  of : (name : Way) → ((by_zero && same_way name way.ByZero) || (by_other && same_way name way.Divided)) ≡ is_quotient vars p q name
  of way.ByZero = ap₂ (λ x y. x || y) (and-true _) (and-false _) ∙ or-false _
  of way.Divided = ap₂ (λ x y. x || y) (and-false _) (and-true _)
  of way.On = ap₂ (λ x y. x || y) (and-false _) (and-false _)
  of way.Then = ap₂ (λ x y. x || y) (and-false _) (and-false _)
  of way.Else = ap₂ (λ x y. x || y) (and-false _) (and-false _)
  of way.Null = ap₂ (λ x y. x || y) (and-false _) (and-false _)
  of way.Made = ap₂ (λ x y. x || y) (and-false _) (and-false _)
  of way.Written = ap₂ (λ x y. x || y) (and-false _) (and-false _)
  of way.Unwritten = ap₂ (λ x y. x || y) (and-false _) (and-false _)
  of (way.Atom n) = ap₂ (λ x y. x || y) (and-false _) (and-false _)
  of way.MissingLive = ap₂ (λ x y. x || y) (and-false _) (and-false _)
  of way.MissingFreed = ap₂ (λ x y. x || y) (and-false _) (and-false _)
  of way.Missing = ap₂ (λ x y. x || y) (and-false _) (and-false _)
  of (way.Entry n) = ap₂ (λ x y. x || y) (and-false _) (and-false _)
  of way.Drop = ap₂ (λ x y. x || y) (and-false _) (and-false _)

  -- by 0, and by another
  pub quotients : (name : Way) → is_quotient vars p q name ≡ lists (word_ways vars p q) name
  quotients name = sym (lists_append (listed_if by_zero way.ByZero) (listed_if by_other way.Divided) name ∙ ap₂ (λ x y. x || y) (lists_if by_zero way.ByZero name) (lists_if by_other way.Divided name) ∙ of name)

-- ---- of an access

module _ (s : State) (block : TypeId) (p : Place) where
  abbrev such : ℕ → Atom → Bool
  such n a = nat_eq a.block.0 block.0 && may_be_at s.vars p a

  abbrev at_null : Bool
  at_null = is_open s.vars (SamePlace p place.Null)

  parts : (name : Way) → lists (access_ways s block p) name
      ≡ (((at_null && same_way name way.Null) || lists (atom_ways (numbers_of such 0 s.atoms)) name) || lists (missing_ways (may_be_missing s.vars p)) name)
  parts name =
      lists_append (listed_if at_null way.Null ++ atom_ways (numbers_of such 0 s.atoms)) (missing_ways (may_be_missing s.vars p)) name
      ∙ ap (λ z. z || lists (missing_ways (may_be_missing s.vars p)) name)
      (lists_append (listed_if at_null way.Null) (atom_ways (numbers_of such 0 s.atoms)) name ∙ ap (λ z. z || lists (atom_ways (numbers_of such 0 s.atoms)) name) (lists_if at_null way.Null name))

  -- from what each part says
  of_parts : (name : Way) (a b c : Bool) → (at_null && same_way name way.Null) ≡ a → lists (atom_ways (numbers_of such 0 s.atoms)) name ≡ b → lists (missing_ways (may_be_missing s.vars p)) name ≡ c →
      ((a || b) || c) ≡ lists (access_ways s block p) name
  of_parts name a b c e f g = sym (parts name ∙ ap₂ (λ x y. x || y) (ap₂ (λ x y. x || y) e f) g)

  other : (name : Way) → same_way name way.Null ≡ false → ((n : ℕ) → same_way name (way.Atom n) ≡ false) → same_way name way.MissingLive ≡ false → same_way name way.MissingFreed ≡ false →
      false ≡ lists (access_ways s block p) name
  other name e f g h = of_parts name false false false (ap (λ z. at_null && z) e ∙ and-false at_null) (no_atom name f (numbers_of such 0 s.atoms)) (no_missing name g h (may_be_missing s.vars p))

  pub accesses : (name : Way) → is_access s block p name ≡ lists (access_ways s block p) name
  accesses way.Null =
      sym (or-false (at_null || false) ∙ or-false at_null) ∙ of_parts way.Null at_null false false (and-true at_null) (no_atom way.Null (λ n. refl) (numbers_of such 0 s.atoms)) (no_missing way.Null refl refl (may_be_missing s.vars p))
  accesses (way.Atom n) =
      sym (or-false _) ∙ of_parts (way.Atom n) false (is_some_and (slice_get s.atoms n) (such n)) false (and-false at_null) (lists_atom such n s.atoms) (no_missing (way.Atom n) refl refl (may_be_missing s.vars p))
  accesses way.MissingLive =
      of_parts way.MissingLive false false (may_be_missing s.vars p) (and-false at_null) (no_atom way.MissingLive (λ n. refl) (numbers_of such 0 s.atoms)) (missing_live (may_be_missing s.vars p))
  accesses way.MissingFreed =
      of_parts way.MissingFreed false false (may_be_missing s.vars p) (and-false at_null) (no_atom way.MissingFreed (λ n. refl) (numbers_of such 0 s.atoms)) (missing_freed (may_be_missing s.vars p))
  accesses way.On = other way.On refl (λ n. refl) refl refl
  accesses way.Then = other way.Then refl (λ n. refl) refl refl
  accesses way.Else = other way.Else refl (λ n. refl) refl refl
  accesses way.Made = other way.Made refl (λ n. refl) refl refl
  accesses way.Written = other way.Written refl (λ n. refl) refl refl
  accesses way.Unwritten = other way.Unwritten refl (λ n. refl) refl refl
  accesses way.Missing = other way.Missing refl (λ n. refl) refl refl
  accesses (way.Entry m) = other (way.Entry m) refl (λ n. refl) refl refl
  accesses way.Drop = other way.Drop refl (λ n. refl) refl refl
  accesses way.ByZero = other way.ByZero refl (λ n. refl) refl refl
  accesses way.Divided = other way.Divided refl (λ n. refl) refl refl
