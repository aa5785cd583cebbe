-- Whether one way is among those at a place of a call.
use Rattle.std.proofs.Common.{◌≡◌, ◌||◌, ◌&&◌, not, ℕ, zero, suc, ◌+◌, ◌<◌, Bool, true, false, nat_eq, nat_lt, List, [], ◌∷◌, ◌++◌, map, length, slice_get, refl, ap, ap₂, sym, subst, ◌∙◌, arith}
use Rattle.std.specs.List.{list_any}
use Rattle.std.proofs.lemmas.List.{map-append}
use Rattle.std.proofs.Math.Bool.{or-false, and-false}
use Rattle.std.proofs.lemmas.Bool.{ne_eqb, ltb-true, ltb-false, lt-ltb, le-ltb}
use Rattle.px_terms.specs.declared.conjuncts.Place.{Place}
use Rattle.px_terms.proofs.Tests.{same_number}
use Rattle.px_entry.specs.declared.atoms.Atom.{Atom}
use Rattle.px_entry.specs.declared.entries.Entry.{Entry}
use Rattle.px_entry.specs.declared.tables.Gap.{Gap}
use Rattle.px_entry.specs.Sorts.{is_some_and}
use Rattle.px_entry.specs.Cases.{numbers_of, atom_cases, missing_case, cases_of, is_match, is_freed, may_be_missing}
use Rattle.px_callgraph.specs.declared.states.State.{State}
use Rattle.px_callgraph.specs.declared.states.Way.{Way}
use Rattle.px_callgraph.specs.declared.states.Way.TheVariants as way
use Rattle.px_callgraph.specs.Accesses.{listed_if, atom_ways}
use Rattle.px_callgraph.specs.Calls.{entry_ways, drop_way, case_way}
use Rattle.px_callgraph.specs.Derivations.{same_way}
use Rattle.px_ways.specs.Listed.{lists}
use Rattle.px_ways.proofs.ListedLemmas.{lists_append, lists_if, no_atom, lists_atom}
use Rattle.px_calls.specs.Listed.{is_choice, is_meeting}

-- ---- one way alone

pub on_listed : (b : Bool) → b ≡ lists (listed_if b way.On) way.On
on_listed true = refl
on_listed false = refl

-- where it is the one that is asked after, by what a call says of it
pub on_asked : (b r : Bool) (name : Way) → name ≡ way.On → r ≡ b → r ≡ lists (listed_if b way.On) name
on_asked b r name n e = subst (λ z. r ≡ lists (listed_if b way.On) z) (sym n) (e ∙ on_listed b)

pub on_alone : (b : Bool) (name : Way) → (name ≡ way.On → ⊥) → false ≡ lists (listed_if b way.On) name
on_alone b way.On n = absurd (n refl)
on_alone b way.Then n = sym (lists_if b way.On way.Then ∙ and-false b)
on_alone b way.Else n = sym (lists_if b way.On way.Else ∙ and-false b)
on_alone b way.Null n = sym (lists_if b way.On way.Null ∙ and-false b)
on_alone b way.Made n = sym (lists_if b way.On way.Made ∙ and-false b)
on_alone b way.Written n = sym (lists_if b way.On way.Written ∙ and-false b)
on_alone b way.Unwritten n = sym (lists_if b way.On way.Unwritten ∙ and-false b)
on_alone b (way.Atom m) n = sym (lists_if b way.On (way.Atom m) ∙ and-false b)
on_alone b way.MissingLive n = sym (lists_if b way.On way.MissingLive ∙ and-false b)
on_alone b way.MissingFreed n = sym (lists_if b way.On way.MissingFreed ∙ and-false b)
on_alone b way.Missing n = sym (lists_if b way.On way.Missing ∙ and-false b)
on_alone b (way.Entry m) n = sym (lists_if b way.On (way.Entry m) ∙ and-false b)
on_alone b way.Drop n = sym (lists_if b way.On way.Drop ∙ and-false b)
on_alone b way.ByZero n = sym (lists_if b way.On way.ByZero ∙ and-false b)
on_alone b way.Divided n = sym (lists_if b way.On way.Divided ∙ and-false b)

-- ---- entries of a table

no_entry : (name : Way) → ((n : ℕ) → same_way name (way.Entry n) ≡ false) → (i : ℕ) (xs : List Entry) → lists (entry_ways i xs) name ≡ false
no_entry name h i [] = refl
no_entry name h i (x ∷ xs) = ap₂ (λ a b. a || b) (h i) (no_entry name h (suc i) xs)

no_drop : (name : Way) → same_way name way.Drop ≡ false → (gaps : List Gap) → lists (drop_way gaps) name ≡ false
no_drop name e [] = refl
no_drop name e (g ∷ gaps) = ap (λ z. z || false) e

dropped : (gaps : List Gap) → lists (drop_way gaps) way.Drop ≡ elim gaps as (λ _. Bool) [ [] ↦ false | _ ∷ _ ↦ true ]
dropped [] = refl
dropped (g ∷ gaps) = refl

below : (m i : ℕ) (xs : List Entry) → m < i → lists (entry_ways i xs) (way.Entry m) ≡ false
below m i [] l = refl
below m i (x ∷ xs) l = ap₂ (λ a b. a || b) (ne_eqb m i (λ e. absurd (omega (arith, e, l)))) (below m (suc i) xs (omega (arith, l)))

one_more : (n k : ℕ) → nat_lt n k ≡ nat_lt (suc n) (suc k)
one_more n k = by (nat_lt n k) refl
  where
    by : (b : Bool) → nat_lt n k ≡ b → b ≡ nat_lt (suc n) (suc k)
    by true e = sym (lt-ltb (suc n) (suc k) (let l = ltb-true n k e in omega (arith, l)))
    by false e = sym (le-ltb (suc n) (suc k) (let l = ltb-false n k e in omega (arith, l)))

numbered : (m i n : ℕ) (xs : List Entry) → m ≡ i + n → lists (entry_ways i xs) (way.Entry m) ≡ nat_lt n (length xs)
numbered m i n [] e = sym (le-ltb n 0 (omega arith))
numbered m i zero (x ∷ xs) e =
    ap (λ z. z || lists (entry_ways (suc i) xs) (way.Entry m)) (same_number m i (omega (arith, e))) ∙ sym (lt-ltb 0 (suc (length xs)) (omega arith))
numbered m i (suc n) (x ∷ xs) e =
    ap₂ (λ a b. a || b) (ne_eqb m i (λ f. absurd (omega (arith, e, f)))) (numbered m (suc i) n xs (omega (arith, e))) ∙ one_more n (length xs)

module _ (xs : List Entry) (gaps : List Gap) where
  of_parts : (name : Way) (a b : Bool) → lists (entry_ways 0 xs) name ≡ a → lists (drop_way gaps) name ≡ b → (a || b) ≡ lists (entry_ways 0 xs ++ drop_way gaps) name
  of_parts name a b e f = sym (lists_append (entry_ways 0 xs) (drop_way gaps) name ∙ ap₂ (λ u v. u || v) e f)

  other : (name : Way) → ((n : ℕ) → same_way name (way.Entry n) ≡ false) → same_way name way.Drop ≡ false → false ≡ lists (entry_ways 0 xs ++ drop_way gaps) name
  other name e f = of_parts name false false (no_entry name e 0 xs) (no_drop name f gaps)

  pub choices : (name : Way) → is_choice xs gaps name ≡ lists (entry_ways 0 xs ++ drop_way gaps) name
  choices (way.Entry n) = sym (or-false (nat_lt n (length xs))) ∙ of_parts (way.Entry n) (nat_lt n (length xs)) false (numbered n 0 n xs (omega arith)) (no_drop (way.Entry n) refl gaps)
  choices way.Drop = of_parts way.Drop false (elim gaps as (λ _. Bool) [ [] ↦ false | _ ∷ _ ↦ true ]) (no_entry way.Drop (λ n. refl) 0 xs) (dropped gaps)
  choices way.On = other way.On (λ n. refl) refl
  choices way.Then = other way.Then (λ n. refl) refl
  choices way.Else = other way.Else (λ n. refl) refl
  choices way.Null = other way.Null (λ n. refl) refl
  choices way.Made = other way.Made (λ n. refl) refl
  choices way.Written = other way.Written (λ n. refl) refl
  choices way.Unwritten = other way.Unwritten (λ n. refl) refl
  choices (way.Atom m) = other (way.Atom m) (λ n. refl) refl
  choices way.MissingLive = other way.MissingLive (λ n. refl) refl
  choices way.MissingFreed = other way.MissingFreed (λ n. refl) refl
  choices way.Missing = other way.Missing (λ n. refl) refl
  choices way.ByZero = other way.ByZero (λ n. refl) refl
  choices way.Divided = other way.Divided (λ n. refl) refl

-- ---- a block that an entry requires

as_ways : (ns : List ℕ) → map case_way (atom_cases ns) ≡ atom_ways ns
as_ways [] = refl
as_ways (n ∷ ns) = ap (λ z. way.Atom n ∷ z) (as_ways ns)

no_missing : (name : Way) → same_way name way.Missing ≡ false → (b : Bool) → lists (map case_way (missing_case b)) name ≡ false
no_missing name e true = ap (λ z. z || false) e
no_missing name e false = refl

missing : (b : Bool) → lists (map case_way (missing_case b)) way.Missing ≡ b
missing true = refl
missing false = refl

module _ (s : State) (used : List ℕ) (p : Place) (required : Atom) where
  abbrev such : ℕ → Atom → Bool
  such n a = not (list_any (nat_eq n) used) && is_match s.vars p required.block (is_freed required.state) a

  abbrev all : List Way
  all = map case_way (cases_of s.vars s.atoms (λ n. list_any (nat_eq n) used) p required.block (is_freed required.state))

  from_parts : (name : Way) (a b : Bool) → lists (atom_ways (numbers_of such 0 s.atoms)) name ≡ a → lists (map case_way (missing_case (may_be_missing s.vars p))) name ≡ b → (a || b) ≡ lists all name
  from_parts name a b e f =
      sym (ap (λ z. lists z name) (map-append case_way (atom_cases (numbers_of such 0 s.atoms)) (missing_case (may_be_missing s.vars p)))
      ∙ lists_append (map case_way (atom_cases (numbers_of such 0 s.atoms))) (map case_way (missing_case (may_be_missing s.vars p))) name
      ∙ ap₂ (λ u v. u || v) (ap (λ z. lists z name) (as_ways (numbers_of such 0 s.atoms)) ∙ e) f)

  neither : (name : Way) → ((n : ℕ) → same_way name (way.Atom n) ≡ false) → same_way name way.Missing ≡ false → false ≡ lists all name
  neither name e f = from_parts name false false (no_atom name e (numbers_of such 0 s.atoms)) (no_missing name f (may_be_missing s.vars p))

  pub meetings : (name : Way) → is_meeting s used p required name ≡ lists all name
  meetings (way.Atom n) =
      sym (or-false _) ∙ from_parts (way.Atom n) (is_some_and (slice_get s.atoms n) (such n)) false (lists_atom such n s.atoms) (no_missing (way.Atom n) refl (may_be_missing s.vars p))
  meetings way.Missing = from_parts way.Missing false (may_be_missing s.vars p) (no_atom way.Missing (λ n. refl) (numbers_of such 0 s.atoms)) (missing (may_be_missing s.vars p))
  meetings way.On = neither way.On (λ n. refl) refl
  meetings way.Then = neither way.Then (λ n. refl) refl
  meetings way.Else = neither way.Else (λ n. refl) refl
  meetings way.Null = neither way.Null (λ n. refl) refl
  meetings way.Made = neither way.Made (λ n. refl) refl
  meetings way.Written = neither way.Written (λ n. refl) refl
  meetings way.Unwritten = neither way.Unwritten (λ n. refl) refl
  meetings way.MissingLive = neither way.MissingLive (λ n. refl) refl
  meetings way.MissingFreed = neither way.MissingFreed (λ n. refl) refl
  meetings (way.Entry m) = neither (way.Entry m) (λ n. refl) refl
  meetings way.Drop = neither way.Drop (λ n. refl) refl
  meetings way.ByZero = neither way.ByZero (λ n. refl) refl
  meetings way.Divided = neither way.Divided (λ n. refl) refl
