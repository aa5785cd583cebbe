-- What is in range in a spelling of polynomials mentions those alone that fit there; it is in range in each other one where they fit.
use Rattle.std.proofs.Common.{ℕ, List, [], ◌∷◌, ◌++◌, Option, Some, None, sym, subst}
use Rattle.std.specs.Prelude.{◌-◌, length, IfSome}
use Rattle.px_base.specs.Bounds.{most_conjuncts, most_atoms}
use Rattle.std.specs.List.{flat_map, AllByRecursion}
use Rattle.std.proofs.lemmas.List.Concat.{flat_map-cons}
use Rattle.px_terms.specs.Polynomials.{Polynomial}
use Rattle.px_terms.proofs.Recursion.{all_both}
use Rattle.px_terms.specs.declared.conjuncts.Content.{Content}
use Rattle.px_terms.specs.declared.conjuncts.Content.TheVariants as C
use Rattle.px_terms.specs.declared.conjuncts.Conj.{Conj}
use Rattle.px_terms.specs.declared.conjuncts.Conj.TheVariants as J
use Rattle.px_entry.specs.declared.atoms.AtomState.{AtomState}
use Rattle.px_entry.specs.declared.atoms.AtomState.TheVariants as A
use Rattle.px_entry.specs.declared.entries.Entry.{Entry}
use Rattle.px_entry.specs.declared.tables.Cause.{Cause}
use Rattle.px_entry.specs.declared.tables.Cause.TheVariants as G
use Rattle.px_entry.specs.declared.tables.Table.{Table}
use Rattle.px_callgraph.specs.declared.jobs.Callee.{Callee}
use Rattle.px_callgraph.specs.declared.jobs.Callee.TheVariants as K
use Rattle.px_spelling.specs.Lists.{IsList, any_number}
use Rattle.px_spelling.specs.Polynomials.{PolynomialSpelling}
use Rattle.px_spelling.specs.Conjuncts.{IsContent, IsConj}
use Rattle.px_spelling.specs.Entries.{IsAtomState, IsAtom, IsEntry}
use Rattle.px_spelling.specs.Tables.{IsCause, IsGap, IsTable, most_rows}
use Rattle.px_spelling.specs.Callees.{IsCallee}
use Rattle.px_spelling.specs.Mentions.{content_mentions, result_mentions, conj_mentions, atom_state_mentions, atom_mentions, entry_mentions, cause_mentions, gap_mentions, table_mentions, callee_mentions}

-- the ranges of values of a type, and the polynomials that they mention
pub record Ranges {A : Type 0} (fits : PolynomialSpelling → A → Type 0) (mentions : A → List Polynomial) : Type 1 where
  pub named : (p : PolynomialSpelling) (x : A) → fits p x → AllByRecursion p.fits (mentions x)
  pub moved : (p q : PolynomialSpelling) (x : A) → fits p x → AllByRecursion q.fits (mentions x) → fits q x

-- ---- lists

pub all_parts : {A : Type 0} (P : A → Type 0) (xs ys : List A) → AllByRecursion P (xs ++ ys) → AllByRecursion P xs × AllByRecursion P ys
all_parts P [] ys all = (tt, all)
all_parts P (x ∷ xs) ys all = let rest = all_parts P xs ys all.1 in ((all.0, rest.0), rest.1)

module _ {A : Type 0} {fits : PolynomialSpelling → A → Type 0} {mentions : A → List Polynomial} (item : Ranges fits mentions) where
  each_named : (p : PolynomialSpelling) (xs : List A) → AllByRecursion (fits p) xs → AllByRecursion p.fits (flat_map mentions xs)
  each_named p [] all = tt
  each_named p (x ∷ xs) all =
      subst (AllByRecursion p.fits) (sym (flat_map-cons mentions x xs))
      (all_both p.fits (mentions x) (flat_map mentions xs) (item.named p x all.0) (each_named p xs all.1))

  each_moved : (p q : PolynomialSpelling) (xs : List A) → AllByRecursion (fits p) xs → AllByRecursion q.fits (flat_map mentions xs) → AllByRecursion (fits q) xs
  each_moved p q [] all others = tt
  each_moved p q (x ∷ xs) all others =
      let both = subst (AllByRecursion q.fits) (flat_map-cons mentions x xs) others in (
        item.moved p q x all.0 ((all_parts q.fits (mentions x) (flat_map mentions xs) both).0),
        each_moved p q xs all.1 ((all_parts q.fits (mentions x) (flat_map mentions xs) both).1),
      )

  pub list_ranges : (most : ℕ) → Ranges (λ p. IsList (fits p) most) (flat_map mentions)
  list_ranges most = record {
    named = λ p xs all. each_named p xs all.2;
    moved = λ p q xs all others. (all.0, all.1, each_moved p q xs all.2 others);
  }

-- ---- one type after another

pub content_ranges : Ranges IsContent content_mentions
content_ranges = record { named = named; moved = moved }
  where
    named : (p : PolynomialSpelling) (x : Content) → IsContent p x → AllByRecursion p.fits (content_mentions x)
    named p C.Unwritten fits = tt
    named p (C.Word a) fits = (fits, tt)
    named p (C.Place a) fits = tt
    named p (C.Cell a) fits = tt

    moved : (p q : PolynomialSpelling) (x : Content) → IsContent p x → AllByRecursion q.fits (content_mentions x) → IsContent q x
    moved p q C.Unwritten fits all = tt
    moved p q (C.Word a) fits all = all.0
    moved p q (C.Place a) fits all = fits
    moved p q (C.Cell a) fits all = fits

abbrev pub IsResult : PolynomialSpelling → Option Content → Type 0
IsResult p given = IfSome given (IsContent p)

pub result_ranges : Ranges IsResult result_mentions
result_ranges = record { named = named; moved = moved }
  where
    named : (p : PolynomialSpelling) (x : Option Content) → IsResult p x → AllByRecursion p.fits (result_mentions x)
    named p None fits = tt
    named p (Some c) fits = content_ranges.named p c fits

    moved : (p q : PolynomialSpelling) (x : Option Content) → IsResult p x → AllByRecursion q.fits (result_mentions x) → IsResult q x
    moved p q None fits all = fits
    moved p q (Some c) fits all = content_ranges.moved p q c fits all

pub conj_ranges : Ranges IsConj conj_mentions
conj_ranges = record { named = named; moved = moved }
  where
    named : (p : PolynomialSpelling) (x : Conj) → IsConj p x → AllByRecursion p.fits (conj_mentions x)
    named p (J.Equal a) fits = (fits, tt)
    named p (J.Unequal a) fits = (fits, tt)
    named p (J.Less a b) fits = (fits.0, (fits.1, tt))
    named p (J.AtMost a b) fits = (fits.0, (fits.1, tt))
    named p (J.SamePlace a b) fits = tt
    named p (J.OtherPlace a b) fits = tt
    named p (J.Written a) fits = tt
    named p (J.Unwritten a) fits = tt
    named p (J.Quotient x a b) fits = (fits.1, (fits.2, tt))

    moved : (p q : PolynomialSpelling) (x : Conj) → IsConj p x → AllByRecursion q.fits (conj_mentions x) → IsConj q x
    moved p q (J.Equal a) fits all = all.0
    moved p q (J.Unequal a) fits all = all.0
    moved p q (J.Less a b) fits all = (all.0, all.1.0)
    moved p q (J.AtMost a b) fits all = (all.0, all.1.0)
    moved p q (J.SamePlace a b) fits all = fits
    moved p q (J.OtherPlace a b) fits all = fits
    moved p q (J.Written a) fits all = fits
    moved p q (J.Unwritten a) fits all = fits
    moved p q (J.Quotient x a b) fits all = (fits.0, all.0, all.1.0)

pub atom_state_ranges : Ranges IsAtomState atom_state_mentions
atom_state_ranges = record { named = named; moved = moved }
  where
    named : (p : PolynomialSpelling) (x : AtomState) → IsAtomState p x → AllByRecursion p.fits (atom_state_mentions x)
    named p (A.Live cells) fits = (list_ranges content_ranges any_number).named p cells fits
    named p A.Freed fits = tt

    moved : (p q : PolynomialSpelling) (x : AtomState) → IsAtomState p x → AllByRecursion q.fits (atom_state_mentions x) → IsAtomState q x
    moved p q (A.Live cells) fits all = (list_ranges content_ranges any_number).moved p q cells fits all
    moved p q A.Freed fits all = tt

pub atom_ranges : Ranges IsAtom atom_mentions
atom_ranges = record {
  named = λ p x fits. atom_state_ranges.named p x.state fits.2;
  moved = λ p q x fits all. (fits.0, fits.1, atom_state_ranges.moved p q x.state fits.2 all);
}

-- ---- entries, drops and tables

-- four lists
pub joined4 : (P : Polynomial → Type 0) (a b c d : List Polynomial) → AllByRecursion P a → AllByRecursion P b → AllByRecursion P c → AllByRecursion P d → AllByRecursion P (a ++ b ++ c ++ d)
joined4 P a b c d u v w x = all_both P (a ++ b ++ c) d (all_both P (a ++ b) c (all_both P a b u v) w) x

pure_ranges : Ranges (λ p. IsList (IsConj p) most_conjuncts) (flat_map conj_mentions)
pure_ranges = list_ranges conj_ranges most_conjuncts

atoms_ranges : Ranges (λ p. IsList (IsAtom p) most_atoms) (flat_map atom_mentions)
atoms_ranges = list_ranges atom_ranges most_atoms

pub entry_ranges : Ranges IsEntry entry_mentions
entry_ranges = record { named = named; moved = moved }
  where
    named : (p : PolynomialSpelling) (e : Entry) → IsEntry p e → AllByRecursion p.fits (entry_mentions e)
    named p e fits =
        joined4 p.fits (result_mentions e.result) (flat_map conj_mentions e.pure) (flat_map atom_mentions e.pre) (flat_map atom_mentions e.post)
        (result_ranges.named p e.result fits.3) (pure_ranges.named p e.pure fits.5) (atoms_ranges.named p e.pre fits.6) (atoms_ranges.named p e.post fits.7)

    moved : (p q : PolynomialSpelling) (e : Entry) → IsEntry p e → AllByRecursion q.fits (entry_mentions e) → IsEntry q e
    moved p q e fits all =
        let given = result_mentions e.result in
        let pure = flat_map conj_mentions e.pure in
        let pre = flat_map atom_mentions e.pre in
        let post = flat_map atom_mentions e.post in
        let three = (all_parts q.fits (given ++ pure ++ pre) post all).0 in
        let two = (all_parts q.fits (given ++ pure) pre three).0 in (
          fits.0,
          fits.1,
          fits.2,
          result_ranges.moved p q e.result fits.3 ((all_parts q.fits given pure two).0),
          fits.4,
          pure_ranges.moved p q e.pure fits.5 ((all_parts q.fits given pure two).1),
          atoms_ranges.moved p q e.pre fits.6 ((all_parts q.fits (given ++ pure) pre three).1),
          atoms_ranges.moved p q e.post fits.7 ((all_parts q.fits (given ++ pure ++ pre) post all).1),
          fits.8,
        )

pub cause_ranges : Ranges IsCause cause_mentions
cause_ranges = record { named = named; moved = moved }
  where
    named : (p : PolynomialSpelling) (x : Cause) → IsCause p x → AllByRecursion p.fits (cause_mentions x)
    named p (G.Undecided a) fits = pure_ranges.named p a fits
    named p (G.Nodes a) fits = tt
    named p (G.Paths a) fits = tt
    named p (G.Long a) fits = tt
    named p (G.Unknown a) fits = tt
    named p (G.Cycle a) fits = tt
    named p (G.Dropped a) fits = tt
    named p (G.LeftOut a) fits = tt
    named p (G.Outside a) fits = tt

    moved : (p q : PolynomialSpelling) (x : Cause) → IsCause p x → AllByRecursion q.fits (cause_mentions x) → IsCause q x
    moved p q (G.Undecided a) fits all = pure_ranges.moved p q a fits all
    moved p q (G.Nodes a) fits all = fits
    moved p q (G.Paths a) fits all = fits
    moved p q (G.Long a) fits all = fits
    moved p q (G.Unknown a) fits all = fits
    moved p q (G.Cycle a) fits all = fits
    moved p q (G.Dropped a) fits all = fits
    moved p q (G.LeftOut a) fits all = fits
    moved p q (G.Outside a) fits all = fits

pub gap_ranges : Ranges IsGap gap_mentions
gap_ranges = record {
  named = λ p x fits. cause_ranges.named p x.cause fits.1;
  moved = λ p q x fits all. (fits.0, cause_ranges.moved p q x.cause fits.1 all);
}

pub table_ranges : Ranges IsTable table_mentions
table_ranges = record { named = named; moved = moved }
  where
    named : (p : PolynomialSpelling) (t : Table) → IsTable p t → AllByRecursion p.fits (table_mentions t)
    named p t fits =
        all_both p.fits (flat_map entry_mentions t.entries) (flat_map gap_mentions t.drops)
        ((list_ranges entry_ranges most_rows).named p t.entries fits.0) ((list_ranges gap_ranges (most_rows - length t.entries)).named p t.drops fits.1)

    moved : (p q : PolynomialSpelling) (t : Table) → IsTable p t → AllByRecursion q.fits (table_mentions t) → IsTable q t
    moved p q t fits all =
        let entries = flat_map entry_mentions t.entries in
        let drops = flat_map gap_mentions t.drops in (
          (list_ranges entry_ranges most_rows).moved p q t.entries fits.0 ((all_parts q.fits entries drops all).0),
          (list_ranges gap_ranges (most_rows - length t.entries)).moved p q t.drops fits.1 ((all_parts q.fits entries drops all).1),
        )

pub callee_ranges : Ranges IsCallee callee_mentions
callee_ranges = record { named = named; moved = moved }
  where
    named : (p : PolynomialSpelling) (x : Callee) → IsCallee p x → AllByRecursion p.fits (callee_mentions x)
    named p (K.Table t) fits = table_ranges.named p t fits
    named p K.Cycle fits = tt
    named p K.LeftOut fits = tt
    named p K.Unknown fits = tt

    moved : (p q : PolynomialSpelling) (x : Callee) → IsCallee p x → AllByRecursion q.fits (callee_mentions x) → IsCallee q x
    moved p q (K.Table t) fits all = table_ranges.moved p q t fits all
    moved p q K.Cycle fits all = fits
    moved p q K.LeftOut fits all = fits
    moved p q K.Unknown fits all = fits
