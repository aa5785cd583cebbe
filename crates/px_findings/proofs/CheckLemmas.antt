-- Entries that are checked by derivations that derive them.
use Rattle.std.proofs.Common.{◌≡◌, ℕ, suc, zero, List, [], ◌∷◌, length, map, Result, Err, refl, sym, ap, ◌∙◌, subst}
use Rattle.px_entry.specs.declared.derivations.Derivation.{Derivation}
use Rattle.px_entry.specs.declared.derivations.Rule.{Rule}
use Rattle.px_entry.specs.declared.entries.Entry.{Entry}
use Rattle.px_callgraph.specs.JobTree.{JobTree}
use Rattle.px_explore.specs.Counts.{IsCounted}
use Rattle.px_explore.specs.declared.results.Counted.{Counted}
use Rattle.px_explore.specs.Derived.{AreDerived}
use Rattle.px_check.specs.declared.checked.Checked.{Checked}
use Rattle.px_check.specs.declared.checked.TableFault.{TableFault}
use Rattle.px_check.specs.declared.checked.TableFault.TheVariants.{Refused}
use Rattle.px_check.specs.Answers.{entry_of, AreCheckedBy, IsFirstRefused, AreAnswers}
use Rattle.px_pieces.specs.declared.findings.Part.TheVariants.{Tabled}
use Rattle.px_findings.specs.Jobs.{AreChecked, IsAnalysed}
use Rattle.px_check.proofs.OneOutcomeLemmas.{one_outcome}

-- there are as many derivations as entries
pub as_many : (j : JobTree) (xs : List Entry) (ds : List Derivation) → AreDerived j xs ds → length xs ≡ length ds
as_many j [] ds h = sym (ap length h)
as_many j (x ∷ xs) [] h = absurd h
as_many j (x ∷ xs) (d ∷ ds) h = ap suc (as_many j xs ds h.1)

none_fails : (j : JobTree) (xs : List Entry) (ds : List Derivation) (n i : ℕ) (r : Rule) → AreDerived j xs ds → IsFirstRefused j xs ds n i r → ⊥
none_fails j [] ds n i r h f = f
none_fails j (x ∷ xs) [] n i r h f = h
none_fails j (x ∷ xs) (d ∷ ds) zero i r h f = one_outcome.apart j x d.steps i r h.0 f
none_fails j (x ∷ xs) (d ∷ ds) (suc n) i r h f = none_fails j xs ds n i r h.1 f.1

-- a check refuses none of what derives
pub never_refused : (j : JobTree) (xs : List Entry) (ds : List Derivation) (r : Result (List Checked) TableFault) (f : TableFault) (n i : ℕ) (q : Rule) →
    AreDerived j xs ds → AreAnswers j xs ds r → r ≡ Err f → f ≡ Refused n i q → ⊥
never_refused j xs ds r f n i q derived answer is which = none_fails j xs ds n i q derived (subst (AreAnswers j xs ds) (is ∙ ap Err which) answer)

-- what is checked are the entries
pub all_checked : (j : JobTree) (xs : List Entry) (ds : List Derivation) (cs : List Checked) → AreCheckedBy j xs ds cs → AreChecked j xs cs
all_checked j [] [] [] h = (refl, tt)
all_checked j (x ∷ xs) (d ∷ ds) (c ∷ cs) h =
    let rest = all_checked j xs ds cs h.3 in
    (ap (λ z. z ∷ map entry_of cs) h.0 ∙ ap (λ zs. x ∷ zs) rest.0, (h.1, rest.1))
all_checked j [] [] (c ∷ cs) h = absurd h
all_checked j [] (d ∷ ds) cs h = absurd h
all_checked j (x ∷ xs) [] cs h = absurd h
all_checked j (x ∷ xs) (d ∷ ds) [] h = absurd h

-- ---- the whole analysis of a job

-- the same table, its entries checked
pub analysed_table : (j : JobTree) (c : Counted) (checked : List Checked) → IsCounted j c → AreChecked j c.table.entries checked →
    IsAnalysed j (Tabled checked c.table.drops) (record { derivations = c.derivations; live = c.live })
analysed_table j c checked counted (same, of) = (
  subst (λ z. IsCounted j (record { table = record { entries = z; drops = c.table.drops }; derivations = c.derivations; live = c.live })) (sym same) counted,
  of,
)
