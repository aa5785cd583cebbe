-- The entries that paths give, and the derivations by their own steps.
use Rattle.std.proofs.Common.{◌≡◌, ℕ, suc, List, [], ◌∷◌, ◌++◌, length, refl, sym, ◌∙◌, ap, subst, inl, inr, arith, append-nil}
use Rattle.std.proofs.lemmas.List.{map-append, nil_from_length}
use Rattle.px_entry.specs.declared.derivations.Derivation.{Derivation}
use Rattle.px_entry.specs.declared.entries.Entry.{Entry}
use Rattle.px_entry.specs.declared.tables.Gap.{Gap}
use Rattle.px_entry.specs.declared.tables.Table.{Table}
use Rattle.px_entry.proofs.Lists.{Each}
use Rattle.px_solver.specs.declared.decision.Decision.{Decision}
use Rattle.px_solver.specs.declared.decision.Decision.TheVariants.{Found, Undecided}
use Rattle.px_solver.proofs.OneDecision.{one_decision}
use Rattle.px_callgraph.specs.JobTree.{JobTree}
use Rattle.px_symexec.specs.Prefixes.{Prefix, Dead, Choice, Ended, Dropped, Past, constraint}
use Rattle.px_symexec.specs.Tables.{Selects, IsLive, Row, Nothing, Gives, Misses, IsRow, entries_in}
use Rattle.px_symexec.specs.Laws.{with_ticket}
use Rattle.px_symexec.proofs.Lists.{selects_more, selects_after}
use Rattle.px_symexec.proofs.LiveLemmas.{IsNotLive}
use Rattle.px_symexec.proofs.TicketLemmas.{no_ticket}
use Rattle.px_symexec.proofs.UniqueLemmas.{one_table}
use Rattle.px_explore.specs.declared.results.Analysis.{Analysis}
use Rattle.px_explore.specs.Derived.{derivation}
use Rattle.px_explore.specs.Paths.{Path, prefixes_in}
use Rattle.px_explore.specs.Own.{IsFound, AreEntriesOf, derivations_of, AreOwnOf, AreOwn}
use Rattle.px_explore.specs.Visits.{derivations_in}
use Rattle.px_explore.specs.Laws.{OneAnalysis, AnalysesHaveNoTicket}
use Rattle.px_explore.proofs.PathLemmas.{same_paths}

-- ---- which paths give an entry

-- one without a row doesn't
nothing_gives : (j : JobTree) (p : Prefix) (x : Entry) → IsRow j p Nothing → IsRow j p (Gives x) → ⊥
nothing_gives j (Dead s) x h k = h
nothing_gives j (Choice s) x h k = cc
nothing_gives j (Ended s exit result) x (inl (model, d, e)) k = cc
nothing_gives j (Ended s exit result) x (inr (hard, d, e)) k = cc
nothing_gives j (Dropped s gap) x h k = cc
nothing_gives j (Past s) x h k = cc

-- a drop doesn't
misses_gives : (j : JobTree) (p : Prefix) (gap : Gap) (x : Entry) → IsRow j p (Misses gap) → IsRow j p (Gives x) → ⊥
misses_gives j (Dead s) gap x h k = h
misses_gives j (Choice s) gap x h k = cc
misses_gives j (Ended s exit result) gap x (inl (model, d, e)) k = cc
misses_gives j (Ended s exit result) gap x (inr (hard, d, e)) (inl (model, c, f)) =
    let same : ◌≡◌ {A = Decision} (Undecided hard) (Found model) = one_decision.one s.vars (constraint s) j.kinds (Undecided hard) (Found model) d c in cc
misses_gives j (Ended s exit result) gap x (inr (hard, d, e)) (inr (more, c, f)) = cc
misses_gives j (Dropped s given) gap x h k = cc
misses_gives j (Past s) gap x h k = cc

-- what isn't live doesn't
out_gives : (j : JobTree) (p : Prefix) (x : Entry) → ¬ IsLive j.kinds p → IsRow j p (Gives x) → ⊥
out_gives j (Dead s) x h k = k
out_gives j (Choice s) x h k = cc
out_gives j (Ended s exit result) x h (inl (model, d, e)) = h d.not_refuted
out_gives j (Ended s exit result) x h (inr (hard, d, e)) = cc
out_gives j (Dropped s gap) x h k = cc
out_gives j (Past s) x h k = cc

pub none_found : (j : JobTree) (ps : List Path) → Each (IsNotLive j.kinds) (prefixes_in ps) → Each (λ p. ¬ IsFound j p) ps
none_found j [] h = tt
none_found j (p ∷ ps) h = (λ k. out_gives j p.prefix k.0 h.0 k.1, none_found j ps h.1)

-- ---- more paths

pub own_none : (j : JobTree) → AreOwnOf j [] [] []
own_none j = record { found = []; selects = refl; entries_are = refl; derivations_are = refl }

pub own_after : (j : JobTree) (before ps : List Path) (xs : List Entry) (ds : List Derivation) → Each (λ p. ¬ IsFound j p) ps → AreOwnOf j before xs ds → AreOwnOf j (before ++ ps) xs ds
own_after j before ps xs ds h o = record {
  found = o.found;
  selects = selects_after (IsFound j) before o.found ps o.selects h;
  entries_are = o.entries_are;
  derivations_are = o.derivations_are;
}

entries_more : (j : JobTree) (ps : List Path) (xs : List Entry) (p : Path) (x : Entry) → AreEntriesOf j ps xs → IsRow j p.prefix (Gives x) → AreEntriesOf j (ps ++ p ∷ []) (xs ++ x ∷ [])
entries_more j [] xs p x a h = (x, [], ap (λ z. z ++ x ∷ []) a, h, refl)
entries_more j (q ∷ ps) xs p x (y, rest, e, i, a) h = (y, rest ++ x ∷ [], ap (λ z. z ++ x ∷ []) e, i, entries_more j ps rest p x a h)

-- a path without an entry changes nothing
own_same : (j : JobTree) (before : List Path) (p : Path) (xs : List Entry) (ds : List Derivation) → ¬ IsFound j p → AreOwnOf j before xs ds → AreOwnOf j (before ++ p ∷ []) (xs ++ []) (ds ++ [])
own_same j before p xs ds n o =
    subst (λ z. AreOwnOf j (before ++ p ∷ []) z (ds ++ [])) (sym (append-nil xs))
    (subst (AreOwnOf j (before ++ p ∷ []) xs) (sym (append-nil ds)) (own_after j before (p ∷ []) xs ds (n, tt) o))

-- one with its row
pub own_more : (j : JobTree) (before : List Path) (p : Path) (r : Row) (xs : List Entry) (ds : List Derivation) → IsRow j p.prefix r → AreOwnOf j before xs ds →
    AreOwnOf j (before ++ p ∷ []) (xs ++ entries_in r) (ds ++ derivations_in r p.steps)
own_more j before p Nothing xs ds i o = own_same j before p xs ds (λ k. nothing_gives j p.prefix k.0 i k.1) o
own_more j before p (Gives x) xs ds i o = record {
  found = o.found ++ p ∷ [];
  selects = selects_more (IsFound j) before o.found p o.selects (x, i);
  entries_are = entries_more j o.found xs p x o.entries_are i;
  derivations_are = ap (λ z. z ++ derivation p.steps ∷ []) o.derivations_are ∙ sym (map-append (λ (q : Path). derivation q.steps) o.found (p ∷ []));
}
own_more j before p (Misses gap) xs ds i o = own_same j before p xs ds (λ k. misses_gives j p.prefix gap k.0 i k.1) o

-- ---- one analysis

-- as many of the first chosen items are the same
module _ {A : Type 0} (P : A → Type 0) where
  first_chosen : (xs ys rest more us vs : List A) → xs ++ rest ≡ ys ++ more → Selects P xs us → Selects P ys vs → length us ≡ length vs → us ≡ vs
  first_chosen [] ys rest more us vs e s t l = s ∙ sym (nil_from_length vs (sym l ∙ ap length s))
  first_chosen (x ∷ xs) [] rest more us vs e s t l = nil_from_length us (l ∙ ap length t) ∙ sym t
  first_chosen (x ∷ xs) (y ∷ ys) rest more us vs e (inl (p, us', f, s)) (inl (q, vs', g, t)) l =
      let head : x ≡ y = cc in
      let tail : xs ++ rest ≡ ys ++ more = cc in
      let m : suc (length us') ≡ suc (length vs') = sym (ap length f) ∙ l ∙ ap length g in
      let l' : length us' ≡ length vs' = omega (arith, m) in
      f ∙ ap (λ z. z ∷ us') head ∙ ap (λ z. y ∷ z) (first_chosen xs ys rest more us' vs' tail s t l') ∙ sym g
  first_chosen (x ∷ xs) (y ∷ ys) rest more us vs e (inl (p, us', f, s)) (inr (n, t)) l =
      let head : x ≡ y = cc in absurd (n (subst P head p))
  first_chosen (x ∷ xs) (y ∷ ys) rest more us vs e (inr (n, s)) (inl (q, vs', g, t)) l =
      let head : y ≡ x = cc in absurd (n (subst P head q))
  first_chosen (x ∷ xs) (y ∷ ys) rest more us vs e (inr (n, s)) (inr (m, t)) l =
      let tail : xs ++ rest ≡ ys ++ more = cc in first_chosen xs ys rest more us vs tail s t l

as_many : (j : JobTree) (ps : List Path) (xs : List Entry) → AreEntriesOf j ps xs → length ps ≡ length xs
as_many j [] xs e = ap length (sym e)
as_many j (p ∷ ps) xs (x, rest, e, i, a) = let n = as_many j ps rest a in ap suc n ∙ ap length (sym e)

one_own : (j : JobTree) (xs : List Entry) (ds es : List Derivation) → AreOwn j xs ds → AreOwn j xs es → ds ≡ es
one_own j xs ds es a b =
    a.own.derivations_are
    ∙ ap derivations_of
    (first_chosen (IsFound j) a.before b.before a.rest b.rest a.own.found b.own.found (sym a.split ∙ b.split) a.own.selects b.own.selects
    (as_many j a.own.found xs a.own.entries_are ∙ sym (as_many j b.own.found xs b.own.entries_are)))
    ∙ sym b.own.derivations_are

same_analyses : (t u : Table) (ds es : List Derivation) → t ≡ u → ds ≡ es → ◌≡◌ {A = Analysis} (record { table = t; derivations = ds }) (record { table = u; derivations = es })
same_analyses t u ds es e f = ap (λ z. record { table = z; derivations = ds }) e ∙ ap (λ z. record { table = u; derivations = z }) f

pub one_analysis : OneAnalysis
one_analysis j a b h k =
    let t : a.table ≡ b.table = one_table.tables j a.table b.table h.table k.table in
    same_analyses a.table b.table a.derivations b.derivations t (one_own j b.table.entries a.derivations b.derivations (subst (λ (z : Table). AreOwn j z.entries a.derivations) t h.own) k.own)

-- ---- with another ticket

row_too : (j : JobTree) (n : ℕ) (p : Prefix) (r : Row) → IsRow j p r → IsRow (with_ticket n j) p r
row_too j n (Dead s) r h = h
row_too j n (Choice s) r h = h
row_too j n (Ended s exit result) r h = h
row_too j n (Dropped s gap) r h = h
row_too j n (Past s) r h = h

row_back : (j : JobTree) (n : ℕ) (p : Prefix) (r : Row) → IsRow (with_ticket n j) p r → IsRow j p r
row_back j n (Dead s) r h = h
row_back j n (Choice s) r h = h
row_back j n (Ended s exit result) r h = h
row_back j n (Dropped s gap) r h = h
row_back j n (Past s) r h = h

entries_too : (j : JobTree) (n : ℕ) (ps : List Path) (xs : List Entry) → AreEntriesOf j ps xs → AreEntriesOf (with_ticket n j) ps xs
entries_too j n [] xs h = h
entries_too j n (p ∷ ps) xs (x, rest, e, i, a) = (x, rest, e, row_too j n p.prefix (Gives x) i, entries_too j n ps rest a)

found_too : (j : JobTree) (n : ℕ) (ps qs : List Path) → Selects (IsFound j) ps qs → Selects (IsFound (with_ticket n j)) ps qs
found_too j n [] qs s = s
found_too j n (p ∷ ps) qs (inl ((x, i), rest, e, s)) = inl ((x, row_too j n p.prefix (Gives x) i), rest, e, found_too j n ps rest s)
found_too j n (p ∷ ps) qs (inr (m, s)) = inr (λ k. m (k.0, row_back j n p.prefix (Gives k.0) k.1), found_too j n ps qs s)

own_too : (j : JobTree) (n : ℕ) (xs : List Entry) (ds : List Derivation) → AreOwn j xs ds → AreOwn (with_ticket n j) xs ds
own_too j n xs ds o = record {
  before = o.before;
  rest = o.rest;
  split = same_paths j n ∙ o.split;
  own = record {
    found = o.own.found;
    selects = found_too j n o.before o.own.found o.own.selects;
    entries_are = entries_too j n o.own.found xs o.own.entries_are;
    derivations_are = o.own.derivations_are;
  };
}

pub no_tickets : AnalysesHaveNoTicket
no_tickets j n a h = record { table = no_ticket j n a.table h.table; own = own_too j n a.table.entries a.derivations h.own }
