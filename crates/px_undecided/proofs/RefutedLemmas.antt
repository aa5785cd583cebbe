-- What a look at a drop of a table says of its path.
use Rattle.std.proofs.Common.{◌≡◌, ℕ, List, [], ◌∷◌, refl, sym, ◌∙◌, ap, subst, inl, inr, Option}
use Rattle.std.specs.Prelude.{flat_map}
use Rattle.px_terms.specs.declared.conjuncts.Conj.{Conj}
use Rattle.px_terms.specs.declared.conjuncts.Content.{Content}
use Rattle.px_entry.specs.declared.entries.Exit.{Exit}
use Rattle.px_entry.specs.declared.tables.Cause.{Cause}
use Rattle.px_entry.specs.declared.tables.Cause.TheVariants as cause
use Rattle.px_entry.specs.declared.tables.Gap.{Gap}
use Rattle.px_entry.specs.declared.tables.Table.{Table}
use Rattle.px_entry.proofs.Lists.{Each}
use Rattle.px_solver.specs.Decisions.{IsDecided}
use Rattle.px_solver.specs.declared.decision.Decision.TheVariants.{Undecided}
use Rattle.px_callgraph.specs.declared.states.State.{State}
use Rattle.px_callgraph.specs.JobTree.{JobTree}
use Rattle.px_symexec.specs.Prefixes.{Prefix, Dead, Choice, Ended, Dropped, Past, constraint, prefixes_of}
use Rattle.px_symexec.specs.Tables.{Selects, IsLive, Row, Misses, IsRow, AreRows, drops_in, undecided, Stops, IsTable}
use Rattle.px_symexec.proofs.Lists.{IsIn, in_contains, contains_in, in_left, in_either}
use Rattle.px_bits.specs.declared.looks.Look.TheVariants.{Refuted}
use Rattle.px_bits.specs.Looks.{IsLook}
use Rattle.px_bits.proofs.AmongLemmas.{refuted_looks}
use Rattle.px_undecided.specs.Laws.{IsOfNoPath, RefutedDrops}
use Rattle.px_undecided.proofs.CutLemmas.{IsOther, DropsOther, prefixes_other}

each_in : {A : Type 0} (P : A → Type 0) (xs : List A) (x : A) → Each P xs → IsIn x xs → P x
each_in P [] x h k = absurd k
each_in P (y ∷ xs) x h (inl e) = subst P (sym e) h.0
each_in P (y ∷ xs) x h (inr k) = each_in P xs x h.1 k

-- what was selected was there
in_all : {A : Type 0} (P : A → Type 0) (xs ys : List A) (x : A) → Selects P xs ys → IsIn x ys → IsIn x xs
in_all P [] ys x s h = subst (IsIn x) s h
in_all P (z ∷ xs) ys x (inl (p, rest, e, s)) h = elim (subst (IsIn x) e h) [
  | inl k ↦ inl k
  | inr k ↦ inr (in_all P xs rest x s k)
]
in_all P (z ∷ xs) ys x (inr (n, s)) h = inr (in_all P xs ys x s h)

-- a drop is that of a row, and so of a prefix
row_of_drop : (j : JobTree) (ps : List Prefix) (rs : List Row) (gap : Gap) → AreRows j ps rs → IsIn gap (flat_map drops_in rs) → (p : Prefix) × IsIn p ps × (r : Row) × IsRow j p r × IsIn gap (drops_in r)
row_of_drop j [] rs gap a h = absurd (subst (λ zs. IsIn gap (flat_map drops_in zs)) a h)
row_of_drop j (p ∷ ps) rs gap (r, rest, e, i, a) h = elim (in_either gap (drops_in r) (flat_map drops_in rest) (subst (λ zs. IsIn gap (flat_map drops_in zs)) e h)) [
  | inl k ↦ (p, inl refl, r, i, k)
  | inr k ↦ (let (q, m, s, n, l) = row_of_drop j ps rest gap a k in (q, inr m, s, n, l))
]

only_drop : (gap : Gap) (r : Row) (other : Gap) → r ≡ Misses other → IsIn gap (drops_in r) → gap ≡ other
only_drop gap r other e h = elim (subst (λ z. IsIn gap (drops_in z)) e h) [ inl k ↦ k | inr k ↦ absurd k ]

-- the conjuncts of an undecided cause
abbrev hard_in : Cause → List Conj
hard_in (cause.Undecided hard) = hard
hard_in (cause.Nodes n) = []
hard_in (cause.Paths n) = []
hard_in (cause.Long kind) = []
hard_in (cause.Unknown f) = []
hard_in (cause.Cycle f) = []
hard_in (cause.Dropped f) = []
hard_in (cause.LeftOut f) = []
hard_in (cause.Outside word) = []

not_other : (c : Cause) (hard : List Conj) → c ≡ cause.Undecided hard → ¬ IsOther c
not_other c hard e h = subst IsOther e h

module _ (conflicts : ℕ) (j : JobTree) (gap : Gap) (hard : List Conj) (is : gap.cause ≡ cause.Undecided hard) (look : IsLook conflicts hard Refuted) where
  of_end : (s : State) (exit : Exit) (result : Option Content) → IsIn (Ended s exit result) (prefixes_of j) → (us : List Conj) → IsDecided s.vars (constraint s) j.kinds (Undecided us) → gap ≡ undecided s us → IsOfNoPath j gap
  of_end s exit result i us d e = record {
    state = s;
    exit = exit;
    result = result;
    ends = in_contains (Ended s exit result) (prefixes_of j) i;
    hard = us;
    dropped = e;
    none = refuted_looks.none s.vars (constraint s) j.kinds us conflicts d (subst (λ hs. IsLook conflicts hs Refuted) same look);
  }
    where
      same : hard ≡ us
      same = sym (ap hard_in is) ∙ ap (λ (g : Gap). hard_in g.cause) e

  of_prefix : (p : Prefix) (r : Row) → IsIn p (prefixes_of j) → IsRow j p r → IsIn gap (drops_in r) → IsOfNoPath j gap
  of_prefix (Dead s) r i row h = absurd row
  of_prefix (Choice s) r i row h = absurd (subst (λ z. IsIn gap (drops_in z)) row h)
  of_prefix (Past s) r i row h = absurd (subst (λ z. IsIn gap (drops_in z)) row h)
  of_prefix (Dropped s other) r i row h =
      absurd (not_other gap.cause hard is (subst (λ (g : Gap). IsOther g.cause) (sym (only_drop gap r other row h)) (each_in DropsOther (prefixes_of j) (Dropped s other) (prefixes_other j) i)))
  of_prefix (Ended s exit result) r i (inl (model, d, e)) h = absurd (subst (λ z. IsIn gap (drops_in z)) e h)
  of_prefix (Ended s exit result) r i (inr (us, d, e)) h = of_end s exit result i us d (only_drop gap r (undecided s us) e h)

  -- the last drop isn't undecided
  not_last : (live rest : List Prefix) (last : List Gap) → Stops j live rest last → ¬ IsIn gap last
  not_last live [] last s h = subst (IsIn gap) s h
  not_last live (p ∷ rest) last (l, why, end, e) h = elim (subst (IsIn gap) e h) [
    | inl k ↦ (let w : why ≡ cause.Undecided hard = sym (ap (λ (g : Gap). g.cause) k) ∙ is in elim end [
      | inl n ↦ not_other why hard w (subst IsOther (sym n.1) tt)
      | inr n ↦ not_other why hard w (subst IsOther (sym n.3) tt)
    ])
    | inr k ↦ k
  ]

  of_table : (table : Table) → IsTable j table → IsIn gap table.drops → IsOfNoPath j gap
  of_table table t h =
      let w = t.walked in
      elim (in_either gap t.met t.last (subst (IsIn gap) t.drops_are h)) [
        | inl k ↦ (let (p, i, r, row, m) = row_of_drop j t.live w.rows gap w.are_rows (subst (IsIn gap) w.drops_are k) in
            of_prefix p r (subst (IsIn p) (sym t.split) (in_left p t.before t.rest (in_all (IsLive j.kinds) t.before t.live p w.selects i))) row m)
        | inr k ↦ absurd (not_last t.live t.rest t.last t.stops k)
      ]

pub drops_refuted : RefutedDrops
drops_refuted conflicts j table gap hard t i is look = of_table conflicts j gap hard is look table t (contains_in gap table.drops i)
