-- The table shows each live prefix, or a budget is spent.
use Rattle.std.proofs.Common.{◌≡◌, ℕ, zero, suc, arith, List, [], ◌∷◌, ◌++◌, refl, sym, ◌∙◌, ap, subst, inl, inr}
use Rattle.std.specs.Prelude.{◌⊎◌, Contains, flat_map}
use Rattle.px_entry.specs.declared.entries.Entry.{Entry}
use Rattle.px_entry.specs.declared.tables.Gap.{Gap}
use Rattle.px_entry.specs.declared.tables.Table.{Table}
use Rattle.px_callgraph.specs.declared.states.Way.{Way}
use Rattle.px_callgraph.specs.JobTree.{JobTree}
use Rattle.px_callgraph.specs.declared.outcomes.StepOutcome.TheVariants.{Next, Ends, Cut, «Past» as IsPast}
use Rattle.px_callgraph.specs.Alternatives.{Walk, Leads, ways, act, start}
use Rattle.px_callgraph.specs.ActsLeft.{acts_left, acts_left_of, state_of, FallsBelow}
use Rattle.px_callgraph.specs.declared.states.State.{State}
use Rattle.px_callgraph.proofs.FallLemmas.{acts_lessen}
use Rattle.px_symexec.specs.Prefixes.{Prefix, Dead, Choice, Ended, Dropped, Past, from_listed, prefixes_within, prefixes, prefixes_of}
use Rattle.px_symexec.specs.Tables.{IsOpenState, IsLive, Row, Gives, Misses, IsRow, AreRows, entries_in, drops_in, entry_of, undecided, Stops, IsTable}
use Rattle.px_symexec.specs.Laws.{IsShown, IsSpent, PrefixesAreShown}
use Rattle.px_symexec.proofs.Lists.{IsIn, in_contains, contains_in, in_left, in_either, in_flat, in_selected}
use Rattle.px_symexec.proofs.PrefixLemmas.{falls_more, self_falls}

row_in : (j : JobTree) (ps : List Prefix) (rs : List Row) (p : Prefix) → AreRows j ps rs → IsIn p ps → (r : Row) × IsRow j p r × IsIn r rs
row_in j [] rs p a h = absurd h
row_in j (q ∷ ps) rs p (r, rest, e, i, a) (inl k) = (r, subst (λ z. IsRow j z r) (sym k) i, subst (IsIn r) (sym e) (inl refl))
row_in j (q ∷ ps) rs p (r, rest, e, i, a) (inr h) = let (x, y, z) = row_in j ps rest p a h in (x, y, subst (IsIn x) (sym e) (inr z))

among_entries : (t : Table) (rs : List Row) (r : Row) (x : Entry) → t.entries ≡ flat_map entries_in rs → IsIn r rs → IsIn x (entries_in r) → Contains t.entries x
among_entries t rs r x e h k = in_contains x t.entries (subst (IsIn x) (sym e) (in_flat entries_in rs r x h k))

among_drops : (t : Table) (rs : List Row) (last : List Gap) (r : Row) (gap : Gap) → t.drops ≡ flat_map drops_in rs ++ last → IsIn r rs → IsIn gap (drops_in r) → Contains t.drops gap
among_drops t rs last r gap e h k = in_contains gap t.drops (subst (IsIn gap) (sym e) (in_left gap (flat_map drops_in rs) last (in_flat drops_in rs r gap h k)))

row_shown : (j : JobTree) (t : Table) (rs : List Row) (last : List Gap) (p : Prefix) (r : Row) → t.entries ≡ flat_map entries_in rs → t.drops ≡ flat_map drops_in rs ++ last →
    IsRow j p r → IsIn r rs → IsShown j t p
row_shown j t rs last (Dead s) r e f i h = tt
row_shown j t rs last (Choice s) r e f i h = tt
row_shown j t rs last (Past s) r e f i h = tt
row_shown j t rs last (Dropped s gap) r e f i h = among_drops t rs last (Misses gap) gap f (subst (λ z. IsIn z rs) i h) (inl refl)
row_shown j t rs last (Ended s exit result) r e f (inl (model, d, i)) h =
    inl (model, among_entries t rs (Gives (entry_of j s exit result model)) (entry_of j s exit result model) e (subst (λ z. IsIn z rs) i h) (inl refl))
row_shown j t rs last (Ended s exit result) r e f (inr (hard, d, i)) h =
    inr (hard, among_drops t rs last (Misses (undecided s hard)) (undecided s hard) f (subst (λ z. IsIn z rs) i h) (inl refl))

spent : (j : JobTree) (t : Table) (live rest : List Prefix) (p : Prefix) (met last : List Gap) → t.drops ≡ met ++ last → Stops j live rest last → IsIn p rest → IsSpent j t
spent j t live [] p met last e s h = absurd h
spent j t live (q ∷ rest) p met last e (l, why, end, is) h =
    (met, why, elim end [ inl k ↦ inl k.1 | inr k ↦ inr k.3 ], e ∙ ap (λ z. met ++ z) is)

pub prefixes_are_shown : PrefixesAreShown
prefixes_are_shown j table t p h l =
    let w = t.walked in
    let d : table.drops ≡ flat_map drops_in w.rows ++ t.last = t.drops_are ∙ ap (λ z. z ++ t.last) w.drops_are in
    elim (in_either p t.before t.rest (subst (IsIn p) t.split (contains_in p (prefixes_of j) h))) [
      | inl k ↦ (let (r, i, n) = row_in j t.live w.rows p w.are_rows (in_selected (IsLive j.kinds) t.before t.live p w.selects k l) in
          inl (row_shown j table w.rows t.last p r w.entries_are d i n))
      | inr k ↦ inr (spent j table t.live t.rest p t.met t.last t.drops_are t.stops k)
    ]

-- ---- the prefix that is taken

in_listed : (s : State) (ws : List Way) (f : Way → List Prefix) (w : Way) (p : Prefix) → IsIn w ws → IsIn p (f w) → IsIn p (from_listed s ws f)
in_listed s [] f w p h k = absurd h
in_listed s (x ∷ []) f w p (inl e) k = subst (λ z. IsIn p (f z)) e k
in_listed s (x ∷ []) f w p (inr h) k = absurd h
in_listed s (x ∷ more ∷ ws) f w p h k = inr (in_flat f (x ∷ more ∷ ws) w p h k)

-- it has ended in a way of which Q holds
abbrev pub EndsIn : (Leads → Type 0) → Prefix → Type 0
EndsIn Q (Dead s) = ⊥
EndsIn Q (Choice s) = ⊥
EndsIn Q (Ended s exit result) = Q (Ends s exit result)
EndsIn Q (Dropped s gap) = Q (Cut s gap)
EndsIn Q (Past s) = Q (IsPast s)

-- Where each place of which Q holds has a listed way that leads to what Q holds of, some prefix is taken to an end of
-- which Q holds. For coverage Q says that some valuation gives the rest of an execution.
module _ (j : JobTree) (Q : Leads → Type 0) (go : (w : Walk) → Q (Next w) → (name : Way) × Contains (ways j w) name × Q (act j w name)) where
  taken_within : (n : ℕ) (a : Leads) → FallsBelow j n a → Q a → (p : Prefix) × IsIn p (prefixes_within n j a) × EndsIn Q p
  taken_within n (Ends s exit result) f q = (Ended s exit result, inl refl, q)
  taken_within n (Cut s gap) f q = (Dropped s gap, inl refl, q)
  taken_within n (IsPast s) f q = (Past s, inl refl, q)
  taken_within zero (Next w) f q = absurd (omega arith)
  taken_within (suc n) (Next w) f q =
      let (name, i, r) = go w q in
      let (p, k, e) = taken_within n (act j w name) (falls_more j (act j w name) (acts_left j w) n (omega arith) (acts_lessen j w name)) r in
      (p, in_listed w.state (ways j w) (λ x. prefixes_within n j (act j w x)) name p (contains_in name (ways j w) i) k, e)

  pub taken : (a : Leads) → Q a → (p : Prefix) × IsIn p (prefixes j a) × EndsIn Q p
  unfolding prefixes
  taken a q = taken_within (acts_left_of j a) a (self_falls j a) q

-- Q of an end gives that its constraint isn't refuted
live_end : (kinds : List ℕ) (Q : Leads → Type 0) → ((a : Leads) → Q a → IsOpenState kinds (state_of a)) → (p : Prefix) → EndsIn Q p → IsLive kinds p
live_end kinds Q h (Dead s) e = absurd e
live_end kinds Q h (Choice s) e = absurd e
live_end kinds Q h (Ended s exit result) e = h (Ends s exit result) e
live_end kinds Q h (Dropped s gap) e = h (Cut s gap) e
live_end kinds Q h (Past s) e = h (IsPast s) e

-- so the table shows it, or a budget is spent
pub covered : (j : JobTree) (Q : Leads → Type 0) (t : Table) → IsTable j t →
    ((w : Walk) → Q (Next w) → (name : Way) × Contains (ways j w) name × Q (act j w name)) →
    ((a : Leads) → Q a → IsOpenState j.kinds (state_of a)) →
    Q (Next (start j)) → (p : Prefix) × EndsIn Q p × (IsShown j t p ⊎ IsSpent j t)
covered j Q t is go open_states q =
    let (p, i, e) = taken j Q go (Next (start j)) q in
    (p, e, prefixes_are_shown j t is p (in_contains p (prefixes_of j) i) (live_end j.kinds Q open_states p e))
