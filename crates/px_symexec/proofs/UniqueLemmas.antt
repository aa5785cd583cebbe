-- A job has one table.
use Rattle.std.proofs.Common.{◌≡◌, ℕ, ◌+◌, ◌<◌, ◌≤◌, List, [], ◌∷◌, ◌++◌, length, Option, refl, sym, ◌∙◌, ap, subst, arith, inl, inr, append_assoc, append-nil, length-append}
use Rattle.std.specs.Prelude.{◌⊎◌, flat_map}
use Rattle.std.proofs.lemmas.List.Sums.{sum_by-append}
use Rattle.px_terms.specs.declared.conjuncts.Content.{Content}
use Rattle.px_entry.specs.declared.entries.Entry.{Entry}
use Rattle.px_entry.specs.declared.entries.Exit.{Exit}
use Rattle.px_entry.specs.declared.tables.Gap.{Gap}
use Rattle.px_entry.specs.declared.tables.Table.{Table}
use Rattle.px_entry.specs.declared.tables.Cause.{Cause}
use Rattle.px_solver.specs.Decisions.{IsDecided}
use Rattle.px_solver.specs.declared.decision.Decision.{Decision}
use Rattle.px_solver.specs.declared.decision.Decision.TheVariants.{Found, Refuted, Undecided}
use Rattle.px_solver.proofs.OneDecision.{one_decision}
use Rattle.px_callgraph.specs.declared.states.State.{State}
use Rattle.px_callgraph.specs.JobTree.{JobTree}
use Rattle.px_symexec.specs.Prefixes.{Prefix, Dead, Choice, Ended, Dropped, Past, constraint, prefixes_of}
use Rattle.px_symexec.specs.Tables.{Selects, IsLive, ended_case, ended_cases, Row, Gives, Misses, IsRow, AreRows, entries_in, drops_in, entry_of, undecided, IsEnd, Stops, IsTable, HasLivePrefixes}
use Rattle.px_symexec.specs.Laws.{OneTable}
use Rattle.px_symexec.proofs.TableLemmas.{ended_more}

-- ---- one row

abbrev row_by : JobTree → State → Exit → Option Content → Decision → Row
row_by j s exit result (Found model) = Gives (entry_of j s exit result model)
row_by j s exit result Refuted = Row.Nothing
row_by j s exit result (Undecided hard) = Misses (undecided s hard)

-- the row of an end is that of what is decided
decided_row : (j : JobTree) (s : State) (exit : Exit) (result : Option Content) (r : Row) → IsRow j (Ended s exit result) r →
    (d : Decision) × IsDecided s.vars (constraint s) j.kinds d × (r ≡ row_by j s exit result d)
decided_row j s exit result r (inl (model, d, e)) = (Found model, d, e)
decided_row j s exit result r (inr (hard, d, e)) = (Undecided hard, d, e)

same_row : (j : JobTree) (p : Prefix) (r q : Row) → IsRow j p r → IsRow j p q → r ≡ q
same_row j (Dead s) r q h k = absurd h
same_row j (Choice s) r q h k = h ∙ sym k
same_row j (Dropped s gap) r q h k = h ∙ sym k
same_row j (Past s) r q h k = h ∙ sym k
same_row j (Ended s exit result) r q h k =
    let (d, x, e) = decided_row j s exit result r h in
    let (c, y, f) = decided_row j s exit result q k in
    e ∙ ap (row_by j s exit result) (one_decision.one s.vars (constraint s) j.kinds d c x y) ∙ sym f

-- ---- one end

one_cause : (j : JobTree) (live : List Prefix) (p : Prefix) (c d : Cause) → IsEnd j live p c → IsEnd j live p d → c ≡ d
one_cause j live p c d (inl (h, e)) (inl (k, f)) = e ∙ sym f
one_cause j live p c d (inl (h, e)) (inr (k, x, y, f)) = absurd (omega arith)
one_cause j live p c d (inr (h, x, y, e)) (inl (k, f)) = absurd (omega arith)
one_cause j live p c d (inr (h, x, y, e)) (inr (k, v, w, f)) = e ∙ sym f

not_end : (j : JobTree) (live : List Prefix) (p : Prefix) (c : Cause) → IsEnd j live p c → length live < j.limits.nodes → ended_cases live + ended_case p ≤ j.limits.paths → ⊥
not_end j live p c (inl (h, e)) l m = omega arith
not_end j live p c (inr (h, x, y, e)) l m = omega (arith, x, y, m)

-- ---- going through the prefixes

-- the live ones that are left, their rows and the last drop, where these live ones have been seen
abbrev Follows : JobTree → List Prefix → List Prefix → List Prefix → List Row → List Gap → Type 0
Follows j seen [] live rows last = (live ≡ []) × (rows ≡ []) × (last ≡ [])
Follows j seen (p ∷ ps) live rows last =
    ((¬ IsLive j.kinds p) × Follows j seen ps live rows last)
    ⊎ ((IsLive j.kinds p × (live ≡ []) × (rows ≡ []) × (why : Cause) × IsEnd j seen p why × (last ≡ record { trace = []; cause = why } ∷ []))
    ⊎ (IsLive j.kinds p × (length seen < j.limits.nodes) × (ended_cases seen + ended_case p ≤ j.limits.paths)
    × (ls : List Prefix) × (r : Row) × (rest : List Row) × (live ≡ p ∷ ls) × IsRow j p r × (rows ≡ r ∷ rest) × Follows j (seen ++ p ∷ []) ps ls rest last))

one : (j : JobTree) (seen ps live live' : List Prefix) (rows rows' : List Row) (last last' : List Gap) → Follows j seen ps live rows last → Follows j seen ps live' rows' last' →
    (live ≡ live') × (rows ≡ rows') × (last ≡ last')
one j seen [] live live' rows rows' last last' h k = (h.0 ∙ sym k.0, h.1 ∙ sym k.1, h.2 ∙ sym k.2)
one j seen (p ∷ ps) live live' rows rows' last last' (inl (n, h)) (inl (m, k)) = one j seen ps live live' rows rows' last last' h k
one j seen (p ∷ ps) live live' rows rows' last last' (inl (n, h)) (inr (inl k)) = absurd (n k.0)
one j seen (p ∷ ps) live live' rows rows' last last' (inl (n, h)) (inr (inr k)) = absurd (n k.0)
one j seen (p ∷ ps) live live' rows rows' last last' (inr (inl h)) (inl (m, k)) = absurd (m h.0)
one j seen (p ∷ ps) live live' rows rows' last last' (inr (inr h)) (inl (m, k)) = absurd (m h.0)
one j seen (p ∷ ps) live live' rows rows' last last' (inr (inl (l, d, e, c, i, f))) (inr (inl (m, v, g, w, y, q))) =
    (d ∙ sym v, e ∙ sym g, f ∙ ap (λ (z : Cause). record { trace = []; cause = z } ∷ []) (one_cause j seen p c w i y) ∙ sym q)
one j seen (p ∷ ps) live live' rows rows' last last' (inr (inl (l, d, e, c, i, f))) (inr (inr (m, a, b, ls, r, rest, v, y, g, k))) = absurd (not_end j seen p c i a b)
one j seen (p ∷ ps) live live' rows rows' last last' (inr (inr (m, a, b, ls, r, rest, v, y, g, k))) (inr (inl (l, d, e, c, i, f))) = absurd (not_end j seen p c i a b)
one j seen (p ∷ ps) live live' rows rows' last last' (inr (inr (m, a, b, ls, r, rest, d, i, e, h))) (inr (inr (m', a', b', ls', q, rest', d', i', e', k))) =
    let (v, t, u) = one j (seen ++ p ∷ []) ps ls ls' rest rest' last last' h k in (
      d ∙ ap (λ z. p ∷ z) v ∙ sym d',
      e ∙ ap (λ z. z ∷ rest) (same_row j p r q i i') ∙ ap (λ z. q ∷ z) t ∙ sym e',
      u,
    )

ends : (j : JobTree) (live rest : List Prefix) (last : List Gap) → Stops j live rest last → Follows j live rest [] [] last
ends j live [] last s = (refl, refl, s)
ends j live (p ∷ rest) last (l, c, e, f) = inr (inl (l, refl, refl, c, e, f))

follows : (j : JobTree) (seen all before rest live : List Prefix) (rows : List Row) (last : List Gap) → all ≡ seen ++ live →
    Selects (IsLive j.kinds) before live → AreRows j live rows → length all ≤ j.limits.nodes → ended_cases all ≤ j.limits.paths →
    Stops j all rest last → Follows j seen (before ++ rest) live rows last
follows j seen all [] rest live rows last e s a l k t =
    let a' : rows ≡ [] = subst (λ z. AreRows j z rows) s a in
    let e' : all ≡ seen = e ∙ ap (λ z. seen ++ z) s ∙ append-nil seen in
    subst (λ z. Follows j seen rest z rows last) (sym s) (subst (λ z. Follows j seen rest [] z last) (sym a') (ends j seen rest last (subst (λ z. Stops j z rest last) e' t)))
follows j seen all (p ∷ before) rest live rows last e (inr (n, s)) a l k t = inl (n, follows j seen all before rest live rows last e s a l k t)
follows j seen all (p ∷ before) rest live rows last e (inl (v, ls, f, s)) a l k t =
    let (r, rs, er, i, ar) = subst (λ z. AreRows j z rows) f a in
    let g : all ≡ (seen ++ p ∷ []) ++ ls = e ∙ ap (λ z. seen ++ z) f ∙ sym (append_assoc seen (p ∷ []) ls) in
    let n : length all ≡ length (seen ++ p ∷ []) + length ls = ap length g ∙ length-append (seen ++ p ∷ []) ls in
    let m : length (seen ++ p ∷ []) ≡ length seen + 1 = length-append seen (p ∷ []) in
    let c : ended_cases all ≡ ended_cases (seen ++ p ∷ []) + ended_cases ls = ap ended_cases g ∙ sum_by-append ended_case (seen ++ p ∷ []) ls in
    let d = ended_more seen p in
    inr (inr (v, omega (arith, n, m, l), omega (arith, c, d, k), ls, r, rs, f, i, er, follows j (seen ++ p ∷ []) all before rest ls rs last g s ar l k t))

table_follows : (j : JobTree) (table : Table) (t : IsTable j table) → Follows j [] (prefixes_of j) t.live t.walked.rows t.last
table_follows j table t =
    let w = t.walked in
    subst (λ z. Follows j [] z t.live w.rows t.last) (sym t.split) (follows j [] t.live t.before t.rest t.live w.rows t.last refl w.selects w.are_rows w.few w.few_ended t.stops)

same_tables : (a b : List Entry) (c d : List Gap) → a ≡ b → c ≡ d → ◌≡◌ {A = Table} (record { entries = a; drops = c }) (record { entries = b; drops = d })
same_tables a b c d e f = ap (λ z. record { entries = z; drops = c }) e ∙ ap (λ z. record { entries = b; drops = z }) f

one_table_is : (j : JobTree) (table other : Table) → IsTable j table → IsTable j other → table ≡ other
one_table_is j table other t u =
    let (v, r, l) = one j [] (prefixes_of j) t.live u.live t.walked.rows u.walked.rows t.last u.last (table_follows j table t) (table_follows j other u) in
    same_tables table.entries other.entries table.drops other.drops
    (t.walked.entries_are ∙ ap (flat_map entries_in) r ∙ sym u.walked.entries_are)
    (t.drops_are ∙ ap (λ z. z ++ t.last) (t.walked.drops_are ∙ ap (flat_map drops_in) r ∙ sym u.walked.drops_are) ∙ ap (λ z. u.met ++ z) l ∙ sym u.drops_are)

one_number : (j : JobTree) (m n : ℕ) → HasLivePrefixes j m → HasLivePrefixes j n → m ≡ n
one_number j m n (table, t, e) (other, u, f) =
    let (v, r, l) = one j [] (prefixes_of j) t.live u.live t.walked.rows u.walked.rows t.last u.last (table_follows j table t) (table_follows j other u) in
    e ∙ ap (λ z. length z + length t.last) v ∙ ap (λ z. length u.live + length z) l ∙ sym f

pub one_table : OneTable
one_table = record { tables = one_table_is; numbers = one_number }
