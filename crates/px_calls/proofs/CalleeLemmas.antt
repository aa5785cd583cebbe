-- The callee that a list names.
use Rattle.std.proofs.Common.{◌≡◌, ℕ, ◌+◌, ◌<◌, ◌≤◌, List, [], ◌∷◌, drop, length, get_or, ◌++◌, append_assoc, drop-cons, add-one, arith, refl, ap, ap₂, sym, ◌∙◌}
use Rattle.std.specs.Prelude.{zero, suc, true, false}
use Rattle.std.proofs.Math.ListN.{drop_of_length-le}
use Rattle.std.proofs.lemmas.Bool.{ne_eqb}
use Rattle.px_base.specs.declared.trace.ProcId.{ProcId}
use Rattle.px_entry.specs.declared.entries.Entry.{Entry}
use Rattle.px_callgraph.specs.declared.states.Way.{Way}
use Rattle.px_callgraph.specs.declared.states.Way.TheVariants as way
use Rattle.px_callgraph.specs.Calls.{entry_ways}
use Rattle.px_callgraph.specs.declared.jobs.Callee.{Callee}
use Rattle.px_callgraph.specs.declared.jobs.Callee.TheVariants.{Unknown}
use Rattle.px_callgraph.specs.JobTree.{callee_in}
use Rattle.px_terms.proofs.Tests.{same_number}

-- the items from a place on are the one there and those after it
pub from_place : {A : Type 0} (xs : List A) (i : ℕ) (x : A) → i < length xs → x ≡ get_or xs i x → drop i xs ≡ x ∷ drop (i + 1) xs
from_place xs i x h e = drop-cons xs i x h ∙ ap₂ ◌∷◌ (sym e) (ap (λ k. drop k xs) (sym (add-one i)))

pub found : (all : List (ProcId × Callee)) (i : ℕ) (c : ProcId × Callee) (f : ProcId) → i < length all → c ≡ get_or all i c → c.0.0 ≡ f.0
    → callee_in (drop i all) f ≡ callee_in all f → c.1 ≡ callee_in all f
found all i c f h e same k =
    ap (λ b. elim b as (λ _. Callee) [ true ↦ c.1 | false ↦ callee_in (drop (i + 1) all) f ]) (sym (same_number c.0.0 f.0 same))
    ∙ ap (λ z. callee_in z f) (sym (from_place all i c h e)) ∙ k

pub skipped : (all : List (ProcId × Callee)) (i : ℕ) (c : ProcId × Callee) (f : ProcId) → i < length all → c ≡ get_or all i c → (c.0.0 ≡ f.0 → ⊥)
    → callee_in (drop i all) f ≡ callee_in all f → callee_in (drop (i + 1) all) f ≡ callee_in all f
skipped all i c f h e other k =
    ap (λ b. elim b as (λ _. Callee) [ true ↦ c.1 | false ↦ callee_in (drop (i + 1) all) f ]) (sym (ne_eqb c.0.0 f.0 other))
    ∙ ap (λ z. callee_in z f) (sym (from_place all i c h e)) ∙ k

pub nothing_found : (all : List (ProcId × Callee)) (i : ℕ) (f : ProcId) → length all ≤ i → callee_in (drop i all) f ≡ callee_in all f → Unknown ≡ callee_in all f
nothing_found all i f h k = ap (λ z. callee_in z f) (sym (drop_of_length-le all h)) ∙ k

-- ---- the ways to choose an entry

ways_from : (xs : List Entry) (i n : ℕ) → i < length xs → entry_ways n (drop i xs) ≡ way.Entry n ∷ entry_ways (suc n) (drop (suc i) xs)
ways_from [] i n h = absurd (omega arith)
ways_from (x ∷ xs) zero n h = refl
ways_from (x ∷ xs) (suc i) n h = ways_from xs i n (omega arith)

pub next_entry : (xs : List Entry) (i : ℕ) (found more all : List Way) → i < length xs → more ≡ found ++ way.Entry i ∷ [] → found ++ entry_ways i (drop i xs) ≡ all → more ++ entry_ways (i + 1) (drop (i + 1) xs) ≡ all
next_entry xs i found more all l e h =
    ap (λ z. z ++ entry_ways (i + 1) (drop (i + 1) xs)) e
    ∙ append_assoc found (way.Entry i ∷ []) (entry_ways (i + 1) (drop (i + 1) xs))
    ∙ ap (λ z. found ++ way.Entry i ∷ entry_ways z (drop z xs)) (let q : i + 1 ≡ suc i = omega arith in q)
    ∙ ap (λ z. found ++ z) (sym (ways_from xs i i l))
    ∙ h
