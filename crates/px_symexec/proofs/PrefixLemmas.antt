-- The prefixes from a place of a path, by what is listed there.
use Rattle.std.proofs.Common.{◌≡◌, ℕ, zero, suc, ◌<◌, ◌≤◌, List, [], ◌∷◌, Option, refl, ap, arith}
use mathlib.Core.Path.{fun_ext}
use Rattle.px_terms.specs.declared.conjuncts.Content.{Content}
use Rattle.px_entry.specs.declared.entries.Exit.{Exit}
use Rattle.px_entry.specs.declared.tables.Gap.{Gap}
use Rattle.px_callgraph.specs.declared.states.State.{State}
use Rattle.px_callgraph.specs.declared.states.Way.{Way}
use Rattle.px_callgraph.specs.JobTree.{JobTree}
use Rattle.px_callgraph.specs.declared.outcomes.StepOutcome.TheVariants.{Next, Ends, Cut, «Past» as IsPast}
use Rattle.px_callgraph.specs.Alternatives.{Leads, ways, act}
use Rattle.px_callgraph.specs.ActsLeft.{acts_left, acts_left_of, FallsBelow}
use Rattle.px_callgraph.proofs.FallLemmas.{acts_lessen}
use Rattle.px_symexec.specs.Prefixes.{Prefix, Ended, Dropped, Past, from_listed, prefixes_within, prefixes}
use Rattle.px_symexec.specs.Laws.{PrefixesNext, ActsSuffice}

pub falls_more : (j : JobTree) (a : Leads) (m n : ℕ) → m ≤ n → FallsBelow j m a → FallsBelow j n a
falls_more j (Next w) m n p h = omega arith
falls_more j (Ends s exit result) m n p h = tt
falls_more j (Cut s gap) m n p h = tt
falls_more j (IsPast s) m n p h = tt

-- beyond the acts that are left, more make no difference
steady : (n m : ℕ) (j : JobTree) (a : Leads) → FallsBelow j n a → FallsBelow j m a → prefixes_within n j a ≡ prefixes_within m j a
steady n m j (Ends s exit result) f g = refl
steady n m j (Cut s gap) f g = refl
steady n m j (IsPast s) f g = refl
steady zero m j (Next w) f g = absurd (omega arith)
steady (suc n) zero j (Next w) f g = absurd (omega arith)
steady (suc n) (suc m) j (Next w) f g =
    ap (λ (e : Way → List Prefix). from_listed w.state (ways j w) e)
    (fun_ext (λ name. steady n m j (act j w name)
    (falls_more j (act j w name) (acts_left j w) n (omega arith) (acts_lessen j w name)) (falls_more j (act j w name) (acts_left j w) m (omega arith) (acts_lessen j w name))))

pub self_falls : (j : JobTree) (a : Leads) → FallsBelow j (acts_left_of j a) a
self_falls j (Next w) = omega arith
self_falls j (Ends s exit result) = tt
self_falls j (Cut s gap) = tt
self_falls j (IsPast s) = tt

-- an act leaves fewer, the place of the path counted
pub falls_to : (j : JobTree) (a : Leads) (n : ℕ) → FallsBelow j n a → acts_left_of j a < suc n
falls_to j (Next w) n h = omega arith
falls_to j (Ends s exit result) n h = omega arith
falls_to j (Cut s gap) n h = omega arith
falls_to j (IsPast s) n h = omega arith

-- by what is listed
pub prefixes_next : PrefixesNext
unfolding prefixes
prefixes_next j w =
    ap (λ (e : Way → List Prefix). from_listed w.state (ways j w) e)
    (fun_ext (λ name. steady (acts_left j w) (acts_left_of j (act j w name)) j (act j w name) (acts_lessen j w name) (self_falls j (act j w name))))

pub prefixes_ends : (j : JobTree) (s : State) (exit : Exit) (result : Option Content) → prefixes j (Ends s exit result) ≡ Ended s exit result ∷ []
unfolding prefixes
prefixes_ends j s exit result = refl

pub prefixes_cut : (j : JobTree) (s : State) (gap : Gap) → prefixes j (Cut s gap) ≡ Dropped s gap ∷ []
unfolding prefixes
prefixes_cut j s gap = refl

pub prefixes_past : (j : JobTree) (s : State) → prefixes j (IsPast s) ≡ Past s ∷ []
unfolding prefixes
prefixes_past j s = refl

falls_within : (j : JobTree) (a : Leads) (n : ℕ) → acts_left_of j a ≤ n → FallsBelow j n a
falls_within j (Next w) n h = omega arith
falls_within j (Ends s exit result) n h = tt
falls_within j (Cut s gap) n h = tt
falls_within j (IsPast s) n h = tt

-- more acts than are left change nothing
pub acts_suffice : ActsSuffice
unfolding prefixes
acts_suffice n j a h = steady n (acts_left_of j a) j a (falls_within j a n h) (self_falls j a)
