-- The paths that go on from a place, by what is listed there; and their prefixes.
use Rattle.std.proofs.Common.{◌≡◌, ℕ, zero, suc, List, [], ◌∷◌, ◌++◌, Option, refl, ◌∙◌, ap, arith}
use Rattle.std.specs.Prelude.{flat_map}
use Rattle.std.proofs.lemmas.List.{map-append}
use mathlib.Core.Path.{fun_ext}
use Rattle.px_terms.specs.declared.conjuncts.Content.{Content}
use Rattle.px_entry.specs.declared.derivations.Step.{Step}
use Rattle.px_entry.specs.declared.entries.Exit.{Exit}
use Rattle.px_entry.specs.declared.tables.Gap.{Gap}
use Rattle.px_callgraph.specs.declared.states.State.{State}
use Rattle.px_callgraph.specs.declared.states.Way.{Way}
use Rattle.px_callgraph.specs.JobTree.{JobTree}
use Rattle.px_callgraph.specs.declared.outcomes.StepOutcome.TheVariants.{Next, Ends, Cut, «Past» as IsPast}
use Rattle.px_callgraph.specs.Alternatives.{Walk, Leads, ways, act, start}
use Rattle.px_callgraph.specs.ActsLeft.{acts_left, acts_left_of, FallsBelow}
use Rattle.px_callgraph.proofs.FallLemmas.{acts_lessen}
use Rattle.px_symexec.specs.Prefixes.{Prefix, Choice, Ended, Dropped, Past, from_listed, prefixes_within, prefixes}
use Rattle.px_symexec.specs.Laws.{with_ticket}
use Rattle.px_symexec.proofs.PrefixLemmas.{falls_more, self_falls}
use Rattle.px_explore.specs.Taken.{steps_with}
use Rattle.px_explore.specs.Paths.{Path, path_to, prefixes_in, paths_by, paths_within, paths, paths_of}
use Rattle.px_explore.specs.Laws.{PathsArePrefixes}
use Rattle.px_symexec.proofs.TicketLemmas.{same_ways, same_act, same_left}

-- ---- their prefixes

pub prefixes_more : (ps qs : List Path) → prefixes_in (ps ++ qs) ≡ prefixes_in ps ++ prefixes_in qs
prefixes_more ps qs = map-append (λ (p : Path). p.prefix) ps qs

flat_prefixes : (f : Way → List Path) (g : Way → List Prefix) (ws : List Way) → ((w : Way) → prefixes_in (f w) ≡ g w) → prefixes_in (flat_map f ws) ≡ flat_map g ws
flat_prefixes f g [] h = refl
flat_prefixes f g (w ∷ ws) h =
    prefixes_more (f w) (flat_map f ws) ∙ ap (λ z. z ++ prefixes_in (flat_map f ws)) (h w) ∙ ap (λ z. g w ++ z) (flat_prefixes f g ws h)

by_prefixes : (s : State) (steps : List Step) (ws : List Way) (f : Way → List Path) (g : Way → List Prefix) → ((w : Way) → prefixes_in (f w) ≡ g w) →
    prefixes_in (paths_by s steps ws f) ≡ from_listed s ws g
by_prefixes s steps [] f g h = refl
by_prefixes s steps (w ∷ []) f g h = h w
by_prefixes s steps (w ∷ more ∷ ws) f g h = ap (λ z. Choice s ∷ z) (flat_prefixes f g (w ∷ more ∷ ws) h)

within_prefixes : (n : ℕ) (j : JobTree) (steps : List Step) (a : Leads) → prefixes_in (paths_within n j steps a) ≡ prefixes_within n j a
within_prefixes n j steps (Ends s exit result) = refl
within_prefixes n j steps (Cut s gap) = refl
within_prefixes n j steps (IsPast s) = refl
within_prefixes zero j steps (Next w) = refl
within_prefixes (suc n) j steps (Next w) =
    by_prefixes w.state steps (ways j w) (λ name. paths_within n j (steps_with w name steps) (act j w name)) (λ name. prefixes_within n j (act j w name))
    (λ name. within_prefixes n j (steps_with w name steps) (act j w name))

pub are_prefixes : (j : JobTree) (steps : List Step) (a : Leads) → prefixes_in (paths j steps a) ≡ prefixes j a
unfolding paths prefixes
are_prefixes j steps a = within_prefixes (acts_left_of j a) j steps a

pub paths_are_prefixes : PathsArePrefixes
paths_are_prefixes j = are_prefixes j [] (Next (start j))

-- ---- by what is listed

-- beyond the acts that are left, more make no difference
steady : (n m : ℕ) (j : JobTree) (steps : List Step) (a : Leads) → FallsBelow j n a → FallsBelow j m a → paths_within n j steps a ≡ paths_within m j steps a
steady n m j steps (Ends s exit result) f g = refl
steady n m j steps (Cut s gap) f g = refl
steady n m j steps (IsPast s) f g = refl
steady zero m j steps (Next w) f g = absurd (omega arith)
steady (suc n) zero j steps (Next w) f g = absurd (omega arith)
steady (suc n) (suc m) j steps (Next w) f g =
    ap (λ (e : Way → List Path). paths_by w.state steps (ways j w) e)
    (fun_ext (λ name. steady n m j (steps_with w name steps) (act j w name)
    (falls_more j (act j w name) (acts_left j w) n (omega arith) (acts_lessen j w name)) (falls_more j (act j w name) (acts_left j w) m (omega arith) (acts_lessen j w name))))

pub paths_next : (j : JobTree) (steps : List Step) (w : Walk) → paths j steps (Next w) ≡ paths_by w.state steps (ways j w) (λ name. paths j (steps_with w name steps) (act j w name))
unfolding paths
paths_next j steps w =
    ap (λ (e : Way → List Path). paths_by w.state steps (ways j w) e)
    (fun_ext (λ name. steady (acts_left j w) (acts_left_of j (act j w name)) j (steps_with w name steps) (act j w name) (acts_lessen j w name) (self_falls j (act j w name))))

pub paths_ends : (j : JobTree) (steps : List Step) (s : State) (exit : Exit) (result : Option Content) → paths j steps (Ends s exit result) ≡ path_to steps (Ended s exit result) ∷ []
unfolding paths
paths_ends j steps s exit result = refl

pub paths_cut : (j : JobTree) (steps : List Step) (s : State) (gap : Gap) → paths j steps (Cut s gap) ≡ path_to steps (Dropped s gap) ∷ []
unfolding paths
paths_cut j steps s gap = refl

pub paths_past : (j : JobTree) (steps : List Step) (s : State) → paths j steps (IsPast s) ≡ path_to steps (Past s) ∷ []
unfolding paths
paths_past j steps s = refl

-- ---- with another ticket

same_within : (m : ℕ) (j : JobTree) (n : ℕ) (steps : List Step) (a : Leads) → paths_within m (with_ticket n j) steps a ≡ paths_within m j steps a
same_within m j n steps (Ends s exit result) = refl
same_within m j n steps (Cut s gap) = refl
same_within m j n steps (IsPast s) = refl
same_within zero j n steps (Next w) = refl
same_within (suc m) j n steps (Next w) =
    ap (λ ws. paths_by w.state steps ws (λ name. paths_within m (with_ticket n j) (steps_with w name steps) (act (with_ticket n j) w name))) (same_ways j n w)
    ∙ ap (λ (e : Way → List Path). paths_by w.state steps (ways j w) e)
    (fun_ext (λ name. ap (paths_within m (with_ticket n j) (steps_with w name steps)) (same_act j n w name) ∙ same_within m j n (steps_with w name steps) (act j w name)))

pub same_paths : (j : JobTree) (n : ℕ) → paths_of (with_ticket n j) ≡ paths_of j
unfolding paths
same_paths j n =
    ap (λ m. paths_within m (with_ticket n j) [] (Next (start j))) (same_left j n (Next (start j))) ∙ same_within (acts_left_of j (Next (start j))) j n [] (Next (start j))
