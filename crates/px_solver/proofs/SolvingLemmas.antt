-- One home after another is solved.
use Rattle.std.proofs.Common.{◌≡◌, ◌≢◌, inl, inr, ℕ, ◌+◌, ◌<◌, List, [], ◌∷◌, get_or, refl, sym, ap, subst, ◌∙◌, arith}
use Rattle.std.specs.Prelude.{Bool, true, false, Contains, cond}
use Rattle.std.proofs.lemmas.Bool.{cases_lt, ne_eqb, cases_Bool}
use Rattle.px_terms.specs.declared.conjuncts.Conj.{Conj}
use Rattle.px_plain.specs.declared.nodes.Node.{Node}
use Rattle.px_solver.specs.declared.solving.Layout.{Layout}
use Rattle.px_solver.specs.Tables.{AgreeOutside, GivesRoots, IsSolved, places_of}
use Rattle.px_solver.specs.Layouts.{mark_at, HasSolved, stop_at}
use Rattle.px_solver.proofs.PlaceLemmas.{place_home}
use Rattle.px_solver.proofs.SearchLemmas.{contains_more}
use Rattle.px_terms.proofs.Tests.{never_both}

pub null_kept : (homes : List ℕ) (home : ℕ) (new old : ℕ → ℕ) → 0 < home → get_or homes 0 0 ≡ 0 → AgreeOutside (places_of home homes) new old → old 0 ≡ 0 → new 0 ≡ 0
null_kept homes home new old l z a o = a 0 (λ c. let h = place_home home homes 0 c in absurd (omega arith)) ∙ o

pub easy_kept : (homes : List ℕ) (marks : List Bool) (home : ℕ) (new old first : ℕ → ℕ) (n : ℕ) → AgreeOutside (places_of home homes) new old → (mark_at marks home ≡ false → (v : ℕ) → new v ≡ old v) →
    ((v : ℕ) → v < n → mark_at marks (get_or homes v 0) ≡ false → old v ≡ first v) → (v : ℕ) → v < n → mark_at marks (get_or homes v 0) ≡ false → new v ≡ first v
easy_kept homes marks home new old first n a e h v l m = elim (cases_Bool (mark_at marks home)) [
  | inl t ↦ a v (λ c. never_both (mark_at marks home) t (ap (mark_at marks) (sym (place_home home homes v c)) ∙ m)) ∙ h v l m
  | inr f ↦ e f v ∙ h v l m
]

pub given_kept : (new old : ℕ → ℕ) (values rs ks : List ℕ) → ((v : ℕ) → Contains rs v → new v ≡ old v) → GivesRoots old values rs ks → GivesRoots new values rs ks
given_kept new old values [] [] s g = tt
given_kept new old values [] (k ∷ ks) s g = absurd g
given_kept new old values (r ∷ rs) [] s g = absurd g
given_kept new old values (r ∷ rs) (k ∷ ks) s g = ((g.0.0, s r (0, omega arith, refl) ∙ g.0.1), given_kept new old values rs ks (λ v c. s v (contains_more r rs v c)) g.1)

module _ (t : List Node) (cs : List Conj) (l : Layout) where
  pub solved_kept : (g home : ℕ) (new old : ℕ → ℕ) → g ≢ home → AgreeOutside (places_of home l.node_homes.items) new old → HasSolved t cs l g old → HasSolved t cs l g new
  solved_kept g home new old n a h = record {
    base = h.base;
    zero = h.zero;
    solved = record {
      few = h.solved.few;
      first = let f = h.solved.first in record {
        places = f.places;
        given = given_kept new old _ _ _ (λ v c. a v (λ d. n (sym (place_home g l.node_homes.items v c) ∙ place_home home l.node_homes.items v d))) f.given;
        works = f.works;
        first = f.first;
      };
    };
  }

  pub solved_more : (home : ℕ) (new old : ℕ → ℕ) → AgreeOutside (places_of home l.node_homes.items) new old → old 0 ≡ 0 →
      (mark_at l.hard.items home ≡ true → IsSolved t cs (places_of home l.homes.items) old (places_of home l.node_homes.items) new) →
      ((g : ℕ) → 0 < g → g < home → mark_at l.hard.items g ≡ true → HasSolved t cs l g old) → (g : ℕ) → 0 < g → g < home + 1 → mark_at l.hard.items g ≡ true → HasSolved t cs l g new
  solved_more home new old a z s h g low high m = elim (cases_lt g home) [
    | inl w ↦ solved_kept g home new old (λ e. absurd (omega arith)) a (h g low w m)
    | inr w ↦
        let same : home ≡ g = omega arith in
        subst (λ k. HasSolved t cs l k new) same (record { base = old; zero = z; solved = s (ap (mark_at l.hard.items) same ∙ m) })
  ]

  pub solved_before : (home n : ℕ) (new old : ℕ → ℕ) → 0 < home → AgreeOutside (places_of home l.node_homes.items) new old →
      ((g : ℕ) → 0 < g → g < home → mark_at l.hard.items g ≡ true → HasSolved t cs l g old) → (g : ℕ) → 0 < g → g < stop_at home n → mark_at l.hard.items g ≡ true → HasSolved t cs l g new
  solved_before home n new old p a h g low high m =
      let at : stop_at home n ≡ home = ap (λ b. cond b n home) (ne_eqb home 0 (λ e. absurd (omega arith))) in
      let w : g < home = omega arith in
      solved_kept g home new old (λ e. absurd (omega arith)) a (h g low w m)
