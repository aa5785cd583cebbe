-- Of a component with one member the words that come first are tried first.
use Rattle.std.proofs.Common.{◌≡◌, inl, inr, ℕ, ◌<◌, List, [], ◌∷◌, ◌++◌, length, length-append, append_assoc, append-nil, take, fold, sym, ap, subst, ◌∙◌, arith}
use Rattle.std.specs.Prelude.{Bool, true, false, cond, nat_eq, Option, flat_map}
use Rattle.std.specs.List.{list_any}
use Rattle.std.proofs.lemmas.List.{get_or_append_left}
use Rattle.std.proofs.lemmas.List.Sums.{fold-append}
use Rattle.px_terms.specs.declared.conjuncts.Conj.{Conj}
use Rattle.px_plain.specs.declared.nodes.Node.{Node}
use Rattle.px_solver.specs.Assignments.{Before}
use Rattle.px_solver.specs.Candidates.{put_new, distinct, end_words, around, constants_of, quotients_of, candidates}
use Rattle.px_solver.specs.Tables.{fixed_under, picked, AgreeOutside, GivesRoots, Works, FirstWork, IsSolved}

-- ---- they are the first of all

-- what is put after others leaves them first
put_behind : (seen xs : List ℕ) → (more : List ℕ) × (fold put_new seen xs ≡ seen ++ more)
put_behind seen [] = ([], sym (append-nil seen))
put_behind seen (x ∷ xs) = by_case (list_any (nat_eq x) seen) (put_behind seen xs) (put_behind (seen ++ x ∷ []) xs)
  where
    by_case : (b : Bool) → (more : List ℕ) × (fold put_new seen xs ≡ seen ++ more) → (more : List ℕ) × (fold put_new (seen ++ x ∷ []) xs ≡ (seen ++ x ∷ []) ++ more) →
        (more : List ℕ) × (fold put_new (cond b seen (seen ++ x ∷ [])) xs ≡ seen ++ more)
    by_case true old new = old
    by_case false old (more, e) = (x ∷ more, e ∙ append_assoc seen (x ∷ []) more)

pub ends_first : (fixed : ℕ → Option ℕ) (cs : List Conj) → (more : List ℕ) × (candidates fixed cs ≡ end_words ++ more)
ends_first fixed cs = from_rest (flat_map around (flat_map constants_of cs)) (flat_map (quotients_of fixed) cs)
  where
    from_rest : (ns qs : List ℕ) → (more : List ℕ) × (take 24 (distinct ((end_words ++ ns) ++ qs)) ≡ end_words ++ more)
    from_rest ns qs =
        let (more, e) = put_behind end_words (ns ++ qs) in
        (take 19 more, ap (take 24) (ap distinct (append_assoc end_words ns qs) ∙ fold-append put_new [] end_words (ns ++ qs) ∙ e))

-- ---- one member

-- numbers elsewhere that agree
pub works_over : (t : List Node) (cs : List Conj) (is values : List ℕ) (new old : ℕ → ℕ) (rs ks : List ℕ) → AgreeOutside rs new old → Works t cs is values new rs ks → Works t cs is values old rs ks
works_over t cs is values new old rs ks a w = record { numbers = w.numbers; outside = λ v o. w.outside v o ∙ a v o; given = w.given; are_true = w.are_true }

pub first_over : (t : List Node) (cs : List Conj) (is values : List ℕ) (new old numbers : ℕ → ℕ) (rs : List ℕ) → AgreeOutside rs new old → FirstWork t cs is values new rs numbers → FirstWork t cs is values old rs numbers
first_over t cs is values new old numbers rs a f = record {
  places = f.places;
  given = f.given;
  works = works_over t cs is values new old rs f.places a f.works;
  first = λ earlier b w. f.first earlier b (works_over t cs is values old new rs earlier (λ v o. sym (a v o)) w);
}

-- words that come before others are tried before them
module _ (t : List Node) (cs : List Conj) (is values more : List ℕ) (base : ℕ → ℕ) (r : ℕ) where
  works_longer : (k : ℕ) → Works t cs is values base (r ∷ []) (k ∷ []) → Works t cs is (values ++ more) base (r ∷ []) (k ∷ [])
  works_longer k w =
      let (l, e) = w.given.0 in
      let n = length-append values more in
      record { numbers = w.numbers; outside = w.outside; given = ((omega arith, e ∙ sym (get_or_append_left values more 0 k l)), tt); are_true = w.are_true }

  works_shorter : (k : ℕ) (ks : List ℕ) → k < length values → Works t cs is (values ++ more) base (r ∷ []) (k ∷ ks) → Works t cs is values base (r ∷ []) (k ∷ ks)
  works_shorter k [] l w = record { numbers = w.numbers; outside = w.outside; given = ((l, w.given.0.1 ∙ get_or_append_left values more 0 k l), tt); are_true = w.are_true }
  works_shorter k (j ∷ ks) l w = absurd w.given.1

  pub first_longer : (numbers : ℕ → ℕ) → FirstWork t cs is values base (r ∷ []) numbers → FirstWork t cs is (values ++ more) base (r ∷ []) numbers
  first_longer numbers f = at_places f.places f.given f.works f.first
    where
      at_places : (ks : List ℕ) → GivesRoots numbers values (r ∷ []) ks → Works t cs is values base (r ∷ []) ks → ((earlier : List ℕ) → Before earlier ks → ¬ Works t cs is values base (r ∷ []) earlier) →
          FirstWork t cs is (values ++ more) base (r ∷ []) numbers
      at_places [] g w first = absurd g
      at_places (k ∷ j ∷ ks) g w first = absurd g.1
      at_places (k ∷ []) g w first = record {
        places = k ∷ [];
        given = (let n = length-append values more in (omega arith, g.0.1 ∙ sym (get_or_append_left values more 0 k g.0.0)), tt);
        works = works_longer k w;
        first = none_before;
      }
        where
          none_before : (earlier : List ℕ) → Before earlier (k ∷ []) → ¬ Works t cs is (values ++ more) base (r ∷ []) earlier
          none_before [] b v = b
          none_before (j ∷ js) (inl l) v = first (j ∷ js) (inl l) (works_shorter j js (let m = g.0.0 in omega arith) v)
          none_before (j ∷ []) (inr (e, b)) v = b
          none_before (j ∷ i ∷ js) (inr (e, b)) v = b

pub solved_by_ends : (t : List Node) (cs : List Conj) (is values : List ℕ) (base : ℕ → ℕ) (members : List ℕ) (numbers : ℕ → ℕ) → values ≡ end_words → length members ≡ 1 →
    FirstWork t cs is values base members numbers → IsSolved t cs is base members numbers
solved_by_ends t cs is values base [] numbers v l f = absurd (omega arith)
solved_by_ends t cs is values base (r ∷ s ∷ rs) numbers v l f = absurd (omega arith)
solved_by_ends t cs is values base (r ∷ []) numbers v l f =
    let (more, e) = ends_first (fixed_under t) (picked cs is) in
    record {
      few = omega arith;
      first = subst (λ z. FirstWork t cs is z base (r ∷ []) numbers) (sym e) (first_longer t cs is end_words more base r numbers (subst (λ z. FirstWork t cs is z base (r ∷ []) numbers) v f));
    }
