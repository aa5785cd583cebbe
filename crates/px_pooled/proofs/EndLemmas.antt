-- What a book has found at its end, and what a spawner has given by then.
use Rattle.std.proofs.Common.{◌≡◌, ◌↔◌, ◌∙◌, ℕ, ◌≤◌, Bool, true, false, cond, List, length, Option, Some, None, Result, Ok, Err, IfSome, sym, ap, subst, refl, inl, inr, arith}
use Rattle.std.specs.Prelude.{◌<◌, IsOk, IfOk}
use Rattle.std.specs.Result.{result_ok}
use Rattle.px_base.specs.LimitNumbers.{LimitNumbers}
use Rattle.px_entry.specs.declared.tables.Table.{Table}
use Rattle.px_syntax.specs.ProgramTree.{ProgramTree}
use Rattle.px_callgraph.specs.JobTree.{JobTree}
use Rattle.px_symexec.specs.Tables.{IsTable}
use Rattle.px_pieces.specs.declared.desk.Who.{Who}
use Rattle.px_pieces.specs.declared.desk.Status.TheVariants.{Waiting, Held}
use Rattle.px_pieces.specs.Desk.{is_of_desk}
use Rattle.px_pieces.specs.Pieces.{IsToldBy}
use Rattle.px_pieces.specs.Found.{Found, tables_in}
use Rattle.px_pieces.specs.Histories.{DeskHistories}
use Rattle.px_findings.specs.Found.{AreFoundBy, AreFound}
use Rattle.px_findings.proofs.WordLemmas.{by_honest, by_any}
use Rattle.px_pool.specs.Starts.{Numbers}
use Rattle.px_drivers.specs.Crews.{Rises}
use Rattle.px_jobs.specs.Sources.{SourceParts, AreEqualSources}
use Rattle.px_book.specs.Rolls.{AllSettled}
use Rattle.px_book.specs.Books.{BookParts, roll_in, its_desk, new_book}
use Rattle.px_book.specs.Soundness.{IsSound}
use Rattle.px_book.specs.Tallies.{DeskTallies}
use Rattle.px_pooled.specs.Words.{of_workers, tabled_below, word_of, IsCounted, Gave, IsBorneOut}
use Rattle.px_pooled.specs.declared.parts.Parts.{Parts}
use Rattle.px_pooled.specs.Making.{ArePartsOf, AreOfParent, IsOwn, IsIdle, sources_in}
use Rattle.px_pooled.proofs.FoundInBooks.{found_by, settled_count}
use Rattle.px_pooled.proofs.OwnLemmas.{equal_own, new_own, still_own}
use Rattle.px_pooled.proofs.TallyLemmas.{none_of_workers, none_lost}

-- what is found where the book is done, and nothing else
pub where_done : {A B : Type 0} (D : Type 0) (Q : A → Type 0) (f : A) (r : Result A B) → (IsOk r ↔ D) → IfOk r (λ x. x ≡ f) → (D → Q f) → IfSome (result_ok r) Q
where_done D Q f (Ok x) done is then = subst Q (sym is) (then (done.0 refl))
where_done D Q f (Err b) done is then = tt

abbrev in_book : BookParts → Found
in_book b = record { parts = b.parts; events = b.history }

module _ (P : ProgramTree) (limits : LimitNumbers) (kinds : List ℕ) (says : JobTree → Table → Type 0) (b : BookParts) (own : IsOwn P limits kinds b) (s : IsSound says b) (all : AllSettled (roll_in b)) where
  pub counted_end : DeskHistories → DeskTallies → IsCounted (in_book b)
  counted_end histories tallies =
      (tallies (its_desk b) b.history s.legal).publications_are
      ∙ sym ((histories (its_desk b) b.history s.legal).as_many)
      ∙ settled_count P limits kinds b own says s all (length b.graph)
      ∙ ap (λ k. tabled_below k (tables_in (in_book b))) (sym s.size)

  pub found_end : AreFoundBy says P limits kinds (in_book b)
  found_end = found_by P limits kinds b own says s all

  -- by an honest word
  pub own_end : ((j : JobTree) (t : Table) → says j t → IsTable j t) → AreFound P limits kinds (in_book b)
  own_end honest = by_honest says P limits kinds (in_book b) honest found_end

-- ---- a book that workers had a part in

-- of parts that are equal to the program's own
module _ (p : Parts) (kinds : List ℕ) (says : JobTree → Table → Type 0) (a b : BookParts) (o : Option Found) (r : Result Found BookParts) (is : o ≡ result_ok r) (done : IsOk r ↔ AllSettled (roll_in b)) (found : IfOk r (λ x. x ≡ in_book b)) (s : IsSound says b) (sources : b.sources ≡ a.sources) (graph : b.graph ≡ a.graph) (kept : p.desk.kept ≡ length a.graph) (same : AreEqualSources a.sources (sources_in p)) where
  shared_own : (P : ProgramTree) → ArePartsOf P p.limits kinds p → IsOwn P p.limits kinds b
  shared_own P are = still_own P p.limits kinds a b sources graph (equal_own P p.limits kinds p are a kept same)

  pub shared_found : IfSome o (λ f. (P : ProgramTree) → ArePartsOf P p.limits kinds p → AreFoundBy says P p.limits kinds f)
  shared_found = subst (λ z. IfSome z (λ f. (P : ProgramTree) → ArePartsOf P p.limits kinds p → AreFoundBy says P p.limits kinds f)) (sym is)
      (where_done (AllSettled (roll_in b)) (λ f. (P : ProgramTree) → ArePartsOf P p.limits kinds p → AreFoundBy says P p.limits kinds f) (in_book b) r done found
      (λ all P are. found_end P p.limits kinds says b (shared_own P are) s all))

  pub shared_counted : DeskHistories → DeskTallies → (P : ProgramTree) → ArePartsOf P p.limits kinds p → IfSome o IsCounted
  shared_counted histories tallies P are = subst (λ z. IfSome z IsCounted) (sym is)
      (where_done (AllSettled (roll_in b)) IsCounted (in_book b) r done found
      (λ all. counted_end P p.limits kinds says b (shared_own P are) s all histories tallies))

-- ---- a book of the parent alone

never_held : (o : Bool) (t l : ℕ) (w : Who) → cond o (Some (Waiting 0)) None ≡ Some (Held t w l) → ⊥
never_held true t l w e = cc
never_held false t l w e = cc

pub new_idle : (s : SourceParts) (graph : List (List ℕ)) → IsIdle (new_book s graph)
new_idle s graph ticket f h = never_held (is_of_desk (its_desk (new_book s graph)) f) ticket h.losses h.who h.held

module _ (p : Parts) (kinds : List ℕ) (a b : BookParts) (f : Found) (is : a ≡ new_book (sources_in p) p.desk.graph) (sources : b.sources ≡ a.sources) (graph : b.graph ≡ a.graph) (s : IsSound IsTable b) (all : AllSettled (roll_in b)) (found : f ≡ in_book b) where
  alone_own : (P : ProgramTree) → ArePartsOf P p.limits kinds p → IsOwn P p.limits kinds b
  alone_own P are = still_own P p.limits kinds a b sources graph (subst (IsOwn P p.limits kinds) (sym is) (new_own P p.limits kinds p are))

  pub alone_found : (P : ProgramTree) → ArePartsOf P p.limits kinds p → AreFound P p.limits kinds f
  alone_found P are = subst (AreFound P p.limits kinds) (sym found) (own_end P p.limits kinds IsTable b (alone_own P are) s all (λ j t h. h))

  pub alone_counted : DeskHistories → DeskTallies → (P : ProgramTree) → ArePartsOf P p.limits kinds p → IsCounted f
  alone_counted histories tallies P are = subst IsCounted (sym found) (counted_end P p.limits kinds IsTable b (alone_own P are) s all histories tallies)

-- ---- parts, by their own limits

pub by_own_limits : (P : ProgramTree) (limits : LimitNumbers) (kinds : List ℕ) (own p : Parts) → ArePartsOf P limits kinds own → ArePartsOf P limits kinds p → ArePartsOf P own.limits kinds p
by_own_limits P limits kinds own p are its = subst (λ l. ArePartsOf P l kinds p) (sym are.sources.limits_are) its

-- what is found by a word is found by one that says more
pub by_more : (says more : JobTree → Table → Type 0) (P : ProgramTree) (limits : LimitNumbers) (kinds : List ℕ) (f : Found) → ((j : JobTree) (t : Table) → says j t → more j t) → AreFoundBy says P limits kinds f → AreFoundBy more P limits kinds f
by_more says more P limits kinds f weaker found = record {
  certified = found.certified;
  told = λ n t e. let (j, job, told) = found.told n t e in (j, job, wider j t told);
}
  where
    wider : (j : JobTree) (t : Table) → IsToldBy says j t → IsToldBy more j t
    wider j t (inl own) = inl own
    wider j t (inr said) = inr (weaker j t said)

-- those that helpers found, by their word
pub by_helpers : {X : Type 0} (r : Result (Option Found) X) (workers : ℕ) (says : JobTree → Table → Type 0) (P : ProgramTree) (limits : LimitNumbers) (kinds : List ℕ) (own : Parts) → 0 < workers → ArePartsOf P limits kinds own → IfOk r (λ o. IfSome o (λ f. (Q : ProgramTree) → ArePartsOf Q own.limits kinds own → AreFoundBy says Q own.limits kinds f)) → IfOk r (λ o. IfSome o (λ f. AreFoundBy (word_of workers says) P limits kinds f))
by_helpers (Err x) workers says P limits kinds own some are found = tt
by_helpers (Ok None) workers says P limits kinds own some are found = tt
by_helpers (Ok (Some f)) workers says P limits kinds own some are found =
    by_more says (word_of workers says) P limits kinds f (λ j t said. (some, said))
    (subst (λ l. AreFoundBy says P l kinds f) are.sources.limits_are (found P (by_own_limits P limits kinds own own are are)))

-- those that the parent found alone, by any word
pub by_parent_alone : {X : Type 0} (r : Result Found X) (says : JobTree → Table → Type 0) (P : ProgramTree) (limits : LimitNumbers) (before kinds : List ℕ) (own : Parts) → kinds ≡ before → ArePartsOf P limits before own → IfOk r (λ f. (Q : ProgramTree) → ArePartsOf Q own.limits kinds own → AreFound Q own.limits kinds f) → IfOk r (λ f. AreFoundBy says P limits before f)
by_parent_alone (Err x) says P limits before kinds own same are found = tt
by_parent_alone (Ok f) says P limits before kinds own same are found =
    let one = subst (λ (ks : List ℕ). (Q : ProgramTree) → ArePartsOf Q own.limits ks own → AreFound Q own.limits ks f) same found in
    by_any says P limits before f (subst (λ l. AreFound P l before f) are.sources.limits_are (one P (by_own_limits P limits before own own are are)))

-- what the parent alone has published and lost
pub borne_alone : {X : Type 0} (r : Result Found X) (workers : ℕ) (before after : Option Numbers) → IfOk r IsCounted → IfOk r (λ f. AreOfParent f.events) → Gave before after 0 → IfOk r (λ f. IsBorneOut workers before after f)
borne_alone (Err x) workers before after counted alone gave = tt
borne_alone (Ok f) workers before after counted alone gave = record {
  all = counted;
  alone = λ none. (none_of_workers f.events alone, none_lost f.events alone);
  given = subst (Gave before after) (sym (none_of_workers f.events alone)) gave;
}

-- ---- the spawner

pub gave_more : (before after : Option Numbers) (all least most n : ℕ) → Rises before after all least most → n ≤ all → Gave before after n
gave_more None None all least most n rises few = tt
gave_more None (Some b) all least most n rises few = rises
gave_more (Some a) None all least most n rises few = rises
gave_more (Some a) (Some b) all least most n rises few = let r = rises.0 in omega (arith, r, few)

-- workers published what their receipts count
pub gave_receipts : {X : Type 0} (r : Result (Option Found) X) (before after : Option Numbers) (receipts all least most : ℕ) → IfOk r (λ o. IfSome o (λ f. of_workers f.events ≡ receipts)) → Rises before after all least most → receipts ≤ all → IfOk r (λ o. IfSome o (λ f. Gave before after (of_workers f.events)))
gave_receipts (Err x) before after receipts all least most counted rises few = tt
gave_receipts (Ok None) before after receipts all least most counted rises few = tt
gave_receipts (Ok (Some f)) before after receipts all least most counted rises few = subst (Gave before after) (sym counted) (gave_more before after all least most receipts rises few)

pub gave_same : (o : Option Numbers) → Gave o o 0
gave_same None = tt
gave_same (Some a) = omega arith
