-- What a book of a program has found, where all of its desk are settled.
use Rattle.std.proofs.Common.{◌≡◌, ◌↔◌, ℕ, zero, suc, ◌+◌, ◌<◌, Bool, true, false, true≢false, cond, List, length, map, get_or, Option, Some, None, refl, sym, ap, ap₂, ◌∙◌, subst, inl, inr, Any}
use Rattle.std.specs.Prelude.{slice_get, option_and_then, IsSome, is_some}
use Rattle.std.proofs.lemmas.Bool.{cases_lt}
use Rattle.std.proofs.lemmas.Option.{slice_get_past, same_Some}
use Rattle.px_base.specs.LimitNumbers.{LimitNumbers}
use Rattle.px_base.specs.declared.trace.ProcId.{ProcId}
use Rattle.px_core.specs.BodyTree.{BodyTree}
use Rattle.px_entry.specs.declared.tables.Gap.{Gap}
use Rattle.px_entry.specs.declared.tables.Table.{Table}
use Rattle.px_syntax.specs.ProgramTree.{ProgramTree}
use Rattle.px_callgraph.specs.declared.jobs.Callee.{Callee}
use Rattle.px_callgraph.specs.declared.jobs.Callee.TheVariants as callee
use Rattle.px_callgraph.specs.JobTree.{JobTree}
use Rattle.px_callgraph.specs.Callees.{IsCallee, Reaches, by_call, by_calls, AreTogether}
use Rattle.px_symexec.specs.One.{Work, IsTabled, IsKnown, IsJob}
use Rattle.px_check.specs.declared.checked.Checked.{Checked}
use Rattle.px_pieces.specs.declared.desk.Status.{Status}
use Rattle.px_pieces.specs.declared.desk.Status.TheVariants.{Settled}
use Rattle.px_pieces.specs.declared.findings.Part.{Part}
use Rattle.px_pieces.specs.declared.findings.Part.TheVariants.{Tabled, LeftOut}
use Rattle.px_pieces.specs.Desk.{is_of_desk}
use Rattle.px_pieces.specs.Histories.{is_settled, settled_below}
use Rattle.px_pieces.specs.Found.{Found, table_of, tables_in}
use Rattle.px_pieces.specs.Pieces.{AreOf, IsToldBy, table_from}
use Rattle.px_jobs.specs.Plans.{tables_at}
use Rattle.px_findings.specs.Found.{work_of, AreFoundBy}
use Rattle.px_findings.specs.Bodies.{AreLowered}
use Rattle.px_findings.proofs.LeftLemmas.{missing}
use Rattle.px_findings.proofs.WordLemmas.{no_table}
use Rattle.px_findings.proofs.PlanLemmas.{calls_in_work, calls_in_bodies}
use Rattle.px_findings.proofs.SmallLemmas.{tabled_small, small_body}
use Rattle.px_book.specs.Rolls.{AllSettled}
use Rattle.px_book.specs.Books.{BookParts, work_in, roll_in, its_desk, statuses_in}
use Rattle.px_book.specs.Soundness.{IsSound, IsAnswered}
use Rattle.px_book.proofs.Histories.{on_desk}
use Rattle.px_book.proofs.SoundLemmas.{of_desk, tabled}
use Rattle.px_pooled.specs.Words.{tabled_below}
use Rattle.px_pooled.specs.Making.{IsOwn}

-- ---- works of which bodies call the same

module _ (a b : ℕ → Option BodyTree) (same : (f g : ℕ) → IsCallee a f g → IsCallee b f g) where
  pub reaches : {f g : ℕ} → Reaches a f g → Reaches b f g
  reaches (by_call k) = by_call (same _ _ k)
  reaches (by_calls k r) = by_calls (same _ _ k) (reaches r)

-- ---- the program's own book

module _ (P : ProgramTree) (limits : LimitNumbers) (kinds : List ℕ) (b : BookParts) (own : IsOwn P limits kinds b) where
  abbrev w : Work
  w = work_of P limits kinds

  abbrev large : List Bool
  large = map missing P.procedures

  lowered : AreLowered P.procedures b.sources.bodies large
  lowered = record { bodies_are = own.sources.bodies; large_are = refl }

  pub to_work : (f g : ℕ) → IsCallee (work_in b).bodies f g → IsCallee w.bodies f g
  to_work = calls_in_work P.procedures b.sources.bodies large lowered

  pub from_work : (f g : ℕ) → IsCallee w.bodies f g → IsCallee (work_in b).bodies f g
  from_work = calls_in_bodies P.procedures b.sources.bodies large lowered

  pub apart : (f g : ℕ) → ¬ AreTogether (work_in b).bodies f g → ¬ AreTogether w.bodies f g
  apart f g n t = n (reaches w.bodies (work_in b).bodies from_work t.0, reaches w.bodies (work_in b).bodies from_work t.1)

  pub together : (f g : ℕ) → AreTogether (work_in b).bodies f g → AreTogether w.bodies f g
  together f g t = (reaches (work_in b).bodies w.bodies to_work t.0, reaches (work_in b).bodies w.bodies to_work t.1)

  pub is_tabled : (n : ℕ) → IsTabled (work_in b) n ↔ IsTabled w n
  is_tabled n = (
    λ t. (subst (λ m. n < m) own.many t.0, λ out. t.1 (subst (λ (z : List ProcId). Any (λ (p : ProcId). p.0 ≡ n) z) (sym own.sources.out) out)),
    λ t. (subst (λ m. n < m) (sym own.many) t.0, λ out. t.1 (subst (λ (z : List ProcId). Any (λ (p : ProcId). p.0 ≡ n) z) own.sources.out out)),
  )

  is_known : (tables : ℕ → Option Table) (f g : ℕ) (c : Callee) → IsKnown (work_in b) tables f g c → IsKnown w tables f g c
  is_known tables f g (callee.Table t) h = ((is_tabled g).0 h.0, apart f g h.1, h.2)
  is_known tables f g callee.Cycle h = ((is_tabled g).0 h.0, together f g h.1)
  is_known tables f g callee.LeftOut h = subst (λ (z : List ProcId). Any (λ (p : ProcId). p.0 ≡ g) z) own.sources.out h
  is_known tables f g callee.Unknown h = (
    λ l. h.0 (subst (λ m. g < m) (sym own.many) l),
    λ out. h.1 (subst (λ (z : List ProcId). Any (λ (p : ProcId). p.0 ≡ g) z) (sym own.sources.out) out),
  )

  pub is_job : (tables : ℕ → Option Table) (n : ℕ) (j : JobTree) → IsTabled w n → IsJob (work_in b) tables n j → IsJob w tables n j
  is_job tables n j tabled h = record {
    proc = h.proc;
    body = small_body P limits kinds b.sources.bodies large lowered n (tabled_small P limits kinds b.sources.bodies large lowered n tabled) ∙ h.body;
    types = h.types ∙ own.sources.types;
    limits = h.limits ∙ own.sources.limits_are;
    kinds = h.kinds ∙ own.sources.kinds_are;
    rising = h.rising;
    all = λ g k. h.all g (from_work n g k);
    each = λ k d l. let e = h.each k d l in (to_work n (get_or j.callees k d).0.0 e.0, is_known tables n (get_or j.callees k d).0.0 (get_or j.callees k d).1 e.1);
  }

  -- ---- where all are settled

  module _ (says : JobTree → Table → Type 0) (s : IsSound says b) (all : AllSettled (roll_in b)) where
    -- what isn't of the desk has no table
    none_of : (f : ℕ) → is_of_desk (its_desk b) f ≡ false → tables_at b.parts f ≡ None
    none_of f e = elim (cases_lt f (length b.parts)) [
      | inl l ↦ ap (option_and_then table_of) (s.others f l (λ q. true≢false (sym (on_desk (its_desk b) b.history f (Settled q.ticket q.who) q.settled) ∙ e)))
      | inr l ↦ ap (option_and_then table_of) (slice_get_past b.parts f l)
    ]

    answered : (f : ℕ) (e : is_of_desk (its_desk b) f ≡ true) → IsAnswered says b f (all f e).ticket
    answered f e = let q = all f e in s.settled f q.ticket q.who q.settled

    table_is : (f : ℕ) (e : is_of_desk (its_desk b) f ≡ true) → tables_at b.parts f ≡ Some (table_from (answered f e).checked (answered f e).drops)
    table_is f e = ap (option_and_then table_of) (answered f e).part

    has_table : (n : ℕ) → IsSome (tables_at b.parts n) ↔ IsTabled w n
    has_table n = (
      λ some. by (is_of_desk (its_desk b) n) refl some,
      λ t. let e = of_desk b n ((is_tabled n).1 t) in subst (λ (o : Option Table). IsSome o) (sym (table_is n e)) refl,
    )
      where
        by : (o : Bool) → is_of_desk (its_desk b) n ≡ o → IsSome (tables_at b.parts n) → IsTabled w n
        by true e some = (is_tabled n).0 (tabled b n e)
        by false e some = absurd (no_table (tables_at b.parts n) (none_of n e) some)

    -- each part with a table is the answer to its procedure's job
    record HasAnswer (n : ℕ) (checked : List Checked) (drops : List Gap) : Type 0 where
      pub job : JobTree
      pub is_job : IsJob w (tables_at b.parts) n job
      pub derived : AreOf job checked
      pub told : IsToldBy says job (table_from checked drops)

    has_answer : (n : ℕ) (checked : List Checked) (drops : List Gap) → slice_get b.parts n ≡ Some (Tabled checked drops) → HasAnswer n checked drops
    has_answer n checked drops part = by (is_of_desk (its_desk b) n) refl
      where
        by : (o : Bool) → is_of_desk (its_desk b) n ≡ o → HasAnswer n checked drops
        by true e =
            let a = answered n e in
            let same : Tabled a.checked a.drops ≡ Tabled checked drops = same_Some _ _ (sym a.part ∙ part) in
            of_part a.checked a.drops same
            (record { job = a.answered; is_job = is_job (tables_at b.parts) n a.answered ((is_tabled n).0 (tabled b n e)) a.job; derived = a.derived; told = a.told })
          where
            of_part : (cs : List Checked) (ds : List Gap) → Tabled cs ds ≡ Tabled checked drops → HasAnswer n cs ds → HasAnswer n checked drops
            of_part cs ds e h =
                let c : cs ≡ checked = cc in
                let d : ds ≡ drops = cc in
                subst (λ z. HasAnswer n z drops) c (subst (λ z. HasAnswer n cs z) d h)
        by false e =
            let some : Some (table_from checked drops) ≡ None = sym (ap (option_and_then table_of) part) ∙ none_of n e in
            let z : ⊥ = cc in absurd z

    abbrev found : Found
    found = record { parts = b.parts; events = b.history }

    pub found_by : AreFoundBy says P limits kinds found
    found_by = record {
      certified = record {
        all = s.size ∙ own.many;
        tabled = has_table;
        checked = λ n checked drops part. let h = has_answer n checked drops part in (h.job, h.is_job, h.derived);
      };
      told = λ n t e. by_part n t (slice_get b.parts n) refl e;
    }
      where
        by_part : (n : ℕ) (t : Table) (o : Option Part) → slice_get b.parts n ≡ o → option_and_then table_of o ≡ Some t → (j : JobTree) × IsJob w (tables_in found) n j × IsToldBy says j t
        by_part n t None at e = let z : ⊥ = cc in absurd z
        by_part n t (Some LeftOut) at e = let z : ⊥ = cc in absurd z
        by_part n t (Some (Tabled checked drops)) at e =
            let h = has_answer n checked drops at in
            (h.job, h.is_job, subst (IsToldBy says h.job) (same_Some (table_from checked drops) t e) h.told)

    -- ---- how many there are

    settled_has : (n : ℕ) → is_settled (statuses_in b n) ≡ is_some (tables_at b.parts n)
    settled_has n = by (is_of_desk (its_desk b) n) refl
      where
        nowhere : (o : Option Status) → statuses_in b n ≡ o → is_of_desk (its_desk b) n ≡ false → is_settled o ≡ false
        nowhere None at e = refl
        nowhere (Some x) at e = absurd (true≢false (sym (on_desk (its_desk b) b.history n x at) ∙ e))

        by : (o : Bool) → is_of_desk (its_desk b) n ≡ o → is_settled (statuses_in b n) ≡ is_some (tables_at b.parts n)
        by true e = ap is_settled (all n e).settled ∙ sym (ap is_some (table_is n e))
        by false e = nowhere (statuses_in b n) refl e ∙ sym (ap is_some (none_of n e))

    pub settled_count : (k : ℕ) → settled_below k (statuses_in b) ≡ tabled_below k (tables_in found)
    settled_count zero = refl
    settled_count (suc k) = ap₂ (λ m o. m + cond o 1 0) (settled_count k) (settled_has k)
