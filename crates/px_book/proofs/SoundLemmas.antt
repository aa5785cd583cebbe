-- What a sound book knows of its procedures.
use Rattle.std.proofs.Common.{◌≡◌, ℕ, Bool, true, false, not, nat_eq, nat_lt, List, length, ap, Any}
use Rattle.std.specs.Prelude.{option_and_then}
use Rattle.std.specs.List.{list_any}
use Rattle.std.proofs.lemmas.Bool.{and_from, and_parts, lt-ltb, ltb-true, eqb-true, eq-eqb, false_from_ne_true, false≢true, not_from_false}
use Rattle.std.proofs.lemmas.List.Folds.{Any-from_list_any, list_any-from_Any}
use Rattle.px_base.specs.declared.trace.ProcId.{ProcId}
use Rattle.px_entry.specs.declared.tables.Table.{Table}
use Rattle.px_callgraph.specs.JobTree.{JobTree}
use Rattle.px_symexec.specs.One.{IsTabled}
use Rattle.px_pieces.specs.Found.{table_of}
use Rattle.px_pieces.specs.Desk.{is_of_desk, Awaits, IsHeldUnder, IsSettled}
use Rattle.px_pieces.specs.Pieces.{table_from}
use Rattle.px_jobs.specs.Plans.{IsReady}
use Rattle.px_book.specs.Books.{BookParts, work_in, its_desk, statuses_in}
use Rattle.px_book.specs.Soundness.{IsSound}
use Rattle.px_book.proofs.DeskLemmas.{claim_of_held, claim_awaited}

-- ---- who is of the desk

among_any : (g : ℕ) (fs : List ProcId) → list_any (λ (p : ProcId). nat_eq p.0 g) fs ≡ true → Any (λ (p : ProcId). p.0 ≡ g) fs
among_any g fs e = let (k, x, l, q, h) = Any-from_list_any (λ (p : ProcId). nat_eq p.0 g) fs e in (k, x, l, q, eqb-true x.0 g h)

any_among : (g : ℕ) (fs : List ProcId) → Any (λ (p : ProcId). p.0 ≡ g) fs → list_any (λ (p : ProcId). nat_eq p.0 g) fs ≡ true
any_among g fs (k, x, l, q, h) = list_any-from_Any (λ (p : ProcId). nat_eq p.0 g) fs (k, x, l, q, eq-eqb x.0 g h)

never_both : (b : Bool) → not b ≡ true → b ≡ true → ⊥
never_both true n e = false≢true n
never_both false n e = false≢true e

pub of_desk : (b : BookParts) (g : ℕ) → IsTabled (work_in b) g → is_of_desk (its_desk b) g ≡ true
of_desk b g (l, out) = and_from (nat_lt g (length b.graph)) (not (list_any (λ (p : ProcId). nat_eq p.0 g) b.sources.out))
    (lt-ltb g (length b.graph) l) (not_from_false (list_any (λ (p : ProcId). nat_eq p.0 g) b.sources.out) (false_from_ne_true _ (λ e. out (among_any g b.sources.out e))))

pub tabled : (b : BookParts) (g : ℕ) → is_of_desk (its_desk b) g ≡ true → IsTabled (work_in b) g
tabled b g e =
    let (kept, free) = and_parts (nat_lt g (length b.graph)) (not (list_any (λ (p : ProcId). nat_eq p.0 g) b.sources.out)) e in
    (ltb-true g (length b.graph) kept, λ a. never_both (list_any (λ (p : ProcId). nat_eq p.0 g) b.sources.out) free (any_among g b.sources.out a))

-- ---- whose callees have their tables

module _ (says : JobTree → Table → Type 0) (b : BookParts) (s : IsSound says b) where
  pub ready : (f : ℕ) → ((g : ℕ) → Awaits (its_desk b) f g → IsSettled (statuses_in b) g) → IsReady (work_in b) b.parts f
  ready f all g c t n =
      let q = all g (record { callee = c; of_desk = of_desk b g t; apart = n }) in
      let a = s.settled g q.ticket q.who q.settled in
      (table_from a.checked a.drops, ap (option_and_then table_of) a.part)

  pub held_ready : (f under : ℕ) → IsHeldUnder (statuses_in b) under f → IsReady (work_in b) b.parts f
  held_ready f under q = ready f (claim_awaited (its_desk b) b.history s.legal f under q.who (claim_of_held (its_desk b) b.history f under q))
