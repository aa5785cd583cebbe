-- The table of a job doesn't depend on its ticket.
use Rattle.std.proofs.Common.{◌≡◌, ℕ, zero, suc, List, [], ◌∷◌, refl, ap, ◌∙◌}
use mathlib.Core.Path.{fun_ext}
use Rattle.px_callgraph.specs.declared.states.Way.{Way}
use Rattle.px_callgraph.specs.JobTree.{JobTree}
use Rattle.px_callgraph.specs.declared.outcomes.StepOutcome.TheVariants.{Next, Ends, Cut, «Past» as IsPast}
use Rattle.px_callgraph.specs.Alternatives.{Walk, Leads, ways, act, start}
use Rattle.px_callgraph.specs.ActsLeft.{acts_left, acts_left_of}
use Rattle.px_symexec.specs.Prefixes.{Prefix, Dead, Choice, Ended, Dropped, Past, from_listed, prefixes_within, prefixes, prefixes_of}
use Rattle.px_symexec.specs.Tables.{Row, IsRow, AreRows, Stops}
use Rattle.px_symexec.specs.Laws.{with_ticket, TablesHaveNoTicket}

pub same_ways : (j : JobTree) (n : ℕ) (w : Walk) → ways (with_ticket n j) w ≡ ways j w
unfolding ways
same_ways j n w = refl

pub same_act : (j : JobTree) (n : ℕ) (w : Walk) (name : Way) → act (with_ticket n j) w name ≡ act j w name
unfolding act
same_act j n w name = refl

pub same_left : (j : JobTree) (n : ℕ) (a : Leads) → acts_left_of (with_ticket n j) a ≡ acts_left_of j a
unfolding acts_left
same_left j n (Next w) = refl
same_left j n (Ends s exit result) = refl
same_left j n (Cut s gap) = refl
same_left j n (IsPast s) = refl

same_within : (m : ℕ) (j : JobTree) (n : ℕ) (a : Leads) → prefixes_within m (with_ticket n j) a ≡ prefixes_within m j a
same_within m j n (Ends s exit result) = refl
same_within m j n (Cut s gap) = refl
same_within m j n (IsPast s) = refl
same_within zero j n (Next w) = refl
same_within (suc m) j n (Next w) =
    ap (λ ws. from_listed w.state ws (λ name. prefixes_within m (with_ticket n j) (act (with_ticket n j) w name))) (same_ways j n w)
    ∙ ap (λ (e : Way → List Prefix). from_listed w.state (ways j w) e)
    (fun_ext (λ name. ap (prefixes_within m (with_ticket n j)) (same_act j n w name) ∙ same_within m j n (act j w name)))

same_prefixes : (j : JobTree) (n : ℕ) → prefixes_of (with_ticket n j) ≡ prefixes_of j
unfolding prefixes
same_prefixes j n = ap (λ m. prefixes_within m (with_ticket n j) (Next (start j))) (same_left j n (Next (start j))) ∙ same_within (acts_left_of j (Next (start j))) j n (Next (start j))

pub no_ticket : TablesHaveNoTicket
no_ticket j n table t = record {
  before = t.before;
  rest = t.rest;
  split = same_prefixes j n ∙ t.split;
  live = t.live;
  met = t.met;
  walked = record {
    selects = t.walked.selects;
    few = t.walked.few;
    few_ended = t.walked.few_ended;
    rows = t.walked.rows;
    are_rows = rows_too t.live t.walked.rows t.walked.are_rows;
    entries_are = t.walked.entries_are;
    drops_are = t.walked.drops_are;
  };
  last = t.last;
  stops = stops_too t.rest t.stops;
  drops_are = t.drops_are;
}
  where
    row_too : (p : Prefix) (r : Row) → IsRow j p r → IsRow (with_ticket n j) p r
    row_too (Dead s) r h = h
    row_too (Choice s) r h = h
    row_too (Ended s exit result) r h = h
    row_too (Dropped s gap) r h = h
    row_too (Past s) r h = h

    rows_too : (ps : List Prefix) (rs : List Row) → AreRows j ps rs → AreRows (with_ticket n j) ps rs
    rows_too [] rs h = h
    rows_too (p ∷ ps) rs (r, rest, e, i, a) = (r, rest, e, row_too p r i, rows_too ps rest a)

    stops_too : (rest : List Prefix) → Stops j t.live rest t.last → Stops (with_ticket n j) t.live rest t.last
    stops_too [] h = h
    stops_too (p ∷ rest) h = h
