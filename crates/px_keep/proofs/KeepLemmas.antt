-- The items of a program, one procedure after another.
use Rattle.std.proofs.Common.{◌≡◌, ℕ, suc, ◌+◌, ◌<◌, ◌≤◌, List, [], ◌∷◌, ◌++◌, length, get_or, set, take, Bool, Option, Some, None, refl, sym, ap, ◌∙◌, subst, arith}
use Rattle.std.specs.Prelude.{slice_get, option_and_then}
use Rattle.std.proofs.lemmas.List.{append_assoc, append-nil, take_all}
use Rattle.std.proofs.lemmas.List.Concat.{flat_map-append}
use Rattle.std.proofs.Math.Seq.{take-suc}
use Rattle.px_terms.proofs.Recursion.{all_both}
use Rattle.px_entry.specs.declared.tables.Gap.{Gap}
use Rattle.px_entry.specs.declared.tables.Table.{Table}
use Rattle.px_callgraph.specs.JobTree.{JobTree}
use Rattle.px_check.specs.declared.checked.Checked.{Checked}
use Rattle.px_symexec.specs.One.{Work, IsJob, IsTableIn, IsOne}
use Rattle.px_pieces.specs.declared.findings.Part.{Part}
use Rattle.px_pieces.specs.declared.findings.Part.TheVariants.{Tabled, LeftOut}
use Rattle.px_pieces.specs.Found.{table_of}
use Rattle.px_pieces.specs.Pieces.{table_from}
use Rattle.px_jobs.specs.Plans.{tables_at}
use Rattle.px_findings.specs.declared.order.Turn.{Turn}
use Rattle.px_findings.proofs.Making.{Grow, job_grows}
use Rattle.px_keep.specs.Items.{KeptItem, AreItems, item_bytes, items_bytes, head, AreKept}
use Rattle.px_keep.specs.Writing.{items_for}
use Rattle.px_keep.specs.Making.{AreMade, IsOrder}
use Rattle.px_keep.proofs.MakingLemmas.{any_turn, grow, there, untabled, past, tabled}
use Rattle.px_keep.specs.Keeping.{AreItemsOf, AreItemsOfAll, AreRanked, AreItemsOfWork, KeepsWork, IsOwn, IsWritten, KeepSoFar}

-- ---- more tables

of_grows : (w : Work) (a b : ℕ → Option Table) (f : ℕ) (xs : List KeptItem) → Grow a b → AreItemsOf w a f xs → AreItemsOf w b f xs
of_grows w a b f xs grow h =
    let (j, job, same) = job_grows w a b f (λ j. j ≡ h.job) grow (h.job, h.is_job, refl) in
    record {
      job = h.job;
      is_job = subst (IsJob w b f) same job;
      ticket = h.ticket;
      analysis = h.analysis;
      is_analysis = h.is_analysis;
      asks = h.asks;
      gives = h.gives;
      table = grow f h.analysis.table h.table;
      items = h.items;
    }

all_grow : (w : Work) (a b : ℕ → Option Table) (ts : List Turn) (xs : List KeptItem) → Grow a b → AreItemsOfAll w a ts xs → AreItemsOfAll w b ts xs
all_grow w a b [] xs more h = h
all_grow w a b (t ∷ ts) xs more (own, rest, is, here, others) = (own, rest, is, of_grows w a b t.number own more here, all_grow w a b ts rest more others)

-- ---- more items

all_push : (w : Work) (tables : ℕ → Option Table) (ts : List Turn) (t : Turn) (xs own : List KeptItem) → AreItemsOfAll w tables ts xs → AreItemsOf w tables t.number own → AreItemsOfAll w tables (ts ++ t ∷ []) (xs ++ own)
all_push w tables [] t xs own none here = (own, [], ap (λ l. l ++ own) none ∙ sym (append-nil own), here, refl)
all_push w tables (s ∷ ts) t xs own (first, rest, is, there, others) here =
    (first, rest ++ own, ap (λ l. l ++ own) is ∙ append_assoc first rest own, there, all_push w tables ts t rest own others here)

more_kept : (bytes new : List ℕ) (xs own : List KeptItem) → AreKept bytes xs → AreItems own → new ≡ bytes ++ items_bytes own → AreKept new (xs ++ own)
more_kept bytes new xs own h items put = record {
  items = all_both _ xs own h.items items;
  bytes_are =
      put ∙ ap (λ l. l ++ items_bytes own) h.bytes_are ∙ append_assoc head (items_bytes xs) (items_bytes own)
      ∙ ap (λ l. head ++ l) (sym (flat_map-append item_bytes xs own));
}

pub nothing_kept : (w : Work) (order : List Turn) (parts : List Part) (bytes : List ℕ) → bytes ≡ head → KeepSoFar w order parts bytes 0
nothing_kept w order parts bytes is = record { items = []; of_turns = refl; kept = record { items = tt; bytes_are = is ∙ sym (append-nil head) } }

-- one procedure more
module _ (w : Work) (order : List Turn) (parts : List Part) (bytes new : List ℕ) (i : ℕ) (d : Turn) (below : i < length order) (h : KeepSoFar w order parts bytes i)
    (j : JobTree) (job : IsJob w (tables_at parts) (get_or order i d).number j) (ticket : j.ticket ≡ 0) (x : Part) (t : Table) (written : IsWritten j t bytes new)
    (more : List Part) (grow : Grow (tables_at parts) (tables_at more)) (there : slice_get more (get_or order i d).number ≡ Some x) (its : table_of x ≡ Some t) where
  abbrev own : List KeptItem
  own = items_for j written.analysis.table written.analysis.derivations

  of_it : AreItemsOf w (tables_at more) (get_or order i d).number own
  of_it =
      let (k, is_job, same) = job_grows w (tables_at parts) (tables_at more) (get_or order i d).number (λ k. k ≡ j) grow (j, job, refl) in
      record {
        job = j;
        is_job = subst (IsJob w (tables_at more) (get_or order i d).number) same is_job;
        ticket = ticket;
        analysis = written.analysis;
        is_analysis = written.is_analysis;
        asks = written.asks;
        gives = written.gives;
        table = ap (option_and_then table_of) there ∙ its ∙ ap Some (sym written.table_is);
        items = refl;
      }

  pub one_more : KeepSoFar w order more new (i + 1)
  one_more = record {
    items = h.items ++ own;
    of_turns = subst (λ ts. AreItemsOfAll w (tables_at more) ts (h.items ++ own)) (sym turns) (all_push w (tables_at more) (take i order) (get_or order i d) h.items own (all_grow w (tables_at parts) (tables_at more) (take i order) h.items grow h.of_turns) of_it);
    kept = more_kept bytes new h.items own h.kept written.items written.bytes;
  }
    where
      turns : take (i + 1) order ≡ take i order ++ get_or order i d ∷ []
      turns = ap (λ n. take n order) (let e : i + 1 ≡ suc i = omega arith in e) ∙ take-suc order i d below

-- the same of a procedure whose turn it is
pub keeps_at : (w : Work) (order : List Turn) (parts new_parts : List Part) (uses : List Bool) (bytes new : List ℕ) (i n : ℕ) (b : Bool) (checked : List Checked) (drops : List Gap) (j : JobTree) → IsOrder w order →
    i < length order → AreMade IsOwn w order parts uses i → KeepSoFar w order parts bytes i → ((d : Turn) → n ≡ (get_or order i d).number) → IsJob w (tables_at parts) n j → j.ticket ≡ 0 → IsOwn j b checked drops →
    IsWritten j (table_from checked drops) bytes new → new_parts ≡ set parts n (Tabled checked drops) → KeepSoFar w order new_parts new (i + 1)
keeps_at w order parts new_parts uses bytes new i n b checked drops j ordered below made h turn job ticket own written is =
    let m = (get_or order i any_turn).number in
    let x : Part = Tabled checked drops in
    let of_turn : IsJob w (tables_at parts) m j = subst (λ k. IsJob w (tables_at parts) k j) (turn any_turn) job in
    subst (λ z. KeepSoFar w order z new (i + 1)) (sym (is ∙ ap (λ k. set parts k x) (turn any_turn)))
    (one_more w order parts bytes new i any_turn below h j of_turn ticket x (table_from checked drops) written (set parts m x)
    (grow IsOwn w order parts uses i any_turn x b ordered below made (j, of_turn, own))
    (there IsOwn w order parts uses i any_turn x b ordered below made (j, of_turn, own)) refl)

-- after the last
module _ (w : Work) (order : List Turn) (parts : List Part) (uses : List Bool) (bytes : List ℕ) (i : ℕ) (ordered : IsOrder w order) (made : AreMade IsOwn w order parts uses i) (h : KeepSoFar w order parts bytes i)
    (last : length order ≤ i) (ranked : AreRanked w order) where
  one : IsOne w (tables_at parts)
  one n = by (slice_get parts n) refl
    where
      by : (o : Option Part) → slice_get parts n ≡ o → IsTableIn w (tables_at parts) n (option_and_then table_of o)
      by None e = past IsOwn w order parts uses i ordered made last n e
      by (Some LeftOut) e = untabled IsOwn w order parts uses i ordered made last n e
      by (Some (Tabled checked drops)) e = let (b, t, (j, job, (of, table))) = tabled IsOwn w order parts uses i ordered made last n checked drops e in (t, j, job, table)

  pub all_kept : AreItemsOfWork w h.items
  all_kept = record {
    tables = tables_at parts;
    one = one;
    order = order;
    ranked = ranked;
    items = subst (λ ts. AreItemsOfAll w (tables_at parts) ts h.items) (take_all i order last) h.of_turns;
  }

-- all that is kept so
pub keeps_all : (w : Work) (order : List Turn) (parts : List Part) (uses : List Bool) (bytes : List ℕ) (i : ℕ) → IsOrder w order → AreRanked w order → AreMade IsOwn w order parts uses i → KeepSoFar w order parts bytes i → length order ≤ i → KeepsWork w bytes
keeps_all w order parts uses bytes i ordered ranked made h last = (h.items, all_kept w order parts uses bytes i ordered made h last ranked, h.kept)
