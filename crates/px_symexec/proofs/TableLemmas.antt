-- How a table grows with the prefixes that are seen.
use Rattle.std.proofs.Common.{◌≡◌, ◌+◌, ◌<◌, ◌≤◌, List, [], ◌∷◌, ◌++◌, length, refl, sym, ◌∙◌, ap, arith, append-nil, length-append}
use Rattle.std.specs.Prelude.{flat_map}
use Rattle.std.proofs.lemmas.Grind.{flat_map-append}
use Rattle.std.proofs.lemmas.List.Sums.{sum_by-append}
use Rattle.px_entry.specs.declared.entries.Entry.{Entry}
use Rattle.px_entry.specs.declared.tables.Gap.{Gap}
use Rattle.px_entry.proofs.Lists.{Each}
use Rattle.px_callgraph.specs.JobTree.{JobTree}
use Rattle.px_symexec.specs.Prefixes.{Prefix}
use Rattle.px_symexec.specs.Tables.{IsLive, ended_case, ended_cases, Row, IsRow, AreRows, entries_in, drops_in, Walked}
use Rattle.px_symexec.proofs.Lists.{selects_more, selects_after}
use Rattle.px_symexec.proofs.LiveLemmas.{IsNotLive}

rows_more : (j : JobTree) (ps : List Prefix) (rs : List Row) (p : Prefix) (r : Row) → AreRows j ps rs → IsRow j p r → AreRows j (ps ++ p ∷ []) (rs ++ r ∷ [])
rows_more j [] rs p r a h = (r, [], ap (λ z. z ++ r ∷ []) a, h, refl)
rows_more j (q ∷ ps) rs p r (x, rest, e, i, a) h = (x, rest ++ r ∷ [], ap (λ z. z ++ r ∷ []) e, i, rows_more j ps rest p r a h)

flat_one : {A B : Type 0} (f : A → List B) (xs : List A) (x : A) → flat_map f (xs ++ x ∷ []) ≡ flat_map f xs ++ f x
flat_one f xs x = flat_map-append f xs (x ∷ []) ∙ ap (λ z. flat_map f xs ++ z) (append-nil (f x))

pub ended_more : (live : List Prefix) (p : Prefix) → ended_cases (live ++ p ∷ []) ≡ ended_cases live + ended_case p
ended_more live p = let e = sum_by-append ended_case live (p ∷ []) in omega (arith, e)

pub walked_start : (j : JobTree) → Walked j [] [] [] []
walked_start j = record { selects = refl; few = omega arith; few_ended = omega arith; rows = []; are_rows = refl; entries_are = refl; drops_are = refl }

-- prefixes that aren't live change nothing
pub walked_none : (j : JobTree) (before live seen : List Prefix) (entries : List Entry) (drops : List Gap) →
    Each (IsNotLive j.kinds) seen → Walked j before live entries drops → Walked j (before ++ seen) live entries drops
walked_none j before live seen entries drops h w = record {
  selects = selects_after (IsLive j.kinds) before live seen w.selects h;
  few = w.few;
  few_ended = w.few_ended;
  rows = w.rows;
  are_rows = w.are_rows;
  entries_are = w.entries_are;
  drops_are = w.drops_are;
}

-- a live prefix that isn't the end has its number and its row
pub walked_live : (j : JobTree) (before live : List Prefix) (p : Prefix) (r : Row) (entries : List Entry) (drops : List Gap) →
    IsLive j.kinds p → IsRow j p r → length live < j.limits.nodes → ended_cases live + ended_case p ≤ j.limits.paths → Walked j before live entries drops →
    Walked j (before ++ p ∷ []) (live ++ p ∷ []) (entries ++ entries_in r) (drops ++ drops_in r)
walked_live j before live p r entries drops l h below few w =
    let ended = ended_more live p in
    let len : length (live ++ p ∷ []) ≡ length live + 1 = length-append live (p ∷ []) in record {
      selects = selects_more (IsLive j.kinds) before live p w.selects l;
      few = omega (arith, len, below);
      few_ended = omega (arith, ended, few);
      rows = w.rows ++ r ∷ [];
      are_rows = rows_more j live w.rows p r w.are_rows h;
      entries_are = ap (λ z. z ++ entries_in r) w.entries_are ∙ sym (flat_one entries_in w.rows r);
      drops_are = ap (λ z. z ++ drops_in r) w.drops_are ∙ sym (flat_one drops_in w.rows r);
    }
