-- The worked tables.
use Rattle.std.proofs.Common.{ℕ, pos, ◌+◌, ◌≤◌, List, [], ◌∷◌, ◌++◌, length, Bool, true, false, inl, inr, refl, sym, arith, take, drop, cond}
use Rattle.std.specs.Prelude.{flat_map}
use Rattle.std.proofs.lemmas.List.{take-append-drop}
use Rattle.px_terms.specs.declared.types.Value.TheVariants.{Word, Null, Block}
use Rattle.px_entry.specs.declared.tables.Gap.{Gap}
use Rattle.px_entry.specs.declared.tables.Table.{Table}
use Rattle.px_entry.specs.declared.tables.Cause.TheVariants as cause
use Rattle.px_callgraph.specs.JobTree.{JobTree}
use Rattle.px_callgraph.specs.Alternatives.{ways, act}
use Rattle.px_callgraph.specs.ActsLeft.{acts_left}
use Rattle.px_symexec.specs.Prefixes.{Prefix, prefixes, prefixes_of}
use Rattle.px_symexec.specs.Tables.{Selects, IsLive, ended_cases, Row, Nothing, Gives, AreRows, entries_in, drops_in, Stops, IsTable}
use Rattle.px_symexec.specs.WorkedJobs.{a_pointer, an_int, writes_freed, frees_in_turns}
use Rattle.px_symexec.specs.WorkedTables.{no_room, written_freed, null_twice, block_twice, freed_before, two_frees_within, no_room_in_line, freed_in_turns, spent, HasTable, WorkedTables}
use Rattle.px_symexec.proofs.PlaceLists.{found_nothing, found_made, found_null, found_block, found_block_and_zero, open_pointer, null_and_not, apart_from_itself}

-- ---- chosen prefixes

abbrev picked : {A : Type 0} → List Bool → List A → List A
picked [] xs = []
picked (b ∷ bs) [] = []
picked (b ∷ bs) (x ∷ xs) = cond b (x ∷ picked bs xs) (picked bs xs)

-- P holds of those at true, and not of those at false
abbrev AreMarked : {A : Type 0} → (A → Type 0) → List Bool → List A → Type 0
AreMarked P [] [] = Unit {0}
AreMarked P [] (x ∷ xs) = ⊥
AreMarked P (b ∷ bs) [] = ⊥
AreMarked P (true ∷ bs) (x ∷ xs) = P x × AreMarked P bs xs
AreMarked P (false ∷ bs) (x ∷ xs) = (¬ P x) × AreMarked P bs xs

selects_picked : {A : Type 0} (P : A → Type 0) (bs : List Bool) (xs : List A) → AreMarked P bs xs → Selects P xs (picked bs xs)
selects_picked P [] [] h = refl
selects_picked P [] (x ∷ xs) h = absurd h
selects_picked P (b ∷ bs) [] h = absurd h
selects_picked P (true ∷ bs) (x ∷ xs) h = inl (h.0, picked bs xs, refl, selects_picked P bs xs h.1)
selects_picked P (false ∷ bs) (x ∷ xs) h = inr (h.0, selects_picked P bs xs h.1)

-- a table, by the first k prefixes, which of them are live, and their rows
module _ (j : JobTree) (k : ℕ) (bs : List Bool) (rows : List Row) (last : List Gap) where
  abbrev live : List Prefix
  live = picked bs (take k (prefixes_of j))

  pub by_rows : AreMarked (IsLive j.kinds) bs (take k (prefixes_of j)) → AreRows j live rows → length live ≤ j.limits.nodes → ended_cases live ≤ j.limits.paths →
      Stops j live (drop k (prefixes_of j)) last →
      HasTable j (length live + length last) (record { entries = flat_map entries_in rows; drops = flat_map drops_in rows ++ last })
  by_rows m a n p s =
      let table : Table = record { entries = flat_map entries_in rows; drops = flat_map drops_in rows ++ last } in
      let t : IsTable j table = record {
        before = take k (prefixes_of j);
        rest = drop k (prefixes_of j);
        split = sym (take-append-drop k (prefixes_of j));
        live = live;
        met = flat_map drops_in rows;
        walked = record { selects = selects_picked (IsLive j.kinds) bs (take k (prefixes_of j)) m; few = n; few_ended = p; rows = rows; are_rows = a; entries_are = refl; drops_are = refl };
        last = last;
        stops = s;
        drops_are = refl;
      } in
      record { is_table = t; numbered = (table, t, refl) }

-- ---- a block is written, freed, and written again

use_after_free : HasTable (writes_freed 64 10000) 3 (record { entries = no_room ∷ written_freed ∷ []; drops = [] })
unfolding prefixes ways act acts_left
use_after_free =
    by_rows (writes_freed 64 10000) 3 (true ∷ true ∷ true ∷ []) (Nothing ∷ Gives no_room ∷ Gives written_freed ∷ []) []
    (found_nothing.not_refuted, (found_nothing.not_refuted, (found_made.not_refuted, tt)))
    (_, _, refl, refl, (_, _, refl, inl ([], found_nothing, refl), (_, _, refl, inl (Block 1 ∷ [], found_made, refl), refl)))
    (omega arith) (omega arith) refl

-- at the second prefix the nodes are spent
one_node : HasTable (writes_freed 64 1) 2 (record { entries = []; drops = spent (cause.Nodes 1) ∷ [] })
unfolding prefixes ways act acts_left
one_node =
    by_rows (writes_freed 64 1) 1 (true ∷ []) (Nothing ∷ []) (spent (cause.Nodes 1) ∷ [])
    (found_nothing.not_refuted, tt) (_, _, refl, refl, refl) (omega arith) (omega arith)
    (found_nothing.not_refuted, cause.Nodes 1, inl (omega arith, refl), refl)

-- at the third the paths are
one_path : HasTable (writes_freed 1 10000) 3 (record { entries = no_room ∷ []; drops = spent (cause.Paths 1) ∷ [] })
unfolding prefixes ways act acts_left
one_path =
    by_rows (writes_freed 1 10000) 2 (true ∷ true ∷ []) (Nothing ∷ Gives no_room ∷ []) (spent (cause.Paths 1) ∷ [])
    (found_nothing.not_refuted, (found_nothing.not_refuted, tt)) (_, _, refl, refl, (_, _, refl, inl ([], found_nothing, refl), refl)) (omega arith) (omega arith)
    (found_made.not_refuted, cause.Paths 1, inr (omega arith, refl, omega arith, refl), refl)

-- ---- a parameter is freed twice

freed_twice : (paths nodes : ℕ) → 3 ≤ paths → 6 ≤ nodes → HasTable (two_frees_within paths nodes) 6 (record { entries = null_twice ∷ block_twice ∷ freed_before ∷ []; drops = [] })
unfolding prefixes ways act acts_left
freed_twice paths nodes l m =
    by_rows (two_frees_within paths nodes) 11 (true ∷ true ∷ true ∷ false ∷ false ∷ true ∷ false ∷ true ∷ false ∷ false ∷ true ∷ [])
    (Nothing ∷ Nothing ∷ Gives null_twice ∷ Nothing ∷ Gives block_twice ∷ Gives freed_before ∷ []) [] (
      open_pointer,
      (
        found_null.not_refuted,
        (
          found_null.not_refuted,
          (
            λ h. h (null_and_not (a_pointer ∷ an_int ∷ [])),
            (
              λ h. h (null_and_not (a_pointer ∷ [])),
              (
                found_block_and_zero.not_refuted,
                (
                  λ h. h (null_and_not (a_pointer ∷ an_int ∷ [])),
                  (
                    found_block_and_zero.not_refuted,
                    (λ h. h (apart_from_itself (a_pointer ∷ an_int ∷ an_int ∷ [])), (λ h. h (apart_from_itself (a_pointer ∷ an_int ∷ [])), (found_block.not_refuted, tt))),
                  ),
                ),
              ),
            ),
          ),
        ),
      ),
    ) (
      _,
      _,
      refl,
      refl,
      (
        _,
        _,
        refl,
        refl,
        (
          _,
          _,
          refl,
          inl (Null ∷ [], found_null, refl),
          (
            _,
            _,
            refl,
            refl,
            (_, _, refl, inl (Block 1 ∷ Word (pos 0) ∷ [], found_block_and_zero, refl), (_, _, refl, inl (Block 1 ∷ [], found_block, refl), refl)),
          ),
        ),
      ),
    )
    m l refl

-- ---- a loop frees a block in each turn

within_bound : HasTable (frees_in_turns 2) 3 (record { entries = no_room_in_line ∷ freed_in_turns ∷ []; drops = [] })
unfolding prefixes ways act acts_left
within_bound =
    by_rows (frees_in_turns 2) 3 (true ∷ true ∷ true ∷ []) (Nothing ∷ Gives no_room_in_line ∷ Gives freed_in_turns ∷ []) []
    (found_nothing.not_refuted, (found_nothing.not_refuted, (found_made.not_refuted, tt)))
    (_, _, refl, refl, (_, _, refl, inl ([], found_nothing, refl), (_, _, refl, inl (Block 1 ∷ [], found_made, refl), refl)))
    (omega arith) (omega arith) refl

past_bound : HasTable (frees_in_turns 1) 3 (record { entries = no_room_in_line ∷ []; drops = [] })
unfolding prefixes ways act acts_left
past_bound =
    by_rows (frees_in_turns 1) 3 (true ∷ true ∷ true ∷ []) (Nothing ∷ Gives no_room_in_line ∷ Nothing ∷ []) []
    (found_nothing.not_refuted, (found_nothing.not_refuted, (found_made.not_refuted, tt)))
    (_, _, refl, refl, (_, _, refl, inl ([], found_nothing, refl), (_, _, refl, refl, refl)))
    (omega arith) (omega arith) refl

pub worked_tables : WorkedTables
worked_tables = record {
  use_after_free = use_after_free;
  double_free = freed_twice 64 10000 (omega arith) (omega arith);
  just_enough = freed_twice 3 6 (omega arith) (omega arith);
  within_bound = within_bound;
  past_bound = past_bound;
  one_node = one_node;
  one_path = one_path;
}
