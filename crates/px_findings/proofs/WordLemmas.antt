-- Findings by a word, and those of one process.
use Rattle.std.proofs.Common.{◌≡◌, ◌↔◌, ℕ, List, Option, Some, None, refl, sym, subst, inl, inr}
use Rattle.std.specs.Prelude.{IsSome}
use Rattle.px_base.specs.LimitNumbers.{LimitNumbers}
use Rattle.px_entry.specs.declared.tables.Table.{Table}
use Rattle.px_callgraph.specs.JobTree.{JobTree}
use Rattle.px_syntax.specs.ProgramTree.{ProgramTree}
use Rattle.px_symexec.specs.Tables.{IsTable}
use Rattle.px_symexec.specs.One.{Work, IsTabled, IsTableIn, IsOne}
use Rattle.px_pieces.specs.Found.{Found, tables_in}
use Rattle.px_pieces.specs.Pieces.{IsToldBy}
use Rattle.px_findings.specs.Found.{work_of, AreFoundBy, AreFound, IsHonest}

-- none is no table
pub no_table : (o : Option Table) → o ≡ None → IsSome o → ⊥
no_table None e some = cc
no_table (Some t) e some = cc

-- one process makes a table of what isn't left out, and of nothing else
pub one_tabled : (w : Work) (tables : ℕ → Option Table) → IsOne w tables → (n : ℕ) → IsSome (tables n) ↔ IsTabled w n
one_tabled w tables one n = by (tables n) (one n)
  where
    by : (o : Option Table) → IsTableIn w tables n o → IsSome o ↔ IsTabled w n
    by None h = (λ some. absurd (no_table None refl some), λ tabled. absurd (h tabled))
    by (Some t) h = (λ some. h.0, λ tabled. refl)

own : (says : JobTree → Table → Type 0) (j : JobTree) (t : Table) → IsHonest says → IsToldBy says j t → IsTable j t
own says j t honest (inl is) = is
own says j t honest (inr said) = honest j t said

-- by an honest word the tables are those of one process
pub by_honest : (says : JobTree → Table → Type 0) (P : ProgramTree) (limits : LimitNumbers) (kinds : List ℕ) (f : Found) → IsHonest says → AreFoundBy says P limits kinds f → AreFound P limits kinds f
by_honest says P limits kinds f honest found = record { certified = found.certified; one = λ n. by n (tables_in f n) refl }
  where
    by : (n : ℕ) (o : Option Table) → tables_in f n ≡ o → IsTableIn (work_of P limits kinds) (tables_in f) n o
    by n None e = λ tabled. no_table (tables_in f n) e ((found.certified.tabled n).1 tabled)
    by n (Some t) e =
        let (j, job, told) = found.told n t e in
        ((found.certified.tabled n).0 (subst (λ (z : Option Table). IsSome z) (sym e) refl), j, job, own says j t honest told)

-- and these answer their jobs by any word
pub by_any : (says : JobTree → Table → Type 0) (P : ProgramTree) (limits : LimitNumbers) (kinds : List ℕ) (f : Found) → AreFound P limits kinds f → AreFoundBy says P limits kinds f
by_any says P limits kinds f found = record {
  certified = found.certified;
  told = λ n t e.
      let (tabled, j, job, table) = subst (IsTableIn (work_of P limits kinds) (tables_in f) n) e (found.one n) in
      (j, job, inl table);
}
