-- One thing is found out of a program: the tables are those of one process, and a part says no more than its table.
use Rattle.std.proofs.Common.{◌≡◌, ℕ, zero, suc, List, [], ◌∷◌, length, map, slice_get, Option, Some, None, refl, sym, ap, ◌∙◌, arith}
use Rattle.std.specs.Prelude.{option_and_then}
use Rattle.px_base.specs.LimitNumbers.{LimitNumbers}
use Rattle.px_entry.specs.declared.tables.Table.{Table}
use Rattle.px_syntax.specs.ProgramTree.{ProgramTree}
use Rattle.px_symexec.specs.One.{OneProcess}
use Rattle.px_pieces.specs.declared.findings.Part.{Part}
use Rattle.px_pieces.specs.declared.findings.Part.TheVariants.{Tabled, LeftOut}
use Rattle.px_pieces.specs.Found.{Found, table_of, tables_in}
use Rattle.px_findings.specs.Found.{work_of, AreFound}
use Rattle.px_text_report.specs.Known.{Known, tabled, left_out, known_of, known}

abbrev known_by : Option Table → Known
known_by None = left_out
known_by (Some t) = tabled t.entries t.drops

by_table : (p : Part) → known_of p ≡ known_by (table_of p)
by_table (Tabled checked drops) = refl
by_table LeftOut = refl

same_known : (xs ys : List Part) → length xs ≡ length ys → ((n : ℕ) → option_and_then table_of (slice_get xs n) ≡ option_and_then table_of (slice_get ys n)) → map known_of xs ≡ map known_of ys
same_known [] [] l h = refl
same_known [] (y ∷ ys) l h = let n : ⊥ = omega (arith, l) in absurd n
same_known (x ∷ xs) [] l h = let n : ⊥ = omega (arith, l) in absurd n
same_known (x ∷ xs) (y ∷ ys) l h =
    ap (λ z. z ∷ map known_of xs) (by_table x ∙ ap known_by (h zero) ∙ sym (by_table y))
    ∙ ap (λ z. known_of y ∷ z) (same_known xs ys (omega (arith, l)) (λ n. h (suc n)))

pub one_found : OneProcess → (P : ProgramTree) (limits : LimitNumbers) (kinds : List ℕ) (f g : Found) → AreFound P limits kinds f → AreFound P limits kinds g → known f ≡ known g
one_found one P limits kinds f g a b = same_known f.parts g.parts (a.certified.all ∙ sym b.certified.all) (one (work_of P limits kinds) (tables_in f) (tables_in g) a.one b.one)
