-- The tables of what is found with the help of items.
use Rattle.std.proofs.Common.{◌≡◌, ◌↔◌, ℕ, List, Bool, true, false, Option, Some, None, refl, sym, ◌∙◌, subst, inl, inr, arith}
use Rattle.std.specs.Prelude.{slice_get, option_and_then, IsSome}
use Rattle.std.proofs.lemmas.Option.{same_Some, none-some, slice_get_within}
use Rattle.px_entry.specs.declared.tables.Gap.{Gap}
use Rattle.px_entry.specs.declared.tables.Table.{Table}
use Rattle.px_callgraph.specs.JobTree.{JobTree}
use Rattle.px_check.specs.declared.checked.Checked.{Checked}
use Rattle.px_symexec.specs.Tables.{IsTable}
use Rattle.px_symexec.specs.One.{Work, IsTabled, IsJob, IsTableIn, IsOne}
use Rattle.px_pieces.specs.declared.findings.Part.{Part}
use Rattle.px_pieces.specs.declared.findings.Part.TheVariants.{Tabled, LeftOut}
use Rattle.px_pieces.specs.Found.{Found, table_of, tables_in}
use Rattle.px_pieces.specs.Pieces.{AreOf, table_from, IsToldBy}
use Rattle.px_findings.proofs.Places.{item_at}
use Rattle.px_findings.proofs.WordLemmas.{no_table}
use Rattle.px_keep.specs.Items.{KeptItem}
use Rattle.px_keep.specs.Good.{IsFirstGood}
use Rattle.px_keep.specs.Reused.{IsTableBy, IsReusedPart, IsReused}
use Rattle.px_keep.specs.Laws.{ReusedTables}

told_by : (xs : List KeptItem) (j : JobTree) (b : Bool) (t : Table) → IsTableBy xs j b t → IsToldBy (λ i u. IsFirstGood i xs u) j t
told_by xs j true t h = inr h
told_by xs j false t h = inl h.1

own_by : (xs : List KeptItem) → ((j : JobTree) (t : Table) → IsFirstGood j xs t → IsTable j t) → (j : JobTree) (b : Bool) (t : Table) → IsTableBy xs j b t → IsTable j t
own_by xs honest j true t h = honest j t h
own_by xs honest j false t h = h.1

module _ (w : Work) (xs : List KeptItem) (f : Found) (used : ℕ) (h : IsReused w xs f used) where
  -- what is known of a part
  of_part : (n : ℕ) (x : Part) → slice_get f.parts n ≡ Some x → (b : Bool) × IsReusedPart xs w (tables_in f) n b x
  of_part n x e =
      let l = slice_get_within f.parts n x e in
      let a = h.all in
      let c = h.all_uses in
      let (b, at, read) = item_at h.uses n (omega arith) in (b, h.each n x b e at)

  nothing : (n : ℕ) → slice_get f.parts n ≡ None → ¬ IsTabled w n
  nothing n e t =
      let l = t.0 in
      let a = h.all in
      let (x, at, read) = item_at f.parts n (omega arith) in none-some x (sym e ∙ at)

  pub tabled : (n : ℕ) → IsSome (tables_in f n) ↔ IsTabled w n
  tabled n = by (slice_get f.parts n) refl
    where
      by : (o : Option Part) → slice_get f.parts n ≡ o → IsSome (option_and_then table_of o) ↔ IsTabled w n
      by None e = (λ some. absurd (no_table None refl some), λ t. absurd (nothing n e t))
      by (Some LeftOut) e = (λ some. absurd (no_table None refl some), λ t. absurd ((of_part n LeftOut e).1.0 t))
      by (Some (Tabled cs gs)) e = (λ some. (of_part n (Tabled cs gs) e).1.0, λ t. refl)

  pub checked : (n : ℕ) (cs : List Checked) (gs : List Gap) → slice_get f.parts n ≡ Some (Tabled cs gs) → (j : JobTree) × IsJob w (tables_in f) n j × AreOf j cs
  checked n cs gs e = let (j, job, (of, table)) = (of_part n (Tabled cs gs) e).1.1 in (j, job, of)

  pub told : (n : ℕ) (t : Table) → tables_in f n ≡ Some t → (j : JobTree) × IsJob w (tables_in f) n j × IsToldBy (λ i u. IsFirstGood i xs u) j t
  told n t at = by (slice_get f.parts n) refl at
    where
      by : (o : Option Part) → slice_get f.parts n ≡ o → option_and_then table_of o ≡ Some t → (j : JobTree) × IsJob w (tables_in f) n j × IsToldBy (λ i u. IsFirstGood i xs u) j t
      by None e at = absurd (none-some t at)
      by (Some LeftOut) e at = absurd (none-some t at)
      by (Some (Tabled cs gs)) e at =
          let (b, (_, (j, job, (of, table)))) = of_part n (Tabled cs gs) e in
          (j, job, subst (IsToldBy (λ i u. IsFirstGood i xs u) j) (same_Some (table_from cs gs) t at) (told_by xs j b (table_from cs gs) table))

  pub one : ((j : JobTree) (t : Table) → IsFirstGood j xs t → IsTable j t) → IsOne w (tables_in f)
  one honest n = by (slice_get f.parts n) refl
    where
      by : (o : Option Part) → slice_get f.parts n ≡ o → IsTableIn w (tables_in f) n (option_and_then table_of o)
      by None e = nothing n e
      by (Some LeftOut) e = (of_part n LeftOut e).1.0
      by (Some (Tabled cs gs)) e =
          let (b, (t, (j, job, (of, table)))) = of_part n (Tabled cs gs) e in
          (t, j, job, own_by xs honest j b (table_from cs gs) table)

pub reused_tables : ReusedTables
reused_tables = record { tabled = tabled; checked = checked; told = told; one = one }
