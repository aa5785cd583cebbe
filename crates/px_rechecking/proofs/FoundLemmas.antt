-- What is found, and kept, of the parts of a program is that of the program.
use Rattle.std.proofs.Common.{◌≡◌, ℕ, zero, suc, ◌<◌, List, [], ◌∷◌, length, get_or, Bool, Option, Some, None, sym, ap, ◌∙◌, subst, arith}
use Rattle.px_base.specs.LimitNumbers.{LimitNumbers}
use Rattle.px_core.specs.BodyTree.{BodyTree}
use Rattle.px_entry.specs.declared.tables.Table.{Table}
use Rattle.px_callgraph.specs.Ranks.{CallsBelow, IsRank}
use Rattle.px_syntax.specs.ProgramTree.{ProgramTree}
use Rattle.px_symexec.specs.One.{Work, IsTabled, IsTableIn}
use Rattle.px_pieces.specs.declared.findings.Part.{Part}
use Rattle.px_pieces.specs.declared.findings.Part.TheVariants.{Tabled, LeftOut}
use Rattle.px_pieces.specs.Found.{Found, tables_in}
use Rattle.px_jobs.specs.Sources.{SourceParts, source_work}
use Rattle.px_findings.specs.declared.order.Turn.{Turn}
use Rattle.px_findings.specs.Found.{work_of, AreFoundBy}
use Rattle.px_book.specs.Books.{BookParts, new_book, work_in}
use Rattle.px_pooled.specs.Making.{IsOwn}
use Rattle.px_pooled.proofs.FoundInBooks.{to_work, from_work, apart, is_tabled, is_job, reaches}
use Rattle.px_keep.specs.Items.{KeptItem}
use Rattle.px_keep.specs.Keeping.{AreItemsOf, AreItemsOfAll, AreRanked, AreItemsOfWork, KeepsWork}
use Rattle.px_keep.specs.Laws.{ReusedTables}
use Rattle.px_keep.specs.Reused.{IsReusedPart, IsReused}
use Rattle.px_rechecking.specs.Found.{word_of}

module _ (P : ProgramTree) (limits : LimitNumbers) (kinds : List ℕ) (s : SourceParts) (graph : List (List ℕ)) (own : IsOwn P limits kinds (new_book s graph)) where
  abbrev b : BookParts
  b = new_book s graph

  abbrev v : Work
  v = source_work s (length graph)

  abbrev w : Work
  w = work_of P limits kinds

  -- ---- with the help of items

  part_same : (xs : List KeptItem) (tables : ℕ → Option Table) (n : ℕ) (x : Part) (used : Bool) → IsReusedPart xs v tables n used x → IsReusedPart xs w tables n used x
  part_same xs tables n (Tabled checked drops) used (t, (j, job, answer)) =
      let same : IsTabled w n = (is_tabled P limits kinds b own n).0 t in (same, (j, is_job P limits kinds b own tables n j same job, answer))
  part_same xs tables n LeftOut used (none, unused) = (λ t. none ((is_tabled P limits kinds b own n).1 t), unused)

  pub reused_same : (xs : List KeptItem) (f : Found) (used : ℕ) → IsReused v xs f used → IsReused w xs f used
  reused_same xs f used h = record {
    all = h.all ∙ own.many;
    uses = h.uses;
    all_uses = h.all_uses ∙ own.many;
    each = λ n x c e u. part_same xs (tables_in f) n x c (h.each n x c e u);
    used_are = h.used_are;
  }

  -- ---- kept

  one_same : (tables : ℕ → Option Table) (n : ℕ) (o : Option Table) → IsTableIn v tables n o → IsTableIn w tables n o
  one_same tables n None none = λ t. none ((is_tabled P limits kinds b own n).1 t)
  one_same tables n (Some t) (tabled, j, job, table) = let same : IsTabled w n = (is_tabled P limits kinds b own n).0 tabled in (same, j, is_job P limits kinds b own tables n j same job, table)

  -- what is called below in the program, in the parts
  below : (f g : ℕ) → CallsBelow w.bodies w.kept f g → CallsBelow v.bodies v.kept f g
  below f g c = record {
    callee = from_work P limits kinds b own f g c.callee;
    is_kept = subst (λ k. g < k) (sym own.many) c.is_kept;
    apart = λ t. c.apart (reaches v.bodies w.bodies (to_work P limits kinds b own) t.0, reaches v.bodies w.bodies (to_work P limits kinds b own) t.1);
  }

  above : (f g : ℕ) → CallsBelow v.bodies v.kept f g → CallsBelow w.bodies w.kept f g
  above f g c = record {
    callee = to_work P limits kinds b own f g c.callee;
    is_kept = subst (λ k. g < k) own.many c.is_kept;
    apart = apart P limits kinds b own f g c.apart;
  }

  rank_same : (f n : ℕ) → IsRank v.bodies v.kept f n → IsRank w.bodies w.kept f n
  rank_same f n (rank, are, e) = (
    rank,
    record {
      above = λ g h l c. are.above g h (subst (λ k. g < k) (sym own.many) l) (below g h c);
      least = λ g m l all. are.least g m (subst (λ k. g < k) (sym own.many) l) (λ h c. all h (above g h c));
    },
    e,
  )

  of_same : (tables : ℕ → Option Table) (f : ℕ) (xs : List KeptItem) → IsTabled w f → AreItemsOf v tables f xs → AreItemsOf w tables f xs
  of_same tables f xs tabled h = record {
    job = h.job;
    is_job = is_job P limits kinds b own tables f h.job tabled h.is_job;
    ticket = h.ticket;
    analysis = h.analysis;
    is_analysis = h.is_analysis;
    asks = h.asks;
    gives = h.gives;
    table = h.table;
    items = h.items;
  }

  all_same : (tables : ℕ → Option Table) (ts : List Turn) (xs : List KeptItem) → ((k : ℕ) (d : Turn) → k < length ts → IsTabled w (get_or ts k d).number) → AreItemsOfAll v tables ts xs → AreItemsOfAll w tables ts xs
  all_same tables [] xs each h = h
  all_same tables (t ∷ ts) xs each (own_items, rest, is, here, others) =
      (own_items, rest, is, of_same tables t.number own_items (each 0 t (omega arith)) here, all_same tables ts rest (λ k d l. each (suc k) d (omega (arith, l))) others)

  ranked_same : (order : List Turn) → AreRanked v order → AreRanked w order
  ranked_same order h = record {
    each = λ k d l. let e = h.each k d l in ((is_tabled P limits kinds b own (get_or order k d).number).0 e.0, rank_same (get_or order k d).number (get_or order k d).rank e.1);
    all = λ n t. h.all n ((is_tabled P limits kinds b own n).1 t);
    in_order = h.in_order;
  }

  pub keeps_same : (bytes : List ℕ) → KeepsWork v bytes → KeepsWork w bytes
  keeps_same bytes (xs, h, kept) =
      let order : AreRanked w h.order = ranked_same h.order h.ranked in (
        xs,
        record {
          tables = h.tables;
          one = λ n. one_same h.tables n (h.tables n) (h.one n);
          order = h.order;
          ranked = order;
          items = all_same h.tables h.order xs (λ k d l. (order.each k d l).0) h.items;
        },
        kept,
      )

-- ---- certified

pub found_by : (P : ProgramTree) (limits : LimitNumbers) (kinds : List ℕ) (xs : List KeptItem) (f : Found) (used : ℕ) → ReusedTables → IsReused (work_of P limits kinds) xs f used → AreFoundBy (word_of xs) P limits kinds f
found_by P limits kinds xs f used laws h = record {
  certified = record {
    all = h.all;
    tabled = laws.tabled (work_of P limits kinds) xs f used h;
    checked = laws.checked (work_of P limits kinds) xs f used h;
  };
  told = laws.told (work_of P limits kinds) xs f used h;
}
