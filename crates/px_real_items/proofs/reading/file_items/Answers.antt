use Rattle.std.proofs.Common.{◌≡◌, Result, Err, map, ap, ◌∙◌}
use Rattle.std.proofs.lemmas.Result.{err_from_is_err_and}
use Rattle.px_real_cutting.specs.Roles.{as_mark}
use Rattle.px_real_symbols.specs.Symbols.{lexemes}
use Rattle.px_real_blocks.specs.Parts.{no_types}
use Rattle.px_real_items.specs.Trees.{item_tree}
use Rattle.px_real_items.proofs.FileLemmas.{cut_so, read_so}
use Rattle.px_real_items.proofs.reading.file_items.Goals as goal

pub returns-clause-read : goal.returns-clause-read
returns-clause-read c = record {
  cut = cut_so (map (as_mark c.args.source.now) c.args.tokens.now) c.in_ok-items.items.items (map (item_tree (lexemes no_types c.args.source.now c.args.tokens.now)) c.in_ok-read.read.items) c.deref.result.now
      c.in_ok-read.ensures.same c.deref.ensures.value c.in_ok-items.ensures.cut;
  read = read_so (lexemes no_types c.args.source.now c.args.tokens.now) c.new-names.result (map (item_tree (lexemes no_types c.args.source.now c.args.tokens.now)) c.in_ok-read.read.items) c.read_items.new.names
      c.new-names.ensures c.in_ok-read.ensures.read;
}

pub returns-in_err-items-clause-unbalanced : goal.returns-in_err-items-clause-unbalanced
returns-in_err-items-clause-unbalanced c = λ place h.
    let p = err_from_is_err_and c.from_residual.result c.from_residual.ensures.1 in
    c.in_err-items.ensures.unbalanced place (ap (λ z. Err z) (err_is _ _ _ (p.1 ∙ ap (λ z. Err z) p.2) h))
  where
    err_is : {T E : Type 0} (r : Result T E) (a b : E) → r ≡ Err a → r ≡ Err b → a ≡ b
    err_is r a b h g = cc
