use Rattle.std.proofs.Common.{◌∙◌}
use Rattle.std.proofs.lemmas.List.{take_all}
use Rattle.px_real_symbols.specs.Symbols.{lexemes}
use Rattle.px_real_blocks.specs.Parts.{no_types}
use Rattle.px_real_items.proofs.FileLemmas.{and_one, all_read, same_items}
use Rattle.px_real_items.proofs.reading.read_items.Goals as goal

pub loop-item-preserved : goal.loop-item-preserved
loop-item-preserved c = record {
  read = rw c.in_ok-push.ensures.items
      (and_one (lexemes no_types c.args.source.now c.args.tokens.now) c.args.names.now c.loop-item.names c.file_item.new.names c.loop-item.all.items c.in_ok-read.read c.loop-item.invariant.read c.in_ok-read.ensures.read);
  same = rw c.in_ok-push.ensures.items
      (same_items (lexemes no_types c.args.source.now c.args.tokens.now) c.loop-item.all.items c.in_ok-read.read c.args.items.now c.loop-item.item-index c.loop-item-test.true c.in_ok-read.ensures.same c.loop-item.invariant.same);
}

pub returns-clause-read : goal.returns-clause-read
returns-clause-read c = all_read (lexemes no_types c.args.source.now c.args.tokens.now) c.args.names.now c.loop-item.names c.loop-item.all.items c.loop-item.invariant.read

pub returns-clause-same : goal.returns-clause-same
returns-clause-same c = c.loop-item.invariant.same ∙ take_all c.loop-item.item-index c.args.items.now c.loop-item-test.false
