use Rattle.std.proofs.Common.{◌∙◌, sym}
use Rattle.px_entry.specs.Regular.{is_used_written}
use Rattle.px_regular.proofs.UseLemmas.{of_entry}
use Rattle.px_regular.proofs.uses.are_uses_written.Goals as goal

pub returns : goal.returns
returns c = c.are_parts_written.ensures ∙ sym (of_entry (is_used_written c.args.entry.now) c.args.entry.now)
