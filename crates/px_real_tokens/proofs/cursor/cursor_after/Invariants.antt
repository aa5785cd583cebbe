use Rattle.std.proofs.Common.{◌≡◌, ◌+◌, ◌≤◌, take}
use Rattle.px_real_tokens.specs.Cursors.{cursor_after}
use Rattle.px_real_tokens.proofs.cursor.cursor_after.Given as goal

abbrev pub invariant-loop-byte : goal.invariant-loop-byte
invariant-loop-byte l = record {
  so_far : l.after ≡ cursor_after l.fn.cursor (take l.byte-index l.bytes);
  line : l.after.line ≤ l.fn.cursor.line + l.byte-index;
  column : l.after.column ≤ l.fn.cursor.column + l.byte-index;
}
