use Rattle.std.proofs.Common.{◌≡◌, ◌<◌, drop}
use Rattle.std.specs.Prelude.{fold}
use Rattle.px_real_scopes.specs.Keys.{key_step}
use Rattle.px_real_scopes.proofs.keys.word_key.Given as goal

-- with the bytes that are left it is the key
abbrev pub invariant-loop-byte : goal.invariant-loop-byte
invariant-loop-byte l = (l.key < 4096) × (fold key_step l.key (drop l.byte-index l.word) ≡ fold key_step 0 l.word)
