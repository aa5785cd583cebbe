use Rattle.std.proofs.Common.{sym, arith}
use Rattle.px_parity.proofs.BitLemmas.{has_bit, no_word}
use Rattle.px_parity.proofs.row.Row.has.Goals as goal

pub returns-then-at-len : goal.returns-then-at-len
returns-then-at-len c = sym (no_word c.self.inside.words.items c.args.self.now c.args.at c.self.view_is (omega (arith, c.self.inside.words.ok)))

pub returns : goal.returns
returns c = has_bit c.self.inside.words.items c.args.self.now c.args.at c.index-word.result.now c.self.view_is (omega (arith, c.self.inside.words.ok)) c.index-word.ensures
