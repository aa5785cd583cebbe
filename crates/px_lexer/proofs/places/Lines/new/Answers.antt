use Rattle.px_lexer.proofs.SiteLemmas.{all_rising}
use Rattle.px_lexer.proofs.places.Lines.new.Goals as goal

pub invariant_of-result : goal.invariant_of-result
invariant_of-result c = record { rising = all_rising c.loop-i.starts.items c.args.source.now c.loop-i.i c.loop-i-test.false c.loop-i.invariant }
