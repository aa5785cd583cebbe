use Rattle.std.proofs.Common.{◌≡◌, ◌-◌, ◌<◌, ◌≤◌, length, take, false}
use Rattle.px_pool.specs.Words.{IsWordKept}
use Rattle.px_pool.specs.Reading.{Gives}
use Rattle.px_pool.proofs.reading.fill.Given as goal

abbrev pub invariant-loop-have : goal.invariant-loop-have
invariant-loop-have g l = record {
  room : length l.into ≡ length l.initial.into;
  within : l.have ≤ length l.into;
  given : Gives (g.K.Link.told l.initial.link) (g.K.Link.told l.link) (take l.have l.into) false;
  kept : IsWordKept g.K.Word.Honesty.says (g.K.Link.told l.initial.link) → IsWordKept g.K.Word.Honesty.says (g.K.Link.told l.link);
  word : 0 < l.have → IsWordKept g.K.Word.Honesty.says (g.K.Link.told l.link);
  count : g.K.Link.count l.link ≡ g.K.Link.count l.initial.link;
}

abbrev pub decreases-loop-have : goal.decreases-loop-have
decreases-loop-have g l = length l.into - l.have
