use Rattle.px_lines.proofs.LineLemmas.{either_way}
use Rattle.px_lines.proofs.lines.tell_line.Goals as goal

pub returns : goal.returns
returns g c = either_way c.put_line.result c.put_line.ensures.all c.put_line.ensures.part
