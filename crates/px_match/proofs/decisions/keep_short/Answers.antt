use Rattle.px_match.proofs.Lengths.{kept_short}
use Rattle.px_match.proofs.decisions.keep_short.Goals as goal

pub returns : goal.returns
returns c = kept_short c.args.p.now c.constant-constant.ensures.form.1
