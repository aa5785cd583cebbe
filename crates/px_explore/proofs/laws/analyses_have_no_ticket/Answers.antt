use Rattle.px_explore.proofs.OwnLemmas.{no_tickets}
use Rattle.px_explore.proofs.laws.analyses_have_no_ticket.Goals as goal

pub returns : goal.returns
returns c = no_tickets
