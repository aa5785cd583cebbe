use Rattle.px_symexec.proofs.TicketLemmas.{no_ticket}
use Rattle.px_symexec.proofs.laws.tables_have_no_ticket.Goals as goal

pub returns : goal.returns
returns c = no_ticket
