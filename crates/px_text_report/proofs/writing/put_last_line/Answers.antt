use Rattle.px_text_report.proofs.ListLemmas.{four}
use Rattle.px_text_report.proofs.writing.put_last_line.Goals as goal

pub returns : goal.returns
returns c = four _ _ _ _ _ _ _ _ _ c.in_ok-put_count.ensures c.in_ok-put_count-2.ensures c.in_ok-put_count-3.ensures c.in_ok-put.ensures
