use Rattle.px_parts.proofs.heads.read_entry.Goals as goal

pub returns-in-None-clause-spelled : goal.returns-in-None-clause-spelled
returns-in-None-clause-spelled c = rw c.in-None.is c.read_entry_with.ensures.spelled

pub returns-in-Some-clause-spelled : goal.returns-in-Some-clause-spelled
returns-in-Some-clause-spelled c = rw c.in-Some.is c.read_entry_with-in-Some.ensures.spelled
