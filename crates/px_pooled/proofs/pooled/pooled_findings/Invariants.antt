use Rattle.px_pooled.proofs.pooled.pooled_findings.Given as goal

abbrev pub ghosts-alone : goal.ghosts-alone
ghosts-alone g a = record { name = a.blank.name; parts = a.blank.parts }
