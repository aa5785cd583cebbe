use Rattle.px_pooled.proofs.pooled.helped.Given as goal

abbrev pub ghosts-with_workers : goal.ghosts-with_workers
ghosts-with_workers g a = record { name = a.blank.name; parts = a.blank.parts }
