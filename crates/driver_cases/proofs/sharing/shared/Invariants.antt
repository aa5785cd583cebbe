use Rattle.driver_cases.proofs.sharing.shared.Given as goal

abbrev pub ghosts-shared_by : goal.ghosts-shared_by
ghosts-shared_by g a = record { name = a.blank.name; parts = a.blank.parts }
