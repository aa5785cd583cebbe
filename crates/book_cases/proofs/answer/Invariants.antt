use Rattle.book_cases.proofs.answer.Given as goal

abbrev pub ghosts-answers_of : goal.ghosts-answers_of
ghosts-answers_of a = record { name = a.blank.name; parts = a.blank.parts }
