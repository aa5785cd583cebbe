-- What a verdict on clauses says of the conjuncts that they stand for.
use Rattle.std.proofs.Common.{List}
use Rattle.px_terms.specs.declared.conjuncts.Conj.{Conj}
use Rattle.px_cnf.specs.Clauses.{Assignment, Meets}
use Rattle.px_cnf.specs.Standing.{StandsFor}
use Rattle.px_cnf.specs.declared.literal.Literal.{Literal}
use Rattle.px_cnf.specs.declared.cnf.Cnf.{Cnf}
use Rattle.px_sat.specs.Logs.{IsLog}
use Rattle.px_sat.specs.Verdicts.{EndsEmpty}
use Rattle.px_bits.specs.Looks.{HaveNoWords, HaveWords}
use Rattle.px_bits.proofs.FollowLemmas.{none_meets}
use Rattle.px_bits.proofs.GivenWords.{word_of, words_small, words_given}

module _ (cnf : Cnf) (conjuncts : List Conj) (s : StandsFor cnf conjuncts) where
  pub met_words : (a : Assignment) → Meets a cnf.clauses → HaveWords conjuncts
  met_words a met = (word_of a cnf.bits, words_small a cnf.bits, s.sound a (word_of a cnf.bits) met (words_given a cnf.bits s.bits.rising))

  pub refuted_words : (log : List (List Literal)) → IsLog cnf.variables cnf.clauses log → EndsEmpty log → HaveNoWords conjuncts
  refuted_words log h ends w words are_true = let (a, met, gives) = s.complete w words are_true in none_meets a cnf.variables cnf.clauses log h ends met
