-- The reader of a statement, by its depth.
use Rattle.std.proofs.Common.{◌≡◌, ℕ, zero, suc, ◌-◌, ◌<◌, List, length, Ok, Err, refl, ◌∙◌, arith}
use Rattle.px_real_expressions.specs.Lexemes.{Lexeme}
use Rattle.px_real_expressions.specs.Stops.{deep, ◌>>=◌}
use Rattle.px_real_symbols.specs.declared.fault.Fault.{Fault}
use Rattle.px_real_symbols.specs.Answers.{IsFaultOf}
use Rattle.px_real_statements.specs.StatementTree.{LabelTree, StatementTree, labelled_by}
use Rattle.px_real_statements.specs.Reading.{labels_at, unlabelled_of, statement_of, statement_at}
use Rattle.px_real_symbols.proofs.AnswerLemmas.{passes_on}

-- where one may stand, it is labels and a statement without them
pub statement_is : (d : ℕ) (ts : List Lexeme) → 0 < d → statement_at d ts ≡ (labels_at (length ts) ts >>= λ ls. unlabelled_of (statement_at (d - 1)) ls.1 >>= λ s. Ok (labelled_by ls.0 s.0, s.1))
unfolding statement_at statement_of
statement_is zero ts lt = absurd (omega arith)
statement_is (suc d) ts lt = let e : suc d - 1 ≡ d = omega arith in rw e refl

pub no_statement_at : (d : ℕ) (ts : List Lexeme) → d ≡ 0 → statement_at d ts ≡ Err (deep ts)
unfolding statement_at
no_statement_at d ts h = rw h refl

-- where labels aren't read, or what stands behind them
pub labels_fail : (e : Fault) (all : List Lexeme) (d : ℕ) (ts : List Lexeme) → 0 < d → IsFaultOf all e (labels_at (length ts) ts) → IsFaultOf all e (statement_at d ts)
labels_fail e all d ts lt f = passes_on e all (labels_at (length ts) ts) (statement_at d ts) (λ st g. statement_is d ts lt ∙ rw g refl) f

pub unlabelled_fails : (e : Fault) (all : List Lexeme) (d : ℕ) (ts : List Lexeme) (ls : List LabelTree × List Lexeme) → 0 < d → labels_at (length ts) ts ≡ Ok ls →
    IsFaultOf all e (unlabelled_of (statement_at (d - 1)) ls.1) → IsFaultOf all e (statement_at d ts)
unlabelled_fails e all d ts ls lt h f = passes_on e all (unlabelled_of (statement_at (d - 1)) ls.1) (statement_at d ts) (λ st g. statement_is d ts lt ∙ rw (h, g) refl) f

pub statement_read : (d : ℕ) (ts : List Lexeme) (ls : List LabelTree × List Lexeme) (s : StatementTree × List Lexeme) → 0 < d → labels_at (length ts) ts ≡ Ok ls →
    unlabelled_of (statement_at (d - 1)) ls.1 ≡ Ok s → statement_at d ts ≡ Ok (labelled_by ls.0 s.0, s.1)
statement_read d ts ls s lt h g = statement_is d ts lt ∙ rw (h, g) refl
