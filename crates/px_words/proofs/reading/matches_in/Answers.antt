use Rattle.std.proofs.Common.{arith, ◌∙◌, sym, true≢false, ◌≤◌, length}
use Rattle.clap.specs.Words.{app_of}
use Rattle.clap.specs.Lexer.{usize_max}
use Rattle.px_words.proofs.ReadLemmas.{ok_is, err_is, keep_ok_is, keep_err_is}
use Rattle.px_words.proofs.reading.matches_in.Goals as goal

pub returns-in-Ok-clause-found : goal.returns-in-Ok-clause-found
returns-in-Ok-clause-found c =
    let few : length c.args.words.now ≤ usize_max = omega arith in
    ok_is c.args.words.now few (app_of c.in_ok-command.command) c.in_ok-command.ensures c.in-Ok.matches c.in-Ok.ensures.matches c.in-Ok.ensures.kinds

pub returns-in-Ok-clause-bare : goal.returns-in-Ok-clause-bare
returns-in-Ok-clause-bare c =
    let few : length c.args.words.now ≤ usize_max = omega arith in
    keep_ok_is c.args.words.now few (app_of c.in_ok-command.command) c.in_ok-command.ensures c.in-Ok.matches c.in-Ok.ensures.matches c.in-Ok.ensures.kinds

pub returns-clause-none : goal.returns-clause-none
returns-clause-none c =
    let few : length c.args.words.now ≤ usize_max = omega arith in
    err_is c.args.words.now few (app_of c.in_ok-command.command) c.in_ok-command.ensures c.in-Err.error c.in-Err.ensures.kinds
    (λ e. true≢false (sym (rw (c.kind.ensures, e) at c.eq.ensures) ∙ c.if-eq.false))

pub returns-clause-none_bare : goal.returns-clause-none_bare
returns-clause-none_bare c =
    let few : length c.args.words.now ≤ usize_max = omega arith in
    keep_err_is c.args.words.now few (app_of c.in_ok-command.command) c.in_ok-command.ensures c.in-Err.error c.in-Err.ensures.kinds
    (λ e. true≢false (sym (rw (c.kind.ensures, e) at c.eq.ensures) ∙ c.if-eq.false))
