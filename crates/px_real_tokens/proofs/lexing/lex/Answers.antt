use Rattle.std.proofs.Common.{◌≡◌, ◌≢◌, ◌∙◌, ℕ, List, sym, subst, Ok, Err, Result}
use Rattle.std.specs.Prelude.{IfErr}
use Rattle.std.proofs.lemmas.Result.{err_from_is_err_and}
use Rattle.px_real_tokens.specs.Tokens.{Lexes}
use Rattle.px_real_tokens.specs.declared.token.LexFault.{LexFault}
use Rattle.px_real_tokens.specs.declared.token.LexFault.TheVariants.{NoMemory}
use Rattle.px_real_tokens.proofs.LoopLemmas.{ends, ends_nowhere, ends_at_fault, after_piece}
use Rattle.px_real_tokens.proofs.lexing.lex.Goals as goal

-- the fault that a `?` hands on
handed_on : {T : Type 0} (file : ℕ) (source : List ℕ) (r : Result T LexFault) (x e : LexFault) → r ≡ Err x → x ≡ e →
    (e ≢ NoMemory → Lexes file source (Err e)) → IfErr r (λ y. y ≢ NoMemory → Lexes file source (Err y))
handed_on file source (Ok v) x e h g k = tt
handed_on file source (Err y) x e h g k = let i : e ≡ y = cc in subst (λ z. z ≢ NoMemory → Lexes file source (Err z)) i k

pub returns-in_default-clause-fault : goal.returns-in_default-clause-fault
returns-in_default-clause-fault c = λ _. rw c.cursor_site-site.ensures
    (ends_nowhere c.args.file c.args.source.now c.loop-rest.tokens.items c.loop-rest.fresh c.loop-rest.start c.loop-rest.cursor c.loop-rest.rest.now c.loop-rest.invariant
    (sym c.is_empty.ensures ∙ c.loop-rest-test.true) c.in_default.ensures.exact)

pub returns-in_err-put-clause-fault : goal.returns-in_err-put-clause-fault
returns-in_err-put-clause-fault c =
    let p = err_from_is_err_and c.from_residual.result c.from_residual.ensures.1 in
    handed_on c.args.file c.args.source.now c.from_residual.result p.0 c.in_err-put.field-0.0 p.1 p.2
    (λ h. ends_at_fault c.args.file c.args.source.now c.loop-rest.tokens.items c.loop-rest.fresh c.loop-rest.start c.loop-rest.cursor c.loop-rest.rest.now c.loop-rest.invariant
    c.in-Some.piece c.in-Some.count c.in-Some.ensures.exact c.in_err-put.field-0.0 (rw c.cursor_site-site.ensures at (c.in_err-put.ensures.fault h)))

pub loop-rest-preserved : goal.loop-rest-preserved
loop-rest-preserved c =
    let site = c.cursor_site-site.ensures in
    let b = after_piece c.args.file c.args.source.now c.loop-rest.tokens.items c.loop-rest.fresh c.loop-rest.start c.loop-rest.cursor c.loop-rest.rest.now c.loop-rest.invariant
    c.in-Some.piece c.in-Some.count c.in-Some.ensures.exact (rw site at c.in_ok-put.ensures.no_fault) c.in-Some.ensures.within.1 in
    rw (c.in_ok-put.ensures.tokens, site, c.fresh_after-fresh.ensures, c.cursor_after-cursor.ensures, c.split_at.ensures.front, c.split_at.ensures.back) b

pub returns-clause-tokens : goal.returns-clause-tokens
returns-clause-tokens c =
    ends c.args.file c.args.source.now c.loop-rest.tokens.items c.loop-rest.fresh c.loop-rest.start c.loop-rest.cursor c.loop-rest.rest.now c.loop-rest.invariant (sym c.is_empty.ensures ∙ c.loop-rest-test.false)
