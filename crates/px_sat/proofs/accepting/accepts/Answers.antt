use Rattle.std.proofs.Common.{◌≡◌, ◌+◌, true, false, List, [], ◌∷◌, ◌++◌, sym, ap, ◌∙◌, subst, take, arith}
use Rattle.std.proofs.lemmas.List.{append-nil, append_assoc, take_more}
use Rattle.px_cnf.specs.declared.literal.Literal.{Literal}
use Rattle.px_sat.specs.Logs.{IsClause, Follows, IsLog}
use Rattle.px_sat.specs.Denials.{IsChecked}
use Rattle.px_sat.proofs.ListLemmas.{none_of}
use Rattle.px_sat.proofs.LogLemmas.{log_more}
use Rattle.px_sat.proofs.SolveLemmas.{some_of, begin_falsifies}
use Rattle.px_sat.proofs.AcceptLemmas.{log_at}
use Rattle.px_sat.proofs.accepting.accepts.Goals as goal

pub loop-clause-init : goal.loop-clause-init
loop-clause-init c =
    let cs = c.args.cnf.now.clauses in
    let e : c.in_ok-clauses.clauses ≡ cs ++ [] = c.in_ok-clauses.ensures ∙ c.as_slice.ensures ∙ sym (append-nil cs) in
    record {
      checked = record {
        same = λ f. e;
        base = λ f. (
            let none = none_of c.in_ok-begin.field-0 (sym c.is_some-refuted.ensures ∙ f) in
            record { extends = c.in_ok-begin.ensures.extends; closed = c.in_ok-begin.ensures.closed none; filled = c.in_ok-begin.ensures.filled none });
        refuted = λ t. (
            let f = some_of c.in_ok-begin.field-0 (sym c.is_some-refuted.ensures ∙ t) c.in_ok-begin.ensures.falsified in
            subst (λ (ks : List (List Literal)). Follows ks []) e (begin_falsifies c.begin.new.trail f.0 c.in_ok-begin.ensures.extends f.1));
      };
      logged = tt;
    }

pub returns-then-not-branch : goal.returns-then-not-branch
returns-then-not-branch c =
    let cs = c.args.cnf.now.clauses in let i = c.loop-clause.clause-index in
    let a = c.in_ok-take.ensures.answer (cs ++ take i c.args.log.now) c.loop-clause.invariant.checked in (
      λ e. let f : false ≡ true = e in cc,
      λ r.
          let h = log_at c.args.cnf.now.variables cs c.args.log.now i c.clause-item.result r.0 (let t = c.loop-clause-test.true in omega arith) in
          let s = c.as_slice-in-loop-clause.ensures ∙ c.clause-item.is in
          let f = sym (a.1 (subst (IsClause c.args.cnf.now.variables) (sym s) h.0, subst (Follows (cs ++ take i c.args.log.now)) (sym s) h.1)) ∙ c.if-not-branch.true in cc,
    )

pub loop-clause-preserved : goal.loop-clause-preserved
loop-clause-preserved c =
    let cs = c.args.cnf.now.clauses in let i = c.loop-clause.clause-index in let log = c.args.log.now in
    let a = c.in_ok-take.ensures.answer (cs ++ take i log) c.loop-clause.invariant.checked in
    let b = c.in_ok-take.ensures.taken (cs ++ take i log) c.loop-clause.invariant.checked c.if-not-branch.false in
    let h = a.0 c.if-not-branch.false in
    let m : take (i + 1) log ≡ take i log ++ c.as_slice-in-loop-clause.result.now ∷ [] = take_more log i c.clause-item.result (let t = c.loop-clause-test.true in omega arith) ∙ ap (λ (k : List Literal). take i log ++ k ∷ []) (sym (c.as_slice-in-loop-clause.ensures ∙ c.clause-item.is)) in
    record {
      checked = subst (IsChecked c.take.new.self) (append_assoc cs (take i log) (c.as_slice-in-loop-clause.result.now ∷ []) ∙ ap (λ (l : List (List Literal)). cs ++ l) (sym m)) b;
      logged = subst (IsLog c.args.cnf.now.variables cs) (sym m) (log_more c.args.cnf.now.variables cs (take i log) c.as_slice-in-loop-clause.result.now c.loop-clause.invariant.logged h.0 h.1);
    }
