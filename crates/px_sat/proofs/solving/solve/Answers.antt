use Rattle.std.proofs.Common.{◌≡◌, ◌≢◌, List, [], ◌∷◌, ◌++◌, None, IfSome, refl, sym, ap, ◌∙◌, subst, arith}
use Rattle.std.specs.List.{Contains}
use Rattle.std.proofs.lemmas.List.{append-nil, take_all}
use Rattle.std.proofs.lemmas.List.Elements.{All-nil, Contains-append_left}
use Rattle.px_cnf.specs.Clauses.{AreClausesBelow}
use Rattle.px_cnf.specs.declared.literal.Literal.{Literal}
use Rattle.px_sat.specs.declared.step.Step.{Step}
use Rattle.px_sat.specs.Logs.{Follows, IsTurn, IsSearchLog}
use Rattle.px_sat.specs.Steps.{begun, HasNoEmpty, IsClosedTo}
use Rattle.px_sat.specs.Searches.{IsTurned}
use Rattle.px_sat.specs.Verdicts.{EndsEmpty}
use Rattle.px_sat.proofs.ListLemmas.{none_of}
use Rattle.px_sat.proofs.SearchLemmas.{steps_extend}
use Rattle.px_sat.proofs.ReachedLemmas.{distinct_of}
use Rattle.px_sat.proofs.LogLemmas.{all_met}
use Rattle.px_sat.proofs.SolveLemmas.{some_of, ended_at_once, ended, logged_next, clauses_next, count_next, some_next, below_next, filled_next}
use Rattle.px_sat.proofs.solving.solve.Goals as goal

pub returns-then-is_some : goal.returns-then-is_some
returns-then-is_some c =
    let cs = c.args.cnf.now.clauses in
    let e : c.in_ok-clauses.clauses ≡ cs = c.in_ok-clauses.ensures ∙ c.as_slice.ensures in
    let l : c.push.new.self.items ≡ [] ∷ [] = rw (c.in_ok-push.ensures.items, c.new-log.ensures.items, c.new.ensures) refl in
    let f = some_of c.in_ok-begin.field-0 (sym c.is_some.ensures ∙ c.if-is_some.true) c.in_ok-begin.ensures.falsified in
    rw l (subst (λ (ks : List (List Literal)). IsSearchLog c.args.cnf.now.variables ks ([] ∷ []) × EndsEmpty ([] ∷ [])) e (ended_at_once c.args.cnf.now.variables c.in_ok-clauses.clauses c.begin.new.trail f.0 c.in_ok-begin.ensures.extends f.1))

pub loop-turn-init : goal.loop-turn-init
loop-turn-init c =
    let cs = c.args.cnf.now.clauses in
    let e : c.in_ok-clauses.clauses ≡ cs = c.in_ok-clauses.ensures ∙ c.as_slice.ensures in
    let none = none_of c.in_ok-begin.field-0 (sym c.is_some.ensures ∙ c.if-is_some.false) in
    record {
      clauses = e ∙ sym (append-nil cs) ∙ ap (λ (l : List (List Literal)). cs ++ l) (sym c.new-log.ensures.items);
      logged = subst (IsSearchLog c.args.cnf.now.variables cs) (sym c.new-log.ensures.items) (tt, tt);
      count = rw c.new-log.ensures.items refl;
      some = rw c.new-log.ensures.items (All-nil (λ (k : List Literal). k ≢ []));
      below = subst (AreClausesBelow c.args.cnf.now.variables) (sym e) c.requires;
      filled = c.in_ok-begin.ensures.filled none;
      search = steps_extend (begun refl) c.in_ok-begin.ensures.extends;
      closed = subst (λ (ss : List Step). IsClosedTo c.in_ok-clauses.clauses ss c.begin.new.trail) (sym (take_all c.len.result c.begin.new.trail (let l = c.len.ensures in omega arith))) (c.in_ok-begin.ensures.closed none);
      known = λ x h. absurd (omega arith);
    }

pub returns-in_default : goal.returns-in_default
returns-in_default c =
    let n = c.args.cnf.now.variables in let cs = c.args.cnf.now.clauses in
    let i = c.loop-turn.invariant in
    let none : c.in_ok-at.field-0 ≡ None = c.in_default.is in (
      c.in_ok-values_of.ensures.all,
      all_met n c.descend.new.trail c.in_ok-values_of.field-0.items (distinct_of c.in_ok-at.ensures.search) c.in_ok-values_of.ensures c.loop-turn.clauses cs
          (c.in_ok-at.ensures.closed none) i.filled i.below (c.in_ok-at.ensures.known none)
          (λ k m. subst (λ (ks : List (List Literal)). Contains ks k) (sym i.clauses) (Contains-append_left cs c.loop-turn.log.items k m)),
    )

pub returns-in-None : goal.returns-in-None
returns-in-None c =
    let n = c.args.cnf.now.variables in let cs = c.args.cnf.now.clauses in
    let i = c.loop-turn.invariant in
    let f = c.in_ok-learn.ensures.ended c.in-None.is in
    rw f.2 (ended n cs c.loop-turn.log.items i.logged (subst (λ (ks : List (List Literal)). Follows ks []) i.clauses f.0) (subst (λ (ks : List (List Literal)). IsTurn n ks []) i.clauses f.1))

pub loop-turn-preserved : goal.loop-turn-preserved
loop-turn-preserved c =
    let n = c.args.cnf.now.variables in let cs = c.args.cnf.now.clauses in
    let i = c.loop-turn.invariant in let log = c.loop-turn.log.items in
    let s : IsTurned n c.loop-turn.clauses c.learn.new.clauses log c.learn.new.log.items c.learn.new.trail c.in-Some-2.next =
    subst (λ o. IfSome o (IsTurned n c.loop-turn.clauses c.learn.new.clauses log c.learn.new.log.items c.learn.new.trail)) c.in-Some-2.is c.in_ok-learn.ensures.turned in
    let t : IsTurned n (cs ++ log) c.learn.new.clauses log c.learn.new.log.items c.learn.new.trail c.in-Some-2.next =
    subst (λ (ks : List (List Literal)). IsTurned n ks c.learn.new.clauses log c.learn.new.log.items c.learn.new.trail c.in-Some-2.next) i.clauses s in
    record {
      clauses = clauses_next n cs log c.learn.new.clauses c.learn.new.log.items c.learn.new.trail c.in-Some-2.next t;
      logged = logged_next n cs log c.learn.new.clauses c.learn.new.log.items c.learn.new.trail c.in-Some-2.next t i.logged;
      count = count_next n cs log c.learn.new.clauses c.learn.new.log.items c.learn.new.trail c.in-Some-2.next t c.loop-turn.turn i.count;
      some = some_next n cs log c.learn.new.clauses c.learn.new.log.items c.learn.new.trail c.in-Some-2.next t i.some;
      below = below_next n cs log c.learn.new.clauses c.learn.new.log.items c.learn.new.trail c.in-Some-2.next t (subst (AreClausesBelow n) i.clauses i.below);
      filled = filled_next n cs log c.learn.new.clauses c.learn.new.log.items c.learn.new.trail c.in-Some-2.next t (subst HasNoEmpty i.clauses i.filled);
      search = t.search;
      closed = t.closed;
      known = t.known;
    }
