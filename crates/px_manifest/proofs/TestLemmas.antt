-- The tests of what asks nothing, and of what looks manifest, are exact.
use Rattle.std.proofs.Common.{◌≡◌, ℕ, true, false, not, ◌&&◌, List, [], ◌∷◌, refl, ap}
use Rattle.std.specs.Prelude.{All}
use Rattle.std.specs.List.{list_all}
use Rattle.std.proofs.lemmas.Bool.{and_parts, and_from, not-true, not_from_false}
use Rattle.px_terms.specs.Variables.{mentioned}
use Rattle.px_terms.specs.Valuations.{valuation_of}
use Rattle.px_terms.specs.Conjuncts.{IsTrueUnder}
use Rattle.px_terms.specs.declared.variables.VarInfo.{VarInfo}
use Rattle.px_terms.specs.declared.conjuncts.Conj.{Conj}
use Rattle.px_entry.specs.declared.atoms.Atom.{Atom}
use Rattle.px_entry.specs.declared.entries.Entry.{Entry}
use Rattle.px_entry.specs.declared.entries.Exit.{Exit}
use Rattle.px_entry.specs.declared.entries.Exit.TheVariants.{Ok, Error}
use Rattle.px_entry.specs.Sorts.{is_given}
use Rattle.px_entry.specs.Constraint.{separate}
use Rattle.px_entry.specs.Satisfied.{IsSatisfied}
use Rattle.std.proofs.Math.Logic.{∥∥₁_elim}
use Rattle.px_entry.specs.declared.derivations.Step.{Step}
use Rattle.px_callgraph.specs.JobTree.{JobTree}
use Rattle.px_callgraph.specs.Derivations.{Derives}
use Rattle.px_terms.proofs.Evaluation.{All-left}
use Rattle.px_entry.proofs.Lists.{each_from, each_to, each_all, all_each}
use Rattle.px_terms.proofs.TruthProps.{all_true_prop}
use Rattle.px_manifest.specs.LooksManifest.{IsError, MentionsNoneGiven, AsksNothing, LooksManifest, is_error, has_none, mentions_none_given, asks_nothing, looks_manifest}
use Rattle.px_manifest.specs.Laws.{TestsDecide}

from_error : (e : Exit) → is_error e ≡ true → IsError e
from_error Ok e = cc
from_error (Error kind site) e = tt

to_error : (e : Exit) → IsError e → is_error e ≡ true
to_error Ok h = absurd h
to_error (Error kind site) h = refl

from_none : (xs : List Atom) → has_none xs ≡ true → xs ≡ []
from_none [] e = refl
from_none (a ∷ xs) e = cc

to_none : (xs : List Atom) → xs ≡ [] → has_none xs ≡ true
to_none xs e = ap has_none e

module _ (vars : List VarInfo) where
  abbrev Free : ℕ → Type 0
  Free x = is_given vars x ≡ false

  from_conjunct : (c : Conj) → mentions_none_given vars c ≡ true → MentionsNoneGiven vars c
  from_conjunct c e = each_all Free (mentioned c) (each_from (λ x. not (is_given vars x)) Free (λ x. not-true (is_given vars x)) (mentioned c) e)

  to_conjunct : (c : Conj) → MentionsNoneGiven vars c → mentions_none_given vars c ≡ true
  to_conjunct c h = each_to (λ x. not (is_given vars x)) Free (λ x. not_from_false (is_given vars x)) (mentioned c) (all_each Free (mentioned c) h)

-- the own values make the conjuncts true that stand in the constraint
own_values : (x : Entry) → IsSatisfied x → All (IsTrueUnder (valuation_of x.model)) x.pure
own_values x s = All-left (IsTrueUnder (valuation_of x.model)) x.pure (separate x.vars x.post) s.values.true_of

pub from_free : (x : Entry) → All (IsTrueUnder (valuation_of x.model)) x.pure → asks_nothing x ≡ true → AsksNothing x
from_free x own e =
    let b = and_parts (has_none x.pre) (list_all (mentions_none_given x.vars) x.pure) e in
    record {
      finds_none = from_none x.pre b.0;
      assumes_nothing_given = each_all (MentionsNoneGiven x.vars) x.pure (each_from (mentions_none_given x.vars) (MentionsNoneGiven x.vars) (from_conjunct x.vars) x.pure b.1);
      own_values = own;
    }

pub to_free : (x : Entry) → AsksNothing x → asks_nothing x ≡ true
to_free x l =
    and_from (has_none x.pre) (list_all (mentions_none_given x.vars) x.pure) (to_none x.pre l.finds_none)
    (each_to (mentions_none_given x.vars) (MentionsNoneGiven x.vars) (to_conjunct x.vars) x.pure (all_each (MentionsNoneGiven x.vars) x.pure l.assumes_nothing_given))

pub from_test : (x : Entry) → All (IsTrueUnder (valuation_of x.model)) x.pure → looks_manifest x ≡ true → LooksManifest x
from_test x own e = let b = and_parts (is_error x.exit) (asks_nothing x) e in record { fails = from_error x.exit b.0; asks = from_free x own b.1 }

pub to_test : (x : Entry) → LooksManifest x → looks_manifest x ≡ true
to_test x l = and_from (is_error x.exit) (asks_nothing x) (to_error x.exit l.fails) (to_free x l.asks)

pub tests_decide : TestsDecide
tests_decide = record { asks = λ x s. (from_free x (own_values x s), to_free x); looks = λ x s. (from_test x (own_values x s), to_test x) }

-- what was checked has such values
pub known_values : (j : JobTree) (x : Entry) → ∥ ((steps : List Step) × Derives j x steps) ∥₁ → All (IsTrueUnder (valuation_of x.model)) x.pure
known_values j x h = ∥∥₁_elim h (all_true_prop (valuation_of x.model) x.pure) (λ d. own_values x d.1.is_end.satisfied)
