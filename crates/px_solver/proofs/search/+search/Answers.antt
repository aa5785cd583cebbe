use Rattle.std.proofs.Common.{ℕ, ◌<◌, List, ◌∷◌, length, get_or, set, sym, subst, ◌∙◌, arith, below_more}
use Rattle.std.specs.Prelude.{All}
use Rattle.std.proofs.lemmas.List.Elements.{All-tail, All-head}
use Rattle.px_solver.specs.Tables.{AgreeOutside, Works, FirstWork, AreApart}
use Rattle.px_solver.proofs.SearchLemmas.{empty_found, empty_none, one_found, one_none, all_none, written_here, written_outside, still_outside, first_apart, rest_apart}
use Rattle.px_solver.proofs.search.+search.Goals as goal

pub returns-in_default-clause-found : goal.returns-in_default-clause-found
returns-in_default-clause-found t c = λ e.
    let none = rw c.in_default.is at c.split_first.ensures.cases in
    empty_found c.args.table.now c.args.conjuncts.now c.args.indexes.now c.args.values.now (λ v. get_or c.args.roots.now v 0) c.args.members.now none (c.are_true.ensures.yes e)

pub returns-in_default-clause-none : goal.returns-in_default-clause-none
returns-in_default-clause-none t c = λ e.
    let none = rw c.in_default.is at c.split_first.ensures.cases in
    empty_none c.args.table.now c.args.conjuncts.now c.args.indexes.now c.args.values.now (λ v. get_or c.args.roots.now v 0) c.args.members.now none (c.are_true.ensures.no e)

pub search-requires : goal.search-requires
search-requires t c =
    let cut = c.in-Some.ensures.cases in
    let size = cut.1 in
    let r = c.in-Some.first.now in
    let rest = c.in-Some.rest.now in
    let inside = c.args.table.now in
    let fall = c.decreases in
    let same = Rattle.std.proofs.Math.ListN.length-set c.loop-i.roots c.in-Some.first.now (get_or c.args.values.now c.loop-i.i 0) in
    let so_far = c.loop-i.invariant.so_far in
    let first = c.requires.size in (
      omega arith,
      (
        c.requires.forest,
        (
          same ∙ so_far ∙ first,
          (
            c.requires.small,
            (
              c.requires.inside,
              (
                c.requires.places,
                (
                  All-tail (λ x. x < length inside) r rest (subst (All (λ x. x < length inside)) cut.0 c.requires.members),
                  rest_apart r rest (subst AreApart cut.0 c.requires.apart),
                ),
              ),
            ),
          ),
        ),
      ),
    )

pub returns-then-search-clause-others : goal.returns-then-search-clause-others
returns-then-search-clause-others t c =
    let cut = c.in-Some.ensures.cases in
    let r = c.in-Some.first.now in
    let rest = c.in-Some.rest.now in
    let x = get_or c.args.values.now c.loop-i.i 0 in
    let base = λ (v : ℕ). get_or c.args.roots.now v 0 in
    let so_far = c.loop-i.invariant.so_far in
    let size = c.requires.size in
    let inside = All-head (λ x. x < length c.args.table.now) r rest (subst (All (λ x. x < length c.args.table.now)) cut.0 c.requires.members) in
    let next = written_outside c.loop-i.roots r x rest (omega arith) base (subst (λ z. AgreeOutside z (λ v. get_or c.loop-i.roots v 0) base) cut.0 c.loop-i.invariant.others) in
    subst (λ z. AgreeOutside z (λ v. get_or c.search.new.roots v 0) base) (sym cut.0)
    (still_outside r rest (λ v. get_or c.search.new.roots v 0) (λ v. get_or (set c.loop-i.roots r x) v 0) base c.search.ensures.others next)

pub returns-then-search-clause-found : goal.returns-then-search-clause-found
returns-then-search-clause-found t c = λ e.
    let cut = c.in-Some.ensures.cases in
    let r = c.in-Some.first.now in
    let rest = c.in-Some.rest.now in
    let tb = c.args.table.now in
    let cs = c.args.conjuncts.now in
    let is = c.args.indexes.now in
    let vs = c.args.values.now in
    let x = get_or vs c.loop-i.i 0 in
    let base = λ (v : ℕ). get_or c.args.roots.now v 0 in
    let so_far = c.loop-i.invariant.so_far in
    let size = c.requires.size in
    let inside = All-head (λ x. x < length tb) r rest (subst (All (λ x. x < length tb)) cut.0 c.requires.members) in
    let next = written_outside c.loop-i.roots r x rest (omega arith) base (subst (λ z. AgreeOutside z (λ v. get_or c.loop-i.roots v 0) base) cut.0 c.loop-i.invariant.others) in
    subst (λ z. FirstWork tb cs is vs base z (λ v. get_or c.search.new.roots v 0)) (sym cut.0)
    (one_found tb cs is vs base (λ v. get_or (set c.loop-i.roots r x) v 0) r rest c.loop-i.i (first_apart r rest (subst AreApart cut.0 c.requires.apart))
    (written_here c.loop-i.roots r x rest (omega arith)) next (λ v. get_or c.search.new.roots v 0) c.loop-i-test.true c.search.ensures.others (c.search.ensures.found c.if-search.true)
    (subst (λ z. (j : ℕ) → j < c.loop-i.i → (js : List ℕ) → ¬ Works tb cs is vs base z (j ∷ js)) cut.0 c.loop-i.invariant.none))

pub loop-i-preserved : goal.loop-i-preserved
loop-i-preserved t c =
    let cut = c.in-Some.ensures.cases in
    let r = c.in-Some.first.now in
    let rest = c.in-Some.rest.now in
    let tb = c.args.table.now in
    let cs = c.args.conjuncts.now in
    let is = c.args.indexes.now in
    let vs = c.args.values.now in
    let x = get_or vs c.loop-i.i 0 in
    let base = λ (v : ℕ). get_or c.args.roots.now v 0 in
    let so_far = c.loop-i.invariant.so_far in
    let size = c.requires.size in
    let inside = All-head (λ x. x < length tb) r rest (subst (All (λ x. x < length tb)) cut.0 c.requires.members) in
    let next = written_outside c.loop-i.roots r x rest (omega arith) base (subst (λ z. AgreeOutside z (λ v. get_or c.loop-i.roots v 0) base) cut.0 c.loop-i.invariant.others) in
    let same = Rattle.std.proofs.Math.ListN.length-set c.loop-i.roots c.in-Some.first.now (get_or c.args.values.now c.loop-i.i 0) in
    record {
      so_far = c.search.ensures.size ∙ same ∙ so_far;
      others = subst (λ z. AgreeOutside z (λ v. get_or c.search.new.roots v 0) base) (sym cut.0)
          (still_outside r rest (λ v. get_or c.search.new.roots v 0) (λ v. get_or (set c.loop-i.roots r x) v 0) base c.search.ensures.others next);
      none = below_more (λ j. (js : List ℕ) → ¬ Works tb cs is vs base c.args.members.now (j ∷ js)) c.loop-i.i c.loop-i.invariant.none
          (subst (λ z. (js : List ℕ) → ¬ Works tb cs is vs base z (c.loop-i.i ∷ js)) (sym cut.0)
          (one_none tb cs is vs base (λ v. get_or (set c.loop-i.roots r x) v 0) r rest c.loop-i.i (first_apart r rest (subst AreApart cut.0 c.requires.apart))
          (written_here c.loop-i.roots r x rest (omega arith)) next (c.search.ensures.none c.if-search.false)));
    }

pub returns-clause-none : goal.returns-clause-none
returns-clause-none t c = λ e.
    let cut = c.in-Some.ensures.cases in
    let r = c.in-Some.first.now in
    let rest = c.in-Some.rest.now in
    let tb = c.args.table.now in
    let cs = c.args.conjuncts.now in
    let is = c.args.indexes.now in
    let vs = c.args.values.now in
    let base = λ (v : ℕ). get_or c.args.roots.now v 0 in
    subst (λ z. (places : List ℕ) → ¬ Works tb cs is vs base z places) (sym cut.0)
    (all_none tb cs is vs base r rest c.loop-i.i c.loop-i-test.false (subst (λ z. (j : ℕ) → j < c.loop-i.i → (js : List ℕ) → ¬ Works tb cs is vs base z (j ∷ js)) cut.0 c.loop-i.invariant.none))
