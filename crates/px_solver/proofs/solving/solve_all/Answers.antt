use Rattle.std.proofs.Common.{ℕ, length, get_or, arith, ◌∙◌, rules}
use Rattle.px_solver.proofs.SolvingLemmas.{null_kept, easy_kept, solved_more, solved_before}
use Rattle.px_solver.proofs.solving.solve_all.Goals as goal

pub returns-in_err-solve_if_hard-clause-zero : goal.returns-in_err-solve_if_hard-clause-zero
returns-in_err-solve_if_hard-clause-zero c =
    let h = c.loop-home.home in let low = c.loop-home.auto.home in
    null_kept c.args.layout.now.node_homes.items h (λ v. get_or c.solve_if_hard.new.roots v 0) (λ v. get_or c.loop-home.roots v 0) (omega arith) c.requires.null c.solve_if_hard.ensures.others c.loop-home.invariant.zero

pub returns-in_err-solve_if_hard-clause-easy : goal.returns-in_err-solve_if_hard-clause-easy
returns-in_err-solve_if_hard-clause-easy c =
    let l = c.args.layout.now in
    easy_kept l.node_homes.items l.hard.items c.loop-home.home (λ v. get_or c.solve_if_hard.new.roots v 0) (λ v. get_or c.loop-home.roots v 0) (λ v. get_or c.args.roots.now v 0) (length c.args.table.now)
    c.solve_if_hard.ensures.others c.solve_if_hard.ensures.easy c.loop-home.invariant.easy

pub returns-then-not-branch-clause-zero : goal.returns-then-not-branch-clause-zero
returns-then-not-branch-clause-zero c =
    let h = c.loop-home.home in let low = c.loop-home.auto.home in
    null_kept c.args.layout.now.node_homes.items h (λ v. get_or c.solve_if_hard.new.roots v 0) (λ v. get_or c.loop-home.roots v 0) (omega arith) c.requires.null c.solve_if_hard.ensures.others c.loop-home.invariant.zero

pub returns-then-not-branch-clause-easy : goal.returns-then-not-branch-clause-easy
returns-then-not-branch-clause-easy c =
    let l = c.args.layout.now in
    easy_kept l.node_homes.items l.hard.items c.loop-home.home (λ v. get_or c.solve_if_hard.new.roots v 0) (λ v. get_or c.loop-home.roots v 0) (λ v. get_or c.args.roots.now v 0) (length c.args.table.now)
    c.solve_if_hard.ensures.others c.solve_if_hard.ensures.easy c.loop-home.invariant.easy

pub returns-then-not-branch-clause-solved : goal.returns-then-not-branch-clause-solved
returns-then-not-branch-clause-solved c =
    let h = c.loop-home.home in let low = c.loop-home.auto.home in
    solved_before c.args.table.now c.args.conjuncts.now c.args.layout.now h (length c.args.table.now) (λ v. get_or c.solve_if_hard.new.roots v 0) (λ v. get_or c.loop-home.roots v 0) (omega arith)
    c.solve_if_hard.ensures.others c.loop-home.invariant.solved

pub loop-home-preserved : goal.loop-home-preserved
loop-home-preserved c =
    let l = c.args.layout.now in
    let h = c.loop-home.home in let low = c.loop-home.auto.home in
    let e = c.solve_if_hard.ensures in
    let new = λ (v : ℕ). get_or c.solve_if_hard.new.roots v 0 in
    let old = λ (v : ℕ). get_or c.loop-home.roots v 0 in
    record {
      size = e.size ∙ c.loop-home.invariant.size;
      zero = null_kept l.node_homes.items h new old (omega arith) c.requires.null e.others c.loop-home.invariant.zero;
      easy = easy_kept l.node_homes.items l.hard.items h new old (λ v. get_or c.args.roots.now v 0) (length c.args.table.now) e.others e.easy c.loop-home.invariant.easy;
      solved = solved_more c.args.table.now c.args.conjuncts.now l h new old e.others c.loop-home.invariant.zero (search rules) c.loop-home.invariant.solved;
    }
