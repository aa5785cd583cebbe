use Rattle.std.proofs.Common.{◌≡◌, ℕ, ◌<◌, true, length, get_or, cond, ap, subst, arith}
use Rattle.std.proofs.lemmas.Bool.{ne_eqb}
use Rattle.px_solver.specs.Tables.{SelectsByHome, IsAtHome}
use Rattle.px_solver.specs.Layouts.{mark_at, HasSolved, stop_at}
use Rattle.px_solver.proofs.searching.search_all.Goals as goal

pub returns-then-failed-ne0 : goal.returns-then-failed-ne0
returns-then-failed-ne0 c =
    let e = c.in_ok-failed.ensures in
    let h = c.in_ok-failed.failed in
    let n = c.if-failed-ne0.true in
    let f = e.failed n in
    let l = c.args.layout.now in
    let size = length c.args.table.now in
    let stop : stop_at h size ≡ h = ap (λ b. cond b size h) (ne_eqb h 0 n) in
    record {
      home = h;
      low = omega arith;
      inside = f.0;
      hard = f.1;
      none = f.2;
      numbers = λ v. get_or c.solve_all.new.roots v 0;
      earlier = subst (λ z. (g : ℕ) → 0 < g → g < z → mark_at l.hard.items g ≡ true → HasSolved c.args.table.now c.args.conjuncts.now l g (λ v. get_or c.solve_all.new.roots v 0)) stop e.solved;
      selects = subst (λ z. SelectsByHome (IsAtHome h) c.args.conjuncts.now z c.in_ok-rest.rest) c.deref.ensures.value c.in_ok-rest.ensures;
    }
