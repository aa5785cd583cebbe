use Rattle.px_plain.proofs.classes.join_flat.Goals as goal

pub returns-clause-some : goal.returns-clause-some
returns-clause-some c = λ e.
    let same = c.flatten.ensures.same in
    record {
      forest = c.flatten.ensures.forest;
      flat = c.flatten.ensures.flat;
      there = λ val a. same.there val (c.join_all.ensures.new val (c.requires.free val) a).1;
      back = λ val k. c.join_all.ensures.joined c.if-not-join_all.false val (same.back val k);
    }
