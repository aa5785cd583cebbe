use Rattle.std.proofs.Common.{length, refl}
use Rattle.std.proofs.lemmas.Option.{slice_get_read}
use Rattle.px_explore.proofs.known.block_among.Goals as goal

pub returns-in-Some : goal.returns-in-Some
returns-in-Some c =
    let xs = c.args.atoms.now in
    let a = c.index-atoms-n.result in record {
      number = c.loop-n.n;
      atom = a;
      atom_is = slice_get_read xs (length xs) c.loop-n.n a refl c.loop-n-test.true c.index-atoms-n.is;
      place_is = c.in-Some.ensures.0;
      block_is = c.in-Some.ensures.1;
    }
