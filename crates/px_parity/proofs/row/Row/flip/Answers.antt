use Rattle.std.proofs.Common.{◌<◌, ◌/◌, length, arith}
use Rattle.px_parity.proofs.BitLemmas.{words_inside, flipped}
use Rattle.px_parity.proofs.row.Row.flip.Goals as goal

pub index_mut-requires : goal.index_mut-requires
index_mut-requires c =
    let l : c.args.at / 64 < length c.self.inside.words.items = words_inside c.self.inside.words.items c.args.self.now c.args.at c.self.view_is c.requires in
    omega (arith, c.self.inside.words.ok)

pub returns : goal.returns
returns c = flipped c.self.inside.words.items c.args.self.now c.args.at c.index_mut.result.now c.self.view_is c.requires c.index_mut.ensures.value
