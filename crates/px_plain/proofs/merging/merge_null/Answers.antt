use Rattle.std.proofs.Common.{List, subst, ap, ◌∙◌}
use Rattle.px_plain.specs.declared.trees.Tree.{Tree}
use Rattle.px_plain.specs.declared.trees.Link.{Link}
use Rattle.px_plain.specs.Trees.{IsSomeOne, linked, unlinked}
use Rattle.px_plain.proofs.JoinLemmas.{cannot_be_null, the_link, is_link}
use Rattle.px_plain.proofs.TreeLinks.{taken_back}
use Rattle.px_plain.proofs.merging.merge_null.Goals as goal

pub returns : goal.returns
returns c =
    let t = c.args.table.now in
    let us = c.args.unequal.now in
    let a = c.args.a in
    let b = c.args.b in
    let no = c.link_apart.ensures.no c.if-link_apart.false in
    let first = c.link_of-first.ensures in
    let put = c.put_link.ensures ∙ ap (λ (l : Link). linked t l) first in
    let one = subst (λ z. IsSomeOne (linked c.put_link.new.table z) us) c.link_of-second.ensures no.1 in (
      c.take_link.ensures ∙ ap (λ (u : List Tree). unlinked u c.link_of-first.result) (no.0 ∙ put) ∙ ap (λ (l : Link). unlinked (linked t (the_link t a 0)) l) first
          ∙ taken_back t (the_link t a 0) (is_link t a 0 c.requires.first) c.requires.ranked,
      cannot_be_null t a b c.requires.first c.requires.second c.requires.two us
          (subst (λ z. IsSomeOne (linked z (the_link z b 0)) us) put one) c.requires.inside,
    )
