use Rattle.std.proofs.Common.{List, length, sym, ap, subst, ◌∙◌}
use Rattle.px_plain.specs.declared.trees.Tree.{Tree}
use Rattle.px_plain.specs.Differences.{AreInside}
use Rattle.px_plain.specs.Trees.{IsRanked, IsSomeOne, unlinked}
use Rattle.px_plain.proofs.TreeLinks.{ranked_linked, linked_length, taken_back}
use Rattle.px_plain.proofs.trees.link_apart.Goals as goal

pub is_some_one-requires : goal.is_some_one-requires
is_some_one-requires c =
    let t = c.args.table.now in
    let l = c.args.link in
    record {
      ranked = subst IsRanked (sym c.put_link.ensures) (ranked_linked t l c.requires.link c.requires.room c.requires.ranked);
      inside = subst (λ n. AreInside n c.args.unequal.now) (sym (ap length c.put_link.ensures ∙ linked_length t l c.requires.link)) c.requires.inside;
    }

pub returns-then-is_some_one-clause-no : goal.returns-then-is_some_one-clause-no
returns-then-is_some_one-clause-no c = λ e. (
  c.take_link.ensures ∙ ap (λ (u : List Tree). unlinked u c.args.link) c.put_link.ensures ∙ taken_back c.args.table.now c.args.link c.requires.link c.requires.ranked,
  subst (λ u. IsSomeOne u c.args.unequal.now) c.put_link.ensures (c.is_some_one.ensures.yes c.if-is_some_one.true),
)
