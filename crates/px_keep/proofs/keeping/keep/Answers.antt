use Rattle.std.proofs.Common.{◌∙◌, ◌≤◌, ◌++◌, ℕ, List, length, refl, sym, ap, arith}
use Rattle.px_symexec.specs.One.{Work}
use Rattle.px_jobs.specs.Sources.{SourceParts, source_work}
use Rattle.px_keep.specs.Items.{head}
use Rattle.px_keep.specs.Keeping.{IsOwn}
use Rattle.px_keep.proofs.MakingLemmas.{none_made}
use Rattle.px_keep.proofs.PartLemmas.{can_be_made}
use Rattle.px_keep.proofs.KeepLemmas.{nothing_kept, keeps_all}
use Rattle.px_keep.proofs.keeping.keep.Goals as goal

pub loop-place-init : goal.loop-place-init
loop-place-init g c =
    let s : SourceParts = record { bodies = c.args.bodies; types = c.args.types; limits = c.args.limits; kinds = c.args.kinds; out = c.args.out } in
    let w : Work = source_work s c.args.kept in
    record {
      made = none_made IsOwn w c.in_ok-order.order.items c.in_ok-progress.progress.parts.items c.in_ok-progress.progress.uses.items
          (c.in_ok-order.ensures.ordered w refl (sym c.as_slice.ensures) c.requires.graph) c.in_ok-progress.ensures.parts c.in_ok-progress.ensures.uses;
      keeps = nothing_kept w c.in_ok-order.order.items c.in_ok-progress.progress.parts.items c.put_head.new.out.items (c.in_ok-put_head.ensures ∙ ap (λ (bytes : List ℕ). bytes ++ head) c.new-bytes.ensures.items);
      now = c.requires.kinds;
      clear = c.requires.clear;
      first = c.requires.kinds;
    }

pub keep_part-requires-clause-order : goal.keep_part-requires-clause-order
keep_part-requires-clause-order g c =
    let s : SourceParts = record { bodies = c.args.bodies; types = c.args.types; limits = c.args.limits; kinds = c.args.kinds; out = c.args.out } in
    can_be_made s c.in_ok-sources.sources c.args.graph.now c.args.kept c.in_ok-order.order.items c.deref.result.now c.in_ok-sources.ensures c.deref.ensures.value c.requires.kept c.requires.bodies c.requires.graph
    c.requires.few (c.in_ok-order.ensures.ordered (source_work s c.args.kept) refl (sym c.as_slice.ensures) c.requires.graph)

pub returns-clause-keeps : goal.returns-clause-keeps
returns-clause-keeps g c =
    let s : SourceParts = record { bodies = c.args.bodies; types = c.args.types; limits = c.args.limits; kinds = c.args.kinds; out = c.args.out } in
    let w : Work = source_work s c.args.kept in
    let m = c.loop-place.progress in
    let n = c.len-place-end.ensures in
    let last : length c.in_ok-order.order.items ≤ c.loop-place.place = omega (arith, c.loop-place-test.false) in
    keeps_all w c.in_ok-order.order.items m.parts.items m.uses.items c.loop-place.bytes.items c.loop-place.place
    (c.in_ok-order.ensures.ordered w refl (sym c.as_slice.ensures) c.requires.graph) (c.in_ok-order.ensures.ranked w refl (sym c.as_slice.ensures) c.requires.graph)
    c.loop-place.invariant.made c.loop-place.invariant.keeps last
