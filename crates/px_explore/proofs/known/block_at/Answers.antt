use Rattle.std.proofs.Common.{sym, ap, ◌∙◌, subst}
use Rattle.px_entry.specs.Sorts.{is_made}
use Rattle.px_explore.specs.Known.{IsAmong}
use Rattle.px_explore.proofs.SaidLemmas.{some_weaker}
use Rattle.px_explore.proofs.known.block_at.Goals as goal

pub returns : goal.returns
returns c =
    let x = c.args.place in
    some_weaker _ _ c.block_among.result (λ t h. record {
      among = subst (λ z. IsAmong z x t) c.as_slice-2.ensures h;
      found = sym (c.is_made.ensures ∙ ap (λ z. is_made z x.0) c.as_slice.ensures) ∙ c.if-is_made.false;
    }) c.block_among.ensures
