use Rattle.std.proofs.Common.{rules, ◌∙◌, ap, arith}
use Rattle.std.specs.Int.{w32, from_be_bytes}
use Rattle.px_pool.proofs.CountLemmas.{no_length, too_long, too_few, first_frame}
use Rattle.px_pool.proofs.whole_frames.first_frame.Goals as goal

pub returns-in_default-clause-none : goal.returns-in_default-clause-none
returns-in_default-clause-none c = no_length c.args.bytes.now c.in_default.ensures.cases

pub returns-then-length-gt-MOST_BYTES-clause-none : goal.returns-then-length-gt-MOST_BYTES-clause-none
returns-then-length-gt-MOST_BYTES-clause-none c =
    too_long c.args.bytes.now c.from_be_bytes-length.result (search rules) (c.from_be_bytes-length.ensures ∙ ap (from_be_bytes w32) c.in-Some.ensures.cases.0) (search rules)

pub returns-in-Some-split_at_checked-clause-found : goal.returns-in-Some-split_at_checked-clause-found
returns-in-Some-split_at_checked-clause-found c =
    first_frame c.args.bytes.now c.in-Some.named.now c.in-Some.behind.now c.in-Some-split_at_checked.message.now c.in-Some-split_at_checked.rest.now c.from_be_bytes-length.result c.in-Some.ensures.cases.0
    c.in-Some.ensures.cases.1 (search rules) (λ i. omega (arith, c.type_inv.bytes i)) c.from_be_bytes-length.ensures (search rules) (search rules) (search rules) (search rules)

pub returns-in-None-clause-none : goal.returns-in-None-clause-none
returns-in-None-clause-none c =
    too_few c.args.bytes.now c.from_be_bytes-length.result (search rules) (c.from_be_bytes-length.ensures ∙ ap (from_be_bytes w32) c.in-Some.ensures.cases.0) (search rules)
    (search rules)
