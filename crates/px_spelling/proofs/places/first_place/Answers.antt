use Rattle.std.proofs.Common.{◌≡◌, ◌<◌, length, true, false, sym, arith, rules}
use Rattle.std.specs.Prelude.{slice_index_or}
use Rattle.std.specs.Ordering.{is_lt, is_eq}
use Rattle.std.proofs.lemmas.List.Sorted.{IsPartitionPoint-from_clause}
use Rattle.px_spelling.specs.ByPlace.{order_at}
use Rattle.px_spelling.proofs.IndexLemmas.{parted, past_all, first_there, other_there}
use Rattle.px_spelling.proofs.places.first_place.Goals as goal

pub returns-then-end-places : goal.returns-then-end-places
returns-then-end-places g c =
    let ts = g.L.Listed.polynomials c.args.terms.now in
    let p = c.args.polynomial.now in
    let ks = c.args.places.now in
    let end = IsPartitionPoint-from_clause (λ k. is_lt (order_at ts p k)) ks _ c.partition_point-end.ensures.partitioned (parted ts ks p c.requires) (λ a r q k. search rules) in
    sym (past_all ts ks p c.partition_point-end.result c.requires end (omega arith))

pub returns-then-is_eq : goal.returns-then-is_eq
returns-then-is_eq g c =
    let ts = g.L.Listed.polynomials c.args.terms.now in
    let p = c.args.polynomial.now in
    let ks = c.args.places.now in
    let end = IsPartitionPoint-from_clause (λ k. is_lt (order_at ts p k)) ks _ c.partition_point-end.ensures.partitioned (parted ts ks p c.requires) (λ a r q k. search rules) in
    let within : c.partition_point-end.result < length ks = omega (arith, c.partition_point-end.ensures.bound) in
    let here : is_eq (order_at ts p (slice_index_or ks c.partition_point-end.result 0)) ≡ true = cc in
    sym (first_there ts ks p c.partition_point-end.result 0 c.requires end within here)

pub returns-else-is_eq : goal.returns-else-is_eq
returns-else-is_eq g c =
    let ts = g.L.Listed.polynomials c.args.terms.now in
    let p = c.args.polynomial.now in
    let ks = c.args.places.now in
    let end = IsPartitionPoint-from_clause (λ k. is_lt (order_at ts p k)) ks _ c.partition_point-end.ensures.partitioned (parted ts ks p c.requires) (λ a r q k. search rules) in
    let within : c.partition_point-end.result < length ks = omega (arith, c.partition_point-end.ensures.bound) in
    let other : is_eq (order_at ts p (slice_index_or ks c.partition_point-end.result 0)) ≡ false = cc in
    sym (other_there ts ks p c.partition_point-end.result 0 c.requires end within other)
