use Rattle.std.proofs.Common.{◌≡◌, ◌≤◌, length, leb, subst, true, false, rules}
use Rattle.std.specs.List.Sorted.{IsPartitionPoint}
use Rattle.std.proofs.lemmas.List.Sorted.{IsPartitionPoint-from_clause}
use Rattle.px_lexer.proofs.SiteLemmas.{parted, line_is}
use Rattle.px_lexer.proofs.places.Lines.line.Goals as goal

pub returns : goal.returns
returns c =
    let starts = c.args.self.now.starts.items in
    let at = c.args.at in
    let same = c.deref.ensures.value in
    let point = IsPartitionPoint-from_clause (λ start. leb start at) _ _ c.partition_point.ensures.partitioned (rw same (parted starts at c.args.self.now.rising)) (λ a r q k. search rules) in
    let within : c.partition_point.result ≤ length starts = subst (λ z. c.partition_point.result ≤ length z) same c.partition_point.ensures.bound in
    let line = line_is starts at c.partition_point.result c.args.self.now.rising within (subst (λ z. IsPartitionPoint (λ y. leb y at ≡ true) (λ y. leb y at ≡ false) z c.partition_point.result) same point) in
    record { exact = line.exact; within = within; begun = line.begun; few = line.few }
