use Rattle.std.proofs.Common.{ℕ, List, take, drop, length, sym, ap, ◌∙◌, arith}
use Rattle.std.specs.Prelude.{◌==◌, ◌||◌, ◌&&◌, nat_lt}
use Rattle.std.specs.List.{list_any}
use Rattle.px_io.proofs.SourceLemmas.{read_consumes}
use Rattle.px_io.proofs.byte_source.ByteSourceSource.read.Goals as goal

pub returns-clause-bytes : goal.returns-clause-bytes
returns-clause-bytes c =
    let bytes : List ℕ = c.args.self.now.bytes.items in
    let into : List ℕ = c.args.into.now in
    let at : ℕ = c.args.self.now.at in
    let count : ℕ = c.given-count.result in
    let g = c.given-count.ensures in
    read_consumes bytes into c.copy_from_slice.new.self at count
    (list_any (λ call. call == c.args.self.now.calls) c.args.self.now.failing.items)
    (c.copy_from_slice.ensures.after ∙ ap (take count) c.left.ensures)
    (omega arith)
    (omega arith)
    (ap (λ n. list_any (λ call. call == c.args.self.now.calls) c.args.self.now.failing.items || (n == 0 && (nat_lt 0 (length into) && nat_lt 0 (length (drop at bytes))))) g ∙ sym c.fails-fails.ensures ∙ c.if-fails.false)
