-- What a link in memory gives.
use Rattle.std.proofs.Common.{◌≡◌, sym, ◌∙◌, ap, arith, ℕ, ◌+◌, ◌≤◌, List, ◌++◌, length, length-take, append-nil, Bool}
use Rattle.std.specs.Prelude.{◌||◌, take, drop}
use Rattle.std.proofs.Math.Seq.{take-add}
use Rattle.std.proofs.lemmas.List.{take_at}
use Rattle.px_pool.specs.Talks.{Talk, followed_by, gives, is_end}
use Rattle.px_pool.proofs.LinkTalks.{talk_is}

-- the next bytes of a script, at the front of a slice, after those that were given
pub gives_more : (sent bytes into front : List ℕ) (at count : ℕ) (ended last : Bool) → front ≡ take count (drop at bytes) → count ≤ length (drop at bytes) →
    last ≡ is_end count (length (front ++ drop count into)) → (before after : Talk) → before ≡ record { sent = sent; given = take at bytes; ended = ended } →
    after ≡ record { sent = sent; given = take (at + count) bytes; ended = ended || last } → after ≡ followed_by before (gives count (front ++ drop count into))
gives_more sent bytes into front at count ended last is few end before after was now =
    let size : length front ≡ count = (let s = ap length is in grind (arith, length-take)) in
    let start : Talk = record { sent = sent; given = take at bytes; ended = ended } in
    let more : Talk = record { sent = sent; given = take (at + count) bytes; ended = ended || last } in
    now
    ∙ talk_is more (followed_by start (gives count (front ++ drop count into))) (sym (append-nil sent))
    (take-add at count bytes ∙ ap (λ l. take at bytes ++ l) (sym (take_at front (drop count into) count size ∙ is)))
    (ap (λ e. ended || e) end)
    ∙ ap (λ t. followed_by t (gives count (front ++ drop count into))) (sym was)
