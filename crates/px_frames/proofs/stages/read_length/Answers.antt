use Rattle.std.proofs.Common.{rules, ◌≡◌, sym, subst, ◌∙◌, ◌+◌, ◌++◌, length, Ok, ◌-◌}
use Rattle.std.proofs.lemmas.List.{take_rest}
use Rattle.std.specs.Prelude.{take}
use Rattle.std.specs.Int.{w32, to_be_bytes}
use Rattle.px_frames.specs.Feeding.{IsFedOn}
use Rattle.px_frames.specs.Stages.{feeding_of}
use Rattle.px_frames.proofs.FedAfter.{fed_after_is_fed, length_bytes}
use Rattle.px_frames.proofs.stages.read_length.Goals as goal

-- the four bytes of the length, and nothing of the message
header : (c : goal.After-behind) → take c.args.have c.args.bytes ++ take (4 - c.args.have) c.args.piece.now ≡ to_be_bytes w32 c.from_be_bytes-length.result ++ c.in-Ok.part.items
header c =
    sym c.joined-whole.ensures
    ∙ length_bytes c.joined-whole.result c.in-Ok.part.items (c.args.have + length (take (4 - c.args.have) c.args.piece.now)) c.from_be_bytes-length.result
    (search rules) (search rules) (search rules) c.from_be_bytes-length.ensures c.in-Ok.ensures.items

-- src/stages.rt:50:1
pub returns-in-Ok-clause-fed : goal.returns-in-Ok-clause-fed
returns-in-Ok-clause-fed c =
    subst (λ f. IsFedOn (take c.args.have c.args.bytes) c.args.piece.now (Ok f) (feeding_of c.read_message-stage.result.0)) (sym c.behind.ensures)
    (fed_after_is_fed (take c.args.have c.args.bytes) c.args.piece.now (to_be_bytes w32 c.from_be_bytes-length.result ++ c.in-Ok.part.items) _ (4 - c.args.have) c.read_message-stage.result.1 (feeding_of c.read_message-stage.result.0)
    c.read_message-stage.ensures.fed (take_rest c.args.piece.now (4 - c.args.have)) (search rules) (header c))
