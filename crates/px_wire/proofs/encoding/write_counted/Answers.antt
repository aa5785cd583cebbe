use Rattle.std.proofs.Common.{◌≡◌, ◌++◌, ap, subst, ◌∙◌}
use Rattle.px_frames.specs.Frames.{frame_of}
use Rattle.px_spelling.specs.Numbers.{u32_bytes}
use Rattle.px_wire.specs.Versions.{message_tree, bytes_in}
use Rattle.px_wire.specs.Sinks.{IsWritten}
use Rattle.px_wire.proofs.encoding.write_counted.Goals as goal

pub returns : goal.returns
returns g c =
    let s = g.K.Sink in
    let before = c.args.sink.now in
    let bytes = bytes_in c.args.message.now.version (message_tree c.args.message.now) in
    let length_is : c.write.new.out.given.items ≡ u32_bytes c.args.count = c.write.ensures.written ∙ ap (λ z. z ++ u32_bytes c.args.count) c.new_buffer-out.ensures.given in
    let all : c.write_message.new.out.given.items ≡ frame_of bytes = c.write_message.ensures.written ∙ ap (λ z. z ++ bytes) (length_is ∙ ap u32_bytes c.requires.counted) in
    subst (λ z. IsWritten s.told s.takes s.count before z c.finish.result c.finish.new.sink) all
    (c.finish.ensures before (c.write_message.ensures.reached before (c.write.ensures.reached before (c.new_buffer-out.ensures.begun before))))
