use denote.Param.{param}
use denote.Param.Send.{IsSend, sendable, view_send, recorded_send, struct_send}
use denote.Struct.Declared.{shape}
use Rattle.std.proofs.Crossing.{crosses}
use Rattle.std.proofs.sync.ledger.Share.TheSendSync as share
use Rattle.px_book.proofs.CrossLemmas.{job_send, book_send}
use Rattle.px_drivers.specs.contracts.driver.Driver as Driver
use Rattle.px_drivers.specs.contracts.driver.Driver.TheInside as inside
use Rattle.px_drivers.proofs.driving.round.Goals as goal

pub for_each_mut-requires-send-T : goal.for_each_mut-requires-send-T
for_each_mut-requires-send-T g c κs within =
    let k = c.type_bounds.send-K in
    let l = c.type_bounds.send-L in
    let driver : IsSend (Driver.the_row (param 1 g.row.K) (param 2 g.row.L) (param 3 g.row.K-Word) g.K.Link g.K.Word.Honesty g.L.Ledger) =
    view_send (inside.the_row (param 1 g.row.K) (param 2 g.row.L) (param 3 g.row.K-Word) g.K.Link g.K.Word.Honesty g.L.Ledger) _ _ _ _
    (recorded_send (inside.the_field (param 1 g.row.K) (param 2 g.row.L) (param 3 g.row.K-Word) g.K.Link g.K.Word.Honesty g.L.Ledger).row _ _ (inside.the_type (param 1 g.row.K) (param 2 g.row.L) (param 3 g.row.K-Word) g.K.Link g.K.Word.Honesty g.L.Ledger).to_one
    (struct_send (shape (inside.the_type (param 1 g.row.K) (param 2 g.row.L) (param 3 g.row.K-Word) g.K.Link g.K.Word.Honesty g.L.Ledger)) (
      search sendable depth 20,
      (
        search sendable depth 20,
        (
          k,
          (
            search sendable depth 20,
            (
              search sendable depth 20,
              (
                search (job_send, sendable) depth 20,
                (search (share.the_send, sendable) depth 60, (search (share.the_send, sendable) depth 60, tt)),
              ),
            ),
          ),
        ),
      ),
    ))) in
    search sendable depth 20

pub for_each_mut-requires-sync-F : goal.for_each_mut-requires-sync-F
for_each_mut-requires-sync-F g c κs within =
    let r = c.type_bounds.sync-R in
    let book = book_send _ _ g.K.Word.Honesty g.L.Ledger c.type_bounds.send-K-Word c.type_bounds.send-L in
    search (crosses, sendable) depth 60
