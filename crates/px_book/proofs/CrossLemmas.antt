-- Which parts of a job and of a book may go to another thread. A search that goes down through all of one runs out of steps, so each part has its lemma.
use denote.RattleType.{RattleType}
use denote.Param.Send.{IsSend, sendable, view_send, recorded_send, struct_send}
use denote.Struct.Declared.{shape}
use Rattle.std.specs.declared.sync.ledger.Ledger as ledger
use Rattle.std.proofs.Crossing.{crosses}
use Rattle.std.proofs.sync.ledger.Book.TheSendSync as total
use Rattle.std.proofs.sync.ledger.Share.TheSendSync as share
use Rattle.px_terms.specs.contracts.items.Items as Items
use Rattle.px_core.specs.contracts.body.Body as Body
use Rattle.px_core.proofs.command.Command.TheLaws.TheKnot as commands
use Rattle.px_entry.specs.contracts.entries.Entry as Entry
use Rattle.px_entry.specs.contracts.tables.Gap as Gap
use Rattle.px_entry.specs.contracts.tables.Table as Table
use Rattle.px_callgraph.specs.contracts.jobs.Callee as Callee
use Rattle.px_callgraph.specs.contracts.jobs.Job as Job
use Rattle.px_check.specs.contracts.checked.Checked as Checked
use Rattle.px_pieces.specs.declared.honesty.Honesty as honesty
use Rattle.px_pieces.specs.contracts.findings.Part as Part
use Rattle.px_pieces.specs.contracts.pieces.Piece as Piece
use Rattle.px_pieces.specs.contracts.pieces.Piece.TheInside as inside_piece
use Rattle.px_jobs.specs.contracts.sources.Sources as Sources
use Rattle.px_jobs.specs.contracts.sources.Sources.TheInside as inside_sources
use Rattle.px_book.specs.contracts.roll.Roll as Roll
use Rattle.px_book.specs.contracts.roll.Roll.TheInside as inside_roll
use Rattle.px_book.specs.contracts.book.Book as Book
use Rattle.px_book.specs.contracts.book.Book.TheInside as inside_book

-- ---- what the jobs are made of

body_send : IsSend Body.the_row
body_send = search (crosses, commands.crosses, sendable) depth 60 fits 20000

bodies_send : IsSend (Items.the_row Body.the_row)
bodies_send = search (body_send, crosses, sendable) depth 60

sources_send : IsSend Sources.the_row
sources_send =
    view_send inside_sources.the_row _ _ _ _ (recorded_send inside_sources.the_field.row _ _ inside_sources.the_type.to_one (struct_send (shape inside_sources.the_type) (
      bodies_send,
      (
        search (crosses, sendable) depth 60,
        (
          search (crosses, sendable) depth 60,
          (
            search (crosses, sendable) depth 60,
            (search (crosses, sendable) depth 60, (search (crosses, sendable) depth 60, tt)),
          ),
        ),
      ),
    )))

-- ---- where the procedures stand

roll_send : IsSend Roll.the_row
roll_send =
    view_send inside_roll.the_row _ _ _ _ (recorded_send inside_roll.the_field.row _ _ inside_roll.the_type.to_one (struct_send (shape inside_roll.the_type) (
      search (crosses, sendable) depth 60,
      (
        search (crosses, sendable) depth 60,
        (
          search (crosses, sendable) depth 60,
          (
            search (crosses, sendable) depth 60,
            (search (crosses, sendable) depth 60, (search (crosses, sendable) depth 60, (search (crosses, sendable) depth 60, tt))),
          ),
        ),
      ),
    )))

-- ---- what was found

entry_send : IsSend (Entry.the_field).row
entry_send =
    struct_send (shape Entry.the_type) (
      search sendable depth 60,
      (
        search (crosses, sendable) depth 60,
        (
          search (crosses, sendable) depth 60,
          (
            search (crosses, sendable) depth 60,
            (
              search (crosses, sendable) depth 60,
              (
                search (crosses, sendable) depth 60 fits 20000,
                (search (crosses, sendable) depth 60 fits 20000, (search (crosses, sendable) depth 60 fits 20000, (search (crosses, sendable) depth 60, tt))),
              ),
            ),
          ),
        ),
      ),
    )

entries_send : IsSend (Items.the_row Entry.the_row)
entries_send = let entry : IsSend Entry.the_row = recorded_send Entry.the_field.row _ _ Entry.the_type.to_one entry_send in search (crosses, sendable) depth 60

checked_send : IsSend Checked.the_row
checked_send = recorded_send Checked.the_field.row _ _ Checked.the_type.to_one (struct_send (shape Checked.the_type) (entry_send, (search (crosses, sendable) depth 60, tt)))

all_checked_send : IsSend (Items.the_row Checked.the_row)
all_checked_send = search (checked_send, crosses, sendable) depth 60

gap_send : IsSend Gap.the_row
gap_send = search (crosses, sendable) depth 60 fits 20000

gaps_send : IsSend (Items.the_row Gap.the_row)
gaps_send = search (gap_send, crosses, sendable) depth 60

part_send : IsSend Part.the_row
part_send = search (all_checked_send, gaps_send, sendable) depth 60

parts_send : IsSend (Items.the_row Part.the_row)
parts_send = search (part_send, crosses, sendable) depth 60

-- ---- a job

table_send : IsSend (Table.the_field).row
table_send = struct_send (shape Table.the_type) (entries_send, (gaps_send, tt))

callee_send : IsSend Callee.the_row
callee_send = search (table_send, sendable) depth 60

body_field : IsSend (Body.the_field).row
body_field = search (crosses, commands.crosses, sendable) depth 60 fits 20000

pub job_send : IsSend (Job.the_field).row
job_send =
    struct_send (shape Job.the_type) (
      search sendable depth 60,
      (body_field, (search (crosses, sendable) depth 60, (search (callee_send, crosses, sendable) depth 60, (search sendable depth 60, (search (crosses, sendable) depth 60, (search sendable depth 60, tt)))))),
    )

-- ---- the book

pub book_send : (A B : RattleType) (g : honesty.Ghosts A.Denot) (l : ledger.Ghosts B.Denot) → IsSend A → IsSend B → IsSend (Book.the_row A B g l)
book_send A B g l word counts =
    view_send (inside_book.the_row A B g l) _ _ _ _ (recorded_send (inside_book.the_field A B g l).row _ _ (inside_book.the_type A B g l).to_one (struct_send (shape (inside_book.the_type A B g l)) (
      search sendable depth 20,
      (sources_send, (roll_send, (parts_send, (total.the_send B l, (share.the_send B l, (search sendable depth 20, tt)))))),
    )))

-- ---- a piece

pub piece_send : (A : RattleType) (g : honesty.Ghosts A.Denot) → IsSend A → IsSend (Piece.the_row A g)
piece_send A g word =
    view_send (inside_piece.the_row A g) _ _ _ _ (recorded_send (inside_piece.the_field A g).row _ _ (inside_piece.the_type A g).to_one (struct_send (shape (inside_piece.the_type A g)) (
      job_send,
      (all_checked_send, (gaps_send, (search sendable depth 20, tt))),
    )))
