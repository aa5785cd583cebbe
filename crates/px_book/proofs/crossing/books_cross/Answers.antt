use denote.Param.{param}
use denote.Param.Send.{IsSend, sendable}
use Rattle.px_pieces.specs.contracts.pieces.Piece as Piece
use Rattle.px_book.specs.contracts.book.Book as Book
use Rattle.px_book.proofs.CrossLemmas.{book_send, piece_send}
use Rattle.px_book.proofs.crossing.books_cross.Goals as goal

pub moves-requires-3-send-T : goal.moves-requires-3-send-T
moves-requires-3-send-T g c κs within =
    let book : IsSend (Book.the_row (param 0 g.row.H) (param 1 g.row.L) g.H.Honesty g.L.Ledger) =
    book_send (param 0 g.row.H) (param 1 g.row.L) g.H.Honesty g.L.Ledger c.type_bounds.send-H c.type_bounds.send-L in
    search sendable depth 20

pub moves-requires-4-send-T : goal.moves-requires-4-send-T
moves-requires-4-send-T g c κs within =
    let piece : IsSend (Piece.the_row (param 0 g.row.H) g.H.Honesty) = piece_send (param 0 g.row.H) g.H.Honesty c.type_bounds.send-H in search sendable depth 20
