pub mod PiecesExact
mod ItemsExact
