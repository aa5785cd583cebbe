-- The tokens of a preprocessed file, or its first fault: at each place the longest piece is taken.
use Rattle.std.specs.Prelude.{◌≡◌, ◌≢◌, ℕ, ◌+◌, ◌<◌, ◌≤◌, List, [], ◌∷◌, ◌++◌, length, take, Option, Some, None, Result, Ok, Err, Bool, true, false, ◌||◌}
use Rattle.std.specs.List.{list_any, slice_range}
use Rattle.px_base.specs.declared.trace.Site.{Site}
use Rattle.px_lexer.specs.Bytes.{is_line_feed}
use Rattle.px_lexer.specs.Tokens.{site_of}
use Rattle.px_real_tokens.specs.declared.token.Token.{Token}
use Rattle.px_real_tokens.specs.declared.token.LexFault.{LexFault}
use Rattle.px_real_tokens.specs.declared.token.LexFault.TheVariants as F
use Rattle.px_real_tokens.specs.declared.piece.Piece.{Piece}
use Rattle.px_real_tokens.specs.declared.piece.Piece.TheVariants as P
use Rattle.px_real_tokens.specs.Spelling.{Spells}

-- the longest piece at the front of the bytes
pub record Longest (fresh : Bool) (bytes : List ℕ) (p : Piece) (front rest : List ℕ) : Type 0 where
  pub spells : Spells fresh p front
  pub parts : bytes ≡ front ++ rest
  pub longest : (q : Piece) (f r : List ℕ) → Spells fresh q f → bytes ≡ f ++ r → length f ≤ length front

-- no piece stands at the front of the bytes
abbrev pub NoPiece : Bool → List ℕ → Type 0
NoPiece fresh bytes = (q : Piece) (f r : List ℕ) → Spells fresh q f → bytes ≢ f ++ r

-- the token that a piece is, if it is one
abbrev pub tokens_of : Piece → Site → ℕ → ℕ → List Token
tokens_of (P.Token kind) site start end = record { kind = kind; site = site; start = start; end = end } ∷ []
tokens_of _ site start end = []

-- the fault that a piece is, if it is one
abbrev pub fault_of : Piece → Site → Option LexFault
fault_of P.Directive site = Some (F.NotPreprocessed site)
fault_of P.OpenComment site = Some (F.Comment site)
fault_of _ site = None

-- whether nothing but blanks and comments stands on the line before the place after a piece; a line begins after a line feed, also after one in a comment, but not after one that a backslash joins with the line before
abbrev pub fresh_after : Bool → Piece → List ℕ → Bool
fresh_after fresh P.Space front = fresh || list_any is_line_feed front
fresh_after fresh P.Join front = fresh
fresh_after fresh _ front = false

-- tokens in front of what remains
abbrev pub with_front : List Token → Result (List Token) LexFault → Result (List Token) LexFault
with_front front (Ok tokens) = Ok (front ++ tokens)
with_front front (Err fault) = Err fault

-- what the bytes are read as that stand after `before`
pub data Reads (file : ℕ) : List ℕ → Bool → List ℕ → Result (List Token) LexFault → Type 0 where
  at_end : {before bytes : List ℕ} {fresh : Bool} {r : Result (List Token) LexFault} →
      bytes ≡ [] → r ≡ Ok [] → Reads file before fresh bytes r
  a_piece : {before bytes : List ℕ} {fresh : Bool} {r : Result (List Token) LexFault} (p : Piece) (front rest : List ℕ) (remaining : Result (List Token) LexFault) →
      Longest fresh bytes p front rest → fault_of p (site_of file before) ≡ None →
      Reads file (before ++ front) (fresh_after fresh p front) rest remaining →
      r ≡ with_front (tokens_of p (site_of file before) (length before) (length before + length front)) remaining → Reads file before fresh bytes r
  a_fault : {before bytes : List ℕ} {fresh : Bool} {r : Result (List Token) LexFault} (p : Piece) (front rest : List ℕ) (fault : LexFault) →
      Longest fresh bytes p front rest → fault_of p (site_of file before) ≡ Some fault → r ≡ Err fault → Reads file before fresh bytes r
  no_piece : {before bytes : List ℕ} {fresh : Bool} {r : Result (List Token) LexFault} →
      bytes ≢ [] → NoPiece fresh bytes → r ≡ Err (F.Byte (site_of file before)) → Reads file before fresh bytes r

-- what the bytes of a file are: its tokens, or its first fault
abbrev pub Lexes : ℕ → List ℕ → Result (List Token) LexFault → Type 0
Lexes file source r = Reads file [] true source r

-- a token of a file: its bytes spell its kind, and its site is that of the first of them
pub record StandsIn (file : ℕ) (source : List ℕ) (t : Token) : Type 0 where
  pub some : t.start < t.end
  pub within : t.end ≤ length source
  pub fresh : Bool
  pub spelled : Spells fresh (P.Token t.kind) (slice_range source t.start t.end)
  pub placed : t.site ≡ site_of file (take t.start source)
