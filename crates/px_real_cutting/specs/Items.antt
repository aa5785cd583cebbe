-- The items of a file, which its pieces make.
use Rattle.std.specs.Prelude.{◌≡◌, ℕ, List, [], ◌∷◌, Bool, true, false, Option, Some, None, Result, Ok, Err}
use Rattle.px_base.specs.declared.trace.Site.{Site}
use Rattle.px_real_cutting.specs.declared.roles.Mark.{Mark}
use Rattle.px_real_cutting.specs.declared.roles.Ending.{Ending}
use Rattle.px_real_cutting.specs.declared.roles.Ending.TheVariants as E
use Rattle.px_real_cutting.specs.declared.pieces.Piece.{Piece}
use Rattle.px_real_cutting.specs.declared.cutting.Item.{Item}
use Rattle.px_real_cutting.specs.Pieces.{Cuts}

-- the end of a body and what is left behind it, by the piece at the front
abbrev pub behind : Ending → ℕ → List Piece → Option (ℕ × List Piece) → Option (ℕ × List Piece)
behind E.Body after ps later = Some (after, ps)
behind E.Declaration after ps later = later
behind _ after ps later = None

-- where nothing but declarations stands before the next body that begins a piece: the end of this body, and the pieces behind it
abbrev pub body_behind : List Piece → Option (ℕ × List Piece)
body_behind [] = None
body_behind (p ∷ ps) = behind p.ending p.after ps (body_behind ps)

-- the same, after the head of an old-style definition
abbrev pub body_of : Ending → List Piece → Option (ℕ × List Piece)
body_of E.Head ps = body_behind ps
body_of _ ps = None

abbrev pub is_definition : Ending → Bool
is_definition E.Definition = true
is_definition _ = false

abbrev pub item : ℕ → ℕ → Bool → Item
item first after is_function = record { first = first; after = after; is_function = is_function }

-- the items that pieces make: a head with its declarations and its body is an old-style definition, and each other piece is an item
pub data Items : List Piece → List Item → Type 0 where
  no_items : {ps : List Piece} {is : List Item} → ps ≡ [] → is ≡ [] → Items ps is
  old_style : {p : Piece} {after : ℕ} {ps1 rest ps : List Piece} {is1 is : List Item} →
      body_of p.ending ps1 ≡ Some (after, rest) → Items rest is1 → ps ≡ p ∷ ps1 → is ≡ item p.first after true ∷ is1 → Items ps is
  by_itself : {p : Piece} {ps1 ps : List Piece} {is1 is : List Item} →
      body_of p.ending ps1 ≡ None → Items ps1 is1 → ps ≡ p ∷ ps1 → is ≡ item p.first p.after (is_definition p.ending) ∷ is1 → Items ps is

-- the first item of pieces, and the pieces behind it
abbrev pub IsFirstItem : List Piece → Item → List Piece → Type 0
IsFirstItem ps i behind = (is : List Item) → Items behind is → Items ps (i ∷ is)

-- the items of tokens, or the place where cutting stops
pub data IsCut (ts : List Mark) (r : Result (List Item) Site) : Type 0 where
  is_cut : (ps : List Piece) (is : List Item) → Cuts 0 ts (Ok ps) → Items ps is → r ≡ Ok is → IsCut ts r
  is_stopped : (place : Site) → Cuts 0 ts (Err place) → r ≡ Err place → IsCut ts r
