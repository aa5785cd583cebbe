-- The pieces of a file: what ends at a `;` or at the `}` of a body. An item is one of them, or an old-style definition of several.
use Rattle.std.specs.Prelude.{◌≡◌, ◌≢◌, ℕ, ◌+◌, ◌-◌, List, [], ◌∷◌, ◌++◌, length, Bool, true, false, ◌||◌, ◌&&◌, Some, None, Result, Ok, Err}
use Rattle.px_base.specs.declared.trace.Site.{Site}
use Rattle.px_real_cutting.specs.declared.roles.Pair.{Pair}
use Rattle.px_real_cutting.specs.declared.roles.Role.TheVariants.{Opens, Closes, Semicolon}
use Rattle.px_real_cutting.specs.declared.roles.Mark.{Mark}
use Rattle.px_real_cutting.specs.declared.roles.Before.{Before}
use Rattle.px_real_cutting.specs.declared.roles.Before.TheVariants.{Nothing}
use Rattle.px_real_cutting.specs.declared.roles.Ending.{Ending}
use Rattle.px_real_cutting.specs.declared.pieces.Piece.{Piece}
use Rattle.px_real_cutting.specs.Roles.{is_plain, goes_on, opens, before_group, before_token, is_parameters, is_name, before_semicolon}

-- tokens whose brackets match
pub data Balanced : List Mark → Type 0 where
  no_token : {ts : List Mark} → ts ≡ [] → Balanced ts
  a_plain : {t : Mark} {ts1 ts : List Mark} → is_plain t.role ≡ true → Balanced ts1 → ts ≡ t ∷ ts1 → Balanced ts
  a_group : {o : Mark} (c : Mark) {b : Pair} {ts1 ts2 ts : List Mark} →
      o.role ≡ Opens b → Balanced ts1 → c.role ≡ Closes b → Balanced ts2 → ts ≡ o ∷ ts1 ++ c ∷ ts2 → Balanced ts

-- after an opening bracket of the pair b at the site s, the tokens don't come to the bracket that closes it,
-- and this is the place: the last bracket that is unclosed where the file ends, or the closing bracket that doesn't match
pub data Broken : Pair → Site → List Mark → Site → Type 0 where
  file_ends : {b : Pair} {s place : Site} {ts : List Mark} → Balanced ts → place ≡ s → Broken b s ts place
  no_match : {b b' : Pair} {s place : Site} {ts1 ts : List Mark} (c : Mark) (ts2 : List Mark) →
      Balanced ts1 → c.role ≡ Closes b' → b' ≢ b → ts ≡ ts1 ++ c ∷ ts2 → place ≡ c.site → Broken b s ts place
  broken_inside : {b b' : Pair} {s place : Site} {ts1 ts2 ts : List Mark} (o : Mark) →
      Balanced ts1 → o.role ≡ Opens b' → Broken b' o.site ts2 place → ts ≡ ts1 ++ o ∷ ts2 → Broken b s ts place

-- how a piece goes on
pub data Outcome : Type 0 where
  -- it ends so, and these tokens are after it
  ends : Ending → List Mark → Outcome
  -- cutting stops at this place
  stops : Site → Outcome
  -- the file ends first, outside all brackets
  runs_out : Outcome

-- how a piece goes on, outside all brackets, after what stands directly before, and where a name stood directly after parameters or didn't:
-- it ends at a `;`, at the `}` of a `{` that begins it, or at the `}` of a `{` directly after parameters
pub data GoesOn : Before → Bool → List Mark → Outcome → Type 0 where
  at_file_end : {before : Before} {head : Bool} {ts : List Mark} {r : Outcome} → ts ≡ [] → r ≡ runs_out → GoesOn before head ts r
  at_semicolon : {before : Before} {head : Bool} {t : Mark} {ts1 ts : List Mark} {r : Outcome} →
      t.role ≡ Semicolon → ts ≡ t ∷ ts1 → r ≡ ends (before_semicolon head) ts1 → GoesOn before head ts r
  at_body : {before : Before} {head : Bool} {o : Mark} (c : Mark) {b : Pair} {e : Ending} {ts1 ts2 ts : List Mark} {r : Outcome} →
      o.role ≡ Opens b → opens b before ≡ Some e → Balanced ts1 → c.role ≡ Closes b → ts ≡ o ∷ ts1 ++ c ∷ ts2 → r ≡ ends e ts2 → GoesOn before head ts r
  after_group : {before : Before} {head : Bool} {o : Mark} (c : Mark) {b : Pair} {ts1 ts2 ts : List Mark} {r : Outcome} →
      o.role ≡ Opens b → opens b before ≡ None → Balanced ts1 → c.role ≡ Closes b → GoesOn (before_group b before) head ts2 r →
      ts ≡ o ∷ ts1 ++ c ∷ ts2 → GoesOn before head ts r
  after_other : {before : Before} {head : Bool} {t : Mark} {ts1 ts : List Mark} {r : Outcome} →
      goes_on t.role ≡ true → GoesOn (before_token t.role) (head || (is_parameters before && is_name t.role)) ts1 r → ts ≡ t ∷ ts1 → GoesOn before head ts r
  at_close : {before : Before} {head : Bool} {t : Mark} {b : Pair} {ts1 ts : List Mark} {r : Outcome} → t.role ≡ Closes b → ts ≡ t ∷ ts1 → r ≡ stops t.site → GoesOn before head ts r
  at_broken : {before : Before} {head : Bool} {o : Mark} {b : Pair} {ts1 ts : List Mark} {place : Site} {r : Outcome} →
      o.role ≡ Opens b → Broken b o.site ts1 place → ts ≡ o ∷ ts1 → r ≡ stops place → GoesOn before head ts r

-- these pieces first
abbrev pub with_pieces : List Piece → Result (List Piece) Site → Result (List Piece) Site
with_pieces pieces (Ok remaining) = Ok (pieces ++ remaining)
with_pieces pieces (Err place) = Err place

abbrev pub piece : Ending → ℕ → ℕ → Piece
piece ending first after = record { ending = ending; first = first; after = after }

-- the pieces of the tokens from the place `at` on, or the place where cutting stops
pub data Cuts : ℕ → List Mark → Result (List Piece) Site → Type 0 where
  nothing_left : {at : ℕ} {ts : List Mark} {r : Result (List Piece) Site} → ts ≡ [] → r ≡ Ok [] → Cuts at ts r
  a_piece : {at : ℕ} (t : Mark) (ts1 : List Mark) (e : Ending) {ts2 ts : List Mark} {remaining r : Result (List Piece) Site} →
      ts ≡ t ∷ ts1 → GoesOn Nothing false ts (ends e ts2) → Cuts (at + (length ts - length ts2)) ts2 remaining →
      r ≡ with_pieces (piece e at (at + (length ts - length ts2)) ∷ []) remaining → Cuts at ts r
  stopped : {at : ℕ} (t : Mark) (ts1 : List Mark) {ts : List Mark} {place : Site} {r : Result (List Piece) Site} →
      ts ≡ t ∷ ts1 → GoesOn Nothing false ts (stops place) → r ≡ Err place → Cuts at ts r
  -- tokens are left that belong to no piece: the place is the first of them
  left_over : {at : ℕ} (t : Mark) (ts1 : List Mark) {ts : List Mark} {r : Result (List Piece) Site} →
      ts ≡ t ∷ ts1 → GoesOn Nothing false ts runs_out → r ≡ Err t.site → Cuts at ts r
