-- How the tokens of a file are cut into items.
use Rattle.std.specs.Prelude.{◌<◌, ◌≤◌, drop, ◌≡◌, ◌≢◌, ℕ, ◌+◌, ◌-◌, List, [], ◌∷◌, ◌++◌, length, Bool, true, false, Result, Ok, Err}
use Rattle.px_base.specs.declared.trace.Site.{Site}
use Rattle.px_lexer.specs.declared.token.Token.{Token}
use Rattle.px_cutting.specs.declared.cutting.Span.{Span}
use Rattle.px_cutting.specs.declared.roles.Pair.{Pair}
use Rattle.px_cutting.specs.declared.roles.Role.{Role}
use Rattle.px_cutting.specs.declared.roles.Role.TheVariants.{Opens, Closes, Semicolon, Directive}
use Rattle.px_cutting.specs.Roles.{role_of, is_plain, goes_on, is_parentheses, opens_body}

abbrev pub role : Token → Role
role t = role_of t.kind

-- tokens whose brackets match
pub data Balanced : List Token → Type 0 where
  no_token : {ts : List Token} → ts ≡ [] → Balanced ts
  a_plain : {t : Token} {ts1 ts : List Token} → is_plain (role t) ≡ true → Balanced ts1 → ts ≡ t ∷ ts1 → Balanced ts
  a_group : {o : Token} (c : Token) {b : Pair} {ts1 ts2 ts : List Token} →
      role o ≡ Opens b → Balanced ts1 → role c ≡ Closes b → Balanced ts2 → ts ≡ o ∷ ts1 ++ c ∷ ts2 → Balanced ts

-- after an opening bracket of the pair b at the site s, the tokens don't come to the bracket that closes it,
-- and this is the place: the last bracket that is unclosed where the file ends, or the closing bracket that doesn't match
pub data Broken : Pair → Site → List Token → Site → Type 0 where
  file_ends : {b : Pair} {s place : Site} {ts : List Token} → Balanced ts → place ≡ s → Broken b s ts place
  no_match : {b b' : Pair} {s place : Site} {ts1 ts : List Token} (c : Token) (ts2 : List Token) →
      Balanced ts1 → role c ≡ Closes b' → b' ≢ b → ts ≡ ts1 ++ c ∷ ts2 → place ≡ c.site → Broken b s ts place
  broken_inside : {b b' : Pair} {s place : Site} {ts1 ts2 ts : List Token} (o : Token) →
      Balanced ts1 → role o ≡ Opens b' → Broken b' o.site ts2 place → ts ≡ ts1 ++ o ∷ ts2 → Broken b s ts place

-- how an item goes on
pub data Outcome : Type 0 where
  -- it ends, and these tokens are after it
  ends : List Token → Outcome
  -- cutting stops at this place
  stops : Site → Outcome
  -- the file ends first, outside all brackets
  runs_out : Outcome

-- how an item goes on, outside all brackets and directly after a `)` or not:
-- it ends at a `;`, or at the `}` that closes a `{` directly after a `)`
pub data GoesOn : Bool → List Token → Outcome → Type 0 where
  at_file_end : {after : Bool} {ts : List Token} {r : Outcome} → ts ≡ [] → r ≡ runs_out → GoesOn after ts r
  at_semicolon : {after : Bool} {t : Token} {ts1 ts : List Token} {r : Outcome} → role t ≡ Semicolon → ts ≡ t ∷ ts1 → r ≡ ends ts1 → GoesOn after ts r
  at_body : {after : Bool} {o : Token} (c : Token) {b : Pair} {ts1 ts2 ts : List Token} {r : Outcome} →
      role o ≡ Opens b → opens_body b after ≡ true → Balanced ts1 → role c ≡ Closes b → ts ≡ o ∷ ts1 ++ c ∷ ts2 → r ≡ ends ts2 → GoesOn after ts r
  after_group : {after : Bool} {o : Token} (c : Token) {b : Pair} {ts1 ts2 ts : List Token} {r : Outcome} →
      role o ≡ Opens b → opens_body b after ≡ false → Balanced ts1 → role c ≡ Closes b → GoesOn (is_parentheses b) ts2 r →
      ts ≡ o ∷ ts1 ++ c ∷ ts2 → GoesOn after ts r
  after_other : {after : Bool} {t : Token} {ts1 ts : List Token} {r : Outcome} → goes_on (role t) ≡ true → GoesOn false ts1 r → ts ≡ t ∷ ts1 → GoesOn after ts r
  at_close : {after : Bool} {t : Token} {b : Pair} {ts1 ts : List Token} {r : Outcome} → role t ≡ Closes b → ts ≡ t ∷ ts1 → r ≡ stops t.site → GoesOn after ts r
  at_broken : {after : Bool} {o : Token} {b : Pair} {ts1 ts : List Token} {place : Site} {r : Outcome} →
      role o ≡ Opens b → Broken b o.site ts1 place → ts ≡ o ∷ ts1 → r ≡ stops place → GoesOn after ts r

-- these spans first
abbrev pub with_spans : List Span → Result (List Span) Site → Result (List Span) Site
with_spans spans (Ok remaining) = Ok (spans ++ remaining)
with_spans spans (Err place) = Err place

abbrev pub span : ℕ → ℕ → Span
span first after = record { first = first; after = after }

-- the items of the tokens from the place `at` on, or the place where cutting stops
pub data Cuts : ℕ → List Token → Result (List Span) Site → Type 0 where
  nothing_left : {at : ℕ} {ts : List Token} {r : Result (List Span) Site} → ts ≡ [] → r ≡ Ok [] → Cuts at ts r
  -- a directive that would begin an item is one
  a_directive : {at : ℕ} {t : Token} {ts1 ts : List Token} {remaining r : Result (List Span) Site} →
      role t ≡ Directive → Cuts (at + 1) ts1 remaining → ts ≡ t ∷ ts1 → r ≡ with_spans (span at (at + 1) ∷ []) remaining → Cuts at ts r
  an_item : {at : ℕ} (t : Token) (ts1 : List Token) {ts2 ts : List Token} {remaining r : Result (List Span) Site} →
      ts ≡ t ∷ ts1 → role t ≢ Directive → GoesOn false ts (ends ts2) → Cuts (at + (length ts - length ts2)) ts2 remaining →
      r ≡ with_spans (span at (at + (length ts - length ts2)) ∷ []) remaining → Cuts at ts r
  stopped : {at : ℕ} (t : Token) (ts1 : List Token) {ts : List Token} {place : Site} {r : Result (List Span) Site} →
      ts ≡ t ∷ ts1 → role t ≢ Directive → GoesOn false ts (stops place) → r ≡ Err place → Cuts at ts r
  -- tokens are left that belong to no item: the place is the first of them
  left_over : {at : ℕ} (t : Token) (ts1 : List Token) {ts : List Token} {r : Result (List Span) Site} →
      ts ≡ t ∷ ts1 → role t ≢ Directive → GoesOn false ts runs_out → r ≡ Err t.site → Cuts at ts r

-- the first n tokens are the first item, whatever the others are
abbrev pub IsFirstItem : List Token → ℕ → Type 0
IsFirstItem ts n = (0 < n) × (n ≤ length ts) × ((at : ℕ) (remaining : Result (List Span) Site) → Cuts (at + n) (drop n ts) remaining → Cuts at ts (with_spans (span at (at + n) ∷ []) remaining))
