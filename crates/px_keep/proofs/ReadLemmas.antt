-- Reading one item, and one after another.
use Rattle.std.proofs.Common.{◌≡◌, refl, sym, subst, ◌∙◌, ap, arith, ℕ, ◌+◌, ◌-◌, ◌≤◌, ◌<◌, inr, List, [], ◌∷◌, ◌++◌, length, map, length-take}
use Rattle.std.specs.Prelude.{◌≢◌, take, drop, Bool, false, nat_eq}
use Rattle.std.proofs.lemmas.List.{append_assoc, append-nil, length-append, map_push, nil_from_length, take-append-drop}
use Rattle.std.proofs.lemmas.List.Concat.{flat_map-append}
use Rattle.px_terms.proofs.Recursion.{all_push}
use Rattle.px_frames.specs.Frames.{frame_of, most_bytes}
use Rattle.px_frames.specs.Cutting.{IsRest}
use Rattle.px_frames.proofs.CutLemmas.{one_first}
use Rattle.px_wire.specs.Messages.{request, Spells}
use Rattle.px_pool.specs.Counting.{IsFirstFrame, HasNoFrame}
use Rattle.px_pool.proofs.CountLemmas.{no_rest}
use Rattle.px_keep.specs.declared.kept.LentItem.{LentItem}
use Rattle.px_keep.specs.Items.{KeptItem, IsItem, AreItems, item_bytes, items_bytes, head, AreKept}
use Rattle.px_keep.specs.Reading.{BeginWithNone, IsBadAt}
use Rattle.px_keep.specs.Writing.{item}
use Rattle.px_keep.specs.Lent.{item_of, IsLent, AreLent, AsksUnder0, GivesUnder0}
use Rattle.px_keep.proofs.ItemLemmas.{two_frames}

-- ---- the head

pub no_head : (bytes : List ℕ) → length bytes < 8 → take 8 bytes ≢ head
no_head bytes few e = let n : length (take 8 bytes) ≡ 8 = ap length e in let m : length (take 8 bytes) ≤ length bytes = grind (arith, length-take) in omega arith

pub with_head : (bytes first rest : List ℕ) → first ≡ take 8 bytes → rest ≡ drop 8 bytes → first ≡ head → bytes ≡ head ++ rest
with_head bytes first rest is is' same = sym (ap (λ l. head ++ l) is' ∙ ap (λ l. l ++ drop 8 bytes) (sym same ∙ is) ∙ take-append-drop 8 bytes)

-- ---- one item

-- bytes that begin with no frame begin with no item
pub no_first : (bytes : List ℕ) → HasNoFrame bytes → BeginWithNone bytes
no_first bytes (left, rest) = λ x more p is. no_rest x.asked (frame_of x.given ++ more) left p.asked_short (subst (λ l. IsRest l left) (is ∙ two_frames x more) rest)

-- and neither do those whose first frame is followed by none
pub no_second : (bytes asked behind : List ℕ) → IsFirstFrame bytes asked behind → HasNoFrame behind → BeginWithNone bytes
no_second bytes asked behind (short, begins) (left, rest) = λ x more p is.
    let same : behind ≡ frame_of x.given ++ more = (one_first bytes asked x.asked behind (frame_of x.given ++ more) short p.asked_short begins (is ∙ two_frames x more)).1 in
    no_rest x.given more left p.given_short (subst (λ l. IsRest l left) same rest)

module _ (bytes asked behind given rest : List ℕ) (first : IsFirstFrame bytes asked behind) (second : IsFirstFrame behind given rest) where
  pub whole : bytes ≡ item_bytes (item asked given) ++ rest
  whole = first.1 ∙ ap (λ l. frame_of asked ++ l) second.1 ∙ sym (append_assoc (frame_of asked) (frame_of given) rest)

  same_messages : (x : KeptItem) (more : List ℕ) → IsItem x → bytes ≡ item_bytes x ++ more → (x.asked ≡ asked) × (x.given ≡ given)
  same_messages x more p is =
      let one : (asked ≡ x.asked) × (behind ≡ frame_of x.given ++ more) = one_first bytes asked x.asked behind (frame_of x.given ++ more) first.0 p.asked_short first.1 (is ∙ two_frames x more) in
      let two : (given ≡ x.given) × (rest ≡ more) = one_first behind given x.given rest more second.0 p.given_short second.1 one.1 in
      (sym one.0, sym two.0)

  pub not_asked : ((n : ℕ) → ¬ AsksUnder0 asked n) → BeginWithNone bytes
  not_asked none = λ x more p is. none p.job.proc.0 (p.job, subst (λ m. Spells m (request p.job)) (same_messages x more p is).0 p.asks, p.asked_ticket, refl)

  pub not_given : ¬ GivesUnder0 given → BeginWithNone bytes
  not_given none = λ x more p is. none (subst GivesUnder0 (same_messages x more p is).1 (p.kinds, p.table, p.derivations, p.gives))

pub is_lent : (x : LentItem) → length x.asked.now ≤ most_bytes → length x.given.now ≤ most_bytes → AsksUnder0 x.asked.now x.proc → GivesUnder0 x.given.now → IsLent x
is_lent x short short' (j, asks, ticket, proc) (kinds, t, ds, gives) = record {
  item = record {
    asked_short = short;
    job = j;
    asks = asks;
    asked_ticket = ticket;
    given_short = short';
    kinds = kinds;
    table = t;
    derivations = ds;
    gives = gives;
  };
  proc = proc;
}

-- ---- one after another

-- what is read so far, and what stands after it
pub record AreSoFar (bytes : List ℕ) (items : List LentItem) (rest : List ℕ) : Type 0 where
  pub lent : AreLent items
  pub split : bytes ≡ head ++ (items_bytes (map item_of items) ++ rest)

pub items_of : (items : List LentItem) → AreLent items → AreItems (map item_of items)
items_of [] h = tt
items_of (x ∷ xs) h = (h.0.item, items_of xs h.1)

pub begins : (bytes rest : List ℕ) (items : List LentItem) → items ≡ [] → bytes ≡ head ++ rest → AreSoFar bytes items rest
begins bytes rest items none is = subst (λ xs. AreSoFar bytes xs rest) (sym none) (record { lent = tt; split = is })

pub goes_on : (bytes rest more : List ℕ) (items new : List LentItem) (x : LentItem) → AreSoFar bytes items rest → IsLent x → rest ≡ item_bytes (item_of x) ++ more → new ≡ items ++ x ∷ [] → AreSoFar bytes new more
goes_on bytes rest more items new x h lent is pushed = subst (λ xs. AreSoFar bytes xs more) (sym pushed) (record {
  lent = all_push IsLent items x h.lent lent;
  split = h.split ∙ ap (λ l. head ++ l) (ap (λ l. items_bytes (map item_of items) ++ l) is ∙ sym (append_assoc (items_bytes (map item_of items)) (item_bytes (item_of x)) more) ∙ ap (λ l. l ++ more) (sym all));
})
  where
    all : items_bytes (map item_of (items ++ x ∷ [])) ≡ items_bytes (map item_of items) ++ item_bytes (item_of x)
    all = ap items_bytes (map_push item_of items x) ∙ flat_map-append item_bytes (map item_of items) (item_of x ∷ []) ∙ ap (λ l. items_bytes (map item_of items) ++ l) (append-nil (item_bytes (item_of x)))

pub stops : (bytes rest : List ℕ) (items : List LentItem) (place : ℕ) → AreSoFar bytes items rest → 0 < length rest → BeginWithNone rest → place ≡ length bytes - length rest → IsBadAt bytes place
stops bytes rest items place h some none is = inr (record {
  before = map item_of items;
  items = items_of items h.lent;
  rest = rest;
  split = h.split;
  some = some;
  none = none;
  place_is =
      let all = ap length h.split in
      let two : length (items_bytes (map item_of items) ++ rest) ≡ length (items_bytes (map item_of items)) + length rest = length-append (items_bytes (map item_of items)) rest in
      omega arith;
})

pub ends : (bytes rest : List ℕ) (items : List LentItem) → AreSoFar bytes items rest → length rest ≡ 0 → AreKept bytes (map item_of items)
ends bytes rest items h none = record {
  items = items_of items h.lent;
  bytes_are = h.split ∙ ap (λ l. head ++ (items_bytes (map item_of items) ++ l)) (nil_from_length rest none) ∙ ap (λ l. head ++ l) (append-nil (items_bytes (map item_of items)));
}

pub some_left : (xs : List ℕ) (b : Bool) → b ≡ nat_eq (length xs) 0 → b ≡ false → 0 < length xs
some_left [] b e f = let z : ⊥ = cc in absurd z
some_left (x ∷ xs) b e f = omega arith
