-- Bytes that are held, and those behind what was found.
use Rattle.std.proofs.Common.{◌≡◌, ℕ, ◌+◌, ◌-◌, ◌≤◌, List, [], ◌++◌, length, refl, sym, ap, subst, ◌∙◌, append_assoc, arith}
use Rattle.std.specs.Prelude.{take, drop}
use Rattle.std.proofs.lemmas.List.{length-append, length-drop, length-take, take-append-drop, drop-take, drop-append-le}
use Rattle.std.proofs.Math.Seq.{take-append_seam, drop-append_seam}
use Rattle.px_parts.specs.declared.part.Part.{Part}
use Rattle.px_parts.specs.Places.{Place}
use Rattle.px_parts.specs.declared.skim.Skim.{Skim}
use Rattle.px_parts.specs.declared.unread.Unread.{Unread}
use Rattle.px_parts.specs.Stream.{Streams, stays, goes}
use Rattle.px_parts.specs.Skims.{IsSkim}
use Rattle.px_parts.specs.Taking.{waits}
use Rattle.px_parts.specs.Kept.{place_of, place_in, held_in, waiting_of, IsSame}
use Rattle.px_parts.proofs.Skimming.{skim_more}

many_kept : (start count : ℕ) (xs h t : List ℕ) → start ≤ length xs → drop start xs ≡ h ++ t → length t ≡ count → length xs - count ≡ start + length h
many_kept start count xs h t within is many =
    let all : length xs - start ≡ length h + length t = sym (length-drop start xs) ∙ ap length is ∙ length-append h t in omega (arith, all, many, within)

-- what was put last is taken away
pub taken_away : (start count : ℕ) (xs h t : List ℕ) → start ≤ length xs → drop start xs ≡ h ++ t → length t ≡ count → drop start (take (length xs - count) xs) ≡ h
taken_away start count xs h t within is many =
    ap (λ n. drop start (take n xs)) (many_kept start count xs h t within is many) ∙ drop-take start (length h) xs ∙ ap (λ l. take (length h) l) is ∙ take-append_seam h t

pub still_within : (start count : ℕ) (xs h t : List ℕ) → start ≤ length xs → drop start xs ≡ h ++ t → length t ≡ count → start ≤ length (take (length xs - count) xs)
still_within start count xs h t within is many = omega (arith, many_kept start count xs h t within is many, length-take (length xs - count) xs)

streams_front : (p q : Place) (bytes rest : List ℕ) (parts : List Part) → Streams p bytes parts q rest → (front : List ℕ) × (bytes ≡ front ++ rest)
streams_front p _ bytes _ parts stays = ([], refl)
streams_front p q bytes rest parts (goes {q = r} {after = after} {more = more} x (front, comes, is) next are) =
    let e = streams_front r q after rest more next in (front ++ e.0, is ∙ ap (λ l. front ++ l) e.1 ∙ sym (append_assoc front e.0 rest))

-- what is behind what was found stands last in what is held
pub is_behind : (p q : Place) (start : ℕ) (xs rest : List ℕ) (parts : List Part) → start ≤ length xs → Streams p (drop start xs) parts q rest →
    (length rest ≤ length xs) × (drop (length xs - length rest) xs ≡ rest)
is_behind p q start xs rest parts within streams =
    let f = streams_front p q (drop start xs) rest parts streams in
    let front : List ℕ = take start xs ++ f.0 in
    let is : xs ≡ front ++ rest = sym (take-append-drop start xs) ∙ ap (λ l. take start xs ++ l) f.1 ∙ sym (append_assoc (take start xs) f.0 rest) in
    let all : length xs ≡ length front + length rest = ap length is ∙ length-append front rest in
    let many : length xs - length rest ≡ length front = omega (arith, all) in
    (omega (arith, all), ap (λ n. drop n xs) many ∙ ap (λ l. drop (length front) l) is ∙ drop-append_seam front rest)

-- ---- what was passed over, where bytes are held anew, and more of them

pub skim_same : (p : Place) (a b : List ℕ) (s : Skim) → a ≡ b → IsSkim p b s → IsSkim p a s
skim_same p a b s same skim = subst (λ l. IsSkim p l s) (sym same) skim

pub skim_held : (p : Place) (a b more : List ℕ) (s : Skim) → a ≡ b ++ more → IsSkim p b s → IsSkim p a s
skim_held p a b more s same skim = skim_same p a (b ++ more) s same (skim_more p b more s skim)

pub held_more : (start : ℕ) (xs ys : List ℕ) → start ≤ length xs → drop start (xs ++ ys) ≡ drop start xs ++ ys
held_more start xs ys within = drop-append-le start xs ys within

pub how_many : (start : ℕ) (xs : List ℕ) → length (drop start xs) ≡ length xs - start
how_many start xs = length-drop start xs

-- ---- where all is the same but what was passed over

pub place_held : (u v : Unread) → v.next ≡ u.next → v.terms ≡ u.terms → place_in v ≡ place_in u
place_held u v next terms = ap (λ n. place_of n v.terms) next ∙ ap (λ ts. place_of u.next ts) terms

pub same_place : (u v : Unread) → IsSame u v → place_in v ≡ place_in u
same_place u v same = place_held u v same.0 same.1

pub same_held : (u v : Unread) → IsSame u v → held_in v ≡ held_in u
same_held u v (next, terms, items, start, left) = ap (λ n. drop n v.held.items) start ∙ ap (λ l. drop u.start l) items

pub same_within : (u v : Unread) → IsSame u v → u.start ≤ length u.held.items → v.start ≤ length v.held.items
same_within u v (next, terms, items, start, left) within = omega (arith, within, start, ap length items)

pub same_skim : (u v : Unread) → IsSame u v → IsSkim (place_in u) (held_in u) v.skim → IsSkim (place_in v) (held_in v) v.skim
same_skim u v same skim = subst (λ p. IsSkim p (held_in v) v.skim) (sym (same_place u v same)) (subst (λ l. IsSkim (place_in u) l v.skim) (sym (same_held u v same)) skim)

-- ---- where the bytes that were put last are taken away

pub given_back : (old h l k : Unread) (bytes : List ℕ) (count : ℕ) → length bytes ≡ count → h.start ≤ length h.held.items → place_in h ≡ place_in old → h.left ≡ old.left →
    held_in h ≡ held_in old ++ bytes → IsSame h l → k.held.items ≡ take (length l.held.items - count) l.held.items → k.start ≡ l.start → place_in k ≡ place_in l → k.left ≡ l.left →
    (k.start ≤ length k.held.items) × (waiting_of k ≡ waits (place_in old) (held_in old) old.left)
given_back old h l k bytes count many within place left held same items start place_is left_is =
    let all : held_in l ≡ held_in old ++ bytes = same_held h l same ∙ held in
    let within_l : l.start ≤ length l.held.items = same_within h l same within in
    let room : l.start ≤ length (take (length l.held.items - count) l.held.items) = still_within l.start count l.held.items (held_in old) bytes within_l all many in
    let held_is : held_in k ≡ held_in old =
    ap (λ n. drop n k.held.items) start ∙ ap (λ xs. drop l.start xs) items ∙ taken_away l.start count l.held.items (held_in old) bytes within_l all many in (
      omega (arith, room, start, ap length items),
      ap (λ p. waits p (held_in k) k.left) (place_is ∙ same_place h l same ∙ place) ∙ ap (λ z. waits (place_in old) z k.left) held_is
          ∙ ap (λ n. waits (place_in old) (held_in old) n) (left_is ∙ same.4 ∙ left),
    )
