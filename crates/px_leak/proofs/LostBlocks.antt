-- The blocks that an entry loses are lost, and each has a variable of its own.
use Rattle.std.proofs.Common.{◌≡◌, inl, inr, ℕ, suc, ◌+◌, ◌<◌, ◌&&◌, Bool, true, false, cond, not, nat_eq, if◌then◌else◌, List, [], ◌∷◌, length, get_or, Option, Some, None, slice_get, refl, sym, ap, ◌∙◌, subst, arith}
use Rattle.std.specs.Prelude.{◌↔◌, filter}
use Rattle.std.specs.List.{list_any}
use Rattle.std.proofs.lemmas.Bool.{and_parts, and_from, eqb-true, eq-eqb, not-true, false≢true}
use Rattle.std.proofs.lemmas.List.Elements.{Contains-get_or}
use Rattle.std.proofs.lemmas.Option.{slice_get_within}
use Rattle.px_terms.specs.declared.variables.VarInfo.{VarInfo}
use Rattle.px_entry.specs.declared.atoms.AtomState.{AtomState}
use Rattle.px_entry.specs.declared.atoms.AtomState.TheVariants as atom
use Rattle.px_entry.specs.declared.entries.Entry.{Entry}
use Rattle.px_entry.specs.declared.entries.Exit.{Exit}
use Rattle.px_entry.specs.declared.entries.Exit.TheVariants as exit
use Rattle.px_entry.specs.Sorts.{is_some_and, is_made_sort, is_made}
use Rattle.px_manifest.specs.LooksManifest.{AsksNothing, asks_nothing}
use Rattle.px_leak.specs.declared.got.Spot.{Spot}
use Rattle.px_leak.specs.declared.got.GotBlock.{GotBlock}
use Rattle.px_leak.specs.Reached.{is_reached}
use Rattle.px_leak.specs.Losses.{made_from, spots, together, got_blocks, IsLiveState, IsLost, is_return, is_live, is_live_at, is_left, lost_blocks}
use Rattle.px_leak.specs.Lives.{AreWithin}
use Rattle.px_leak.proofs.Members.{Has, has_from, has_to, has_filter, in_filter, any_has, has_any}
use Rattle.px_leak.proofs.ReachLemmas.{reached_exactly}

-- ---- variables and spots

-- the place of a block is a made variable, by its number less n
abbrev IsMadeAfter : ℕ → List VarInfo → ℕ → Type 0
IsMadeAfter n vars y = (m : ℕ) × (y ≡ n + m) × (is_made vars m ≡ true)

made_later : (n : ℕ) (i : VarInfo) (vars : List VarInfo) (y : ℕ) → IsMadeAfter (suc n) vars y → IsMadeAfter n (i ∷ vars) y
made_later n i vars y (m, e, is) = (suc m, omega arith, is)

all_made : (n : ℕ) (vars : List VarInfo) (y : ℕ) → Has (made_from n vars) y → IsMadeAfter n vars y
all_made n [] y h = absurd h
all_made n (i ∷ vars) y h = by (is_made_sort i.sort) refl h (all_made (suc n) vars y)
  where
    by : (b : Bool) → is_made_sort i.sort ≡ b → Has (if b then n ∷ made_from (suc n) vars else made_from (suc n) vars) y → (Has (made_from (suc n) vars) y → IsMadeAfter (suc n) vars y) → IsMadeAfter n (i ∷ vars) y
    by true is (inl e) rest = (0, omega arith, is)
    by true is (inr k) rest = made_later n i vars y (rest k)
    by false is k rest = made_later n i vars y (rest k)

-- the place of a block is one of the variables
place_is : (xs : List ℕ) (ss : List Spot) (g : GotBlock) → Has (together xs ss) g → Has xs g.place
place_is [] ss g h = absurd h
place_is (x ∷ xs) [] g h = absurd h
place_is (x ∷ xs) (s ∷ ss) g (inl e) = inl (ap (λ (b : GotBlock). b.place) e)
place_is (x ∷ xs) (s ∷ ss) g (inr h) = inr (place_is xs ss g h)

pub got_made : (x : Entry) (g : GotBlock) → Has (got_blocks x) g → is_made x.vars g.place ≡ true
got_made x g h =
    let (m, e, is) = all_made 0 x.vars g.place (place_is (made_from 0 x.vars) (spots [] x.trace) g h) in
    let same : m ≡ g.place = omega arith in
    subst (λ y. is_made x.vars y ≡ true) same is

made_within : (vars : List VarInfo) (y : ℕ) → is_made vars y ≡ true → y < length vars
made_within vars y m = by (slice_get vars y) refl m
  where
    by : (o : Option VarInfo) → slice_get vars y ≡ o → is_some_and o (λ i. is_made_sort i.sort) ≡ true → y < length vars
    by None at m = let f : ⊥ = cc in absurd f
    by (Some i) at m = slice_get_within vars y i at

pub got_within : (x : Entry) → AreWithin x (got_blocks x)
got_within x k d l = made_within x.vars (get_or (got_blocks x) k d).place (got_made x (get_or (got_blocks x) k d) (has_from (got_blocks x) (get_or (got_blocks x) k d) (Contains-get_or (got_blocks x) k d l)))

-- ---- each has a variable of its own

-- each comes before all later ones
abbrev pub Rising : List GotBlock → Type 0
Rising [] = Unit {0}
Rising (g ∷ gs) = ((h : GotBlock) → Has gs h → g.place < h.place) × Rising gs

rising_together : (n : ℕ) (vars : List VarInfo) (ss : List Spot) → Rising (together (made_from n vars) ss)
rising_together n [] ss = tt
rising_together n (i ∷ vars) ss = by (is_made_sort i.sort) ss (rising_together (suc n) vars)
  where
    by : (b : Bool) (ss : List Spot) → ((ts : List Spot) → Rising (together (made_from (suc n) vars) ts)) → Rising (together (if b then n ∷ made_from (suc n) vars else made_from (suc n) vars) ss)
    by true [] rest = tt
    by true (s ∷ ss) rest = (λ h k. let (m, e, is) = all_made (suc n) vars h.place (place_is (made_from (suc n) vars) ss h k) in omega arith, rest ss)
    by false ss rest = rest ss

rising_filter : (test : GotBlock → Bool) (gs : List GotBlock) → Rising gs → Rising (filter test gs)
rising_filter test [] r = tt
rising_filter test (g ∷ gs) r = by (test g) (rising_filter test gs r.1)
  where
    by : (b : Bool) → Rising (filter test gs) → Rising (cond b (g ∷ filter test gs) (filter test gs))
    by true rest = (λ h k. r.0 h (has_filter test gs h k).0, rest)
    by false rest = rest

pub lost_rising : (x : Entry) → Rising (lost_blocks x)
lost_rising x = by (is_return x.exit && asks_nothing x) (rising_filter (λ (g : GotBlock). is_left x g.place) (got_blocks x) (rising_together 0 x.vars (spots [] x.trace)))
  where
    by : (b : Bool) → Rising (filter (λ (g : GotBlock). is_left x g.place) (got_blocks x)) → Rising (if b then filter (λ (g : GotBlock). is_left x g.place) (got_blocks x) else [])
    by true r = r
    by false r = tt

-- ---- they are lost

from_return : (e : Exit) → is_return e ≡ true → e ≡ exit.Ok
from_return exit.Ok e = refl
from_return (exit.Error kind site) e = cc

from_live : (s : AtomState) → is_live s ≡ true → IsLiveState s
from_live (atom.Live cells) e = tt
from_live atom.Freed e = cc

to_live : (s : AtomState) → IsLiveState s → is_live s ≡ true
to_live (atom.Live cells) h = refl
to_live atom.Freed h = absurd h

negates : (b : Bool) → (b ≡ true → ⊥) → not b ≡ true
negates true f = absurd (f refl)
negates false f = refl

-- what was asked of an entry that has lost blocks
parts_of : (x : Entry) (g : GotBlock) (b : Bool) → (is_return x.exit && asks_nothing x) ≡ b → Has (if b then filter (λ (g : GotBlock). is_left x g.place) (got_blocks x) else []) g →
    (b ≡ true) × Has (got_blocks x) g × (is_left x g.place ≡ true)
parts_of x g true e h = let (k, left) = has_filter (λ (g : GotBlock). is_left x g.place) (got_blocks x) g h in (refl, k, left)
parts_of x g false e h = absurd h

-- a test of what asks nothing, at this entry
abbrev pub Decided : Entry → Type 0
Decided x = asks_nothing x ≡ true ↔ AsksNothing x

pub lost_is : (x : Entry) → Decided x → (g : GotBlock) → Has (lost_blocks x) g → Has (got_blocks x) g × IsLost x g.place
lost_is x asked g h =
    let (both, got, left) = parts_of x g (is_return x.exit && asks_nothing x) refl h in
    let (returns, asks) = and_parts (is_return x.exit) (asks_nothing x) both in
    let (there, unreached) = and_parts (list_any (is_live_at g.place) x.post) (not (is_reached x g.place)) left in
    let (a, within, at) = any_has (is_live_at g.place) x.post there in
    let (place, live) = and_parts (nat_eq a.place.0 g.place) (is_live a.state) at in (
      got,
      record {
        returns = from_return x.exit returns;
        asks = asked.0 asks;
        atom = a;
        left = has_to x.post a within;
        place = eqb-true a.place.0 g.place place;
        live = from_live a.state live;
        unreached = λ r. false≢true (sym (not-true (is_reached x g.place) unreached) ∙ (reached_exactly x g.place).1 r);
      },
    )

pub is_lost : (x : Entry) → Decided x → (g : GotBlock) → Has (got_blocks x) g → IsLost x g.place → Has (lost_blocks x) g
is_lost x asked g got l =
    let both = and_from (is_return x.exit) (asks_nothing x) (ap is_return l.returns) (asked.1 l.asks) in
    let at = and_from (nat_eq l.atom.place.0 g.place) (is_live l.atom.state) (eq-eqb l.atom.place.0 g.place l.place) (to_live l.atom.state l.live) in
    let there = has_any (is_live_at g.place) x.post l.atom (has_from x.post l.atom l.left) at in
    let left = and_from (list_any (is_live_at g.place) x.post) (not (is_reached x g.place)) there (negates (is_reached x g.place) (λ r. l.unreached ((reached_exactly x g.place).0 r))) in
    subst (λ b. Has (if b then filter (λ (g : GotBlock). is_left x g.place) (got_blocks x) else []) g) (sym both) (in_filter (λ (g : GotBlock). is_left x g.place) (got_blocks x) g got left)
