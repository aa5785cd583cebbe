-- Reading items one after the other, as a loop does.
use Rattle.std.proofs.Common.{◌≡◌, ℕ, suc, ◌-◌, ◌+◌, ◌≤◌, ◌<◌, List, [], ◌∷◌, ◌++◌, Option, Some, None, refl, sym, ap, ◌∙◌, append_assoc, arith}
use Rattle.std.specs.List.{flat_map}
use Rattle.std.proofs.lemmas.List.{append-nil, flat_map_more}
use Rattle.px_spelling.specs.declared.fault.WireFault.{WireFault}
use Rattle.px_spelling.specs.declared.fault.WireFault.TheVariants.{NotAMessage, NoMemory}
use Rattle.px_spelling.specs.Reading.{Reader, Fails, ◌<*>◌, done}
use Rattle.px_spelling.specs.Lists.{items_at, with_first}

-- what was read before, and what is still read
abbrev pub with_front : {A : Type 0} → List A → Option (List A × List ℕ) → Option (List A × List ℕ)
with_front front (Some x) = Some (front ++ x.0, x.1)
with_front front None = None

regroup : {A : Type 0} (front : List A) (x : A) (others : Option (List A × List ℕ)) →
    with_front front ((done (with_first x) <*> (λ _. others)) []) ≡ with_front (front ++ x ∷ []) others
regroup front x (Some y) = ap (λ ys. Some (ys, y.1)) (sym (append_assoc front (x ∷ []) y.0))
regroup front x None = refl

pub goes_on : {A : Type 0} (at : Reader A) (front : List A) (count i : ℕ) (bytes : List ℕ) (x : A) (after : List ℕ) (total : Option (List A × List ℕ)) → i < count → at bytes ≡ Some (x, after)
    → with_front front (items_at at (count - i) bytes) ≡ total → with_front (front ++ x ∷ []) (items_at at (count - (i + 1)) after) ≡ total
unfolding items_at
goes_on at front count i bytes x after total lt h so_far =
    let k : count - i ≡ suc (count - (i + 1)) = omega arith in
    let one : with_front front (items_at at (count - i) bytes) ≡ with_front (front ++ x ∷ []) (items_at at (count - (i + 1)) after) = rw (k, h) (regroup front x (items_at at (count - (i + 1)) after)) in
    sym one ∙ so_far

pub ends : {A : Type 0} (e : WireFault) (at : Reader A) (front : List A) (count i : ℕ) (bytes : List ℕ) (total : Option (List A × List ℕ)) → i < count → Fails e (at bytes)
    → with_front front (items_at at (count - i) bytes) ≡ total → Fails e total
unfolding items_at
ends NoMemory at front count i bytes total lt h so_far = tt
ends NotAMessage at front count i bytes total lt h so_far =
    let k : count - i ≡ suc (count - (i + 1)) = omega arith in
    let one : with_front front (items_at at (count - i) bytes) ≡ None = rw (k, h) refl in
    sym so_far ∙ one

pub is_done : {A : Type 0} (at : Reader A) (front : List A) (count i : ℕ) (bytes : List ℕ) (total : Option (List A × List ℕ)) → count ≤ i → with_front front (items_at at (count - i) bytes) ≡ total → total ≡ Some (front, bytes)
unfolding items_at
is_done at front count i bytes total le so_far =
    let k : count - i ≡ 0 = omega arith in
    let one : with_front front (items_at at (count - i) bytes) ≡ Some (front, bytes) = rw k (ap (λ xs. Some (xs, bytes)) (append-nil front)) in
    sym so_far ∙ one

-- an item more was read
pub front_goes_on : {A : Type 0} (bytes_of : A → List ℕ) (bytes : List ℕ) (front : List A) (x : A) (rest after : List ℕ) →
    bytes ≡ flat_map bytes_of front ++ rest → rest ≡ bytes_of x ++ after → bytes ≡ flat_map bytes_of (front ++ x ∷ []) ++ after
front_goes_on bytes_of bytes front x rest after so_far next =
    so_far ∙ ap (λ r. flat_map bytes_of front ++ r) next ∙ sym (append_assoc (flat_map bytes_of front) (bytes_of x) after)
    ∙ ap (λ r. r ++ after) (flat_map_more bytes_of [] front x)
