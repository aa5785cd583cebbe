-- What items bytes begin with is determined.
use Rattle.std.proofs.Common.{◌≡◌, refl, sym, subst, ◌∙◌, ap, arith, ℕ, ◌+◌, inl, inr, List, [], ◌∷◌, ◌++◌, length, Ok, Err}
use Rattle.std.specs.Prelude.{take, drop}
use Rattle.std.proofs.lemmas.List.{append_assoc, append-nil}
use Rattle.px_frames.specs.Frames.{frame_of}
use Rattle.px_frames.specs.Feeding.{holds}
use Rattle.px_frames.specs.Cutting.{IsRest}
use Rattle.px_frames.proofs.CutLemmas.{one_first}
use Rattle.px_pool.proofs.CountLemmas.{no_rest}
use Rattle.px_keep.specs.declared.faults.KeepFault.TheVariants.{Bad, NoMemory}
use Rattle.px_keep.specs.Items.{KeptItem, IsItem, AreItems, item_bytes, items_bytes, head, AreKept}
use Rattle.px_keep.specs.Reading.{BeginWithNone, IsBadAt}
use Rattle.px_keep.specs.Writing.{item}
use Rattle.px_keep.specs.Laws.{OneReading, KeptIsRead}

-- ---- one item

pub two_frames : (x : KeptItem) (more : List ℕ) → item_bytes x ++ more ≡ frame_of x.asked ++ (frame_of x.given ++ more)
two_frames x more = append_assoc (frame_of x.asked) (frame_of x.given) more

pub one_item : (bytes : List ℕ) (x y : KeptItem) (r s : List ℕ) → IsItem x → IsItem y → bytes ≡ item_bytes x ++ r → bytes ≡ item_bytes y ++ s → (x ≡ y) × (r ≡ s)
one_item bytes x y r s p q is is' =
    let first : (x.asked ≡ y.asked) × (frame_of x.given ++ r ≡ frame_of y.given ++ s) =
    one_first bytes x.asked y.asked (frame_of x.given ++ r) (frame_of y.given ++ s) p.asked_short q.asked_short (is ∙ two_frames x r) (is' ∙ two_frames y s) in
    let second : (x.given ≡ y.given) × (r ≡ s) = one_first (frame_of x.given ++ r) x.given y.given r s p.given_short q.given_short refl first.1 in
    (ap (λ a. item a x.given) first.0 ∙ ap (λ g. item y.asked g) second.0, second.1)

-- nothing is no item
pub nothing_begins : BeginWithNone []
nothing_begins = λ x more p is. no_rest x.asked (frame_of x.given ++ more) (holds []) p.asked_short (subst (λ l. IsRest l (holds [])) (is ∙ two_frames x more) (inl (omega arith), refl))

-- ---- all items

pub one_split : (xs ys : List KeptItem) (bytes r s : List ℕ) → AreItems xs → AreItems ys → bytes ≡ items_bytes xs ++ r → bytes ≡ items_bytes ys ++ s → BeginWithNone r → BeginWithNone s → (xs ≡ ys) × (r ≡ s)
one_split [] [] bytes r s p q is is' free free' = (refl, sym is ∙ is')
one_split [] (y ∷ ys) bytes r s p q is is' free free' = absurd (free y (items_bytes ys ++ s) q.0 (sym is ∙ is' ∙ append_assoc (item_bytes y) (items_bytes ys) s))
one_split (x ∷ xs) [] bytes r s p q is is' free free' = absurd (free' x (items_bytes xs ++ r) p.0 (sym is' ∙ is ∙ append_assoc (item_bytes x) (items_bytes xs) r))
one_split (x ∷ xs) (y ∷ ys) bytes r s p q is is' free free' =
    let first : (x ≡ y) × (items_bytes xs ++ r ≡ items_bytes ys ++ s) =
    one_item bytes x y (items_bytes xs ++ r) (items_bytes ys ++ s) p.0 q.0 (is ∙ append_assoc (item_bytes x) (items_bytes xs) r) (is' ∙ append_assoc (item_bytes y) (items_bytes ys) s) in
    let others : (xs ≡ ys) × (r ≡ s) = one_split xs ys (items_bytes xs ++ r) r s p.1 q.1 refl first.1 free free' in
    (ap (λ z. z ∷ xs) first.0 ∙ ap (λ l. y ∷ l) others.0, others.1)

-- what stands after the head
behind : (bytes a b : List ℕ) → bytes ≡ head ++ a → bytes ≡ head ++ b → a ≡ b
behind bytes a b is is' = sym (ap (drop 8) is) ∙ ap (drop 8) is'

has_head : (bytes a : List ℕ) → bytes ≡ head ++ a → take 8 bytes ≡ head
has_head bytes a is = ap (take 8) is

pub one_list : (bytes : List ℕ) (xs ys : List KeptItem) → AreKept bytes xs → AreKept bytes ys → xs ≡ ys
one_list bytes xs ys p q =
    let same : items_bytes xs ≡ items_bytes ys = behind bytes (items_bytes xs) (items_bytes ys) p.bytes_are q.bytes_are in
    (one_split xs ys (items_bytes xs) [] [] p.items q.items (sym (append-nil (items_bytes xs))) (same ∙ sym (append-nil (items_bytes ys))) nothing_begins nothing_begins).0

apart : (bytes : List ℕ) (xs : List KeptItem) (n : ℕ) → AreKept bytes xs → IsBadAt bytes n → ⊥
apart bytes xs n p (inl (other, _)) = other (has_head bytes (items_bytes xs) p.bytes_are)
apart bytes xs n p (inr bad) =
    let same : items_bytes xs ≡ items_bytes bad.before ++ bad.rest = behind bytes (items_bytes xs) (items_bytes bad.before ++ bad.rest) p.bytes_are bad.split in
    let none : [] ≡ bad.rest = (one_split xs bad.before (items_bytes xs) [] bad.rest p.items bad.items (sym (append-nil (items_bytes xs))) same nothing_begins bad.none).1 in
    let some = bad.some in
    let empty : 0 ≡ length bad.rest = ap length none in omega arith

one_place : (bytes : List ℕ) (m n : ℕ) → IsBadAt bytes m → IsBadAt bytes n → m ≡ n
one_place bytes m n (inl (_, zero_m)) (inl (_, zero_n)) = zero_m ∙ sym zero_n
one_place bytes m n (inl (other, _)) (inr bad) = absurd (other (has_head bytes (items_bytes bad.before ++ bad.rest) bad.split))
one_place bytes m n (inr bad) (inl (other, _)) = absurd (other (has_head bytes (items_bytes bad.before ++ bad.rest) bad.split))
one_place bytes m n (inr a) (inr b) =
    let same : items_bytes a.before ++ a.rest ≡ items_bytes b.before ++ b.rest = behind bytes (items_bytes a.before ++ a.rest) (items_bytes b.before ++ b.rest) a.split b.split in
    let lists : a.before ≡ b.before = (one_split a.before b.before (items_bytes a.before ++ a.rest) a.rest b.rest a.items b.items refl same a.none b.none).0 in
    a.place_is ∙ ap (λ xs. 8 + length (items_bytes xs)) lists ∙ sym b.place_is

pub one_reading : OneReading
one_reading = record { one_list = one_list; one_place = one_place; apart = apart }

pub kept_is_read : KeptIsRead
kept_is_read bytes xs (Ok ys) kept read = inl (ap Ok (one_list bytes ys xs read kept))
kept_is_read bytes xs (Err (Bad n)) kept read = absurd (apart bytes xs n kept read)
kept_is_read bytes xs (Err NoMemory) kept read = inr refl
