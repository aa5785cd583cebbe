-- Lists of bits, as words have them.
use Rattle.std.proofs.Common.{◌≡◌, ◌≢◌, inl, inr, ℕ, ◌+◌, ◌*◌, ◌/◌, ◌%◌, ◌^◌, ◌<◌, ◌≤◌, List, length, get_or, set, Bool, false, not, nat_eq, bit_and, refl, sym, ap, ap₂, ◌∙◌, arith}
use Rattle.std.specs.Int.{bit_at}
use Rattle.std.specs.Int.RustNames.{bit_xor}
use Rattle.std.specs.Int.Bits.{xor_zero_r}
use Rattle.std.proofs.Math.Pow.{pow-lt}
use Rattle.std.proofs.Math.Nat.{mod-eq_of_lt}
use Rattle.std.proofs.Math.ListN.{get_or-eq_default, length-set, replicate}
use Rattle.std.proofs.lemmas.Bool.{cases_eq, cases_lt}
use Rattle.std.proofs.lemmas.List.{length-replicate, same_lists, get_or-set_same, get_or-set_other, get_or_default, get_or-replicate}
use Rattle.std.proofs.lemmas.List.FromFn.{length-map-range_with_len, get_or-map-range_with_len}
use Rattle.std.proofs.lemmas.Nat.Bits.{bit_at-lt, bit_at_xor, bit_at-pow_same, bit_at-pow_other, bit_at-zero, shr_and_one}
use Rattle.px_parity.specs.Bits.{bit_in, bits_of, bit_of, plus}

pub length_bits : (ws : List ℕ) → length (bits_of ws) ≡ 64 * length ws
unfolding bits_of
length_bits ws = length-map-range_with_len (bit_in ws) 0 (64 * length ws)

pub get_bits : (ws : List ℕ) (i : ℕ) (d : Bool) → i < 64 * length ws → get_or (bits_of ws) i d ≡ bit_in ws i
unfolding bits_of
get_bits ws i d l = get_or-map-range_with_len (bit_in ws) 0 (64 * length ws) i i d l (omega arith)

pub no_bit : (bs : List Bool) (i : ℕ) → length bs ≤ i → bit_of bs i ≡ false
no_bit bs i l = get_or-eq_default bs false l

-- a bit of the words, or one beyond them
bit_of_words : (ws : List ℕ) (i : ℕ) → bit_of (bits_of ws) i ≡ bit_in ws i
bit_of_words ws i =
    let s = length_bits ws in
    elim (cases_lt i (64 * length ws)) [
      | inl l ↦ get_bits ws i false l
      | inr l ↦ (
          let m : length ws ≤ i / 64 = omega arith in
          no_bit (bits_of ws) i (omega arith) ∙ sym (ap (λ n. nat_eq n 1) (bit_at-zero (i % 64)))
          ∙ sym (ap (λ n. nat_eq (bit_at n (i % 64)) 1) (get_or-eq_default ws 0 m)))
    ]

pub words_inside : (ws : List ℕ) (bs : List Bool) (i : ℕ) → bits_of ws ≡ bs → i < length bs → i / 64 < length ws
words_inside ws bs i e l = let s = length_bits ws in let f = ap length e in omega arith

pub bits_size : (ws : List ℕ) (bs : List Bool) → bits_of ws ≡ bs → length bs ≡ 64 * length ws
bits_size ws bs e = sym (ap length e) ∙ length_bits ws

pub has_bit : (ws : List ℕ) (bs : List Bool) (i w : ℕ) → bits_of ws ≡ bs → i / 64 < length ws → w ≡ get_or ws (i / 64) w → nat_eq (bit_and (w / 2 ^ (i % 64)) 1) 1 ≡ bit_of bs i
has_bit ws bs i w e l g =
    let h : w ≡ get_or ws (i / 64) 0 = g ∙ get_or_default ws (i / 64) w 0 l in
    ap (λ n. nat_eq n 1) (shr_and_one w (i % 64)) ∙ ap (λ n. nat_eq (bit_at n (i % 64)) 1) h
    ∙ sym (bit_of_words ws i) ∙ ap (λ z. bit_of z i) e

pub no_word : (ws : List ℕ) (bs : List Bool) (i : ℕ) → bits_of ws ≡ bs → length ws ≤ i / 64 → bit_of bs i ≡ false
no_word ws bs i e l = let s = bits_size ws bs e in no_bit bs i (omega arith)

-- a word that is 0 has no bits
pub empty_word : (ws : List ℕ) (bs : List Bool) (at i : ℕ) → bits_of ws ≡ bs → get_or ws at 0 ≡ 0 → 64 * at ≤ i → i < 64 * at + 64 → bit_of bs i ≡ false
empty_word ws bs at i e z l m =
    let f : i / 64 ≡ at = omega arith in
    ap (λ x. bit_of x i) (sym e) ∙ bit_of_words ws i ∙ ap (λ j. nat_eq (bit_at (get_or ws j 0) (i % 64)) 1) f
    ∙ ap (λ n. nat_eq (bit_at n (i % 64)) 1) z ∙ ap (λ n. nat_eq n 1) (bit_at-zero (i % 64))

-- ---- a bit that is turned round

abbrev turned : ℕ → ℕ → ℕ
turned w k = bit_xor w (1 * 2 ^ k % 2 ^ 64)

one_shifted : (k : ℕ) → k < 64 → 1 * 2 ^ k % 2 ^ 64 ≡ 2 ^ k
one_shifted k l =
    let e : 1 * 2 ^ k ≡ 2 ^ k = omega arith in
    ap (λ n. n % 2 ^ 64) e ∙ mod-eq_of_lt (pow-lt l)

other_number : (b : ℕ) → b < 2 → nat_eq ((b + 1) % 2) 1 ≡ not (nat_eq b 1)
other_number b l = elim (cases_eq b 0) [
  | inl e ↦ rw e refl
  | inr d ↦ (let e : b ≡ 1 = omega arith in rw e refl)
]

same_number : (b : ℕ) → b < 2 → (b + 0) % 2 ≡ b
same_number b l = omega arith

turned_there : (w k : ℕ) → k < 64 → nat_eq (bit_at (turned w k) k) 1 ≡ not (nat_eq (bit_at w k) 1)
turned_there w k l =
    ap (λ n. nat_eq (bit_at (bit_xor w n) k) 1) (one_shifted k l) ∙ ap (λ n. nat_eq n 1) (bit_at_xor w (2 ^ k) k)
    ∙ ap (λ n. nat_eq ((bit_at w k + n) % 2) 1) (bit_at-pow_same k) ∙ other_number (bit_at w k) (bit_at-lt w k)

turned_elsewhere : (w k j : ℕ) → k < 64 → j ≢ k → nat_eq (bit_at (turned w k) j) 1 ≡ nat_eq (bit_at w j) 1
turned_elsewhere w k j l d =
    ap (λ n. nat_eq (bit_at (bit_xor w n) j) 1) (one_shifted k l) ∙ ap (λ n. nat_eq n 1) (bit_at_xor w (2 ^ k) j)
    ∙ ap (λ n. nat_eq ((bit_at w j + n) % 2) 1) (bit_at-pow_other k j d) ∙ ap (λ n. nat_eq n 1) (same_number (bit_at w j) (bit_at-lt w j))

module _ (ws : List ℕ) (i : ℕ) (l : i < 64 * length ws) where
  abbrev word : ℕ
  word = get_or ws (i / 64) 0

  abbrev after : List ℕ
  after = set ws (i / 64) (turned word (i % 64))

  there : bit_in after i ≡ not (bit_in ws i)
  there =
      ap (λ n. nat_eq (bit_at n (i % 64)) 1) (get_or-set_same ws (i / 64) (turned word (i % 64)) 0 (omega arith))
      ∙ turned_there word (i % 64) (omega arith)

  elsewhere : (k : ℕ) → k ≢ i → bit_in after k ≡ bit_in ws k
  elsewhere k d = elim (cases_eq (k / 64) (i / 64)) [
    | inl e ↦ (
        let m : k % 64 ≢ i % 64 = λ f. d (omega arith) in
        ap (λ j. nat_eq (bit_at (get_or after j 0) (k % 64)) 1) e
        ∙ ap (λ n. nat_eq (bit_at n (k % 64)) 1) (get_or-set_same ws (i / 64) (turned word (i % 64)) 0 (omega arith))
        ∙ turned_elsewhere word (i % 64) (k % 64) (omega arith) m
        ∙ ap (λ j. nat_eq (bit_at (get_or ws j 0) (k % 64)) 1) (sym e))
    | inr m ↦ ap (λ n. nat_eq (bit_at n (k % 64)) 1) (get_or-set_other ws (i / 64) (k / 64) (turned word (i % 64)) 0 m)
  ]

  sizes : length (bits_of after) ≡ 64 * length ws
  sizes = length_bits after ∙ ap (λ n. 64 * n) (length-set ws (i / 64) (turned word (i % 64)))

  pointwise : (k : ℕ) (d : Bool) → k < length (bits_of after) → get_or (bits_of after) k d ≡ get_or (set (bits_of ws) i (not (bit_of (bits_of ws) i))) k d
  pointwise k d h =
      let s = sizes in
      let t = length_bits after in
      let u = length_bits ws in
      get_bits after k d (omega arith) ∙ elim (cases_eq k i) [
        | inl e ↦ ap (bit_in after) e ∙ there ∙ ap not (sym (get_bits ws i false l))
            ∙ sym (get_or-set_same (bits_of ws) i (not (bit_of (bits_of ws) i)) d (omega arith))
            ∙ ap (λ j. get_or (set (bits_of ws) i (not (bit_of (bits_of ws) i))) j d) (sym e)
        | inr m ↦ elsewhere k m ∙ sym (get_bits ws k d (omega arith)) ∙ sym (get_or-set_other (bits_of ws) i k (not (bit_of (bits_of ws) i)) d m)
      ]

  flipped_words : bits_of after ≡ set (bits_of ws) i (not (bit_of (bits_of ws) i))
  flipped_words = same_lists (bits_of after) (set (bits_of ws) i (not (bit_of (bits_of ws) i)))
      (sizes ∙ sym (length_bits ws) ∙ sym (length-set (bits_of ws) i (not (bit_of (bits_of ws) i)))) pointwise

pub flipped : (ws : List ℕ) (bs : List Bool) (i w : ℕ) → bits_of ws ≡ bs → i < length bs → w ≡ get_or ws (i / 64) w
    → bits_of (set ws (i / 64) (bit_xor w (1 * 2 ^ (i % 64) % 2 ^ 64))) ≡ set bs i (not (bit_of bs i))
flipped ws bs i w e l g =
    let s = bits_size ws bs e in
    let h : w ≡ get_or ws (i / 64) 0 = g ∙ get_or_default ws (i / 64) w 0 (omega arith) in
    ap (λ n. bits_of (set ws (i / 64) (turned n (i % 64)))) h ∙ flipped_words ws i (omega arith) ∙ ap (λ z. set z i (not (bit_of z i))) e

-- ---- sums

sum_number : (a b : ℕ) → a < 2 → b < 2 → nat_eq ((a + b) % 2) 1 ≡ plus (nat_eq a 1) (nat_eq b 1)
sum_number a b l h = elim (cases_eq a 0) [
  | inl e ↦ elim (cases_eq b 0) [
    | inl f ↦ rw e (rw f refl)
    | inr f ↦ (let g : b ≡ 1 = omega arith in rw e (rw g refl))
  ]
  | inr e ↦ (let k : a ≡ 1 = omega arith in elim (cases_eq b 0) [
    | inl f ↦ rw k (rw f refl)
    | inr f ↦ (let g : b ≡ 1 = omega arith in rw k (rw g refl))
  ])
]

sum_bit : (a b i : ℕ) → nat_eq (bit_at (bit_xor a b) i) 1 ≡ plus (nat_eq (bit_at a i) 1) (nat_eq (bit_at b i) 1)
sum_bit a b i = ap (λ n. nat_eq n 1) (bit_at_xor a b i) ∙ sum_number (bit_at a i) (bit_at b i) (bit_at-lt a i) (bit_at-lt b i)

pub summed : (xs ys zs : List ℕ) → ((k : ℕ) → get_or zs k 0 ≡ bit_xor (get_or xs k 0) (get_or ys k 0))
    → (k : ℕ) → bit_of (bits_of zs) k ≡ plus (bit_of (bits_of xs) k) (bit_of (bits_of ys) k)
summed xs ys zs h k =
    bit_of_words zs k ∙ ap (λ n. nat_eq (bit_at n (k % 64)) 1) (h (k / 64))
    ∙ sum_bit (get_or xs (k / 64) 0) (get_or ys (k / 64) 0) (k % 64)
    ∙ ap₂ plus (sym (bit_of_words xs k)) (sym (bit_of_words ys k))

-- words of which the first i are added: those beyond are 0
pub words_summed : (xs ys zs : List ℕ) (i : ℕ) → length ys ≤ i → ((k : ℕ) → k < i → get_or zs k 0 ≡ bit_xor (get_or xs k 0) (get_or ys k 0))
    → ((k : ℕ) → i ≤ k → get_or zs k 0 ≡ get_or xs k 0) → (k : ℕ) → get_or zs k 0 ≡ bit_xor (get_or xs k 0) (get_or ys k 0)
words_summed xs ys zs i l done left k = elim (cases_lt k i) [
  | inl m ↦ done k m
  | inr m ↦ (
      let e : get_or ys k 0 ≡ 0 = get_or-eq_default ys 0 (omega arith) in
      left k m ∙ sym (xor_zero_r (get_or xs k 0)) ∙ sym (ap (bit_xor (get_or xs k 0)) e))
]

-- ---- words of zeros

pub zero_bits : (ws : List ℕ) (n : ℕ) → ws ≡ replicate n 0 → (k : ℕ) → bit_of (bits_of ws) k ≡ false
zero_bits ws n e k =
    let s = length_bits ws in
    let t = ap length e ∙ length-replicate n 0 in
    elim (cases_lt k (64 * length ws)) [
      | inl l ↦ get_bits ws k false l ∙ ap (λ z. nat_eq (bit_at (get_or z (k / 64) 0) (k % 64)) 1) e
          ∙ ap (λ m. nat_eq (bit_at m (k % 64)) 1) (get_or-replicate n (k / 64) 0 0 (omega arith)) ∙ ap (λ m. nat_eq m 1) (bit_at-zero (k % 64))
      | inr l ↦ no_bit (bits_of ws) k (omega arith)
    ]
