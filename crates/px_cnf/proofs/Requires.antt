-- Clauses that say that literals are true, and places of signed words.
use Rattle.std.proofs.Common.{◌≡◌, ◌↔◌, ℕ, ◌+◌, ◌-◌, ◌*◌, ◌^◌, ◌<◌, ◌≤◌, List, [], ◌∷◌, ◌++◌, length, map, take, get_or, refl, sym, ap, ap₂, subst, ◌∙◌, arith, length-append}
use Rattle.std.specs.Prelude.{Bool, true, false, not, ◌&&◌, ◌||◌, cond, ◌<ℤ◌, ◌≤ℤ◌}
use Rattle.std.specs.List.{list_any, list_all}
use Rattle.std.proofs.lemmas.Bool.{and_parts, and_from, true≢false, false_from_ne_true}
use Rattle.std.proofs.lemmas.List.{take_more, take_all, length-map, length-take-le}
use Rattle.std.proofs.lemmas.List.Elements.{All-push, All-cons, All-nil, All-head, All-tail, All-take}
use Rattle.px_terms.specs.Words.{signed}
use Rattle.px_cnf.specs.declared.literal.Literal.{Literal}
use Rattle.px_cnf.specs.Clauses.{Assignment, holds, negated, is_met, Meets, AreBelow, AreClausesBelow}
use Rattle.px_cnf.specs.Words.{bit, number, raised}
use Rattle.px_cnf.proofs.Meeting.{holds-negated, meets_both, meets_parts}
use Rattle.px_cnf.proofs.Numbers.{number-below, number-push}
use Rattle.px_cnf.proofs.Orders.{number-negated, number_raised, less_raised, at_most_raised}

-- ---- a clause more

pub put_below : (n : ℕ) (cs ds : List (List Literal)) (c : List Literal) → ds ≡ cs ++ c ∷ [] → AreClausesBelow n cs → AreBelow n c → AreClausesBelow n ds
put_below n cs ds c e h k = subst (AreClausesBelow n) (sym e) (All-push (AreBelow n) cs c h k)

pub one_below : (n : ℕ) (l : Literal) → l.variable < n → AreBelow n (l ∷ [])
one_below n l h = All-cons (λ (m : Literal). m.variable < n) l [] h (All-nil (λ (m : Literal). m.variable < n))

pub put_met : (a : Assignment) (cs ds : List (List Literal)) (c : List Literal) → ds ≡ cs ++ c ∷ [] → Meets a ds ↔ (Meets a cs × (is_met a c ≡ true))
put_met a cs ds c e = (
  λ h. let (p, q) = meets_parts a cs (c ∷ []) (subst (Meets a) e h) in (p, (and_parts (is_met a c) true q).0),
  λ h. subst (Meets a) (sym e) (meets_both a cs (c ∷ []) h.0 (and_from (is_met a c) true h.1 refl)),
)

pub one_met : (a : Assignment) (l : Literal) → is_met a (l ∷ []) ≡ holds a l
one_met a l = go (holds a l)
  where
    go : (b : Bool) → (b || false) ≡ b
    go true = refl
    go false = refl

pub put_one : (a : Assignment) (cs ds : List (List Literal)) (l : Literal) → ds ≡ cs ++ (l ∷ []) ∷ [] → Meets a ds ↔ (Meets a cs × (holds a l ≡ true))
put_one a cs ds l e = subst (λ (b : Bool). Meets a ds ↔ (Meets a cs × (b ≡ true))) (one_met a l) (put_met a cs ds (l ∷ []) e)

-- some literal of the turned ones is true where not all are
pub some_false : (a : Assignment) (ls : List Literal) → list_any (holds a) (map (λ l. negated l) ls) ≡ not (list_all (holds a) ls)
some_false a [] = refl
some_false a (l ∷ ls) = ap₂ (λ (x y : Bool). x || y) (holds-negated a l) (some_false a ls) ∙ go (holds a l) (list_all (holds a) ls)
  where
    go : (x y : Bool) → (not x || not y) ≡ not (x && y)
    go true y = refl
    go false y = refl

pub put_some : (a : Assignment) (cs ds : List (List Literal)) (ls : List Literal) → ds ≡ cs ++ map (λ l. negated l) ls ∷ []
    → Meets a ds ↔ (Meets a cs × (¬ (list_all (holds a) ls ≡ true)))
put_some a cs ds ls e =
    let m = put_met a cs ds (map (λ l. negated l) ls) e in (
      λ h. let (p, q) = m.0 h in (p, λ k. absurd (true≢false (sym q ∙ some_false a ls ∙ ap not k))),
      λ h. m.1 (h.0, some_false a ls ∙ ap not (false_from_ne_true (list_all (holds a) ls) h.1)),
    )

turned_below : (n : ℕ) (ls : List Literal) → AreBelow n ls → AreBelow n (map (λ l. negated l) ls)
turned_below n [] h = h
turned_below n (l ∷ ls) h =
    All-cons (λ (m : Literal). m.variable < n) (negated l) (map (λ l. negated l) ls) (All-head (λ (m : Literal). m.variable < n) l ls h)
    (turned_below n ls (All-tail (λ (m : Literal). m.variable < n) l ls h))

pub put_turned_below : (n : ℕ) (cs ds : List (List Literal)) (ls : List Literal) → ds ≡ cs ++ map (λ l. negated l) ls ∷ [] → AreClausesBelow n cs → AreBelow n ls → AreClausesBelow n ds
put_turned_below n cs ds ls e h k = put_below n cs ds (map (λ l. negated l) ls) e h (turned_below n ls k)

-- ---- the place of a word

signs_below : (n : ℕ) (b : Bool) (ls : List Literal) → AreBelow n ls → AreBelow n (map (λ l. cond b l (negated l)) ls)
signs_below n true [] h = h
signs_below n false [] h = h
signs_below n true (l ∷ ls) h =
    All-cons (λ (m : Literal). m.variable < n) l (map (λ l. l) ls) (All-head (λ (m : Literal). m.variable < n) l ls h) (signs_below n true ls (All-tail (λ (m : Literal). m.variable < n) l ls h))
signs_below n false (l ∷ ls) h =
    All-cons (λ (m : Literal). m.variable < n) (negated l) (map (λ l. negated l) ls) (All-head (λ (m : Literal). m.variable < n) l ls h) (signs_below n false ls (All-tail (λ (m : Literal). m.variable < n) l ls h))

sign_below : (n : ℕ) (b : Bool) (l : Literal) → l.variable < n → (cond b l (negated l)).variable < n
sign_below n true l h = h
sign_below n false l h = h

pub place_below : (n : ℕ) (b : Bool) (word low place : List Literal) (d : Literal) → length word ≡ 32 → low ≡ map (λ l. cond b l (negated l)) (take 31 word)
    → place ≡ low ++ cond (not b) (get_or word 31 d) (negated (get_or word 31 d)) ∷ [] → AreBelow n word → AreBelow n place
place_below n b word low place d s e f h =
    subst (AreBelow n) (sym f) (All-push (λ (m : Literal). m.variable < n) low _ (subst (AreBelow n) (sym e) (signs_below n b (take 31 word) (All-take (λ (m : Literal). m.variable < n) 31 word h)))
    (sign_below n (not b) (get_or word 31 d) (h 31 d (omega arith))))

pub place_length : (b : Bool) (word low place : List Literal) (l : Literal) → length word ≡ 32 → low ≡ map (λ l. cond b l (negated l)) (take 31 word)
    → place ≡ low ++ l ∷ [] → length place ≡ 32
place_length b word low place l s e f =
    ap length f ∙ length-append low (l ∷ []) ∙ (let t : length low ≡ 31 = ap length e ∙ length-map (take 31 word) (λ l. cond b l (negated l)) ∙ length-take-le 31 word (omega arith) in omega arith)

same_map : (ls : List Literal) → map (λ l. l) ls ≡ ls
same_map [] = refl
same_map (l ∷ ls) = ap (λ (ms : List Literal). l ∷ ms) (same_map ls)

-- a word by its highest bit
word_parts : (a : Assignment) (word : List Literal) (d : Literal) → length word ≡ 32 → number a word ≡ number a (take 31 word) + 2 ^ 31 * bit (holds a (get_or word 31 d))
word_parts a word d s =
    let l : 31 < length word = omega arith in
    let t : length (take 31 word) ≡ 31 = length-take-le 31 word (omega arith) in
    ap (number a) (sym (take_all 32 word (omega arith)) ∙ take_more word 31 d l) ∙ number-push a (take 31 word) (get_or word 31 d)
    ∙ ap (λ n. number a (take 31 word) + 2 ^ n * bit (holds a (get_or word 31 d))) t

low_small : (a : Assignment) (word : List Literal) → length word ≡ 32 → number a (take 31 word) < 2 ^ 31
low_small a word s = subst (λ n. number a (take 31 word) < 2 ^ n) (length-take-le 31 word (omega arith)) (number-below a (take 31 word))

bits_turned : (b : Bool) → bit (not b) + bit b ≡ 1
bits_turned true = omega arith
bits_turned false = omega arith

pub place_value : (a : Assignment) (b : Bool) (word low place : List Literal) (d : Literal) → length word ≡ 32 → low ≡ map (λ l. cond b l (negated l)) (take 31 word)
    → place ≡ low ++ cond (not b) (get_or word 31 d) (negated (get_or word 31 d)) ∷ []
    → number a place ≡ cond b (raised (number a word)) (2 ^ 32 - 1 - raised (number a word))
place_value a true word low place d s e f =
    let t : length low ≡ 31 = ap length (e ∙ same_map (take 31 word)) ∙ length-take-le 31 word (omega arith) in
    ap (number a) f ∙ number-push a low (negated (get_or word 31 d))
    ∙ ap₂ (λ (m n : ℕ). m + 2 ^ n * bit (holds a (negated (get_or word 31 d)))) (ap (number a) (e ∙ same_map (take 31 word))) t
    ∙ number_raised (number a (take 31 word)) (2 ^ 31) (bit (holds a (negated (get_or word 31 d)))) (bit (holds a (get_or word 31 d))) (low_small a word s) refl
    (ap (λ (x : Bool). bit x + bit (holds a (get_or word 31 d))) (holds-negated a (get_or word 31 d)) ∙ bits_turned (holds a (get_or word 31 d)))
    ∙ ap raised (sym (word_parts a word d s))
place_value a false word low place d s e f =
    let t : length low ≡ 31 = ap length e ∙ length-map (take 31 word) (λ l. negated l) ∙ length-take-le 31 word (omega arith) in
    let n = number-negated a (take 31 word) in
    let r = number_raised (number a (take 31 word)) (2 ^ 31) (bit (not (holds a (get_or word 31 d)))) (bit (holds a (get_or word 31 d))) (low_small a word s) refl (bits_turned (holds a (get_or word 31 d))) in
    ap (number a) f ∙ number-push a low (get_or word 31 d)
    ∙ ap₂ (λ (m k : ℕ). m + 2 ^ k * bit (holds a (get_or word 31 d))) (ap (number a) e) t
    ∙ below_greatest (number a (map negated (take 31 word))) (number a (take 31 word)) (bit (holds a (get_or word 31 d))) (bit (not (holds a (get_or word 31 d))))
    (n ∙ ap (λ k. 2 ^ k) (length-take-le 31 word (omega arith))) (bits_turned (holds a (get_or word 31 d)))
    ∙ ap (λ k. 2 ^ 32 - 1 - k) (r ∙ ap raised (sym (word_parts a word d s)))
  where
    below_greatest : (m n b c : ℕ) → m + n + 1 ≡ 2 ^ 31 → c + b ≡ 1 → m + 2 ^ 31 * b ≡ 2 ^ 32 - 1 - (n + 2 ^ 31 * c)
    below_greatest m n b c h k = omega arith

-- ---- the order

pub less_by_carry : (a : Assignment) (m n x y : ℕ) (l k : Bool) → m < 2 ^ 32 → n < 2 ^ 32 → x ≡ raised n → y ≡ 2 ^ 32 - 1 - raised m → k ≡ false
    → ((l ≡ true) ↔ (2 ^ 32 ≤ x + y + bit k)) → (l ≡ true) ↔ (signed m <ℤ signed n)
less_by_carry a m n x y l k hm hn hx hy hk e =
    let o = less_raised m n hm hn in
    let z : bit k ≡ 0 = ap bit hk in
    (λ h. o.1 (let p = e.0 h in omega arith), λ h. e.1 (let p = o.0 h in omega arith))

pub at_most_by_carry : (a : Assignment) (m n x y : ℕ) (l k : Bool) → m < 2 ^ 32 → n < 2 ^ 32 → x ≡ raised n → y ≡ 2 ^ 32 - 1 - raised m → k ≡ true
    → ((l ≡ true) ↔ (2 ^ 32 ≤ x + y + bit k)) → (l ≡ true) ↔ (signed m ≤ℤ signed n)
at_most_by_carry a m n x y l k hm hn hx hy hk e =
    let o = at_most_raised m n hm hn in
    let z : bit k ≡ 1 = ap bit hk in
    (λ h. o.1 (let p = e.0 h in omega arith), λ h. e.1 (let p = o.0 h in omega arith))

-- ---- one more of several

pub units_next : (X Y Z : Type 0) (p q r : Bool) → r ≡ (p && q) → (X ↔ (Y × (q ≡ true))) → (Y ↔ (Z × (p ≡ true))) → X ↔ (Z × (r ≡ true))
units_next X Y Z p q r e f g = (
  λ x. let (y, a) = f.0 x in let (z, b) = g.0 y in (z, e ∙ and_from p q b a),
  λ (z, a). let (b, d) = and_parts p q (sym e ∙ a) in f.1 (g.1 (z, b), d),
)

pub both_iff : (X Y Z T : Type 0) → (X ↔ (Y × Z)) → (Z ↔ T) → X ↔ (Y × T)
both_iff X Y Z T f g = (λ x. let (y, z) = f.0 x in (y, g.0 z), λ (y, t). f.1 (y, g.1 t))

pub both_iff_not : (X Y Z T : Type 0) → (X ↔ (Y × (¬ Z))) → (Z ↔ T) → X ↔ (Y × (¬ T))
both_iff_not X Y Z T f g = (λ x. let (y, z) = f.0 x in (y, λ t. z (g.1 t)), λ (y, n). f.1 (y, λ z. n (g.0 z)))

pub sign_holds : (a : Assignment) (l : Literal) (b : Bool) → holds a l ≡ true → holds a (cond b l (negated l)) ≡ b
sign_holds a l true h = h
sign_holds a l false h = holds-negated a l ∙ ap not h
