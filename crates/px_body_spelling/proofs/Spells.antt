-- What a reader reads is spelled by the bytes that it took: tools to show it of readers one after another.
use Rattle.std.proofs.Common.{◌≡◌, ℕ, zero, suc, ◌^◌, ◌<◌, List, [], ◌∷◌, ◌++◌, length, Bool, true, false, ltb, Option, Some, None, refl, sym, subst, ap, ◌∙◌, append_assoc, arith, get_or}
use Rattle.std.specs.Prelude.{◌==◌, nat_lt, if◌then◌else◌, IfSome}
use Rattle.std.specs.List.{flat_map, AllByRecursion}
use Rattle.std.specs.Int.{w32, byte_len, from_be_bytes}
use Rattle.std.proofs.lemmas.Bool.{eqb-true, ltb-false, le-ltb, lt-ltb}
use Rattle.std.proofs.lemmas.List.{append-nil}
use Rattle.std.proofs.lemmas.List.Concat.{flat_map-cons}
use Rattle.std.proofs.lemmas.Nat.{be_bytes_4}
use Rattle.std.proofs.lemmas.Option.{option_and_then_some, none-some}
use Rattle.px_terms.specs.Words.{signed}
use Rattle.px_terms.proofs.WordLaws.{words_are_signed}
use Rattle.px_spelling.specs.Reading.{Reader, ◌>>=◌, ◌<*>◌, done, nothing}
use Rattle.px_spelling.specs.Numbers.{IsU8, u8_at, u32_bytes, IsU32, u32_at, i32_bytes, IsI32, i32_at}
use Rattle.px_spelling.specs.Lists.{list_bytes, IsList, with_first, with_value, items_at, list_at, option_bytes, option_at, option_with}

abbrev pub AreBytesAll : List ℕ → Type 0
AreBytesAll bytes = AllByRecursion IsU8 bytes

all_after : (text rest : List ℕ) → AreBytesAll (text ++ rest) → AreBytesAll rest
all_after [] rest all = all
all_after (b ∷ text) rest all = all_after text rest all.1

-- the bytes begin with a text of which this is said
pub record Takes {A : Type 0} (P : A → List ℕ → Type 0) (bytes : List ℕ) (x : A) (rest : List ℕ) : Type 0 where
  pub text : List ℕ
  pub split : bytes ≡ text ++ rest
  pub is : P x text

-- of what is read, and of the text that it is read from, this is said
pub record Spelled {A : Type 0} (at : Reader A) (P : A → List ℕ → Type 0) : Type 0 where
  pub spelled : (bytes : List ℕ) → AreBytesAll bytes → (x : A) (rest : List ℕ) → at bytes ≡ Some (x, rest) → Takes P bytes x rest

-- the text is the spelling, and the value is in range
abbrev pub Is : {A : Type 0} → (A → List ℕ) → (A → Type 0) → A → List ℕ → Type 0
Is bytes_of fits x text = (text ≡ bytes_of x) × fits x

pub record SpelledAs {A : Type 0} (at : Reader A) (bytes_of : A → List ℕ) (fits : A → Type 0) : Type 0 where
  pub said : Spelled at (Is bytes_of fits)

-- ---- one after another

abbrev value_or : {X : Type 0} → X → Option X → X
value_or other None = other
value_or other (Some x) = x

some_parts : {A : Type 0} (p q : A × List ℕ) → Some p ≡ Some q → (p.0 ≡ q.0) × (p.1 ≡ q.1)
some_parts {A = A} p q e = let s : p ≡ q = ap (value_or p) e in (ap (λ (z : A × List ℕ). z.0) s, ap (λ (z : A × List ℕ). z.1) s)

pub done_spelled : {A : Type 0} {P : A → List ℕ → Type 0} (x : A) → P x [] → Spelled (done x) P
done_spelled {A = A} {P = P} x h = record {
  spelled = λ bytes are y rest e.
      let p : A × List ℕ = (x, bytes) in
      let q : A × List ℕ = (y, rest) in
      let s = some_parts p q e in
      record { text = []; split = s.1; is = subst (λ (z : A). P z []) s.0 h };
}

pub nothing_spelled : {A : Type 0} {P : A → List ℕ → Type 0} → Spelled nothing P
nothing_spelled = record { spelled = λ bytes are y rest e. absurd (none-some _ e) }

pub bind_spelled : {A B : Type 0} (first : Reader A) (next : A → Reader B) (Q : A → List ℕ → Type 0) (P : B → List ℕ → Type 0) → Spelled first Q →
    ((x : A) (t : List ℕ) → Q x t → Spelled (next x) (λ y u. P y (t ++ u))) → Spelled (first >>= next) P
bind_spelled {A = A} first next Q P p q = record {
  spelled = λ bytes are y rest e.
      option_and_then_some (λ (x : A × List ℕ). next x.0 x.1) (first bytes) (y, rest) e (λ x is fx.
      let h = p.spelled bytes are x.0 x.1 is in
      let k = (q x.0 h.text h.is).spelled x.1 (all_after h.text x.1 (subst AreBytesAll h.split are)) y rest fx in
      record { text = h.text ++ k.text; split = h.split ∙ ap (λ (z : List ℕ). h.text ++ z) k.split ∙ sym (append_assoc h.text k.text rest); is = k.is });
}

pub app_spelled : {A B : Type 0} (first : Reader (A → B)) (next : Reader A) (Q : A → List ℕ → Type 0) (P : B → List ℕ → Type 0) →
    Spelled first (λ g t. (x : A) (u : List ℕ) → Q x u → P (g x) (t ++ u)) → Spelled next Q → Spelled (first <*> next) P
app_spelled {A = A} first next Q P p q =
    bind_spelled first (λ f. next >>= λ x. done (f x)) (λ g t. (x : A) (u : List ℕ) → Q x u → P (g x) (t ++ u)) P p (λ g t h.
    bind_spelled next (λ x. done (g x)) Q (λ y u. P y (t ++ u)) q (λ x u k.
    done_spelled (g x) (subst (λ z. P (g x) (t ++ z)) (sym (append-nil u)) (h x u k))))

infixl 11 ◌⊛◌
pub ◌⊛◌ : {A B : Type 0} {first : Reader (A → B)} {next : Reader A} {bytes_of : A → List ℕ} {fits : A → Type 0} {P : B → List ℕ → Type 0} →
    Spelled first (λ g t. (x : A) → fits x → P (g x) (t ++ bytes_of x)) → SpelledAs next bytes_of fits → Spelled (first <*> next) P
◌⊛◌ {A = A} {first = first} {next = next} {bytes_of = bytes_of} {fits = fits} {P = P} p q =
    bind_spelled first (λ f. next >>= λ x. done (f x)) (λ g t. (x : A) → fits x → P (g x) (t ++ bytes_of x)) P p (λ g t h.
    bind_spelled next (λ x. done (g x)) (Is bytes_of fits) (λ y u. P y (t ++ u)) q.said (λ x u k.
    done_spelled (g x) (subst (λ z. P (g x) (t ++ z)) (sym (append-nil u ∙ k.0)) (h x k.1))))

-- what is said follows from what is known
pub weaker : {A : Type 0} (at : Reader A) (P Q : A → List ℕ → Type 0) → ((x : A) (t : List ℕ) → P x t → Q x t) → Spelled at P → Spelled at Q
weaker at P Q f h = record {
  spelled = λ bytes are x rest e. let k = h.spelled bytes are x rest e in record { text = k.text; split = k.split; is = f x k.text k.is };
}

by_test : {A : Type 0} (b : Bool) (tag k : ℕ) (f g : Reader A) (P : ℕ → A → List ℕ → Type 0) → (tag == k) ≡ b → Spelled f (P k) → Spelled g (P tag) → Spelled (if b then f else g) (P tag)
by_test true tag k f g P e p q = subst (λ n. Spelled f (P n)) (sym (eqb-true tag k e)) p
by_test false tag k f g P e p q = q

-- one reader or the other, by a byte
pub by_tag : {A : Type 0} (tag k : ℕ) (f g : Reader A) (P : ℕ → A → List ℕ → Type 0) → Spelled f (P k) → Spelled g (P tag) → Spelled (if tag == k then f else g) (P tag)
by_tag tag k f g P p q = by_test (tag == k) tag k f g P refl p q

tag_takes : {A : Type 0} (next : ℕ → Reader A) (P : A → List ℕ → Type 0) → ((tag : ℕ) → Spelled (next tag) (λ y u. P y (tag ∷ u))) →
    (bytes : List ℕ) → AreBytesAll bytes → (y : A) (rest : List ℕ) → (u8_at >>= next) bytes ≡ Some (y, rest) → Takes P bytes y rest
unfolding u8_at
tag_takes next P h [] are y rest e = absurd (none-some _ e)
tag_takes next P h (b ∷ bytes) are y rest e =
    let k = (h b).spelled bytes are.1 y rest e in
    record { text = b ∷ k.text; split = ap (λ z. b ∷ z) k.split; is = k.is }

-- a byte, and then what it says
pub tagged_spelled : {A : Type 0} (next : ℕ → Reader A) (P : A → List ℕ → Type 0) → ((tag : ℕ) → Spelled (next tag) (λ y u. P y (tag ∷ u))) → Spelled (u8_at >>= next) P
tagged_spelled next P h = record { spelled = tag_takes next P h }

-- ---- numbers

all_at : (bytes : List ℕ) → AreBytesAll bytes → (i : ℕ) → get_or bytes i 0 < 256
all_at [] all i = omega arith
all_at (b ∷ bytes) all zero = all.0
all_at (b ∷ bytes) all (suc i) = all_at bytes all.1 i

four : (a b c d : ℕ) → AreBytesAll (a ∷ b ∷ c ∷ d ∷ []) → from_be_bytes w32 (a ∷ b ∷ c ∷ d ∷ []) < 2 ^ 32
four a b c d all = omega (arith, all.0, all.1.0, all.1.1.0, all.1.1.1.0)

u32_short : (bytes : List ℕ) → length bytes < 4 → u32_at bytes ≡ None
unfolding u32_at
u32_short bytes lt = let short : ltb (length bytes) (byte_len w32) ≡ true = lt-ltb _ _ lt in rw short refl

u32_long : (a b c d : ℕ) (bytes : List ℕ) → u32_at (a ∷ b ∷ c ∷ d ∷ bytes) ≡ Some (from_be_bytes w32 (a ∷ b ∷ c ∷ d ∷ []), bytes)
unfolding u32_at
u32_long a b c d bytes = let long : ltb (length (a ∷ b ∷ c ∷ d ∷ bytes)) (byte_len w32) ≡ false = le-ltb _ _ (omega arith) in rw long refl

four_takes : (a b c d : ℕ) (bytes : List ℕ) → AreBytesAll (a ∷ b ∷ c ∷ d ∷ bytes) → (n : ℕ) (rest : List ℕ) → u32_at (a ∷ b ∷ c ∷ d ∷ bytes) ≡ Some (n, rest) →
    Takes (Is u32_bytes IsU32) (a ∷ b ∷ c ∷ d ∷ bytes) n rest
four_takes a b c d bytes are n rest e =
    let m = from_be_bytes w32 (a ∷ b ∷ c ∷ d ∷ []) in
    let p : ℕ × List ℕ = (m, bytes) in
    let q : ℕ × List ℕ = (n, rest) in
    let s = some_parts p q (sym (u32_long a b c d bytes) ∙ e) in
    let all : AreBytesAll (a ∷ b ∷ c ∷ d ∷ []) = (are.0, (are.1.0, (are.1.1.0, (are.1.1.1.0, tt)))) in
    record {
      text = a ∷ b ∷ c ∷ d ∷ [];
      split = ap (λ (z : List ℕ). a ∷ b ∷ c ∷ d ∷ z) s.1;
      is = subst (λ (z : ℕ). Is u32_bytes IsU32 z (a ∷ b ∷ c ∷ d ∷ [])) s.0
          (sym (be_bytes_4 (a ∷ b ∷ c ∷ d ∷ []) m refl (all_at (a ∷ b ∷ c ∷ d ∷ []) all) refl), four a b c d all);
    }

u32_takes : (bytes : List ℕ) → AreBytesAll bytes → (n : ℕ) (rest : List ℕ) → u32_at bytes ≡ Some (n, rest) → Takes (Is u32_bytes IsU32) bytes n rest
u32_takes [] are n rest e = absurd (none-some _ (sym (u32_short [] (omega arith)) ∙ e))
u32_takes (a ∷ []) are n rest e = absurd (none-some _ (sym (u32_short (a ∷ []) (omega arith)) ∙ e))
u32_takes (a ∷ b ∷ []) are n rest e = absurd (none-some _ (sym (u32_short (a ∷ b ∷ []) (omega arith)) ∙ e))
u32_takes (a ∷ b ∷ c ∷ []) are n rest e = absurd (none-some _ (sym (u32_short (a ∷ b ∷ c ∷ []) (omega arith)) ∙ e))
u32_takes (a ∷ b ∷ c ∷ d ∷ bytes) are n rest e = four_takes a b c d bytes are n rest e

pub u32_spelled : SpelledAs u32_at u32_bytes IsU32
u32_spelled = record { said = record { spelled = u32_takes } }

pub i32_spelled : SpelledAs i32_at i32_bytes IsI32
unfolding i32_at
i32_spelled = record { said = done_spelled signed (λ n fits. (ap u32_bytes (sym (words_are_signed.word_signed n fits)), words_are_signed.signed_fits n fits)) ⊛ u32_spelled }

-- ---- lists

abbrev ItemsOf : {A : Type 0} → (A → List ℕ) → (A → Type 0) → ℕ → List A → List ℕ → Type 0
ItemsOf bytes_of fits n xs text = (text ≡ flat_map bytes_of xs) × (length xs ≡ n) × AllByRecursion fits xs

items_spelled : {A : Type 0} (at : Reader A) (bytes_of : A → List ℕ) (fits : A → Type 0) → SpelledAs at bytes_of fits → (n : ℕ) → Spelled (items_at at n) (ItemsOf bytes_of fits n)
unfolding items_at
items_spelled at bytes_of fits h zero = done_spelled [] (refl, refl, tt)
items_spelled {A = A} at bytes_of fits h (suc n) =
    app_spelled (done with_first <*> at) (items_at at n) (ItemsOf bytes_of fits n) (ItemsOf bytes_of fits (suc n))
    (done_spelled with_first (λ x fx xs u k. (ap (λ (z : List ℕ). bytes_of x ++ z) k.0 ∙ sym (flat_map-cons bytes_of x xs), ap suc k.1, (fx, k.2))) ⊛ h)
    (items_spelled at bytes_of fits h n)

counted_spelled : {A : Type 0} (at : Reader A) (bytes_of : A → List ℕ) (fits : A → Type 0) (most n : ℕ) (t : List ℕ) → SpelledAs at bytes_of fits → Is u32_bytes IsU32 n t → (b : Bool) → nat_lt most n ≡ b →
    Spelled (if b then nothing else items_at at n) (λ xs u. Is (list_bytes bytes_of) (IsList fits most) xs (t ++ u))
counted_spelled at bytes_of fits most n t h q true e = nothing_spelled
counted_spelled at bytes_of fits most n t h q false e =
    weaker (items_at at n) (ItemsOf bytes_of fits n) (λ xs u. Is (list_bytes bytes_of) (IsList fits most) xs (t ++ u))
    (λ xs u k. (rw (q.0, k.0, k.1) refl, (rw k.1 q.1, rw k.1 (ltb-false most n e), k.2))) (items_spelled at bytes_of fits h n)

abbrev counted : {A : Type 0} → Reader A → ℕ → ℕ → Reader (List A)
counted at most n = if nat_lt most n then nothing else items_at at n

pub list_spelled : {A : Type 0} (at : Reader A) (bytes_of : A → List ℕ) (fits : A → Type 0) (most : ℕ) → SpelledAs at bytes_of fits → SpelledAs (list_at at most) (list_bytes bytes_of) (IsList fits most)
unfolding list_at
list_spelled at bytes_of fits most h = record {
  said = bind_spelled u32_at (counted at most) (Is u32_bytes IsU32) (Is (list_bytes bytes_of) (IsList fits most)) u32_spelled.said
      (λ n t q. counted_spelled at bytes_of fits most n t h q (nat_lt most n) refl);
}

abbrev OptionOf : {A : Type 0} → (A → List ℕ) → (A → Type 0) → ℕ → Option A → List ℕ → Type 0
OptionOf bytes_of fits tag o u = Is (option_bytes bytes_of) (λ o. IfSome o fits) o (tag ∷ u)

pub option_spelled : {A : Type 0} (at : Reader A) (bytes_of : A → List ℕ) (fits : A → Type 0) → SpelledAs at bytes_of fits → SpelledAs (option_at at) (option_bytes bytes_of) (λ o. IfSome o fits)
unfolding option_at option_with
option_spelled at bytes_of fits h = record {
  said = tagged_spelled (option_with at) (Is (option_bytes bytes_of) (λ o. IfSome o fits)) (λ tag.
      by_tag tag 0 (done None) (if tag == 1 then done with_value <*> at else nothing) (OptionOf bytes_of fits) (done_spelled None (refl, tt))
      (by_tag tag 1 (done with_value <*> at) nothing (OptionOf bytes_of fits) (done_spelled with_value (λ x fx. (refl, fx)) ⊛ h) nothing_spelled));
}
