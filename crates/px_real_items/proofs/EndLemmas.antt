-- How the tokens of an item end: what is read backwards is what the grammar has at the end.
use Rattle.std.proofs.Common.{◌≡◌, ℕ, zero, suc, ◌+◌, ◌-◌, ◌<◌, ◌≤◌, List, [], ◌∷◌, ◌++◌, length, take, get_or, map, reverse, Bool, true, false, Option, Some, None, is_some, if◌then◌else◌, refl, ap, sym, ◌∙◌, append_assoc, length-append, arith}
use Rattle.std.proofs.lemmas.List.{take_more, map_push, reverse-append, reverse-reverse, length-reverse, length-map, length-take-le, take-append-le, take_all}
use Rattle.px_real_expressions.specs.declared.terminal.Terminal.{Terminal}
use Rattle.px_real_expressions.specs.declared.terminal.Terminal.TheVariants as T
use Rattle.px_real_expressions.specs.Lexemes.{Lexeme, same, front}
use Rattle.px_real_expressions.specs.Held.{closing, closes_something, Balanced, no_token, a_plain, a_group}
use Rattle.px_real_expressions.specs.Grammar.{Between, between}
use Rattle.px_real_expressions.proofs.Tools.{front_is, front_here}
use Rattle.px_real_statements.specs.StatementTree.{StatementTree}
use Rattle.px_real_statements.specs.Grammar.{Items, no_item, an_item, an_unread, IsStatement, IsBody}
use Rattle.px_real_statements.proofs.Balance.{balanced_both}
use Rattle.px_real_statements.proofs.LabelExact.{front_other}
use Rattle.px_real_statements.proofs.StatementExact.{statement_at_exact}
use Rattle.px_real_blocks.specs.Parts.{nesting_limit, IsBracedBody}
use Rattle.px_real_items.specs.Ends.{opened, passed, taken, go_on, opening_at, body_start, end_by, end_of}
use Rattle.px_real_items.specs.Trees.{all_but_last}
use Rattle.px_real_symbols.specs.declared.symbol.Symbol.{Symbol}
use Rattle.px_real_symbols.proofs.FrontLemmas.{blank}
use Rattle.px_real_items.specs.declared.ends.Nesting.{Nesting}
use Rattle.px_real_items.specs.declared.ends.Nesting.TheVariants as N
use Rattle.px_real_items.specs.declared.ends.End.TheVariants as E

-- ---- lists that are read backwards

pub last_first : {A B : Type 0} (f : A → B) (xs : List A) (i : ℕ) (d : A) → i < length xs → reverse (map f (take (i + 1) xs)) ≡ f (get_or xs i d) ∷ reverse (map f (take i xs))
last_first f xs i d lt = ap (λ z. reverse (map f z)) (take_more xs i d lt) ∙ ap reverse (map_push f (take i xs) (get_or xs i d)) ∙ reverse-append (map f (take i xs)) (f (get_or xs i d) ∷ [])

turned : {A : Type 0} (x : A) (xs rest : List A) → reverse (x ∷ xs) ++ rest ≡ reverse xs ++ x ∷ rest
turned x xs rest = ap (λ z. z ++ rest) (reverse-append (x ∷ []) xs) ∙ append_assoc (reverse xs) (x ∷ []) rest

-- what stands between two, and something before them
turned_pair : {A : Type 0} (o c : A) (xs ys rest : List A) → reverse (o ∷ xs ++ c ∷ ys) ++ rest ≡ reverse ys ++ c ∷ (reverse xs ++ o ∷ rest)
turned_pair o c xs ys rest =
    turned o (xs ++ c ∷ ys) rest
    ∙ ap (λ z. z ++ o ∷ rest) (reverse-append xs (c ∷ ys))
    ∙ append_assoc (reverse (c ∷ ys)) (reverse xs) (o ∷ rest)
    ∙ turned c ys (reverse xs ++ o ∷ rest)

-- ---- over brackets that match

step : (t : Lexeme) (n : ℕ) (ts : List Lexeme) (k : Terminal) → t.terminal ≡ k → opening_at n (t ∷ ts) ≡ go_on (taken k n) (length ts) (λ m. opening_at m ts)
unfolding opening_at
step t n ts k h = ap (λ z. go_on (taken z n) (length ts) (λ m. opening_at m ts)) h

plain_passes : (k : Terminal) (n at : ℕ) (next : ℕ → Option ℕ) → closing k ≡ None → closes_something k ≡ false → go_on (taken k (suc n)) at next ≡ next (suc n)
plain_passes T.CloseBrace n at next o s = absurd cc
plain_passes T.OpenBrace n at next o s = absurd cc
plain_passes _ n at next o s = refl

closes_one : (n at : ℕ) (next : ℕ → Option ℕ) → go_on (taken T.CloseBrace n) at next ≡ next (suc n)
closes_one n at next = let e : n + 1 ≡ suc n = omega arith in ap next e

abbrev Passes : List Lexeme → Type 0
Passes ts = (n : ℕ) (rest : List Lexeme) → opening_at (suc n) (reverse ts ++ rest) ≡ opening_at (suc n) rest

pair_passes : (k j : Terminal) (o c : Lexeme) (ts : List Lexeme) → o.terminal ≡ k → c.terminal ≡ j → closing k ≡ Some j → Passes ts → (n : ℕ) (rest : List Lexeme) → opening_at (suc n) (c ∷ (reverse ts ++ o ∷ rest)) ≡ opening_at (suc n) rest
pair_passes T.OpenParenthesis j o c ts ko kc h inside n rest =
    let e : j ≡ T.CloseParenthesis = cc in
    step c (suc n) (reverse ts ++ o ∷ rest) T.CloseParenthesis (kc ∙ e) ∙ inside n (o ∷ rest) ∙ step o (suc n) rest T.OpenParenthesis ko
pair_passes T.OpenBracket j o c ts ko kc h inside n rest =
    let e : j ≡ T.CloseBracket = cc in
    step c (suc n) (reverse ts ++ o ∷ rest) T.CloseBracket (kc ∙ e) ∙ inside n (o ∷ rest) ∙ step o (suc n) rest T.OpenBracket ko
pair_passes T.OpenBrace j o c ts ko kc h inside n rest =
    let e : j ≡ T.CloseBrace = cc in
    step c (suc n) (reverse ts ++ o ∷ rest) T.CloseBrace (kc ∙ e) ∙ closes_one (suc n) (length (reverse ts ++ o ∷ rest)) (λ m. opening_at m (reverse ts ++ o ∷ rest))
    ∙ inside (suc n) (o ∷ rest)
    ∙ step o (suc (suc n)) rest T.OpenBrace ko
pair_passes _ j o c ts ko kc h inside n rest = absurd cc

passes : {ts : List Lexeme} → Balanced ts → Passes ts
passes (no_token e) n rest = rw e refl
passes (a_plain {t = t} {ts1 = ts1} o s m parts) n rest =
    ap (λ z. opening_at (suc n) (reverse z ++ rest)) parts
    ∙ ap (opening_at (suc n)) (turned t ts1 rest)
    ∙ passes m n (t ∷ rest)
    ∙ step t (suc n) rest t.terminal refl
    ∙ plain_passes t.terminal n (length rest) (λ m. opening_at m rest) o s
passes (a_group {o = o} c {k = k} {ts1 = ts1} {ts2 = ts2} h m kc m2 parts) n rest =
    ap (λ z. opening_at (suc n) (reverse z ++ rest)) parts
    ∙ ap (opening_at (suc n)) (turned_pair o c ts1 ts2 rest)
    ∙ passes m2 n (c ∷ (reverse ts1 ++ o ∷ rest))
    ∙ pair_passes o.terminal k o c ts1 refl kc h (passes m) n rest

-- ---- a body

pub body_balanced : (d : ℕ) {ts : List Lexeme} {ss : List StatementTree} → Items (IsStatement d) ts ss → Balanced ts
body_balanced d (no_item h g) = no_token h
body_balanced d (an_item g f m parts e) = rw parts (balanced_both ((statement_at_exact d).balanced g) (body_balanced d m))
body_balanced d (an_unread m none parts e) = m

last_of_body : (ts1 ts2 : List Lexeme) (ss : List StatementTree) → IsBracedBody ts2 ss → (o : Lexeme) × (c : Lexeme) × (a : List Lexeme) × (o.terminal ≡ T.OpenBrace) × (c.terminal ≡ T.CloseBrace) × Balanced a × (reverse (ts1 ++ ts2) ≡ c ∷ (reverse a ++ o ∷ reverse ts1))
last_of_body ts1 ts2 ss b = by b.0 b.1
  where
    by : (o : Lexeme) → Between T.OpenBrace T.CloseBrace (IsBody nesting_limit) ts2 o ss → (o : Lexeme) × (c : Lexeme) × (a : List Lexeme) × (o.terminal ≡ T.OpenBrace) × (c.terminal ≡ T.CloseBrace) × Balanced a × (reverse (ts1 ++ ts2) ≡ c ∷ (reverse a ++ o ∷ reverse ts1))
    by o (between c {ts1 = a} ko kc g parts) = (
      o,
      c,
      a,
      ko,
      kc,
      body_balanced nesting_limit g,
      ap (λ z. reverse (ts1 ++ z)) parts ∙ reverse-append ts1 (o ∷ a ++ c ∷ []) ∙ turned_pair o c a [] (reverse ts1),
    )

no_semicolon : (c : Lexeme) (ts : List Lexeme) → c.terminal ≡ T.CloseBrace → front T.Semicolon (c ∷ ts) ≡ None
no_semicolon c ts k = front_other T.CloseBrace T.Semicolon c ts k refl

-- it begins where it begins
pub body_there : (ts ts1 ts2 : List Lexeme) (ss : List StatementTree) → IsBracedBody ts2 ss → ts ≡ ts1 ++ ts2 → end_of ts ≡ E.Body (length ts1)
body_there ts ts1 ts2 ss b parts =
    let w = last_of_body ts1 ts2 ss b in
    let o = w.0 in
    let c = w.1 in
    let a = w.2 in
    let turn : reverse ts ≡ c ∷ (reverse a ++ o ∷ reverse ts1) = ap reverse parts ∙ w.6 in
    let starts : opening_at 0 (c ∷ (reverse a ++ o ∷ reverse ts1)) ≡ Some (length (reverse ts1)) =
    step c 0 (reverse a ++ o ∷ reverse ts1) T.CloseBrace w.4 ∙ closes_one 0 (length (reverse a ++ o ∷ reverse ts1)) (λ m. opening_at m (reverse a ++ o ∷ reverse ts1))
    ∙ passes w.5 0 (o ∷ reverse ts1)
    ∙ step o 1 (reverse ts1) T.OpenBrace w.3 in
    ap (λ z. end_by (is_some (front T.Semicolon z)) (opening_at 0 z)) turn
    ∙ ap (λ z. end_by (is_some z) (opening_at 0 (c ∷ (reverse a ++ o ∷ reverse ts1)))) (no_semicolon c (reverse a ++ o ∷ reverse ts1) w.4)
    ∙ ap (end_by false) starts
    ∙ ap E.Body (length-reverse ts1)

-- ---- a semicolon

pub semicolon_there : (ts ts1 : List Lexeme) (e : Lexeme) → e.terminal ≡ T.Semicolon → ts ≡ ts1 ++ e ∷ [] → end_of ts ≡ E.Semicolon
semicolon_there ts ts1 e k parts =
    let turn : reverse ts ≡ e ∷ reverse ts1 = ap reverse parts ∙ reverse-append ts1 (e ∷ []) in
    ap (λ z. end_by (is_some (front T.Semicolon z)) (opening_at 0 z)) turn ∙ ap (λ z. end_by (is_some z) (opening_at 0 (e ∷ reverse ts1))) (front_here T.Semicolon e (reverse ts1) k)

but_last : (xs : List Lexeme) (e : Lexeme) → all_but_last (xs ++ e ∷ []) ≡ xs
but_last xs e =
    let n : length (xs ++ e ∷ []) - 1 ≡ length xs = omega (arith, length-append xs (e ∷ [])) in
    ap (λ z. take z (xs ++ e ∷ [])) n ∙ take-append-le (length xs) xs (e ∷ []) (omega arith) ∙ take_all (length xs) xs (omega arith)

pub before_semicolon : (ts ts1 : List Lexeme) (e : Lexeme) → ts ≡ ts1 ++ e ∷ [] → ts1 ≡ all_but_last ts
before_semicolon ts ts1 e parts = sym (ap all_but_last parts ∙ but_last ts1 e)

found_semicolon : (b : Bool) (start : Option ℕ) → end_by b start ≡ E.Semicolon → b ≡ true
found_semicolon true start h = refl
found_semicolon false (Some n) h = absurd cc
found_semicolon false None h = absurd cc

pub ends_so : (ts : List Lexeme) → end_of ts ≡ E.Semicolon → (e : Lexeme) × (e.terminal ≡ T.Semicolon) × (ts ≡ all_but_last ts ++ e ∷ [])
ends_so ts h = by (front T.Semicolon (reverse ts)) refl (found_semicolon (is_some (front T.Semicolon (reverse ts))) (body_start ts) h)
  where
    by : (o : Option (Lexeme × List Lexeme)) → front T.Semicolon (reverse ts) ≡ o → is_some o ≡ true → (e : Lexeme) × (e.terminal ≡ T.Semicolon) × (ts ≡ all_but_last ts ++ e ∷ [])
    by None e g = absurd cc
    by (Some x) e g =
        let f = front_is T.Semicolon (reverse ts) x e in
        let all : ts ≡ reverse x.1 ++ x.0 ∷ [] = sym (reverse-reverse ts) ∙ ap reverse f.1 ∙ reverse-append (x.0 ∷ []) x.1 in
        (x.0, f.0, all ∙ ap (λ z. z ++ x.0 ∷ []) (before_semicolon ts (reverse x.1) x.0 all))

-- ---- the scan

opened_within : (n m : ℕ) → N.Within m ≡ opened n → m ≤ n + 1
opened_within zero m h = absurd cc
opened_within (suc zero) m h = absurd cc
opened_within (suc (suc n)) m h = let e : m ≡ suc n = cc in omega (arith, e)

passed_within : (n m : ℕ) → N.Within m ≡ passed n → m ≤ n + 1
passed_within zero m h = absurd cc
passed_within (suc n) m h = let e : m ≡ suc n = cc in omega (arith, e)

pub deepens : (k : Terminal) (n m : ℕ) → N.Within m ≡ taken k n → m ≤ n + 1
deepens T.CloseBrace n m h = let e : m ≡ n + 1 = cc in omega (arith, e)
deepens T.OpenBrace n m h = opened_within n m h
deepens _ n m h = passed_within n m h

-- by numbers
pub opened_none : (n : ℕ) → n ≡ 0 → N.Outside ≡ opened n
opened_none n z = rw z refl

pub opened_one : (n : ℕ) → n ≡ 1 → N.Opens ≡ opened n
opened_one n z = rw z refl

pub opened_more : (n : ℕ) → (n ≡ 0 → ⊥) → (n ≡ 1 → ⊥) → N.Within (n - 1) ≡ opened n
opened_more zero a b = absurd (a refl)
opened_more (suc zero) a b = absurd (b refl)
opened_more (suc (suc n)) a b = let e : suc (suc n) - 1 ≡ suc n = omega arith in ap N.Within e

pub passed_none : (n : ℕ) → n ≡ 0 → N.Outside ≡ passed n
passed_none n z = rw z refl

pub passed_more : (n : ℕ) → (n ≡ 0 → ⊥) → N.Within n ≡ passed n
passed_more zero a = absurd (a refl)
passed_more (suc n) a = refl

front_some : (t : Lexeme) (ts : List Lexeme) → is_some (front T.Semicolon (t ∷ ts)) ≡ same t.terminal T.Semicolon
front_some t ts = by (same t.terminal T.Semicolon)
  where
    by : (b : Bool) → is_some {T = Lexeme × List Lexeme} (if b then Some (t, ts) else None) ≡ b
    by true = refl
    by false = refl

module _ (f : Symbol → Lexeme) (xs : List Symbol) where
  abbrev Left : ℕ → List Lexeme
  Left i = reverse (map f (take i xs))

  pub whole_left : (n : ℕ) → length xs ≤ n → opening_at 0 (reverse (map f (take n xs))) ≡ body_start (map f xs)
  whole_left n le = ap (λ z. opening_at 0 (reverse (map f z))) (take_all n xs le)

  one_left : (i n : ℕ) (r : Nesting) → i < length xs → r ≡ taken (f (get_or xs i blank)).terminal n → opening_at n (Left (i + 1)) ≡ go_on r (length (Left i)) (λ m. opening_at m (Left i))
  one_left i n r lt h =
      ap (opening_at n) (last_first f xs i blank lt) ∙ step (f (get_or xs i blank)) n (Left i) (f (get_or xs i blank)).terminal refl ∙ ap (λ z. go_on z (length (Left i)) (λ m. opening_at m (Left i))) (sym h)

  pub goes_on_left : (i n m : ℕ) {o : Option ℕ} → i < length xs → N.Within m ≡ taken (f (get_or xs i blank)).terminal n → opening_at n (reverse (map f (take (i + 1) xs))) ≡ o → opening_at m (reverse (map f (take i xs))) ≡ o
  goes_on_left i n m lt h so_far = sym (one_left i n (N.Within m) lt h) ∙ so_far

  pub opens_there : (i n : ℕ) {o : Option ℕ} → i < length xs → N.Opens ≡ taken (f (get_or xs i blank)).terminal n → opening_at n (reverse (map f (take (i + 1) xs))) ≡ o → Some i ≡ o
  opens_there i n lt h so_far =
      let count : length (Left i) ≡ i = length-reverse (map f (take i xs)) ∙ length-map (take i xs) f ∙ length-take-le i xs (omega arith) in
      sym (ap Some count) ∙ sym (one_left i n N.Opens lt h) ∙ so_far

  pub outside_there : (i n : ℕ) {o : Option ℕ} → i < length xs → N.Outside ≡ taken (f (get_or xs i blank)).terminal n → opening_at n (reverse (map f (take (i + 1) xs))) ≡ o → None ≡ o
  outside_there i n lt h so_far = sym (one_left i n N.Outside lt h) ∙ so_far

  pub none_left : (i n : ℕ) {o : Option ℕ} → i ≡ 0 → opening_at n (reverse (map f (take i xs))) ≡ o → None ≡ o
  unfolding opening_at
  none_left i n z so_far = sym (ap (λ j. opening_at n (reverse (map f (take j xs)))) z) ∙ so_far

  -- the last token
  pub last_is : (i : ℕ) → i + 1 ≡ length xs → is_some (front T.Semicolon (reverse (map f xs))) ≡ same (f (get_or xs i blank)).terminal T.Semicolon
  last_is i e =
      let lt : i < length xs = omega (arith, e) in
      let all : reverse (map f xs) ≡ f (get_or xs i blank) ∷ Left i = ap (λ z. reverse (map f z)) (sym (take_all (i + 1) xs (omega (arith, e)))) ∙ last_first f xs i blank lt in
      ap (λ z. is_some (front T.Semicolon z)) all ∙ front_some (f (get_or xs i blank)) (Left i)

  pub no_last : length xs ≤ 0 → is_some (front T.Semicolon (reverse (map f xs))) ≡ false
  no_last le = ap (λ z. is_some (front T.Semicolon (reverse (map f z)))) (sym (take_all 0 xs le))
