-- The readers of lists with commas between read exactly what the grammar says.
use Rattle.std.proofs.Common.{◌≡◌, ℕ, zero, suc, ◌≤◌, List, [], ◌∷◌, ◌++◌, length, Some, None, refl, ap, sym, subst, ◌∙◌, append_assoc, length-append, arith, inl, inr}
use Rattle.std.proofs.lemmas.List.{append-nil}
use Rattle.px_expressions.specs.declared.terminal.Terminal.TheVariants as T
use Rattle.px_expressions.specs.Lexemes.{Lexeme, front}
use Rattle.px_expressions.specs.Reading.{◌>>=◌, Reader, more_items, separated_at}
use Rattle.px_expressions.specs.Grammar.{Gram, MoreItems, no_item, an_item, Separated, separated}
use Rattle.px_expressions.proofs.ExactTools.{either, done, both_are, front_is, Reads, Exact, part_bind}

-- no comma follows
abbrev pub NoComma : List Lexeme → Type 0
NoComma ts = front T.Comma ts ≡ None

-- what may follow an item may follow a list, and so may a comma
pub record Separates (Follows : List Lexeme → Type 0) : Type 0 where
  pub comma : (c : Lexeme) (rest : List Lexeme) → c.terminal ≡ T.Comma → Follows (c ∷ rest)

module _ {A : Type 0} {G : Gram A} {part : Reader A} {Follows : List Lexeme → Type 0} (p : Exact G part Follows) (w : Separates Follows) where
  more_items_sound : (n : ℕ) (before : List A) (ts : List Lexeme) (es : List A) (rest : List Lexeme) → more_items n part before ts ≡ Some (es, rest) →
      (es1 : List A) × (es ≡ before ++ es1) × Reads (MoreItems G) ts es1 rest
  unfolding more_items
  more_items_sound zero before ts es rest h =
      let q = both_are before es ts rest h in
      ([], sym q.0 ∙ sym (append-nil before), record { front = []; is = no_item refl refl; parts = q.1 })
  more_items_sound (suc n) before ts es rest h =
      elim (either (front T.Comma ts) (λ x. part x.1 >>= λ y. more_items n part (before ++ y.0 ∷ []) y.1) (done before ts) (done es rest) h) [
        | inl v ↦
            let f = front_is T.Comma ts v.0 v.1 in
            let one = part_bind p v.0.1 (λ y. more_items n part (before ++ y.0 ∷ []) y.1) (es, rest) v.2 in
            let y = one.0 in
            let two = more_items_sound n (before ++ y.0 ∷ []) y.1 es rest one.2 in (
              y.0 ∷ two.0,
              two.1 ∙ append_assoc before (y.0 ∷ []) two.0,
              record {
                front = v.0.0 ∷ one.1.front ++ two.2.front;
                is = an_item f.0 one.1.is two.2.is refl refl;
                parts = f.1 ∙ ap (λ z. v.0.0 ∷ z) (one.1.parts ∙ ap (λ z. one.1.front ++ z) two.2.parts ∙ sym (append_assoc one.1.front two.2.front rest));
              },
            )
        | inr v ↦
            let q = both_are before es ts rest v.1 in
            ([], sym q.0 ∙ sym (append-nil before), record { front = []; is = no_item refl refl; parts = q.1 })
      ]

  more_items_follow : {ts : List Lexeme} {es : List A} (rest : List Lexeme) → MoreItems G ts es → Follows rest → Follows (ts ++ rest)
  more_items_follow rest (no_item h g) f = subst (λ z. Follows (z ++ rest)) (sym h) f
  more_items_follow rest (an_item {t = t} {ts1 = ts1} {ts2 = ts2} k a m parts g) f =
      subst (λ z. Follows (z ++ rest)) (sym parts) (w.comma t ((ts1 ++ ts2) ++ rest) k)

  more_items_complete : (n : ℕ) (before : List A) {ts : List Lexeme} {es : List A} (rest : List Lexeme) → MoreItems G ts es → Follows rest → NoComma rest →
      length ts ≤ n → more_items n part before (ts ++ rest) ≡ Some (before ++ es, rest)
  unfolding more_items
  more_items_complete zero before rest (no_item h g) f c le = rw (h, g, append-nil before) refl
  more_items_complete (suc n) before rest (no_item h g) f c le = rw (h, g, c, append-nil before) refl
  more_items_complete zero before rest (an_item {ts = ts} k a m parts g) f c le = absurd (let e = ap length parts in omega arith)
  more_items_complete (suc n) before rest (an_item {t = t} {ts1 = ts1} {ts2 = ts2} {ts = ts} {e = e} {es1 = es1} k a m parts g) f c le =
      let one : part ((ts1 ++ ts2) ++ rest) ≡ Some (e, ts2 ++ rest) = rw (append_assoc ts1 ts2 rest) (p.complete ts1 e (ts2 ++ rest) a (more_items_follow rest m f)) in
      let len : length ts ≡ suc (length (ts1 ++ ts2)) = ap length parts in
      let fits : length ts2 ≤ n = omega (arith, length-append ts1 ts2) in
      let two : more_items n part (before ++ e ∷ []) (ts2 ++ rest) ≡ Some ((before ++ e ∷ []) ++ es1, rest) = more_items_complete n (before ++ e ∷ []) rest m f c fits in
      rw (parts, g, k, one) (two ∙ ap (λ z. done z rest) (append_assoc before (e ∷ []) es1))

  separated_sound : (ts : List Lexeme) (es : List A) (rest : List Lexeme) → separated_at part ts ≡ Some (es, rest) → Reads (Separated G) ts es rest
  unfolding separated_at
  separated_sound ts es rest h =
      let one = part_bind p ts (λ x. more_items (length x.1) part (x.0 ∷ []) x.1) (es, rest) h in
      let x = one.0 in
      let two = more_items_sound (length x.1) (x.0 ∷ []) x.1 es rest one.2 in
      record {
        front = one.1.front ++ two.2.front;
        is = separated one.1.is two.2.is refl two.1;
        parts = one.1.parts ∙ ap (λ z. one.1.front ++ z) two.2.parts ∙ sym (append_assoc one.1.front two.2.front rest);
      }

  separated_complete : (ts : List Lexeme) (es : List A) (rest : List Lexeme) → Separated G ts es → Follows rest × NoComma rest → separated_at part (ts ++ rest) ≡ Some (es, rest)
  unfolding separated_at
  separated_complete ts es rest (separated {ts1 = ts1} {ts2 = ts2} {e = e} {es1 = es1} a m parts g) f =
      let one : part (ts1 ++ (ts2 ++ rest)) ≡ Some (e, ts2 ++ rest) = p.complete ts1 e (ts2 ++ rest) a (more_items_follow rest m f.0) in
      let fits : length ts2 ≤ length (ts2 ++ rest) = omega (arith, length-append ts2 rest) in
      rw (parts, append_assoc ts1 ts2 rest, g, one) (more_items_complete (length (ts2 ++ rest)) (e ∷ []) rest m f.0 f.1 fits)

  pub separated_exact : Exact (Separated G) (separated_at part) (λ rest. Follows rest × NoComma rest)
  separated_exact = record { sound = separated_sound; complete = separated_complete }
