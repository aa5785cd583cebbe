-- Gaps in order, one after another.
use Rattle.std.proofs.Common.{◌≡◌, ◌≢◌, inl, inr, ℕ, ◌+◌, ◌^◌, ◌<◌, ◌≤◌, List, length, max, refl, sym, ap, subst, ◌∙◌, arith}
use Rattle.std.proofs.lemmas.Bool.{cases_eq, cases_lt}
use Rattle.px_interval.specs.declared.gaps.Gap.{Gap}
use Rattle.px_interval.specs.Gaps.{gap_at, IsInOrder, HavePlaces, IsTaken, IsLeft, SomeFull, NoneFull, IsSwept}

module _ (gs : List Gap) where
  later : (i k x n : ℕ) → i ≤ k → IsTaken gs i x n → IsTaken gs k x n
  later i k x n l t = record { at = t.at; before = let b = t.before in omega arith; takes = t.takes }

  -- one gap more leaves a place where it takes another variable's
  left_more : (i x n : ℕ) → (gap_at gs i).variable ≢ x → IsLeft gs i x n → IsLeft gs (i + 1) x n
  left_more i x n ne h j l t = elim (cases_eq j i) [
    | inl e ↦ ne (ap (λ k. (gap_at gs k).variable) (sym e) ∙ t.0)
    | inr d ↦ h j (omega arith) t
  ]

  -- the place `next` is left
  next_left : (i variable next : ℕ) → IsSwept gs i variable next → IsLeft gs i variable next
  next_left i variable next s j l t = let f = s.free j l t.0 t.1 in let u = t.2 in omega arith

  -- higher variables have every place left
  higher_left : (i variable next x n : ℕ) → IsSwept gs i variable next → variable < x → IsLeft gs i x n
  higher_left i variable next x n s h j l t = let f = s.last j l in let u = t.0 in omega arith

  some_left : (i variable next : ℕ) → next < 2 ^ 32 → IsSwept gs i variable next → (x : ℕ) → (n : ℕ) × (n < 2 ^ 32) × IsLeft gs i x n
  some_left i variable next few s x = elim (cases_eq x variable) [
    | inl e ↦ (next, few, subst (λ y. IsLeft gs i y next) (sym e) (next_left i variable next s))
    | inr d ↦ elim (cases_lt x variable) [
      | inl l ↦ s.lower x l
      | inr l ↦ (0, omega arith, higher_left i variable next x 0 s (omega arith))
    ]
  ]

  module _ (order : IsInOrder gs) (places : HavePlaces gs) (i : ℕ) (inside : i < length gs) where
    place_of : (j : ℕ) → j < length gs → (gap_at gs j).low < 2 ^ 32
    place_of j l = places j (record { variable = 0; low = 0; end = 0 }) l

    variables : (j : ℕ) → j < i → (gap_at gs j).variable ≤ (gap_at gs i).variable
    variables j l = let h = order j i (omega arith) inside in let p = place_of j (omega arith) in let q = place_of i inside in omega arith

    lows : (j : ℕ) → j < i → (gap_at gs j).variable ≡ (gap_at gs i).variable → (gap_at gs j).low ≤ (gap_at gs i).low
    lows j l e = let h = order j i (omega arith) inside in omega arith

    onward : (j : ℕ) → i ≤ j → j < length gs → (gap_at gs i).variable ≤ (gap_at gs j).variable
    onward j l h = let o = order i j l h in let p = place_of j h in let q = place_of i inside in omega arith

    -- the state before the next gap, for its variable
    abbrev Before : ℕ → Type 0
    Before next = IsSwept gs i (gap_at gs i).variable next

    passed : (variable next : ℕ) → IsSwept gs i variable next → (gap_at gs i).variable ≢ variable → (j : ℕ) → j < i → (gap_at gs j).variable ≢ (gap_at gs i).variable
    passed variable next s d j l e = let a = s.last j l in let b = s.coming i (omega arith) inside in d (omega arith)

    fresh : (variable next : ℕ) → next < 2 ^ 32 → IsSwept gs i variable next → (gap_at gs i).variable ≢ variable → Before 0
    fresh variable next few s d = record {
      last = variables;
      coming = onward;
      taken = λ n l. absurd (omega arith);
      free = λ j l e h. absurd (passed variable next s d j l e);
      lower = λ x l. some_left i variable next few s x;
    }

    turned : (variable next from : ℕ) → next < 2 ^ 32 → IsSwept gs i variable next
        → ((gap_at gs i).variable ≡ variable → from ≡ next) → ((gap_at gs i).variable ≢ variable → from ≡ 0) → Before from
    turned variable next from few s same other = elim (cases_eq (gap_at gs i).variable variable) [
      | inl e ↦ subst Before (sym (same e)) (subst (λ v. IsSwept gs i v next) (sym e) s)
      | inr d ↦ subst Before (sym (other d)) (fresh variable next few s d)
    ]

    lower_left : (x : ℕ) → x < (gap_at gs i).variable → ((n : ℕ) × (n < 2 ^ 32) × IsLeft gs i x n) → (n : ℕ) × (n < 2 ^ 32) × IsLeft gs (i + 1) x n
    lower_left x l (n, few, h) = (n, few, left_more i x n (λ e. omega arith) h)

    here : (n : ℕ) → (gap_at gs i).low ≤ n → n < (gap_at gs i).end → IsTaken gs (i + 1) (gap_at gs i).variable n
    here n l h = record { at = i; before = omega arith; takes = (refl, l, h) }

    over : (from : ℕ) → Before from → (gap_at gs i).low ≤ from → IsSwept gs (i + 1) (gap_at gs i).variable (max from (gap_at gs i).end)
    over from s l = record {
      last = λ j h. elim (cases_eq j i) [ inl e ↦ (let f = ap (λ k. (gap_at gs k).variable) e in omega arith) | inr d ↦ s.last j (omega arith) ];
      coming = λ j h k. onward j (omega arith) k;
      taken = λ n h. elim (cases_lt n from) [
        | inl a ↦ later i (i + 1) (gap_at gs i).variable n (omega arith) (s.taken n a)
        | inr a ↦ here n (omega arith) (omega arith)
      ];
      free = λ j h e k. elim (cases_eq j i) [
        | inl f ↦ (let g = ap (λ k. (gap_at gs k).end) f in omega arith)
        | inr d ↦ (let a = lows j (omega arith) e in let b = s.free j (omega arith) e (omega arith) in omega arith)
      ];
      lower = λ x h. lower_left x h (s.lower x h);
    }

    under : (from : ℕ) → Before from → from < (gap_at gs i).low → IsSwept gs (i + 1) (gap_at gs i).variable from
    under from s l = record {
      last = λ j h. elim (cases_eq j i) [ inl e ↦ (let f = ap (λ k. (gap_at gs k).variable) e in omega arith) | inr d ↦ s.last j (omega arith) ];
      coming = λ j h k. onward j (omega arith) k;
      taken = λ n h. later i (i + 1) (gap_at gs i).variable n (omega arith) (s.taken n h);
      free = λ j h e k. elim (cases_eq j i) [
        | inl f ↦ (let g = ap (λ k. (gap_at gs k).low) f in absurd (omega arith))
        | inr d ↦ s.free j (omega arith) e k
      ];
      lower = λ x h. lower_left x h (s.lower x h);
    }

    pub swept_more : (variable next from then : ℕ) → next < 2 ^ 32 → IsSwept gs i variable next
        → ((gap_at gs i).variable ≡ variable → from ≡ next) → ((gap_at gs i).variable ≢ variable → from ≡ 0)
        → ((gap_at gs i).low ≤ from → then ≡ max from (gap_at gs i).end) → (from < (gap_at gs i).low → then ≡ from)
        → IsSwept gs (i + 1) (gap_at gs i).variable then
    swept_more variable next from then few s same other taken left = elim (cases_lt from (gap_at gs i).low) [
      | inl l ↦ subst (IsSwept gs (i + 1) (gap_at gs i).variable) (sym (left l)) (under from (turned variable next from few s same other) l)
      | inr l ↦ subst (IsSwept gs (i + 1) (gap_at gs i).variable) (sym (taken l)) (over from (turned variable next from few s same other) l)
    ]

  pub swept_none : IsSwept gs 0 0 0
  swept_none = record {
    last = λ j l. absurd (omega arith);
    coming = λ j l h. omega arith;
    taken = λ n l. absurd (omega arith);
    free = λ j l e h. absurd (omega arith);
    lower = λ x l. absurd (omega arith);
  }

  pub some_full : (i variable next : ℕ) → i ≤ length gs → 2 ^ 32 ≤ next → IsSwept gs i variable next → SomeFull gs
  some_full i variable next l h s = (variable, λ n few. later i (length gs) variable n l (s.taken n (omega arith)))

  pub none_full : (variable next : ℕ) → next < 2 ^ 32 → IsSwept gs (length gs) variable next → NoneFull gs
  none_full variable next few s x = some_left (length gs) variable next few s x
