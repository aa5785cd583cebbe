-- One conjunct more is held, or the last one no longer.
use Rattle.std.proofs.Common.{◌≡◌, ◌≢◌, ◌↔◌, inl, inr, ℕ, zero, suc, ◌+◌, ◌-◌, ◌<◌, ◌≤◌, List, [], ◌∷◌, ◌++◌, length, take, drop, refl, sym, ap, subst, ◌∙◌, arith}
use Rattle.std.specs.Prelude.{ℤ, pos, All, reverse}
use Rattle.std.proofs.Math.Seq.{take-append_seam, drop-append_seam}
use Rattle.std.proofs.lemmas.List.{append-nil, take-append-drop, reverse-append, reverse-reverse}
use Rattle.std.proofs.lemmas.List.Elements.{All-nil, All-cons, All-head, All-tail, All-append, All-take, All-drop}
use Rattle.px_terms.specs.Rules.{HoldsInIntegers, RulesOut}
use Rattle.px_terms.specs.declared.conjuncts.Conj.{Conj}
use Rattle.px_order.specs.declared.comparisons.Comparison.{Comparison}
use Rattle.px_order.specs.declared.kept.Start.{Start}
use Rattle.px_order.specs.Comparisons.{Holds, HaveNoSolution}
use Rattle.px_order.specs.Kept.{IsSaidBy, IsNotLast, AreKept}
use Rattle.px_order.specs.Held.{HoldsBeyond}

-- ---- what is said

module _ (v : ℕ → ℤ) where
  abbrev Said : Conj → Type 0
  Said = HoldsInIntegers v

  said_all : (starts : List Start) (ks : List Comparison) (cs : List Conj) → AreKept starts ks cs → All (Holds v) ks → All Said cs
  said_all starts ks [] h all = All-nil Said
  said_all starts ks (c ∷ cs) (inl (says, h)) all = All-cons Said c cs ((says v).0 (All-nil (Holds v))) (said_all starts ks cs h all)
  said_all starts ks (c ∷ cs) (inr (b, h)) all =
      All-cons Said c cs ((b.says v).0 (All-drop (Holds v) b.from ks all)) (said_all b.others (take b.from ks) cs h (All-take (Holds v) b.from ks all))

  all_said : (starts : List Start) (ks : List Comparison) (cs : List Conj) → AreKept starts ks cs → All Said cs → All (Holds v) ks
  all_said starts ks [] h all = subst (All (Holds v)) (sym h.1) (All-nil (Holds v))
  all_said starts ks (c ∷ cs) (inl (says, h)) all = all_said starts ks cs h (All-tail Said c cs all)
  all_said starts ks (c ∷ cs) (inr (b, h)) all =
      subst (All (Holds v)) (take-append-drop b.from ks)
      (All-append (Holds v) (take b.from ks) (drop b.from ks) (all_said b.others (take b.from ks) cs h (All-tail Said c cs all)) ((b.says v).1 (All-head Said c cs all)))

-- ---- the rule

pub none_ruled_out : ¬ RulesOut 3 []
unfolding RulesOut
none_ruled_out r = r (λ x. pos 0) (All-nil (HoldsInIntegers (λ x. pos 0)))

-- a list that is ruled out stays so
more_ruled_out : (c : Conj) (cs : List Conj) → RulesOut 3 cs → RulesOut 3 (c ∷ cs)
unfolding RulesOut
more_ruled_out c cs r v all = r v (All-tail (HoldsInIntegers v) c cs all)

module _ (starts : List Start) (ks : List Comparison) (c : Conj) (cs : List Conj) (more : List Comparison) (kept : AreKept starts ks cs) (says : IsSaidBy c more) where
  -- the comparisons hold where the conjuncts do
  all_hold : (v : ℕ → ℤ) → All (HoldsInIntegers v) (c ∷ cs) → All (Holds v) (ks ++ more)
  all_hold v all = All-append (Holds v) ks more (all_said v starts ks cs kept (All-tail (HoldsInIntegers v) c cs all)) ((says v).1 (All-head (HoldsInIntegers v) c cs all))

  all_true : (v : ℕ → ℤ) → All (Holds v) (ks ++ more) → All (HoldsInIntegers v) (c ∷ cs)
  all_true v all = All-cons (HoldsInIntegers v) c cs
      ((says v).0 (subst (All (Holds v)) (drop-append_seam ks more) (All-drop (Holds v) (length ks) (ks ++ more) all)))
      (said_all v starts ks cs kept (subst (All (Holds v)) (take-append_seam ks more) (All-take (Holds v) (length ks) (ks ++ more) all)))

  ruled_out : HaveNoSolution (ks ++ more) → RulesOut 3 (c ∷ cs)
  unfolding RulesOut
  ruled_out none v all = none v (all_hold v all)

  still_free : (HaveNoSolution (ks ++ more) → HaveNoSolution ks) → ¬ RulesOut 3 cs → ¬ RulesOut 3 (c ∷ cs)
  unfolding RulesOut
  still_free solvable free r = free (λ v all. solvable (λ w holds. r w (all_true w holds)) v (all_said v starts ks cs kept all))

  still_kept : AreKept (record { conjunct = length cs; comparison = length ks } ∷ starts) (ks ++ more) (c ∷ cs)
  still_kept = inr (
    record { from = length ks; others = starts; starts_are = refl; says = subst (IsSaidBy c) (sym (drop-append_seam ks more)) says },
    subst (λ js. AreKept starts js cs) (sym (take-append_seam ks more)) kept,
  )

-- ---- starts

-- each conjunct of a start is among those that are held
starts_below : (starts : List Start) (ks : List Comparison) (cs : List Conj) → AreKept starts ks cs → (s : Start) (others : List Start) → starts ≡ s ∷ others → s.conjunct < length cs
starts_below starts ks [] h s others e = absurd (let f = sym e ∙ h.0 in cc)
starts_below starts ks (c ∷ cs) (inl (says, h)) s others e = let l = starts_below starts ks cs h s others e in omega arith
starts_below starts ks (c ∷ cs) (inr (b, h)) s others e = let f = ap conjunct_of (sym e ∙ b.starts_are) in omega arith
  where
    conjunct_of : List Start → ℕ
    conjunct_of [] = 0
    conjunct_of (r ∷ rs) = r.conjunct

-- the last start first
pub last_first : (starts : List Start) (s : Start) → reverse (starts ++ s ∷ []) ≡ s ∷ reverse starts
last_first starts s = reverse-append starts (s ∷ [])

back : (starts : List Start) (s : Start) (others : List Start) → reverse starts ≡ s ∷ others → starts ≡ reverse others ++ s ∷ []
back starts s others e = sym (reverse-reverse starts) ∙ ap reverse e ∙ reverse-append (s ∷ []) others

-- ---- where some are ruled out

module _ (count : ℕ) (starts : List Start) (ks : List Comparison) where
  pub held_count : (n : ℕ) (cs : List Conj) → HoldsBeyond n count starts ks cs → n + count ≡ length cs
  held_count zero cs h = let e = h.0 in omega arith
  held_count (suc n) [] h = absurd h
  held_count (suc n) (c ∷ cs) h = let e = held_count n cs h.1 in omega arith

  held_refuted : (n : ℕ) (cs : List Conj) → 0 < n → HoldsBeyond n count starts ks cs → RulesOut 3 cs
  held_refuted zero cs l h = absurd (omega arith)
  held_refuted (suc n) [] l h = absurd h
  held_refuted (suc n) (c ∷ cs) l h = h.0

  pub held_more : (n : ℕ) (c : Conj) (cs : List Conj) → 0 < n → HoldsBeyond n count starts ks cs → HoldsBeyond (n + 1) count starts ks (c ∷ cs)
  held_more n c cs l h = let e : suc n ≡ n + 1 = omega arith in subst (λ k. HoldsBeyond k count starts ks (c ∷ cs)) e (more_ruled_out c cs (held_refuted n cs l h), h)

-- ---- where none is

all_free : (n count : ℕ) (starts : List Start) (ks : List Comparison) (cs : List Conj) → n ≤ 0 → HoldsBeyond n count starts ks cs → HoldsBeyond 0 count starts ks cs
all_free zero count starts ks cs none h = h
all_free (suc n) count starts ks cs none h = absurd (omega arith)

free_all : (n count : ℕ) (starts : List Start) (ks : List Comparison) (cs : List Conj) → n ≤ 0 → HoldsBeyond 0 count starts ks cs → HoldsBeyond n count starts ks cs
free_all zero count starts ks cs none h = h
free_all (suc n) count starts ks cs none h = absurd (omega arith)

module _ (n : ℕ) (none : n ≤ 0) (count : ℕ) where
  module _ (starts : List Start) (ks more : List Comparison) (c : Conj) (cs : List Conj) (says : IsSaidBy c more) (h : HoldsBeyond n count starts ks cs) where
    -- a conjunct that says nothing of two variables
    pub held_silent : more ≡ [] → HoldsBeyond n (count + 1) starts ks (c ∷ cs)
    held_silent e =
        let (a, kept, free) = all_free n count starts ks cs none h in
        let nothing : IsSaidBy c [] = subst (IsSaidBy c) e says in
        free_all n (count + 1) starts ks (c ∷ cs) none (omega arith, inl (nothing, kept), still_free starts ks c cs [] kept nothing (subst HaveNoSolution (append-nil ks)) free)

    -- one that is ruled out
    pub held_out : HaveNoSolution (ks ++ more) → HoldsBeyond 1 count starts ks (c ∷ cs)
    held_out closed = let k = all_free n count starts ks cs none h in (ruled_out starts ks c cs more k.1 says closed, k)

    -- one that isn't
    pub held_pushed : (HaveNoSolution (ks ++ more) → HaveNoSolution ks)
        → HoldsBeyond n (count + 1) (record { conjunct = count; comparison = length ks } ∷ starts) (ks ++ more) (c ∷ cs)
    held_pushed solvable =
        let (a, kept, free) = all_free n count starts ks cs none h in
        free_all n (count + 1) (record { conjunct = count; comparison = length ks } ∷ starts) (ks ++ more) (c ∷ cs) none (
          omega arith,
          subst (λ m. AreKept (record { conjunct = m; comparison = length ks } ∷ starts) (ks ++ more) (c ∷ cs)) (sym a) (still_kept starts ks c cs more kept says),
          still_free starts ks c cs more kept says solvable free,
        )

  -- ---- the last one no longer

  module _ (starts : List Start) (ks : List Comparison) (c : Conj) (cs : List Conj) (h : HoldsBeyond n count starts ks (c ∷ cs)) where
    before : count - 1 ≡ length cs
    before = let e = (all_free n count starts ks (c ∷ cs) none h).0 in omega arith

    held_again : (r : List Start) (js : List Comparison) → AreKept r js cs → HoldsBeyond n (count - 1) r js cs
    held_again r js kept =
        free_all n (count - 1) r js cs none (before, kept, λ out. (all_free n count starts ks (c ∷ cs) none h).2 (more_ruled_out c cs out))

    silent_kept : AreKept starts ks (c ∷ cs) → ((s : Start) (others : List Start) → starts ≡ s ∷ others → s.conjunct ≢ length cs) → AreKept starts ks cs
    silent_kept (inl (says, kept)) other = kept
    silent_kept (inr (b, kept)) other = absurd (other (record { conjunct = length cs; comparison = b.from }) b.others b.starts_are refl)

    -- it said nothing
    pub held_without : ((s : Start) (others : List Start) → starts ≡ s ∷ others → s.conjunct ≢ count - 1) → HoldsBeyond n (count - 1) starts ks cs
    held_without other =
        held_again starts ks (silent_kept (all_free n count starts ks (c ∷ cs) none h).1 (λ s others e f. other s others e (f ∙ sym before)))

    same_start : (from m : ℕ) (r s : List Start) (x : ℕ) → record { conjunct = x; comparison = from } ∷ r ≡ record { conjunct = length cs; comparison = m } ∷ s → (from ≡ m) × (r ≡ s)
    same_start from m r s x e = (ap (λ rs. from_of rs) e, ap rest_of e)
      where
        from_of : List Start → ℕ
        from_of [] = 0
        from_of (q ∷ qs) = q.comparison

        rest_of : List Start → List Start
        rest_of [] = []
        rest_of (q ∷ qs) = qs

    spoken_kept : AreKept starts ks (c ∷ cs) → (from : ℕ) (r : List Start) → starts ≡ record { conjunct = length cs; comparison = from } ∷ r → AreKept r (take from ks) cs
    spoken_kept (inl (says, kept)) from r e = absurd (let l = starts_below starts ks cs kept (record { conjunct = length cs; comparison = from }) r e in omega arith)
    spoken_kept (inr (b, kept)) from r e =
        let (f, g) = same_start from b.from r b.others (length cs) (sym e ∙ b.starts_are) in
        subst (λ m. AreKept r (take m ks) cs) (sym f) (subst (λ q. AreKept q (take b.from ks) cs) (sym g) kept)

    -- what it said is taken away
    pub held_popped : (from : ℕ) (r : List Start) → starts ≡ record { conjunct = count - 1; comparison = from } ∷ r → HoldsBeyond n (count - 1) r (take from ks) cs
    held_popped from r e =
        held_again r (take from ks) (spoken_kept (all_free n count starts ks (c ∷ cs) none h).1 from r (e ∙ ap (λ m. record { conjunct = m; comparison = from } ∷ r) before))

  -- nothing is held exactly where nothing is kept
  pub held_clear : (starts : List Start) (ks : List Comparison) → count ≡ 0 → starts ≡ [] → (ks ≡ []) ↔ HoldsBeyond n count (reverse starts) ks []
  held_clear starts ks e f = (
    λ g. free_all n count (reverse starts) ks [] none (e, (ap reverse f, g), none_ruled_out),
    λ h. (all_free n count (reverse starts) ks [] none h).1.1,
  )

-- by the starts in their order
pub not_last : (n : ℕ) (starts : List Start) → IsNotLast n starts → (s : Start) (others : List Start) → reverse starts ≡ s ∷ others → s.conjunct ≢ n
not_last n starts h s others e = h (reverse others) s (back starts s others e)
