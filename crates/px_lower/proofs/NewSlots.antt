-- What the new slots of lowered commands hold, in their order: of which type, and whether a condition's outcome.
use Rattle.std.proofs.Common.{◌≡◌, ◌∙◌, ℕ, suc, ◌≤◌, Bool, true, false, List, [], ◌∷◌, ◌++◌, Option, None, Some, refl, ap, subst, arith, le_refl, le_trans}
use Rattle.std.proofs.lemmas.Option.{same_Some}
use Rattle.px_core.specs.CommandTree.{CommandTree}
use Rattle.px_meaning.specs.Values.{ValueType, Int}
use Rattle.px_lower.specs.Lowering.{Lowered, made_of, and_then}

pub record NewSlot : Type 0 where
  pub type : ValueType
  pub outcome : Bool

abbrev pub holding : ValueType → NewSlot
holding t = record { type = t; outcome = false }

abbrev pub an_outcome : NewSlot
an_outcome = record { type = Int; outcome = true }

-- what each slot holds
abbrev pub Kinds : Type 0
Kinds = ℕ → NewSlot

-- the number after so many
abbrev pub past : ℕ → List NewSlot → ℕ
past n [] = n
past n (x ∷ xs) = past (suc n) xs

-- from n on, the slots hold these
abbrev pub Follows : Kinds → ℕ → List NewSlot → Type 0
Follows K n [] = Unit {0}
Follows K n (x ∷ xs) = (K n ≡ x) × Follows K (suc n) xs

past-append : (n : ℕ) (xs ys : List NewSlot) → past n (xs ++ ys) ≡ past (past n xs) ys
past-append n [] ys = refl
past-append n (x ∷ xs) ys = past-append (suc n) xs ys

-- after some, and then others
pub past_then : (n n' n'' : ℕ) (xs ys : List NewSlot) → past n xs ≡ n' → past n' ys ≡ n'' → past n (xs ++ ys) ≡ n''
past_then n n' n'' xs ys p q = past-append n xs ys ∙ ap (λ i. past i ys) p ∙ q

pub past_grows : (n : ℕ) (xs : List NewSlot) → n ≤ past n xs
past_grows n [] = le_refl n
past_grows n (x ∷ xs) = let h = past_grows (suc n) xs in omega arith

pub split : (K : Kinds) (n n' : ℕ) (xs ys : List NewSlot) → past n xs ≡ n' → Follows K n (xs ++ ys) → Follows K n xs × Follows K n' ys
split K n n' [] ys e h = (tt, subst (λ i. Follows K i ys) e h)
split K n n' (x ∷ xs) ys e h = let q = split K (suc n) n' xs ys e h.1 in ((h.0, q.0), q.1)

-- What is to be said of commands and of values may depend on what the slots hold, and on how many there are in all.
abbrev pub Said : Type 0 → Type 1
Said A = Kinds → ℕ → A → Type 0

module _ (All : Said (List CommandTree)) (both : (K : Kinds) (N : ℕ) (cs ds : List CommandTree) → All K N cs → All K N ds → All K N (cs ++ ds)) (none : (K : Kinds) (N : ℕ) → All K N []) where
  -- From n on the commands take these new slots. Where those hold that, and what is given is so, all is so of the commands, and of their value.
  pub record Slotted {A : Type 0} (given : Kinds → ℕ → Type 0) (n : ℕ) (x : Lowered A) (Value : Said A) : Type 0 where
    pub new : List NewSlot
    pub counts : past n new ≡ x.next
    pub good : (K : Kinds) (N : ℕ) → given K N → x.next ≤ N → Follows K n new → All K N x.commands × ((a : A) → x.value ≡ Some a → Value K N a)

  -- some commands, and their value
  pub alone : {A : Type 0} (given : Kinds → ℕ → Type 0) (V : Said A) (n next : ℕ) (new : List NewSlot) (cs : List CommandTree) (a : A) → past n new ≡ next →
      ((K : Kinds) (N : ℕ) → given K N → next ≤ N → Follows K n new → All K N cs × V K N a) → Slotted given n (record { commands = cs; value = Some a; next = next }) V
  alone given V n next new cs a counts good = record {
    new = new;
    counts = counts;
    good = λ K N g le f. let h = good K N g le f in (h.0, λ b is. subst (V K N) (same_Some a b is) h.1);
  }

  pub ready_made : {A : Type 0} (given : Kinds → ℕ → Type 0) (V : Said A) (n : ℕ) (a : A) → ((K : Kinds) (N : ℕ) → given K N → n ≤ N → V K N a) → Slotted given n (record { commands = []; value = Some a; next = n }) V
  ready_made given V n a v = alone given V n n [] [] a refl (λ K N g le f. (none K N, v K N g le))

  -- commands without a value
  pub stopped : {A : Type 0} (given : Kinds → ℕ → Type 0) (V : Said A) (n : ℕ) (cs : List CommandTree) → ((K : Kinds) (N : ℕ) → given K N → All K N cs) → Slotted {A = A} given n (record { commands = cs; value = None; next = n }) V
  stopped given V n cs h = record { new = []; counts = refl; good = λ K N g le f. (h K N g, λ b is. cc) }

  -- commands, and what is made of their value
  pub slotted_then : {A B : Type 0} (given : Kinds → ℕ → Type 0) (V : Said A) (W : Said B) (n : ℕ) (x : Lowered A) (f : A → ℕ → Lowered B) → Slotted given n x V →
      ((a : A) → Slotted (λ K N. given K N × V K N a) x.next (f a x.next) W) → Slotted given n (and_then x f) W
  slotted_then {A} {B} given V W n x f p more = by x.value refl
    where
      by : (o : Option A) → x.value ≡ o → Slotted given n (made_of x.commands x.next o f) W
      by None e = record { new = p.new; counts = p.counts; good = λ K N g le s. ((p.good K N g le s).0, λ b is. cc) }
      by (Some a) e =
          let y = f a x.next in
          let q = more a in
          let further : x.next ≤ y.next = subst (λ i. x.next ≤ i) q.counts (past_grows x.next q.new) in record {
            new = p.new ++ q.new;
            counts = past_then n x.next y.next p.new q.new p.counts q.counts;
            good = λ K N g le s.
                let parts = split K n x.next p.new q.new p.counts s in
                let first = p.good K N g (le_trans further le) parts.0 in
                let second = q.good K N (g, first.1 a e) le parts.1 in
                (both K N x.commands y.commands first.0 second.0, second.1);
          }

  -- commands before others
  pub slotted_before : {A : Type 0} (given : Kinds → ℕ → Type 0) (V : Said A) (n : ℕ) (cs : List CommandTree) (x : Lowered A) → ((K : Kinds) (N : ℕ) → given K N → n ≤ N → All K N cs) → Slotted given n x V →
      Slotted given n (record { commands = cs ++ x.commands; value = x.value; next = x.next }) V
  slotted_before given V n cs x h p = record {
    new = p.new;
    counts = p.counts;
    good = λ K N g le s.
        let r = p.good K N g le s in
        let before : n ≤ N = le_trans (subst (λ i. n ≤ i) p.counts (past_grows n p.new)) le in
        (both K N cs x.commands (h K N g before) r.0, r.1);
  }
