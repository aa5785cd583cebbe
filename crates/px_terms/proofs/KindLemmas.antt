-- The kinds of a list of domains, and what some of them rule out.
use Rattle.std.proofs.Common.{◌≡◌, ◌↔◌, ◌⊎◌, inl, inr, ℕ, zero, suc, ◌+◌, ◌<◌, List, [], ◌∷◌, ◌++◌, All, map, take, length, get_or, Bool, true, false, refl, ap, ap₂, sym, ◌∙◌, arith, subst, slice_set, ◌||◌}
use Rattle.std.proofs.lemmas.List.{take_more, length-map, get_or-map}
use Rattle.std.proofs.lemmas.List.Elements.{All-set, All-get_or}
use Rattle.px_terms.specs.declared.conjuncts.Conj.{Conj}
use Rattle.px_terms.specs.Rules.{RulesOut, SomeRulesOut}

-- an item written anew that has the same number leaves the numbers as they are
pub numbers-set : {A : Type 0} (number : A → ℕ) (xs : List A) (i : ℕ) (x y : A) → i < length xs → x ≡ get_or xs i x → number y ≡ number x → map number (slice_set xs i y) ≡ map number xs
numbers-set number [] i x y h e k = refl
numbers-set number (z ∷ zs) zero x y h e k = ap (λ w. w ∷ map number zs) (k ∙ ap number e)
numbers-set number (z ∷ zs) (suc i) x y h e k = ap (λ w. number z ∷ w) (numbers-set number zs i x y (omega arith) e k)

-- what all items have stays where an item written anew has it whenever it had it before
pub all_kept-set : {A : Type 0} (has : A → Type 0) (xs : List A) (i : ℕ) (x y : A) → i < length xs → x ≡ get_or xs i x → (has x → has y) → All has xs → All has (slice_set xs i y)
all_kept-set has xs i x y below e keeps all = All-set has xs i y (keeps (subst has (sym e) (All-get_or has xs i x below all))) all

pub same_length : {A : Type 0} (number : A → ℕ) (xs ys : List A) → map number xs ≡ map number ys → length xs ≡ length ys
same_length number xs ys e = sym (length-map xs number) ∙ ap length e ∙ length-map ys number

-- some kind of a longer list rules out: one of the first, or the last
first_or_last : (ks : List ℕ) (k : ℕ) (cs : List Conj) → SomeRulesOut (ks ++ k ∷ []) cs → SomeRulesOut ks cs ⊎ RulesOut k cs
first_or_last [] k cs h = elim h [ inl r ↦ inr r | inr e ↦ absurd e ]
first_or_last (j ∷ js) k cs h = elim h [ inl r ↦ inl (inl r) | inr r ↦ elim (first_or_last js k cs r) [ inl s ↦ inl (inr s) | inr s ↦ inr s ] ]

some_first : (ks : List ℕ) (k : ℕ) (cs : List Conj) → SomeRulesOut ks cs → SomeRulesOut (ks ++ k ∷ []) cs
some_first [] k cs h = absurd h
some_first (j ∷ js) k cs h = elim h [ inl r ↦ inl r | inr r ↦ inr (some_first js k cs r) ]

some_last : (ks : List ℕ) (k : ℕ) (cs : List Conj) → RulesOut k cs → SomeRulesOut (ks ++ k ∷ []) cs
some_last [] k cs r = inl r
some_last (j ∷ js) k cs r = inr (some_last js k cs r)

-- the answer so far and that of one kind more
answer_more : (ks : List ℕ) (k : ℕ) (cs : List Conj) (old here : Bool) → (old ≡ true ↔ SomeRulesOut ks cs) → (here ≡ true ↔ RulesOut k cs)
    → ((old || here) ≡ true ↔ SomeRulesOut (ks ++ k ∷ []) cs)
answer_more ks k cs true here h g = (λ t. some_first ks k cs (h.0 refl), λ s. refl)
answer_more ks k cs false here h g = (
  λ t. some_last ks k cs (g.0 t),
  λ s. elim (first_or_last ks k cs s) [ inl r ↦ (let e = h.1 r in cc) | inr r ↦ g.1 r ],
)

-- the same of the domain at a place of a list that has kept its kinds
pub answer_next : {A : Type 0} (number : A → ℕ) (first now : List A) (i : ℕ) (x : A) (cs : List Conj) (old here : Bool)
    → i < length now → x ≡ get_or now i x → map number now ≡ map number first
    → (old ≡ true ↔ SomeRulesOut (take i (map number first)) cs) → (here ≡ true ↔ RulesOut (number x) cs)
    → ((old || here) ≡ true ↔ SomeRulesOut (take (i + 1) (map number first)) cs)
answer_next number first now i x cs old here l e same h g =
    let read : get_or (map number now) i (number x) ≡ number x = get_or-map number now i x (number x) l ∙ ap number (sym e) in
    let more : take (i + 1) (map number first) ≡ take i (map number first) ++ number x ∷ [] =
    ap (take (i + 1)) (sym same) ∙ take_more (map number now) i (number x) (rw length-map l) ∙ ap₂ (λ (a : List ℕ) (b : ℕ). take i a ++ b ∷ []) same read in
    subst (λ z. (old || here) ≡ true ↔ SomeRulesOut z cs) (sym more) (answer_more (take i (map number first)) (number x) cs old here h g)
