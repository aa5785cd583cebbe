-- Entries that are checked one after another.
use Rattle.std.proofs.Common.{◌≡◌, ℕ, zero, suc, Ok, Err, ◌+◌, ◌<◌, List, [], ◌∷◌, ◌++◌, length, get_or, drop, refl, sym, ◌∙◌, ap, subst, append_assoc, append-nil, arith}
use Rattle.std.proofs.lemmas.List.{drop_more}
use Rattle.px_entry.specs.declared.derivations.Derivation.{Derivation}
use Rattle.px_entry.specs.declared.derivations.Rule.{Rule}
use Rattle.px_entry.specs.declared.derivations.Step.{Step}
use Rattle.px_entry.specs.declared.entries.Entry.{Entry}
use Rattle.px_callgraph.specs.JobTree.{JobTree}
use Rattle.px_callgraph.specs.Derivations.{Derives, FailsFirst}
use Rattle.px_check.specs.declared.checked.Checked.{Checked}
use Rattle.px_check.specs.declared.checked.CheckFault.{CheckFault}
use Rattle.px_check.specs.declared.checked.CheckFault.TheVariants.{Refused, NoMemory}
use Rattle.px_check.specs.declared.checked.TableFault.{TableFault}
use Rattle.px_check.specs.Answers.{IsAnswer, AreCheckedBy, IsFirstRefused, AreAnswers, fault_of}

-- how many entries are left after the next
pub left_len : {A : Type 0} (m n : ℕ) (old new : List A) (x : A) → n + 1 ≡ m → m ≡ length old → old ≡ x ∷ new → n ≡ length new
left_len m n old new x one all next = let more : length old ≡ suc (length new) = ap length next in omega (arith, one, all, more)

-- in the end none are
pub none_left : {A : Type 0} (m : ℕ) (xs : List A) → m ≡ 0 → m ≡ length xs → xs ≡ []
none_left m [] none all = refl
none_left m (x ∷ xs) none all = absurd (some (length xs) none all)
  where
    some : (n : ℕ) → m ≡ 0 → m ≡ suc n → ⊥
    some n none all = omega (arith, none, all)

-- What is checked so far, and the entries that are left, with their derivations from a place on: what is said of these is
-- said of all.
pub record IsUnderWay (j : JobTree) (entries : List Entry) (derivations : List Derivation) (all : List Checked) (left : List Entry) (place : ℕ) : Type 0 where
  pub even : place + length left ≡ length derivations
  pub checks : (cs : List Checked) → AreCheckedBy j left (drop place derivations) cs → AreCheckedBy j entries derivations (all ++ cs)
  pub fails : (n i : ℕ) (r : Rule) → IsFirstRefused j left (drop place derivations) n i r → IsFirstRefused j entries derivations (place + n) i r

pub begins : (j : JobTree) (entries left : List Entry) (derivations : List Derivation) (all : List Checked) → length entries ≡ length derivations → left ≡ entries → all ≡ [] →
    IsUnderWay j entries derivations all left 0
begins j entries left derivations all even same none = record {
  even = let z : 0 + length left ≡ length left = omega arith in z ∙ ap length same ∙ even;
  checks = λ cs h. subst (λ z. AreCheckedBy j entries derivations (z ++ cs)) (sym none) (subst (λ z. AreCheckedBy j z derivations cs) same h);
  fails = λ n i r h. let z : n ≡ 0 + n = omega arith in subst (λ m. IsFirstRefused j entries derivations m i r) z (subst (λ z. IsFirstRefused j z derivations n i r) same h);
}

module _ (j : JobTree) (entries : List Entry) (derivations : List Derivation) (all : List Checked) (left rest : List Entry) (place : ℕ) (x : Entry) (next : left ≡ x ∷ rest)
    (u : IsUnderWay j entries derivations all left place) where
  pub in_bounds : place < length derivations
  in_bounds = let e : place + suc (length rest) ≡ length derivations = ap (λ z. place + length z) (sym next) ∙ u.even in omega (arith, e)

  module _ (d : Derivation) (at : d ≡ get_or derivations place d) where
    there : d ∷ drop (place + 1) derivations ≡ drop place derivations
    there = ap (λ z. z ∷ drop (place + 1) derivations) at ∙ sym (drop_more derivations place d in_bounds)

    -- the next entry is refused
    pub refused_there : (steps : List Step) (i : ℕ) (r : Rule) (y : Entry) → steps ≡ d.steps → IsAnswer j x steps (Err (Refused i r y)) → IsFirstRefused j entries derivations place i r
    refused_there steps i r y own answer =
        let e : place + 0 ≡ place = omega arith in
        let h : FailsFirst j x d.steps i r = subst (λ ss. FailsFirst j x ss i r) own answer.1 in
        subst (λ n. IsFirstRefused j entries derivations n i r) e
        (u.fails 0 i r (subst (λ ds. IsFirstRefused j left ds 0 i r) there (subst (λ z. IsFirstRefused j z (d ∷ drop (place + 1) derivations) 0 i r) (sym next) h)))

    -- or there is no memory
    pub stops_there : (steps : List Step) (f : CheckFault) (g : TableFault) → steps ≡ d.steps → IsAnswer j x steps (Err f) → g ≡ fault_of place f → AreAnswers j entries derivations (Err g)
    stops_there steps (Refused i r y) g own answer e = subst (λ z. AreAnswers j entries derivations (Err z)) (sym e) (refused_there steps i r y own answer)
    stops_there steps NoMemory g own answer e = subst (λ z. AreAnswers j entries derivations (Err z)) (sym e) tt

    -- or is checked
    pub checked_there : (steps : List Step) (c : Checked) (new : List Checked) (m : ℕ) → steps ≡ d.steps → IsAnswer j x steps (Ok c) → new ≡ all ++ c ∷ [] → m ≡ place + 1 →
        IsUnderWay j entries derivations new rest m
    checked_there steps c new m own answer pushed e = let derives : Derives j x d.steps = subst (Derives j x) own answer.2 in subst (λ n. IsUnderWay j entries derivations new rest n) (sym e) (record {
      even = let f : place + suc (length rest) ≡ length derivations = ap (λ z. place + length z) (sym next) ∙ u.even in omega (arith, f);
      checks = λ cs h.
          subst (AreCheckedBy j entries derivations) (sym (append_assoc all (c ∷ []) cs) ∙ ap (λ z. z ++ cs) (sym pushed))
          (u.checks (c ∷ cs)
          (subst (λ ds. AreCheckedBy j left ds (c ∷ cs)) there
          (subst (λ z. AreCheckedBy j z (d ∷ drop (place + 1) derivations) (c ∷ cs)) (sym next) (answer.0, answer.1, derives, h))));
      fails = λ n i r h.
          let f : place + suc n ≡ place + 1 + n = omega arith in
          subst (λ m. IsFirstRefused j entries derivations m i r) f
          (u.fails (suc n) i r
          (subst (λ ds. IsFirstRefused j left ds (suc n) i r) there
          (subst (λ z. IsFirstRefused j z (d ∷ drop (place + 1) derivations) (suc n) i r) (sym next) (derives, h))));
    })

pub ends : (j : JobTree) (entries left : List Entry) (derivations : List Derivation) (all : List Checked) (place : ℕ) → left ≡ [] → IsUnderWay j entries derivations all left place →
    AreCheckedBy j entries derivations all
ends j entries left derivations all place none u =
    let e : place + 0 ≡ length derivations = ap (λ z. place + length z) (sym none) ∙ u.even in
    let f : length derivations ≡ place = omega (arith, e) in
    subst (AreCheckedBy j entries derivations) (append-nil all)
    (u.checks [] (subst (λ z. AreCheckedBy j z (drop place derivations) []) (sym none) (subst (λ ds. AreCheckedBy j [] ds []) (sym (all_gone derivations place f)) tt)))
  where
    all_gone : (ds : List Derivation) (n : ℕ) → length ds ≡ n → drop n ds ≡ []
    all_gone [] zero e = refl
    all_gone [] (suc n) e = refl
    all_gone (d ∷ ds) zero e = cc
    all_gone (d ∷ ds) (suc n) e = all_gone ds n (omega (arith, e))
