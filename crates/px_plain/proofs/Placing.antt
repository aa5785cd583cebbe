-- Made variables, and the numbers of their blocks.
use Rattle.std.proofs.Common.{◌≡◌, ◌≢◌, ◌⊎◌, inl, inr, ℕ, ◌+◌, ◌-◌, ◌^◌, ◌<◌, ◌≤◌, List, length, get_or, sym, ap, subst, ◌∙◌, arith}
use Rattle.std.specs.Prelude.{Some, slice_get}
use Rattle.std.proofs.lemmas.Bool.{cases_eq, cases_lt}
use Rattle.std.proofs.lemmas.Option.{slice_get_within, slice_get-get_or, get_or_from_slice_get}
use Rattle.std.proofs.Math.ListN.{get_or-eq_default}
use Rattle.px_terms.specs.declared.types.ValueType.TheVariants.{Int}
use Rattle.px_terms.specs.declared.variables.VarInfo.{VarInfo}
use Rattle.px_terms.specs.declared.variables.Sort.TheVariants.{Made, Given}
use Rattle.px_plain.specs.declared.nodes.Node.{Node}
use Rattle.px_plain.specs.declared.nodes.Difference.{Difference}
use Rattle.px_plain.specs.Differences.{difference_at, AllHold, AreBare, AreInside}
use Rattle.px_plain.specs.Places.{ArePlaceNumbers, AreNumbersOf, AreForced, IsPlaced, SomeClash}

abbrev pub info_at : List VarInfo → ℕ → VarInfo
info_at vars x = get_or vars x (record { sort = Given; value = Int })

pub info_is : (vars : List VarInfo) (x : ℕ) (i : VarInfo) → slice_get vars x ≡ Some i → info_at vars x ≡ i
info_is vars x i g = get_or_from_slice_get vars x i (record { sort = Given; value = Int }) g

module _ (vars : List VarInfo) (ns : List ℕ) (x : ℕ) (inside : x < length vars) (below : get_or ns (x + 1) 0 ≤ x + 1) where
  here : slice_get vars x ≡ Some (info_at vars x)
  here = slice_get-get_or vars x (record { sort = Given; value = Int }) inside

  pub not_own : (info_at vars x).sort ≡ Made → get_or ns (x + 1) 0 ≢ x + 1 → (val : ℕ → ℕ) → ArePlaceNumbers vars val → val (x + 1) ≡ val (get_or ns (x + 1) 0) → ⊥
  not_own m n val a e = elim (cases_eq (get_or ns (x + 1) 0) 0) [
    | inl z ↦ a.made x (info_at vars x) here m (e ∙ ap val z ∙ a.null)
    | inr z ↦
        let y : get_or ns (x + 1) 0 ≡ (get_or ns (x + 1) 0 - 1) + 1 = omega arith in
        a.apart x (get_or ns (x + 1) 0 - 1) (info_at vars x) here m (λ q. n (omega arith)) (omega arith) (e ∙ ap val y)
  ]

  pub not_pointer : (info_at vars x).sort ≡ Made → (info_at vars x).value ≡ Int → (val : ℕ → ℕ) → ArePlaceNumbers vars val → val (x + 1) ≡ val (get_or ns (x + 1) 0) → ⊥
  not_pointer m t val a e = a.pointers x (info_at vars x) here m t

  pub owns : get_or ns (x + 1) 0 ≡ x + 1 → (info_at vars x).value ≢ Int → IsPlaced vars ns x
  owns e t = record {
    pointer = λ i g m. λ q. t (ap (λ (k : VarInfo). k.value) (info_is vars x i g) ∙ q);
    own = λ i g m. e;
    other = λ y j g m q. omega arith;
  }

  pub null_one : (info_at vars x).sort ≢ Made → get_or ns (x + 1) 0 ≡ 0 → IsPlaced vars ns x
  null_one n z = record {
    pointer = λ i g m. absurd (n (ap (λ (k : VarInfo). k.sort) (info_is vars x i g) ∙ m));
    own = λ i g m. absurd (n (ap (λ (k : VarInfo). k.sort) (info_is vars x i g) ∙ m));
    other = λ y j g m q. absurd (omega arith);
  }

  pub shares : (info_at vars x).sort ≢ Made → get_or ns (x + 1) 0 ≢ 0 → (info_at vars (get_or ns (x + 1) 0 - 1)).sort ≡ Made →
      (val : ℕ → ℕ) → ArePlaceNumbers vars val → val (x + 1) ≡ val (get_or ns (x + 1) 0) → ⊥
  shares n z m val a e =
      let y : get_or ns (x + 1) 0 ≡ (get_or ns (x + 1) 0 - 1) + 1 = omega arith in
      let b : get_or ns (x + 1) 0 - 1 < length vars = omega arith in
      a.apart (get_or ns (x + 1) 0 - 1) x (info_at vars (get_or ns (x + 1) 0 - 1))
      (slice_get-get_or vars (get_or ns (x + 1) 0 - 1) (record { sort = Given; value = Int }) b) m
      (λ q. n (subst (λ k. (info_at vars k).sort ≡ Made) q m)) inside (ap val (sym y) ∙ sym e)

  pub others : (info_at vars x).sort ≢ Made → (info_at vars (get_or ns (x + 1) 0 - 1)).sort ≢ Made → IsPlaced vars ns x
  others n o = record {
    pointer = λ i g m. absurd (n (ap (λ (k : VarInfo). k.sort) (info_is vars x i g) ∙ m));
    own = λ i g m. absurd (n (ap (λ (k : VarInfo). k.sort) (info_is vars x i g) ∙ m));
    other = λ y j g m q.
        let e : get_or ns (x + 1) 0 - 1 ≡ y = omega arith in
        absurd (o (subst (λ k. (info_at vars k).sort ≡ Made) (sym e) (ap (λ (k : VarInfo). k.sort) (info_is vars y j g) ∙ m)));
  }

-- ---- the numbers of a forest, where all are placed

module _ (vars : List VarInfo) (t : List Node) (ns : List ℕ) (size : length t ≡ length vars + 1) (few : length vars ≤ 65536) (a : AreNumbersOf vars t ns) where
  small : (v : ℕ) → get_or ns v 0 < 2 ^ 32
  small v = elim (cases_lt v (length t)) [
    | inl w ↦ let b = a.below v w in omega arith
    | inr w ↦ let n = a.size in let z : get_or ns v 0 ≡ 0 = get_or-eq_default ns 0 {n = v} (omega arith) in omega arith
  ]

  types : (x y : ℕ) (i j : VarInfo) → slice_get vars x ≡ Some i → slice_get vars y ≡ Some j → get_or ns (x + 1) 0 ≡ get_or ns (y + 1) 0 →
      (i.value ≡ j.value) ⊎ (get_or ns (x + 1) 0 ≡ 0)
  types x y i j g h e = elim (cases_eq (get_or ns (x + 1) 0) 0) [
    | inl z ↦ inr z
    | inr z ↦
        let w = slice_get_within vars x i g in
        let b = a.below (x + 1) (omega arith) in
        let r : get_or ns (x + 1) 0 ≡ (get_or ns (x + 1) 0 - 1) + 1 = omega arith in
        let k = slice_get-get_or vars (get_or ns (x + 1) 0 - 1) (record { sort = Given; value = Int }) (omega arith) in
        inl (a.types x (get_or ns (x + 1) 0 - 1) i (info_at vars (get_or ns (x + 1) 0 - 1)) g k r
        ∙ sym (a.types y (get_or ns (x + 1) 0 - 1) j (info_at vars (get_or ns (x + 1) 0 - 1)) h k (sym e ∙ r)))
  ]

  pub place_numbers : ((x : ℕ) → x < length vars → IsPlaced vars ns x) → ArePlaceNumbers vars (λ v. get_or ns v 0)
  place_numbers p = record {
    null = let b = a.below 0 (omega arith) in omega arith;
    small = small;
    types = types;
    pointers = λ x i g m. (p x (slice_get_within vars x i g)).pointer i g m;
    made = λ x i g m e. let o = (p x (slice_get_within vars x i g)).own i g m in absurd (omega arith);
    apart = λ x y i g m n l e. n (sym ((p y l).other x i g m (sym e ∙ (p x (slice_get_within vars x i g)).own i g m)));
  }

-- a disequality of one number holds with no numbers that are forced
pub clash_not : (ns : List ℕ) (ds : List Difference) → AreInside (length ns) ds → AreBare ds → SomeClash ns ds → (val : ℕ → ℕ) → AreForced ns val → ¬ AllHold val ds
clash_not ns ds i b s val f h =
    let from = f (difference_at ds s.at).from (i.from s.at s.inside) in
    let to = f (difference_at ds s.at).to (i.to s.at s.inside) in
    let same = ap val s.clash.1 in
    let none = b s.at s.inside in
    h.unequal s.at s.inside s.clash.0 (omega arith)
