-- One node after another is marked.
use Rattle.std.proofs.Common.{◌≡◌, ◌≢◌, inl, inr, ℕ, ◌+◌, ◌-◌, ◌<◌, ◌≤◌, List, length, get_or, sym, ap, subst, ◌∙◌, arith, below_more, get_or-set_other, get_or-set_same}
use Rattle.std.specs.Prelude.{Bool, true, false, Contains}
use Rattle.std.proofs.Math.ListN.{set, length-set}
use Rattle.std.proofs.lemmas.Bool.{cases_eq}
use Rattle.std.proofs.lemmas.List.Elements.{Contains-get_or}
use Rattle.std.proofs.lemmas.Option.{slice_get-get_or}
use Rattle.px_terms.specs.declared.variables.VarInfo.{VarInfo}
use Rattle.px_terms.specs.declared.variables.Sort.TheVariants.{Cell, Given}
use Rattle.px_terms.specs.declared.types.ValueType.TheVariants.{Int}
use Rattle.px_plain.specs.Places.{mark_at}
use Rattle.px_plain.specs.Marks.{MarksUnwritten, SomeOtherSort}
use Rattle.px_plain.proofs.Placing.{info_at, info_is}

module _ (vars : List VarInfo) (us : List ℕ) (n : ℕ) (inside : n < length us) (some : 0 < get_or us n 0) (within : get_or us n 0 ≤ length vars) where
  pub other_sort : (info_at vars (get_or us n 0 - 1)).sort ≢ Cell → SomeOtherSort vars us
  other_sort o = record {
    at = n;
    variable = get_or us n 0 - 1;
    info = info_at vars (get_or us n 0 - 1);
    inside = inside;
    node = omega arith;
    is = slice_get-get_or vars (get_or us n 0 - 1) (record { sort = Given; value = Int }) (omega arith);
    sort = o;
  }

  module _ (marks : List Bool) (m : MarksUnwritten vars us n marks) (c : (info_at vars (get_or us n 0 - 1)).sort ≡ Cell) where
    here : mark_at (set marks (get_or us n 0) true) (get_or us n 0) ≡ true
    here = let s = m.size in get_or-set_same marks (get_or us n 0) true false (omega arith)

    there : (w : ℕ) → w ≢ get_or us n 0 → mark_at (set marks (get_or us n 0) true) w ≡ mark_at marks w
    there w h = get_or-set_other marks (get_or us n 0) w true false h

    pub one_marked : MarksUnwritten vars us (n + 1) (set marks (get_or us n 0) true)
    one_marked = record {
      size = length-set marks (get_or us n 0) true ∙ m.size;
      asked = λ u h. elim (cases_eq u (get_or us n 0)) [
        | inl e ↦ subst (Contains us) (sym e) (Contains-get_or us n 0 inside)
        | inr e ↦ m.asked u (sym (there u e) ∙ h)
      ];
      cells = λ x i h g. elim (cases_eq (x + 1) (get_or us n 0)) [
        | inl e ↦
            let q : get_or us n 0 - 1 ≡ x = omega arith in
            ap (λ (k : VarInfo). k.sort) (sym (info_is vars x i g)) ∙ subst (λ k. (info_at vars k).sort ≡ Cell) q c
        | inr e ↦ m.cells x i (sym (there (x + 1) e) ∙ h) g
      ];
      all = below_more (λ k. mark_at (set marks (get_or us n 0) true) (get_or us k 0) ≡ true) n
          (λ k l. elim (cases_eq (get_or us k 0) (get_or us n 0)) [
            | inl e ↦ subst (λ z. mark_at (set marks (get_or us n 0) true) z ≡ true) (sym e) here
            | inr e ↦ there (get_or us k 0) e ∙ m.all k l
          ])
          here;
    }
