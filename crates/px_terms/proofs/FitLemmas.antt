-- Values fit variables where each fits beside those before it.
use Rattle.std.proofs.Common.{◌≡◌, ◌≢◌, ℕ, zero, suc, ◌<◌, List, [], ◌∷◌, length, Some, slice_get, refl, sym, ap, subst, ◌∙◌, arith}
use Rattle.std.proofs.lemmas.Option.{slice_get_within}
use Rattle.px_terms.specs.Valuations.{valuation_of, IsBlock, FitsSort, Fits}
use Rattle.px_terms.specs.Fitting.{info_at, HaveOneType, StandApart, FitsAt}
use Rattle.px_terms.specs.declared.types.TypeId.{TypeId}
use Rattle.px_terms.specs.declared.types.ValueType.{ValueType}
use Rattle.px_terms.specs.declared.types.ValueType.TheVariants.{Int, Pointer}
use Rattle.px_terms.specs.declared.types.Value.{Value}
use Rattle.px_terms.specs.declared.types.Value.TheVariants.{Word, Null, Block, Unwritten}
use Rattle.px_terms.specs.declared.variables.Sort.{Sort}
use Rattle.px_terms.specs.declared.variables.Sort.TheVariants.{Given, Cell, Input, Made}
use Rattle.px_terms.specs.declared.variables.VarInfo.{VarInfo}

got_info : (vars : List VarInfo) (x : ℕ) (i : VarInfo) → slice_get vars x ≡ Some i → info_at vars x ≡ i
got_info [] x i e = cc
got_info (v ∷ vs) zero i e = cc
got_info (v ∷ vs) (suc x) i e = got_info vs x i e

get_info : (vars : List VarInfo) (x : ℕ) → x < length vars → slice_get vars x ≡ Some (info_at vars x)
get_info [] x l = absurd (omega arith)
get_info (v ∷ vs) zero l = refl
get_info (v ∷ vs) (suc x) l = get_info vs x (omega arith)

made_block : (s : Sort) (t : ValueType) (a : Value) → s ≡ Made → FitsSort s t a → IsBlock a
made_block Given t a e f = cc
made_block Cell t a e f = cc
made_block Input t a e f = cc
made_block Made t a e f = f.1

block_is : (a : Value) (b : ℕ) → a ≡ Block b → IsBlock a
block_is (Word z) b e = cc
block_is Null b e = cc
block_is (Block c) b e = tt
block_is Unwritten b e = cc

pointed : (i j : ValueType) (s t : TypeId) → HaveOneType i j → i ≡ Pointer s → j ≡ Pointer t → s ≡ t
pointed i j s t h e f = subst (λ z. HaveOneType (Pointer s) z) f (subst (λ z. HaveOneType z j) e h)

one_type : (i j : ValueType) → ((s t : TypeId) → i ≡ Pointer s → j ≡ Pointer t → s ≡ t) → HaveOneType i j
one_type Int j h = tt
one_type (Pointer s) Int h = tt
one_type (Pointer s) (Pointer t) h = h s t refl refl

data Order (x y : ℕ) : Type 0 where
  lower : x < y → Order x y
  same : x ≡ y → Order x y
  higher : y < x → Order x y

order_of : (x y : ℕ) → Order x y
order_of zero zero = same refl
order_of zero (suc y) = lower (omega arith)
order_of (suc x) zero = higher (omega arith)
order_of (suc x) (suc y) = next (order_of x y)
  where
    next : {x y : ℕ} → Order x y → Order (suc x) (suc y)
    next (lower l) = lower (omega arith)
    next (same e) = same (ap suc e)
    next (higher l) = higher (omega arith)

module _ (vars : List VarInfo) (values : List Value) (h : (x : ℕ) → x < length vars → FitsAt vars values x) where
  at : (x : ℕ) (i : VarInfo) → slice_get vars x ≡ Some i → FitsSort i.sort i.value (valuation_of values x)
  at x i e = subst (λ j. FitsSort j.sort j.value (valuation_of values x)) (got_info vars x i e) (h x (slice_get_within vars x i e)).sort

  pair : (x y : ℕ) (i j : VarInfo) → slice_get vars x ≡ Some i → slice_get vars y ≡ Some j → x < y → IsBlock (valuation_of values y)
      → StandApart i (valuation_of values x) j (valuation_of values y)
  pair x y i j e f l b =
      subst (λ k. StandApart i (valuation_of values x) k (valuation_of values y)) (got_info vars y j f)
      (subst (λ k. StandApart k (valuation_of values x) (info_at vars y) (valuation_of values y)) (got_info vars x i e) ((h y (slice_get_within vars y j f)).apart b x l))

  made : (x y : ℕ) (i j : VarInfo) → slice_get vars x ≡ Some i → slice_get vars y ≡ Some j → i.sort ≡ Made → x ≢ y → valuation_of values x ≢ valuation_of values y
  made x y i j e f m n q = by (order_of x y)
    where
      block : IsBlock (valuation_of values x)
      block = made_block i.sort i.value (valuation_of values x) m (at x i e)

      by : Order x y → ⊥
      by (lower l) = (pair x y i j e f l (subst IsBlock q block)).first m q
      by (same s) = n s
      by (higher l) = (pair y x j i f e l block).second m (sym q)

  types : (x y : ℕ) (i j : VarInfo) (s t : TypeId) (b : ℕ) → slice_get vars x ≡ Some i → slice_get vars y ≡ Some j
      → i.value ≡ Pointer s → j.value ≡ Pointer t → valuation_of values x ≡ Block b → valuation_of values y ≡ Block b → s ≡ t
  types x y i j s t b e f k l p q = by (order_of x y)
    where
      one : {i j : VarInfo} → i ≡ j → i.value ≡ Pointer s → j.value ≡ Pointer t → s ≡ t
      one g k l = cc

      by : Order x y → s ≡ t
      by (lower o) = pointed i.value j.value s t ((pair x y i j e f o (block_is _ b q)).types (p ∙ sym q)) k l
      by (same o) = one (sym (got_info vars x i e) ∙ ap (info_at vars) o ∙ got_info vars y j f) k l
      by (higher o) = sym (pointed j.value i.value t s ((pair y x j i f e o (block_is _ b p)).types (q ∙ sym p)) l k)

  pub fits_from : Fits vars (valuation_of values)
  fits_from = record { sorts = at; made = made; types = types }

pub fits_to : (vars : List VarInfo) (values : List Value) → Fits vars (valuation_of values) → (x : ℕ) → x < length vars → FitsAt vars values x
fits_to vars values f x l = record {
  sort = f.sorts x (info_at vars x) (get_info vars x l);
  apart = λ b y k. let m : y < length vars = omega arith in
      let e = get_info vars y m in
      let g = get_info vars x l in
      record {
        first = λ s. f.made y x _ _ e g s (different y x k);
        second = λ s q. f.made x y _ _ g e s (λ z. different y x k (sym z)) (sym q);
        types = λ q. one_type _ _ (λ s t i j. typed y s t q b e g i j);
      };
}
  where
    different : (y x : ℕ) → y < x → y ≢ x
    different y x k e = omega arith

    block_of : (a : Value) → IsBlock a → (n : ℕ) × (a ≡ Block n)
    block_of (Word z) h = absurd h
    block_of Null h = absurd h
    block_of (Block n) h = (n, refl)
    block_of Unwritten h = absurd h

    typed : (y : ℕ) (s t : TypeId) → valuation_of values y ≡ valuation_of values x → IsBlock (valuation_of values x)
        → slice_get vars y ≡ Some (info_at vars y) → slice_get vars x ≡ Some (info_at vars x)
        → (info_at vars y).value ≡ Pointer s → (info_at vars x).value ≡ Pointer t → s ≡ t
    typed y s t q b e g i j = let n = block_of (valuation_of values x) b in f.types y x _ _ s t n.0 e g i j (q ∙ n.1) n.1
