-- The least model of the plain conjuncts of a list is one.
use Rattle.std.proofs.Common.{◌≡◌, ◌⊎◌, inl, inr, ℕ, ◌<◌, List, length, get_or, sym, ap, subst, ◌∙◌, arith}
use Rattle.std.specs.Prelude.{All, slice_get}
use Rattle.px_terms.specs.Valuations.{valuation_of, numbers_of, IsWord, FitsSort}
use Rattle.px_terms.specs.Conjuncts.{IsPlain, IsIntVariable, IsPointerVariable}
use Rattle.px_terms.specs.declared.types.ValueType.TheVariants.{Int}
use Rattle.px_terms.specs.declared.types.Value.{Value}
use Rattle.px_terms.specs.declared.types.Value.TheVariants as value
use Rattle.px_terms.specs.declared.variables.VarInfo.{VarInfo}
use Rattle.px_terms.specs.declared.conjuncts.Conj.{Conj}
use Rattle.px_plain.specs.Models.{IsPlainModel, IsLeastModel}
use Rattle.px_plain.specs.Ties.{IsRepresentative, IsTrueOf, IsSettled, IsSaidUnwritten}
use Rattle.px_plain.proofs.Meanings.{info_of, fits_int}
use Rattle.px_plain.proofs.LeastWords.{plain_keeps}
use Rattle.px_solver.specs.Laws.{OnePlainModel}
use Rattle.px_solver.proofs.FoundPlaces.{place_cases, written_place, not_null, least_same}
use Rattle.px_solver.proofs.FoundWords.{said_unwritten}
use Rattle.px_solver.proofs.Determined.{AreSame, alike_once, least_once, true_of}
use Rattle.px_terms.proofs.DomainLemmas.{int_below}

module _ (vars : List VarInfo) (cs : List Conj) (vs : List Value) (m : IsPlainModel vars cs vs) (l : IsLeastModel vars cs vs) where
  has_word : (x : ℕ) → IsIntVariable vars x → ¬ IsSaidUnwritten cs x → IsWord (valuation_of vs x)
  has_word x int not =
      let i = info_of (λ (i : VarInfo). i.value ≡ Int) (slice_get vars x) int in
      fits_int i.0.sort (valuation_of vs x) (subst (λ t. FitsSort i.0.sort t (valuation_of vs x)) i.2 (m.fits.sorts x i.0 i.1))
      (λ u. not (l.unwritten x (int_below vars x int) u))

  settled : (r : ℕ) → All (λ c. IsPlain c → IsSettled cs r c → IsTrueOf (numbers_of (valuation_of vs)) c) cs
  settled r k d b p q = true_of (valuation_of vs) (get_or cs k d) (m.plain k d b p)

module _ (vars : List VarInfo) (cs : List Conj) (vs us : List Value) (m : IsPlainModel vars cs vs) (l : IsLeastModel vars cs vs) (n : IsPlainModel vars cs us) (o : IsLeastModel vars cs us) where
  rep_once : (r : ℕ) → IsIntVariable vars r → IsRepresentative cs r → ((s : ℕ) → s < r → IsRepresentative cs s → AreSame vs us s) → AreSame vs us r
  rep_once r int rep ih =
      let a = (l.words r int rep).least (numbers_of (valuation_of us)) (plain_keeps (valuation_of us) cs n.plain) (λ s b p t. sym (ih s b p)) (settled vars cs us n o r) in
      let b = (o.words r int rep).least (numbers_of (valuation_of vs)) (plain_keeps (valuation_of vs) cs m.plain) (λ s b p t. ih s b p) (settled vars cs vs m l r) in
      omega arith

  places_once : (x : ℕ) → x < length vars → IsPointerVariable vars x → ¬ IsSaidUnwritten cs x → valuation_of vs x ≡ valuation_of us x
  places_once x b pointer not = by (place_cases _ (written_place vars cs vs m l x pointer not b)) (place_cases _ (written_place vars cs us n o x pointer not b))
    where
      by : (valuation_of vs x ≡ value.Null) ⊎ ((c : ℕ) × (valuation_of vs x ≡ value.Block c)) → (valuation_of us x ≡ value.Null) ⊎ ((c : ℕ) × (valuation_of us x ≡ value.Block c))
          → valuation_of vs x ≡ valuation_of us x
      by (inl e) (inl f) = e ∙ sym f
      by (inl e) (inr (c, f)) = absurd (not_null vars cs us n o x c b f (l.null x b e))
      by (inr (c, e)) (inl f) = absurd (not_null vars cs vs m l x c b e (o.null x b f))
      by (inr (c, e)) (inr (d, f)) = e ∙ ap value.Block (least_once cs x c d (least_same vars cs vs m l x c b e) (least_same vars cs us n o x d b f)) ∙ sym f

  plain_once : vs ≡ us
  plain_once = alike_once vars cs vs us (record {
    first_size = m.size;
    second_size = n.size;
    first_fits = m.fits;
    second_fits = n.fits;
    first_keeps = plain_keeps (valuation_of vs) cs m.plain;
    second_keeps = plain_keeps (valuation_of us) cs n.plain;
    representatives = λ r int rep ih deny. deny (rep_once r int rep ih);
    first_unwritten = λ x b s. said_unwritten vars cs vs m x s;
    second_unwritten = λ x b s. said_unwritten vars cs us n x s;
    first_words = has_word vars cs vs m l;
    second_words = has_word vars cs us n o;
    places = places_once;
  })

pub one_plain_model : OnePlainModel
one_plain_model = record { one = λ vars cs vs us m l n o. plain_once vars cs vs us m l n o }
