-- What an entry says is assumed, conjunct by conjunct.
use Rattle.std.proofs.Common.{◌≡◌, ◌<◌, ◌+◌, ℕ, Bool, true, false, ◌||◌, ◌&&◌, not, List, [], ◌∷◌, ◌++◌, take, length, get_or, length-append, append_assoc, append-nil, refl, ap, sym, subst, ◌∙◌, arith}
use Rattle.std.specs.Prelude.{fold, flat_map}
use Rattle.std.specs.List.{list_any}
use Rattle.std.proofs.Math.Bool.{or_assoc, or-false}
use Rattle.std.proofs.lemmas.List.{take_more}
use Rattle.std.proofs.lemmas.List.Sums.{fold-append}
use Rattle.std.proofs.lemmas.List.Folds.{list_any-append}
use Rattle.std.proofs.lemmas.Grind.{flat_map-append}
use Rattle.std.proofs.lemmas.Bool.{or_right}
use Rattle.px_terms.specs.Polynomials.{Polynomial}
use Rattle.px_terms.specs.declared.variables.VarInfo.{VarInfo}
use Rattle.px_terms.specs.declared.conjuncts.Conj.{Conj}
use Rattle.px_entry.specs.Sorts.{is_long, is_long_conjunct}
use Rattle.px_entry.specs.Equality.{same_conjunct}
use Rattle.px_entry.specs.Decided.{decided, is_true, stands_in, assume}
use Rattle.px_callgraph.specs.Operations.{conjunct_terms}
use Rattle.px_callgraph.specs.Renaming.{Substitution, Claim, surely, never, claims, claim_through, assume_claim, claim_terms}
use Rattle.px_match.specs.declared.claims.Claimed.{Claimed}
use Rattle.px_match.specs.declared.claims.Claimed.TheVariants as claimed
use Rattle.px_match.specs.Through.{IsClaimed}
use Rattle.px_calls.specs.declared.assuming.Assumed.{Assumed}
use Rattle.px_calls.specs.Assuming.{IsAssumed, AreAssumed}
use Rattle.px_match.proofs.LongLemmas.{long_terms, long_assumed, other_one}

-- ---- one conjunct

stands_either : (c : Conj) (pure added stood : List Conj) → is_long_conjunct c ≡ false → list_any (same_conjunct c) stood ≡ (list_any (same_conjunct c) pure || list_any (same_conjunct c) added) →
    stands_in stood c ≡ (stands_in pure c || stands_in added c)
stands_either c pure added stood e h =
    ap (λ b. not b && list_any (same_conjunct c) stood) e ∙ h
    ∙ sym (ap (λ b. (not b && list_any (same_conjunct c) pure) || (not b && list_any (same_conjunct c) added)) e)

assumed_if : (vars : List VarInfo) (stood : List Conj) (c : Conj) (b : Bool) → (is_true (decided vars c) || stands_in stood c) ≡ b →
    assume vars stood c ≡ elim b as (λ _. List Conj) [ true ↦ stood | false ↦ stood ++ c ∷ [] ]
assumed_if vars stood c b e = ap (λ z. elim z as (λ _. List Conj) [ true ↦ stood | false ↦ stood ++ c ∷ [] ]) e

-- one that stands adds nothing
pub stood_already : (vars : List VarInfo) (pure stood : List Conj) (long : Bool) (a : Assumed) (c : Conj) → is_long_conjunct c ≡ false →
    (is_true (decided vars c) || (stands_in pure c || stands_in a.added c)) ≡ true → IsAssumed pure stood long a → IsAssumed pure (assume vars stood c) long a
stood_already vars pure stood long a c e t h =
    subst (λ z. IsAssumed pure z long a)
    (sym (assumed_if vars stood c true (ap (λ z. is_true (decided vars c) || z) (stands_either c pure a.added stood e (h.one_of c e)) ∙ t))) h

-- what code answered of what was added by then
pub stands_not : (vars : List VarInfo) (pure added read : List Conj) (c : Conj) (b : Bool) → read ≡ added → b ≡ (is_true (decided vars c) || (stands_in pure c || stands_in read c)) → b ≡ false →
    (is_true (decided vars c) || (stands_in pure c || stands_in added c)) ≡ false
stands_not vars pure added read c b e h f = ap (λ z. is_true (decided vars c) || (stands_in pure c || stands_in z c)) (sym e) ∙ sym h ∙ f

one_longer : (pure stood : List Conj) (c : Conj) (n m : ℕ) → length stood ≡ length pure + n → m ≡ n + 1 → length (stood ++ c ∷ []) ≡ length pure + m
one_longer pure stood c n m h e = length-append stood (c ∷ []) ∙ let f : length stood + 1 ≡ length pure + m = omega (arith, h, e) in f

-- another is added
more_assumed : (pure stood : List Conj) (long : Bool) (a b : Assumed) (c : Conj) → b.count ≡ a.count + 1 → b.long ≡ a.long → b.added ≡ a.added ++ c ∷ [] → IsAssumed pure stood long a → IsAssumed pure (stood ++ c ∷ []) long b
more_assumed pure stood long a b c n l d h = record {
  count = one_longer pure stood c a.count b.count h.count n;
  long_one = l ∙ h.long_one;
  exact = λ s. ap (λ z. z ++ c ∷ []) (h.exact s) ∙ append_assoc pure a.added (c ∷ []) ∙ ap (λ z. pure ++ z) (sym d);
  one_of = λ x k.
      list_any-append (same_conjunct x) stood (c ∷ [])
      ∙ ap (λ z. z || list_any (same_conjunct x) (c ∷ [])) (h.one_of x k)
      ∙ or_assoc (list_any (same_conjunct x) pure) (list_any (same_conjunct x) a.added) (list_any (same_conjunct x) (c ∷ []))
      ∙ ap (λ z. list_any (same_conjunct x) pure || z) (sym (list_any-append (same_conjunct x) a.added (c ∷ [])) ∙ ap (list_any (same_conjunct x)) (sym d));
}

pub newly_assumed : (vars : List VarInfo) (pure stood : List Conj) (long : Bool) (a b : Assumed) (c : Conj) → is_long_conjunct c ≡ false →
    (is_true (decided vars c) || (stands_in pure c || stands_in a.added c)) ≡ false → b.count ≡ a.count + 1 → b.long ≡ a.long → b.added ≡ a.added ++ c ∷ [] →
    IsAssumed pure stood long a → IsAssumed pure (assume vars stood c) long b
newly_assumed vars pure stood long a b c e t n l d h =
    subst (λ z. IsAssumed pure z long b)
    (sym (assumed_if vars stood c false (ap (λ z. is_true (decided vars c) || z) (stands_either c pure a.added stood e (h.one_of c e)) ∙ t)))
    (more_assumed pure stood long a b c n l d h)

long_added : (pure stood : List Conj) (long : Bool) (a b : Assumed) (c : Conj) → is_long_conjunct c ≡ true → b.count ≡ a.count + 1 → b.long ≡ true → b.added ≡ a.added → IsAssumed pure stood long a →
    IsAssumed pure (stood ++ c ∷ []) true b
long_added pure stood long a b c e n l d h = record {
  count = one_longer pure stood c a.count b.count h.count n;
  long_one = l;
  exact = λ s. cc;
  one_of = λ x k.
      list_any-append (same_conjunct x) stood (c ∷ [])
      ∙ ap (λ z. list_any (same_conjunct x) stood || (z || false)) (other_one x c k e)
      ∙ or-false (list_any (same_conjunct x) stood)
      ∙ h.one_of x k
      ∙ ap (λ z. list_any (same_conjunct x) pure || list_any (same_conjunct x) z) (sym d);
}

-- ---- claims

pub same_assumed : (vars : List VarInfo) (pure stood : List Conj) (long : Bool) (a : Assumed) (claim : Claim) → assume_claim vars stood claim ≡ stood → claim_terms claim ≡ [] → IsAssumed pure stood long a →
    IsAssumed pure (assume_claim vars stood claim) (long || list_any is_long (claim_terms claim)) a
same_assumed vars pure stood long a claim e t h =
    subst (λ z. IsAssumed pure z (long || list_any is_long (claim_terms claim)) a) (sym e)
    (subst (λ z. IsAssumed pure stood z a) (sym (ap (λ z. long || list_any is_long z) t ∙ or-false long)) h)

pub surely_assumed : (vars : List VarInfo) (pure stood : List Conj) (long : Bool) (a : Assumed) (claim : Claim) → claim ≡ surely → IsAssumed pure stood long a →
    IsAssumed pure (assume_claim vars stood claim) (long || list_any is_long (claim_terms claim)) a
surely_assumed vars pure stood long a claim e h = same_assumed vars pure stood long a claim (ap (assume_claim vars stood) e) (ap claim_terms e) h

pub never_assumed : (vars : List VarInfo) (pure stood : List Conj) (long : Bool) (a : Assumed) (claim : Claim) → claim ≡ never → IsAssumed pure stood long a →
    IsAssumed pure (assume_claim vars stood claim) (long || list_any is_long (claim_terms claim)) a
never_assumed vars pure stood long a claim e h = same_assumed vars pure stood long a claim (ap (assume_claim vars stood) e) (ap claim_terms e) h

-- what a claim of this conjunct owes of it
pub short_claim : (claim : Claim) (c : Conj) → claim ≡ claims c → list_any is_long (claim_terms claim) ≡ false → is_long_conjunct c ≡ false
short_claim claim c e l = sym (long_terms c) ∙ ap (λ z. list_any is_long (claim_terms z)) (sym e) ∙ l

pub claim_assumed : (vars : List VarInfo) (pure stood : List Conj) (long : Bool) (b : Assumed) (claim : Claim) (c : Conj) → claim ≡ claims c → list_any is_long (claim_terms claim) ≡ false →
    IsAssumed pure (assume vars stood c) long b → IsAssumed pure (assume_claim vars stood claim) (long || list_any is_long (claim_terms claim)) b
claim_assumed vars pure stood long b claim c e l h =
    subst (λ z. IsAssumed pure z (long || list_any is_long (claim_terms claim)) b) (ap (assume_claim vars stood) (sym e))
    (subst (λ z. IsAssumed pure (assume vars stood c) z b) (sym (ap (λ z. long || z) l ∙ or-false long)) h)

pub long_claimed : (vars : List VarInfo) (pure stood : List Conj) (long : Bool) (a b : Assumed) (claim : Claim) → list_any is_long (claim_terms claim) ≡ true →
    b.count ≡ a.count + 1 → b.long ≡ true → b.added ≡ a.added → IsAssumed pure stood long a →
    IsAssumed pure (assume_claim vars stood claim) (long || list_any is_long (claim_terms claim)) b
long_claimed vars pure stood long a b surely t n l d h = absurd (cc)
long_claimed vars pure stood long a b never t n l d h = absurd (cc)
long_claimed vars pure stood long a b (claims c) t n l d h =
    let e : is_long_conjunct c ≡ true = sym (long_terms c) ∙ t in
    subst (λ z. IsAssumed pure z (long || list_any is_long (conjunct_terms c)) b) (sym (long_assumed vars stood c e))
    (subst (λ z. IsAssumed pure (stood ++ c ∷ []) z b) (sym (ap (λ z. long || z) t ∙ or_right long true refl)) (long_added pure stood long a b c e n l d h))

-- ---- all of them

pub none_assumed : (vars : List VarInfo) (pure : List Conj) (σ : Substitution) (a : Assumed) → a.count ≡ 0 → a.long ≡ false → a.added ≡ [] → AreAssumed vars pure σ [] a
none_assumed vars pure σ a n l d = record {
  count = (let e : length pure ≡ length pure + a.count = omega (arith, n) in e);
  long_one = l;
  exact = λ _. sym (append-nil pure) ∙ ap (λ z. pure ++ z) (sym d);
  one_of = λ c k. sym (or-false (list_any (same_conjunct c) pure)) ∙ ap (λ z. list_any (same_conjunct c) pure || list_any (same_conjunct c) z) (sym d);
}

pub next_assumed : (vars : List VarInfo) (pure : List Conj) (σ : Substitution) (theirs : List Conj) (i : ℕ) (c : Conj) (a b : Assumed) (r : Claimed) → i < length theirs → c ≡ get_or theirs i c →
    ((stood : List Conj) (long : Bool) (claim : Claim) → IsClaimed r claim → IsAssumed pure stood long a → IsAssumed pure (assume_claim vars stood claim) (long || list_any is_long (claim_terms claim)) b) →
    IsClaimed r (claim_through σ c) → AreAssumed vars pure σ (take i theirs) a → AreAssumed vars pure σ (take (i + 1) theirs) b
next_assumed vars pure σ theirs i c a b r l e step k h =
    let f : List Conj → Conj → List Conj = λ cs x. assume_claim vars cs (claim_through σ x) in
    let g : Conj → List Polynomial = λ x. claim_terms (claim_through σ x) in
    let t : take (i + 1) theirs ≡ take i theirs ++ c ∷ [] = take_more theirs i c l ∙ ap (λ z. take i theirs ++ z ∷ []) (sym e) in
    let e1 : fold f pure (take (i + 1) theirs) ≡ f (fold f pure (take i theirs)) c = ap (fold f pure) t ∙ fold-append f pure (take i theirs) (c ∷ []) in
    let e2 : list_any is_long (flat_map g (take (i + 1) theirs)) ≡ (list_any is_long (flat_map g (take i theirs)) || list_any is_long (g c)) =
    ap (λ z. list_any is_long (flat_map g z)) t
    ∙ ap (list_any is_long) (flat_map-append g (take i theirs) (c ∷ []))
    ∙ list_any-append is_long (flat_map g (take i theirs)) (g c ++ [])
    ∙ ap (λ z. list_any is_long (flat_map g (take i theirs)) || list_any is_long z) (append-nil (g c)) in
    subst (λ z. IsAssumed pure z (list_any is_long (flat_map g (take (i + 1) theirs))) b) (sym e1)
    (subst (λ z. IsAssumed pure (f (fold f pure (take i theirs)) c) z b) (sym e2) (step (fold f pure (take i theirs)) (list_any is_long (flat_map g (take i theirs))) (claim_through σ c) k h))

-- ---- by what code answers of a claim

pub surely_step : (vars : List VarInfo) (pure stood : List Conj) (long : Bool) (a : Assumed) (claim : Claim) (r : Claimed) → r ≡ claimed.Surely → IsClaimed r claim → IsAssumed pure stood long a →
    IsAssumed pure (assume_claim vars stood claim) (long || list_any is_long (claim_terms claim)) a
surely_step vars pure stood long a claim r e k h = surely_assumed vars pure stood long a claim (subst (λ z. IsClaimed z claim) e k) h

pub never_step : (vars : List VarInfo) (pure stood : List Conj) (long : Bool) (a : Assumed) (claim : Claim) (r : Claimed) → r ≡ claimed.Never → IsClaimed r claim → IsAssumed pure stood long a →
    IsAssumed pure (assume_claim vars stood claim) (long || list_any is_long (claim_terms claim)) a
never_step vars pure stood long a claim r e k h = never_assumed vars pure stood long a claim (subst (λ z. IsClaimed z claim) e k) h

pub claims_step : (vars : List VarInfo) (pure stood : List Conj) (long : Bool) (b : Assumed) (claim : Claim) (r : Claimed) (c : Conj) → r ≡ claimed.Claims c → IsClaimed r claim →
    (is_long_conjunct c ≡ false → IsAssumed pure (assume vars stood c) long b) → IsAssumed pure (assume_claim vars stood claim) (long || list_any is_long (claim_terms claim)) b
claims_step vars pure stood long b claim r c e k h =
    let q : IsClaimed (claimed.Claims c) claim = subst (λ z. IsClaimed z claim) e k in
    claim_assumed vars pure stood long b claim c q.0 q.1 (h (short_claim claim c q.0 q.1))

pub long_step : (vars : List VarInfo) (pure stood : List Conj) (long : Bool) (a b : Assumed) (claim : Claim) (r : Claimed) → r ≡ claimed.Long → IsClaimed r claim →
    b.count ≡ a.count + 1 → b.long ≡ true → b.added ≡ a.added → IsAssumed pure stood long a → IsAssumed pure (assume_claim vars stood claim) (long || list_any is_long (claim_terms claim)) b
long_step vars pure stood long a b claim r e k n l d h = long_claimed vars pure stood long a b claim (subst (λ z. IsClaimed z claim) e k) n l d h
