-- In which version workers are asked.
use Rattle.std.proofs.Common.{◌≡◌, ◌⊎◌, inl, inr, refl, sym, subst, ap, ◌∙◌, arith, ℕ, zero, suc, ◌+◌, ◌<◌, ◌≤◌, List, [], ◌∷◌, ◌++◌, length, length-append, append_assoc, append-nil, Bool, true, false}
use Rattle.std.proofs.lemmas.List.{nil_from_length}
use Rattle.px_pieces.specs.declared.desk.Lost.{Lost as ALost}
use Rattle.px_pieces.specs.declared.desk.Lost.TheVariants as L
use Rattle.px_terms.proofs.Recursion.{all_push}
use Rattle.px_drivers.specs.declared.driver.DriverState.{DriverState}
use Rattle.px_drivers.specs.declared.driver.DriverState.TheVariants.{Ready, Lost, NoMemory}
use Rattle.px_drivers.specs.Drivers.{DriverParts, version_past, version_after}
use Rattle.px_drivers.specs.Crews.{AreShared, Joins, MayGoOn, FirstMayGoOn, GoOn}

-- ---- the version of the next link

pub past_is_known : (v : ℕ) (why : ALost) → (v ≡ 1) ⊎ (v ≡ 2) → (version_past v why ≡ 1) ⊎ (version_past v why ≡ 2)
past_is_known v (L.Closed zero) known = inl refl
past_is_known v (L.Closed (suc n)) known = known
past_is_known v L.Send known = known
past_is_known v L.Read known = known
past_is_known v L.Frame known = known
past_is_known v (L.Ticket asked given) known = known
past_is_known v L.Kinds known = known
past_is_known v (L.Refused entry step) known = known
past_is_known v L.Large known = known
past_is_known v L.NoMemory known = known

pub next_is_known : (v next : ℕ) (s : DriverState) → next ≡ version_after v s → (v ≡ 1) ⊎ (v ≡ 2) → (next ≡ 1) ⊎ (next ≡ 2)
next_is_known v next s is known = subst (λ n. (n ≡ 1) ⊎ (n ≡ 2)) (sym is) (by_state s)
  where
    by_state : (s : DriverState) → (version_after v s ≡ 1) ⊎ (version_after v s ≡ 2)
    by_state Ready = known
    by_state NoMemory = known
    by_state (Lost why) = past_is_known v why known

-- ---- drivers that join

-- one stands last now
pub joins : (d : DriverParts) (ds ds' : List DriverParts) (number version : ℕ) → ds' ≡ ds ++ d ∷ [] → d.number ≡ number → d.version ≡ version → Joins number version ds ds'
joins d ds ds' number version is number_is version_is = (d, is, number_is, version_is)

-- one more that is asked in version 2, or none more
pub shared_more : (ds ds' : List DriverParts) (number : ℕ) (started : Bool) → (started ≡ true → Joins number 2 ds ds') → (started ≡ false → ds' ≡ ds) → AreShared ds → AreShared ds'
shared_more ds ds' number true asked left shared =
    let (d, is, _, two) = asked refl in subst AreShared (sym is) (all_push (λ (x : DriverParts). x.version ≡ 2) ds d shared two)
shared_more ds ds' number false asked left shared = subst AreShared (sym (left refl)) shared

-- ---- drivers after a round

-- it goes on as it is
pub goes_on_ready : (d : DriverParts) (ds ds' : List DriverParts) → d.state ≡ Ready → ds' ≡ ds ++ d ∷ [] → MayGoOn d ds ds'
goes_on_ready d ds ds' ready is = inr (d, is, refl, sym (ap (λ s. version_after d.version s) ready))

-- its worker is left
pub goes_not : (d : DriverParts) (ds ds' : List DriverParts) → ds' ≡ ds → MayGoOn d ds ds'
goes_not d ds ds' is = inl is

-- its worker is started again, or left where it couldn't be
pub goes_on_again : (d : DriverParts) (ds ds' : List DriverParts) (started : Bool) (number next : ℕ) → number ≡ d.number → next ≡ version_after d.version d.state →
    (started ≡ true → Joins number next ds ds') → (started ≡ false → ds' ≡ ds) → MayGoOn d ds ds'
goes_on_again d ds ds' true number next number_is is asked left =
    let (e, behind, same_number, same_version) = asked refl in inr (e, behind, same_number ∙ number_is, same_version ∙ is)
goes_on_again d ds ds' false number next number_is is asked left = inl (left refl)

-- the first of drivers
pub first_goes : (d : DriverParts) (olds ds ds' : List DriverParts) → olds ≡ d ∷ ds → MayGoOn d ds ds' → FirstMayGoOn olds ds'
first_goes d olds ds ds' is goes = subst (λ l. FirstMayGoOn l ds') (sym is) goes

pub no_first : (olds ds' : List DriverParts) → olds ≡ [] → ds' ≡ olds → FirstMayGoOn olds ds'
no_first olds ds' none same = subst (λ l. FirstMayGoOn l ds') (sym none) (same ∙ none)

-- ---- one driver after another

go_on_with : (xs ys : List DriverParts) (d e : DriverParts) → e.number ≡ d.number → e.version ≡ version_after d.version d.state → GoOn xs ys → GoOn (xs ++ d ∷ []) (ys ++ e ∷ [])
go_on_with [] ys d e n v none = inr (e, [], ap (λ l. l ++ e ∷ []) none, n, v, refl)
go_on_with (x ∷ xs) ys d e n v (inl h) = inl (go_on_with xs ys d e n v h)
go_on_with (x ∷ xs) ys d e n v (inr (f, rest, is, m, w, h)) = inr (f, rest ++ e ∷ [], ap (λ l. l ++ e ∷ []) is, m, w, go_on_with xs rest d e n v h)

go_on_without : (xs ys : List DriverParts) (d : DriverParts) → GoOn xs ys → GoOn (xs ++ d ∷ []) ys
go_on_without [] ys d none = inl none
go_on_without (x ∷ xs) ys d (inl h) = inl (go_on_without xs ys d h)
go_on_without (x ∷ xs) ys d (inr (f, rest, is, m, w, h)) = inr (f, rest, is, m, w, go_on_without xs rest d h)

-- So many of the drivers had their turn, and of them these go on, behind those that didn't.
pub record AreTurning (olds now : List DriverParts) (done : ℕ) : Type 0 where
  pub turned : List DriverParts
  pub rest : List DriverParts
  pub went : List DriverParts
  pub all : olds ≡ turned ++ rest
  pub many : length turned ≡ done
  pub stand : now ≡ rest ++ went
  pub on : GoOn turned went

pub turning_begins : (olds : List DriverParts) → AreTurning olds olds 0
turning_begins olds = record { turned = []; rest = olds; went = []; all = refl; many = refl; stand = sym (append-nil olds); on = refl }

pub one_turned : (olds now after : List DriverParts) (done : ℕ) → done < length olds → AreTurning olds now done → FirstMayGoOn now after → AreTurning olds after (done + 1)
one_turned olds now after done some h first = by h.rest h.all h.stand (subst (λ l. FirstMayGoOn l after) h.stand first)
  where
    by : (rest : List DriverParts) → olds ≡ h.turned ++ rest → now ≡ rest ++ h.went → FirstMayGoOn (rest ++ h.went) after → AreTurning olds after (done + 1)
    by [] all stand goes = absurd (omega (arith, some, h.many, ap length all, ap length (append-nil h.turned)))
    by (d ∷ rest) all stand (inl is) = record {
      turned = h.turned ++ d ∷ [];
      rest = rest;
      went = h.went;
      all = all ∙ sym (append_assoc h.turned (d ∷ []) rest);
      many = length-append h.turned (d ∷ []) ∙ ap (λ n. n + 1) h.many;
      stand = is;
      on = go_on_without h.turned h.went d h.on;
    }
    by (d ∷ rest) all stand (inr (e, is, n, v)) = record {
      turned = h.turned ++ d ∷ [];
      rest = rest;
      went = h.went ++ e ∷ [];
      all = all ∙ sym (append_assoc h.turned (d ∷ []) rest);
      many = length-append h.turned (d ∷ []) ∙ ap (λ n. n + 1) h.many;
      stand = is ∙ append_assoc rest h.went (e ∷ []);
      on = go_on_with h.turned h.went d e n v h.on;
    }

pub all_turned : (olds now : List DriverParts) (done : ℕ) → length olds ≤ done → AreTurning olds now done → GoOn olds now
all_turned olds now done up h =
    let none : length h.rest ≡ 0 = omega (arith, up, h.many, ap length h.all, length-append h.turned h.rest) in
    let empty : h.rest ≡ [] = nil_from_length h.rest none in
    let same : olds ≡ h.turned = h.all ∙ ap (λ l. h.turned ++ l) empty ∙ append-nil h.turned in
    let stood : now ≡ h.went = h.stand ∙ ap (λ l. l ++ h.went) empty in
    subst (λ l. GoOn l now) (sym same) (subst (λ l. GoOn h.turned l) (sym stood) h.on)
