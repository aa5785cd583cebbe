-- What is true of three objects that were pushed one after another is true of all.
use Rattle.std.proofs.Common.{◌≡◌, List, [], ◌∷◌, ◌++◌, refl, sym, subst}
use Rattle.std.specs.Prelude.{All}
use Rattle.std.proofs.lemmas.List.Elements.{All-nil, All-cons}
use denote.Param.Table.{Table, Entry}
use denote.Param.Object.{Made, read_made}

pub all_three : {X : Type 0} (P : X → Type 0) (none one two three : List X) (x y z : X)
    → none ≡ [] → one ≡ none ++ x ∷ [] → two ≡ one ++ y ∷ [] → three ≡ two ++ z ∷ [] → P x → P y → P z → All P three
all_three P none one two three x y z d e f g p q r =
    let are : three ≡ x ∷ y ∷ z ∷ [] = cc in
    subst (All P) (sym are) (All-cons P x (y ∷ z ∷ []) p (All-cons P y (z ∷ []) q (All-cons P z [] r (All-nil P))))

-- what is true of a value is true of the object that was made of it
pub of_object : {G : Type 0 → Type 1} {C : Type 0} (T : Table G C) (P : (e : Entry G C) → e.0.Denot → Type 0) (at i : T.I) (y : (T.entry i).0.Denot) (x : (T.entry at).0.Denot)
    → Made (λ j. (T.entry j).0.coded.code) (T.entry at).0.coded.code at i y x → P (T.entry at) x → P (T.entry i) y
of_object T P at i y x made p = subst (λ t. t) (sym (read_made T (T.entry at) at refl (Type 0) P i y x made)) p
