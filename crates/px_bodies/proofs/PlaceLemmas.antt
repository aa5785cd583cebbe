-- The places of locals, as the code keeps them, and the locals that names mean.
use Rattle.std.proofs.Common.{◌≡◌, ◌∙◌, refl, sym, ap, ap₂, subst, ℕ, zero, suc, ◌+◌, ◌-◌, ◌<◌, Bool, true, false, cond, List, [], ◌∷◌, ◌++◌, map, length, take, drop, Option, Some, None, slice_get, get_or, is_none, is_some, IfSome, option_copied, option_map, nat_lt, arith, append_assoc, append-nil}
use Rattle.std.proofs.lemmas.Bool.Decides.{nat_tests}
use Rattle.std.proofs.lemmas.List.{map_push, length-map, same_from_push}
use Rattle.std.proofs.lemmas.Option.{slice_get_within}
use Rattle.std.specs.Prelude.{bytes_eq}
use Rattle.std.specs.Cmp.Lexicographic.{bytes_decides}
use Rattle.std.specs.Option.{option_flatten}
use Rattle.std.specs.Map.{lookup}
use Rattle.std.specs.Borrow.{Bor}
use Rattle.px_bodies.specs.declared.locals.Declared.{Declared}
use Rattle.px_bodies.specs.Types.{when}
use Rattle.px_bodies.specs.Locals.{Local, or_else, named}
use Rattle.px_bodies.specs.Places.{local_seen, last_place, hidden_places, IsKept, is_outside}

-- ---- one local more

pub last-snoc : (k : ℕ) (name : List ℕ) (ls : List Local) (l : Local) → last_place k name (ls ++ l ∷ []) ≡ cond (bytes_eq l.name name) (Some (k + length ls)) (last_place k name ls)
last-snoc k name [] l = by (bytes_eq l.name name)
  where
    by : (b : Bool) → or_else None (when b k) ≡ cond b (Some (k + 0)) None
    by true = ap Some (omega arith)
    by false = refl
last-snoc k name (x ∷ ls) l = ap (λ o. or_else o (when (bytes_eq x.name name) k)) (last-snoc (k + 1) name ls l) ∙ by (bytes_eq l.name name)
  where
    by : (b : Bool) → or_else (cond b (Some (k + 1 + length ls)) (last_place (k + 1) name ls)) (when (bytes_eq x.name name) k) ≡ cond b (Some (k + length (x ∷ ls))) (or_else (last_place (k + 1) name ls) (when (bytes_eq x.name name) k))
    by true = ap Some (omega arith)
    by false = refl

pub hidden-snoc : (before ls : List Local) (l : Local) → hidden_places before (ls ++ l ∷ []) ≡ hidden_places before ls ++ last_place 0 l.name (before ++ ls) ∷ []
hidden-snoc before [] l = ap (λ z. last_place 0 l.name z ∷ []) (sym (append-nil before))
hidden-snoc before (x ∷ ls) l =
    ap (λ z. last_place 0 x.name before ∷ z)
    (hidden-snoc (before ++ x ∷ []) ls l ∙ ap (λ z. hidden_places (before ++ x ∷ []) ls ++ last_place 0 l.name z ∷ []) (append_assoc before (x ∷ []) ls))

flat-cond : (b : Bool) (p : Option ℕ) (o : Option (Option ℕ)) → option_flatten (cond b (Some p) o) ≡ cond b p (option_flatten o)
flat-cond true p o = refl
flat-cond false p o = refl

pub kept-add : (table new : List (Bor (List ℕ) × Option ℕ)) (ds : List Declared) (d : Declared) → IsKept table ds → d.hidden ≡ last_place 0 d.name.now (map local_seen ds)
    → ((q : List ℕ) → lookup (λ k. bytes_eq q k.now) new ≡ cond (bytes_eq d.name.now q) (Some (Some (length ds))) (lookup (λ k. bytes_eq q k.now) table))
    → IsKept new (ds ++ d ∷ [])
kept-add table new ds d kept h put = (
  (λ name.
      ap option_flatten (put name) ∙ flat-cond (bytes_eq d.name.now name) (Some (length ds)) _
      ∙ ap₂ (λ n o. cond (bytes_eq d.name.now name) (Some n) o) (sym (length-map ds local_seen) ∙ omega arith) (kept.0 name)
      ∙ sym (last-snoc 0 name (map local_seen ds) (local_seen d)) ∙ ap (last_place 0 name) (sym (map_push local_seen ds d))),
  (map_push (λ d. d.hidden) ds d ∙ ap₂ (λ z o. z ++ o ∷ []) kept.1 h ∙ sym (hidden-snoc [] (map local_seen ds) (local_seen d)) ∙ ap (hidden_places []) (sym (map_push local_seen ds d))),
)

pub kept-drop : (table new : List (Bor (List ℕ) × Option ℕ)) (ds : List Declared) (d : Declared) → IsKept table (ds ++ d ∷ [])
    → ((q : List ℕ) → lookup (λ k. bytes_eq q k.now) new ≡ cond (bytes_eq d.name.now q) (Some d.hidden) (lookup (λ k. bytes_eq q k.now) table))
    → IsKept new ds
kept-drop table new ds d kept put =
    let parts = same_from_push (map (λ d. d.hidden) ds) (hidden_places [] (map local_seen ds)) d.hidden (last_place 0 d.name.now (map local_seen ds))
    (sym (map_push (λ d. d.hidden) ds d) ∙ kept.1 ∙ ap (hidden_places []) (map_push local_seen ds d) ∙ hidden-snoc [] (map local_seen ds) (local_seen d)) in (
      (λ name.
          ap option_flatten (put name) ∙ flat-cond (bytes_eq d.name.now name) d.hidden _
          ∙ ap (cond (bytes_eq d.name.now name) d.hidden) (kept.0 name ∙ ap (last_place 0 name) (map_push local_seen ds d) ∙ last-snoc 0 name (map local_seen ds) (local_seen d))
          ∙ by name (bytes_eq d.name.now name) (λ e. parts.1 ∙ ap (λ n. last_place 0 n (map local_seen ds)) ((bytes_decides d.name.now name).0 e))),
      parts.0,
    )
  where
    by : (name : List ℕ) (b : Bool) → (b ≡ true → d.hidden ≡ last_place 0 name (map local_seen ds))
        → cond b d.hidden (cond b (Some (0 + length (map local_seen ds))) (last_place 0 name (map local_seen ds))) ≡ last_place 0 name (map local_seen ds)
    by name true h = h refl
    by name false h = refl

-- ---- the place and the local of a name

-- the place, counted from k, is that of the local
abbrev pub Stands : ℕ → List Local → Option ℕ → Option Local → Type 0
Stands k ls None n = n ≡ None
Stands k ls (Some p) n = (i : ℕ) × (p ≡ k + i) × (x : Local) × (n ≡ Some x) × (slice_get ls i ≡ Some x)

pub stands : (k : ℕ) (name : List ℕ) (ls : List Local) → Stands k ls (last_place k name ls) (named name ls)
stands k name [] = refl
stands k name (l ∷ ls) = by (last_place (k + 1) name ls) (named name ls) (bytes_eq l.name name) (stands (k + 1) name ls)
  where
    by : (o : Option ℕ) (n : Option Local) (b : Bool) → Stands (k + 1) ls o n → Stands k (l ∷ ls) (or_else o (when b k)) (or_else n (when b l))
    by None n true h = (0, omega arith, l, ap (λ z. or_else z (Some l)) h, refl)
    by None n false h = ap (λ z. or_else z None) h
    by (Some p) n b h = (suc h.0, omega (arith, h.1), h.2, ap (λ z. or_else z (when b l)) h.3, h.4)

all-inside : (k : ℕ) (ls : List Local) (o : Option ℕ) (n : Option Local) → Stands k ls o n → is_outside o (k + 0) ≡ is_none n
all-inside k ls None n h = ap is_none (sym h)
all-inside k ls (Some p) n h = (let e : p ≡ k + h.0 = h.1 in let l : nat_lt p (k + 0) ≡ false = grind (arith, nat_tests) in l) ∙ ap is_none (sym h.3)

fresh-from : (k : ℕ) (name : List ℕ) (outer : ℕ) (ls : List Local) → is_outside (last_place k name ls) (k + outer) ≡ is_none (named name (drop outer ls))
fresh-from k name zero ls = all-inside k ls _ _ (stands k name ls)
fresh-from k name (suc outer) [] = refl
fresh-from k name (suc outer) (l ∷ ls) = by (last_place (k + 1) name ls) (bytes_eq l.name name) ∙ fresh-from (k + 1) name outer ls
  where
    by : (o : Option ℕ) (b : Bool) → is_outside (or_else o (when b k)) (k + suc outer) ≡ is_outside o (k + 1 + outer)
    by (Some p) b = ap (nat_lt p) (omega arith)
    by None true = grind (arith, nat_tests)
    by None false = refl

-- a name is new in the scope that begins at `outer` where its place is before it
pub fresh : (name : List ℕ) (outer : ℕ) (ls : List Local) → is_outside (last_place 0 name ls) outer ≡ is_none (named name (drop outer ls))
fresh name outer ls = ap (is_outside (last_place 0 name ls)) (omega arith) ∙ fresh-from 0 name outer ls

-- the local at a place
pub found-at : (name : List ℕ) (ls : List Local) (p : ℕ) → last_place 0 name ls ≡ Some p → named name ls ≡ slice_get ls p
found-at name ls p e =
    let s : Stands 0 ls (Some p) (named name ls) = subst (λ o. Stands 0 ls o (named name ls)) e (stands 0 name ls) in
    s.3 ∙ sym s.4 ∙ ap (slice_get ls) (omega (arith, s.1))

pub found-none : (name : List ℕ) (ls : List Local) → last_place 0 name ls ≡ None → named name ls ≡ None
found-none name ls e = subst (λ o. Stands 0 ls o (named name ls)) e (stands 0 name ls)

-- ---- what a slice gives

pub got : {A : Type 0} (xs : List A) (i : ℕ) (r : Option (Bor A)) → is_some r ≡ nat_lt i (length xs) → IfSome r (λ x. x.now ≡ get_or xs i x.now) → option_copied r ≡ slice_get xs i
got [] i None h e = refl
got [] i (Some x) h e = absurd (grind (arith, nat_tests))
got (y ∷ ys) zero None h e = absurd (grind (arith, nat_tests))
got (y ∷ ys) zero (Some x) h e = ap Some e
got (y ∷ ys) (suc i) r h e = got ys i r (h ∙ (let t : nat_lt (suc i) (suc (length ys)) ≡ nat_lt i (length ys) = grind (arith, nat_tests) in t)) e

pub last-of : {A : Type 0} (n : ℕ) (xs : List A) (x : A) → slice_get xs n ≡ Some x → length xs ≡ suc n → xs ≡ take n xs ++ x ∷ []
last-of n [] x e l = absurd cc
last-of zero (y ∷ []) x e l = cc
last-of zero (y ∷ z ∷ ys) x e l = absurd (omega arith)
last-of (suc n) (y ∷ ys) x e l = ap (λ z. y ∷ z) (last-of n ys x e (omega arith))

pub last-is : {A : Type 0} (xs : List A) (x : A) → slice_get xs (length xs - 1) ≡ Some x → xs ≡ take (length xs - 1) xs ++ x ∷ []
last-is xs x e = let l = slice_get_within xs (length xs - 1) x e in last-of (length xs - 1) xs x e (omega (arith, l))
