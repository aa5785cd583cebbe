-- Entries that are checked one after another, each by the derivation beside it.
use Rattle.std.proofs.Common.{◌≡◌, inr, ℕ, suc, ◌+◌, ◌<◌, List, [], ◌∷◌, ◌++◌, length, get_or, drop, map, refl, sym, ap, ◌∙◌, subst, append_assoc, append-nil, drop-cons, arith}
use Rattle.std.proofs.lemmas.List.{map_push, length-drop}
use Rattle.px_entry.specs.declared.derivations.Derivation.{Derivation}
use Rattle.px_entry.specs.declared.entries.Entry.{Entry}
use Rattle.px_callgraph.specs.JobTree.{JobTree}
use Rattle.px_callgraph.specs.Derivations.{Derives}
use Rattle.px_check.specs.declared.checked.Checked.{Checked}
use Rattle.px_check.specs.Answers.{entry_of, job_of}
use Rattle.px_pieces.specs.declared.desk.Lost.{Lost}
use Rattle.px_pieces.specs.declared.desk.Lost.TheVariants.{Send, Read, Closed, Frame, Ticket, Kinds, Refused, Large, NoMemory}
use Rattle.px_pieces.specs.Pieces.{AreOf}
use Rattle.px_pool.specs.Derived.{AreDerived, FirstFails}
use Rattle.px_pool.specs.Checks.{AreChecked, IsRefusal, AreRefusals}

-- what is checked so far, and the entries that are left, with their derivations from a place on
pub record IsUnderWay (j : JobTree) (xs : List Entry) (ds : List Derivation) (all : List Checked) (left : List Entry) (place : ℕ) : Type 0 where
  pub entries_are : map entry_of all ++ left ≡ xs
  pub jobs : AreOf j all
  pub many : length ds ≡ length xs
  pub as_many : length (drop place ds) ≡ length left
  pub derived : AreDerived j left (drop place ds) → AreDerived j xs ds
  pub refused : (n step : ℕ) → FirstFails j left (drop place ds) n step → FirstFails j xs ds (place + n) step

pub begins : (j : JobTree) (xs left : List Entry) (ds : List Derivation) (all : List Checked) → left ≡ xs → all ≡ [] → length ds ≡ length xs → IsUnderWay j xs ds all left 0
begins j xs left ds all same none many = record {
  entries_are = ap (λ z. map entry_of z ++ left) none ∙ same;
  jobs = subst (AreOf j) (sym none) tt;
  many = many;
  as_many = many ∙ ap length (sym same);
  derived = λ h. subst (λ z. AreDerived j z ds) same h;
  refused = λ n step h. subst (λ z. FirstFails j z ds (0 + n) step) same (let is : n ≡ 0 + n = omega arith in subst (λ m. FirstFails j left ds m step) is h);
}

module _ (j : JobTree) (xs : List Entry) (ds : List Derivation) (all : List Checked) (left rest : List Entry) (place : ℕ) (x : Entry) (next : left ≡ x ∷ rest)
    (u : IsUnderWay j xs ds all left place) where
  room : place < length ds
  room =
      let some : length (drop place ds) ≡ length (x ∷ rest) = u.as_many ∙ ap length next in
      let more : length (drop place ds) ≡ suc (length rest) = some in
      let behind = length-drop place ds in omega (arith, more, behind)

  pub in_bounds : place < length ds
  in_bounds = room

  -- the derivation at the place, and those after it
  here : (d : Derivation) → d ≡ get_or ds place d → drop place ds ≡ d ∷ drop (suc place) ds
  here d at = drop-cons ds place d room ∙ ap (λ z. z ∷ drop (suc place) ds) (sym at)

  pub one_more : (d : Derivation) (c : Checked) (new : List Checked) (m : ℕ) → d ≡ get_or ds place d → entry_of c ≡ x → job_of c ≡ j → Derives j x d.steps →
      new ≡ all ++ c ∷ [] → m ≡ place + 1 → IsUnderWay j xs ds new rest m
  one_more d c new m at entry job derives pushed e = record {
    entries_are =
        ap (λ z. map entry_of z ++ rest) pushed ∙ ap (λ z. z ++ rest) (map_push entry_of all c) ∙ append_assoc (map entry_of all) (entry_of c ∷ []) rest
        ∙ ap (λ z. map entry_of all ++ z ∷ rest) entry ∙ ap (λ z. map entry_of all ++ z) (sym next) ∙ u.entries_are;
    jobs = subst (AreOf j) (sym pushed) (of_push all u.jobs);
    many = u.many;
    as_many =
        let some : length (drop place ds) ≡ length (x ∷ rest) = u.as_many ∙ ap length next in
        let more : length (drop place ds) ≡ suc (length rest) = some in
        let behind = length-drop place ds in let after = length-drop m ds in omega (arith, more, behind, after, e);
    derived = λ h. u.derived (back (λ l ys. AreDerived j l ys) (derives, subst (λ n. AreDerived j rest (drop n ds)) place_is h));
    refused = λ n step h.
        let count : place + suc n ≡ m + n = omega (arith, e) in
        subst (λ k. FirstFails j xs ds k step) count (u.refused (suc n) step (back (λ l ys. FirstFails j l ys (suc n) step) (derives, subst (λ k. FirstFails j rest (drop k ds) n step) place_is h)));
  }
    where
      place_is : m ≡ suc place
      place_is = omega (arith, e)

      back : (P : List Entry → List Derivation → Type 0) → P (x ∷ rest) (d ∷ drop (suc place) ds) → P left (drop place ds)
      back P h = subst (λ l. P l (drop place ds)) (sym next) (subst (λ ys. P (x ∷ rest) ys) (sym (here d at)) h)

      of_push : (cs : List Checked) → AreOf j cs → AreOf j (cs ++ c ∷ [])
      of_push [] h = (job, tt)
      of_push (b ∷ cs) h = (h.0, of_push cs h.1)

  -- the check of the next entry answers why not all are checked
  pub stops : (d : Derivation) (why : Lost) → d ≡ get_or ds place d → IsRefusal j x d place why → AreRefusals j xs ds why
  stops d (Refused entry step) at (is, fails) =
      let first : FirstFails j left (drop place ds) 0 step =
      subst (λ l. FirstFails j l (drop place ds) 0 step) (sym next) (subst (λ ys. FirstFails j (x ∷ rest) ys 0 step) (sym (here d at)) fails) in
      let count : place + 0 ≡ entry = omega (arith, is) in
      inr (u.many, subst (λ k. FirstFails j xs ds k step) count (u.refused 0 step first))
  stops d NoMemory at h = tt
  stops d Send at h = absurd h
  stops d Read at h = absurd h
  stops d (Closed n) at h = absurd h
  stops d Frame at h = absurd h
  stops d (Ticket asked given) at h = absurd h
  stops d Kinds at h = absurd h
  stops d Large at h = absurd h

pub ends : (j : JobTree) (xs left : List Entry) (ds : List Derivation) (all : List Checked) (place : ℕ) → left ≡ [] → IsUnderWay j xs ds all left place → AreChecked j xs ds all
ends j xs left ds all place none u = record {
  entries = sym (append-nil (map entry_of all)) ∙ ap (λ z. map entry_of all ++ z) (sym none) ∙ u.entries_are;
  jobs = u.jobs;
  derived = u.derived (subst (λ l. AreDerived j l (drop place ds)) (sym none) (empty (drop place ds) (u.as_many ∙ ap length none)));
}
  where
    empty : (ys : List Derivation) → length ys ≡ 0 → ys ≡ []
    empty [] h = refl
    empty (y ∷ ys) h = absurd (omega (arith, h))
